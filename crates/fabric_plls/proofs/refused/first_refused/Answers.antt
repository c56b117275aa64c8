use Rattle.std.proofs.Common.{◌≡◌, true, false, List, [], ◌++◌, take_all, refl, arith, ap, sym, ◌∙◌}
use Rattle.std.specs.List.{flat_map}
use Rattle.ice_image.specs.Either.{configuration_of}
use Rattle.chipdb_reader.specs.Kept.{database_in, pll_of}
use Rattle.chipdb_reader.specs.declared.items.PllCell.{PllCell}
use Rattle.fabric_model.specs.Numbered.{numbered_from, numbered}
use Rattle.fabric_model.specs.declared.pll.PllSource.{PllSource}
use Rattle.fabric_model.specs.Plls.{is_pll_refused, refused_tiles}
use Rattle.fabric_model.specs.Tiles.{first_of}
use Rattle.fabric_model.proofs.InOrder.{gathered-more, item_if-item, item_if-none}
use Rattle.fabric_model.proofs.Numbered.{numbered-more}
use Rattle.fabric_plls.specs.Plls.{kept_sources, kept_refused}
use Rattle.fabric_plls.proofs.Firsts.{first-numbered, all-refused, refused-by, sources-by_type}
use Rattle.fabric_plls.proofs.refused.first_refused.Goals as goal

pub loop-pll-init : goal.loop-pll-init
unfolding numbered_from
loop-pll-init c = (c.new-sources.ensures.items, refl)

pub returns-then-is_refused : goal.returns-then-is_refused
unfolding refused_tiles
returns-then-is_refused c =
    let db = database_in c.args.db.now in
    let image = configuration_of c.args.image.now in
    let plls = c.plls-pll-items.result.now in
    let k = c.loop-pll.pll-index in
    let pll = c.pll-item.result in
    let refused : is_pll_refused db image (k, pll_of pll) ≡ true =
    refused-by db image plls k pll c.deref.result.now c.in_ok-kind.kind c.is_refused.result c.plls-pll-items.ensures (c.deref.ensures.value ∙ c.loop-pll.invariant.0) c.in_ok-kind.ensures c.is_refused.ensures
    ∙ c.if-is_refused.true in
    sym (ap first_of (sym (all-refused db image plls c.plls-pll-items.ensures))
    ∙ first-numbered (kept_refused db image) 0 plls k k pll (pll.x, pll.y) c.loop-pll-test.true (omega arith) (sym c.loop-pll.invariant.1)
    (ap (λ (one : PllCell). first_of (kept_refused db image (k, one))) (sym c.pll-item.is) ∙ item_if-item (is_pll_refused db image (k, pll_of pll)) (pll.x, pll.y) refused))

pub loop-pll-preserved : goal.loop-pll-preserved
loop-pll-preserved c =
    let db = database_in c.args.db.now in
    let image = configuration_of c.args.image.now in
    let plls = c.plls-pll-items.result.now in
    let k = c.loop-pll.pll-index in
    let pll = c.pll-item.result in
    let taken : is_pll_refused db image (k, pll_of pll) ≡ false =
    refused-by db image plls k pll c.deref.result.now c.in_ok-kind.kind c.is_refused.result c.plls-pll-items.ensures (c.deref.ensures.value ∙ c.loop-pll.invariant.0) c.in_ok-kind.ensures c.is_refused.ensures
    ∙ c.if-is_refused.false in (
      gathered-more (kept_sources db image) plls k pll c.loop-pll.sources.items _ c.loop-pll-test.true c.loop-pll.invariant.0
          (c.in_ok-append_sources.ensures ∙ ap (λ (more : List PllSource). c.loop-pll.sources.items ++ more)
          (sources-by_type db image (pll_of pll) c.in_ok-kind.kind c.in_ok-kind.ensures ∙ ap (kept_sources db image) c.pll-item.is)),
      numbered-more (kept_refused db image) plls k pll [] [] [] c.loop-pll-test.true c.loop-pll.invariant.1
          (sym (ap (λ (one : PllCell). kept_refused db image (k, one)) (sym c.pll-item.is) ∙ item_if-none (is_pll_refused db image (k, pll_of pll)) (pll.x, pll.y) taken)),
    )

pub returns : goal.returns
unfolding refused_tiles
returns c =
    let db = database_in c.args.db.now in
    let image = configuration_of c.args.image.now in
    let plls = c.plls-pll-items.result.now in
    ap first_of
    (c.loop-pll.invariant.1 ∙ ap (λ (list : List PllCell). flat_map (kept_refused db image) (numbered list)) (take_all c.loop-pll.pll-index plls (omega arith))
    ∙ all-refused db image plls c.plls-pll-items.ensures)
