use Rattle.std.proofs.Common.{◌≡◌, sym, ap, ◌∙◌, subst, arith}
use Rattle.std.specs.Ordering.{nat_cmp}
use Rattle.std.specs.Cmp.Lexicographic.{slice_cmp}
use Rattle.std.specs.BTreeMap.{get, is_at}
use Rattle.std.specs.Map.{lookup}
use Rattle.bram_replace.specs.Columns.{column_count}
use Rattle.bram_replace.specs.Packed.{Finds, first_repeat, repeat_told}
use Rattle.bram_replace.proofs.Repeats.{Finds-none, repeats-none, repeats-all}
use Rattle.bram_replace.proofs.columns.Columns.of.Goals as goal

pub loop-place-init : goal.loop-place-init
loop-place-init c = record {
  finds = Finds-none c.args.file.now (get (slice_cmp nat_cmp) c.new.result) (λ key. ap (λ entries. lookup (is_at (slice_cmp nat_cmp key)) entries) c.new.ensures.empty);
  told = repeats-none c.args.file.now;
}

pub invariant_of-result : goal.invariant_of-result
invariant_of-result c =
    let file = c.args.file.now in
    let all : c.loop-place.place ≡ column_count file = omega (arith, c.column_count-place-end.ensures.is) in
    record {
      indexed = subst (λ n. Finds file n (get (slice_cmp nat_cmp) c.loop-place.first.places)) all c.loop-place.invariant.finds;
      different = sym (repeats-all file) ∙ ap (first_repeat file) (sym all) ∙ sym c.loop-place.invariant.told ∙ ap repeat_told c.in-None.is;
    }

pub returns-in-Some-clause-refused : goal.returns-in-Some-clause-refused
returns-in-Some-clause-refused c =
    let file = c.args.file.now in
    let all : c.loop-place.place ≡ column_count file = omega (arith, c.column_count-place-end.ensures.is) in
    sym (repeats-all file) ∙ ap (first_repeat file) (sym all) ∙ sym c.loop-place.invariant.told ∙ ap repeat_told c.in-Some.is
