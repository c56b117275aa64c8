use Rattle.std.proofs.Common.{◌≡◌, ◌<◌, ◌∙◌, Bool, length, ap, sym, subst, arith}
use Rattle.std.proofs.lemmas.List.{get_or_read, length-set}
use Rattle.graph_order.specs.Wiring.{has}
use Rattle.graph_order.specs.Rows.{row_at}
use Rattle.graph_order.specs.Search.{nowhere, node_at, Adds}
use Rattle.graph_order.specs.declared.search.Found.{Found}
use Rattle.graph_order.proofs.Lists.{row-items}
use Rattle.graph_order.proofs.Trails.{search-more}
use Rattle.graph_order.proofs.search.spread.Goals as goal

pub add_unmarked-requires : goal.add_unmarked-requires
add_unmarked-requires c =
    let trail = c.loop-place.trail.items in
    let at = c.loop-place.place in
    let within : at < length trail = omega (arith, c.loop-place.trail.ok.0) in
    let item = c.index.result.now in
    let node : item.node ≡ node_at trail at = ap (λ (f : Found). f.node) (get_or_read trail at item within c.index.ensures nowhere) in
    let below = c.loop-place.invariant.so_far.below at within in
    let row_within : item.node < length c.args.rows.now = omega (arith, node, below, c.requires.rows) in
    let row = c.index-rows-node.result in
    let here = row-items c.args.rows.now item.node row row row_within c.index-rows-node.is ∙ sym c.deref.ensures.value in
    λ other found.
    let less = c.requires.within item.node other (ap (λ list. has list other) here ∙ found) in
    omega (arith, less, length-set {A = Bool})

pub loop-place-preserved : goal.loop-place-preserved
loop-place-preserved c =
    let trail = c.loop-place.trail.items in
    let grown = c.add_unmarked.new.trail.items in
    let old = c.args.marks.now in
    let marks = c.loop-place.marks in
    let new = c.add_unmarked.new.marks in
    let at = c.loop-place.place in
    let rows = c.args.rows.now in
    let so_far = c.loop-place.invariant.so_far in
    let within : at < length trail = omega (arith, c.loop-place.trail.ok.0) in
    let item = c.index.result.now in
    let node : item.node ≡ node_at trail at = ap (λ (f : Found). f.node) (get_or_read trail at item within c.index.ensures nowhere) in
    let below = so_far.below at within in
    let row_within : item.node < length rows = omega (arith, node, below, c.requires.rows) in
    let row = c.index-rows-node.result in
    let here : row_at rows (node_at trail at) ≡ c.deref.result.now =
    ap (row_at rows) (sym node) ∙ row-items rows item.node row row row_within c.index-rows-node.is ∙ sym c.deref.ensures.value in
    let adds = subst (λ list. Adds list at marks new trail grown) (sym here) c.in_ok-add_unmarked.ensures.adds in
    record {
      so_far = search-more (row_at rows) c.args.start old marks new at trail grown so_far within adds
          (λ other found. c.in_ok-add_unmarked.ensures.all other (ap (λ list. has list other) (sym here) ∙ found))
          (λ other found. c.requires.within (node_at trail at) other found);
      place = omega (arith, within, adds.longer);
    }
