use Rattle.std.proofs.Common.{◌≡◌, ◌++◌, ◌∷◌, [], List, Vec, Global, ap, arith, map, replicate, ◌∙◌}
use Rattle.std.proofs.lemmas.List.{map-append, replicate_more}
use Rattle.vlog_engine.proofs.start.copies.Goals as goal

pub loop-init : goal.loop-init
loop-init g c = ap (λ (lists : List (Vec g.row.T.Denot Global)). map (λ each. each.items) lists) c.in_ok-lists.ensures.items

pub loop-preserved : goal.loop-preserved
loop-preserved g c =
    let item : Vec g.row.T.Denot Global → List g.row.T.Denot = λ each. each.items in
    ap (map item) c.in_ok-push.ensures.items
    ∙ map-append item c.loop.lists.items (c.in_ok-from_slice.field-0 ∷ [])
    ∙ ap (λ (lists : List (List g.row.T.Denot)). lists ++ c.in_ok-from_slice.field-0.items ∷ []) c.loop.invariant
    ∙ ap (λ (list : List g.row.T.Denot). replicate c.loop.counter c.args.list.now ++ list ∷ []) c.in_ok-from_slice.ensures.items
    ∙ replicate_more c.loop.counter c.args.list.now

pub returns : goal.returns
returns g c =
    let end : c.loop.counter ≡ c.args.lanes = omega arith in
    c.loop.invariant ∙ ap (λ n. replicate n c.args.list.now) end
