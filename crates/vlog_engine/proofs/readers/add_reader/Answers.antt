use Rattle.std.proofs.Common.{ℕ, List, [], ◌∷◌, ◌++◌, Vec, ap, arith, set, sym, ◌∙◌}
use Rattle.std.proofs.lemmas.List.{get_or-map, map-set}
use Rattle.std.specs.Global.{Global}
use Rattle.vlog_engine.specs.Marks.{lists_of}
use Rattle.vlog_engine.proofs.readers.add_reader.Goals as goal

pub returns-in_ok-push : goal.returns-in_ok-push
returns-in_ok-push c =
    let readers = c.args.readers.now.items in
    let lists : List (List ℕ) = lists_of readers in
    map-set (λ (list : Vec ℕ Global). list.items) readers c.args.cell c.push.new.self
    ∙ ap (set lists c.args.cell) (c.in_ok-push.ensures.items ∙ ap (λ items. items ++ c.args.place ∷ [])
    (ap (λ (list : Vec ℕ Global). list.items) c.index_mut.ensures.value
    ∙ sym (get_or-map (λ (list : Vec ℕ Global). list.items) readers c.args.cell c.index_mut.result.now [] (omega (arith, c.if-cell-len.true)))))
