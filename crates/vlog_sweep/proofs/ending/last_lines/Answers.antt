use Rattle.std.proofs.Common.{◌≡◌, ◌<◌, ◌++◌, ◌∷◌, [], List, ap, ap₂, arith, false, flat_map, fold, length, sym, take, ◌∙◌}
use Rattle.std.proofs.lemmas.List.{flat_map_more, take_more}
use Rattle.vlog_semantics.specs.Run.{followed, start}
use Rattle.vlog_run.specs.Text.{entry_line}
use Rattle.vlog_sweep.specs.Strands.{line_of}
use Rattle.vlog_sweep.specs.Sweep.{last_text}
use Rattle.vlog_sweep.specs.declared.list.EventList.{EventList}
use Rattle.vlog_sweep.proofs.ending.last_lines.Goals as goal

pub loop-lane-preserved : goal.loop-lane-preserved
loop-lane-preserved c m lines =
    let lists : List EventList = c.args.lists.now in
    let outputs = c.args.outputs.now in
    let lane = c.loop-lane.lane in
    let item : EventList = c.index-lists-lane.result in
    let is : item ≡ _ = c.index-lists-lane.is in
    let within : lane < length lists = omega arith in
    let line : line_of outputs lane ≡ entry_line false (fold (followed m) (start m) item.events.items) =
    lines lane item within ∙ ap (λ (list : EventList). entry_line false (fold (followed m) (start m) list.events.items)) (sym is) in
    c.in_ok-add_last.ensures
    ∙ ap₂ (λ text line. text ++ (item.heading.items ++ line)) (c.loop-lane.invariant m lines) line
    ∙ flat_map_more (last_text m) [] (take lane lists) item
    ∙ ap (λ list. flat_map (last_text m) (take lane lists ++ list ∷ [])) is
    ∙ ap (flat_map (last_text m)) (sym (take_more lists lane item within))
