use Rattle.std.proofs.Common.{◌≡◌, ◌+◌, ◌<◌, ℕ, Bool, cond, false, true, ap, arith, get_or, length, set, subst, sym, ◌∙◌}
use Rattle.vlog_semantics.specs.Values.{bit_of}
use Rattle.vlog_run.specs.Text.{entry_line}
use Rattle.vlog_sweep.specs.Strands.{Stands, line_of, line_put, next_entry, stepped}
use Rattle.vlog_sweep.specs.declared.strand.Strand.{Strand}
use Rattle.vlog_sweep.proofs.ByTurns.{ahead-more, done-more, line-size, text-more}
use Rattle.vlog_sweep.proofs.turns.take_turns.Goals as goal

pub loop-lane-preserved : goal.loop-lane-preserved
loop-lane-preserved c =
    let active = c.args.active in
    let outputs = c.args.outputs.now in
    let lane = c.loop-lane.lane in
    let width : ℕ = length outputs + 1 in
    let old = c.args.strands.now in
    let now = c.loop-lane.strands in
    let inv = c.loop-lane.invariant in
    let item : Strand = c.index-strands-lane.result in
    let next : Strand = c.take_turn.new.strand in
    let within : lane < length now = omega arith in
    let inside : lane < length old = omega arith in
    let is : item ≡ get_or now lane item = c.index-strands-lane.is in
    let was : item ≡ get_or old lane item = is ∙ inv.ahead lane item (omega arith) in
    let active_here : Bool = bit_of active lane in
    let next_is : next ≡ cond active_here (stepped width item) item =
    c.take_turn.ensures.strand ∙ ap (λ (s : Strand). cond active_here (stepped width s) s) (sym is) in
    let text_is : c.take_turn.new.text ≡ cond active_here (line_put c.loop-lane.text item.at (line_of outputs lane)) c.loop-lane.text =
    c.take_turn.ensures.text ∙ ap (λ (s : Strand). cond active_here (line_put c.loop-lane.text s.at (line_of outputs lane)) c.loop-lane.text) (sym is) in
    record {
      done = done-more width active lane old now item next within is next_is inv.done inv.ahead;
      ahead = ahead-more lane old now next inv.ahead;
      text = λ m line size stands lines.
          let some : active_here ≡ true → item.taken < length item.list.now.events.items =
          λ on. subst (λ s. s.taken < length s.list.now.events.items) (sym was) (c.requires.left lane item inside on) in
          let line_is : active_here ≡ true → line_of outputs lane ≡ entry_line false (next_entry m item) =
          λ on. lines lane item inside on ∙ ap (λ s. entry_line false (next_entry m s)) (sym was) in
          subst (λ s. Stands m line (set now lane s) c.take_turn.new.text) (sym next_is)
          (subst (Stands m line (set now lane (cond active_here (stepped width item) item))) (sym text_is)
          (text-more active_here m line (line_of outputs lane) now c.loop-lane.text lane width item (inv.text m line size stands lines) within is some size (line-size outputs lane) line_is));
    }
