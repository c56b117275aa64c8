use Rattle.std.proofs.Common.{List, Bool, [], ap, cond, fold, ◌∙◌}
use Rattle.vlog_semantics.specs.Steps.{flip_slot}
use Rattle.vlog_engine.specs.Flips.{flip_flops}
use Rattle.vlog_engine.specs.Lanes.{lane_bits}
use Rattle.vlog_engine.proofs.Lanes.{steps-in}
use Rattle.vlog_engine.proofs.Stored.{twice-in}
use Rattle.vlog_engine.specs.Triggers.{step_by}
use Rattle.vlog_engine.specs.StepKinds.{pinned, slots_of}
use Rattle.vlog_engine.proofs.clocking.clock.Goals as goal

pub returns-clause-clocked : goal.returns-clause-clocked
returns-clause-clocked g c lane watched within known_group tracked =
    let at = g.V.Value.at in
    let active = at c.args.trigger.now.active lane in
    let before : List Bool = lane_bits at lane c.args.cells.now in
    let earlier : List Bool = lane_bits at lane c.args.trigger.now.earlier.now in
    let step = step_by c.args.trigger.now.cause earlier before in
    let stored : List Bool = lane_bits at lane c.store_all.new.cells in
    let flips = flip_flops c.args.trigger.now.group.now.flips.items in
    let known = c.store_all.ensures.stored lane within in
    record {
      stored = stored;
      known = known;
      are = c.pin.ensures.cells lane earlier before within
          ∙ ap (λ (list : List Bool). cond active (pinned step list) list)
          (c.commit.ensures.cells lane within
          ∙ c.note_flips-count.ensures.noted lane watched stored within known_group tracked (λ cell inside. known.same cell (λ all. inside))
          ∙ steps-in active (flip_slot (slots_of step) before []) stored flips)
          ∙ twice-in active (fold (flip_slot (slots_of step) before []) stored flips) stored (pinned step);
    }

pub returns-clause-tracked : goal.returns-clause-tracked
returns-clause-tracked g c lane watched within known read tracked =
    c.pin.ensures.tracked lane watched read (c.commit.ensures.tracked lane watched read (c.store_all.ensures.tracked lane watched read (c.note_flips-count.ensures.tracked lane watched within known tracked)))
