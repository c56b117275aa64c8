use Rattle.std.proofs.Common.{List, length, ◌∙◌}
use Rattle.std.specs.Prelude.{Result}
use Rattle.vlog_tokens.specs.Tokens.{Spot, spots_at}
use Rattle.vlog_module.specs.Parts.{Parts}
use Rattle.vlog_forms.specs.Outcome.{Fault, items_outcome}
use Rattle.vlog_parser.specs.Drafts.{so_far}
use Rattle.vlog_parser.proofs.ItemSteps.{items-first, items-after, refuses-same}
use Rattle.vlog_parser.proofs.items.read_items.Goals as goal

pub returns-in-Err : goal.returns-in-Err
returns-in-Err c =
    let following : Parts → List Spot → Result Parts Fault = items_outcome (length (spots_at c.args.bytes.now c.loop-refusal.from)) (length c.args.bytes.now) in
    refuses-same _ _ c.in-Err.refusal (c.loop-refusal.invariant.same ∙ items-first c.args.bytes.now (so_far c.loop-refusal.draft) c.loop-refusal.from) (c.in-Err.ensures.steps following)

pub returns-in-Ok-Done : goal.returns-in-Ok-Done
returns-in-Ok-Done c =
    let following : Parts → List Spot → Result Parts Fault = items_outcome (length (spots_at c.args.bytes.now c.loop-refusal.from)) (length c.args.bytes.now) in
    let steps = rw c.in-Ok-Done.field-0-is at c.in-Ok-Done.ensures.steps in
    c.loop-refusal.invariant.same ∙ items-first c.args.bytes.now (so_far c.loop-refusal.draft) c.loop-refusal.from ∙ steps following

pub loop-refusal-preserved : goal.loop-refusal-preserved
loop-refusal-preserved c =
    let following : Parts → List Spot → Result Parts Fault = items_outcome (length (spots_at c.args.bytes.now c.loop-refusal.from)) (length c.args.bytes.now) in
    let steps = rw c.in-Ok-Next.field-0-is at c.in-Ok-Next.ensures.steps in
    let shorter = rw c.in-Ok-Next.field-0-is at c.in-Ok-Next.ensures.shorter in
    record {
      within = shorter.0;
      kept = c.in-Ok-Next.ensures.kept;
      same = c.loop-refusal.invariant.same ∙ items-first c.args.bytes.now (so_far c.loop-refusal.draft) c.loop-refusal.from ∙ steps following
          ∙ items-after c.args.bytes.now (so_far c.read_item.new.draft) c.loop-refusal.from c.in-Ok-Next.end shorter.1;
    }
