use Rattle.std.proofs.Common.{ap, ap₂, flat_map, subst, sym, ◌∙◌}
use Rattle.std.specs.Prelude.{All}
use Rattle.std.specs.List.{filter_map}
use Rattle.vlog_module.specs.WellFormed.{IsShaped}
use Rattle.vlog_semantics.specs.Found.{places_in}
use Rattle.vlog_semantics.specs.Named.{values_of}
use Rattle.vlog_semantics.specs.Plans.{Places, blank_output, flip_steps, outputs_of, read_of, settle_of, wave_edge, write_of}
use Rattle.vlog_semantics.proofs.Beginning.{all-shaped}
use Rattle.vlog_semantics.proofs.planning.plan_of.Goals as goal

pub flips_of-requires : goal.flips_of-requires
flips_of-requires c = subst (All IsShaped) (sym c.items-items.ensures.items) (all-shaped c.args.module.now c.items-items.ensures.well_formed)

pub reads_of-requires : goal.reads_of-requires
reads_of-requires c = subst (All IsShaped) (sym c.items-items.ensures.items) (all-shaped c.args.module.now c.items-items.ensures.well_formed)

pub writes_of-requires : goal.writes_of-requires
writes_of-requires c = subst (All IsShaped) (sym c.items-items.ensures.items) (all-shaped c.args.module.now c.items-items.ensures.well_formed)

pub returns-clause-plan : goal.returns-clause-plan
returns-clause-plan c =
    let m = c.args.module.now in
    let items = c.items-items.ensures.items in
    let at = c.requires in
    let found = places_in c.args.places.now in
    record {
      outputs = (c.assign_outputs.ensures (flat_map blank_output c.ports.result.now) c.in_ok-outputs.ensures).values
          ∙ ap₂ (λ ports list. values_of (outputs_of found.bits found.words ports list)) c.ports.ensures.ports items
          ∙ ap (λ (p : Places). values_of (outputs_of p.bits p.words m.ports m.items)) at;
      flips = c.in_ok-flips_of.ensures ∙ ap₂ (λ (p : Places) list. flat_map (flip_steps p) list) at items;
      settles = c.in_ok-settles_of.ensures ∙ ap₂ (λ (p : Places) list. filter_map (settle_of p) list) at items;
      reads = c.in_ok-reads_of.ensures ∙ ap₂ (λ (p : Places) list. filter_map (read_of p) list) at items;
      writes = c.in_ok-writes_of.ensures ∙ ap₂ (λ (p : Places) list. filter_map (write_of p) list) at items;
      clocks = c.in_ok-clocks_of.ensures ∙ ap₂ (λ (p : Places) list. filter_map (wave_edge p) list) at items;
    }
