use Rattle.std.proofs.Common.{◌≡◌, List, arith, get_or, refl, subst, ◌∙◌}
use Rattle.vlog_lanes.specs.declared.call.Call.{Call}
use Rattle.vlog_lanes.specs.Showing.{input_count}
use Rattle.vlog_sweep.specs.Strands.{Called, entry_of}
use Rattle.vlog_sweep.specs.declared.strand.Strand.{Strand}
use Rattle.vlog_sweep.proofs.Shown.{Calls, active-left, active-on, pin-within, shown-after, some-item}
use Rattle.vlog_sweep.proofs.calls.call_next.Goals as goal

pub event-requires : goal.event-requires
event-requires c =
    let strands : List Strand = c.args.strands.now in
    let pin = c.in-Some.pin in
    let some = c.in-Some.ensures.some pin refl in
    let d : Strand = some-item strands some.0 some.1 in
    omega (
      arith,
      c.call_on-call.ensures.pin,
      pin-within strands (input_count c.args.lanes.now) some.0 pin d c.requires.inputs some.1 (some.2 d),
    )

pub returns-in-Some-clause-some : goal.returns-in-Some-clause-some
returns-in-Some-clause-some c active is =
    let strands : List Strand = c.args.strands.now in
    let pin = c.in-Some.pin in
    let call : Call = c.call_on-call.result in
    let same : call.active ≡ active = cc in
    let calls : Calls strands pin call = record {
      pin_is = c.call_on-call.ensures.pin;
      active = c.call_on-call.ensures.active;
      bits = c.call_on-call.ensures.bits;
    } in
    let some = c.in-Some.ensures.some pin refl in
    let d : Strand = some-item strands some.0 some.1 in
    subst (Called c.args.lanes.now c.event.new.self strands) same (record {
      some = (some.0, some.1, active-on strands pin call some.0 d calls some.1 ∙ some.2 d);
      left = λ k d inside on. active-left strands pin call k d calls inside on;
      shown = λ m width shows k d inside. shown-after m c.event.new.self strands pin width call k d calls inside
          (c.event.ensures.shows k m (entry_of m (get_or strands k d)) (omega (arith, inside, c.requires.few)) (shows k d inside));
    })
