use Rattle.std.proofs.Common.{◌≡◌, ◌<◌, ◌≤◌, ◌+◌, ◌*◌, ℕ, true, false, [], ap, arith, flat_map, get_or, length, map, refl, replicate, subst, sym, ◌∙◌}
use Rattle.vlog_engine.specs.Circuits.{flip_gates, kept_gate}
use Rattle.vlog_engine.specs.declared.groups.Group.{Group}
use Rattle.vlog_engine.specs.Groups.{IsGroup}
use Rattle.vlog_engine.specs.Marks.{AreWithin, IsRead}
use Rattle.vlog_engine.specs.Resolved.{resolved, resolved_settle}
use Rattle.vlog_engine.specs.Roots.{held_by, root, roots_of}
use Rattle.vlog_engine.specs.StepKinds.{Step}
use Rattle.vlog_engine.specs.StepKinds.Step.{at_event, at_wave}
use Rattle.vlog_engine.proofs.Joining.{roots-below}
use Rattle.vlog_engine.proofs.Over.{group-over}
use Rattle.vlog_engine.proofs.Placed.{ArePlaced, IsPlaced, all-watched, flips-within, groups-within, same-group}
use Rattle.vlog_engine.proofs.Wired.{kept-within}
use Rattle.vlog_engine.proofs.circuit.circuit_of.Goals as goal

pub returns-clause-circuit : goal.returns-clause-circuit
returns-clause-circuit c =
    let plan = c.args.layout.now.plan in
    let first = c.args.layout.now.first_wire in
    let bits = c.args.bits in
    let words = c.args.words in
    let end = bits + 16 * words in
    let total = end + 2 in
    let roots = c.in_ok-roots.roots.items in
    let roots_are : roots ≡ roots_of total end plan.gates.items plan.settles.items =
    c.in_ok-roots.ensures ∙ ap (λ gates. roots_of total end gates c.deref-2.result.now) c.deref.ensures.value
    ∙ ap (roots_of total end plan.gates.items) c.deref-2.ensures.value in
    let gates_are : c.in_ok-gates.gates.items ≡ flat_map (kept_gate roots) plan.gates.items =
    c.in_ok-gates.ensures ∙ ap (λ known. flat_map (kept_gate known) c.deref-4.result.now) c.deref-3.ensures.value
    ∙ ap (flat_map (kept_gate roots)) c.deref-4.ensures.value in
    let below : (cell : ℕ) → root roots cell < total =
    subst (λ known. (cell : ℕ) → root known cell < total) (sym roots_are)
    (roots-below end (held_by (replicate total false) plan.settles.items) total plan.gates.items (omega arith)) in
    let within : AreWithin total c.deref-5.result.now =
    subst (AreWithin total) (sym (c.deref-5.ensures.value ∙ gates_are)) (kept-within roots total plan.gates.items below) in
    let read : IsRead c.in_ok-gates.gates.items c.in_ok-readers.readers.items =
    subst (λ gates. IsRead gates c.in_ok-readers.readers.items) c.deref-5.ensures.value (c.in_ok-readers.ensures.read within) in
    let rising = c.in_ok-rising.rising.items in
    let falling = c.in_ok-falling.falling.items in
    let waves = c.in_ok-waves.waves in
    let rising_are : (pin : ℕ) (none : Group) → pin < length rising → IsGroup (at_event (record { pin = pin; bit = true })) first bits words roots plan (get_or rising pin none) =
    λ pin none inside.
    subst (λ known. IsGroup (at_event (record { pin = pin; bit = true })) first bits words known plan (get_or rising pin none)) c.deref-10.ensures.value
    (c.in_ok-rising.ensures.each pin none (subst (λ count. pin < count) c.in_ok-rising.ensures.count inside)) in
    let falling_are : (pin : ℕ) (none : Group) → pin < length falling → IsGroup (at_event (record { pin = pin; bit = false })) first bits words roots plan (get_or falling pin none) =
    λ pin none inside.
    subst (λ known. IsGroup (at_event (record { pin = pin; bit = false })) first bits words known plan (get_or falling pin none)) c.deref-11.ensures.value
    (c.in_ok-falling.ensures.each pin none (subst (λ count. pin < count) c.in_ok-falling.ensures.count inside)) in
    let wave : Step = at_wave c.args.layout.now.input_count first [] [] in
    let waves_are : IsGroup wave first bits words roots plan waves =
    subst (λ known. IsGroup wave first bits words known plan waves) c.deref-12.ensures.value (c.in_ok-waves.ensures [] []) in
    let room : first ≤ total = omega (arith, c.requires.first) in
    let some : 0 < total = omega arith in
    let rising_within : AreWithin total (flat_map flip_gates rising) =
    groups-within total rising (λ pin none inside. flips-within total (get_or rising pin none).flips.items
    (group-over (at_event (record { pin = pin; bit = true })) first bits words total roots some below plan (get_or rising pin none) (rising_are pin none inside) room)) in
    let falling_within : AreWithin total (flat_map flip_gates falling) =
    groups-within total falling (λ pin none inside. flips-within total (get_or falling pin none).flips.items
    (group-over (at_event (record { pin = pin; bit = false })) first bits words total roots some below plan (get_or falling pin none) (falling_are pin none inside) room)) in
    let waves_within : AreWithin total (flip_gates waves) = flips-within total waves.flips.items (group-over wave first bits words total roots some below plan waves waves_are room) in
    let start_is : c.len.result ≡ length c.in_ok-gates.gates.items = omega (arith, c.len.ensures, c.in_ok-gates.gates.ok.0) in
    let one = c.in_ok-next.ensures in
    let two = c.in_ok-next-2.ensures in
    let three = c.in_ok-watched_count.ensures in
    let rising_placed : ArePlaced (length c.in_ok-gates.gates.items) rising c.watch_groups.new.groups.items c.in_ok-readers.readers.items c.watch_groups.new.readers.items =
    subst (λ start. ArePlaced start rising c.watch_groups.new.groups.items c.in_ok-readers.readers.items c.watch_groups.new.readers.items) start_is
    (record { count = one.count; items = one.items; place = one.place; apart = one.apart; wires = one.wires }) in
    let falling_placed : ArePlaced c.in_ok-next.next falling c.watch_groups-2.new.groups.items c.watch_groups.new.readers.items c.watch_groups-2.new.readers.items =
    record { count = two.count; items = two.items; place = two.place; apart = two.apart; wires = two.wires } in
    let waves_placed : IsPlaced c.in_ok-next-2.next waves c.watch_group.new.group c.watch_groups-2.new.readers.items c.watch_group.new.readers.items =
    record { items = three.items; place = three.place; apart = three.apart; wires = three.wires } in
    let all = all-watched total c.in_ok-next.next c.in_ok-next-2.next c.in_ok-watched_count.watched_count c.in_ok-gates.gates.items
    rising c.watch_groups.new.groups.items falling c.watch_groups-2.new.groups.items waves c.watch_group.new.group
    c.in_ok-readers.readers.items c.watch_groups.new.readers.items c.watch_groups-2.new.readers.items c.watch_group.new.readers.items
    c.in_ok-readers.ensures.count read rising_within falling_within waves_within
    (omega (arith, one.end, start_is)) two.end three.end
    rising_placed falling_placed waves_placed in
    record {
      bits_are = refl;
      roots = roots_are;
      gates = gates_are;
      read = all.read;
      watched_count = all.count_is;
      settles = c.in_ok-settles.ensures ∙ ap (λ known. map (resolved_settle bits words known) c.deref-7.result.now) c.deref-6.ensures.value
          ∙ ap (map (resolved_settle bits words roots)) c.deref-7.ensures.value;
      outputs = c.in_ok-outputs.ensures ∙ ap (λ known. map (resolved bits words known) c.deref-9.result.now) c.deref-8.ensures.value
          ∙ ap (map (resolved bits words roots)) c.deref-9.ensures.value;
      rising = λ pin none inside.
          let within : pin < length rising = omega (arith, inside, one.count) in
          same-group (at_event (record { pin = pin; bit = true })) first bits words roots plan (get_or rising pin none) (get_or c.watch_groups.new.groups.items pin none)
          (one.items pin none within) (rising_are pin none within);
      falling = λ pin none inside.
          let within : pin < length falling = omega (arith, inside, two.count) in
          same-group (at_event (record { pin = pin; bit = false })) first bits words roots plan (get_or falling pin none) (get_or c.watch_groups-2.new.groups.items pin none)
          (two.items pin none within) (falling_are pin none within);
      rising_watched = all.rising_watched;
      falling_watched = all.falling_watched;
      waves_watched = all.waves_watched;
    }
