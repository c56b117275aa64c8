use Rattle.std.proofs.Common.{◌≡◌, ◌≢◌, ◌↔◌, List, true, ◌+◌, ◌<◌, ◌++◌, ap, arith, flat_map, get_or, length, subst, sym, take, ◌∙◌}
use Rattle.std.proofs.lemmas.List.{get_or-set_other, get_or_default, length-append, length-map, length-set}
use Rattle.vlog_semantics.specs.declared.gates.Gate.{Gate}
use Rattle.vlog_engine.specs.Circuits.{flip_gates}
use Rattle.vlog_engine.specs.Flips.{AreApart, flip_gate}
use Rattle.vlog_engine.specs.Watching.{AddsWires, HasSameItems}
use Rattle.vlog_engine.specs.declared.groups.Group.{Group}
use Rattle.vlog_engine.proofs.Placed.{gates-more, set-each, wires-more}
use Rattle.vlog_engine.proofs.watching.watch_groups.Goals as goal

pub loop-pin-preserved : goal.loop-pin-preserved
loop-pin-preserved c =
    let first = c.args.first in
    let i = c.loop-pin.pin in
    let known = c.loop-pin.invariant in
    let old = c.args.groups.now.items in
    let now = c.loop-pin.groups.items in
    let given = c.index_mut.result.now in
    let made = c.watch_group.new.group in
    let told = c.in_ok-next.ensures in
    let here : i < length old = omega (arith, c.loop-pin-test.true, c.len-pin-end.ensures, c.args.groups.now.ok.0) in
    let inside : i < length now = omega (arith, here, known.size) in
    let given_is : (none : Group) → given ≡ get_or old i none =
    λ none. c.index_mut.ensures.value ∙ get_or_default now i given none inside ∙ known.rest i none (omega arith) in
    let gates_are : flat_map flip_gates (take (i + 1) old) ≡ flat_map flip_gates (take i old) ++ flip_gates given =
    gates-more old i given here ∙ ap (λ group. flat_map flip_gates (take i old) ++ flip_gates group) (sym (given_is given)) in
    record {
      size = length-set now i made ∙ known.size;
      next_is = omega (
        arith,
        told.end,
        known.next_is,
        ap (λ (gates : List Gate). length gates) gates_are,
        length-append (flat_map flip_gates (take i old)) (flip_gates given),
        length-map given.flips.items flip_gate,
      );
      rest = λ k none past.
          let apart : k ≢ i = λ same. omega (arith, same, past) in
          get_or-set_other now i k made none apart ∙ known.rest k none (omega (arith, past));
      items = λ k none. set-each (λ n group. HasSameItems (get_or old n none) group) now i made none inside
          (subst (λ group. HasSameItems group made) (given_is none) told.items) (λ n below. known.items n none below) k;
      placed = λ k none. set-each (λ n group. group.first_place ≡ first + length (flat_map flip_gates (take n old))) now i made none inside
          (told.place ∙ known.next_is) (λ n below. known.placed n none below) k;
      apart = λ k none. set-each (λ n group. group.are_apart ≡ true ↔ AreApart (get_or old n none).flips.items) now i made none inside
          (subst (λ (group : Group). made.are_apart ≡ true ↔ AreApart group.flips.items) (given_is none) told.apart) (λ n below. known.apart n none below) k;
      wires = subst (λ wires. AddsWires first wires c.args.readers.now.items c.watch_group.new.readers.items) (sym gates_are)
          (wires-more first c.loop-pin.next (flat_map flip_gates (take i old)) (flip_gates given) c.args.readers.now.items c.loop-pin.readers.items c.watch_group.new.readers.items
          known.next_is known.wires told.wires);
    }

pub returns-clause-apart : goal.returns-clause-apart
returns-clause-apart c pin none inside = c.loop-pin.invariant.apart pin none (omega (arith, inside, c.loop-pin.invariant.size, c.loop-pin-test.false))
