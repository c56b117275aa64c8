use Rattle.std.proofs.Common.{◌≡◌, ◌+◌, ◌-◌, ◌++◌, take, length, ap, ◌∙◌, arith, ℕ, ◌<◌}
use Rattle.std.specs.Prelude.{map, reverse}
use Rattle.vlog_forms.specs.Values.Value.{AnAtom}
use Rattle.vlog_print.specs.Rest.{all_seen}
use Rattle.vlog_print.proofs.Steps.{atoms-step}
use Rattle.vlog_print.proofs.values.push_atoms.Goals as goal

pub loop-place-preserved : goal.loop-place-preserved
loop-place-preserved c =
    let atoms = c.args.atoms.now in
    let place : ℕ = c.loop-place.place - 1 in
    let one : place + 1 ≡ c.loop-place.place = omega arith in
    let inside : place < length atoms = omega (arith, c.loop-place.invariant.within) in
    record {
      within = omega (arith, c.loop-place.invariant.within);
      rest = atoms-step (all_seen c.loop-place.values.items) (all_seen c.push_atom.new.values.items) atoms place c.get.result.now inside c.get.ensures c.in_ok-push_atom.ensures
          ∙ ap (λ n. all_seen c.loop-place.values.items ++ map AnAtom (reverse (take n atoms))) one
          ∙ c.loop-place.invariant.rest;
    }
