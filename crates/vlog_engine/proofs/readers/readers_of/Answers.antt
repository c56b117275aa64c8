use Rattle.std.proofs.Common.{◌≡◌, ℕ, true, List, [], ap, arith, get_or, inl, inr, length, subst, sym, ◌∙◌}
use Rattle.std.proofs.lemmas.Bool.{cases_lt}
use Rattle.vlog_engine.specs.Marks.{gate_at, has, lists_of, touches, with_gate}
use Rattle.vlog_engine.proofs.Listed.{gate-here, gate-kept, length-gate}
use Rattle.vlog_engine.proofs.readers.readers_of.Goals as goal

pub loop-place-preserved : goal.loop-place-preserved
loop-place-preserved c =
    let i = c.loop-place.place in
    let before : List (List ℕ) = lists_of c.loop-place.readers.items in
    let gate = gate_at c.args.gates.now i in
    let is : lists_of c.add_gate.new.readers.items ≡ with_gate i before gate = c.in_ok-add_gate.ensures in
    record {
      size = ap length is ∙ length-gate i before gate ∙ c.loop-place.invariant.size;
      read = λ place cell below inside near.
          ap (λ lists. has (get_or lists cell []) place) is
          ∙ (elim (cases_lt place i) [
            | inl old ↦ gate-kept i before gate cell place (c.loop-place.invariant.read place cell old inside near)
            | inr new ↦
                let same : place ≡ i = omega (arith, below, new) in
                subst (λ p. touches (gate_at c.args.gates.now p) cell ≡ true → has (get_or (with_gate i before gate) cell []) p ≡ true) (sym same)
                (gate-here i before gate cell (omega (arith, inside, c.loop-place.invariant.size))) near
          ]);
    }
