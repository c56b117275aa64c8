use Rattle.std.proofs.Common.{◌≡◌, ◌++◌}
use Rattle.random_words.specs.Draws.{digits_from, state_after}
use Rattle.random_words.proofs.drawing.append_digits.Given as goal

abbrev pub invariant-loop : goal.invariant-loop
invariant-loop l =
    (l.text.items ≡ l.initial.text.items ++ digits_from l.initial.rng l.counter) × (l.rng ≡ state_after l.counter l.initial.rng)
