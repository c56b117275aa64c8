use Rattle.std.proofs.Common.{◌≡◌, ◌*◌, ◌/◌, map}
use Rattle.std.specs.List.{range_with_len}
use Rattle.text_lines.specs.Written.{text_of}
use Rattle.random_words.specs.Draws.{drawn_line, state_after}
use Rattle.random_words.proofs.drawing.drawn_from.Given as goal

abbrev pub invariant-loop : goal.invariant-loop
invariant-loop l =
    let digits = l.size.width / 4 in
    (l.text.items ≡ text_of (map (drawn_line l.initial.rng digits) (range_with_len 0 l.counter))) × (l.rng ≡ state_after (digits * l.counter) l.initial.rng)
