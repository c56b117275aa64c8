-- What a `repeat` and its `end` stand for.
use Rattle.std.proofs.Common.{◌≡◌, ◌∙◌, ℕ, zero, suc, ◌<◌, true, List, [], ◌∷◌, ◌++◌, get_or, length, replicate, refl, ap, arith}
use Rattle.std.specs.Prelude.{◌&&◌, nat_lt}
use Rattle.std.proofs.lemmas.Bool.{and_parts}
use Rattle.long_events.specs.declared.moves.Move.{Move}
use Rattle.long_events.specs.declared.moves.Move.TheVariants as move
use Rattle.long_events.specs.declared.step.Step.{Step}
use Rattle.long_events.specs.declared.step.Step.TheVariants.{Give, Toggle, Repeat, End}
use Rattle.long_events.specs.Moves.{led_by, moves_of, parts_of, repeated, times}
use Rattle.long_events.specs.inside.Nesting.{nests}
use Rattle.long_events.proofs.Counts.{nests-parts}
use Rattle.long_events.proofs.Given.{first-led_by}

led-append : (moves : List Move) (parts more : List (List Move)) → 0 < length parts → led_by moves (parts ++ more) ≡ led_by moves parts ++ more
led-append moves [] more some = absurd (omega (arith, some))
led-append moves (part ∷ parts) more some = refl

repeated-append : (count : ℕ) (parts more : List (List Move)) → 1 < length parts → repeated count (parts ++ more) ≡ repeated count parts ++ more
repeated-append count [] more some = absurd (omega (arith, some))
repeated-append count (body ∷ parts) more some = led-append (times count body) parts more (omega (arith, some))

-- an `end` after lines, so many `repeat`s before which have their `end`s in them, ends a part
parts-end : (level : ℕ) (body rest : List Step) → nests level body ≡ true → parts_of (body ++ End ∷ rest) ≡ parts_of body ++ parts_of rest
unfolding nests parts_of
parts-end level [] rest nested = refl
parts-end level (Give event ∷ body) rest nested =
    ap (led_by (move.Given event ∷ [])) (parts-end level body rest nested)
    ∙ led-append (move.Given event ∷ []) (parts_of body) (parts_of rest) (omega (arith, nests-parts level body nested))
parts-end level (Toggle pin count ∷ body) rest nested =
    ap (led_by (replicate count (move.Toggled pin))) (parts-end level body rest nested)
    ∙ led-append (replicate count (move.Toggled pin)) (parts_of body) (parts_of rest) (omega (arith, nests-parts level body nested))
parts-end level (Repeat count ∷ body) rest nested =
    let tests = and_parts (nat_lt 0 count) (nat_lt level 8 && nests (suc level) body) nested in
    let inner = (and_parts (nat_lt level 8) (nests (suc level) body) tests.1).1 in
    ap (repeated count) (parts-end (suc level) body rest inner) ∙ repeated-append count (parts_of body) (parts_of rest) (omega (arith, nests-parts (suc level) body inner))
parts-end zero (End ∷ body) rest nested = absurd cc
parts-end (suc level) (End ∷ body) rest nested = ap (λ (parts : List (List Move)). [] ∷ parts) (parts-end level body rest nested)

-- the first part of one part is all
one-part : (parts more : List (List Move)) (count : ℕ) → length parts ≡ 1 → get_or (repeated count (parts ++ more)) 0 [] ≡ times count (get_or parts 0 []) ++ get_or more 0 []
one-part [] more count one = absurd (omega (arith, one))
one-part (body ∷ []) more count one = first-led_by (times count body) more
one-part (body ∷ second ∷ parts) more count one = absurd (omega (arith, one))

-- lines between a `repeat` and its `end`, in which each `repeat` has its own `end`, come so many times
pub repeat-times : (count : ℕ) (body rest : List Step) → nests 0 body ≡ true → moves_of (Repeat count ∷ body ++ End ∷ rest) ≡ times count (moves_of body) ++ moves_of rest
unfolding parts_of
repeat-times count body rest nested =
    ap (λ (parts : List (List Move)). get_or (repeated count parts) 0 []) (parts-end 0 body rest nested)
    ∙ one-part (parts_of body) (parts_of rest) count (nests-parts 0 body nested)
