-- The rows of the grid, written to a sink one after the other.
use Rattle.std.proofs.Common.{◌≡◌, ◌∙◌, ℕ, ◌+◌, ◌-◌, ◌<◌, List, [], ◌++◌, length, Option, Result, Ok, Err, sym, ap, subst, arith}
use Rattle.std.proofs.KnownBytes.{Appends-nil}
use Rattle.std.specs.Io.KnownBytes.{Appends}
use Rattle.ice_io.specs.declared.sink.PutFault.{PutFault}
use Rattle.ice_io.specs.Put.{Sends}
use Rattle.ice_io.proofs.Sent.{Sends-front, Sends-next}
use Rattle.index_search.specs.Places.{gathered_below}
use Rattle.index_search.proofs.Places.{gathered_below-more, gathered_below-none, gathered_below-sum}
use Rattle.text_lines.specs.Written.{text_of}
use Rattle.asc_text.proofs.Pieces.{text_of-append, text_of-none}

-- no row yet
pub rows-begun : (a : Option (List ℕ)) (sent : ℕ) (given : ℕ → List (List ℕ)) → Sends a a sent (text_of (gathered_below 0 given)) (Ok sent)
rows-begun a sent given =
    let none : text_of (gathered_below 0 given) ≡ [] = ap text_of (gathered_below-none 0 given (λ k below. absurd (omega arith))) ∙ text_of-none in
    (subst (Appends a a) (sym none) (Appends-nil a), omega (arith, ap length none))

-- one row more
pub rows-next : (a b c : Option (List ℕ)) (sent now y : ℕ) (given : ℕ → List (List ℕ)) (row : List ℕ) (result : Result ℕ PutFault) → row ≡ text_of (given y)
    → Sends a b sent (text_of (gathered_below y given)) (Ok now) → Sends b c now row result → Sends a c sent (text_of (gathered_below (y + 1) given)) result
rows-next a b c sent now y given row result is before next =
    let joined : text_of (gathered_below y given) ++ row ≡ text_of (gathered_below (y + 1) given) =
    ap (λ row. text_of (gathered_below y given) ++ row) is ∙ sym (text_of-append (gathered_below y given) (given y)) ∙ ap text_of (sym (gathered_below-more y given)) in
    subst (λ text. Sends a c sent text result) joined (Sends-next a b c sent now (text_of (gathered_below y given)) row result before next)

-- if a row failed, all rows failed
pub rows-failed : (a c : Option (List ℕ)) (sent y all : ℕ) (given : ℕ → List (List ℕ)) (fault : PutFault) → y < all → Sends a c sent (text_of (gathered_below (y + 1) given)) (Err fault) → Sends a c sent (text_of (gathered_below all given)) (Err fault)
rows-failed a c sent y all given fault within failed =
    let others : List (List ℕ) = gathered_below (all - (y + 1)) (λ k. given (y + 1 + k)) in
    let count : y + 1 + (all - (y + 1)) ≡ all = omega arith in
    let whole : text_of (gathered_below (y + 1) given) ++ text_of others ≡ text_of (gathered_below all given) =
    sym (text_of-append (gathered_below (y + 1) given) others) ∙ ap text_of (sym (gathered_below-sum (y + 1) (all - (y + 1)) given)) ∙ ap (λ n. text_of (gathered_below n given)) count in
    subst (λ text. Sends a c sent text (Err fault)) whole (Sends-front a c sent (text_of (gathered_below (y + 1) given)) (text_of others) fault failed)
