-- Texts that are written to a sink piece by piece.
use Rattle.std.proofs.Common.{◌≡◌, ◌∙◌, ℕ, ◌+◌, ◌-◌, List, ◌++◌, length, take, Option, Result, Ok, Err, sym, ap, subst, arith}
use Rattle.std.specs.Prelude.{IsErrAnd}
use Rattle.std.proofs.lemmas.List.{take-append-le, length-append}
use Rattle.std.proofs.Math.Seq.{take-append-add}
use Rattle.std.proofs.KnownBytes.{Appends-trans}
use Rattle.std.specs.Io.KnownBytes.{Appends}
use Rattle.ice_io.specs.declared.sink.PutFault.{PutFault}
use Rattle.ice_io.specs.Put.{Sends, written_before}

-- a piece after those before
pub Sends-next : (a b c : Option (List ℕ)) (sent now : ℕ) (pieces piece : List ℕ) (result : Result ℕ PutFault) → Sends a b sent pieces (Ok now) → Sends b c now piece result → Sends a c sent (pieces ++ piece) result
Sends-next a b c sent now pieces piece (Ok after) before next =
    (Appends-trans a b c pieces piece before.0 next.0, omega (arith, before.1, next.1, length-append pieces piece))
Sends-next a b c sent now pieces piece (Err fault) before next =
    let written : ℕ = written_before fault in
    let count : length pieces + (written - now) ≡ written - sent = omega (arith, before.1, next.1) in
    let both : pieces ++ take (written - now) piece ≡ take (written - sent) (pieces ++ piece) = sym (take-append-add pieces piece (written - now)) ∙ ap (λ n. take n (pieces ++ piece)) count in (
      subst (Appends a c) both (Appends-trans a b c pieces (take (written - now) piece) before.0 next.0),
      omega (arith, before.1, next.1),
      omega (arith, before.1, next.2, length-append pieces piece),
    )

-- if writing failed within the first pieces, it failed within all of them
pub Sends-front : (a c : Option (List ℕ)) (sent : ℕ) (pieces more : List ℕ) (fault : PutFault) → Sends a c sent pieces (Err fault) → Sends a c sent (pieces ++ more) (Err fault)
Sends-front a c sent pieces more fault front =
    let written : ℕ = written_before fault in (
      subst (Appends a c) (sym (take-append-le (written - sent) pieces more (omega (arith, front.2)))) front.0,
      front.1,
      omega (arith, front.2, length-append pieces more),
    )

-- a fault that is passed on
pub passed-on : {T : Type 0} (P : Result T PutFault → Type 0) (result : Result T PutFault) (fault : PutFault) → IsErrAnd result (λ passed. passed ≡ fault) → P (Err fault) → P result
passed-on P (Ok value) fault is p = absurd is
passed-on P (Err passed) fault is p = subst (λ fault. P (Err fault)) (sym is) p
