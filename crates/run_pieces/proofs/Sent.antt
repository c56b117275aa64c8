-- What was written of a text.
use Rattle.std.proofs.Common.{◌≡◌, ℕ, ◌-◌, ◌<◌, List, length, take, Option, Ok, Err, subst, arith}
use Rattle.std.specs.Io.KnownBytes.{Appends}
use Rattle.ice_io.specs.declared.sink.PutFault.{PutFault}
use Rattle.ice_io.specs.Put.{Sends, written_before}

module _ (old new : Option (List ℕ)) (text other : List ℕ) (same : other ≡ text) where
  -- the whole text
  pub sent-whole : (count : ℕ) → Sends old new 0 other (Ok count) → Appends old new text
  sent-whole count sent = subst (Appends old new) same sent.0

  -- the bytes before a fault
  pub sent-part : (fault : PutFault) → Sends old new 0 other (Err fault) → Appends old new (take (written_before fault) text)
  sent-part fault sent =
      let count : written_before fault - 0 ≡ written_before fault = omega arith in
      subst (λ bytes. Appends old new (take (written_before fault) bytes)) same (subst (λ n. Appends old new (take n other)) count sent.0)

  -- these aren't all
  pub sent-short : (fault : PutFault) → Sends old new 0 other (Err fault) → written_before fault < length text
  sent-short fault sent = subst (λ bytes. written_before fault < length bytes) same (omega (arith, sent.2))
