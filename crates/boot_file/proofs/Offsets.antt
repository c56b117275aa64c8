-- A fault of a bitstream lies within it, or at its end.
use Rattle.std.proofs.Common.{◌≡◌, ℕ, ◌+◌, ◌/◌, ◌%◌, ◌≤◌, Bool, true, false, ◌==◌, List, [], ◌∷◌, ◌++◌, length, take, drop, refl, ap, subst, inl, inr, arith, length-append, length-drop}
use Rattle.std.specs.Prelude.{nat_lt, if◌then◌else◌, Option, Some, None}
use Rattle.std.proofs.lemmas.Bool.{cases_lt, lt-ltb, le-ltb}
use Rattle.std.proofs.lemmas.List.{length-take}
use Rattle.index_search.specs.Places.{or_else}
use Rattle.ice_image.specs.declared.planes.PlaneKind.{PlaneKind}
use Rattle.bin_stream.specs.Commands.{Command, number_of, spelled}
use Rattle.bin_stream.specs.State.{size_after}
use Rattle.bin_stream.specs.declared.fault.BinCause.{BinCause}
use Rattle.bin_stream.specs.declared.fault.BinCause.TheVariants.{NoPreamble}
use Rattle.bin_stream.specs.Refusals.{Fault, body_fault, command_fault, data_cause, data_kind, end_fault, fault_at, fault_where, first_fault, head_fault, payload_fault, short_cause}
use Rattle.bin_stream.specs.Front.{preamble, preamble_offset}
use Rattle.bin_stream.specs.Spelling.{FailsAt, IsRefused}

-- a fault, if there is one, isn't after an offset
abbrev Within : ℕ → Option Fault → Type 0
Within bound None = Unit {0}
Within bound (Some fault) = fault.offset ≤ bound

if-within : (bound : ℕ) (test : Bool) (one other : Option Fault) → Within bound one → Within bound other → Within bound (if test then one else other)
if-within bound true one other first second = first
if-within bound false one other first second = second

or-within : (bound : ℕ) (one other : Option Fault) → Within bound one → Within bound other → Within bound (or_else one other)
or-within bound (Some fault) other first second = first
or-within bound None other first second = second

where-within : (bound offset : ℕ) (cause : Option BinCause) → offset ≤ bound → Within bound (fault_where offset cause)
where-within bound offset None near = tt
where-within bound offset (Some cause) near = near

end-within : (bound offset : ℕ) (bytes : List ℕ) → offset + length bytes ≤ bound → Within bound (end_fault offset bytes)
end-within bound offset [] near = omega arith
end-within bound offset (byte ∷ []) near = if-within bound (byte == 0) _ _ (omega arith) (omega arith)
end-within bound offset (byte ∷ next ∷ rest) near =
    if-within bound (byte == 0) _ _ (if-within bound (next == 0) _ _ tt (omega arith)) (omega arith)

body-within : (bound size offset : ℕ) (bytes : List ℕ) → offset + length bytes ≤ bound → Within bound (body_fault size offset bytes)
body-within bound size offset bytes near = elim (cases_lt (length bytes) size) [
  | inl few ↦ rw (lt-ltb (length bytes) size few) near
  | inr all ↦ rw (le-ltb (length bytes) size all) (end-within bound (offset + size) (drop size bytes) (omega (arith, length-drop size bytes)))
]

payload-within : (bound : ℕ) (before : List Command) (offset opcode : ℕ) (payload : List ℕ) (kind : Option PlaneKind) (bytes : List ℕ)
    → offset + 1 + length payload + length bytes ≤ bound → Within bound (payload_fault before offset opcode payload kind bytes)
payload-within bound before offset opcode payload None bytes near = where-within bound offset (short_cause before opcode payload) (omega arith)
payload-within bound before offset opcode payload (Some kind) bytes near =
    or-within bound (fault_where offset (data_cause before kind)) (body_fault (size_after before) (offset + 1 + length payload) bytes)
    (where-within bound offset (data_cause before kind) (omega arith)) (body-within bound (size_after before) (offset + 1 + length payload) bytes near)

head-within : (bound offset : ℕ) (bytes : List ℕ) → offset + length bytes ≤ bound → Within bound (head_fault offset bytes)
head-within bound offset [] near = omega arith
head-within bound offset (head ∷ rest) near =
    if-within bound (nat_lt 4 (head % 16)) _ _ (omega arith) (if-within bound (nat_lt (length rest) (head % 16)) _ _ (omega arith) tt)

command-within : (bound : ℕ) (before : List Command) (offset : ℕ) (bytes : List ℕ) → offset + length bytes ≤ bound → Within bound (command_fault before offset bytes)
command-within bound before offset [] near = tt
command-within bound before offset (head ∷ rest) near =
    let count = head % 16 in
    let payload = take count rest in
    payload-within bound before offset (head / 16) payload (data_kind (head / 16) (number_of payload)) (drop count rest)
    (omega (arith, length-take count rest, length-drop count rest))

first-within : (bound : ℕ) (before : List Command) (offset : ℕ) (bytes : List ℕ) → offset + length bytes ≤ bound → Within bound (first_fault before offset bytes)
first-within bound before offset bytes near =
    or-within bound (head_fault offset bytes) (command_fault before offset bytes) (head-within bound offset bytes near) (command-within bound before offset bytes near)

failed-within : (bytes : List ℕ) (fault : Fault) → FailsAt bytes fault → fault.offset ≤ length bytes
failed-within bytes fault fails =
    let before = length fails.front + 4 + length (spelled fails.commands) in
    let near : before + length fails.rest ≤ length bytes =
    omega (
      arith,
      ap length fails.spelled_is,
      length-append (fails.front ++ preamble ++ spelled fails.commands) fails.rest,
      length-append (fails.front ++ preamble) (spelled fails.commands),
      length-append fails.front preamble,
    ) in
    subst (Within (length bytes)) fails.wrong (first-within (length bytes) fails.commands before fails.rest near)

refused-at : (bytes : List ℕ) (fault : Fault) (place : Option ℕ) → preamble_offset bytes ≡ place → IsRefused bytes fault → fault.offset ≤ length bytes
refused-at bytes fault None is refused =
    let told : fault ≡ fault_at (length bytes) NoPreamble = rw is at refused in omega (arith, ap (λ (f : Fault). f.offset) told)
refused-at bytes fault (Some place) is refused = failed-within bytes fault (rw is at refused)

-- the fault of a bitstream
pub refused-within : (bytes : List ℕ) (fault : Fault) → IsRefused bytes fault → fault.offset ≤ length bytes
refused-within bytes fault refused = refused-at bytes fault (preamble_offset bytes) refl refused
