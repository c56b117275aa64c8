-- The wires of a well-formed module have names.
use Rattle.std.proofs.Common.{◌≡◌, ℕ, zero, suc, ◌<◌, true, List, [], ◌∷◌, length, refl, subst, arith, inl, inr}
use Rattle.std.specs.Prelude.{Some, All, bytes_eq, slice_get}
use Rattle.std.specs.List.{list_all}
use Rattle.std.proofs.lemmas.Bool.{and_parts, false≢true, or_cases}
use Rattle.std.proofs.lemmas.Bool.Decides.{nat_tests}
use Rattle.std.proofs.lemmas.List.Elements.{All-cons, All-head, All-nil}
use Rattle.shared_lemmas.proofs.Bytes.{same_bytes}
use Rattle.shared_lemmas.proofs.Tests.{first_true}
use Rattle.vlog_module.specs.declared.item.Item.{Item}
use Rattle.vlog_module.specs.declared.item.Item.TheVariants.{Register, Word, Memory, Wire}
use Rattle.vlog_module.specs.Names.{IsName, is_letter, is_name, is_name_byte, is_word}
use Rattle.vlog_module.specs.Parts.{Parts}
use Rattle.vlog_module.specs.Uses.{used_name, uses_of}
use Rattle.vlog_module.specs.WellFormed.{IsModule}
use Rattle.vlog_semantics.specs.ModuleSlots.{wire_names}
use Rattle.name_set.specs.Sets.{has_name}
use Rattle.wire_names.specs.Names.{is_wire}

-- each item's names are names
Named : List Item → Type 0
Named items = (i : ℕ) (item : Item) → slice_get items i ≡ Some item → All (λ used. IsName (used_name used)) (uses_of item)

named-tail : (item : Item) (items : List Item) → Named (item ∷ items) → Named items
unfolding Named
named-tail item items named = λ i other at. named (suc i) other at

wires-named : (items : List Item) → Named items → (wire : List ℕ) → has_name (wire_names items) wire ≡ true → IsName wire
unfolding Named
wires-named [] named wire there = absurd (false≢true there)
wires-named (Wire name right ∷ items) named wire there =
    elim (or_cases (bytes_eq name wire) (has_name (wire_names items) wire) there) [
      | inl same ↦ subst (λ (one : List ℕ). IsName one) (same_bytes name wire same) (All-head (λ used. IsName (used_name used)) _ _ (named zero (Wire name right) refl))
      | inr later ↦ wires-named items (named-tail (Wire name right) items named) wire later
    ]
wires-named (Register name start ∷ items) named wire there = wires-named items (named-tail (Register name start) items named) wire there
wires-named (Word name start ∷ items) named wire there = wires-named items (named-tail (Word name start) items named) wire there
wires-named (Memory name ∷ items) named wire there = wires-named items (named-tail (Memory name) items named) wire there
wires-named (item ∷ items) named wire there = wires-named items (named-tail item items named) wire there

pub wire-named : (m : Parts) (wire : List ℕ) → IsModule m → is_wire m wire ≡ true → IsName wire
unfolding Named
wire-named m wire whole there = wires-named m.items (λ i item at. (whole.begun.allowed i item at).named) wire there

-- ---- the bytes of names

name_byte-high : (byte : ℕ) → is_name_byte byte ≡ true → 32 < byte
name_byte-high byte named = grind (arith, nat_tests)

letter-high : (byte : ℕ) → is_letter byte ≡ true → 32 < byte
letter-high byte named = grind (arith, nat_tests)

bytes-high : (bytes : List ℕ) → list_all is_name_byte bytes ≡ true → All (λ byte. 32 < byte) bytes
bytes-high [] all = All-nil (λ byte. 32 < byte)
bytes-high (byte ∷ bytes) all =
    let parts = and_parts (is_name_byte byte) (list_all is_name_byte bytes) all in
    All-cons (λ byte. 32 < byte) byte bytes (name_byte-high byte parts.0) (bytes-high bytes parts.1)

word-high : (bytes : List ℕ) → is_word bytes ≡ true → (0 < length bytes) × All (λ byte. 32 < byte) bytes
word-high [] word = absurd (false≢true word)
word-high (byte ∷ bytes) word =
    let parts = and_parts (is_letter byte) (list_all is_name_byte bytes) word in
    (omega arith, All-cons (λ byte. 32 < byte) byte bytes (letter-high byte parts.0) (bytes-high bytes parts.1))

-- a name has at least one byte, and no space
pub name-high : (name : List ℕ) → IsName name → (0 < length name) × All (λ byte. 32 < byte) name
unfolding is_name
name-high name named = word-high name (first_true (is_word name) _ named)
