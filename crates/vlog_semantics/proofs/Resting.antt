-- Registers that have settled stay, and wires have the same values.
use Rattle.std.proofs.Common.{◌≡◌, ℕ, suc, Bool, true, false, cond, List, [], ◌∷◌, Option, Some, None, ◌⊎◌, inl, inr, ap, fold, refl, sym, ◌∙◌}
use Rattle.std.specs.Prelude.{All, bytes_eq, slice_get}
use Rattle.std.specs.List.{filter_map}
use Rattle.std.specs.Option.{option_to_list}
use Rattle.std.proofs.lemmas.Bool.{cases_Bool}
use Rattle.std.proofs.lemmas.List.Elements.{All-head, All-tail}
use Rattle.std.proofs.lemmas.Slice.Eq.{bytes_eq-Decides}
use Rattle.vlog_module.specs.declared.atoms.Atom.TheVariants.{Whole}
use Rattle.vlog_module.specs.declared.item.Item.{Item}
use Rattle.vlog_module.specs.declared.item.Item.TheVariants.{AsyncFlipFlop, AsyncReset}
use Rattle.vlog_module.specs.Maps.{value_in}
use Rattle.vlog_semantics.specs.Entries.{put}
use Rattle.vlog_semantics.specs.Run.{is_at_once, settle_step}
use Rattle.vlog_semantics.specs.Values.{Readable, atom_value}
use Rattle.vlog_semantics.proofs.AtOnce.{AtOnce, at_once}
use Rattle.vlog_semantics.proofs.Stepping.{fold-same}

-- ---- names that are given values one after the other

abbrev put_pair : List (List ℕ × Bool) → List ℕ × Bool → List (List ℕ × Bool)
put_pair registers given = put registers given.0 given.1

put-head : (entry : List ℕ × Bool) (entries : List (List ℕ × Bool)) (name : List ℕ) (value : Bool) → bytes_eq entry.0 name ≡ true → put (entry ∷ entries) name value ≡ (entry.0, value) ∷ entries
put-head entry entries name value here = ap (λ b. cond b ((entry.0, value) ∷ entries) (entry ∷ put entries name value)) here

put-tail : (entry : List ℕ × Bool) (entries : List (List ℕ × Bool)) (name : List ℕ) (value : Bool) → bytes_eq entry.0 name ≡ false → put (entry ∷ entries) name value ≡ entry ∷ put entries name value
put-tail entry entries name value away = ap (λ b. cond b ((entry.0, value) ∷ entries) (entry ∷ put entries name value)) away

pub put-again : (entries : List (List ℕ × Bool)) (name : List ℕ) (first value : Bool) → put (put entries name first) name value ≡ put entries name value
put-again [] name first value = refl
put-again (entry ∷ entries) name first value =
    elim (cases_Bool (bytes_eq entry.0 name)) [
      | inl here ↦ ap (λ list. put list name value) (put-head entry entries name first here) ∙ put-head (entry.0, first) entries name value here ∙ sym (put-head entry entries name value here)
      | inr away ↦ ap (λ list. put list name value) (put-tail entry entries name first away) ∙ put-tail entry (put entries name first) name value away
          ∙ ap (λ rest. entry ∷ rest) (put-again entries name first value) ∙ sym (put-tail entry entries name value away)
    ]

-- a name that is one of two that are apart is not the other
other-name : (entry a b : List ℕ) → bytes_eq a b ≡ false → bytes_eq entry a ≡ true → bytes_eq entry b ≡ false
other-name entry a b apart here = ap (λ name. bytes_eq name b) ((bytes_eq-Decides entry a).0 here) ∙ apart

put-apart : (entries : List (List ℕ × Bool)) (a b : List ℕ) (first second : Bool) → bytes_eq a b ≡ false → put (put entries a first) b second ≡ put (put entries b second) a first
put-apart [] a b first second apart = refl
put-apart (entry ∷ entries) a b first second apart =
    elim (cases_Bool (bytes_eq entry.0 a)) [
      | inl here ↦
          let other : bytes_eq entry.0 b ≡ false = other-name entry.0 a b apart here in
          ap (λ list. put list b second) (put-head entry entries a first here) ∙ put-tail (entry.0, first) entries b second other
          ∙ sym (ap (λ list. put list a first) (put-tail entry entries b second other) ∙ put-head entry (put entries b second) a first here)
      | inr away ↦
          elim (cases_Bool (bytes_eq entry.0 b)) [
            | inl there ↦
                ap (λ list. put list b second) (put-tail entry entries a first away) ∙ put-head entry (put entries a first) b second there
                ∙ sym (ap (λ list. put list a first) (put-head entry entries b second there) ∙ put-tail (entry.0, second) entries a first away)
            | inr apart_too ↦
                ap (λ list. put list b second) (put-tail entry entries a first away) ∙ put-tail entry (put entries a first) b second apart_too
                ∙ ap (λ rest. entry ∷ rest) (put-apart entries a b first second apart)
                ∙ sym (ap (λ list. put list a first) (put-tail entry entries b second apart_too) ∙ put-tail entry (put entries b second) a first away)
          ]
    ]

put-kept : (entries : List (List ℕ × Bool)) (a b : List ℕ) (value : Bool) → bytes_eq a b ≡ false → value_in (put entries a value) b ≡ value_in entries b
put-kept [] a b value apart = refl
put-kept (entry ∷ entries) a b value apart =
    elim (cases_Bool (bytes_eq entry.0 a)) [
      | inl here ↦
          let other : bytes_eq entry.0 b ≡ false = other-name entry.0 a b apart here in
          ap (λ list. value_in list b) (put-head entry entries a value here)
          ∙ ap (λ t. cond t (Some value) (value_in entries b)) other
          ∙ sym (ap (λ t. cond t (Some entry.1) (value_in entries b)) other)
      | inr away ↦
          ap (λ list. value_in list b) (put-tail entry entries a value away)
          ∙ ap (λ found. cond (bytes_eq entry.0 b) (Some entry.1) found) (put-kept entries a b value apart)
    ]

-- a value that is given first is lost, or may as well be given last
lost-or-last : (name : List ℕ) (value : Bool) (given : List (List ℕ × Bool))
    → ((entries : List (List ℕ × Bool)) → fold put_pair (put entries name value) given ≡ fold put_pair entries given)
    ⊎ ((entries : List (List ℕ × Bool)) → fold put_pair (put entries name value) given ≡ put (fold put_pair entries given) name value)
lost-or-last name value [] = inr (λ entries. refl)
lost-or-last name value (one ∷ given) =
    elim (cases_Bool (bytes_eq name one.0)) [
      | inl same ↦
          let is : name ≡ one.0 = (bytes_eq-Decides name one.0).0 same in
          inl (λ entries. ap (λ list. fold put_pair list given) (ap (λ n. put (put entries n value) one.0 one.1) is ∙ put-again entries one.0 value one.1))
      | inr apart ↦
          elim (lost-or-last name value given) [
            | inl lost ↦ inl (λ entries. ap (λ list. fold put_pair list given) (put-apart entries name one.0 value one.1 apart) ∙ lost (put entries one.0 one.1))
            | inr last ↦ inr (λ entries. ap (λ list. fold put_pair list given) (put-apart entries name one.0 value one.1 apart) ∙ last (put entries one.0 one.1))
          ]
    ]

puts-twice : (given : List (List ℕ × Bool)) (entries : List (List ℕ × Bool)) → fold put_pair (fold put_pair entries given) given ≡ fold put_pair entries given
puts-twice [] entries = refl
puts-twice (one ∷ given) entries =
    let once : List (List ℕ × Bool) = fold put_pair (put entries one.0 one.1) given in
    elim (lost-or-last one.0 one.1 given) [
      | inl lost ↦ lost once ∙ puts-twice given (put entries one.0 one.1)
      | inr last ↦
          last once ∙ ap (λ list. put list one.0 one.1) (puts-twice given (put entries one.0 one.1) ∙ last entries)
          ∙ put-again (fold put_pair entries given) one.0 one.1 one.1 ∙ sym (last entries)
    ]

-- ---- asynchronous sets and resets of registers

-- what one item does
rest_one : Readable → List (List ℕ × Bool) → Option AtOnce → List (List ℕ × Bool)
rest_one from registers (Some one) = cond (atom_value from (Whole one.reset)) (put registers one.target one.set_to) registers
rest_one from registers None = registers

rest_bit : Readable → Option AtOnce → Option (List ℕ × Bool)
rest_bit from (Some one) = cond (atom_value from (Whole one.reset)) (Some (one.target, one.set_to)) None
rest_bit from None = None

step-is : (from : Readable) (registers : List (List ℕ × Bool)) (item : Item) → settle_step from registers item ≡ rest_one from registers (at_once item)
unfolding at_once rest_one
step-is from registers (AsyncFlipFlop falling clock reset set_to target enable lut) = refl
step-is from registers (AsyncReset reset set_to target) = refl
step-is from registers other = refl

bit-is : (from : Readable) (registers : List (List ℕ × Bool)) (found : Option AtOnce) → fold put_pair registers (option_to_list (rest_bit from found)) ≡ rest_one from registers found
unfolding rest_one rest_bit
bit-is from registers None = refl
bit-is from registers (Some one) =
    elim (atom_value from (Whole one.reset)) as (λ b. fold put_pair registers (option_to_list (cond b (Some (one.target, one.set_to)) None)) ≡ cond b (put registers one.target one.set_to) registers) [
      | true ↦ refl
      | false ↦ refl
    ]

puts-are : (from : Readable) (registers : List (List ℕ × Bool)) (items : List Item) → fold put_pair registers (filter_map (λ item. rest_bit from (at_once item)) items) ≡ fold (settle_step from) registers items
puts-are from registers items =
    fold-same put_pair (λ (item : Item). rest_bit from (at_once item)) (λ (next : List (List ℕ × Bool)). next) (settle_step from) (λ next. Unit {0})
    (λ next item kept. tt)
    (λ next item kept. bit-is from next (at_once item) ∙ sym (step-is from next item))
    registers items tt

one-alike : (from other : Readable) (registers : List (List ℕ × Bool)) (found : Option AtOnce)
    → ((one : AtOnce) → found ≡ Some one → atom_value other (Whole one.reset) ≡ atom_value from (Whole one.reset)) → rest_one other registers found ≡ rest_one from registers found
unfolding rest_one
one-alike from other registers None same = refl
one-alike from other registers (Some one) same = ap (λ b. cond b (put registers one.target one.set_to) registers) (same one refl)

one-kept : (from : Readable) (registers : List (List ℕ × Bool)) (found : Option AtOnce) (name : List ℕ)
    → ((one : AtOnce) → found ≡ Some one → atom_value from (Whole one.reset) ≡ true → bytes_eq one.target name ≡ false) → value_in (rest_one from registers found) name ≡ value_in registers name
unfolding rest_one
one-kept from registers None name apart = refl
one-kept from registers (Some one) name apart =
    elim (cases_Bool (atom_value from (Whole one.reset))) [
      | inl acts ↦ ap (λ b. value_in (cond b (put registers one.target one.set_to) registers) name) acts ∙ put-kept registers one.target name one.set_to (apart one refl acts)
      | inr rests ↦ ap (λ b. value_in (cond b (put registers one.target one.set_to) registers) name) rests
    ]

step-plain : (from : Readable) (registers : List (List ℕ × Bool)) (item : Item) → is_at_once item ≡ false → settle_step from registers item ≡ registers
step-plain from registers (AsyncFlipFlop falling clock reset set_to target enable lut) plain = cc
step-plain from registers (AsyncReset reset set_to target) plain = cc
step-plain from registers other plain = refl

-- what has settled stays
pub rests-twice : (from : Readable) (registers : List (List ℕ × Bool)) (items : List Item) → fold (settle_step from) (fold (settle_step from) registers items) items ≡ fold (settle_step from) registers items
rests-twice from registers items =
    let given : List (List ℕ × Bool) = filter_map (λ (item : Item). rest_bit from (at_once item)) items in
    sym (puts-are from (fold (settle_step from) registers items) items)
    ∙ ap (λ list. fold put_pair list given) (sym (puts-are from registers items))
    ∙ puts-twice given registers
    ∙ puts-are from registers items

-- if the wires of asynchronous sets and resets have the same values, the registers are set and reset in the same way
pub rests-alike : (from other : Readable) (registers : List (List ℕ × Bool)) (items : List Item)
    → ((i : ℕ) (item : Item) (one : AtOnce) → slice_get items i ≡ Some item → at_once item ≡ Some one → atom_value other (Whole one.reset) ≡ atom_value from (Whole one.reset))
    → fold (settle_step other) registers items ≡ fold (settle_step from) registers items
rests-alike from other registers [] same = refl
rests-alike from other registers (item ∷ items) same =
    ap (λ next. fold (settle_step other) next items) (step-is other registers item ∙ one-alike from other registers (at_once item) (λ one is. same 0 item one refl is) ∙ sym (step-is from registers item))
    ∙ rests-alike from other (settle_step from registers item) items (λ i later one at is. same (suc i) later one at is)

-- a name that no wire sets keeps its value
pub rest-kept : (from : Readable) (registers : List (List ℕ × Bool)) (items : List Item) (name : List ℕ)
    → ((i : ℕ) (item : Item) (one : AtOnce) → slice_get items i ≡ Some item → at_once item ≡ Some one → atom_value from (Whole one.reset) ≡ true → bytes_eq one.target name ≡ false)
    → value_in (fold (settle_step from) registers items) name ≡ value_in registers name
rest-kept from registers [] name apart = refl
rest-kept from registers (item ∷ items) name apart =
    rest-kept from (settle_step from registers item) items name (λ i later one at is acts. apart (suc i) later one at is acts)
    ∙ ap (λ next. value_in next name) (step-is from registers item)
    ∙ one-kept from registers (at_once item) name (λ one is acts. apart 0 item one refl is acts)

-- ---- modules without such items

-- if there is no asynchronous set or reset, no register changes
pub rests-plain : (from : Readable) (registers : List (List ℕ × Bool)) (items : List Item) → All (λ item. is_at_once item ≡ false) items → fold (settle_step from) registers items ≡ registers
rests-plain from registers [] plain = refl
rests-plain from registers (item ∷ items) plain =
    ap (λ next. fold (settle_step from) next items) (step-plain from registers item (All-head (λ (one : Item). is_at_once one ≡ false) item items plain))
    ∙ rests-plain from registers items (All-tail (λ (one : Item). is_at_once one ≡ false) item items plain)
