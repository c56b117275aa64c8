-- An item without a fault is allowed.
use Rattle.std.proofs.Common.{◌≡◌, ℕ, ◌+◌, zero, suc, ◌<◌, ◌≤◌, Bool, true, false, not, ◌&&◌, List, [], ◌∷◌, length, drop, reverse, refl, ap, sym, ◌∙◌, subst, arith}
use Rattle.std.proofs.lemmas.Bool.{leb-true, and_parts, ltb-false}
use Rattle.std.proofs.lemmas.List.{length-reverse}
use Rattle.std.proofs.lemmas.List.Elements.{All-nil, All-cons, All-append}
use Rattle.std.specs.Prelude.{Option, Some, None, if◌then◌else◌, nat_le, nat_lt, All, IsTrue}
use Rattle.vlog_module.specs.declared.atoms.Atom.TheVariants as atom
use Rattle.vlog_module.specs.declared.item.Item.{Item}
use Rattle.vlog_module.specs.Names.{IsName}
use Rattle.vlog_module.specs.Uses.{Use, uses_of, used_name}
use Rattle.vlog_module.specs.Uses.Use.{Reads as ReadsName, ReadsBit as ReadsPart}
use Rattle.vlog_module.specs.WellFormed.{Scope, section_of, is_known, is_first, IsInRange, IsShaped, IsAllowed}
use Rattle.vlog_forms.specs.declared.form.Form.{Form}
use Rattle.vlog_forms.specs.declared.form.Form.TheVariants as form
use Rattle.vlog_forms.specs.declared.fault.VlogCause.TheVariants.{Order, Undeclared, AssignedTwice}
use Rattle.vlog_forms.specs.declared.slot.Role.{Role}
use Rattle.vlog_forms.specs.declared.slot.Role.TheVariants.{Declares, Reads, ReadsBit, Clocks, Takes, Assigns, Chooses, AssignsAsync, Starts}
use Rattle.vlog_forms.specs.declared.slot.Slot.{Slot}
use Rattle.vlog_forms.specs.declared.slot.Slot.TheVariants as slot
use Rattle.vlog_forms.specs.Values.{Value}
use Rattle.vlog_forms.specs.Values.Value.{Name, Edge, Bit, Word, Index, AnAtom}
use Rattle.vlog_forms.specs.Layout.{slots_of}
use Rattle.vlog_forms.specs.Items.{item_of, index_in, word_in, atoms_in, following}
use Rattle.vlog_forms.specs.Reading.{Found, values_of}
use Rattle.vlog_forms.specs.Outcome.{Fault, fault, role_use, value_uses, uses_from, uses_in, use_fault, or_fault, fault_from, name_fault, item_fault}
use Rattle.vlog_forms.proofs.SlotLists.{FitAll}
use Rattle.vlog_forms.proofs.Rebuilt.{rebuilt-fit, is_item, values-rebuilt}
use Rattle.vlog_forms.proofs.Uses.{uses-of-values}
use Rattle.vlog_forms.proofs.Sound.{AreSoundValues}

-- ---- names without a fault

abbrev Known : Scope → Use → Type 0
Known scope used = IsTrue (is_known scope used)

abbrev First : Scope → Use → Type 0
First scope used = IsTrue (is_first scope used)

use_case : (a b : Bool) (offset : ℕ) (rest : Option Fault) → (if not a then Some (fault offset Undeclared) else if not b then Some (fault offset AssignedTwice) else rest) ≡ None
    → (a ≡ true) × (b ≡ true) × (rest ≡ None)
use_case true true offset rest none = (refl, refl, none)
use_case true false offset rest none = absurd cc
use_case false b offset rest none = absurd cc

uses-allowed : (scope : Scope) (offset : ℕ) (uses : List Use) → use_fault scope offset uses ≡ None → All (Known scope) uses × All (First scope) uses
uses-allowed scope offset [] none = (All-nil (Known scope), All-nil (First scope))
uses-allowed scope offset (used ∷ uses) none =
    let parts = use_case (is_known scope used) (is_first scope used) offset (use_fault scope offset uses) none in
    let more = uses-allowed scope offset uses parts.2 in
    (All-cons (Known scope) used uses parts.0 more.0, All-cons (First scope) used uses parts.1 more.1)

or_parts : (one other : Option Fault) → or_fault one other ≡ None → (one ≡ None) × (other ≡ None)
or_parts (Some fault) other none = absurd cc
or_parts None other none = (refl, none)

names-allowed : (scope : Scope) (all : List Value) (place : ℕ) (found : List Found) → fault_from scope all place found ≡ None
    → All (Known scope) (uses_from all place (values_of found)) × All (First scope) (uses_from all place (values_of found))
names-allowed scope all place [] none = (All-nil (Known scope), All-nil (First scope))
names-allowed scope all place (one ∷ found) none =
    let uses : List Use = value_uses one.value all place in
    let others : List Use = uses_from all (place + 1) (values_of found) in
    let parts = or_parts (use_fault scope one.offset uses) (fault_from scope all (place + 1) found) none in
    let here = uses-allowed scope one.offset uses parts.0 in
    let more = names-allowed scope all (place + 1) found parts.1 in
    (All-append (Known scope) uses others here.0 more.0, All-append (First scope) uses others here.1 more.1)

-- ---- numbers in range

-- how large an index may be that comes before any other value
unfoldable next_limit : List Slot → ℕ
next_limit [] = 0
next_limit (slot.Index limit ∷ slots) = limit
next_limit (slot.Space ∷ slots) = next_limit slots
next_limit (slot.Fixed fixed ∷ slots) = next_limit slots
next_limit (slot.Literal number ∷ slots) = next_limit slots
next_limit (slot.Again place ∷ slots) = next_limit slots
next_limit (slot.AtomsAgain first n ∷ slots) = next_limit slots
next_limit (slot.Atoms n ∷ slots) = next_limit slots
next_limit (_ ∷ slots) = 0

index-within : (slots : List Slot) (values : List Value) → FitAll slots values → index_in values ≤ next_limit slots
unfolding FitAll next_limit
index-within [] [] fit = omega arith
index-within [] (value ∷ values) fit = absurd fit
index-within (slot.Name role ∷ slots) (Name other name ∷ values) fit = omega arith
index-within (slot.Edge ∷ slots) (Edge falling ∷ values) fit = omega arith
index-within (slot.Bit ∷ slots) (Bit bit ∷ values) fit = omega arith
index-within (slot.Word ∷ slots) (Word word ∷ values) fit = omega arith
index-within (slot.Index limit ∷ slots) (Index k ∷ values) fit = leb-true k limit fit.0
index-within (slot.Atom ∷ slots) (AnAtom one ∷ values) fit = omega arith
index-within (slot.Space ∷ slots) values fit = index-within slots values fit.1
index-within (slot.Fixed fixed ∷ slots) values fit = index-within slots values fit.1
index-within (slot.Literal number ∷ slots) values fit = index-within slots values fit.1
index-within (slot.Again place ∷ slots) values fit = index-within slots values fit.1
index-within (slot.AtomsAgain first n ∷ slots) values fit = index-within slots values fit.1
index-within (slot.Atoms n ∷ slots) values fit = index-within slots values fit.1
index-within (wanted ∷ slots) values fit = absurd fit.0

-- whether an index up to a limit is in range after a name
abbrev role_within : Role → ℕ → Bool
role_within ReadsBit limit = nat_le limit 15
role_within Starts limit = nat_le limit 255
role_within _ limit = true

unfoldable are_limited : List Slot → Bool
are_limited [] = true
are_limited (slot.Name role ∷ slots) = role_within role (next_limit slots) && are_limited slots
are_limited (_ ∷ slots) = are_limited slots

role-ranged : (role : Role) (all : List Value) (place : ℕ) (name : List ℕ) (limit : ℕ) → index_in (following (place + 1) all) ≤ limit → role_within role limit ≡ true → IsInRange (role_use role all place name)
role-ranged (Declares sort) all place name limit within limited = tt
role-ranged Reads all place name limit within limited = tt
role-ranged ReadsBit all place name limit within limited = let top : limit ≤ 15 = leb-true limit 15 limited in omega arith
role-ranged Clocks all place name limit within limited = tt
role-ranged (Takes sort) all place name limit within limited = tt
role-ranged (Assigns sort) all place name limit within limited = tt
role-ranged Chooses all place name limit within limited = tt
role-ranged AssignsAsync all place name limit within limited = tt
role-ranged Starts all place name limit within limited = let top : limit ≤ 255 = leb-true limit 255 limited in omega arith

after-next : (n : ℕ) (values : List Value) → following (suc n) values ≡ drop 1 (following n values)
unfolding following
after-next zero values = refl
after-next (suc n) values = after-next n (drop 1 values)

after-none : (values : List Value) → following 0 values ≡ values
unfolding following
after-none values = refl

-- the values after the first of those from an index on
rest-after : (all : List Value) (place : ℕ) (value : Value) (values : List Value) → following place all ≡ value ∷ values → following (place + 1) all ≡ values
rest-after all place value values is =
    let one : place + 1 ≡ suc place = omega arith in
    ap (λ n. following n all) one ∙ after-next place all ∙ ap (drop 1) is

uses-ranged : (slots : List Slot) (all : List Value) (place : ℕ) (values : List Value) → following place all ≡ values → FitAll slots values → are_limited slots ≡ true
    → All IsInRange (uses_from all place values)
unfolding FitAll are_limited
uses-ranged [] all place [] is fit limited = All-nil IsInRange
uses-ranged [] all place (value ∷ values) is fit limited = absurd fit
uses-ranged (slot.Name role ∷ slots) all place (Name other name ∷ values) is fit limited =
    let rest : following (place + 1) all ≡ values = rest-after all place (Name other name) values is in
    let parts = and_parts (role_within role (next_limit slots)) (are_limited slots) limited in
    let here : role_within other (next_limit slots) ≡ true = ap (λ r. role_within r (next_limit slots)) fit.0 ∙ parts.0 in
    let within : index_in (following (place + 1) all) ≤ next_limit slots
    = subst (λ (v : List Value). index_in v ≤ next_limit slots) (sym rest) (index-within slots values fit.1) in
    All-cons IsInRange (role_use other all place name) (uses_from all (place + 1) values)
    (role-ranged other all place name (next_limit slots) within here) (uses-ranged slots all (place + 1) values rest fit.1 parts.1)
uses-ranged (slot.Edge ∷ slots) all place (Edge falling ∷ values) is fit limited = uses-ranged slots all (place + 1) values (rest-after all place (Edge falling) values is) fit.1 limited
uses-ranged (slot.Bit ∷ slots) all place (Bit bit ∷ values) is fit limited = uses-ranged slots all (place + 1) values (rest-after all place (Bit bit) values is) fit.1 limited
uses-ranged (slot.Word ∷ slots) all place (Word word ∷ values) is fit limited = uses-ranged slots all (place + 1) values (rest-after all place (Word word) values is) fit.1 limited
uses-ranged (slot.Index limit ∷ slots) all place (Index k ∷ values) is fit limited = uses-ranged slots all (place + 1) values (rest-after all place (Index k) values is) fit.1 limited
uses-ranged (slot.Atom ∷ slots) all place (AnAtom (atom.Bit bit) ∷ values) is fit limited = uses-ranged slots all (place + 1) values (rest-after all place (AnAtom (atom.Bit bit)) values is) fit.1 limited
uses-ranged (slot.Atom ∷ slots) all place (AnAtom (atom.Whole name) ∷ values) is fit limited =
    All-cons IsInRange (ReadsName name) (uses_from all (place + 1) values) tt
    (uses-ranged slots all (place + 1) values (rest-after all place (AnAtom (atom.Whole name)) values is) fit.1 limited)
uses-ranged (slot.Atom ∷ slots) all place (AnAtom (atom.Part name k) ∷ values) is fit limited =
    All-cons IsInRange (ReadsPart name k) (uses_from all (place + 1) values) (leb-true k 15 fit.0)
    (uses-ranged slots all (place + 1) values (rest-after all place (AnAtom (atom.Part name k)) values is) fit.1 limited)
uses-ranged (slot.Space ∷ slots) all place values is fit limited = uses-ranged slots all place values is fit.1 limited
uses-ranged (slot.Fixed fixed ∷ slots) all place values is fit limited = uses-ranged slots all place values is fit.1 limited
uses-ranged (slot.Literal number ∷ slots) all place values is fit limited = uses-ranged slots all place values is fit.1 limited
uses-ranged (slot.Again place_before ∷ slots) all place values is fit limited = uses-ranged slots all place values is fit.1 limited
uses-ranged (slot.AtomsAgain first n ∷ slots) all place values is fit limited = uses-ranged slots all place values is fit.1 limited
uses-ranged (slot.Atoms n ∷ slots) all place values is fit limited = uses-ranged slots all place values is fit.1 limited
uses-ranged (wanted ∷ slots) all place values is fit limited = absurd fit.0

form-limited : (one : Form) → are_limited (slots_of one) ≡ true
unfolding slots_of are_limited next_limit
form-limited form.Input = refl
form-limited form.Output = refl
form-limited form.Register = refl
form-limited form.Word = refl
form-limited form.Memory = refl
form-limited form.WireBit = refl
form-limited form.WireWhole = refl
form-limited form.WirePart = refl
form-limited form.WireLut = refl
form-limited form.WireMajority = refl
form-limited form.WireChoose = refl
form-limited form.Assign = refl
form-limited form.FlipFlop = refl
form-limited form.AsyncFlipFlop = refl
form-limited form.AsyncReset = refl
form-limited form.Read = refl
form-limited form.ReadNarrow = refl
form-limited form.Write = refl
form-limited form.WriteNarrow = refl
form-limited form.Start = refl
form-limited form.End = refl

-- ---- names

abbrev Named : Use → Type 0
Named used = IsName (used_name used)

role-named : (role : Role) (all : List Value) (place : ℕ) (name : List ℕ) → IsName name → Named (role_use role all place name)
role-named (Declares sort) all place name named = named
role-named Reads all place name named = named
role-named ReadsBit all place name named = named
role-named Clocks all place name named = named
role-named (Takes sort) all place name named = named
role-named (Assigns sort) all place name named = named
role-named Chooses all place name named = named
role-named AssignsAsync all place name named = named
role-named Starts all place name named = named

uses-named : (all : List Value) (place : ℕ) (values : List Value) → AreSoundValues values → All Named (uses_from all place values)
uses-named all place [] sound = All-nil Named
uses-named all place (Name role name ∷ values) sound =
    All-cons Named (role_use role all place name) (uses_from all (place + 1) values) (role-named role all place name sound.0) (uses-named all (place + 1) values sound.1)
uses-named all place (Edge falling ∷ values) sound = uses-named all (place + 1) values sound.1
uses-named all place (Bit bit ∷ values) sound = uses-named all (place + 1) values sound.1
uses-named all place (Word word ∷ values) sound = uses-named all (place + 1) values sound.1
uses-named all place (Index k ∷ values) sound = uses-named all (place + 1) values sound.1
uses-named all place (AnAtom (atom.Bit bit) ∷ values) sound = uses-named all (place + 1) values sound.1
uses-named all place (AnAtom (atom.Whole name) ∷ values) sound =
    All-cons Named (ReadsName name) (uses_from all (place + 1) values) sound.0 (uses-named all (place + 1) values sound.1)
uses-named all place (AnAtom (atom.Part name k) ∷ values) sound =
    All-cons Named (ReadsPart name k) (uses_from all (place + 1) values) sound.0 (uses-named all (place + 1) values sound.1)

-- ---- sizes

word-small : (values : List Value) → AreSoundValues values → word_in values < 65536
word-small [] sound = omega arith
word-small (Word word ∷ values) sound = sound.0
word-small (Name role name ∷ values) sound = omega arith
word-small (Edge falling ∷ values) sound = omega arith
word-small (Bit bit ∷ values) sound = omega arith
word-small (Index k ∷ values) sound = omega arith
word-small (AnAtom one ∷ values) sound = omega arith

pub sound-after : (n : ℕ) (values : List Value) → AreSoundValues values → AreSoundValues (following n values)
unfolding following
sound-after zero values sound = sound
sound-after (suc n) [] sound = sound-after n [] tt
sound-after (suc n) (value ∷ values) sound = sound-after n values sound.1

atoms-count : (n : ℕ) (values : List Value) → length (atoms_in n values) ≡ n
unfolding atoms_in
atoms-count zero values = refl
atoms-count (suc n) values = ap (λ k. suc k) (atoms-count n (drop 1 values))

list-count : (n : ℕ) (values : List Value) → length (reverse (atoms_in n values)) ≡ n
list-count n values = length-reverse (atoms_in n values) ∙ atoms-count n values

item-shaped : (one : Form) (v : List Value) → AreSoundValues v → IsShaped (item_of one v)
unfolding item_of
item-shaped form.Input v sound = word-small (following 2 v) (sound-after 2 v sound)
item-shaped form.Output v sound = word-small (following 2 v) (sound-after 2 v sound)
item-shaped form.Register v sound = tt
item-shaped form.Word v sound = word-small (following 1 v) (sound-after 1 v sound)
item-shaped form.Memory v sound = tt
item-shaped form.WireBit v sound = tt
item-shaped form.WireWhole v sound = tt
item-shaped form.WirePart v sound = tt
item-shaped form.WireLut v sound = (word-small (following 1 v) (sound-after 1 v sound), list-count 4 (drop 1 (following 1 v)))
item-shaped form.WireMajority v sound = tt
item-shaped form.WireChoose v sound = tt
item-shaped form.Assign v sound = tt
item-shaped form.FlipFlop v sound = (word-small (following 6 v) (sound-after 6 v sound), list-count 4 (drop 1 (following 6 v)))
item-shaped form.AsyncFlipFlop v sound = (word-small (following 6 v) (sound-after 6 v sound), list-count 4 (drop 1 (following 6 v)))
item-shaped form.AsyncReset v sound = tt
item-shaped form.Read v sound = list-count 8 (following 6 v)
item-shaped form.ReadNarrow v sound = (list-count 8 (following 6 v), list-count 3 (following 14 v), word-small (following 17 v) (sound-after 17 v sound))
item-shaped form.Write v sound = (list-count 8 (following 5 v), list-count 16 (following 13 v), list-count 16 (following 29 v))
item-shaped form.WriteNarrow v sound =
    (list-count 8 (following 5 v), word-small (following 13 v) (sound-after 13 v sound), list-count 3 (following 14 v), list-count 16 (following 17 v))
item-shaped form.Start v sound = word-small (following 2 v) (sound-after 2 v sound)
item-shaped form.End v sound = word-small (following 2 v) (sound-after 2 v sound)

-- ---- an item

fault_case : (b : Bool) (offset : ℕ) (rest : Option Fault) → (if b then Some (fault offset Order) else rest) ≡ None → (b ≡ false) × (rest ≡ None)
fault_case true offset rest none = absurd cc
fault_case false offset rest none = (refl, none)

pub item-allowed : (scope : Scope) (offset : ℕ) (one : Form) (found : List Found) → is_item one ≡ true → FitAll (slots_of one) (values_of found) → AreSoundValues (values_of found)
    → item_fault scope offset (item_of one (values_of found)) found ≡ None → IsAllowed scope (item_of one (values_of found))
item-allowed scope offset one found is fit sound none =
    let v : List Value = values_of found in
    let made : Item = item_of one v in
    let parts = fault_case (nat_lt (section_of made) scope.section) offset (name_fault scope found) none in
    let uses : uses_in v ≡ uses_of made = ap uses_in (sym (values-rebuilt one v is ∙ rebuilt-fit (slots_of one) v fit)) ∙ uses-of-values made in
    let names = names-allowed scope v 0 found parts.1 in
    record {
      shaped = item-shaped one v sound;
      ordered = ltb-false (section_of made) scope.section parts.0;
      named = subst (All Named) uses (uses-named v 0 v sound);
      in_range = subst (All IsInRange) uses (uses-ranged (slots_of one) v 0 v (after-none v) fit (form-limited one));
      known = subst (All (Known scope)) uses names.0;
      first = subst (All (First scope)) uses names.1;
    }
