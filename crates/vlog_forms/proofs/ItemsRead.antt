-- The items of a well-formed module are read without a fault.
use Rattle.std.proofs.Common.{◌≡◌, ℕ, ◌+◌, zero, suc, ◌<◌, true, false, not, List, [], ◌∷◌, ◌++◌, length, refl, ap, sym, ◌∙◌, subst, append_assoc, arith}
use Rattle.std.proofs.lemmas.Bool.{le-leb, le-ltb}
use Rattle.std.proofs.lemmas.List.{append-nil}
use Rattle.std.proofs.lemmas.List.Elements.{All-head, All-tail}
use Rattle.std.specs.Prelude.{Ok, Err, Some, None, if◌then◌else◌, nat_le, All, flat_map, IsTrue}
use Rattle.vlog_tokens.specs.declared.fixed.Fixed.TheVariants as sign
use Rattle.vlog_tokens.specs.Tokens.{TokenValue, Spot}
use Rattle.vlog_tokens.specs.Tokens.{TokenValue as token}
use Rattle.vlog_module.specs.declared.atoms.Atom.TheVariants as atom
use Rattle.vlog_module.specs.declared.item.Right.TheVariants as right
use Rattle.vlog_module.specs.declared.item.Item.{Item}
use Rattle.vlog_module.specs.declared.item.Item.TheVariants as item
use Rattle.vlog_module.specs.declared.modules.Port.{Port}
use Rattle.vlog_module.specs.Parts.{Parts}
use Rattle.vlog_module.specs.Uses.{Use, uses_of}
use Rattle.vlog_module.specs.Uses.Use.{Declares, Reads, ReadsBit, Starts}
use Rattle.vlog_module.specs.WellFormed.{Scope, scope_of, section_of, is_known, is_first, IsInRange, IsAllowed}
use Rattle.vlog_forms.specs.declared.form.Form.TheVariants as form
use Rattle.vlog_forms.specs.declared.fault.VlogCause.TheVariants.{Order, Undeclared, AssignedTwice}
use Rattle.vlog_forms.specs.Values.{Value}
use Rattle.vlog_forms.specs.Values.Value.{Name, Edge, Bit, Word, Index, AnAtom}
use Rattle.vlog_forms.specs.Layout.{slots_of}
use Rattle.vlog_forms.specs.Items.{item_of, item_form, item_values, item_tokens, tokens_in}
use Rattle.vlog_forms.specs.Reading.{Found, values_of, offset_of, Whole}
use Rattle.vlog_forms.specs.Outcome.{fault, role_use, value_uses, uses_from, uses_in, use_fault, or_fault, fault_from, name_fault, item_fault, unless_fault, after, are_assigned, at_end, ending, is_end, module_of, with_item, item_outcome, items_outcome}
use Rattle.vlog_forms.proofs.Rebuilt.{item-back}
use Rattle.vlog_forms.proofs.Uses.{uses-of-values}
use Rattle.vlog_forms.proofs.ItemRead.{AreRanged, AreSmall, are_indexless, ranged-small, item-read, end-read}

-- ---- numbers in range

small-uses : (all : List Value) (place : ℕ) (values : List Value) → All IsInRange (uses_from all place values) → AreSmall values
small-uses all place [] ranged = tt
small-uses all place (AnAtom (atom.Bit bit) ∷ values) ranged = (tt, small-uses all (place + 1) values ranged)
small-uses all place (AnAtom (atom.Whole name) ∷ values) ranged =
    (tt, small-uses all (place + 1) values (All-tail IsInRange (Reads name) (uses_from all (place + 1) values) ranged))
small-uses all place (AnAtom (atom.Part name k) ∷ values) ranged =
    let more : List Use = uses_from all (place + 1) values in
    (le-leb k 15 (All-head IsInRange (ReadsBit name k) more ranged), small-uses all (place + 1) values (All-tail IsInRange (ReadsBit name k) more ranged))
small-uses all place (Name role name ∷ values) ranged =
    small-uses all (place + 1) values (All-tail IsInRange (role_use role all place name) (uses_from all (place + 1) values) ranged)
small-uses all place (Edge falling ∷ values) ranged = small-uses all (place + 1) values ranged
small-uses all place (Bit bit ∷ values) ranged = small-uses all (place + 1) values ranged
small-uses all place (Word word ∷ values) ranged = small-uses all (place + 1) values ranged
small-uses all place (Index k ∷ values) ranged = small-uses all (place + 1) values ranged

item-small : (one : Item) → All IsInRange (uses_of one) → AreSmall (item_values one)
item-small one ranged = small-uses (item_values one) 0 (item_values one) (subst (All IsInRange) (sym (uses-of-values one)) ranged)

-- the numbers of an item are in the ranges of its form
pub item-ranged : (one : Item) → All IsInRange (uses_of one) → AreRanged (slots_of (item_form one)) (item_values one)
unfolding AreRanged are_indexless slots_of
item-ranged (item.Register name start) ranged = ranged-small (slots_of form.Register) (item_values (item.Register name start)) refl (item-small (item.Register name start) ranged)
item-ranged (item.Word name start) ranged = ranged-small (slots_of form.Word) (item_values (item.Word name start)) refl (item-small (item.Word name start) ranged)
item-ranged (item.Memory name) ranged = ranged-small (slots_of form.Memory) (item_values (item.Memory name)) refl (item-small (item.Memory name) ranged)
item-ranged (item.Wire name (right.Bit bit)) ranged = ranged-small (slots_of form.WireBit) (item_values (item.Wire name (right.Bit bit))) refl (item-small (item.Wire name (right.Bit bit)) ranged)
item-ranged (item.Wire name (right.Whole source)) ranged = ranged-small (slots_of form.WireWhole) (item_values (item.Wire name (right.Whole source))) refl (item-small (item.Wire name (right.Whole source)) ranged)
item-ranged (item.Wire name (right.Part source k)) ranged =
    let small : nat_le k 15 ≡ true = le-leb k 15 (All-head IsInRange (ReadsBit source k) [] (All-tail IsInRange (Declares _ name) (ReadsBit source k ∷ []) ranged)) in
    (tt, (tt, (tt, (tt, (tt, (tt, (tt, (tt, (small, (tt, (tt, tt)))))))))))
item-ranged (item.Wire name (right.Lut lut)) ranged = ranged-small (slots_of form.WireLut) (item_values (item.Wire name (right.Lut lut))) refl (item-small (item.Wire name (right.Lut lut)) ranged)
item-ranged (item.Wire name (right.Majority a b c)) ranged = ranged-small (slots_of form.WireMajority) (item_values (item.Wire name (right.Majority a b c))) refl (item-small (item.Wire name (right.Majority a b c)) ranged)
item-ranged (item.Wire name (right.Choose reset set target)) ranged =
    ranged-small (slots_of form.WireChoose) (item_values (item.Wire name (right.Choose reset set target))) refl (item-small (item.Wire name (right.Choose reset set target)) ranged)
item-ranged (item.Assign name value) ranged = ranged-small (slots_of form.Assign) (item_values (item.Assign name value)) refl (item-small (item.Assign name value) ranged)
item-ranged (item.FlipFlop falling clock enable reset set target lut) ranged =
    ranged-small (slots_of form.FlipFlop) (item_values (item.FlipFlop falling clock enable reset set target lut)) refl (item-small (item.FlipFlop falling clock enable reset set target lut) ranged)
item-ranged (item.AsyncFlipFlop falling clock reset set target enable lut) ranged =
    ranged-small (slots_of form.AsyncFlipFlop) (item_values (item.AsyncFlipFlop falling clock reset set target enable lut)) refl (item-small (item.AsyncFlipFlop falling clock reset set target enable lut) ranged)
item-ranged (item.AsyncReset reset set target) ranged =
    ranged-small (slots_of form.AsyncReset) (item_values (item.AsyncReset reset set target)) refl (item-small (item.AsyncReset reset set target) ranged)
item-ranged (item.Read falling clock clock_enable enable target memory address) ranged =
    ranged-small (slots_of form.Read) (item_values (item.Read falling clock clock_enable enable target memory address)) refl (item-small (item.Read falling clock clock_enable enable target memory address) ranged)
item-ranged (item.ReadNarrow falling clock clock_enable enable target memory address shift pattern) ranged =
    ranged-small (slots_of form.ReadNarrow) (item_values (item.ReadNarrow falling clock clock_enable enable target memory address shift pattern)) refl (item-small (item.ReadNarrow falling clock clock_enable enable target memory address shift pattern) ranged)
item-ranged (item.Write falling clock clock_enable enable memory address mask bits) ranged =
    ranged-small (slots_of form.Write) (item_values (item.Write falling clock clock_enable enable memory address mask bits)) refl (item-small (item.Write falling clock clock_enable enable memory address mask bits) ranged)
item-ranged (item.WriteNarrow falling clock clock_enable enable memory address pattern shift bits) ranged =
    ranged-small (slots_of form.WriteNarrow) (item_values (item.WriteNarrow falling clock clock_enable enable memory address pattern shift bits)) refl (item-small (item.WriteNarrow falling clock clock_enable enable memory address pattern shift bits) ranged)
item-ranged (item.Start memory k word) ranged =
    let small : nat_le k 255 ≡ true = le-leb k 255 (All-head IsInRange (Starts memory k) [] ranged) in
    (tt, (tt, (tt, (tt, (small, (tt, (tt, (tt, (tt, (tt, (tt, tt)))))))))))

-- ---- names that are allowed have no fault

use-none : (scope : Scope) (offset : ℕ) (uses : List Use) → All (λ used. IsTrue (is_known scope used)) uses → All (λ used. IsTrue (is_first scope used)) uses → use_fault scope offset uses ≡ None
use-none scope offset [] known first = refl
use-none scope offset (used ∷ uses) known first =
    let here : is_known scope used ≡ true = All-head (λ each. IsTrue (is_known scope each)) used uses known in
    let now : is_first scope used ≡ true = All-head (λ each. IsTrue (is_first scope each)) used uses first in
    ap (λ b. if not b then Some (fault offset Undeclared) else if not (is_first scope used) then Some (fault offset AssignedTwice) else use_fault scope offset uses) here
    ∙ ap (λ b. if not b then Some (fault offset AssignedTwice) else use_fault scope offset uses) now
    ∙ use-none scope offset uses (All-tail (λ each. IsTrue (is_known scope each)) used uses known) (All-tail (λ each. IsTrue (is_first scope each)) used uses first)

All-front : {X : Type 0} (P : X → Type 0) (xs ys : List X) → All P (xs ++ ys) → All P xs × All P ys
All-front P [] ys all = ((λ k d lt. absurd (omega arith)), all)
All-front P (x ∷ xs) ys all =
    let more = All-front P xs ys (All-tail P x (xs ++ ys) all) in
    (λ k d lt. front P x xs (All-head P x (xs ++ ys) all) more.0 k d lt, more.1)
  where
    front : {X : Type 0} (P : X → Type 0) (x : X) (xs : List X) → P x → All P xs → All P (x ∷ xs)
    front P x xs one more zero d lt = one
    front P x xs one more (suc k) d lt = more k d (omega arith)

pub name-none : (scope : Scope) (all : List Value) (place : ℕ) (found : List Found) → All (λ used. IsTrue (is_known scope used)) (uses_from all place (values_of found))
    → All (λ used. IsTrue (is_first scope used)) (uses_from all place (values_of found)) → fault_from scope all place found ≡ None
name-none scope all place [] known first = refl
name-none scope all place (one ∷ found) known first =
    let uses : List Use = value_uses one.value all place in
    let more : List Use = uses_from all (place + 1) (values_of found) in
    let k = All-front (λ used. IsTrue (is_known scope used)) uses more known in
    let f = All-front (λ used. IsTrue (is_first scope used)) uses more first in
    ap (λ one. or_fault one (fault_from scope all (place + 1) found)) (use-none scope one.offset uses k.0 f.0) ∙ name-none scope all (place + 1) found k.1 f.1

-- an item that is allowed has no fault
pub item-none : (scope : Scope) (offset : ℕ) (one : Item) (found : List Found) → IsAllowed scope one → values_of found ≡ item_values one → item_fault scope offset one found ≡ None
item-none scope offset one found allowed is =
    let uses : uses_in (values_of found) ≡ uses_of one = ap uses_in is ∙ uses-of-values one in
    ap (λ b. if b then Some (fault offset Order) else name_fault scope found) (le-ltb (section_of one) scope.section allowed.ordered)
    ∙ name-none scope (values_of found) 0 found (subst (All (λ used. IsTrue (is_known scope used))) (sym uses) allowed.known) (subst (All (λ used. IsTrue (is_first scope used))) (sym uses) allowed.first)

-- ---- items one after another

-- items that may follow others, one after another
unfoldable pub MayFollow : List Port → List Item → List Item → Type 0
MayFollow ports before [] = Unit {0}
MayFollow ports before (one ∷ items) = IsAllowed (scope_of ports before) one × MayFollow ports (before ++ one ∷ []) items

item-not_end : (one : Item) → is_end (item_form one) ≡ false
item-not_end (item.Register name start) = refl
item-not_end (item.Word name start) = refl
item-not_end (item.Memory name) = refl
item-not_end (item.Wire name (right.Bit bit)) = refl
item-not_end (item.Wire name (right.Whole source)) = refl
item-not_end (item.Wire name (right.Part source k)) = refl
item-not_end (item.Wire name (right.Lut lut)) = refl
item-not_end (item.Wire name (right.Majority a b c)) = refl
item-not_end (item.Wire name (right.Choose reset set target)) = refl
item-not_end (item.Assign name value) = refl
item-not_end (item.FlipFlop falling clock enable reset set target lut) = refl
item-not_end (item.AsyncFlipFlop falling clock reset set target enable lut) = refl
item-not_end (item.AsyncReset reset set target) = refl
item-not_end (item.Read falling clock clock_enable enable target memory address) = refl
item-not_end (item.ReadNarrow falling clock clock_enable enable target memory address shift pattern) = refl
item-not_end (item.Write falling clock clock_enable enable memory address mask bits) = refl
item-not_end (item.WriteNarrow falling clock clock_enable enable memory address pattern shift bits) = refl
item-not_end (item.Start memory k word) = refl

-- the reading of a module's items and of `endmodule`, if every output is assigned
pub items-spelled : (most end : ℕ) (name : List ℕ) (ports : List Port) (before items : List Item) (spots : List Spot) → length items < most
    → MayFollow ports before items → are_assigned ports (before ++ items) ≡ true
    → tokens_in spots ≡ flat_map item_tokens items ++ token.fixed sign.Endmodule ∷ []
    → items_outcome most end (module_of name ports before) spots ≡ Ok (module_of name ports (before ++ items))
unfolding items_outcome MayFollow
items-spelled zero end name ports before items spots some follow assigned stands = absurd (omega arith)
items-spelled (suc most) end name ports before [] spots some follow assigned stands =
    let read = end-read end spots [] stands in
    let whole : Whole = record { form = form.End; found = read.found; spots = read.rest } in
    let m : Parts = module_of name ports before in
    let same : before ++ [] ≡ before = append-nil before in
    let done : are_assigned ports before ≡ true = ap (are_assigned ports) (sym same) ∙ assigned in
    ap (λ reading. after reading (item_outcome (items_outcome most end) m (offset_of end spots))) read.reads
    ∙ ap (λ b. if b then at_end m read.rest else Err (fault (offset_of end spots) Undeclared)) done
    ∙ nothing_left m read.rest read.left
    ∙ ap (λ all. Ok (module_of name ports all)) (sym same)
  where
    nothing_left : (m : Parts) (rest : List Spot) → tokens_in rest ≡ [] → at_end m rest ≡ Ok m
    nothing_left m [] none = refl
    nothing_left m (first ∷ rest) none = absurd cc
items-spelled (suc most) end name ports before (one ∷ items) spots some follow assigned stands =
    let m : Parts = module_of name ports before in
    let tail : List TokenValue = flat_map item_tokens items ++ token.fixed sign.Endmodule ∷ [] in
    let allowed : IsAllowed (scope_of ports before) one = follow.0 in
    let there : tokens_in spots ≡ item_tokens one ++ tail = stands ∙ append_assoc (item_tokens one) (flat_map item_tokens items) (token.fixed sign.Endmodule ∷ []) in
    let read = item-read end one spots tail allowed.shaped (item-ranged one allowed.in_range) there in
    let whole : Whole = record { form = item_form one; found = read.found; spots = read.rest } in
    let back : item_of (item_form one) (values_of read.found) ≡ one = ap (item_of (item_form one)) read.values ∙ item-back one allowed.shaped in
    let offset : ℕ = offset_of end spots in
    let next : List Item = before ++ one ∷ [] in
    let regroup : next ++ items ≡ before ++ one ∷ items = append_assoc before (one ∷ []) items in
    ap (λ reading. after reading (item_outcome (items_outcome most end) m offset)) read.reads
    ∙ ap (λ b. if b then ending m offset read.rest else unless_fault (item_fault (scope_of ports before) offset (item_of (item_form one) (values_of read.found)) read.found)
    (items_outcome most end (with_item m (item_of (item_form one) (values_of read.found))) read.rest)) (item-not_end one)
    ∙ ap (λ each. unless_fault (item_fault (scope_of ports before) offset each read.found) (items_outcome most end (with_item m each) read.rest)) back
    ∙ ap (λ none. unless_fault none (items_outcome most end (with_item m one) read.rest)) (item-none (scope_of ports before) offset one read.found allowed read.values)
    ∙ items-spelled most end name ports next items read.rest (omega arith) follow.1 (ap (are_assigned ports) regroup ∙ assigned) read.left
    ∙ ap (λ all. Ok (module_of name ports all)) regroup
