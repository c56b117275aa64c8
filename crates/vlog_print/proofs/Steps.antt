-- What slots add to a text, step by step.
use Rattle.std.proofs.Common.{◌≡◌, ℕ, zero, suc, ◌<◌, ◌≤◌, ◌+◌, ◌-◌, true, false, List, [], ◌∷◌, ◌++◌, length, get_or, take, drop, map, refl, ap, sym, ◌∙◌, arith, append_assoc}
use Rattle.std.proofs.lemmas.Option.{get_or_from_slice_get}
use Rattle.std.proofs.lemmas.List.{reverse-append, append-nil, drop_more, take_more, get_or-map, length-map, drop_all}
use Rattle.std.specs.Prelude.{slice_get, Some, reverse}
use Rattle.vlog_module.specs.declared.atoms.Atom.{Atom}
use Rattle.vlog_forms.specs.Values.Value.{AnAtom}
use Rattle.vlog_tokens.specs.Fixed.{fixed_text}
use Rattle.vlog_tokens.specs.declared.fixed.Fixed.{Fixed}
use Rattle.vlog_tokens.specs.declared.fixed.Fixed.TheVariants as sign
use Rattle.vlog_forms.specs.declared.slot.Slot.{Slot}
use Rattle.vlog_forms.specs.declared.slot.Slot.TheVariants as slot
use Rattle.vlog_forms.specs.declared.value.Value as read
use Rattle.vlog_forms.specs.Values.{Value, seen, value_tokens, tokens_at}
use Rattle.vlog_forms.specs.Layout.{takes_value, exact_tokens, more_slots, atom_slots, again_slots, first_again_slots}
use Rattle.vlog_forms.specs.Printed.{decimal_text, space_text, tokens_text, written, line_of}
use Rattle.vlog_forms.proofs.WrittenSlots.{written-passed, written-took, written-none}
use Rattle.vlog_print.specs.Rest.{all_seen, with_rest}

pub append_nothing : (text : List ℕ) → text ++ [] ≡ text
append_nothing text = append-nil text

-- ---- a text with what is still to come

pub rest-none : (text : List ℕ) (values : List read.Value) (next : ℕ) → with_rest text [] values next ≡ text
unfolding with_rest written
rest-none text values next = append-nil text

pub rest-passed : (text : List ℕ) (one : Slot) (more : List Slot) (values : List read.Value) (next : ℕ) → takes_value one ≡ false
    → with_rest text (one ∷ more) values next ≡ with_rest (text ++ (space_text one ++ tokens_text (exact_tokens (take next (all_seen values)) one))) more values next
unfolding with_rest
rest-passed text one more values next takes =
    let before : List Value = take next (all_seen values) in
    let after : List Value = drop next (all_seen values) in
    ap (λ tail. text ++ tail) (written-passed one more before after takes)
    ∙ sym (append_assoc text (space_text one ++ tokens_text (exact_tokens before one)) (written more before after))

pub rest-space : (text : List ℕ) (more : List Slot) (values : List read.Value) (next : ℕ) → with_rest text (slot.Space ∷ more) values next ≡ with_rest (text ++ 32 ∷ []) more values next
rest-space text more values next = rest-passed text slot.Space more values next refl

pub rest-fixed : (text : List ℕ) (fixed : Fixed) (more : List Slot) (values : List read.Value) (next : ℕ) → with_rest text (slot.Fixed fixed ∷ more) values next ≡ with_rest (text ++ fixed_text fixed) more values next
rest-fixed text fixed more values next =
    rest-passed text (slot.Fixed fixed) more values next refl
    ∙ ap (λ end. with_rest (text ++ end) more values next) (append-nil (fixed_text fixed))

pub rest-literal : (text : List ℕ) (number : ℕ) (more : List Slot) (values : List read.Value) (next : ℕ) → with_rest text (slot.Literal number ∷ more) values next ≡ with_rest (text ++ decimal_text number) more values next
rest-literal text number more values next =
    rest-passed text (slot.Literal number) more values next refl
    ∙ ap (λ end. with_rest (text ++ end) more values next) (append-nil (decimal_text number))

pub rest-again : (text : List ℕ) (place : ℕ) (more : List Slot) (values : List read.Value) (next : ℕ) → with_rest text (slot.Again place ∷ more) values next ≡ with_rest (text ++ tokens_text (tokens_at (take next (all_seen values)) place)) more values next
rest-again text place more values next = rest-passed text (slot.Again place) more values next refl

pub rest-took : (text : List ℕ) (one : Slot) (more : List Slot) (values : List read.Value) (next : ℕ) (default : read.Value) → next < length values → takes_value one ≡ true
    → with_rest text (one ∷ more) values next ≡ with_rest (text ++ tokens_text (value_tokens (seen (get_or values next default)))) more values (next + 1)
unfolding with_rest
rest-took text one more values next default inside takes =
    let value : read.Value = get_or values next default in
    let all : List Value = all_seen values in
    let before : List Value = take next all in
    let after : List Value = drop (next + 1) all in
    let within : next < length all = rw (length-map values seen) inside in
    let here : get_or all next (seen value) ≡ seen value = get_or-map seen values next default (seen value) inside in
    let cut : drop next all ≡ seen value ∷ after = drop_more all next (seen value) within ∙ ap (λ each. each ∷ after) here in
    let grown : take (next + 1) all ≡ before ++ seen value ∷ [] = take_more all next (seen value) within ∙ ap (λ each. before ++ each ∷ []) here in
    ap (λ tail. text ++ written (one ∷ more) before tail) cut
    ∙ ap (λ tail. text ++ tail) (written-took one more before (seen value) after takes)
    ∙ sym (append_assoc text (tokens_text (value_tokens (seen value))) (written more (before ++ seen value ∷ []) after))
    ∙ ap (λ front. (text ++ tokens_text (value_tokens (seen value))) ++ written more front after) (sym grown)

pub rest-missing : (text : List ℕ) (one : Slot) (more : List Slot) (values : List read.Value) (next : ℕ) → length values ≤ next → takes_value one ≡ true
    → with_rest text (one ∷ more) values next ≡ with_rest text more values next
unfolding with_rest
rest-missing text one more values next past takes =
    let all : List Value = all_seen values in
    let beyond : length all ≤ next = rw (length-map values seen) past in
    let none : drop next all ≡ [] = drop_all next all beyond in
    ap (λ tail. text ++ written (one ∷ more) (take next all) tail) none
    ∙ ap (λ tail. text ++ tail) (written-none one more (take next all) takes)
    ∙ ap (λ tail. text ++ written more (take next all) tail) (sym none)

-- ---- atoms in braces

pub more-none : (text : List ℕ) (count : ℕ) (more : List Slot) (values : List read.Value) (next : ℕ) → count ≡ 0 → with_rest text (more_slots count ++ more) values next ≡ with_rest (text ++ 125 ∷ []) more values next
more-none text count more values next none =
    ap (λ n. with_rest text (more_slots n ++ more) values next) none ∙ rest-fixed text sign.CloseBrace more values next

comma_space : (text : List ℕ) (more : List Slot) (values : List read.Value) (next : ℕ) → with_rest text (slot.Fixed sign.Comma ∷ slot.Space ∷ more) values next ≡ with_rest (text ++ 44 ∷ 32 ∷ []) more values next
comma_space text more values next =
    rest-fixed text sign.Comma (slot.Space ∷ more) values next ∙ rest-space (text ++ 44 ∷ []) more values next
    ∙ ap (λ front. with_rest front more values next) (append_assoc text (44 ∷ []) (32 ∷ []))

pub more-some : (text : List ℕ) (count : ℕ) (more : List Slot) (values : List read.Value) (next : ℕ) → 0 < count
    → with_rest text (more_slots count ++ more) values next ≡ with_rest (text ++ 44 ∷ 32 ∷ []) (slot.Atom ∷ (more_slots (count - 1) ++ more)) values next
more-some text count more values next some =
    let one : count ≡ suc (count - 1) = omega arith in
    ap (λ n. with_rest text (more_slots n ++ more) values next) one
    ∙ comma_space text (slot.Atom ∷ (more_slots (count - 1) ++ more)) values next

pub atoms-none : (text : List ℕ) (count : ℕ) (more : List Slot) (values : List read.Value) (next : ℕ) → count ≡ 0
    → with_rest text (slot.Fixed sign.OpenBrace ∷ (atom_slots count ++ more)) values next ≡ with_rest ((text ++ 123 ∷ []) ++ 125 ∷ []) more values next
atoms-none text count more values next none =
    rest-fixed text sign.OpenBrace (atom_slots count ++ more) values next
    ∙ ap (λ n. with_rest (text ++ 123 ∷ []) (atom_slots n ++ more) values next) none
    ∙ rest-fixed (text ++ 123 ∷ []) sign.CloseBrace more values next

pub atoms-some : (text : List ℕ) (count : ℕ) (more : List Slot) (values : List read.Value) (next : ℕ) → 0 < count
    → with_rest text (slot.Fixed sign.OpenBrace ∷ (atom_slots count ++ more)) values next ≡ with_rest (text ++ 123 ∷ []) (slot.Atom ∷ (more_slots (count - 1) ++ more)) values next
atoms-some text count more values next some =
    let one : count ≡ suc (count - 1) = omega arith in
    rest-fixed text sign.OpenBrace (atom_slots count ++ more) values next
    ∙ ap (λ n. with_rest (text ++ 123 ∷ []) (atom_slots n ++ more) values next) one

pub again-none : (text : List ℕ) (first count : ℕ) (more : List Slot) (values : List read.Value) (next : ℕ) → count ≡ 0 → with_rest text (again_slots first count ++ more) values next ≡ with_rest (text ++ 125 ∷ []) more values next
again-none text first count more values next none =
    ap (λ n. with_rest text (again_slots first n ++ more) values next) none ∙ rest-fixed text sign.CloseBrace more values next

pub again-some : (text : List ℕ) (first count : ℕ) (more : List Slot) (values : List read.Value) (next : ℕ) → 0 < count
    → with_rest text (again_slots first count ++ more) values next
    ≡ with_rest ((text ++ 44 ∷ 32 ∷ []) ++ tokens_text (tokens_at (take next (all_seen values)) first)) (again_slots (first + 1) (count - 1) ++ more) values next
again-some text first count more values next some =
    let one : count ≡ suc (count - 1) = omega arith in
    let place : suc first ≡ first + 1 = omega arith in
    ap (λ n. with_rest text (again_slots first n ++ more) values next) one
    ∙ comma_space text (slot.Again first ∷ (again_slots (suc first) (count - 1) ++ more)) values next
    ∙ rest-again (text ++ 44 ∷ 32 ∷ []) first (again_slots (suc first) (count - 1) ++ more) values next
    ∙ ap (λ at. with_rest ((text ++ 44 ∷ 32 ∷ []) ++ tokens_text (tokens_at (take next (all_seen values)) first)) (again_slots at (count - 1) ++ more) values next) place

pub first_again-none : (text : List ℕ) (first count : ℕ) (more : List Slot) (values : List read.Value) (next : ℕ) → count ≡ 0
    → with_rest text (slot.Fixed sign.OpenBrace ∷ (first_again_slots first count ++ more)) values next ≡ with_rest ((text ++ 123 ∷ []) ++ 125 ∷ []) more values next
first_again-none text first count more values next none =
    rest-fixed text sign.OpenBrace (first_again_slots first count ++ more) values next
    ∙ ap (λ n. with_rest (text ++ 123 ∷ []) (first_again_slots first n ++ more) values next) none
    ∙ rest-fixed (text ++ 123 ∷ []) sign.CloseBrace more values next

pub first_again-some : (text : List ℕ) (first count : ℕ) (more : List Slot) (values : List read.Value) (next : ℕ) → 0 < count
    → with_rest text (slot.Fixed sign.OpenBrace ∷ (first_again_slots first count ++ more)) values next
    ≡ with_rest ((text ++ 123 ∷ []) ++ tokens_text (tokens_at (take next (all_seen values)) first)) (again_slots (first + 1) (count - 1) ++ more) values next
first_again-some text first count more values next some =
    let one : count ≡ suc (count - 1) = omega arith in
    let place : suc first ≡ first + 1 = omega arith in
    rest-fixed text sign.OpenBrace (first_again_slots first count ++ more) values next
    ∙ ap (λ n. with_rest (text ++ 123 ∷ []) (first_again_slots first n ++ more) values next) one
    ∙ rest-again (text ++ 123 ∷ []) first (again_slots (suc first) (count - 1) ++ more) values next
    ∙ ap (λ at. with_rest ((text ++ 123 ∷ []) ++ tokens_text (tokens_at (take next (all_seen values)) first)) (again_slots at (count - 1) ++ more) values next) place

-- a value at an index, which filled an earlier slot
pub tokens_at-place : (values : List read.Value) (next place : ℕ) (default : read.Value) → place < next → next ≤ length values
    → tokens_at (take next (all_seen values)) place ≡ value_tokens (seen (get_or values place default))
tokens_at-place [] next place default before within = absurd (omega arith)
tokens_at-place (first ∷ values) zero place default before within = absurd (omega arith)
tokens_at-place (first ∷ values) (suc next) zero default before within = refl
tokens_at-place (first ∷ values) (suc next) (suc place) default before within =
    tokens_at-place values next place default (omega arith) (omega arith)

-- no place before: a stray token, which has no text
pub tokens_at-past : (values : List Value) (place : ℕ) → length values ≤ place → tokens_text (tokens_at values place) ≡ []
tokens_at-past [] place past = refl
tokens_at-past (first ∷ values) zero past = absurd (omega arith)
tokens_at-past (first ∷ values) (suc place) past = tokens_at-past values place (omega arith)

-- atoms from the last one on
pub atoms-step : (values more : List Value) (atoms : List Atom) (place : ℕ) (one : Atom) → place < length atoms → slice_get atoms place ≡ Some one → more ≡ values ++ AnAtom one ∷ []
    → more ++ map AnAtom (reverse (take place atoms)) ≡ values ++ map AnAtom (reverse (take (place + 1) atoms))
atoms-step values more atoms place one inside is pushed =
    let here : get_or atoms place one ≡ one = get_or_from_slice_get atoms place one one is in
    let grown : take (place + 1) atoms ≡ take place atoms ++ one ∷ [] = take_more atoms place one inside ∙ ap (λ each. take place atoms ++ each ∷ []) here in
    let turned : reverse (take (place + 1) atoms) ≡ one ∷ reverse (take place atoms) = ap reverse grown ∙ reverse-append (take place atoms) (one ∷ []) in
    ap (λ front. front ++ map AnAtom (reverse (take place atoms))) pushed
    ∙ append_assoc values (AnAtom one ∷ []) (map AnAtom (reverse (take place atoms)))
    ∙ ap (λ list. values ++ map AnAtom list) (sym turned)

-- a line
pub line-is : (out text : List ℕ) → ((out ++ 32 ∷ 32 ∷ []) ++ text) ++ 10 ∷ [] ≡ out ++ line_of text
line-is out text =
    append_assoc (out ++ 32 ∷ 32 ∷ []) text (10 ∷ []) ∙ append_assoc out (32 ∷ 32 ∷ []) (text ++ 10 ∷ [])
