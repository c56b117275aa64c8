-- The tokens of what slots and values write are the tokens that they make.
use Rattle.std.proofs.Common.{◌≡◌, ℕ, zero, suc, ◌<◌, Bool, true, false, not, ◌&&◌, List, [], ◌∷◌, ◌++◌, length, take, drop, refl, ap, sym, ◌∙◌, subst, append_assoc, arith}
use Rattle.std.proofs.lemmas.Bool.{ltb-true, and_parts}
use Rattle.std.proofs.lemmas.List.{append-nil, length-append}
use Rattle.std.specs.Prelude.{if◌then◌else◌, nat_lt}
use Rattle.shared_lemmas.proofs.Tests.{if_both}
use Rattle.vlog_tokens.specs.declared.fixed.Fixed.{Fixed}
use Rattle.vlog_tokens.specs.declared.fixed.Fixed.TheVariants as sign
use Rattle.vlog_tokens.specs.Fixed.{fixed_text}
use Rattle.vlog_tokens.specs.Tokens.{TokenValue}
use Rattle.vlog_tokens.specs.Tokens.{TokenValue as token}
use Rattle.vlog_module.specs.Names.{IsName}
use Rattle.vlog_module.specs.declared.atoms.Atom.TheVariants as atom
use Rattle.vlog_forms.specs.declared.slot.Slot.{Slot}
use Rattle.vlog_forms.specs.declared.slot.Slot.TheVariants as slot
use Rattle.vlog_forms.specs.Values.{Value, value_tokens, tokens_at, edge_sign}
use Rattle.vlog_forms.specs.Values.Value.{Name, Edge, Bit, Word, Index, AnAtom}
use Rattle.vlog_forms.specs.Layout.{takes_value, exact_tokens, first_tokens, filled}
use Rattle.vlog_forms.specs.Printed.{token_text, tokens_text, space_text, written, decimal_text}
use Rattle.vlog_forms.proofs.Plain.{plain, plain-blank, plain-front, FrontIs, closes, fixed-front, name-front, is_reserved_word}
use Rattle.vlog_forms.proofs.Digits.{bit-front, word_text-front, number-front}
use Rattle.vlog_forms.proofs.SlotLists.{FitAll, FitsFirst, filled-took, filled-passed, is_before, are_before}

-- ---- what slots and values write, slot by slot

space-takes : (one : Slot) → takes_value one ≡ true → space_text one ≡ []
space-takes slot.Space takes = absurd cc
space-takes (slot.Fixed fixed) takes = refl
space-takes (slot.Literal number) takes = refl
space-takes (slot.Again place) takes = refl
space-takes (slot.AtomsAgain first n) takes = refl
space-takes (slot.Atoms n) takes = refl
space-takes (slot.Name role) takes = refl
space-takes slot.Edge takes = refl
space-takes slot.Bit takes = refl
space-takes slot.Word takes = refl
space-takes (slot.Index limit) takes = refl
space-takes slot.Atom takes = refl

pub written-passed : (one : Slot) (slots : List Slot) (before after : List Value) → takes_value one ≡ false
    → written (one ∷ slots) before after ≡ (space_text one ++ tokens_text (exact_tokens before one)) ++ written slots before after
unfolding written
written-passed one slots before after takes =
    ap (λ b. (space_text one ++ tokens_text (if b then first_tokens after else exact_tokens before one))
    ++ written slots (if b then before ++ take 1 after else before) (if b then drop 1 after else after)) takes

pub written-took : (one : Slot) (slots : List Slot) (before : List Value) (value : Value) (after : List Value) → takes_value one ≡ true
    → written (one ∷ slots) before (value ∷ after) ≡ tokens_text (value_tokens value) ++ written slots (before ++ value ∷ []) after
unfolding written
written-took one slots before value after takes =
    ap (λ b. (space_text one ++ tokens_text (if b then first_tokens (value ∷ after) else exact_tokens before one))
    ++ written slots (if b then before ++ take 1 (value ∷ after) else before) (if b then drop 1 (value ∷ after) else value ∷ after)) takes
    ∙ ap (λ space. (space ++ tokens_text (value_tokens value)) ++ written slots (before ++ value ∷ []) after) (space-takes one takes)

pub written-none : (one : Slot) (slots : List Slot) (before : List Value) → takes_value one ≡ true → written (one ∷ slots) before [] ≡ written slots before []
unfolding written
written-none one slots before takes =
    ap (λ b. (space_text one ++ tokens_text (if b then first_tokens [] else exact_tokens before one))
    ++ written slots (if b then before ++ take 1 [] else before) (if b then drop 1 [] else [])) takes
    ∙ ap (λ space. (space ++ []) ++ written slots (before ++ []) []) (space-takes one takes)
    ∙ ap (λ all. written slots all []) (append-nil before)

-- ---- single tokens and values

-- a token that a text can have
abbrev pub IsProper : TokenValue → Type 0
IsProper (token.fixed fixed) = Unit {0}
IsProper (token.name name) = IsName name
IsProper (token.bit bit) = Unit {0}
IsProper (token.word word) = word < 65536
IsProper (token.number number) = number < 1000
IsProper token.stray = ⊥

token-front : (one : TokenValue) (rest : List ℕ) → IsProper one → closes rest ≡ true → FrontIs (token_text one) rest one
token-front (token.fixed fixed) rest proper shut = fixed-front fixed rest (λ reserved. shut)
token-front (token.name name) rest proper shut = name-front name rest proper shut
token-front (token.bit bit) rest proper shut = bit-front bit rest
token-front (token.word word) rest proper shut = word_text-front word rest proper
token-front (token.number number) rest proper shut = number-front number rest proper shut
token-front token.stray rest proper shut = absurd proper

token-plain : (one : TokenValue) (rest : List ℕ) → IsProper one → closes rest ≡ true → plain (tokens_text (one ∷ []) ++ rest) ≡ one ∷ plain rest
token-plain one rest proper shut =
    ap (λ text. plain (text ++ rest)) (append-nil (token_text one)) ∙ plain-front (token_text one) rest one (token-front one rest proper shut)

-- a value that can be written
abbrev pub IsWritable : Value → Type 0
IsWritable (Name role name) = IsName name
IsWritable (Word word) = word < 65536
IsWritable (Index index) = index < 1000
IsWritable (AnAtom (atom.Whole name)) = IsName name
IsWritable (AnAtom (atom.Part name k)) = IsName name × (k < 1000)
IsWritable _ = Unit {0}

abbrev pub AreWritable : List Value → Type 0
AreWritable [] = Unit {0}
AreWritable (value ∷ values) = IsWritable value × AreWritable values

part-plain : (name : List ℕ) (k : ℕ) (rest : List ℕ) → IsName name → k < 1000
    → plain (tokens_text (value_tokens (AnAtom (atom.Part name k))) ++ rest) ≡ value_tokens (AnAtom (atom.Part name k)) ++ plain rest
part-plain name k rest named small =
    let following : List ℕ = 93 ∷ rest in
    let close : plain (93 ∷ rest) ≡ token.fixed sign.CloseBracket ∷ plain rest = plain-front (93 ∷ []) rest (token.fixed sign.CloseBracket) (fixed-front sign.CloseBracket rest (λ h. absurd cc)) in
    let number : plain (decimal_text k ++ 93 ∷ rest) ≡ token.number k ∷ plain (93 ∷ rest) = plain-front (decimal_text k) (93 ∷ rest) (token.number k) (number-front k (93 ∷ rest) small refl) in
    let bracket : plain (91 ∷ (decimal_text k ++ 93 ∷ rest)) ≡ token.fixed sign.OpenBracket ∷ plain (decimal_text k ++ 93 ∷ rest)
    = plain-front (91 ∷ []) (decimal_text k ++ 93 ∷ rest) (token.fixed sign.OpenBracket) (fixed-front sign.OpenBracket (decimal_text k ++ 93 ∷ rest) (λ h. absurd cc)) in
    let first : plain (name ++ (91 ∷ (decimal_text k ++ 93 ∷ rest))) ≡ token.name name ∷ plain (91 ∷ (decimal_text k ++ 93 ∷ rest))
    = plain-front name (91 ∷ (decimal_text k ++ 93 ∷ rest)) (token.name name) (name-front name (91 ∷ (decimal_text k ++ 93 ∷ rest)) named refl) in
    let regroup : tokens_text (value_tokens (AnAtom (atom.Part name k))) ++ rest ≡ name ++ (91 ∷ (decimal_text k ++ 93 ∷ rest))
    = append_assoc name (91 ∷ (decimal_text k ++ (93 ∷ []))) rest ∙ ap (λ more. name ++ (91 ∷ more)) (append_assoc (decimal_text k) (93 ∷ []) rest) in
    ap plain regroup ∙ first ∙ ap (λ more. token.name name ∷ more) (bracket ∙ ap (λ more. token.fixed sign.OpenBracket ∷ more) (number ∙ ap (λ more. token.number k ∷ more) close))

value-plain : (value : Value) (rest : List ℕ) → IsWritable value → closes rest ≡ true → plain (tokens_text (value_tokens value) ++ rest) ≡ value_tokens value ++ plain rest
value-plain (Name role name) rest proper shut = token-plain (token.name name) rest proper shut
value-plain (Edge falling) rest proper shut = token-plain (token.fixed (edge_sign falling)) rest tt shut
value-plain (Bit bit) rest proper shut = token-plain (token.bit bit) rest tt shut
value-plain (Word word) rest proper shut = token-plain (token.word word) rest proper shut
value-plain (Index index) rest proper shut = token-plain (token.number index) rest proper shut
value-plain (AnAtom (atom.Bit bit)) rest proper shut = token-plain (token.bit bit) rest tt shut
value-plain (AnAtom (atom.Whole name)) rest proper shut = token-plain (token.name name) rest proper shut
value-plain (AnAtom (atom.Part name k)) rest proper shut = part-plain name k rest proper.0 proper.1

place-plain : (values : List Value) (place : ℕ) (rest : List ℕ) → place < length values → AreWritable values → closes rest ≡ true
    → plain (tokens_text (tokens_at values place) ++ rest) ≡ tokens_at values place ++ plain rest
place-plain [] place rest within proper shut = absurd (omega arith)
place-plain (value ∷ values) zero rest within proper shut = value-plain value rest proper.0 shut
place-plain (value ∷ values) (suc place) rest within proper shut = place-plain values place rest (omega arith) proper.1 shut

-- ---- slots

-- whether a slot's text has to end as a word does, and whether a slot ends the word before it
abbrev needs_close : Slot → Bool
needs_close slot.Space = false
needs_close (slot.Fixed fixed) = is_reserved_word fixed
needs_close _ = true

abbrev starts_close : Slot → Bool
starts_close slot.Space = true
starts_close (slot.Fixed fixed) = not (is_reserved_word fixed)
starts_close _ = false

abbrev begins_shut : List Slot → Bool
begins_shut [] = true
begins_shut (one ∷ slots) = starts_close one

abbrev small_literal : Slot → Bool
small_literal (slot.Literal number) = nat_lt number 1000
small_literal _ = true

unfoldable pub are_shut : List Slot → Bool
are_shut [] = true
are_shut (one ∷ slots) = ((if needs_close one then begins_shut slots else true) && small_literal one) && are_shut slots

sign-closes : (fixed : Fixed) (rest : List ℕ) → not (is_reserved_word fixed) ≡ true → closes (fixed_text fixed ++ rest) ≡ true
sign-closes sign.OpenParen rest free = refl
sign-closes sign.CloseParen rest free = refl
sign-closes sign.OpenBracket rest free = refl
sign-closes sign.CloseBracket rest free = refl
sign-closes sign.OpenBrace rest free = refl
sign-closes sign.CloseBrace rest free = refl
sign-closes sign.Comma rest free = refl
sign-closes sign.Semicolon rest free = refl
sign-closes sign.Colon rest free = refl
sign-closes sign.Equals rest free = refl
sign-closes sign.LessEquals rest free = refl
sign-closes sign.And rest free = refl
sign-closes sign.Or rest free = refl
sign-closes sign.Not rest free = refl
sign-closes sign.ShiftLeft rest free = refl
sign-closes sign.ShiftRight rest free = refl
sign-closes sign.At rest free = refl
sign-closes sign.Question rest free = refl
sign-closes fixed rest free = absurd cc

written-closes : (slots : List Slot) (before after : List Value) (rest : List ℕ) → begins_shut slots ≡ true → closes rest ≡ true → closes (written slots before after ++ rest) ≡ true
unfolding written
written-closes [] before after rest shut closed = closed
written-closes (slot.Space ∷ slots) before after rest shut closed = refl
written-closes (slot.Fixed fixed ∷ slots) before after rest shut closed =
    let text : List ℕ = written slots before after in
    let flat : ((fixed_text fixed ++ []) ++ text) ++ rest ≡ fixed_text fixed ++ (text ++ rest)
    = ap (λ front. (front ++ text) ++ rest) (append-nil (fixed_text fixed)) ∙ append_assoc (fixed_text fixed) text rest in
    ap closes flat ∙ sign-closes fixed (text ++ rest) shut
written-closes (one ∷ slots) before after rest shut closed = absurd cc

takes-needs : (one : Slot) → takes_value one ≡ true → needs_close one ≡ true
takes-needs (slot.Name role) takes = refl
takes-needs slot.Edge takes = refl
takes-needs slot.Bit takes = refl
takes-needs slot.Word takes = refl
takes-needs (slot.Index limit) takes = refl
takes-needs slot.Atom takes = refl
takes-needs one takes = absurd cc

exact-plain : (one : Slot) (before : List Value) (rest : List ℕ) → takes_value one ≡ false → small_literal one ≡ true → is_before (length before) one ≡ true
    → AreWritable before → (needs_close one ≡ true → closes rest ≡ true)
    → plain ((space_text one ++ tokens_text (exact_tokens before one)) ++ rest) ≡ exact_tokens before one ++ plain rest
exact-plain slot.Space before rest takes small known proper shut = plain-blank 32 rest refl
exact-plain (slot.Fixed fixed) before rest takes small known proper shut =
    ap (λ text. plain (text ++ rest)) (append-nil (fixed_text fixed)) ∙ plain-front (fixed_text fixed) rest (token.fixed fixed) (fixed-front fixed rest shut)
exact-plain (slot.Literal number) before rest takes small known proper shut =
    token-plain (token.number number) rest (ltb-true number 1000 small) (shut refl)
exact-plain (slot.Again place) before rest takes small known proper shut =
    place-plain before place rest (ltb-true place (length before) known) proper (shut refl)
exact-plain (slot.AtomsAgain first n) before rest takes small known proper shut = refl
exact-plain (slot.Atoms n) before rest takes small known proper shut = refl
exact-plain one before rest takes small known proper shut = absurd cc

-- what is written after a slot
abbrev PlainMore : List Slot → List ℕ → Type 0
PlainMore slots rest = (before after : List Value) → are_before (length before) slots ≡ true → AreWritable before → AreWritable after → FitAll slots after
    → plain (written slots before after ++ rest) ≡ filled slots before after ++ plain rest

push-writable : (before : List Value) (value : Value) → AreWritable before → IsWritable value → AreWritable (before ++ value ∷ [])
push-writable [] value proper one = (one, tt)
push-writable (first ∷ before) value proper one = (proper.0, push-writable before value proper.1 one)

record ShutParts (one : Slot) (slots : List Slot) (n : ℕ) : Type 0 where
  next : needs_close one ≡ true → begins_shut slots ≡ true
  small : small_literal one ≡ true
  known : is_before n one ≡ true
  before : are_before (if takes_value one then suc n else n) slots ≡ true

if_true : (a b : Bool) → (if a then b else true) ≡ true → a ≡ true → b ≡ true
if_true true b h k = h
if_true false b h k = absurd cc

shut-parts : (one : Slot) (slots : List Slot) (n : ℕ) → are_shut (one ∷ slots) ≡ true → are_before n (one ∷ slots) ≡ true → ShutParts one slots n
unfolding are_shut are_before
shut-parts one slots n shut known =
    let parts = and_parts ((if needs_close one then begins_shut slots else true) && small_literal one) (are_shut slots) shut in
    let first = and_parts (if needs_close one then begins_shut slots else true) (small_literal one) parts.0 in
    let places = if_both (is_before n one) (are_before (if takes_value one then suc n else n) slots) known in
    record { next = if_true (needs_close one) (begins_shut slots) first.0; small = first.1; known = places.0; before = places.1 }

took_case : (one : Slot) (slots : List Slot) (before : List Value) (value : Value) (after : List Value) (rest : List ℕ) → takes_value one ≡ true → ShutParts one slots (length before)
    → AreWritable before → IsWritable value → AreWritable after → FitAll slots after → closes rest ≡ true → PlainMore slots rest
    → plain (written (one ∷ slots) before (value ∷ after) ++ rest) ≡ filled (one ∷ slots) before (value ∷ after) ++ plain rest
took_case one slots before value after rest takes parts proper fine others fit closed more =
    let here : List Value = before ++ value ∷ [] in
    let text : List ℕ = written slots here after in
    let front : List ℕ = tokens_text (value_tokens value) in
    let shut : closes (text ++ rest) ≡ true = written-closes slots here after rest (parts.next (takes-needs one takes)) closed in
    let count : suc (length before) ≡ length here = omega (arith, length-append before (value ∷ [])) in
    let places : are_before (suc (length before)) slots ≡ true = ap (λ b. are_before (if b then suc (length before) else length before) slots) (sym takes) ∙ parts.before in
    let following : plain (text ++ rest) ≡ filled slots here after ++ plain rest
    = more here after (ap (λ n. are_before n slots) (sym count) ∙ places) (push-writable before value proper fine) others fit in
    ap (λ all. plain (all ++ rest)) (written-took one slots before value after takes)
    ∙ ap plain (append_assoc front text rest)
    ∙ value-plain value (text ++ rest) fine shut
    ∙ ap (λ tokens. value_tokens value ++ tokens) following
    ∙ sym (append_assoc (value_tokens value) (filled slots here after) (plain rest))
    ∙ ap (λ all. all ++ plain rest) (sym (filled-took one slots before value after takes))

passed_case : (one : Slot) (slots : List Slot) (before after : List Value) (rest : List ℕ) → takes_value one ≡ false → ShutParts one slots (length before)
    → AreWritable before → AreWritable after → FitAll slots after → closes rest ≡ true → PlainMore slots rest
    → plain (written (one ∷ slots) before after ++ rest) ≡ filled (one ∷ slots) before after ++ plain rest
passed_case one slots before after rest takes parts proper others fit closed more =
    let text : List ℕ = written slots before after in
    let front : List ℕ = space_text one ++ tokens_text (exact_tokens before one) in
    let places : are_before (length before) slots ≡ true = ap (λ b. are_before (if b then suc (length before) else length before) slots) (sym takes) ∙ parts.before in
    let following : plain (text ++ rest) ≡ filled slots before after ++ plain rest = more before after places proper others fit in
    ap (λ all. plain (all ++ rest)) (written-passed one slots before after takes)
    ∙ ap plain (append_assoc front text rest)
    ∙ exact-plain one before (text ++ rest) takes parts.small parts.known proper (λ needs. written-closes slots before after rest (parts.next needs) closed)
    ∙ ap (λ tokens. exact_tokens before one ++ tokens) following
    ∙ sym (append_assoc (exact_tokens before one) (filled slots before after) (plain rest))
    ∙ ap (λ all. all ++ plain rest) (sym (filled-passed one slots before after takes))

slot_case : (b : Bool) (one : Slot) (slots : List Slot) (before after : List Value) (rest : List ℕ) → takes_value one ≡ b → ShutParts one slots (length before)
    → AreWritable before → AreWritable after → FitAll (one ∷ slots) after → closes rest ≡ true → PlainMore slots rest
    → plain (written (one ∷ slots) before after ++ rest) ≡ filled (one ∷ slots) before after ++ plain rest
unfolding FitAll
slot_case true one slots before [] rest takes parts proper others fit closed more =
    let first = subst (λ (b : Bool). FitsFirst b one [] × FitAll slots (if b then drop 1 [] else [])) takes fit in absurd first.0
slot_case true one slots before (value ∷ after) rest takes parts proper others fit closed more =
    let first = subst (λ (b : Bool). FitsFirst b one (value ∷ after) × FitAll slots (if b then drop 1 (value ∷ after) else value ∷ after)) takes fit in
    took_case one slots before value after rest takes parts proper others.0 others.1 first.1 closed more
slot_case false one slots before after rest takes parts proper others fit closed more =
    let first = subst (λ (b : Bool). FitsFirst b one after × FitAll slots (if b then drop 1 after else after)) takes fit in
    passed_case one slots before after rest takes parts proper others first.1 closed more

-- what slots and values write has the tokens that they make
pub plain-written : (slots : List Slot) (before after : List Value) (rest : List ℕ) → are_shut slots ≡ true → are_before (length before) slots ≡ true
    → AreWritable before → AreWritable after → FitAll slots after → closes rest ≡ true
    → plain (written slots before after ++ rest) ≡ filled slots before after ++ plain rest
unfolding written filled are_shut
plain-written [] before after rest shut known proper others fit closed = refl
plain-written (one ∷ slots) before after rest shut known proper others fit closed =
    slot_case (takes_value one) one slots before after rest refl (shut-parts one slots (length before) shut known) proper others fit closed
    (λ first second places fine good fits. plain-written slots first second rest
    (and_parts ((if needs_close one then begins_shut slots else true) && small_literal one) (are_shut slots) shut).1 places fine good fits closed)
