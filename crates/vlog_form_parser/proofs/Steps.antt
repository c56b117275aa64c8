-- Readings one after another.
use Rattle.std.proofs.Common.{◌≡◌, ℕ, zero, suc, ◌<◌, ◌≤◌, ◌-◌, Bool, true, false, List, [], ◌∷◌, ◌++◌, length, get_or, take, drop, refl, ap, sym, ◌∙◌, subst, arith}
use Rattle.std.proofs.lemmas.List.{take_all}
use Rattle.std.specs.Prelude.{Result, Ok, Err, MatchResult, if◌then◌else◌}
use Rattle.vlog_tokens.specs.declared.fixed.Fixed.{Fixed}
use Rattle.vlog_tokens.specs.declared.fixed.Fixed.TheVariants as sign
use Rattle.vlog_tokens.specs.Tokens.{TokenValue, Spot}
use Rattle.vlog_tokens.specs.Tokens.{TokenValue as token}
use Rattle.vlog_forms.specs.declared.slot.Slot.{Slot}
use Rattle.vlog_forms.specs.declared.slot.Slot.TheVariants as slot
use Rattle.vlog_forms.specs.Values.{seen, value_tokens, tokens_at, is_same_token}
use Rattle.vlog_forms.specs.Layout.{parts_of, more_slots, atom_slots, again_slots, first_again_slots}
use Rattle.vlog_forms.specs.Reading.{Found, values_of, Reading, read_tokens, after_tokens, read_single, read_atom, read_slot, read_slots, and_then, or_further}
use Rattle.vlog_forms.specs.Reading as reading
use Rattle.vlog_form_parser.specs.declared.forms.Whole.{Whole}
use Rattle.vlog_form_parser.specs.declared.found.Found as kept
use Rattle.vlog_form_parser.specs.Found.{all_found}
use Rattle.vlog_form_parser.specs.declared.stop.ReadStop.{ReadStop}
use Rattle.vlog_form_parser.specs.declared.stop.ReadStop.TheVariants.{Stuck, Memory}
use Rattle.vlog_form_parser.specs.Readings.{StopsAt, ReadsTokens, ReadsTo, ReadsOver, ReadsForm, further}

-- ---- one reading after another

then_then : (first : Reading (List Found)) (second third : List Found → List Spot → Reading (List Found))
    → and_then first (λ found spots. and_then (second found spots) third) ≡ and_then (and_then first second) third
then_then (Ok step) second third = refl
then_then (Err stuck) second third = refl

pub slots-append : (end : ℕ) (xs ys : List Slot) (found : List Found) (spots : List Spot)
    → read_slots end (xs ++ ys) found spots ≡ and_then (read_slots end xs found spots) (read_slots end ys)
unfolding read_slots
slots-append end [] ys found spots = refl
slots-append end (one ∷ xs) ys found spots =
    more (read_slot end one found spots) (λ next left. slots-append end xs ys next left)
  where
    more : (first : Reading (List Found)) → ((next : List Found) (left : List Spot) → read_slots end (xs ++ ys) next left ≡ and_then (read_slots end xs next left) (read_slots end ys))
        → and_then first (read_slots end (xs ++ ys)) ≡ and_then (and_then first (read_slots end xs)) (read_slots end ys)
    more (Ok step) rest = rest step.0 step.1
    more (Err stuck) rest = refl

pub slots-one : (end : ℕ) (one : Slot) (found : List Found) (spots : List Spot) → read_slots end (one ∷ []) found spots ≡ read_slot end one found spots
unfolding read_slots
slots-one end one found spots = by (read_slot end one found spots)
  where
    by : (first : Reading (List Found)) → and_then first (λ next left. Ok (next, left)) ≡ first
    by (Ok step) = refl
    by (Err stuck) = refl

pub slots-none : (end : ℕ) (found : List Found) (spots : List Spot) → read_slots end [] found spots ≡ Ok (found, spots)
unfolding read_slots
slots-none end found spots = refl

-- a slot and those after it
pub slots-cons : (end : ℕ) (one : Slot) (slots : List Slot) (found : List Found) (spots : List Spot)
    → read_slots end (one ∷ slots) found spots ≡ and_then (read_slot end one found spots) (read_slots end slots)
unfolding read_slots
slots-cons end one slots found spots = refl

-- a reading that the code makes is one of the definitions that is the same
pub reads-along : (one other : Reading (List Found)) (bytes : List ℕ) (found : List Found) (result : Result ℕ ReadStop) → one ≡ other → ReadsTo other bytes found result → ReadsTo one bytes found result
reads-along one other bytes found result same reads = subst (λ (r : Reading (List Found)). ReadsTo r bytes found result) (sym same) reads

pub over-along : (one other : Reading (List Found)) (bytes : List ℕ) (found : List Found) (result : Result ℕ ℕ) → one ≡ other → ReadsOver other bytes found result → ReadsOver one bytes found result
over-along one other bytes found result same reads = subst (λ (r : Reading (List Found)). ReadsOver r bytes found result) (sym same) reads

-- if the first reading stops, both do
pub stops-then : (first : Reading (List Found)) (second : List Found → List Spot → Reading (List Found)) (stop : ReadStop) → StopsAt first stop → StopsAt (and_then first second) stop
stops-then first second (Stuck at) stops = ap (λ reading. and_then reading second) stops
stops-then first second (Memory refused) stops = tt

-- tokens that are passed
pub passes-end : (reading : Result (List Spot) ℕ) (found : List Found) (spots : List Spot) → reading ≡ Ok spots → after_tokens found reading ≡ Ok (found, spots)
passes-end reading found spots reads = ap (after_tokens found) reads

pub passes-stuck : (reading : Result (List Spot) ℕ) (found : List Found) (at : ℕ) → reading ≡ Err at → after_tokens found reading ≡ Err at
passes-stuck reading found at reads = ap (after_tokens found) reads

-- a sign before other slots
pub fixed-then : (end : ℕ) (fixed : Fixed) (slots : List Slot) (found : List Found) (spots rest : List Spot) → read_tokens end (token.fixed fixed ∷ []) spots ≡ Ok rest
    → read_slots end (slot.Fixed fixed ∷ slots) found spots ≡ read_slots end slots found rest
unfolding read_slots
fixed-then end fixed slots found spots rest reads = ap (λ reading. and_then (after_tokens found reading) (read_slots end slots)) reads

pub fixed-stuck : (end : ℕ) (fixed : Fixed) (slots : List Slot) (found : List Found) (spots : List Spot) (at : ℕ) → read_tokens end (token.fixed fixed ∷ []) spots ≡ Err at
    → read_slots end (slot.Fixed fixed ∷ slots) found spots ≡ Err at
unfolding read_slots
fixed-stuck end fixed slots found spots at reads = ap (λ reading. and_then (after_tokens found reading) (read_slots end slots)) reads

-- a first token that is a sign, or isn't
pub first-then : (end : ℕ) (fixed : Fixed) (slots : List Slot) (found : List Found) (first : Spot) (spots : List Spot) → is_same_token (token.fixed fixed) first.token ≡ true
    → read_slots end (slot.Fixed fixed ∷ slots) found (first ∷ spots) ≡ read_slots end slots found spots
first-then end fixed slots found first spots same =
    fixed-then end fixed slots found (first ∷ spots) spots (ap (λ b. if b then Ok spots else Err first.offset) same)

pub first-stuck : (end : ℕ) (fixed : Fixed) (slots : List Slot) (found : List Found) (first : Spot) (spots : List Spot) → is_same_token (token.fixed fixed) first.token ≡ false
    → read_slots end (slot.Fixed fixed ∷ slots) found (first ∷ spots) ≡ Err first.offset
first-stuck end fixed slots found first spots apart =
    fixed-stuck end fixed slots found (first ∷ spots) first.offset (ap (λ b. if b then Ok spots else Err first.offset) apart)

-- a comma, a space, and other slots
pub comma-then : (end : ℕ) (slots : List Slot) (found : List Found) (spots rest : List Spot) → read_tokens end (token.fixed sign.Comma ∷ []) spots ≡ Ok rest
    → read_slots end (slot.Fixed sign.Comma ∷ slot.Space ∷ slots) found spots ≡ read_slots end slots found rest
unfolding read_slots
comma-then end slots found spots rest reads = fixed-then end sign.Comma (slot.Space ∷ slots) found spots rest reads

-- an atom before other slots
pub atom-then : (end : ℕ) (slots : List Slot) (found after : List Found) (spots rest : List Spot) → read_atom end found spots ≡ Ok (after, rest)
    → read_slots end (slot.Atom ∷ slots) found spots ≡ read_slots end slots after rest
unfolding read_slots
atom-then end slots found after spots rest reads = ap (λ reading. and_then reading (read_slots end slots)) reads

pub atom-stops : (end : ℕ) (slots : List Slot) (found : List Found) (spots : List Spot) (stop : ReadStop) → StopsAt (read_atom end found spots) stop → StopsAt (read_slots end (slot.Atom ∷ slots) found spots) stop
unfolding read_slots
atom-stops end slots found spots stop stops = stops-then (read_atom end found spots) (read_slots end slots) stop stops

-- a repeat before other slots
pub again-then : (end place : ℕ) (slots : List Slot) (found : List Found) (spots rest : List Spot) → read_tokens end (tokens_at (values_of found) place) spots ≡ Ok rest
    → read_slots end (slot.Again place ∷ slots) found spots ≡ read_slots end slots found rest
unfolding read_slots
again-then end place slots found spots rest reads = ap (λ reading. and_then (after_tokens found reading) (read_slots end slots)) reads

pub again-stuck : (end place : ℕ) (slots : List Slot) (found : List Found) (spots : List Spot) (at : ℕ) → read_tokens end (tokens_at (values_of found) place) spots ≡ Err at
    → read_slots end (slot.Again place ∷ slots) found spots ≡ Err at
unfolding read_slots
again-stuck end place slots found spots at reads = ap (λ reading. and_then (after_tokens found reading) (read_slots end slots)) reads

-- ---- tokens one after another

pub tokens-cons : (end : ℕ) (one : TokenValue) (more : List TokenValue) (spots rest : List Spot) → read_tokens end (one ∷ []) spots ≡ Ok rest → read_tokens end (one ∷ more) spots ≡ read_tokens end more rest
tokens-cons end one more [] rest reads = absurd cc
tokens-cons end one more (first ∷ spots) rest reads = by (is_same_token one first.token) reads
  where
    by : (b : Bool) → (if b then Ok spots else Err first.offset) ≡ Ok rest → (if b then read_tokens end more spots else Err first.offset) ≡ read_tokens end more rest
    by true is = let same : spots ≡ rest = cc in ap (read_tokens end more) same
    by false is = absurd cc

pub tokens-stuck : (end : ℕ) (one : TokenValue) (more : List TokenValue) (spots : List Spot) (at : ℕ) → read_tokens end (one ∷ []) spots ≡ Err at → read_tokens end (one ∷ more) spots ≡ Err at
tokens-stuck end one more [] at reads = reads
tokens-stuck end one more (first ∷ spots) at reads = by (is_same_token one first.token) reads
  where
    by : (b : Bool) → (if b then Ok spots else Err first.offset) ≡ Err at → (if b then read_tokens end more spots else Err first.offset) ≡ Err at
    by true is = absurd cc
    by false is = is

-- ---- what the code gives

-- tokens that keep no value
pub stop-over : (reading : Result (List Spot) ℕ) (bytes : List ℕ) (found : List Found) (read : Result ℕ ℕ) (result : Result ℕ ReadStop) → ReadsTokens reading bytes read
    → MatchResult read (λ end. result ≡ Ok end) (λ stuck. result ≡ Err (Stuck stuck)) → ReadsTo (after_tokens found reading) bytes found result
stop-over reading bytes found (Ok end) result reads is = subst (λ (r : Result ℕ ReadStop). ReadsTo (after_tokens found reading) bytes found r) (sym is) (ap (after_tokens found) reads)
stop-over reading bytes found (Err at) result reads is = subst (λ (r : Result ℕ ReadStop). ReadsTo (after_tokens found reading) bytes found r) (sym is) (ap (after_tokens found) reads)

pub over-stop : (reading : Reading (List Found)) (bytes : List ℕ) (found : List Found) (read : Result ℕ ℕ) (result : Result ℕ ReadStop) → ReadsOver reading bytes found read
    → MatchResult read (λ end. result ≡ Ok end) (λ stuck. result ≡ Err (Stuck stuck)) → ReadsTo reading bytes found result
over-stop reading bytes found (Ok end) result reads is = subst (λ (r : Result ℕ ReadStop). ReadsTo reading bytes found r) (sym is) reads
over-stop reading bytes found (Err at) result reads is = subst (λ (r : Result ℕ ReadStop). ReadsTo reading bytes found r) (sym is) reads

pub tokens-over : (reading : Result (List Spot) ℕ) (bytes : List ℕ) (found : List Found) (read : Result ℕ ℕ) → ReadsTokens reading bytes read → ReadsOver (after_tokens found reading) bytes found read
tokens-over reading bytes found (Ok end) reads = ap (after_tokens found) reads
tokens-over reading bytes found (Err at) reads = ap (after_tokens found) reads

pub tokens-along : (one other : Result (List Spot) ℕ) (bytes : List ℕ) (read : Result ℕ ℕ) → one ≡ other → ReadsTokens other bytes read → ReadsTokens one bytes read
tokens-along one other bytes read same reads = subst (λ (r : Result (List Spot) ℕ). ReadsTokens r bytes read) (sym same) reads

-- a sign alone
pub fixed-one : (end : ℕ) (fixed : Fixed) (found : List Found) (spots : List Spot) → read_slots end (slot.Fixed fixed ∷ []) found spots ≡ after_tokens found (read_tokens end (token.fixed fixed ∷ []) spots)
fixed-one end fixed found spots = slots-one end (slot.Fixed fixed) found spots

-- slots of one token
abbrev pub is_single : Slot → Bool
is_single (slot.Name role) = true
is_single slot.Edge = true
is_single slot.Bit = true
is_single slot.Word = true
is_single (slot.Index limit) = true
is_single _ = false

pub single-one : (end : ℕ) (one : Slot) (found : List Found) (spots : List Spot) → is_single one ≡ true → read_slots end (parts_of one) found spots ≡ read_single end one found spots
single-one end (slot.Name role) found spots is = slots-one end (slot.Name role) found spots
single-one end slot.Edge found spots is = slots-one end slot.Edge found spots
single-one end slot.Bit found spots is = slots-one end slot.Bit found spots
single-one end slot.Word found spots is = slots-one end slot.Word found spots
single-one end (slot.Index limit) found spots is = slots-one end (slot.Index limit) found spots
single-one end one found spots is = absurd cc

-- values of places
pub tokens_at-some : (values : List kept.Found) (place : ℕ) (default : kept.Found) → place < length values → tokens_at (values_of (all_found values)) place ≡ value_tokens (seen (get_or values place default).value)
tokens_at-some [] place default within = absurd (omega arith)
tokens_at-some (one ∷ values) zero default within = refl
tokens_at-some (one ∷ values) (suc place) default within = tokens_at-some values place default (omega arith)

pub tokens_at-none : (values : List kept.Found) (place : ℕ) → length values ≤ place → tokens_at (values_of (all_found values)) place ≡ token.stray ∷ []
tokens_at-none [] place past = refl
tokens_at-none (one ∷ values) zero past = absurd (omega arith)
tokens_at-none (one ∷ values) (suc place) past = tokens_at-none values place (omega arith)

-- more atoms
pub more-zero : (count : ℕ) → count ≡ 0 → more_slots count ≡ slot.Fixed sign.CloseBrace ∷ []
more-zero count none = ap more_slots none

pub more-suc : (count : ℕ) → 0 < count → more_slots count ≡ slot.Fixed sign.Comma ∷ slot.Space ∷ slot.Atom ∷ more_slots (count - 1)
more-suc count some = let one : count ≡ suc (count - 1) = omega arith in ap more_slots one

pub atoms-zero : (count : ℕ) → count ≡ 0 → atom_slots count ≡ slot.Fixed sign.CloseBrace ∷ []
atoms-zero count none = ap atom_slots none

pub atoms-suc : (count : ℕ) → 0 < count → atom_slots count ≡ slot.Atom ∷ more_slots (count - 1)
atoms-suc count some = let one : count ≡ suc (count - 1) = omega arith in ap atom_slots one

pub again-zero : (first count : ℕ) → count ≡ 0 → again_slots first count ≡ slot.Fixed sign.CloseBrace ∷ []
again-zero first count none = ap (again_slots first) none

pub again-suc : (first count : ℕ) → 0 < count → again_slots first count ≡ slot.Fixed sign.Comma ∷ slot.Space ∷ slot.Again first ∷ again_slots (suc first) (count - 1)
again-suc first count some = let one : count ≡ suc (count - 1) = omega arith in ap (again_slots first) one

pub first-zero : (first count : ℕ) → count ≡ 0 → first_again_slots first count ≡ slot.Fixed sign.CloseBrace ∷ []
first-zero first count none = ap (first_again_slots first) none

pub first-suc : (first count : ℕ) → 0 < count → first_again_slots first count ≡ slot.Again first ∷ again_slots (suc first) (count - 1)
first-suc first count some = let one : count ≡ suc (count - 1) = omega arith in ap (first_again_slots first) one

-- ---- lists and forms

-- what is left after the first element
pub rest-whole : {A : Type 0} (list : List A) → take (length list - 1) (drop 1 list) ≡ drop 1 list
rest-whole [] = refl
rest-whole (first ∷ list) =
    let count : suc (length list) - 1 ≡ length list = omega arith in
    ap (λ n. take n list) count ∙ take_all (length list) list (omega arith)

-- a list with an element at least
pub cut : {A : Type 0} (list : List A) (default : A) → 1 ≤ length list → list ≡ get_or list 0 default ∷ take (length list - 1) (drop 1 list)
cut [] default some = absurd (omega arith)
cut (first ∷ list) default some = ap (λ rest. first ∷ rest) (sym (rest-whole (first ∷ list)))

pub further-reads : (stuck : ℕ) (reading : Result reading.Whole ℕ) (bytes : List ℕ) (found : List Found) (read : Result Whole ReadStop) → ReadsForm reading bytes found read
    → ReadsForm (or_further stuck reading) bytes found (further stuck read)
further-reads stuck reading bytes found (Ok whole) reads = ap (or_further stuck) reads
further-reads stuck reading bytes found (Err (Stuck other)) reads = ap (or_further stuck) reads
further-reads stuck reading bytes found (Err (Memory refused)) reads = tt

pub form-along : (one other : Result reading.Whole ℕ) (bytes : List ℕ) (found : List Found) (read : Result Whole ReadStop) → one ≡ other → ReadsForm other bytes found read → ReadsForm one bytes found read
form-along one other bytes found read same reads = subst (λ (r : Result reading.Whole ℕ). ReadsForm r bytes found read) (sym same) reads

pub form-result : (one : Result reading.Whole ℕ) (bytes : List ℕ) (found : List Found) (read other : Result Whole ReadStop) → read ≡ other → ReadsForm one bytes found other → ReadsForm one bytes found read
form-result one bytes found read other same reads = subst (λ (r : Result Whole ReadStop). ReadsForm one bytes found r) (sym same) reads

pub stops-along : {A : Type 0} (one other : Result A ℕ) (stop : ReadStop) → one ≡ other → StopsAt other stop → StopsAt one stop
stops-along {A} one other stop same stops = subst (λ (r : Result A ℕ). StopsAt r stop) (sym same) stops
