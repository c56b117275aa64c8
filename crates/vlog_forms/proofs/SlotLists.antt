-- Slots one after another: what is read is what the values make, and what values make is read.
use Rattle.std.proofs.Common.{◌≡◌, ℕ, zero, suc, ◌<◌, Bool, true, false, not, List, [], ◌∷◌, ◌++◌, length, take, drop, refl, ap, sym, ◌∙◌, subst, append_assoc, arith}
use Rattle.std.proofs.lemmas.Bool.{ltb-true}
use Rattle.std.proofs.lemmas.List.{append-nil, map-append, length-append, length-map}
use Rattle.std.specs.Prelude.{Result, Ok, Err, Option, Some, None, if◌then◌else◌, nat_lt}
use Rattle.shared_lemmas.proofs.Tests.{if_both}
use Rattle.vlog_tokens.specs.declared.fixed.Fixed.TheVariants as sign
use Rattle.vlog_tokens.specs.Tokens.{TokenValue, Spot}
use Rattle.vlog_tokens.specs.Tokens.{TokenValue as token}
use Rattle.vlog_module.specs.declared.atoms.Atom.{Atom}
use Rattle.vlog_forms.specs.declared.slot.Slot.{Slot}
use Rattle.vlog_forms.specs.declared.slot.Slot.TheVariants as slot
use Rattle.vlog_module.specs.declared.atoms.Atom.TheVariants as atom
use Rattle.vlog_forms.specs.Values.{Value, atom_tokens, value_tokens, tokens_at, is_same_token}
use Rattle.vlog_forms.specs.Values.Value.{Name, Edge, Bit, Word, Index, AnAtom}
use Rattle.vlog_forms.specs.Layout.{takes_value, exact_tokens, first_tokens, left_by, filled}
use Rattle.vlog_forms.specs.Items.{tokens_in}
use Rattle.vlog_forms.specs.Reading.{Found, found_at, values_of, Reading, with_value, single, read_single, read_tokens, after_tokens, read_slot, read_slots, and_then}
use Rattle.vlog_forms.proofs.Pairs.{ok_first, ok_second}
use Rattle.vlog_forms.proofs.Exact.{read_tokens-whole, read_tokens-exact, AreReal}
use Rattle.vlog_forms.proofs.ValueKinds.{Fits, single-fits, single-takes, takes_atom}
use Rattle.vlog_forms.proofs.Atoms.{AtomStands, atom-stands, atom-read, opens_next}

-- ---- what slots and values make, slot by slot

pub filled-took : (wanted : Slot) (slots : List Slot) (before : List Value) (value : Value) (after : List Value) → takes_value wanted ≡ true
    → filled (wanted ∷ slots) before (value ∷ after) ≡ value_tokens value ++ filled slots (before ++ value ∷ []) after
unfolding filled
filled-took wanted slots before value after takes =
    ap (λ b. (if b then first_tokens (value ∷ after) else exact_tokens before wanted)
    ++ filled slots (if b then before ++ take 1 (value ∷ after) else before) (if b then drop 1 (value ∷ after) else value ∷ after)) takes

pub filled-passed : (wanted : Slot) (slots : List Slot) (before after : List Value) → takes_value wanted ≡ false
    → filled (wanted ∷ slots) before after ≡ exact_tokens before wanted ++ filled slots before after
unfolding filled
filled-passed wanted slots before after takes =
    ap (λ b. (if b then first_tokens after else exact_tokens before wanted)
    ++ filled slots (if b then before ++ take 1 after else before) (if b then drop 1 after else after)) takes

-- values are of the kinds that slots take, one for each that takes one
abbrev pub FitsFirst : Bool → Slot → List Value → Type 0
FitsFirst true wanted [] = ⊥
FitsFirst true wanted (value ∷ values) = Fits wanted value
FitsFirst false wanted values = Unit {0}

unfoldable pub FitAll : List Slot → List Value → Type 0
FitAll [] [] = Unit {0}
FitAll [] (value ∷ values) = ⊥
FitAll (wanted ∷ slots) values = FitsFirst (takes_value wanted) wanted values × FitAll slots (left_by wanted values)

pub FitAll-took : (wanted : Slot) (slots : List Slot) (value : Value) (values : List Value) → takes_value wanted ≡ true → Fits wanted value → FitAll slots values → FitAll (wanted ∷ slots) (value ∷ values)
unfolding FitAll
FitAll-took wanted slots value values takes first more =
    subst (λ b. FitsFirst b wanted (value ∷ values) × FitAll slots (if b then drop 1 (value ∷ values) else value ∷ values)) (sym takes) (first, more)

pub FitAll-passed : (wanted : Slot) (slots : List Slot) (values : List Value) → takes_value wanted ≡ false → FitAll slots values → FitAll (wanted ∷ slots) values
unfolding FitAll
FitAll-passed wanted slots values takes more =
    subst (λ b. FitsFirst b wanted values × FitAll slots (if b then drop 1 values else values)) (sym takes) (tt, more)

-- ---- what is read is in the text

-- one slot that was read: it took a value, or it passed tokens
pub data SlotStands (wanted : Slot) (found : List Found) (spots : List Spot) (after : List Found) (rest : List Spot) : Type 0 where
  took : takes_value wanted ≡ true → (one : Found) → after ≡ found ++ one ∷ [] → tokens_in spots ≡ value_tokens one.value ++ tokens_in rest → Fits wanted one.value → SlotStands wanted found spots after rest
  passed : takes_value wanted ≡ false → after ≡ found → tokens_in spots ≡ exact_tokens (values_of found) wanted ++ tokens_in rest → SlotStands wanted found spots after rest

single_case : (wanted : Slot) (found : List Found) (first : Spot) (spots : List Spot) (after : List Found) (rest : List Spot) (value : Option Value)
    → takes_value wanted ≡ true → single wanted first.token ≡ value → with_value found first value spots ≡ Ok (after, rest) → SlotStands wanted found (first ∷ spots) after rest
single_case wanted found first spots after rest None takes is reads = absurd cc
single_case wanted found first spots after rest (Some value) takes is reads =
    let fits = single-fits wanted first.token value is in
    let left : spots ≡ rest = ok_second reads in
    took takes (found_at first.offset value) (sym (ok_first reads)) (ap (λ tokens. tokens ++ tokens_in spots) (sym fits.1) ∙ ap (λ more. value_tokens value ++ tokens_in more) left) fits.0

exact_case : (wanted : Slot) (found : List Found) (spots : List Spot) (after : List Found) (rest : List Spot) (reading : Result (List Spot) ℕ)
    → takes_value wanted ≡ false → ((left : List Spot) → reading ≡ Ok left → tokens_in spots ≡ exact_tokens (values_of found) wanted ++ tokens_in left)
    → after_tokens found reading ≡ Ok (after, rest) → SlotStands wanted found spots after rest
exact_case wanted found spots after rest (Err stuck) takes stands reads = absurd cc
exact_case wanted found spots after rest (Ok left) takes stands reads =
    let same : left ≡ rest = ok_second reads in
    passed takes (sym (ok_first reads)) (stands left refl ∙ ap (λ more. exact_tokens (values_of found) wanted ++ tokens_in more) same)

single_stands : (end : ℕ) (wanted : Slot) (found : List Found) (spots : List Spot) (after : List Found) (rest : List Spot)
    → takes_value wanted ≡ true → read_single end wanted found spots ≡ Ok (after, rest) → SlotStands wanted found spots after rest
single_stands end wanted found [] after rest takes reads = absurd cc
single_stands end wanted found (first ∷ spots) after rest takes reads =
    single_case wanted found first spots after rest (single wanted first.token) takes refl reads

exact_stands : (end : ℕ) (wanted : Slot) (found : List Found) (spots : List Spot) (after : List Found) (rest : List Spot)
    → takes_value wanted ≡ false → after_tokens found (read_tokens end (exact_tokens (values_of found) wanted) spots) ≡ Ok (after, rest) → SlotStands wanted found spots after rest
exact_stands end wanted found spots after rest takes reads =
    exact_case wanted found spots after rest (read_tokens end (exact_tokens (values_of found) wanted) spots) takes
    (λ left. read_tokens-whole end (exact_tokens (values_of found) wanted) spots left) reads

atom_stands : (end : ℕ) (found : List Found) (spots : List Spot) (after : List Found) (rest : List Spot) → AtomStands found spots after rest → SlotStands slot.Atom found spots after rest
atom_stands end found spots after rest stands = took refl (found_at stands.offset (AnAtom stands.one)) stands.gained stands.tokens stands.fits

pub slot-stands : (end : ℕ) (wanted : Slot) (found : List Found) (spots : List Spot) (after : List Found) (rest : List Spot)
    → read_slot end wanted found spots ≡ Ok (after, rest) → SlotStands wanted found spots after rest
slot-stands end slot.Atom found spots after rest reads = atom_stands end found spots after rest (atom-stands end found spots after rest reads)
slot-stands end slot.Space found spots after rest reads = exact_stands end slot.Space found spots after rest refl reads
slot-stands end (slot.Fixed fixed) found spots after rest reads = exact_stands end (slot.Fixed fixed) found spots after rest refl reads
slot-stands end (slot.Literal number) found spots after rest reads = exact_stands end (slot.Literal number) found spots after rest refl reads
slot-stands end (slot.Again place) found spots after rest reads = exact_stands end (slot.Again place) found spots after rest refl reads
slot-stands end (slot.AtomsAgain first n) found spots after rest reads = exact_stands end (slot.AtomsAgain first n) found spots after rest refl reads
slot-stands end (slot.Atoms n) found spots after rest reads = exact_stands end (slot.Atoms n) found spots after rest refl reads
slot-stands end (slot.Name role) found spots after rest reads = single_stands end (slot.Name role) found spots after rest refl reads
slot-stands end slot.Edge found spots after rest reads = single_stands end slot.Edge found spots after rest refl reads
slot-stands end slot.Bit found spots after rest reads = single_stands end slot.Bit found spots after rest refl reads
slot-stands end slot.Word found spots after rest reads = single_stands end slot.Word found spots after rest refl reads
slot-stands end (slot.Index limit) found spots after rest reads = single_stands end (slot.Index limit) found spots after rest refl reads

-- slots that were read
pub record SlotsStand (slots : List Slot) (found : List Found) (spots : List Spot) (after : List Found) (rest : List Spot) : Type 0 where
  pub given : List Found
  pub gained : after ≡ found ++ given
  pub tokens : tokens_in spots ≡ filled slots (values_of found) (values_of given) ++ tokens_in rest
  pub fit : FitAll slots (values_of given)

after_slot : (wanted : Slot) (slots : List Slot) (found middle : List Found) (spots left : List Spot) (after : List Found) (rest : List Spot)
    → SlotStands wanted found spots middle left → SlotsStand slots middle left after rest → SlotsStand (wanted ∷ slots) found spots after rest
after_slot wanted slots found middle spots left after rest (took takes one is tokens fits) more = record {
  given = one ∷ more.given;
  gained = more.gained ∙ ap (λ before. before ++ more.given) is ∙ append_assoc found (one ∷ []) more.given;
  tokens =
      let values : values_of middle ≡ values_of found ++ one.value ∷ [] = ap values_of is ∙ map-append (λ (each : Found). each.value) found (one ∷ []) in
      let following : tokens_in left ≡ filled slots (values_of found ++ one.value ∷ []) (values_of more.given) ++ tokens_in rest
      = more.tokens ∙ ap (λ before. filled slots before (values_of more.given) ++ tokens_in rest) values in
      tokens ∙ ap (λ more. value_tokens one.value ++ more) following
      ∙ sym (append_assoc (value_tokens one.value) (filled slots (values_of found ++ one.value ∷ []) (values_of more.given)) (tokens_in rest))
      ∙ ap (λ all. all ++ tokens_in rest) (sym (filled-took wanted slots (values_of found) one.value (values_of more.given) takes));
  fit = FitAll-took wanted slots one.value (values_of more.given) takes fits more.fit;
}
after_slot wanted slots found middle spots left after rest (passed takes is tokens) more = record {
  given = more.given;
  gained = more.gained ∙ ap (λ before. before ++ more.given) is;
  tokens =
      let following : tokens_in left ≡ filled slots (values_of found) (values_of more.given) ++ tokens_in rest
      = more.tokens ∙ ap (λ before. filled slots (values_of before) (values_of more.given) ++ tokens_in rest) is in
      tokens ∙ ap (λ more. exact_tokens (values_of found) wanted ++ more) following
      ∙ sym (append_assoc (exact_tokens (values_of found) wanted) (filled slots (values_of found) (values_of more.given)) (tokens_in rest))
      ∙ ap (λ all. all ++ tokens_in rest) (sym (filled-passed wanted slots (values_of found) (values_of more.given) takes));
  fit = FitAll-passed wanted slots (values_of more.given) takes more.fit;
}

stand_step : (wanted : Slot) (slots : List Slot) (found : List Found) (spots : List Spot) (after : List Found) (rest : List Spot) (end : ℕ) (reading : Reading (List Found))
    → ((middle : List Found) (left : List Spot) → reading ≡ Ok (middle, left) → SlotStands wanted found spots middle left)
    → ((middle : List Found) (left : List Spot) → read_slots end slots middle left ≡ Ok (after, rest) → SlotsStand slots middle left after rest)
    → and_then reading (read_slots end slots) ≡ Ok (after, rest) → SlotsStand (wanted ∷ slots) found spots after rest
stand_step wanted slots found spots after rest end (Err stuck) first more reads = absurd cc
stand_step wanted slots found spots after rest end (Ok part) first more reads =
    after_slot wanted slots found part.0 spots part.1 after rest (first part.0 part.1 refl) (more part.0 part.1 reads)

pub slots-stand : (end : ℕ) (slots : List Slot) (found : List Found) (spots : List Spot) (after : List Found) (rest : List Spot)
    → read_slots end slots found spots ≡ Ok (after, rest) → SlotsStand slots found spots after rest
unfolding read_slots filled FitAll
slots-stand end [] found spots after rest reads =
    let same : spots ≡ rest = ok_second reads in
    record { given = []; gained = sym (ok_first reads) ∙ sym (append-nil found); tokens = ap tokens_in same; fit = tt }
slots-stand end (wanted ∷ slots) found spots after rest reads =
    stand_step wanted slots found spots after rest end (read_slot end wanted found spots)
    (λ middle left. slot-stands end wanted found spots middle left)
    (λ middle left. slots-stand end slots middle left after rest) reads

-- ---- what is in the text is read

-- whether the next token is one that isn't `[`, whatever the values
unfoldable pub is_closed : List Slot → Bool
is_closed (slot.Fixed fixed ∷ slots) = not (is_same_token (token.fixed sign.OpenBracket) (token.fixed fixed))
is_closed (slot.Space ∷ slots) = is_closed slots
is_closed _ = false

-- whether no `[` follows a slot for an atom
unfoldable pub are_closed : List Slot → Bool
are_closed [] = true
are_closed (wanted ∷ slots) = if takes_atom wanted then (if is_closed slots then are_closed slots else false) else are_closed slots

-- whether each repeat is of an earlier value, if this many values come first
abbrev pub is_before : ℕ → Slot → Bool
is_before n (slot.Again place) = nat_lt place n
is_before n _ = true

unfoldable pub are_before : ℕ → List Slot → Bool
are_before n [] = true
are_before n (wanted ∷ slots) = if is_before n wanted then are_before (if takes_value wanted then suc n else n) slots else false

-- the values of a list are real tokens
atom-real : (one : Atom) → AreReal (atom_tokens one)
atom-real (atom.Bit bit) = (tt, tt)
atom-real (atom.Whole name) = (tt, tt)
atom-real (atom.Part name k) = (tt, (tt, (tt, (tt, tt))))

value-real : (value : Value) → AreReal (value_tokens value)
value-real (Name role name) = (tt, tt)
value-real (Edge falling) = (tt, tt)
value-real (Bit bit) = (tt, tt)
value-real (Word word) = (tt, tt)
value-real (Index k) = (tt, tt)
value-real (AnAtom one) = atom-real one

place-real : (values : List Value) (place : ℕ) → place < length values → AreReal (tokens_at values place)
place-real [] place within = absurd (omega arith)
place-real (value ∷ values) zero within = value-real value
place-real (value ∷ values) (suc place) within = place-real values place (omega arith)

exact-real : (before : List Value) (wanted : Slot) → is_before (length before) wanted ≡ true → AreReal (exact_tokens before wanted)
exact-real before (slot.Fixed fixed) known = (tt, tt)
exact-real before (slot.Literal number) known = (tt, tt)
exact-real before (slot.Again place) known = place-real before place (ltb-true place (length before) known)
exact-real before slot.Space known = tt
exact-real before (slot.AtomsAgain first n) known = tt
exact-real before (slot.Atoms n) known = tt
exact-real before (slot.Name role) known = tt
exact-real before slot.Edge known = tt
exact-real before slot.Bit known = tt
exact-real before slot.Word known = tt
exact-real before (slot.Index limit) known = tt
exact-real before slot.Atom known = tt

-- the tokens after a closed list of slots don't begin with `[`
closed-next : (slots : List Slot) (before after : List Value) (tail : List TokenValue) → is_closed slots ≡ true → opens_next (filled slots before after ++ tail) ≡ false
unfolding is_closed filled
closed-next (slot.Fixed fixed ∷ slots) before after tail closed = not_false (is_same_token (token.fixed sign.OpenBracket) (token.fixed fixed)) closed
  where
    not_false : (b : Bool) → not b ≡ true → b ≡ false
    not_false true h = absurd cc
    not_false false h = refl
closed-next (slot.Space ∷ slots) before after tail closed = closed-next slots before after tail closed
closed-next slots before after tail closed = absurd cc

-- slots that are read: the values, and the tokens that are left
pub record SlotsRead (reading : Reading (List Found)) (found : List Found) (values : List Value) (tail : List TokenValue) : Type 0 where
  pub given : List Found
  pub rest : List Spot
  pub reads : reading ≡ Ok (found ++ given, rest)
  pub is : values_of given ≡ values
  pub left : tokens_in rest ≡ tail

-- one slot that takes a value
pub record TakenRead (reading : Reading (List Found)) (found : List Found) (value : Value) (tail : List TokenValue) : Type 0 where
  pub offset : ℕ
  pub rest : List Spot
  pub reads : reading ≡ Ok (found ++ found_at offset value ∷ [], rest)
  pub left : tokens_in rest ≡ tail

single_read : (end : ℕ) (wanted : Slot) (found : List Found) (value : Value) (spots : List Spot) (tail : List TokenValue) → takes_atom wanted ≡ false → Fits wanted value
    → tokens_in spots ≡ value_tokens value ++ tail → TakenRead (read_single end wanted found spots) found value tail
single_read end wanted found value [] tail free fits stands =
    let one = single-takes wanted value free fits in
    let there : [] ≡ one.0 ∷ tail = stands ∙ ap (λ tokens. tokens ++ tail) one.1 in absurd cc
single_read end wanted found value (first ∷ spots) tail free fits stands =
    let one = single-takes wanted value free fits in
    let there : first.token ∷ tokens_in spots ≡ one.0 ∷ tail = stands ∙ ap (λ tokens. tokens ++ tail) one.1 in
    let head : first.token ≡ one.0 = cc in
    record { offset = first.offset; rest = spots; reads = ap (λ each. with_value found first (single wanted each) spots) head ∙ ap (λ each. with_value found first each spots) one.2; left = cc }

slot_taken : (end : ℕ) (wanted : Slot) (found : List Found) (value : Value) (spots : List Spot) (tail : List TokenValue) → takes_value wanted ≡ true → Fits wanted value
    → (takes_atom wanted ≡ true → opens_next tail ≡ false) → tokens_in spots ≡ value_tokens value ++ tail → TakenRead (read_slot end wanted found spots) found value tail
slot_taken end slot.Atom found (AnAtom one) spots tail takes fits closed stands =
    let read = atom-read end found one spots tail fits stands (closed refl) in
    record { offset = read.offset; rest = read.rest; reads = read.reads; left = read.left }
slot_taken end (slot.Name role) found value spots tail takes fits closed stands = single_read end (slot.Name role) found value spots tail refl fits stands
slot_taken end slot.Edge found value spots tail takes fits closed stands = single_read end slot.Edge found value spots tail refl fits stands
slot_taken end slot.Bit found value spots tail takes fits closed stands = single_read end slot.Bit found value spots tail refl fits stands
slot_taken end slot.Word found value spots tail takes fits closed stands = single_read end slot.Word found value spots tail refl fits stands
slot_taken end (slot.Index limit) found value spots tail takes fits closed stands = single_read end (slot.Index limit) found value spots tail refl fits stands
slot_taken end slot.Atom found value spots tail takes fits closed stands = absurd fits
slot_taken end wanted found value spots tail takes fits closed stands = absurd cc

-- one slot that takes none
pub record PassedRead (reading : Reading (List Found)) (found : List Found) (tail : List TokenValue) : Type 0 where
  pub rest : List Spot
  pub reads : reading ≡ Ok (found, rest)
  pub left : tokens_in rest ≡ tail

exact_read : (end : ℕ) (wanted : Slot) (found : List Found) (spots : List Spot) (tail : List TokenValue) → AreReal (exact_tokens (values_of found) wanted)
    → tokens_in spots ≡ exact_tokens (values_of found) wanted ++ tail → PassedRead (after_tokens found (read_tokens end (exact_tokens (values_of found) wanted) spots)) found tail
exact_read end wanted found spots tail real stands =
    let following = read_tokens-exact end (exact_tokens (values_of found) wanted) spots tail real stands in
    record { rest = following.0; reads = ap (after_tokens found) following.1; left = following.2 }

slot_passed : (end : ℕ) (wanted : Slot) (found : List Found) (spots : List Spot) (tail : List TokenValue) → takes_value wanted ≡ false → AreReal (exact_tokens (values_of found) wanted)
    → tokens_in spots ≡ exact_tokens (values_of found) wanted ++ tail → PassedRead (read_slot end wanted found spots) found tail
slot_passed end slot.Space found spots tail takes real stands = exact_read end slot.Space found spots tail real stands
slot_passed end (slot.Fixed fixed) found spots tail takes real stands = exact_read end (slot.Fixed fixed) found spots tail real stands
slot_passed end (slot.Literal number) found spots tail takes real stands = exact_read end (slot.Literal number) found spots tail real stands
slot_passed end (slot.Again place) found spots tail takes real stands = exact_read end (slot.Again place) found spots tail real stands
slot_passed end (slot.AtomsAgain first n) found spots tail takes real stands = exact_read end (slot.AtomsAgain first n) found spots tail real stands
slot_passed end (slot.Atoms n) found spots tail takes real stands = exact_read end (slot.Atoms n) found spots tail real stands
slot_passed end wanted found spots tail takes real stands = absurd cc

-- facts of a list of slots
pub record IsSound (n : ℕ) (slots : List Slot) : Type 0 where
  pub closed : are_closed slots ≡ true
  pub before : are_before n slots ≡ true

if_either : (a b c : Bool) → (if a then (if b then c else false) else c) ≡ true → (a ≡ true → b ≡ true) × (c ≡ true)
if_either true b c both = let parts = if_both b c both in ((λ _. parts.0), parts.1)
if_either false b c both = ((λ h. absurd cc), both)

record FirstSound (n : ℕ) (wanted : Slot) (slots : List Slot) : Type 0 where
  shut : takes_atom wanted ≡ true → is_closed slots ≡ true
  known : is_before n wanted ≡ true
  more : IsSound (if takes_value wanted then suc n else n) slots

first-sound : (n : ℕ) (wanted : Slot) (slots : List Slot) → IsSound n (wanted ∷ slots) → FirstSound n wanted slots
unfolding are_closed are_before
first-sound n wanted slots sound =
    let shut = if_either (takes_atom wanted) (is_closed slots) (are_closed slots) sound.closed in
    let known = if_both (is_before n wanted) (are_before (if takes_value wanted then suc n else n) slots) sound.before in
    record { shut = shut.0; known = known.0; more = record { closed = shut.1; before = known.1 } }

read_step_took : (end : ℕ) (wanted : Slot) (slots : List Slot) (found : List Found) (value : Value) (values : List Value) (spots : List Spot) (middle tail : List TokenValue)
    → TakenRead (read_slot end wanted found spots) found value middle
    → ((offset : ℕ) (left : List Spot) → tokens_in left ≡ middle → SlotsRead (read_slots end slots (found ++ found_at offset value ∷ []) left) (found ++ found_at offset value ∷ []) values tail)
    → SlotsRead (and_then (read_slot end wanted found spots) (read_slots end slots)) found (value ∷ values) tail
read_step_took end wanted slots found value values spots middle tail first more =
    let one : Found = found_at first.offset value in
    let read = more first.offset first.rest first.left in
    record {
      given = one ∷ read.given;
      rest = read.rest;
      reads = ap (λ reading. and_then reading (read_slots end slots)) first.reads ∙ read.reads
          ∙ ap (λ after. Ok (after, read.rest)) (append_assoc found (one ∷ []) read.given);
      is = ap (λ more. value ∷ more) read.is;
      left = read.left;
    }

read_step_passed : (end : ℕ) (wanted : Slot) (slots : List Slot) (found : List Found) (values : List Value) (spots : List Spot) (middle tail : List TokenValue)
    → PassedRead (read_slot end wanted found spots) found middle
    → ((left : List Spot) → tokens_in left ≡ middle → SlotsRead (read_slots end slots found left) found values tail)
    → SlotsRead (and_then (read_slot end wanted found spots) (read_slots end slots)) found values tail
read_step_passed end wanted slots found values spots middle tail first more =
    let read = more first.rest first.left in
    record {
      given = read.given;
      rest = read.rest;
      reads = ap (λ reading. and_then reading (read_slots end slots)) first.reads ∙ read.reads;
      is = read.is;
      left = read.left;
    }

-- reading the slots after one slot
abbrev ReadsMore : ℕ → List Slot → List TokenValue → Type 0
ReadsMore end slots tail = (found : List Found) (values : List Value) (spots : List Spot) → IsSound (length found) slots → FitAll slots values
    → tokens_in spots ≡ filled slots (values_of found) values ++ tail → SlotsRead (read_slots end slots found spots) found values tail

read_took : (end : ℕ) (wanted : Slot) (slots : List Slot) (found : List Found) (value : Value) (values : List Value) (spots : List Spot) (tail : List TokenValue)
    → takes_value wanted ≡ true → IsSound (length found) (wanted ∷ slots) → Fits wanted value → FitAll slots values
    → tokens_in spots ≡ filled (wanted ∷ slots) (values_of found) (value ∷ values) ++ tail → ReadsMore end slots tail
    → SlotsRead (and_then (read_slot end wanted found spots) (read_slots end slots)) found (value ∷ values) tail
read_took end wanted slots found value values spots tail takes sound fits fit stands more =
    let before : List Value = values_of found ++ value ∷ [] in
    let middle : List TokenValue = filled slots before values ++ tail in
    let first = first-sound (length found) wanted slots sound in
    let there : tokens_in spots ≡ value_tokens value ++ middle =
    stands ∙ ap (λ all. all ++ tail) (filled-took wanted slots (values_of found) value values takes)
    ∙ append_assoc (value_tokens value) (filled slots before values) tail in
    let taken : TakenRead (read_slot end wanted found spots) found value middle =
    slot_taken end wanted found value spots middle takes fits (λ atom. closed-next slots before values tail (first.shut atom)) there in
    read_step_took end wanted slots found value values spots middle tail taken
    (λ offset left is.
    let grown : values_of (found ++ found_at offset value ∷ []) ≡ before = map-append (λ (each : Found). each.value) found (found_at offset value ∷ []) in
    let count : length (found ++ found_at offset value ∷ []) ≡ suc (length found) = omega (arith, length-append found (found_at offset value ∷ [])) in
    let following : IsSound (suc (length found)) slots = subst (λ (b : Bool). IsSound (if b then suc (length found) else length found) slots) takes first.more in
    more (found ++ found_at offset value ∷ []) values left (subst (λ (n : ℕ). IsSound n slots) (sym count) following) fit
    (is ∙ ap (λ front. filled slots front values ++ tail) (sym grown)))

read_passed : (end : ℕ) (wanted : Slot) (slots : List Slot) (found : List Found) (values : List Value) (spots : List Spot) (tail : List TokenValue)
    → takes_value wanted ≡ false → IsSound (length found) (wanted ∷ slots) → FitAll slots values
    → tokens_in spots ≡ filled (wanted ∷ slots) (values_of found) values ++ tail → ReadsMore end slots tail
    → SlotsRead (and_then (read_slot end wanted found spots) (read_slots end slots)) found values tail
read_passed end wanted slots found values spots tail takes sound fit stands more =
    let middle : List TokenValue = filled slots (values_of found) values ++ tail in
    let first = first-sound (length found) wanted slots sound in
    let there : tokens_in spots ≡ exact_tokens (values_of found) wanted ++ middle =
    stands ∙ ap (λ all. all ++ tail) (filled-passed wanted slots (values_of found) values takes)
    ∙ append_assoc (exact_tokens (values_of found) wanted) (filled slots (values_of found) values) tail in
    let count : length (values_of found) ≡ length found = length-map found (λ (each : Found). each.value) in
    let known : is_before (length (values_of found)) wanted ≡ true = ap (λ n. is_before n wanted) count ∙ first.known in
    let following : IsSound (length found) slots = subst (λ (b : Bool). IsSound (if b then suc (length found) else length found) slots) takes first.more in
    read_step_passed end wanted slots found values spots middle tail
    (slot_passed end wanted found spots middle takes (exact-real (values_of found) wanted known) there)
    (λ left is. more found values left following fit is)

read_case : (b : Bool) (end : ℕ) (wanted : Slot) (slots : List Slot) (found : List Found) (values : List Value) (spots : List Spot) (tail : List TokenValue)
    → takes_value wanted ≡ b → IsSound (length found) (wanted ∷ slots) → FitAll (wanted ∷ slots) values
    → tokens_in spots ≡ filled (wanted ∷ slots) (values_of found) values ++ tail → ReadsMore end slots tail
    → SlotsRead (and_then (read_slot end wanted found spots) (read_slots end slots)) found values tail
unfolding FitAll
read_case true end wanted slots found [] spots tail takes sound fit stands more =
    let parts = subst (λ (b : Bool). FitsFirst b wanted [] × FitAll slots (if b then drop 1 [] else [])) takes fit in absurd parts.0
read_case true end wanted slots found (value ∷ values) spots tail takes sound fit stands more =
    let parts = subst (λ (b : Bool). FitsFirst b wanted (value ∷ values) × FitAll slots (if b then drop 1 (value ∷ values) else value ∷ values)) takes fit in
    read_took end wanted slots found value values spots tail takes sound parts.0 parts.1 stands more
read_case false end wanted slots found values spots tail takes sound fit stands more =
    let parts = subst (λ (b : Bool). FitsFirst b wanted values × FitAll slots (if b then drop 1 values else values)) takes fit in
    read_passed end wanted slots found values spots tail takes sound parts.1 stands more

-- what slots and values make is read as these values
pub slots-read : (end : ℕ) (slots : List Slot) (found : List Found) (values : List Value) (spots : List Spot) (tail : List TokenValue)
    → IsSound (length found) slots → FitAll slots values → tokens_in spots ≡ filled slots (values_of found) values ++ tail
    → SlotsRead (read_slots end slots found spots) found values tail
unfolding read_slots filled FitAll
slots-read end [] found [] spots tail sound fit stands = record {
  given = [];
  rest = spots;
  reads = ap (λ each. Ok (each, spots)) (sym (append-nil found));
  is = refl;
  left = stands;
}
slots-read end [] found (value ∷ values) spots tail sound fit stands = absurd fit
slots-read end (wanted ∷ slots) found values spots tail sound fit stands =
    read_case (takes_value wanted) end wanted slots found values spots tail refl sound fit stands
    (λ next some left. slots-read end slots next some left tail)
