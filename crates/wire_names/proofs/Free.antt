-- A list that has only names that are free has no fault.
use Rattle.std.proofs.Common.{◌≡◌, ◌∙◌, ℕ, zero, suc, ◌+◌, ◌<◌, ◌≤◌, Bool, true, false, not, cond, List, [], ◌∷◌, ◌++◌, append_assoc, append-nil, arith, fold, get_or, length, map, take, refl, ap, subst, sym, inl, inr}
use Rattle.std.specs.Prelude.{All, Option, Some, None, is_none, if◌then◌else◌, nat_lt}
use Rattle.std.specs.Char.{is_ascii_graphic}
use Rattle.std.specs.List.{list_all}
use Rattle.std.proofs.lemmas.Bool.{and_parts, cases_Bool, false≢true, ltb-true}
use Rattle.std.proofs.lemmas.Bool.Decides.{nat_tests}
use Rattle.std.proofs.lemmas.List.{get_or-map, length-map, take-map}
use Rattle.std.proofs.lemmas.List.Elements.{All-append, All-cons, All-get_or, All-head, All-nil, All-tail, All-take, All-weaker}
use Rattle.index_search.specs.Places.{first_below}
use Rattle.index_search.proofs.Places.{first_below-none}
use Rattle.text_lines.specs.Lines.{line_at, lines_of}
use Rattle.text_lines.specs.Written.{IsPlain}
use Rattle.text_lines.specs.declared.words.Separators.TheVariants.{SpacesAndTabs}
use Rattle.text_lines.proofs.Spaced.{IsWord-high, words_of-two}
use Rattle.text_lines.proofs.Written.{lines_of-text_of}
use Rattle.vlog_module.specs.Parts.{Parts}
use Rattle.vlog_module.specs.WellFormed.{IsModule}
use Rattle.wire_names.specs.declared.fault.WireNamesCause.{WireNamesCause}
use Rattle.wire_names.specs.declared.fault.WireNamesCause.TheVariants.{Wire}
use Rattle.wire_names.specs.Faults.{cause_for, cause_of, fault_at, fault_with, named_by, named_in, names_fault_of, wires_named}
use Rattle.wire_names.specs.Law.{IsRead}
use Rattle.wire_names.specs.Lines.{Line, Named, is_label, line_of, line_of_words}
use Rattle.wire_names.specs.Lists.{free_names, is_free, name_line, names_text, with_free}
use Rattle.wire_names.specs.Names.{is_wire}
use Rattle.wire_names.proofs.Wires.{name-high, wire-named}

-- ---- what is free

-- each is free after those before it
AreFree : Parts → List (List ℕ × List ℕ) → List (List ℕ × List ℕ) → Type 0
AreFree m earlier [] = Unit {0}
AreFree m earlier (pair ∷ names) = (is_free m earlier pair ≡ true) × AreFree m (earlier ++ pair ∷ []) names

-- what is taken of more names that are wanted
record Kept (m : Parts) (earlier wanted : List (List ℕ × List ℕ)) : Type 0 where
  names : List (List ℕ × List ℕ)
  are : fold (with_free m) earlier wanted ≡ earlier ++ names
  free : AreFree m earlier names

kept : (m : Parts) (earlier wanted : List (List ℕ × List ℕ)) → Kept m earlier wanted
unfolding AreFree
kept m earlier [] = record { names = []; are = sym (append-nil earlier); free = tt }
kept m earlier (pair ∷ wanted) =
    elim (cases_Bool (is_free m earlier pair)) [
      | inl free ↦
          let rest = kept m (earlier ++ pair ∷ []) wanted in
          record {
            names = pair ∷ rest.names;
            are = ap (λ b. fold (with_free m) (if b then earlier ++ pair ∷ [] else earlier) wanted) free ∙ rest.are ∙ append_assoc earlier (pair ∷ []) rest.names;
            free = (free, rest.free);
          }
      | inr other ↦
          let rest = kept m earlier wanted in
          record {
            names = rest.names;
            are = ap (λ b. fold (with_free m) (if b then earlier ++ pair ∷ [] else earlier) wanted) other ∙ rest.are;
            free = rest.free;
          }
    ]

-- the one at an index
free-at : (m : Parts) (earlier names : List (List ℕ × List ℕ)) (k : ℕ) → AreFree m earlier names → k < length names → is_free m (earlier ++ take k names) (get_or names k ([], [])) ≡ true
unfolding AreFree
free-at m earlier [] k free within = absurd (omega arith)
free-at m earlier (pair ∷ names) zero free within = ap (λ before. is_free m before pair) (append-nil earlier) ∙ free.0
free-at m earlier (pair ∷ names) (suc k) free within =
    ap (λ before. is_free m before (get_or names k ([], []))) (sym (append_assoc earlier (pair ∷ []) (take k names))) ∙ free-at m (earlier ++ pair ∷ []) names k free.1 (omega arith)

-- ---- what is written of them

graphic-high : (byte : ℕ) → is_ascii_graphic byte ≡ true → 32 < byte
graphic-high byte graphic = grind (arith, nat_tests)

graphics-high : (bytes : List ℕ) → list_all is_ascii_graphic bytes ≡ true → All (λ byte. 32 < byte) bytes
graphics-high [] all = All-nil (λ byte. 32 < byte)
graphics-high (byte ∷ bytes) all =
    let parts = and_parts (is_ascii_graphic byte) (list_all is_ascii_graphic bytes) all in
    All-cons (λ byte. 32 < byte) byte bytes (graphic-high byte parts.0) (graphics-high bytes parts.1)

-- a wire and a name that are words
record AreWords (pair : List ℕ × List ℕ) : Type 0 where
  wire_some : 0 < length pair.0
  wire_high : All (λ byte. 32 < byte) pair.0
  name_some : 0 < length pair.1
  name_high : All (λ byte. 32 < byte) pair.1
  label : is_label pair.1 ≡ true

caused : (b : Bool) (other : Option WireNamesCause) → is_none (cond (not b) (Some Wire) other) ≡ true → b ≡ true
caused true other none = refl
caused false other none = absurd (false≢true none)

none-is : {A : Type 0} (found : Option A) → is_none found ≡ true → found ≡ None
none-is None none = refl
none-is (Some value) none = absurd (false≢true none)

-- what is free are words
free-words : (m : Parts) (earlier : List (List ℕ × List ℕ)) (pair : List ℕ × List ℕ) → IsModule m → is_free m earlier pair ≡ true → AreWords pair
free-words m earlier pair whole free =
    let parts = and_parts (is_label pair.1) (is_none (cause_for m earlier pair.0 pair.1)) free in
    let label = and_parts (nat_lt 0 (length pair.1)) (list_all is_ascii_graphic pair.1) parts.0 in
    let wire = name-high pair.0 (wire-named m pair.0 whole (caused (is_wire m pair.0) _ parts.1)) in
    record {
      wire_some = wire.0;
      wire_high = wire.1;
      name_some = ltb-true 0 (length pair.1) label.0;
      name_high = graphics-high pair.1 label.1;
      label = parts.0;
    }

-- the line says what it was made of
line-said : (pair : List ℕ × List ℕ) → AreWords pair → line_of (name_line pair) ≡ Named pair.0 pair.1
unfolding line_of
line-said pair words =
    ap line_of_words (words_of-two SpacesAndTabs pair.0 pair.1 (IsWord-high SpacesAndTabs pair.0 words.wire_some words.wire_high) (IsWord-high SpacesAndTabs pair.1 words.name_some words.name_high))
    ∙ ap (λ b. if b then Named pair.0 pair.1 else Line.Unknown) words.label

line-plain : (pair : List ℕ × List ℕ) → AreWords pair → IsPlain (name_line pair)
line-plain pair words =
    All-append (λ byte. 32 ≤ byte) pair.0 (32 ∷ pair.1) (All-weaker (λ byte. 32 < byte) (λ byte. 32 ≤ byte) (λ byte high. omega arith) pair.0 words.wire_high)
    (All-cons (λ byte. 32 ≤ byte) 32 pair.1 (omega arith) (All-weaker (λ byte. 32 < byte) (λ byte. 32 ≤ byte) (λ byte high. omega arith) pair.1 words.name_high))

all-words : (m : Parts) (earlier names : List (List ℕ × List ℕ)) → IsModule m → AreFree m earlier names → All AreWords names
unfolding AreFree
all-words m earlier [] whole free = All-nil AreWords
all-words m earlier (pair ∷ names) whole free = All-cons AreWords pair names (free-words m earlier pair whole free.0) (all-words m (earlier ++ pair ∷ []) names whole free.1)

lines-said : (names : List (List ℕ × List ℕ)) → All AreWords names → named_in (map name_line names) ≡ names
unfolding named_in
lines-said [] words = refl
lines-said (pair ∷ names) words =
    ap (λ line. named_by line ++ named_in (map name_line names)) (line-said pair (All-head AreWords pair names words))
    ∙ ap (λ more. pair ∷ more) (lines-said names (All-tail AreWords pair names words))

lines-plain : (names : List (List ℕ × List ℕ)) → All AreWords names → All IsPlain (map name_line names)
lines-plain [] words = All-nil IsPlain
lines-plain (pair ∷ names) words =
    All-cons IsPlain (name_line pair) (map name_line names) (line-plain pair (All-head AreWords pair names words)) (lines-plain names (All-tail AreWords pair names words))

lines-are : (names : List (List ℕ × List ℕ)) → All AreWords names → lines_of (names_text names) ≡ map name_line names
unfolding names_text
lines-are names words = lines_of-text_of (map name_line names) (lines-plain names words)

-- ---- no fault

fine-at : (m : Parts) (names : List (List ℕ × List ℕ)) (k : ℕ) → All AreWords names → AreFree m [] names → k < length names → fault_at m (map name_line names) k ≡ None
fine-at m names k words free within =
    let pair : List ℕ × List ℕ = get_or names k ([], []) in
    let here = free-at m [] names k free within in
    let parts = and_parts (is_label pair.1) (is_none (cause_for m (take k names) pair.0 pair.1)) here in
    let before : named_in (take k (map name_line names)) ≡ take k names = ap named_in (take-map name_line k names) ∙ lines-said (take k names) (All-take AreWords k names words) in
    let line : line_of (line_at (map name_line names) k) ≡ Named pair.0 pair.1 = ap line_of (get_or-map name_line names k ([], []) [] within) ∙ line-said pair (All-get_or AreWords names k ([], []) within words) in
    ap (λ (list : List (List ℕ × List ℕ)). fault_with (k + 1) (cause_of m list (line_of (line_at (map name_line names) k)))) before
    ∙ ap (λ one. fault_with (k + 1) (cause_of m (take k names) one)) line
    ∙ ap (fault_with (k + 1)) (none-is (cause_for m (take k names) pair.0 pair.1) parts.1)

read : (m : Parts) (names : List (List ℕ × List ℕ)) → IsModule m → AreFree m [] names → IsRead m names
unfolding names_fault_of wires_named
read m names whole free =
    let words = all-words m [] names whole free in
    let lines = lines-are names words in
    record {
      faultless = ap (λ (some : List (List ℕ)). first_below (length some) (fault_at m some)) lines
          ∙ first_below-none (length (map name_line names)) (fault_at m (map name_line names)) (λ k within. fine-at m names k words free (omega (arith, length-map names name_line)));
      given = ap named_in lines ∙ lines-said names words;
    }

pub free-names-read : (m : Parts) (wanted : List (List ℕ × List ℕ)) → IsModule m → IsRead m (free_names m wanted)
unfolding free_names
free-names-read m wanted whole =
    let all = kept m [] wanted in
    subst (IsRead m) (sym all.are) (read m all.names whole all.free)
