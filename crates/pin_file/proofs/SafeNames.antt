-- The names that a pin file gives to ports can be used in a module.
use Rattle.std.proofs.Common.{◌≡◌, ℕ, zero, suc, leb, ◌+◌, ◌-◌, ◌<◌, ◌≤◌, ◌^◌, Bool, true, false, not, ◌&&◌, List, [], ◌∷◌, ◌++◌, length, take, get_or, map, append-nil, append_assoc, length-append, refl, sym, ap, ◌∙◌, subst, inl, inr, arith}
use Rattle.std.specs.Prelude.{Option, Some, None, Result, Ok, Err, All, IsTrue, bytes_eq, codes, decimal, is_some, if◌then◌else◌}
use Rattle.std.specs.Char.{is_ascii_digit}
use Rattle.std.specs.Cmp.{IsEquivalence}
use Rattle.std.specs.List.{list_any, list_all, suffix_len, IsDistinct}
use Rattle.std.proofs.lemmas.Bool.{and_from, and_parts, and_right, both_ways, cases_Bool, cases_lt, le-leb, not-true, or_cases, or_from, or_left, or_parts, or_right}
use Rattle.std.proofs.lemmas.Cmp.{and_equiv, nat_eq_equiv, nat_list_eq_equiv, on_equiv}
use Rattle.std.proofs.lemmas.List.{append_cancel_left, get_or_append_left, get_or-append_right, get_or_at, take-append-le, take_all}
use Rattle.std.proofs.lemmas.List.Elements.{All-append, All-cons, All-head, All-nil}
use Rattle.std.proofs.lemmas.List.Folds.{list_all-append, list_any-append}
use Rattle.std.proofs.lemmas.Map.Keys.{IsDistinct-push}
use Rattle.shared_lemmas.proofs.Bytes.{apart_turned, bytes_eq-apart, bytes_eq-same, same_bytes}
use Rattle.shared_lemmas.proofs.Searches.{list_any-push}
use Rattle.text_lines.proofs.Decimals.{decimal-digits, decimal-word}
use Rattle.text_lines.specs.Lines.{lines_of, line_at}
use Rattle.text_lines.specs.declared.words.Separators.TheVariants.{Spaces}
use Rattle.vlog_module.specs.Names.{IsName, is_letter, is_name, is_name_byte, is_reserved, is_word, reserved_words}
use Rattle.pin_file.specs.declared.fault.PinFileCause.{PinFileCause}
use Rattle.pin_file.specs.declared.pin_name.PinName.{PinName}
use Rattle.pin_file.specs.declared.place.PinPlace.{PinPlace}
use Rattle.pin_file.specs.declared.place.PortPin.{PortPin}
use Rattle.pin_file.specs.Lines.{Line, Passed, Port, Unknown, line_of}
use Rattle.pin_file.specs.Packages.{Package}
use Rattle.pin_file.specs.Faults.{is_taken, name_at, name_by, name_if, named_if_free, names_before, place_by, place_in, place_or_none, places_in, ports_of}
use Rattle.pin_file.specs.PortNames.{AreSafe, all_names, begins_numbered, enable_name, has_name, has_own_form, has_place, input_name, is_place, is_underscore, is_usable, name_byte, names_by, names_with, own_beginnings, pin_at, places_of, plain_name, port_name, usable_name}
use Rattle.pin_file.proofs.Ends.{names-more, places-more}
use Rattle.pin_file.proofs.PortSteps.{all_names-push, if-false, if-true, places_of-push}

-- ---- reserved words

-- bytes with `_` among them are none of some words without it
none-same : (bytes : List ℕ) (words : List (List ℕ)) → list_any is_underscore bytes ≡ true → list_all (λ word. not (list_any is_underscore word)) words ≡ true
    → list_any (λ word. bytes_eq word bytes) words ≡ false
none-same bytes [] there none = refl
none-same bytes (word ∷ words) there none =
    let parts = and_parts (not (list_any is_underscore word)) (list_all (λ w. not (list_any is_underscore w)) words) none in
    let without : list_any is_underscore word ≡ false = not-true (list_any is_underscore word) parts.0 in
    let apart : bytes_eq word bytes ≡ false
    = bytes_eq-apart word bytes (λ same. let there_too : list_any is_underscore word ≡ true = ap (list_any is_underscore) same ∙ there in both_ways (list_any is_underscore word) without there_too) in
    or_from (bytes_eq word bytes) (list_any (λ w. bytes_eq w bytes) words) apart (none-same bytes words there parts.1)

not_reserved : (bytes : List ℕ) → list_any is_underscore bytes ≡ true → is_reserved bytes ≡ false
unfolding reserved_words
not_reserved bytes there = none-same bytes reserved_words there refl

-- ---- names that are longer

-- what may come after a name
record IsEnding (ending : List ℕ) : Type 0 where
  marked : list_any is_underscore ending ≡ true
  named : list_all is_name_byte ending ≡ true
  no_digit : (j : ℕ) → is_ascii_digit (get_or ending j 0) ≡ false

enable_ending : IsEnding (codes "_en")
enable_ending = record { marked = refl; named = refl; no_digit = no_digit }
  where
    no_digit : (j : ℕ) → is_ascii_digit (get_or (codes "_en") j 0) ≡ false
    no_digit zero = refl
    no_digit (suc zero) = refl
    no_digit (suc (suc zero)) = refl
    no_digit (suc (suc (suc j))) = refl

input_ending : IsEnding (codes "_in")
input_ending = record { marked = refl; named = refl; no_digit = no_digit }
  where
    no_digit : (j : ℕ) → is_ascii_digit (get_or (codes "_in") j 0) ≡ false
    no_digit zero = refl
    no_digit (suc zero) = refl
    no_digit (suc (suc zero)) = refl
    no_digit (suc (suc (suc j))) = refl

is_word-longer : (name ending : List ℕ) → list_all is_name_byte ending ≡ true → is_word name ≡ true → is_word (name ++ ending) ≡ true
is_word-longer [] ending more word = absurd cc
is_word-longer (byte ∷ bytes) ending more word =
    let parts = and_parts (is_letter byte) (list_all is_name_byte bytes) word in
    and_from (is_letter byte) (list_all is_name_byte (bytes ++ ending)) parts.0
    (list_all-append is_name_byte bytes ending ∙ and_from (list_all is_name_byte bytes) (list_all is_name_byte ending) parts.1 more)

longer-named : (name ending : List ℕ) → IsEnding ending → is_name name ≡ true → is_name (name ++ ending) ≡ true
unfolding is_name
longer-named name ending ends named =
    let parts = and_parts (is_word name) (not (is_reserved name)) named in
    let marked : list_any is_underscore (name ++ ending) ≡ true
    = list_any-append is_underscore name ending ∙ or_right (list_any is_underscore name) (list_any is_underscore ending) ends.marked in
    and_from (is_word (name ++ ending)) (not (is_reserved (name ++ ending))) (is_word-longer name ending ends.named parts.0) (ap not (not_reserved (name ++ ending) marked))

begins-longer : (name ending beginning : List ℕ) → IsEnding ending → begins_numbered name beginning ≡ false → begins_numbered (name ++ ending) beginning ≡ false
begins-longer name ending beginning ends other =
    let n = length beginning in
    elim (cases_lt n (length name)) [
      | inl within ↦
          let le : n ≤ length name = omega arith in
          let front : take n (name ++ ending) ≡ take n name = take-append-le n name ending le in
          let byte : get_or (name ++ ending) n 0 ≡ get_or name n 0 = get_or_append_left name ending 0 n within in
          ap (λ t. bytes_eq beginning t && is_ascii_digit (get_or (name ++ ending) n 0)) front
          ∙ ap (λ b. bytes_eq beginning (take n name) && is_ascii_digit b) byte ∙ other
      | inr over ↦
          and_right (bytes_eq beginning (take n (name ++ ending))) (is_ascii_digit (get_or (name ++ ending) n 0))
          (ap is_ascii_digit (get_or-append_right name ending (length name) n 0 refl over) ∙ ends.no_digit (n - length name))
    ]

none-longer : (name ending : List ℕ) (beginnings : List (List ℕ)) → IsEnding ending → list_any (begins_numbered name) beginnings ≡ false
    → list_any (begins_numbered (name ++ ending)) beginnings ≡ false
none-longer name ending [] ends other = refl
none-longer name ending (beginning ∷ beginnings) ends other =
    let parts = or_parts (begins_numbered name beginning) (list_any (begins_numbered name) beginnings) other in
    or_from (begins_numbered (name ++ ending) beginning) (list_any (begins_numbered (name ++ ending)) beginnings)
    (begins-longer name ending beginning ends parts.0) (none-longer name ending beginnings ends parts.1)

longer-foreign : (name ending : List ℕ) → IsEnding ending → has_own_form name ≡ false → has_own_form (name ++ ending) ≡ false
unfolding has_own_form
longer-foreign name ending ends other = none-longer name ending own_beginnings ends other

-- ---- the name of a port

name_byte-named : (byte : ℕ) → is_name_byte (name_byte byte) ≡ true
name_byte-named byte =
    elim (cases_Bool (is_name_byte byte)) [
      | inl named ↦ ap is_name_byte (if-true (is_name_byte byte) byte 95 named) ∙ named
      | inr other ↦ ap is_name_byte (if-false (is_name_byte byte) byte 95 other)
    ]

bytes-named : (name : List ℕ) → list_all is_name_byte (map name_byte name) ≡ true
bytes-named [] = refl
bytes-named (byte ∷ bytes) = and_from (is_name_byte (name_byte byte)) (list_all is_name_byte (map name_byte bytes)) (name_byte-named byte) (bytes-named bytes)

all-front : (bytes : List ℕ) (n : ℕ) → list_all is_name_byte bytes ≡ true → list_all is_name_byte (take n bytes) ≡ true
all-front bytes zero all = refl
all-front [] (suc n) all = refl
all-front (byte ∷ bytes) (suc n) all =
    let parts = and_parts (is_name_byte byte) (list_all is_name_byte bytes) all in
    and_from (is_name_byte byte) (list_all is_name_byte (take n bytes)) parts.0 (all-front bytes n parts.1)

plain-bytes : (name : List ℕ) → list_all is_name_byte (plain_name name) ≡ true
unfolding plain_name
plain-bytes name = all-front (map name_byte name) (length (map name_byte name) - suffix_len is_underscore (map name_byte name)) (bytes-named name)

-- `p_` before bytes of a name makes a name
front-named : (name : List ℕ) → list_all is_name_byte name ≡ true → is_name (codes "p_" ++ name) ≡ true
unfolding is_name
front-named name named = and_from (is_word (codes "p_" ++ name)) (not (is_reserved (codes "p_" ++ name))) named (ap not (not_reserved (codes "p_" ++ name) refl))

front-foreign : (name : List ℕ) → has_own_form (codes "p_" ++ name) ≡ false
unfolding has_own_form own_beginnings
front-foreign name = refl

-- a port can have the name
abbrev IsUsable : List ℕ → Type 0
IsUsable name = (is_name name ≡ true) × (has_own_form name ≡ false)

plain-usable : (name : List ℕ) → list_all is_name_byte name ≡ true → IsUsable (usable_name name)
plain-usable name named =
    elim (cases_Bool (is_usable name)) [
      | inl usable ↦
          let parts = and_parts (is_name name) (not (has_own_form name)) usable in
          subst IsUsable (sym (if-true (is_usable name) name (codes "p_" ++ name) usable)) (parts.0, not-true (has_own_form name) parts.1)
      | inr other ↦
          subst IsUsable (sym (if-false (is_usable name) name (codes "p_" ++ name) other)) (front-named name named, front-foreign name)
    ]

port-usable : (name : List ℕ) → IsUsable (port_name name)
unfolding port_name
port-usable name = plain-usable (plain_name name) (plain-bytes name)

pub made-named : (name plain made : List ℕ) → plain ≡ plain_name name → made ≡ usable_name plain → IsName made
made-named name plain made plain_is is = subst IsName (sym (is ∙ ap usable_name plain_is)) (plain-usable (plain_name name) (plain-bytes name)).0

-- ---- the names of a pin's ports

one-if : (P : List ℕ → Type 0) (b : Bool) (name : List ℕ) → P name → All P (if b then name ∷ [] else [])
one-if P true name is = All-cons P name [] is (All-nil P)
one-if P false name is = All-nil P

names-all : (P : List ℕ → Type 0) (name : List ℕ) (pin : PortPin) → P name → P (enable_name name) → P (input_name name) → All P (names_with name pin)
names-all P name pin first second third =
    All-cons P name _ first (All-append P _ _ (one-if P pin.enable (enable_name name) second) (one-if P pin.outside (input_name name) third))

longer-apart : (name ending : List ℕ) → 0 < length ending → bytes_eq name (name ++ ending) ≡ false
longer-apart name ending some =
    bytes_eq-apart name (name ++ ending) (λ same.
    let count : length (name ++ ending) ≡ length name + length ending = length-append name ending in
    let equal : length name ≡ length (name ++ ending) = ap (λ (n : List ℕ). length n) same in
    omega arith)

endings-apart : (name : List ℕ) → bytes_eq (enable_name name) (input_name name) ≡ false
endings-apart name =
    bytes_eq-apart (enable_name name) (input_name name) (λ same.
    let equal : 101 ≡ 105 = ap (λ (n : List ℕ). get_or n 1 0) (append_cancel_left name (codes "_en") (codes "_in") same) in
    omega arith)

apart-by : (name : List ℕ) (enable outside : Bool)
    → IsDistinct bytes_eq (name ∷ ((if enable then enable_name name ∷ [] else []) ++ (if outside then input_name name ∷ [] else [])))
unfolding IsDistinct
apart-by name true true = ((longer-apart name (codes "_en") (omega arith), (longer-apart name (codes "_in") (omega arith), tt)), ((endings-apart name, tt), (tt, tt)))
apart-by name true false = ((longer-apart name (codes "_en") (omega arith), tt), (tt, tt))
apart-by name false true = ((longer-apart name (codes "_in") (omega arith), tt), (tt, tt))
apart-by name false false = (tt, tt)

-- ---- one port more

place_equiv : IsEquivalence is_place
place_equiv =
    and_equiv (on_equiv (λ (p : PinPlace). p.x) nat_eq_equiv) (and_equiv (on_equiv (λ (p : PinPlace). p.y) nat_eq_equiv) (on_equiv (λ (p : PinPlace). p.pio) nat_eq_equiv))

-- names that aren't among some names aren't among these with a name more that they are all apart from
free-more : (names : List (List ℕ)) (name : List ℕ) (more : List (List ℕ)) → list_any (has_name names) more ≡ false → IsDistinct bytes_eq (name ∷ more)
    → list_any (has_name (names ++ name ∷ [])) more ≡ false
unfolding IsDistinct
free-more names name [] free distinct = refl
free-more names name (other ∷ more) free distinct =
    let parts = or_parts (has_name names other) (list_any (has_name names) more) free in
    or_from (has_name (names ++ name ∷ []) other) (list_any (has_name (names ++ name ∷ [])) more)
    (list_any-push (bytes_eq other) names name ∙ or_from (has_name names other) (bytes_eq other name) parts.0 (apart_turned name other distinct.0.0))
    (free-more names name more parts.1 (distinct.0.1, distinct.1.1))

distinct-append : (names more : List (List ℕ)) → IsDistinct bytes_eq names → IsDistinct bytes_eq more → list_any (has_name names) more ≡ false
    → IsDistinct bytes_eq (names ++ more)
unfolding IsDistinct
distinct-append names [] distinct apart free = subst (IsDistinct bytes_eq) (sym (append-nil names)) distinct
distinct-append names (name ∷ more) distinct apart free =
    let parts = or_parts (has_name names name) (list_any (has_name names) more) free in
    let one = IsDistinct-push nat_list_eq_equiv names name distinct parts.0 in
    subst (IsDistinct bytes_eq) (append_assoc names (name ∷ []) more) (distinct-append (names ++ name ∷ []) more one apart.1 (free-more names name more parts.1 apart))

safe-nothing : (pins : List PortPin) → AreSafe pins []
unfolding all_names places_of IsDistinct
safe-nothing pins = record {
  are_names = All-nil IsName;
  foreign = All-nil (λ name. has_own_form name ≡ false);
  apart = tt;
  are_ports = All-nil (λ (port : PinName). IsTrue (is_some (pin_at pins port.place)));
  places_apart = tt;
}

safe-more : (pins : List PortPin) (named : List PinName) (port : PinName) (pin : PortPin) → AreSafe pins named → pin_at pins port.place ≡ Some pin → IsUsable port.name
    → is_taken (all_names pins named) pin port.name ≡ false → has_place port.place (places_of named) ≡ false → AreSafe pins (named ++ port ∷ [])
safe-more pins named port pin safe there usable free new =
    let grown : all_names pins (named ++ port ∷ []) ≡ all_names pins named ++ names_with port.name pin
    = all_names-push pins named port ∙ ap (λ found. all_names pins named ++ names_by port.name found) there in
    let name = port.name in
    record {
      are_names =
          subst (All IsName) (sym grown)
          (All-append IsName (all_names pins named) (names_with name pin) safe.are_names
          (names-all IsName name pin usable.0 (longer-named name (codes "_en") enable_ending usable.0) (longer-named name (codes "_in") input_ending usable.0)));
      foreign =
          subst (All (λ n. has_own_form n ≡ false)) (sym grown)
          (All-append (λ n. has_own_form n ≡ false) (all_names pins named) (names_with name pin) safe.foreign
          (names-all (λ n. has_own_form n ≡ false) name pin usable.1 (longer-foreign name (codes "_en") enable_ending usable.1) (longer-foreign name (codes "_in") input_ending usable.1)));
      apart =
          subst (IsDistinct bytes_eq) (sym grown)
          (distinct-append (all_names pins named) (names_with name pin) safe.apart (apart-by name pin.enable pin.outside) free);
      are_ports =
          All-append (λ (p : PinName). IsTrue (is_some (pin_at pins p.place))) named (port ∷ []) safe.are_ports
          (All-cons (λ (p : PinName). IsTrue (is_some (pin_at pins p.place))) port [] (ap is_some there) (All-nil (λ (p : PinName). IsTrue (is_some (pin_at pins p.place)))));
      places_apart =
          subst (IsDistinct is_place) (sym (places_of-push named port))
          (IsDistinct-push place_equiv (places_of named) port.place safe.places_apart new);
    }

-- ---- line by line

-- the names are safe, and each is that of a pin that an earlier line names
record SafeBefore (pins : List PortPin) (earlier : List PinPlace) (named : List PinName) : Type 0 where
  safe : AreSafe pins named
  among : (place : PinPlace) → has_place place earlier ≡ false → has_place place (places_of named) ≡ false

-- no name more
safe-same : (pins : List PortPin) (earlier more : List PinPlace) (named given : List PinName) → given ≡ [] → SafeBefore pins earlier named
    → SafeBefore pins (earlier ++ more) (named ++ given)
safe-same pins earlier more named given none before =
    subst (SafeBefore pins (earlier ++ more)) (sym (append-nil named) ∙ ap (λ list. named ++ list) (sym none))
    (record {
      safe = before.safe;
      among = λ place away. before.among place (or_parts (has_place place earlier) (has_place place more) (sym (list_any-append (is_place place) earlier more) ∙ away)).0;
    })

safe-new : (pins : List PortPin) (earlier : List PinPlace) (named : List PinName) (port : PinName) (pin : PortPin) → SafeBefore pins earlier named → pin_at pins port.place ≡ Some pin
    → IsUsable port.name → is_taken (all_names pins named) pin port.name ≡ false → has_place port.place earlier ≡ false
    → SafeBefore pins (earlier ++ port.place ∷ []) (named ++ port ∷ [])
safe-new pins earlier named port pin before there usable free new = record {
  safe = safe-more pins named port pin before.safe there usable free (before.among port.place new);
  among = λ place away.
      let parts = or_parts (has_place place earlier) (is_place place port.place) (sym (list_any-push (is_place place) earlier port.place) ∙ away) in
      ap (has_place place) (places_of-push named port) ∙ list_any-push (is_place place) (places_of named) port.place
      ∙ or_from (has_place place (places_of named)) (is_place place port.place) (before.among place parts.0) parts.1;
}

safe-pin : (pins : List PortPin) (earlier : List PinPlace) (named : List PinName) (place : PinPlace) (name : List ℕ) (found : Option PortPin) → SafeBefore pins earlier named
    → pin_at pins place ≡ found → IsUsable name → has_place place earlier ≡ false
    → SafeBefore pins (earlier ++ place ∷ []) (named ++ named_if_free (all_names pins named) place name found)
safe-pin pins earlier named place name None before there usable new = safe-same pins earlier (place ∷ []) named [] refl before
safe-pin pins earlier named place name (Some pin) before there usable new =
    let port : PinName = record { place = place; name = name } in
    elim (cases_Bool (is_taken (all_names pins named) pin name)) [
      | inl taken ↦ safe-same pins earlier (place ∷ []) named _ (if-true (is_taken (all_names pins named) pin name) [] (port ∷ []) taken) before
      | inr free ↦
          subst (λ given. SafeBefore pins (earlier ++ place ∷ []) (named ++ given)) (sym (if-false (is_taken (all_names pins named) pin name) [] (port ∷ []) free))
          (safe-new pins earlier named port pin before there usable free new)
    ]

safe-at : (pins : List PortPin) (earlier : List PinPlace) (named : List PinName) (name : List ℕ) (place : PinPlace) → SafeBefore pins earlier named
    → SafeBefore pins (earlier ++ place ∷ []) (named ++ name_at pins earlier named name place)
safe-at pins earlier named name place before =
    let given = named_if_free (all_names pins named) place (port_name name) (pin_at pins place) in
    elim (cases_Bool (has_place place earlier)) [
      | inl known ↦ safe-same pins earlier (place ∷ []) named _ (if-true (has_place place earlier) [] given known) before
      | inr new ↦
          subst (λ list. SafeBefore pins (earlier ++ place ∷ []) (named ++ list)) (sym (if-false (has_place place earlier) [] given new))
          (safe-pin pins earlier named place (port_name name) (pin_at pins place) before refl (port-usable name) new)
    ]

safe-found : (pins : List PortPin) (earlier : List PinPlace) (named : List PinName) (name : List ℕ) (found : Result PinPlace PinFileCause) → SafeBefore pins earlier named
    → SafeBefore pins (earlier ++ place_or_none found) (named ++ name_if pins earlier named name found)
safe-found pins earlier named name (Ok place) before = safe-at pins earlier named name place before
safe-found pins earlier named name (Err cause) before = safe-same pins earlier [] named [] refl before

safe-line : (chosen : Package) (pins : List PortPin) (earlier : List PinPlace) (named : List PinName) (line : Line) → SafeBefore pins earlier named
    → SafeBefore pins (earlier ++ place_by chosen line) (named ++ name_by chosen pins earlier named line)
safe-line chosen pins earlier named Passed before = safe-same pins earlier [] named [] refl before
safe-line chosen pins earlier named Unknown before = safe-same pins earlier [] named [] refl before
safe-line chosen pins earlier named (Port name pin) before = safe-found pins earlier named name (place_in chosen pin) before

safe-begun : (chosen : Package) (pins : List PortPin) (lines : List (List ℕ)) → SafeBefore pins (places_in chosen (take 0 lines)) (names_before chosen pins lines 0)
unfolding places_in names_before places_of
safe-begun chosen pins lines = record { safe = safe-nothing pins; among = λ place away. refl }

safe-below : (chosen : Package) (pins : List PortPin) (lines : List (List ℕ)) (k : ℕ) → k ≤ length lines
    → SafeBefore pins (places_in chosen (take k lines)) (names_before chosen pins lines k)
safe-below chosen pins lines zero within = safe-begun chosen pins lines
safe-below chosen pins lines (suc k) within =
    let before : k < length lines = omega arith in
    let next : k + 1 ≡ suc k = omega arith in
    let earlier = places_in chosen (take k lines) in
    let named = names_before chosen pins lines k in
    let more = safe-line chosen pins earlier named (line_of (line_at lines k)) (safe-below chosen pins lines k (omega arith)) in
    subst (λ n. SafeBefore pins (places_in chosen (take n lines)) (names_before chosen pins lines n)) next
    (subst (λ places. SafeBefore pins places (names_before chosen pins lines (k + 1))) (sym (places-more chosen lines k before))
    (subst (SafeBefore pins (earlier ++ place_by chosen (line_of (line_at lines k)))) (sym (names-more chosen pins lines k)) more))

-- The names that a pin file gives are safe.
pub safe-ports : (chosen : Package) (pins : List PortPin) (text : List ℕ) → AreSafe pins (ports_of chosen pins text)
unfolding ports_of
safe-ports chosen pins text = (safe-below chosen pins (lines_of text) (length (lines_of text)) (omega arith)).safe

-- ---- what has an own form

front-is : (beginning more : List ℕ) → take (length beginning) (beginning ++ more) ≡ beginning
front-is beginning more = take-append-le (length beginning) beginning more (omega arith) ∙ take_all (length beginning) beginning (omega arith)

-- a beginning with a digit after it
pub begins-digit : (beginning : List ℕ) (digit : ℕ) (more : List ℕ) → is_ascii_digit digit ≡ true → begins_numbered (beginning ++ digit ∷ more) beginning ≡ true
begins-digit beginning digit more is =
    and_from (bytes_eq beginning (take (length beginning) (beginning ++ digit ∷ more))) (is_ascii_digit (get_or (beginning ++ digit ∷ more) (length beginning) 0))
    (bytes_eq-same beginning (take (length beginning) (beginning ++ digit ∷ more)) (sym (front-is beginning (digit ∷ more))))
    (ap is_ascii_digit (get_or_at beginning digit more 0 (length beginning) refl) ∙ is)

begins-some : (name beginning : List ℕ) (beginnings : List (List ℕ)) → list_any (bytes_eq beginning) beginnings ≡ true → begins_numbered name beginning ≡ true → list_any (begins_numbered name) beginnings ≡ true
begins-some name beginning [] among is = absurd cc
begins-some name beginning (first ∷ beginnings) among is =
    elim (or_cases (bytes_eq beginning first) (list_any (bytes_eq beginning) beginnings) among) [
      | inl same ↦
          or_left (begins_numbered name first) (list_any (begins_numbered name) beginnings) (ap (begins_numbered name) (sym (same_bytes beginning first same)) ∙ is)
      | inr later ↦
          or_right (begins_numbered name first) (list_any (begins_numbered name) beginnings) (begins-some name beginning beginnings later is)
    ]

-- A name that a module makes of one of its beginnings and a number has an own form, whatever follows the number's first digit.
pub own_form-digit : (beginning : List ℕ) (digit : ℕ) (more : List ℕ) → list_any (bytes_eq beginning) own_beginnings ≡ true → is_ascii_digit digit ≡ true → has_own_form (beginning ++ digit ∷ more) ≡ true
unfolding has_own_form
own_form-digit beginning digit more among is = begins-some (beginning ++ digit ∷ more) beginning own_beginnings among (begins-digit beginning digit more is)

is_digit : (byte : ℕ) → 48 ≤ byte → byte ≤ 57 → is_ascii_digit byte ≡ true
is_digit byte low high = and_from (leb 48 byte) (leb byte 57) (le-leb 48 byte low) (le-leb byte 57 high)

-- the beginning with a number in decimal digits after it
own_form-digits : (beginning digits more : List ℕ) → list_any (bytes_eq beginning) own_beginnings ≡ true → 0 < length digits → All (λ byte. (48 ≤ byte) × (byte ≤ 57)) digits
    → has_own_form (beginning ++ (digits ++ more)) ≡ true
own_form-digits beginning [] more among some are = absurd (omega arith)
own_form-digits beginning (digit ∷ digits) more among some are =
    let first = All-head (λ byte. (48 ≤ byte) × (byte ≤ 57)) digit digits are in
    own_form-digit beginning digit (digits ++ more) among (is_digit digit first.0 first.1)

pub own_form-number : (beginning : List ℕ) (number : ℕ) (more : List ℕ) → list_any (bytes_eq beginning) own_beginnings ≡ true → number < 2 ^ 64 → has_own_form (beginning ++ (decimal number ++ more)) ≡ true
own_form-number beginning number more among small =
    own_form-digits beginning (decimal number) more among (decimal-word Spaces number small).some (decimal-digits number small)
