-- What is kept of a pin file, one line more at a time.
use Rattle.std.proofs.Common.{◌≡◌, ℕ, Bool, true, false, ◌||◌, List, [], ◌∷◌, ◌++◌, append-nil, refl, sym, ap, ◌∙◌, subst, map}
use Rattle.std.specs.Prelude.{Some, Vec, bytes_eq, if◌then◌else◌}
use Rattle.std.specs.Global.{Global}
use Rattle.std.specs.List.{list_any}
use Rattle.std.specs.Map.{lookup}
use Rattle.std.proofs.lemmas.List.{map-append}
use Rattle.std.proofs.lemmas.List.Folds.{list_any-append}
use Rattle.shared_lemmas.proofs.Lists.{flat_map-push}
use Rattle.shared_lemmas.proofs.Searches.{list_any-push}
use Rattle.pin_file.specs.declared.pin_name.PinName.{PinName}
use Rattle.pin_file.specs.declared.place.PinPlace.{PinPlace}
use Rattle.pin_file.specs.declared.place.PortPin.{PortPin}
use Rattle.pin_file.specs.declared.ports.Ports.{Ports}
use Rattle.pin_file.specs.Faults.{is_taken, name_at, named_if_free}
use Rattle.pin_file.specs.PortNames.{all_names, has_name, has_place, is_place, names_by, names_with, pin_at, places_of, port_name}
use Rattle.pin_file.specs.inside.Reading.{Grows, Holds, pin_kept}
use Rattle.pin_file.proofs.PinSteps.{any-names}

-- ---- lists of ports

pub places_of-push : (named : List PinName) (port : PinName) → places_of (named ++ port ∷ []) ≡ places_of named ++ port.place ∷ []
unfolding places_of
places_of-push named port = map-append (λ (p : PinName). p.place) named (port ∷ [])

pub all_names-push : (pins : List PortPin) (named : List PinName) (port : PinName) → all_names pins (named ++ port ∷ []) ≡ all_names pins named ++ names_by port.name (pin_at pins port.place)
unfolding all_names
all_names-push pins named port = flat_map-push (λ (p : PinName). names_by p.name (pin_at pins p.place)) named port

-- ---- nothing is named

pub grows-nothing : (ports : Ports) → Grows ports ports [] (λ pins earlier named. [])
grows-nothing ports = λ pins earlier named holds.
    subst (λ list. Holds pins list (named ++ []) ports) (sym (append-nil earlier))
    (subst (λ list. Holds pins earlier list ports) (sym (append-nil named)) holds)

-- a pin with ports
pub grows-pin : (old new : Ports) (place : PinPlace) (name : List ℕ) (pin : PortPin) → pin_kept old.pins place ≡ Some pin
    → Grows old new [] (λ pins earlier named. named_if_free (all_names pins named) place name (Some pin))
    → Grows old new [] (λ pins earlier named. named_if_free (all_names pins named) place name (pin_at pins place))
grows-pin old new place name pin there grows = λ pins earlier named holds.
    subst (λ found. Holds pins (earlier ++ []) (named ++ named_if_free (all_names pins named) place name found) new) (sym there ∙ holds.pins_are place)
    (grows pins earlier named holds)

-- ---- places

-- what is the same after a place was added
pub record AddsPlace (old : Ports) (place : PinPlace) (new : Ports) : Type 0 where
  pub list : new.list.items ≡ old.list.items
  pub places : (other : PinPlace) → has_place other new.places ≡ (has_place other old.places || is_place other place)
  pub names : new.names ≡ old.names
  pub pins : new.pins.pins.entries ≡ old.pins.pins.entries

holds-place : (old new : Ports) (place : PinPlace) → AddsPlace old place new → (pins : List PortPin) (earlier : List PinPlace) (named : List PinName) → Holds pins earlier named old
    → Holds pins (earlier ++ place ∷ []) named new
holds-place old new place adds pins earlier named holds = record {
  list = adds.list ∙ holds.list;
  places = λ other.
      adds.places other ∙ ap (λ b. b || is_place other place) (holds.places other) ∙ sym (list_any-push (is_place other) earlier place);
  names = λ name. ap (λ names. has_name names name) adds.names ∙ holds.names name;
  pins_are = λ other. ap (lookup (is_place other)) adds.pins ∙ holds.pins_are other;
}

pub if-true : {A : Type 0} (b : Bool) (x y : A) → b ≡ true → (if b then x else y) ≡ x
if-true true x y is = refl
if-true false x y is = absurd cc

pub if-false : {A : Type 0} (b : Bool) (x y : A) → b ≡ false → (if b then x else y) ≡ y
if-false true x y is = absurd cc
if-false false x y is = refl

-- a place that none does
pub grows-new : (old mid new : Ports) (place : PinPlace) (name : List ℕ) → has_place place old.places ≡ false → AddsPlace old place mid
    → Grows mid new [] (λ pins earlier named. named_if_free (all_names pins named) place (port_name name) (pin_at pins place))
    → Grows old new (place ∷ []) (λ pins earlier named. name_at pins earlier named name place)
grows-new old mid new place name free adds grows = λ pins earlier named holds.
    let given : name_at pins earlier named name place ≡ named_if_free (all_names pins named) place (port_name name) (pin_at pins place)
    = if-false (has_place place earlier) [] (named_if_free (all_names pins named) place (port_name name) (pin_at pins place)) (sym (holds.places place) ∙ free) in
    let grown = grows pins (earlier ++ place ∷ []) named (holds-place old mid place adds pins earlier named holds) in
    subst (λ list. Holds pins list (named ++ name_at pins earlier named name place) new) (append-nil (earlier ++ place ∷ []))
    (subst (λ list. Holds pins ((earlier ++ place ∷ []) ++ []) (named ++ list) new) (sym given) grown)

-- ---- names

any-same : {A : Type 0} (one two : A → Bool) → ((x : A) → one x ≡ two x) → (xs : List A) → list_any one xs ≡ list_any two xs
any-same one two same [] = refl
any-same one two same (x ∷ xs) = ap (λ b. b || list_any one xs) (same x) ∙ ap (λ b. two x || b) (any-same one two same xs)

-- whether one of the names of a pin's ports is given, as the code finds it
taken-is : (ports : Ports) (pin : PortPin) (name : List ℕ) (names : List (Vec ℕ Global)) → map (λ n. n.items) names ≡ names_with name pin
    → (pins : List PortPin) (earlier : List PinPlace) (named : List PinName) → Holds pins earlier named ports
    → list_any (λ n. has_name ports.names n.items) names ≡ is_taken (all_names pins named) pin name
taken-is ports pin name names are pins earlier named holds =
    any-names (λ n. n.items) (has_name ports.names) names
    ∙ ap (list_any (has_name ports.names)) are
    ∙ any-same (has_name ports.names) (has_name (all_names pins named)) holds.names (names_with name pin)

-- one of them is given
pub grows-taken : (ports : Ports) (place : PinPlace) (pin : PortPin) (name : List ℕ) (names : List (Vec ℕ Global)) → map (λ n. n.items) names ≡ names_with name pin
    → list_any (λ n. has_name ports.names n.items) names ≡ true
    → Grows ports ports [] (λ pins earlier named. named_if_free (all_names pins named) place name (Some pin))
grows-taken ports place pin name names are taken = λ pins earlier named holds.
    let none : named_if_free (all_names pins named) place name (Some pin) ≡ []
    = if-true (is_taken (all_names pins named) pin name) [] (record { place = place; name = name } ∷ []) (sym (taken-is ports pin name names are pins earlier named holds) ∙ taken) in
    subst (λ list. Holds pins (earlier ++ []) (named ++ list) ports) (sym none) (grows-nothing ports pins earlier named holds)

-- what is added with a name
pub record AddsName (old : Ports) (port : PinName) (added : List (List ℕ)) (new : Ports) : Type 0 where
  pub list : new.list.items ≡ old.list.items ++ port ∷ []
  pub places : new.places ≡ old.places
  pub names : (name : List ℕ) → has_name new.names name ≡ (has_name old.names name || has_name added name)
  pub pins : new.pins.pins.entries ≡ old.pins.pins.entries

-- none of them is
pub grows-free : (old new : Ports) (place : PinPlace) (pin : PortPin) (name : List ℕ) (names : List (Vec ℕ Global)) → map (λ n. n.items) names ≡ names_with name pin
    → list_any (λ n. has_name old.names n.items) names ≡ false → pin_kept old.pins place ≡ Some pin
    → AddsName old (record { place = place; name = name }) (map (λ n. n.items) names) new
    → Grows old new [] (λ pins earlier named. named_if_free (all_names pins named) place name (Some pin))
grows-free old new place pin name names are free there adds = λ pins earlier named holds.
    let port : PinName = record { place = place; name = name } in
    let given : named_if_free (all_names pins named) place name (Some pin) ≡ port ∷ []
    = if-false (is_taken (all_names pins named) pin name) [] (port ∷ []) (sym (taken-is old pin name names are pins earlier named holds) ∙ free) in
    let grown : all_names pins (named ++ port ∷ []) ≡ all_names pins named ++ names_with name pin
    = all_names-push pins named port ∙ ap (λ found. all_names pins named ++ names_by name found) (sym (holds.pins_are place) ∙ there) in
    let holding : Holds pins earlier (named ++ port ∷ []) new
    = record {
      list = adds.list ∙ ap (λ list. list ++ port ∷ []) holds.list;
      places = λ other. ap (has_place other) adds.places ∙ holds.places other;
      names = λ other.
          adds.names other ∙ ap (λ b. b || has_name (map (λ n. n.items) names) other) (holds.names other)
          ∙ ap (λ list. has_name (all_names pins named) other || has_name list other) are
          ∙ sym (ap (λ list. has_name list other) grown ∙ list_any-append (bytes_eq other) (all_names pins named) (names_with name pin));
      pins_are = λ other. ap (lookup (is_place other)) adds.pins ∙ holds.pins_are other;
    } in
    subst (λ list. Holds pins list (named ++ named_if_free (all_names pins named) place name (Some pin)) new) (sym (append-nil earlier))
    (subst (λ list. Holds pins earlier (named ++ list) new) (sym given) holding)

-- ---- nothing is kept

pub holds-new : (pins : List PortPin) (ports : Ports) → ports.list.items ≡ [] → ports.places ≡ [] → ports.names ≡ [] → ((place : PinPlace) → pin_kept ports.pins place ≡ pin_at pins place)
    → Holds pins [] [] ports
unfolding all_names
holds-new pins ports none nowhere unnamed same = record {
  list = none;
  places = λ place. ap (has_place place) nowhere;
  names = λ name. ap (λ names. has_name names name) unnamed;
  pins_are = same;
}
