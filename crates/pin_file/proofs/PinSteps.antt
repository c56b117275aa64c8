-- Pins, places and names that are kept, and one more.
use Rattle.std.proofs.Common.{◌≡◌, ℕ, ◌+◌, ◌<◌, Bool, true, false, ◌||◌, ◌&&◌, cond, List, [], ◌∷◌, ◌++◌, length, take, get_or, map, refl, sym, ap, ◌∙◌, subst, inl, inr, eq-eqb, eqb-true}
use Rattle.std.specs.Prelude.{Option, Some, None, bytes_eq, is_some, ◌==◌, if◌then◌else◌}
use Rattle.std.specs.Option.{option_or}
use Rattle.std.specs.List.{list_any}
use Rattle.std.specs.Map.{lookup}
use Rattle.std.proofs.Math.Bool.{or-false}
use Rattle.std.proofs.lemmas.Bool.{and_from, and_parts, cases_Bool, or_left}
use Rattle.std.proofs.lemmas.List.{map-append, take_more}
use Rattle.std.proofs.lemmas.List.Folds.{find-append}
use Rattle.shared_lemmas.proofs.Bytes.{same_bytes}
use Rattle.shared_lemmas.proofs.Searches.{list_any-push}
use Rattle.index_search.specs.Places.{or_else}
use Rattle.index_search.proofs.Places.{or_else-none}
use Rattle.pin_file.specs.declared.package_pins.PackagePins.{PackagePins}
use Rattle.pin_file.specs.declared.place.PinPlace.{PinPlace}
use Rattle.pin_file.specs.declared.place.PortPin.{PortPin}
use Rattle.pin_file.specs.declared.port_pins.PortPins.{PortPins}
use Rattle.pin_file.specs.Feeding.{place_kept}
use Rattle.pin_file.specs.PortNames.{has_name, is_place, pin_at}
use Rattle.pin_file.specs.inside.Reading.{pin_kept}

-- ---- places

pub place-same : (one two : PinPlace) → is_place one two ≡ true → one ≡ two
place-same one two same =
    let parts = and_parts (one.x == two.x) ((one.y == two.y) && (one.pio == two.pio)) same in
    let last = and_parts (one.y == two.y) (one.pio == two.pio) parts.1 in
    let x : one.x ≡ two.x = eqb-true one.x two.x parts.0 in
    let y : one.y ≡ two.y = eqb-true one.y two.y last.0 in
    let pio : one.pio ≡ two.pio = eqb-true one.pio two.pio last.1 in
    λ i. record { x = x i; y = y i; pio = pio i }

pub place-itself : (place : PinPlace) → is_place place place ≡ true
place-itself place =
    and_from _ _ (eq-eqb place.x place.x refl) (and_from _ _ (eq-eqb place.y place.y refl) (eq-eqb place.pio place.pio refl))

-- ---- pins

pub lookup-push : {K A : Type 0} (test : K → Bool) (entries : List (K × A)) (key : K) (value : A)
    → lookup test (entries ++ (key, value) ∷ []) ≡ or_else (lookup test entries) (cond (test key) (Some value) None)
lookup-push test [] key value = refl
lookup-push test (entry ∷ entries) key value =
    elim (test entry.0) as (λ b. cond b (Some entry.1) (lookup test (entries ++ (key, value) ∷ [])) ≡ or_else (cond b (Some entry.1) (lookup test entries)) (cond (test key) (Some value) None)) [
      | true ↦ refl
      | false ↦ lookup-push test entries key value
    ]

or_else-known : {A : Type 0} (found other : Option A) → is_some found ≡ true → found ≡ or_else found other
or_else-known (Some value) other is = refl
or_else-known None other is = cc

-- a pin that has a place keeps it
pub place-stays : (pins : PackagePins) (pin other : List ℕ) (place : PinPlace) → is_some (place_kept pins pin) ≡ true
    → place_kept pins other ≡ or_else (place_kept pins other) (if bytes_eq pin other then Some place else None)
place-stays pins pin other place known =
    elim (cases_Bool (bytes_eq pin other)) [
      | inl same ↦
          or_else-known (place_kept pins other) (if bytes_eq pin other then Some place else None)
          (ap (λ q. is_some (place_kept pins q)) (sym (same_bytes pin other same)) ∙ known)
      | inr apart ↦ rw apart (sym (or_else-none (place_kept pins other)))
    ]

-- ---- pins that have a port

-- what is kept at a place stays
pub value-stays : {A : Type 0} (kept : PinPlace → Option A) (value : A) (place other : PinPlace) → is_some (kept place) ≡ true
    → kept other ≡ or_else (kept other) (if is_place other place then Some value else None)
value-stays kept value place other known =
    elim (cases_Bool (is_place other place)) [
      | inl same ↦ or_else-known (kept other) (if is_place other place then Some value else None) (ap (λ p. is_some (kept p)) (place-same other place same) ∙ known)
      | inr apart ↦ rw apart (sym (or_else-none (kept other)))
    ]

pub pin-stays : (kept : PortPins) (pin : PortPin) (place : PinPlace) → is_some (pin_kept kept pin.place) ≡ true
    → pin_kept kept place ≡ or_else (pin_kept kept place) (if is_place place pin.place then Some pin else None)
pin-stays kept pin place known = value-stays (pin_kept kept) pin pin.place place known

either-is : {A : Type 0} (first other : Option A) → option_or first other ≡ or_else first other
either-is (Some value) other = refl
either-is None other = refl

-- the pin at a place, with one pin more
pub pin_at-more : (pins : List PortPin) (k : ℕ) (d : PortPin) (place : PinPlace) → k < length pins
    → pin_at (take (k + 1) pins) place ≡ or_else (pin_at (take k pins) place) (if is_place place (get_or pins k d).place then Some (get_or pins k d) else None)
pin_at-more pins k d place within =
    let here = get_or pins k d in
    ap (λ list. pin_at list place) (take_more pins k d within)
    ∙ find-append (λ pin. is_place place pin.place) (take k pins) (here ∷ [])
    ∙ either-is (pin_at (take k pins) place) (pin_at (here ∷ []) place)

-- ---- sets

-- what is in a list is found in it again
in-again : {A : Type 0} (same : A → A → Bool) → ((a b : A) → same a b ≡ true → a ≡ b) → (xs : List A) (x y : A) → list_any (same x) xs ≡ true
    → list_any (same y) xs ≡ (list_any (same y) xs || same y x)
in-again same equal xs x y there =
    elim (cases_Bool (same y x)) [
      | inl is ↦
          let found : list_any (same y) xs ≡ true = ap (λ z. list_any (same z) xs) (equal y x is) ∙ there in
          found ∙ sym (or_left (list_any (same y) xs) (same y x) found)
      | inr other ↦ rw other (sym (or-false (list_any (same y) xs)))
    ]

-- what is in a list, after an item was added that wasn't there
pub found-inserted : {A : Type 0} (same : A → A → Bool) → ((a b : A) → same a b ≡ true → a ≡ b) → (xs now : List A) (x : A)
    → now ≡ (if list_any (same x) xs then xs else xs ++ x ∷ []) → (y : A) → list_any (same y) now ≡ (list_any (same y) xs || same y x)
found-inserted {A} same equal xs now x is y =
    elim (cases_Bool (list_any (same x) xs)) [
      | inl there ↦
          let kept : now ≡ xs = subst (λ (b : Bool). now ≡ (if b then xs else xs ++ x ∷ [])) there is in
          ap (list_any (same y)) kept ∙ in-again same equal xs x y there
      | inr away ↦
          let grown : now ≡ xs ++ x ∷ [] = subst (λ (b : Bool). now ≡ (if b then xs else xs ++ x ∷ [])) away is in
          ap (list_any (same y)) grown ∙ list_any-push (same y) xs x
    ]

-- whether a name is among the names of keys
pub any-keys : {K : Type 0} (bytes : K → List ℕ) (name : List ℕ) (keys : List K) → list_any (λ key. bytes_eq name (bytes key)) keys ≡ has_name (map bytes keys) name
any-keys bytes name [] = refl
any-keys bytes name (key ∷ keys) = ap (λ b. bytes_eq name (bytes key) || b) (any-keys bytes name keys)

-- whether one of the names passes
pub any-names : {K : Type 0} (bytes : K → List ℕ) (test : List ℕ → Bool) (keys : List K) → list_any (λ key. test (bytes key)) keys ≡ list_any test (map bytes keys)
any-names bytes test [] = refl
any-names bytes test (key ∷ keys) = ap (λ b. test (bytes key) || b) (any-names bytes test keys)

map-if : {A B : Type 0} (f : A → B) (b : Bool) (xs ys : List A) → map f (if b then xs else ys) ≡ (if b then map f xs else map f ys)
map-if f true xs ys = refl
map-if f false xs ys = refl

-- keys with a new one, if it wasn't there
pub keys-inserted : {K : Type 0} (bytes : K → List ℕ) (keys after : List K) (key : K) (names : List (List ℕ))
    → after ≡ (if list_any (λ other. bytes_eq (bytes key) (bytes other)) keys then keys else keys ++ key ∷ []) → map bytes keys ≡ names
    → (name : List ℕ) → has_name (map bytes after) name ≡ (has_name names name || bytes_eq name (bytes key))
keys-inserted bytes keys after key names is are =
    let test = list_any (λ other. bytes_eq (bytes key) (bytes other)) keys in
    let mapped : map bytes after ≡ (if has_name names (bytes key) then names else names ++ bytes key ∷ [])
    = ap (map bytes) is ∙ map-if bytes test keys (keys ++ key ∷ [])
    ∙ ap (λ (list : List (List ℕ)). if test then map bytes keys else list) (map-append bytes keys (key ∷ []))
    ∙ ap (λ (b : Bool). if b then map bytes keys else map bytes keys ++ bytes key ∷ []) (any-keys bytes (bytes key) keys)
    ∙ ap (λ (list : List (List ℕ)). if has_name list (bytes key) then list else list ++ bytes key ∷ []) are in
    found-inserted bytes_eq same_bytes names (map bytes after) (bytes key) mapped
