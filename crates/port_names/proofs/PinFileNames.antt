-- The names that ports of a pin file give to the ports of pins.
use Rattle.std.proofs.Common.{◌≡◌, ℕ, zero, suc, ◌⊎◌, Bool, true, false, List, [], ◌∷◌, ◌++◌, length, get_or, refl, sym, ap, ◌∙◌, subst, arith, inl, inr, length-append}
use Rattle.std.specs.Prelude.{All, Contains, Option, Some, None, flat_map, bytes_eq, codes, if◌then◌else◌}
use Rattle.std.specs.List.{IsDistinct}
use Rattle.std.proofs.lemmas.Bool.{cases_Bool}
use Rattle.std.proofs.lemmas.List.{append_cancel_left}
use Rattle.std.proofs.lemmas.List.Elements.{All-nil, All-cons, All-head, All-tail, All-map, All-contains, All-contains_itself, All-weaker}
use Rattle.shared_lemmas.proofs.Bytes.{bytes_eq-same, bytes_eq-apart, apart_turned}
use Rattle.fabric_model.specs.declared.pin.Pin.{Pin}
use Rattle.fabric_model.specs.Tiles.{item_if}
use Rattle.fabric_model.specs.Pins.{is_switched, has_outside}
use Rattle.fabric_model.proofs.Apart.{AreApart, All-every, apart-single, apart-map, apart-flat_map}
use Rattle.fabric_model.proofs.Within.{All-flat_map, All-single}
use Rattle.fabric_module.specs.Names.{pad_name, port_name, enable_name, outside_name}
use Rattle.pin_file.specs.declared.place.PinPlace.{PinPlace}
use Rattle.pin_file.specs.declared.pin_name.PinName.{PinName}
use Rattle.pin_file.specs.PortNames.{is_place, pin_at, names_by, names_with, all_names, AreSafe, enable_name as enable_name_after, input_name as input_name_after}
use Rattle.pin_file.proofs.PinSteps.{place-itself, place-same}
use Rattle.port_names.specs.Fresh.{new_names}
use Rattle.port_names.specs.Named.{place_of, port_pin, port_pins, given_name, renaming_by, pin_renaming, port_renaming}
use Rattle.port_names.proofs.Lists.{All-each, PartsDiffer, parts-apart, two-apart, Differ, apart-names, distinct-names}

-- ---- places

-- pins at one place have one name
name-by-place : (a b : Pin) → place_of a ≡ place_of b → port_name a ≡ port_name b
name-by-place a b same = ap (λ (place : PinPlace). pad_name place.x place.y place.pio) same

-- two pins with different names
abbrev pub PinsDiffer : Pin → Pin → Type 0
PinsDiffer a b = Differ (port_name a) (port_name b)

-- if all pins have different names, each is found at its place
pin-there : (pins : List Pin) → AreApart PinsDiffer pins → (pin : Pin) → Contains pins pin → pin_at (port_pins pins) (place_of pin) ≡ Some (port_pin pin)
pin-there [] apart pin (k, within, here) = absurd (omega (arith, within))
pin-there (first ∷ pins) apart pin (zero, within, here) =
    let same : is_place (place_of pin) (place_of first) ≡ true = subst (λ p. is_place (place_of pin) (place_of p) ≡ true) (sym here) (place-itself (place_of pin)) in
    rw same (ap (λ p. Some (port_pin p)) here)
pin-there (first ∷ pins) apart pin (suc k, within, here) =
    elim (cases_Bool (is_place (place_of pin) (place_of first))) [
      | inl same ↦
          let differ : Differ (port_name first) (port_name pin) = All-contains (PinsDiffer first) pins pin apart.0 (k, omega (arith, within), here) in
          let never : true ≡ false
          = sym (bytes_eq-same (port_name first) (port_name pin) (sym (name-by-place pin first (place-same (place_of pin) (place_of first) same)))) ∙ differ in absurd cc
      | inr away ↦ rw away (pin-there pins apart.1 pin (k, omega (arith, within), here))
    ]

-- ---- the name that a pin is given

-- a pin isn't named, or a port at its place names it
pub given-cases : (named : List PinName) (pin : Pin)
    → (given_name named pin ≡ None) ⊎ ((port : PinName) × Contains named port × (port.place ≡ place_of pin) × (given_name named pin ≡ Some port.name))
given-cases [] pin = inl refl
given-cases (port ∷ named) pin =
    elim (cases_Bool (is_place (place_of pin) port.place)) [
      | inl here ↦ inr (port, (0, omega arith, refl), sym (place-same (place_of pin) port.place here), rw here refl)
      | inr away ↦ elim (given-cases named pin) [
        | inl none ↦ inl (rw away none)
        | inr found ↦ inr (found.0, (suc found.1.0, omega (arith, found.1.1), found.1.2), found.2, rw away found.3)
      ]
    ]

-- a name with a tail is another name
longer : (name tail : List ℕ) → name ≡ name ++ 95 ∷ tail → ⊥
longer name tail same = absurd (omega (arith, ap length same, length-append name (95 ∷ tail)))

-- two pairs of names whose second ones differ
abbrev SecondsDiffer : List ℕ × List ℕ → List ℕ × List ℕ → Type 0
SecondsDiffer one two = Differ one.1 two.1

module _ (pin : Pin) (name : List ℕ) where
  abbrev of_port : List ℕ × List ℕ
  of_port = (port_name pin, name)

  abbrev of_enable : List ℕ × List ℕ
  of_enable = (enable_name pin, enable_name_after name)

  abbrev of_outside : List ℕ × List ℕ
  of_outside = (outside_name pin.x pin.y pin.n, input_name_after name)

  name-no_enable : SecondsDiffer of_port of_enable
  name-no_enable = bytes_eq-apart name (enable_name_after name) (longer name (codes "en"))

  name-no_outside : SecondsDiffer of_port of_outside
  name-no_outside = bytes_eq-apart name (input_name_after name) (longer name (codes "in"))

  enable-no_outside : SecondsDiffer of_enable of_outside
  enable-no_outside =
      bytes_eq-apart (enable_name_after name) (input_name_after name)
      (λ same. let never : false ≡ true = bytes_eq-same (codes "_en") (codes "_in") (append_cancel_left name (codes "_en") (codes "_in") same) in absurd cc)

  inside-by : (switched outside : Bool) → AreApart SecondsDiffer (of_port ∷ (item_if switched of_enable ++ item_if outside of_outside))
  inside-by true true = (
    All-cons (SecondsDiffer of_port) of_enable (of_outside ∷ []) name-no_enable (All-single (SecondsDiffer of_port) of_outside name-no_outside),
    (All-single (SecondsDiffer of_enable) of_outside enable-no_outside, apart-single SecondsDiffer of_outside),
  )
  inside-by true false = (All-single (SecondsDiffer of_port) of_enable name-no_enable, apart-single SecondsDiffer of_enable)
  inside-by false true = (All-single (SecondsDiffer of_port) of_outside name-no_outside, apart-single SecondsDiffer of_outside)
  inside-by false false = apart-single SecondsDiffer of_port

  -- what holds of the names that a port gives holds of the new ones of a pin
  given-flags : (Q : List ℕ → Type 0) (switched outside : Bool)
      → All Q ((if switched then enable_name_after name ∷ [] else []) ++ (if outside then input_name_after name ∷ [] else []))
      → All (λ (entry : List ℕ × List ℕ). Q entry.1) (item_if switched of_enable ++ item_if outside of_outside)
  given-flags Q true true all =
      All-cons (λ (entry : List ℕ × List ℕ). Q entry.1) of_enable (of_outside ∷ []) (All-head Q (enable_name_after name) (input_name_after name ∷ []) all)
      (All-single (λ (entry : List ℕ × List ℕ). Q entry.1) of_outside (All-head Q (input_name_after name) [] (All-tail Q (enable_name_after name) (input_name_after name ∷ []) all)))
  given-flags Q true false all = All-single (λ (entry : List ℕ × List ℕ). Q entry.1) of_enable (All-head Q (enable_name_after name) [] all)
  given-flags Q false true all = All-single (λ (entry : List ℕ × List ℕ). Q entry.1) of_outside (All-head Q (input_name_after name) [] all)
  given-flags Q false false all = All-nil (λ (entry : List ℕ × List ℕ). Q entry.1)

-- the new names of a pin's ports are apart
given-inside : (pin : Pin) (given : Option (List ℕ)) → AreApart SecondsDiffer (renaming_by pin given)
given-inside pin None = tt
given-inside pin (Some name) = inside-by pin name (is_switched pin) (has_outside pin)

-- items of a list with what is known of each
pub apart-known : {X : Type 0} (P : X → Type 0) (R : X → X → Type 0) (xs : List X) → All P xs → AreApart R xs → AreApart (λ a b. P a × P b × R a b) xs
apart-known P R [] all apart = tt
apart-known P R (x ∷ xs) all apart =
    let rest = All-tail P x xs all in (
      λ k d less. (All-head P x xs all, rest k d less, apart.0 k d less),
      apart-known P R xs rest apart.1,
    )

-- ---- the new names of all pins

-- the names that a pin file gives to the ports of a pin
abbrev pub names_of : List Pin → PinName → List (List ℕ)
names_of pins port = names_by port.name (pin_at (port_pins pins) port.place)

module _ (pins : List Pin) (named : List PinName) (pins_apart : AreApart PinsDiffer pins) where
  -- what holds of the names of a port at a pin's place holds of the names that it gives
  given-by : (pin : Pin) → Contains pins pin → (port : PinName) → port.place ≡ place_of pin → (Q : List ℕ → Type 0) → All Q (names_of pins port)
      → All (λ (entry : List ℕ × List ℕ). Q entry.1) (renaming_by pin (Some port.name))
  given-by pin there port at Q all =
      let same : names_of pins port ≡ names_with port.name (port_pin pin)
      = ap (λ place. names_by port.name (pin_at (port_pins pins) place)) at ∙ ap (names_by port.name) (pin-there pins pins_apart pin there) in
      let each : All Q (names_with port.name (port_pin pin)) = subst (All Q) same all in
      let tails = (if is_switched pin then enable_name_after port.name ∷ [] else []) ++ (if has_outside pin then input_name_after port.name ∷ [] else []) in
      All-cons (λ (entry : List ℕ × List ℕ). Q entry.1) (port_name pin, port.name) _ (All-head Q port.name tails each)
      (given-flags pin port.name Q (is_switched pin) (has_outside pin) (All-tail Q port.name tails each))

  -- what holds of all names of the pin file holds of those that a pin gets
  new-pin : (Q : List ℕ → Type 0) → All Q (all_names (port_pins pins) named) → (pin : Pin) → Contains pins pin
      → All (λ (entry : List ℕ × List ℕ). Q entry.1) (pin_renaming named pin)
  unfolding all_names
  new-pin Q all pin there =
      elim (given-cases named pin) [
        | inl none ↦ subst (λ given. All (λ (entry : List ℕ × List ℕ). Q entry.1) (renaming_by pin given)) (sym none) (All-nil (λ (entry : List ℕ × List ℕ). Q entry.1))
        | inr found ↦
            let each = All-contains (λ port. All Q (names_of pins port)) named found.0 (All-each Q (names_of pins) named all) found.1 in
            subst (λ given. All (λ (entry : List ℕ × List ℕ). Q entry.1) (renaming_by pin given)) (sym found.3) (given-by pin there found.0 found.2 Q each)
      ]

  -- and so of all new names
  pub new-all : (Q : List ℕ → Type 0) → All Q (all_names (port_pins pins) named) → All Q (new_names (port_renaming named pins))
  unfolding port_renaming
  new-all Q all =
      All-map Q (λ (entry : List ℕ × List ℕ). entry.1) (flat_map (pin_renaming named) pins)
      (All-flat_map (λ (entry : List ℕ × List ℕ). Q entry.1) (pin_renaming named) pins
      (All-weaker (Contains pins) (λ pin. All (λ (entry : List ℕ × List ℕ). Q entry.1) (pin_renaming named pin)) (new-pin Q all) pins (All-contains_itself pins)))

  module _ (safe : AreSafe (port_pins pins) named) where
    names-turned : (a b : PinName) → PartsDiffer Differ (names_of pins) a b → PartsDiffer Differ (names_of pins) b a
    names-turned a b apart = λ k d less j e low.
        apart_turned (get_or (names_of pins a) j e) (get_or (names_of pins b) k d) (apart j e low k d less)

    -- the names of two ports at two places
    ports-differ : (a b : PinName) → Contains named a → Contains named b → (a ≡ b → ⊥) → PartsDiffer Differ (names_of pins) a b
    unfolding all_names
    ports-differ a b of_a of_b other =
        two-apart (PartsDiffer Differ (names_of pins)) names-turned named a b
        (parts-apart Differ (names_of pins) named (apart-names (flat_map (names_of pins) named) safe.apart)) of_a of_b other

    -- those that they give to two pins
    given-across : (a b : Pin) → Contains pins a → Contains pins b → (port other : PinName) → port.place ≡ place_of a → other.place ≡ place_of b
        → PartsDiffer Differ (names_of pins) port other
        → All (λ (one : List ℕ × List ℕ). All (λ (two : List ℕ × List ℕ). Differ one.1 two.1) (renaming_by b (Some other.name))) (renaming_by a (Some port.name))
    given-across a b in_a in_b port other at_a at_b apart =
        given-by a in_a port at_a (λ m. All (λ (two : List ℕ × List ℕ). Differ m two.1) (renaming_by b (Some other.name)))
        (All-weaker (λ m. All (Differ m) (names_of pins other)) (λ m. All (λ (two : List ℕ × List ℕ). Differ m two.1) (renaming_by b (Some other.name)))
        (λ m all. given-by b in_b other at_b (Differ m) all) (names_of pins port) apart)

    pins-across : (a b : Pin) → Contains pins a × Contains pins b × Differ (port_name a) (port_name b)
        → All (λ (one : List ℕ × List ℕ). All (λ (two : List ℕ × List ℕ). Differ one.1 two.1) (pin_renaming named b)) (pin_renaming named a)
    pins-across a b known =
        elim (given-cases named a) [
          | inl none ↦
              subst (λ given. All (λ (one : List ℕ × List ℕ). All (λ (two : List ℕ × List ℕ). Differ one.1 two.1) (pin_renaming named b)) (renaming_by a given)) (sym none)
              (All-nil (λ (one : List ℕ × List ℕ). All (λ (two : List ℕ × List ℕ). Differ one.1 two.1) (pin_renaming named b)))
          | inr of_a ↦ elim (given-cases named b) [
            | inl none ↦
                subst (λ given. All (λ (one : List ℕ × List ℕ). All (λ (two : List ℕ × List ℕ). Differ one.1 two.1) (renaming_by b given)) (pin_renaming named a)) (sym none)
                (All-every (λ (one : List ℕ × List ℕ). All (λ (two : List ℕ × List ℕ). Differ one.1 two.1) []) (λ one. All-nil (λ (two : List ℕ × List ℕ). Differ one.1 two.1)) (pin_renaming named a))
            | inr of_b ↦
                let other : of_a.0 ≡ of_b.0 → ⊥ =
                λ same. let never : true ≡ false =
                sym (bytes_eq-same (port_name a) (port_name b) (name-by-place a b (sym of_a.2 ∙ (ap (λ (port : PinName). port.place) same ∙ of_b.2)))) ∙ known.2 in absurd cc in
                let both = given-across a b known.0 known.1 of_a.0 of_b.0 of_a.2 of_b.2 (ports-differ of_a.0 of_b.0 of_a.1 of_b.1 other) in
                subst (λ given. All (λ (one : List ℕ × List ℕ). All (λ (two : List ℕ × List ℕ). Differ one.1 two.1) (renaming_by b given)) (pin_renaming named a)) (sym of_b.3)
                (subst (λ given. All (λ (one : List ℕ × List ℕ). All (λ (two : List ℕ × List ℕ). Differ one.1 two.1) (renaming_by b (Some of_b.0.name))) (renaming_by a given)) (sym of_a.3) both)
          ]
        ]

    -- no two new names are the same
    pub new-apart : IsDistinct bytes_eq (new_names (port_renaming named pins))
    unfolding port_renaming
    new-apart =
        distinct-names (new_names (flat_map (pin_renaming named) pins))
        (apart-map Differ (λ (entry : List ℕ × List ℕ). entry.1) (flat_map (pin_renaming named) pins)
        (apart-flat_map (λ (one two : List ℕ × List ℕ). Differ one.1 two.1) (λ a b. Contains pins a × Contains pins b × Differ (port_name a) (port_name b)) (pin_renaming named)
        pins-across (λ pin. given-inside pin (given_name named pin)) pins
        (apart-known (Contains pins) (λ a b. Differ (port_name a) (port_name b)) pins (All-contains_itself pins) pins_apart)))
