-- Wires that get names.
use Rattle.std.proofs.Common.{◌≡◌, ◌∙◌, ℕ, Bool, true, false, not, ◌&&◌, ◌||◌, cond, List, [], ◌∷◌, ◌++◌, refl, ap, sym}
use Rattle.std.specs.Prelude.{Option, Some, None, bytes_eq, is_none, is_some, if◌then◌else◌}
use Rattle.std.specs.Option.{option_map}
use Rattle.std.proofs.Math.Bool.{or-false, or_assoc}
use Rattle.std.proofs.lemmas.List.{map-append}
use Rattle.name_set.specs.Sets.{has_name, with_name}
use Rattle.name_set.proofs.Sets.{has-with}
use Rattle.vlog_module.specs.Maps.{value_in}
use Rattle.vlog_module.specs.Parts.{Parts}
use Rattle.vlog_semantics.specs.Named.{names_of, values_of}
use Rattle.wire_names.specs.declared.fault.WireNamesCause.TheVariants.{Wire, WireTwice, NameTwice}
use Rattle.wire_names.specs.declared.naming.Naming.{Naming}
use Rattle.wire_names.specs.Faults.{cause_for}
use Rattle.wire_names.specs.Lines.{is_label}
use Rattle.wire_names.specs.Lists.{is_free, with_free}
use Rattle.wire_names.specs.Names.{is_declared, is_wire}
use Rattle.wire_names.specs.Naming.{Names}
use Rattle.wire_names.proofs.Declaring.{has_name-append}

-- a wire is among those that have names if it has one
pub value-known : (names : List (List ℕ × List ℕ)) (wire : List ℕ) → is_some (value_in names wire) ≡ has_name (names_of names) wire
value-known [] wire = refl
value-known (pair ∷ names) wire = elim (bytes_eq pair.0 wire) as (λ b. is_some (cond b (Some pair.1) (value_in names wire)) ≡ (b || has_name (names_of names) wire)) [
  | true ↦ refl
  | false ↦ value-known names wire
]

-- ---- why a wire can't get a name

module _ (m : Parts) (earlier : List (List ℕ × List ℕ)) (naming : Naming) (known : Names m earlier naming) (wire name : List ℕ) where
  -- by the three tests
  pub cause-told : (a b c : Bool) → has_name naming.wires wire ≡ a → is_some (value_in naming.names wire) ≡ b → has_name naming.taken name ≡ c
      → cond (not a) (Some Wire) (cond b (Some WireTwice) (cond c (Some NameTwice) None)) ≡ cause_for m earlier wire name
  cause-told a b c first second third =
      ap (λ t. cond (not t) (Some Wire) (cond b (Some WireTwice) (cond c (Some NameTwice) None))) (sym first ∙ known.wires wire)
      ∙ ap (λ t. cond (not (is_wire m wire)) (Some Wire) (cond t (Some WireTwice) (cond c (Some NameTwice) None)))
      (sym second ∙ ap (λ names. is_some (value_in names wire)) known.names ∙ value-known earlier wire)
      ∙ ap (λ t. cond (not (is_wire m wire)) (Some Wire) (cond (has_name (names_of earlier) wire) (Some WireTwice) (cond t (Some NameTwice) None))) (sym third ∙ known.taken name)

is_some-mapped : {A B : Type 0} (f : A → B) (found : Option A) → is_some (option_map f found) ≡ is_some found
is_some-mapped f (Some value) = refl
is_some-mapped f None = refl

-- whether a name was found
pub found-known : {A : Type 0} (f : A → List ℕ) (names : List (List ℕ × List ℕ)) (wire : List ℕ) (found : Option A) (some : Bool) → option_map f found ≡ value_in names wire → is_some found ≡ some
    → is_some (value_in names wire) ≡ some
found-known f names wire found some is told = ap is_some (sym is) ∙ is_some-mapped f found ∙ told

-- ---- a wire gets a name

pub names-more : (m : Parts) (earlier : List (List ℕ × List ℕ)) (old new : Naming) (wire name : List ℕ) → Names m earlier old
    → new.wires ≡ old.wires → new.taken ≡ with_name old.taken name → new.names ≡ old.names ++ (wire, name) ∷ [] → Names m (earlier ++ (wire, name) ∷ []) new
names-more m earlier old new wire name known wires taken names = record {
  wires = λ other. ap (λ list. has_name list other) wires ∙ known.wires other;
  taken = λ other.
      ap (λ list. has_name list other) taken ∙ has-with old.taken name other ∙ ap (λ b. b || bytes_eq name other) (known.taken other)
      ∙ or_assoc (is_declared m other) (has_name (values_of earlier) other) (bytes_eq name other)
      ∙ ap (λ b. is_declared m other || (has_name (values_of earlier) other || b)) (sym (or-false (bytes_eq name other)))
      ∙ ap (λ b. is_declared m other || b)
      (sym (ap (λ list. has_name list other) (map-append (λ (pair : List ℕ × List ℕ). pair.1) earlier ((wire, name) ∷ [])) ∙ has_name-append (values_of earlier) (name ∷ []) other));
  names = names ∙ ap (λ list. list ++ (wire, name) ∷ []) known.names;
}

-- ---- a name is offered

-- it is free
pub offered-free : (m : Parts) (earlier : List (List ℕ × List ℕ)) (wire name : List ℕ) → is_label name ≡ true → cause_for m earlier wire name ≡ None → with_free m earlier (wire, name) ≡ earlier ++ (wire, name) ∷ []
offered-free m earlier wire name label fine =
    ap (λ b. if b && is_none (cause_for m earlier wire name) then earlier ++ (wire, name) ∷ [] else earlier) label
    ∙ ap (λ cause. if is_none cause then earlier ++ (wire, name) ∷ [] else earlier) fine

-- it isn't
pub offered-in_vain : (m : Parts) (earlier : List (List ℕ × List ℕ)) (wire name : List ℕ) → is_free m earlier (wire, name) ≡ false → with_free m earlier (wire, name) ≡ earlier
offered-in_vain m earlier wire name other = ap (λ b. if b then earlier ++ (wire, name) ∷ [] else earlier) other
