-- Items that assign what they compute, each its own name: one lemma for registers, read registers and memories.
use Rattle.std.proofs.Common.{◌≡◌, ℕ, Bool, true, false, List, [], ◌∷◌, map, get_or, fold, refl, sym, ap, ◌∙◌, subst}
use Rattle.std.specs.Prelude.{All, Option, Some, None, filter, flat_map, bytes_eq, ◌&&◌, if◌then◌else◌}
use Rattle.shared_lemmas.proofs.Lists.{map-same}
use Rattle.vlog_module.specs.declared.item.Item.{Item}
use Rattle.vlog_semantics.specs.Named.{names_of, values_of}
use Rattle.fabric_model.specs.Fabric.{numbered}
use Rattle.fabric_model.proofs.Apart.{apart-numbered}
use Rattle.fabric_module.specs.Matching.{HasValues}
use Rattle.fabric_module.proofs.Lists.{NamesDiffer, Apart, flat_map-numbered, entries-are, made-names, made-values}
use Rattle.fabric_module.proofs.Sections.{is_in, fold-section}
use Rattle.fabric_module.proofs.Fills.{FillsOwn, filled}

-- what is assigned gives the value of its name from the old value, and looks past other names
pub record Puts {A P : Type 0} (put : List (List ℕ × A) → Option P → List (List ℕ × A)) (target : P → List ℕ) (made : P → A → A) : Type 0 where
  pub none : (entries : List (List ℕ × A)) → put entries None ≡ entries
  pub own : (given : P) (old : A) (rest : List (List ℕ × A)) → put ((target given, old) ∷ rest) (Some given) ≡ (target given, made given old) ∷ rest
  pub past : (given : P) (entry : List ℕ × A) (rest : List (List ℕ × A)) → bytes_eq entry.0 (target given) ≡ false
      → put (entry ∷ rest) (Some given) ≡ entry ∷ put rest (Some given)

-- one item at most
abbrev pub IsFew : List Item → Type 0
IsFew [] = Unit {0}
IsFew (item ∷ []) = Unit {0}
IsFew (item ∷ other ∷ items) = ⊥

-- what it assigns, if it is there
abbrev pub assigned_in : {P : Type 0} → (Item → Option P) → List Item → Option P
assigned_in next [] = None
assigned_in next (item ∷ items) = next item

-- what is assigned, if anything, is of that name
abbrev pub IsOwn : {P : Type 0} → (P → List ℕ) → List ℕ → Option P → Type 0
IsOwn target label None = Unit {0}
IsOwn target label (Some given) = target given ≡ label

-- the value when that is done
abbrev pub done : {A P : Type 0} → (P → A → A) → Option P → A → A
done made None old = old
done made (Some given) old = made given old

pub own-if : {P : Type 0} (target : P → List ℕ) (label : List ℕ) (passes : Bool) (found : Option P) → IsOwn target label found → IsOwn target label (if passes then found else None)
own-if target label true found own = own
own-if target label false found own = tt

pub after-if : {A P : Type 0} (made : P → A → A) (passes : Bool) (given : P) (old : A) → done made (if passes then Some given else None) old ≡ (if passes then made given old else old)
after-if made true given old = refl
after-if made false given old = refl

-- a value at an edge with two enables
pub after-enabled : {A B P : Type 0} (f : B → A) (made : P → A → A) (edge first second : Bool) (found : Option P) (new old : B) → done made found (f old) ≡ f new
    → done made (if edge && first && second then found else None) (f old) ≡ f (if edge then (if first && second then new else old) else old)
after-enabled f made true true true found new old same = same
after-enabled f made true true false found new old same = refl
after-enabled f made true false true found new old same = refl
after-enabled f made true false false found new old same = refl
after-enabled f made false true true found new old same = refl
after-enabled f made false true false found new old same = refl
after-enabled f made false false true found new old same = refl
after-enabled f made false false false found new old same = refl

module _ {A P : Type 0} (put : List (List ℕ × A) → Option P → List (List ℕ × A)) (target : P → List ℕ) (made : P → A → A) (puts : Puts put target made)
    (next : Item → Option P) where
  abbrev put_next : List (List ℕ × A) → Item → List (List ℕ × A)
  put_next entries item = put entries (next item)

  one-own : (label : List ℕ) (found : Option P) → IsOwn target label found → (old : A) (rest : List (List ℕ × A))
      → put ((label, old) ∷ rest) found ≡ (label, done made found old) ∷ rest
  one-own label None own old rest = puts.none ((label, old) ∷ rest)
  one-own label (Some given) own old rest =
      subst (λ n. put ((n, old) ∷ rest) (Some given) ≡ (n, made given old) ∷ rest) own (puts.own given old rest)

  one-past : (label : List ℕ) (found : Option P) → IsOwn target label found → (entry : List ℕ × A) (rest : List (List ℕ × A)) → bytes_eq entry.0 label ≡ false
      → put (entry ∷ rest) found ≡ entry ∷ put rest found
  one-past label None own entry rest away = puts.none (entry ∷ rest) ∙ ap (λ list. entry ∷ list) (sym (puts.none rest))
  one-past label (Some given) own entry rest away = puts.past given entry rest (subst (λ n. bytes_eq entry.0 n ≡ false) (sym own) away)

  items-own : (label : List ℕ) (items : List Item) → IsFew items → IsOwn target label (assigned_in next items) → (old : A) (rest : List (List ℕ × A))
      → fold put_next ((label, old) ∷ rest) items ≡ (label, done made (assigned_in next items) old) ∷ rest
  items-own label [] few own old rest = refl
  items-own label (item ∷ []) few own old rest = one-own label (next item) own old rest
  items-own label (item ∷ other ∷ items) few own old rest = absurd few

  items-past : (label : List ℕ) (items : List Item) → IsFew items → IsOwn target label (assigned_in next items) → (entry : List ℕ × A) (rest : List (List ℕ × A))
      → bytes_eq entry.0 label ≡ false → fold put_next (entry ∷ rest) items ≡ entry ∷ fold put_next rest items
  items-past label [] few own entry rest away = refl
  items-past label (item ∷ []) few own entry rest away = one-past label (next item) own entry rest away
  items-past label (item ∷ other ∷ items) few own entry rest away = absurd few

  module _ {X : Type 0} (name : X → List ℕ) (given : X → List Item) (few : (x : X) → IsFew (given x)) (own : (x : X) → IsOwn target (name x) (assigned_in next (given x))) where
    abbrev value_after : X → A → A
    value_after x old = done made (assigned_in next (given x)) old

    computes : FillsOwn (λ (place : ℕ × X). name place.1) put_next (λ (place : ℕ × X). given place.1) (λ (place : ℕ × X) old. value_after place.1 old)
    computes = record {
      own = λ place old rest. items-own (name place.1) (given place.1) (few place.1) (own place.1) old rest;
      past = λ place entry rest away. items-past (name place.1) (given place.1) (few place.1) (own place.1) entry rest away;
    }

    -- the items of a section of a module, where each of some things has its own: names get the values that the things' items compute
    pub part-holds : (k : ℕ) → ((item : Item) → is_in k item ≡ false → next item ≡ None) → (items : List Item) (xs : List X) → filter (is_in k) items ≡ flat_map given xs
        → Apart name xs → (d : A) (entries : List (List ℕ × A)) (values : List A) → HasValues entries (map name xs) values
        → (value : ℕ × X → A) → All (λ (place : ℕ × X). value_after place.1 (get_or values place.0 d) ≡ value place) (numbered xs)
        → HasValues (fold put_next entries items) (map name xs) (map value (numbered xs))
    part-holds k none items xs section apart d entries values has value all =
        let are : fold put_next entries items ≡ map (λ (place : ℕ × X). (name place.1, value_after place.1 (get_or values place.0 d))) (numbered xs) =
        fold-section k put_next (λ item away old. ap (put old) (none item away) ∙ puts.none old) entries items
        ∙ (ap (fold put_next entries) (section ∙ sym (flat_map-numbered given 0 xs))
        ∙ (ap (λ list. fold put_next list (flat_map (λ (place : ℕ × X). given place.1) (numbered xs))) (entries-are name d xs values entries has.named has.valued)
        ∙ filled (λ (place : ℕ × X). name place.1) put_next (λ (place : ℕ × X). given place.1) (λ (place : ℕ × X) old. value_after place.1 old) computes
        (λ (place : ℕ × X). get_or values place.0 d) (numbered xs) (apart-numbered (NamesDiffer name) 0 xs apart))) in
        record {
          named = ap names_of are ∙ made-names name (λ (place : ℕ × X). value_after place.1 (get_or values place.0 d)) xs;
          valued = ap values_of are
              ∙ (made-values name (λ (place : ℕ × X). value_after place.1 (get_or values place.0 d)) xs
              ∙ map-same (λ (place : ℕ × X). value_after place.1 (get_or values place.0 d)) value (numbered xs) all);
        }
