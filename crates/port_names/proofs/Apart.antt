-- Functions of names that keep names apart, and values under the new names.
use Rattle.std.proofs.Common.{◌≡◌, ℕ, zero, suc, ◌+◌, Bool, true, false, cond, List, [], ◌∷◌, ◌++◌, Some, flat_map, refl, sym, ap, ap₂, ◌∙◌}
use Rattle.std.specs.Prelude.{bytes_eq, filter, fold, length, map}
use Rattle.std.proofs.lemmas.List.{map-append}
use Rattle.vlog_module.specs.Maps.{value_in}
use Rattle.vlog_semantics.specs.Entries.{put}
use Rattle.vlog_semantics.specs.Named.{names_of, values_of}
use Rattle.vlog_semantics.specs.Numbered.{numbered}
use Rattle.vlog_semantics.specs.Run.{with_input}
use Rattle.port_names.specs.Renamed.{renamed_values}

-- names are the same after it exactly if they are the same before
pub record KeepsApart (to : List ℕ → List ℕ) : Type 0 where
  pub same : (a b : List ℕ) → bytes_eq (to a) (to b) ≡ bytes_eq a b

-- a new name has the value of the old one
pub value_in-renamed : {A : Type 0} (to : List ℕ → List ℕ) → KeepsApart to → (entries : List (List ℕ × A)) (name : List ℕ)
    → value_in (renamed_values to entries) (to name) ≡ value_in entries name
value_in-renamed to apart [] name = refl
value_in-renamed to apart (entry ∷ entries) name =
    ap₂ (λ same rest. cond same (Some entry.1) rest) (apart.same entry.0 name) (value_in-renamed to apart entries name)

-- and gets its values
pub put-renamed : {A : Type 0} (to : List ℕ → List ℕ) → KeepsApart to → (entries : List (List ℕ × A)) (name : List ℕ) (value : A)
    → put (renamed_values to entries) (to name) value ≡ renamed_values to (put entries name value)
put-renamed to apart [] name value = refl
put-renamed {A = A} to apart (entry ∷ entries) name value =
    ap₂ (λ same rest. cond same ((to entry.0, value) ∷ renamed_values to entries) ((to entry.0, entry.1) ∷ rest))
    (apart.same entry.0 name) (put-renamed to apart entries name value)
    ∙ (elim (bytes_eq entry.0 name) as (λ b. cond b ((to entry.0, value) ∷ renamed_values to entries) ((to entry.0, entry.1) ∷ renamed_values to (put entries name value))
    ≡ renamed_values to (cond b ((entry.0, value) ∷ entries) (entry ∷ put entries name value))) [ true ↦ refl | false ↦ refl ])

-- values and places stay
pub values-renamed : {A : Type 0} (to : List ℕ → List ℕ) (entries : List (List ℕ × A)) → values_of (renamed_values to entries) ≡ values_of entries
values-renamed to [] = refl
values-renamed to (entry ∷ entries) = ap (λ rest. entry.1 ∷ rest) (values-renamed to entries)

pub names-renamed : {A : Type 0} (to : List ℕ → List ℕ) (entries : List (List ℕ × A)) → names_of (renamed_values to entries) ≡ map to (names_of entries)
names-renamed to [] = refl
names-renamed to (entry ∷ entries) = ap (λ rest. to entry.0 ∷ rest) (names-renamed to entries)

pub numbered-renamed : (to : List ℕ → List ℕ) (from : ℕ) (names : List (List ℕ)) → numbered from (map to names) ≡ renamed_values to (numbered from names)
numbered-renamed to from [] = refl
numbered-renamed to from (name ∷ names) = ap (λ rest. (to name, from) ∷ rest) (numbered-renamed to (from + 1) names)

pub with_input-renamed : (to : List ℕ → List ℕ) (inputs : List (List ℕ × Bool)) (pin : ℕ) (bit : Bool)
    → with_input (renamed_values to inputs) pin bit ≡ renamed_values to (with_input inputs pin bit)
with_input-renamed to [] pin bit = refl
with_input-renamed to (input ∷ inputs) zero bit = refl
with_input-renamed to (input ∷ inputs) (suc pin) bit = ap (λ rest. (to input.0, input.1) ∷ rest) (with_input-renamed to inputs pin bit)

-- what changed parts of a list give, each what it gave before with a change
pub flat_map-changed : {X Y A B : Type 0} (change : X → Y) (out : A → B) (one : Y → List B) (two : X → List A)
    → ((x : X) → one (change x) ≡ map out (two x)) → (xs : List X) → flat_map one (map change xs) ≡ map out (flat_map two xs)
flat_map-changed change out one two each [] = refl
flat_map-changed change out one two each (x ∷ xs) =
    ap₂ (λ first rest. first ++ rest) (each x) (flat_map-changed change out one two each xs) ∙ sym (map-append out (two x) (flat_map two xs))

-- values that come from the parts of a list, each of which gives the same values under new names
pub flat_map-renamed : {X A : Type 0} (to : List ℕ → List ℕ) (change : X → X) (given : X → List (List ℕ × A))
    → ((x : X) → given (change x) ≡ renamed_values to (given x)) → (xs : List X) → flat_map given (map change xs) ≡ renamed_values to (flat_map given xs)
flat_map-renamed {A = A} to change given each xs =
    flat_map-changed change (λ (entry : List ℕ × A). let one : List ℕ × A = (to entry.0, entry.1) in one) given given each xs

-- steps over changed parts, which keep what stands between two things
pub fold-renamed : {X S : Type 0} (rename : S → S) (change : X → X) (one two : S → X → S)
    → ((s : S) (x : X) → one (rename s) (change x) ≡ rename (two s x)) → (s : S) (xs : List X) → fold one (rename s) (map change xs) ≡ rename (fold two s xs)
fold-renamed rename change one two each s [] = refl
fold-renamed rename change one two each s (x ∷ xs) =
    ap (λ next. fold one next (map change xs)) (each s x) ∙ fold-renamed rename change one two each (two s x) xs

-- as many changed parts pass a test as do before, if each passes where it did
counted : {X : Type 0} (b : Bool) (one two : X) (xs ys : List X) → length xs ≡ length ys → length (cond b (one ∷ xs) xs) ≡ length (cond b (two ∷ ys) ys)
counted true one two xs ys same = ap suc same
counted false one two xs ys same = same

pub count-renamed : {X : Type 0} (change : X → X) (one two : X → Bool) → ((x : X) → one (change x) ≡ two x) → (xs : List X)
    → length (filter one (map change xs)) ≡ length (filter two xs)
count-renamed change one two each [] = refl
count-renamed change one two each (x ∷ xs) =
    ap (λ b. length (cond b (change x ∷ filter one (map change xs)) (filter one (map change xs)))) (each x)
    ∙ counted (two x) (change x) x (filter one (map change xs)) (filter two xs) (count-renamed change one two each xs)
