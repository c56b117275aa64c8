-- Old and new names exchanged: a function that keeps all names apart, and gives each name that isn't new its new name.
use Rattle.std.proofs.Common.{◌≡◌, ℕ, Bool, true, false, not, cond, List, [], ◌∷◌, inl, inr, refl, sym, ap, ◌∙◌}
use Rattle.std.specs.Prelude.{bytes_eq, IsTrue}
use Rattle.std.specs.List.{AllByRecursion, IsDistinct}
use Rattle.std.proofs.lemmas.Bool.{cases_Bool}
use Rattle.std.proofs.lemmas.List.Elements.{All-head, All-tail, All-weaker}
use Rattle.std.proofs.lemmas.Map.Keys.{IsDistinct-head, IsDistinct-tail}
use Rattle.shared_lemmas.proofs.Bytes.{same_bytes, bytes_eq-same, bytes_eq-turned}
use Rattle.shared_lemmas.proofs.Tests.{same_test, first_false, second_false}
use Rattle.vlog_module.specs.Names.{IsName}
use Rattle.vlog_semantics.specs.Named.{has_name}
use Rattle.port_names.specs.Renamed.{new_name}
use Rattle.port_names.specs.Fresh.{old_names, new_names, NoneIn, AreNames}
use Rattle.port_names.proofs.Apart.{KeepsApart}

-- two names exchanged
abbrev pub swapped : List ℕ → List ℕ → List ℕ → List ℕ
swapped old other name = cond (bytes_eq old name) other (cond (bytes_eq other name) old name)

-- all pairs exchanged, one after the other
abbrev pub exchanged : List (List ℕ × List ℕ) → List ℕ → List ℕ
exchanged [] name = name
exchanged (pair ∷ renaming) name = exchanged renaming (swapped pair.0 pair.1 name)

-- ---- names stay apart

swapped-old : (old other name : List ℕ) → bytes_eq old name ≡ true → swapped old other name ≡ other
swapped-old old other name is = ap (λ b. cond b other (cond (bytes_eq other name) old name)) is

swapped-other : (old other name : List ℕ) → bytes_eq old name ≡ false → bytes_eq other name ≡ true → swapped old other name ≡ old
swapped-other old other name away is = ap (λ b. cond b other (cond (bytes_eq other name) old name)) away ∙ ap (λ b. cond b old name) is

swapped-none : (old other name : List ℕ) → bytes_eq old name ≡ false → bytes_eq other name ≡ false → swapped old other name ≡ name
swapped-none old other name away apart = ap (λ b. cond b other (cond (bytes_eq other name) old name)) away ∙ ap (λ b. cond b old name) apart

pub itself : (name : List ℕ) → bytes_eq name name ≡ true
itself name = bytes_eq-same name name refl

-- exchanging twice is nothing
swapped-back : (old other name : List ℕ) → swapped old other (swapped old other name) ≡ name
swapped-back old other name =
    elim (cases_Bool (bytes_eq old name)) [
      | inl is ↦ ap (swapped old other) (swapped-old old other name is) ∙ (elim (cases_Bool (bytes_eq old other)) [
        | inl same ↦ swapped-old old other other same ∙ sym (same_bytes old other same) ∙ same_bytes old name is
        | inr apart ↦ swapped-other old other other apart (itself other) ∙ same_bytes old name is
      ])
      | inr away ↦ elim (cases_Bool (bytes_eq other name)) [
        | inl is ↦ ap (swapped old other) (swapped-other old other name away is) ∙ swapped-old old other old (itself old) ∙ same_bytes other name is
        | inr apart ↦ ap (swapped old other) (swapped-none old other name away apart) ∙ swapped-none old other name away apart
      ]
    ]

swapped-same : (old other a b : List ℕ) → bytes_eq (swapped old other a) (swapped old other b) ≡ bytes_eq a b
swapped-same old other a b =
    same_test (bytes_eq (swapped old other a) (swapped old other b)) (bytes_eq a b)
    (λ found. bytes_eq-same a b (sym (swapped-back old other a) ∙ ap (swapped old other) (same_bytes (swapped old other a) (swapped old other b) found) ∙ swapped-back old other b))
    (λ found. bytes_eq-same (swapped old other a) (swapped old other b) (ap (swapped old other) (same_bytes a b found)))

exchanged-same : (renaming : List (List ℕ × List ℕ)) (a b : List ℕ) → bytes_eq (exchanged renaming a) (exchanged renaming b) ≡ bytes_eq a b
exchanged-same [] a b = refl
exchanged-same (pair ∷ renaming) a b = exchanged-same renaming (swapped pair.0 pair.1 a) (swapped pair.0 pair.1 b) ∙ swapped-same pair.0 pair.1 a b

pub exchanged-apart : (renaming : List (List ℕ × List ℕ)) → KeepsApart (exchanged renaming)
exchanged-apart renaming = record { same = exchanged-same renaming }

-- ---- names that aren't new get their new names

-- a name that isn't listed stays
exchanged-stays : (renaming : List (List ℕ × List ℕ)) (name : List ℕ) → has_name (old_names renaming) name ≡ false → has_name (new_names renaming) name ≡ false → exchanged renaming name ≡ name
exchanged-stays [] name unlisted unused = refl
exchanged-stays (pair ∷ renaming) name unlisted unused =
    let away : bytes_eq pair.0 name ≡ false = first_false (bytes_eq pair.0 name) (has_name (old_names renaming) name) unlisted in
    let apart : bytes_eq pair.1 name ≡ false = first_false (bytes_eq pair.1 name) (has_name (new_names renaming) name) unused in
    ap (exchanged renaming) (swapped-none pair.0 pair.1 name away apart)
    ∙ exchanged-stays renaming name (second_false (bytes_eq pair.0 name) (has_name (old_names renaming) name) unlisted) (second_false (bytes_eq pair.1 name) (has_name (new_names renaming) name) unused)

pub not-true : (b : Bool) → IsTrue (not b) → b ≡ false
not-true true is = cc
not-true false is = refl

pub is-not : (b : Bool) → b ≡ false → IsTrue (not b)
is-not b is = ap not is

-- a name from which each of some names differs isn't among them
absent : (name : List ℕ) (names : List (List ℕ)) → AllByRecursion (λ other. bytes_eq name other ≡ false) names → has_name names name ≡ false
absent name [] apart = refl
absent name (other ∷ names) apart = rw (bytes_eq-turned other name, apart.0) (absent name names apart.1)

-- names that aren't among some aren't among fewer
pub NoneIn-fewer : (names : List (List ℕ)) (other : List ℕ) (others : List (List ℕ)) → NoneIn names (other ∷ others) → NoneIn names others
NoneIn-fewer names other others none =
    All-weaker (λ name. IsTrue (not (has_name (other ∷ others) name))) (λ name. IsTrue (not (has_name others name)))
    (λ name away. is-not (has_name others name) (second_false (bytes_eq other name) (has_name others name) (not-true (has_name (other ∷ others) name) away))) names none

-- the exchange is the renaming, for names that aren't new
pub exchanged-new_name : (renaming : List (List ℕ × List ℕ)) (name : List ℕ) → IsDistinct bytes_eq (new_names renaming) → NoneIn (new_names renaming) (old_names renaming)
    → has_name (new_names renaming) name ≡ false → exchanged renaming name ≡ new_name renaming name
exchanged-new_name [] name distinct unlisted unused = refl
exchanged-new_name (pair ∷ renaming) name distinct unlisted unused =
    let olds : List (List ℕ) = old_names renaming in
    let news : List (List ℕ) = new_names renaming in
    let apart : bytes_eq pair.1 name ≡ false = first_false (bytes_eq pair.1 name) (has_name news name) unused in
    let fewer : NoneIn (pair.1 ∷ news) olds = NoneIn-fewer (pair.1 ∷ news) pair.0 olds unlisted in
    elim (cases_Bool (bytes_eq pair.0 name)) [
      | inl is ↦ ap (exchanged renaming) (swapped-old pair.0 pair.1 name is)
          ∙ exchanged-stays renaming pair.1 (not-true (has_name olds pair.1) (All-head (λ one. IsTrue (not (has_name olds one))) pair.1 news fewer)) (absent pair.1 news (IsDistinct-head bytes_eq pair.1 news distinct))
          ∙ (rw is refl)
      | inr away ↦ ap (exchanged renaming) (swapped-none pair.0 pair.1 name away apart)
          ∙ exchanged-new_name renaming name (IsDistinct-tail bytes_eq pair.1 news distinct) (All-tail (λ one. IsTrue (not (has_name olds one))) pair.1 news fewer) (second_false (bytes_eq pair.1 name) (has_name news name) unused)
          ∙ (rw away refl)
    ]

-- ---- names become names

swapped-named : (old other name : List ℕ) → IsName old → IsName other → IsName name → IsName (swapped old other name)
swapped-named old other name old_named other_named named =
    elim (bytes_eq old name) as (λ b. IsName (cond b other (cond (bytes_eq other name) old name))) [
      | true ↦ other_named
      | false ↦ elim (bytes_eq other name) as (λ b. IsName (cond b old name)) [ true ↦ old_named | false ↦ named ]
    ]

pub exchanged-named : (renaming : List (List ℕ × List ℕ)) → AreNames renaming → (name : List ℕ) → IsName name → IsName (exchanged renaming name)
exchanged-named [] names name named = named
exchanged-named (pair ∷ renaming) names name named =
    exchanged-named renaming (record { old = All-tail IsName pair.0 (old_names renaming) names.old; «new» = All-tail IsName pair.1 (new_names renaming) names.new })
    (swapped pair.0 pair.1 name)
    (swapped-named pair.0 pair.1 name (All-head IsName pair.0 (old_names renaming) names.old) (All-head IsName pair.1 (new_names renaming) names.new) named)
