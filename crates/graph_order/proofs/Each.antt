-- What holds of each number of a list.
use Rattle.std.proofs.Common.{◌≡◌, ℕ, ◌<◌, Bool, true, false, cond, ◌||◌, inl, inr, ◌==◌, List, [], ◌∷◌, length, get_or, refl, sym, ap, ◌∙◌}
use Rattle.std.specs.declared.vec.Vec.{Vec}
use Rattle.std.specs.List.{All, list_any, list_all}
use Rattle.std.proofs.lemmas.List.Elements.{All-from_get_or}
use Rattle.std.proofs.lemmas.Bool.{or_left, or_right}
use Rattle.shared_lemmas.proofs.Tests.{first_true, second_true}
use Rattle.graph_order.specs.Wiring.{has}
use Rattle.graph_order.proofs.OneOrder.{has-none, has-cases}
use Rattle.graph_order.specs.Rows.{row_at}
use Rattle.graph_order.proofs.Lists.{has-at, row-items}

pub has-all : (P : ℕ → Type 0) (list : List ℕ) → ((n : ℕ) → has list n ≡ true → P n) → All P list
has-all P list each = All-from_get_or P list 0 (λ place within. each (get_or list place 0) (has-at list place within))

-- all numbers of a row
pub row-all : {Z : Type 0} (P : ℕ → Type 0) (rows : List (Vec ℕ Z)) (at : ℕ) (row : Vec ℕ Z) (list : List ℕ) → at < length rows → row ≡ get_or rows at row → list ≡ row.items
    → ((n : ℕ) → has (row_at rows at) n ≡ true → P n) → All P list
row-all P rows at row list within is same each =
    has-all P list (λ n found. each n (ap (λ l. has l n) (row-items rows at row row within is ∙ sym same) ∙ found))

-- tests
or-cond : (a b : Bool) → (a || b) ≡ cond a true b
or-cond true b = refl
or-cond false b = refl

pub any-is : (list : List ℕ) (n : ℕ) → list_any (λ k. k == n) list ≡ has list n
unfolding has
any-is [] n = refl
any-is (first ∷ rest) n = ap (λ more. (first == n) || more) (any-is rest n) ∙ or-cond (first == n) (has rest n)

pub any-has : (test : ℕ → Bool) (list : List ℕ) (n : ℕ) → has list n ≡ true → test n ≡ true → list_any test list ≡ true
any-has test [] n found passes = absurd (has-none n found)
any-has test (first ∷ rest) n found passes = elim (has-cases first rest n found) [
  | inl here ↦ or_left (test first) _ (ap test here ∙ passes)
  | inr following ↦ or_right (test first) _ (any-has test rest n following passes)
]

pub all-passes : (test : ℕ → Bool) (list : List ℕ) (n : ℕ) → list_all test list ≡ true → has list n ≡ true → test n ≡ true
all-passes test [] n all found = absurd (has-none n found)
all-passes test (first ∷ rest) n all found = elim (has-cases first rest n found) [
  | inl here ↦ ap test (sym here) ∙ first_true (test first) _ all
  | inr following ↦ all-passes test rest n (second_true (test first) _ all) following
]
