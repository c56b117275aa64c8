-- Classes of joined nets, one routing after the other.
use Rattle.std.proofs.Common.{◌≡◌, ℕ, suc, ◌<◌, ◌≤◌, true, false, cond, eqb, ◌||◌, ◌&&◌, inl, inr, List, [], ◌∷◌, refl, ap, ◌∙◌, arith, min, max}
use Rattle.std.specs.Prelude.{unwrap_or}
use Rattle.std.proofs.lemmas.Bool.Decides.{nat_tests}
use Rattle.std.proofs.lemmas.Bool.{cases_lt}
use Rattle.index_search.proofs.Places.{least_below-first}
use Rattle.fabric_model.specs.Joins.{is_joined, class_of}
use Rattle.fabric_model.specs.Parents.{merged}

-- ---- names by recursion

-- the name of a net's class of joined nets, one routing after the other
unfoldable named : List (ℕ × ℕ) → ℕ → ℕ
named [] net = net
named (join ∷ joins) net = merged (named joins) join.0 join.1 net

-- the two names that become one
abbrev one : ℕ → ℕ → ℕ → ℕ
one low high name = cond (eqb name high) low name

one-same : (low high p q : ℕ) → (eqb p q || ((eqb p low && eqb high q) || (eqb p high && eqb low q))) ≡ eqb (one low high p) (one low high q)
one-same low high p q = grind (arith, nat_tests)

one-other : (low high p q : ℕ) → (eqb p q || ((eqb p high && eqb low q) || (eqb p low && eqb high q))) ≡ eqb (one low high p) (one low high q)
one-other low high p q = grind (arith, nat_tests)

one-max : (x y p q : ℕ) → (eqb p q || ((eqb p x && eqb y q) || (eqb p y && eqb x q))) ≡ eqb (one (min x y) (max x y) p) (one (min x y) (max x y) q)
one-max x y p q =
    elim (cases_lt x y) [
      | inl less ↦
          let low : min x y ≡ x = omega arith in
          let high : max x y ≡ y = omega arith in
          rw (low, high) (one-same x y p q)
      | inr more ↦
          let low : min x y ≡ y = omega arith in
          let high : max x y ≡ x = omega arith in
          rw (low, high) (one-other y x p q)
    ]

-- nets are joined if their classes of joined nets have one name
is_joined-named : (joins : List (ℕ × ℕ)) (a b : ℕ) → is_joined joins a b ≡ eqb (named joins a) (named joins b)
unfolding is_joined named merged
is_joined-named [] a b = refl
is_joined-named (join ∷ joins) a b =
    rw (is_joined-named joins a b, is_joined-named joins a join.0, is_joined-named joins join.1 b, is_joined-named joins a join.1, is_joined-named joins join.0 b)
    (one-max (named joins join.0) (named joins join.1) (named joins a) (named joins b))

one-le : (x y name net : ℕ) → name ≤ net → one (min x y) (max x y) name ≤ net
one-le x y name net le = grind (arith, nat_tests)

-- a name is a net that isn't greater
named-le : (joins : List (ℕ × ℕ)) (net : ℕ) → named joins net ≤ net
unfolding named merged
named-le [] net = omega arith
named-le (join ∷ joins) net = one-le (named joins join.0) (named joins join.1) (named joins net) net (named-le joins net)

one-itself : (name : ℕ → ℕ) (x y at : ℕ) → name x ≡ x → name y ≡ y → name (name at) ≡ name at → one (min x y) (max x y) (name (one (min x y) (max x y) (name at))) ≡ one (min x y) (max x y) (name at)
one-itself name x y at x_is y_is at_is = grind (arith, nat_tests)

-- the name of a class of joined nets is a net of the class
named-itself : (joins : List (ℕ × ℕ)) (net : ℕ) → named joins (named joins net) ≡ named joins net
unfolding named merged
named-itself [] net = refl
named-itself (join ∷ joins) net =
    one-itself (named joins) (named joins join.0) (named joins join.1) net (named-itself joins join.0) (named-itself joins join.1) (named-itself joins net)

class_of-named : (joins : List (ℕ × ℕ)) (net : ℕ) → class_of joins net ≡ named joins net
unfolding class_of
class_of-named joins net =
    let name = named joins net in
    let within : name < suc net = omega (arith, named-le joins net) in
    let before = λ (j : ℕ) (less : j < name).
    let apart : eqb name (named joins j) ≡ false = grind (arith, nat_tests, named-le joins j) in
    is_joined-named joins net j ∙ apart in
    let here : is_joined joins net name ≡ true = is_joined-named joins net name ∙ grind (arith, nat_tests, named-itself joins net) in
    ap (λ found. unwrap_or found net) (least_below-first (suc net) name (is_joined joins net) within before here)

-- ---- classes, one routing after the other

-- without routings each net is its own class
pub class_of-none : (net : ℕ) → class_of [] net ≡ net
unfolding named
class_of-none net = class_of-named [] net

-- a routing merges the classes of its nets
pub class_of-more : (joins : List (ℕ × ℕ)) (a b net : ℕ) → class_of ((a, b) ∷ joins) net ≡ merged (class_of joins) a b net
unfolding named merged
class_of-more joins a b net =
    rw (class_of-named ((a, b) ∷ joins) net, class_of-named joins a, class_of-named joins b, class_of-named joins net) refl

-- ---- nets that no routing has

-- no routing has a net that isn't below the bound
unfoldable pub AreBelow : ℕ → List (ℕ × ℕ) → Type 0
AreBelow nets [] = Unit {0}
AreBelow nets (join ∷ joins) = (join.0 < nets) × (join.1 < nets) × AreBelow nets joins

one-outside : (x y name : ℕ) → x < name → y < name → one (min x y) (max x y) name ≡ name
one-outside x y name x_less y_less = grind (arith, nat_tests)

named-outside : (nets : ℕ) (joins : List (ℕ × ℕ)) (net : ℕ) → AreBelow nets joins → nets ≤ net → named joins net ≡ net
unfolding named merged AreBelow
named-outside nets [] net below out = refl
named-outside nets (join ∷ joins) net below out =
    let same = named-outside nets joins net below.2 out in
    rw same (one-outside (named joins join.0) (named joins join.1) net (omega (arith, below.0, named-le joins join.0)) (omega (arith, below.1, named-le joins join.1)))

pub class_of-outside : (nets : ℕ) (joins : List (ℕ × ℕ)) (net : ℕ) → AreBelow nets joins → nets ≤ net → class_of joins net ≡ net
class_of-outside nets joins net below out = class_of-named joins net ∙ named-outside nets joins net below out
