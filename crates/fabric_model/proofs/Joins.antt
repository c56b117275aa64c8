-- Joined nets and their classes.
use Rattle.std.proofs.Common.{◌≡◌, ℕ, zero, suc, ◌≤◌, true, false, ◌&&◌, inl, inr, List, [], ◌∷◌, refl, sym, ap, ◌∙◌, subst, arith, eq-eqb}
use Rattle.std.specs.Prelude.{Contains, unwrap_or, Option, Some, None}
use Rattle.std.proofs.lemmas.Bool.{eqb-true, cases_lt, or_cases, or_left, or_right, and_from}
use Rattle.shared_lemmas.proofs.Tests.{first_true, second_true}
use Rattle.index_search.specs.Places.{least_below}
use Rattle.index_search.proofs.Found.{least_below-place, least_below-clear}
use Rattle.fabric_model.specs.Joins.{IsJoin, AreJoined, IsClassOf, is_joined, class_of}
use Rattle.fabric_model.specs.Joins.AreJoined.{itself, further}

-- ---- chains

-- a chain after a chain
pub joined-then : {joins : List (ℕ × ℕ)} {a b c : ℕ} → AreJoined joins a b → AreJoined joins b c → AreJoined joins a c
joined-then itself more = more
joined-then (further join rest) more = further join (joined-then rest more)

-- one routing the other way
join-back : (joins : List (ℕ × ℕ)) (a b : ℕ) → IsJoin joins a b → IsJoin joins b a
join-back joins a b (inl forth) = inr forth
join-back joins a b (inr back) = inl back

-- a chain the other way
pub joined-back : {joins : List (ℕ × ℕ)} {a b : ℕ} → AreJoined joins a b → AreJoined joins b a
joined-back itself = itself
joined-back {joins} (further {a} {b} join rest) = joined-then (joined-back rest) (further (join-back joins a b join) itself)

-- ---- what the test says

-- what is listed after a head
contains-after : (head item : ℕ × ℕ) (joins : List (ℕ × ℕ)) → Contains joins item → Contains (head ∷ joins) item
contains-after head item joins found = (suc found.0, omega (arith, found.1), found.2)

join-after : (head : ℕ × ℕ) (joins : List (ℕ × ℕ)) (a b : ℕ) → IsJoin joins a b → IsJoin (head ∷ joins) a b
join-after head joins a b (inl forth) = inl (contains-after head (a, b) joins forth)
join-after head joins a b (inr back) = inr (contains-after head (b, a) joins back)

joined-after : (head : ℕ × ℕ) {joins : List (ℕ × ℕ)} {a b : ℕ} → AreJoined joins a b → AreJoined (head ∷ joins) a b
joined-after head itself = itself
joined-after head {joins} (further {a} {b} join rest) = further (join-after head joins a b join) (joined-after head rest)

head-joined : (head : ℕ × ℕ) (joins : List (ℕ × ℕ)) → AreJoined (head ∷ joins) head.0 head.1
head-joined head joins = further (inl (0, omega arith, refl)) itself

-- nets that the test joins are joined
pub is_joined-sound : (joins : List (ℕ × ℕ)) (a b : ℕ) → is_joined joins a b ≡ true → AreJoined joins a b
unfolding is_joined
is_joined-sound [] a b passes = subst (λ net. AreJoined [] a net) (eqb-true a b passes) itself
is_joined-sound (join ∷ joins) a b passes =
    elim (or_cases (is_joined joins a b) _ passes) [
      | inl apart ↦ joined-after join (is_joined-sound joins a b apart)
      | inr through ↦ elim (or_cases (is_joined joins a join.0 && is_joined joins join.1 b) _ through) [
        | inl forth ↦
            joined-then (joined-after join (is_joined-sound joins a join.0 (first_true _ _ forth)))
            (joined-then (head-joined join joins) (joined-after join (is_joined-sound joins join.1 b (second_true _ _ forth))))
        | inr back ↦
            joined-then (joined-after join (is_joined-sound joins a join.1 (first_true _ _ back)))
            (joined-then (joined-back (head-joined join joins)) (joined-after join (is_joined-sound joins join.0 b (second_true _ _ back))))
      ]
    ]

-- ---- the test holds for all chains

-- how the test passes with one routing more
data Passes (join : ℕ × ℕ) (joins : List (ℕ × ℕ)) (a b : ℕ) : Type 0 where
  apart : is_joined joins a b ≡ true → Passes join joins a b
  forth : is_joined joins a join.0 ≡ true → is_joined joins join.1 b ≡ true → Passes join joins a b
  back : is_joined joins a join.1 ≡ true → is_joined joins join.0 b ≡ true → Passes join joins a b

passes-how : (join : ℕ × ℕ) (joins : List (ℕ × ℕ)) (a b : ℕ) → is_joined (join ∷ joins) a b ≡ true → Passes join joins a b
unfolding is_joined
passes-how join joins a b passes =
    elim (or_cases (is_joined joins a b) _ passes) [
      | inl without ↦ apart without
      | inr through ↦ elim (or_cases (is_joined joins a join.0 && is_joined joins join.1 b) _ through) [
        | inl this ↦ forth (first_true _ _ this) (second_true _ _ this)
        | inr that ↦ back (first_true _ _ that) (second_true _ _ that)
      ]
    ]

passes-so : (join : ℕ × ℕ) (joins : List (ℕ × ℕ)) (a b : ℕ) → Passes join joins a b → is_joined (join ∷ joins) a b ≡ true
unfolding is_joined
passes-so join joins a b (apart without) = or_left _ _ without
passes-so join joins a b (forth first second) = or_right _ _ (or_left _ _ (and_from _ _ first second))
passes-so join joins a b (back first second) = or_right _ _ (or_right _ _ (and_from _ _ first second))

is_joined-itself : (joins : List (ℕ × ℕ)) (a : ℕ) → is_joined joins a a ≡ true
unfolding is_joined
is_joined-itself [] a = eq-eqb a a refl
is_joined-itself (join ∷ joins) a = or_left _ _ (is_joined-itself joins a)

-- what holds for the routings after the head
record IsThen (joins : List (ℕ × ℕ)) : Type 0 where
  step : (a b c : ℕ) → is_joined joins a b ≡ true → is_joined joins b c ≡ true → is_joined joins a c ≡ true

passes-then : (join : ℕ × ℕ) (joins : List (ℕ × ℕ)) (a b c : ℕ) → IsThen joins → Passes join joins a b → Passes join joins b c → Passes join joins a c
passes-then join joins a b c r (apart p) (apart q) = apart (r.step a b c p q)
passes-then join joins a b c r (apart p) (forth q s) = forth (r.step a b join.0 p q) s
passes-then join joins a b c r (apart p) (back q s) = back (r.step a b join.1 p q) s
passes-then join joins a b c r (forth p q) (apart s) = forth p (r.step join.1 b c q s)
passes-then join joins a b c r (forth p q) (forth s t) = forth p t
passes-then join joins a b c r (forth p q) (back s t) = apart (r.step a join.0 c p t)
passes-then join joins a b c r (back p q) (apart s) = back p (r.step join.0 b c q s)
passes-then join joins a b c r (back p q) (forth s t) = apart (r.step a join.1 c p t)
passes-then join joins a b c r (back p q) (back s t) = back p t

is_joined-then : (joins : List (ℕ × ℕ)) (a b c : ℕ) → is_joined joins a b ≡ true → is_joined joins b c ≡ true → is_joined joins a c ≡ true
unfolding is_joined
is_joined-then [] a b c p q = eq-eqb a c (eqb-true a b p ∙ eqb-true b c q)
is_joined-then (join ∷ joins) a b c p q =
    passes-so join joins a c
    (passes-then join joins a b c (record { step = is_joined-then joins }) (passes-how join joins a b p) (passes-how join joins b c q))

passes-back : (join : ℕ × ℕ) (joins : List (ℕ × ℕ)) (a b : ℕ) → ((c d : ℕ) → is_joined joins c d ≡ true → is_joined joins d c ≡ true)
    → Passes join joins a b → Passes join joins b a
passes-back join joins a b turned (apart p) = apart (turned a b p)
passes-back join joins a b turned (forth p q) = back (turned join.1 b q) (turned a join.0 p)
passes-back join joins a b turned (back p q) = forth (turned join.0 b q) (turned a join.1 p)

is_joined-back : (joins : List (ℕ × ℕ)) (a b : ℕ) → is_joined joins a b ≡ true → is_joined joins b a ≡ true
unfolding is_joined
is_joined-back [] a b p = eq-eqb b a (sym (eqb-true a b p))
is_joined-back (join ∷ joins) a b p = passes-so join joins b a (passes-back join joins a b (is_joined-back joins) (passes-how join joins a b p))

-- a routing of the list
is_joined-listed : (joins : List (ℕ × ℕ)) (a b : ℕ) → Contains joins (a, b) → is_joined joins a b ≡ true
is_joined-listed [] a b found = absurd (omega (arith, found.1))
is_joined-listed (join ∷ joins) a b (zero, within, here) =
    let first : join.0 ≡ a = ap (λ (p : ℕ × ℕ). p.0) here in
    let second : join.1 ≡ b = ap (λ (p : ℕ × ℕ). p.1) here in
    passes-so join joins a b (forth (subst (λ net. is_joined joins net join.0 ≡ true) first (is_joined-itself joins join.0)) (subst (λ net. is_joined joins join.1 net ≡ true) second (is_joined-itself joins join.1)))
is_joined-listed (join ∷ joins) a b (suc k, within, here) =
    passes-so join joins a b (apart (is_joined-listed joins a b (k, omega (arith, within), here)))

-- joined nets pass the test
pub is_joined-whole : {joins : List (ℕ × ℕ)} {a b : ℕ} → AreJoined joins a b → is_joined joins a b ≡ true
is_joined-whole {joins} {a} itself = is_joined-itself joins a
is_joined-whole {joins} (further {a} {b} {c} (inl listed) rest) = is_joined-then joins a b c (is_joined-listed joins a b listed) (is_joined-whole rest)
is_joined-whole {joins} (further {a} {b} {c} (inr listed) rest) =
    is_joined-then joins a b c (is_joined-back joins b a (is_joined-listed joins b a listed)) (is_joined-whole rest)

-- ---- classes

-- what the search for the least net gives
class_by : (joins : List (ℕ × ℕ)) (net : ℕ) (found : Option ℕ) → least_below (suc net) (is_joined joins net) ≡ found
    → IsClassOf joins net (unwrap_or found net)
class_by joins net None missing =
    let clear : is_joined joins net net ≡ false = least_below-clear (suc net) net (is_joined joins net) missing (omega arith) in
    absurd (cc (is_joined-itself joins net))
class_by joins net (Some class) found =
    let least = least_below-place (suc net) (is_joined joins net) class found in
    record {
      joined = is_joined-sound joins net class least.passes;
      least = λ other chain. elim (cases_lt other class) [
        | inl less ↦ absurd (cc (is_joined-whole chain, least.before other less))
        | inr more ↦ more
      ];
    }

-- the class of joined nets that a net belongs to is the least net that is joined to it
pub class_of-is : (joins : List (ℕ × ℕ)) (net : ℕ) → IsClassOf joins net (class_of joins net)
unfolding class_of
class_of-is joins net = class_by joins net (least_below (suc net) (is_joined joins net)) refl

-- no other number is
pub class_of-only : (joins : List (ℕ × ℕ)) (net class : ℕ) → IsClassOf joins net class → class ≡ class_of joins net
class_of-only joins net class is =
    let own = class_of-is joins net in
    omega (arith, is.least (class_of joins net) own.joined, own.least class is.joined)

-- joined nets have one class
pub class_of-joined : (joins : List (ℕ × ℕ)) (a b : ℕ) → AreJoined joins a b → class_of joins a ≡ class_of joins b
class_of-joined joins a b chain =
    let of_b = class_of-is joins b in
    sym (class_of-only joins a (class_of joins b) (record {
      joined = joined-then chain of_b.joined;
      least = λ other more. of_b.least other (joined-then (joined-back chain) more);
    }))

-- nets of one class are joined
pub class_of-apart : (joins : List (ℕ × ℕ)) (a b : ℕ) → class_of joins a ≡ class_of joins b → AreJoined joins a b
class_of-apart joins a b same =
    let of_a : AreJoined joins a (class_of joins b) = subst (λ class. AreJoined joins a class) same (class_of-is joins a).joined in
    joined-then of_a (joined-back (class_of-is joins b).joined)

-- a class is its own class
pub class_of-class : (joins : List (ℕ × ℕ)) (net : ℕ) → class_of joins (class_of joins net) ≡ class_of joins net
class_of-class joins net = sym (class_of-joined joins net (class_of joins net) (class_of-is joins net).joined)

-- a class isn't above its nets
pub class_of-le : (joins : List (ℕ × ℕ)) (net : ℕ) → class_of joins net ≤ net
class_of-le joins net = (class_of-is joins net).least net itself
