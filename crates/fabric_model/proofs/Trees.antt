-- Parents after a write.
use Rattle.std.proofs.Common.{◌≡◌, ◌≢◌, ℕ, ◌+◌, ◌-◌, ◌<◌, ◌≤◌, cond, eqb, List, ◌∷◌, length, get_or, set, drop, refl, sym, ap, ◌∙◌, subst, arith, min, max, inl, inr, length-set, get_or-set_same, get_or-set_other, ne_eqb}
use Rattle.std.proofs.lemmas.Bool.{cases_eq}
use Rattle.std.proofs.lemmas.Bool.Decides.{nat_tests}
use Rattle.std.proofs.lemmas.List.{drop_more, drop_all}
use Rattle.fabric_model.specs.Joins.{class_of}
use Rattle.fabric_model.specs.declared.on.OnLink.{OnLink}
use Rattle.fabric_model.specs.Found.{ends_of}
use Rattle.fabric_model.specs.Parents.{IsForest, AreParents, merged}
use Rattle.fabric_model.proofs.Joined.{class_of-none, class_of-more}

pub forest-set : (parents : List ℕ) (at new : ℕ) → IsForest parents → at < length parents → new ≤ at → IsForest (set parents at new)
forest-set parents at new forest inside le = record {
  above = λ net within.
      elim (cases_eq net at) [
        | inl here ↦ rw (here, get_or-set_same parents at new 0 inside) le
        | inr other ↦ rw (get_or-set_other parents at net new 0 other) (forest.above net (subst (λ n. net < n) (length-set parents at new) within))
      ];
}

pub leads-set : (class : ℕ → ℕ) (parents : List ℕ) (at new : ℕ) → AreParents class parents → at < length parents → class new ≡ class at → (new ≡ at → class at ≡ at) → AreParents class (set parents at new)
leads-set class parents at new leads inside same root = record {
  along = λ net within.
      elim (cases_eq net at) [
        | inl here ↦ rw (here, get_or-set_same parents at new 0 inside) same
        | inr other ↦ rw (get_or-set_other parents at net new 0 other) (leads.along net (subst (λ n. net < n) (length-set parents at new) within))
      ];
  roots = λ net within.
      elim (cases_eq net at) [
        | inl here ↦ rw (here, get_or-set_same parents at new 0 inside) root
        | inr other ↦ rw (get_or-set_other parents at net new 0 other) (leads.roots net (subst (λ n. net < n) (length-set parents at new) within))
      ];
}

pub leads-same : (class other : ℕ → ℕ) (parents : List ℕ) → ((net : ℕ) → other net ≡ class net) → AreParents class parents → AreParents other parents
leads-same class other parents same leads = record {
  along = λ net within. same _ ∙ leads.along net within ∙ sym (same net);
  roots = λ net within root. same net ∙ leads.roots net within root;
}

-- the greater of two roots gets the lesser one as its parent
abbrev joined_at : (ℕ → ℕ) → ℕ → ℕ → ℕ → ℕ
joined_at class low high net = cond (eqb (class net) high) low (class net)

joined-high : (class : ℕ → ℕ) (low high : ℕ) → class low ≡ low → class high ≡ high → joined_at class low high low ≡ joined_at class low high high
joined-high class low high low_is high_is = rw (low_is, high_is) (grind (arith, nat_tests))

joined-root : (class : ℕ → ℕ) (low high : ℕ) → class high ≡ high → low ≡ high → joined_at class low high high ≡ high
joined-root class low high high_is same = rw high_is (grind (arith, nat_tests))

joined-other : (class : ℕ → ℕ) (low high net : ℕ) → class net ≡ net → net ≢ high → joined_at class low high net ≡ net
joined-other class low high net is other = rw (is, ne_eqb net high other) refl

leads-joined : (class : ℕ → ℕ) (parents : List ℕ) (low high : ℕ) → AreParents class parents → high < length parents → class low ≡ low → class high ≡ high → AreParents (joined_at class low high) (set parents high low)
leads-joined class parents low high leads inside low_is high_is = record {
  along = λ net within.
      elim (cases_eq net high) [
        | inl here ↦ rw (here, get_or-set_same parents high low 0 inside) (joined-high class low high low_is high_is)
        | inr other ↦
            rw (get_or-set_other parents high net low 0 other)
            (ap (λ name. cond (eqb name high) low name) (leads.along net (subst (λ n. net < n) (length-set parents high low) within)))
      ];
  roots = λ net within root.
      elim (cases_eq net high) [
        | inl here ↦
            let same : low ≡ high = sym (get_or-set_same parents high low 0 inside) ∙ subst (λ n. get_or (set parents high low) n 0 ≡ n) here root in
            rw here (joined-root class low high high_is same)
        | inr other ↦
            joined-other class low high net
            (leads.roots net (subst (λ n. net < n) (length-set parents high low) within) (sym (get_or-set_other parents high net low 0 other) ∙ root)) other
      ];
}

-- the classes of joined nets of two nets are merged once the greater root has the lesser as its parent
pub leads-merged : (class : ℕ → ℕ) (parents : List ℕ) (a b low high : ℕ) → AreParents class parents → high < length parents → class low ≡ low → class high ≡ high
    → max (class a) (class b) ≡ high → min (class a) (class b) ≡ low → AreParents (merged class a b) (set parents high low)
unfolding merged
leads-merged class parents a b low high leads inside low_is high_is greater lesser =
    leads-same (joined_at class low high) (merged class a b) (set parents high low) (λ net. rw (greater, lesser) refl) (leads-joined class parents low high leads inside low_is high_is)

-- ---- one link after the other, from the last to the first

pub leads-none : (links : List OnLink) (parents : List ℕ) → AreParents (λ net. net) parents → AreParents (class_of (ends_of (drop (length links) links))) parents
leads-none links parents leads =
    leads-same (λ net. net) (class_of (ends_of (drop (length links) links))) parents (λ net. rw (drop_all (length links) links (omega arith)) (class_of-none net)) leads

pub leads-more : (links : List OnLink) (d : OnLink) (i : ℕ) (parents : List ℕ) → 0 < i → i ≤ length links
    → AreParents (merged (class_of (ends_of (drop i links))) (get_or links (i - 1) d).src (get_or links (i - 1) d).dst) parents
    → AreParents (class_of (ends_of (drop (i - 1) links))) parents
leads-more links d i parents some within leads =
    let link = get_or links (i - 1) d in
    let up : i - 1 + 1 ≡ i = omega arith in
    let split : drop (i - 1) links ≡ link ∷ drop i links = drop_more links (i - 1) d (omega arith) ∙ rw up refl in
    leads-same (merged (class_of (ends_of (drop i links))) link.src link.dst) (class_of (ends_of (drop (i - 1) links))) parents
    (λ net. ap (λ rest. class_of (ends_of rest) net) split ∙ class_of-more (ends_of (drop i links)) link.src link.dst net) leads
