-- PLLs with one more line, and with the last one among the others.
use Rattle.std.proofs.Common.{◌≡◌, ℕ, Bool, true, false, ◌||◌, List, [], ◌∷◌, refl, sym, ap, ◌∙◌}
use Rattle.std.specs.Prelude.{bytes_eq}
use Rattle.std.specs.declared.cmp.Ordering.{Ordering}
use Rattle.std.specs.declared.cmp.Ordering.TheVariants.{Less, Equal, Greater}
use Rattle.std.specs.declared.vec.Vec.{Vec}
use Rattle.std.specs.declared.alloc.Global.{Global}
use Rattle.std.specs.Ordering.{nat_cmp, match_ordering}
use Rattle.std.specs.Cmp.Lexicographic.{slice_cmp}
use Rattle.std.specs.List.{list_any}
use Rattle.std.specs.BTreeMap.{is_at}
use Rattle.std.specs.BTreeSet.{insert_key}
use Rattle.std.proofs.lemmas.Map.Text.{is_eq-slice_cmp}
use Rattle.std.proofs.lemmas.Map.Lookups.{exact_bytes}
use Rattle.std.proofs.Math.Bool.{or-false, or_assoc, or_comm}

or-last : (here : Bool) (other rest : Bool) → here ≡ other → (here || rest) ≡ ((here || rest) || other)
or-last true other rest same = refl
or-last false other rest same = sym (ap (λ b. rest || b) (sym same) ∙ or-false rest)

-- a test of keys with one more
pub any-insert_key : {K : Type 0} (cmp : K → K → Ordering) (test : K → Bool) (keys : List K) (key : K) → ((other : K) → cmp key other ≡ Equal → test other ≡ test key)
    → list_any test (insert_key cmp keys key) ≡ (list_any test keys || test key)
any-insert_key cmp test [] key same = or-false (test key)
any-insert_key cmp test (first ∷ keys) key same = by (any-insert_key cmp test keys key same) (cmp key first) refl
  where
    by : list_any test (insert_key cmp keys key) ≡ (list_any test keys || test key)
        → (order : Ordering) → cmp key first ≡ order → list_any test (match_ordering order (key ∷ first ∷ keys) (first ∷ keys) (first ∷ insert_key cmp keys key)) ≡ ((test first || list_any test keys) || test key)
    by rest Less is = or_comm (test key) (test first || list_any test keys)
    by rest Equal is = or-last (test first) (test key) (list_any test keys) (same first is)
    by rest Greater is = ap (λ b. test first || b) rest ∙ sym (or_assoc (test first) (list_any test keys) (test key))

-- names with one more
pub named-more : (keys : List (Vec ℕ Global)) (key : Vec ℕ Global) (name other : List ℕ) → key.items ≡ name
    → list_any (λ k. bytes_eq other k.items) (insert_key (λ x y. slice_cmp nat_cmp x.items y.items) keys key) ≡ (list_any (λ k. bytes_eq other k.items) keys || bytes_eq other name)
named-more keys key name other same =
    any-insert_key (λ x y. slice_cmp nat_cmp x.items y.items) (λ k. bytes_eq other k.items) keys key
    (λ k equal. ap (bytes_eq other) (sym (exact_bytes key.items k.items equal)))
    ∙ ap (λ bytes. list_any (λ k. bytes_eq other k.items) keys || bytes_eq other bytes) same

-- whether the last PLL has a name, by the order of names
pub named-by_order : (keys : List (Vec ℕ Global)) (name : List ℕ) → list_any (is_at (λ (k : Vec ℕ Global). slice_cmp nat_cmp name k.items)) keys ≡ list_any (λ k. bytes_eq name k.items) keys
named-by_order keys name = λ i. list_any (λ k. is_eq-slice_cmp name k.items i) keys
