-- A search along rows goes on.
use Rattle.std.proofs.Common.{◌≡◌, ℕ, ◌+◌, ◌<◌, ◌≤◌, Bool, true, false, cond, not, inl, inr, List, [], ◌∷◌, ◌++◌, length, get_or, set, refl, sym, ap, ◌∙◌, subst, arith, count_by}
use Rattle.std.proofs.Math.ListN.{get_or-append}
use Rattle.std.proofs.Math.Seq.{get_or-append_seam}
use Rattle.std.proofs.lemmas.Bool.{cases_lt, cases_eq, cases_Bool}
use Rattle.std.proofs.lemmas.List.{length-append}
use Rattle.std.proofs.lemmas.List.Sums.{sum_by-set}
use Rattle.graph_order.specs.Wiring.{has}
use Rattle.graph_order.specs.Rows.{is_marked}
use Rattle.graph_order.specs.Search.{nowhere, node_at, from_at, StandsIn, Adds, IsSearch}
use Rattle.graph_order.specs.declared.search.Found.{Found}
use Rattle.graph_order.proofs.Written.{marked}

-- one mark more is set
pub fewer-unmarked : (marks : List Bool) (node : ℕ) → node < length marks → is_marked marks node ≡ false → count_by not (set marks node true) + 1 ≡ count_by not marks
fewer-unmarked marks node within unmarked =
    let weight : Bool → ℕ = λ mark. cond (not mark) 1 0 in
    let here : weight (get_or marks node false) ≡ 1 = ap weight unmarked in
    omega (arith, sum_by-set weight marks node true false within, here)

pub still-marked : (marks : List Bool) (node k : ℕ) → node < length marks → is_marked marks k ≡ true → is_marked (set marks node true) k ≡ true
still-marked marks node k within so =
    let now = marked marks node within in
    elim (cases_eq k node) [
      | inl same ↦ ap (is_marked (set marks node true)) same ∙ now.here
      | inr apart ↦ now.other k apart ∙ so
    ]

-- ---- nodes of a row are added

pub adds-none : (row : List ℕ) (from : ℕ) (marks : List Bool) (trail : List Found) → Adds row from marks marks trail trail
adds-none row from marks trail = record {
  longer = omega arith;
  kept = λ place within. refl;
  from_here = λ place following within. absurd (omega arith);
  in_row = λ place following within. absurd (omega arith);
  still_marked = λ node so. so;
  listed = λ node so unset. absurd (cc (so, unset));
  few = omega arith;
}

-- one more at the end of a trail
pub push-before : (trail : List Found) (last : Found) (place : ℕ) → place < length trail → get_or (trail ++ last ∷ []) place nowhere ≡ get_or trail place nowhere
push-before trail last place within = get_or-append trail (last ∷ []) nowhere place within

pub push-here : (trail : List Found) (last : Found) (place : ℕ) → length trail ≤ place → place < length (trail ++ last ∷ []) → get_or (trail ++ last ∷ []) place nowhere ≡ last
push-here trail last place following within =
    let long = length-append trail (last ∷ []) in
    let same : length trail ≡ place = omega (arith, long) in
    subst (λ k. get_or (trail ++ last ∷ []) k nowhere ≡ last) same (get_or-append_seam trail last [] nowhere)

pub stands-kept : (trail grown : List Found) (node : ℕ) → length trail ≤ length grown
    → ((place : ℕ) → place < length trail → get_or grown place nowhere ≡ get_or trail place nowhere) → StandsIn trail node → StandsIn grown node
stands-kept trail grown node longer kept there = record {
  place = there.place;
  within = omega (arith, there.within, longer);
  here = ap (λ (f : Found). f.node) (kept there.place there.within) ∙ there.here;
}

module _ (row : List ℕ) (old marks : List Bool) (trail grown : List Found) (one : Found) (adds : Adds row one.from old marks trail grown)
    (within : one.node < length marks) (unmarked : is_marked marks one.node ≡ false) (in_row : has row one.node ≡ true) where
  pub adds-one : Adds row one.from old (set marks one.node true) trail (grown ++ one ∷ [])
  adds-one =
      let long = length-append grown (one ∷ []) in
      let marks_now = marked marks one.node within in
      let fewer = fewer-unmarked marks one.node within unmarked in
      record {
        longer = omega (arith, long, adds.longer);
        kept = λ place less. push-before grown one place (omega (arith, adds.longer)) ∙ adds.kept place less;
        from_here = λ place following less. elim (cases_lt place (length grown)) [
          | inl before ↦ ap (λ (f : Found). f.from) (push-before grown one place before) ∙ adds.from_here place following before
          | inr after ↦ ap (λ (f : Found). f.from) (push-here grown one place after less)
        ];
        in_row = λ place following less. elim (cases_lt place (length grown)) [
          | inl before ↦ ap (λ (f : Found). has row f.node) (push-before grown one place before) ∙ adds.in_row place following before
          | inr after ↦ ap (λ (f : Found). has row f.node) (push-here grown one place after less) ∙ in_row
        ];
        still_marked = λ node so. still-marked marks one.node node within (adds.still_marked node so);
        listed = λ node so unset. elim (cases_eq node one.node) [
          | inl same ↦ record {
            place = length grown;
            within = omega (arith, long);
            here = ap (λ (f : Found). f.node) (push-here grown one (length grown) (omega arith) (omega (arith, long))) ∙ sym same;
          }
          | inr apart ↦ stands-kept grown (grown ++ one ∷ []) node (omega (arith, long)) (push-before grown one) (adds.listed node (sym (marks_now.other node apart) ∙ so) unset)
        ];
        few = omega (arith, long, fewer, adds.few);
      }

-- ---- the rows of the trail's nodes are gone through

pub search-first : (row : ℕ → List ℕ) (start : ℕ) (old : List Bool) (trail : List Found) → start < length old → trail ≡ record { node = start; from = 0 } ∷ []
    → IsSearch row start old (set old start true) 0 trail
search-first row start old trail within is =
    let one : Found = record { node = start; from = 0 } in
    let marks = marked old start within in
    subst (λ t. IsSearch row start old (set old start true) 0 t) (sym is) (record {
      leads = record { before = λ place following less. absurd (omega arith); in_row = λ place following less. absurd (omega arith) };
      some = omega arith;
      first = refl;
      below = λ place less. let same : 0 ≡ place = omega arith in subst (λ k. node_at (one ∷ []) k < length old) same within;
      marked = λ place other less found. absurd (omega arith);
      listed = λ node so unset. elim (cases_eq node start) [
        | inl same ↦ record { place = 0; within = omega arith; here = sym same }
        | inr apart ↦ absurd (cc (sym (marks.other node apart) ∙ so, unset))
      ];
    })

module _ (row : ℕ → List ℕ) (start : ℕ) (old marks new : List Bool) (done : ℕ) (trail grown : List Found) (so_far : IsSearch row start old marks done trail)
    (within : done < length trail) (adds : Adds (row (node_at trail done)) done marks new trail grown)
    (all : (node : ℕ) → has (row (node_at trail done)) node ≡ true → is_marked new node ≡ true)
    (below : (node : ℕ) → has (row (node_at trail done)) node ≡ true → node < length old) where
  node-kept : (place : ℕ) → place < length trail → node_at grown place ≡ node_at trail place
  node-kept place less = ap (λ (f : Found). f.node) (adds.kept place less)

  from-kept : (place : ℕ) → place < length trail → from_at grown place ≡ from_at trail place
  from-kept place less = ap (λ (f : Found). f.from) (adds.kept place less)

  before-more : (place : ℕ) → 0 < place → place < length grown → from_at grown place < place
  before-more place following less = elim (cases_lt place (length trail)) [
    | inl before ↦ omega (arith, from-kept place before, so_far.leads.before place following before)
    | inr after ↦ omega (arith, adds.from_here place after less)
  ]

  in_row-more : (place : ℕ) → 0 < place → place < length grown → has (row (node_at grown (from_at grown place))) (node_at grown place) ≡ true
  in_row-more place following less = elim (cases_lt place (length trail)) [
    | inl before ↦
        let earlier = so_far.leads.before place following before in
        let from : node_at grown (from_at grown place) ≡ node_at trail (from_at trail place) =
        ap (node_at grown) (from-kept place before) ∙ node-kept (from_at trail place) (omega (arith, earlier)) in
        ap (λ k. has (row k) (node_at grown place)) from
        ∙ ap (has (row (node_at trail (from_at trail place)))) (node-kept place before)
        ∙ so_far.leads.in_row place following before
    | inr after ↦
        let from : node_at grown (from_at grown place) ≡ node_at trail done = ap (node_at grown) (adds.from_here place after less) ∙ node-kept done within in
        ap (λ k. has (row k) (node_at grown place)) from ∙ adds.in_row place after less
  ]

  pub search-more : IsSearch row start old new (done + 1) grown
  search-more = record {
    leads = record { before = before-more; in_row = in_row-more };
    some = omega (arith, so_far.some, adds.longer);
    first = node-kept 0 so_far.some ∙ so_far.first;
    below = λ place less. elim (cases_lt place (length trail)) [
      | inl before ↦ omega (arith, node-kept place before, so_far.below place before)
      | inr after ↦ below (node_at grown place) (adds.in_row place after less)
    ];
    marked = λ place other less found. elim (cases_lt place done) [
      | inl before ↦ adds.still_marked other (so_far.marked place other before (ap (λ k. has (row k) other) (sym (node-kept place (omega arith))) ∙ found))
      | inr after ↦
          let same : place ≡ done = omega arith in
          all other (ap (λ k. has (row k) other) (sym (ap (node_at grown) same ∙ node-kept done within)) ∙ found)
    ];
    listed = λ node so unset. elim (cases_Bool (is_marked marks node)) [
      | inl before ↦ stands-kept trail grown node adds.longer adds.kept (so_far.listed node before unset)
      | inr after ↦ adds.listed node so after
    ];
  }
