-- Lists of which one is changed, and lanes one after the other.
use Rattle.std.proofs.Common.{◌≡◌, ◌≢◌, ℕ, zero, suc, ◌<◌, List, [], ◌∷◌, Vec, Global, inl, inr, ap, arith, get_or, length, refl, replicate, set, sym, ◌∙◌}
use Rattle.std.specs.Prelude.{map}
use Rattle.std.proofs.lemmas.Bool.{cases_eq, cases_lt}
use Rattle.std.proofs.lemmas.List.{get_or-replicate, get_or-set_other, get_or-set_same, get_or_past, length-map, length-replicate, length-set, map-set}
use Rattle.vlog_engine.specs.Lanes.{AreLanes, list_of}

pub list-at : {A : Type 0} (lists : List (Vec A Global)) (lane : ℕ) (d : Vec A Global) → lane < length lists → (get_or lists lane d).items ≡ list_of lane lists
list-at [] lane d within = absurd (omega (arith, within))
list-at (first ∷ lists) zero d within = refl
list-at (first ∷ lists) (suc lane) d within = list-at lists lane d (omega (arith, within))

pub list-here : {A : Type 0} (lists : List (Vec A Global)) (lane : ℕ) (list : Vec A Global) → lane < length lists → list_of lane (set lists lane list) ≡ list.items
list-here {A = A} lists lane list within =
    ap (λ (all : List (List A)). get_or all lane []) (map-set (λ (each : Vec A Global). each.items) lists lane list)
    ∙ get_or-set_same (map (λ each. each.items) lists) lane list.items [] (omega (arith, within, length-map lists (λ (each : Vec A Global). each.items)))

pub list-other : {A : Type 0} (lists : List (Vec A Global)) (lane : ℕ) (list : Vec A Global) (other : ℕ) → other ≢ lane → list_of other (set lists lane list) ≡ list_of other lists
list-other {A = A} lists lane list other apart =
    ap (λ (all : List (List A)). get_or all other []) (map-set (λ (each : Vec A Global). each.items) lists lane list)
    ∙ get_or-set_other (map (λ each. each.items) lists) lane other list.items [] apart

-- a lane gets other words
pub lanes-set : (lanes count : ℕ) (lists : List (Vec ℕ Global)) (lane : ℕ) (list : Vec ℕ Global) → AreLanes lanes count lists → lane < lanes
    → length list.items ≡ count → ((word : ℕ) → get_or list.items word 0 < 65536) → AreLanes lanes count (set lists lane list)
lanes-set lanes count lists lane list are within many small =
    let here : list_of lane (set lists lane list) ≡ list.items = list-here lists lane list (omega (arith, within, are.size)) in
    record {
      size = length-set lists lane list ∙ are.size;
      each = λ other below. elim (cases_eq other lane) [
        | inl same ↦ ap (λ k. length (list_of k (set lists lane list))) same ∙ ap (λ (words : List ℕ). length words) here ∙ many
        | inr apart ↦ ap (λ (words : List ℕ). length words) (list-other lists lane list other apart) ∙ are.each other below
      ];
      fit = λ other word. elim (cases_eq other lane) [
        | inl same ↦ omega (arith, small word, ap (λ (words : List ℕ). get_or words word 0) (ap (λ k. list_of k (set lists lane list)) same ∙ here))
        | inr apart ↦ omega (arith, are.fit other word, ap (λ (words : List ℕ). get_or words word 0) (list-other lists lane list other apart))
      ];
    }

-- ---- lanes that are all the same

pub copied-at : {A : Type 0} (lanes : ℕ) (lists : List (Vec A Global)) (list : List A) (lane : ℕ) → map (λ each. each.items) lists ≡ replicate lanes list → lane < lanes → list_of lane lists ≡ list
copied-at {A = A} lanes lists list lane are within = ap (λ (all : List (List A)). get_or all lane []) are ∙ get_or-replicate lanes lane list [] within

pub copied-length : {A : Type 0} (lanes : ℕ) (lists : List (Vec A Global)) (list : List A) → map (λ each. each.items) lists ≡ replicate lanes list → length lists ≡ lanes
copied-length {A = A} lanes lists list are =
    sym (length-map lists (λ (each : Vec A Global). each.items)) ∙ ap (λ (all : List (List A)). length all) are ∙ length-replicate lanes list

pub copied-lanes : (lanes : ℕ) (lists : List (Vec ℕ Global)) (list : List ℕ) → map (λ each. each.items) lists ≡ replicate lanes list → ((word : ℕ) → get_or list word 0 < 65536)
    → AreLanes lanes (length list) lists
copied-lanes lanes lists list are small = record {
  size = copied-length lanes lists list are;
  each = λ lane within. ap (λ (words : List ℕ). length words) (copied-at lanes lists list lane are within);
  fit = λ lane word. elim (cases_lt lane lanes) [
    | inl within ↦ omega (arith, small word, ap (λ (words : List ℕ). get_or words word 0) (copied-at lanes lists list lane are within))
    | inr past ↦ omega (
      arith,
      ap (λ (words : List ℕ). get_or words word 0) (get_or_past (map (λ each. each.items) lists) lane []
          (omega (arith, past, copied-length lanes lists list are, length-map lists (λ (each : Vec ℕ Global). each.items)))),
    )
  ];
}
