-- Columns that are equal, and columns that are all different.
use Rattle.std.proofs.Common.{◌≡◌, ℕ, ◌<◌, Bool, true, false, ◌==◌, List, [], ◌∷◌, refl, sym, ap₂, ◌∙◌, subst, inl, inr, arith}
use Rattle.std.specs.Prelude.{Option, Some, None}
use Rattle.std.specs.Option.{option_map}
use Rattle.std.proofs.lemmas.Bool.{cases_lt, cases_eq, cases_Bool, and_parts, false≢true, lt-ltb, eq-eqb, ne_eqb}
use Rattle.bram_replace.specs.declared.fault.BramFault.TheVariants.{SameColumns}
use Rattle.index_search.specs.Places.{least_below}
use Rattle.bram_replace.specs.HexText.{Contents}
use Rattle.bram_replace.specs.Columns.{column_at, column_count, is_same, is_same_bit, is_repeat, repeat_fault, same_fault, match_of}
use Rattle.index_search.proofs.Found.{first_below-clear, least_below-clear, least_below-place}

-- ---- equal bits and columns

pub is_same_bit-refl : (bit : Bool) → is_same_bit bit bit ≡ true
is_same_bit-refl true = refl
is_same_bit-refl false = refl

pub is_same_bit-equal : (bit other : Bool) → is_same_bit bit other ≡ true → bit ≡ other
is_same_bit-equal true true is = refl
is_same_bit-equal true false is = absurd (false≢true is)
is_same_bit-equal false true is = absurd (false≢true is)
is_same_bit-equal false false is = refl

pub is_same-refl : (bits : List Bool) → is_same bits bits ≡ true
is_same-refl [] = refl
is_same-refl (bit ∷ bits) = rw (is_same_bit-refl bit) (is_same-refl bits)

pub is_same-equal : (bits others : List Bool) → is_same bits others ≡ true → bits ≡ others
is_same-equal [] [] is = refl
is_same-equal [] (other ∷ others) is = absurd (false≢true is)
is_same-equal (bit ∷ bits) [] is = absurd (false≢true is)
is_same-equal (bit ∷ bits) (other ∷ others) is =
    let parts = and_parts (is_same_bit bit other) (is_same bits others) is in
    ap₂ (λ x xs. x ∷ xs) (is_same_bit-equal bit other parts.0) (is_same-equal bits others parts.1)

pub is_same-from : (bits others : List Bool) → bits ≡ others → is_same bits others ≡ true
is_same-from bits others e = subst (λ xs. is_same bits xs ≡ true) e (is_same-refl bits)

-- ---- columns that are all different

pub map-none : (first : ℕ) (second : Option ℕ) → option_map (SameColumns first) second ≡ None → second ≡ None
map-none first None none = refl
map-none first (Some second) none = absurd cc

different : (file : Contents) (first second : ℕ) → same_fault file ≡ None → first < second → second < column_count file → is_same (column_at file first) (column_at file second) ≡ false
unfolding same_fault
different file first second none less within =
    let fault = first_below-clear (column_count file) first (repeat_fault file) none (omega arith) in
    let never = least_below-clear (column_count file) second (is_repeat file first) (map-none first (least_below (column_count file) (is_repeat file first)) fault) within in
    rw (lt-ltb first second less) at never

-- two equal columns are one
pub one_column : (file : Contents) (first second : ℕ) → same_fault file ≡ None → first < column_count file → second < column_count file → column_at file first ≡ column_at file second → first ≡ second
one_column file first second none in_first in_second e =
    elim (cases_eq first second) [
      | inl same ↦ same
      | inr apart ↦ elim (cases_lt first second) [
        | inl less ↦ absurd (false≢true (sym (different file first second none less in_second) ∙ is_same-from (column_at file first) (column_at file second) e))
        | inr more ↦ absurd (false≢true (sym (different file second first none (omega arith) in_first) ∙ is_same-from (column_at file second) (column_at file first) (sym e)))
      ]
    ]

-- the column that is found is the only one that is equal
pub match-only : (file : Contents) (bits : List Bool) (place column : ℕ) → same_fault file ≡ None → match_of file bits ≡ Some place → column < column_count file
    → is_same (column_at file column) bits ≡ (place == column)
unfolding match_of
match-only file bits place column none found within =
    let least = least_below-place (column_count file) (λ column. is_same (column_at file column) bits) place found in
    let equal = is_same-equal (column_at file place) bits least.passes in
    elim (cases_eq place column) [
      | inl same ↦ rw (eq-eqb place column same) (subst (λ k. is_same (column_at file k) bits ≡ true) same least.passes)
      | inr apart ↦ rw (ne_eqb place column apart) (elim (cases_Bool (is_same (column_at file column) bits)) [
        | inl is ↦ absurd (apart (one_column file place column none least.within within (equal ∙ sym (is_same-equal (column_at file column) bits is))))
        | inr is ↦ is
      ])
    ]

-- if none is found none is equal
pub match-none : (file : Contents) (bits : List Bool) (column : ℕ) → match_of file bits ≡ None → column < column_count file → is_same (column_at file column) bits ≡ false
unfolding match_of
match-none file bits column none within = least_below-clear (column_count file) column (λ column. is_same (column_at file column) bits) none within

-- the column that is found is there
pub match-within : (file : Contents) (bits : List Bool) (place : ℕ) → match_of file bits ≡ Some place → place < column_count file
unfolding match_of
match-within file bits place found = (least_below-place (column_count file) (λ column. is_same (column_at file column) bits) place found).within
