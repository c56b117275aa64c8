-- Rows of bits that differ.
use Rattle.std.proofs.Common.{◌≡◌, ◌≢◌, ℕ, zero, suc, ◌<◌, ◌==◌, Bool, true, false, not, refl, sym, ap, ◌∙◌, inl, inr, arith}
use Rattle.std.proofs.lemmas.Bool.{cases_Bool, cases_eq, eq-eqb, ne_eqb, true≢false}
use Rattle.index_search.specs.Places.{any_below}
use Rattle.index_search.proofs.Places.{any_below-at, any_below-none}
use Rattle.bit_plane.specs.BitList.{word_of}
use Rattle.bit_plane.specs.Rows.{row_from}
use Rattle.ice_image.specs.Bits.{number_bit}
use Rattle.ice_image.proofs.Gained.{number_bit-row}
use Rattle.image_diff.specs.Differences.{differ}

pub differ-same : (a b : Bool) → a ≡ b → differ a b ≡ false
differ-same true true same = refl
differ-same true false same = absurd (true≢false same)
differ-same false true same = absurd (true≢false (sym same))
differ-same false false same = refl

pub same-differ : (a b : Bool) → differ a b ≡ false → a ≡ b
same-differ true true none = refl
same-differ true false none = absurd (true≢false none)
same-differ false true none = absurd (true≢false none)
same-differ false false none = refl

-- where no place passes, none of them does
pub none-below : (n : ℕ) (test : ℕ → Bool) → any_below n test ≡ false → (k : ℕ) → k < n → test k ≡ false
none-below n test none k within =
    elim (cases_Bool (test k)) [
      | inl passes ↦ absurd (true≢false (sym (any_below-at n k test within passes) ∙ none))
      | inr fails ↦ fails
    ]

row-same : (width : ℕ) (first second : ℕ → Bool) → ((k : ℕ) → k < width → first k ≡ second k) → row_from width first ≡ row_from width second
unfolding row_from
row-same zero first second same = refl
row-same (suc width) first second same =
    rw (row-same width first second (λ k within. same k (omega arith)), same width (omega arith)) refl

-- rows of the same bits have the same word
pub word-same : (width : ℕ) (first second : ℕ → Bool) → ((k : ℕ) → k < width → first k ≡ second k) → word_of (row_from width first) ≡ word_of (row_from width second)
word-same width first second same = ap word_of (row-same width first second same)

-- and rows of the same word have the same bits
pub bit-same : (width : ℕ) (first second : ℕ → Bool) → word_of (row_from width first) ≡ word_of (row_from width second) → (k : ℕ) → k < width → first k ≡ second k
bit-same width first second same k within =
    sym (number_bit-row width first k within) ∙ ap (λ word. number_bit word k) same ∙ number_bit-row width second k within

pub rows-same : (width : ℕ) (first second : ℕ → Bool) → word_of (row_from width first) ≡ word_of (row_from width second) → any_below width (λ k. differ (first k) (second k)) ≡ false
rows-same width first second same =
    any_below-none width (λ k. differ (first k) (second k)) (λ k within. differ-same (first k) (second k) (bit-same width first second same k within))

pub rows-other : (width : ℕ) (first second : ℕ → Bool) → word_of (row_from width first) ≢ word_of (row_from width second) → any_below width (λ k. differ (first k) (second k)) ≡ true
rows-other width first second other =
    elim (cases_Bool (any_below width (λ k. differ (first k) (second k)))) [
      | inl some ↦ some
      | inr none ↦ absurd (other (word-same width first second (λ k within. same-differ (first k) (second k) (none-below width (λ k. differ (first k) (second k)) none k within))))
    ]

-- whether two words of rows differ
pub row-test : (width other_width : ℕ) (first second : ℕ → Bool) (a b : ℕ) → other_width ≡ width → a ≡ word_of (row_from width first) → b ≡ word_of (row_from other_width second) → not (a == b) ≡ any_below width (λ k. differ (first k) (second k))
row-test width other_width first second a b same a_is b_is =
    let b_here : b ≡ word_of (row_from width second) = b_is ∙ ap (λ width. word_of (row_from width second)) same in
    elim (cases_eq a b) [
      | inl e ↦ ap not (eq-eqb a b e) ∙ sym (rows-same width first second (sym a_is ∙ e ∙ b_here))
      | inr ne ↦ ap not (ne_eqb a b ne) ∙ sym (rows-other width first second (λ e. ne (a_is ∙ e ∙ sym b_here)))
    ]
