-- The columns of bits that the columns of tiles start at, as a list.
use Rattle.std.proofs.Common.{◌≡◌, set, ℕ, zero, suc, ◌+◌, ◌-◌, ◌<◌, ◌≤◌, List, [], ◌∷◌, ◌++◌, length, take, replicate, slice_index, refl, sym, ap, ◌∙◌, inl, inr, arith, length-append}
use Rattle.std.proofs.lemmas.Bool.{cases_lt}
use Rattle.std.proofs.lemmas.List.{get_or-take, get_or_past, get_or_append_left, get_or-append_right, get_or_push, get_or-replicate, length-replicate, take_all}
use Rattle.std.proofs.Math.Seq.{take-suc-set}
use Rattle.plane_map.specs.Inside.{starts_below}
use Rattle.plane_map.specs.Layout.{start_in}
use Rattle.plane_map.proofs.Widths.{AreStarts, start-later}

-- each column of tiles starts where the one before it ends
pub starts-in : (widths : List ℕ) → AreStarts (start_in widths) (slice_index widths)
unfolding start_in
starts-in widths = record { first = refl; next = λ u. refl }

-- where a column of tiles starts goes by the ones before it alone
pub start_in-take : (n : ℕ) (widths : List ℕ) (u : ℕ) → u ≤ n → start_in (take n widths) u ≡ start_in widths u
unfolding start_in
start_in-take n widths zero h = refl
start_in-take n widths (suc u) h = omega (arith, start_in-take n widths u (omega arith), get_or-take n widths u 0 (omega arith))

-- where the next one starts lies before where any later one does
pub start_in-room : (widths : List ℕ) (u n : ℕ) → u < n → start_in widths u + slice_index widths u ≤ start_in widths n
start_in-room widths u n h = start-later (start_in widths) (slice_index widths) (starts-in widths) u n h

-- past the last one there is no more
pub start_in-past : (widths : List ℕ) (n m : ℕ) → length widths ≤ n → n ≤ m → start_in widths m ≡ start_in widths n
unfolding start_in
start_in-past widths n zero h later = let e : 0 ≡ n = omega arith in ap (start_in widths) e
start_in-past widths n (suc m) h later =
    elim (cases_lt m n) [
      | inl last ↦ let e : suc m ≡ n = omega arith in ap (start_in widths) e
      | inr before ↦ omega (arith, start_in-past widths n m h (omega arith), get_or_past widths m 0 (omega arith))
    ]

-- zeros after the last one change nothing
slice-padded : (xs : List ℕ) (m u : ℕ) → slice_index (xs ++ replicate m 0) u ≡ slice_index xs u
slice-padded xs m u =
    elim (cases_lt u (length xs)) [
      | inl left ↦ get_or_append_left xs (replicate m 0) 0 u left
      | inr right ↦ get_or-append_right xs (replicate m 0) (length xs) u 0 refl right ∙ zeros m (u - length xs) ∙ sym (get_or_past xs u 0 right)
    ]
  where
    zeros : (m k : ℕ) → slice_index (replicate {A = ℕ} m 0) k ≡ 0
    zeros m k =
        elim (cases_lt k m) [
          | inl inside ↦ get_or-replicate m k 0 0 inside
          | inr past ↦ get_or_past {X = ℕ} (replicate m 0) k 0 (omega (arith, length-replicate {A = ℕ} m 0))
        ]

pub start_in-padded : (xs : List ℕ) (m u : ℕ) → start_in (xs ++ replicate m 0) u ≡ start_in xs u
unfolding start_in
start_in-padded xs m zero = refl
start_in-padded xs m (suc u) = omega (arith, start_in-padded xs m u, slice-padded xs m u)

-- there is one start for each column
pub starts-length : (widths : List ℕ) (n : ℕ) → length (starts_below widths n) ≡ n
unfolding starts_below
starts-length widths zero = refl
starts-length widths (suc n) = omega (arith, length-append (starts_below widths n) (start_in widths n ∷ []), starts-length widths n)

-- each of them is where its column of tiles starts
pub starts-at : (widths : List ℕ) (n u : ℕ) → u < n → slice_index (starts_below widths n) u ≡ start_in widths u
unfolding starts_below
starts-at widths zero u h = absurd (omega arith)
starts-at widths (suc n) u h =
    elim (cases_lt u n) [
      | inl before ↦ get_or_append_left (starts_below widths n) (start_in widths n ∷ []) 0 u (omega (arith, starts-length widths n)) ∙ starts-at widths n u before
      | inr last ↦
          let e : u ≡ n = omega arith in
          get_or_push (starts_below widths n) (start_in widths n) 0 u (starts-length widths n ∙ sym e) ∙ ap (start_in widths) (sym e)
    ]

-- the start of the first column, and then one more
pub starts-none : (widths starts : List ℕ) → (0 ≡ start_in widths 0) × (take 0 starts ≡ starts_below widths 0)
unfolding start_in starts_below
starts-none widths starts = (refl, refl)

pub starts-more : (widths starts : List ℕ) (k start next : ℕ) → next ≡ suc k → k < length starts → start ≡ start_in widths k → take k starts ≡ starts_below widths k
    → (start + slice_index widths k ≡ start_in widths next) × (take next (set starts k start) ≡ starts_below widths next)
unfolding start_in starts_below
starts-more widths starts k start next e room first before =
    rw e (ap (λ n. n + slice_index widths k) first, take-suc-set starts k start room ∙ ap (λ list. list ++ start ∷ []) before ∙ ap (λ n. starts_below widths k ++ n ∷ []) first)

-- all of them
pub starts-all : (widths starts : List ℕ) (n k : ℕ) → length starts ≡ n → k ≡ n → take k starts ≡ starts_below widths k → starts ≡ starts_below widths n
starts-all widths starts n k long e is = sym (take_all k starts (omega arith)) ∙ is ∙ ap (starts_below widths) e
