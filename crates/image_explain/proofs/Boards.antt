-- Boards of bits that are set one after the other.
use Rattle.std.proofs.Common.{◌≡◌, ℕ, ◌+◌, ◌<◌, ◌≤◌, Bool, true, false, ◌||◌, List, length, get_or, take, refl, sym, ap, ◌∙◌, subst}
use Rattle.std.specs.List.{list_any}
use Rattle.std.proofs.lemmas.List.{take_all}
use Rattle.std.proofs.lemmas.List.Folds.{list_any_more}
use Rattle.std.proofs.Math.Bool.{or_assoc}
use Rattle.bit_plane.specs.Rows.{Rows, IsGrid, bit_at, blank}
use Rattle.bit_plane.proofs.Grids.{IsGrid-blank, bit_at-blank}
use Rattle.image_explain.specs.Inside.{Adds, Knows}

or-false : (a b : Bool) → b ≡ false → a ≡ (a || b)
or-false true b is = refl
or-false false b is = sym is

or-more : (a b c old mid new all : Bool) → mid ≡ (old || a) → new ≡ (mid || b) → all ≡ (a || b) → new ≡ (old || all)
or-more a b c old mid new all first second same =
    second ∙ ap (λ m. m || b) first ∙ or_assoc old a b ∙ ap (λ t. old || t) (sym same)

module _ (before : Rows) where
  -- no bit is added
  pub Adds-none : (test : ℕ → ℕ → Bool) → IsGrid 54 16 before → ((row col : ℕ) → test row col ≡ false) → Adds test before before
  Adds-none test grid none = record { grid = grid; bits = λ row col r c. or-false (bit_at before col row) (test row col) (none row col) }

  -- some, and then more
  pub Adds-more : (first second both : ℕ → ℕ → Bool) (mid after : Rows) → Adds first before mid → Adds second mid after → ((row col : ℕ) → both row col ≡ (first row col || second row col)) → Adds both before after
  Adds-more first second both mid after one two same = record {
    grid = two.grid;
    bits = λ row col r c. or-more (first row col) (second row col) true (bit_at before col row) (bit_at mid col row) (bit_at after col row) (both row col) (one.bits row col r c) (two.bits row col r c) (same row col);
  }

  -- the same board, by another test for its bits
  pub Adds-same : (test other : ℕ → ℕ → Bool) (after : Rows) → Adds test before after → ((row col : ℕ) → other row col ≡ test row col) → Adds other before after
  Adds-same test other after adds same = record { grid = adds.grid; bits = λ row col r c. adds.bits row col r c ∙ ap (λ t. bit_at before col row || t) (sym (same row col)) }

  -- the bits of one item more of a list
  pub Adds-item : {X : Type 0} (test : ℕ → ℕ → X → Bool) (xs : List X) (n : ℕ) (d : X) (mid after : Rows) → n < length xs → Adds (λ row col. list_any (test row col) (take n xs)) before mid → Adds (λ row col. test row col (get_or xs n d)) mid after → Adds (λ row col. list_any (test row col) (take (n + 1) xs)) before after
  Adds-item test xs n d mid after within so_far next =
      Adds-more (λ row col. list_any (test row col) (take n xs)) (λ row col. test row col (get_or xs n d)) (λ row col. list_any (test row col) (take (n + 1) xs)) mid after so_far next (λ row col. list_any_more (test row col) xs n d within)

  -- of all items
  pub Adds-items : {X : Type 0} (test : ℕ → ℕ → X → Bool) (xs : List X) (n : ℕ) (after : Rows) → length xs ≤ n → Adds (λ row col. list_any (test row col) (take n xs)) before after → Adds (λ row col. list_any (test row col) xs) before after
  Adds-items test xs n after past so_far =
      Adds-same (λ row col. list_any (test row col) (take n xs)) (λ row col. list_any (test row col) xs) after so_far (λ row col. ap (list_any (test row col)) (sym (take_all n xs past)))

-- the first board knows nothing
pub Knows-none : (test : ℕ → ℕ → Bool) (board : Rows) → board ≡ blank 54 16 → ((row col : ℕ) → test row col ≡ false) → Knows test board
Knows-none test board blank_is none = record {
  grid = subst (IsGrid 54 16) (sym blank_is) (IsGrid-blank 54 16);
  bits = λ row col r c. ap (λ board. bit_at board col row) blank_is ∙ bit_at-blank 54 16 col row ∙ sym (none row col);
}

-- what is known, and more
pub Knows-more : (first second both : ℕ → ℕ → Bool) (before after : Rows) → Knows first before → Adds second before after → ((row col : ℕ) → both row col ≡ (first row col || second row col)) → Knows both after
Knows-more first second both before after known adds same = record {
  grid = adds.grid;
  bits = λ row col r c. adds.bits row col r c ∙ ap (λ bit. bit || second row col) (known.bits row col r c) ∙ sym (same row col);
}
