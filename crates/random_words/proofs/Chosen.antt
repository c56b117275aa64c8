-- The first draw that is taken.
use Rattle.std.proofs.Common.{◌≡◌, ℕ, ◌+◌, ◌<◌, true, false, List, refl, sym, ap, ◌∙◌}
use Rattle.std.specs.Prelude.{Option, Some, None}
use Rattle.index_search.specs.Places.{first_below, or_else}
use Rattle.index_search.proofs.Found.{first_below-clear}
use Rattle.index_search.proofs.Places.{first_below-first, first_below-more}
use Rattle.random_words.specs.Draws.{drawn}
use Rattle.random_words.specs.Taken.{if_taken, is_taken, random_words}

-- what the draws give
abbrev given : ℕ → ℕ → ℕ → ℕ → Option (List ℕ)
given width depth seed draw = if_taken (drawn width depth seed draw)

if_taken-yes : (text : List ℕ) → is_taken text ≡ true → if_taken text ≡ Some text
if_taken-yes text is = rw is refl

if_taken-no : (text : List ℕ) → is_taken text ≡ false → if_taken text ≡ None
if_taken-no text refused = rw refused refl

-- a draw that is taken, after draws that aren't
pub chosen-here : (width depth seed draw : ℕ) (text : List ℕ) → draw < 16 → first_below draw (given width depth seed) ≡ None → text ≡ drawn width depth seed draw → is_taken text ≡ true
    → random_words width depth seed ≡ Some text
unfolding random_words
chosen-here width depth seed draw text lt before is taken =
    first_below-first 16 draw (given width depth seed) text lt (λ j below. first_below-clear draw j (given width depth seed) before below)
    (ap if_taken (sym is) ∙ if_taken-yes text taken)

-- one more that isn't
pub chosen-later : (width depth seed draw : ℕ) (text : List ℕ) → first_below draw (given width depth seed) ≡ None → text ≡ drawn width depth seed draw → is_taken text ≡ false
    → first_below (draw + 1) (given width depth seed) ≡ None
chosen-later width depth seed draw text before is refused =
    first_below-more draw (given width depth seed) ∙ ap (λ first. or_else first (given width depth seed draw)) before ∙ ap if_taken (sym is) ∙ if_taken-no text refused

-- no draw is taken
pub chosen-none : (width depth seed draw : ℕ) → draw ≡ 16 → first_below draw (given width depth seed) ≡ None → random_words width depth seed ≡ None
unfolding random_words
chosen-none width depth seed draw all before = ap (λ n. first_below n (given width depth seed)) (sym all) ∙ before
