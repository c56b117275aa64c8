-- What a loop over places has gathered.
use Rattle.std.proofs.Common.{◌≡◌, ℕ, ◌+◌, List, ◌++◌, append-nil, append_assoc, sym, ap, ◌∙◌}
use Rattle.index_search.specs.Places.{gathered_below}
use Rattle.index_search.proofs.Places.{gathered_below-more}

pub gathered-none : {A : Type 0} (before : List A) (given : ℕ → List A) → before ≡ before ++ gathered_below 0 given
unfolding gathered_below
gathered-none before given = sym (append-nil before)

pub gathered-more : {A : Type 0} (before now more : List A) (n : ℕ) (given : ℕ → List A) → now ≡ before ++ gathered_below n given → more ≡ now ++ given n
    → more ≡ before ++ gathered_below (n + 1) given
gathered-more before now more n given now_is more_is =
    more_is ∙ ap (λ list. list ++ given n) now_is ∙ append_assoc before (gathered_below n given) (given n) ∙ ap (λ list. before ++ list) (sym (gathered_below-more n given))
