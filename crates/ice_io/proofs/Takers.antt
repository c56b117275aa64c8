-- Takers: no bytes, and some and then more.
use Rattle.std.proofs.Common.{ℕ, List, [], ◌++◌, sym, subst, append-nil, append_assoc}
use Rattle.ice_io.specs.Takers.{TakesMore}

module _ {Setting T : Type 0} (has_taken : Setting → T → List ℕ → Type 0) where
  -- nothing is taken
  pub TakesMore-none : (t : T) → TakesMore has_taken t t []
  TakesMore-none t = λ setting before takes. subst (has_taken setting t) (sym (append-nil before)) takes

  -- some bytes are taken, and then more
  pub TakesMore-trans : (a b c : T) (bytes more : List ℕ) → TakesMore has_taken a b bytes → TakesMore has_taken b c more → TakesMore has_taken a c (bytes ++ more)
  TakesMore-trans a b c bytes more first second = λ setting before takes.
      subst (has_taken setting c) (append_assoc before bytes more) (second setting (before ++ bytes) (first setting before takes))
