-- Texts that are kept one after the other.
use Rattle.std.proofs.Common.{ℕ, List, ◌++◌, subst, append_assoc}
use Rattle.tool_run.specs.Keeping.{KeepsTexts}

module _ {Setting K : Type 0} (has_kept : Setting → K → List (List ℕ) → Type 0) where
  -- some texts are kept, and then more
  pub KeepsTexts-trans : (a b c : K) (texts more : List (List ℕ)) → KeepsTexts has_kept a b texts → KeepsTexts has_kept b c more → KeepsTexts has_kept a c (texts ++ more)
  KeepsTexts-trans a b c texts more first second = λ setting before kept.
      subst (has_kept setting c) (append_assoc before texts more) (second setting (before ++ texts) (first setting before kept))
