-- Exactly one thing of a kind.
use Rattle.std.specs.Prelude.{◌≡◌}

-- there is one, and each is that one
pub record ExactlyOne {A : Type 0} (Is : A → Type 0) : Type 0 where
  pub it : A
  pub is : Is it
  pub only : (other : A) → Is other → other ≡ it
