-- Memory for a file, allocated beforehand.
use Rattle.std.specs.Prelude.{ℕ, List}

-- the bytes that it holds, how many it has room for, how many one write takes at most, and how many writes have failed since it
-- was last filled
pub record RoomState : Type 0 where
  pub held : List ℕ
  pub size : ℕ
  pub most : ℕ
  pub faults : ℕ
