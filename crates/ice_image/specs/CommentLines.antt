-- The lines of an image's comment.
use Rattle.std.specs.Prelude.{ℕ, ◌<◌, ◌≤◌, ◌≢◌, List, length, slice_index, All}

-- A printable ASCII character, the space included.
pub record IsPrintable (byte : ℕ) : Type 0 where
  pub from_space : 0x20 ≤ byte
  pub to_tilde : byte ≤ 0x7E

-- A line that a text can hold as a line of its comment: it isn't empty, has printable ASCII alone, and doesn't begin with a dot (0x2E),
-- which begins a statement.
pub record IsCommentLine (line : List ℕ) : Type 0 where
  pub some_byte : 0 < length line
  pub printable : All IsPrintable line
  pub no_dot : slice_index line 0 ≢ 0x2E
