-- Where a piece of a comment ends.
use Rattle.std.specs.Prelude.{ℕ, Bool, ◌||◌, ◌==◌}

abbrev pub is_piece_end : ℕ → Bool
is_piece_end byte = (byte == 0) || (byte == 0xFF)
