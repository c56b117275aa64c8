-- What a block of memory owns and lends.
use Rattle.std.specs.Prelude.{ℕ, ◌-◌, List, length}
use base.Fraction.{full_share}
use base.Fml.{Lft, Fml, fsep}
use mir.Syntax.{Ty, w8, ty_int, ty_array}
use denote.Array.{Array}
use denote.Builtin.{u8}
use denote.RawPtr.{Ptr, lies_at, room_for, ◌+ₚ◌}
use denote.Struct.Lending.{lent_at}

-- the type of `n` bytes
abbrev pub bytes_type : ℕ → Ty
bytes_type n = ty_array (ty_int w8) n

-- the bytes that are written, starting at the pointer
abbrev pub written : Ptr → List ℕ → Fml
written p xs = lies_at (Array u8 (length xs)) full_share p xs

-- the free room after them
abbrev pub left : Ptr → ℕ → List ℕ → Fml
left p room xs = room_for (bytes_type (room - length xs)) (p +ₚ length xs)

abbrev pub memory_owns : Ptr → ℕ → List ℕ → Fml
memory_owns p room xs = fsep (written p xs) (left p room xs)

-- what a `&` holds: the bytes alone
abbrev pub memory_lent : Ptr → List ℕ → Lft → Fml
memory_lent p xs = lent_at (Array u8 (length xs)) p xs
