-- Which statement a line belongs to (Project IceStorm, 'iCE40 ASCII format': sixteen lines follow the statement of a tile or of a RAM's
-- contents). Indexes count from 0.
use Rattle.std.specs.Prelude.{ℕ, zero, suc, ◌+◌, ◌-◌, Bool, true, false, not, ◌&&◌, List, nat_le, ◌==◌, if◌then◌else◌, Option, Some, None}
use Rattle.text_lines.specs.Lines.{line_at}
use Rattle.index_search.specs.Places.{last_below, first_below}
use Rattle.plane_map.specs.declared.device.DeviceName.{DeviceName}
use Rattle.asc_text.specs.declared.statement.Statement.{Statement}
use Rattle.asc_text.specs.declared.statement.Statement.TheVariants.{Comment, Device, Tile, RamData}
use Rattle.asc_text.specs.Statements.{statement_in, begins_with_dot}

-- sixteen lines belong to the statement of a tile and to that of a RAM's contents
abbrev pub has_rows : Option Statement → Bool
has_rows (Some (Tile kind x y)) = true
has_rows (Some (RamData x y)) = true
has_rows statement = false

-- whether a line is one of the sixteen below a line
abbrev pub is_below : Option ℕ → ℕ → Bool
is_below None n = false
is_below (Some k) n = nat_le n (k + 16)

-- Of the lines before a line, the last to which sixteen lines belong: it is a statement that has them, and not itself one of the
-- sixteen below another.
unfoldable pub opened_before : List (List ℕ) → ℕ → Option ℕ
opened_before lines zero = None
opened_before lines (suc n) =
    if has_rows (statement_in (line_at lines n)) && not (is_below (opened_before lines n) n) then Some n else opened_before lines n

-- how far a line is below a line if it is one of the sixteen below it, or else 0
abbrev pub depth_below : Option ℕ → ℕ → ℕ
depth_below None n = 0
depth_below (Some k) n = if nat_le n (k + 16) then n - k else 0

-- How far a line is below the statement among whose sixteen lines it is, whatever it says, or 0 if it is among none.
unfoldable pub depth_at : List (List ℕ) → ℕ → ℕ
depth_at lines n = depth_below (opened_before lines n) n

-- the statement whose sixteen lines a line is among, or else the statement that the line is
unfoldable pub statement_over : List (List ℕ) → ℕ → Option Statement
statement_over lines n = statement_in (line_at lines (n - depth_at lines n))

-- the statement that a line is, if it is not one of the sixteen lines of another
unfoldable pub statement_at : List (List ℕ) → ℕ → Option Statement
statement_at lines n = if depth_at lines n == 0 then statement_in (line_at lines n) else None

-- of the lines before a line, the last that begins with a dot
unfoldable pub dot_before : List (List ℕ) → ℕ → Option ℕ
dot_before lines n = last_below n (λ k. begins_with_dot (line_at lines k))

abbrev pub is_comment : Option Statement → Bool
is_comment (Some Comment) = true
is_comment statement = false

-- the device that a statement names
abbrev pub device_in : Option Statement → Option DeviceName
device_in (Some (Device device)) = device
device_in statement = None

-- the device that a statement before a line names
unfoldable pub device_before : List (List ℕ) → ℕ → Option DeviceName
device_before lines n = first_below n (λ k. device_in (statement_at lines k))
