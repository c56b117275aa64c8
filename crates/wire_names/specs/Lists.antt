-- Lists of names as they are written, and the names that a list can have.
use Rattle.std.specs.Prelude.{ℕ, Bool, ◌&&◌, List, [], ◌∷◌, ◌++◌, fold, is_none, map, if◌then◌else◌}
use Rattle.text_lines.specs.Written.{text_of}
use Rattle.vlog_module.specs.Parts.{Parts}
use Rattle.wire_names.specs.Faults.{cause_for}
use Rattle.wire_names.specs.Lines.{is_label}

-- ---- the text

-- the line of a wire and its name
abbrev pub name_line : List ℕ × List ℕ → List ℕ
name_line pair = pair.0 ++ 32 ∷ pair.1

-- the text of a list: a line for each wire
unfoldable pub names_text : List (List ℕ × List ℕ) → List ℕ
names_text names = text_of (map name_line names)

-- ---- the names that a list can have

-- whether a list that names these wires can go on with the line of a wire and its name
abbrev pub is_free : Parts → List (List ℕ × List ℕ) → List ℕ × List ℕ → Bool
is_free m earlier pair = is_label pair.1 && is_none (cause_for m earlier pair.0 pair.1)

abbrev pub with_free : Parts → List (List ℕ × List ℕ) → List ℕ × List ℕ → List (List ℕ × List ℕ)
with_free m earlier pair = if is_free m earlier pair then earlier ++ pair ∷ [] else earlier

-- Of wires with wanted names, those that a list can have: each that the list can go on with after those before it. So a wire gets the first
-- of its names that is free.
unfoldable pub free_names : Parts → List (List ℕ × List ℕ) → List (List ℕ × List ℕ)
free_names m wanted = fold (with_free m) [] wanted
