-- What holds of a database that is read: it is fit, and has few nets.
use Rattle.std.proofs.Common.{◌≡◌, ℕ, zero, suc, ◌≤◌, Bool, true, false, List, [], ◌∷◌, length, refl, inl, inr, subst, sym}
use Rattle.std.specs.Prelude.{◌&&◌, ◌==◌, nat_le, IfSome, Option, Some, None, Ok, if◌then◌else◌, get_or, drop}
use Rattle.std.proofs.lemmas.Bool.{cases_Bool, leb-true}
use Rattle.shared_lemmas.proofs.Tests.{second_true}
use Rattle.index_search.specs.Places.{first_below, or_else}
use Rattle.text_lines.specs.Lines.{lines_of, line_at}
use Rattle.text_lines.specs.Words.{numbers_of}
use Rattle.plane_map.specs.Layout.{grid_width, grid_height}
use Rattle.plane_map.specs.declared.device.DeviceName.{DeviceName}
use Rattle.chipdb_lines.specs.declared.chip.Chip.{Chip}
use Rattle.chipdb_lines.specs.declared.keyword.Keyword.{Keyword}
use Rattle.chipdb_lines.specs.declared.keyword.Keyword.TheVariants as keyword
use Rattle.chipdb_lines.specs.Words.{is_statement, words_in}
use Rattle.plane_map.specs.DeviceWords.{database_device_named}
use Rattle.chipdb_lines.specs.Statements.{chip_of_numbers, chip_of_words, keyword_of}
use Rattle.chipdb_reader.specs.Blocks.{chip_before, chip_by, chip_in}
use Rattle.chipdb_reader.specs.Database.{Database, database_of}
use Rattle.chipdb_reader.specs.Faults.{DbMeans, Fault, db_fault_of}
use Rattle.chipdb_reader.specs.Fit.{IsFit}
use Rattle.chipdb_reader.proofs.FitPlaces.{database-fit}
use Rattle.tool_inputs.specs.Databases.{database_by, database_read, database_with}

-- ---- a device has few nets

abbrev HasFew : Chip → Type 0
HasFew chip = chip.nets ≤ 16777216

few-numbers : (device : Option DeviceName) (numbers : Option (List ℕ)) → IfSome (chip_of_numbers device numbers) HasFew
few-numbers (Some device) (Some (width ∷ height ∷ nets ∷ [])) =
    elim (cases_Bool ((width == grid_width device) && (height == grid_height device) && nat_le nets 16777216)) [
      | inl fits ↦ rw fits (leb-true nets 16777216 (second_true ((width == grid_width device) && (height == grid_height device)) (nat_le nets 16777216) fits))
      | inr away ↦ rw away tt
    ]
few-numbers (Some device) (Some []) = tt
few-numbers (Some device) (Some (width ∷ [])) = tt
few-numbers (Some device) (Some (width ∷ height ∷ [])) = tt
few-numbers (Some device) (Some (width ∷ height ∷ nets ∷ more ∷ rest)) = tt
few-numbers (Some device) None = tt
few-numbers None numbers = tt

few-args : (args : List (List ℕ)) → IfSome (chip_of_words args) HasFew
unfolding chip_of_words
few-args [] = tt
few-args (name ∷ sizes) = few-numbers (database_device_named name) (numbers_of sizes)

few-else : (first other : Option Chip) → IfSome first HasFew → IfSome other HasFew → IfSome (or_else first other) HasFew
few-else (Some chip) other few more = few
few-else None other few more = more

few-below : (n : ℕ) (given : ℕ → Option Chip) → ((k : ℕ) → IfSome (given k) HasFew) → IfSome (first_below n given) HasFew
unfolding first_below
few-below zero given few = tt
few-below (suc n) given few = few-else (first_below n given) (given n) (few-below n given few) (few n)

few-in : (line : List ℕ) → IfSome (chip_in line) HasFew
unfolding chip_in
few-in line = by_case (is_statement line) (keyword_of (get_or (words_in line) 0 []))
  where
    by_word : (word : Option Keyword) → IfSome (chip_by word (drop 1 (words_in line))) HasFew
    by_word None = tt
    by_word (Some keyword.Device) = few-args (drop 1 (words_in line))
    by_word (Some keyword.GlobalInputs) = tt
    by_word (Some keyword.GlobalPins) = tt
    by_word (Some (keyword.Tile kind)) = tt
    by_word (Some (keyword.TileBits kind)) = tt
    by_word (Some keyword.ExtraBits) = tt
    by_word (Some keyword.Net) = tt
    by_word (Some keyword.Buffer) = tt
    by_word (Some keyword.Routing) = tt
    by_word (Some keyword.ExtraCell) = tt

    by_case : (states : Bool) (word : Option Keyword) → IfSome (if states then chip_by word (drop 1 (words_in line)) else None) HasFew
    by_case true word = by_word word
    by_case false word = tt

few-before : (lines : List (List ℕ)) (n : ℕ) → IfSome (chip_before lines n) HasFew
unfolding chip_before
few-before lines n = few-below n (λ k. chip_in (line_at lines k)) (λ k. few-in (line_at lines k))

-- ---- a database that is read

chip-with : (lines : List (List ℕ)) (chip : Option Chip) (db : Database) → database_with lines chip ≡ Ok db → (chip ≡ Some db.chip) × (db ≡ database_of db.chip lines)
unfolding database_of
chip-with lines None db is = absurd cc
chip-with lines (Some chip) db is = let same : db ≡ database_of chip lines = cc in (rw same refl, rw same refl)

means-by : (bytes : List ℕ) (fault : Option Fault) (db : Database) → db_fault_of bytes ≡ fault → database_by (lines_of bytes) fault ≡ Ok db → DbMeans bytes db
means-by bytes (Some fault) db found is = absurd cc
means-by bytes None db found is =
    let lines = lines_of bytes in
    let parts = chip-with lines (chip_before lines (length lines)) db is in
    record { sound = found; device = parts.0; lines = parts.1 }

read-means : (bytes : List ℕ) (db : Database) → database_read bytes ≡ Ok db → DbMeans bytes db
unfolding database_read
read-means bytes db is = means-by bytes (db_fault_of bytes) db refl is

pub read-fit : (bytes : List ℕ) (db : Database) → database_read bytes ≡ Ok db → IsFit db
read-fit bytes db is = let means = read-means bytes db is in subst IsFit (sym means.lines) (database-fit db.chip (lines_of bytes) means.device)

pub read-few : (bytes : List ℕ) (db : Database) → database_read bytes ≡ Ok db → db.chip.nets ≤ 16777216
read-few bytes db is =
    let means = read-means bytes db is in
    subst (λ (chip : Option Chip). IfSome chip HasFew) means.device (few-before (lines_of bytes) (length (lines_of bytes)))
