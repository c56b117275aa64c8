-- The statements that a text is written with say what they are to say.
use Rattle.std.proofs.Common.{◌≡◌, ℕ, ◌^◌, ◌<◌, ◌≤◌, true, false, List, [], ◌∷◌, ◌++◌, length, append_assoc, refl, ap, ◌∙◌, arith, Some}
use Rattle.std.proofs.lemmas.Bool.{leb-true, ne_eqb}
use Rattle.std.proofs.lemmas.Fmt.{decimal_nonempty}
use Rattle.std.proofs.lemmas.List.{length-append}
use Rattle.std.proofs.lemmas.List.Elements.{All-cons, All-append, All-head, All-tail, All-weaker}
use Rattle.std.proofs.lemmas.List.Sums.{AllPass-from_list_all}
use Rattle.std.specs.List.{list_all}
use Rattle.std.specs.Prelude.{All, decimal, nat_le}
use Rattle.text_lines.specs.Lines.{trimmed, before_rest}
use Rattle.text_lines.specs.declared.words.Separators.TheVariants.{Spaces}
use Rattle.text_lines.specs.Words.{pieces_of, words_of, from_word, first_word, after_word, numbers_of}
use Rattle.text_lines.specs.Written.{IsPlain}
use Rattle.text_lines.proofs.Spaced.{words_of-separator, words_of-two, words_of-three}
use Rattle.text_lines.proofs.Numbers.{numbers_of-two, numbers_of-three}
use Rattle.text_lines.proofs.Decimals.{decimal-digits, decimal-word, decimal-plain, number_of-decimal}
use Rattle.plane_map.specs.declared.device.DeviceName.{DeviceName}
use Rattle.plane_map.specs.declared.device.DeviceName.TheVariants.{Lp384, Hx1k, Hx8k}
use Rattle.plane_map.specs.declared.tile.TileKind.{TileKind}
use Rattle.plane_map.specs.declared.tile.TileKind.TheVariants.{Io, Logic, RamB, RamT}
use Rattle.plane_map.specs.declared.tile.Place.{Place}
use Rattle.ice_image.specs.declared.settings.Range.TheVariants.{Medium, High}
use Rattle.asc_text.specs.declared.statement.Statement.{Statement}
use Rattle.asc_text.specs.declared.statement.Statement.TheVariants.{Device, WarmBoot, FrequencyRange, NoSleep, Tile, RamData, ExtraBit}
use Rattle.plane_map.specs.DeviceWords.{device_word}
use Rattle.asc_text.specs.Statements.{switch_word, range_word, device_keyword, warm_boot_keyword, range_keyword, no_sleep_keyword, tile_keyword, ram_data_keyword, extra_bit_keyword, tile_of_numbers, ram_data_of_numbers, extra_bit_of_numbers, spelled, statement_in, begins_with_dot}
use Rattle.asc_text.specs.Canonical.{with_word, grid_line, extra_line}

-- a line says a statement, and has no byte below the space
pub record IsSpelled (line : List ℕ) (statement : Statement) : Type 0 where
  pub spells : statement_in line ≡ Some statement
  pub dot : begins_with_dot line ≡ true
  pub plain : IsPlain line

-- ---- bytes from the space on

-- a line whose bytes are tested
pub plain-literal : (line : List ℕ) → list_all (λ byte. nat_le 32 byte) line ≡ true → IsPlain line
plain-literal line all = All-weaker (λ byte. nat_le 32 byte ≡ true) (λ byte. 32 ≤ byte) (λ byte le. leb-true 32 byte le) line (AllPass-from_list_all (λ byte. nat_le 32 byte) line all)

-- a word after a line
plain-with_word : (line word : List ℕ) → IsPlain line → IsPlain word → IsPlain (with_word line word)
plain-with_word line word first second = All-append (λ byte. 32 ≤ byte) line (32 ∷ word) first (All-cons (λ byte. 32 ≤ byte) 32 word (omega arith) second)

-- ---- no blanks at the end

-- a byte stays if something is left after it
before_rest-some : (byte : ℕ) (rest : List ℕ) → 0 < length rest → before_rest byte rest ≡ byte ∷ rest
before_rest-some byte [] some = absurd (omega arith)
before_rest-some byte (next ∷ rest) some = refl

-- a byte above the space stays
before_rest-high : (byte : ℕ) (rest : List ℕ) → 33 ≤ byte → before_rest byte rest ≡ byte ∷ rest
before_rest-high byte [] high = rw (ne_eqb byte 32 (λ e. omega arith), ne_eqb byte 9 (λ e. omega arith)) refl
before_rest-high byte (next ∷ rest) high = refl

-- a word of bytes above the space has none
pub trimmed-word : (word : List ℕ) → All (λ byte. 33 ≤ byte) word → trimmed word ≡ word
unfolding trimmed
trimmed-word [] high = refl
trimmed-word (byte ∷ bytes) high =
    ap (before_rest byte) (trimmed-word bytes (All-tail (λ byte. 33 ≤ byte) byte bytes high)) ∙ before_rest-high byte bytes (All-head (λ byte. 33 ≤ byte) byte bytes high)

-- nor has a line that such a word ends
trimmed-with_word : (line word : List ℕ) → 0 < length word → All (λ byte. 33 ≤ byte) word → trimmed (with_word line word) ≡ with_word line word
unfolding trimmed
trimmed-with_word [] word some high = ap (before_rest 32) (trimmed-word word high) ∙ before_rest-some 32 word some
trimmed-with_word (byte ∷ line) word some high =
    ap (before_rest byte) (trimmed-with_word line word some high) ∙ before_rest-some byte (with_word line word) (omega (arith, length-append line (32 ∷ word)))

-- nor has a line that a number ends
trimmed-decimal : (line : List ℕ) (number : ℕ) → number < 2 ^ 64 → trimmed (with_word line (decimal number)) ≡ with_word line (decimal number)
trimmed-decimal line number small =
    trimmed-with_word line (decimal number) (decimal_nonempty number small)
    (All-weaker (λ byte. (48 ≤ byte) × (byte ≤ 57)) (λ byte. 33 ≤ byte) (λ byte digit. omega (arith, digit.0)) (decimal number) (decimal-digits number small))

-- ---- settings

-- the device
pub device-spelled : (device : DeviceName) → IsSpelled (with_word device_keyword (device_word device)) (Device (Some device))
unfolding statement_in trimmed from_word words_of pieces_of
device-spelled Lp384 = record { spells = refl; dot = refl; plain = plain-literal (with_word device_keyword (device_word Lp384)) refl }
device-spelled Hx1k = record { spells = refl; dot = refl; plain = plain-literal (with_word device_keyword (device_word Hx1k)) refl }
device-spelled Hx8k = record { spells = refl; dot = refl; plain = plain-literal (with_word device_keyword (device_word Hx8k)) refl }

-- warm boot, if it is disabled
pub warm_boot-spelled : IsSpelled (with_word warm_boot_keyword (switch_word false)) (WarmBoot (Some false))
unfolding statement_in trimmed from_word words_of pieces_of
warm_boot-spelled = record { spells = refl; dot = refl; plain = plain-literal (with_word warm_boot_keyword (switch_word false)) refl }

-- the medium range
pub medium-spelled : IsSpelled (with_word range_keyword (range_word Medium)) (FrequencyRange (Some Medium))
unfolding statement_in trimmed from_word words_of pieces_of
medium-spelled = record { spells = refl; dot = refl; plain = plain-literal (with_word range_keyword (range_word Medium)) refl }

-- the high range
pub high-spelled : IsSpelled (with_word range_keyword (range_word High)) (FrequencyRange (Some High))
unfolding statement_in trimmed from_word words_of pieces_of
high-spelled = record { spells = refl; dot = refl; plain = plain-literal (with_word range_keyword (range_word High)) refl }

-- the flash, if it stays awake
pub no_sleep-spelled : IsSpelled (with_word no_sleep_keyword (switch_word true)) (NoSleep (Some true))
unfolding statement_in trimmed from_word words_of pieces_of
no_sleep-spelled = record { spells = refl; dot = refl; plain = plain-literal (with_word no_sleep_keyword (switch_word true)) refl }

-- ---- statements of places

-- two numbers after a keyword
two-numbers : (x y : ℕ) → x < 1000000000 → y < 1000000000 → numbers_of (words_of Spaces (32 ∷ (decimal x ++ (32 ∷ decimal y)))) ≡ Some (x ∷ y ∷ [])
two-numbers x y small_x small_y =
    ap numbers_of (words_of-separator Spaces 32 (decimal x ++ (32 ∷ decimal y)) refl ∙ words_of-two Spaces (decimal x) (decimal y) (decimal-word Spaces x (omega arith)) (decimal-word Spaces y (omega arith)))
    ∙ numbers_of-two (decimal x) (decimal y) x y (number_of-decimal x small_x) (number_of-decimal y small_y)

-- three numbers after a keyword
three-numbers : (x y z : ℕ) → x < 1000000000 → y < 1000000000 → z < 1000000000
    → numbers_of (words_of Spaces (32 ∷ (decimal x ++ (32 ∷ (decimal y ++ (32 ∷ decimal z)))))) ≡ Some (x ∷ y ∷ z ∷ [])
three-numbers x y z small_x small_y small_z =
    ap numbers_of (words_of-separator Spaces 32 (decimal x ++ (32 ∷ (decimal y ++ (32 ∷ decimal z)))) refl ∙ words_of-three Spaces (decimal x) (decimal y) (decimal z) (decimal-word Spaces x (omega arith)) (decimal-word Spaces y (omega arith)) (decimal-word Spaces z (omega arith)))
    ∙ numbers_of-three (decimal x) (decimal y) (decimal z) x y z (number_of-decimal x small_x) (number_of-decimal y small_y) (number_of-decimal z small_z)

-- a keyword and two numbers have no byte below the space
plain-grid : (keyword : List ℕ) (x y : ℕ) → list_all (λ byte. nat_le 32 byte) keyword ≡ true → x < 1000000000 → y < 1000000000 → IsPlain (grid_line keyword x y)
plain-grid keyword x y plain small_x small_y =
    plain-with_word (with_word keyword (decimal x)) (decimal y) (plain-with_word keyword (decimal x) (plain-literal keyword plain) (decimal-plain x (omega arith))) (decimal-plain y (omega arith))

-- a line that nothing is trimmed from
says-whole : (line : List ℕ) → trimmed line ≡ line → begins_with_dot line ≡ true → statement_in line ≡ spelled (first_word Spaces line) (after_word Spaces line)
unfolding statement_in
says-whole line whole dot = rw dot (ap (λ line. spelled (first_word Spaces line) (after_word Spaces line)) whole)

-- the statement of a tile
pub tile-spelled : (kind : TileKind) (x y : ℕ) → x < 1000000000 → y < 1000000000 → IsSpelled (grid_line (tile_keyword kind) x y) (Tile kind x y)
unfolding from_word
tile-spelled Io x y small_x small_y = record {
  spells = says-whole _ (trimmed-decimal (with_word (tile_keyword Io) (decimal x)) y (omega arith)) refl ∙ ap (tile_of_numbers Io) (two-numbers x y small_x small_y);
  dot = refl;
  plain = plain-grid (tile_keyword Io) x y refl small_x small_y;
}
tile-spelled Logic x y small_x small_y = record {
  spells = says-whole _ (trimmed-decimal (with_word (tile_keyword Logic) (decimal x)) y (omega arith)) refl ∙ ap (tile_of_numbers Logic) (two-numbers x y small_x small_y);
  dot = refl;
  plain = plain-grid (tile_keyword Logic) x y refl small_x small_y;
}
tile-spelled RamB x y small_x small_y = record {
  spells = says-whole _ (trimmed-decimal (with_word (tile_keyword RamB) (decimal x)) y (omega arith)) refl ∙ ap (tile_of_numbers RamB) (two-numbers x y small_x small_y);
  dot = refl;
  plain = plain-grid (tile_keyword RamB) x y refl small_x small_y;
}
tile-spelled RamT x y small_x small_y = record {
  spells = says-whole _ (trimmed-decimal (with_word (tile_keyword RamT) (decimal x)) y (omega arith)) refl ∙ ap (tile_of_numbers RamT) (two-numbers x y small_x small_y);
  dot = refl;
  plain = plain-grid (tile_keyword RamT) x y refl small_x small_y;
}

-- that of a RAM's contents
pub ram-spelled : (x y : ℕ) → x < 1000000000 → y < 1000000000 → IsSpelled (grid_line ram_data_keyword x y) (RamData x y)
unfolding from_word
ram-spelled x y small_x small_y = record {
  spells = says-whole _ (trimmed-decimal (with_word ram_data_keyword (decimal x)) y (omega arith)) refl ∙ ap ram_data_of_numbers (two-numbers x y small_x small_y);
  dot = refl;
  plain = plain-grid ram_data_keyword x y refl small_x small_y;
}

-- that of an extra bit
pub extra-spelled : (at : Place) → at.bank < 1000000000 → at.px < 1000000000 → at.py < 1000000000 → IsSpelled (extra_line at) (ExtraBit at.bank at.px at.py)
unfolding from_word
extra-spelled at small_bank small_px small_py = record {
  spells = says-whole _ (trimmed-decimal (with_word (with_word extra_bit_keyword (decimal at.bank)) (decimal at.px)) at.py (omega arith)) refl
      ∙ ap extra_bit_of_numbers (ap numbers_of (ap (λ line. words_of Spaces (32 ∷ line)) (append_assoc (decimal at.bank) (32 ∷ decimal at.px) (32 ∷ decimal at.py))) ∙ three-numbers at.bank at.px at.py small_bank small_px small_py);
  dot = refl;
  plain = plain-with_word (with_word (with_word extra_bit_keyword (decimal at.bank)) (decimal at.px)) (decimal at.py)
      (plain-with_word (with_word extra_bit_keyword (decimal at.bank)) (decimal at.px)
      (plain-with_word extra_bit_keyword (decimal at.bank) (plain-literal extra_bit_keyword refl) (decimal-plain at.bank (omega arith)))
      (decimal-plain at.px (omega arith))) (decimal-plain at.py (omega arith));
}
