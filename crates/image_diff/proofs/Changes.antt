-- Which lines are told.
use Rattle.std.proofs.Common.{◌≡◌, ◌≢◌, ℕ, ◌==◌, Bool, true, false, not, List, [], ◌∷◌, ◌++◌, map, Contains, Some, None, refl, sym, ap, ◌∙◌, inl, inr}
use Rattle.std.specs.Prelude.{codes, if◌then◌else◌, Option}
use Rattle.std.proofs.lemmas.Bool.{cases_Bool, eqb-true, eq-eqb, not-true, not_from_false, and_from, and_parts, true≢false}
use Rattle.index_search.specs.Places.{any_below, gathered_below}
use Rattle.index_search.proofs.Places.{any_below-place, gathered_below-none, gathered_below-same}
use Rattle.plane_map.specs.Layout.{columns_at, grid_width, grid_height, kind_of}
use Rattle.plane_map.specs.declared.tile.Place.{Place}
use Rattle.plane_map.specs.declared.tile.TileKind.{TileKind}
use Rattle.plane_map.specs.declared.tile.TileKind.TheVariants.{Io, Logic, RamB, RamT}
use Rattle.ice_image.specs.Bits.{Extra, bit_of, ram_word_of, set_extras, tile_bit_of}
use Rattle.ice_image.specs.Configuration.{Configuration}
use Rattle.ice_image.specs.Owned.{is_extra}
use Rattle.ice_image.specs.declared.settings.Settings.{Settings}
use Rattle.ice_image.proofs.SetExtras.{set_extras-at, set_extras-in}
use Rattle.asc_text.specs.Canonical.{no_sleep_lines, range_lines, warm_boot_lines}
use Rattle.chipdb_lines.specs.Items.{ExtraLine}
use Rattle.chipdb_reader.specs.Database.{Database}
use Rattle.image_explain.specs.Explained.{extra_text, item_lines}
use Rattle.image_diff.specs.Differences.{all_ram_changes, all_tile_changes, changed_lines, changes_at, differ, differences, extra_changes, extras_without, is_other_tile, is_set_extra, line_changes, lines_without, minus, plus, ram_changes, setting_changes, tile_changes, word_changes, word_line}
use Rattle.image_diff.specs.Laws.{AreMarked, Differs, SetsExtra, TellsDifferences, TellsExtras, TellsSettings, TellsTile, TellsTiles, TellsWord, TellsWords}
use Rattle.image_diff.proofs.Members.{filter-from, filter-in, without-from, without-in}
use Rattle.image_diff.proofs.OtherBits.{none-below, same-differ}

-- ---- settings

marked : (first second : List (List ℕ)) → AreMarked first second (line_changes first second)
unfolding line_changes
marked first second = record {
  firsts = lines_without second first;
  seconds = lines_without first second;
  lines_are = refl;
  of_first = λ line. (without-from second first line, without-in second first line);
  of_second = λ line. (without-from first second line, without-in first second line);
}

settings-told : (first second : Settings) → TellsSettings first second (setting_changes first second)
unfolding setting_changes
settings-told first second = record {
  warm_boot = line_changes (warm_boot_lines first.warm_boot) (warm_boot_lines second.warm_boot);
  range = line_changes (range_lines first.range) (range_lines second.range);
  no_sleep = line_changes (no_sleep_lines first.no_sleep) (no_sleep_lines second.no_sleep);
  lines_are = refl;
  warm_boots = marked (warm_boot_lines first.warm_boot) (warm_boot_lines second.warm_boot);
  ranges = marked (range_lines first.range) (range_lines second.range);
  no_sleeps = marked (no_sleep_lines first.no_sleep) (no_sleep_lines second.no_sleep);
}

-- ---- tiles

differ-apart : (a b : Bool) → differ a b ≡ true → a ≢ b
differ-apart true true other = absurd (true≢false (sym other))
differ-apart true false other = λ same. true≢false same
differ-apart false true other = λ same. true≢false (sym same)
differ-apart false false other = absurd (true≢false (sym other))

module _ (first second : Configuration) (x y : ℕ) where
  differs-from : is_other_tile first second x y ≡ true → Differs first second x y
  unfolding is_other_tile
  differs-from other =
      let columns = columns_at first.layout.device x y in
      let row = any_below-place 16 (λ row. any_below columns (λ col. differ (tile_bit_of first x y row col) (tile_bit_of second x y row col))) other in
      let col = any_below-place columns (λ col. differ (tile_bit_of first x y row.0 col) (tile_bit_of second x y row.0 col)) row.2 in
      (row.0, col.0, row.1, col.1, differ-apart (tile_bit_of first x y row.0 col.0) (tile_bit_of second x y row.0 col.0) col.2)

  same-from : is_other_tile first second x y ≡ false → ¬ Differs first second x y
  unfolding is_other_tile
  same-from same differs =
      let columns = columns_at first.layout.device x y in
      let row = none-below 16 (λ row. any_below columns (λ col. differ (tile_bit_of first x y row col) (tile_bit_of second x y row col))) same differs.0 differs.2 in
      differs.4 (same-differ (tile_bit_of first x y differs.0 differs.1) (tile_bit_of second x y differs.0 differs.1)
      (none-below columns (λ col. differ (tile_bit_of first x y differs.0 col) (tile_bit_of second x y differs.0 col)) row differs.1 differs.3))

  tile-told : (database : Database) (kind : Option TileKind) → TellsTile database first second x y kind (changes_at database first second x y kind)
  tile-told database None = refl
  tile-told database (Some kind) =
      let lines = tile_changes database first second x y kind in
      elim (cases_Bool (is_other_tile first second x y)) [
        | inl other ↦
            let told : changes_at database first second x y (Some kind) ≡ lines = ap (λ (test : Bool). if test then lines else []) other in
            inr (differs-from other, (line_changes (item_lines database first x y kind) (item_lines database second x y kind), told, marked (item_lines database first x y kind) (item_lines database second x y kind)))
        | inr same ↦ inl (same-from same, ap (λ (test : Bool). if test then lines else []) same)
      ]

tiles-told : (database : Database) (first second : Configuration) → TellsTiles database first second (all_tile_changes database first second)
unfolding all_tile_changes
tiles-told database first second = record {
  of_place = λ x y. changes_at database first second x y (kind_of first.layout.device x y);
  by_rows = refl;
  places = λ x y. tile-told first second x y database (kind_of first.layout.device x y);
}

-- ---- extra bits

sets-extra : (image : Configuration) (at : Place) → is_set_extra image at ≡ true → SetsExtra image at
sets-extra image at is = and_parts (is_extra image.layout at) (bit_of image (Extra at)) is

alone-from : (first second : Configuration) (at : Place) → Contains (extras_without second first) at → SetsExtra first at × ¬ SetsExtra second at
unfolding extras_without
alone-from first second at is =
    let found = filter-from (λ at. not (is_set_extra second at)) (set_extras first) at is in
    (set_extras-in first at found.0, λ sets. true≢false (sym (and_from (is_extra second.layout at) (bit_of second (Extra at)) sets.0 sets.1) ∙ not-true (is_set_extra second at) found.1))

alone-in : (first second : Configuration) (at : Place) → (SetsExtra first at × ¬ SetsExtra second at) → Contains (extras_without second first) at
unfolding extras_without
alone-in first second at alone =
    elim (cases_Bool (is_set_extra second at)) [
      | inl sets ↦ absurd (alone.1 (sets-extra second at sets))
      | inr lacks ↦ filter-in (λ at. not (is_set_extra second at)) (set_extras first) at (set_extras-at first at alone.0.0 alone.0.1) (not_from_false (is_set_extra second at) lacks)
    ]

nothing-there : (extras : List ExtraLine) (firsts seconds : List Place) → firsts ≡ [] → seconds ≡ [] → extra_changes extras firsts seconds ≡ []
nothing-there extras [] [] none_first none_second = refl
nothing-there extras [] (at ∷ seconds) none_first none_second = absurd cc
nothing-there extras (at ∷ firsts) seconds none_first none_second = absurd cc

some-there : (extras : List ExtraLine) (firsts seconds : List Place) → ¬ ((firsts ≡ []) × (seconds ≡ []))
    → extra_changes extras firsts seconds ≡ codes ".extra_bits" ∷ map minus (map (extra_text extras) firsts) ++ map plus (map (extra_text extras) seconds)
some-there extras [] [] some = absurd (some (refl, refl))
some-there extras [] (at ∷ seconds) some = refl
some-there extras (at ∷ firsts) seconds some = refl

extras-told : (extras : List ExtraLine) (first second : Configuration) → TellsExtras extras first second (extra_changes extras (extras_without second first) (extras_without first second))
extras-told extras first second = record {
  firsts = extras_without second first;
  seconds = extras_without first second;
  none = nothing-there extras (extras_without second first) (extras_without first second);
  some = some-there extras (extras_without second first) (extras_without first second);
  of_first = λ at. (alone-from first second at, alone-in first second at);
  of_second = λ at. (alone-from second first at, alone-in second first at);
}

-- ---- words of RAMs

module _ (first second : Configuration) (x y : ℕ) where
  -- the lines of a word of what is at this place, if it is the lower tile of a RAM
  word_at : Option TileKind → ℕ → List (List ℕ)
  word_at (Some RamB) word = word_changes first second x y word
  word_at kind word = []

  words-at : (kind : Option TileKind) → ram_changes first second x y kind ≡ gathered_below 256 (word_at kind)
  unfolding word_at
  words-at None = sym (gathered_below-none 256 (word_at None) (λ word within. refl))
  words-at (Some Io) = sym (gathered_below-none 256 (word_at (Some Io)) (λ word within. refl))
  words-at (Some Logic) = sym (gathered_below-none 256 (word_at (Some Logic)) (λ word within. refl))
  words-at (Some RamB) = refl
  words-at (Some RamT) = sym (gathered_below-none 256 (word_at (Some RamT)) (λ word within. refl))

  word-told : (kind : Option TileKind) (word : ℕ) → TellsWord first second x y word kind (word_at kind word)
  unfolding word_at
  word-told None word = refl
  word-told (Some Io) word = refl
  word-told (Some Logic) word = refl
  word-told (Some RamT) word = refl
  word-told (Some RamB) word =
      let before = ram_word_of first x y word in
      let after = ram_word_of second x y word in
      let told : Bool → List (List ℕ) = λ same. if same then [] else word_line x y word before after ∷ [] in
      elim (cases_Bool (before == after)) [
        | inl same ↦ inl (eqb-true before after same, ap told same)
        | inr other ↦ inr ((λ same. true≢false (sym (eq-eqb before after same) ∙ other)), ap told other)
      ]

words-told : (first second : Configuration) → TellsWords first second (all_ram_changes first second)
unfolding all_ram_changes
words-told first second =
    let device = first.layout.device in
    record {
      of_word = λ x y. word_at first second x y (kind_of device x y);
      by_rows =
          gathered_below-same (grid_height device) (λ y. gathered_below (grid_width device) (λ x. ram_changes first second x y (kind_of device x y)))
          (λ y. gathered_below (grid_width device) (λ x. gathered_below 256 (word_at first second x y (kind_of device x y)))) (λ y below.
          gathered_below-same (grid_width device) (λ x. ram_changes first second x y (kind_of device x y)) (λ x. gathered_below 256 (word_at first second x y (kind_of device x y))) (λ x within.
          words-at first second x y (kind_of device x y)));
      words = λ x y word. word-told first second x y (kind_of device x y) word;
    }

-- ---- the whole

pub differences-told : (database : Database) (first second : Configuration) → TellsDifferences database first second
unfolding differences changed_lines
differences-told database first second = record {
  settings = setting_changes first.settings second.settings;
  tiles = all_tile_changes database first second;
  extras = extra_changes database.extras (extras_without second first) (extras_without first second);
  words = all_ram_changes first second;
  text = refl;
  of_settings = settings-told first.settings second.settings;
  of_tiles = tiles-told database first second;
  of_extras = extras-told database.extras first second;
  of_words = words-told first second;
}
