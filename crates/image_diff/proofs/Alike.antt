-- Two images of which nothing is told.
use Rattle.std.proofs.Common.{◌≡◌, ℕ, zero, suc, ◌<◌, Bool, true, false, not, List, [], ◌∷◌, ◌++◌, length, filter, Contains, refl, sym, ap, ◌∙◌, subst, inl, inr, arith, Some, None}
use Rattle.std.specs.Prelude.{if◌then◌else◌, Option}
use Rattle.std.proofs.lemmas.Bool.{cases_Bool, cases_eq, eqb-true, eq-eqb, not-true, not_from_false, and_from, and_parts, true≢false}
use Rattle.index_search.specs.Places.{any_below, gathered_below}
use Rattle.index_search.proofs.Places.{any_below-none, gathered_below-none}
use Rattle.text_lines.specs.Written.{text_of}
use Rattle.plane_map.specs.Layout.{Layout, kind_of, columns_of, columns_in, columns_at, grid_width, grid_height, IsTileBit, IsWordBit}
use Rattle.plane_map.specs.declared.tile.Place.{Place}
use Rattle.plane_map.specs.declared.tile.TileBit.{TileBit}
use Rattle.plane_map.specs.declared.tile.WordBit.{WordBit}
use Rattle.plane_map.specs.declared.tile.TileKind.{TileKind}
use Rattle.plane_map.specs.declared.tile.TileKind.TheVariants.{Io, Logic, RamB, RamT}
use Rattle.plane_map.proofs.Grids.{kind_of-inside}
use Rattle.ice_image.specs.Bits.{OfTile, OfWord, Extra, IsBit, bit_of, ram_word_of, set_extras, tile_bit_of, word_bit_of}
use Rattle.ice_image.specs.Configuration.{Configuration}
use Rattle.ice_image.specs.Owned.{is_extra}
use Rattle.ice_image.specs.declared.settings.Range.{Range}
use Rattle.ice_image.specs.declared.settings.Range.TheVariants.{Low, Medium, High}
use Rattle.ice_image.specs.declared.settings.Settings.{Settings}
use Rattle.ice_image.proofs.SetExtras.{set_extras-at, set_extras-in}
use Rattle.asc_text.specs.Canonical.{no_sleep_lines, range_lines, warm_boot_lines}
use Rattle.chipdb_lines.specs.Items.{ExtraLine}
use Rattle.chipdb_reader.specs.Database.{Database}
use Rattle.image_diff.specs.Differences.{all_ram_changes, all_tile_changes, changed_lines, changes_at, differ, differences, extra_changes, extras_without, is_other_tile, is_set_extra, line_changes, lines_without, ram_changes, setting_changes, word_changes}
use Rattle.image_diff.specs.Laws.{AreAlike, TellsNothingOfAlike}
use Rattle.image_diff.proofs.Members.{filter-from, filter-in, head-in, none-in}
use Rattle.image_diff.proofs.OtherTiles.{no-tiles}
use Rattle.image_diff.proofs.OtherBits.{bit-same, differ-same, none-below, same-differ, word-same}

-- ---- lists with no items

some-item : {A : Type 0} (item : A) (items : List A) → item ∷ items ≡ [] → ⊥
some-item item items none = omega (arith, ap length none)

both-none : {A : Type 0} (items more : List A) → items ++ more ≡ [] → (items ≡ []) × (more ≡ [])
both-none [] more none = (refl, none)
both-none (item ∷ items) more none = absurd (some-item item (items ++ more) none)

no-items : {A : Type 0} (items : List A) → ((item : A) → Contains items item → ⊥) → items ≡ []
no-items [] none = refl
no-items (item ∷ items) none = absurd (none item (head-in item items))

given-none : {A : Type 0} (n : ℕ) (given : ℕ → List A) → gathered_below n given ≡ [] → (k : ℕ) → k < n → given k ≡ []
unfolding gathered_below
given-none zero given none k within = absurd (omega arith)
given-none (suc n) given none k within =
    let parts = both-none (gathered_below n given) (given n) none in
    elim (cases_eq k n) [
      | inl last ↦ ap given last ∙ parts.1
      | inr before ↦ given-none n given parts.0 k (omega arith)
    ]

text-none : (lines : List (List ℕ)) → text_of lines ≡ [] → lines ≡ []
unfolding text_of
text-none [] none = refl
text-none (line ∷ lines) none =
    let parts = both-none (line ++ 10 ∷ []) (text_of lines) none in
    absurd (some-item 10 [] (both-none line (10 ∷ []) parts.0).1)

none-text : (lines : List (List ℕ)) → lines ≡ [] → text_of lines ≡ []
unfolding text_of
none-text lines none = ap text_of none

-- ---- settings

warm_boot-same : (first second : Bool) → line_changes (warm_boot_lines first) (warm_boot_lines second) ≡ [] → first ≡ second
unfolding line_changes lines_without
warm_boot-same true true none = refl
warm_boot-same true false none = absurd (some-item _ _ none)
warm_boot-same false true none = absurd (some-item _ _ none)
warm_boot-same false false none = refl

range-same : (first second : Range) → line_changes (range_lines first) (range_lines second) ≡ [] → first ≡ second
unfolding line_changes lines_without
range-same Low Low none = refl
range-same Low Medium none = absurd (some-item _ _ none)
range-same Low High none = absurd (some-item _ _ none)
range-same Medium Low none = absurd (some-item _ _ none)
range-same Medium Medium none = refl
range-same Medium High none = absurd (some-item _ _ none)
range-same High Low none = absurd (some-item _ _ none)
range-same High Medium none = absurd (some-item _ _ none)
range-same High High none = refl

no_sleep-same : (first second : Bool) → line_changes (no_sleep_lines first) (no_sleep_lines second) ≡ [] → first ≡ second
unfolding line_changes lines_without
no_sleep-same true true none = refl
no_sleep-same true false none = absurd (some-item _ _ none)
no_sleep-same false true none = absurd (some-item _ _ none)
no_sleep-same false false none = refl

settings-same : (first second : Settings) → setting_changes first second ≡ [] → first ≡ second
unfolding setting_changes
settings-same first second none =
    let warm_boots = line_changes (warm_boot_lines first.warm_boot) (warm_boot_lines second.warm_boot) in
    let ranges = line_changes (range_lines first.range) (range_lines second.range) in
    let one = both-none (warm_boots ++ ranges) (line_changes (no_sleep_lines first.no_sleep) (no_sleep_lines second.no_sleep)) none in
    let two = both-none warm_boots ranges one.0 in
    let warm_boot = warm_boot-same first.warm_boot second.warm_boot two.0 in
    let range = range-same first.range second.range two.1 in
    let no_sleep = no_sleep-same first.no_sleep second.no_sleep one.1 in
    let made : Range → Bool → Bool → Settings = λ range warm_boot no_sleep. record { range = range; warm_boot = warm_boot; no_sleep = no_sleep } in
    ap (λ range. made range first.warm_boot first.no_sleep) range ∙ ap (λ warm_boot. made second.range warm_boot first.no_sleep) warm_boot ∙ ap (λ no_sleep. made second.range second.warm_boot no_sleep) no_sleep

no-warm_boot : (warm_boot : Bool) → line_changes (warm_boot_lines warm_boot) (warm_boot_lines warm_boot) ≡ []
unfolding line_changes lines_without
no-warm_boot true = refl
no-warm_boot false = refl

no-range : (range : Range) → line_changes (range_lines range) (range_lines range) ≡ []
unfolding line_changes lines_without
no-range Low = refl
no-range Medium = refl
no-range High = refl

no-no_sleep : (no_sleep : Bool) → line_changes (no_sleep_lines no_sleep) (no_sleep_lines no_sleep) ≡ []
unfolding line_changes lines_without
no-no_sleep true = refl
no-no_sleep false = refl

no-settings : (settings : Settings) → setting_changes settings settings ≡ []
unfolding setting_changes
no-settings settings = rw (no-warm_boot settings.warm_boot, no-range settings.range, no-no_sleep settings.no_sleep) refl

-- ---- bits

-- the columns of a tile that has some
some-kind : (kind : Option TileKind) (col : ℕ) → col < columns_in kind → (there : TileKind) × (kind ≡ Some there) × (col < columns_of there)
some-kind None col within = absurd (omega arith)
some-kind (Some there) col within = (there, refl, within)

if-none : {A : Type 0} (test : Bool) (item : A) (items : List A) → (if test then item ∷ items else []) ≡ [] → test ≡ false
if-none true item items none = absurd (some-item item items none)
if-none false item items none = refl

unless-none : {A : Type 0} (test : Bool) (item : A) → (if test then [] else item ∷ []) ≡ [] → test ≡ true
unless-none true item none = refl
unless-none false item none = absurd (some-item item [] none)

module _ (database : Database) (first second : Configuration) where
  tile_bits-same : all_tile_changes database first second ≡ [] → (bit : TileBit) → IsTileBit first.layout.device bit → bit_of first (OfTile bit) ≡ bit_of second (OfTile bit)
  unfolding all_tile_changes is_other_tile
  tile_bits-same none bit there =
      let device = first.layout.device in
      let x = bit.x in
      let y = bit.y in
      let found = some-kind (kind_of device x y) bit.col there.col_in in
      let inside = kind_of-inside device x y found.0 found.1 in
      let row = given-none (grid_height device) (λ y. gathered_below (grid_width device) (λ x. changes_at database first second x y (kind_of device x y))) none y inside.1 in
      let here = given-none (grid_width device) (λ x. changes_at database first second x y (kind_of device x y)) row x inside.0 in
      let told = subst (λ (kind : Option TileKind). changes_at database first second x y kind ≡ []) found.1 here in
      let same = if-none (is_other_tile first second x y) _ _ told in
      let same_row = none-below 16 (λ row. any_below (columns_at device x y) (λ col. differ (tile_bit_of first x y row col) (tile_bit_of second x y row col))) same bit.row there.row_in in
      same-differ (bit_of first (OfTile bit)) (bit_of second (OfTile bit))
      (none-below (columns_at device x y) (λ col. differ (tile_bit_of first x y bit.row col) (tile_bit_of second x y bit.row col)) same_row bit.col there.col_in)

  word_bits-same : all_ram_changes first second ≡ [] → (bit : WordBit) → IsWordBit first.layout.device bit → bit_of first (OfWord bit) ≡ bit_of second (OfWord bit)
  unfolding all_ram_changes
  word_bits-same none bit there =
      let device = first.layout.device in
      let x = bit.x in
      let y = bit.y in
      let inside = kind_of-inside device x y RamB there.lower in
      let row = given-none (grid_height device) (λ y. gathered_below (grid_width device) (λ x. ram_changes first second x y (kind_of device x y))) none y inside.1 in
      let here = given-none (grid_width device) (λ x. ram_changes first second x y (kind_of device x y)) row x inside.0 in
      let told = subst (λ (kind : Option TileKind). ram_changes first second x y kind ≡ []) there.lower here in
      let word = given-none 256 (word_changes first second x y) told bit.word there.word_in in
      let same = eqb-true (ram_word_of first x y bit.word) (ram_word_of second x y bit.word) (unless-none _ _ word) in
      bit-same 16 (word_bit_of first x y bit.word) (word_bit_of second x y bit.word) same bit.bit there.bit_in

  same-tile : AreAlike first second → (x y : ℕ) → is_other_tile first second x y ≡ false
  unfolding is_other_tile
  same-tile alike x y =
      any_below-none 16 (λ row. any_below (columns_at first.layout.device x y) (λ col. differ (tile_bit_of first x y row col) (tile_bit_of second x y row col))) (λ row row_in.
      any_below-none (columns_at first.layout.device x y) (λ col. differ (tile_bit_of first x y row col) (tile_bit_of second x y row col)) (λ col col_in.
      let bit : TileBit = record { x = x; y = y; row = row; col = col } in
      differ-same (bit_of first (OfTile bit)) (bit_of second (OfTile bit)) (alike.bits (OfTile bit) (record { row_in = row_in; col_in = col_in }))))

  no-tile : AreAlike first second → all_tile_changes database first second ≡ []
  no-tile alike = no-tiles database first second (λ x y below within. same-tile alike x y)

  same-word : AreAlike first second → (x y word : ℕ) → kind_of first.layout.device x y ≡ Some RamB → word < 256 → ram_word_of first x y word ≡ ram_word_of second x y word
  same-word alike x y word there within =
      word-same 16 (word_bit_of first x y word) (word_bit_of second x y word) (λ bit bit_in.
      alike.bits (OfWord (record { x = x; y = y; word = word; bit = bit })) (record { lower = there; word_in = within; bit_in = bit_in }))

  no-word : AreAlike first second → (x y word : ℕ) → kind_of first.layout.device x y ≡ Some RamB → word < 256 → word_changes first second x y word ≡ []
  no-word alike x y word there within =
      rw (eq-eqb (ram_word_of first x y word) (ram_word_of second x y word) (same-word alike x y word there within)) refl

  no-ram : AreAlike first second → (x y : ℕ) (kind : Option TileKind) → kind_of first.layout.device x y ≡ kind → ram_changes first second x y kind ≡ []
  no-ram alike x y None there = refl
  no-ram alike x y (Some Io) there = refl
  no-ram alike x y (Some Logic) there = refl
  no-ram alike x y (Some RamB) there = gathered_below-none 256 (word_changes first second x y) (λ word within. no-word alike x y word there within)
  no-ram alike x y (Some RamT) there = refl

  no-rams : AreAlike first second → all_ram_changes first second ≡ []
  unfolding all_ram_changes
  no-rams alike =
      let device = first.layout.device in
      gathered_below-none (grid_height device) (λ y. gathered_below (grid_width device) (λ x. ram_changes first second x y (kind_of device x y))) (λ y _.
      gathered_below-none (grid_width device) (λ x. ram_changes first second x y (kind_of device x y)) (λ x _. no-ram alike x y (kind_of device x y) refl))

-- ---- extra bits

module _ (first second : Configuration) where
  -- a set extra bit of one is a set extra bit of the other, if none is told
  extra-kept : extras_without second first ≡ [] → (at : Place) → is_extra first.layout at ≡ true → bit_of first (Extra at) ≡ true → is_set_extra second at ≡ true
  unfolding extras_without
  extra-kept none at extra is_set =
      elim (cases_Bool (is_set_extra second at)) [
        | inl kept ↦ kept
        | inr lost ↦ absurd (none-in at (subst (λ (places : List Place). Contains places at) none
            (filter-in (λ at. not (is_set_extra second at)) (set_extras first) at (set_extras-at first at extra is_set) (not_from_false (is_set_extra second at) lost))))
      ]

  extra-there : extras_without second first ≡ [] → (at : Place) → is_extra first.layout at ≡ true → bit_of first (Extra at) ≡ true → bit_of second (Extra at) ≡ true
  extra-there none at extra is_set =
      (and_parts (is_extra second.layout at) (bit_of second (Extra at)) (extra-kept none at extra is_set)).1

  no-extra : first.layout ≡ second.layout → AreAlike first second → extras_without second first ≡ []
  unfolding extras_without
  no-extra same alike =
      no-items (filter (λ at. not (is_set_extra second at)) (set_extras first)) (λ at is.
      let found = filter-from (λ at. not (is_set_extra second at)) (set_extras first) at is in
      let set = set_extras-in first at found.0 in
      let kept = and_from (is_extra second.layout at) (bit_of second (Extra at)) (ap (λ (layout : Layout). is_extra layout at) (sym same) ∙ set.0) (sym (alike.bits (Extra at) set.0) ∙ set.1) in
      true≢false (sym kept ∙ not-true (is_set_extra second at) found.1))

bits-both : (first second : Bool) → (first ≡ true → second ≡ true) → (second ≡ true → first ≡ true) → first ≡ second
bits-both true true there back = refl
bits-both true false there back = sym (there refl)
bits-both false true there back = back refl
bits-both false false there back = refl

extra_bits-same : (first second : Configuration) → first.layout ≡ second.layout → extras_without second first ≡ [] → extras_without first second ≡ [] → (at : Place) → is_extra first.layout at ≡ true → bit_of first (Extra at) ≡ bit_of second (Extra at)
extra_bits-same first second same none_first none_second at extra =
    bits-both (bit_of first (Extra at)) (bit_of second (Extra at)) (extra-there first second none_first at extra) (extra-there second first none_second at (ap (λ (layout : Layout). is_extra layout at) (sym same) ∙ extra))

no-places : (extras : List ExtraLine) (first second : List Place) → extra_changes extras first second ≡ [] → (first ≡ []) × (second ≡ [])
no-places extras [] [] none = (refl, refl)
no-places extras [] (at ∷ second) none = absurd (some-item _ _ none)
no-places extras (at ∷ first) second none = absurd (some-item _ _ none)

-- ---- the whole

same-alike : (first second : Configuration) → first.layout ≡ second.layout → AreAlike first second → AreAlike second first
same-alike first second same alike = record {
  settings = sym alike.settings;
  bits = λ bit there. sym (alike.bits bit (subst (λ (layout : Layout). IsBit layout bit) (sym same) there));
}

module _ (database : Database) (first second : Configuration) (same : first.layout ≡ second.layout) where
  alike-from : changed_lines database first second ≡ [] → AreAlike first second
  unfolding changed_lines
  alike-from none =
      let tiles = all_tile_changes database first second in
      let extras = extra_changes database.extras (extras_without second first) (extras_without first second) in
      let settings = setting_changes first.settings second.settings in
      let one = both-none (settings ++ tiles ++ extras) (all_ram_changes first second) none in
      let two = both-none (settings ++ tiles) extras one.0 in
      let three = both-none settings tiles two.0 in
      let places = no-places database.extras (extras_without second first) (extras_without first second) two.1 in record {
        settings = settings-same first.settings second.settings three.0;
        bits = λ bit there. elim bit as (λ bit. IsBit first.layout bit → bit_of first bit ≡ bit_of second bit) [
          | OfTile bit ↦ tile_bits-same database first second three.1 bit
          | OfWord bit ↦ word_bits-same database first second one.1 bit
          | Extra at ↦ extra_bits-same first second same places.0 places.1 at
        ] there;
      }

  none-from : AreAlike first second → changed_lines database first second ≡ []
  unfolding changed_lines
  none-from alike =
      let settings : setting_changes first.settings second.settings ≡ [] = ap (λ (settings : Settings). setting_changes first.settings settings) (sym alike.settings) ∙ no-settings first.settings in
      let one = no-extra first second same alike in
      let two = no-extra second first (sym same) (same-alike first second same alike) in
      rw (settings, no-tile database first second alike, one, two, no-rams database first second alike) refl

pub nothing-told : (database : Database) (first second : Configuration) → TellsNothingOfAlike database first second
unfolding differences
nothing-told database first second same = (
  (λ none. alike-from database first second same (text-none (changed_lines database first second) none)),
  (λ alike. none-text (changed_lines database first second) (none-from database first second same alike)),
)
