-- What the statements give, with one line more.
use Rattle.std.proofs.Common.{◌≡◌, ℕ, ◌+◌, ◌*◌, ◌<◌, Bool, false, ◌||◌, ◌&&◌, ◌==◌, List, refl, sym, ap, ◌∙◌, inl, inr, arith, replicate}
use Rattle.std.specs.Prelude.{Option, Some, None, is_some}
use Rattle.std.proofs.lemmas.Bool.{cases_eq, eq-eqb, ne_eqb}
use Rattle.std.proofs.lemmas.List.{get_or-replicate}
use Rattle.std.proofs.Math.Bool.{or-false}
use Rattle.index_search.specs.Places.{any_below, first_below, or_else}
use Rattle.index_search.proofs.Places.{or_else-none, any_below-more, first_below-more}
use Rattle.layout_file.specs.declared.layouts.Layouts.{Layouts}
use Rattle.asc_text.specs.declared.statement.Statement.{Statement}
use Rattle.asc_text.specs.declared.statement.Statement.TheVariants.{Comment, Device, WarmBoot, FrequencyRange, NoSleep, Tile, RamData, ExtraBit, Symbol}
use Rattle.asc_text.specs.declared.fault.TileXy.{TileXy}
use Rattle.asc_text.specs.inside.TileSets.{has_tile}
use Rattle.asc_text.specs.Blocks.{statement_at, device_in}
use Rattle.asc_text.specs.Faults.{is_device, is_warm_boot, is_range, is_no_sleep, names_tile, names_ram}
use Rattle.asc_text.specs.Meaning.{warm_boot_in, range_in, no_sleep_in}
use Rattle.asc_text.specs.inside.Reading.{ReaderState, begun, HasInserted}
use Rattle.asc_text.proofs.HasRead.{IsGiven, AreNamed, HasGiven, device_known}

-- ---- steps

-- a value that is given, if none was given before
abbrev pub Gives : {A : Type 0} → Option A → Option A → Option A → Type 0
Gives old None new = new ≡ old
Gives old (Some value) new = (old ≡ None) × (new ≡ Some value)

-- the tile whose rows a statement begins
abbrev pub tile_begun : Option Statement → Option TileXy
tile_begun (Some (Tile kind x y)) = Some (record { x = x; y = y })
tile_begun given = None

-- the RAM whose contents it begins
abbrev pub ram_begun : Option Statement → Option TileXy
ram_begun (Some (RamData x y)) = Some (record { x = x; y = y })
ram_begun given = None

-- a tile that is named
abbrev pub Marks : Option TileXy → List Bool → List Bool → Type 0
Marks None old new = new ≡ old
Marks (Some at) old new = HasInserted at.x at.y old new

-- what a statement gives, or a line that is none
pub record Follows (s : ReaderState) (given : Option Statement) (new : ReaderState) : Type 0 where
  pub warm_boot : Gives s.warm_boot (warm_boot_in given) new.warm_boot
  pub warm_boot_known : is_warm_boot given ≡ is_some (warm_boot_in given)
  pub range : Gives s.range (range_in given) new.range
  pub range_known : is_range given ≡ is_some (range_in given)
  pub no_sleep : Gives s.no_sleep (no_sleep_in given) new.no_sleep
  pub no_sleep_known : is_no_sleep given ≡ is_some (no_sleep_in given)
  pub device : Gives (device_known s.image) (device_in given) (device_known new.image)
  pub device_known : is_device given ≡ is_some (device_in given)
  pub tiles : Marks (tile_begun given) s.tiles new.tiles
  pub rams : Marks (ram_begun given) s.rams new.rams

-- the first value, with one more
first-given : {A : Type 0} (old here new : Option A) → Gives old here new → or_else old here ≡ new
first-given old None new gives = or_else-none old ∙ sym gives
first-given old (Some value) new gives = rw gives.0 (sym gives.1)

-- whether there is one, with one more
some-given : {A : Type 0} (old here new : Option A) → Gives old here new → (is_some old || is_some here) ≡ is_some new
some-given old None new gives = or-false (is_some old) ∙ ap (λ o. is_some o) (sym gives)
some-given old (Some value) new gives = rw (gives.0, gives.1) refl

pub IsGiven-more : (A : Type 0) (lines : List (List ℕ)) (n : ℕ) (setting : Option Statement → Option A) (test : Option Statement → Bool) (old new : Option A) (given : Option Statement)
    → IsGiven A lines n setting test old → statement_at lines n ≡ given → Gives old (setting given) new → test given ≡ is_some (setting given) → IsGiven A lines (n + 1) setting test new
IsGiven-more A lines n setting test old new given is here gives known = record {
  first = first_below-more n (λ k. setting (statement_at lines k))
      ∙ ap (λ v. or_else v (setting (statement_at lines n))) is.first
      ∙ ap (λ g. or_else old (setting g)) here
      ∙ first-given old (setting given) new gives;
  given = any_below-more n (λ k. test (statement_at lines k))
      ∙ ap (λ b. b || test (statement_at lines n)) is.given
      ∙ ap (λ g. is_some old || test g) here
      ∙ ap (λ b. is_some old || b) known
      ∙ some-given old (setting given) new gives;
}

-- whether a tile is the one that is begun
abbrev is_begun : Option TileXy → ℕ → ℕ → Bool
is_begun None v w = false
is_begun (Some at) v w = (v == at.x) && (w == at.y)

eqb_turned : (a b : ℕ) → (a == b) ≡ (b == a)
eqb_turned a b =
    elim (cases_eq a b) [
      | inl same ↦ eq-eqb a b same ∙ sym (eq-eqb b a (sym same))
      | inr other ↦ ne_eqb a b other ∙ sym (ne_eqb b a (λ e. other (sym e)))
    ]

names_tile-begun : (given : Option Statement) (v w : ℕ) → names_tile v w given ≡ is_begun (tile_begun given) v w
names_tile-begun (Some (Tile kind x y)) v w = rw (eqb_turned x v, eqb_turned y w) refl
names_tile-begun (Some Comment) v w = refl
names_tile-begun (Some (Device device)) v w = refl
names_tile-begun (Some (WarmBoot setting)) v w = refl
names_tile-begun (Some (FrequencyRange setting)) v w = refl
names_tile-begun (Some (NoSleep setting)) v w = refl
names_tile-begun (Some (RamData x y)) v w = refl
names_tile-begun (Some (ExtraBit bank x y)) v w = refl
names_tile-begun (Some (Symbol net)) v w = refl
names_tile-begun None v w = refl

names_ram-begun : (given : Option Statement) (v w : ℕ) → names_ram v w given ≡ is_begun (ram_begun given) v w
names_ram-begun (Some (RamData x y)) v w = rw (eqb_turned x v, eqb_turned y w) refl
names_ram-begun (Some Comment) v w = refl
names_ram-begun (Some (Device device)) v w = refl
names_ram-begun (Some (WarmBoot setting)) v w = refl
names_ram-begun (Some (FrequencyRange setting)) v w = refl
names_ram-begun (Some (NoSleep setting)) v w = refl
names_ram-begun (Some (Tile kind x y)) v w = refl
names_ram-begun (Some (ExtraBit bank x y)) v w = refl
names_ram-begun (Some (Symbol net)) v w = refl
names_ram-begun None v w = refl

-- the tiles, with one more
marked : (begun : Option TileXy) (old new : List Bool) → Marks begun old new → (v w : ℕ) → v < 34 → w < 34 → has_tile new v w ≡ (has_tile old v w || is_begun begun v w)
marked None old new marks v w column row = ap (λ flags. has_tile flags v w) marks ∙ sym (or-false (has_tile old v w))
marked (Some at) old new marks v w column row = marks v w column row

AreNamed-more : (lines : List (List ℕ)) (n : ℕ) (names : ℕ → ℕ → Option Statement → Bool) (begun : Option Statement → Option TileXy) (given : Option Statement) (old new : List Bool)
    → ((v w : ℕ) → names v w given ≡ is_begun (begun given) v w) → AreNamed lines n names old → statement_at lines n ≡ given → Marks (begun given) old new → AreNamed lines (n + 1) names new
AreNamed-more lines n names begun given old new same are here marks = λ v w column row.
    marked (begun given) old new marks v w column row
    ∙ ap (λ b. b || is_begun (begun given) v w) (are v w column row)
    ∙ ap (λ b. any_below n (λ k. names v w (statement_at lines k)) || b) (sym (ap (names v w) here ∙ same v w))
    ∙ sym (any_below-more n (λ k. names v w (statement_at lines k)))

-- all that statements give, with one line more
pub HasGiven-more : (lines : List (List ℕ)) (n : ℕ) (s new : ReaderState) (given : Option Statement) → HasGiven lines n s → statement_at lines n ≡ given → Follows s given new → HasGiven lines (n + 1) new
HasGiven-more lines n s new given has here follows = record {
  warm_boot = IsGiven-more _ lines n warm_boot_in is_warm_boot s.warm_boot new.warm_boot given has.warm_boot here follows.warm_boot follows.warm_boot_known;
  range = IsGiven-more _ lines n range_in is_range s.range new.range given has.range here follows.range follows.range_known;
  no_sleep = IsGiven-more _ lines n no_sleep_in is_no_sleep s.no_sleep new.no_sleep given has.no_sleep here follows.no_sleep follows.no_sleep_known;
  device = IsGiven-more _ lines n device_in is_device (device_known s.image) (device_known new.image) given has.device here follows.device follows.device_known;
  tiles = AreNamed-more lines n names_tile tile_begun given s.tiles new.tiles (names_tile-begun given) has.tiles here follows.tiles;
  rams = AreNamed-more lines n names_ram ram_begun given s.rams new.rams (names_ram-begun given) has.rams here follows.rams;
}

-- ---- the beginning

IsGiven-none : (A : Type 0) (lines : List (List ℕ)) (setting : Option Statement → Option A) (test : Option Statement → Bool) → IsGiven A lines 0 setting test None
unfolding first_below any_below
IsGiven-none A lines setting test = record { first = refl; given = refl }

no_tile : (v w : ℕ) → v < 34 → w < 34 → has_tile (replicate 1156 false) v w ≡ false
no_tile v w column row = get_or-replicate 1156 (34 * w + v) false false (omega arith)

AreNamed-none : (lines : List (List ℕ)) (names : ℕ → ℕ → Option Statement → Bool) → AreNamed lines 0 names (replicate 1156 false)
unfolding any_below
AreNamed-none lines names = λ v w column row. no_tile v w column row

-- nothing was read
pub HasGiven-none : (layouts : Layouts) (lines : List (List ℕ)) → HasGiven lines 0 (begun layouts)
HasGiven-none layouts lines = record {
  warm_boot = IsGiven-none _ lines warm_boot_in is_warm_boot;
  range = IsGiven-none _ lines range_in is_range;
  no_sleep = IsGiven-none _ lines no_sleep_in is_no_sleep;
  device = IsGiven-none _ lines device_in is_device;
  tiles = AreNamed-none lines names_tile;
  rams = AreNamed-none lines names_ram;
}
