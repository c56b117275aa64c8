-- Lists over the tiles of a kind.
use Rattle.std.proofs.Common.{◌≡◌, ℕ, zero, suc, ◌+◌, ◌*◌, ◌<◌, ◌≤◌, Bool, true, false, List, [], ◌∷◌, ◌++◌, append-nil, take, take_all, length, get_or, refl, sym, ap, ◌∙◌, arith}
use Rattle.std.specs.Prelude.{All, Option, Some, None, if◌then◌else◌}
use Rattle.std.specs.List.{flat_map}
use Rattle.index_search.specs.Places.{gathered_below}
use Rattle.std.proofs.lemmas.List.{length-append}
use Rattle.std.proofs.lemmas.List.Elements.{All-nil, All-push}
use Rattle.fabric_model.proofs.OneValue.{each_below-length}
use Rattle.fabric_model.proofs.Firsts.{first_of-append}
use Rattle.index_search.proofs.Gathered.{All-gathered_below, flat_map-gathered_below}
use Rattle.shared_lemmas.proofs.Lists.{append_empty, flat_map-more}
use Rattle.index_search.proofs.Places.{gathered_below-same, gathered_below-more}
use Rattle.plane_map.specs.Layout.{kind_of, grid_width, grid_height}
use Rattle.plane_map.specs.declared.device.DeviceName.{DeviceName}
use Rattle.plane_map.specs.declared.tile.TileKind.{TileKind}
use Rattle.plane_map.specs.declared.tile.TileKind.TheVariants.{Io, Logic, RamB, RamT}
use Rattle.chipdb_lines.specs.Statements.{is_kind_there, is_same_kind}
use Rattle.chipdb_reader.specs.declared.items.TileXy8.{TileXy8}
use Rattle.fabric_model.specs.Tiles.{over_tiles, over_grid, at_kind, each_below, first_of, item_if}
use Rattle.fabric_model.specs.Pins.{PinPlace, pin_places}
use Rattle.fabric_model.specs.TilesOfKind.{tiles_of, tile_if}

-- a kind is the same as itself alone
pub is_same_kind-is : (a b : TileKind) → is_same_kind a b ≡ true → a ≡ b
is_same_kind-is Io Io same = refl
is_same_kind-is Io Logic same = absurd cc
is_same_kind-is Io RamB same = absurd cc
is_same_kind-is Io RamT same = absurd cc
is_same_kind-is Logic Io same = absurd cc
is_same_kind-is Logic Logic same = refl
is_same_kind-is Logic RamB same = absurd cc
is_same_kind-is Logic RamT same = absurd cc
is_same_kind-is RamB Io same = absurd cc
is_same_kind-is RamB Logic same = absurd cc
is_same_kind-is RamB RamB same = refl
is_same_kind-is RamB RamT same = absurd cc
is_same_kind-is RamT Io same = absurd cc
is_same_kind-is RamT Logic same = absurd cc
is_same_kind-is RamT RamB same = absurd cc
is_same_kind-is RamT RamT same = refl

pub is_same_kind-itself : (a b : TileKind) → a ≡ b → is_same_kind a b ≡ true
is_same_kind-itself Io Io same = refl
is_same_kind-itself Io Logic same = absurd cc
is_same_kind-itself Io RamB same = absurd cc
is_same_kind-itself Io RamT same = absurd cc
is_same_kind-itself Logic Io same = absurd cc
is_same_kind-itself Logic Logic same = refl
is_same_kind-itself Logic RamB same = absurd cc
is_same_kind-itself Logic RamT same = absurd cc
is_same_kind-itself RamB Io same = absurd cc
is_same_kind-itself RamB Logic same = absurd cc
is_same_kind-itself RamB RamB same = refl
is_same_kind-itself RamB RamT same = absurd cc
is_same_kind-itself RamT Io same = absurd cc
is_same_kind-itself RamT Logic same = absurd cc
is_same_kind-itself RamT RamB same = absurd cc
is_same_kind-itself RamT RamT same = refl

pub is_kind_there-is : (kind : TileKind) (there : Option TileKind) → is_kind_there kind there ≡ true → there ≡ Some kind
is_kind_there-is kind None there = absurd cc
is_kind_there-is kind (Some other) there = ap (λ k. Some k) (is_same_kind-is other kind there)

pub is_kind_there-here : (kind : TileKind) (there : Option TileKind) → there ≡ Some kind → is_kind_there kind there ≡ true
is_kind_there-here kind None there = absurd cc
is_kind_there-here kind (Some other) there = let same : other ≡ kind = cc in is_same_kind-itself other kind same

-- what one tile gives
tile_given : {A : Type 0} (there : Bool) (tile : TileXy8) (given : TileXy8 → List A)
    → flat_map given (if there then tile ∷ [] else []) ≡ (if there then given tile else [])
tile_given true tile given = append-nil (given tile)
tile_given false tile given = refl

-- what tiles of a kind give is what their list gives
pub over_tiles-listed : {A : Type 0} (device : DeviceName) (kind : TileKind) (given : ℕ → ℕ → List A)
    → over_tiles device kind given ≡ flat_map (λ (tile : TileXy8). given tile.x tile.y) (tiles_of device kind)
unfolding tiles_of over_grid
over_tiles-listed device kind given =
    let each : TileXy8 → List _ = λ tile. given tile.x tile.y in
    sym (flat_map-gathered_below each (grid_height device) (λ y. gathered_below (grid_width device) (λ x. tile_if device kind x y))
    ∙ gathered_below-same (grid_height device) (λ y. flat_map each (gathered_below (grid_width device) (λ x. tile_if device kind x y))) (λ y. gathered_below (grid_width device) (λ x. at_kind device kind given x y))
    (λ y below. flat_map-gathered_below each (grid_width device) (λ x. tile_if device kind x y)
    ∙ gathered_below-same (grid_width device) (λ x. flat_map each (tile_if device kind x y)) (λ x. at_kind device kind given x y)
    (λ x inside. tile_given (is_kind_there kind (kind_of device x y)) (record { x = x; y = y }) each)))

abbrev Stands : DeviceName → TileKind → TileXy8 → Type 0
Stands device kind tile = kind_of device tile.x tile.y ≡ Some kind

stands_if : (device : DeviceName) (kind : TileKind) (x y : ℕ) (there : Bool) → is_kind_there kind (kind_of device x y) ≡ there
    → All (Stands device kind) (if there then (let tile : TileXy8 = record { x = x; y = y } in tile ∷ []) else [])
stands_if device kind x y true is = All-push (Stands device kind) [] (record { x = x; y = y }) (All-nil (Stands device kind)) (is_kind_there-is kind (kind_of device x y) is)
stands_if device kind x y false is = All-nil (Stands device kind)

-- each of the tiles of a kind is of that kind
pub tiles_of-stand : (device : DeviceName) (kind : TileKind) → All (λ (tile : TileXy8). kind_of device tile.x tile.y ≡ Some kind) (tiles_of device kind)
unfolding tiles_of over_grid
tiles_of-stand device kind =
    All-gathered_below (Stands device kind) (grid_height device) (λ y. gathered_below (grid_width device) (λ x. tile_if device kind x y))
    (λ y low. All-gathered_below (Stands device kind) (grid_width device) (λ x. tile_if device kind x y)
    (λ x left. stands_if device kind x y (is_kind_there kind (kind_of device x y)) refl))

-- ---- lists that grow place by place

-- the same of a list that was empty
pub grown_alone-more : {A : Type 0} (now later : List A) (n : ℕ) (given : ℕ → List A) → now ≡ gathered_below n given
    → later ≡ now ++ given n → later ≡ gathered_below (n + 1) given
grown_alone-more now later n given so_far more = more ∙ ap (λ items. items ++ given n) so_far ∙ sym (gathered_below-more n given)

-- ---- lists that grow item by item of another list

pub gathered-none : {A B : Type 0} (given : A → List B) (items : List A) → [] ≡ flat_map given (take 0 items)
gathered-none given items = refl

pub gathered-more : {A B : Type 0} (given : A → List B) (items : List A) (k : ℕ) (d : A) (now later : List B) → k < length items
    → now ≡ flat_map given (take k items) → later ≡ now ++ given (get_or items k d) → later ≡ flat_map given (take (k + 1) items)
gathered-more given items k d now later inside so_far more =
    more ∙ ap (λ before. before ++ given (get_or items k d)) so_far ∙ sym (flat_map-more given items k d inside)

pub gathered-all : {A B : Type 0} (given : A → List B) (items : List A) (k : ℕ) (now : List B) → length items ≤ k
    → now ≡ flat_map given (take k items) → now ≡ flat_map given items
gathered-all given items k now past so_far = so_far ∙ ap (flat_map given) (take_all k items past)

-- ---- the first of such a list

-- what the first item of a list gives that gives something
pub first_of-flat_map : {A B : Type 0} (given : A → List B) (items : List A) (k : ℕ) (d : A) (first : B) → k < length items
    → flat_map given (take k items) ≡ [] → first_of (given (get_or items k d)) ≡ Some first → first_of (flat_map given items) ≡ Some first
first_of-flat_map given [] k d first inside none found = absurd (omega arith)
first_of-flat_map given (head ∷ items) zero d first inside none found = first_of-append (given head) (flat_map given items) first found
first_of-flat_map given (head ∷ items) (suc k) d first inside none found =
    let parts = append_empty (given head) (flat_map given (take k items)) none in
    rw parts.0 (first_of-flat_map given items k d first (omega arith) parts.1 found)

-- ---- lists without items so far

pub none-more : {A : Type 0} (k : ℕ) (given : ℕ → List A) → gathered_below k given ≡ [] → given k ≡ [] → gathered_below (k + 1) given ≡ []
none-more k given none here = gathered_below-more k given ∙ rw (none, here) refl

pub none_listed-more : {A B : Type 0} (given : A → List B) (items : List A) (k : ℕ) (d : A) → k < length items
    → flat_map given (take k items) ≡ [] → given (get_or items k d) ≡ [] → flat_map given (take (k + 1) items) ≡ []
none_listed-more given items k d inside none here = sym (gathered-more given items k d [] [] inside (sym none) (sym here))

pub item_if-item : {A : Type 0} (passes : Bool) (item : A) → passes ≡ true → first_of (item_if passes item) ≡ Some item
item_if-item true item is = refl
item_if-item false item is = absurd cc

pub item_if-none : {A : Type 0} (passes : Bool) (item : A) → passes ≡ false → item_if passes item ≡ []
item_if-none true item is = absurd cc
item_if-none false item is = refl

-- there are two pins for each io tile
two-each : {A B : Type 0} (given : A → List B) → ((item : A) → length (given item) ≡ 2) → (items : List A) → length (flat_map given items) ≡ 2 * length items
two-each given two [] = refl
two-each given two (item ∷ items) =
    let both = length-append (given item) (flat_map given items) in
    let here = two item in
    let rest = two-each given two items in
    omega (arith, both, here, rest)

pub pin_places-count : (device : DeviceName) → length (pin_places device) ≡ 2 * length (tiles_of device Io)
unfolding pin_places
pin_places-count device =
    let given : ℕ → ℕ → List PinPlace = λ x y. each_below 2 (λ n. record { x = x; y = y; n = n }) in
    ap length (over_tiles-listed device Io given)
    ∙ two-each (λ (tile : TileXy8). given tile.x tile.y) (λ tile. each_below-length 2 (λ n. record { x = tile.x; y = tile.y; n = n })) (tiles_of device Io)
