-- Lines that say something name tiles, bits and nets that the device has.
use Rattle.std.proofs.Common.{◌≡◌, ℕ, ◌<◌, ◌≤◌, Bool, true, false, not, ◌&&◌, cond, ltb, leb, List, [], ◌∷◌, length, map, refl, sym, ap, true≢false}
use Rattle.std.specs.Prelude.{◌==◌, Option, Some, None, Result, Ok, Err, All}
use Rattle.std.specs.List.{list_all}
use Rattle.std.proofs.lemmas.Bool.{and_parts, ltb-true, ltb-false, leb-true, eqb-true, not-false}
use Rattle.std.proofs.lemmas.List.Elements.{All-nil, All-cons}
use Rattle.plane_map.specs.Layout.{kind_of, columns_of, grid_width, grid_height, cram_width, cram_height}
use Rattle.plane_map.specs.declared.tile.TileKind.{TileKind}
use Rattle.plane_map.specs.declared.tile.TileKind.TheVariants.{Io, Logic, RamB, RamT}
use Rattle.plane_map.specs.declared.tile.RowCol.{RowCol}
use Rattle.text_lines.specs.Words.{numbers_of, number_of}
use Rattle.chipdb_lines.specs.declared.cause.DbCause.{DbCause}
use Rattle.chipdb_lines.specs.declared.chip.Chip.{Chip}
use Rattle.chipdb_lines.specs.declared.cause.DbCause.TheVariants.{ValueLength}
use Rattle.chipdb_lines.specs.Words.{bits_of, is_values}
use Rattle.chipdb_lines.specs.Statements.{LinkHead, checked_bits, is_in_columns, is_kind_there, is_same_kind, link_at, link_head, link_of_numbers, link_of_words, net_of_numbers, tile_bits_of}
use Rattle.chipdb_lines.specs.Items.{NameLine, LinkChoice, choice_by, choice_of, extra_of, extra_of_numbers, function_of, function_with, global_input_of, global_input_of_numbers, global_pin_of, global_pin_of_numbers, is_cell, is_in_planes, name_of, name_of_numbers}
use Rattle.chipdb_reader.specs.Fit.{IsBitIn, IsExtraLine, IsFunctionLine, IsGlobalInput, IsGlobalPin}

-- what holds of an answer that is one
abbrev pub OkAll : {A : Type 0} → (A → Type 0) → Result A DbCause → Type 0
OkAll P (Ok x) = P x
OkAll P (Err cause) = Unit {0}

-- of two answers the one that a test chooses
pub ok-cond : {A : Type 0} (P : A → Type 0) (b : Bool) (r s : Result A DbCause) → (b ≡ true → OkAll P r) → (b ≡ false → OkAll P s) → OkAll P (cond b r s)
ok-cond P true r s yes_ no_ = yes_ refl
ok-cond P false r s yes_ no_ = no_ refl

-- ---- bits

all-bits : (columns : ℕ) (bits : List RowCol) → list_all (is_in_columns columns) bits ≡ true → All (IsBitIn columns) bits
all-bits columns [] all = All-nil (IsBitIn columns)
all-bits columns (bit ∷ bits) all =
    let parts = and_parts (is_in_columns columns bit) (list_all (is_in_columns columns) bits) all in
    let both = and_parts (ltb bit.row 16) (ltb bit.col columns) parts.0 in
    All-cons (IsBitIn columns) bit bits (record { row_in = ltb-true bit.row 16 both.0; col_in = ltb-true bit.col columns both.1 }) (all-bits columns bits parts.1)

-- at most 64 bits of a tile
pub record AreBits (columns : ℕ) (bits : List RowCol) : Type 0 where
  pub bits_in : All (IsBitIn columns) bits
  pub few : length bits ≤ 64

checked-fit : (columns : ℕ) (bits : Option (List RowCol)) → OkAll (AreBits columns) (checked_bits columns bits)
checked-fit columns None = tt
checked-fit columns (Some bits) =
    ok-cond (AreBits columns) (not (list_all (is_in_columns columns) bits)) _ _ (λ out. tt)
    (λ inside. ok-cond (AreBits columns) (ltb 64 (length bits)) _ _ (λ many. tt)
    (λ few. record { bits_in = all-bits columns bits (not-false _ inside); few = ltb-false 64 (length bits) few }))

pub bits-fit : (columns : ℕ) (words : List (List ℕ)) → OkAll (AreBits columns) (tile_bits_of columns words)
unfolding tile_bits_of
bits-fit columns words = checked-fit columns (bits_of words)

-- ---- statements

-- a statement of links
pub record IsHead (chip : Chip) (head : LinkHead) : Type 0 where
  pub kind : TileKind
  pub tile : kind_of chip.device head.x head.y ≡ Some kind
  pub dst_in : head.dst < chip.nets
  pub bits_in : All (IsBitIn (columns_of kind)) head.bits
  pub few : length head.bits ≤ 64

head-fit : (chip : Chip) (x y dst : ℕ) (kind : TileKind) (bits : Result (List RowCol) DbCause) → kind_of chip.device x y ≡ Some kind → dst < chip.nets → OkAll (AreBits (columns_of kind)) bits → OkAll (IsHead chip) (link_head x y dst bits)
head-fit chip x y dst kind (Ok bits) tile lt are = record { kind = kind; tile = tile; dst_in = lt; bits_in = are.bits_in; few = are.few }
head-fit chip x y dst kind (Err cause) tile lt are = tt

at-fit : (chip : Chip) (x y dst : ℕ) (kind : Option TileKind) (words : List (List ℕ)) → kind_of chip.device x y ≡ kind → OkAll (IsHead chip) (link_at chip.nets x y dst kind words)
at-fit chip x y dst None words tile = tt
at-fit chip x y dst (Some kind) words tile =
    ok-cond (IsHead chip) (ltb dst chip.nets) _ _
    (λ lt. head-fit chip x y dst kind (tile_bits_of (columns_of kind) words) tile (ltb-true dst chip.nets lt) (bits-fit (columns_of kind) words)) (λ past. tt)

numbers-fit : (chip : Chip) (numbers : Option (List ℕ)) (words : List (List ℕ)) → OkAll (IsHead chip) (link_of_numbers chip numbers words)
numbers-fit chip None words = tt
numbers-fit chip (Some []) words = tt
numbers-fit chip (Some (x ∷ [])) words = tt
numbers-fit chip (Some (x ∷ y ∷ [])) words = tt
numbers-fit chip (Some (x ∷ y ∷ dst ∷ [])) words = at-fit chip x y dst (kind_of chip.device x y) words refl
numbers-fit chip (Some (x ∷ y ∷ dst ∷ more ∷ numbers)) words = tt

pub link-fit : (chip : Chip) (words : List (List ℕ)) → OkAll (IsHead chip) (link_of_words chip words)
unfolding link_of_words
link-fit chip [] = tt
link-fit chip (x ∷ []) = tt
link-fit chip (x ∷ y ∷ []) = tt
link-fit chip (x ∷ y ∷ dst ∷ []) = tt
link-fit chip (x ∷ y ∷ dst ∷ bit ∷ bits) = numbers-fit chip (numbers_of (x ∷ y ∷ dst ∷ [])) (bit ∷ bits)

pub net-fit : (nets : ℕ) (numbers : Option (List ℕ)) → OkAll (λ net. net < nets) (net_of_numbers nets numbers)
net-fit nets None = tt
net-fit nets (Some []) = tt
net-fit nets (Some (net ∷ [])) = ok-cond (λ n. n < nets) (ltb net nets) _ _ (λ lt. ltb-true net nets lt) (λ past. tt)
net-fit nets (Some (net ∷ more ∷ numbers)) = tt

-- ---- lines below statements

same-kind : (there kind : TileKind) → is_same_kind there kind ≡ true → there ≡ kind
same-kind Io Io is = refl
same-kind Logic Logic is = refl
same-kind RamB RamB is = refl
same-kind RamT RamT is = refl
same-kind Io Logic is = absurd (true≢false (sym is))
same-kind Io RamB is = absurd (true≢false (sym is))
same-kind Io RamT is = absurd (true≢false (sym is))
same-kind Logic Io is = absurd (true≢false (sym is))
same-kind Logic RamB is = absurd (true≢false (sym is))
same-kind Logic RamT is = absurd (true≢false (sym is))
same-kind RamB Io is = absurd (true≢false (sym is))
same-kind RamB Logic is = absurd (true≢false (sym is))
same-kind RamB RamT is = absurd (true≢false (sym is))
same-kind RamT Io is = absurd (true≢false (sym is))
same-kind RamT Logic is = absurd (true≢false (sym is))
same-kind RamT RamB is = absurd (true≢false (sym is))

kind-there : (kind : TileKind) (there : Option TileKind) → is_kind_there kind there ≡ true → there ≡ Some kind
kind-there kind None is = absurd (true≢false (sym is))
kind-there kind (Some there) is = ap (λ k. Some k) (same-kind there kind is)

input-numbers : (chip : Chip) (numbers : Option (List ℕ)) → OkAll (IsGlobalInput chip) (global_input_of_numbers chip.device numbers)
input-numbers chip None = tt
input-numbers chip (Some []) = tt
input-numbers chip (Some (x ∷ [])) = tt
input-numbers chip (Some (x ∷ y ∷ [])) = tt
input-numbers chip (Some (x ∷ y ∷ global ∷ [])) =
    ok-cond (IsGlobalInput chip) (not (leb global 7)) _ _ (λ past. tt)
    (λ inside. ok-cond (IsGlobalInput chip) (not (is_kind_there Io (kind_of chip.device x y))) _ _ (λ other. tt)
    (λ there. record { tile = kind-there Io (kind_of chip.device x y) (not-false _ there); global_in = leb-true global 7 (not-false _ inside) }))
input-numbers chip (Some (x ∷ y ∷ global ∷ more ∷ numbers)) = tt

pub input-fit : (chip : Chip) (words : List (List ℕ)) → OkAll (IsGlobalInput chip) (global_input_of chip.device words)
unfolding global_input_of
input-fit chip words = input-numbers chip (numbers_of words)

pin-numbers : (chip : Chip) (numbers : Option (List ℕ)) → OkAll (IsGlobalPin chip) (global_pin_of_numbers chip.device numbers)
pin-numbers chip None = tt
pin-numbers chip (Some []) = tt
pin-numbers chip (Some (x ∷ [])) = tt
pin-numbers chip (Some (x ∷ y ∷ [])) = tt
pin-numbers chip (Some (x ∷ y ∷ pad ∷ [])) = tt
pin-numbers chip (Some (x ∷ y ∷ pad ∷ global ∷ [])) =
    ok-cond (IsGlobalPin chip) (not (leb pad 1 && leb global 7)) _ _ (λ past. tt)
    (λ inside. ok-cond (IsGlobalPin chip) (not (is_kind_there Io (kind_of chip.device x y))) _ _ (λ other. tt)
    (λ there.
    let both = and_parts (leb pad 1) (leb global 7) (not-false _ inside) in
    record { tile = kind-there Io (kind_of chip.device x y) (not-false _ there); pad_in = leb-true pad 1 both.0; global_in = leb-true global 7 both.1 }))
pin-numbers chip (Some (x ∷ y ∷ pad ∷ global ∷ more ∷ numbers)) = tt

pub pin-fit : (chip : Chip) (words : List (List ℕ)) → OkAll (IsGlobalPin chip) (global_pin_of chip.device words)
unfolding global_pin_of
pin-fit chip words = pin-numbers chip (numbers_of words)

function-with : (kind : TileKind) (name : List ℕ) (bits : Result (List RowCol) DbCause) → OkAll (AreBits (columns_of kind)) bits → OkAll IsFunctionLine (function_with kind name bits)
function-with kind name (Ok bits) are =
    ok-cond IsFunctionLine (is_cell kind name && not (length bits == 20)) _ _ (λ other. tt)
    (λ fits. record {
      bits_in = are.bits_in;
      few = are.few;
      cell = λ is. eqb-true (length bits) 20 (cell-bits (is_cell kind name) (length bits == 20) is fits);
    })
  where
    cell-bits : (cell twenty : Bool) → cell ≡ true → (cell && not twenty) ≡ false → twenty ≡ true
    cell-bits true true is fits = refl
    cell-bits true false is fits = absurd (true≢false fits)
    cell-bits false twenty is fits = absurd (true≢false (sym is))
function-with kind name (Err cause) are = tt

pub function-fit : (kind : TileKind) (words : List (List ℕ)) → OkAll IsFunctionLine (function_of kind words)
unfolding function_of
function-fit kind [] = tt
function-fit kind (name ∷ []) = tt
function-fit kind (name ∷ bit ∷ bits) = function-with kind name (tile_bits_of (columns_of kind) (bit ∷ bits)) (bits-fit (columns_of kind) (bit ∷ bits))

extra-numbers : (chip : Chip) (name : List ℕ) (numbers : Option (List ℕ)) → OkAll (IsExtraLine chip) (extra_of_numbers chip.device name numbers)
extra-numbers chip name None = tt
extra-numbers chip name (Some []) = tt
extra-numbers chip name (Some (bank ∷ [])) = tt
extra-numbers chip name (Some (bank ∷ x ∷ [])) = tt
extra-numbers chip name (Some (bank ∷ x ∷ y ∷ [])) =
    ok-cond (IsExtraLine chip) (is_in_planes chip.device bank x y) _ _
    (λ inside.
    let parts = and_parts (ltb bank 4 && ltb x (cram_width chip.device)) (ltb y (cram_height chip.device)) inside in
    let first = and_parts (ltb bank 4) (ltb x (cram_width chip.device)) parts.0 in
    record { bank_in = ltb-true bank 4 first.0; px_in = ltb-true x (cram_width chip.device) first.1; py_in = ltb-true y (cram_height chip.device) parts.1 })
    (λ out. tt)
extra-numbers chip name (Some (bank ∷ x ∷ y ∷ more ∷ numbers)) = tt

pub extra-fit : (chip : Chip) (words : List (List ℕ)) → OkAll (IsExtraLine chip) (extra_of chip.device words)
unfolding extra_of
extra-fit chip [] = tt
extra-fit chip (name ∷ words) = extra-numbers chip name (numbers_of words)

-- a name of that net at a place of the grid
pub record IsNameOf (chip : Chip) (net : ℕ) (line : NameLine) : Type 0 where
  pub net_is : line.net ≡ net
  pub x_in : line.x < grid_width chip.device
  pub y_in : line.y < grid_height chip.device

name-numbers : (chip : Chip) (net : ℕ) (name : List ℕ) (numbers : Option (List ℕ)) → OkAll (IsNameOf chip net) (name_of_numbers chip.device net name numbers)
name-numbers chip net name None = tt
name-numbers chip net name (Some []) = tt
name-numbers chip net name (Some (x ∷ [])) = tt
name-numbers chip net name (Some (x ∷ y ∷ [])) =
    ok-cond (IsNameOf chip net) (ltb x (grid_width chip.device) && ltb y (grid_height chip.device)) _ _
    (λ inside.
    let both = and_parts (ltb x (grid_width chip.device)) (ltb y (grid_height chip.device)) inside in
    record { net_is = refl; x_in = ltb-true x (grid_width chip.device) both.0; y_in = ltb-true y (grid_height chip.device) both.1 })
    (λ out. tt)
name-numbers chip net name (Some (x ∷ y ∷ more ∷ numbers)) = tt

pub name-fit : (chip : Chip) (net : ℕ) (words : List (List ℕ)) → OkAll (IsNameOf chip net) (name_of chip.device net words)
unfolding name_of
name-fit chip net [] = tt
name-fit chip net (x ∷ []) = tt
name-fit chip net (x ∷ y ∷ []) = tt
name-fit chip net (x ∷ y ∷ name ∷ []) = name-numbers chip net name (numbers_of (x ∷ y ∷ []))
name-fit chip net (x ∷ y ∷ name ∷ more ∷ words) = tt

choice-numbers : (nets count : ℕ) (values : List ℕ) (src : Option ℕ) → OkAll (λ choice. choice.src < nets) (choice_by nets count values src)
choice-numbers nets count values None = tt
choice-numbers nets count values (Some src) =
    ok-cond (λ (c : LinkChoice). c.src < nets) (not (ltb src nets)) _ _ (λ past. tt)
    (λ inside. ok-cond (λ (c : LinkChoice). c.src < nets) (not (is_values count values)) (Err ValueLength) (Ok (record { values = map (λ byte. byte == 49) values; src = src })) (λ other. tt)
    (λ values_are. ltb-true src nets (not-false _ inside)))

pub choice-fit : (nets count : ℕ) (words : List (List ℕ)) → OkAll (λ choice. choice.src < nets) (choice_of nets count words)
unfolding choice_of
choice-fit nets count [] = tt
choice-fit nets count (values ∷ []) = tt
choice-fit nets count (values ∷ src ∷ []) = choice-numbers nets count values (number_of src)
choice-fit nets count (values ∷ src ∷ more ∷ words) = tt
