-- Texts that are written part by part.
use Rattle.std.proofs.Common.{◌≡◌, ℕ, ◌-◌, ◌<◌, ◌≤◌, ◌%◌, ◌/◌, Bool, not, ◌&&◌, ◌==◌, List, [], ◌∷◌, ◌++◌, length, map, Some, refl, sym, ap, ◌∙◌, arith, append_assoc}
use Rattle.std.specs.Prelude.{codes, if◌then◌else◌}
use Rattle.index_search.proofs.Places.{gathered_below-same}
use Rattle.bit_plane.specs.BitList.{word_bits}
use Rattle.bit_plane.specs.Rows.{Rows, bit_at}
use Rattle.bit_plane.proofs.Words.{word_bits-more}
use Rattle.plane_map.specs.Layout.{kind_of}
use Rattle.plane_map.specs.declared.tile.Place.{Place}
use Rattle.plane_map.specs.declared.tile.TileKind.{TileKind}
use Rattle.ice_image.specs.Configuration.{Configuration}
use Rattle.asc_text.specs.Canonical.{bit_character, row_line}
use Rattle.chipdb_lines.specs.Items.{ExtraLine}
use Rattle.chipdb_reader.specs.Database.{Database}
use Rattle.image_explain.specs.declared.item.Active.TheVariants.{Unknown}
use Rattle.ice_image.specs.Bits.{tile_bit_of}
use Rattle.image_explain.specs.Items.{items_at, items_in, items_of_tile, unknown_here, unknown_in, unknown_items}
use Rattle.image_explain.specs.Explained.{extra_lines, extra_text}
use Rattle.image_explain.specs.Inside.{Knows}

-- the first bit of a number, and then the others
pub bits-written : (old middle after : List ℕ) (count number : ℕ) → 0 < count → middle ≡ old ++ bit_character (number % 2 == 1) ∷ [] → after ≡ middle ++ row_line (word_bits (count - 1) (number / 2)) → after ≡ old ++ row_line (word_bits count number)
bits-written old middle after count number some first rest =
    rest ∙ ap (λ text. text ++ row_line (word_bits (count - 1) (number / 2))) first
    ∙ append_assoc old (bit_character (number % 2 == 1) ∷ []) (row_line (word_bits (count - 1) (number / 2)))
    ∙ ap (λ bits. old ++ row_line bits) (sym (word_bits-more count number some))

-- a word, and two nets after it
pub nets-written : (old middle after word src dst : List ℕ) → middle ≡ old ++ word → after ≡ (middle ++ 32 ∷ src) ++ 32 ∷ dst → after ≡ old ++ ((word ++ 32 ∷ src) ++ 32 ∷ dst)
nets-written old middle after word src dst first rest =
    rest ∙ ap (λ text. (text ++ 32 ∷ src) ++ 32 ∷ dst) first
    ∙ ap (λ text. text ++ 32 ∷ dst) (append_assoc old word (32 ∷ src))
    ∙ append_assoc old (word ++ 32 ∷ src) (32 ∷ dst)

-- the lines of places, if there are some
pub some-extras : (extras : List ExtraLine) (places : List Place) → 0 < length places → extra_lines extras places ≡ codes ".extra_bits" ∷ map (extra_text extras) places
some-extras extras [] some = absurd (omega arith)
some-extras extras (place ∷ places) some = refl

-- the items of a tile that is there
pub items-there : (database : Database) (image : Configuration) (x y : ℕ) (kind : TileKind) → kind_of image.layout.device x y ≡ Some kind → items_at database image x y ≡ items_of_tile database image x y kind
unfolding items_at
items-there database image x y kind there = ap (items_in database image x y) there

-- the bits that aren't known, by another test of what is known
pub unknown-same : (image : Configuration) (x y width : ℕ) (test other : ℕ → ℕ → Bool) (board : Rows) → width ≤ 54 → Knows test board → ((row col : ℕ) → test row col ≡ other row col) → unknown_items image x y (λ row col. bit_at board col row) width ≡ unknown_items image x y other width
unfolding unknown_items
unknown-same image x y width test other board narrow knows same =
    gathered_below-same 16 (unknown_in image x y (λ row col. bit_at board col row) width) (unknown_in image x y other width) (λ row row_in.
    gathered_below-same width (unknown_here image x y (λ row col. bit_at board col row) row) (unknown_here image x y other row) (λ col col_in.
    ap (λ (known : Bool). if tile_bit_of image x y row col && not known then Unknown row col ∷ [] else []) (knows.bits row col row_in (omega arith) ∙ same row col)))
