-- The words that are read for the RAMs of an image are their start words.
use Rattle.std.proofs.Common.{◌≡◌, ℕ, ◌*◌, ◌<◌, Bool, List, [], ◌∷◌, length, map, get_or, refl, sym, ap, subst, ◌∙◌, inl, inr}
use Rattle.std.specs.Prelude.{All, Some, flat_map, if◌then◌else◌}
use Rattle.std.proofs.lemmas.Bool.{cases_Bool}
use Rattle.std.proofs.lemmas.List.Elements.{All-nil}
use Rattle.bit_plane.specs.BitList.{word_of}
use Rattle.plane_map.specs.Layout.{kind_of, grid_width, grid_height}
use Rattle.plane_map.specs.declared.tile.TileKind.TheVariants.{RamB}
use Rattle.chipdb_lines.specs.Statements.{is_kind_there}
use Rattle.chipdb_reader.specs.Database.{Database}
use Rattle.ice_image.specs.Configuration.{Configuration}
use Rattle.ice_image.specs.Bits.{ram_word_of}
use Rattle.index_search.proofs.Gathered.{map-gathered_below}
use Rattle.index_search.proofs.Places.{gathered_below-same}
use Rattle.fabric_model.specs.declared.ram.RamCell.{RamCell}
use Rattle.fabric_model.specs.Tiles.{over_grid, at_kind, each_below}
use Rattle.fabric_model.specs.Rams.{is_ram_used, ram_at, rams_of, over_rams, start_word, start_words}
use Rattle.fabric_model.specs.declared.options.FabricOptions.{FabricOptions}
use Rattle.fabric_model.specs.Fabric.{fabric_with}
use Rattle.fabric_model.proofs.Within.{All-over_grid, All-if, All-single}
use Rattle.fabric_model.proofs.OneValue.{each_below-length, each_below-at}
use Rattle.fabric_model.proofs.InOrder.{is_kind_there-is}
use Rattle.fabric.specs.Kept.{AreWordsOf}
use Rattle.fabric.proofs.Lists.{map-if, item-of_part, count-of_parts}

module _ (db : Database) (image : Configuration) where
  -- ---- each RAM has a lower tile

  IsLower : RamCell → Type 0
  IsLower ram = kind_of image.layout.device ram.x ram.y ≡ Some RamB

  here-lower : (x y : ℕ) → kind_of image.layout.device x y ≡ Some RamB → IsLower (ram_at db image x y)
  unfolding ram_at IsLower
  here-lower x y is = is

  at-lower : (x y : ℕ) → All IsLower (at_kind image.layout.device RamB (λ u v. if is_ram_used db image u v then ram_at db image u v ∷ [] else []) x y)
  at-lower x y =
      elim (cases_Bool (is_kind_there RamB (kind_of image.layout.device x y))) [
        | inl there ↦ rw there (All-if IsLower (is_ram_used db image x y) (ram_at db image x y ∷ []) (All-single IsLower (ram_at db image x y) (here-lower x y (is_kind_there-is RamB (kind_of image.layout.device x y) there))))
        | inr away ↦ rw away (All-nil IsLower)
      ]

  pub rams-lower : All (λ ram. kind_of image.layout.device ram.x ram.y ≡ Some RamB) (rams_of db image)
  unfolding rams_of IsLower
  rams-lower = All-over_grid IsLower image.layout.device _ (λ x y left low. at-lower x y)

  -- ---- the start words are those of the RAMs

  abbrev words_of : RamCell → List (List Bool)
  words_of ram = start_words image ram.x ram.y

  ram-words : (x y : ℕ) → words_of (ram_at db image x y) ≡ start_words image x y
  unfolding ram_at
  ram-words x y = refl

  used-words : (x y : ℕ) → map words_of (at_kind image.layout.device RamB (λ u v. if is_ram_used db image u v then ram_at db image u v ∷ [] else []) x y)
      ≡ at_kind image.layout.device RamB (λ u v. if is_ram_used db image u v then start_words image u v ∷ [] else []) x y
  used-words x y =
      map-if (is_kind_there RamB (kind_of image.layout.device x y)) words_of (if is_ram_used db image x y then ram_at db image x y ∷ [] else [])
      ∙ ap (λ list. if is_kind_there RamB (kind_of image.layout.device x y) then list else [])
      (map-if (is_ram_used db image x y) words_of (ram_at db image x y ∷ []) ∙ ap (λ words. if is_ram_used db image x y then words ∷ [] else []) (ram-words x y))

  start-words : map words_of (rams_of db image) ≡ over_rams db image (λ x y. start_words image x y ∷ [])
  unfolding rams_of over_grid
  start-words =
      map-gathered_below words_of (grid_height image.layout.device) _
      ∙ gathered_below-same (grid_height image.layout.device) _ _ (λ y low.
      map-gathered_below words_of (grid_width image.layout.device) _ ∙ gathered_below-same (grid_width image.layout.device) _ _ (λ x left. used-words x y))

  start-is : (options : FabricOptions) → (fabric_with options db image).start ≡ map words_of (rams_of db image)
  unfolding fabric_with
  start-is inputs = sym start-words

  rams-are : (options : FabricOptions) → (fabric_with options db image).rams ≡ rams_of db image
  unfolding fabric_with
  rams-are inputs = refl

  -- ---- words by their places

  abbrev values_of : RamCell → List ℕ
  values_of ram = each_below 256 (ram_word_of image ram.x ram.y)

  word-value : (ram : RamCell) (word : ℕ) → word < 256 → get_or (values_of ram) word 0 ≡ word_of (get_or (words_of ram) word [])
  unfolding start_words
  word-value ram word below =
      each_below-at 256 word (ram_word_of image ram.x ram.y) 0 below
      ∙ sym (ap word_of (each_below-at 256 word (start_word image ram.x ram.y) [] below))

  pub words-are : (options : FabricOptions) → AreWordsOf (fabric_with options db image) (flat_map values_of (rams_of db image))
  words-are inputs = record {
    count = count-of_parts 256 values_of (rams_of db image) (λ ram. each_below-length 256 _) ∙ ap (λ rams. length rams * 256) (sym (rams-are inputs));
    each = λ ram word inside below.
        item-of_part 256 values_of words_of word_of (rams_of db image) ram word 0 [] (λ cell. each_below-length 256 _) (λ cell. word-value cell word below)
        (subst (λ rams. ram < length rams) (rams-are inputs) inside) below
        ∙ ap (λ start. word_of (get_or (get_or start ram []) word [])) (sym (start-is inputs));
  }
