-- The images that `icemulti --as-stock` stores, as Project IceStorm's `icemulti` does: a file that is named again is stored once.
use Rattle.std.specs.Prelude.{ℕ, Bool, List, [], ◌∷◌, length, get_or, map, position, unwrap_or, nat_lt, if◌then◌else◌}
use Rattle.std.specs.Str.{bytes_eq}
use Rattle.std.specs.List.{range_with_len}
use Rattle.clap.specs.Words.{Text}
use Rattle.index_search.specs.Places.{any_below, gathered_below}
use Rattle.boot_file.specs.declared.options.Options.{Options}

-- the name that a word of the command line gives, words being counted from 0
abbrev pub name_at : List Text → ℕ → Text
name_at names word = get_or names word []

-- whether an earlier word gives that name too
abbrev pub is_named_before : List Text → ℕ → Bool
is_named_before names word = any_below word (λ earlier. bytes_eq (name_at names earlier) (name_at names word))

-- the name of a word that is the first to give it
abbrev pub first_name : List Text → ℕ → List Text
first_name names word = if is_named_before names word then [] else name_at names word ∷ []

-- the names of the images that are stored: each once, in the order of the first words that give them
unfoldable pub names_once : List Text → List Text
names_once names = gathered_below (length names) (first_name names)

-- the index of the stored image of a word
abbrev pub image_of : List Text → ℕ → ℕ
image_of names word = unwrap_or (position (λ stored. bytes_eq stored (name_at names word)) (names_once names)) 0

-- the word whose image the header of an entry boots: its own, or that of power-on if there are fewer words
abbrev pub word_booted : List Text → ℕ → ℕ → ℕ
word_booted names power_on entry = if nat_lt entry (length names) then entry else power_on

-- the options for the stored images, from those that count the words
abbrev pub stock_options : List Text → Options → Options
stock_options names options = record options {
  power_on = image_of names options.power_on;
  entries = map (λ entry. image_of names (word_booted names options.power_on entry)) (range_with_len 0 4);
}

-- the names of the stored images, and their options, with `--as-stock` or without it
abbrev pub names_stored : Bool → List Text → List Text
names_stored as_stock names = if as_stock then names_once names else names

abbrev pub options_for : Bool → List Text → Options → Options
options_for as_stock names options = if as_stock then stock_options names options else options
