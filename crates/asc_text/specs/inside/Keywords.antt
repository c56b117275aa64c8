-- Keywords: the first word of a statement, apart from the text after it.
use Rattle.std.specs.Prelude.{ℕ, List, bytes_eq, if◌then◌else◌, Option, Some, None}
use Rattle.text_lines.specs.declared.words.Separators.TheVariants.{Spaces}
use Rattle.text_lines.specs.Words.{words_of, first_word, number_of, numbers_of}
use Rattle.plane_map.specs.declared.tile.TileKind.TheVariants.{Io, Logic, RamB, RamT}
use Rattle.asc_text.specs.declared.reading.keyword.Keyword.{Keyword}
use Rattle.asc_text.specs.declared.reading.keyword.Keyword.TheVariants.{Comment, Device, WarmBoot, FrequencyRange, NoSleep, Tile, RamData, ExtraBit, Symbol}
use Rattle.asc_text.specs.declared.statement.Statement.{Statement}
use Rattle.asc_text.specs.declared.statement.Statement.TheVariants.{Comment as CommentStatement}
use Rattle.asc_text.specs.Statements.{comment_keyword, device_keyword, warm_boot_keyword, range_keyword, no_sleep_keyword, tile_keyword, ram_data_keyword, extra_bit_keyword, symbol_keyword, device_of_words, warm_boot_of_words, range_of_words, no_sleep_of_words, tile_of_numbers, ram_data_of_numbers, extra_bit_of_numbers, symbol_of_parts, name_after}

-- the keyword that a word is
unfoldable pub keyword_of : List ℕ → Option Keyword
keyword_of word =
    if bytes_eq word comment_keyword then Some Comment
    else if bytes_eq word device_keyword then Some Device
    else if bytes_eq word warm_boot_keyword then Some WarmBoot
    else if bytes_eq word range_keyword then Some FrequencyRange
    else if bytes_eq word no_sleep_keyword then Some NoSleep
    else if bytes_eq word (tile_keyword Io) then Some (Tile Io)
    else if bytes_eq word (tile_keyword Logic) then Some (Tile Logic)
    else if bytes_eq word (tile_keyword RamB) then Some (Tile RamB)
    else if bytes_eq word (tile_keyword RamT) then Some (Tile RamT)
    else if bytes_eq word ram_data_keyword then Some RamData
    else if bytes_eq word extra_bit_keyword then Some ExtraBit
    else if bytes_eq word symbol_keyword then Some Symbol
    else None

-- the statement of a keyword and the text after it
abbrev pub spelled_as : Keyword → List ℕ → Option Statement
spelled_as Comment following = Some CommentStatement
spelled_as Device following = device_of_words (words_of Spaces following)
spelled_as WarmBoot following = warm_boot_of_words (words_of Spaces following)
spelled_as FrequencyRange following = range_of_words (words_of Spaces following)
spelled_as NoSleep following = no_sleep_of_words (words_of Spaces following)
spelled_as (Tile kind) following = tile_of_numbers kind (numbers_of (words_of Spaces following))
spelled_as RamData following = ram_data_of_numbers (numbers_of (words_of Spaces following))
spelled_as ExtraBit following = extra_bit_of_numbers (numbers_of (words_of Spaces following))
spelled_as Symbol following = symbol_of_parts (number_of (first_word Spaces following)) (name_after following)
