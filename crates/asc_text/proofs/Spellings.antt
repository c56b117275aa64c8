-- Statements by their keywords.
use Rattle.std.proofs.Common.{◌≡◌, ℕ, Bool, true, false, cond, List, [], ◌∷◌, Option, Some, None, refl, sym, ap, ◌∙◌}
use Rattle.std.specs.Prelude.{bytes_eq}
use Rattle.plane_map.specs.declared.tile.TileKind.TheVariants.{Io, Logic, RamB, RamT}
use Rattle.asc_text.specs.declared.reading.keyword.Keyword.{Keyword}
use Rattle.asc_text.specs.declared.reading.keyword.Keyword.TheVariants.{Comment, Device, WarmBoot, FrequencyRange, NoSleep, Tile, RamData, ExtraBit, Symbol}
use Rattle.asc_text.specs.declared.statement.Statement.{Statement}
use Rattle.asc_text.specs.Statements.{comment_keyword, device_keyword, warm_boot_keyword, range_keyword, no_sleep_keyword, tile_keyword, ram_data_keyword, extra_bit_keyword, symbol_keyword, spelled}
use Rattle.asc_text.specs.inside.Keywords.{keyword_of, spelled_as}

-- the statement of a keyword, if there is one
abbrev pub spelled_where : Option Keyword → List ℕ → Option Statement
spelled_where None following = None
spelled_where (Some keyword) following = spelled_as keyword following

-- a word and the keyword that it is
record Entry : Type 0 where
  word : List ℕ
  keyword : Keyword

abbrev entry : List ℕ → Keyword → Entry
entry word keyword = record { word = word; keyword = keyword }

-- all of them
abbrev entries : List Entry
entries =
    entry comment_keyword Comment
    ∷ entry device_keyword Device
    ∷ entry warm_boot_keyword WarmBoot
    ∷ entry range_keyword FrequencyRange
    ∷ entry no_sleep_keyword NoSleep
    ∷ entry (tile_keyword Io) (Tile Io)
    ∷ entry (tile_keyword Logic) (Tile Logic)
    ∷ entry (tile_keyword RamB) (Tile RamB)
    ∷ entry (tile_keyword RamT) (Tile RamT)
    ∷ entry ram_data_keyword RamData
    ∷ entry extra_bit_keyword ExtraBit
    ∷ entry symbol_keyword Symbol
    ∷ []

-- the first keyword that a word is
abbrev first_in : List Entry → List ℕ → Option Keyword
first_in [] word = None
first_in (e ∷ rest) word = cond (bytes_eq word e.word) (Some e.keyword) (first_in rest word)

-- and its statement
abbrev spelled_in : List Entry → List ℕ → List ℕ → Option Statement
spelled_in [] word following = None
spelled_in (e ∷ rest) word following = cond (bytes_eq word e.word) (spelled_as e.keyword following) (spelled_in rest word following)

-- a choice of two keywords is one of their statements
choice : (test : Bool) (keyword : Keyword) (other : Option Keyword) (following : List ℕ) (spelling : Option Statement) → spelled_where other following ≡ spelling
    → spelled_where (cond test (Some keyword) other) following ≡ cond test (spelled_as keyword following) spelling
choice true keyword other following spelling e = refl
choice false keyword other following spelling e = e

spelled_in-is : (table : List Entry) (word following : List ℕ) → spelled_where (first_in table word) following ≡ spelled_in table word following
spelled_in-is [] word following = refl
spelled_in-is (e ∷ rest) word following =
    choice (bytes_eq word e.word) e.keyword (first_in rest word) following (spelled_in rest word following) (spelled_in-is rest word following)

-- a statement is that of its keyword
spelled-is : (word following : List ℕ) → spelled_where (keyword_of word) following ≡ spelled word following
unfolding keyword_of
spelled-is word following = spelled_in-is entries word following

-- the same by what the keyword is known to be
pub spelled_by_keyword : (word following : List ℕ) (keyword : Option Keyword) → keyword ≡ keyword_of word → spelled word following ≡ spelled_where keyword following
spelled_by_keyword word following keyword is = sym (spelled-is word following) ∙ ap (λ k. spelled_where k following) (sym is)
