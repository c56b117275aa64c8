-- Interned names.
use Rattle.std.specs.Prelude.{◌≡◌, ℕ, ◌<◌, ◌≤◌, List, [], ◌++◌, length, get_or, bytes_eq, position, Some}
use Rattle.chipdb_reader.specs.declared.texts.Texts.{Texts}

-- the name at an index; empty past the last one
abbrev pub text_at : List (List ℕ) → ℕ → List ℕ
text_at texts id = get_or texts id []

-- no name has two indexes
pub record IsIndexed (texts : Texts) : Type 0 where
  pub apart : (id : ℕ) → id < length texts.arena → position (bytes_eq (text_at texts.arena id)) texts.arena ≡ Some id

-- a name is interned: if it had no index, it gets the next one
pub record Interns (old new : Texts) (text : List ℕ) (id : ℕ) : Type 0 where
  pub indexed : IsIndexed new
  pub here : position (bytes_eq text) new.arena ≡ Some id
  pub more : List (List ℕ)
  pub grown : new.arena ≡ old.arena ++ more
  pub few : length more ≤ 1
