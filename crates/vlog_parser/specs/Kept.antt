-- Kinds, readings and words that are kept, each once.
use Rattle.std.specs.Prelude.{ℕ, Bool, true, ◌&&◌, ◌==◌, List, [], ◌∷◌, ◌++◌, Option, Some, None, is_some, bytes_eq, if◌then◌else◌}
use Rattle.std.specs.List.{list_any}
use Rattle.vlog_module.specs.declared.sort.Sort.{Sort}
use Rattle.vlog_module.specs.WellFormed.{Reading, sort_in, is_unless}

-- whether a word of a memory is among others
abbrev pub has_word : List (List ℕ × ℕ) → List ℕ → ℕ → Bool
has_word words memory place = list_any (λ other. bytes_eq other.0 memory && (other.1 == place)) words

abbrev pub with_word : List (List ℕ × ℕ) → List ℕ → ℕ → List (List ℕ × ℕ)
with_word words memory place = if has_word words memory place then words else words ++ (memory, place) ∷ []

abbrev pub with_sort : List (List ℕ × Sort) → List ℕ → Sort → List (List ℕ × Sort)
with_sort declared name sort = if is_some (sort_in declared name) then declared else declared ++ (name, sort) ∷ []

-- whether a name that is read, if it is, is only read by way of this asynchronous set or reset
abbrev pub is_only_unless : Option Reading → List ℕ → Bool → Bool
is_only_unless (Some reading) reset set = is_unless reset set reading
is_only_unless None reset set = true
