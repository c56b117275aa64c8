-- What a tool reads before it starts.
use Rattle.std.specs.Prelude.{ℕ, ◌+◌, ◌^◌, ◌<◌, ◌∷◌, Bool, true, false, not, List, Option, None, Some, IsSome, All, length, slice_get}
use Rattle.std.specs.List.{list_any}
use Rattle.std.specs.Borrow.{Bor}
use Rattle.tool_run.specs.declared.load.Load.{Load}

-- bytes that a tool reads: those of a file, or of standard input if there is no name, and at most so many
pub record Need : Type 0 where
  pub name : Option (List ℕ)
  pub limit : ℕ

-- the bytes of a text, if there is one
abbrev pub text_of : Option (Bor (List ℕ)) → Option (List ℕ)
text_of None = None
text_of (Some text) = Some text.now

abbrev pub need_of : Load → Need
need_of load = record { name = text_of load.name; limit = load.limit }

-- the most bytes of a layout file
abbrev pub layout_limit : ℕ
layout_limit = 65536

-- a layout file, as a need
abbrev pub layout_need : List ℕ → Need
layout_need file = record { name = Some file; limit = layout_limit }

-- a layout file, if one is named, is read before all else
abbrev pub with_layout : Option (List ℕ) → List Need → List Need
with_layout None needs = needs
with_layout (Some file) needs = layout_need file ∷ needs

-- standard input, and no file
abbrev pub is_stream : Option (List ℕ) → Bool
is_stream None = true
is_stream (Some name) = false

-- whether standard input is among the needs
abbrev pub reads_input : List Need → Bool
reads_input needs = list_any (λ need. is_stream need.name) needs

-- whether a file is among the needs
abbrev pub reads_files : List Need → Bool
reads_files needs = list_any (λ need. not (is_stream need.name)) needs

-- a need that is a file
abbrev pub IsFile : Option Need → Type 0
IsFile None = ⊥
IsFile (Some need) = IsSome need.name

-- standard input is the last need, if it is one, and each limit is below 2^32
pub record IsSound (needs : List Need) : Type 0 where
  pub last : (k : ℕ) → k + 1 < length needs → IsFile (slice_get needs k)
  pub limits : All (λ need. need.limit < 2 ^ 32) needs
