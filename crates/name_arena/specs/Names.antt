-- Names in chunks of bytes.
use Rattle.std.specs.Prelude.{◌≡◌, ℕ, ◌+◌, ◌-◌, ◌^◌, ◌<◌, ◌≤◌, List, [], length, slice_index_or, slice_range, nat_le, if◌then◌else◌}
use Rattle.name_arena.specs.declared.chunks.Span.{Span}

-- the room of a chunk in bytes; a name longer than that has a chunk of its own
abbrev pub chunk_bytes : ℕ
chunk_bytes = 65536

-- the name between `span.start` and `span.last` of a chunk; a chunk longer than the usual room is one name
abbrev pub name_within : List ℕ → Span → List ℕ
name_within bytes span = if nat_le (length bytes) chunk_bytes then slice_range bytes span.start (span.last + 1) else bytes

-- what is written in a chunk, or nothing if there is no such chunk
abbrev pub chunk_at : List (List ℕ) → ℕ → List ℕ
chunk_at chunks chunk = slice_index_or chunks chunk []

-- the name of a span
abbrev pub name_at : List (List ℕ) → Span → List ℕ
name_at chunks span = name_within (chunk_at chunks span.chunk) span

-- the start and the last byte of a span are in order and inside its chunk, unless the chunk is one name
abbrev pub IsWithin : List ℕ → Span → Type 0
IsWithin bytes span = length bytes ≤ chunk_bytes → (span.start ≤ span.last) × (span.last < length bytes)

-- a span of these chunks; an empty name has the number 2^32 - 1, which no chunk gets
pub record IsSpanOf (chunks : List (List ℕ)) (span : Span) : Type 0 where
  pub within : span.chunk < length chunks → IsWithin (chunk_at chunks span.chunk) span
  pub outside : length chunks ≤ span.chunk → span.chunk ≡ 2 ^ 32 - 1

-- the last chunk has room for `count` more bytes
abbrev pub HasRoom : List (List ℕ) → ℕ → Type 0
HasRoom chunks count = (0 < length chunks) × (length (chunk_at chunks (length chunks - 1)) + count ≤ chunk_bytes)

-- each name of the old chunks is the same name in the new ones
abbrev pub Keeps : List (List ℕ) → List (List ℕ) → Type 0
Keeps old new = (span : Span) → IsSpanOf old span → IsSpanOf new span × (name_at new span ≡ name_at old span)
