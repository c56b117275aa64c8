-- Buffers by their indexes.
use Rattle.std.specs.Prelude.{ℕ, List, [], ◌∷◌, flat_map, slice_get, Option, Some, None}
use Rattle.chipdb_reader.specs.declared.items.LinkLine.{LinkLine}
use Rattle.fabric_model.specs.Fabric.{Buffer}

-- the buffer of the line with an index, if there is one
abbrev pub buffer_if : ℕ → Option LinkLine → List Buffer
buffer_if place None = []
buffer_if place (Some line) = record { line = place; src = line.src; dst = line.dst } ∷ []

-- the buffers of the lines with some indexes
abbrev pub buffers_at : List LinkLine → List ℕ → List Buffer
buffers_at lines places = flat_map (λ place. buffer_if place (slice_get lines place)) places
