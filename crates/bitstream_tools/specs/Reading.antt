-- Reads the first of several texts that come in pieces.
use Rattle.std.specs.Prelude.{◌≡◌, ℕ, Bool, true, false, List, [], ◌∷◌, Ok, Option, if◌then◌else◌}
use Rattle.layout_file.specs.declared.layouts.Layouts.{Layouts}
use Rattle.tool_inputs.specs.Layouts.{layouts_for}
use Rattle.bitstream_tools.specs.declared.reading.First.{First}

-- a reader has read the first text: as much of it as came, while it is open, and else the first of the whole texts
abbrev pub ReadsFirst : {R : Type 0} → (Layouts → List ℕ → R → Type 0) → Layouts → List (List ℕ) → List ℕ → R → Bool → Type 0
ReadsFirst stands layouts texts bytes reader true = (texts ≡ []) × stands layouts bytes reader
ReadsFirst stands layouts texts bytes reader false = (text : List ℕ) × (others : List (List ℕ)) × (texts ≡ text ∷ others) × stands layouts text reader

-- it has read the first text under the layouts of a layout file, if one is named
abbrev pub TakesFirst : {R : Type 0} → (Layouts → List ℕ → R → Type 0) → Option (List ℕ) → List (List ℕ) → First R → List ℕ → Type 0
TakesFirst stands layout texts first bytes =
    (layouts : Layouts) × (layouts_for layout ≡ Ok layouts) × ReadsFirst stands layouts texts bytes first.reader first.is_open

-- how many bytes of the first text were fed to its reader, while it is open; 0 after that
abbrev pub fed_first : {R : Type 0} → (R → ℕ) → First R → ℕ
fed_first fed first = if first.is_open then fed first.reader else 0
