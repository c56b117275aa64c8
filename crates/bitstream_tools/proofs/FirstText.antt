-- The first text under the layouts of a layout file, and the answer that is made of it.
use Rattle.std.proofs.Common.{◌≡◌, ◌∙◌, ◌∷◌, ◌++◌, [], Bool, true, false, ℕ, List, sym, ap, subst}
use Rattle.std.specs.Prelude.{get_or, Option, Result, Ok}
use Rattle.layout_file.specs.declared.layouts.Layouts.{Layouts}
use Rattle.tool_run.specs.Stops.{StopsWith}
use Rattle.tool_run.specs.Tasks.{Answer}
use Rattle.tool_run.specs.declared.tool.Stop.{Stop}
use Rattle.tool_inputs.specs.Layouts.{answer_under, layouts_for}
use Rattle.bitstream_tools.specs.Reading.{ReadsFirst}

-- a reader of the first text, after the last
pub first_read : {R : Type 0} (stands : Layouts → List ℕ → R → Type 0) (layouts : Layouts) (texts : List (List ℕ)) (reader : R) (is_open : Bool) → ReadsFirst stands layouts texts [] reader is_open
    → stands layouts (get_or texts 0 []) reader
first_read stands layouts texts reader true reads = subst (λ (all : List (List ℕ)). stands layouts (get_or all 0 []) reader) (sym reads.0) reads.1
first_read stands layouts texts reader false reads = subst (λ (all : List (List ℕ)). stands layouts (get_or all 0 []) reader) (sym reads.2) reads.3

-- the text that is open ends: it is the first, or a later one that is skipped
pub first_closed : {R : Type 0} (stands : Layouts → List ℕ → R → Type 0) (layouts : Layouts) (texts : List (List ℕ)) (bytes : List ℕ) (reader : R) (is_open : Bool) → ReadsFirst stands layouts texts bytes reader is_open
    → ReadsFirst stands layouts (texts ++ bytes ∷ []) [] reader false
first_closed stands layouts texts bytes reader true reads = (bytes, [], ap (λ (all : List (List ℕ)). all ++ bytes ∷ []) reads.0, reads.1)
first_closed stands layouts texts bytes reader false reads = (reads.0, reads.1 ++ bytes ∷ [], ap (λ (all : List (List ℕ)). all ++ bytes ∷ []) reads.2, reads.3)

-- the answer of a tool to its first text
abbrev pub answer_for : (List ℕ → Layouts → Answer) → Option (List ℕ) → List (List ℕ) → Answer
answer_for answer layout texts = answer_under (layouts_for layout) (answer (get_or texts 0 []))

-- under the layouts that are read
pub answer_is : (answer : List ℕ → Layouts → Answer) (layout : Option (List ℕ)) (texts : List (List ℕ)) (layouts : Layouts) (given : Answer) → layouts_for layout ≡ Ok layouts
    → answer (get_or texts 0 []) layouts ≡ given → answer_for answer layout texts ≡ given
answer_is answer layout texts layouts given read is = ap (λ (r : Result Layouts (List ℕ)). answer_under r (answer (get_or texts 0 []))) read ∙ is

pub answer_stops : (answer : List ℕ → Layouts → Answer) (layout : Option (List ℕ)) (texts : List (List ℕ)) (layouts : Layouts) (stop : Stop) → layouts_for layout ≡ Ok layouts
    → StopsWith (answer (get_or texts 0 []) layouts) stop → StopsWith (answer_for answer layout texts) stop
answer_stops answer layout texts layouts stop read stops =
    subst (λ (r : Result Layouts (List ℕ)). StopsWith (answer_under r (answer (get_or texts 0 []))) stop) (sym read) stops
