-- A chip database, and one or two images, that a tool takes in pieces, and its answer for them.
use Rattle.std.specs.Prelude.{◌≡◌, ℕ, List, [], ◌∷◌, get_or, Option, Some, Result, Ok, Err}
use Rattle.layout_file.specs.declared.layouts.Layouts.{Layouts}
use Rattle.ice_image.specs.Configuration.{Configuration}
use Rattle.chipdb_reader.specs.Database.{Database}
use Rattle.chipdb_reader.specs.Feeding.{Intake, StandsFor, fed_to}
use Rattle.tool_run.specs.Tasks.{Answer, Refused}
use Rattle.tool_run.specs.Collected.{Collects}
use Rattle.tool_run.specs.declared.collected.Collected.{Collected}
use Rattle.tool_inputs.specs.Databases.{database_read}
use Rattle.tool_inputs.specs.Images.{image_in, image_read}
use Rattle.tool_inputs.specs.Layouts.{answer_under, layouts_for}
use Rattle.tool_inputs.specs.declared.design_input.NextText.{NextText}
use Rattle.tool_inputs.specs.declared.design_input.NextText.TheVariants as next
use Rattle.tool_inputs.specs.declared.design_input.DesignInput.{DesignInput}

-- ---- the answer

-- the answer of a tool for a database and an image. A fault of the database goes before one of the image
abbrev pub answer_of_both : Result Database (List ℕ) → Result Configuration (List ℕ) → (Database → Configuration → Answer) → Answer
answer_of_both (Err text) image answer = Refused text
answer_of_both (Ok db) (Err text) answer = Refused text
answer_of_both (Ok db) (Ok image) answer = answer db image

-- the answer for the bytes of both, the image under layouts
abbrev pub answer_to_both : (Database → Configuration → Answer) → List ℕ → List ℕ → Layouts → Answer
answer_to_both answer db image layouts = answer_of_both (database_read db) (image_read layouts image) answer

-- the answer for the layout file of a tool, if one is named, and for its texts: the database, then the image
abbrev pub input_answer : Option (List ℕ) → (Database → Configuration → Answer) → List (List ℕ) → Answer
input_answer layout answer texts = answer_under (layouts_for layout) (answer_to_both answer (get_or texts 0 []) (get_or texts 1 []))

-- ---- the answer for two images

abbrev pub answer_to_second : Result Configuration (List ℕ) → (Configuration → Answer) → Answer
answer_to_second (Err text) answer = Refused text
answer_to_second (Ok image) answer = answer image

-- the answer of a tool for a database and two images. A fault of the database goes first, and one of the first image before one of the second
abbrev pub answer_of_two : Result Database (List ℕ) → Result Configuration (List ℕ) → Result Configuration (List ℕ) → (Database → Configuration → Configuration → Answer) → Answer
answer_of_two database first second answer = answer_of_both database first (λ db image. answer_to_second second (answer db image))

-- the answer for the layout file of a tool, if one is named, and for its texts: the database, then the images of two files of these names.
-- The message for a fault of an image begins with the name of its file.
abbrev pub two_answer : Option (List ℕ) → List ℕ → List ℕ → (Database → Configuration → Configuration → Answer) → List (List ℕ) → Answer
two_answer layout first second answer texts = answer_under (layouts_for layout) (λ layouts.
    answer_of_two (database_read (get_or texts 0 [])) (image_in (Some first) (image_read layouts (get_or texts 1 [])))
    (image_in (Some second) (image_read layouts (get_or texts 2 []))) answer)

-- ---- what was taken

-- the database and the images have taken these whole texts, and these bytes of the next one; texts after them are skipped
abbrev pub HasTexts : List (List ℕ) → List ℕ → Intake → Collected → Collected → NextText → Type 0
HasTexts texts bytes db image second next.Database = (texts ≡ []) × StandsFor bytes db × Collects [] image × Collects [] second
HasTexts texts bytes db image second next.Image = (text : List ℕ) × (texts ≡ text ∷ []) × StandsFor text db × Collects bytes image × Collects [] second
HasTexts texts bytes db image second next.Second =
    (text : List ℕ) × (one : List ℕ) × (texts ≡ text ∷ one ∷ []) × StandsFor text db × Collects one image × Collects bytes second
HasTexts texts bytes db image second next.Other =
    (text : List ℕ) × (one : List ℕ) × (two : List ℕ) × (others : List (List ℕ)) × (texts ≡ text ∷ one ∷ two ∷ others)
    × StandsFor text db × Collects one image × Collects two second

-- the input has the layouts of this layout file, if one is named, and has taken these texts and bytes
abbrev pub TakesInput : Option (List ℕ) → List (List ℕ) → DesignInput → List ℕ → Type 0
TakesInput layout texts input bytes = (layouts_for layout ≡ Ok input.layouts) × HasTexts texts bytes input.db input.image input.second input.next

-- how many bytes of the database were taken, while it is taken; 0 after that
abbrev pub fed_of_next : NextText → Intake → ℕ
fed_of_next next.Database db = fed_to db
fed_of_next next.Image db = 0
fed_of_next next.Second db = 0
fed_of_next next.Other db = 0

abbrev pub fed_input : DesignInput → ℕ
fed_input input = fed_of_next input.next input.db
