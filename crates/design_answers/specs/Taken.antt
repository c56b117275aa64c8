-- What a tool has taken of its texts so far, if a pin file comes before the database and the image.
use Rattle.std.specs.Prelude.{◌≡◌, ℕ, List, [], ◌∷◌, Option}
use Rattle.pin_file.specs.declared.pin_reader.PinReader.{PinReader}
use Rattle.tool_run.specs.Collected.{Collects}
use Rattle.tool_run.specs.declared.collected.Collected.{Collected}
use Rattle.tool_inputs.specs.DesignInput.{TakesInput, fed_input}
use Rattle.tool_inputs.specs.declared.design_input.DesignInput.{DesignInput}
use Rattle.design_answers.specs.declared.named_intake.NextText.{NextText}
use Rattle.design_answers.specs.declared.named_intake.NextText.TheVariants as next
use Rattle.design_answers.specs.declared.named_intake.NamedIntake.{NamedIntake}
use Rattle.design_answers.specs.Pins.{HasPins}

-- Under a layout file, if one is named, these whole texts were taken, and these bytes of the next one. The first text is the pin file,
-- which is collected. The input takes the texts after it. The reader of pins reads the first of them, the database.
abbrev pub HasNamedTexts : List ℕ → Option (List ℕ) → List (List ℕ) → List ℕ → Collected → DesignInput → Option PinReader
    → NextText → Type 0
HasNamedTexts package_name layout texts bytes file input pins next.PinFile =
    (texts ≡ []) × Collects bytes file × TakesInput layout [] input [] × HasPins package_name [] pins
HasNamedTexts package_name layout texts bytes file input pins next.Database =
    (first : List ℕ) × (texts ≡ first ∷ []) × Collects first file × TakesInput layout [] input bytes × HasPins package_name bytes pins
HasNamedTexts package_name layout texts bytes file input pins next.Other =
    (first : List ℕ) × (db : List ℕ) × (others : List (List ℕ)) × (texts ≡ first ∷ db ∷ others)
    × Collects first file × TakesInput layout (db ∷ others) input bytes × HasPins package_name db pins

abbrev pub TakesNamed : List ℕ → Option (List ℕ) → List (List ℕ) → NamedIntake → List ℕ → Type 0
TakesNamed package_name layout texts intake bytes =
    HasNamedTexts package_name layout texts bytes intake.file intake.input intake.pins intake.next

-- how many bytes of the next text count towards its limit
abbrev pub fed_named : NamedIntake → ℕ
fed_named intake = fed_input intake.input
