-- The texts that a tool takes if a pin file comes before the database and the image.
use Rattle.std.proofs.Common.{◌≡◌, ℕ, List, [], ◌∷◌, ◌++◌, ap, subst, sym}
use Rattle.std.specs.Prelude.{IfOk, Option, Result, Ok, Err}
use Rattle.std.specs.Result.{result_ok}
use Rattle.std.specs.declared.alloc.AllocError.{AllocError}
use Rattle.tool_run.specs.Collected.{Collects}
use Rattle.tool_run.specs.declared.collected.Collected.{Collected}
use Rattle.tool_inputs.specs.declared.design_input.DesignInput.{DesignInput}
use Rattle.tool_inputs.specs.DesignInput.{TakesInput}
use Rattle.pin_file.specs.declared.pin_reader.PinReader.{PinReader}
use Rattle.pin_file.specs.Feeding.{StandsFor}
use Rattle.design_answers.specs.declared.named_intake.NextText.{NextText}
use Rattle.design_answers.specs.declared.named_intake.NextText.TheVariants as next
use Rattle.design_answers.specs.declared.named_intake.NamedIntake.{NamedIntake}
use Rattle.design_answers.specs.Pins.{HasPins, database_text, pin_text, texts_without_pins}
use Rattle.design_answers.specs.Taken.{HasNamedTexts, TakesNamed}

-- if memory was out for a reader, there is none
pub ok-kept : (name text : List ℕ) (read : Result PinReader AllocError) → IfOk read (StandsFor name text) → HasPins name text (result_ok read)
ok-kept name text (Ok reader) stands = stands
ok-kept name text (Err failed) stands = tt

-- ---- a piece

module _ (package_name : List ℕ) (layout : Option (List ℕ)) (texts : List (List ℕ)) (bytes piece : List ℕ) where
  -- of the pin file
  pub fed-pins : (file new_file : Collected) (input : DesignInput) (pins : Option PinReader) (at : NextText) → at ≡ next.PinFile
      → (Collects bytes file → Collects (bytes ++ piece) new_file)
      → HasNamedTexts package_name layout texts bytes file input pins at → HasNamedTexts package_name layout texts (bytes ++ piece) new_file input pins at
  fed-pins file new_file input pins at is pushed taken =
      let was : HasNamedTexts package_name layout texts bytes file input pins next.PinFile = subst (λ one. HasNamedTexts package_name layout texts bytes file input pins one) is taken in
      let more : HasNamedTexts package_name layout texts (bytes ++ piece) new_file input pins next.PinFile = (was.0, pushed was.1, was.2, was.3) in
      subst (λ one. HasNamedTexts package_name layout texts (bytes ++ piece) new_file input pins one) (sym is) more

  -- of the database
  pub fed-database : (file : Collected) (input new_input : DesignInput) (pins new_pins : Option PinReader) (at : NextText) → at ≡ next.Database
      → (TakesInput layout [] input bytes → TakesInput layout [] new_input (bytes ++ piece)) → (HasPins package_name bytes pins → HasPins package_name (bytes ++ piece) new_pins)
      → HasNamedTexts package_name layout texts bytes file input pins at → HasNamedTexts package_name layout texts (bytes ++ piece) file new_input new_pins at
  fed-database file input new_input pins new_pins at is fed read taken =
      let was : HasNamedTexts package_name layout texts bytes file input pins next.Database = subst (λ one. HasNamedTexts package_name layout texts bytes file input pins one) is taken in
      let more : HasNamedTexts package_name layout texts (bytes ++ piece) file new_input new_pins next.Database = (was.0, was.1, was.2, fed was.3, read was.4) in
      subst (λ one. HasNamedTexts package_name layout texts (bytes ++ piece) file new_input new_pins one) (sym is) more

  -- of a text after it
  pub fed-other : (file : Collected) (input new_input : DesignInput) (pins : Option PinReader) (at : NextText) → at ≡ next.Other
      → ((all : List (List ℕ)) → TakesInput layout all input bytes → TakesInput layout all new_input (bytes ++ piece))
      → HasNamedTexts package_name layout texts bytes file input pins at → HasNamedTexts package_name layout texts (bytes ++ piece) file new_input pins at
  fed-other file input new_input pins at is fed taken =
      let was : HasNamedTexts package_name layout texts bytes file input pins next.Other = subst (λ one. HasNamedTexts package_name layout texts bytes file input pins one) is taken in
      let more : HasNamedTexts package_name layout texts (bytes ++ piece) file new_input pins next.Other =
      (was.0, was.1, was.2, was.3, was.4, fed (was.1 ∷ was.2) was.5, was.6) in
      subst (λ one. HasNamedTexts package_name layout texts (bytes ++ piece) file new_input pins one) (sym is) more

-- ---- a text ends

module _ (package_name : List ℕ) (layout : Option (List ℕ)) (texts : List (List ℕ)) (bytes : List ℕ) (file : Collected) (input : DesignInput) (pins : Option PinReader) where
  -- the pin file
  pub closed-pins : HasNamedTexts package_name layout texts bytes file input pins next.PinFile → HasNamedTexts package_name layout (texts ++ bytes ∷ []) [] file input pins next.Database
  closed-pins has = (bytes, ap (λ (all : List (List ℕ)). all ++ bytes ∷ []) has.0, has.1, has.2, has.3)

  module _ (new_input : DesignInput)
      (closed : (all : List (List ℕ)) (open_bytes : List ℕ) → TakesInput layout all input open_bytes → TakesInput layout (all ++ open_bytes ∷ []) new_input []) where
    -- the database
    pub closed-database : HasNamedTexts package_name layout texts bytes file input pins next.Database
        → HasNamedTexts package_name layout (texts ++ bytes ∷ []) [] file new_input pins next.Other
    closed-database has = (has.0, bytes, [], ap (λ (all : List (List ℕ)). all ++ bytes ∷ []) has.1, has.2, closed [] bytes has.3, has.4)

    -- a text after it
    pub closed-other : HasNamedTexts package_name layout texts bytes file input pins next.Other
        → HasNamedTexts package_name layout (texts ++ bytes ∷ []) [] file new_input pins next.Other
    closed-other has =
        (has.0, has.1, has.2 ++ bytes ∷ [], ap (λ (all : List (List ℕ)). all ++ bytes ∷ []) has.3, has.4, closed (has.1 ∷ has.2) bytes has.5, has.6)

-- ---- all texts

module _ (package_name : List ℕ) (layout : Option (List ℕ)) (texts : List (List ℕ)) (intake : NamedIntake) where
  -- what was taken when the last text ended
  pub record TakesAll : Type 0 where
    pub file : Collects (pin_text texts) intake.file
    pub input : TakesInput layout (texts_without_pins texts) intake.input []
    pub pins : HasPins package_name (database_text texts) intake.pins

  taken-as : (taken : List (List ℕ)) → texts ≡ taken → Collects (pin_text taken) intake.file → TakesInput layout (texts_without_pins taken) intake.input []
      → HasPins package_name (database_text taken) intake.pins → TakesAll
  taken-as taken are of_file of_input of_pins = record {
    file = subst (λ (all : List (List ℕ)). Collects (pin_text all) intake.file) (sym are) of_file;
    input = subst (λ (all : List (List ℕ)). TakesInput layout (texts_without_pins all) intake.input []) (sym are) of_input;
    pins = subst (λ (all : List (List ℕ)). HasPins package_name (database_text all) intake.pins) (sym are) of_pins;
  }

  all-taken : (at : NextText) → HasNamedTexts package_name layout texts [] intake.file intake.input intake.pins at → TakesAll
  all-taken next.PinFile has = taken-as [] has.0 has.1 has.2 has.3
  all-taken next.Database has = taken-as (has.0 ∷ []) has.1 has.2 has.3 has.4
  all-taken next.Other has = taken-as (has.0 ∷ has.1 ∷ has.2) has.3 has.4 has.5 has.6

  pub taken-all : TakesNamed package_name layout texts intake [] → TakesAll
  taken-all taken = all-taken intake.next taken
