-- A chip database, and one or two images, that came in pieces, and the answer of a tool for them.
use Rattle.std.proofs.Common.{◌≡◌, ◌∷◌, [], ◌++◌, ℕ, List, refl, sym, ap, subst, ◌∙◌}
use Rattle.std.specs.Prelude.{get_or, Option, Some, None, Result, Ok, Err}
use Rattle.layout_file.specs.declared.layouts.Layouts.{Layouts}
use Rattle.ice_image.specs.Configuration.{Configuration}
use Rattle.chipdb_reader.specs.Database.{Database}
use Rattle.chipdb_reader.specs.Feeding.{Intake, StandsFor}
use Rattle.tool_run.specs.Collected.{Collects}
use Rattle.tool_run.specs.Stops.{StopsWith}
use Rattle.tool_run.specs.Tasks.{Answer}
use Rattle.tool_run.specs.declared.collected.Collected.{Collected}
use Rattle.tool_run.specs.declared.tool.Stop.{Stop}
use Rattle.tool_run.specs.declared.tool.Stop.TheVariants.{Refused, Quiet, UsageError, Memory}
use Rattle.tool_inputs.specs.Databases.{StopsDatabase, database_read}
use Rattle.tool_inputs.specs.DesignInput.{HasTexts, answer_of_both, answer_of_two, answer_to_both, answer_to_second, input_answer, two_answer}
use Rattle.tool_inputs.specs.Images.{StopsImage, image_in, image_read}
use Rattle.tool_inputs.specs.Layouts.{answer_under, layouts_for}
use Rattle.tool_inputs.specs.declared.design_input.NextText.{NextText}
use Rattle.tool_inputs.specs.declared.design_input.NextText.TheVariants as next

-- ---- a text ends

pub closed-database : (texts : List (List ℕ)) (bytes : List ℕ) (db : Intake) (image second : Collected) → HasTexts texts bytes db image second next.Database
    → HasTexts (texts ++ bytes ∷ []) [] db image second next.Image
closed-database [] bytes db image second has = (bytes, refl, has.1, has.2, has.3)
closed-database (text ∷ texts) bytes db image second has = absurd (cc (has.0))

pub closed-image : (texts : List (List ℕ)) (bytes : List ℕ) (db : Intake) (image second : Collected) → HasTexts texts bytes db image second next.Image
    → HasTexts (texts ++ bytes ∷ []) [] db image second next.Second
closed-image texts bytes db image second has = (has.0, bytes, ap (λ (all : List (List ℕ)). all ++ bytes ∷ []) has.1, has.2, has.3, has.4)

pub closed-second : (texts : List (List ℕ)) (bytes : List ℕ) (db : Intake) (image second : Collected) → HasTexts texts bytes db image second next.Second
    → HasTexts (texts ++ bytes ∷ []) [] db image second next.Other
closed-second texts bytes db image second has =
    (has.0, has.1, bytes, [], ap (λ (all : List (List ℕ)). all ++ bytes ∷ []) has.2, has.3, has.4, has.5)

pub closed-other : (texts : List (List ℕ)) (bytes : List ℕ) (db : Intake) (image second : Collected) → HasTexts texts bytes db image second next.Other
    → HasTexts (texts ++ bytes ∷ []) [] db image second next.Other
closed-other texts bytes db image second has =
    (has.0, has.1, has.2, has.3 ++ bytes ∷ [], ap (λ (all : List (List ℕ)). all ++ bytes ∷ []) has.4, has.5, has.6, has.7)

-- ---- the texts of all

module _ (texts : List (List ℕ)) (db : Intake) (image second : Collected) where
  -- each part has taken the text of its place
  pub record TakesAll : Type 0 where
    pub database : StandsFor (get_or texts 0 []) db
    pub first : Collects (get_or texts 1 []) image
    pub other : Collects (get_or texts 2 []) second

  taken-as : (taken : List (List ℕ)) → texts ≡ taken → StandsFor (get_or taken 0 []) db → Collects (get_or taken 1 []) image → Collects (get_or taken 2 []) second → TakesAll
  taken-as taken are of_database of_image of_second = record {
    database = subst (λ (all : List (List ℕ)). StandsFor (get_or all 0 []) db) (sym are) of_database;
    first = subst (λ (all : List (List ℕ)). Collects (get_or all 1 []) image) (sym are) of_image;
    other = subst (λ (all : List (List ℕ)). Collects (get_or all 2 []) second) (sym are) of_second;
  }

  pub all-taken : (following : NextText) → HasTexts texts [] db image second following → TakesAll
  all-taken next.Database has = taken-as [] has.0 has.1 has.2 has.3
  all-taken next.Image has = taken-as (has.0 ∷ []) has.1 has.2 has.3 has.4
  all-taken next.Second has = taken-as (has.0 ∷ has.1 ∷ []) has.2 has.3 has.4 has.5
  all-taken next.Other has = taken-as (has.0 ∷ has.1 ∷ has.2 ∷ has.3) has.4 has.5 has.6 has.7

-- ---- the answer

module _ (answer : Database → Configuration → Answer) where
  pub stops-database : (db : Result Database (List ℕ)) (image : Result Configuration (List ℕ)) (stop : Stop) → StopsDatabase db stop → StopsWith (answer_of_both db image answer) stop
  stops-database db image (Refused refusal) stops = rw stops refl
  stops-database db image Quiet stops = absurd stops
  stops-database db image (UsageError refusal) stops = absurd stops
  stops-database db image Memory stops = tt

  pub stops-image : (read : Result Database (List ℕ)) (db : Database) (image : Result Configuration (List ℕ)) (stop : Stop) → read ≡ Ok db → StopsImage image stop → StopsWith (answer_of_both read image answer) stop
  stops-image read db image (Refused refusal) is stops = rw (is, stops) refl
  stops-image read db image Quiet is stops = absurd stops
  stops-image read db image (UsageError refusal) is stops = absurd stops
  stops-image read db image Memory is stops = tt

  pub both-read : (read : Result Database (List ℕ)) (image : Result Configuration (List ℕ)) (db : Database) (config : Configuration) → read ≡ Ok db → image ≡ Ok config → answer_of_both read image answer ≡ answer db config
  both-read read image db config is configures = rw (is, configures) refl

  -- under the layouts that are read
  pub input_under : (layout : Option (List ℕ)) (texts : List (List ℕ)) (layouts : Layouts) → layouts_for layout ≡ Ok layouts
      → input_answer layout answer texts ≡ answer_to_both answer (get_or texts 0 []) (get_or texts 1 []) layouts
  input_under layout texts layouts is = ap (λ (read : Result Layouts (List ℕ)). answer_under read (answer_to_both answer (get_or texts 0 []) (get_or texts 1 []))) is

-- ---- the answer for two images

module _ (answer : Database → Configuration → Configuration → Answer) where
  pub stops-first : (read : Result Database (List ℕ)) (db : Database) (first second : Result Configuration (List ℕ)) (stop : Stop) → read ≡ Ok db → StopsImage first stop
      → StopsWith (answer_of_two read first second answer) stop
  stops-first read db first second stop is stops = stops-image (λ db image. answer_to_second second (answer db image)) read db first stop is stops

  second-stops : (db : Database) (one : Configuration) (second : Result Configuration (List ℕ)) (stop : Stop) → StopsImage second stop
      → StopsWith (answer_to_second second (answer db one)) stop
  second-stops db one second (Refused refusal) stops = rw stops refl
  second-stops db one second Quiet stops = absurd stops
  second-stops db one second (UsageError refusal) stops = absurd stops
  second-stops db one second Memory stops = tt

  pub stops-second : (read : Result Database (List ℕ)) (db : Database) (first second : Result Configuration (List ℕ)) (one : Configuration) (stop : Stop) → read ≡ Ok db → first ≡ Ok one
      → StopsImage second stop → StopsWith (answer_of_two read first second answer) stop
  stops-second read db first second one stop is configures stops =
      subst (λ (told : Answer). StopsWith told stop) (sym (both-read (λ db image. answer_to_second second (answer db image)) read first db one is configures))
      (second-stops db one second stop stops)

  pub two-read : (read : Result Database (List ℕ)) (first second : Result Configuration (List ℕ)) (db : Database) (one two : Configuration) → read ≡ Ok db → first ≡ Ok one → second ≡ Ok two
      → answer_of_two read first second answer ≡ answer db one two
  two-read read first second db one two is first_is second_is =
      both-read (λ db image. answer_to_second second (answer db image)) read first db one is first_is ∙ ap (λ image. answer_to_second image (answer db one)) second_is

  -- under the layouts that are read, and by the names of the files
  pub two_under : (layout : Option (List ℕ)) (first_name second_name : List ℕ) (texts : List (List ℕ)) (layouts : Layouts) → layouts_for layout ≡ Ok layouts
      → two_answer layout first_name second_name answer texts
      ≡ answer_of_two (database_read (get_or texts 0 [])) (image_in (Some first_name) (image_read layouts (get_or texts 1 [])))
      (image_in (Some second_name) (image_read layouts (get_or texts 2 []))) answer
  two_under layout first_name second_name texts layouts is =
      ap (λ (read : Result Layouts (List ℕ)). answer_under read (λ layouts.
      answer_of_two (database_read (get_or texts 0 [])) (image_in (Some first_name) (image_read layouts (get_or texts 1 [])))
      (image_in (Some second_name) (image_read layouts (get_or texts 2 []))) answer)) is

-- an image that is read has no message
pub in-file : (file : Option (List ℕ)) (read : Result Configuration (List ℕ)) (image : Configuration) → read ≡ Ok image → image_in file read ≡ Ok image
in-file file read image is = ap (image_in file) is

-- an image of a file that isn't named is told as it is
pub unnamed : (read : Result Configuration (List ℕ)) → image_in None read ≡ read
unnamed (Ok image) = refl
unnamed (Err text) = refl
