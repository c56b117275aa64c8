-- What `icebox_diff` answers of equal images, and of others.
use Rattle.std.specs.Prelude.{◌≡◌, ◌↔◌, ℕ, true, false, List, [], get_or, Option, None, Ok}
use Rattle.layout_file.specs.declared.layouts.Layouts.{Layouts}
use Rattle.ice_image.specs.Configuration.{Configuration}
use Rattle.chipdb_reader.specs.Database.{Database}
use Rattle.image_diff.specs.Differences.{diff_fault_of}
use Rattle.image_diff.specs.Laws.{AreAlike}
use Rattle.tool_run.specs.Tasks.{Done, Quiet}
use Rattle.tool_inputs.specs.Databases.{database_read}
use Rattle.tool_inputs.specs.Images.{image_read}
use Rattle.tool_inputs.specs.Layouts.{layouts_for}
use Rattle.fabric_tools.specs.Diff.{diff_answer}

-- Of the layout file, if one is named, and of these texts, a database and two images are read that can be compared.
pub record AreComparable (layout : Option (List ℕ)) (texts : List (List ℕ)) (first second : Configuration) : Type 0 where
  pub layouts : Layouts
  pub database : Database
  pub layouts_are : layouts_for layout ≡ Ok layouts
  pub database_is : database_read (get_or texts 0 []) ≡ Ok database
  pub first_is : image_read layouts (get_or texts 1 []) ≡ Ok first
  pub second_is : image_read layouts (get_or texts 2 []) ≡ Ok second
  pub faultless : diff_fault_of database first second ≡ None

-- Then nothing is written exactly where the settings and all bits of the images are the same. With `-q` nothing is written at all, and
-- the answer is quiet exactly where they aren't.
pub record TellsEqual (layout : Option (List ℕ)) (texts : List (List ℕ)) (first_name second_name : List ℕ) (first second : Configuration) : Type 0 where
  pub told : (diff_answer false first_name second_name layout texts ≡ Done []) ↔ AreAlike first second
  pub quiet : (diff_answer true first_name second_name layout texts ≡ Done []) ↔ AreAlike first second
  pub other : (diff_answer true first_name second_name layout texts ≡ Quiet) ↔ ¬ AreAlike first second
