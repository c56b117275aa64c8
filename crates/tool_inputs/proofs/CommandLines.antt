-- A tool with its help, and whether an argument is named.
use Rattle.std.proofs.Common.{◌≡◌, Bool, true, false, ℕ, List, refl, sym, ap}
use Rattle.std.specs.Prelude.{None, Option, Some, if◌then◌else◌, is_some}
use Rattle.std.specs.Borrow.{Bor}
use Rattle.clap.specs.Words.{Text}
use Rattle.tool_run.specs.Needs.{text_of}
use Rattle.tool_run.specs.Tasks.{Task, Done, asks_for_help, at_once, helped}

-- what is done if help is asked for
pub helped-yes : (name help : List ℕ) (args : List Text) (task : Task) → asks_for_help args ≡ true → at_once name None (Done help) ≡ helped name help args task
helped-yes name help args task asks = ap (λ (b : Bool). if b then at_once name None (Done help) else task) (sym asks)

-- what is done if it isn't
pub helped-no : (name help : List ℕ) (args : List Text) (task : Task) → asks_for_help args ≡ false → task ≡ helped name help args task
helped-no name help args task asks = ap (λ (b : Bool). if b then at_once name None (Done help) else task) (sym asks)

-- whether there is a text
pub text-is_some : (text : Option (Bor (List ℕ))) → is_some (text_of text) ≡ is_some text
text-is_some None = refl
text-is_some (Some text) = refl
