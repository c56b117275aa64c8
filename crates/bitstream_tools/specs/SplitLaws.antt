-- Laws of the command line of `icesplit`: its command is simple, as `clap`'s statement needs it, and each task has its name.
use Rattle.std.specs.Prelude.{◌≡◌, ℕ, true, List, codes, refl, Option, None, Some}
use Rattle.clap.specs.Words.{Row, Text, first_of, is_simple_and_free}
use Rattle.clap.proofs.OnLiterals.{clap_on_literals}
use Rattle.bitstream_tools.specs.Multi.{number_given}
use Rattle.bitstream_tools.specs.Split.{icesplit_command, icesplit_name, icesplit_task_by, icesplit_task_of}

pub icesplit-simple : is_simple_and_free icesplit_command ≡ true
unfolding clap_on_literals
icesplit-simple = refl

split-speaks : (wanted : Option (Option ℕ)) (boot output : Option Text) → (icesplit_task_of wanted boot output).tool_name ≡ icesplit_name
split-speaks None boot output = refl
split-speaks (Some wanted) None output = refl
split-speaks (Some wanted) (Some boot) output = refl

pub icesplit-speaks : (rows : List Row) → (icesplit_task_by rows).tool_name ≡ icesplit_name
icesplit-speaks rows = split-speaks (number_given (first_of (codes "image") rows)) (first_of (codes "boot") rows) (first_of (codes "output") rows)
