-- The name of the module, from the command line.
use Rattle.std.specs.Prelude.{nat_le, ◌&&◌, length, codes, if◌then◌else◌, Option, None, Some}
use Rattle.clap.specs.Words.{Text}
use Rattle.vlog_module.specs.Names.{is_name}

-- the name that a text is, if it is one (IEEE Std 1364-2005, 3.7) and has at most 64 bytes
abbrev pub module_name : Text → Option Text
module_name text = if nat_le (length text) 64 && is_name text then Some text else None

-- the name of the module: `chip` if none is given
abbrev pub name_given : Option Text → Option Text
name_given None = Some (codes "chip")
name_given (Some text) = module_name text
