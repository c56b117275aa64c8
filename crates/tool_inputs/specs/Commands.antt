-- Command lines, in terms of what `clap` states that it takes.
use Rattle.std.specs.Prelude.{◌==◌, ℕ, Bool, true, false, List, [], ◌∷◌, Option, Some, None, codes, length, unwrap_or, Vec, String, map, string_bytes}
use Rattle.std.specs.declared.alloc.Global.{Global}
use Rattle.std.specs.Str.{bytes_eq}
use Rattle.clap.specs.Words.{App, Row, Rule, Text, all_of, fault_of, first_of, new_app, new_rule, with_rule}
use Rattle.clap.specs.declared.builder.ArgAction.TheVariants.{Append, Set, SetTrue}

-- the arguments of a command line as bytes
abbrev pub texts_of : Vec (String Global) Global → List Text
texts_of args = map string_bytes args.items

-- ---- the arguments of a command

-- `-c`: there or not
abbrev pub flag : Text → ℕ → Rule
flag id short = record (new_rule id) { short = Some short; action = Some SetTrue }

-- `--id`: there or not
abbrev pub long_flag : Text → Rule
long_flag id = record (new_rule id) { long = Some id; action = Some SetTrue }

-- `-c VALUE`
abbrev pub short_option : Text → ℕ → Rule
short_option id short = record (new_rule id) { short = Some short; action = Some Set }

-- `--id VALUE`
abbrev pub long_option : Text → Rule
long_option id = record (new_rule id) { long = Some id; action = Some Set }

-- `[VALUE]`, and a value that must be there
abbrev pub positional : Text → Rule
positional id = record (new_rule id) { action = Some Set }

abbrev pub required : Text → Rule
required id = record (new_rule id) { action = Some Set; required = true }

-- `[VALUE ...]`
abbrev pub several : Text → Rule
several id = record (new_rule id) { action = Some Append }

-- the command of this name with these arguments
abbrev pub with_rules : App → List Rule → App
with_rules app [] = app
with_rules app (rule ∷ rules) = with_rules (with_rule app rule) rules

abbrev pub command : Text → List Rule → App
command name rules = with_rules (new_app name) rules

-- ---- what a command finds in the arguments

-- the arguments are taken: `clap` finds no fault in them
abbrev pub is_taken : App → List Text → Bool
is_taken app args = length (fault_of app args) == 0

-- whether a flag is there
abbrev pub is_true : Option Text → Bool
is_true None = false
is_true (Some text) = bytes_eq text (codes "true")

abbrev pub has_flag : Text → List Row → Bool
has_flag id rows = is_true (first_of id rows)

-- the values of an argument that may come several times; an empty list if there is no value
abbrev pub values_of : Text → List Row → List Text
values_of id rows = unwrap_or (all_of id rows) []
