-- The values that were read, each with its offset.
use Rattle.std.specs.Prelude.{List, map}
use Rattle.vlog_forms.specs.Values.{seen}
use Rattle.vlog_forms.specs.Reading.{Found, found_at}
use Rattle.vlog_form_parser.specs.declared.found.Found as kept

abbrev pub all_found : List kept.Found → List Found
all_found values = map (λ one. found_at one.at (seen one.value)) values
