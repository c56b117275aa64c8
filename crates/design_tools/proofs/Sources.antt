-- What is written for a database and an image that were read.
use Rattle.std.proofs.Common.{◌≡◌, ℕ, Bool, List, [], subst, sym}
use Rattle.std.specs.Prelude.{Option, get_or}
use Rattle.ice_image.specs.Configuration.{Configuration}
use Rattle.ice_image.specs.Either.{configuration_of}
use Rattle.chipdb_reader.specs.Database.{Database}
use Rattle.chipdb_reader.specs.Kept.{database_in}
use Rattle.asc_text.specs.declared.file.Symbol.{Symbol}
use Rattle.tool_run.specs.Tasks.{Answer}
use Rattle.tool_inputs.specs.DesignInput.{input_answer}
use Rattle.design_tools.specs.Sources.{symbols_in}
use Rattle.design_tools.specs.Vlog.{listed}
use Rattle.design_tools.specs.declared.source.DesignSource.{DesignSource}

-- what holds of the answer for what was read, with the symbols that are kept, holds of the answer for the texts
pub told-of : (layout : Option (List ℕ)) (texts : List (List ℕ)) (answer : Option (List Symbol) → Database → Configuration → Answer) (source : DesignSource) (has_list : Bool) (P : Answer → Type 0)
    → input_answer layout (answer (listed has_list (get_or texts 1 []))) texts ≡ answer (listed has_list (get_or texts 1 [])) (database_in source.db) (configuration_of source.image)
    → symbols_in source.symbols ≡ listed has_list (get_or texts 1 [])
    → P (answer (symbols_in source.symbols) (database_in source.db) (configuration_of source.image)) → P (input_answer layout (answer (listed has_list (get_or texts 1 []))) texts)
told-of layout texts answer source has_list P read symbols holds =
    subst P (sym read) (subst (λ (some : Option (List Symbol)). P (answer some (database_in source.db) (configuration_of source.image))) symbols holds)
