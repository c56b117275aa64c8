-- The name of a module, from the command line.
use Rattle.std.proofs.Common.{◌≡◌, refl}
use Rattle.std.specs.Prelude.{Option, None, Some, option_map}
use Rattle.design_tools.specs.declared.name.ModuleName.{ModuleName}
use Rattle.design_tools.specs.Vlog.{name_text}

-- the bytes of a name, in the two ways
pub name_text-map : (name : Option ModuleName) → option_map (λ (n : ModuleName). n.text.now) name ≡ name_text name
name_text-map None = refl
name_text-map (Some name) = refl
