-- Values whose names are names: no reserved words.
use Rattle.std.specs.Prelude.{List, [], ◌∷◌}
use Rattle.vlog_module.specs.declared.atoms.Atom.TheVariants as atom
use Rattle.vlog_module.specs.Names.{IsName}
use Rattle.vlog_forms.specs.Values.{Value}
use Rattle.vlog_forms.specs.Values.Value.{Name, AnAtom}

abbrev pub IsNamed : Value → Type 0
IsNamed (Name role name) = IsName name
IsNamed (AnAtom (atom.Whole name)) = IsName name
IsNamed (AnAtom (atom.Part name k)) = IsName name
IsNamed _ = Unit {0}

abbrev pub AreNamed : List Value → Type 0
AreNamed [] = Unit {0}
AreNamed (value ∷ values) = IsNamed value × AreNamed values
