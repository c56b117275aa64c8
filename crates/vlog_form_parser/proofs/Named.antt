-- The values that are read of a text are named.
use Rattle.std.proofs.Common.{List, [], ◌∷◌}
use Rattle.vlog_module.specs.declared.atoms.Atom.TheVariants as atom
use Rattle.vlog_forms.specs.Values.{Value}
use Rattle.vlog_forms.specs.Values.Value.{Name, Edge, Bit, Word, Index, AnAtom}
use Rattle.vlog_forms.proofs.Sound.{AreSoundValues}
use Rattle.vlog_form_parser.specs.Named.{AreNamed}

pub named-sound : (values : List Value) → AreSoundValues values → AreNamed values
named-sound [] sound = tt
named-sound (Name role name ∷ values) sound = (sound.0, named-sound values sound.1)
named-sound (Edge falling ∷ values) sound = (tt, named-sound values sound.1)
named-sound (Bit bit ∷ values) sound = (tt, named-sound values sound.1)
named-sound (Word word ∷ values) sound = (tt, named-sound values sound.1)
named-sound (Index k ∷ values) sound = (tt, named-sound values sound.1)
named-sound (AnAtom (atom.Bit bit) ∷ values) sound = (tt, named-sound values sound.1)
named-sound (AnAtom (atom.Whole name) ∷ values) sound = (sound.0, named-sound values sound.1)
named-sound (AnAtom (atom.Part name k) ∷ values) sound = (sound.0, named-sound values sound.1)
