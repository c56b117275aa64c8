-- The fields of a database, and what contracts know of them.
use Rattle.std.specs.Prelude.{map}
use Rattle.chipdb_reader.specs.declared.chip_db.ChipDb.TheInside.{Inside}
use Rattle.chipdb_reader.specs.Fit.{IsFit}
use Rattle.chipdb_reader.specs.Kept.{Kept, database_in, pll_of}
use Rattle.chipdb_reader.specs.Nets.{net_names}
use Rattle.chipdb_reader.specs.Sound.{AreIndexed, IsSound}

-- the lists that are kept
abbrev pub kept_of : Inside → Kept
kept_of db = record {
  chip = db.chip;
  texts = db.texts.arena;
  bits = db.bits;
  names = net_names db.nets;
  buffers = db.buffers.items;
  routings = db.routings.items;
  functions = db.functions.items;
  extras = db.extras.items;
  global_inputs = db.global_inputs.items;
  global_pins = db.global_pins.items;
  plls = map pll_of db.plls.items;
}

-- the kept lists are consistent, and their lines name only what the device has
pub record IsDatabase (db : Inside) : Type 0 where
  pub indexed : AreIndexed db.texts db.nets
  pub sound : IsSound (kept_of db)
  pub fit : IsFit (database_in (kept_of db))
