use Rattle.std.proofs.Common.{sym, subst}
use Rattle.plane_map.specs.Layout.{IsInCram}
use Rattle.plane_map.specs.declared.device.DeviceName.{DeviceName}
use Rattle.chipdb_reader.specs.Kept.{database_in}
use Rattle.fabric_model.proofs.Nets.{extra_place-inside}
use Rattle.fabric_parts.proofs.io.globals.is_extra_on.Goals as goal

pub cram_bit-requires : goal.cram_bit-requires
cram_bit-requires c =
    let Inside : DeviceName → Type 0 = λ device. IsInCram device c.in-Some.at in
    subst Inside c.requires.device (extra_place-inside (database_in c.args.db.now) c.args.name.now c.in-Some.at c.requires.fit (sym c.in-Some.ensures))
