use Rattle.std.proofs.Common.{refl, ap}
use Rattle.std.specs.Prelude.{map}
use Rattle.chipdb_reader.specs.Kept.{Kept, pll_of}
use Rattle.chipdb_reader.specs.Nets.{net_names}
use Rattle.chipdb_reader.specs.Reading.{FitsReader}
use Rattle.chipdb_reader.proofs.chip_db.ChipDb.of.Goals as goal

pub invariant_of-result : goal.invariant_of-result
invariant_of-result c =
    let reader = c.args.reader in
    let closes = c.in_ok-close.ensures in
    let names = closes.names in
    let kept : Kept = record {
      chip = c.args.chip;
      texts = reader.texts.arena;
      bits = reader.bits;
      names = net_names c.close.new.self;
      buffers = c.into_lines.result.items;
      routings = reader.routings.items;
      functions = reader.functions.items;
      extras = reader.extras.items;
      global_inputs = reader.global_inputs.items;
      global_pins = reader.global_pins.items;
      plls = map pll_of c.in_ok-plls.plls.items;
    } in
    let fits : FitsReader c.args.chip reader kept = record {
      chip_is = refl;
      texts = refl;
      bits = refl;
      names = names;
      buffers = ap (λ v. v.items) c.into_lines.ensures;
      routings = refl;
      functions = refl;
      extras = refl;
      global_inputs = refl;
      global_pins = refl;
      plls = ap (map pll_of) c.in_ok-plls.ensures;
    } in
    record {
      indexed = record { texts_indexed = c.requires.ready.texts; nets_indexed = closes.indexed; closed = closes.last };
      sound = c.requires.sound kept fits;
      fit = c.requires.fit kept fits;
    }
