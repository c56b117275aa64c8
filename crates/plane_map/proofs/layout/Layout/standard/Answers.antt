use Rattle.std.proofs.Common.{refl, sym}
use Rattle.plane_map.specs.Layout.{standard_side_columns, standard_pad_columns, standard_pad_rows, standard_banks}
use Rattle.plane_map.proofs.Standard.{standard_is_layout, standard-room, standard-cut}
use Rattle.plane_map.proofs.layout.Layout.standard.Goals as goal

pub starts_of-requires : goal.starts_of-requires
starts_of-requires c = standard-room c.args.device c.standard_widths-widths.result c.standard_widths-widths.ensures

pub invariant_of-result : goal.invariant_of-result
unfolding standard_side_columns standard_pad_columns standard_pad_rows standard_banks
invariant_of-result c =
    let cut = standard-cut c.args.device c.standard_widths-widths.result c.standard_widths-widths.ensures in
    let standard = standard_is_layout c.args.device in
    record {
      layout = record {
        widths = rw cut standard.widths;
        side_columns = standard.side_columns;
        pad_columns = standard.pad_columns;
        pad_rows = standard.pad_rows;
        banks = standard.banks;
      };
      padded = rw cut (sym c.standard_widths-widths.ensures);
      starts = sym c.starts_of.ensures;
    }

pub returns : goal.returns
unfolding standard_side_columns standard_pad_columns standard_pad_rows standard_banks
returns c = rw (standard-cut c.args.device c.standard_widths-widths.result c.standard_widths-widths.ensures) refl
