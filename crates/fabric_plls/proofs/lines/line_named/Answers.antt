use Rattle.std.proofs.Common.{List, ap, ◌∙◌}
use Rattle.std.specs.Prelude.{bytes_eq, find}
use Rattle.std.specs.Option.{option_map}
use Rattle.chipdb_lines.specs.Items.{PllLine}
use Rattle.chipdb_reader.specs.Kept.{pll_line}
use Rattle.chipdb_reader.specs.declared.items.PllLine.{PllLine as KeptLine}
use Rattle.fabric_plls.proofs.Kept.{found-made}
use Rattle.fabric_plls.proofs.lines.line_named.Goals as goal

pub returns : goal.returns
returns c =
    ap (option_map pll_line) (c.line_in.ensures ∙ ap (λ (lines : List KeptLine). find (λ line. bytes_eq c.args.name.now line.name.items) lines) c.deref.ensures.value)
    ∙ found-made pll_line (λ (line : PllLine). bytes_eq c.args.name.now line.name) c.args.pll.now.lines.items
