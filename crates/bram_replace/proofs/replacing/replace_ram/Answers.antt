use Rattle.std.proofs.Common.{◌+◌, ◌++◌, length, get_or, ap, ◌∙◌}
use Rattle.std.proofs.lemmas.Result.{on_ok_weaker}
use Rattle.text_lines.specs.Lines.{lines_of, whole_lines_of, line_at}
use Rattle.bram_replace.specs.ReadModes.{by_columns}
use Rattle.bram_replace.specs.Replaced.{ram_bits, bits_after}
use Rattle.bram_replace.specs.Rams.{listed}
use Rattle.bram_replace.proofs.Orders.{by_columns-same}
use Rattle.bram_replace.proofs.Rows.{after-same, found-same, lines-same}
use Rattle.bram_replace.proofs.Putting.{alike-chain}
use Rattle.bram_replace.proofs.replacing.replace_ram.Goals as goal

pub returns-clause-bytes : goal.returns-clause-bytes
returns-clause-bytes c =
    let text = c.args.text.now in
    let from = c.args.columns.now.file.now in
    let to = c.args.to.now in
    let mode = c.args.mode in
    let before = ram_bits (lines_of text) in
    let old = listed c.ram_bits-old.result in
    let new = listed c.replace_in_mode.new.bits in
    let olds = c.ram_bits-old.ensures in
    let news = alike-chain 256 new (bits_after from to mode old) (bits_after from to mode before) c.replace_in_mode.ensures.bits (after-same from to mode old before c.requires.mode olds) in
    on_ok_weaker c.append_lines.result (λ e. e ∙ ap (λ more. c.args.bytes.now.items ++ more) (lines-same old before new (bits_after from to mode before) (line_at (whole_lines_of text)) olds news)) c.append_lines.ensures.bytes

pub returns-clause-found : goal.returns-clause-found
returns-clause-found c column few =
    let mode = c.args.mode in
    let before = ram_bits (lines_of c.args.text.now) in
    let old = listed c.ram_bits-old.result in
    c.replace_in_mode.ensures.found column few
    ∙ ap (λ xs. get_or c.args.found.now column 0 + length xs)
    (found-same c.args.columns.now.file.now (by_columns mode old) (by_columns mode before) column (by_columns-same mode old before c.requires.mode c.ram_bits-old.ensures))
