use Rattle.std.proofs.Common.{◌++◌, sym, ap, ◌∙◌}
use Rattle.std.proofs.lemmas.List.{take_rest}
use Rattle.bram_replace.specs.Rams.{listed}
use Rattle.bram_replace.proofs.Rows.{line-changed}
use Rattle.bram_replace.proofs.ram.append_line.Goals as goal

pub returns : goal.returns
returns c =
    let whole = c.args.whole.now in
    line-changed (listed c.args.old.now) (listed c.args.new.now) c.args.row whole c.args.bytes.now.items c.append_digits.new.bytes.items c.extend_from_slice-2.new.self.items
    (sym c.changes.ensures ∙ c.if-not-changes.false) c.in_ok-append_digits.ensures
    (c.in_ok-extend_from_slice.ensures.items ∙ ap (λ rest. c.append_digits.new.bytes.items ++ rest) (take_rest whole 64))
