use Rattle.std.proofs.Common.{◌+◌, length, get_or, sym, ap, ◌∙◌, subst}
use Rattle.bram_replace.specs.ReadModes.{by_columns}
use Rattle.bram_replace.specs.Replaced.{bits_after, columns_found}
use Rattle.bram_replace.specs.Rams.{AreAlike, listed}
use Rattle.bram_replace.proofs.Rows.{by_columns-zero, found-same, put-back, put-straight}
use Rattle.bram_replace.proofs.ram.replace_in_mode.Goals as goal

pub returns-then-mode-eq0-clause-bits : goal.returns-then-mode-eq0-clause-bits
returns-then-mode-eq0-clause-bits c =
    let from = c.args.columns.now.file.now in
    let to = c.args.to.now in
    let old = listed c.args.bits.now in
    let new = listed c.replace_columns.new.bits in
    subst (λ mode. AreAlike 256 new (bits_after from to mode old)) (sym c.if-mode-eq0.true) (put-straight from to old new c.replace_columns.ensures.bits)

pub returns-then-mode-eq0-clause-found : goal.returns-then-mode-eq0-clause-found
returns-then-mode-eq0-clause-found c column few =
    let from = c.args.columns.now.file.now in
    let old = listed c.args.bits.now in
    c.replace_columns.ensures.found column few
    ∙ ap (λ xs. get_or c.args.found.now column 0 + length xs) (found-same from old (by_columns 0 old) column (by_columns-zero old))
    ∙ ap (λ mode. get_or c.args.found.now column 0 + length (columns_found from (by_columns mode old) column)) (sym c.if-mode-eq0.true)

pub returns-clause-bits : goal.returns-clause-bits
returns-clause-bits c =
    put-back c.args.columns.now.file.now c.args.to.now c.args.mode (listed c.args.bits.now) (listed c.by_columns-own.result) (listed c.replace_columns-2.new.bits) (listed c.from_columns.result)
    c.requires.mode c.by_columns-own.ensures c.replace_columns-2.ensures.bits c.from_columns.ensures

pub returns-clause-found : goal.returns-clause-found
returns-clause-found c column few =
    c.replace_columns-2.ensures.found column few
    ∙ ap (λ xs. get_or c.args.found.now column 0 + length xs)
    (found-same c.args.columns.now.file.now (listed c.by_columns-own.result) (by_columns c.args.mode (listed c.args.bits.now)) column c.by_columns-own.ensures)
