use Rattle.std.proofs.Common.{[], ◌++◌, sym, ◌∙◌}
use Rattle.bram_replace.proofs.Passed.{Passes-none, Passes-more}
use Rattle.bram_replace.proofs.replacing.from_ram.Goals as goal

pub loop-line-init : goal.loop-line-init
loop-line-init c = ([], Passes-none c.args.text.now)

pub loop-line-preserved : goal.loop-line-preserved
loop-line-preserved c =
    let line = c.in-Some.line in
    let passed = c.loop-line.invariant.0 in (
      passed ++ line.whole.now,
      Passes-more c.args.text.now passed c.loop-line.left.now line.content.now line.whole.now line.rest.now c.loop-line.invariant.1
          c.in-Some.ensures.lines c.in-Some.ensures.whole_lines c.in-Some.ensures.parts (sym c.is_ram_data.ensures ∙ c.if-is_ram_data.false),
    )
