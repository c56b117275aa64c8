use Rattle.std.proofs.Common.{◌++◌, ap, ◌∙◌}
use Rattle.bram_replace.proofs.Passed.{passed-is}
use Rattle.bram_replace.proofs.replacing.append_others.Goals as goal

pub returns : goal.returns
returns c =
    let passed = c.from_ram-rest.ensures.0 in
    let passes = c.from_ram-rest.ensures.1 in
    (passed, passes, c.in_ok-extend_from_slice.ensures.items ∙ ap (λ more. c.args.bytes.now.items ++ more) (passed-is c.args.text.now passed c.from_ram-rest.result.now passes))
