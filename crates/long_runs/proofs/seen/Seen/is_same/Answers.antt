use Rattle.std.proofs.Common.{◌≡◌, ◌∙◌, true, sym}
use Rattle.long_runs.proofs.Same.{outputs-same}
use Rattle.long_runs.proofs.seen.Seen.is_same.Goals as goal

pub returns-else-are_same_bits-clause-other : goal.returns-else-are_same_bits-clause-other
returns-else-are_same_bits-clause-other c m before entry sees shows other is =
    let same = c.deref.ensures.value ∙ sees.outputs ∙ outputs-same c.args.registers before entry is ∙ sym (c.outputs.ensures m entry shows) in
    let yes : c.are_same_bits.result ≡ true = c.are_same_bits.ensures.1 same in
    absurd cc
