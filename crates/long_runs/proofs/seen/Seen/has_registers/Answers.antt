use Rattle.std.proofs.Common.{◌≡◌, ◌<◌, ◌∙◌, true, subst, sym}
use Rattle.std.specs.Prelude.{All}
use Rattle.long_runs.proofs.Same.{registers-same, sixteen-same}
use Rattle.long_runs.proofs.seen.Seen.has_registers.Goals as goal

pub returns-then-are_same_bits-clause-other : goal.returns-then-are_same_bits-clause-other
returns-then-are_same_bits-clause-other c m before entry bits words shows other is =
    let mine = c.deref-then-are_same_bits.ensures.value ∙ words in
    let theirs = c.words.ensures m entry shows in
    let few = subst (All (λ word. word < 65536)) mine c.are_same_words.ensures.some_fit in
    let less = subst (All (λ word. word < 65536)) theirs c.are_same_words.ensures.others_fit in
    let same = mine ∙ sixteen-same before entry few less is ∙ sym theirs in
    let yes : c.are_same_words.result ≡ true = c.are_same_words.ensures.same.1 same in
    absurd cc

pub returns-else-are_same_bits-clause-other : goal.returns-else-are_same_bits-clause-other
returns-else-are_same_bits-clause-other c m before entry bits words shows other is =
    let same = c.deref.ensures.value ∙ bits ∙ registers-same before entry is ∙ sym (c.registers.ensures m entry shows) in
    let yes : c.are_same_bits.result ≡ true = c.are_same_bits.ensures.1 same in
    absurd cc
