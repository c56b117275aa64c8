use Rattle.std.proofs.Common.{◌∙◌, ap, length, sym}
use Rattle.std.proofs.lemmas.List.{with_items_is}
use Rattle.long_runs.proofs.Kept.{same-outputs, same-registers, same-words}
use Rattle.long_runs.proofs.seen.Seen.take.Goals as goal

pub returns-then-registers : goal.returns-then-registers
returns-then-registers c m before entry first second sees shows =
    let seen = c.args.self.now in
    let outputs = c.outputs.ensures m entry shows in
    let bits = c.registers.ensures m entry shows in
    let words = c.words.ensures m entry shows in
    let outputs_size = ap length sees.outputs ∙ same-outputs m before entry first second ∙ sym (ap length outputs) in
    let bits_size = ap length (sees.bits c.if-registers.true) ∙ same-registers m before entry first second ∙ sym (ap length bits) in
    let words_size = ap length (sees.words c.if-registers.true) ∙ same-words m before entry first second ∙ sym (ap length words) in
    let outputs_taken = c.copy_bits.ensures (ap length c.deref_mut.ensures.value ∙ outputs_size) in
    let bits_taken = c.copy_bits-then-registers.ensures (ap length c.deref_mut-then-registers.ensures.value ∙ bits_size) in
    let words_taken = c.copy_words.ensures (ap length c.deref_mut-then-registers-2.ensures.value ∙ words_size) in
    record {
      outputs = with_items_is seen.outputs c.copy_bits.new.to (ap length outputs_taken ∙ sym outputs_size ∙ sym seen.outputs.ok.0) ∙ outputs_taken ∙ outputs;
      bits = λ asked. with_items_is seen.registers c.copy_bits-then-registers.new.to (ap length bits_taken ∙ sym bits_size ∙ sym seen.registers.ok.0) ∙ bits_taken ∙ bits;
      words = λ asked. with_items_is seen.words c.copy_words.new.to (ap length words_taken ∙ sym words_size ∙ sym seen.words.ok.0) ∙ words_taken ∙ words;
    }
