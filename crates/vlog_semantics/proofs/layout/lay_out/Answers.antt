use Rattle.std.proofs.Common.{◌≡◌, ℕ, ap, ap₂, arith, length, ◌∙◌}
use Rattle.std.specs.Prelude.{map}
use Rattle.vlog_semantics.specs.Cells.{gate_of}
use Rattle.vlog_semantics.specs.Laying.{bit_count, word_count}
use Rattle.vlog_semantics.specs.ModuleSlots.{module_wires}
use Rattle.vlog_semantics.proofs.Showing.{start-bits, start-words}
use Rattle.vlog_semantics.proofs.layout.lay_out.Goals as goal

pub returns : goal.returns
returns c =
    let m = c.args.module.now in
    let names = c.in_ok-names.names in
    let plan = c.in_ok-plan.plan in
    let begun = c.in_ok-names.ensures in
    let bits_are : c.len.result ≡ bit_count m = omega (arith, c.len.ensures, names.bits.ok.0, start-bits m names.bits.items begun.bits) in
    let words_are : c.len-2.result ≡ word_count m = omega (arith, c.len-2.ensures, names.words.ok.0, start-words m names.words.items begun.words) in
    record {
      laid_out = record {
        plan = c.in_ok-plan.ensures.plan;
        gates = c.in_ok-plan.ensures.gates
            ∙ c.in_ok-gates.ensures
            ∙ ap (map (gate_of c.len.result c.len-2.result)) (c.deref-3.ensures.value ∙ begun.wires)
            ∙ ap₂ (λ (b w : ℕ). map (gate_of b w) (module_wires m)) bits_are words_are;
        places = begun.places;
        input_count = begun.input_count;
        first_wire = begun.first_wire;
      };
      bits = begun.bits;
      words = begun.words;
      memories = begun.memories;
      cells = omega (arith, c.in_ok-cells.ensures, ap length c.deref.ensures.value, ap length c.deref-2.ensures.value);
    }
