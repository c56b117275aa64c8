use Rattle.std.proofs.Common.{◌≡◌, ◌∙◌, ℕ, ◌+◌, ◌<◌, vec_capacity, vec_len, Bool, List, ◌++◌, ap, ap₂, arith, length, length-append, map, refl, sym}
use Rattle.std.proofs.lemmas.List.{length-map}
use Rattle.std.proofs.lemmas.Result.{on_err_weaker, on_ok_weaker}
use Rattle.text_lines.specs.Written.{text_of}
use Rattle.vlog_waves.specs.Variables.Value.{one_bit, sixteen_bits}
use Rattle.vlog_waves.specs.Waves.{changed_lines}
use Rattle.vlog_waves.specs.declared.values.Values.{Values}
use Rattle.vlog_waves.specs.inside.Values.{AreAlike, values_held}
use Rattle.vlog_waves.proofs.Cuts.{changed-four}
use Rattle.vlog_waves.proofs.Texts.{failed, four-joined, length-four}
use Rattle.vlog_waves.proofs.changes.push_changes.Goals as goal

abbrev bit_changes : ℕ → List Bool → List Bool → List ℕ
bit_changes number before after = text_of (changed_lines number (map one_bit before) (map one_bit after))

abbrev word_changes : ℕ → List ℕ → List ℕ → List ℕ
word_changes number before after = text_of (changed_lines number (map sixteen_bits before) (map sixteen_bits after))

-- the changes of each kind, one after another
parts : (before after : Values) (second third fourth : ℕ) → AreAlike before after → second ≡ length before.ports.items → third ≡ length before.ports.items + length before.registers.items
    → fourth ≡ length before.ports.items + length before.registers.items + length before.words.items
    → text_of (changed_lines 0 (values_held before) (values_held after))
    ≡ bit_changes 0 before.ports.items after.ports.items
    ++ (bit_changes second before.registers.items after.registers.items
    ++ (word_changes third before.words.items after.words.items ++ bit_changes fourth before.wires.items after.wires.items))
parts before after second third fourth alike two three four =
    let p = length-map before.ports.items one_bit in
    let r = length-map before.registers.items one_bit in
    let w = length-map before.words.items sixteen_bits in
    changed-four (map one_bit before.ports.items) (map one_bit before.registers.items) (map sixteen_bits before.words.items) (map one_bit before.wires.items)
    (map one_bit after.ports.items) (map one_bit after.registers.items) (map sixteen_bits after.words.items) (map one_bit after.wires.items) second third fourth
    (p ∙ sym alike.ports ∙ sym (length-map after.ports.items one_bit))
    (r ∙ sym alike.registers ∙ sym (length-map after.registers.items one_bit))
    (w ∙ sym alike.words ∙ sym (length-map after.words.items sixteen_bits))
    (omega (arith, two, p))
    (omega (arith, three, p, r))
    (omega (arith, four, p, r, w))

-- how long they are
total : (before after : Values) (second third fourth : ℕ) → AreAlike before after → second ≡ length before.ports.items → third ≡ length before.ports.items + length before.registers.items
    → fourth ≡ length before.ports.items + length before.registers.items + length before.words.items
    → length (text_of (changed_lines 0 (values_held before) (values_held after)))
    ≡ length (bit_changes 0 before.ports.items after.ports.items) + length (bit_changes second before.registers.items after.registers.items)
    + length (word_changes third before.words.items after.words.items)
    + length (bit_changes fourth before.wires.items after.wires.items)
total before after second third fourth alike two three four =
    ap length (parts before after second third fourth alike two three four)
    ∙ length-four (bit_changes 0 before.ports.items after.ports.items) (bit_changes second before.registers.items after.registers.items) (word_changes third before.words.items after.words.items) (bit_changes fourth before.wires.items after.wires.items)

pub returns-in_err-push_changed_bits-clause-full : goal.returns-in_err-push_changed_bits-clause-full
returns-in_err-push_changed_bits-clause-full c =
    let before : Values = c.args.before.now in
    let after : Values = c.args.after.now in
    let second = length before.ports.items in
    let third = length before.ports.items + length before.registers.items in
    let fourth = length before.ports.items + length before.registers.items + length before.words.items in
    let whole = total before after second third fourth c.requires refl refl refl in
    let full : vec_capacity c.args.text.now < vec_len c.args.text.now + length (text_of (changed_lines 0 (values_held before) (values_held after))) =
    omega (
      arith,
      whole,
      c.in_err-push_changed_bits.ensures.full,
      ap length (ap₂ (bit_changes 0) c.deref.ensures.value c.deref-2.ensures.value),
      c.args.text.now.ok.0,
    ) in
    failed c.from_residual.result full

pub returns-in_err-push_changed_bits-2-clause-full : goal.returns-in_err-push_changed_bits-2-clause-full
returns-in_err-push_changed_bits-2-clause-full c =
    let before : Values = c.args.before.now in
    let after : Values = c.args.after.now in
    let second = c.first_register.result in
    let third = length before.ports.items + length before.registers.items in
    let fourth = length before.ports.items + length before.registers.items + length before.words.items in
    let first_made = c.in_ok-push_changed_bits.ensures.text ∙ ap₂ (λ (x y : List Bool). c.args.text.now.items ++ bit_changes 0 x y) c.deref.ensures.value c.deref-2.ensures.value in
    let whole = total before after second third fourth c.requires (c.first_register.ensures ∙ before.ports.ok.0) refl refl in
    let full : vec_capacity c.args.text.now < vec_len c.args.text.now + length (text_of (changed_lines 0 (values_held before) (values_held after))) =
    omega (
      arith,
      whole,
      c.in_err-push_changed_bits-2.ensures.full,
      c.in_ok-push_changed_bits.ensures.room,
      ap length first_made,
      length-append c.args.text.now.items (bit_changes 0 before.ports.items after.ports.items),
      c.push_changed_bits.new.text.ok.0,
      ap length (ap₂ (bit_changes second) c.deref-3.ensures.value c.deref-4.ensures.value),
      c.args.text.now.ok.0,
    ) in
    failed c.from_residual-in_err-push_changed_bits-2.result full

pub returns-in_err-push_changed_words-clause-full : goal.returns-in_err-push_changed_words-clause-full
returns-in_err-push_changed_words-clause-full c =
    let before : Values = c.args.before.now in
    let after : Values = c.args.after.now in
    let second = c.first_register.result in
    let third = c.first_word.result in
    let fourth = length before.ports.items + length before.registers.items + length before.words.items in
    let first_made = c.in_ok-push_changed_bits.ensures.text ∙ ap₂ (λ (x y : List Bool). c.args.text.now.items ++ bit_changes 0 x y) c.deref.ensures.value c.deref-2.ensures.value in
    let second_made = c.in_ok-push_changed_bits-2.ensures.text ∙ ap₂ (λ (x y : List Bool). c.push_changed_bits.new.text.items ++ bit_changes second x y) c.deref-3.ensures.value c.deref-4.ensures.value in
    let whole = total before after second third fourth c.requires (c.first_register.ensures ∙ before.ports.ok.0) (omega (arith, c.first_word.ensures, before.ports.ok.0, before.registers.ok.0)) refl in
    let full : vec_capacity c.args.text.now < vec_len c.args.text.now + length (text_of (changed_lines 0 (values_held before) (values_held after))) =
    omega (
      arith,
      whole,
      c.in_err-push_changed_words.ensures.full,
      c.in_ok-push_changed_bits.ensures.room,
      ap length first_made,
      length-append c.args.text.now.items (bit_changes 0 before.ports.items after.ports.items),
      c.push_changed_bits.new.text.ok.0,
      c.in_ok-push_changed_bits-2.ensures.room,
      ap length second_made,
      length-append c.push_changed_bits.new.text.items (bit_changes second before.registers.items after.registers.items),
      c.push_changed_bits-2.new.text.ok.0,
      ap length (ap₂ (word_changes third) c.deref-5.ensures.value c.deref-6.ensures.value),
      c.args.text.now.ok.0,
    ) in
    failed c.from_residual-in_err-push_changed_words.result full

pub returns-clause-full : goal.returns-clause-full
returns-clause-full c =
    let before : Values = c.args.before.now in
    let after : Values = c.args.after.now in
    let second = c.first_register.result in
    let third = c.first_word.result in
    let fourth = c.first_wire.result in
    let first_made = c.in_ok-push_changed_bits.ensures.text ∙ ap₂ (λ (x y : List Bool). c.args.text.now.items ++ bit_changes 0 x y) c.deref.ensures.value c.deref-2.ensures.value in
    let second_made = c.in_ok-push_changed_bits-2.ensures.text ∙ ap₂ (λ (x y : List Bool). c.push_changed_bits.new.text.items ++ bit_changes second x y) c.deref-3.ensures.value c.deref-4.ensures.value in
    let third_made = c.in_ok-push_changed_words.ensures.text ∙ ap₂ (λ (x y : List ℕ). c.push_changed_bits-2.new.text.items ++ word_changes third x y) c.deref-5.ensures.value c.deref-6.ensures.value in
    let whole = total before after second third fourth c.requires (c.first_register.ensures ∙ before.ports.ok.0) (omega (arith, c.first_word.ensures, before.ports.ok.0, before.registers.ok.0)) (omega (arith, c.first_wire.ensures, before.ports.ok.0, before.registers.ok.0, before.words.ok.0)) in
    on_err_weaker c.push_changed_bits-3.result
    (λ full. omega (
      arith,
      whole,
      full,
      c.in_ok-push_changed_bits.ensures.room,
      ap length first_made,
      length-append c.args.text.now.items (bit_changes 0 before.ports.items after.ports.items),
      c.push_changed_bits.new.text.ok.0,
      c.in_ok-push_changed_bits-2.ensures.room,
      ap length second_made,
      length-append c.push_changed_bits.new.text.items (bit_changes second before.registers.items after.registers.items),
      c.push_changed_bits-2.new.text.ok.0,
      c.in_ok-push_changed_words.ensures.room,
      ap length third_made,
      length-append c.push_changed_bits-2.new.text.items (word_changes third before.words.items after.words.items),
      c.push_changed_words.new.text.ok.0,
      ap length (ap₂ (bit_changes fourth) c.deref-7.ensures.value c.deref-8.ensures.value),
      c.args.text.now.ok.0,
    ))
    c.push_changed_bits-3.ensures.full

pub returns-clause-text : goal.returns-clause-text
returns-clause-text c =
    let before = c.args.before.now in
    let after = c.args.after.now in
    let second = c.first_register.result in
    let third = c.first_word.result in
    let fourth = c.first_wire.result in
    let start = c.args.text.now.items in
    let first_made = c.in_ok-push_changed_bits.ensures.text ∙ ap₂ (λ (x y : List Bool). start ++ bit_changes 0 x y) c.deref.ensures.value c.deref-2.ensures.value in
    let second_made = c.in_ok-push_changed_bits-2.ensures.text ∙ ap₂ (λ (x y : List Bool). c.push_changed_bits.new.text.items ++ bit_changes second x y) c.deref-3.ensures.value c.deref-4.ensures.value in
    let third_made = c.in_ok-push_changed_words.ensures.text ∙ ap₂ (λ (x y : List ℕ). c.push_changed_bits-2.new.text.items ++ word_changes third x y) c.deref-5.ensures.value c.deref-6.ensures.value in
    on_ok_weaker c.push_changed_bits-3.result
    (λ made. four-joined start c.push_changed_bits.new.text.items c.push_changed_bits-2.new.text.items c.push_changed_words.new.text.items c.push_changed_bits-3.new.text.items
    (bit_changes 0 before.ports.items after.ports.items) (bit_changes second before.registers.items after.registers.items) (word_changes third before.words.items after.words.items) (bit_changes fourth before.wires.items after.wires.items)
    first_made second_made third_made
    (made ∙ ap₂ (λ (x y : List Bool). c.push_changed_words.new.text.items ++ bit_changes fourth x y) c.deref-7.ensures.value c.deref-8.ensures.value)
    ∙ ap (λ text. start ++ text)
    (sym (parts before after second third fourth c.requires (c.first_register.ensures ∙ before.ports.ok.0) (omega (arith, c.first_word.ensures, before.ports.ok.0, before.registers.ok.0))
    (omega (arith, c.first_wire.ensures, before.ports.ok.0, before.registers.ok.0, before.words.ok.0)))))
    c.push_changed_bits-3.ensures.text
