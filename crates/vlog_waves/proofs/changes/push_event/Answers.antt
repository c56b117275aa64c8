use Rattle.std.proofs.Common.{◌∙◌, ◌+◌, ◌<◌, ◌≤◌, ◌^◌, vec_capacity, vec_len, ℕ, List, [], ◌∷◌, ◌++◌, ap, append_assoc, arith, length, length-append, sym}
use Rattle.std.proofs.lemmas.Result.{on_err_weaker, on_ok_weaker}
use Rattle.text_lines.specs.Written.{text_of}
use Rattle.vlog_waves.specs.Waves.{changed_lines, time_line}
use Rattle.vlog_waves.specs.declared.values.Values.{Values}
use Rattle.vlog_waves.specs.inside.Values.{event_room, values_held}
use Rattle.vlog_waves.proofs.Room.{changes-short, count-held, time-short}
use Rattle.vlog_waves.proofs.Texts.{failed, text_of-cons}
use Rattle.vlog_waves.proofs.changes.push_event.Goals as goal

-- the changes have 32 bytes a variable at most
changes-fit : (before after : Values) → length (text_of (changed_lines 0 (values_held before) (values_held after))) + 32 ≤ event_room before
changes-fit before after =
    let count = count-held before in
    let few : 0 + length (values_held before) < 2 ^ 64 = omega (arith, count, before.few, before.ports.ok.0, before.registers.ok.0, before.words.ok.0, before.wires.ok.0) in
    omega (arith, changes-short 0 (values_held before) (values_held after) few, count, before.ports.ok.0, before.registers.ok.0, before.words.ok.0, before.wires.ok.0)

pub returns-in_err-push_time-clause-full : goal.returns-in_err-push_time-clause-full
returns-in_err-push_time-clause-full c =
    let full : vec_capacity c.args.text.now < vec_len c.args.text.now + event_room c.args.before.now =
    omega (arith, c.in_err-push_time.ensures.full, time-short c.args.time c.ranges.time.fits) in
    failed c.from_residual.result full

pub returns-clause-text : goal.returns-clause-text
returns-clause-text c =
    let time = c.args.time in
    let changes = changed_lines 0 (values_held c.args.before.now) (values_held c.args.after.now) in
    let start = c.args.text.now.items in
    on_ok_weaker c.push_changes.result
    (λ made. made ∙ ap (λ (text : List ℕ). text ++ text_of changes) c.in_ok-push_time.ensures.text
    ∙ append_assoc start (text_of (time_line time ∷ [])) (text_of changes)
    ∙ ap (λ (text : List ℕ). start ++ text) (sym (text_of-cons (time_line time) changes)))
    c.push_changes.ensures.text

pub returns-clause-full : goal.returns-clause-full
returns-clause-full c =
    let time = c.args.time in
    on_err_weaker c.push_changes.result
    (λ full. omega (arith, full, changes-fit c.args.before.now c.args.after.now, time-short time c.ranges.time.fits, c.in_ok-push_time.ensures.room, ap length c.in_ok-push_time.ensures.text, length-append c.args.text.now.items (text_of (time_line time ∷ [])), c.args.text.now.ok.0, c.push_time.new.text.ok.0))
    c.push_changes.ensures.full

pub returns-clause-most : goal.returns-clause-most
returns-clause-most c =
    let time = c.args.time in
    let changes = changed_lines 0 (values_held c.args.before.now) (values_held c.args.after.now) in
    on_ok_weaker c.push_changes.result
    (λ made. omega (
      arith,
      ap length made,
      length-append c.push_time.new.text.items (text_of changes),
      changes-fit c.args.before.now c.args.after.now,
      time-short time c.ranges.time.fits,
      ap length c.in_ok-push_time.ensures.text,
      length-append c.args.text.now.items (text_of (time_line time ∷ [])),
      c.args.text.now.ok.0,
      c.push_time.new.text.ok.0,
      c.push_changes.new.text.ok.0,
    ))
    c.push_changes.ensures.text
