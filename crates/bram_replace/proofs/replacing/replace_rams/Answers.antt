use Rattle.std.proofs.Common.{◌≡◌, ◌+◌, ◌^◌, ◌<◌, length, get_or, drop, replicate, sym, ap, ◌∙◌, subst, arith, length-drop}
use Rattle.std.proofs.lemmas.List.{take_at}
use Rattle.text_lines.specs.Lines.{lines_of}
use Rattle.ice_image.specs.Either.{configuration_of}
use Rattle.bram_replace.specs.ReadModes.{by_columns, modes_in}
use Rattle.bram_replace.specs.Replaced.{columns_found, ram_bits}
use Rattle.bram_replace.proofs.Passed.{Progress-passes, Passes-shorter}
use Rattle.bram_replace.proofs.Steps.{Progress, Progress-none, Progress-line, Progress-ram, lower-here, ram-begins-next, ram-here, room, all-replaced, all-found}
use Rattle.bram_replace.proofs.replacing.replace_rams.Goals as goal

pub loop-line-init : goal.loop-line-init
loop-line-init c =
    let from = c.args.columns.now.file.now in
    let text = c.args.asc.now in
    let modes = modes_in c.args.modes (lines_of text) in
    let zeros = c.in_ok-found.ensures.items_if_clones_equal (λ y same. same) ∙ ap (λ n. replicate n 0) c.count.ensures in
    subst (λ bytes. Progress from c.args.to.now modes text text bytes c.in_ok-found.found.items) (sym c.new-bytes.ensures.items)
    (Progress-none from c.args.to.now modes text c.in_ok-found.found.items zeros)

pub loop-line-preserved-then-not-is_ram_data : goal.loop-line-preserved-then-not-is_ram_data
loop-line-preserved-then-not-is_ram_data c =
    let from = c.args.columns.now.file.now in
    let to = c.args.to.now in
    let text = c.args.asc.now in
    let modes = modes_in c.args.modes (lines_of text) in
    let line = c.in-Some.line in
    let found = c.loop-line.found.items in
    let passed = c.in_ok-left.ensures in
    Progress-passes from to modes text line.rest.now c.extend_from_slice.new.self.items found passed.0 c.in_ok-left.left.now c.append_others.new.bytes.items
    (Progress-line from to modes text c.loop-line.left.now c.loop-line.bytes.items found line.content.now line.whole.now line.rest.now
    c.extend_from_slice.new.self.items c.loop-line.invariant c.in-Some.ensures.lines c.in-Some.ensures.whole_lines (sym c.is_ram_data.ensures ∙ c.if-not-is_ram_data.true) c.in_ok-extend_from_slice.ensures.items)
    passed.1 passed.2

pub loop-line-smaller-then-not-is_ram_data : goal.loop-line-smaller-then-not-is_ram_data
loop-line-smaller-then-not-is_ram_data c =
    let passed = c.in_ok-left.ensures in
    omega (arith, ap length c.in-Some.ensures.lines, Passes-shorter c.in-Some.line.rest.now passed.0 c.in_ok-left.left.now passed.1)

pub mode_of-mode-requires-clause-ram : goal.mode_of-mode-requires-clause-ram
mode_of-mode-requires-clause-ram c =
    let line = c.in-Some.line in
    ram-here c.args.columns.now.file.now c.args.to.now (modes_in c.args.modes (lines_of c.args.asc.now)) c.args.asc.now c.loop-line.left.now c.loop-line.bytes.items c.loop-line.found.items
    line.content.now line.whole.now line.rest.now c.requires.means.accepted c.loop-line.invariant c.in-Some.ensures.lines c.in-Some.ensures.whole_lines (sym c.is_ram_data.ensures ∙ c.if-not-is_ram_data.false)

pub mode_of-mode-requires-clause-there : goal.mode_of-mode-requires-clause-there
mode_of-mode-requires-clause-there c ram named =
    let line = c.in-Some.line in
    lower-here c.args.columns.now.file.now c.args.to.now (modes_in c.args.modes (lines_of c.args.asc.now)) c.args.asc.now c.loop-line.left.now c.loop-line.bytes.items c.loop-line.found.items
    line.content.now line.whole.now line.rest.now (configuration_of c.args.image.now) _ ram c.requires.means c.loop-line.invariant c.in-Some.ensures.lines c.in-Some.ensures.whole_lines
    (sym c.is_ram_data.ensures ∙ c.if-not-is_ram_data.false) named

pub replace_ram-requires-clause-begins : goal.replace_ram-requires-clause-begins
replace_ram-requires-clause-begins c =
    let line = c.in-Some.line in
    ram-begins-next c.args.columns.now.file.now c.args.to.now (modes_in c.args.modes (lines_of c.args.asc.now)) c.args.asc.now c.loop-line.left.now c.loop-line.bytes.items c.loop-line.found.items line.content.now line.whole.now line.rest.now
    c.requires.means.accepted c.loop-line.invariant c.in-Some.ensures.lines c.in-Some.ensures.whole_lines (sym c.is_ram_data.ensures ∙ c.if-not-is_ram_data.false)

pub replace_ram-requires-clause-room : goal.replace_ram-requires-clause-room
replace_ram-requires-clause-room c column =
    subst (λ counts. get_or counts column 0 < 2 ^ 31) (sym c.deref_mut.ensures.value)
    (room c.args.columns.now.file.now c.args.to.now (modes_in c.args.modes (lines_of c.args.asc.now)) c.args.asc.now c.loop-line.left.now c.loop-line.bytes.items c.loop-line.found.items c.requires.means.accepted c.loop-line.invariant column)

pub loop-line-smaller : goal.loop-line-smaller
loop-line-smaller c =
    omega (arith, ap length c.in-Some.ensures.lines, ap length c.in_ok-left-2.ensures.lines, length-drop 16 (lines_of c.in-Some.line.rest.now))

pub loop-line-preserved : goal.loop-line-preserved
loop-line-preserved c =
    let from = c.args.columns.now.file.now in
    let to = c.args.to.now in
    let text = c.args.asc.now in
    let modes = modes_in c.args.modes (lines_of text) in
    let line = c.in-Some.line in
    let counts = c.replace_ram.new.found in
    let old = c.loop-line.found.items in
    let size : length counts ≡ c.loop-line.found.len = omega arith in
    let same : length counts ≡ length old = omega arith in
    let back = take_at counts (drop (length counts) old) c.loop-line.found.len size in
    subst (λ found. Progress from to modes text c.in_ok-left-2.left.now c.replace_ram.new.bytes.items found) (sym back)
    (Progress-ram from to modes text c.loop-line.left.now c.loop-line.bytes.items old line.content.now line.whole.now line.rest.now c.extend_from_slice.new.self.items c.in_ok-left-2.left.now
    c.replace_ram.new.bytes.items counts c.mode_of-mode.result c.requires.means.accepted c.loop-line.invariant c.in-Some.ensures.lines c.in-Some.ensures.whole_lines (sym c.is_ram_data.ensures ∙ c.if-not-is_ram_data.false)
    (c.mode_of-mode.ensures.is text c.requires.bits) c.in_ok-extend_from_slice.ensures.items c.in_ok-left-2.ensures.bytes
    (λ column few. c.in_ok-left-2.ensures.found column few ∙ ap (λ xs. get_or xs column 0 + length (columns_found from (by_columns c.mode_of-mode.result (ram_bits (lines_of line.rest.now))) column)) c.deref_mut.ensures.value)
    same c.in_ok-left-2.ensures.lines c.in_ok-left-2.ensures.whole_lines)

pub returns-clause-bytes : goal.returns-clause-bytes
returns-clause-bytes c =
    all-replaced c.args.columns.now.file.now c.args.to.now (modes_in c.args.modes (lines_of c.args.asc.now)) c.args.asc.now c.loop-line.left.now c.loop-line.bytes.items c.loop-line.found.items c.loop-line.invariant c.in_default.ensures.lines

pub returns-clause-found : goal.returns-clause-found
returns-clause-found c =
    all-found c.args.columns.now.file.now c.args.to.now (modes_in c.args.modes (lines_of c.args.asc.now)) c.args.asc.now c.loop-line.left.now c.loop-line.bytes.items c.loop-line.found.items c.loop-line.invariant c.in_default.ensures.lines
