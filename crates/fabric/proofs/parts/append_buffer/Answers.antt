use Rattle.std.proofs.Common.{◌≡◌, ◌++◌, map, append-nil, sym, ap, ◌∙◌}
use Rattle.std.specs.Prelude.{slice_get, Some}
use Rattle.std.proofs.lemmas.List.{map-append}
use Rattle.std.proofs.lemmas.Option.{slice_get-get_or, slice_get_past}
use Rattle.fabric_wiring.specs.Parts.{buffer_of}
use Rattle.fabric.specs.Buffers.{buffer_if}
use Rattle.fabric.proofs.parts.append_buffer.Goals as goal

pub returns-in_ok-push : goal.returns-in_ok-push
returns-in_ok-push c =
    let at = rw c.in-Some.is at c.get.ensures.lookup.3 in
    let same = rw c.in-Some.is at c.get.ensures.lookup.1 in
    let found : slice_get c.args.lines.now c.args.place ≡ Some c.in-Some.line.now = slice_get-get_or c.args.lines.now c.args.place c.in-Some.line.now at.0 ∙ ap (λ line. Some line) (sym same) in
    ap (map buffer_of) c.in_ok-push.ensures.items
    ∙ (map-append buffer_of c.args.buffers.now.items _ ∙ ap (λ more. map buffer_of c.args.buffers.now.items ++ buffer_if c.args.place more) (sym found))

pub returns-in_default : goal.returns-in_default
returns-in_default c =
    let past = rw c.in_default.is at c.get.ensures.lookup.3 in
    rw (slice_get_past c.args.lines.now c.args.place past) (sym (append-nil (map buffer_of c.args.buffers.now.items)))
