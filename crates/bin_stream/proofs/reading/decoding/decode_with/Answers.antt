use Rattle.std.proofs.Common.{◌≡◌, ◌∙◌, ◌+◌, List, ℕ, drop, refl, sym, ap, subst, rules, arith}
use Rattle.std.specs.Prelude.{Ok, ⊤}
use Rattle.std.proofs.lemmas.Result.{err_from_is_err_and, IfOk-weaker, MatchResult-weaker}
use Rattle.layout_file.specs.declared.layouts.Layouts.{Layouts}
use Rattle.ice_image.specs.Either.{configuration_of}
use Rattle.bin_stream.specs.Settled.{Settles}
use Rattle.bin_stream.specs.Spelling.{bin_read_of, Tells}
use Rattle.bin_stream.specs.inside.Stages.{IsWoken}
use Rattle.bin_stream.proofs.ReadSoFar.{read_nowhere}
use Rattle.bin_stream.proofs.Stages.{begins, reading-begins, cut-told, settles-tells}
use Rattle.bin_stream.proofs.reading.decoding.decode_with.Goals as goal

pub returns-in_err-taken-in-Some-clause-refused : goal.returns-in_err-taken-in-Some-clause-refused
returns-in_err-taken-in-Some-clause-refused c =
    let layouts = c.args.layouts in
    let bytes = c.args.bytes.now in
    let comment = c.in_ok-comment-in-Some.comment in
    let place = c.in-Some.offset in
    let m = c.new-machine in
    let at = c.following-at in
    let reading = reading-begins layouts bytes place comment m.result.registers (sym c.in-Some.ensures.offset) c.in_ok-comment-in-Some.ensures m.ensures.registers at.result.offset at.result.bytes.now (omega (arith, at.ensures.offset, c.new.ensures.offset)) (at.ensures.bytes ∙ ap (drop (place + 4)) c.new.ensures.bytes) in
    let p = err_from_is_err_and c.from_residual-in_err-taken-in-Some.result c.from_residual-in_err-taken-in-Some.ensures.1 in
    rw (p.1, p.2) (begins (λ layouts. Tells (bin_read_of layouts bytes) c.in_err-taken-in-Some.field-0.0) layouts m.result.layouts bytes comment m.result.registers m.result.image at.result.offset at.result.bytes.now m.ensures.layouts m.ensures.image reading
    (λ reading. settles-tells (bin_read_of m.result.layouts bytes) c.in_err-taken-in-Some.field-0.0 (c.in_err-taken-in-Some.ensures.refused bytes comment reading)))

pub returns-then-taken-clause-image : goal.returns-then-taken-clause-image
returns-then-taken-clause-image c =
    let layouts = c.args.layouts in
    let bytes = c.args.bytes.now in
    let comment = c.in_ok-comment-in-Some.comment in
    let place = c.in-Some.offset in
    let m = c.new-machine in
    let at = c.following-at in
    let reading = reading-begins layouts bytes place comment m.result.registers (sym c.in-Some.ensures.offset) c.in_ok-comment-in-Some.ensures m.ensures.registers at.result.offset at.result.bytes.now (omega (arith, at.ensures.offset, c.new.ensures.offset)) (at.ensures.bytes ∙ ap (drop (place + 4)) c.new.ensures.bytes) in
    let machine = c.in_ok-taken-in-Some.taken.machine in
    IfOk-weaker c.image_at_end.result (λ image. (layouts : Layouts) (all : List ℕ) → IsWoken layouts all comment machine.registers machine.image → bin_read_of layouts all ≡ Ok (configuration_of image)) (λ image. bin_read_of layouts bytes ≡ Ok (configuration_of image))
    (λ image told. begins (λ layouts. bin_read_of layouts bytes ≡ Ok (configuration_of image)) layouts m.result.layouts bytes comment m.result.registers m.result.image at.result.offset at.result.bytes.now m.ensures.layouts m.ensures.image reading
    (λ reading. told m.result.layouts bytes (c.in_ok-taken-in-Some.ensures.woken c.if-taken.true bytes comment reading)))
    c.image_at_end.ensures.image

pub returns-then-taken-clause-refused : goal.returns-then-taken-clause-refused
returns-then-taken-clause-refused c =
    let layouts = c.args.layouts in
    let bytes = c.args.bytes.now in
    let comment = c.in_ok-comment-in-Some.comment in
    let place = c.in-Some.offset in
    let m = c.new-machine in
    let at = c.following-at in
    let reading = reading-begins layouts bytes place comment m.result.registers (sym c.in-Some.ensures.offset) c.in_ok-comment-in-Some.ensures m.ensures.registers at.result.offset at.result.bytes.now (omega (arith, at.ensures.offset, c.new.ensures.offset)) (at.ensures.bytes ∙ ap (drop (place + 4)) c.new.ensures.bytes) in
    let machine = c.in_ok-taken-in-Some.taken.machine in
    MatchResult-weaker c.image_at_end.result {P = λ _. ⊤} {P' = λ _. ⊤} {Q = λ fault. (layouts : Layouts) (all : List ℕ) → IsWoken layouts all comment machine.registers machine.image → Settles (bin_read_of layouts all) fault} {Q' = Tells (bin_read_of layouts bytes)}
    c.image_at_end.ensures.refused
    (λ _ holds. holds)
    (λ fault told. begins (λ layouts. Tells (bin_read_of layouts bytes) fault) layouts m.result.layouts bytes comment m.result.registers m.result.image at.result.offset at.result.bytes.now m.ensures.layouts m.ensures.image reading
    (λ reading. settles-tells (bin_read_of m.result.layouts bytes) fault (told m.result.layouts bytes (c.in_ok-taken-in-Some.ensures.woken c.if-taken.true bytes comment reading))))

pub returns-else-taken-clause-refused : goal.returns-else-taken-clause-refused
returns-else-taken-clause-refused c =
    let layouts = c.args.layouts in
    let bytes = c.args.bytes.now in
    let comment = c.in_ok-comment-in-Some.comment in
    let place = c.in-Some.offset in
    let m = c.new-machine in
    let at = c.following-at in
    let reading = reading-begins layouts bytes place comment m.result.registers (sym c.in-Some.ensures.offset) c.in_ok-comment-in-Some.ensures m.ensures.registers at.result.offset at.result.bytes.now (omega (arith, at.ensures.offset, c.new.ensures.offset)) (at.ensures.bytes ∙ ap (drop (place + 4)) c.new.ensures.bytes) in
    let taken = c.in_ok-taken-in-Some.taken in
    begins (λ layouts. Tells (bin_read_of layouts bytes) c.fault_at.result) layouts m.result.layouts bytes comment m.result.registers m.result.image at.result.offset at.result.bytes.now m.ensures.layouts m.ensures.image reading
    (λ reading. cut-told m.result.layouts bytes comment taken.machine.registers taken.machine.image (at.result.offset + taken.end) (drop taken.end at.result.bytes.now) _ c.fault_at.result (c.in_ok-taken-in-Some.ensures.cut c.if-taken.false bytes comment reading) refl c.fault_at.ensures)

pub returns-in-None-clause-refused : goal.returns-in-None-clause-refused
returns-in-None-clause-refused c =
    subst (Tells (bin_read_of c.args.layouts c.args.bytes.now)) (sym c.fault_at-in-None.ensures) (read_nowhere c.args.layouts c.args.bytes.now (search rules))
