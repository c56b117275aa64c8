use Rattle.std.proofs.Common.{◌≡◌, ◌∙◌, ◌+◌, ◌/◌, ◌%◌, suc, ℕ, List, [], ◌∷◌, ◌++◌, ap, append_assoc, arith, length, length-append, sym}
use Rattle.std.proofs.lemmas.Result.{on_err_weaker, on_ok_weaker}
use Rattle.vlog_waves.specs.Waves.{identifier}
use Rattle.vlog_waves.proofs.Identifiers.{identifier-more}
use Rattle.vlog_waves.proofs.lines.+push_identifier.Goals as goal

pub returns-else-number-lt94-clause-text : goal.returns-else-number-lt94-clause-text
returns-else-number-lt94-clause-text t c =
    let number = c.args.number in
    let start = c.args.text.now.items in
    let rest = identifier (number / 94) in
    on_ok_weaker c.push_identifier.result
    (λ made. made ∙ ap (λ (front : List ℕ). front ++ rest) c.in_ok-push_byte.ensures.text
    ∙ append_assoc start ((33 + number % 94) ∷ []) rest
    ∙ ap (λ (digits : List ℕ). start ++ digits) (sym (identifier-more number c.if-number-lt94.false)))
    c.push_identifier.ensures.text

pub returns-else-number-lt94-clause-full : goal.returns-else-number-lt94-clause-full
returns-else-number-lt94-clause-full t c =
    let number = c.args.number in
    let start = c.args.text.now.items in
    let rest = identifier (number / 94) in
    let long : length (identifier number) ≡ suc (length rest) = ap length (identifier-more number c.if-number-lt94.false) in
    let one : length (start ++ (33 + number % 94) ∷ []) ≡ length start + 1 = length-append start ((33 + number % 94) ∷ []) in
    on_err_weaker c.push_identifier.result
    (λ full. omega (arith, full, long, one, ap length c.in_ok-push_byte.ensures.text, c.in_ok-push_byte.ensures.room, c.args.text.now.ok.0, c.push_byte.new.text.ok.0))
    c.push_identifier.ensures.full
