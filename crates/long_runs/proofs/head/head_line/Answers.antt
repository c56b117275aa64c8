use Rattle.std.proofs.Common.{◌≡◌, ◌∙◌, ℕ, ◌-◌, List, [], ◌∷◌, ◌++◌, ap, arith, length, take}
use Rattle.std.specs.Prelude.{vec_len}
use Rattle.long_runs.specs.Shown.{head_line, shown_names}
use Rattle.long_runs.proofs.Heads.{joined-is}
use Rattle.long_runs.proofs.head.head_line.Goals as goal

pub returns : goal.returns
unfolding head_line
returns c =
    let line = c.in_ok-line.line in
    let size : vec_len line ≡ length line.items = omega (arith, line.ok.0) in
    let joined =
    c.pop.ensures.rest
    ∙ ap (λ n. take (n - 1) line.items) size
    ∙ ap (λ (text : List ℕ). take (length text - 1) text) c.in_ok-line.ensures
    ∙ joined-is (shown_names c.args.module.now c.args.registers) in
    c.in_ok-push_byte.ensures.text ∙ ap (λ (text : List ℕ). text ++ 10 ∷ []) joined
