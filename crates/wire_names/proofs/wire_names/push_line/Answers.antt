use Rattle.std.proofs.Common.{◌∙◌, ℕ, List, [], ◌∷◌, ◌++◌, ap, append_assoc, append-nil}
use Rattle.text_lines.specs.Written.{text_of}
use Rattle.wire_names.proofs.wire_names.push_line.Goals as goal

pub returns : goal.returns
unfolding text_of
returns c =
    let start : List ℕ = c.args.text.now.items in
    let wire : List ℕ = c.args.wire.now in
    let name : List ℕ = c.args.name.now in
    c.in_ok-push-2.ensures.items
    ∙ ap (λ (text : List ℕ). text ++ 10 ∷ []) (c.in_ok-extend_from_slice-2.ensures.items ∙ ap (λ (text : List ℕ). text ++ name) (c.in_ok-push.ensures.items ∙ ap (λ (text : List ℕ). text ++ 32 ∷ []) c.in_ok-extend_from_slice.ensures.items))
    ∙ simp (append_assoc, append-nil)
