use Rattle.std.proofs.Common.{ℕ, List, [], ◌∷◌, ap, ◌∙◌, ◌++◌}
use Rattle.std.specs.Prelude.{codes, decimal}
use Rattle.std.proofs.lemmas.Result.{on_ok_weaker}
use Rattle.text_lines.specs.Written.{text_of}
use Rattle.asc_text.specs.Canonical.{with_word}
use Rattle.ice_gen.specs.Database.{in_0_lines, in_0_statement, near_net, far_net}
use Rattle.asc_text.proofs.Pieces.{lines-joined}
use Rattle.ice_gen.proofs.buffers.append_in_0.Goals as goal

pub returns : goal.returns
unfolding in_0_lines
returns c =
    let j = c.args.j in
    let near = with_word (codes "10") (decimal (near_net j)) in
    let far : ℕ → List ℕ = λ n. with_word (codes "01") (decimal n) in
    let end = c.append_choice-2.new.text.items in
    on_ok_weaker c.append_choice-2.result (λ last.
    lines-joined c.args.text.now.items c.append_in_0_statement.new.text.items end (in_0_statement c.args.device c.args.x c.args.y j c.args.i ∷ []) (near ∷ far (far_net j) ∷ []) c.in_ok-append_in_0_statement.ensures
    (lines-joined c.append_in_0_statement.new.text.items c.append_choice.new.text.items end (near ∷ []) (far (far_net j) ∷ []) c.in_ok-append_choice.ensures
    (last ∙ ap (λ n. c.append_choice.new.text.items ++ text_of (far n ∷ [])) c.far_net.ensures))) c.append_choice-2.ensures
