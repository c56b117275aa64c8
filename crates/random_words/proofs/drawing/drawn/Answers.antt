use Rattle.std.proofs.Common.{◌≤◌, length, sym, subst}
use Rattle.std.proofs.lemmas.Result.{IfOk-weaker}
use Rattle.bram_replace.specs.HexText.{contents_of}
use Rattle.random_words.specs.Taken.{HasSize}
use Rattle.random_words.proofs.Drawn.{drawn-length, drawn-size}
use Rattle.random_words.proofs.drawing.drawn.Goals as goal

pub returns-clause-length : goal.returns-clause-length
returns-clause-length c =
    let size = c.args.size in
    IfOk-weaker c.drawn_from.result _ _
    (λ text is. subst (λ bytes. length bytes ≤ 16777216) (sym is) (drawn-length size.width size.depth c.generator.result size.width_taken size.depth_taken)) c.drawn_from.ensures

pub returns-clause-size : goal.returns-clause-size
returns-clause-size c =
    let size = c.args.size in
    IfOk-weaker c.drawn_from.result _ _
    (λ text is. subst (λ bytes. HasSize size.width size.depth (contents_of bytes)) (sym is) (drawn-size size.width size.depth c.generator.result size.width_taken size.depth_taken)) c.drawn_from.ensures
