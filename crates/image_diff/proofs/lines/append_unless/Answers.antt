use Rattle.std.proofs.Common.{[], ◌∷◌, ap}
use Rattle.std.specs.Prelude.{if◌then◌else◌}
use Rattle.asc_text.proofs.Pieces.{nothing-written}
use Rattle.image_diff.proofs.lines.append_unless.Goals as goal

pub returns-then-is_left_out : goal.returns-then-is_left_out
returns-then-is_left_out c =
    nothing-written c.args.text.now.items (if c.args.is_left_out then [] else (c.args.sign ∷ c.args.line.now) ∷ []) (ap (λ test. if test then [] else (c.args.sign ∷ c.args.line.now) ∷ []) c.if-is_left_out.true)
