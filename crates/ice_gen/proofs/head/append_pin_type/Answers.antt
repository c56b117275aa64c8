use Rattle.std.proofs.Common.{◌∷◌}
use Rattle.std.specs.Prelude.{codes, decimal}
use Rattle.std.proofs.lemmas.Result.{on_ok_weaker}
use Rattle.asc_text.proofs.Pieces.{line-ended}
use Rattle.ice_gen.specs.Database.{bit_word, pin_type_line}
use Rattle.ice_gen.proofs.Texts.{three-joined}
use Rattle.ice_gen.proofs.head.append_pin_type.Goals as goal

pub returns : goal.returns
returns c =
    let k = c.args.k in
    on_ok_weaker c.end_line.result (λ ended.
    line-ended c.args.text.now.items c.append_bit.new.text.items c.end_line.new.text.items (pin_type_line k)
    (three-joined c.args.text.now.items c.extend_from_slice.new.self.items c.append_decimal.new.text.items c.append_bit.new.text.items (codes "IOB_0.PINTYPE_") (decimal k) (32 ∷ bit_word k 0) c.in_ok-extend_from_slice.ensures.items c.in_ok-append_decimal.ensures c.in_ok-append_bit.ensures)
    ended) c.end_line.ensures
