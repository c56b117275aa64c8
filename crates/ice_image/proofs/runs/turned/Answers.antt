use Rattle.std.proofs.Common.{Bool, ◌-◌, if◌then◌else◌, ap, sym, ◌∙◌}
use Rattle.ice_image.specs.Bits.{number_bit}
use Rattle.ice_image.proofs.Turned.{turned-bit, turned-small}
use Rattle.ice_image.proofs.runs.turned.Goals as goal

pub returns-then-backwards-clause-bits : goal.returns-then-backwards-clause-bits
returns-then-backwards-clause-bits c = λ k within.
    let args = c.args in
    turned-bit args.word c.reversed.result args.count k c.reversed.ensures c.requires.few within
    ∙ ap (λ (backwards : Bool). number_bit args.word (if backwards then args.count - 1 - k else k)) (sym c.if-backwards.true)

pub returns-then-backwards-clause-small : goal.returns-then-backwards-clause-small
returns-then-backwards-clause-small c = λ small. turned-small c.reversed.result c.args.count c.requires.few c.reversed.type_inv
