use Rattle.std.proofs.Common.{◌≡◌, ◌-◌, ◌*◌, ◌+◌, arith, drop, ap, ◌∙◌}
use Rattle.bit_plane.specs.BitList.{word_of}
use Rattle.bit_plane.specs.Rows.{row_from}
use Rattle.ice_image.specs.Either.{configuration_of}
use Rattle.ice_image.proofs.Made.{row_word-none, row_word-more, row_word-double, row_word-lt}
use Rattle.chipdb_reader.specs.Kept.{database_in}
use Rattle.fabric_model.specs.PinTypes.{pintype_of, pintype_bit}
use Rattle.fabric_parts.proofs.io.pintype.pintype.Goals as goal

pub loop-k-init : goal.loop-k-init
loop-k-init c = row_word-none 6 _

-- the number with the bit before
step : (c : goal.After-from) → 2 * c.loop-k.pintype + c.from.result ≡ word_of (drop (c.loop-k.k - 1) (row_from 6 (pintype_bit (database_in c.args.db.now) (configuration_of c.args.image.now) c.args.x c.args.y c.args.n)))
step c =
    row_word-more 6 (pintype_bit (database_in c.args.db.now) (configuration_of c.args.image.now) c.args.x c.args.y c.args.n)
    c.loop-k.k c.loop-k.pintype c.from.result c.pintype_bit-bit.result (omega arith) (omega arith) c.loop-k.invariant c.from.ensures c.pintype_bit-bit.ensures

pub overflow_mul-pintype : goal.overflow_mul-pintype
overflow_mul-pintype c =
    omega (arith, row_word-double 6 (pintype_bit (database_in c.args.db.now) (configuration_of c.args.image.now) c.args.x c.args.y c.args.n) c.loop-k.k c.loop-k.pintype (omega arith) (omega arith) c.loop-k.invariant)

pub overflow_add-pintype : goal.overflow_add-pintype
overflow_add-pintype c =
    omega (arith, step c, row_word-lt 6 (pintype_bit (database_in c.args.db.now) (configuration_of c.args.image.now) c.args.x c.args.y c.args.n) (c.loop-k.k - 1))

pub loop-k-preserved : goal.loop-k-preserved
loop-k-preserved c = step c

pub returns : goal.returns
unfolding pintype_of
returns c =
    let all : c.loop-k.k ≡ 0 = omega arith in
    c.loop-k.invariant ∙ ap (λ n. word_of (drop n (row_from 6 (pintype_bit (database_in c.args.db.now) (configuration_of c.args.image.now) c.args.x c.args.y c.args.n)))) all
