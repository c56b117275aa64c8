use Rattle.std.proofs.Common.{◌≡◌, ◌∙◌, arith, length, take, drop, length-take-le, length-drop, pow_mono}
use Rattle.bit_plane.specs.inside.Packed.{packed}
use Rattle.bit_plane.proofs.Words.{word_of-lt}
use Rattle.bit_plane.proofs.Packed.{length-packed}
use Rattle.bit_plane.proofs.Turned.{byte_of-turned}
use Rattle.bit_plane.proofs.order.take_byte.Goals as goal

pub overflow_cast-take_word : goal.overflow_cast-take_word
overflow_cast-take_word c =
    let bits = drop c.args.position (packed c.args.words.now) in
    let eight : length (take 8 bits) ≡ 8 = length-take-le 8 bits (omega (arith, c.requires, length-packed c.args.words.now, length-drop c.args.position (packed c.args.words.now))) in
    omega (arith, c.take_word.ensures, word_of-lt (take 8 bits), pow_mono {i = length (take 8 bits)} {j = 8} (omega (arith, eight)))

pub returns : goal.returns
returns c =
    let bits = drop c.args.position (packed c.args.words.now) in
    c.turned.ensures ∙ byte_of-turned (take 8 bits) c.take_word.result (length-take-le 8 bits (omega (arith, c.requires, length-packed c.args.words.now, length-drop c.args.position (packed c.args.words.now)))) c.take_word.ensures (omega (arith, c.turned.type_inv, c.turned.ensures))
