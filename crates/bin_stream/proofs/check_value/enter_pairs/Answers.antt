use Rattle.std.proofs.Common.{◌≡◌, ◌+◌, ◌-◌, ◌*◌, length, take, get_or, sym, ap, ◌∙◌, arith}
use Rattle.std.proofs.lemmas.List.{take_all}
use Rattle.bit_plane.specs.BitList.{bits_of, byte_bits}
use Rattle.bin_stream.specs.inside.Register.{entered_all}
use Rattle.bin_stream.proofs.Powers.{entered_all-byte}
use Rattle.bin_stream.proofs.check_value.enter_pairs.Goals as goal

pub loop-pair-preserved : goal.loop-pair-preserved
loop-pair-preserved c =
    let bytes = c.args.bytes.now in
    let k = 2 * c.loop-pair.pair in
    let first = entered_all-byte c.args.value bytes k (omega arith) in
    let second = entered_all-byte c.args.value bytes (k + 1) (omega arith) in
    let end : 2 * (c.loop-pair.pair + 1) ≡ k + 1 + 1 = omega arith in
    let entered : c.enter_pair-value.result ≡ entered_all (entered_all c.loop-pair.value (byte_bits (get_or bytes k 0))) (byte_bits (get_or bytes (k + 1) 0)) = c.enter_pair-value.ensures in
    entered
    ∙ ap (λ value. entered_all (entered_all value (byte_bits (get_or bytes k 0))) (byte_bits (get_or bytes (k + 1) 0))) c.loop-pair.invariant
    ∙ ap (λ value. entered_all value (byte_bits (get_or bytes (k + 1) 0))) (sym first)
    ∙ sym second
    ∙ ap (λ count. entered_all c.args.value (bits_of (take count bytes))) (sym end)

-- a byte is left
pub returns-then-bytes-eq1 : goal.returns-then-bytes-eq1
returns-then-bytes-eq1 c =
    let bytes = c.args.bytes.now in
    let k = length bytes - 1 in
    let pairs : 2 * c.loop-pair.pair ≡ k = omega arith in
    let last = entered_all-byte c.args.value bytes k (omega arith) in
    let all : take (k + 1) bytes ≡ bytes = take_all (k + 1) bytes (omega arith) in
    let entered : c.enter_byte.result ≡ entered_all c.loop-pair.value (byte_bits (get_or bytes k 0)) = c.enter_byte.ensures in
    entered
    ∙ ap (λ value. entered_all value (byte_bits (get_or bytes k 0))) (c.loop-pair.invariant ∙ ap (λ count. entered_all c.args.value (bits_of (take count bytes))) pairs)
    ∙ sym last
    ∙ ap (λ taken. entered_all c.args.value (bits_of taken)) all

-- no byte is left
pub returns-else-bytes-eq1 : goal.returns-else-bytes-eq1
returns-else-bytes-eq1 c =
    let all : take (2 * c.loop-pair.pair) c.args.bytes.now ≡ c.args.bytes.now = take_all (2 * c.loop-pair.pair) c.args.bytes.now (omega arith) in
    c.loop-pair.invariant ∙ ap (λ taken. entered_all c.args.value (bits_of taken)) all
