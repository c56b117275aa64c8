use Rattle.std.proofs.Common.{◌≡◌, ◌*◌, ◌/◌, ◌%◌, ◌<◌, [], get_or, sym, ap, ap₂, ◌∙◌, arith}
use Rattle.std.proofs.lemmas.Nat.{xor_lt}
use Rattle.std.specs.Prelude.{bit_xor}
use Rattle.bin_stream.specs.declared.check_value.tables.TheConstants.{REMAINDERS}
use Rattle.bin_stream.proofs.Tables.{remainder_at, entered_one}
use Rattle.bin_stream.proofs.check_value.enter_byte.Goals as goal

pub returns : goal.returns
returns c =
    let value = c.args.value in
    let byte = c.args.byte in
    let high : get_or c.to_be_bytes.result 0 0 ≡ value / 256 = ap (λ bytes. get_or bytes 0 0) c.to_be_bytes.ensures ∙ omega arith in
    let sum_in : bit_xor (value / 256) byte < 256 = xor_lt 8 (value / 256) byte (omega arith) (omega arith) in
    let shifted : value * 256 % 65536 ≡ 256 * value % 65536 = omega arith in
    let entry : c.entry_of.result ≡ get_or (get_or REMAINDERS 0 []) (bit_xor (get_or c.to_be_bytes.result 0 0) byte) 0 = c.entry_of.ensures in
    ap₂ bit_xor shifted (entry ∙ ap (λ high. get_or (get_or REMAINDERS 0 []) (bit_xor high byte) 0) high ∙ remainder_at 0 (bit_xor (value / 256) byte) (omega arith) sum_in)
    ∙ sym (entered_one value byte (omega arith) (omega arith))
