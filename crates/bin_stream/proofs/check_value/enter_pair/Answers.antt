use Rattle.std.proofs.Common.{◌≡◌, ◌/◌, ◌%◌, ◌<◌, [], get_or, sym, ap, ap₂, ◌∙◌, arith}
use Rattle.std.proofs.lemmas.Nat.{xor_lt}
use Rattle.std.specs.Prelude.{bit_xor}
use Rattle.bin_stream.specs.declared.check_value.tables.TheConstants.{REMAINDERS}
use Rattle.bin_stream.proofs.Tables.{remainder_at, summed, entered_pair}
use Rattle.bin_stream.proofs.check_value.enter_pair.Goals as goal

pub returns : goal.returns
returns c =
    let value = c.args.value in
    let high_is : get_or c.to_be_bytes.result 0 0 ≡ value / 256 = ap (λ bytes. get_or bytes 0 0) c.to_be_bytes.ensures ∙ omega arith in
    let low_is : get_or c.to_be_bytes.result 1 0 ≡ value % 256 = ap (λ bytes. get_or bytes 1 0) c.to_be_bytes.ensures in
    let high = bit_xor (value / 256) c.args.first in
    let low = bit_xor (value % 256) c.args.second in
    let high_in : high < 256 = xor_lt 8 (value / 256) c.args.first (omega arith) (omega arith) in
    let low_in : low < 256 = xor_lt 8 (value % 256) c.args.second (omega arith) (omega arith) in
    let first : c.entry_of.result ≡ get_or (get_or REMAINDERS 1 []) (bit_xor (get_or c.to_be_bytes.result 0 0) c.args.first) 0 = c.entry_of.ensures in
    let second : c.entry_of-2.result ≡ get_or (get_or REMAINDERS 0 []) (bit_xor (get_or c.to_be_bytes.result 1 0) c.args.second) 0 = c.entry_of-2.ensures in
    ap₂ bit_xor
    (first ∙ ap (λ n. get_or (get_or REMAINDERS 1 []) (bit_xor n c.args.first) 0) high_is ∙ remainder_at 1 high (omega arith) high_in)
    (second ∙ ap (λ n. get_or (get_or REMAINDERS 0 []) (bit_xor n c.args.second) 0) low_is ∙ remainder_at 0 low (omega arith) low_in)
    ∙ sym (summed high low high_in low_in)
    ∙ sym (entered_pair value c.args.first c.args.second (omega arith) (omega arith) (omega arith))
