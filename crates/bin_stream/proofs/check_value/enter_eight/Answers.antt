use Rattle.std.proofs.Common.{◌≡◌, ◌/◌, ◌%◌, ◌<◌, ◌∙◌, ℕ, [], get_or, ap, ap₂, arith}
use Rattle.std.proofs.lemmas.Nat.{xor_lt}
use Rattle.std.specs.Prelude.{bit_xor}
use Rattle.bin_stream.specs.declared.check_value.tables.TheConstants.{REMAINDERS}
use Rattle.bin_stream.proofs.Tables.{remainder_at, entered_eight}
use Rattle.bin_stream.proofs.check_value.enter_eight.Goals as goal

pub returns : goal.returns
returns c =
    let value = c.args.value in
    let bytes = c.args.bytes.now in
    let small : (i : ℕ) → get_or bytes i 0 < 256 = λ i. omega (arith, c.type_inv.bytes i) in
    let high_is : get_or c.to_be_bytes.result 0 0 ≡ value / 256 = ap (λ bytes. get_or bytes 0 0) c.to_be_bytes.ensures ∙ omega arith in
    let low_is : get_or c.to_be_bytes.result 1 0 ≡ value % 256 = ap (λ bytes. get_or bytes 1 0) c.to_be_bytes.ensures in
    let high = bit_xor (value / 256) (get_or bytes 0 0) in
    let low = bit_xor (value % 256) (get_or bytes 1 0) in
    let high_in : high < 256 = xor_lt 8 (value / 256) (get_or bytes 0 0) (omega arith) (small 0) in
    let low_in : low < 256 = xor_lt 8 (value % 256) (get_or bytes 1 0) (omega arith) (small 1) in
    let six : c.entry_of-7.result ≡ get_or (get_or REMAINDERS 6 []) (bit_xor (get_or c.to_be_bytes.result 1 0) (get_or bytes 1 0)) 0 = c.entry_of-7.ensures in
    let seven : c.entry_of-8.result ≡ get_or (get_or REMAINDERS 7 []) (bit_xor (get_or c.to_be_bytes.result 0 0) (get_or bytes 0 0)) 0 = c.entry_of-8.ensures in
    ap₂ bit_xor
    (ap₂ bit_xor
    (ap₂ bit_xor
    (ap₂ bit_xor
    (ap₂ bit_xor
    (ap₂ bit_xor
    (ap₂ bit_xor
    (c.entry_of.ensures ∙ remainder_at 0 (get_or bytes 7 0) (omega arith) (small 7))
    (c.entry_of-2.ensures ∙ remainder_at 1 (get_or bytes 6 0) (omega arith) (small 6)))
    (c.entry_of-3.ensures ∙ remainder_at 2 (get_or bytes 5 0) (omega arith) (small 5)))
    (c.entry_of-4.ensures ∙ remainder_at 3 (get_or bytes 4 0) (omega arith) (small 4)))
    (c.entry_of-5.ensures ∙ remainder_at 4 (get_or bytes 3 0) (omega arith) (small 3)))
    (c.entry_of-6.ensures ∙ remainder_at 5 (get_or bytes 2 0) (omega arith) (small 2)))
    (six ∙ ap (λ n. get_or (get_or REMAINDERS 6 []) (bit_xor n (get_or bytes 1 0)) 0) low_is ∙ remainder_at 6 low (omega arith) low_in))
    (seven ∙ ap (λ n. get_or (get_or REMAINDERS 7 []) (bit_xor n (get_or bytes 0 0)) 0) high_is ∙ remainder_at 7 high (omega arith) high_in)
    ∙ entered_eight value bytes c.requires (omega arith) small
