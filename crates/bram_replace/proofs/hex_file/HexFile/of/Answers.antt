use Rattle.std.proofs.Common.{◌≡◌, ◌*◌, ◌/◌, true, false, length, refl, sym, ap, ◌∙◌, subst, arith}
use Rattle.bram_replace.specs.HexText.{is_depth}
use Rattle.bram_replace.specs.Collected.{Holds, IsWidth}
use Rattle.bram_replace.proofs.Memory.{words-count, memory-words}
use Rattle.bram_replace.proofs.hex_file.HexFile.of.Goals as goal

pub overflow_mul-digits : goal.overflow_mul-digits
overflow_mul-digits c = let width = subst IsWidth c.in-Some.is c.requires.width in omega (arith, width.1)

pub nonzero_div-len : goal.nonzero_div-len
nonzero_div-len c = let width = subst IsWidth c.in-Some.is c.requires.width in omega (arith, width.0)

pub returns-then-not-is_depth-clause-refused : goal.returns-then-not-is_depth-clause-refused
returns-then-not-is_depth-clause-refused c all holds =
    let digits = c.in-Some.digits in
    let bits = c.args.words.bits.items in
    let size : c.len.result ≡ length bits = omega arith in
    let count : c.len.result / (4 * digits) ≡ length all = ap (λ n. n / (4 * digits)) size ∙ words-count all digits bits (subst (λ d. Holds all d bits) c.in-Some.is holds) in
    let test : is_depth (length all) ≡ false = ap is_depth (sym count) ∙ sym c.is_depth.ensures ∙ c.if-not-is_depth.true in
    rw test refl

pub invariant_of-result : goal.invariant_of-result
invariant_of-result c =
    let width = subst IsWidth c.in-Some.is c.requires.width in
    record { some_digits = width.0; few_digits = width.1; few_bits = c.requires.room }

pub returns-else-not-is_depth-clause-read : goal.returns-else-not-is_depth-clause-read
returns-else-not-is_depth-clause-read c all holds =
    memory-words all c.in-Some.digits c.args.words.bits.items (subst (λ d. Holds all d c.args.words.bits.items) c.in-Some.is holds)

pub returns-else-not-is_depth-clause-accepted : goal.returns-else-not-is_depth-clause-accepted
returns-else-not-is_depth-clause-accepted c all holds =
    let digits = c.in-Some.digits in
    let bits = c.args.words.bits.items in
    let size : c.len.result ≡ length bits = omega arith in
    let count : c.len.result / (4 * digits) ≡ length all = ap (λ n. n / (4 * digits)) size ∙ words-count all digits bits (subst (λ d. Holds all d bits) c.in-Some.is holds) in
    let test : is_depth (length all) ≡ true = ap is_depth (sym count) ∙ sym c.is_depth.ensures ∙ c.if-not-is_depth.false in
    rw test refl
