-- Lines are the same exactly if their values are.
use Rattle.std.proofs.Common.{◌≡◌, ◌∙◌, ℕ, ◌+◌, ◌/◌, ◌%◌, ◌<◌, ◌≤◌, Bool, true, false, cond, List, [], ◌∷◌, ◌++◌, flat_map, map, refl, sym, ap, ap₂, append_assoc, append-nil, arith}
use Rattle.std.specs.Prelude.{All, nat_lt}
use Rattle.std.proofs.lemmas.Bool.{ltb-true}
use Rattle.std.proofs.lemmas.List.Elements.{All-head, All-tail}
use Rattle.vlog_semantics.specs.Entries.{Entry}
use Rattle.vlog_semantics.specs.Named.{values_of}
use Rattle.vlog_run.specs.Text.{bit_digit, entry_line, hex_digit, word_text}

-- ---- digits

-- no digit of a bit
record IsEnd (byte : ℕ) : Type 0 where
  below : byte < 48

digit-same : (a b : Bool) → bit_digit a ≡ bit_digit b → a ≡ b
digit-same true true is = refl
digit-same false false is = refl
digit-same true false is = absurd (let none : ◌≡◌ {A = ℕ} 49 48 = is in omega (arith, none))
digit-same false true is = absurd (let none : ◌≡◌ {A = ℕ} 48 49 = is in omega (arith, none))

digit-above : (a : Bool) → 48 ≤ bit_digit a
digit-above true = let above : 48 ≤ 49 = omega arith in above
digit-above false = let above : 48 ≤ 48 = omega arith in above

-- digits up to another byte
record AreSame (a b : List Bool) (rest more : List ℕ) : Type 0 where
  bits : a ≡ b
  rests : rest ≡ more

bits-same : (a b : List Bool) (x y : ℕ) (rest more : List ℕ) → IsEnd x → IsEnd y → map bit_digit a ++ x ∷ rest ≡ map bit_digit b ++ y ∷ more → AreSame a b (x ∷ rest) (y ∷ more)
bits-same [] [] x y rest more here there is = record { bits = refl; rests = is }
bits-same [] (bit ∷ b) x y rest more here there is =
    let first : x ≡ bit_digit bit = cc in absurd (omega (arith, first, here.below, digit-above bit))
bits-same (bit ∷ a) [] x y rest more here there is =
    let first : bit_digit bit ≡ y = cc in absurd (omega (arith, first, there.below, digit-above bit))
bits-same (bit ∷ a) (other ∷ b) x y rest more here there is =
    let first : bit_digit bit ≡ bit_digit other = cc in
    let others : map bit_digit a ++ x ∷ rest ≡ map bit_digit b ++ y ∷ more = cc in
    let same = bits-same a b x y rest more here there others in
    record { bits = ap₂ (λ (one : Bool) (list : List Bool). one ∷ list) (digit-same bit other first) same.bits; rests = same.rests }

-- ---- words

hex-same : (a b : ℕ) → a < 16 → b < 16 → hex_digit a ≡ hex_digit b → a ≡ b
hex-same a b few less is = by_tests (nat_lt a 10) (nat_lt b 10) refl refl is
  where
    by_tests : (small little : Bool) → nat_lt a 10 ≡ small → nat_lt b 10 ≡ little → cond small (48 + a) (87 + a) ≡ cond little (48 + b) (87 + b) → a ≡ b
    by_tests true true one two is = let same : 48 + a ≡ 48 + b = is in omega (arith, same)
    by_tests false false one two is = let same : 87 + a ≡ 87 + b = is in omega (arith, same)
    by_tests true false one two is = let same : 48 + a ≡ 87 + b = is in absurd (omega (arith, same, ltb-true a 10 one))
    by_tests false true one two is = let same : 87 + a ≡ 48 + b = is in absurd (omega (arith, same, ltb-true b 10 two))

-- four digits of 16 bits
word-same : (a b : ℕ) → a < 65536 → b < 65536 → a / 4096 % 16 ≡ b / 4096 % 16 → a / 256 % 16 ≡ b / 256 % 16 → a / 16 % 16 ≡ b / 16 % 16 → a % 16 ≡ b % 16 → a ≡ b
word-same a b few less one two three four = omega (arith, one, two, three, four, few, less)

words-same : (a b : List ℕ) → All (λ word. word < 65536) a → All (λ word. word < 65536) b → flat_map word_text a ++ 10 ∷ [] ≡ flat_map word_text b ++ 10 ∷ [] → a ≡ b
words-same [] [] few less is = refl
words-same [] (word ∷ b) few less is = absurd (let first : ◌≡◌ {A = ℕ} 10 32 = cc in omega (arith, first))
words-same (word ∷ a) [] few less is = absurd (let first : ◌≡◌ {A = ℕ} 32 10 = cc in omega (arith, first))
words-same (word ∷ a) (other ∷ b) few less is =
    let one : hex_digit (word / 4096 % 16) ≡ hex_digit (other / 4096 % 16) = cc in
    let two : hex_digit (word / 256 % 16) ≡ hex_digit (other / 256 % 16) = cc in
    let three : hex_digit (word / 16 % 16) ≡ hex_digit (other / 16 % 16) = cc in
    let four : hex_digit (word % 16) ≡ hex_digit (other % 16) = cc in
    let rest : flat_map word_text a ++ 10 ∷ [] ≡ flat_map word_text b ++ 10 ∷ [] = cc in
    let same : word ≡ other =
    word-same word other (All-head (λ w. w < 65536) word a few) (All-head (λ w. w < 65536) other b less)
    (hex-same (word / 4096 % 16) (other / 4096 % 16) (omega arith) (omega arith) one)
    (hex-same (word / 256 % 16) (other / 256 % 16) (omega arith) (omega arith) two)
    (hex-same (word / 16 % 16) (other / 16 % 16) (omega arith) (omega arith) three)
    (hex-same (word % 16) (other % 16) (omega arith) (omega arith) four) in
    ap₂ (λ (first : ℕ) (list : List ℕ). first ∷ list) same (words-same a b (All-tail (λ w. w < 65536) word a few) (All-tail (λ w. w < 65536) other b less) rest)

-- ---- lines

-- what the bits of registers are followed by
abbrev words_end : List ℕ → List ℕ
words_end words = flat_map word_text words ++ 10 ∷ []

plain-line : (entry : Entry) → entry_line false entry ≡ map bit_digit (values_of entry.outputs) ++ 10 ∷ []
unfolding entry_line
plain-line entry = ap (λ (text : List ℕ). text ++ 10 ∷ []) (append-nil (map bit_digit (values_of entry.outputs)))

full-line : (entry : Entry) → entry_line true entry ≡ map bit_digit (values_of entry.outputs) ++ 32 ∷ (map bit_digit (values_of entry.registers) ++ words_end (values_of entry.words))
unfolding entry_line
full-line entry =
    let bits = map bit_digit (values_of entry.outputs) in
    let registers = map bit_digit (values_of entry.registers) in
    let words = flat_map word_text (values_of entry.words) in
    append_assoc bits ((32 ∷ registers) ++ words) (10 ∷ []) ∙ ap (λ (text : List ℕ). bits ++ 32 ∷ text) (append_assoc registers words (10 ∷ []))

record StartsWithEnd (text : List ℕ) : Type 0 where
  byte : ℕ
  rest : List ℕ
  is : text ≡ byte ∷ rest
  end : IsEnd byte

words-end : (words : List ℕ) → StartsWithEnd (words_end words)
words-end [] = record { byte = 10; rest = []; is = refl; end = record { below = omega arith } }
words-end (word ∷ words) = record { byte = 32; rest = _; is = refl; end = record { below = omega arith } }

-- outputs up to the space, and what comes behind it
full-same : (one other : Entry) → entry_line true one ≡ entry_line true other
    → AreSame (values_of one.outputs) (values_of other.outputs) (32 ∷ (map bit_digit (values_of one.registers) ++ words_end (values_of one.words)))
    (32 ∷ (map bit_digit (values_of other.registers) ++ words_end (values_of other.words)))
full-same one other is =
    let end : IsEnd 32 = record { below = omega arith } in
    bits-same (values_of one.outputs) (values_of other.outputs) 32 32 (map bit_digit (values_of one.registers) ++ words_end (values_of one.words))
    (map bit_digit (values_of other.registers) ++ words_end (values_of other.words)) end end (sym (full-line one) ∙ is ∙ full-line other)

-- registers up to the words, and the words
behind-same : (one other : Entry) → entry_line true one ≡ entry_line true other
    → AreSame (values_of one.registers) (values_of other.registers) (words_end (values_of one.words)) (words_end (values_of other.words))
behind-same one other is =
    let mine = words-end (values_of one.words) in
    let theirs = words-end (values_of other.words) in
    let registers_one = map bit_digit (values_of one.registers) in
    let registers_other = map bit_digit (values_of other.registers) in
    let both = (full-same one other is).rests in
    let rests : registers_one ++ words_end (values_of one.words) ≡ registers_other ++ words_end (values_of other.words) = cc in
    let second = bits-same (values_of one.registers) (values_of other.registers) mine.byte theirs.byte mine.rest theirs.rest mine.end theirs.end
    (ap (λ (text : List ℕ). registers_one ++ text) (sym mine.is) ∙ rests ∙ ap (λ (text : List ℕ). registers_other ++ text) theirs.is) in
    record { bits = second.bits; rests = mine.is ∙ second.rests ∙ sym theirs.is }

-- lines that are the same have the same outputs
pub outputs-same : (registers : Bool) (one other : Entry) → entry_line registers one ≡ entry_line registers other → values_of one.outputs ≡ values_of other.outputs
outputs-same false one other is =
    let end : IsEnd 10 = record { below = omega arith } in
    (bits-same (values_of one.outputs) (values_of other.outputs) 10 10 [] [] end end (sym (plain-line one) ∙ is ∙ plain-line other)).bits
outputs-same true one other is = (full-same one other is).bits

-- and the same registers, if they have registers
pub registers-same : (one other : Entry) → entry_line true one ≡ entry_line true other → values_of one.registers ≡ values_of other.registers
registers-same one other is = (behind-same one other is).bits

pub sixteen-same : (one other : Entry) → All (λ word. word < 65536) (values_of one.words) → All (λ word. word < 65536) (values_of other.words)
    → entry_line true one ≡ entry_line true other → values_of one.words ≡ values_of other.words
sixteen-same one other few less is = words-same (values_of one.words) (values_of other.words) few less (behind-same one other is).rests

-- the values of lines that are the same
pub record HaveSame (registers : Bool) (one other : Entry) : Type 0 where
  pub outputs : values_of one.outputs ≡ values_of other.outputs
  pub bits : registers ≡ true → values_of one.registers ≡ values_of other.registers
  pub words : registers ≡ true → values_of one.words ≡ values_of other.words

-- the lines of values that are the same
pub lines-same : (registers : Bool) (one other : Entry) → HaveSame registers one other → entry_line registers one ≡ entry_line registers other
lines-same false one other same =
    plain-line one ∙ ap (λ (bits : List Bool). map bit_digit bits ++ 10 ∷ []) same.outputs ∙ sym (plain-line other)
lines-same true one other same =
    full-line one
    ∙ ap (λ (bits : List Bool). map bit_digit bits ++ 32 ∷ (map bit_digit (values_of one.registers) ++ words_end (values_of one.words))) same.outputs
    ∙ ap₂ (λ (bits : List Bool) (words : List ℕ). map bit_digit (values_of other.outputs) ++ 32 ∷ (map bit_digit bits ++ words_end words)) (same.bits refl) (same.words refl)
    ∙ sym (full-line other)
