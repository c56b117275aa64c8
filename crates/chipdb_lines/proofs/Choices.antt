-- Values and a net with one space between them, and lines without a word.
use Rattle.std.proofs.Common.{◌≡◌, ℕ, ◌<◌, ◌≤◌, Bool, true, false, ◌&&◌, ◌||◌, List, [], ◌∷◌, ◌++◌, append_assoc, length, length-append, get_or, refl, sym, ap, ◌∙◌, inl, inr, arith}
use Rattle.std.specs.Prelude.{All, Some, Ok, ◌==◌, nat_lt, nat_le}
use Rattle.std.specs.List.{list_all}
use Rattle.std.specs.Char.{is_ascii_digit}
use Rattle.std.proofs.lemmas.Bool.{and_parts, cases_Bool, ltb-true, lt-ltb, eq-eqb, ne_eqb}
use Rattle.std.proofs.lemmas.Bool.Decides.{nat_tests}
use Rattle.std.proofs.lemmas.List.Elements.{All-append, All-cons, All-weaker}
use Rattle.text_lines.specs.declared.words.Separators.TheVariants.{SpacesAndTabs}
use Rattle.text_lines.specs.Lines.{is_blank, lines_of}
use Rattle.text_lines.specs.Numbers.{StartsWithNumber}
use Rattle.text_lines.specs.Words.{is_number, number_of, words_of, pieces_of, from_word}
use Rattle.text_lines.proofs.Spaced.{IsWord, IsWord-high, words_of-two, words_of-separator, words_of-cut, from_word-inner}
use Rattle.text_lines.proofs.Written.{lines_of-plain}
use Rattle.chipdb_lines.specs.declared.links.Choice.{Choice}
use Rattle.chipdb_lines.specs.Words.{has_none, own_words, words_in}
use Rattle.chipdb_lines.specs.Items.{choice_of}
use Rattle.chipdb_lines.specs.Kept.{choice_named, AreParted, BeginsWithPair, Chooses, WritesValues}
use Rattle.chipdb_lines.proofs.Values.{list_all-at, value-byte}

-- bytes all of which pass a test that no byte up to the space passes
all-high : (test : ℕ → Bool) (word : List ℕ) → ((byte : ℕ) → test byte ≡ true → 32 < byte) → list_all test word ≡ true → All (λ byte. 32 < byte) word
all-high test word high all = λ k d lt. high (get_or word k d) (list_all-at test word k d all lt)

value-high : (byte : ℕ) → ((byte == 48) || (byte == 49)) ≡ true → 32 < byte
value-high byte is = let parts = value-byte byte is in omega (arith, parts.1)

digit-high : (byte : ℕ) → is_ascii_digit byte ≡ true → 32 < byte
digit-high byte is = grind (arith, nat_tests)

-- values are a word
values-word : (values : List ℕ) → 0 < length values → list_all (λ byte. (byte == 48) || (byte == 49)) values ≡ true → IsWord SpacesAndTabs values
values-word values some all = IsWord-high SpacesAndTabs values some (all-high (λ byte. (byte == 48) || (byte == 49)) values value-high all)

-- a number is a word
number-is : (word : List ℕ) (number : ℕ) → number_of word ≡ Some number → is_number word ≡ true
unfolding number_of
number-is word number is =
    elim (cases_Bool (is_number word)) [
      | inl whole ↦ whole
      | inr none ↦ absurd (cc (rw none at is))
    ]

pub number-digits : (word : List ℕ) (number : ℕ) → number_of word ≡ Some number → list_all is_ascii_digit word ≡ true
number-digits word number is = (and_parts (nat_lt 0 (length word) && nat_le (length word) 9) (list_all is_ascii_digit word) (number-is word number is)).1

pub number-high : (word : List ℕ) (number : ℕ) → number_of word ≡ Some number → All (λ byte. 32 < byte) word
number-high word number is = all-high is_ascii_digit word digit-high (number-digits word number is)

weaker : (word : List ℕ) → All (λ byte. 32 < byte) word → All (λ byte. 32 ≤ byte) word
weaker word high = All-weaker (λ byte. 32 < byte) (λ byte. 32 ≤ byte) (λ byte lt. omega arith) word high

pub number-word : (word : List ℕ) (number : ℕ) → number_of word ≡ Some number → IsWord SpacesAndTabs word
number-word word number is =
    let sizes = (and_parts (nat_lt 0 (length word) && nat_le (length word) 9) (list_all is_ascii_digit word) (number-is word number is)).0 in
    let some : 0 < length word = ltb-true 0 (length word) (and_parts (nat_lt 0 (length word)) (nat_le (length word) 9) sizes).0 in
    IsWord-high SpacesAndTabs word some (number-high word number is)

-- a choice of values and a net with one space between them
pub choice_of-parted : (nets : ℕ) (values src : List ℕ) (choice : Choice) → 0 < length values → WritesValues values choice.values → number_of src ≡ Some choice.src → choice.src < nets
    → choice_of nets (length values) (words_in (values ++ (32 ∷ src))) ≡ Ok (choice_named (length values) choice)
unfolding choice_of
choice_of-parted nets values src choice some written number lt =
    let parted = words_of-two SpacesAndTabs values src (values-word values some written.all) (number-word src choice.src number) in
    rw (parted, number, lt-ltb choice.src nets lt, eq-eqb (length values) (length values) refl, written.all, written.bits) refl

-- a byte above the space that is a value begins neither a statement nor a comment
value-begins : (byte : ℕ) → ((byte == 48) || (byte == 49)) ≡ true → ((byte == 46) ≡ false) × ((byte == 35) ≡ false)
value-begins byte is =
    let parts = value-byte byte is in
    let low : 48 ≤ byte = parts.1 in
    (ne_eqb byte 46 (λ same. omega arith), ne_eqb byte 35 (λ same. omega arith))

-- values and a number with one space between them
pub parted-words : (values src : List ℕ) (number : ℕ) → 0 < length values → list_all (λ byte. (byte == 48) || (byte == 49)) values ≡ true → number_of src ≡ Some number → AreParted values src
unfolding own_words
parted-words [] src number some all is = absurd (omega arith)
parted-words (first ∷ values) src number some all is =
    let begins = value-begins first (and_parts ((first == 48) || (first == 49)) (list_all (λ byte. (byte == 48) || (byte == 49)) values) all).0 in
    let one = values-word (first ∷ values) some all in
    let two = number-word src number is in
    let words = words_of-two SpacesAndTabs (first ∷ values) src one two in
    let high : All (λ byte. 32 < byte) (first ∷ values) = all-high (λ byte. (byte == 48) || (byte == 49)) (first ∷ values) value-high all in
    let more : All (λ byte. 32 < byte) src = number-high src number is in
    record {
      plain = All-append (λ byte. 32 ≤ byte) (first ∷ values) (32 ∷ src) (weaker (first ∷ values) high) (All-cons (λ byte. 32 ≤ byte) 32 src (omega arith) (weaker src more));
      words = words;
      own = rw (begins.0, begins.1) words;
      item = begins.0;
    }

-- the first line of a text that begins with values, a space, and a number before LF
pub choice-line : (nets : ℕ) (values text : List ℕ) (choice : Choice) (rest : List ℕ) → 0 < length values → WritesValues values choice.values → StartsWithNumber 10 text choice.src rest → choice.src < nets
    → BeginsWithPair (values ++ (32 ∷ text)) rest (λ words. Chooses nets (length values) words choice)
choice-line nets values text choice rest some written starts lt =
    let src = starts.digits in
    let parted = parted-words values src choice.src some written.all starts.number_is in
    let says = choice_of-parted nets values src choice some written starts.number_is lt in
    record {
      first = values;
      second = src;
      parted = parted;
      lines = ap (λ t. lines_of (values ++ (32 ∷ t))) starts.text_is ∙ ap lines_of (sym (append_assoc values (32 ∷ src) (10 ∷ rest)))
          ∙ lines_of-plain (values ++ (32 ∷ src)) rest parted.plain;
      shorter = omega (arith, ap length starts.text_is, length-append src (10 ∷ rest), length-append values (32 ∷ text));
      holds = record { says = ap (choice_of nets (length values)) (sym parted.words) ∙ says; small = written.small };
    }

-- a line without a word has blanks alone
pub no_word-blanks : (line : List ℕ) → list_all is_blank line ≡ has_none (words_in line)
unfolding words_of pieces_of
no_word-blanks [] = refl
no_word-blanks (byte ∷ bytes) =
    elim (cases_Bool (is_blank byte)) [
      | inl blank ↦
          let same : words_in (byte ∷ bytes) ≡ words_in bytes = words_of-separator SpacesAndTabs byte bytes blank in
          rw (same, blank) (no_word-blanks bytes)
      | inr inner ↦
          let begins : byte ∷ bytes ≡ from_word SpacesAndTabs (byte ∷ bytes) = sym (from_word-inner SpacesAndTabs byte bytes inner) in
          rw (words_of-cut SpacesAndTabs (byte ∷ bytes) (byte ∷ bytes) begins (omega arith), inner) refl
    ]
