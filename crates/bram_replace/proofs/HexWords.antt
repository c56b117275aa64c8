-- Words of hexadecimal digits, one after the other.
use Rattle.std.proofs.Common.{◌≡◌, ℕ, suc, ◌+◌, ◌-◌, ◌*◌, ◌<◌, ◌≤◌, Bool, true, false, not, ◌&&◌, ◌||◌, ◌==◌, cond, List, [], ◌∷◌, ◌++◌, length, get_or, take, drop, refl, sym, ap, ◌∙◌, subst, inl, inr, arith, take_while, append-nil, append_assoc, length-append, length-drop}
use Rattle.std.specs.Prelude.{Option, Some, None, flat_map, reverse, nat_lt, nat_le, unwrap_or, is_some, if◌then◌else◌}
use Rattle.std.specs.List.{list_all, list_any}
use Rattle.std.proofs.lemmas.Bool.{cases_lt, cases_Bool, and_parts, false≢true, eqb-true, ltb-false, lt-ltb, le-ltb, lt-leb, le-leb, or_right, or_parts, not-false}
use Rattle.std.proofs.Math.Bool.{or-true, or-false}
use Rattle.std.proofs.lemmas.List.{take_more, take_all, drop_all, drop_more, reverse-append}
use Rattle.std.proofs.lemmas.List.Folds.{list_any-append}
use Rattle.std.proofs.lemmas.Grind.{flat_map-append}
use Rattle.std.proofs.lemmas.List.Sums.{take_while-cons}
use Rattle.std.specs.Option.{option_map_or}
use Rattle.hex.specs.Hex.{is_hex_digit, hex_digit_value}
use Rattle.text_lines.specs.Words.{first_word, after_word, from_word, is_separator}
use Rattle.text_lines.proofs.Spaced.{length-from_word}
use Rattle.text_lines.specs.declared.words.Separators.TheVariants.{Whitespace}
use Rattle.bram_replace.specs.declared.fault.HexFault.{HexFault}
use Rattle.bram_replace.specs.declared.fault.HexFault.TheVariants.{Digit, Width, Depth, Memory}
use Rattle.bram_replace.specs.HexText.{before_comment, begins_comment, bits_in, byte_bits, digit_bits, digits_in, digits_set, is_misfit, is_word, words_cause, TellsHex}
use Rattle.bram_replace.specs.Collected.{Holds, IsWidth, digits_known}

-- ---- up to a comment

pub before_comment-more : (line : List ℕ) (i : ℕ) → i < length line → begins_comment (drop i line) ≡ false
    → before_comment line ≡ take i line ++ before_comment (drop i line) → before_comment line ≡ take (i + 1) line ++ before_comment (drop (i + 1) line)
unfolding before_comment
before_comment-more line i within apart is =
    let cut = drop_more line i 0 within in
    let apart_cut : begins_comment (get_or line i 0 ∷ drop (i + 1) line) ≡ false = subst (λ xs. begins_comment xs ≡ false) cut apart in
    let here : before_comment (drop i line) ≡ get_or line i 0 ∷ before_comment (drop (i + 1) line) = ap before_comment cut ∙ rw apart_cut refl in
    is ∙ ap (λ xs. take i line ++ xs) here ∙ sym (append_assoc (take i line) (get_or line i 0 ∷ []) (before_comment (drop (i + 1) line)))
    ∙ ap (λ xs. xs ++ before_comment (drop (i + 1) line)) (sym (take_more line i 0 within))

pub before_comment-here : (line : List ℕ) (i : ℕ) → i < length line → begins_comment (drop i line) ≡ true
    → before_comment line ≡ take i line ++ before_comment (drop i line) → take i line ≡ before_comment line
unfolding before_comment
before_comment-here line i within begins is =
    let cut = drop_more line i 0 within in
    let begins_cut : begins_comment (get_or line i 0 ∷ drop (i + 1) line) ≡ true = subst (λ xs. begins_comment xs ≡ true) cut begins in
    let here : before_comment (drop i line) ≡ [] = ap before_comment cut ∙ rw begins_cut refl in
    sym (is ∙ ap (λ xs. take i line ++ xs) here ∙ append-nil (take i line))

pub before_comment-all : (line : List ℕ) (i : ℕ) → length line ≤ i
    → before_comment line ≡ take i line ++ before_comment (drop i line) → line ≡ before_comment line
unfolding before_comment
before_comment-all line i over is =
    sym (is ∙ ap (λ xs. take i line ++ before_comment xs) (drop_all i line over) ∙ append-nil (take i line) ∙ take_all i line over)

-- ---- the bits of a word

-- the first byte's bits come last
flat_map-turned : (byte : ℕ) (bytes : List ℕ) → flat_map byte_bits (reverse (byte ∷ bytes)) ≡ flat_map byte_bits (reverse bytes) ++ byte_bits byte
flat_map-turned byte bytes =
    ap (flat_map byte_bits) (reverse-append (byte ∷ []) bytes) ∙ flat_map-append byte_bits (reverse bytes) (byte ∷ []) ∙ ap (λ xs. flat_map byte_bits (reverse bytes) ++ xs) (append-nil (byte_bits byte))

length-digit : (value : Option ℕ) → length (option_map_or digit_bits value []) ≡ (if is_some value then 4 else 0)
length-digit None = refl
length-digit (Some value) = refl

-- four bits a digit
length-turned : (word : List ℕ) → length (flat_map byte_bits (reverse word)) ≡ 4 * length (digits_in word)
length-turned [] = refl
length-turned (byte ∷ bytes) =
    let more = ap length (flat_map-turned byte bytes) ∙ length-append (flat_map byte_bits (reverse bytes)) (byte_bits byte) in
    let here = length-digit (hex_digit_value byte) in
    elim (cases_Bool (is_hex_digit byte)) [
      | inl is ↦
          let four : length (byte_bits byte) ≡ 4 = here ∙ rw is refl in
          rw is (omega (arith, more, four, length-turned bytes))
      | inr is ↦
          let none : length (byte_bits byte) ≡ 0 = here ∙ rw is refl in
          rw is (omega (arith, more, none, length-turned bytes))
    ]

pub length-bits_in : (word : List ℕ) → length (bits_in word) ≡ 4 * length (digits_in word)
unfolding bits_in
length-bits_in word = length-turned word

-- not more digits than bytes
pub digits-few : (word : List ℕ) → length (digits_in word) ≤ length word
digits-few [] = omega arith
digits-few (byte ∷ bytes) = elim (is_hex_digit byte) as (λ is. length (cond is (byte ∷ digits_in bytes) (digits_in bytes)) ≤ length (byte ∷ bytes)) [
  | true ↦ omega (arith, digits-few bytes)
  | false ↦ omega (arith, digits-few bytes)
]

some-among : (word : List ℕ) → list_any is_hex_digit word ≡ true → 0 < length (digits_in word)
some-among [] some = absurd (false≢true some)
some-among (byte ∷ bytes) some = elim (cases_Bool (is_hex_digit byte)) [
  | inl is ↦ rw is (omega arith)
  | inr is ↦ let later : list_any is_hex_digit bytes ≡ true = rw is at some in rw is (some-among bytes later)
]

-- a word has a digit
pub digits-some : (word : List ℕ) → is_word word ≡ true → 0 < length (digits_in word)
digits-some word is = some-among word (and_parts (list_all (λ byte. is_hex_digit byte || (byte == 95)) word) (list_any is_hex_digit word) is).1

pub bits_in-none : (word : List ℕ) → flat_map byte_bits (reverse (drop (length word) word)) ≡ []
bits_in-none word = rw (drop_all (length word) word (omega arith)) refl

pub bits_in-more : (word : List ℕ) (i : ℕ) → 0 < i → i ≤ length word
    → flat_map byte_bits (reverse (drop (i - 1) word)) ≡ flat_map byte_bits (reverse (drop i word)) ++ byte_bits (get_or word (i - 1) 0)
bits_in-more word i some within =
    let next : i - 1 + 1 ≡ i = omega arith in
    let cut : drop (i - 1) word ≡ get_or word (i - 1) 0 ∷ drop i word = subst (λ n. drop (i - 1) word ≡ get_or word (i - 1) 0 ∷ drop n word) next (drop_more word (i - 1) 0 (omega arith)) in
    ap (λ xs. flat_map byte_bits (reverse xs)) cut ∙ flat_map-turned (get_or word (i - 1) 0) (drop i word)

-- from the first byte on these are all
pub bits_in-all : (word : List ℕ) (i : ℕ) → i ≡ 0 → flat_map byte_bits (reverse (drop i word)) ≡ bits_in word
unfolding bits_in
bits_in-all word i first = rw first refl

-- ---- a word more

digits_set-more : (words : List (List ℕ)) (word : List ℕ) (others : List (List ℕ)) → digits_set (words ++ word ∷ others) ≡ digits_set (words ++ word ∷ [])
digits_set-more [] word others = refl
digits_set-more (first ∷ words) word others = refl

-- a word that fits has the number of digits of the others
pub misfit-parts : (digits : ℕ) (word : List ℕ) → is_misfit digits word ≡ false → (length (digits_in word) ≡ digits) × (length (digits_in word) ≤ 64)
misfit-parts digits word fits = let parts = or_parts (not (length (digits_in word) == digits)) (nat_lt 64 (length (digits_in word))) fits in
    (eqb-true (length (digits_in word)) digits (not-false (length (digits_in word) == digits) parts.0), ltb-false 64 (length (digits_in word)) parts.1)

Holds-fit : (words : List (List ℕ)) (word : List ℕ) → list_any (is_misfit (digits_set words)) words ≡ false → is_misfit (digits_set (words ++ word ∷ [])) word ≡ false
    → list_any (is_misfit (digits_set (words ++ word ∷ []))) (words ++ word ∷ []) ≡ false
Holds-fit [] word fit fits = rw fits refl
Holds-fit (first ∷ words) word fit fits = rw (list_any-append (is_misfit (length (digits_in first))) (first ∷ words) (word ∷ []), fit, fits) refl

Holds-digits : (words : List (List ℕ)) (word : List ℕ) → is_misfit (digits_set (words ++ word ∷ [])) word ≡ false → Some (length (digits_in word)) ≡ digits_known (words ++ word ∷ [])
Holds-digits [] word fits = refl
Holds-digits (first ∷ words) word fits = ap (λ n. Some n) (misfit-parts (length (digits_in first)) word fits).0

pub Holds-more : (words : List (List ℕ)) (word : List ℕ) (digits : Option ℕ) (bits new : List Bool) → Holds words digits bits → 0 < length (digits_in word)
    → is_misfit (digits_set (words ++ word ∷ [])) word ≡ false → new ≡ bits ++ bits_in word → Holds (words ++ word ∷ []) (Some (length (digits_in word))) new
Holds-more words word digits bits new holds some fits is = record {
  digits_are = Holds-digits words word fits;
  bits_are = is ∙ ap (λ xs. xs ++ bits_in word) holds.bits_are ∙ sym (flat_map-append bits_in words (word ∷ []) ∙ ap (λ xs. flat_map bits_in words ++ xs) (append-nil (bits_in word)));
  fit = Holds-fit words word holds.fit fits;
  range = (some, (misfit-parts (digits_set (words ++ word ∷ [])) word fits).1);
}

-- ---- whether a word fits, as it is tested

digits_set-known : (words : List (List ℕ)) (word : List ℕ) → digits_set (words ++ word ∷ []) ≡ unwrap_or (digits_known words) (length (digits_in word))
digits_set-known [] word = refl
digits_set-known (first ∷ words) word = refl

misfit-test : (digits set : ℕ) → (not (digits == set) || nat_lt 64 digits) ≡ not (nat_le digits 64 && (digits == set))
misfit-test digits set = elim (cases_lt 64 digits) [
  | inl more ↦ rw (lt-ltb 64 digits more, lt-leb digits 64 more) (or-true (not (digits == set)))
  | inr few ↦ rw (le-ltb 64 digits few, le-leb digits 64 few) (or-false (not (digits == set)))
]

pub misfit-is : (words : List (List ℕ)) (word : List ℕ) (digits : Option ℕ) (bits : List Bool) → Holds words digits bits
    → is_misfit (digits_set (words ++ word ∷ [])) word ≡ not (nat_le (length (digits_in word)) 64 && (length (digits_in word) == unwrap_or digits (length (digits_in word))))
misfit-is words word digits bits holds =
    ap (λ n. is_misfit n word) (digits_set-known words word ∙ ap (λ d. unwrap_or d (length (digits_in word))) (sym holds.digits_are))
    ∙ misfit-test (length (digits_in word)) (unwrap_or digits (length (digits_in word)))

-- a word that is tested so fits
pub fits-from : (words : List (List ℕ)) (word : List ℕ) (digits : Option ℕ) (bits : List Bool) (count : ℕ) (wide : Bool) → Holds words digits bits → count ≡ length (digits_in word)
    → wide ≡ (nat_le count 64 && (count == unwrap_or digits count)) → wide ≡ true → is_misfit (digits_set (words ++ word ∷ [])) word ≡ false
fits-from words word digits bits count wide holds is tested holds_so =
    misfit-is words word digits bits holds ∙ ap (λ n. not (nat_le n 64 && (n == unwrap_or digits n))) (sym is) ∙ ap not (sym tested ∙ holds_so)

-- ---- the words of a line

-- the first words of a line were taken, after words from earlier lines
pub record Went (words all rest : List (List ℕ)) (digits : Option ℕ) (bits : List Bool) : Type 0 where
  pub front : List (List ℕ)
  pub cut : all ≡ front ++ rest
  pub holds : Holds (words ++ front) digits bits

pub Went-none : (words all : List (List ℕ)) (digits : Option ℕ) (bits : List Bool) → Holds words digits bits → Went words all all digits bits
Went-none words all digits bits holds = record {
  front = [];
  cut = refl;
  holds = subst (λ ws. Holds ws digits bits) (sym (append-nil words)) holds;
}

-- a word more; what a call of it ensures
pub Went-more : (words all rest more : List (List ℕ)) (word : List ℕ) (digits next : Option ℕ) (bits new : List Bool) → Went words all rest digits bits → rest ≡ word ∷ more
    → ((before : List (List ℕ)) → Holds before digits bits → Holds (before ++ word ∷ []) next new) → Went words all more next new
Went-more words all rest more word digits next bits new went e taken = record {
  front = went.front ++ word ∷ [];
  cut = went.cut ∙ ap (λ ws. went.front ++ ws) e ∙ sym (append_assoc went.front (word ∷ []) more);
  holds = subst (λ ws. Holds ws next new) (append_assoc words went.front (word ∷ [])) (taken (words ++ went.front) went.holds);
}

-- all words were taken
pub Went-all : (words all rest : List (List ℕ)) (digits : Option ℕ) (bits : List Bool) → Went words all rest digits bits → rest ≡ [] → Holds (words ++ all) digits bits
Went-all words all rest digits bits went e =
    subst (λ ws. Holds (words ++ ws) digits bits) (sym (went.cut ∙ ap (λ ws. went.front ++ ws) e ∙ append-nil went.front)) went.holds

-- then nothing is wrong
pub cause-none : (words all : List (List ℕ)) (digits : Option ℕ) (bits : List Bool) (number : ℕ) → Holds (words ++ all) digits bits → list_all is_word all ≡ true
    → words_cause (digits_set (words ++ all)) all number ≡ None
cause-none words all digits bits number holds good =
    let fit = or_parts (list_any (is_misfit (digits_set (words ++ all))) words) (list_any (is_misfit (digits_set (words ++ all))) all)
    (sym (list_any-append (is_misfit (digits_set (words ++ all))) words all) ∙ holds.fit) in
    rw (good, fit.1) refl

-- a word that isn't written in digits
pub cause-digit : (digits number : ℕ) (all : List (List ℕ)) → list_all is_word all ≡ false → words_cause digits all number ≡ Some (Digit number)
cause-digit digits number all bad = rw bad refl

-- a word that doesn't fit
cause-width : (words all more : List (List ℕ)) (word : List ℕ) (number : ℕ) (front : List (List ℕ)) → all ≡ front ++ (word ∷ more) → list_all is_word all ≡ true
    → is_misfit (digits_set ((words ++ front) ++ word ∷ [])) word ≡ true → words_cause (digits_set (words ++ all)) all number ≡ Some (Width number)
cause-width words all more word number front e good misfit =
    let whole : words ++ all ≡ (words ++ front) ++ (word ∷ more) = ap (λ ws. words ++ ws) e ∙ sym (append_assoc words front (word ∷ more)) in
    let set : digits_set (words ++ all) ≡ digits_set ((words ++ front) ++ word ∷ []) = ap digits_set whole ∙ digits_set-more (words ++ front) word more in
    let test = is_misfit (digits_set (words ++ all)) in
    let here : test word ≡ true = ap (λ n. is_misfit n word) set ∙ misfit in
    let later : list_any test (word ∷ more) ≡ true = rw here refl in
    let any : list_any test all ≡ true = ap (list_any test) e ∙ list_any-append test front (word ∷ more) ∙ or_right (list_any test front) (list_any test (word ∷ more)) later in
    rw (good, any) refl

tells-width : (misfit : Bool) (number : ℕ) (fault : Option HexFault) (told : HexFault) → TellsHex (if misfit then Some (Width number) else None) told
    → (misfit ≡ true → fault ≡ Some (Width number)) → TellsHex fault told
tells-width true number fault (Digit line) tells is = is refl ∙ tells
tells-width true number fault (Width line) tells is = is refl ∙ tells
tells-width true number fault Depth tells is = is refl ∙ tells
tells-width true number fault (Memory e) tells is = tt
tells-width false number fault (Digit line) tells is = absurd cc
tells-width false number fault (Width line) tells is = absurd cc
tells-width false number fault Depth tells is = absurd cc
tells-width false number fault (Memory e) tells is = tt

-- what the refusal of a word says of its line
pub Went-refused : (words all rest more : List (List ℕ)) (word : List ℕ) (digits : Option ℕ) (bits : List Bool) (number : ℕ) (told : HexFault) → Went words all rest digits bits
    → rest ≡ word ∷ more → list_all is_word all ≡ true
    → ((before : List (List ℕ)) → Holds before digits bits → TellsHex (if is_misfit (digits_set (before ++ word ∷ [])) word then Some (Width number) else None) told)
    → TellsHex (words_cause (digits_set (words ++ all)) all number) told
Went-refused words all rest more word digits bits number told went e good refused =
    tells-width (is_misfit (digits_set ((words ++ went.front) ++ word ∷ [])) word) number (words_cause (digits_set (words ++ all)) all number) told
    (refused (words ++ went.front) went.holds)
    (cause-width words all more word number went.front (went.cut ∙ ap (λ ws. went.front ++ ws) e) good)

-- no words
pub Holds-none : (digits : Option ℕ) (bits : List Bool) → digits ≡ None → bits ≡ [] → Holds [] digits bits
Holds-none digits bits none empty = record {
  digits_are = none;
  bits_are = empty;
  fit = refl;
  range = subst IsWidth (sym none) tt;
}

-- the first word of a line, and the others
pub first-written : (all more : List (List ℕ)) (word : List ℕ) → all ≡ word ∷ more → list_all is_word all ≡ true → is_word word ≡ true
first-written all more word e good = (and_parts (is_word word) (list_all is_word more) (ap (list_all is_word) (sym e) ∙ good)).0

pub rest-written : (all more : List (List ℕ)) (word : List ℕ) → all ≡ word ∷ more → list_all is_word all ≡ true → list_all is_word more ≡ true
rest-written all more word e good = (and_parts (is_word word) (list_all is_word more) (ap (list_all is_word) (sym e) ∙ good)).1

take_while-few : (test : ℕ → Bool) (bytes : List ℕ) → length (take_while test bytes) ≤ length bytes
take_while-few test [] = omega arith
take_while-few test (byte ∷ bytes) =
    rw (take_while-cons test byte bytes) (elim (test byte) as (λ holds_so. length (cond holds_so (byte ∷ take_while test bytes) []) ≤ suc (length bytes)) [
      | true ↦ omega (arith, take_while-few test bytes)
      | false ↦ omega arith
    ])

-- a word and the text after it are no longer than the line
pub word-room : (line word after : List ℕ) → word ≡ first_word Whitespace line → after ≡ after_word Whitespace line → length word + length after ≤ length line
word-room line word after is rest =
    let start = from_word Whitespace line in
    omega (arith, ap length is, ap length rest, length-drop (length (first_word Whitespace line)) start, take_while-few (λ byte. not (is_separator Whitespace byte)) start, length-from_word Whitespace line)
