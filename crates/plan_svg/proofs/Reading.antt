-- How a reader goes through numbers, names, and pieces of a picture.
use Rattle.std.proofs.Common.{◌≡◌, ℕ, zero, suc, ◌+◌, ◌/◌, ◌%◌, ◌<◌, ◌≤◌, Bool, true, false, not, ◌&&◌, ◌||◌, ◌==◌, List, [], ◌∷◌, ◌++◌, length, get_or, append_assoc, refl, sym, ap, ◌∙◌, subst, arith, inl, inr}
use Rattle.std.specs.Prelude.{All, decimal, flat_map, nat_le, nat_lt, if◌then◌else◌}
use Rattle.std.specs.Fmt.{digits, digits_onto, digit_glyph}
use Rattle.std.specs.List.{list_all}
use Rattle.std.proofs.lemmas.Bool.{and_from, and_parts, both_ways, cases_Bool, eqb-true, le-leb, lt-ltb, ne_eqb}
use Rattle.std.proofs.lemmas.List.Elements.{All-cons, All-get_or, All-head, All-nil, All-tail, All-weaker}
use Rattle.std.proofs.lemmas.List.Sums.{AllPass-from_list_all, list_all-from_AllPass}
use Rattle.index_search.specs.Places.{gathered_below}
use Rattle.hex.specs.Hex.{encode_with, lower_digits}
use Rattle.plan_svg.specs.Names.{Says, is_plain, is_printable, nothing, plain, ampersand, less, greater, quote, apostrophe}
use Rattle.plan_svg.specs.Pieces.{word_digits}
use Rattle.plan_svg.specs.Reader.{Mode, Reading, is_text, read, read_byte, reading, refused, with_class, before, content, after, tag, opening, closing, space, key, equals, value, quoted, empty, entity, fault}

pub read-append : (now : Reading) (one two : List ℕ) → read now (one ++ two) ≡ read (read now one) two
unfolding read
read-append now [] two = refl
read-append now (byte ∷ one) two = read-append (read_byte now.mode now.elements now.classes byte) one two

-- one part of a text, and then the other
pub read-then : (now : Reading) (one two : List ℕ) {middle last : Reading} → read now one ≡ middle → read middle two ≡ last → read now (one ++ two) ≡ last
read-then now one two first second = read-append now one two ∙ ap (λ (next : Reading). read next two) first ∙ second

-- ---- texts that leave a reader where it is

-- these bytes leave a reader that is in a text where it is
abbrev pub IsCalm : List ℕ → Type 0
IsCalm bytes = (elements classes : List (List ℕ)) → read (reading content elements classes) bytes ≡ reading content elements classes

pub calm-none : IsCalm []
unfolding read
calm-none elements classes = refl

pub calm-append : (one two : List ℕ) → IsCalm one → IsCalm two → IsCalm (one ++ two)
calm-append one two first second elements classes = read-append (reading content elements classes) one two ∙ ap (λ now. read now two) (first elements classes) ∙ second elements classes

-- a byte of a text is neither `&` nor `<`
no-text : (byte wrong : ℕ) → is_text byte ≡ true → is_text wrong ≡ false → (byte == wrong) ≡ false
no-text byte wrong is none =
    elim (cases_Bool (byte == wrong)) [
      | inl same ↦ absurd (both_ways (is_text byte) (ap is_text (eqb-true byte wrong same) ∙ none) is)
      | inr other ↦ other
    ]

last-true : (b : Bool) → (b || true) ≡ true
last-true true = refl
last-true false = refl

-- the second and the third of some choices
second : {A : Type 0} (one two : Bool) (a b c : A) → one ≡ false → two ≡ true → (if one then a else if two then b else c) ≡ b
second one two a b c of_one of_two = rw (of_one, of_two) refl

third : {A : Type 0} (one two three : Bool) (a b c d : A) → one ≡ false → two ≡ false → three ≡ true → (if one then a else if two then b else if three then c else d) ≡ c
third one two three a b c d of_one of_two of_three = rw (of_one, of_two, of_three) refl

text-stays : (byte : ℕ) (elements classes : List (List ℕ)) → is_text byte ≡ true → read_byte content elements classes byte ≡ reading content elements classes
text-stays byte elements classes is =
    third (byte == 60) (byte == 38) ((byte == 10) || is_text byte) (reading tag elements classes) (reading (entity []) elements classes) (reading content elements classes) refused
    (no-text byte 60 is refl) (no-text byte 38 is refl) (ap (λ text. (byte == 10) || text) is ∙ last-true (byte == 10))

pub calm-text : (bytes : List ℕ) → list_all is_text bytes ≡ true → IsCalm bytes
unfolding read
calm-text [] all elements classes = refl
calm-text (byte ∷ bytes) all elements classes =
    let both = and_parts (is_text byte) (list_all is_text bytes) all in
    ap (λ now. read now bytes) (text-stays byte elements classes both.0) ∙ calm-text bytes both.1 elements classes

-- ---- numbers

is_text-from : (byte : ℕ) → 48 ≤ byte → byte ≤ 122 → (byte == 60) ≡ false → (byte == 62) ≡ false → is_text byte ≡ true
is_text-from byte low high no_less no_greater =
    let no_and : (byte == 38) ≡ false = ne_eqb byte 38 (λ same. omega arith) in
    let above : nat_le 32 byte ≡ true = le-leb 32 byte (omega arith) in
    let below : nat_le byte 126 ≡ true = le-leb byte 126 (omega arith) in
    rw (above, below, no_and, no_less, no_greater) refl

glyph-is : (n : ℕ) → digit_glyph false (n % 10) ≡ 48 + n % 10
glyph-is n =
    let small : nat_lt (n % 10) 10 ≡ true = lt-ltb (n % 10) 10 (omega arith) in
    rw small refl

-- a digit is a byte of a text, and no quote
abbrev pub IsDigit : ℕ → Type 0
IsDigit byte = (is_text byte ≡ true) × ((byte == 34) ≡ false)

digit-glyph : (n : ℕ) → IsDigit (digit_glyph false (n % 10))
digit-glyph n =
    let byte = 48 + n % 10 in
    subst IsDigit (sym (glyph-is n))
    (is_text-from byte (omega arith) (omega arith) (ne_eqb byte 60 (λ same. omega arith)) (ne_eqb byte 62 (λ same. omega arith)), ne_eqb byte 34 (λ same. omega arith))

onto-digits : (k n : ℕ) (digits : List ℕ) → All IsDigit digits → All IsDigit (digits_onto k 10 false n digits)
onto-digits zero n digits all = all
onto-digits (suc k) n digits all =
    let more : All IsDigit (digit_glyph false (n % 10) ∷ digits) = All-cons IsDigit (digit_glyph false (n % 10)) digits (digit-glyph n) all in
    elim (cases_Bool (n / 10 == 0)) [
      | inl last ↦ rw last more
      | inr not_last ↦ rw not_last (onto-digits k (n / 10) (digit_glyph false (n % 10) ∷ digits) more)
    ]

onto-some : (k n : ℕ) (digits : List ℕ) → 0 < length digits → 0 < length (digits_onto k 10 false n digits)
onto-some zero n digits some = some
onto-some (suc k) n digits some =
    elim (cases_Bool (n / 10 == 0)) [
      | inl last ↦ rw last (omega arith)
      | inr not_last ↦ rw not_last (onto-some k (n / 10) (digit_glyph false (n % 10) ∷ digits) (omega arith))
    ]

pub decimal-digits : (n : ℕ) → All IsDigit (decimal n)
unfolding digits
decimal-digits n = onto-digits 64 n [] (All-nil IsDigit)

some-onto : (k n : ℕ) → 0 < length (digits_onto (suc k) 10 false n [])
some-onto k n =
    elim (cases_Bool (n / 10 == 0)) [
      | inl last ↦ rw last (omega arith)
      | inr not_last ↦ rw not_last (onto-some k (n / 10) (digit_glyph false (n % 10) ∷ []) (omega arith))
    ]

-- a number has a digit
pub decimal-some : (n : ℕ) → 0 < length (decimal n)
unfolding digits
decimal-some n = some-onto 63 n

calm-digits : (bytes : List ℕ) → All IsDigit bytes → IsCalm bytes
calm-digits bytes all =
    calm-text bytes (list_all-from_AllPass is_text bytes (All-weaker IsDigit (λ byte. is_text byte ≡ true) (λ byte digit. digit.0) bytes all))

pub calm-number : (n : ℕ) → IsCalm (decimal n)
calm-number n = calm-digits (decimal n) (decimal-digits n)

-- bytes before a value, whose last byte comes first
abbrev pub onto : List ℕ → List ℕ → List ℕ
onto [] text = text
onto (byte ∷ bytes) text = onto bytes (byte ∷ text)

pub length-onto : (bytes text : List ℕ) → length (onto bytes text) ≡ length bytes + length text
length-onto [] text = omega arith
length-onto (byte ∷ bytes) text = omega (arith, length-onto bytes (byte ∷ text))

value-stays : (name : List ℕ) (keys : List (List ℕ)) (word text : List ℕ) (elements classes : List (List ℕ)) (byte : ℕ) → IsDigit byte
    → read_byte (value name keys word text) elements classes byte ≡ reading (value name keys word (byte ∷ text)) elements classes
value-stays name keys word text elements classes byte digit =
    second (byte == 34) (is_text byte) (reading (quoted name (word ∷ keys)) elements (with_class word text classes)) (reading (value name keys word (byte ∷ text)) elements classes) refused digit.1 digit.0

value-digits : (name : List ℕ) (keys : List (List ℕ)) (word text : List ℕ) (elements classes : List (List ℕ)) (bytes : List ℕ) → All IsDigit bytes
    → read (reading (value name keys word text) elements classes) bytes ≡ reading (value name keys word (onto bytes text)) elements classes
unfolding read
value-digits name keys word text elements classes [] all = refl
value-digits name keys word text elements classes (byte ∷ bytes) all =
    ap (λ now. read now bytes) (value-stays name keys word text elements classes byte (All-head IsDigit byte bytes all))
    ∙ value-digits name keys word (byte ∷ text) elements classes bytes (All-tail IsDigit byte bytes all)

-- ---- words

hex-text : (d : ℕ) → d < 16 → is_text (get_or lower_digits d 0) ≡ true
hex-text d small = All-get_or (λ byte. is_text byte ≡ true) lower_digits d 0 small (AllPass-from_list_all is_text lower_digits refl)

text-cons : (byte : ℕ) (bytes : List ℕ) → is_text byte ≡ true → list_all is_text bytes ≡ true → list_all is_text (byte ∷ bytes) ≡ true
text-cons byte bytes is all = and_from (is_text byte) (list_all is_text bytes) is all

pub calm-word : (word : ℕ) → IsCalm (word_digits word)
unfolding encode_with
calm-word word =
    let low = word % 65536 in
    let a = get_or lower_digits (low / 256 / 16) 0 in
    let b = get_or lower_digits (low / 256 % 16) 0 in
    let c = get_or lower_digits (low % 256 / 16) 0 in
    let d = get_or lower_digits (low % 256 % 16) 0 in
    calm-text (word_digits word)
    (text-cons a (b ∷ c ∷ d ∷ []) (hex-text (low / 256 / 16) (omega arith)) (text-cons b (c ∷ d ∷ []) (hex-text (low / 256 % 16) (omega arith))
    (text-cons c (d ∷ []) (hex-text (low % 256 / 16) (omega arith)) (text-cons d [] (hex-text (low % 256 % 16) (omega arith)) refl))))

-- ---- names

plain-text : (byte : ℕ) → is_plain byte ≡ true → is_text byte ≡ true
plain-text byte is =
    let both = and_parts (is_printable byte) (not ((byte == 38) || ((byte == 60) || ((byte == 62) || ((byte == 34) || (byte == 39)))))) is in
    by (byte == 38) (byte == 60) (byte == 62) ((byte == 34) || (byte == 39)) (is_printable byte) both.0 both.1
  where
    by : (a b c d p : Bool) → p ≡ true → not (a || (b || (c || d))) ≡ true → (p && not (a || (b || c))) ≡ true
    by a b c d false no_p none = absurd cc
    by true b c d true is_p none = absurd cc
    by false true c d true is_p none = absurd cc
    by false false true d true is_p none = absurd cc
    by false false false d true is_p none = refl

pub calm-says : {bytes text : List ℕ} → Says bytes text → IsCalm bytes
unfolding read
calm-says nothing elements classes = refl
calm-says (plain byte more said is says) elements classes =
    ap (λ now. read now more) (text-stays byte elements classes (plain-text byte is)) ∙ calm-says says elements classes
calm-says (ampersand more said says) elements classes = calm-says says elements classes
calm-says (less more said says) elements classes = calm-says says elements classes
calm-says (greater more said says) elements classes = calm-says says elements classes
calm-says (quote more said says) elements classes = calm-says says elements classes
calm-says (apostrophe more said says) elements classes = calm-says says elements classes

-- ---- pieces: bytes and numbers

pub data Bit : Type 0 where
  lit : List ℕ → Bit
  num : ℕ → Bit

abbrev pub spelled : List Bit → List ℕ
spelled [] = []
spelled (lit text ∷ bits) = text ++ spelled bits
spelled (num n ∷ bits) = decimal n ++ spelled bits

-- a number in a text or in a value
abbrev pub numbered : Mode → List (List ℕ) → List (List ℕ) → ℕ → Reading
numbered content elements classes n = reading content elements classes
numbered (value name keys word text) elements classes n = reading (value name keys word (onto (decimal n) text)) elements classes
numbered before elements classes n = read (reading before elements classes) (decimal n)
numbered after elements classes n = read (reading after elements classes) (decimal n)
numbered tag elements classes n = read (reading tag elements classes) (decimal n)
numbered (opening name) elements classes n = read (reading (opening name) elements classes) (decimal n)
numbered (closing name) elements classes n = read (reading (closing name) elements classes) (decimal n)
numbered (space name keys) elements classes n = read (reading (space name keys) elements classes) (decimal n)
numbered (key name keys word) elements classes n = read (reading (key name keys word) elements classes) (decimal n)
numbered (equals name keys word) elements classes n = read (reading (equals name keys word) elements classes) (decimal n)
numbered (quoted name keys) elements classes n = read (reading (quoted name keys) elements classes) (decimal n)
numbered empty elements classes n = read (reading empty elements classes) (decimal n)
numbered (entity word) elements classes n = read (reading (entity word) elements classes) (decimal n)
numbered fault elements classes n = read (reading fault elements classes) (decimal n)

numbered-is : (mode : Mode) (elements classes : List (List ℕ)) (n : ℕ) → read (reading mode elements classes) (decimal n) ≡ numbered mode elements classes n
numbered-is content elements classes n = calm-number n elements classes
numbered-is (value name keys word text) elements classes n = value-digits name keys word text elements classes (decimal n) (decimal-digits n)
numbered-is before elements classes n = refl
numbered-is after elements classes n = refl
numbered-is tag elements classes n = refl
numbered-is (opening name) elements classes n = refl
numbered-is (closing name) elements classes n = refl
numbered-is (space name keys) elements classes n = refl
numbered-is (key name keys word) elements classes n = refl
numbered-is (equals name keys word) elements classes n = refl
numbered-is (quoted name keys) elements classes n = refl
numbered-is empty elements classes n = refl
numbered-is (entity word) elements classes n = refl
numbered-is fault elements classes n = refl

-- where a reader is after pieces
abbrev pub evaluated : Reading → List Bit → Reading
evaluated now [] = now
evaluated now (lit text ∷ bits) = evaluated (read now text) bits
evaluated now (num n ∷ bits) = evaluated (numbered now.mode now.elements now.classes n) bits

pub evaluates : (now : Reading) (bits : List Bit) → read now (spelled bits) ≡ evaluated now bits
unfolding read
evaluates now [] = refl
evaluates now (lit text ∷ bits) = read-append now text (spelled bits) ∙ evaluates (read now text) bits
evaluates now (num n ∷ bits) =
    read-append now (decimal n) (spelled bits) ∙ ap (λ (next : Reading). read next (spelled bits)) (numbered-is now.mode now.elements now.classes n)
    ∙ evaluates (numbered now.mode now.elements now.classes n) bits

-- ---- whole elements

-- the bytes leave a reader in the text of the element in which it is, and have these classes
abbrev pub Reads : List ℕ → List (List ℕ) → Type 0
Reads bytes words =
    (element : List ℕ) (elements classes : List (List ℕ)) → read (reading content (element ∷ elements) classes) bytes ≡ reading content (element ∷ elements) (words ++ classes)

pub reads-none : Reads [] []
unfolding read
reads-none element elements classes = refl

pub reads-calm : (bytes : List ℕ) → IsCalm bytes → Reads bytes []
reads-calm bytes calm element elements classes = calm (element ∷ elements) classes

pub reads-append : (one two : List ℕ) (first second : List (List ℕ)) → Reads one first → Reads two second → Reads (one ++ two) (second ++ first)
reads-append one two first second read_one read_two element elements classes =
    read-append (reading content (element ∷ elements) classes) one two
    ∙ ap (λ now. read now two) (read_one element elements classes)
    ∙ read_two element elements (first ++ classes)
    ∙ ap (reading content (element ∷ elements)) (sym (append_assoc second first classes))

-- the classes of what is made of items, those of the last item first
abbrev pub words_of : {A : Type 0} → (A → List (List ℕ)) → List A → List (List ℕ)
words_of words [] = []
words_of words (item ∷ items) = words_of words items ++ words item

pub reads-each : {A : Type 0} (made : A → List ℕ) (words : A → List (List ℕ)) → ((item : A) → Reads (made item) (words item)) → (items : List A) → Reads (flat_map made items) (words_of words items)
reads-each made words each [] = reads-none
reads-each made words each (item ∷ items) = reads-append (made item) (flat_map made items) (words item) (words_of words items) (each item) (reads-each made words each items)

abbrev pub words_below : ℕ → (ℕ → List (List ℕ)) → List (List ℕ)
words_below zero words = []
words_below (suc n) words = words n ++ words_below n words

pub reads-below : (n : ℕ) (made : ℕ → List ℕ) (words : ℕ → List (List ℕ)) → ((k : ℕ) → Reads (made k) (words k)) → Reads (gathered_below n made) (words_below n words)
unfolding gathered_below
reads-below zero made words each = reads-none
reads-below (suc n) made words each = reads-append (gathered_below n made) (made n) (words_below n words) (words n) (reads-below n made words each) (each n)

-- ---- parts of elements

-- the bytes take a reader from some elements to others, and have these classes
abbrev pub Goes : List (List ℕ) → List (List ℕ) → List ℕ → List (List ℕ) → Type 0
Goes from to bytes found =
    (element : List ℕ) (elements classes : List (List ℕ)) → read (reading content (from ++ element ∷ elements) classes) bytes ≡ reading content (to ++ element ∷ elements) (found ++ classes)

pub goes-append : (from by to : List (List ℕ)) (one two : List ℕ) (first second : List (List ℕ)) → Goes from by one first → Goes by to two second → Goes from to (one ++ two) (second ++ first)
goes-append from by to one two first second read_one read_two element elements classes =
    read-then (reading content (from ++ element ∷ elements) classes) one two (read_one element elements classes) (read_two element elements (first ++ classes))
    ∙ ap (reading content (to ++ element ∷ elements)) (sym (append_assoc second first classes))

-- a number goes nowhere
pub goes-number : (from : List (List ℕ)) (n : ℕ) → Goes from from (decimal n) []
goes-number from n element elements classes = calm-number n (from ++ element ∷ elements) classes

pub goes-none : (from : List (List ℕ)) → Goes from from [] []
unfolding read
goes-none from element elements classes = refl

-- a text, a number, and what comes after them
pub goes-row : (from by to : List (List ℕ)) (text : List ℕ) (n : ℕ) (rest : List ℕ) (found more : List (List ℕ)) → Goes from by text found → Goes by to rest more
    → Goes from to (text ++ (decimal n ++ rest)) ((more ++ []) ++ found)
goes-row from by to text n rest found more row others =
    goes-append from by to text (decimal n ++ rest) found (more ++ []) row (goes-append by by to (decimal n) rest [] more (goes-number by n) others)
