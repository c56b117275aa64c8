-- The numbers of a line, read one after the other.
use Rattle.std.proofs.Common.{◌≡◌, ℕ, ◌≤◌, true, List, [], ◌∷◌, ◌++◌, length, append_assoc, append-nil, length-append, refl, sym, ap, ◌∙◌, arith}
use Rattle.std.specs.Prelude.{Option, Some, None, nat_le}
use Rattle.std.proofs.lemmas.Bool.{leb-true, lt-ltb}
use Rattle.text_lines.specs.declared.words.Separators.TheVariants.{Spaces}
use Rattle.text_lines.specs.Words.{numbers_of, number_of, words_of, with_number}
use Rattle.layout_file.specs.inside.Reading.{is_long}

-- first numbers, and the numbers after them, if each word is one
abbrev pub after : List ℕ → Option (List ℕ) → Option (List ℕ)
after first None = None
after first (Some numbers) = Some (first ++ numbers)

-- after no numbers
pub after-nothing : (rest : Option (List ℕ)) → rest ≡ after [] rest
after-nothing None = refl
after-nothing (Some numbers) = refl

-- after one more
after-next : (first : List ℕ) (value : ℕ) (rest : Option (List ℕ)) → after first (with_number (Some value) rest) ≡ after (first ++ value ∷ []) rest
after-next first value None = refl
after-next first value (Some numbers) = ap (λ (l : List ℕ). Some l) (sym (append_assoc first (value ∷ []) numbers))

after-long : (first : List ℕ) (value : ℕ) (rest : Option (List ℕ)) → 18 ≤ length first → is_long (after first (with_number (Some value) rest)) ≡ true
after-long first value None many = refl
after-long first value (Some numbers) many =
    lt-ltb 18 (length (first ++ value ∷ numbers)) (omega (arith, length-append first (value ∷ numbers)))

-- another number was read
pub numbers-next : (all : Option (List ℕ)) (first word left following : List ℕ) (value : ℕ)
    → all ≡ after first (numbers_of (words_of Spaces left))
    → words_of Spaces left ≡ word ∷ words_of Spaces following → Some value ≡ number_of word
    → all ≡ after (first ++ value ∷ []) (numbers_of (words_of Spaces following))
unfolding numbers_of
numbers-next all first word left following value is cut number =
    is ∙ rw (cut, ← number) (after-next first value (numbers_of (words_of Spaces following)))

-- a word is no number
pub numbers-stopped : (all : Option (List ℕ)) (first word left following : List ℕ)
    → all ≡ after first (numbers_of (words_of Spaces left))
    → words_of Spaces left ≡ word ∷ words_of Spaces following → None ≡ number_of word
    → is_long all ≡ true
unfolding numbers_of
numbers-stopped all first word left following is cut none = rw (is, cut, ← none) refl

-- a number stands after 18 others
pub numbers-many : (all : Option (List ℕ)) (first word left following : List ℕ) (value : ℕ)
    → all ≡ after first (numbers_of (words_of Spaces left))
    → words_of Spaces left ≡ word ∷ words_of Spaces following → Some value ≡ number_of word → nat_le 18 (length first) ≡ true
    → is_long all ≡ true
unfolding numbers_of
numbers-many all first word left following value is cut number full =
    rw (is, cut, ← number) (after-long first value (numbers_of (words_of Spaces following)) (leb-true 18 (length first) full))

-- no word is left
pub numbers-all : (all : Option (List ℕ)) (first left : List ℕ)
    → all ≡ after first (numbers_of (words_of Spaces left)) → words_of Spaces left ≡ [] → all ≡ Some first
unfolding numbers_of
numbers-all all first left is none = is ∙ rw none (ap (λ (l : List ℕ). Some l) (append-nil first))
