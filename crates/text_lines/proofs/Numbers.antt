-- Numbers of at most nine digits, and the numbers that words write.
use Rattle.std.proofs.Common.{◌≡◌, ◌≢◌, ℕ, suc, ◌^◌, ◌<◌, ◌≤◌, true, List, [], ◌∷◌, length, refl, sym, ap, ◌∙◌, arith}
use Rattle.std.proofs.Math.Nat.{pow-le-pow_right}
use Rattle.std.specs.Prelude.{Option, Some, None, MatchOption}
use Rattle.text_lines.specs.Words.{is_number, number_of, numbers_of, with_number}

-- a number before its last digit of nine
pub below_nine : (n i : ℕ) → n < 10 ^ i → i < 9 → n < 100000000
below_nine n i lt few =
    let positive : 0 < 10 = omega arith in
    let most : 10 ^ i ≤ 10 ^ 8 = pow-le-pow_right positive {i = i} {j = 8} (omega arith) in
    omega arith

-- a number of nine digits at most
pub below_ten : (n i : ℕ) → n < 10 ^ i → i ≤ 9 → n < 1000000000
below_ten n i lt few =
    let positive : 0 < 10 = omega arith in
    let most : 10 ^ i ≤ 10 ^ 9 = pow-le-pow_right positive {i = i} {j = 9} (omega arith) in
    omega arith

-- a number has at most nine digits
pub length-number : (word : List ℕ) → is_number word ≡ true → length word ≤ 9
length-number word number = grind arith

-- no words write no numbers
pub numbers_of-nothing : numbers_of [] ≡ Some []
unfolding numbers_of
numbers_of-nothing = refl

-- a word that writes a number
pub numbers_of-number : (words rest : List (List ℕ)) (word : List ℕ) (number : ℕ) → words ≡ word ∷ rest → number_of word ≡ Some number → numbers_of words ≡ with_number (Some number) (numbers_of rest)
unfolding numbers_of
numbers_of-number words rest word number is writes = rw (is, writes) refl

-- a word that writes none
pub numbers_of-none : (words rest : List (List ℕ)) (word : List ℕ) → words ≡ word ∷ rest → number_of word ≡ None → numbers_of words ≡ None
unfolding numbers_of
numbers_of-none words rest word is none = rw (is, none) refl

-- two words that write numbers
pub numbers_of-two : (first second : List ℕ) (x y : ℕ) → number_of first ≡ Some x → number_of second ≡ Some y → numbers_of (first ∷ second ∷ []) ≡ Some (x ∷ y ∷ [])
unfolding numbers_of
numbers_of-two first second x y one two = rw (one, two) refl

-- three words that write numbers
pub numbers_of-three : (first second third : List ℕ) (x y z : ℕ) → number_of first ≡ Some x → number_of second ≡ Some y → number_of third ≡ Some z → numbers_of (first ∷ second ∷ third ∷ []) ≡ Some (x ∷ y ∷ z ∷ [])
unfolding numbers_of
numbers_of-three first second third x y z one two three = rw (one, two, three) refl

with_number-some : (first found : Option ℕ) (rest : Option (List ℕ)) (number : ℕ) (numbers : List ℕ) → first ≡ found → with_number first rest ≡ Some (number ∷ numbers) → rest ≡ Some numbers
with_number-some (Some first) found (Some rest) number numbers is some = cc
with_number-some (Some first) found None number numbers is some = absurd cc
with_number-some None found rest number numbers is some = absurd cc

-- with a first word there is a number at least
with_number-empty : (first : Option ℕ) (rest : Option (List ℕ)) → with_number first rest ≢ Some []
with_number-empty (Some first) (Some rest) some = absurd cc
with_number-empty (Some first) None some = absurd cc
with_number-empty None rest some = absurd cc

-- there is one number for each word
pub length-numbers_of : (words : List (List ℕ)) (numbers : List ℕ) → numbers_of words ≡ Some numbers → length words ≡ length numbers
unfolding numbers_of
length-numbers_of [] [] is = refl
length-numbers_of [] (number ∷ numbers) is = absurd cc
length-numbers_of (word ∷ words) [] is = absurd (with_number-empty (number_of word) (numbers_of words) is)
length-numbers_of (word ∷ words) (number ∷ numbers) is =
    ap (λ n. suc n) (length-numbers_of words numbers (with_number-some (number_of word) (number_of word) (numbers_of words) number numbers refl is))

-- without a word there is no first number
pub no_first-nothing : (words : List (List ℕ)) → words ≡ [] → (x : ℕ) (xs : List ℕ) → numbers_of words ≢ Some (x ∷ xs)
no_first-nothing words none x xs some =
    let same : Some [] ≡ Some (x ∷ xs) = sym numbers_of-nothing ∙ (rw none at some) in
    absurd cc

-- nor is there one if the first word writes none
pub no_first-word : (words rest : List (List ℕ)) (word : List ℕ) → words ≡ word ∷ rest → number_of word ≡ None → (x : ℕ) (xs : List ℕ) → numbers_of words ≢ Some (x ∷ xs)
no_first-word words rest word is none x xs some =
    let missing : numbers_of words ≡ None = numbers_of-none words rest word is none in
    absurd cc

-- if the rest hasn't these numbers, the whole has none that end with them
pub no_rest : (first : ℕ) (rest : Option (List ℕ)) (numbers : List ℕ) → rest ≢ Some numbers → (x : ℕ) → with_number (Some first) rest ≢ Some (x ∷ numbers)
no_rest first (Some rest) numbers other x some = other cc
no_rest first None numbers other x some = absurd cc

-- the number of a word alone
pub one_number-is : (words : List (List ℕ)) (word : List ℕ) (result : Option ℕ) → words ≡ word ∷ [] → result ≡ number_of word → MatchOption result ((x : ℕ) → numbers_of words ≢ Some (x ∷ [])) (λ found. numbers_of words ≡ Some (found ∷ []))
one_number-is words word (Some found) is value = numbers_of-number words [] word found is (sym value) ∙ ap (with_number (Some found)) numbers_of-nothing
one_number-is words word None is value = λ x. no_first-word words [] word is (sym value) x []
