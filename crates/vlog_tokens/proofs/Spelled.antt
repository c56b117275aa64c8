-- Signs and reserved words, by their spellings.
use Rattle.std.proofs.Common.{◌≡◌, ◌==◌, ◌&&◌, ℕ, Bool, true, false, List, [], ◌∷◌, Option, Some, None, cond, map, refl, ap, ◌∙◌}
use Rattle.std.specs.Prelude.{bytes_eq, codes, if◌then◌else◌}
use Rattle.std.specs.List.{list_all}
use Rattle.std.proofs.lemmas.Bool.{eqb-true}
use Rattle.std.proofs.lemmas.Slice.Eq.{bytes_eq-Decides}
use Rattle.vlog_tokens.specs.declared.fixed.Fixed.{Fixed}
use Rattle.vlog_tokens.specs.declared.fixed.Fixed.TheVariants as sign
use Rattle.vlog_tokens.specs.Bytes.{byte_at, is_digit, is_letter, is_name_byte}
use Rattle.vlog_tokens.specs.Fixed.{fixed_text, pair_of, sign_of, word_of}

-- ---- the three sorts

-- a word of letters, or a sign of two bytes or one
pub data FixedSort (one : Fixed) : Type 0 where
  as_word : is_letter (byte_at (fixed_text one) 0) ≡ true → list_all is_name_byte (fixed_text one) ≡ true → word_of (fixed_text one) ≡ Some one → FixedSort one
  as_pair : (a b : ℕ) → fixed_text one ≡ a ∷ b ∷ [] → pair_of a b ≡ Some one → is_letter a ≡ false → is_digit a ≡ false → FixedSort one
  as_sign : (a : ℕ) → fixed_text one ≡ a ∷ [] → sign_of a ≡ Some one → is_letter a ≡ false → is_digit a ≡ false → FixedSort one

pub fixed-sort : (one : Fixed) → FixedSort one
unfolding word_of pair_of sign_of
fixed-sort sign.OpenParen = as_sign 40 refl refl refl refl
fixed-sort sign.CloseParen = as_sign 41 refl refl refl refl
fixed-sort sign.OpenBracket = as_sign 91 refl refl refl refl
fixed-sort sign.CloseBracket = as_sign 93 refl refl refl refl
fixed-sort sign.OpenBrace = as_sign 123 refl refl refl refl
fixed-sort sign.CloseBrace = as_sign 125 refl refl refl refl
fixed-sort sign.Comma = as_sign 44 refl refl refl refl
fixed-sort sign.Semicolon = as_sign 59 refl refl refl refl
fixed-sort sign.Colon = as_sign 58 refl refl refl refl
fixed-sort sign.Equals = as_sign 61 refl refl refl refl
fixed-sort sign.LessEquals = as_pair 60 61 refl refl refl refl
fixed-sort sign.And = as_sign 38 refl refl refl refl
fixed-sort sign.Or = as_sign 124 refl refl refl refl
fixed-sort sign.Not = as_sign 126 refl refl refl refl
fixed-sort sign.ShiftLeft = as_pair 60 60 refl refl refl refl
fixed-sort sign.ShiftRight = as_pair 62 62 refl refl refl refl
fixed-sort sign.At = as_sign 64 refl refl refl refl
fixed-sort sign.Question = as_sign 63 refl refl refl refl
fixed-sort sign.Module = as_word refl refl refl
fixed-sort sign.Endmodule = as_word refl refl refl
fixed-sort sign.Input = as_word refl refl refl
fixed-sort sign.Output = as_word refl refl refl
fixed-sort sign.Reg = as_word refl refl refl
fixed-sort sign.Wire = as_word refl refl refl
fixed-sort sign.Assign = as_word refl refl refl
fixed-sort sign.Always = as_word refl refl refl
fixed-sort sign.Posedge = as_word refl refl refl
fixed-sort sign.Negedge = as_word refl refl refl
fixed-sort sign.If = as_word refl refl refl
fixed-sort sign.Begin = as_word refl refl refl
fixed-sort sign.End = as_word refl refl refl
fixed-sort sign.Else = as_word refl refl refl
fixed-sort sign.Initial = as_word refl refl refl
fixed-sort sign.OrEdge = as_word refl refl refl

-- ---- what is found by a spelling has that spelling

-- the first of them that passes
unfoldable pub among : {A : Type 0} → (A → Bool) → List (A × Fixed) → Option Fixed
among test [] = None
among test (one ∷ others) = if test one.0 then Some one.1 else among test others

abbrev pub all_words : List (List ℕ × Fixed)
all_words =
    (codes "module", sign.Module) ∷
    (codes "endmodule", sign.Endmodule) ∷
    (codes "input", sign.Input) ∷
    (codes "output", sign.Output) ∷
    (codes "reg", sign.Reg) ∷
    (codes "wire", sign.Wire) ∷
    (codes "assign", sign.Assign) ∷
    (codes "always", sign.Always) ∷
    (codes "posedge", sign.Posedge) ∷
    (codes "negedge", sign.Negedge) ∷
    (codes "if", sign.If) ∷
    (codes "begin", sign.Begin) ∷
    (codes "end", sign.End) ∷
    (codes "else", sign.Else) ∷
    (codes "initial", sign.Initial) ∷
    (codes "or", sign.OrEdge) ∷
    []

abbrev all_signs : List (ℕ × Fixed)
all_signs =
    (40, sign.OpenParen) ∷
    (41, sign.CloseParen) ∷
    (91, sign.OpenBracket) ∷
    (93, sign.CloseBracket) ∷
    (123, sign.OpenBrace) ∷
    (125, sign.CloseBrace) ∷
    (44, sign.Comma) ∷
    (59, sign.Semicolon) ∷
    (58, sign.Colon) ∷
    (61, sign.Equals) ∷
    (38, sign.And) ∷
    (124, sign.Or) ∷
    (126, sign.Not) ∷
    (64, sign.At) ∷
    (63, sign.Question) ∷
    []

-- each of the words stands beside its spelling
among-word : (text : List ℕ) (words : List (List ℕ × Fixed)) (one : Fixed) → map (λ word. word.0) words ≡ map (λ word. fixed_text word.1) words
    → among (bytes_eq text) words ≡ Some one → text ≡ fixed_text one
unfolding among
among-word text [] one spelled found = absurd cc
among-word text (word ∷ words) one spelled found =
    let here : word.0 ≡ fixed_text word.1 = cc in
    let after : map (λ other. other.0) words ≡ map (λ other. fixed_text other.1) words = cc in
    by (bytes_eq text word.0) refl here (among-word text words one after) found
  where
    by : (b : Bool) → bytes_eq text word.0 ≡ b → word.0 ≡ fixed_text word.1 → (among (bytes_eq text) words ≡ Some one → text ≡ fixed_text one)
        → cond b (Some word.1) (among (bytes_eq text) words) ≡ Some one → text ≡ fixed_text one
    by true same here after found =
        let is : word.1 ≡ one = cc in
        (bytes_eq-Decides text word.0).0 same ∙ here ∙ ap fixed_text is
    by false apart here after found = after found

-- each of the bytes stands beside the sign that it spells
among-sign : (byte : ℕ) (signs : List (ℕ × Fixed)) (one : Fixed) → map (λ other. other.0 ∷ []) signs ≡ map (λ other. fixed_text other.1) signs
    → among (λ other. byte == other) signs ≡ Some one → byte ∷ [] ≡ fixed_text one
unfolding among
among-sign byte [] one spelled found = absurd cc
among-sign byte (other ∷ signs) one spelled found =
    let here : other.0 ∷ [] ≡ fixed_text other.1 = cc in
    let after : map (λ next. next.0 ∷ []) signs ≡ map (λ next. fixed_text next.1) signs = cc in
    by (byte == other.0) refl here (among-sign byte signs one after) found
  where
    by : (b : Bool) → (byte == other.0) ≡ b → other.0 ∷ [] ≡ fixed_text other.1 → (among (λ next. byte == next) signs ≡ Some one → byte ∷ [] ≡ fixed_text one)
        → cond b (Some other.1) (among (λ next. byte == next) signs) ≡ Some one → byte ∷ [] ≡ fixed_text one
    by true same here after found =
        let is : other.1 ≡ one = cc in
        ap (λ b. b ∷ []) (eqb-true byte other.0 same) ∙ here ∙ ap fixed_text is
    by false apart here after found = after found

pub word-spelled : (text : List ℕ) (one : Fixed) → word_of text ≡ Some one → text ≡ fixed_text one
unfolding word_of among
word-spelled text one found = among-word text all_words one refl found

pub sign-spelled : (byte : ℕ) (one : Fixed) → sign_of byte ≡ Some one → byte ∷ [] ≡ fixed_text one
unfolding sign_of among
sign-spelled byte one found = among-sign byte all_signs one refl found

pub pair-spelled : (a b : ℕ) (one : Fixed) → pair_of a b ≡ Some one → a ∷ b ∷ [] ≡ fixed_text one
unfolding pair_of
pair-spelled a b one found = step 60 61 sign.LessEquals refl _ (step 60 60 sign.ShiftLeft refl _ (step 62 62 sign.ShiftRight refl None none)) found
  where
    none : None ≡ Some one → a ∷ b ∷ [] ≡ fixed_text one
    none is = absurd cc

    step : (first second : ℕ) (sign : Fixed) → first ∷ second ∷ [] ≡ fixed_text sign → (others : Option Fixed) → (others ≡ Some one → a ∷ b ∷ [] ≡ fixed_text one)
        → (if (a == first) && (b == second) then Some sign else others) ≡ Some one → a ∷ b ∷ [] ≡ fixed_text one
    step first second sign spelled others after here = by (a == first) (b == second) refl refl here
      where
        by : (p q : Bool) → (a == first) ≡ p → (b == second) ≡ q → (if p && q then Some sign else others) ≡ Some one → a ∷ b ∷ [] ≡ fixed_text one
        by true true a_is b_is is =
            let same : sign ≡ one = cc in
            rw (eqb-true a first a_is, eqb-true b second b_is) (spelled ∙ ap fixed_text same)
        by true false a_is b_is is = after is
        by false q a_is b_is is = after is
