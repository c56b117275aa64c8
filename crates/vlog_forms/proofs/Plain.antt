-- The tokens of written tokens, whatever follows.
use Rattle.std.proofs.Common.{◌≡◌, ℕ, zero, suc, ◌<◌, ◌+◌, ◌-◌, ◌==◌, Bool, true, false, not, ◌&&◌, ◌||◌, List, [], ◌∷◌, ◌++◌, length, take, drop, map, refl, ap, ◌∙◌, cond, arith}
use Rattle.std.proofs.lemmas.Bool.Decides.{nat_tests}
use Rattle.std.proofs.lemmas.List.{take_at, drop_at, length-append}
use Rattle.std.specs.Prelude.{if◌then◌else◌, codes, bytes_eq, Some, None}
use Rattle.std.specs.List.{list_all, list_any}
use Rattle.std.proofs.lemmas.Bool.{and_parts, not-true, or_left, or_parts}
use Rattle.vlog_tokens.proofs.Spelled.{all_words, among}
use Rattle.shared_lemmas.proofs.Bytes.{apart_turned}
use Rattle.vlog_tokens.specs.declared.fixed.Fixed.{Fixed}
use Rattle.vlog_tokens.specs.declared.fixed.Fixed.TheVariants as sign
use Rattle.vlog_tokens.specs.Bytes.{is_blank, is_letter, is_digit, is_name_byte, byte_at}
use Rattle.vlog_tokens.specs.Fixed.{fixed_text, word_of, pair_of, sign_of}
use Rattle.vlog_tokens.specs.Tokens.{TokenValue, Spot, spot, spots_from, front_token, front_length, name_length, name_or_word, word_or_name, digits_token, digits_length, sign_token, sign_length}
use Rattle.vlog_tokens.specs.Tokens.{TokenValue as token}
use Rattle.vlog_tokens.proofs.Cuts.{spots_from-token}
use Rattle.vlog_module.specs.Names.{IsName, is_name, is_word, is_reserved, reserved_words}
use Rattle.vlog_forms.specs.Items.{tokens_in}

-- the tokens of a text, wherever it stands
abbrev pub plain : List ℕ → List TokenValue
plain text = tokens_in (spots_from 0 zero text)

blank_or : (b : Bool) (one other : ℕ) (first : TokenValue) (xs ys vs ws : List Spot) → tokens_in xs ≡ tokens_in ys → tokens_in vs ≡ tokens_in ws
    → tokens_in (if b then xs else spot one first ∷ vs) ≡ tokens_in (if b then ys else spot other first ∷ ws)
blank_or true one other first xs ys vs ws blank more = blank
blank_or false one other first xs ys vs ws blank more = ap (λ tokens. first ∷ tokens) more

spots-anywhere : (one other covered : ℕ) (bytes : List ℕ) → tokens_in (spots_from one covered bytes) ≡ tokens_in (spots_from other covered bytes)
unfolding spots_from
spots-anywhere one other covered [] = refl
spots-anywhere one other (suc covered) (byte ∷ bytes) = spots-anywhere (one + 1) (other + 1) covered bytes
spots-anywhere one other zero (byte ∷ bytes) =
    blank_or (is_blank byte) one other (front_token (byte ∷ bytes)) (spots_from (one + 1) zero bytes) (spots_from (other + 1) zero bytes)
    (spots_from (one + 1) (front_length (byte ∷ bytes) - 1) bytes) (spots_from (other + 1) (front_length (byte ∷ bytes) - 1) bytes)
    (spots-anywhere (one + 1) (other + 1) zero bytes) (spots-anywhere (one + 1) (other + 1) (front_length (byte ∷ bytes) - 1) bytes)

-- a space before a text
pub plain-blank : (byte : ℕ) (text : List ℕ) → is_blank byte ≡ true → plain (byte ∷ text) ≡ plain text
unfolding spots_from
plain-blank byte text blank =
    ap (λ b. tokens_in (if b then spots_from 1 zero text else spot 0 (front_token (byte ∷ text)) ∷ spots_from 1 (front_length (byte ∷ text) - 1) text)) blank
    ∙ spots-anywhere 1 0 zero text

-- a text that is one token at the front, before some rest
pub record FrontIs (text rest : List ℕ) (one : TokenValue) : Type 0 where
  pub some : 0 < length text
  pub unblank : is_blank (byte_at text 0) ≡ false
  pub token : front_token (text ++ rest) ≡ one
  pub length : front_length (text ++ rest) ≡ Rattle.std.proofs.Common.length text

byte-front : (text rest : List ℕ) → 0 < length text → byte_at (text ++ rest) 0 ≡ byte_at text 0
byte-front [] rest some = absurd (omega arith)
byte-front (byte ∷ text) rest some = refl

pub plain-front : (text rest : List ℕ) (one : TokenValue) → FrontIs text rest one → plain (text ++ rest) ≡ one ∷ plain rest
plain-front text rest one front =
    let bytes : List ℕ = text ++ rest in
    let n : ℕ = length text in
    let some : 0 < length bytes = omega (arith, length-append text rest, front.some) in
    let first : is_blank (byte_at bytes 0) ≡ false = ap is_blank (byte-front text rest front.some) ∙ front.unblank in
    let following : drop (front_length bytes) bytes ≡ rest = ap (λ k. drop k bytes) front.length ∙ drop_at text rest n refl in
    ap tokens_in (spots_from-token 0 bytes some first)
    ∙ ap (λ each. each ∷ tokens_in (spots_from (0 + front_length bytes) zero (drop (front_length bytes) bytes))) front.token
    ∙ ap (λ more. one ∷ more) (spots-anywhere (0 + front_length bytes) 0 zero (drop (front_length bytes) bytes) ∙ ap plain following)

-- whether a word or a number before the text ends there
abbrev pub closes : List ℕ → Bool
closes rest = not (is_name_byte (byte_at rest 0)) && not (byte_at rest 0 == 39)

pub no_name : (rest : List ℕ) → closes rest ≡ true → is_name_byte (byte_at rest 0) ≡ false
no_name rest shut = not-true (is_name_byte (byte_at rest 0)) (and_parts (not (is_name_byte (byte_at rest 0))) (not (byte_at rest 0 == 39)) shut).0

pub no_quote : (rest : List ℕ) → closes rest ≡ true → (byte_at rest 0 == 39) ≡ false
no_quote rest shut = not-true (byte_at rest 0 == 39) (and_parts (not (is_name_byte (byte_at rest 0))) (not (byte_at rest 0 == 39)) shut).1

-- ---- names and reserved words

name_length-closed : (text rest : List ℕ) → list_all is_name_byte text ≡ true → is_name_byte (byte_at rest 0) ≡ false → name_length (text ++ rest) ≡ length text
name_length-closed [] [] all shut = refl
name_length-closed [] (byte ∷ rest) all shut = ap (λ b. cond (not (not b)) (1 + name_length rest) 0) shut
name_length-closed (byte ∷ text) rest all shut =
    let parts = and_parts (is_name_byte byte) (list_all is_name_byte text) all in
    let more : name_length (text ++ rest) ≡ length text = name_length-closed text rest parts.1 shut in
    let one : 1 + length text ≡ suc (length text) = omega arith in
    ap (λ b. cond (not (not b)) (1 + name_length (text ++ rest)) 0) parts.0 ∙ ap (λ n. 1 + n) more ∙ one

letter-unblank : (byte : ℕ) → is_letter byte ≡ true → is_blank byte ≡ false
letter-unblank byte letter = grind (arith, nat_tests)

pub word-front : (text rest : List ℕ) → is_letter (byte_at text 0) ≡ true → list_all is_name_byte text ≡ true → closes rest ≡ true → FrontIs text rest (name_or_word text)
unfolding front_token front_length
word-front [] rest letter all shut = absurd cc
word-front (byte ∷ text) rest letter all shut =
    let bytes : List ℕ = byte ∷ (text ++ rest) in
    let count : name_length bytes ≡ length (byte ∷ text) = name_length-closed (byte ∷ text) rest all (no_name rest shut) in
    let word : take (name_length bytes) bytes ≡ byte ∷ text = ap (λ n. take n bytes) count ∙ take_at (byte ∷ text) rest (length (byte ∷ text)) refl in
    record {
      some = omega arith;
      unblank = letter-unblank byte letter;
      token = ap (λ b. if b then name_or_word (take (name_length bytes) bytes) else if is_digit byte then digits_token bytes else sign_token bytes) letter ∙ ap name_or_word word;
      length = ap (λ b. if b then name_length bytes else if is_digit byte then digits_length bytes else sign_length bytes) letter ∙ count;
    }

-- whether it is a reserved word
abbrev pub is_reserved_word : Fixed → Bool
is_reserved_word sign.OpenParen = false
is_reserved_word sign.CloseParen = false
is_reserved_word sign.OpenBracket = false
is_reserved_word sign.CloseBracket = false
is_reserved_word sign.OpenBrace = false
is_reserved_word sign.CloseBrace = false
is_reserved_word sign.Comma = false
is_reserved_word sign.Semicolon = false
is_reserved_word sign.Colon = false
is_reserved_word sign.Equals = false
is_reserved_word sign.LessEquals = false
is_reserved_word sign.And = false
is_reserved_word sign.Or = false
is_reserved_word sign.Not = false
is_reserved_word sign.ShiftLeft = false
is_reserved_word sign.ShiftRight = false
is_reserved_word sign.At = false
is_reserved_word sign.Question = false
is_reserved_word _ = true

pub fixed-front : (fixed : Fixed) (rest : List ℕ) → (is_reserved_word fixed ≡ true → closes rest ≡ true) → FrontIs (fixed_text fixed) rest (token.fixed fixed)
unfolding front_token front_length sign_token sign_length pair_of sign_of name_or_word word_of
fixed-front sign.OpenParen rest shut = record { some = omega arith; unblank = refl; token = refl; length = refl }
fixed-front sign.CloseParen rest shut = record { some = omega arith; unblank = refl; token = refl; length = refl }
fixed-front sign.OpenBracket rest shut = record { some = omega arith; unblank = refl; token = refl; length = refl }
fixed-front sign.CloseBracket rest shut = record { some = omega arith; unblank = refl; token = refl; length = refl }
fixed-front sign.OpenBrace rest shut = record { some = omega arith; unblank = refl; token = refl; length = refl }
fixed-front sign.CloseBrace rest shut = record { some = omega arith; unblank = refl; token = refl; length = refl }
fixed-front sign.Comma rest shut = record { some = omega arith; unblank = refl; token = refl; length = refl }
fixed-front sign.Semicolon rest shut = record { some = omega arith; unblank = refl; token = refl; length = refl }
fixed-front sign.Colon rest shut = record { some = omega arith; unblank = refl; token = refl; length = refl }
fixed-front sign.Equals rest shut = record { some = omega arith; unblank = refl; token = refl; length = refl }
fixed-front sign.LessEquals rest shut = record { some = omega arith; unblank = refl; token = refl; length = refl }
fixed-front sign.And rest shut = record { some = omega arith; unblank = refl; token = refl; length = refl }
fixed-front sign.Or rest shut = record { some = omega arith; unblank = refl; token = refl; length = refl }
fixed-front sign.Not rest shut = record { some = omega arith; unblank = refl; token = refl; length = refl }
fixed-front sign.ShiftLeft rest shut = record { some = omega arith; unblank = refl; token = refl; length = refl }
fixed-front sign.ShiftRight rest shut = record { some = omega arith; unblank = refl; token = refl; length = refl }
fixed-front sign.At rest shut = record { some = omega arith; unblank = refl; token = refl; length = refl }
fixed-front sign.Question rest shut = record { some = omega arith; unblank = refl; token = refl; length = refl }
fixed-front sign.Module rest shut = word-front (codes "module") rest refl refl (shut refl)
fixed-front sign.Endmodule rest shut = word-front (codes "endmodule") rest refl refl (shut refl)
fixed-front sign.Input rest shut = word-front (codes "input") rest refl refl (shut refl)
fixed-front sign.Output rest shut = word-front (codes "output") rest refl refl (shut refl)
fixed-front sign.Reg rest shut = word-front (codes "reg") rest refl refl (shut refl)
fixed-front sign.Wire rest shut = word-front (codes "wire") rest refl refl (shut refl)
fixed-front sign.Assign rest shut = word-front (codes "assign") rest refl refl (shut refl)
fixed-front sign.Always rest shut = word-front (codes "always") rest refl refl (shut refl)
fixed-front sign.Posedge rest shut = word-front (codes "posedge") rest refl refl (shut refl)
fixed-front sign.Negedge rest shut = word-front (codes "negedge") rest refl refl (shut refl)
fixed-front sign.If rest shut = word-front (codes "if") rest refl refl (shut refl)
fixed-front sign.Begin rest shut = word-front (codes "begin") rest refl refl (shut refl)
fixed-front sign.End rest shut = word-front (codes "end") rest refl refl (shut refl)
fixed-front sign.Else rest shut = word-front (codes "else") rest refl refl (shut refl)
fixed-front sign.Initial rest shut = word-front (codes "initial") rest refl refl (shut refl)
fixed-front sign.OrEdge rest shut = word-front (codes "or") rest refl refl (shut refl)

abbrev first_of : (List ℕ × Fixed) → List ℕ
first_of word = word.0

among_words-none : (words : List (List ℕ × Fixed)) (text : List ℕ) → list_any (λ word. bytes_eq word text) (map first_of words) ≡ false → among (bytes_eq text) words ≡ None
unfolding among
among_words-none [] text none = refl
among_words-none (word ∷ words) text none =
    let parts = or_parts (bytes_eq word.0 text) (list_any (λ other. bytes_eq other text) (map first_of words)) none in
    ap (λ b. if b then Some word.1 else among (bytes_eq text) words) (apart_turned word.0 text parts.0) ∙ among_words-none words text parts.1

reserved-none : (text : List ℕ) → is_reserved text ≡ false → word_of text ≡ None
unfolding word_of reserved_words among
reserved-none text none = among_words-none all_words text none

-- the parts of a name
pub record NameParts (text : List ℕ) : Type 0 where
  pub letter : is_letter (byte_at text 0) ≡ true
  pub bytes : list_all is_name_byte text ≡ true
  pub free : is_reserved text ≡ false

word-parts : (text : List ℕ) → is_word text ≡ true → (is_letter (byte_at text 0) ≡ true) × (list_all is_name_byte text ≡ true)
word-parts [] word = absurd cc
word-parts (byte ∷ text) word =
    let parts = and_parts (is_letter byte) (list_all is_name_byte text) word in
    (parts.0, both (is_letter byte || is_digit byte) (list_all is_name_byte text) (or_left (is_letter byte) (is_digit byte) parts.0) parts.1)
  where
    both : (a b : Bool) → a ≡ true → b ≡ true → (a && b) ≡ true
    both true b h k = k
    both false b h k = absurd cc

pub name-parts : (text : List ℕ) → IsName text → NameParts text
unfolding is_name
name-parts text named =
    let parts = and_parts (is_word text) (not (is_reserved text)) named in
    let word = word-parts text parts.0 in
    record { letter = word.0; bytes = word.1; free = not-true (is_reserved text) parts.1 }

pub name-front : (text rest : List ℕ) → IsName text → closes rest ≡ true → FrontIs text rest (token.name text)
unfolding name_or_word
name-front text rest named shut =
    let parts = name-parts text named in
    let front = word-front text rest parts.letter parts.bytes shut in
    record {
      some = front.some;
      unblank = front.unblank;
      token = front.token ∙ ap (λ reserved. word_or_name reserved text) (reserved-none text parts.free);
      length = front.length;
    }
