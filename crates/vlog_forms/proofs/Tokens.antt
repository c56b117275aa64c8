-- Tokens are equal if the test says so.
use Rattle.std.proofs.Common.{◌≡◌, ℕ, Bool, true, false, List, get_or, refl, ap, sym, ◌∙◌, eq-eqb}
use Rattle.std.specs.Prelude.{Option, Some, None}
use Rattle.std.proofs.lemmas.Bool.{eqb-true}
use Rattle.std.proofs.lemmas.Slice.Eq.{bytes_eq-Decides}
use Rattle.vlog_tokens.specs.declared.fixed.Fixed.{Fixed}
use Rattle.vlog_tokens.specs.declared.fixed.Fixed.TheVariants as sign
use Rattle.vlog_tokens.specs.Fixed.{fixed_text, word_of, pair_of, sign_of}
use Rattle.vlog_tokens.specs.Tokens.{TokenValue}
use Rattle.vlog_tokens.specs.Tokens.{TokenValue as token}
use Rattle.vlog_forms.specs.Values.{is_same_token, is_same_bit}

-- a sign or word from its spelling
abbrev first_of_three : Option Fixed → Option Fixed → Option Fixed → Option Fixed
first_of_three (Some one) two three = Some one
first_of_three None (Some two) three = Some two
first_of_three None None three = three

abbrev back : List ℕ → Option Fixed
back text = first_of_three (word_of text) (pair_of (get_or text 0 0) (get_or text 1 0)) (sign_of (get_or text 0 0))

back-text : (fixed : Fixed) → back (fixed_text fixed) ≡ Some fixed
unfolding word_of pair_of sign_of
back-text sign.OpenParen = refl
back-text sign.CloseParen = refl
back-text sign.OpenBracket = refl
back-text sign.CloseBracket = refl
back-text sign.OpenBrace = refl
back-text sign.CloseBrace = refl
back-text sign.Comma = refl
back-text sign.Semicolon = refl
back-text sign.Colon = refl
back-text sign.Equals = refl
back-text sign.LessEquals = refl
back-text sign.And = refl
back-text sign.Or = refl
back-text sign.Not = refl
back-text sign.ShiftLeft = refl
back-text sign.ShiftRight = refl
back-text sign.At = refl
back-text sign.Question = refl
back-text sign.Module = refl
back-text sign.Endmodule = refl
back-text sign.Input = refl
back-text sign.Output = refl
back-text sign.Reg = refl
back-text sign.Wire = refl
back-text sign.Assign = refl
back-text sign.Always = refl
back-text sign.Posedge = refl
back-text sign.Negedge = refl
back-text sign.If = refl
back-text sign.Begin = refl
back-text sign.End = refl
back-text sign.Else = refl
back-text sign.Initial = refl
back-text sign.OrEdge = refl

-- each has a spelling of its own
pub fixed_text-apart : (one other : Fixed) → fixed_text one ≡ fixed_text other → one ≡ other
fixed_text-apart one other same =
    let first : Some one ≡ Some other = sym (back-text one) ∙ ap back same ∙ back-text other in cc

bit-same : (one other : Bool) → is_same_bit one other ≡ true → one ≡ other
bit-same true other same = sym same
bit-same false true same = absurd cc
bit-same false false same = refl

-- the test passes at equal tokens alone
pub token-same : (one other : TokenValue) → is_same_token one other ≡ true → one ≡ other
token-same (token.fixed one) (token.fixed other) same =
    ap token.fixed (fixed_text-apart one other ((bytes_eq-Decides (fixed_text one) (fixed_text other)).0 same))
token-same (token.name one) (token.name other) same = ap token.name ((bytes_eq-Decides one other).0 same)
token-same (token.bit one) (token.bit other) same = ap token.bit (bit-same one other same)
token-same (token.word one) (token.word other) same = ap token.word (eqb-true one other same)
token-same (token.number one) (token.number other) same = ap token.number (eqb-true one other same)
token-same one other same = absurd cc

-- a token that isn't a stray byte
abbrev pub IsReal : TokenValue → Type 0
IsReal token.stray = ⊥
IsReal _ = Unit {0}

-- and at each of them
pub same-token : (one : TokenValue) → IsReal one → is_same_token one one ≡ true
same-token (token.fixed one) real = (bytes_eq-Decides (fixed_text one) (fixed_text one)).1 refl
same-token (token.name one) real = (bytes_eq-Decides one one).1 refl
same-token (token.bit true) real = refl
same-token (token.bit false) real = refl
same-token (token.word one) real = eq-eqb one one refl
same-token (token.number one) real = eq-eqb one one refl
same-token token.stray real = absurd real
