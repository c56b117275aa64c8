-- The definition of tokens on small texts.
use Rattle.std.proofs.Common.{◌≡◌, true, false, [], ◌∷◌, refl}
use Rattle.std.specs.Prelude.{codes}
use Rattle.vlog_tokens.specs.declared.fixed.Fixed.TheVariants.{Equals, LessEquals, OrEdge, Question, Reg, Semicolon, ShiftLeft, ShiftRight}
use Rattle.vlog_tokens.specs.Fixed.{pair_of, sign_of, word_of}
use Rattle.vlog_tokens.specs.Tokens.{digits_length, digits_token, front_length, front_token, name_or_word, sign_length, sign_token, spot, spots_from, spots_of}
use Rattle.vlog_tokens.specs.Tokens.{TokenValue as token}

item : spots_of (codes "reg r=1'b1;")
    ≡ spot 0 (token.fixed Reg) ∷ spot 4 (token.name (codes "r")) ∷ spot 5 (token.fixed Equals) ∷ spot 6 (token.bit true) ∷ spot 10 (token.fixed Semicolon) ∷ []
unfolding spots_from front_token front_length digits_token digits_length sign_token sign_length name_or_word word_of pair_of sign_of
item = refl

-- a reserved word with more letters after it is a name; a bit, a word or a sign of two bytes comes before what its first bytes are alone
longest : spots_of (codes "regs<=16'hAb0f>>1'b0")
    ≡ spot 0 (token.name (codes "regs")) ∷ spot 4 (token.fixed LessEquals) ∷ spot 6 (token.word 43791) ∷ spot 14 (token.fixed ShiftRight) ∷ spot 16 (token.bit false) ∷ []
unfolding spots_from front_token front_length digits_token digits_length sign_token sign_length name_or_word word_of pair_of sign_of
longest = refl

-- two shift signs, and their bytes when they don't stand side by side
shifts : spots_of (codes "<<<=<<<>>>") ≡ spot 0 (token.fixed ShiftLeft) ∷ spot 2 (token.fixed LessEquals) ∷ spot 4 (token.fixed ShiftLeft) ∷ spot 6 token.stray
    ∷ spot 7 (token.fixed ShiftRight) ∷ spot 9 token.stray ∷ []
unfolding spots_from front_token front_length digits_token digits_length sign_token sign_length name_or_word word_of pair_of sign_of
shifts = refl

-- a number has at most three digits; if a bit or a word isn't complete, its first digits are a number
shorter : spots_of (codes "1234 1'b2 16'h12g")
    ≡ spot 0 (token.number 123) ∷ spot 3 (token.number 4) ∷ spot 5 (token.number 1) ∷ spot 6 token.stray ∷ spot 7 (token.name (codes "b2"))
    ∷ spot 10 (token.number 16) ∷ spot 12 token.stray ∷ spot 13 (token.name (codes "h12g")) ∷ []
unfolding spots_from front_token front_length digits_token digits_length sign_token sign_length name_or_word word_of pair_of sign_of
shorter = refl

-- bytes at which no token begins, among white space
strays : spots_of (codes " /\t<\r\n>") ≡ spot 1 token.stray ∷ spot 3 token.stray ∷ spot 6 token.stray ∷ []
unfolding spots_from front_token front_length digits_token digits_length sign_token sign_length name_or_word word_of pair_of sign_of
strays = refl

-- `or` is a reserved word, and a name may begin with it
no_name : spots_of (codes "s?or ore") ≡ spot 0 (token.name (codes "s")) ∷ spot 1 (token.fixed Question) ∷ spot 2 (token.fixed OrEdge) ∷ spot 5 (token.name (codes "ore")) ∷ []
unfolding spots_from front_token front_length digits_token digits_length sign_token sign_length name_or_word word_of pair_of sign_of
no_name = refl
