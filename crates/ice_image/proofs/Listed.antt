-- Listed bits against those of a number.
use Rattle.std.proofs.Common.{◌≡◌, ◌≢◌, ℕ, ◌+◌, ◌/◌, ◌^◌, ◌<◌, ◌≤◌, ◌==◌, Bool, true, false, not, List, length, get_or, map, bit_and, refl, sym, ap, ◌∙◌, subst, inl, inr, arith, ext_get_or}
use mathlib.Core.Bool.{beq}
use Rattle.std.proofs.lemmas.Bool.{cases_lt}
use Rattle.std.proofs.lemmas.List.{get_or-map, length-map}
use Rattle.bit_plane.proofs.Words.{length-word_bits}
use Rattle.bit_plane.specs.BitList.{word_bits}
use Rattle.plane_map.specs.declared.tile.RowCol.{RowCol}
use Rattle.ice_image.specs.Written.{bit_of_word}
use Rattle.ice_image.proofs.Written.{tested_bit}

-- what a test of two bits says
pub differ : (a b : Bool) → not (beq a b) ≡ true → a ≢ b
differ true true test same = cc
differ true false test same = cc
differ false true test same = cc
differ false false test same = cc

pub agree : (a b : Bool) → not (beq a b) ≡ false → a ≡ b
agree true true test = refl
agree true false test = cc
agree false true test = cc
agree false false test = refl

module _ (is_set : RowCol → Bool) (bits : List RowCol) (values : ℕ) where
  -- the first listed bits are those of the number
  pub record AgreeBelow (count : ℕ) : Type 0 where
    pub same : (k : ℕ) → k < count → get_or (map is_set bits) k false ≡ bit_of_word (length bits) values k

  -- one bit more agrees
  pub agree-more : (n : ℕ) (d : RowCol) (here : Bool) → n < length bits → AgreeBelow n → here ≡ is_set (get_or bits n d) → not (beq here (bit_and (values / 2 ^ n) 1 == 1)) ≡ false → AgreeBelow (n + 1)
  agree-more n d here within so_far here_is test = record {
    same = λ k below. elim (cases_lt k n) [
      | inl earlier ↦ so_far.same k earlier
      | inr last ↦
          let e : n ≡ k = omega arith in
          subst (λ (k : ℕ). get_or (map is_set bits) k false ≡ bit_of_word (length bits) values k) e (get_or-map is_set bits n d false within ∙ sym here_is ∙ agree here (bit_and (values / 2 ^ n) 1 == 1) test ∙ sym (tested_bit (length bits) values n within))
    ];
  }

  -- all bits agree
  pub agree-all : (n : ℕ) → length bits ≤ n → AgreeBelow n → map is_set bits ≡ word_bits (length bits) values
  agree-all n past all =
      ext_get_or false (map is_set bits) (word_bits (length bits) values) (length-map bits is_set ∙ sym (length-word_bits (length bits) values)) (λ k inside. all.same k (omega (arith, length-map bits is_set)))

  -- a bit that differs
  pub differ-at : (n : ℕ) (d : RowCol) (here : Bool) → n < length bits → here ≡ is_set (get_or bits n d) → not (beq here (bit_and (values / 2 ^ n) 1 == 1)) ≡ true → map is_set bits ≢ word_bits (length bits) values
  differ-at n d here within here_is test same =
      differ here (bit_and (values / 2 ^ n) 1 == 1) test (here_is ∙ sym (get_or-map is_set bits n d false within) ∙ ap (λ bits. get_or bits n false) same ∙ tested_bit (length bits) values n within)
