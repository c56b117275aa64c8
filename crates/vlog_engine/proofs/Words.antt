-- The bits of a word in sixteen cells.
use Rattle.std.proofs.Common.{◌≡◌, ℕ, zero, suc, ◌+◌, ◌<◌, ◌≤◌, Bool, false, List, ap, arith, get_or, inl, inr, length, refl, set, ◌∙◌}
use Rattle.std.proofs.lemmas.Bool.{cases_eq, cases_lt}
use Rattle.std.proofs.lemmas.List.{get_or-set_other, get_or-set_same, length-set}
use Rattle.vlog_semantics.specs.Values.{bit_of}
use Rattle.vlog_engine.specs.Changes.{with_word}

pub length-word : (cells : List Bool) (from word n : ℕ) → length (with_word cells from word n) ≡ length cells
length-word cells from word zero = refl
length-word cells from word (suc n) = length-set (with_word cells from word n) (from + n) (bit_of word n) ∙ length-word cells from word n

pub word-out : (cells : List Bool) (from word n cell : ℕ) → (cell < from + n → cell < from) → get_or (with_word cells from word n) cell false ≡ get_or cells cell false
word-out cells from word zero cell out = refl
word-out cells from word (suc n) cell out =
    get_or-set_other (with_word cells from word n) (from + n) cell (bit_of word n) false (λ same. let less : cell < from = out (omega (arith, same)) in omega (arith, less, same))
    ∙ word-out cells from word n cell (λ less. out (omega (arith, less)))

pub word-in : (cells : List Bool) (from word n k : ℕ) → from + n ≤ length cells → k < n → get_or (with_word cells from word n) (from + k) false ≡ bit_of word k
word-in cells from word zero k room inside = absurd (omega arith)
word-in cells from word (suc n) k room inside =
    elim (cases_eq k n) [
      | inl same ↦
          ap (λ i. get_or (set (with_word cells from word n) (from + n) (bit_of word n)) (from + i) false) same
          ∙ get_or-set_same (with_word cells from word n) (from + n) (bit_of word n) false (omega (arith, room, length-word cells from word n))
          ∙ ap (bit_of word) (let back : n ≡ k = omega (arith, same) in back)
      | inr apart ↦
          get_or-set_other (with_word cells from word n) (from + n) (from + k) (bit_of word n) false (λ same. apart (omega (arith, same)))
          ∙ word-in cells from word n k (omega (arith, room)) (elim (cases_lt k n) [ inl less ↦ less | inr past ↦ absurd (apart (omega (arith, inside, past))) ])
    ]
