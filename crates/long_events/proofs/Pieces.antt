-- A line up to its first space, and after it.
use Rattle.std.proofs.Common.{◌≡◌, ℕ, ◌+◌, Bool, List, [], Some, None, drop, drop_of_length-le, length, take, take_all, sym, ap, arith, inl, inr}
use Rattle.std.specs.Prelude.{◌==◌, position}
use Rattle.std.specs.List.{position_or_len}
use Rattle.std.proofs.lemmas.Bool.{cases_lt, le-ltb, lt-ltb}
use Rattle.text_lines.proofs.Cuts.{position_or_len-none}
use Rattle.long_events.specs.Steps.{after_piece, first_piece}

abbrev is_space : ℕ → Bool
is_space byte = byte == 32

-- the first space is where it is found
space-at : (line : List ℕ) (place : ℕ) → position is_space line ≡ Some place → place ≡ position_or_len is_space line
space-at line place found =
    let first = position_or_len is_space line in
    elim (cases_lt first (length line)) [
      | inl within ↦
          let chosen : Some first ≡ Some place = rw (lt-ltb first (length line) within) at found in
          cc
      | inr over ↦
          let none : None ≡ Some place = rw (le-ltb first (length line) over) at found in
          absurd cc
    ]

pub piece-before : (line : List ℕ) (place : ℕ) → position is_space line ≡ Some place → take place line ≡ first_piece line
piece-before line place found = ap (λ n. take n line) (space-at line place found)

pub piece-after : (line : List ℕ) (place : ℕ) → position is_space line ≡ Some place → drop (place + 1) line ≡ after_piece line
piece-after line place found = ap (λ n. drop (n + 1) line) (space-at line place found)

-- a line without a space
pub piece-whole : (line : List ℕ) → position is_space line ≡ None → line ≡ first_piece line
piece-whole line none = sym (take_all (position_or_len is_space line) line (omega (arith, position_or_len-none is_space line none)))

pub piece-none : (line : List ℕ) → position is_space line ≡ None → [] ≡ after_piece line
piece-none line none = sym (drop_of_length-le line {i = position_or_len is_space line + 1} (omega (arith, position_or_len-none is_space line none)))
