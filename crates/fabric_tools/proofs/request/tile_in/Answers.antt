use Rattle.std.proofs.Common.{◌≡◌, ℕ, List, [], length, refl, ap, sym, ◌∙◌, inl, inr, arith}
use Rattle.std.specs.Prelude.{Option, Some, None, position, ◌==◌}
use Rattle.std.specs.List.{position_or_len, after_first}
use Rattle.std.proofs.lemmas.Bool.{cases_lt, lt-ltb}
use Rattle.std.proofs.Math.ListN.{drop_of_length-le}
use Rattle.text_lines.specs.Words.{number_of}
use Rattle.fabric_tools.specs.Explain.{tile_in, tile_of}
use Rattle.fabric_tools.proofs.request.tile_in.Goals as goal

-- no row, no tile
without_row : (x : Option ℕ) → tile_of x None ≡ None
without_row (Some x) = refl
without_row None = refl

-- nothing comes after a space that is missing
without_space : (text : List ℕ) (x : Option ℕ) → position (λ byte. byte == 32) text ≡ None → tile_of x (number_of (after_first (λ byte. byte == 32) text)) ≡ None
unfolding number_of
without_space text x none =
    elim (cases_lt (position_or_len (λ byte. byte == 32) text) (length text)) [
      | inl lt ↦ let chosen : position (λ byte. byte == 32) text ≡ Some (position_or_len (λ byte. byte == 32) text) = rw (lt-ltb (position_or_len (λ byte. byte == 32) text) (length text) lt) refl in absurd cc
      | inr le ↦
          let after : after_first (λ byte. byte == 32) text ≡ [] = drop_of_length-le text (omega arith) in
          ap (λ rest. tile_of x (number_of rest)) after ∙ without_row x
    ]

pub returns-in-None : goal.returns-in-None
unfolding tile_in
returns-in-None c = sym (without_space c.args.text.now _ (sym c.in-None.ensures))
