-- LUTs (`SB_LUT4`), and which of their inputs they read.
use Rattle.std.specs.Prelude.{ℕ, ◌+◌, ◌/◌, ◌%◌, ◌^◌, Bool, false, not, ◌&&◌, ◌==◌, List, [], ◌∷◌, get_or, if◌then◌else◌, Option, None}
use Rattle.std.specs.Bool.{beq}
use Rattle.bit_plane.specs.BitList.{word_bits}
use Rattle.index_search.specs.Places.{any_below}
use Rattle.fabric_model.specs.declared.lut_inputs.LutInputs.{LutInputs}
use Rattle.fabric_model.specs.declared.lut_inputs.LutInputs.TheVariants as read

-- entry n of a LUT, which is the bit of value 2^n of its word; 0 past the last entry
abbrev pub entry_of : ℕ → ℕ → Bool
entry_of word n = get_or (word_bits 16 word) n false

-- whether bit k of n is 0, and entry n differs from the entry whose number has a 1 there instead
abbrev pub entry_differs : ℕ → ℕ → ℕ → Bool
entry_differs word k n = (n / 2 ^ k % 2 == 0) && not (beq (entry_of word n) (entry_of word (n + 2 ^ k)))

-- A LUT uses in_k if two of its entries differ whose numbers differ in bit k alone.
unfoldable pub uses_input : ℕ → ℕ → Bool
uses_input word k = any_below 16 (entry_differs word k)

-- in_k if the LUT uses it, else none
abbrev pub used_input : ℕ → List (Option ℕ) → ℕ → Option ℕ
used_input word ins k = if uses_input word k then get_or ins k None else None

-- the inputs of its cell that a LUT reads: all of them, or only those that it uses, with none in place of the others
abbrev pub inputs_read : LutInputs → ℕ → List (Option ℕ) → List (Option ℕ)
inputs_read read.All word ins = ins
inputs_read read.Used word ins = used_input word ins 0 ∷ used_input word ins 1 ∷ used_input word ins 2 ∷ used_input word ins 3 ∷ []
