-- The value of a LUT doesn't depend on an input that the LUT doesn't use: if such an input reads 0 instead, the value is the same.
use Rattle.std.proofs.Common.{◌≡◌, ℕ, zero, suc, ◌+◌, ◌*◌, ◌/◌, ◌%◌, ◌^◌, ◌<◌, ◌≤◌, ◌==◌, Bool, true, false, ◌&&◌, List, [], ◌∷◌, map, get_or, refl, sym, ap, ◌∙◌, arith, inl, inr, eq-eqb}
use Rattle.std.specs.Prelude.{not, Option, None, if◌then◌else◌}
use Rattle.std.specs.Bool.{beq}
use Rattle.std.proofs.lemmas.Bool.{cases_Bool}
use Rattle.bit_plane.specs.BitList.{bit_value}
use Rattle.index_search.proofs.Found.{any_below-clear}
use Rattle.fabric_model.specs.declared.cell.LogicCell.{LogicCell}
use Rattle.fabric_model.specs.declared.lut_inputs.LutInputs.{LutInputs}
use Rattle.fabric_model.specs.declared.lut_inputs.LutInputs.TheVariants as read
use Rattle.fabric_model.specs.Luts.{entry_of, entry_differs, uses_input, used_input}
use Rattle.fabric_model.specs.Registers.{table_of}
use Rattle.fabric_model.specs.Signals.{net_or_0}
use Rattle.fabric_model.specs.Values.{State, input_or_0, signal_value, table_input, lut_value}

-- ---- entries

pub same-bits : (clear one two : Bool) → clear ≡ true → (clear && not (beq one two)) ≡ false → one ≡ two
same-bits true true true is none = refl
same-bits true false false is none = refl
same-bits true true false is none = absurd cc
same-bits true false true is none = absurd cc
same-bits false one two is none = absurd cc

-- two entries are the same whose numbers differ in the bit of an input that isn't used
same-entries : (word k n : ℕ) → uses_input word k ≡ false → n < 16 → n / 2 ^ k % 2 ≡ 0 → entry_of word n ≡ entry_of word (n + 2 ^ k)
unfolding uses_input
same-entries word k n unused few clear =
    same-bits (n / 2 ^ k % 2 == 0) (entry_of word n) (entry_of word (n + 2 ^ k)) (eq-eqb (n / 2 ^ k % 2) 0 clear)
    (any_below-clear 16 n (entry_differs word k) unused few)

pub value-small : (bit : Bool) → bit_value bit ≤ 1
value-small true = omega arith
value-small false = omega arith

-- the number of an entry by the bits of the four inputs
abbrev pub number_of : Bool → Bool → Bool → Bool → ℕ
number_of a b c d = bit_value a + 2 * bit_value b + 4 * bit_value c + 8 * bit_value d

-- an input, or 0 if it isn't used
abbrev pub read_bit : ℕ → ℕ → Bool → Bool
read_bit word k bit = if uses_input word k then bit else false

-- what holds of an input that isn't used holds of what is read in its place
read-same : (word k : ℕ) (give : Bool → Bool) → (uses_input word k ≡ false → give true ≡ give false) → (bit : Bool) → give bit ≡ give (read_bit word k bit)
read-same word k give unused bit =
    elim (cases_Bool (uses_input word k)) [
      | inl used ↦ rw used refl
      | inr away ↦ rw away (elim bit as (λ b. give b ≡ give false) [ true ↦ unused away | false ↦ refl ])
    ]

module _ (word : ℕ) where
  pub clear-0 : (b c d : Bool) → uses_input word 0 ≡ false → entry_of word (number_of true b c d) ≡ entry_of word (number_of false b c d)
  clear-0 b c d unused =
      let of_b = value-small b in
      let of_c = value-small c in
      let of_d = value-small d in
      let n = number_of false b c d in
      let set : number_of true b c d ≡ n + 2 ^ 0 = omega arith in
      ap (entry_of word) set ∙ sym (same-entries word 0 n unused (omega arith) (omega arith))

  pub clear-1 : (a c d : Bool) → uses_input word 1 ≡ false → entry_of word (number_of a true c d) ≡ entry_of word (number_of a false c d)
  clear-1 a c d unused =
      let of_a = value-small a in
      let of_c = value-small c in
      let of_d = value-small d in
      let n = number_of a false c d in
      let set : number_of a true c d ≡ n + 2 ^ 1 = omega arith in
      ap (entry_of word) set ∙ sym (same-entries word 1 n unused (omega arith) (omega arith))

  pub clear-2 : (a b d : Bool) → uses_input word 2 ≡ false → entry_of word (number_of a b true d) ≡ entry_of word (number_of a b false d)
  clear-2 a b d unused =
      let of_a = value-small a in
      let of_b = value-small b in
      let of_d = value-small d in
      let n = number_of a b false d in
      let set : number_of a b true d ≡ n + 2 ^ 2 = omega arith in
      ap (entry_of word) set ∙ sym (same-entries word 2 n unused (omega arith) (omega arith))

  pub clear-3 : (a b c : Bool) → uses_input word 3 ≡ false → entry_of word (number_of a b c true) ≡ entry_of word (number_of a b c false)
  clear-3 a b c unused =
      let of_a = value-small a in
      let of_b = value-small b in
      let of_c = value-small c in
      let n = number_of a b c false in
      let set : number_of a b c true ≡ n + 2 ^ 3 = omega arith in
      ap (entry_of word) set ∙ sym (same-entries word 3 n unused (omega arith) (omega arith))

  -- the entry is the same if each input that isn't used reads 0
  pub entry-read : (a b c d : Bool)
      → entry_of word (number_of a b c d) ≡ entry_of word (number_of (read_bit word 0 a) (read_bit word 1 b) (read_bit word 2 c) (read_bit word 3 d))
  entry-read a b c d =
      let a' = read_bit word 0 a in
      let b' = read_bit word 1 b in
      let c' = read_bit word 2 c in
      read-same word 0 (λ bit. entry_of word (number_of bit b c d)) (clear-0 b c d) a
      ∙ (read-same word 1 (λ bit. entry_of word (number_of a' bit c d)) (clear-1 a' c d) b
      ∙ (read-same word 2 (λ bit. entry_of word (number_of a' b' bit d)) (clear-2 a' b' d) c
      ∙ read-same word 3 (λ bit. entry_of word (number_of a' b' c' bit)) (clear-3 a' b' c') d))

-- ---- tables

-- an input of a cell's table
pub net-input : (ins : List (Option ℕ)) (k : ℕ) → get_or (map net_or_0 ins) k (net_or_0 None) ≡ net_or_0 (get_or ins k None)
net-input [] k = refl
net-input (net ∷ ins) zero = refl
net-input (net ∷ ins) (suc k) = net-input ins k

module _ (connected : ℕ → Bool) (state : State) (pins : List Bool) (bit : ℕ → Bool) where
  -- an input that isn't used reads 0
  input-read : (used : Bool) (net : Option ℕ) → input_or_0 connected bit (if used then net else None) ≡ (if used then input_or_0 connected bit net else false)
  input-read true net = refl
  input-read false net = refl

  -- the bit at an input of the cell
  abbrev came : LogicCell → ℕ → Bool
  came lc k = input_or_0 connected bit (get_or lc.ins k None)

  table-read : (lc : LogicCell) (k : ℕ) → came lc k ≡ table_input connected state pins bit (table_of read.All lc) k
  table-read lc k = ap (signal_value connected state pins bit) (sym (net-input lc.ins k))

  -- the entry by the four inputs
  entry-by : (word : ℕ) (a b c d e f g h : Bool) → a ≡ e → b ≡ f → c ≡ g → d ≡ h → entry_of word (number_of a b c d) ≡ entry_of word (number_of e f g h)
  entry-by word a b c d e f g h p q r s = λ i. entry_of word (number_of (p i) (q i) (r i) (s i))

  used-value : (lc : LogicCell) → lut_value connected state pins bit (table_of read.Used lc) ≡ lut_value connected state pins bit (table_of read.All lc)
  unfolding lut_value
  used-value lc =
      let word = lc.lut in
      let read_in : (k : ℕ) → input_or_0 connected bit (used_input word lc.ins k) ≡ read_bit word k (came lc k) =
      λ k. input-read (uses_input word k) (get_or lc.ins k None) in
      entry-by word _ _ _ _ (read_bit word 0 (came lc 0)) (read_bit word 1 (came lc 1)) (read_bit word 2 (came lc 2)) (read_bit word 3 (came lc 3))
      (read_in 0) (read_in 1) (read_in 2) (read_in 3)
      ∙ (sym (entry-read word (came lc 0) (came lc 1) (came lc 2) (came lc 3))
      ∙ entry-by word (came lc 0) (came lc 1) (came lc 2) (came lc 3) _ _ _ _ (table-read lc 0) (table-read lc 1) (table-read lc 2) (table-read lc 3))

  -- the value of the LUT of a cell is the same, whichever inputs it reads
  pub read-value : (inputs : LutInputs) (lc : LogicCell) → lut_value connected state pins bit (table_of inputs lc) ≡ lut_value connected state pins bit (table_of read.All lc)
  read-value read.All lc = refl
  read-value read.Used lc = used-value lc
