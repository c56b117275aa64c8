-- The part that each lane has in lists of values, and the lists of lanes.
use Rattle.std.specs.Prelude.{◌≡◌, ◌<◌, ℕ, Bool, List, [], ◌∷◌, Vec, get_or, length, map}
use Rattle.std.specs.Global.{Global}
use Rattle.vlog_semantics.specs.Values.{bit_of, number_of}

-- the bits of a lane in a list of values, which have a bit for each lane
abbrev pub lane_bits : {V : Type 0} → (V → ℕ → Bool) → ℕ → List V → List Bool
lane_bits at lane values = map (λ value. at value lane) values

-- the list of a lane
abbrev pub list_of : {A : Type 0} → ℕ → List (Vec A Global) → List A
list_of lane lists = get_or (map (λ list. list.items) lists) lane []

-- there is a list for each lane, and it has a word for each of `count` registers of 16 bits
pub record AreLanes (lanes count : ℕ) (lists : List (Vec ℕ Global)) : Type 0 where
  pub size : length lists ≡ lanes
  pub each : (lane : ℕ) → lane < lanes → length (list_of lane lists) ≡ count
  pub fit : (lane word : ℕ) → get_or (list_of lane lists) word 0 < 65536

-- the words from which two bits of a truth table choose by the bit of `a`: in each lane, the word at an index has the bit of that index
pub record AreChoices (a : ℕ) (choices : List ℕ) : Type 0 where
  pub each : (lane index : ℕ) → lane < 64 → index < 4 → bit_of (get_or choices index 0) lane ≡ bit_of index (number_of (bit_of a lane ∷ []))
