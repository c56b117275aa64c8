-- The places of a word in pairs: a place and its partner, with which it is exchanged, `shift` places away.
use Rattle.std.specs.Prelude.{◌≡◌, ℕ, ◌+◌, ◌-◌, ◌/◌, ◌%◌, ◌==◌, ◌<◌, nat_lt, nat_le, Bool, true, not, ◌&&◌, ◌||◌, if◌then◌else◌}
use Rattle.std.specs.Int.{bit_at}

-- the partner of a place, `shift` places away
abbrev pub partner : ℕ → ℕ → ℕ
partner shift k = if k / shift % 2 == 0 then k + shift else k - shift

-- whether a mask has a place
abbrev pub has_place : ℕ → ℕ → Bool
has_place mask k = bit_at mask k == 1

-- whether a mask is right at a place: it has the lower place of each pair and not the upper one, and both lie in the word
abbrev pub is_paired : ℕ → ℕ → ℕ → Bool
is_paired shift mask k =
    if k / shift % 2 == 0 then has_place mask k && nat_lt (k + shift) 64 && (nat_lt k shift || not (has_place mask (k - shift)))
    else not (has_place mask k) && nat_le shift k && has_place mask (k - shift)

-- a mask has the lower place of each two
abbrev pub ArePairs : ℕ → ℕ → Type 0
ArePairs shift mask = (k : ℕ) → k < 64 → is_paired shift mask k ≡ true
