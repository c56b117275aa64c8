-- The tokens from an offset on.
use Rattle.std.proofs.Common.{◌≡◌, ℕ, zero, suc, ◌<◌, ◌≤◌, ◌+◌, ◌-◌, Bool, true, false, not, List, [], ◌∷◌, length, get_or, drop, refl, ap, sym, ◌∙◌, arith, cond}
use Rattle.std.proofs.lemmas.List.{drop-drop, length-drop, drop_all, get_or-drop}
use Rattle.std.proofs.lemmas.List.Sums.{passes_at_first}
use Rattle.std.specs.List.{position_or_len}
use Rattle.vlog_tokens.specs.Bytes.{is_blank, byte_at}
use Rattle.vlog_tokens.specs.Tokens.{spot, spots_from, spots_at, front_token, front_length}
use Rattle.vlog_tokens.proofs.Lengths.{front_within}

-- bytes that belong to an earlier token may be left out
pub spots_from-covered : (offset covered : ℕ) (bytes : List ℕ) → spots_from offset covered bytes ≡ spots_from (offset + covered) zero (drop covered bytes)
unfolding spots_from
spots_from-covered offset zero bytes = grind arith
spots_from-covered offset (suc covered) [] = refl
spots_from-covered offset (suc covered) (byte ∷ bytes) =
    let same : (offset + 1) + covered ≡ offset + suc covered = omega arith in
    spots_from-covered (offset + 1) covered bytes ∙ ap (λ at. spots_from at zero (drop covered bytes)) same

-- a byte at the front that is white space, or isn't
blank_step : (b : Bool) (offset byte : ℕ) (bytes : List ℕ) (rest : ℕ) → is_blank byte ≡ b → spots_from (offset + 1) zero bytes ≡ spots_from ((offset + 1) + rest) zero (drop rest bytes) → spots_from offset zero (byte ∷ bytes) ≡ spots_from (offset + cond (not (not b)) (1 + rest) 0) zero (drop (cond (not (not b)) (1 + rest) 0) (byte ∷ bytes))
unfolding spots_from
blank_step true offset byte bytes rest blank more =
    let first : spots_from offset zero (byte ∷ bytes) ≡ spots_from (offset + 1) zero bytes = rw blank refl in
    let one : 1 + rest ≡ suc rest = omega arith in
    let far : (offset + 1) + rest ≡ offset + suc rest = omega arith in
    let last : spots_from ((offset + 1) + rest) zero (drop rest bytes) ≡ spots_from (offset + (1 + rest)) zero (drop (1 + rest) (byte ∷ bytes)) = rw (one, far) refl in
    first ∙ more ∙ last
blank_step false offset byte bytes rest blank more =
    let same : offset ≡ offset + 0 = omega arith in
    ap (λ at. spots_from at zero (byte ∷ bytes)) same

-- white space at the front may be left out
pub spots_from-blanks : (offset : ℕ) (bytes : List ℕ) → spots_from offset zero bytes ≡ spots_from (offset + position_or_len (λ byte. not (is_blank byte)) bytes) zero (drop (position_or_len (λ byte. not (is_blank byte)) bytes) bytes)
unfolding spots_from
spots_from-blanks offset [] = refl
spots_from-blanks offset (byte ∷ bytes) =
    blank_step (is_blank byte) offset byte bytes (position_or_len (λ byte. not (is_blank byte)) bytes) refl (spots_from-blanks (offset + 1) bytes)

-- a token begins at a byte that isn't white space
pub spots_from-token : (offset : ℕ) (bytes : List ℕ) → 0 < length bytes → is_blank (byte_at bytes 0) ≡ false → spots_from offset zero bytes ≡ spot offset (front_token bytes) ∷ spots_from (offset + front_length bytes) zero (drop (front_length bytes) bytes)
unfolding spots_from
spots_from-token offset [] some unblank = absurd (omega arith)
spots_from-token offset (byte ∷ bytes) some unblank =
    let within = front_within (byte ∷ bytes) some in
    let n : ℕ = front_length (byte ∷ bytes) - 1 in
    let whole : front_length (byte ∷ bytes) ≡ suc n = omega (arith, within) in
    let far : (offset + 1) + n ≡ offset + front_length (byte ∷ bytes) = omega (arith, within) in
    let rest : drop (front_length (byte ∷ bytes)) (byte ∷ bytes) ≡ drop n bytes = ap (λ k. drop k (byte ∷ bytes)) whole in
    let first : spots_from offset zero (byte ∷ bytes) ≡ spot offset (front_token (byte ∷ bytes)) ∷ spots_from (offset + 1) n bytes = rw unblank refl in
    first ∙ ap (λ spots. spot offset (front_token (byte ∷ bytes)) ∷ spots) (spots_from-covered (offset + 1) n bytes
    ∙ ap (λ at. spots_from at zero (drop n bytes)) far
    ∙ ap (λ left. spots_from (offset + front_length (byte ∷ bytes)) zero left) (sym rest))

-- the white space from an offset on may be left out
pub spots_at-blanks : (bytes : List ℕ) (from : ℕ) → spots_at bytes from ≡ spots_at bytes (from + position_or_len (λ byte. not (is_blank byte)) (drop from bytes))
spots_at-blanks bytes from =
    let skipped : ℕ = position_or_len (λ byte. not (is_blank byte)) (drop from bytes) in
    spots_from-blanks from (drop from bytes) ∙ ap (λ left. spots_from (from + skipped) zero left) (drop-drop skipped from bytes)

-- no white space follows them
pub unblank_after : (bytes : List ℕ) (from : ℕ) → from + position_or_len (λ byte. not (is_blank byte)) (drop from bytes) < length bytes → is_blank (byte_at bytes (from + position_or_len (λ byte. not (is_blank byte)) (drop from bytes))) ≡ false
unblank_after bytes from inside =
    let skipped : ℕ = position_or_len (λ byte. not (is_blank byte)) (drop from bytes) in
    let lt : skipped < length (drop from bytes) = omega (arith, length-drop from bytes, inside) in
    let passes : not (is_blank (get_or (drop from bytes) skipped 0)) ≡ true = passes_at_first (λ byte. not (is_blank byte)) (drop from bytes) 0 lt in
    let here : get_or (drop from bytes) skipped 0 ≡ get_or bytes (from + skipped) 0 = get_or-drop from bytes skipped 0 in
    not_true (is_blank (get_or bytes (from + skipped) 0)) (rw here at passes)
  where
    not_true : (b : Bool) → not b ≡ true → b ≡ false
    not_true true passes = absurd cc
    not_true false passes = refl

-- no token begins at the end
pub spots_at-end : (bytes : List ℕ) (from : ℕ) → length bytes ≤ from → spots_at bytes from ≡ []
unfolding spots_from
spots_at-end bytes from past = rw (drop_all from bytes past) refl

-- a token from an offset on
pub spots_at-token : (bytes : List ℕ) (at : ℕ) → at < length bytes → is_blank (byte_at bytes at) ≡ false → spots_at bytes at ≡ spot at (front_token (drop at bytes)) ∷ spots_at bytes (at + front_length (drop at bytes))
spots_at-token bytes at inside unblank =
    let some : 0 < length (drop at bytes) = omega (arith, length-drop at bytes) in
    let here : get_or (drop at bytes) 0 0 ≡ get_or bytes (at + 0) 0 = get_or-drop at bytes 0 0 in
    let there : at + 0 ≡ at = omega arith in
    let first : is_blank (byte_at (drop at bytes) 0) ≡ false = rw (here, there) unblank in
    spots_from-token at (drop at bytes) some first
    ∙ ap (λ left. spot at (front_token (drop at bytes)) ∷ spots_from (at + front_length (drop at bytes)) zero left) (drop-drop (front_length (drop at bytes)) at bytes)
