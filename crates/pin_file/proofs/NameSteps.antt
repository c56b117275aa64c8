-- Names of ports, byte by byte.
use Rattle.std.proofs.Common.{◌≡◌, ℕ, ◌+◌, ◌-◌, ◌<◌, ◌≤◌, true, false, List, length, take, get_or, refl, sym, ap, arith}
use Rattle.std.specs.Char.{is_ascii_digit}
use Rattle.std.specs.List.{suffix_len}
use Rattle.std.proofs.lemmas.List.{get_or_past, take_all}
use Rattle.std.proofs.lemmas.List.Sums.{suffix_len-take_yes, suffix_len-take_no}
use Rattle.pin_file.specs.PortNames.{is_underscore, without_end}

-- there is no digit past the end
pub digit_past : (name : List ℕ) (place : ℕ) → length name ≤ place → is_ascii_digit (get_or name place 0) ≡ false
digit_past name place past = rw (get_or_past name place 0 past) refl

-- how many `_` are at the end of the first bytes
abbrev pub ended : ℕ → List ℕ → ℕ
ended end bytes = suffix_len is_underscore (take end bytes)

pub trim-all : (bytes : List ℕ) → length bytes + suffix_len is_underscore bytes ≡ length bytes + ended (length bytes) bytes
trim-all bytes = ap (λ b. length bytes + suffix_len is_underscore b) (sym (take_all (length bytes) bytes (omega arith)))

pub trim-more : (bytes : List ℕ) (end : ℕ) → 0 < end → end ≤ length bytes → is_underscore (get_or bytes (end - 1) 0) ≡ true
    → end + suffix_len is_underscore bytes ≡ length bytes + ended end bytes → end - 1 + suffix_len is_underscore bytes ≡ length bytes + ended (end - 1) bytes
trim-more bytes end some within passes so_far =
    let step : ended end bytes ≡ 1 + ended (end - 1) bytes = suffix_len-take_yes is_underscore bytes end 0 some within passes in
    omega arith

pub trim-stop : (bytes : List ℕ) (end : ℕ) → 0 < end → end ≤ length bytes → is_underscore (get_or bytes (end - 1) 0) ≡ false
    → end + suffix_len is_underscore bytes ≡ length bytes + ended end bytes → take end bytes ≡ without_end bytes
trim-stop bytes end some within fails so_far =
    let stop : ended end bytes ≡ 0 = suffix_len-take_no is_underscore bytes end 0 some within fails in
    let same : end ≡ length bytes - suffix_len is_underscore bytes = omega arith in
    ap (λ n. take n bytes) same

pub trim-none : (bytes : List ℕ) (end : ℕ) → end ≡ 0 → end + suffix_len is_underscore bytes ≡ length bytes + ended end bytes → take end bytes ≡ without_end bytes
trim-none bytes end none so_far =
    let empty : ended end bytes ≡ 0 = ap (λ n. ended n bytes) none in
    let same : end ≡ length bytes - suffix_len is_underscore bytes = omega arith in
    ap (λ n. take n bytes) same
