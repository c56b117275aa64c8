-- Seeds, as the words of a command line write them. That a seed is such a number is this project's choice.
use Rattle.std.specs.Prelude.{ℕ, ◌^◌, ◌&&◌, List, length, nat_lt, nat_le, if◌then◌else◌, Option, None, Some}
use Rattle.std.specs.List.{list_all}
use Rattle.std.specs.Char.{is_ascii_digit}
use Rattle.text_lines.specs.Words.{digits_value}

-- a seed: 1 to 20 decimal digits, of a number below 2^64
unfoldable pub seed_of : List ℕ → Option ℕ
seed_of word =
    if nat_lt 0 (length word) && (nat_le (length word) 20 && list_all is_ascii_digit word)
    then (if nat_lt (digits_value word) (2 ^ 64) then Some (digits_value word) else None)
    else None
