-- Names: a letter or an underscore, then letters, digits and underscores, but no reserved word (IEEE Std 1364-2005, 3.7 identifiers;
-- without `$` and escaped identifiers, and with the reserved words of the subset alone).
use Rattle.std.specs.Prelude.{ℕ, Bool, false, not, ◌&&◌, ◌||◌, ◌==◌, List, [], ◌∷◌, codes, bytes_eq, IsTrue}
use Rattle.std.specs.List.{list_all, list_any}
use Rattle.std.specs.Char.{is_ascii_alphabetic, is_ascii_digit}

-- a letter or an underscore
abbrev pub is_letter : ℕ → Bool
is_letter byte = is_ascii_alphabetic byte || (byte == 95)

-- a letter, an underscore or a digit
abbrev pub is_name_byte : ℕ → Bool
is_name_byte byte = is_letter byte || is_ascii_digit byte

-- a name or a reserved word
abbrev pub is_word : List ℕ → Bool
is_word [] = false
is_word (byte ∷ bytes) = is_letter byte && list_all is_name_byte bytes

-- the reserved words, which can't be names
unfoldable pub reserved_words : List (List ℕ)
reserved_words =
    codes "module" ∷ codes "endmodule" ∷ codes "input" ∷ codes "output" ∷ codes "reg" ∷ codes "wire" ∷ codes "assign"
    ∷ codes "always" ∷ codes "posedge" ∷ codes "negedge" ∷ codes "if" ∷ codes "begin" ∷ codes "end" ∷ codes "else"
    ∷ codes "initial" ∷ codes "or" ∷ []

abbrev pub is_reserved : List ℕ → Bool
is_reserved bytes = list_any (λ word. bytes_eq word bytes) reserved_words

unfoldable pub is_name : List ℕ → Bool
is_name bytes = is_word bytes && not (is_reserved bytes)

abbrev pub IsName : List ℕ → Type 0
IsName bytes = IsTrue (is_name bytes)
