-- A name with `_en` or `_in` after it is a name.
use Rattle.std.proofs.Common.{◌≡◌, ℕ, Bool, true, false, List, [], ◌∷◌, ◌++◌, refl, sym, ap, ◌∙◌}
use Rattle.std.specs.Prelude.{bytes_eq, codes, not, ◌&&◌, ◌==◌}
use Rattle.std.specs.List.{list_all, list_any}
use Rattle.std.proofs.lemmas.Bool.{and_from, and_parts, and_right}
use Rattle.std.proofs.lemmas.List.Folds.{list_all-append}
use Rattle.shared_lemmas.proofs.Bytes.{bytes_eq-apart}
use Rattle.vlog_module.specs.Names.{is_name_byte, is_word, is_reserved, reserved_words, is_name, IsName}
use Rattle.pin_file.specs.PortNames.{enable_name, input_name}

-- whether no `_` is among bytes
abbrev is_joined : List ℕ → Bool
is_joined bytes = list_all (λ byte. not (byte == 95)) bytes

-- no word without `_` is bytes with one
no-word : (words : List (List ℕ)) → list_all is_joined words ≡ true → (bytes : List ℕ) → is_joined bytes ≡ false → list_any (λ word. bytes_eq word bytes) words ≡ false
no-word [] joined bytes parted = refl
no-word (word ∷ words) joined bytes parted =
    let parts = and_parts (is_joined word) (list_all is_joined words) joined in
    let away : bytes_eq word bytes ≡ false =
    bytes_eq-apart word bytes (λ same. let never : true ≡ false = sym parts.0 ∙ (ap is_joined same ∙ parted) in absurd cc) in
    rw away (no-word words parts.1 bytes parted)

reserved-joined : list_all is_joined reserved_words ≡ true
unfolding reserved_words
reserved-joined = refl

-- a name with such a tail
module _ (tail : List ℕ) (parted : is_joined tail ≡ false) (bytes : list_all is_name_byte tail ≡ true) where
  not-reserved : (name : List ℕ) → is_reserved (name ++ tail) ≡ false
  not-reserved name =
      no-word reserved_words reserved-joined (name ++ tail)
      (list_all-append (λ byte. not (byte == 95)) name tail ∙ (ap (λ bit. is_joined name && bit) parted ∙ and_right (is_joined name) false refl))

  word-after : (name : List ℕ) → is_word name ≡ true → is_word (name ++ tail) ≡ true
  word-after [] word = absurd cc
  word-after (byte ∷ name) word =
      let parts = and_parts _ (list_all is_name_byte name) word in
      and_from _ _ parts.0 (list_all-append is_name_byte name tail ∙ and_from (list_all is_name_byte name) (list_all is_name_byte tail) parts.1 bytes)

  tail_named : (name : List ℕ) → IsName name → IsName (name ++ tail)
  unfolding is_name
  tail_named name named =
      let parts = and_parts (is_word name) (not (is_reserved name)) named in
      and_from (is_word (name ++ tail)) (not (is_reserved (name ++ tail))) (word-after name parts.0) (ap not (not-reserved name))

pub after_named : (name : List ℕ) → IsName name → IsName (enable_name name)
after_named = tail_named (codes "_en") refl refl

pub inside_named : (name : List ℕ) → IsName name → IsName (input_name name)
inside_named = tail_named (codes "_in") refl refl
