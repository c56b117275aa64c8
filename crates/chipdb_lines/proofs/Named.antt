-- A name with one space before it and one between its numbers.
use Rattle.std.proofs.Common.{◌≡◌, ℕ, ◌&&◌, true, not, List, [], ◌∷◌, ◌++◌, length, get_or, refl, ap, ◌∙◌}
use Rattle.std.specs.Prelude.{Some, Ok, nat_lt}
use Rattle.std.specs.List.{list_all}
use Rattle.std.proofs.lemmas.Bool.{and_parts, ltb-true, not-true}
use Rattle.text_lines.specs.declared.words.Separators.TheVariants.{SpacesAndTabs}
use Rattle.text_lines.specs.Lines.{is_blank}
use Rattle.text_lines.proofs.Spaced.{IsWord, words_of-three}
use Rattle.plane_map.specs.declared.device.DeviceName.{DeviceName}
use Rattle.plane_map.specs.Layout.{grid_height, grid_width}
use Rattle.text_lines.specs.Numbers.{StartsWithNumber}
use Rattle.text_lines.specs.Words.{number_of}
use Rattle.text_lines.proofs.Numbers.{numbers_of-two}
use Rattle.chipdb_lines.specs.Items.{name_of}
use Rattle.chipdb_lines.specs.Words.{words_in}
use Rattle.chipdb_lines.proofs.Values.{list_all-at}
use Rattle.chipdb_lines.proofs.Choices.{number-word}

unblank-word : (name : List ℕ) → (nat_lt 0 (length name) && list_all (λ byte. not (is_blank byte)) name) ≡ true → IsWord SpacesAndTabs name
unblank-word name is =
    let parts = and_parts (nat_lt 0 (length name)) (list_all (λ byte. not (is_blank byte)) name) is in
    record { some = ltb-true 0 (length name) parts.0; free = λ k d lt. not-true (is_blank (get_or name k d)) (list_all-at (λ byte. not (is_blank byte)) name k d parts.1 lt) }

-- three words
pub name-words : (words after name : List ℕ) (x y : ℕ) (one : StartsWithNumber 32 words x after) (two : StartsWithNumber 32 after y name) → (nat_lt 0 (length name) && list_all (λ byte. not (is_blank byte)) name) ≡ true
    → words_in words ≡ one.digits ∷ two.digits ∷ name ∷ []
name-words words after name x y one two is =
    ap words_in (one.text_is ∙ ap (λ more. one.digits ++ (32 ∷ more)) two.text_is)
    ∙ words_of-three SpacesAndTabs one.digits two.digits name (number-word one.digits x one.number_is) (number-word two.digits y two.number_is) (unblank-word name is)

-- what three words say of a net in a grid
name-of_three : (device : DeviceName) (net x y : ℕ) (first second name : List ℕ) → number_of first ≡ Some x → number_of second ≡ Some y → (nat_lt x (grid_width device) && nat_lt y (grid_height device)) ≡ true
    → name_of device net (first ∷ second ∷ name ∷ []) ≡ Ok (record { net = net; x = x; y = y; name = name })
unfolding name_of
name-of_three device net x y first second name one two inside = rw (numbers_of-two first second x y one two, inside) refl

pub name-of_words : (device : DeviceName) (net : ℕ) (words after name : List ℕ) (x y : ℕ) → StartsWithNumber 32 words x after → StartsWithNumber 32 after y name
    → (nat_lt x (grid_width device) && nat_lt y (grid_height device)) ≡ true → (nat_lt 0 (length name) && list_all (λ byte. not (is_blank byte)) name) ≡ true
    → name_of device net (words_in words) ≡ Ok (record { net = net; x = x; y = y; name = name })
name-of_words device net words after name x y one two inside is =
    ap (name_of device net) (name-words words after name x y one two is) ∙ name-of_three device net x y one.digits two.digits name one.number_is two.number_is inside
