-- A statement of links with one space between its words.
use Rattle.std.proofs.Common.{◌≡◌, ℕ, false, List, [], ◌∷◌, refl, ap, ◌∙◌, true≢false}
use Rattle.std.specs.Prelude.{Some}
use Rattle.plane_map.specs.Layout.{kind_of}
use Rattle.text_lines.specs.declared.words.Separators.TheVariants.{SpacesAndTabs}
use Rattle.text_lines.specs.Numbers.{StartsWithNumber}
use Rattle.text_lines.specs.Words.{number_of}
use Rattle.text_lines.proofs.Numbers.{numbers_of-three}
use Rattle.text_lines.proofs.Spaced.{space-parts, words_of-separator, words_of-word}
use Rattle.chipdb_lines.specs.declared.chip.Chip.{Chip}
use Rattle.chipdb_lines.specs.Statements.{link_at, link_of_words}
use Rattle.chipdb_lines.specs.Words.{has_none, words_in}
use Rattle.chipdb_lines.proofs.Choices.{number-word}

-- a number and a space before other words
number-before : (text rest : List ℕ) (number : ℕ) → (starts : StartsWithNumber 32 text number rest) → words_in text ≡ starts.digits ∷ words_in rest
number-before text rest number starts =
    ap words_in starts.text_is ∙ words_of-word SpacesAndTabs starts.digits 32 rest (number-word starts.digits number starts.number_is) (space-parts SpacesAndTabs)

-- what three numbers and at least one bit say
link-numbers : (chip : Chip) (first second third : List ℕ) (bits : List (List ℕ)) (x y dst : ℕ) → number_of first ≡ Some x → number_of second ≡ Some y → number_of third ≡ Some dst → has_none bits ≡ false
    → link_of_words chip (first ∷ second ∷ third ∷ bits) ≡ link_at chip.nets x y dst (kind_of chip.device x y) bits
unfolding link_of_words
link-numbers chip first second third [] x y dst one two three some = absurd (true≢false some)
link-numbers chip first second third (bit ∷ bits) x y dst one two three some = rw (numbers_of-three first second third x y dst one two three) refl

pub link-usual : (chip : Chip) (words after second bits : List ℕ) (x y dst : ℕ) → StartsWithNumber 32 words x after → StartsWithNumber 32 after y second → StartsWithNumber 32 second dst bits
    → has_none (words_in bits) ≡ false → link_of_words chip (words_in words) ≡ link_at chip.nets x y dst (kind_of chip.device x y) (words_in bits)
link-usual chip words after second bits x y dst one two three some =
    let parted : words_in words ≡ one.digits ∷ two.digits ∷ three.digits ∷ words_in bits =
    number-before words after x one ∙ ap (λ ws. one.digits ∷ ws) (number-before after second y two ∙ ap (λ ws. two.digits ∷ ws) (number-before second bits dst three)) in
    ap (link_of_words chip) parted ∙ link-numbers chip one.digits two.digits three.digits (words_in bits) x y dst one.number_is two.number_is three.number_is some

-- a space before the words
pub words-after_space : (words : List ℕ) → words_in (32 ∷ words) ≡ words_in words
words-after_space words = words_of-separator SpacesAndTabs 32 words (space-parts SpacesAndTabs)
