-- Texts that are written part by part.
use Rattle.std.proofs.Common.{◌≡◌, ℕ, List, ◌++◌, map, ap, sym, ◌∙◌, append_assoc, append-nil}
use Rattle.std.proofs.lemmas.List.{map-append}
use Rattle.index_search.proofs.Places.{gathered_below-more}
use Rattle.text_lines.specs.Written.{text_of}
use Rattle.asc_text.proofs.Pieces.{text_of-append, text_of-none, lines-joined}

-- the lemmas that `grind` gets
pub ruleset joined = (append_assoc, append-nil, text_of-append, text_of-none, map-append, gathered_below-more)

-- names, by other words
pub names-first : (line : List ℕ → List ℕ) (old after : List ℕ) (written first : List (List ℕ)) → written ≡ first → after ≡ old ++ text_of (map line written) → after ≡ old ++ text_of (map line first)
names-first line old after written first same one = one ∙ ap (λ names. old ++ text_of (map line names)) same

-- names after others
pub names-more : (line : List ℕ → List ℕ) (old middle after : List ℕ) (before written next : List (List ℕ)) → middle ≡ old ++ text_of (map line before) → written ≡ next → after ≡ middle ++ text_of (map line written) → after ≡ old ++ text_of (map line (before ++ next))
names-more line old middle after before written next one same two =
    lines-joined old middle after (map line before) (map line next) one (names-first line middle after written next same two)
    ∙ ap (λ lines. old ++ text_of lines) (sym (map-append line before next))

-- three parts of a line
pub three-joined : (old one two three a b c : List ℕ) → one ≡ old ++ a → two ≡ one ++ b → three ≡ two ++ c → three ≡ old ++ ((a ++ b) ++ c)
three-joined old one two three a b c first second third =
    third ∙ ap (λ text. text ++ c) (second ∙ ap (λ text. text ++ b) first ∙ append_assoc old a b) ∙ append_assoc old (a ++ b) c
