-- The values that lines have.
use Rattle.std.proofs.Common.{◌≡◌, ◌∙◌, ℕ, Bool, true, false, List, [], ap, refl, sym}
use Rattle.std.specs.Prelude.{bytes_eq, if◌then◌else◌}
use Rattle.std.proofs.lemmas.Slice.Eq.{bytes_eq-Decides}
use Rattle.vlog_semantics.specs.Entries.{Entry}
use Rattle.vlog_run.specs.Text.{entry_line}
use Rattle.long_runs.specs.declared.seen.Seen.{Seen}
use Rattle.long_runs.specs.inside.Values.{Sees}
use Rattle.long_runs.proofs.Same.{lines-same}

-- entries of the same values have the same lines
pub lines-seen : (seen : Seen) (registers : Bool) (one other : Entry) → Sees seen registers one → Sees seen registers other → entry_line registers one ≡ entry_line registers other
lines-seen seen registers one other first second =
    lines-same registers one other
    (record {
      outputs = sym first.outputs ∙ second.outputs;
      bits = λ asked. sym (first.bits asked) ∙ second.bits asked;
      words = λ asked. sym (first.words asked) ∙ second.words asked;
    })

-- ---- a line after a line

-- a line that is the same isn't shown
pub same-text : (before line text : List ℕ) → before ≡ line → [] ≡ (if bytes_eq before line then [] else text)
same-text before line text is = ap (λ (same : Bool). if same then [] else text) (sym ((bytes_eq-Decides before line).1 is))

-- another line is
pub changed-text : (before line text : List ℕ) → (before ≡ line → ⊥) → text ≡ (if bytes_eq before line then [] else text)
changed-text before line text other = by_test (bytes_eq before line) refl
  where
    by_test : (same : Bool) → bytes_eq before line ≡ same → text ≡ (if same then [] else text)
    by_test true is = absurd (other ((bytes_eq-Decides before line).0 is))
    by_test false is = refl
