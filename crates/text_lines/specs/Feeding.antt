-- Feeds a text in pieces to a consumer of lines (a taker). The taker gets a line as soon as LF has ended it, and the last line at the end
-- of the text.
use Rattle.std.specs.Prelude.{ℕ, ◌+◌, List, ◌++◌, Option, Some, None, vec_len}
use Rattle.text_lines.specs.declared.feed.LineFeed.{LineFeed}
use Rattle.text_lines.specs.Lines.{lines_of}
use Rattle.text_lines.specs.Pieces.{IsCut}

-- ---- lines

-- the taker took these lines after those it had already, whatever those were
abbrev pub TakesLines : {Setting T : Type 0} → (Setting → T → List (List ℕ) → Type 0) → T → T → List (List ℕ) → Type 0
TakesLines {Setting} has_taken old new lines = (setting : Setting) (before : List (List ℕ)) → has_taken setting old before → has_taken setting new (before ++ lines)

-- one of these lines is refused with this refusal, whatever lines were taken before and whatever lines follow
abbrev pub RefusesLines : {Setting T R : Type 0} → (Setting → T → List (List ℕ) → Type 0) → (Setting → List (List ℕ) → R → Type 0) → T → List (List ℕ) → R → Type 0
RefusesLines {Setting} has_taken refuses old lines refusal = (setting : Setting) (before more : List (List ℕ)) → has_taken setting old before → refuses setting (before ++ lines ++ more) refusal

-- ---- a text in pieces

-- the taker has the lines of the text that have ended, and the bytes after them are kept
pub record HasFront {Setting T : Type 0} (has_taken : Setting → T → List (List ℕ) → Type 0) (setting : Setting) (text : List ℕ) (taker : T) (kept : List ℕ) : Type 0 where
  pub front : List ℕ
  pub cut : IsCut text front kept
  pub taken : has_taken setting taker (lines_of front)

-- what holds after a text was fed; a refusal holds for every text that begins with that one
abbrev pub HasFed : {Setting T R : Type 0} → (Setting → T → List (List ℕ) → Type 0) → (Setting → List (List ℕ) → R → Type 0) → Setting → List ℕ → Option R → T → List ℕ → Type 0
HasFed has_taken refuses setting text None taker kept = HasFront has_taken setting text taker kept
HasFed has_taken refuses setting text (Some refusal) taker kept = (more : List ℕ) → refuses setting (lines_of (text ++ more)) refusal

-- ---- the feed

-- what takes the lines
abbrev pub taker_of : {T R : Type 0} → LineFeed T R → T
taker_of feed = feed.taker

-- the refusal, if the taker refused a line
abbrev pub refusal_of : {T R : Type 0} → LineFeed T R → Option R
refusal_of feed = feed.refusal

-- how many bytes count towards the taker's limit; the bytes of a line that hasn't ended count too
abbrev pub fed_with : {T R : Type 0} → (T → ℕ) → LineFeed T R → ℕ
fed_with fed feed = fed feed.taker + vec_len feed.kept

-- a feed stands for a text in a setting if that text, and nothing else, was fed to it
abbrev pub StandsFor : {Setting T R : Type 0} → (Setting → T → List (List ℕ) → Type 0) → (Setting → List (List ℕ) → R → Type 0) → Setting → List ℕ → LineFeed T R → Type 0
StandsFor has_taken refuses setting text feed = HasFed has_taken refuses setting text feed.refusal feed.taker feed.kept.items
