-- Lines: what is kept after each, and which are faulty.
use Rattle.std.proofs.Common.{◌≡◌, ℕ, ◌+◌, ◌<◌, false, List, [], ◌∷◌, length, refl, sym, ap, ◌∙◌, inl, inr, subst}
use Rattle.std.specs.Prelude.{Option, Some, None, nat_le, is_some}
use Rattle.std.specs.Result.{result_err}
use Rattle.std.proofs.lemmas.Bool.{cases_Bool, lt-leb, MatchBool-at_true, MatchBool-at_false}
use Rattle.text_lines.specs.Lines.{line_at}
use Rattle.chipdb_lines.specs.declared.cause.DbCause.{DbCause}
use Rattle.chipdb_lines.specs.declared.cause.DbCause.TheVariants.{NameTwice}
use Rattle.chipdb_lines.specs.declared.chip.Chip.{Chip}
use Rattle.chipdb_lines.specs.declared.links.LinkHead.{LinkHead as KeptHead}
use Rattle.chipdb_lines.specs.declared.statements.Below.{Below}
use Rattle.chipdb_lines.specs.declared.statements.Below.TheVariants.{Passed, Device, GlobalInputs, GlobalPins, Functions, ExtraBits, Names, Buffers, Routings, Pll}
use Rattle.chipdb_lines.specs.Words.{is_statement}
use Rattle.chipdb_lines.specs.Statements.{Block}
use Rattle.chipdb_lines.specs.Items.{PllLine, choice_of, pll_line_of}
use Rattle.chipdb_reader.specs.declared.reading.DatabaseState.{DatabaseState}
use Rattle.chipdb_reader.specs.Blocks.{chip_before, block_over, own_words_at}
use Rattle.chipdb_reader.specs.Database.{nothing, pll_item, said_at, said_by}
use Rattle.chipdb_reader.specs.Faults.{cause_at, cause_if, choice_cause, name_cause, own_cause}
use Rattle.chipdb_reader.specs.Reading.{IsReady, IsHeadOf, IsBelowReady, TakesItem, TakesPllLine, TakesWords, TakesLine, RefusesItem, RefusesWords, RefusesLine, NameRefusal, BufferRefusal, name_own, name_twice, buffer_own, buffer_twice}
use Rattle.chipdb_reader.proofs.Grown.{length-bits_named}
use Rattle.chipdb_reader.specs.Holds.{Holds}
use Rattle.chipdb_reader.proofs.Holds.{nothing-step}
use Rattle.chipdb_reader.proofs.ItemSteps.{At, said-at, cause-at, input-step, pin-step, function-step, extra-step, pll-step}
use Rattle.chipdb_reader.proofs.LinkSteps.{routing-step, buffer-step, buffer-cause_is}
use Rattle.chipdb_reader.proofs.NameSteps.{name-step, name-cause}
use Rattle.chipdb_reader.proofs.StatementSteps.{statement-step, statement-accepted, statement-refused}

-- what holds after a line, and that the line isn't faulty
pub record Taken (new : DatabaseState) (lines : List (List ℕ)) (n : ℕ) : Type 0 where
  pub holds : Holds new lines (n + 1)
  pub sound : cause_at lines n ≡ None

-- ---- lines that say nothing

-- a line that is no statement, by its words
cause-own : (lines : List (List ℕ)) (n : ℕ) → n < length lines → is_statement (line_at lines n) ≡ false → cause_at lines n ≡ own_cause lines n (chip_before lines n) (block_over lines n) (own_words_at lines n)
unfolding cause_at
cause-own lines n lt own_line =
    let inside : nat_le (length lines) n ≡ false = lt-leb (length lines) n lt in
    rw (inside, own_line) refl

own_cause-chipless : (lines : List (List ℕ)) (n : ℕ) (block : Block) (words : List (List ℕ)) → own_cause lines n None block words ≡ None
own_cause-chipless lines n block [] = refl
own_cause-chipless lines n block (word ∷ words) = refl

own_cause-wordless : (lines : List (List ℕ)) (n : ℕ) (chip : Option Chip) (block : Block) → own_cause lines n chip block [] ≡ None
own_cause-wordless lines n (Some chip) block = refl
own_cause-wordless lines n None block = refl

said_by-chipless : (block : Block) (words : List (List ℕ)) → said_by words None block ≡ nothing
said_by-chipless block [] = refl
said_by-chipless block (word ∷ words) = refl

taken-chipless : (old : DatabaseState) (lines : List (List ℕ)) (n : ℕ) → n < length lines → is_statement (line_at lines n) ≡ false → Holds old lines n → old.chip ≡ None → Taken old lines n
unfolding said_at
taken-chipless old lines n lt own_line holds none =
    let chip : chip_before lines n ≡ None = sym holds.chip ∙ none in
    record {
      holds = nothing-step old lines n own_line (ap (λ c. said_by (own_words_at lines n) c (block_over lines n)) chip ∙ said_by-chipless (block_over lines n) (own_words_at lines n)) holds;
      sound = cause-own lines n lt own_line ∙ ap (λ c. own_cause lines n c (block_over lines n) (own_words_at lines n)) chip ∙ own_cause-chipless lines n (block_over lines n) (own_words_at lines n);
    }

taken-wordless : (old : DatabaseState) (lines : List (List ℕ)) (n : ℕ) → n < length lines → is_statement (line_at lines n) ≡ false → Holds old lines n → own_words_at lines n ≡ [] → Taken old lines n
unfolding said_at
taken-wordless old lines n lt own_line holds none = record {
  holds = nothing-step old lines n own_line (ap (λ ws. said_by ws (chip_before lines n) (block_over lines n)) none) holds;
  sound = cause-own lines n lt own_line ∙ ap (own_cause lines n (chip_before lines n) (block_over lines n)) none ∙ own_cause-wordless lines n (chip_before lines n) (block_over lines n);
}

-- ---- lines with words

-- a line of a PLL, or none
taken-pll_line : (old new : DatabaseState) (lines : List (List ℕ)) (n : ℕ) (chip : Chip) (x y : ℕ) (word : List ℕ) (words : List (List ℕ)) (line : Option PllLine) → At old lines n chip (Pll x y) word words
    → pll_line_of (word ∷ words) ≡ line → TakesPllLine old line new → Taken new lines n
taken-pll_line old new lines n chip x y word words None at is same =
    subst (λ r. Taken r lines n) (sym same) (record {
      holds = nothing-step old lines n at.own (said-at old lines n chip (Pll x y) word words at ∙ ap (λ l. record nothing { pll_lines = pll_item l }) is) at.holds;
      sound = cause-at old lines n chip (Pll x y) word words at;
    })
taken-pll_line old new lines n chip x y word words (Some line) at is taken =
    subst (λ r. Taken r lines n) (sym taken.1) (record {
      holds = pll-step old new.plls lines n chip x y word words line at is taken.0;
      sound = cause-at old lines n chip (Pll x y) word words at;
    })

list-of : (old : DatabaseState) (below : Below) → IsReady old → old.below ≡ below → IsBelowReady old.bits old.nets.last below
list-of old below ready under = subst (IsBelowReady old.bits old.nets.last) under ready.below

taken-item : (old new : DatabaseState) (lines : List (List ℕ)) (n : ℕ) (chip : Chip) (below : Below) (word : List ℕ) (words : List (List ℕ)) → At old lines n chip below word words → TakesItem old chip below (word ∷ words) new → Taken new lines n
taken-item old new lines n chip Passed word words at same =
    subst (λ r. Taken r lines n) (sym same) (record { holds = nothing-step old lines n at.own (said-at old lines n chip Passed word words at) at.holds; sound = cause-at old lines n chip Passed word words at })
taken-item old new lines n chip (Device given) word words at same =
    subst (λ r. Taken r lines n) (sym same) (record { holds = nothing-step old lines n at.own (said-at old lines n chip (Device given) word words at) at.holds; sound = cause-at old lines n chip (Device given) word words at })
taken-item old new lines n chip GlobalInputs word words at taken =
    subst (λ r. Taken r lines n) (sym taken.1) (record {
      holds = input-step old new.global_inputs lines n chip word words at taken.0;
      sound = cause-at old lines n chip GlobalInputs word words at ∙ ap result_err taken.0.says;
    })
taken-item old new lines n chip GlobalPins word words at taken =
    subst (λ r. Taken r lines n) (sym taken.1) (record {
      holds = pin-step old new.global_pins lines n chip word words at taken.0;
      sound = cause-at old lines n chip GlobalPins word words at ∙ ap result_err taken.0.says;
    })
taken-item old new lines n chip (Functions kind) word words at taken = record {
  holds = function-step old new lines n chip kind word words at taken;
  sound = cause-at old lines n chip (Functions kind) word words at ∙ ap result_err taken.says;
}
taken-item old new lines n chip ExtraBits word words at taken = record {
  holds = extra-step old new lines n chip word words at taken;
  sound = cause-at old lines n chip ExtraBits word words at ∙ ap result_err taken.says;
}
taken-item old new lines n chip (Names net) word words at taken = record {
  holds = name-step old new lines n chip net word words at taken;
  sound =
      name-cause old new.texts lines n chip net taken.x taken.y taken.text taken.id word words at taken.says taken.interned
      ∙ ap (λ (o : Option ℕ). cause_if (is_some o) NameTwice) taken.added.absent;
}
taken-item old new lines n chip (Buffers head) word words at taken =
    let is = list-of old (Buffers head) at.holds.ready at.under in
    record {
      holds = buffer-step old new lines n chip head word words at is taken;
      sound = buffer-cause_is old lines n chip head word words taken.choice at is taken.chosen ∙ taken.fits;
    }
taken-item old new lines n chip (Routings head) word words at taken =
    let is = list-of old (Routings head) at.holds.ready at.under in
    subst (λ r. Taken r lines n) (sym taken.1) (record {
      holds = routing-step old new.routings lines n chip head word words at is taken.0;
      sound = cause-at old lines n chip (Routings head) word words at
          ∙ ap (λ count. result_err (choice_of chip.nets count (word ∷ words))) (length-bits_named old.bits head is) ∙ ap result_err taken.0.chosen.says;
    })
taken-item old new lines n chip (Pll x y) word words at taken = taken-pll_line old new lines n chip x y word words (pll_line_of (word ∷ words)) at refl taken

taken-words : (old new : DatabaseState) (lines : List (List ℕ)) (n : ℕ) (chip : Option Chip) (words : List (List ℕ)) → n < length lines → is_statement (line_at lines n) ≡ false → Holds old lines n → old.chip ≡ chip → own_words_at lines n ≡ words
    → TakesWords old chip words new → Taken new lines n
taken-words old new lines n None words lt own_line holds given is same = subst (λ r. Taken r lines n) (sym same) (taken-chipless old lines n lt own_line holds given)
taken-words old new lines n (Some chip) [] lt own_line holds given is same = subst (λ r. Taken r lines n) (sym same) (taken-wordless old lines n lt own_line holds is)
taken-words old new lines n (Some chip) (word ∷ words) lt own_line holds given is taken =
    taken-item old new lines n chip old.below word words (record { inside = lt; own = own_line; holds = holds; given = given; under = refl; is = is }) taken

-- a line that is taken
pub line-taken : (old new : DatabaseState) (lines : List (List ℕ)) (n : ℕ) → n < length lines → Holds old lines n → TakesLine old (line_at lines n) new → Taken new lines n
line-taken old new lines n lt holds taken =
    elim (cases_Bool (is_statement (line_at lines n))) [
      | inl dot ↦
          let statement = MatchBool-at_true _ _ dot taken in
          record { holds = statement-step old new lines n dot holds statement; sound = statement-accepted old new lines n lt dot holds statement }
      | inr own_line ↦ taken-words old new lines n old.chip (own_words_at lines n) lt own_line holds refl refl (MatchBool-at_false _ _ own_line taken)
    ]

-- ---- refusals

name-refused : (old : DatabaseState) (lines : List (List ℕ)) (n : ℕ) (chip : Chip) (net : ℕ) (word : List ℕ) (words : List (List ℕ)) (cause : DbCause) → At old lines n chip (Names net) word words
    → NameRefusal chip.device net (word ∷ words) old cause → cause_at lines n ≡ Some cause
name-refused old lines n chip net word words cause at (name_own told) = cause-at old lines n chip (Names net) word words at ∙ ap (name_cause lines n) told
name-refused old lines n chip net word words cause at (name_twice named is) =
    name-cause old named.texts lines n chip net named.x named.y named.text named.id word words at named.says named.interned
    ∙ ap (λ b. cause_if b NameTwice) named.named ∙ ap (λ c. Some c) (sym is)

buffer-refused : (old : DatabaseState) (lines : List (List ℕ)) (n : ℕ) (chip : Chip) (head : KeptHead) (word : List ℕ) (words : List (List ℕ)) (cause : DbCause) → At old lines n chip (Buffers head) word words → IsHeadOf old.bits head
    → BufferRefusal chip.nets head (word ∷ words) old cause → cause_at lines n ≡ Some cause
buffer-refused old lines n chip head word words cause at is (buffer_own told) =
    cause-at old lines n chip (Buffers head) word words at
    ∙ ap (λ count. choice_cause lines n (choice_of chip.nets count (word ∷ words))) (length-bits_named old.bits head is) ∙ ap (choice_cause lines n) told
buffer-refused old lines n chip head word words cause at is (buffer_twice chosen) =
    buffer-cause_is old lines n chip head word words chosen.choice at is chosen.chosen ∙ chosen.twice

refused-item : (old : DatabaseState) (lines : List (List ℕ)) (n : ℕ) (chip : Chip) (below : Below) (word : List ℕ) (words : List (List ℕ)) (cause : DbCause) → At old lines n chip below word words → RefusesItem old chip below (word ∷ words) cause
    → cause_at lines n ≡ Some cause
refused-item old lines n chip Passed word words cause at none = absurd none
refused-item old lines n chip (Device given) word words cause at none = absurd none
refused-item old lines n chip GlobalInputs word words cause at told = cause-at old lines n chip GlobalInputs word words at ∙ told
refused-item old lines n chip GlobalPins word words cause at told = cause-at old lines n chip GlobalPins word words at ∙ told
refused-item old lines n chip (Functions kind) word words cause at told = cause-at old lines n chip (Functions kind) word words at ∙ told
refused-item old lines n chip ExtraBits word words cause at told = cause-at old lines n chip ExtraBits word words at ∙ told
refused-item old lines n chip (Names net) word words cause at told = name-refused old lines n chip net word words cause at told
refused-item old lines n chip (Buffers head) word words cause at told =
    buffer-refused old lines n chip head word words cause at (list-of old (Buffers head) at.holds.ready at.under) told
refused-item old lines n chip (Routings head) word words cause at told =
    cause-at old lines n chip (Routings head) word words at
    ∙ ap (λ count. result_err (choice_of chip.nets count (word ∷ words))) (length-bits_named old.bits head (list-of old (Routings head) at.holds.ready at.under)) ∙ told
refused-item old lines n chip (Pll x y) word words cause at none = absurd none

refused-words : (old : DatabaseState) (lines : List (List ℕ)) (n : ℕ) (chip : Option Chip) (words : List (List ℕ)) (cause : DbCause) → n < length lines → is_statement (line_at lines n) ≡ false → Holds old lines n → old.chip ≡ chip → own_words_at lines n ≡ words
    → RefusesWords old chip words cause → cause_at lines n ≡ Some cause
refused-words old lines n None words cause lt own_line holds given is none = absurd none
refused-words old lines n (Some chip) [] cause lt own_line holds given is none = absurd none
refused-words old lines n (Some chip) (word ∷ words) cause lt own_line holds given is told =
    refused-item old lines n chip old.below word words cause (record { inside = lt; own = own_line; holds = holds; given = given; under = refl; is = is }) told

-- a line that is refused has the reported cause
pub line-refused : (old : DatabaseState) (lines : List (List ℕ)) (n : ℕ) (cause : DbCause) → n < length lines → Holds old lines n → RefusesLine old (line_at lines n) cause → cause_at lines n ≡ Some cause
line-refused old lines n cause lt holds told =
    elim (cases_Bool (is_statement (line_at lines n))) [
      | inl dot ↦ statement-refused old lines n cause lt dot holds (MatchBool-at_true _ _ dot told)
      | inr own_line ↦ refused-words old lines n old.chip (own_words_at lines n) cause lt own_line holds refl refl (MatchBool-at_false _ _ own_line told)
    ]
