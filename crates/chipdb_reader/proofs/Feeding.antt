-- Lines that are taken one after another, and what is known of a text that was fed.
use Rattle.std.proofs.Common.{◌≡◌, ℕ, ◌+◌, ◌<◌, ◌≤◌, List, [], ◌∷◌, ◌++◌, length, length-append, append_assoc, append-nil, refl, sym, ap, ◌∙◌, arith, subst}
use Rattle.text_lines.specs.Lines.{lines_of}
use Rattle.text_lines.specs.Feeding.{TakesLines, RefusesLines}
use Rattle.chipdb_reader.specs.declared.fault.DbFault.{DbFault}
use Rattle.chipdb_reader.specs.declared.fault.DbFault.TheVariants.{At, Memory}
use Rattle.chipdb_reader.specs.declared.line_reader.LineReader.{LineReader}
use Rattle.chipdb_reader.specs.Faults.{Tells, db_fault_of, fault_of_lines}
use Rattle.chipdb_reader.specs.Feeding.{HasTaken, IsGoing, refused_with, taken_by}
use Rattle.chipdb_reader.specs.Reading.{FaultOf, IsReady, RefusesFirst, TakesFirst, TakesLine}
use Rattle.chipdb_reader.proofs.Ends.{HasRead-more, HasRead-told}

-- one line more was taken
HasTaken-more : (lines : List (List ℕ)) (line : List ℕ) (old new : LineReader) → HasTaken lines old → TakesLine old.reader line new.reader → new.count ≡ old.count + 1 → HasTaken (lines ++ (line ∷ [])) new
HasTaken-more lines line old new has taken counted = record {
  read = HasRead-more lines line old.reader new.reader has.read taken;
  count_is = omega (arith, counted, has.count_is, length-append lines (line ∷ []));
}

-- What is known while the lines of a text are taken, with the bytes that are left.
pub record Going (text left : List ℕ) (old now : LineReader) : Type 0 where
  pub lines : List (List ℕ)
  pub parts : lines_of text ≡ lines ++ lines_of left
  pub short : length lines + length left ≤ length text
  pub counted : now.count ≡ old.count + length lines
  pub taken : TakesLines taken_by old now lines

pub Going-nothing : (text : List ℕ) (taker : LineReader) → Going text text taker taker
Going-nothing text taker = record {
  lines = [];
  parts = refl;
  short = omega arith;
  counted = omega arith;
  taken = λ setting before has. subst (λ (ls : List (List ℕ)). HasTaken ls taker) (sym (append-nil before)) has;
}

pub Going-first : (text left rest : List ℕ) (old now next : LineReader) → Going text left old now → TakesFirst now.reader left rest next.reader → next.count ≡ now.count + 1 → Going text rest old next
Going-first text left rest old now next going first counted =
    let lines = going.lines in
    let line = first.line in
    let count : length (lines ++ (line ∷ [])) ≡ length lines + 1 = length-append lines (line ∷ []) in
    let shorter : length rest < length left = first.shorter in
    let short : length lines + length left ≤ length text = going.short in
    let so_far : now.count ≡ old.count + length lines = going.counted in
    record {
      lines = lines ++ (line ∷ []);
      parts = going.parts ∙ ap (λ ls. lines ++ ls) first.lines ∙ sym (append_assoc lines (line ∷ []) (lines_of rest));
      short = omega arith;
      counted = omega arith;
      taken = λ setting before has.
          subst (λ (ls : List (List ℕ)). HasTaken ls next) (append_assoc before lines (line ∷ []))
          (HasTaken-more (before ++ lines) line now next (going.taken setting before has) first.taken counted);
    }

-- the first line of the bytes that are left is refused
pub Going-told : (text left : List ℕ) (old now : LineReader) (fault : DbFault) → Going text left old now → FaultOf (now.count + 1) (RefusesFirst now.reader left) fault → RefusesLines taken_by refused_with old (lines_of text) fault
Going-told text left old now (Memory e) going told = λ setting before more has. tt
Going-told text left old now (At number cause) going told = λ setting before more has.
    let first = told.1 in
    let lines = going.lines in
    let following = first.line ∷ lines_of first.rest in
    let at = going.taken setting before has in
    let parts : before ++ lines_of text ++ more ≡ (before ++ lines) ++ (first.line ∷ (lines_of first.rest ++ more)) =
    ap (λ ls. before ++ ls ++ more) (going.parts ∙ ap (λ ls. lines ++ ls) first.lines)
    ∙ ap (λ ls. ls ++ more) (sym (append_assoc before lines following))
    ∙ append_assoc (before ++ lines) following more in
    let count : number ≡ length (before ++ lines) + 1 = told.0 ∙ ap (λ k. k + 1) at.count_is in
    subst (λ (ls : List (List ℕ)). Tells (fault_of_lines ls) (At number cause)) (sym parts)
    (HasRead-told (before ++ lines) (lines_of first.rest ++ more) first.line now.reader (At number cause) at.read (count, first.refused))

-- all lines were taken
pub Going-all : (text left : List ℕ) (old now : LineReader) → Going text left old now → left ≡ [] → TakesLines taken_by old now (lines_of text)
unfolding lines_of
Going-all text left old now going none =
    let all : going.lines ≡ lines_of text = sym (append-nil going.lines) ∙ ap (λ l. going.lines ++ lines_of l) (sym none) ∙ sym going.parts in
    subst (λ (ls : List (List ℕ)). TakesLines taken_by old now ls) all going.taken

-- some lines were taken still
pub Going-on : (text left : List ℕ) (old now : LineReader) → Going text left old now → IsGoing old → IsGoing now
Going-on text left old now going before = (before.0 ++ going.lines, going.taken tt before.0 before.1)

-- what is known of some lines
pub record InOrder (taker : LineReader) : Type 0 where
  pub ready : IsReady taker.reader
  pub texts : length taker.reader.texts.arena ≤ taker.count
  pub lists : length taker.reader.bits ≤ taker.count

pub in_order : (taker : LineReader) → IsGoing taker → InOrder taker
in_order taker going =
    let holds = going.1.read.holds [] in
    let count : taker.count ≡ length going.0 = going.1.count_is in
    let texts : length taker.reader.texts.arena ≤ length going.0 = holds.few in
    let lists : length taker.reader.bits ≤ length going.0 = holds.few_lists in
    record { ready = holds.ready; texts = omega arith; lists = omega arith }

-- the fault of a text's lines is the fault of the text
pub told-text : (text : List ℕ) (fault : DbFault) → Tells (fault_of_lines (lines_of text)) fault → Tells (db_fault_of text) fault
unfolding db_fault_of
told-text text fault told = told

pub told-whole : (text : List ℕ) (fault : DbFault) → Tells (fault_of_lines ([] ++ lines_of text ++ [])) fault → Tells (db_fault_of text) fault
told-whole text fault told = told-text text fault (subst (λ (ls : List (List ℕ)). Tells (fault_of_lines ls) fault) (append-nil (lines_of text)) told)
