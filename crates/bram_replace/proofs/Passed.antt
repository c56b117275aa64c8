-- Lines that are skipped up to the next RAM.
use Rattle.std.proofs.Common.{◌≡◌, ℕ, zero, suc, ◌+◌, ◌-◌, ◌≤◌, false, List, [], ◌∷◌, ◌++◌, length, take, refl, sym, ap, ap₂, ◌∙◌, subst, arith, le_refl, append-nil, append_assoc, length-append}
use Rattle.std.proofs.lemmas.List.{take-append-le, take_all}
use Rattle.text_lines.specs.Lines.{lines_of, whole_lines_of}
use Rattle.asc_text.specs.Rams.{is_ram_line}
use Rattle.bram_replace.specs.HexText.{Contents}
use Rattle.bram_replace.specs.ReadModes.{Modes}
use Rattle.bram_replace.specs.Passed.{PassesLines, Passes}
use Rattle.bram_replace.proofs.Steps.{Progress, Progress-line}

-- none of them
pub Passes-none : (text : List ℕ) → Passes text [] text
Passes-none text = record { count = 0; lines = (refl, refl); parts = refl }

-- one more
pub Passes-more : (text passed middle content whole rest : List ℕ) → Passes text passed middle → lines_of middle ≡ content ∷ lines_of rest → whole_lines_of middle ≡ whole ∷ whole_lines_of rest
    → middle ≡ whole ++ rest → is_ram_line content ≡ false → Passes text (passed ++ whole) rest
Passes-more text passed middle content whole rest p lines wholes parts other = record {
  count = suc p.count;
  lines = (passed, whole, middle, p.lines, record { content = content; lines = lines; wholes = wholes; other = other }, refl);
  parts = p.parts ∙ ap (λ xs. passed ++ xs) parts ∙ sym (append_assoc passed whole rest);
}

-- the bytes that are skipped
pub passed-is : (text passed rest : List ℕ) → Passes text passed rest → take (length text - length rest) text ≡ passed
passed-is text passed rest p =
    let size : length text ≡ length passed + length rest = ap length p.parts ∙ length-append passed rest in
    let count : length text - length rest ≡ length passed = omega (arith, size) in
    ap₂ (λ n xs. take n xs) count p.parts ∙ take-append-le (length passed) passed rest (le_refl (length passed)) ∙ take_all (length passed) passed (le_refl (length passed))

-- what was taken and written, with them
Progress-lines : (from to : Contents) (modes : Modes) (text left out found : List ℕ) (count : ℕ) (passed rest : List ℕ) → Progress from to modes text left out found → PassesLines left count passed rest
    → Progress from to modes text rest (out ++ passed) found
Progress-lines from to modes text left out found zero passed rest p lines =
    subst (λ xs. Progress from to modes text xs (out ++ passed) found) (sym lines.1)
    (subst (λ xs. Progress from to modes text left xs found) (sym (ap (λ xs. out ++ xs) lines.0 ∙ append-nil out)) p)
Progress-lines from to modes text left out found (suc count) passed rest p lines =
    let before = lines.0 in
    let whole = lines.1 in
    let middle = lines.2 in
    let line = lines.4 in
    Progress-line from to modes text middle (out ++ before) found line.content whole rest (out ++ passed) (Progress-lines from to modes text left out found count before middle p lines.3) line.lines line.wholes line.other
    (ap (λ xs. out ++ xs) lines.5 ∙ sym (append_assoc out before whole))

pub Progress-passes : (from to : Contents) (modes : Modes) (text left out found passed rest new : List ℕ) → Progress from to modes text left out found → Passes left passed rest → new ≡ out ++ passed
    → Progress from to modes text rest new found
Progress-passes from to modes text left out found passed rest new p passes is =
    subst (λ xs. Progress from to modes text rest xs found) (sym is) (Progress-lines from to modes text left out found passes.count passed rest p passes.lines)

-- there are no more lines after them
lines-shorter : (text : List ℕ) (count : ℕ) (passed rest : List ℕ) → PassesLines text count passed rest → length (lines_of rest) ≤ length (lines_of text)
lines-shorter text zero passed rest lines = omega (arith, ap (λ xs. length (lines_of xs)) lines.1)
lines-shorter text (suc count) passed rest lines = omega (arith, ap length lines.4.lines, lines-shorter text count lines.0 lines.2 lines.3)

pub Passes-shorter : (text passed rest : List ℕ) → Passes text passed rest → length (lines_of rest) ≤ length (lines_of text)
Passes-shorter text passed rest p = lines-shorter text p.count passed rest p.lines
