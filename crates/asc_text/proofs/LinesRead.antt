-- Lines that are taken one after the other, and what holds after them.
use Rattle.std.proofs.Common.{◌≡◌, ℕ, zero, suc, ◌+◌, ◌<◌, ◌≤◌, List, [], ◌∷◌, ◌++◌, length, drop, refl, sym, ap, subst, ◌∙◌, arith, append_assoc}
use Rattle.std.proofs.lemmas.List.{append-nil, length-append}
use Rattle.std.proofs.Math.Seq.{drop-append_seam}
use Rattle.std.proofs.Math.Logic.{∥∥₁_elim, ∥∥₁_map}
use Rattle.std.specs.Coded.{×_prop, Unit-prop, le_prop, Coded-set, coded_option, code_by, coded_ℕ}
use Rattle.std.specs.Prelude.{Option, Some, None}
use Rattle.plane_map.specs.declared.tile.TileKind.{TileKind}
use Rattle.plane_map.specs.declared.tile.TileKind.TheVariants.{Io, Logic, RamB, RamT}
use Rattle.plane_map.specs.Layout.{kind_of}
use Rattle.ice_image.specs.Either.{device_of}
use Rattle.ice_image.specs.declared.any.AnyImage.{AnyImage}
use Rattle.text_lines.specs.Lines.{lines_of}
use Rattle.layout_file.specs.declared.layouts.Layouts.{Layouts}
use Rattle.layout_file.specs.Layouts.{AreLayouts}
use Rattle.asc_text.specs.declared.fault.AscFault.{AscFault}
use Rattle.asc_text.specs.declared.reading.reader.Expected.{Expected}
use Rattle.asc_text.specs.declared.reading.reader.Expected.TheVariants.{Statement as AnyStatement, Row, Memory}
use Rattle.asc_text.specs.Faults.{Tells, fault_with, tile_named, asc_fault_of}
use Rattle.asc_text.specs.inside.Reading.{ReaderState, HasKind, IsReady, TakesFirst, TakesLines, begun, first_line, line_refusal, statement_of}
use Rattle.asc_text.specs.inside.LinesTaken.{TakesEach, StopsIn, IsReached}
use Rattle.text_lines.proofs.WholeLines.{has_first}
use Rattle.asc_text.proofs.HasRead.{HasRead, IsAt}
use Rattle.asc_text.proofs.Ends.{HasRead-none, HasRead-more, cut, refused}

-- ---- lines

-- lines and then more
pub TakesEach-then : (s between new : ReaderState) (lines more : List (List ℕ)) → TakesEach s lines between → TakesEach between more new → TakesEach s (lines ++ more) new
TakesEach-then s between new [] more first rest = subst (λ (t : ReaderState). TakesEach t more new) first rest
TakesEach-then s between new (line ∷ lines) more first rest = (first.0, first.1, first.2, TakesEach-then first.0 between new lines more first.3 rest)

-- what holds before lines holds after them
HasRead-each : (layouts : Layouts) (all : List (List ℕ)) (n : ℕ) (lines more : List (List ℕ)) (s new : ReaderState) → drop n all ≡ lines ++ more → HasRead layouts all n s → TakesEach s lines new → HasRead layouts all (n + length lines) new
HasRead-each layouts all n [] more s new left read taken =
    let same : n ≡ n + 0 = omega arith in
    subst (λ (k : ℕ). HasRead layouts all k new) same (subst (λ (t : ReaderState). HasRead layouts all n t) (sym taken) read)
HasRead-each layouts all n (line ∷ lines) more s new left read taken =
    let found = cut all n line (lines ++ more) left in
    let first = HasRead-more layouts all n line (lines ++ more) s taken.0 read left taken.1 taken.2 in
    let later : n + 1 + length lines ≡ n + suc (length lines) = omega arith in
    subst (λ (k : ℕ). HasRead layouts all k new) later (HasRead-each layouts all (n + 1) lines more taken.0 new (sym found.2) first taken.3)

-- lines from the first on were read, whatever follows them
pub HasRead-from : (layouts : Layouts) (lines more : List (List ℕ)) (s : ReaderState) → AreLayouts layouts → TakesEach (begun layouts) lines s → HasRead layouts (lines ++ more) (length lines) s
HasRead-from layouts lines more s are taken =
    let count : 0 + length lines ≡ length lines = omega arith in
    subst (λ (k : ℕ). HasRead layouts (lines ++ more) k s) count
    (HasRead-each layouts (lines ++ more) 0 lines more (begun layouts) s refl (HasRead-none layouts (lines ++ more) (begun layouts) are refl) taken)

-- all lines were read
pub HasRead-all : (layouts : Layouts) (lines all : List (List ℕ)) (s : ReaderState) → all ≡ lines → AreLayouts layouts → TakesEach (begun layouts) lines s → HasRead layouts all (length all) s
HasRead-all layouts lines all s is are taken =
    let read : HasRead layouts lines (length lines) s = subst (λ (ls : List (List ℕ)). HasRead layouts ls (length lines) s) (append-nil lines) (HasRead-from layouts lines [] s are taken) in
    subst (λ (ls : List (List ℕ)). HasRead layouts ls (length ls) s) (sym is) read

-- ---- what is known of a reader

is_ready : (lines : List (List ℕ)) (n : ℕ) (s : ReaderState) (expected : Expected) → IsAt lines n s expected → IsReady s.image expected
is_ready lines n s AnyStatement stands = tt
is_ready lines n s (Row kind x y row) stands = (stands.2, stands.3)
is_ready lines n s (Memory x y row) stands = (stands.2, stands.3)

kind_number : TileKind → ℕ
kind_number Io = 0
kind_number Logic = 1
kind_number RamB = 2
kind_number RamT = 3

numbered : ℕ → TileKind
numbered zero = Io
numbered (suc zero) = Logic
numbered (suc (suc zero)) = RamB
numbered (suc (suc (suc n))) = RamT

numbered_kind : (kind : TileKind) → numbered (kind_number kind) ≡ kind
unfolding kind_number numbered
numbered_kind Io = refl
numbered_kind Logic = refl
numbered_kind RamB = refl
numbered_kind RamT = refl

has_kind-prop : (image : Option AnyImage) (x y : ℕ) (kind : TileKind) → IsProp (HasKind image x y kind)
has_kind-prop None x y kind = hlevel
has_kind-prop (Some image) x y kind = Coded-set (coded_option (code_by ℕ coded_ℕ kind_number numbered numbered_kind)) (kind_of (device_of image) x y) (Some kind)

is_ready-prop : (image : Option AnyImage) (expected : Expected) → IsProp (IsReady image expected)
is_ready-prop image AnyStatement = Unit-prop
is_ready-prop image (Row kind x y row) = ×_prop (has_kind-prop image x y kind) le_prop
is_ready-prop image (Memory x y row) = ×_prop (has_kind-prop image x y RamB) le_prop

reached-ready : (s : ReaderState) → IsReached s → IsReady s.image s.expected
reached-ready s reached =
    let read = HasRead-from reached.layouts reached.lines [] s reached.laid reached.taken in
    is_ready (reached.lines ++ []) (length reached.lines) s s.expected read.stands

reached-more : (s new : ReaderState) (lines : List (List ℕ)) → TakesEach s lines new → IsReached s → IsReached new
reached-more s new lines taken reached = record {
  layouts = reached.layouts;
  laid = reached.laid;
  lines = reached.lines ++ lines;
  taken = TakesEach-then (begun reached.layouts) s new reached.lines lines reached.taken taken;
}

-- before the first line
pub IsReached-none : (layouts : Layouts) (s : ReaderState) → AreLayouts layouts → s ≡ begun layouts → ∥ IsReached s ∥₁
IsReached-none layouts s are is = ∣ record { layouts = layouts; laid = are; lines = []; taken = is } ∣₁

-- after more lines
pub IsReached-more : (s new : ReaderState) (lines : List (List ℕ)) → ∥ IsReached s ∥₁ → TakesEach s lines new → ∥ IsReached new ∥₁
IsReached-more s new lines reached taken = ∥∥₁_map reached (reached-more s new lines taken)

-- the reader is ready for what is expected
pub IsReached-ready : (s : ReaderState) → ∥ IsReached s ∥₁ → IsReady s.image s.expected
IsReached-ready s reached = ∥∥₁_elim reached (is_ready-prop s.image s.expected) (reached-ready s)

-- ---- a text

-- lines at the front of a text were taken, after `count` lines that were taken before them, and this is the rest of the text
pub record HasTaken (s : ReaderState) (first : ℕ) (text : List ℕ) (count : ℕ) (left : List ℕ) (new : ReaderState) : Type 0 where
  pub lines : List (List ℕ)
  pub parts : lines_of text ≡ lines ++ lines_of left
  pub counted : count ≡ first + length lines
  pub short : length lines + length left ≤ length text
  pub taken : TakesEach s lines new

pub HasTaken-none : (s : ReaderState) (first : ℕ) (text : List ℕ) → HasTaken s first text first text s
HasTaken-none s first text = record { lines = []; parts = refl; counted = omega arith; short = omega arith; taken = refl }

-- one line more
pub HasTaken-first : (s : ReaderState) (first : ℕ) (text : List ℕ) (count : ℕ) (left rest : List ℕ) (between new : ReaderState) → HasTaken s first text count left between → TakesFirst between left rest new → HasTaken s first text (count + 1) rest new
HasTaken-first s first text count left rest between new before took =
    let line = first_line left in
    let longer : length (before.lines ++ (line ∷ [])) ≡ length before.lines + 1 = length-append before.lines (line ∷ []) in
    record {
      lines = before.lines ++ (line ∷ []);
      parts = before.parts ∙ ap (λ more. before.lines ++ more) took.lines ∙ sym (append_assoc before.lines (line ∷ []) (lines_of rest));
      counted = omega (arith, before.counted, longer);
      short = omega (arith, before.short, took.shorter, longer);
      taken = TakesEach-then s between new before.lines (line ∷ []) before.taken (new, took.fits, took.takes, refl);
    }

-- more lines
pub HasTaken-lines : (s : ReaderState) (first : ℕ) (text : List ℕ) (count more : ℕ) (left rest : List ℕ) (between new : ReaderState) → HasTaken s first text count left between → TakesLines between left more rest new → HasTaken s first text (count + more) rest new
HasTaken-lines s first text count zero left rest between new before taken =
    let none : count ≡ count + 0 = omega arith in
    subst (λ (n : ℕ). HasTaken s first text n rest new) none (subst (λ (t : ReaderState). HasTaken s first text count rest t) (sym taken.1) (subst (λ (l : List ℕ). HasTaken s first text count l between) (sym taken.0) before))
HasTaken-lines s first text count (suc more) left rest between new before taken =
    let later : count + more + 1 ≡ count + suc more = omega arith in
    subst (λ (n : ℕ). HasTaken s first text n rest new) later
    (HasTaken-first s first text (count + more) taken.0 rest taken.1 new (HasTaken-lines s first text count more left taken.0 between taken.1 before taken.2) taken.3)

-- the rest of a text gets shorter by each line
pub TakesLines-shorter : (text rest : List ℕ) (count : ℕ) (s new : ReaderState) → TakesLines s text count rest new → count + length rest ≤ length text
TakesLines-shorter text rest zero s new taken = omega (arith, ap length taken.0)
TakesLines-shorter text rest (suc count) s new taken = omega (arith, taken.3.shorter, TakesLines-shorter text taken.0 count s taken.1 taken.2)

pub HasTaken-ready : (s : ReaderState) (first : ℕ) (text : List ℕ) (count : ℕ) (left : List ℕ) (new : ReaderState) → ∥ IsReached s ∥₁ → HasTaken s first text count left new → IsReady new.image new.expected
HasTaken-ready s first text count left new reached has = IsReached-ready new (IsReached-more s new has.lines reached has.taken)

-- nothing is left
pub HasTaken-ended : (s : ReaderState) (first : ℕ) (text : List ℕ) (count : ℕ) (left : List ℕ) (new : ReaderState) → left ≡ [] → HasTaken s first text count left new → TakesEach s (lines_of text) new × (count ≡ first + length (lines_of text)) × (count ≤ first + length text)
unfolding lines_of
HasTaken-ended s first text count left new none has =
    let all : lines_of text ≡ has.lines = has.parts ∙ ap (λ l. has.lines ++ lines_of l) none ∙ append-nil has.lines in
    let many : length (lines_of text) ≡ length has.lines = ap length all in
    (subst (λ (lines : List (List ℕ)). TakesEach s lines new) (sym all) has.taken, omega (arith, has.counted, many), omega (arith, has.counted, has.short))

-- the next line is refused
pub HasTaken-stops : (s : ReaderState) (first : ℕ) (text : List ℕ) (count : ℕ) (left : List ℕ) (between : ReaderState) (fault : AscFault) → 0 < length left → HasTaken s first text count left between
    → Tells (fault_with (line_refusal between between.expected (first_line left)) (count + 1) (tile_named (statement_of between.expected (first_line left)))) fault → StopsIn s first (lines_of text) fault
HasTaken-stops s first text count left between fault some has told =
    let at : ℕ → Type 0 = λ n. Tells (fault_with (line_refusal between between.expected (first_line left)) (n + 1) (tile_named (statement_of between.expected (first_line left)))) fault in
    record {
      before = has.lines;
      line = first_line left;
      more = drop 1 (lines_of left);
      parts = has.parts ∙ ap (λ more. has.lines ++ more) (has_first left some);
      between = between;
      taken = has.taken;
      told = subst at has.counted told;
    }

-- ---- the first fault

-- The fault of a line that is refused is that of the text.
pub stopped : (layouts : Layouts) (text : List ℕ) (front lines following : List (List ℕ)) (count : ℕ) (s : ReaderState) (fault : AscFault) → AreLayouts layouts → lines_of text ≡ front ++ (lines ++ following) → TakesEach (begun layouts) front s
    → count ≡ length front → StopsIn s count lines fault → Tells (asc_fault_of layouts text) fault
stopped layouts text front lines following count s fault are parts taken counted stops =
    let before = front ++ stops.before in
    let after = stops.line ∷ (stops.more ++ following) in
    let all : lines_of text ≡ before ++ after =
    parts
    ∙ ap (λ ls. front ++ (ls ++ following)) stops.parts
    ∙ ap (λ ls. front ++ ls) (append_assoc stops.before (stops.line ∷ stops.more) following)
    ∙ sym (append_assoc front stops.before after) in
    let n = length before in
    let read = HasRead-from layouts before after stops.between are (TakesEach-then (begun layouts) s stops.between front stops.before taken stops.taken) in
    let many : n ≡ length front + length stops.before = length-append front stops.before in
    let place : count + length stops.before + 1 ≡ n + 1 = omega (arith, counted, many) in
    let at : ℕ → Type 0 = λ k. Tells (fault_with (line_refusal stops.between stops.between.expected stops.line) k (tile_named (statement_of stops.between.expected stops.line))) fault in
    refused layouts text stops.line n (stops.more ++ following) stops.between fault
    (subst (λ (ls : List (List ℕ)). HasRead layouts ls n stops.between) (sym all) read)
    (ap (drop n) all ∙ drop-append_seam before after)
    (subst at place stops.told)
