-- The lines so far, one line more, and the end: what is kept, and the first faulty line.
use Rattle.std.proofs.Common.{below_more, ◌≡◌, ℕ, ◌+◌, ◌<◌, ◌≤◌, true, List, [], ◌∷◌, ◌++◌, length, length-append, append_assoc, append-nil, refl, sym, ap, ◌∙◌, arith, subst}
use Rattle.std.specs.Prelude.{Option, Some, None, Result, Ok, Err, IfOk, IfErr, nat_le}
use Rattle.std.proofs.lemmas.Bool.{le-leb}
use Rattle.std.proofs.lemmas.List.Elements.{All-nil}
use Rattle.std.proofs.Math.Seq.{get_or-append_seam}
use Rattle.text_lines.specs.Lines.{line_at, lines_of}
use Rattle.index_search.specs.Places.{any_below, last_below, first_below, gathered_below}
use Rattle.index_search.proofs.Places.{first_below-first, first_below-none}
use Rattle.chipdb_lines.specs.declared.cause.DbCause.{DbCause}
use Rattle.chipdb_lines.specs.declared.cause.DbCause.TheVariants.{NoDevice}
use Rattle.chipdb_lines.specs.declared.chip.Chip.{Chip}
use Rattle.chipdb_lines.specs.Kept.{block_named}
use Rattle.chipdb_reader.specs.declared.fault.DbFault.{DbFault}
use Rattle.chipdb_reader.specs.declared.fault.DbFault.TheVariants.{At, Memory}
use Rattle.chipdb_reader.specs.declared.reading.DatabaseState.{DatabaseState}
use Rattle.chipdb_reader.specs.Blocks.{chip_before, statement_over, block_over}
use Rattle.chipdb_reader.specs.Database.{database_of}
use Rattle.chipdb_reader.specs.Faults.{Fault, DbMeans, Tells, cause_at, db_fault_of, end_cause, fault_of_lines, fault_with, is_net_before}
use Rattle.chipdb_reader.specs.Kept.{Kept, database_in, name_lines, link_lines, function_lines, extra_lines}
use Rattle.chipdb_reader.specs.Reading.{EndsReading, FaultOf, FitsReader, IsOutOfMemory, IsUnread, RefusesLine, TakesLine}
use Rattle.chipdb_reader.specs.Fit.{IsFit}
use Rattle.chipdb_reader.specs.Sound.{IsSound}
use Rattle.chipdb_reader.proofs.FitPlaces.{database-fit}
use Rattle.chipdb_reader.specs.Holds.{Holds, HasRead, InRange}
use Rattle.chipdb_reader.specs.declared.line_reader.LineReader.{LineReader}
use Rattle.chipdb_reader.specs.Feeding.{HasTaken}
use Rattle.chipdb_reader.proofs.LineSteps.{Taken, line-taken, line-refused}
use Rattle.chipdb_reader.proofs.PllSteps.{plls-told, unread-plls}

-- ---- the lines so far

-- nothing was read
pub unread-holds : (reader : DatabaseState) (lines : List (List ℕ)) → IsUnread reader → Holds reader lines 0
unfolding chip_before statement_over block_over is_net_before any_below last_below first_below gathered_below
unread-holds reader lines unread =
    let below = unread.below in
    record {
      ready = unread.ready;
      in_range = record {
        names = rw unread.names (All-nil _);
        functions = rw unread.functions (All-nil _);
        function_bits = rw unread.functions (All-nil _);
        extras = rw unread.extras (All-nil _);
        buffers = rw unread.buffers (All-nil _);
        routings = rw unread.routings (All-nil _);
      };
      choices = rw below tt;
      chip = unread.chip;
      block = ap (block_named reader.bits) below;
      nets = unread.nets;
      names = ap (name_lines reader.texts.arena) unread.names;
      buffers = ap (link_lines reader.bits) unread.buffers;
      routings = ap (link_lines reader.bits) unread.routings;
      functions = ap (function_lines reader.texts.arena reader.bits) unread.functions;
      extras = ap (extra_lines reader.texts.arena) unread.extras;
      global_inputs = unread.global_inputs;
      global_pins = unread.global_pins;
      plls = unread-plls reader.plls lines unread.plls unread.no_pll;
      pll_open = rw below tt;
      few = let none : length reader.texts.arena ≡ 0 = ap length unread.texts in omega arith;
      few_lists = let none : length reader.bits ≡ 0 = ap length unread.bits in omega arith;
    }

pub HasRead-nothing : (reader : DatabaseState) → IsUnread reader → HasRead [] reader
HasRead-nothing reader unread = record { holds = λ more. unread-holds reader more unread; sound = λ more k lt. absurd (omega arith) }

-- one line more was read
pub HasRead-more : (lines : List (List ℕ)) (line : List ℕ) (old new : DatabaseState) → HasRead lines old → TakesLine old line new → HasRead (lines ++ (line ∷ [])) new
HasRead-more lines line old new before taken =
    let n = length lines in
    let count : length (lines ++ (line ∷ [])) ≡ n + 1 = length-append lines (line ∷ []) in
    let same : (more : List (List ℕ)) → (lines ++ (line ∷ [])) ++ more ≡ lines ++ (line ∷ more) = λ more. append_assoc lines (line ∷ []) more in
    let step : (more : List (List ℕ)) → Taken new (lines ++ (line ∷ more)) n =
    λ more.
    let here : line_at (lines ++ (line ∷ more)) n ≡ line = get_or-append_seam lines line more [] in
    line-taken old new (lines ++ (line ∷ more)) n (omega (arith, length-append lines (line ∷ more))) (before.holds (line ∷ more)) (subst (λ l. TakesLine old l new) (sym here) taken) in
    record {
      holds = λ more. subst (λ (ls : List (List ℕ)). Holds new ls (length (lines ++ (line ∷ [])))) (sym (same more)) (subst (λ k. Holds new (lines ++ (line ∷ more)) k) (sym count) (step more).holds);
      sound = λ more k lt.
          let all = lines ++ (line ∷ more) in
          let below : k < n + 1 = omega (arith, lt, count) in
          subst (λ (ls : List (List ℕ)). cause_at ls k ≡ None) (sym (same more)) (below_more (λ j. cause_at all j ≡ None) n (before.sound (line ∷ more)) (step more).sound k below);
    }

-- ---- faults

fault-at : (lines : List (List ℕ)) (count : ℕ) (cause : DbCause) → count ≤ length lines → ((k : ℕ) → k < count → cause_at lines k ≡ None) → cause_at lines count ≡ Some cause
    → fault_of_lines lines ≡ Some (record { line = count + 1; cause = cause })
unfolding fault_of_lines
fault-at lines count cause within sound here =
    first_below-first (length lines + 1) count (λ n. fault_with (n + 1) (cause_at lines n)) (record { line = count + 1; cause = cause }) (omega arith)
    (λ j lt. ap (fault_with (j + 1)) (sound j lt)) (ap (fault_with (count + 1)) here)

-- a line that isn't taken is the first faulty one, whatever lines follow
pub HasRead-told : (lines more : List (List ℕ)) (line : List ℕ) (reader : DatabaseState) (fault : DbFault) → HasRead lines reader → FaultOf (length lines + 1) (RefusesLine reader line) fault → Tells (fault_of_lines (lines ++ (line ∷ more))) fault
HasRead-told lines more line reader (At number cause) before told =
    let all = lines ++ (line ∷ more) in
    let n = length lines in
    let here : line_at all n ≡ line = get_or-append_seam lines line more [] in
    let inside : n < length all = omega (arith, length-append lines (line ∷ more)) in
    let wrong = line-refused reader all n cause inside (before.holds (line ∷ more)) (subst (λ l. RefusesLine reader l cause) (sym here) told.1) in
    fault-at all n cause (omega arith) (before.sound (line ∷ more)) wrong ∙ ap (λ k. Some (record { line = k; cause = cause })) (sym told.0)
HasRead-told lines more line reader (Memory e) before told = tt

-- ---- the end

-- all lines were read
pub ended-holds : (lines : List (List ℕ)) (reader : DatabaseState) → HasRead lines reader → Holds reader lines (length lines)
ended-holds lines reader before = subst (λ (ls : List (List ℕ)). Holds reader ls (length lines)) (append-nil lines) (before.holds [])

ended-sound : (lines : List (List ℕ)) (reader : DatabaseState) → HasRead lines reader → (k : ℕ) → k < length lines → cause_at lines k ≡ None
ended-sound lines reader before k lt = subst (λ (ls : List (List ℕ)). cause_at ls k ≡ None) (append-nil lines) (before.sound [] k lt)

-- the cause at the end
pub cause-end : (lines : List (List ℕ)) → cause_at lines (length lines) ≡ end_cause (chip_before lines (length lines))
unfolding cause_at
cause-end lines = let past : nat_le (length lines) (length lines) ≡ true = le-leb (length lines) (length lines) (omega arith) in rw past refl

-- nothing is faulty
no-fault : (lines : List (List ℕ)) → ((k : ℕ) → k < length lines → cause_at lines k ≡ None) → cause_at lines (length lines) ≡ None → fault_of_lines lines ≡ None
unfolding fault_of_lines
no-fault lines sound end =
    first_below-none (length lines + 1) (λ n. fault_with (n + 1) (cause_at lines n)) (λ k lt. ap (fault_with (k + 1)) (below_more (λ j. cause_at lines j ≡ None) (length lines) sound end k lt))

-- what was read is what the lines give
read-database : (reader : DatabaseState) (lines : List (List ℕ)) (chip : Chip) (kept : Kept) → Holds reader lines (length lines) → FitsReader chip reader kept → database_in kept ≡ database_of chip lines
unfolding database_of
read-database reader lines chip kept holds fits = λ i. record {
  chip = fits.chip_is i;
  names = ((λ j. name_lines (fits.texts j) (fits.names j)) ∙ holds.names) i;
  buffers = ((λ j. link_lines (fits.bits j) (fits.buffers j)) ∙ holds.buffers) i;
  routings = ((λ j. link_lines (fits.bits j) (fits.routings j)) ∙ holds.routings) i;
  functions = ((λ j. function_lines (fits.texts j) (fits.bits j) (fits.functions j)) ∙ holds.functions) i;
  extras = ((λ j. extra_lines (fits.texts j) (fits.extras j)) ∙ holds.extras) i;
  global_inputs = (fits.global_inputs ∙ holds.global_inputs) i;
  global_pins = (fits.global_pins ∙ holds.global_pins) i;
  plls = (fits.plls ∙ plls-told reader.plls lines (length lines) holds.plls) i;
}

-- a database that is answered is what the text means
means-by : (text : List ℕ) (reader : DatabaseState) (chip : Chip) (kept : Kept) → HasRead (lines_of text) reader → reader.chip ≡ Some chip → FitsReader chip reader kept → DbMeans text (database_in kept)
unfolding db_fault_of
means-by text reader chip kept before given fits =
    let lines = lines_of text in
    let holds = ended-holds lines reader before in
    let device : chip_before lines (length lines) ≡ Some chip = sym holds.chip ∙ given in
    record {
      sound = no-fault lines (ended-sound lines reader before) (cause-end lines ∙ ap end_cause device);
      device = device ∙ ap (λ c. Some c) (sym fits.chip_is);
      lines = read-database reader lines chip kept holds fits ∙ ap (λ c. database_of c lines) (sym fits.chip_is);
    }

-- a text without a device
no-device : (text : List ℕ) (reader : DatabaseState) → HasRead (lines_of text) reader → reader.chip ≡ None → db_fault_of text ≡ Some (record { line = length (lines_of text) + 1; cause = NoDevice })
unfolding db_fault_of
no-device text reader before none =
    let lines = lines_of text in
    let device : chip_before lines (length lines) ≡ None = sym (ended-holds lines reader before).chip ∙ none in
    fault-at lines (length lines) NoDevice (omega arith) (ended-sound lines reader before) (cause-end lines ∙ ap end_cause device)

tells-memory : (fault : Option Fault) (e : DbFault) → IsOutOfMemory e → Tells fault e
tells-memory fault (At line cause) is = absurd is
tells-memory fault (Memory e) is = tt

-- the answer at the end, if it is a database
answered-by : (text : List ℕ) (count : ℕ) (reader : DatabaseState) (chip : Option Chip) (answer : Result Kept DbFault) → HasRead (lines_of text) reader → reader.chip ≡ chip → EndsReading reader chip (count + 1) answer
    → IfOk answer (λ kept. DbMeans text (database_in kept))
answered-by text count reader None answer before given ends = rw ends tt
answered-by text count reader (Some chip) (Ok kept) before given ends = means-by text reader chip kept before given ends
answered-by text count reader (Some chip) (Err fault) before given ends = tt

refused-by : (text : List ℕ) (count : ℕ) (reader : DatabaseState) (chip : Option Chip) (answer : Result Kept DbFault) → HasRead (lines_of text) reader → count ≡ length (lines_of text) → reader.chip ≡ chip → EndsReading reader chip (count + 1) answer
    → IfErr answer (Tells (db_fault_of text))
refused-by text count reader None answer before all given ends =
    rw ends (no-device text reader before given ∙ ap (λ k. Some (record { line = k + 1; cause = NoDevice })) (sym all))
refused-by text count reader (Some chip) (Ok kept) before all given ends = tt
refused-by text count reader (Some chip) (Err fault) before all given ends = tells-memory (db_fault_of text) fault ends

pub answered : (text : List ℕ) (taker : LineReader) (answer : Result Kept DbFault) → HasTaken (lines_of text) taker → EndsReading taker.reader taker.reader.chip (taker.count + 1) answer → IfOk answer (λ kept. DbMeans text (database_in kept))
answered text taker answer has ends = answered-by text taker.count taker.reader taker.reader.chip answer has.read refl ends

pub refused : (text : List ℕ) (taker : LineReader) (answer : Result Kept DbFault) → HasTaken (lines_of text) taker → EndsReading taker.reader taker.reader.chip (taker.count + 1) answer → IfErr answer (Tells (db_fault_of text))
refused text taker answer has ends = refused-by text taker.count taker.reader taker.reader.chip answer has.read has.count_is refl ends

-- what is answered at the end is in order
pub sound-kept : (chip : Chip) (reader : DatabaseState) (kept : Kept) → InRange reader → FitsReader chip reader kept → IsSound kept
sound-kept chip reader kept range fits = record {
  names = rw (fits.names, fits.texts) range.names;
  functions = rw (fits.functions, fits.texts) range.functions;
  function_bits = rw (fits.functions, fits.bits) range.function_bits;
  extras = rw (fits.extras, fits.texts) range.extras;
  buffers = rw (fits.buffers, fits.bits) range.buffers;
  routings = rw (fits.routings, fits.bits) range.routings;
}

-- what is answered at the end is fit
pub fit-at_end : (lines : List (List ℕ)) (reader : DatabaseState) → HasRead lines reader → (chip : Chip) (kept : Kept) → reader.chip ≡ Some chip → FitsReader chip reader kept → IsFit (database_in kept)
fit-at_end lines reader before chip kept given fits =
    let holds = ended-holds lines reader before in
    subst IsFit (sym (read-database reader lines chip kept holds fits)) (database-fit chip lines (sym holds.chip ∙ given))
