-- Statements: what is kept after each, and which are faulty.
use Rattle.std.proofs.Common.{◌≡◌, ℕ, ◌+◌, ◌<◌, ◌≤◌, Bool, true, false, ◌&&◌, ◌||◌, cond, List, [], length, drop, append-nil, refl, sym, ap, ◌∙◌, arith, subst}
use Rattle.std.specs.Prelude.{Option, Some, None, Result, Ok, Err, nat_le, nat_lt}
use Rattle.std.specs.Result.{result_err}
use Rattle.std.specs.List.{list_any}
use Rattle.std.proofs.lemmas.Bool.{lt-leb, le-ltb}
use Rattle.std.proofs.lemmas.List.Elements.{All-nil}
use Rattle.std.proofs.Math.Bool.{or-false}
use Rattle.std.proofs.Math.Seq.{drop-length}
use Rattle.text_lines.specs.Lines.{line_at}
use Rattle.index_search.specs.Places.{or_else}
use Rattle.index_search.proofs.Places.{any_below-more, any_below-none, or_else-none}
use Rattle.plane_map.specs.declared.tile.RowCol.{RowCol}
use Rattle.chipdb_lines.specs.declared.cause.DbCause.{DbCause}
use Rattle.chipdb_lines.specs.declared.cause.DbCause.TheVariants.{NetTwice}
use Rattle.chipdb_lines.specs.declared.chip.Chip.{Chip}
use Rattle.chipdb_lines.specs.declared.statements.Below.{Below}
use Rattle.chipdb_lines.specs.declared.statements.Below.TheVariants.{Passed, Device, GlobalInputs, GlobalPins, Functions, ExtraBits, Names, Buffers, Routings, Pll}
use Rattle.chipdb_lines.specs.Words.{is_statement, own_words, words_in}
use Rattle.chipdb_lines.specs.Statements.{Block, pll, statement_of}
use Rattle.chipdb_lines.specs.Items.{LinkChoice}
use Rattle.chipdb_lines.specs.Kept.{block_named, AddsBelow}
use Rattle.chipdb_reader.specs.declared.nets.Nets.{Nets}
use Rattle.chipdb_reader.specs.declared.plls.Plls.{Plls}
use Rattle.chipdb_reader.specs.declared.buffers.Buffers.{Buffers as KeptBuffers}
use Rattle.chipdb_reader.specs.declared.reading.DatabaseState.{DatabaseState}
use Rattle.chipdb_reader.specs.Blocks.{chip_in, statement_at, own_words_at}
use Rattle.chipdb_reader.specs.Buffers.{BeginsBuffers}
use Rattle.chipdb_reader.specs.Database.{nothing, said_at, any_since, begun_at, is_chosen_before, buffers_at, routings_at, tile_in}
use Rattle.chipdb_reader.specs.Faults.{cause_at, cause_if, is_net, is_net_before, net_in, statement_cause}
use Rattle.chipdb_reader.specs.Kept.{name_lines, link_lines}
use Rattle.chipdb_reader.specs.Nets.{IsNetIndex, has_net, net_names}
use Rattle.chipdb_reader.specs.Plls.{OpenHolds, PllsHold}
use Rattle.chipdb_reader.specs.Reading.{IsBelowReady, ChangesAt, begin_cause, TakesStatement, StatementRefusal, statement_own, statement_twice}
use Rattle.chipdb_reader.proofs.BlockSteps.{chip-statement, chip-given, over-statement, block-statement, device_of}
use Rattle.chipdb_reader.proofs.Grown.{below-grown, head-added, Lengthens}
use Rattle.chipdb_reader.specs.Holds.{Holds, ChoicesHold, last_lines}
use Rattle.chipdb_reader.proofs.Holds.{list-step, buffers_at-nothing, routings_at-nothing}
use Rattle.chipdb_reader.proofs.ItemSteps.{in_range-grown, functions-kept, links-kept}
use Rattle.chipdb_reader.proofs.PllSteps.{begun-statement, plls-begun, plls-statement, pll_open-begun}

-- ---- causes

-- what is wrong with a statement
pub cause-statement : (lines : List (List ℕ)) (n : ℕ) → n < length lines → is_statement (line_at lines n) ≡ true → cause_at lines n ≡ statement_cause lines n (statement_at lines n)
unfolding cause_at
cause-statement lines n lt dot =
    let inside : nat_le (length lines) n ≡ false = lt-leb (length lines) n lt in
    rw (inside, dot) refl

-- what a statement says, by the device that is kept
pub statement-is : (old : DatabaseState) (lines : List (List ℕ)) (n : ℕ) → Holds old lines n → statement_at lines n ≡ statement_of old.chip (words_in (line_at lines n))
unfolding statement_at
statement-is old lines n holds = ap (λ chip. statement_of chip (words_in (line_at lines n))) (sym holds.chip)

cause_if-is : (b : Bool) (cause : DbCause) → cause_if b cause ≡ cond b (Some cause) None
cause_if-is true cause = refl
cause_if-is false cause = refl

-- a statement that is no net begun twice has no cause
pub begin-cause : (old : DatabaseState) (lines : List (List ℕ)) (n : ℕ) (bits : List (List RowCol)) (below : Below) → Holds old lines n → statement_cause lines n (Ok (block_named bits below)) ≡ begin_cause old.nets below
begin-cause old lines n bits (Names net) holds = ap (λ b. cause_if b NetTwice) (sym (holds.nets net)) ∙ cause_if-is (has_net old.nets net) NetTwice
begin-cause old lines n bits Passed holds = refl
begin-cause old lines n bits (Device chip) holds = refl
begin-cause old lines n bits GlobalInputs holds = refl
begin-cause old lines n bits GlobalPins holds = refl
begin-cause old lines n bits (Functions kind) holds = refl
begin-cause old lines n bits ExtraBits holds = refl
begin-cause old lines n bits (Buffers head) holds = refl
begin-cause old lines n bits (Routings head) holds = refl
begin-cause old lines n bits (Pll x y) holds = refl

told-own : (lines : List (List ℕ)) (n : ℕ) (said : Result Block DbCause) (cause : DbCause) → result_err said ≡ Some cause → statement_cause lines n said ≡ Some cause
told-own lines n (Ok block) cause told = absurd cc
told-own lines n (Err other) cause told = told

-- a statement that is refused has the reported cause
pub statement-refused : (old : DatabaseState) (lines : List (List ℕ)) (n : ℕ) (cause : DbCause) → n < length lines → is_statement (line_at lines n) ≡ true → Holds old lines n
    → StatementRefusal old (line_at lines n) cause → cause_at lines n ≡ Some cause
statement-refused old lines n cause lt dot holds (statement_own told) =
    cause-statement lines n lt dot ∙ ap (statement_cause lines n) (statement-is old lines n holds) ∙ told-own lines n (statement_of old.chip (words_in (line_at lines n))) cause told
statement-refused old lines n cause lt dot holds (statement_twice begun) =
    cause-statement lines n lt dot ∙ ap (statement_cause lines n) (statement-is old lines n holds ∙ begun.says) ∙ begin-cause old lines n begun.bits begun.below holds ∙ begun.twice

-- one that is taken has none
pub statement-accepted : (old new : DatabaseState) (lines : List (List ℕ)) (n : ℕ) → n < length lines → is_statement (line_at lines n) ≡ true → Holds old lines n
    → TakesStatement old (line_at lines n) new → cause_at lines n ≡ None
statement-accepted old new lines n lt dot holds taken =
    cause-statement lines n lt dot ∙ ap (statement_cause lines n) (statement-is old lines n holds ∙ taken.says) ∙ begin-cause old lines n taken.bits taken.below holds ∙ taken.fits

-- ---- one statement more

-- a statement says nothing for another
nothing-said : (lines : List (List ℕ)) (n : ℕ) → is_statement (line_at lines n) ≡ true → said_at lines n ≡ nothing
unfolding said_at own_words
nothing-said lines n dot =
    let none : own_words_at lines n ≡ [] = rw dot refl in
    rw none refl

-- below a new statement nothing was chosen
chosen-none : (lines : List (List ℕ)) (n : ℕ) (test : LinkChoice → Bool) → is_statement (line_at lines n) ≡ true → is_chosen_before lines (n + 1) test ≡ false
unfolding is_chosen_before
chosen-none lines n test dot =
    ap (λ over. any_since lines over (n + 1) test) (over-statement lines n dot)
    ∙ any_below-none (n + 1) (λ k. nat_lt n k && list_any test (said_at lines k).choices) (λ k lt. let before : nat_lt n k ≡ false = le-ltb n k (omega arith) in rw before refl)

-- What a statement changes, with what it says.
pub record Begun (old : DatabaseState) (lines : List (List ℕ)) (n : ℕ) (bits : List (List RowCol)) (chip : Option Chip) (below : Below) (nets : Nets) (buffers : KeptBuffers) (plls : Plls) : Type 0 where
  pub dot : is_statement (line_at lines n) ≡ true
  pub holds : Holds old lines n
  pub says : statement_of old.chip (words_in (line_at lines n)) ≡ Ok (block_named bits below)
  pub grown : Lengthens old.bits bits
  pub buffers_begin : BeginsBuffers old.buffers buffers
  pub chip_is : chip ≡ or_else old.chip (device_of (block_named bits below))
  pub nets_are : (net : ℕ) → has_net nets net ≡ (has_net old.nets net || is_net net (net_in (Ok (block_named bits below))))
  pub names : net_names nets ≡ net_names old.nets
  pub indexed : IsNetIndex nets
  pub ready : IsBelowReady bits nets.last below
  pub plls_hold : PllsHold plls lines (n + 1)
  pub pll_open : OpenHolds plls lines (n + 1) below

-- a statement of no PLL changes none
plls-passed : (old : DatabaseState) (lines : List (List ℕ)) (n : ℕ) (bits : List (List RowCol)) (below : Below) → is_statement (line_at lines n) ≡ true → Holds old lines n
    → statement_of old.chip (words_in (line_at lines n)) ≡ Ok (block_named bits below) → tile_in lines n (block_named bits below) ≡ [] → PllsHold old.plls lines (n + 1)
plls-passed old lines n bits below dot holds says no_tile =
    plls-statement old.plls lines n (block_named bits below) (begun-statement lines n (block_named bits below) dot (statement-is old lines n holds ∙ says)) no_tile (ap (λ s. s.pll_lines) (nothing-said lines n dot)) holds.plls

choices-begun : (reader : DatabaseState) (lines : List (List ℕ)) (n : ℕ) (below : Below) → is_statement (line_at lines n) ≡ true → last_lines reader ≡ [] → ChoicesHold reader lines (n + 1) below
choices-begun reader lines n (Buffers head) dot none = record {
  own = rw none (All-nil _);
  seen = λ test. chosen-none lines n test dot ∙ rw none refl;
}
choices-begun reader lines n Passed dot none = tt
choices-begun reader lines n (Device chip) dot none = tt
choices-begun reader lines n GlobalInputs dot none = tt
choices-begun reader lines n GlobalPins dot none = tt
choices-begun reader lines n (Functions kind) dot none = tt
choices-begun reader lines n ExtraBits dot none = tt
choices-begun reader lines n (Names net) dot none = tt
choices-begun reader lines n (Routings head) dot none = tt
choices-begun reader lines n (Pll x y) dot none = tt

begun-step : (old : DatabaseState) (lines : List (List ℕ)) (n : ℕ) (bits : List (List RowCol)) (chip : Option Chip) (below : Below) (nets : Nets) (buffers : KeptBuffers) (plls : Plls)
    → Begun old lines n bits chip below nets buffers plls → Holds (record old { chip = chip; below = below; bits = bits; nets = nets; buffers = buffers; plls = plls }) lines (n + 1)
unfolding is_net_before
begun-step old lines n bits chip below nets buffers plls begun =
    let line = line_at lines n in
    let holds = begun.holds in
    let block = block_named bits below in
    let said = nothing-said lines n begun.dot in
    let none : (said_at lines n).choices ≡ [] = ap (λ s. s.choices) said in
    let at : statement_at lines n ≡ Ok block = statement-is old lines n holds ∙ begun.says in
    let range = holds.in_range in
    let after = in_range-grown old old.texts bits [] begun.grown.more (sym (append-nil old.texts.arena)) begun.grown.table range in
    let lines_same = begun.buffers_begin.lines in
    let last : drop buffers.start buffers.lines.items ≡ [] = ap (λ k. drop k buffers.lines.items) begun.buffers_begin.start ∙ drop-length buffers.lines.items in
    let few : length old.texts.arena ≤ n = holds.few in
    let few_lists : length old.bits ≤ n = holds.few_lists in
    let one_list : length bits ≤ length old.bits + 1 = begun.grown.few in
    let reader : DatabaseState = record old { chip = chip; below = below; bits = bits; nets = nets; buffers = buffers; plls = plls } in
    record {
      ready = record { texts = holds.ready.texts; nets = begun.indexed; buffers = begun.buffers_begin.indexed; below = begun.ready };
      in_range = record {
        names = rw begun.names after.names;
        functions = after.functions;
        function_bits = after.function_bits;
        extras = after.extras;
        buffers = rw lines_same after.buffers;
        routings = after.routings;
      };
      choices = choices-begun reader lines n below begun.dot last;
      chip = begun.chip_is ∙ sym (chip-given old.chip line block begun.dot begun.says) ∙ ap (λ c. or_else c (chip_in line)) holds.chip ∙ sym (chip-statement lines n);
      block = sym (block-statement lines n block begun.dot at);
      nets = λ net.
          begun.nets_are net ∙ ap (λ b. b || is_net net (net_in (Ok block))) (holds.nets net)
          ∙ sym (any_below-more n _ ∙ (λ i. is_net_before lines n net || (begun.dot i && is_net net (net_in (at i)))));
      names = list-step _ _ [] n (λ k. (said_at lines k).names) (ap (name_lines old.texts.arena) begun.names ∙ sym (append-nil _)) holds.names (ap (λ s. s.names) said);
      buffers = list-step _ _ [] n (buffers_at lines) (ap (link_lines bits) lines_same ∙ links-kept old.bits bits begun.grown.more old.buffers.lines.items begun.grown.table range.buffers ∙ sym (append-nil _)) holds.buffers (buffers_at-nothing lines n none);
      routings = list-step _ _ [] n (routings_at lines) (links-kept old.bits bits begun.grown.more old.routings.items begun.grown.table range.routings ∙ sym (append-nil _)) holds.routings (routings_at-nothing lines n none);
      functions = list-step _ _ [] n (λ k. (said_at lines k).functions) (functions-kept old old.texts bits [] begun.grown.more (sym (append-nil old.texts.arena)) begun.grown.table range ∙ sym (append-nil _)) holds.functions (ap (λ s. s.functions) said);
      extras = list-step _ _ [] n (λ k. (said_at lines k).extras) (sym (append-nil _)) holds.extras (ap (λ s. s.extras) said);
      global_inputs = list-step _ _ [] n (λ k. (said_at lines k).global_inputs) (sym (append-nil _)) holds.global_inputs (ap (λ s. s.global_inputs) said);
      global_pins = list-step _ _ [] n (λ k. (said_at lines k).global_pins) (sym (append-nil _)) holds.global_pins (ap (λ s. s.global_pins) said);
      plls = begun.plls_hold;
      pll_open = begun.pll_open;
      few = omega arith;
      few_lists = omega arith;
    }

-- a statement by which neither the device nor the nets change
plain-begun : (old : DatabaseState) (lines : List (List ℕ)) (n : ℕ) (bits : List (List RowCol)) (below : Below) (buffers : KeptBuffers)
    → is_statement (line_at lines n) ≡ true → Holds old lines n → statement_of old.chip (words_in (line_at lines n)) ≡ Ok (block_named bits below) → AddsBelow old.bits bits below
    → BeginsBuffers old.buffers buffers → device_of (block_named bits below) ≡ None → net_in (Ok (block_named bits below)) ≡ None → IsBelowReady bits old.nets.last below
    → tile_in lines n (block_named bits below) ≡ [] → OpenHolds old.plls lines (n + 1) below
    → Holds (record old { below = below; bits = bits; buffers = buffers }) lines (n + 1)
plain-begun old lines n bits below buffers dot holds says added begin no_device no_net ready no_tile pll_open =
    begun-step old lines n bits old.chip below old.nets buffers old.plls (record {
      dot = dot;
      holds = holds;
      says = says;
      grown = below-grown old.bits bits below added;
      buffers_begin = begin;
      chip_is = sym (ap (or_else old.chip) no_device ∙ or_else-none old.chip);
      nets_are = λ net. sym (ap (λ o. has_net old.nets net || is_net net o) no_net ∙ or-false (has_net old.nets net));
      names = refl;
      indexed = holds.ready.nets;
      ready = ready;
      plls_hold = plls-passed old lines n bits below dot holds says no_tile;
      pll_open = pll_open;
    })

begun-by : (old new : DatabaseState) (lines : List (List ℕ)) (n : ℕ) (bits : List (List RowCol)) (below : Below)
    → is_statement (line_at lines n) ≡ true → Holds old lines n → statement_of old.chip (words_in (line_at lines n)) ≡ Ok (block_named bits below) → AddsBelow old.bits bits below
    → BeginsBuffers old.buffers new.buffers → ChangesAt (record old { bits = bits }) below new → Holds new lines (n + 1)
begun-by old new lines n bits (Device chip) dot holds says added begin changes =
    subst (λ r. Holds r lines (n + 1)) (sym changes) (begun-step old lines n bits (or_else old.chip (Some chip)) (Device chip) old.nets new.buffers old.plls (record {
      dot = dot;
      holds = holds;
      says = says;
      grown = below-grown old.bits bits (Device chip) added;
      buffers_begin = begin;
      chip_is = refl;
      nets_are = λ net. sym (or-false (has_net old.nets net));
      names = refl;
      indexed = holds.ready.nets;
      ready = tt;
      plls_hold = plls-passed old lines n bits (Device chip) dot holds says refl;
      pll_open = tt;
    }))
begun-by old new lines n bits (Names net) dot holds says added begin changes =
    subst (λ r. Holds r lines (n + 1)) (sym changes.1) (begun-step old lines n bits old.chip (Names net) new.nets new.buffers old.plls (record {
      dot = dot;
      holds = holds;
      says = says;
      grown = below-grown old.bits bits (Names net) added;
      buffers_begin = begin;
      chip_is = sym (or_else-none old.chip);
      nets_are = changes.0.nets;
      names = changes.0.names;
      indexed = changes.0.indexed;
      ready = changes.0.last;
      plls_hold = plls-passed old lines n bits (Names net) dot holds says refl;
      pll_open = tt;
    }))
begun-by old new lines n bits (Pll x y) dot holds says added begin changes =
    let at : begun_at lines n ≡ pll x y = begun-statement lines n (pll x y) dot (statement-is old lines n holds ∙ says) in
    let none : (said_at lines n).pll_lines ≡ [] = ap (λ s. s.pll_lines) (nothing-said lines n dot) in
    subst (λ r. Holds r lines (n + 1)) (sym changes.1) (begun-step old lines n bits old.chip (Pll x y) old.nets new.buffers new.plls (record {
      dot = dot;
      holds = holds;
      says = says;
      grown = below-grown old.bits bits (Pll x y) added;
      buffers_begin = begin;
      chip_is = sym (or_else-none old.chip);
      nets_are = λ net. sym (or-false (has_net old.nets net));
      names = refl;
      indexed = holds.ready.nets;
      ready = tt;
      plls_hold = plls-begun old.plls new.plls lines n x y at none holds.plls changes.0;
      pll_open = pll_open-begun old.plls new.plls lines n x y dot at holds.plls changes.0;
    }))
begun-by old new lines n bits Passed dot holds says added begin changes = subst (λ r. Holds r lines (n + 1)) (sym changes) (plain-begun old lines n bits Passed new.buffers dot holds says added begin refl refl tt refl tt)
begun-by old new lines n bits GlobalInputs dot holds says added begin changes = subst (λ r. Holds r lines (n + 1)) (sym changes) (plain-begun old lines n bits GlobalInputs new.buffers dot holds says added begin refl refl tt refl tt)
begun-by old new lines n bits GlobalPins dot holds says added begin changes = subst (λ r. Holds r lines (n + 1)) (sym changes) (plain-begun old lines n bits GlobalPins new.buffers dot holds says added begin refl refl tt refl tt)
begun-by old new lines n bits (Functions kind) dot holds says added begin changes = subst (λ r. Holds r lines (n + 1)) (sym changes) (plain-begun old lines n bits (Functions kind) new.buffers dot holds says added begin refl refl tt refl tt)
begun-by old new lines n bits ExtraBits dot holds says added begin changes = subst (λ r. Holds r lines (n + 1)) (sym changes) (plain-begun old lines n bits ExtraBits new.buffers dot holds says added begin refl refl tt refl tt)
begun-by old new lines n bits (Buffers head) dot holds says added begin changes = subst (λ r. Holds r lines (n + 1)) (sym changes) (plain-begun old lines n bits (Buffers head) new.buffers dot holds says added begin refl refl (head-added old.bits bits head added) refl tt)
begun-by old new lines n bits (Routings head) dot holds says added begin changes = subst (λ r. Holds r lines (n + 1)) (sym changes) (plain-begun old lines n bits (Routings head) new.buffers dot holds says added begin refl refl (head-added old.bits bits head added) refl tt)

-- what holds after a statement
pub statement-step : (old new : DatabaseState) (lines : List (List ℕ)) (n : ℕ) → is_statement (line_at lines n) ≡ true → Holds old lines n → TakesStatement old (line_at lines n) new → Holds new lines (n + 1)
statement-step old new lines n dot holds taken = begun-by old new lines n taken.bits taken.below dot holds taken.says taken.added taken.begun.buffers taken.begun.changes
