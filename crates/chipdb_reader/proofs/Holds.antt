-- The reader keeps what the lines so far give, and one line more.
use Rattle.std.proofs.Common.{◌≡◌, ℕ, ◌+◌, ◌<◌, ◌≤◌, Bool, false, ◌&&◌, ◌||◌, List, [], ◌++◌, length, append-nil, refl, sym, ap, ◌∙◌, arith}
use Rattle.std.specs.Prelude.{Option, Some, None, nat_lt}
use Rattle.std.specs.List.{list_any}
use Rattle.std.proofs.lemmas.Bool.{lt-ltb}
use Rattle.std.proofs.Math.Bool.{or-false}
use Rattle.shared_lemmas.proofs.Lists.{append-nothing}
use Rattle.text_lines.specs.Lines.{line_at}
use Rattle.index_search.specs.Places.{gathered_below}
use Rattle.index_search.proofs.Places.{any_below-more, last_below-place, gathered_below-more}
use Rattle.chipdb_lines.specs.declared.statements.Below.{Below}
use Rattle.chipdb_lines.specs.declared.statements.Below.TheVariants.{Passed, Device, GlobalInputs, GlobalPins, Functions, ExtraBits, Names, Buffers, Routings, Pll}
use Rattle.chipdb_lines.specs.Words.{is_statement}
use Rattle.chipdb_lines.specs.Statements.{Block, passed, of_device, global_inputs, global_pins, functions, extra_bits, names, buffers, routings, pll}
use Rattle.chipdb_lines.specs.Items.{LinkChoice}
use Rattle.chipdb_lines.specs.Kept.{block_named}
use Rattle.chipdb_reader.specs.declared.reading.DatabaseState.{DatabaseState}
use Rattle.chipdb_reader.specs.Blocks.{statement_over, block_over}
use Rattle.chipdb_reader.specs.Database.{Said, nothing, said_at, any_since, is_chosen_before, new_choices, buffers_in, buffers_at, routings_in, routings_at}
use Rattle.chipdb_reader.specs.Faults.{is_net_before}
use Rattle.chipdb_reader.specs.Kept.{name_lines, link_lines, function_lines, extra_lines}
use Rattle.chipdb_reader.specs.Nets.{net_names, has_net}
use Rattle.chipdb_reader.specs.Plls.{OpenHolds, PllsHold}
use Rattle.chipdb_reader.specs.Reading.{IsReady}
use Rattle.chipdb_reader.specs.Holds.{InRange, ChoicesHold, Holds}
use Rattle.chipdb_reader.proofs.BlockSteps.{chip-own, over-own, block-own}
use Rattle.chipdb_reader.proofs.PllSteps.{plls-own, pll_open-own}

-- ---- lists, one line further

-- a list that grows by what the line gives
pub list-step : {A : Type 0} (old new more : List A) (n : ℕ) (given : ℕ → List A) → new ≡ old ++ more → old ≡ gathered_below n given → given n ≡ more → new ≡ gathered_below (n + 1) given
list-step old new more n given grown gathered gives =
    grown ∙ ap (λ xs. xs ++ more) gathered ∙ ap (λ xs. gathered_below n given ++ xs) (sym gives) ∙ sym (gathered_below-more n given)

-- ---- choices, one line further

chosen_by : (lines : List (List ℕ)) (n : ℕ) (test : LinkChoice → Bool) (over : Option ℕ) → ((place : ℕ) → over ≡ Some place → place < n)
    → any_since lines over (n + 1) test ≡ (any_since lines over n test || list_any test (said_at lines n).choices)
chosen_by lines n test None before = any_below-more n (λ k. list_any test (said_at lines k).choices)
chosen_by lines n test (Some place) before =
    any_below-more n (λ k. nat_lt place k && list_any test (said_at lines k).choices) ∙ rw (lt-ltb place n (before place refl)) refl

-- a line that is no statement adds its choice
pub chosen-own : (lines : List (List ℕ)) (n : ℕ) (test : LinkChoice → Bool) → is_statement (line_at lines n) ≡ false
    → is_chosen_before lines (n + 1) test ≡ (is_chosen_before lines n test || list_any test (said_at lines n).choices)
unfolding is_chosen_before statement_over
chosen-own lines n test own =
    let before : (place : ℕ) → statement_over lines n ≡ Some place → place < n = λ place is. (last_below-place n place (λ k. is_statement (line_at lines k)) is).0 in
    ap (λ over. any_since lines over (n + 1) test) (over-own lines n own) ∙ chosen_by lines n test (statement_over lines n) before

-- ---- nets, one line further

pub nets-own : (lines : List (List ℕ)) (n net : ℕ) → is_statement (line_at lines n) ≡ false → is_net_before lines (n + 1) net ≡ is_net_before lines n net
unfolding is_net_before
nets-own lines n net own = any_below-more n _ ∙ rw own (or-false _)

-- ---- a line that is no statement

-- What holds after a line that is no statement: the lists have grown by what it says.
pub own-step : (old new : DatabaseState) (lines : List (List ℕ)) (n : ℕ) (said : Said)
    → is_statement (line_at lines n) ≡ false → said_at lines n ≡ said → Holds old lines n
    → IsReady new → InRange new → ChoicesHold new lines (n + 1) new.below
    → new.chip ≡ old.chip → block_named new.bits new.below ≡ block_named old.bits old.below
    → ((net : ℕ) → has_net new.nets net ≡ has_net old.nets net)
    → name_lines new.texts.arena (net_names new.nets) ≡ name_lines old.texts.arena (net_names old.nets) ++ said.names
    → link_lines new.bits new.buffers.lines.items ≡ link_lines old.bits old.buffers.lines.items ++ buffers_at lines n
    → link_lines new.bits new.routings.items ≡ link_lines old.bits old.routings.items ++ routings_at lines n
    → function_lines new.texts.arena new.bits new.functions.items ≡ function_lines old.texts.arena old.bits old.functions.items ++ said.functions
    → extra_lines new.texts.arena new.extras.items ≡ extra_lines old.texts.arena old.extras.items ++ said.extras
    → new.global_inputs.items ≡ old.global_inputs.items ++ said.global_inputs
    → new.global_pins.items ≡ old.global_pins.items ++ said.global_pins
    → PllsHold new.plls lines (n + 1) → OpenHolds new.plls lines (n + 1) new.below
    → length new.texts.arena ≤ n + 1
    → length new.bits ≤ n + 1
    → Holds new lines (n + 1)
own-step old new lines n said own says holds ready in_range choices chip block nets more_names more_buffers more_routings more_functions more_extras more_inputs more_pins plls pll_open few few_lists = record {
  ready = ready;
  in_range = in_range;
  choices = choices;
  chip = chip ∙ holds.chip ∙ sym (chip-own lines n own);
  block = block ∙ holds.block ∙ sym (block-own lines n own);
  nets = λ net. nets net ∙ holds.nets net ∙ sym (nets-own lines n net own);
  names = list-step _ _ said.names n (λ k. (said_at lines k).names) more_names holds.names (ap (λ s. s.names) says);
  buffers = list-step _ _ (buffers_at lines n) n (buffers_at lines) more_buffers holds.buffers refl;
  routings = list-step _ _ (routings_at lines n) n (routings_at lines) more_routings holds.routings refl;
  functions = list-step _ _ said.functions n (λ k. (said_at lines k).functions) more_functions holds.functions (ap (λ s. s.functions) says);
  extras = list-step _ _ said.extras n (λ k. (said_at lines k).extras) more_extras holds.extras (ap (λ s. s.extras) says);
  global_inputs = list-step _ _ said.global_inputs n (λ k. (said_at lines k).global_inputs) more_inputs holds.global_inputs (ap (λ s. s.global_inputs) says);
  global_pins = list-step _ _ said.global_pins n (λ k. (said_at lines k).global_pins) more_pins holds.global_pins (ap (λ s. s.global_pins) says);
  plls = plls;
  pll_open = pll_open;
  few = few;
  few_lists = few_lists;
}

-- no choice makes no link
pub buffers_in-nothing : (block : Block) → buffers_in block [] ≡ []
buffers_in-nothing (buffers head) = refl
buffers_in-nothing passed = refl
buffers_in-nothing (of_device given) = refl
buffers_in-nothing global_inputs = refl
buffers_in-nothing global_pins = refl
buffers_in-nothing (functions kind) = refl
buffers_in-nothing extra_bits = refl
buffers_in-nothing (names net) = refl
buffers_in-nothing (routings head) = refl
buffers_in-nothing (pll x y) = refl

pub routings_in-nothing : (block : Block) → routings_in block [] ≡ []
routings_in-nothing (routings head) = refl
routings_in-nothing passed = refl
routings_in-nothing (of_device given) = refl
routings_in-nothing global_inputs = refl
routings_in-nothing global_pins = refl
routings_in-nothing (functions kind) = refl
routings_in-nothing extra_bits = refl
routings_in-nothing (names net) = refl
routings_in-nothing (buffers head) = refl
routings_in-nothing (pll x y) = refl

-- a line without a choice gives no link
pub buffers_at-nothing : (lines : List (List ℕ)) (n : ℕ) → (said_at lines n).choices ≡ [] → buffers_at lines n ≡ []
unfolding buffers_at
buffers_at-nothing lines n none = ap (λ cs. buffers_in (block_over lines n) (new_choices lines n cs)) none ∙ buffers_in-nothing (block_over lines n)

pub routings_at-nothing : (lines : List (List ℕ)) (n : ℕ) → (said_at lines n).choices ≡ [] → routings_at lines n ≡ []
unfolding routings_at
routings_at-nothing lines n none = ap (routings_in (block_over lines n)) none ∙ routings_in-nothing (block_over lines n)

-- the choices stay if the line has none
pub choices-kept : (reader : DatabaseState) (lines : List (List ℕ)) (n : ℕ) (below : Below) → is_statement (line_at lines n) ≡ false → (said_at lines n).choices ≡ []
    → ChoicesHold reader lines n below → ChoicesHold reader lines (n + 1) below
choices-kept reader lines n (Buffers head) own none holds = record {
  own = holds.own;
  seen = λ test. chosen-own lines n test own ∙ ap (λ cs. is_chosen_before lines n test || list_any test cs) none ∙ or-false (is_chosen_before lines n test) ∙ holds.seen test;
}
choices-kept reader lines n Passed own none holds = tt
choices-kept reader lines n (Device chip) own none holds = tt
choices-kept reader lines n GlobalInputs own none holds = tt
choices-kept reader lines n GlobalPins own none holds = tt
choices-kept reader lines n (Functions kind) own none holds = tt
choices-kept reader lines n ExtraBits own none holds = tt
choices-kept reader lines n (Names net) own none holds = tt
choices-kept reader lines n (Routings head) own none holds = tt
choices-kept reader lines n (Pll x y) own none holds = tt

-- the PLLs stay if the line says nothing for one
pub plls-kept : (reader : DatabaseState) (lines : List (List ℕ)) (n : ℕ) (said : Said) → is_statement (line_at lines n) ≡ false → said_at lines n ≡ said → said.pll_lines ≡ [] → Holds reader lines n → PllsHold reader.plls lines (n + 1)
plls-kept reader lines n said own says none holds = plls-own reader.plls lines n own (ap (λ s. s.pll_lines) says ∙ none) holds.plls

pub pll_open-kept : (reader : DatabaseState) (lines : List (List ℕ)) (n : ℕ) (said : Said) → is_statement (line_at lines n) ≡ false → said_at lines n ≡ said → said.pll_lines ≡ [] → Holds reader lines n → OpenHolds reader.plls lines (n + 1) reader.below
pll_open-kept reader lines n said own says none holds = pll_open-own reader.plls lines n reader.below own (ap (λ s. s.pll_lines) says ∙ none) holds.pll_open

-- a line that says nothing
pub nothing-step : (reader : DatabaseState) (lines : List (List ℕ)) (n : ℕ) → is_statement (line_at lines n) ≡ false → said_at lines n ≡ nothing → Holds reader lines n → Holds reader lines (n + 1)
nothing-step reader lines n own says holds =
    let none : (said_at lines n).choices ≡ [] = ap (λ s. s.choices) says in
    let no_line : (said_at lines n).pll_lines ≡ [] = ap (λ s. s.pll_lines) says in
    let few : length reader.texts.arena ≤ n = holds.few in
    let few_lists : length reader.bits ≤ n = holds.few_lists in
    own-step reader reader lines n nothing own says holds holds.ready holds.in_range (choices-kept reader lines n reader.below own none holds.choices) refl refl (λ net. refl)
    (sym (append-nil _)) (append-nothing _ _ (buffers_at-nothing lines n none)) (append-nothing _ _ (routings_at-nothing lines n none)) (sym (append-nil _)) (sym (append-nil _)) (sym (append-nil _)) (sym (append-nil _))
    (plls-own reader.plls lines n own no_line holds.plls) (pll_open-own reader.plls lines n reader.below own no_line holds.pll_open) (omega arith) (omega arith)
