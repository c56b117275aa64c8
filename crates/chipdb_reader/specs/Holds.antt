-- What the reader keeps is what the lines so far give. Only contracts within this crate use this.
use Rattle.std.specs.Prelude.{◌≡◌, ℕ, ◌^◌, ◌<◌, ◌≤◌, Bool, List, ◌++◌, length, drop, map, Some, None, All}
use Rattle.std.specs.List.{list_any}
use Rattle.index_search.specs.Places.{gathered_below}
use Rattle.bit_plane.specs.BitList.{word_bits}
use Rattle.chipdb_lines.specs.declared.statements.Below.{Below}
use Rattle.chipdb_lines.specs.declared.statements.Below.TheVariants.{Buffers}
use Rattle.chipdb_lines.specs.declared.links.LinkHead.{LinkHead as KeptHead}
use Rattle.chipdb_lines.specs.Items.{LinkChoice}
use Rattle.chipdb_lines.specs.Kept.{block_named}
use Rattle.chipdb_reader.specs.declared.items.LinkLine.{LinkLine}
use Rattle.chipdb_reader.specs.declared.reading.DatabaseState.{DatabaseState}
use Rattle.chipdb_reader.specs.Blocks.{chip_before, block_over}
use Rattle.chipdb_reader.specs.Buffers.{chosen_src}
use Rattle.chipdb_reader.specs.Database.{said_at, is_chosen_before, buffers_at, routings_at}
use Rattle.chipdb_reader.specs.Faults.{cause_at, is_net_before}
use Rattle.chipdb_reader.specs.Kept.{name_lines, link_lines, function_lines, extra_lines}
use Rattle.chipdb_reader.specs.Nets.{net_names, has_net}
use Rattle.chipdb_reader.specs.Plls.{OpenHolds, PllsHold}
use Rattle.chipdb_reader.specs.Reading.{IsReady}
use Rattle.chipdb_reader.specs.Sound.{IsLinkIn}

-- ids and lists of bits are those of what is kept
pub record InRange (reader : DatabaseState) : Type 0 where
  pub names : All (λ p. p.0.name < length reader.texts.arena) (net_names reader.nets)
  pub functions : All (λ f. f.name < length reader.texts.arena) reader.functions.items
  pub function_bits : All (λ f. f.bits.place < length reader.bits) reader.functions.items
  pub extras : All (λ e. e.name < length reader.texts.arena) reader.extras.items
  pub buffers : All (IsLinkIn reader.bits) reader.buffers.lines.items
  pub routings : All (IsLinkIn reader.bits) reader.routings.items

-- the lines of the last statement
abbrev pub last_lines : DatabaseState → List LinkLine
last_lines reader = drop reader.buffers.start reader.buffers.lines.items

abbrev pub kept_choice : ℕ → LinkLine → LinkChoice
kept_choice count line = record { values = word_bits count line.values; src = line.src }

-- a line of the last statement
pub record IsLastLine (reader : DatabaseState) (head : KeptHead) (line : LinkLine) : Type 0 where
  pub bits : line.bits ≡ head.bits
  pub small : line.values < 2 ^ head.count
  pub chosen : chosen_src reader.buffers line.values ≡ Some line.src

-- the kept lines of the last statement are its choices so far
pub record LastHolds (reader : DatabaseState) (lines : List (List ℕ)) (n : ℕ) (head : KeptHead) : Type 0 where
  pub own : All (IsLastLine reader head) (last_lines reader)
  pub seen : (test : LinkChoice → Bool) → is_chosen_before lines n test ≡ list_any test (map (kept_choice head.count) (last_lines reader))

abbrev pub ChoicesHold : DatabaseState → List (List ℕ) → ℕ → Below → Type 0
ChoicesHold reader lines n (Buffers head) = LastHolds reader lines n head
ChoicesHold reader lines n below = Unit {0}

-- what the first n lines give is kept
pub record Holds (reader : DatabaseState) (lines : List (List ℕ)) (n : ℕ) : Type 0 where
  pub ready : IsReady reader
  pub in_range : InRange reader
  pub choices : ChoicesHold reader lines n reader.below
  pub chip : reader.chip ≡ chip_before lines n
  pub block : block_named reader.bits reader.below ≡ block_over lines n
  pub nets : (net : ℕ) → has_net reader.nets net ≡ is_net_before lines n net
  pub names : name_lines reader.texts.arena (net_names reader.nets) ≡ gathered_below n (λ k. (said_at lines k).names)
  pub buffers : link_lines reader.bits reader.buffers.lines.items ≡ gathered_below n (buffers_at lines)
  pub routings : link_lines reader.bits reader.routings.items ≡ gathered_below n (routings_at lines)
  pub functions : function_lines reader.texts.arena reader.bits reader.functions.items ≡ gathered_below n (λ k. (said_at lines k).functions)
  pub extras : extra_lines reader.texts.arena reader.extras.items ≡ gathered_below n (λ k. (said_at lines k).extras)
  pub global_inputs : reader.global_inputs.items ≡ gathered_below n (λ k. (said_at lines k).global_inputs)
  pub global_pins : reader.global_pins.items ≡ gathered_below n (λ k. (said_at lines k).global_pins)
  pub plls : PllsHold reader.plls lines n
  pub pll_open : OpenHolds reader.plls lines n reader.below
  pub few : length reader.texts.arena ≤ n
  pub few_lists : length reader.bits ≤ n

-- these lines were read, and none of them is faulty, whatever lines follow
pub record HasRead (lines : List (List ℕ)) (reader : DatabaseState) : Type 0 where
  pub holds : (more : List (List ℕ)) → Holds reader (lines ++ more) (length lines)
  pub sound : (more : List (List ℕ)) (k : ℕ) → k < length lines → cause_at (lines ++ more) k ≡ None
