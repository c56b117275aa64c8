-- What the reader keeps between the lines of a database, and how a line changes it. Only contracts within this crate use this; `Database`
-- and `Faults` say what a text means.
use Rattle.std.specs.Bool.{MatchBool}
use Rattle.std.specs.Prelude.{◌≡◌, ℕ, ◌<◌, ◌≤◌, true, false, List, [], ◌∷◌, ◌++◌, length, map, is_some, if◌then◌else◌, Option, Some, None, Result, Ok, Err}
use Rattle.std.specs.Result.{result_err, MatchResult}
use Rattle.std.specs.Map.{values_of}
use Rattle.index_search.specs.Places.{or_else}
use Rattle.plane_map.specs.declared.device.DeviceName.{DeviceName}
use Rattle.plane_map.specs.declared.tile.TileKind.{TileKind}
use Rattle.plane_map.specs.declared.tile.RowCol.{RowCol}
use Rattle.chipdb_lines.specs.declared.cause.DbCause.{DbCause}
use Rattle.chipdb_lines.specs.declared.cause.DbCause.TheVariants.{NetTwice, NameTwice, NoDevice}
use Rattle.chipdb_lines.specs.declared.cause.DbLineRefusal.{DbLineRefusal}
use Rattle.chipdb_lines.specs.declared.cause.DbLineRefusal.TheVariants.{Cause, Memory}
use Rattle.chipdb_lines.specs.declared.chip.Chip.{Chip}
use Rattle.chipdb_lines.specs.declared.links.LinkHead.{LinkHead}
use Rattle.chipdb_lines.specs.declared.links.Choice.{Choice}
use Rattle.chipdb_lines.specs.declared.statements.Below.{Below}
use Rattle.chipdb_lines.specs.declared.statements.Below.TheVariants.{Passed, Device, GlobalInputs, GlobalPins, Functions, ExtraBits, Names, Buffers, Routings, Pll}
use Rattle.chipdb_lines.specs.Items.{PllLine, name_of, function_of, extra_of, global_input_of, global_pin_of, choice_of, pll_line_of}
use Rattle.text_lines.specs.Lines.{lines_of}
use Rattle.chipdb_lines.specs.Kept.{bits_named, block_named, AddsBelow, AddsList, Chooses}
use Rattle.chipdb_lines.specs.Statements.{statement_of}
use Rattle.chipdb_lines.specs.Words.{is_statement, own_words, words_in}
use Rattle.chipdb_reader.specs.declared.items.LinkLine.{LinkLine}
use Rattle.chipdb_reader.specs.declared.items.Function.{Function}
use Rattle.chipdb_reader.specs.declared.items.Extra.{Extra}
use Rattle.chipdb_reader.specs.declared.texts.Texts.{Texts}
use Rattle.chipdb_reader.specs.declared.nets.Nets.{Nets}
use Rattle.chipdb_reader.specs.declared.reading.DatabaseState.{DatabaseState}
use Rattle.chipdb_reader.specs.declared.fault.DbFault.{DbFault}
use Rattle.chipdb_reader.specs.declared.fault.DbFault.TheVariants.{At, Memory as OutOfMemory}
use Rattle.chipdb_reader.specs.Kept.{Kept, pll_of}
use Rattle.chipdb_reader.specs.Plls.{AddsPllLine, BeginsPll, all_plls}
use Rattle.chipdb_reader.specs.Texts.{IsIndexed, Interns}
use Rattle.chipdb_reader.specs.Nets.{IsNetIndex, BeginsNet, AddsName, has_net, named_net, net_names}
use Rattle.chipdb_reader.specs.Buffers.{IsChosen, BeginsBuffers, AddsBuffer, buffer_cause}

-- the list of a statement of links is one of these lists, and has as many bits as the statement says
pub record IsHeadOf (bits : List (List RowCol)) (head : LinkHead) : Type 0 where
  pub bits_in : head.bits.place < length bits
  pub counted : head.count ≡ length (bits_named bits head.bits)
  pub few : head.count ≤ 64

-- what must hold before a line below the statement is read
abbrev pub IsBelowReady : List (List RowCol) → Option ℕ → Below → Type 0
IsBelowReady bits last (Names net) = last ≡ Some net
IsBelowReady bits last (Buffers head) = IsHeadOf bits head
IsBelowReady bits last (Routings head) = IsHeadOf bits head
IsBelowReady bits last below = Unit {0}

pub record IsReady (reader : DatabaseState) : Type 0 where
  pub texts : IsIndexed reader.texts
  pub nets : IsNetIndex reader.nets
  pub buffers : IsChosen reader.buffers
  pub below : IsBelowReady reader.bits reader.nets.last reader.below

-- ---- lines below statements

-- the item that a line says is added
pub record Pushes {A : Type 0} (said : Result A DbCause) (old new : List A) : Type 0 where
  pub item : A
  pub says : said ≡ Ok item
  pub added : new ≡ old ++ item ∷ []

-- the link that a statement and one of its choices make
abbrev pub link_with : LinkHead → Choice → LinkLine
link_with head choice = record { x = head.x; y = head.y; dst = head.dst; src = choice.src; bits = head.bits; values = choice.values }

pub record PushesRouting (nets : ℕ) (head : LinkHead) (words : List (List ℕ)) (old new : List LinkLine) : Type 0 where
  pub choice : Choice
  pub chosen : Chooses nets head.count words choice
  pub added : new ≡ old ++ link_with head choice ∷ []

pub record PushesBuffer (nets : ℕ) (head : LinkHead) (words : List (List ℕ)) (old new : DatabaseState) : Type 0 where
  pub choice : Choice
  pub chosen : Chooses nets head.count words choice
  pub added : AddsBuffer old.buffers new.buffers (link_with head choice)
  pub fits : buffer_cause old.buffers (link_with head choice) ≡ None
  pub rest : new ≡ record old { buffers = new.buffers }

pub record PushesName (device : DeviceName) (net : ℕ) (words : List (List ℕ)) (old new : DatabaseState) : Type 0 where
  pub x : ℕ
  pub y : ℕ
  pub text : List ℕ
  pub says : name_of device net words ≡ Ok (record { net = net; x = x; y = y; name = text })
  pub id : ℕ
  pub interned : Interns old.texts new.texts text id
  pub added : AddsName old.nets new.nets net (record { x = x; y = y; name = id })
  pub rest : new ≡ record old { texts = new.texts; nets = new.nets }

pub record PushesFunction (kind : TileKind) (words : List (List ℕ)) (old new : DatabaseState) : Type 0 where
  pub function : Function
  pub name : List ℕ
  pub same : function.kind ≡ kind
  pub listed : AddsList old.bits new.bits function.bits
  pub says : function_of kind words ≡ Ok (record { kind = kind; name = name; bits = bits_named new.bits function.bits })
  pub interned : Interns old.texts new.texts name function.name
  pub added : new.functions.items ≡ old.functions.items ++ function ∷ []
  pub rest : new ≡ record old { texts = new.texts; bits = new.bits; functions = new.functions }

pub record PushesExtra (device : DeviceName) (words : List (List ℕ)) (old new : DatabaseState) : Type 0 where
  pub extra : Extra
  pub name : List ℕ
  pub says : extra_of device words ≡ Ok (record { name = name; at = extra.at })
  pub interned : Interns old.texts new.texts name extra.name
  pub added : new.extras.items ≡ old.extras.items ++ extra ∷ []
  pub rest : new ≡ record old { texts = new.texts; extras = new.extras }

-- a line of a PLL is taken; words that are none change nothing
abbrev pub TakesPllLine : DatabaseState → Option PllLine → DatabaseState → Type 0
TakesPllLine old None new = new ≡ old
TakesPllLine old (Some line) new = AddsPllLine old.plls new.plls line × (new ≡ record old { plls = new.plls })

-- what the words of a line change
abbrev pub TakesItem : DatabaseState → Chip → Below → List (List ℕ) → DatabaseState → Type 0
TakesItem old chip Passed words new = new ≡ old
TakesItem old chip (Device given) words new = new ≡ old
TakesItem old chip GlobalInputs words new = Pushes (global_input_of chip.device words) old.global_inputs.items new.global_inputs.items × (new ≡ record old { global_inputs = new.global_inputs })
TakesItem old chip GlobalPins words new = Pushes (global_pin_of chip.device words) old.global_pins.items new.global_pins.items × (new ≡ record old { global_pins = new.global_pins })
TakesItem old chip (Functions kind) words new = PushesFunction kind words old new
TakesItem old chip ExtraBits words new = PushesExtra chip.device words old new
TakesItem old chip (Names net) words new = PushesName chip.device net words old new
TakesItem old chip (Buffers head) words new = PushesBuffer chip.nets head words old new
TakesItem old chip (Routings head) words new = PushesRouting chip.nets head words old.routings.items new.routings.items × (new ≡ record old { routings = new.routings })
TakesItem old chip (Pll x y) words new = TakesPllLine old (pll_line_of words) new

-- the tile has that name already
pub record IsNamedTwice (device : DeviceName) (net : ℕ) (words : List (List ℕ)) (old : DatabaseState) : Type 0 where
  pub x : ℕ
  pub y : ℕ
  pub text : List ℕ
  pub says : name_of device net words ≡ Ok (record { net = net; x = x; y = y; name = text })
  pub texts : Texts
  pub id : ℕ
  pub interned : Interns old.texts texts text id
  pub named : is_some (named_net old.nets (record { x = x; y = y; name = id })) ≡ true

-- the values choose another net already
pub record IsChosenTwice (nets : ℕ) (head : LinkHead) (words : List (List ℕ)) (old : DatabaseState) (cause : DbCause) : Type 0 where
  pub choice : Choice
  pub chosen : Chooses nets head.count words choice
  pub twice : buffer_cause old.buffers (link_with head choice) ≡ Some cause

-- why a name is refused: for the line itself, or because of an earlier one
pub data NameRefusal (device : DeviceName) (net : ℕ) (words : List (List ℕ)) (old : DatabaseState) (cause : DbCause) : Type 0 where
  name_own : name_of device net words ≡ Err cause → NameRefusal device net words old cause
  name_twice : IsNamedTwice device net words old → cause ≡ NameTwice → NameRefusal device net words old cause

pub data BufferRefusal (nets : ℕ) (head : LinkHead) (words : List (List ℕ)) (old : DatabaseState) (cause : DbCause) : Type 0 where
  buffer_own : choice_of nets head.count words ≡ Err cause → BufferRefusal nets head words old cause
  buffer_twice : IsChosenTwice nets head words old cause → BufferRefusal nets head words old cause

-- why the words of a line are refused
abbrev pub RefusesItem : DatabaseState → Chip → Below → List (List ℕ) → DbCause → Type 0
RefusesItem old chip Passed words cause = ⊥
RefusesItem old chip (Device given) words cause = ⊥
RefusesItem old chip GlobalInputs words cause = result_err (global_input_of chip.device words) ≡ Some cause
RefusesItem old chip GlobalPins words cause = result_err (global_pin_of chip.device words) ≡ Some cause
RefusesItem old chip (Functions kind) words cause = result_err (function_of kind words) ≡ Some cause
RefusesItem old chip ExtraBits words cause = result_err (extra_of chip.device words) ≡ Some cause
RefusesItem old chip (Names net) words cause = NameRefusal chip.device net words old cause
RefusesItem old chip (Buffers head) words cause = BufferRefusal chip.nets head words old cause
RefusesItem old chip (Routings head) words cause = result_err (choice_of chip.nets head.count words) ≡ Some cause
RefusesItem old chip (Pll x y) words cause = ⊥

-- the reported cause is one of these; out of memory may come in place of any answer
abbrev pub ForCause : (DbCause → Type 0) → DbLineRefusal → Type 0
ForCause P (Cause cause) = P cause
ForCause P (Memory e) = Unit {0}

-- what the words of a line change, if it has any and the device is known
abbrev pub TakesWords : DatabaseState → Option Chip → List (List ℕ) → DatabaseState → Type 0
TakesWords old None words new = new ≡ old
TakesWords old (Some chip) [] new = new ≡ old
TakesWords old (Some chip) (word ∷ words) new = TakesItem old chip old.below (word ∷ words) new

abbrev pub RefusesWords : DatabaseState → Option Chip → List (List ℕ) → DbCause → Type 0
RefusesWords old None words cause = ⊥
RefusesWords old (Some chip) [] cause = ⊥
RefusesWords old (Some chip) (word ∷ words) cause = RefusesItem old chip old.below (word ∷ words) cause

-- ---- statements

-- what else changes when the lines below a statement begin
abbrev pub ChangesAt : DatabaseState → Below → DatabaseState → Type 0
ChangesAt old (Device chip) new = new ≡ record old { chip = or_else old.chip (Some chip); below = Device chip; buffers = new.buffers }
ChangesAt old (Names net) new = BeginsNet old.nets new.nets net × (new ≡ record old { below = Names net; nets = new.nets; buffers = new.buffers })
ChangesAt old (Pll x y) new = BeginsPll old.plls new.plls x y × (new ≡ record old { below = Pll x y; buffers = new.buffers; plls = new.plls })
ChangesAt old below new = new ≡ record old { below = below; buffers = new.buffers }

-- the lines below a statement begin
pub record BeginsBlock (old : DatabaseState) (below : Below) (new : DatabaseState) : Type 0 where
  pub buffers : BeginsBuffers old.buffers new.buffers
  pub changes : ChangesAt old below new

-- what is wrong with beginning the lines below a statement
abbrev pub begin_cause : Nets → Below → Option DbCause
begin_cause nets (Names net) = if has_net nets net then Some NetTwice else None
begin_cause nets below = None

-- what a statement changes
pub record TakesStatement (old : DatabaseState) (line : List ℕ) (new : DatabaseState) : Type 0 where
  pub bits : List (List RowCol)
  pub below : Below
  pub says : statement_of old.chip (words_in line) ≡ Ok (block_named bits below)
  pub added : AddsBelow old.bits bits below
  pub fits : begin_cause old.nets below ≡ None
  pub begun : BeginsBlock (record old { bits = bits }) below new

-- the net was begun before
pub record IsBegunTwice (old : DatabaseState) (line : List ℕ) (cause : DbCause) : Type 0 where
  pub bits : List (List RowCol)
  pub below : Below
  pub says : statement_of old.chip (words_in line) ≡ Ok (block_named bits below)
  pub twice : begin_cause old.nets below ≡ Some cause

pub data StatementRefusal (old : DatabaseState) (line : List ℕ) (cause : DbCause) : Type 0 where
  statement_own : result_err (statement_of old.chip (words_in line)) ≡ Some cause → StatementRefusal old line cause
  statement_twice : IsBegunTwice old line cause → StatementRefusal old line cause

-- ---- lines

-- what a line changes
abbrev pub TakesLine : DatabaseState → List ℕ → DatabaseState → Type 0
TakesLine old line new = MatchBool (is_statement line) (TakesStatement old line new) (TakesWords old old.chip (own_words line) new)

-- why a line is refused
abbrev pub RefusesLine : DatabaseState → List ℕ → DbCause → Type 0
RefusesLine old line cause = MatchBool (is_statement line) (StatementRefusal old line cause) (RefusesWords old old.chip (own_words line) cause)

-- what the first line of a text changes
pub record TakesFirst (old : DatabaseState) (text rest : List ℕ) (new : DatabaseState) : Type 0 where
  pub line : List ℕ
  pub lines : lines_of text ≡ line ∷ lines_of rest
  pub shorter : length rest < length text
  pub taken : TakesLine old line new

-- why it is refused
pub record RefusesFirst (old : DatabaseState) (text : List ℕ) (cause : DbCause) : Type 0 where
  pub line : List ℕ
  pub rest : List ℕ
  pub lines : lines_of text ≡ line ∷ lines_of rest
  pub refused : RefusesLine old line cause

-- nothing was read
pub record IsUnread (reader : DatabaseState) : Type 0 where
  pub ready : IsReady reader
  pub chip : reader.chip ≡ None
  pub below : reader.below ≡ Passed
  pub texts : reader.texts.arena ≡ []
  pub bits : reader.bits ≡ []
  pub names : net_names reader.nets ≡ []
  pub nets : (net : ℕ) → has_net reader.nets net ≡ false
  pub buffers : reader.buffers.lines.items ≡ []
  pub routings : reader.routings.items ≡ []
  pub functions : reader.functions.items ≡ []
  pub extras : reader.extras.items ≡ []
  pub global_inputs : reader.global_inputs.items ≡ []
  pub global_pins : reader.global_pins.items ≡ []
  pub plls : all_plls reader.plls ≡ []
  pub no_pll : reader.plls.last ≡ None

-- ---- the end

-- the database has exactly what was read
pub record FitsReader (chip : Chip) (reader : DatabaseState) (kept : Kept) : Type 0 where
  pub chip_is : kept.chip ≡ chip
  pub texts : kept.texts ≡ reader.texts.arena
  pub bits : kept.bits ≡ reader.bits
  pub names : kept.names ≡ net_names reader.nets
  pub buffers : kept.buffers ≡ reader.buffers.lines.items
  pub routings : kept.routings ≡ reader.routings.items
  pub functions : kept.functions ≡ reader.functions.items
  pub extras : kept.extras ≡ reader.extras.items
  pub global_inputs : kept.global_inputs ≡ reader.global_inputs.items
  pub global_pins : kept.global_pins ≡ reader.global_pins.items
  pub plls : kept.plls ≡ map pll_of (values_of (all_plls reader.plls))

abbrev pub IsOutOfMemory : DbFault → Type 0
IsOutOfMemory (OutOfMemory e) = Unit {0}
IsOutOfMemory (At line cause) = ⊥

-- the fault that a refusal of a line makes
abbrev pub located : DbLineRefusal → ℕ → DbFault
located (Cause cause) line = At line cause
located (Memory e) line = OutOfMemory e

-- the fault of a line has one of these causes
abbrev pub FaultOf : ℕ → (DbCause → Type 0) → DbFault → Type 0
FaultOf number P (At line cause) = (line ≡ number) × P cause
FaultOf number P (OutOfMemory e) = Unit {0}

-- what is answered at the end
abbrev pub EndsReading : DatabaseState → Option Chip → ℕ → Result Kept DbFault → Type 0
EndsReading reader None number answer = answer ≡ Err (At number NoDevice)
EndsReading reader (Some chip) number answer = MatchResult answer (FitsReader chip reader) IsOutOfMemory
