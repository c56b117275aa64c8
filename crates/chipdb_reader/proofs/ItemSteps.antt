-- Lines below statements: what is kept after each, and that none is faulty that is taken.
use Rattle.std.proofs.Common.{◌≡◌, ℕ, ◌+◌, ◌<◌, ◌≤◌, false, List, [], ◌∷◌, ◌++◌, length, length-append, append-nil, refl, sym, ap, ◌∙◌, arith, subst}
use Rattle.std.specs.Prelude.{Some, All, nat_le}
use Rattle.std.specs.declared.vec.Vec.{Vec}
use Rattle.std.specs.declared.alloc.Global.{Global}
use Rattle.std.proofs.lemmas.Bool.{lt-leb}
use Rattle.std.proofs.lemmas.List.{map-append}
use Rattle.std.proofs.lemmas.List.Elements.{All-push, All-weaker}
use Rattle.shared_lemmas.proofs.Lists.{append-nothing}
use Rattle.text_lines.specs.Lines.{line_at}
use Rattle.plane_map.specs.declared.tile.TileKind.{TileKind}
use Rattle.plane_map.specs.declared.tile.RowCol.{RowCol}
use Rattle.chipdb_lines.specs.declared.chip.Chip.{Chip}
use Rattle.chipdb_lines.specs.declared.globals.GlobalInput.{GlobalInput}
use Rattle.chipdb_lines.specs.declared.globals.GlobalPin.{GlobalPin}
use Rattle.chipdb_lines.specs.declared.statements.Below.{Below}
use Rattle.chipdb_lines.specs.declared.statements.Below.TheVariants.{GlobalInputs, GlobalPins, Functions, ExtraBits, Pll}
use Rattle.chipdb_lines.specs.Words.{is_statement}
use Rattle.chipdb_lines.specs.Statements.{Block}
use Rattle.chipdb_lines.specs.Items.{FunctionLine, ExtraLine, PllLine, global_input_of, global_pin_of, pll_line_of}
use Rattle.chipdb_lines.specs.Kept.{block_named, bits_named}
use Rattle.chipdb_reader.specs.declared.items.Function.{Function}
use Rattle.chipdb_reader.specs.declared.items.Extra.{Extra}
use Rattle.chipdb_reader.specs.declared.items.NetName.{NetName}
use Rattle.chipdb_reader.specs.declared.items.LinkLine.{LinkLine}
use Rattle.chipdb_reader.specs.declared.plls.Plls.{Plls}
use Rattle.chipdb_reader.specs.declared.texts.Texts.{Texts}
use Rattle.chipdb_reader.specs.declared.reading.DatabaseState.{DatabaseState}
use Rattle.chipdb_reader.specs.Blocks.{chip_before, block_over, own_words_at}
use Rattle.chipdb_reader.specs.Database.{Said, nothing, item, pll_item, said_at, said_for}
use Rattle.chipdb_reader.specs.Faults.{cause_at, item_cause}
use Rattle.chipdb_reader.specs.Kept.{name_lines, link_lines, function_line, function_lines, extra_line, extra_lines}
use Rattle.chipdb_reader.specs.Nets.{net_names}
use Rattle.chipdb_reader.specs.Texts.{Interns}
use Rattle.chipdb_reader.specs.Reading.{Pushes, PushesFunction, PushesExtra}
use Rattle.chipdb_reader.specs.Plls.{AddsPllLine, IsOpen, OpenHolds}
use Rattle.chipdb_reader.specs.Sound.{IsLinkIn}
use Rattle.chipdb_reader.proofs.Grown.{names-grown, extras-grown, functions-grown, links-grown, list-added, Lengthens-list, IsLinkIn-grown}
use Rattle.chipdb_reader.proofs.TextSteps.{text-found}
use Rattle.chipdb_reader.specs.Holds.{Holds, InRange}
use Rattle.chipdb_reader.proofs.PllSteps.{open-line, plls-line}
use Rattle.chipdb_reader.proofs.Holds.{own-step, buffers_at-nothing, routings_at-nothing, plls-kept, pll_open-kept}

-- what the words of a line say
pub said-is : (lines : List (List ℕ)) (n : ℕ) (word : List ℕ) (words : List (List ℕ)) (chip : Chip) (block : Block)
    → own_words_at lines n ≡ word ∷ words → chip_before lines n ≡ Some chip → block_over lines n ≡ block → said_at lines n ≡ said_for chip block (word ∷ words)
unfolding said_at
said-is lines n word words chip block is given over = rw (is, given, over) refl

-- what is wrong with them
pub cause-is : (lines : List (List ℕ)) (n : ℕ) (word : List ℕ) (words : List (List ℕ)) (chip : Chip) (block : Block)
    → n < length lines → is_statement (line_at lines n) ≡ false → own_words_at lines n ≡ word ∷ words → chip_before lines n ≡ Some chip → block_over lines n ≡ block
    → cause_at lines n ≡ item_cause lines n chip block (word ∷ words)
unfolding cause_at
cause-is lines n word words chip block lt own is given over =
    let inside : nat_le (length lines) n ≡ false = lt-leb (length lines) n lt in
    rw (inside, own, is, given, over) refl

-- A line with words below a statement.
pub record At (old : DatabaseState) (lines : List (List ℕ)) (n : ℕ) (chip : Chip) (below : Below) (word : List ℕ) (words : List (List ℕ)) : Type 0 where
  pub inside : n < length lines
  pub own : is_statement (line_at lines n) ≡ false
  pub holds : Holds old lines n
  pub given : old.chip ≡ Some chip
  pub under : old.below ≡ below
  pub is : own_words_at lines n ≡ word ∷ words

-- the block over it
pub block-at : (old : DatabaseState) (lines : List (List ℕ)) (n : ℕ) (chip : Chip) (below : Below) (word : List ℕ) (words : List (List ℕ)) → At old lines n chip below word words
    → block_over lines n ≡ block_named old.bits below
block-at old lines n chip below word words at = sym at.holds.block ∙ ap (block_named old.bits) at.under

pub said-at : (old : DatabaseState) (lines : List (List ℕ)) (n : ℕ) (chip : Chip) (below : Below) (word : List ℕ) (words : List (List ℕ)) → At old lines n chip below word words
    → said_at lines n ≡ said_for chip (block_named old.bits below) (word ∷ words)
said-at old lines n chip below word words at =
    said-is lines n word words chip (block_named old.bits below) at.is (sym at.holds.chip ∙ at.given) (block-at old lines n chip below word words at)

pub cause-at : (old : DatabaseState) (lines : List (List ℕ)) (n : ℕ) (chip : Chip) (below : Below) (word : List ℕ) (words : List (List ℕ)) → At old lines n chip below word words
    → cause_at lines n ≡ item_cause lines n chip (block_named old.bits below) (word ∷ words)
cause-at old lines n chip below word words at =
    cause-is lines n word words chip (block_named old.bits below) at.inside at.own at.is (sym at.holds.chip ∙ at.given) (block-at old lines n chip below word words at)

pub few-more : (n count : ℕ) → count ≤ n → count ≤ n + 1
few-more n count le = omega arith

-- a `.gbufin` line
pub input-step : (old : DatabaseState) (inputs : Vec GlobalInput Global) (lines : List (List ℕ)) (n : ℕ) (chip : Chip) (word : List ℕ) (words : List (List ℕ)) → At old lines n chip GlobalInputs word words
    → Pushes (global_input_of chip.device (word ∷ words)) old.global_inputs.items inputs.items → Holds (record old { global_inputs = inputs }) lines (n + 1)
input-step old inputs lines n chip word words at pushed =
    let said : Said = record nothing { global_inputs = pushed.item ∷ [] } in
    let says : said_at lines n ≡ said = said-at old lines n chip GlobalInputs word words at ∙ ap (λ r. record nothing { global_inputs = item r }) pushed.says in
    let none : (said_at lines n).choices ≡ [] = ap (λ s. s.choices) says in
    let under = at.under in
    own-step old (record old { global_inputs = inputs }) lines n said at.own says at.holds
    (record { texts = at.holds.ready.texts; nets = at.holds.ready.nets; buffers = at.holds.ready.buffers; below = at.holds.ready.below })
    (record { names = at.holds.in_range.names; functions = at.holds.in_range.functions; function_bits = at.holds.in_range.function_bits; extras = at.holds.in_range.extras; buffers = at.holds.in_range.buffers; routings = at.holds.in_range.routings })
    (rw under tt) refl refl (λ net. refl) (sym (append-nil _)) (append-nothing _ _ (buffers_at-nothing lines n none)) (append-nothing _ _ (routings_at-nothing lines n none)) (sym (append-nil _)) (sym (append-nil _)) pushed.added (sym (append-nil _))
    (plls-kept old lines n said at.own says refl at.holds) (pll_open-kept old lines n said at.own says refl at.holds)
    (few-more n _ at.holds.few) (few-more n _ at.holds.few_lists)

-- a `.gbufpin` line
pub pin-step : (old : DatabaseState) (pins : Vec GlobalPin Global) (lines : List (List ℕ)) (n : ℕ) (chip : Chip) (word : List ℕ) (words : List (List ℕ)) → At old lines n chip GlobalPins word words
    → Pushes (global_pin_of chip.device (word ∷ words)) old.global_pins.items pins.items → Holds (record old { global_pins = pins }) lines (n + 1)
pin-step old pins lines n chip word words at pushed =
    let said : Said = record nothing { global_pins = pushed.item ∷ [] } in
    let says : said_at lines n ≡ said = said-at old lines n chip GlobalPins word words at ∙ ap (λ r. record nothing { global_pins = item r }) pushed.says in
    let none : (said_at lines n).choices ≡ [] = ap (λ s. s.choices) says in
    let under = at.under in
    own-step old (record old { global_pins = pins }) lines n said at.own says at.holds
    (record { texts = at.holds.ready.texts; nets = at.holds.ready.nets; buffers = at.holds.ready.buffers; below = at.holds.ready.below })
    (record { names = at.holds.in_range.names; functions = at.holds.in_range.functions; function_bits = at.holds.in_range.function_bits; extras = at.holds.in_range.extras; buffers = at.holds.in_range.buffers; routings = at.holds.in_range.routings })
    (rw under tt) refl refl (λ net. refl) (sym (append-nil _)) (append-nothing _ _ (buffers_at-nothing lines n none)) (append-nothing _ _ (routings_at-nothing lines n none)) (sym (append-nil _)) (sym (append-nil _)) (sym (append-nil _)) pushed.added
    (plls-kept old lines n said at.own says refl at.holds) (pll_open-kept old lines n said at.own says refl at.holds)
    (few-more n _ at.holds.few) (few-more n _ at.holds.few_lists)

-- a line of a PLL
pub pll-step : (old : DatabaseState) (plls : Plls) (lines : List (List ℕ)) (n : ℕ) (chip : Chip) (x y : ℕ) (word : List ℕ) (words : List (List ℕ)) (line : PllLine) → At old lines n chip (Pll x y) word words
    → pll_line_of (word ∷ words) ≡ Some line → AddsPllLine old.plls plls line → Holds (record old { plls = plls }) lines (n + 1)
pll-step old plls lines n chip x y word words line at is added =
    let said : Said = record nothing { pll_lines = line ∷ [] } in
    let says : said_at lines n ≡ said = said-at old lines n chip (Pll x y) word words at ∙ ap (λ l. record nothing { pll_lines = pll_item l }) is in
    let none : (said_at lines n).choices ≡ [] = ap (λ s. s.choices) says in
    let one : (said_at lines n).pll_lines ≡ line ∷ [] = ap (λ s. s.pll_lines) says in
    let over = block-at old lines n chip (Pll x y) word words at in
    let open_before : IsOpen old.plls lines n x y = subst (OpenHolds old.plls lines n) at.under at.holds.pll_open in
    let open_after : OpenHolds plls lines (n + 1) old.below = subst (OpenHolds plls lines (n + 1)) (sym at.under) (open-line old.plls plls lines n x y line at.own one open_before added) in
    let under = at.under in
    own-step old (record old { plls = plls }) lines n said at.own says at.holds
    (record { texts = at.holds.ready.texts; nets = at.holds.ready.nets; buffers = at.holds.ready.buffers; below = at.holds.ready.below })
    (record { names = at.holds.in_range.names; functions = at.holds.in_range.functions; function_bits = at.holds.in_range.function_bits; extras = at.holds.in_range.extras; buffers = at.holds.in_range.buffers; routings = at.holds.in_range.routings })
    (rw under tt) refl refl (λ net. refl) (sym (append-nil _)) (append-nothing _ _ (buffers_at-nothing lines n none)) (append-nothing _ _ (routings_at-nothing lines n none)) (sym (append-nil _)) (sym (append-nil _)) (sym (append-nil _)) (sym (append-nil _))
    (plls-line old.plls plls lines n x y line at.own over one at.holds.plls open_before added) open_after
    (few-more n _ at.holds.few) (few-more n _ at.holds.few_lists)

-- ---- names and bits that grow

-- how many names there are if one has a place
pub record Counts (old new id : ℕ) : Type 0 where
  pub more : old ≤ new
  pub few : new ≤ old + 1
  pub inside : id < new

pub interned-counts : (old new : Texts) (text : List ℕ) (id : ℕ) → Interns old new text id → Counts (length old.arena) (length new.arena) id
interned-counts old new text id interned =
    let count : length new.arena ≡ length old.arena + length interned.more = ap length interned.grown ∙ length-append old.arena interned.more in
    let few : length interned.more ≤ 1 = interned.few in
    record { more = omega arith; few = omega arith; inside = (text-found new.arena text id interned.here).0 }

-- ids and lists of bits stay in range
pub in_range-grown : (old : DatabaseState) (texts : Texts) (bits : List (List RowCol)) (more_texts : List (List ℕ)) (more_bits : List (List RowCol))
    → texts.arena ≡ old.texts.arena ++ more_texts → bits ≡ old.bits ++ more_bits → InRange old → InRange (record old { texts = texts; bits = bits })
in_range-grown old texts bits more_texts more_bits texts_grown bits_grown range =
    let count : length texts.arena ≡ length old.texts.arena + length more_texts = ap length texts_grown ∙ length-append old.texts.arena more_texts in
    let lists : length bits ≡ length old.bits + length more_bits = ap length bits_grown ∙ length-append old.bits more_bits in
    let linked : (line : LinkLine) → IsLinkIn old.bits line → IsLinkIn bits line =
    λ line is. let longer = IsLinkIn-grown old.bits more_bits line is in rw bits_grown longer in
    record {
      names = All-weaker (λ (p : NetName × ℕ). p.0.name < length old.texts.arena) (λ (p : NetName × ℕ). p.0.name < length texts.arena) (λ p lt. omega arith) (net_names old.nets) range.names;
      functions = All-weaker (λ (f : Function). f.name < length old.texts.arena) (λ (f : Function). f.name < length texts.arena) (λ f lt. omega arith) old.functions.items range.functions;
      function_bits = All-weaker (λ (f : Function). f.bits.place < length old.bits) (λ (f : Function). f.bits.place < length bits) (λ f lt. omega arith) old.functions.items range.function_bits;
      extras = All-weaker (λ (e : Extra). e.name < length old.texts.arena) (λ (e : Extra). e.name < length texts.arena) (λ e lt. omega arith) old.extras.items range.extras;
      buffers = All-weaker (IsLinkIn old.bits) (IsLinkIn bits) linked old.buffers.lines.items range.buffers;
      routings = All-weaker (IsLinkIn old.bits) (IsLinkIn bits) linked old.routings.items range.routings;
    }

-- lists that say the same as each other
pub names-kept : (old : DatabaseState) (texts : Texts) (more : List (List ℕ)) → texts.arena ≡ old.texts.arena ++ more → InRange old → name_lines texts.arena (net_names old.nets) ≡ name_lines old.texts.arena (net_names old.nets)
names-kept old texts more grown range = ap (λ t. name_lines t (net_names old.nets)) grown ∙ names-grown old.texts.arena more (net_names old.nets) range.names

pub extras-kept : (old : DatabaseState) (texts : Texts) (more : List (List ℕ)) → texts.arena ≡ old.texts.arena ++ more → InRange old → extra_lines texts.arena old.extras.items ≡ extra_lines old.texts.arena old.extras.items
extras-kept old texts more grown range = ap (λ t. extra_lines t old.extras.items) grown ∙ extras-grown old.texts.arena more old.extras.items range.extras

pub functions-kept : (old : DatabaseState) (texts : Texts) (bits : List (List RowCol)) (more_texts : List (List ℕ)) (more_bits : List (List RowCol)) → texts.arena ≡ old.texts.arena ++ more_texts → bits ≡ old.bits ++ more_bits → InRange old
    → function_lines texts.arena bits old.functions.items ≡ function_lines old.texts.arena old.bits old.functions.items
functions-kept old texts bits more_texts more_bits texts_grown bits_grown range =
    (λ i. function_lines (texts_grown i) (bits_grown i) old.functions.items) ∙ functions-grown old.texts.arena more_texts old.bits more_bits old.functions.items range.functions range.function_bits

pub links-kept : (bits new_bits more : List (List RowCol)) (lines : List LinkLine) → new_bits ≡ bits ++ more → All (IsLinkIn bits) lines → link_lines new_bits lines ≡ link_lines bits lines
links-kept bits new_bits more lines grown all = ap (λ b. link_lines b lines) grown ∙ links-grown bits more lines all

-- a line of functions
pub function-step : (old new : DatabaseState) (lines : List (List ℕ)) (n : ℕ) (chip : Chip) (kind : TileKind) (word : List ℕ) (words : List (List ℕ)) → At old lines n chip (Functions kind) word words
    → PushesFunction kind (word ∷ words) old new → Holds new lines (n + 1)
function-step old new lines n chip kind word words at pushed =
    let function = pushed.function in
    let grown = Lengthens-list old.bits new.bits function.bits pushed.listed in
    let line : FunctionLine = record { kind = kind; name = pushed.name; bits = bits_named new.bits function.bits } in
    let said : Said = record nothing { functions = line ∷ [] } in
    let says : said_at lines n ≡ said = said-at old lines n chip (Functions kind) word words at ∙ ap (λ r. record nothing { functions = item r }) pushed.says in
    let none : (said_at lines n).choices ≡ [] = ap (λ s. s.choices) says in
    let counts = interned-counts old.texts new.texts pushed.name function.name pushed.interned in
    let under = at.under in
    let range = at.holds.in_range in
    let after = in_range-grown old new.texts new.bits pushed.interned.more grown.more pushed.interned.grown grown.table range in
    let found = (text-found new.texts.arena pushed.name function.name pushed.interned.here).1 in
    let read : function_line new.texts.arena new.bits function ≡ line = λ i. record { kind = pushed.same i; name = found i; bits = bits_named new.bits function.bits } in
    let listed : function_lines new.texts.arena new.bits new.functions.items ≡ function_lines old.texts.arena old.bits old.functions.items ++ line ∷ [] =
    ap (function_lines new.texts.arena new.bits) pushed.added
    ∙ map-append (function_line new.texts.arena new.bits) old.functions.items (function ∷ [])
    ∙ ap (λ fs. fs ++ function_line new.texts.arena new.bits function ∷ []) (functions-kept old new.texts new.bits pushed.interned.more grown.more pushed.interned.grown grown.table range)
    ∙ ap (λ f. function_lines old.texts.arena old.bits old.functions.items ++ f ∷ []) read in
    let ids : All (λ f. f.name < length new.texts.arena) new.functions.items =
    rw pushed.added (All-push (λ (f : Function). f.name < length new.texts.arena) old.functions.items function after.functions counts.inside) in
    let lists : All (λ f. f.bits.place < length new.bits) new.functions.items =
    rw pushed.added (All-push (λ (f : Function). f.bits.place < length new.bits) old.functions.items function after.function_bits (list-added old.bits new.bits function.bits pushed.listed)) in
    let count : length new.texts.arena ≤ length old.texts.arena + 1 = counts.few in
    let before : length old.texts.arena ≤ n = at.holds.few in
    let lists_count : length new.bits ≤ length old.bits + 1 = grown.few in
    let lists_before : length old.bits ≤ n = at.holds.few_lists in
    subst (λ r. Holds r lines (n + 1)) (sym pushed.rest)
    (own-step old (record old { texts = new.texts; bits = new.bits; functions = new.functions }) lines n said at.own says at.holds
    (record { texts = pushed.interned.indexed; nets = at.holds.ready.nets; buffers = at.holds.ready.buffers; below = rw under tt })
    (record { names = after.names; functions = ids; function_bits = lists; extras = after.extras; buffers = after.buffers; routings = after.routings })
    (rw under tt) refl (rw under refl) (λ net. refl)
    (names-kept old new.texts pushed.interned.more pushed.interned.grown range ∙ sym (append-nil _))
    (links-kept old.bits new.bits grown.more old.buffers.lines.items grown.table range.buffers ∙ append-nothing _ _ (buffers_at-nothing lines n none))
    (links-kept old.bits new.bits grown.more old.routings.items grown.table range.routings ∙ append-nothing _ _ (routings_at-nothing lines n none))
    listed
    (extras-kept old new.texts pushed.interned.more pushed.interned.grown range ∙ sym (append-nil _))
    (sym (append-nil _)) (sym (append-nil _))
    (plls-kept old lines n said at.own says refl at.holds) (pll_open-kept old lines n said at.own says refl at.holds)
    (omega arith) (omega arith))

-- a line of extra bits
pub extra-step : (old new : DatabaseState) (lines : List (List ℕ)) (n : ℕ) (chip : Chip) (word : List ℕ) (words : List (List ℕ)) → At old lines n chip ExtraBits word words
    → PushesExtra chip.device (word ∷ words) old new → Holds new lines (n + 1)
extra-step old new lines n chip word words at pushed =
    let extra = pushed.extra in
    let line : ExtraLine = record { name = pushed.name; at = extra.at } in
    let said : Said = record nothing { extras = line ∷ [] } in
    let says : said_at lines n ≡ said = said-at old lines n chip ExtraBits word words at ∙ ap (λ r. record nothing { extras = item r }) pushed.says in
    let none : (said_at lines n).choices ≡ [] = ap (λ s. s.choices) says in
    let counts = interned-counts old.texts new.texts pushed.name extra.name pushed.interned in
    let under = at.under in
    let range = at.holds.in_range in
    let after = in_range-grown old new.texts old.bits pushed.interned.more [] pushed.interned.grown (sym (append-nil old.bits)) range in
    let found = (text-found new.texts.arena pushed.name extra.name pushed.interned.here).1 in
    let read : extra_line new.texts.arena extra ≡ line = λ i. record { name = found i; at = extra.at } in
    let listed : extra_lines new.texts.arena new.extras.items ≡ extra_lines old.texts.arena old.extras.items ++ line ∷ [] =
    ap (extra_lines new.texts.arena) pushed.added
    ∙ map-append (extra_line new.texts.arena) old.extras.items (extra ∷ [])
    ∙ ap (λ es. es ++ extra_line new.texts.arena extra ∷ []) (extras-kept old new.texts pushed.interned.more pushed.interned.grown range)
    ∙ ap (λ e. extra_lines old.texts.arena old.extras.items ++ e ∷ []) read in
    let ids : All (λ e. e.name < length new.texts.arena) new.extras.items =
    rw pushed.added (All-push (λ (e : Extra). e.name < length new.texts.arena) old.extras.items extra after.extras counts.inside) in
    let count : length new.texts.arena ≤ length old.texts.arena + 1 = counts.few in
    let before : length old.texts.arena ≤ n = at.holds.few in
    subst (λ r. Holds r lines (n + 1)) (sym pushed.rest)
    (own-step old (record old { texts = new.texts; extras = new.extras }) lines n said at.own says at.holds
    (record { texts = pushed.interned.indexed; nets = at.holds.ready.nets; buffers = at.holds.ready.buffers; below = rw under tt })
    (record { names = after.names; functions = after.functions; function_bits = after.function_bits; extras = ids; buffers = after.buffers; routings = after.routings })
    (rw under tt) refl refl (λ net. refl)
    (names-kept old new.texts pushed.interned.more pushed.interned.grown range ∙ sym (append-nil _))
    (append-nothing _ _ (buffers_at-nothing lines n none)) (append-nothing _ _ (routings_at-nothing lines n none))
    (functions-kept old new.texts old.bits pushed.interned.more [] pushed.interned.grown (sym (append-nil old.bits)) range ∙ sym (append-nil _))
    listed (sym (append-nil _)) (sym (append-nil _))
    (plls-kept old lines n said at.own says refl at.holds) (pll_open-kept old lines n said at.own says refl at.holds)
    (omega arith) (few-more n _ at.holds.few_lists))
