-- What a text means names tiles, bits and nets that its device has.
use Rattle.std.proofs.Common.{◌≡◌, ℕ, zero, suc, ◌<◌, ◌≤◌, Bool, true, false, ◌&&◌, cond, List, [], ◌∷◌, length, drop, get_or, map, refl, sym, ap, ◌∙◌, inl, inr, arith, subst}
use Rattle.index_search.proofs.Gathered.{All-gathered_below}
use Rattle.plane_map.specs.Layout.{kind_of, columns_of}
use Rattle.std.specs.Prelude.{◌==◌, bytes_eq, codes, Option, Some, None, Result, Ok, Err, All}
use Rattle.std.specs.Result.{result_unwrap_or}
use Rattle.std.proofs.lemmas.Bool.{cases_lt}
use Rattle.std.proofs.lemmas.List.Elements.{All-nil, All-cons, All-head, All-tail}
use Rattle.text_lines.specs.Lines.{line_at}
use Rattle.text_lines.specs.Words.{number_of, numbers_of, with_number}
use Rattle.index_search.specs.Places.{first_below}
use Rattle.index_search.proofs.Places.{last_below-place}
use Rattle.plane_map.specs.declared.tile.TileKind.{TileKind}
use Rattle.chipdb_lines.specs.declared.cause.DbCause.{DbCause}
use Rattle.chipdb_lines.specs.declared.cause.DbCause.TheVariants.{TileKind as KindCause}
use Rattle.chipdb_lines.specs.declared.chip.Chip.{Chip}
use Rattle.chipdb_lines.specs.declared.keyword.Keyword.{Keyword}
use Rattle.chipdb_lines.specs.declared.keyword.Keyword.TheVariants.{Device, GlobalInputs, GlobalPins, Tile, TileBits, ExtraBits, Net, Buffer, Routing, ExtraCell}
use Rattle.chipdb_lines.specs.Words.{has_none, is_statement, words_in}
use Rattle.chipdb_lines.specs.Statements.{Block, LinkHead, passed, of_device, global_inputs, global_pins, functions, extra_bits, names, buffers, routings, pll, block_by, block_of, block_without, buffers_block, device_block, chip_of_words, is_kind_there, keyword_of, link_of_words, names_block, net_of_numbers, routings_block, statement_of, tile_bits_of_numbers, tile_of_numbers, extra_cell_of, pll_of_numbers}
use Rattle.chipdb_lines.specs.Items.{NameLine, LinkChoice}
use Rattle.chipdb_reader.specs.Blocks.{block_by as block_at_place, block_over, chip_before, chip_in, own_words_at, statement_at, statement_over}
use Rattle.chipdb_reader.specs.Database.{begun_at, is_pll_before, pll_tile_at, tile_in, Said, nothing, item, said_at, said_by, said_for, buffers_at, buffers_in, database_of, is_chosen_before, is_same_choice, link_of, new_choices, routings_at, routings_in}
use Rattle.chipdb_reader.specs.Fit.{IsExtraLine, IsFit, IsFunctionLine, IsGlobalInput, IsGlobalPin, IsLink, IsNameLine}
use Rattle.chipdb_reader.proofs.Holds.{buffers_at-nothing, routings_at-nothing}
use Rattle.chipdb_reader.proofs.FewDigits.{FewIf, number-few}
use Rattle.chipdb_reader.proofs.PllsApart.{plls-apart, plls-all}
use Rattle.chipdb_reader.proofs.FitLines.{OkAll, ok-cond, IsHead, IsNameOf, choice-fit, extra-fit, function-fit, input-fit, link-fit, name-fit, net-fit, pin-fit}

-- ---- blocks

-- what holds of a block after a device
abbrev BlockFits : Chip → Block → Type 0
BlockFits chip (names net) = net < chip.nets
BlockFits chip (buffers head) = IsHead chip head
BlockFits chip (routings head) = IsHead chip head
BlockFits chip (pll x y) = (x < 1000000000) × (y < 1000000000)
BlockFits chip block = Unit {0}

names-fit : (chip : Chip) (net : Result ℕ DbCause) → OkAll (λ n. n < chip.nets) net → OkAll (BlockFits chip) (names_block net)
names-fit chip (Ok net) fits = fits
names-fit chip (Err cause) fits = tt

buffers-fit : (chip : Chip) (head : Result LinkHead DbCause) → OkAll (IsHead chip) head → OkAll (BlockFits chip) (buffers_block head)
buffers-fit chip (Ok head) fits = fits
buffers-fit chip (Err cause) fits = tt

routings-fit : (chip : Chip) (head : Result LinkHead DbCause) → OkAll (IsHead chip) head → OkAll (BlockFits chip) (routings_block head)
routings-fit chip (Ok head) fits = fits
routings-fit chip (Err cause) fits = tt

tile-fit : (chip : Chip) (kind : TileKind) (numbers : Option (List ℕ)) → OkAll (BlockFits chip) (tile_of_numbers chip.device kind numbers)
tile-fit chip kind None = tt
tile-fit chip kind (Some []) = tt
tile-fit chip kind (Some (x ∷ [])) = tt
tile-fit chip kind (Some (x ∷ y ∷ [])) = ok-cond (BlockFits chip) (is_kind_there kind (kind_of chip.device x y)) (Ok passed) (Err KindCause) (λ there. tt) (λ other. tt)
tile-fit chip kind (Some (x ∷ y ∷ more ∷ numbers)) = tt

tile_bits-fit : (chip : Chip) (kind : TileKind) (numbers : Option (List ℕ)) → OkAll (BlockFits chip) (tile_bits_of_numbers kind numbers)
tile_bits-fit chip kind None = tt
tile_bits-fit chip kind (Some []) = tt
tile_bits-fit chip kind (Some (x ∷ [])) = tt
tile_bits-fit chip kind (Some (x ∷ y ∷ [])) = ok-cond (BlockFits chip) ((x == columns_of kind) && (y == 16)) (Ok (functions kind)) (Err KindCause) (λ same. tt) (λ other. tt)
tile_bits-fit chip kind (Some (x ∷ y ∷ more ∷ numbers)) = tt

pll-fit : (chip : Chip) (x y : Option ℕ) → FewIf x → FewIf y → BlockFits chip (pll_of_numbers (with_number x (with_number y (Some []))))
pll-fit chip None None of_x of_y = tt
pll-fit chip None (Some y) of_x of_y = tt
pll-fit chip (Some x) None of_x of_y = tt
pll-fit chip (Some x) (Some y) of_x of_y = (of_x, of_y)

kind-fit : (chip : Chip) (is_pll : Bool) (x y : List ℕ) → BlockFits chip (cond is_pll (pll_of_numbers (numbers_of (x ∷ y ∷ []))) passed)
unfolding numbers_of
kind-fit chip true x y = pll-fit chip (number_of x) (number_of y) (number-few x) (number-few y)
kind-fit chip false x y = tt

extra_cell-fit : (chip : Chip) (words : List (List ℕ)) → BlockFits chip (extra_cell_of words)
unfolding extra_cell_of
extra_cell-fit chip [] = tt
extra_cell-fit chip (x ∷ []) = tt
extra_cell-fit chip (x ∷ y ∷ []) = tt
extra_cell-fit chip (x ∷ y ∷ kind ∷ []) = kind-fit chip (bytes_eq kind (codes "PLL")) x y
extra_cell-fit chip (x ∷ y ∷ kind ∷ more ∷ words) = tt

block-fit : (chip : Chip) (keyword : Keyword) (words : List (List ℕ)) → OkAll (BlockFits chip) (block_of chip keyword words)
unfolding block_of
block-fit chip Device words = tt
block-fit chip GlobalInputs words = ok-cond (BlockFits chip) (has_none words) _ _ (λ none. tt) (λ some. tt)
block-fit chip GlobalPins words = ok-cond (BlockFits chip) (has_none words) _ _ (λ none. tt) (λ some. tt)
block-fit chip (Tile kind) words = tile-fit chip kind (numbers_of words)
block-fit chip (TileBits kind) words = tile_bits-fit chip kind (numbers_of words)
block-fit chip ExtraBits words = ok-cond (BlockFits chip) (has_none words) _ _ (λ none. tt) (λ some. tt)
block-fit chip Net words = names-fit chip (net_of_numbers chip.nets (numbers_of words)) (net-fit chip.nets (numbers_of words))
block-fit chip Buffer words = buffers-fit chip (link_of_words chip words) (link-fit chip words)
block-fit chip Routing words = routings-fit chip (link_of_words chip words) (link-fit chip words)
block-fit chip ExtraCell words = extra_cell-fit chip words

-- a block that isn't after a device has no lines that say anything
abbrev IsEmpty : Block → Type 0
IsEmpty passed = Unit {0}
IsEmpty (of_device chip) = Unit {0}
IsEmpty block = ⊥

-- what holds of a block after a device, or before any
abbrev Fits : Option Chip → Block → Type 0
Fits None block = IsEmpty block
Fits (Some chip) block = BlockFits chip block

device-fit : (chip : Option Chip) → OkAll IsEmpty (device_block chip)
device-fit (Some chip) = tt
device-fit None = tt

without-fit : (keyword : Keyword) (words : List (List ℕ)) → OkAll IsEmpty (block_without keyword words)
without-fit Device words = device-fit (chip_of_words words)
without-fit GlobalInputs words = tt
without-fit GlobalPins words = tt
without-fit (Tile kind) words = tt
without-fit (TileBits kind) words = tt
without-fit ExtraBits words = tt
without-fit Net words = tt
without-fit Buffer words = tt
without-fit Routing words = tt
without-fit ExtraCell words = tt

by-fit : (chip : Option Chip) (keyword : Option Keyword) (words : List (List ℕ)) → OkAll (Fits chip) (block_by chip keyword words)
by-fit None None words = tt
by-fit (Some chip) None words = tt
by-fit None (Some keyword) words = without-fit keyword words
by-fit (Some chip) (Some keyword) words = block-fit chip keyword words

statement-fit : (chip : Option Chip) (words : List (List ℕ)) → OkAll (Fits chip) (statement_of chip words)
unfolding statement_of
statement-fit chip words = by-fit chip (keyword_of (get_or words 0 [])) (drop 1 words)

unwrapped-fit : (P : Block → Type 0) (said : Result Block DbCause) → P passed → OkAll P said → P (result_unwrap_or said passed)
unwrapped-fit P (Ok block) none fits = fits
unwrapped-fit P (Err cause) none fits = none

passed-fit : (chip : Option Chip) → Fits chip passed
passed-fit (Some chip) = tt
passed-fit None = tt

-- ---- the device stays

-- a value that the first places give is given by all
first_below-stays : {A : Type 0} (n : ℕ) (k : ℕ) (given : ℕ → Option A) (x : A) → n ≤ k → first_below n given ≡ Some x → first_below k given ≡ Some x
unfolding first_below
first_below-stays n zero given x le is = let none : n ≡ 0 = omega arith in rw none at is
first_below-stays n (suc k) given x le is =
    elim (cases_lt k n) [
      | inl last ↦ let same : n ≡ suc k = omega arith in subst (λ j. first_below j given ≡ Some x) same is
      | inr before ↦ let rest : first_below k given ≡ Some x = first_below-stays n k given x before is in rw rest refl
    ]

chip-stays : (lines : List (List ℕ)) (n k : ℕ) (chip : Chip) → n ≤ k → chip_before lines n ≡ Some chip → chip_before lines k ≡ Some chip
unfolding chip_before
chip-stays lines n k chip le is = first_below-stays n k (λ j. chip_in (line_at lines j)) chip le is

-- what holds of a block still holds if the device is given later
later-fit : (before after : Option Chip) (block : Block) → ((chip : Chip) → before ≡ Some chip → after ≡ Some chip) → Fits before block → (chip : Chip) → after ≡ Some chip → BlockFits chip block
later-fit None after passed stays fits chip is = tt
later-fit None after (of_device given) stays fits chip is = tt
later-fit None after global_inputs stays fits chip is = tt
later-fit None after global_pins stays fits chip is = tt
later-fit None after (functions kind) stays fits chip is = tt
later-fit None after extra_bits stays fits chip is = tt
later-fit None after (names net) stays fits chip is = absurd fits
later-fit None after (buffers head) stays fits chip is = absurd fits
later-fit None after (routings head) stays fits chip is = absurd fits
later-fit None after (pll x y) stays fits chip is = absurd fits
later-fit (Some given) after block stays fits chip is =
    let both : Some given ≡ Some chip = sym (stays given refl) ∙ is in
    let same : given ≡ chip = cc in
    subst (λ c. BlockFits c block) same fits

-- what holds of a statement that comes before a device is known holds after it
statement-at-fit : (lines : List (List ℕ)) (place n : ℕ) (chip : Chip) → place ≤ n → chip_before lines n ≡ Some chip → BlockFits chip (result_unwrap_or (statement_at lines place) passed)
unfolding statement_at
statement-at-fit lines place n chip le is =
    unwrapped-fit (BlockFits chip) (statement_at lines place) tt
    (by-statement (chip_before lines place) (words_in (line_at lines place)) (λ given at. chip-stays lines place n given le at))
  where
    by-statement : (given : Option Chip) (words : List (List ℕ)) → ((c : Chip) → given ≡ Some c → chip_before lines n ≡ Some c) → OkAll (BlockFits chip) (statement_of given words)
    by-statement given words stays = ok-later given (statement_of given words) (statement-fit given words) stays
      where
        ok-later : (g : Option Chip) (said : Result Block DbCause) → OkAll (Fits g) said → ((c : Chip) → g ≡ Some c → chip_before lines n ≡ Some c) → OkAll (BlockFits chip) said
        ok-later g (Ok block) fits stays = later-fit g (chip_before lines n) block stays fits chip is
        ok-later g (Err cause) fits stays = tt

over-by : (lines : List (List ℕ)) (n : ℕ) (over : Option ℕ) (chip : Chip) → ((place : ℕ) → over ≡ Some place → place < n) → chip_before lines n ≡ Some chip → BlockFits chip (block_at_place lines over)
over-by lines n None chip before is = tt
over-by lines n (Some place) chip before is = let lt = before place refl in statement-at-fit lines place n chip (omega arith) is

over-fit : (lines : List (List ℕ)) (n : ℕ) (chip : Chip) → chip_before lines n ≡ Some chip → BlockFits chip (block_over lines n)
unfolding block_over statement_over
over-fit lines n chip is = over-by lines n (statement_over lines n) chip (λ place at. (last_below-place n place (λ k. is_statement (line_at lines k)) at).0) is

-- ---- items

item-all : {A : Type 0} (P : A → Type 0) (said : Result A DbCause) → OkAll P said → All P (item said)
item-all P (Ok x) fits = All-cons P x [] fits (All-nil P)
item-all P (Err cause) fits = All-nil P

-- what holds of what a line says
record SaidFits (chip : Chip) (said : Said) : Type 0 where
  names_fit : All (IsNameLine chip) said.names
  functions_fit : All IsFunctionLine said.functions
  extras_fit : All (IsExtraLine chip) said.extras
  inputs_fit : All (IsGlobalInput chip) said.global_inputs
  pins_fit : All (IsGlobalPin chip) said.global_pins
  choices_fit : All (λ choice. choice.src < chip.nets) said.choices

nothing-fits : (chip : Chip) → SaidFits chip nothing
nothing-fits chip = record { names_fit = All-nil _; functions_fit = All-nil _; extras_fit = All-nil _; inputs_fit = All-nil _; pins_fit = All-nil _; choices_fit = All-nil _ }

name-of-fit : (chip : Chip) (net : ℕ) (said : Result NameLine DbCause) → net < chip.nets → OkAll (IsNameOf chip net) said → OkAll (IsNameLine chip) said
name-of-fit chip net (Ok line) lt fits = let same : line.net ≡ net = fits.net_is in record { net_in = omega arith; x_in = fits.x_in; y_in = fits.y_in }
name-of-fit chip net (Err cause) lt fits = tt

said-fit : (chip : Chip) (block : Block) (words : List (List ℕ)) → BlockFits chip block → SaidFits chip (said_for chip block words)
said-fit chip passed words fits = nothing-fits chip
said-fit chip (of_device given) words fits = nothing-fits chip
said-fit chip global_inputs words fits = record { names_fit = All-nil _; functions_fit = All-nil _; extras_fit = All-nil _; inputs_fit = item-all (IsGlobalInput chip) _ (input-fit chip words); pins_fit = All-nil _; choices_fit = All-nil _ }
said-fit chip global_pins words fits = record { names_fit = All-nil _; functions_fit = All-nil _; extras_fit = All-nil _; inputs_fit = All-nil _; pins_fit = item-all (IsGlobalPin chip) _ (pin-fit chip words); choices_fit = All-nil _ }
said-fit chip (functions kind) words fits = record { names_fit = All-nil _; functions_fit = item-all IsFunctionLine _ (function-fit kind words); extras_fit = All-nil _; inputs_fit = All-nil _; pins_fit = All-nil _; choices_fit = All-nil _ }
said-fit chip extra_bits words fits = record { names_fit = All-nil _; functions_fit = All-nil _; extras_fit = item-all (IsExtraLine chip) _ (extra-fit chip words); inputs_fit = All-nil _; pins_fit = All-nil _; choices_fit = All-nil _ }
said-fit chip (names net) words fits = record { names_fit = item-all (IsNameLine chip) _ (name-of-fit chip net _ fits (name-fit chip net words)); functions_fit = All-nil _; extras_fit = All-nil _; inputs_fit = All-nil _; pins_fit = All-nil _; choices_fit = All-nil _ }
said-fit chip (buffers head) words fits = record { names_fit = All-nil _; functions_fit = All-nil _; extras_fit = All-nil _; inputs_fit = All-nil _; pins_fit = All-nil _; choices_fit = item-all (λ (c : LinkChoice). c.src < chip.nets) _ (choice-fit chip.nets (length head.bits) words) }
said-fit chip (routings head) words fits = record { names_fit = All-nil _; functions_fit = All-nil _; extras_fit = All-nil _; inputs_fit = All-nil _; pins_fit = All-nil _; choices_fit = item-all (λ (c : LinkChoice). c.src < chip.nets) _ (choice-fit chip.nets (length head.bits) words) }
said-fit chip (pll x y) words fits = record { names_fit = All-nil _; functions_fit = All-nil _; extras_fit = All-nil _; inputs_fit = All-nil _; pins_fit = All-nil _; choices_fit = All-nil _ }

said-by-fit : (chip : Chip) (given : Option Chip) (block : Block) (words : List (List ℕ)) → ((c : Chip) → given ≡ Some c → (c ≡ chip) × BlockFits c block) → SaidFits chip (said_by words given block)
said-by-fit chip given block [] fits = nothing-fits chip
said-by-fit chip None block (word ∷ words) fits = nothing-fits chip
said-by-fit chip (Some c) block (word ∷ words) fits =
    let facts = fits c refl in
    subst (λ d. SaidFits d (said_for c block (word ∷ words))) facts.0 (said-fit c block (word ∷ words) facts.1)

-- the device at a place is the device of the text
given-same : (lines : List (List ℕ)) (k n : ℕ) (chip c : Chip) → k ≤ n → chip_before lines n ≡ Some chip → chip_before lines k ≡ Some c → c ≡ chip
given-same lines k n chip c le is at = let both : Some c ≡ Some chip = sym (chip-stays lines k n c le at) ∙ is in cc

said-at-fit : (lines : List (List ℕ)) (k n : ℕ) (chip : Chip) → k ≤ n → chip_before lines n ≡ Some chip → SaidFits chip (said_at lines k)
unfolding said_at
said-at-fit lines k n chip le is = said-by-fit chip (chip_before lines k) (block_over lines k) (own_words_at lines k) (λ c at. (given-same lines k n chip c le is at, over-fit lines k c at))

-- ---- links

link-fits : (chip : Chip) (head : LinkHead) (choice : LinkChoice) → IsHead chip head → choice.src < chip.nets → IsLink chip (link_of head choice)
link-fits chip head choice fits lt = record { kind = fits.kind; tile = fits.tile; dst_in = fits.dst_in; src_in = lt; bits_in = fits.bits_in; few = fits.few }

map-all : {A B : Type 0} (P : A → Type 0) (Q : B → Type 0) (f : A → B) (xs : List A) → ((x : A) → P x → Q (f x)) → All P xs → All Q (map f xs)
map-all P Q f [] each all = All-nil Q
map-all P Q f (x ∷ xs) each all = All-cons Q (f x) (map f xs) (each x (All-head P x xs all)) (map-all P Q f xs each (All-tail P x xs all))

new-fit : (lines : List (List ℕ)) (n nets : ℕ) (choices : List LinkChoice) → All (λ c. c.src < nets) choices → All (λ c. c.src < nets) (new_choices lines n choices)
new-fit lines n nets [] all = all
new-fit lines n nets (choice ∷ choices) all = by (is_chosen_before lines n (is_same_choice choice))
  where
    by : (b : Bool) → All (λ c. c.src < nets) (cond b [] (choice ∷ choices))
    by true = All-nil _
    by false = all

buffers-in-fit : (chip : Chip) (block : Block) (choices : List LinkChoice) → BlockFits chip block → All (λ c. c.src < chip.nets) choices → All (IsLink chip) (buffers_in block choices)
buffers-in-fit chip (buffers head) choices fits all = map-all (λ (c : LinkChoice). c.src < chip.nets) (IsLink chip) (link_of head) choices (λ c lt. link-fits chip head c fits lt) all
buffers-in-fit chip passed choices fits all = All-nil _
buffers-in-fit chip (of_device given) choices fits all = All-nil _
buffers-in-fit chip global_inputs choices fits all = All-nil _
buffers-in-fit chip global_pins choices fits all = All-nil _
buffers-in-fit chip (functions kind) choices fits all = All-nil _
buffers-in-fit chip extra_bits choices fits all = All-nil _
buffers-in-fit chip (names net) choices fits all = All-nil _
buffers-in-fit chip (routings head) choices fits all = All-nil _
buffers-in-fit chip (pll x y) choices fits all = All-nil _

routings-in-fit : (chip : Chip) (block : Block) (choices : List LinkChoice) → BlockFits chip block → All (λ c. c.src < chip.nets) choices → All (IsLink chip) (routings_in block choices)
routings-in-fit chip (routings head) choices fits all = map-all (λ (c : LinkChoice). c.src < chip.nets) (IsLink chip) (link_of head) choices (λ c lt. link-fits chip head c fits lt) all
routings-in-fit chip passed choices fits all = All-nil _
routings-in-fit chip (of_device given) choices fits all = All-nil _
routings-in-fit chip global_inputs choices fits all = All-nil _
routings-in-fit chip global_pins choices fits all = All-nil _
routings-in-fit chip (functions kind) choices fits all = All-nil _
routings-in-fit chip extra_bits choices fits all = All-nil _
routings-in-fit chip (names net) choices fits all = All-nil _
routings-in-fit chip (buffers head) choices fits all = All-nil _
routings-in-fit chip (pll x y) choices fits all = All-nil _

-- if no device is given yet, a line has no choice
no-choices : (words : List (List ℕ)) (block : Block) → (said_by words None block).choices ≡ []
no-choices [] block = refl
no-choices (word ∷ words) block = refl

links-by : (lines : List (List ℕ)) (k n : ℕ) (chip : Chip) (given : Option Chip) → k ≤ n → chip_before lines n ≡ Some chip → chip_before lines k ≡ given → All (IsLink chip) (buffers_at lines k) × All (IsLink chip) (routings_at lines k)
unfolding said_at buffers_at routings_at
links-by lines k n chip None le is at =
    let none : (said_at lines k).choices ≡ [] = ap (λ g. (said_by (own_words_at lines k) g (block_over lines k)).choices) at ∙ no-choices (own_words_at lines k) (block_over lines k) in
    (rw (buffers_at-nothing lines k none) (All-nil _), rw (routings_at-nothing lines k none) (All-nil _))
links-by lines k n chip (Some c) le is at =
    let same = given-same lines k n chip c le is at in
    let fits : BlockFits chip (block_over lines k) = subst (λ d. BlockFits d (block_over lines k)) same (over-fit lines k c at) in
    let said = (said-at-fit lines k n chip le is).choices_fit in
    (buffers-in-fit chip (block_over lines k) (new_choices lines k (said_at lines k).choices) fits (new-fit lines k chip.nets (said_at lines k).choices said), routings-in-fit chip (block_over lines k) (said_at lines k).choices fits said)

-- a place of few digits
abbrev IsFewPlace : ℕ × ℕ → Type 0
IsFewPlace tile = (tile.0 < 1000000000) × (tile.1 < 1000000000)

-- the place of a PLL that is told
placed-by : (lines : List (List ℕ)) (k : ℕ) (chip : Chip) (block : Block) → BlockFits chip block → All IsFewPlace (tile_in lines k block)
placed-by lines k chip passed fits = All-nil _
placed-by lines k chip (of_device given) fits = All-nil _
placed-by lines k chip global_inputs fits = All-nil _
placed-by lines k chip global_pins fits = All-nil _
placed-by lines k chip (functions kind) fits = All-nil _
placed-by lines k chip extra_bits fits = All-nil _
placed-by lines k chip (names net) fits = All-nil _
placed-by lines k chip (buffers head) fits = All-nil _
placed-by lines k chip (routings head) fits = All-nil _
placed-by lines k chip (pll x y) fits = by (is_pll_before lines k x y)
  where
    by : (before : Bool) → All IsFewPlace (cond before [] ((x, y) ∷ []))
    by true = All-nil IsFewPlace
    by false = All-cons IsFewPlace (x, y) [] fits (All-nil IsFewPlace)

placed-at : (lines : List (List ℕ)) (k n : ℕ) (chip : Chip) → k ≤ n → chip_before lines n ≡ Some chip
    → All IsFewPlace (pll_tile_at lines k)
unfolding pll_tile_at begun_at
placed-at lines k n chip le is = by (is_statement (line_at lines k))
  where
    by : (told : Bool) → All IsFewPlace (tile_in lines k (cond told (result_unwrap_or (statement_at lines k) passed) passed))
    by true = placed-by lines k chip (result_unwrap_or (statement_at lines k) passed) (statement-at-fit lines k n chip le is)
    by false = All-nil IsFewPlace

-- ---- the whole

pub database-fit : (chip : Chip) (lines : List (List ℕ)) → chip_before lines (length lines) ≡ Some chip → IsFit (database_of chip lines)
unfolding database_of
database-fit chip lines is =
    let n = length lines in
    record {
      names = All-gathered_below (IsNameLine chip) n _ (λ k lt. (said-at-fit lines k n chip (omega arith) is).names_fit);
      buffers = All-gathered_below (IsLink chip) n _ (λ k lt. (links-by lines k n chip (chip_before lines k) (omega arith) is refl).0);
      routings = All-gathered_below (IsLink chip) n _ (λ k lt. (links-by lines k n chip (chip_before lines k) (omega arith) is refl).1);
      functions = All-gathered_below IsFunctionLine n _ (λ k lt. (said-at-fit lines k n chip (omega arith) is).functions_fit);
      extras = All-gathered_below (IsExtraLine chip) n _ (λ k lt. (said-at-fit lines k n chip (omega arith) is).extras_fit);
      global_inputs = All-gathered_below (IsGlobalInput chip) n _ (λ k lt. (said-at-fit lines k n chip (omega arith) is).inputs_fit);
      global_pins = All-gathered_below (IsGlobalPin chip) n _ (λ k lt. (said-at-fit lines k n chip (omega arith) is).pins_fit);
      plls = plls-all lines n (λ k lt. placed-at lines k n chip (omega arith) is);
      plls_apart = plls-apart lines n;
    }
