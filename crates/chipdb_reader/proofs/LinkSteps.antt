-- Lines of `.routing` and `.buffer`: what is kept after each, and which are faulty.
use Rattle.std.proofs.Common.{◌≡◌, ℕ, zero, suc, ◌+◌, ◌*◌, ◌/◌, ◌%◌, ◌^◌, ◌<◌, Bool, true, false, not, ◌||◌, cond, eqb, List, [], ◌∷◌, ◌++◌, length, drop, map, append-nil, refl, sym, ap, ◌∙◌, inl, inr, arith, subst}
use Rattle.std.specs.Prelude.{◌==◌, Option, Some, None, Ok, All, nat_eq}
use Rattle.std.specs.Bool.{beq}
use Rattle.std.specs.Cmp.Lexicographic.{pointwise}
use Rattle.std.specs.List.{list_any}
use Rattle.std.specs.Map.{lookup}
use Rattle.std.specs.declared.vec.Vec.{Vec}
use Rattle.std.specs.declared.alloc.Global.{Global}
use Rattle.std.proofs.lemmas.Bool.{cases_Bool, cases_eq, eqb-true, eqb-false, eq-eqb, ne_eqb, or_left, or_right, or_from}
use Rattle.std.proofs.lemmas.List.{map-append, drop-append-le}
use Rattle.std.proofs.lemmas.List.Elements.{All-head, All-tail, All-push, All-weaker}
use Rattle.std.proofs.Math.Bool.{and-false, or-false}
use Rattle.std.proofs.Math.Nat.{pow-succ'}
use Rattle.shared_lemmas.proofs.Bits.{pointwise-same, same_bits}
use Rattle.shared_lemmas.proofs.Lists.{append-nothing}
use Rattle.plane_map.specs.declared.tile.RowCol.{RowCol}
use Rattle.chipdb_lines.specs.declared.cause.DbCause.TheVariants.{ValuesTwice}
use Rattle.chipdb_lines.specs.declared.chip.Chip.{Chip}
use Rattle.chipdb_lines.specs.declared.links.LinkHead.{LinkHead as KeptHead}
use Rattle.chipdb_lines.specs.declared.links.Choice.{Choice}
use Rattle.chipdb_lines.specs.declared.statements.Below.TheVariants.{Buffers, Routings}
use Rattle.chipdb_lines.specs.Items.{LinkChoice, choice_of}
use Rattle.bit_plane.specs.BitList.{word_bits}
use Rattle.chipdb_lines.specs.Kept.{block_named, bits_named, choice_named, head_named, Chooses}
use Rattle.chipdb_reader.specs.declared.items.LinkLine.{LinkLine}
use Rattle.chipdb_reader.specs.declared.reading.DatabaseState.{DatabaseState}
use Rattle.chipdb_reader.specs.Blocks.{block_over}
use Rattle.chipdb_reader.specs.Buffers.{AddsBuffer, buffer_cause, choice_cause_of, chosen_src, choices_of, with_line}
use Rattle.chipdb_reader.specs.Database.{Said, nothing, item, said_at, link_of, new_choices, buffers_in, buffers_at, routings_in, routings_at, is_chosen_before, has_same_values, is_same_choice, is_other_choice}
use Rattle.chipdb_reader.specs.Faults.{cause_at, cause_if, choice_cause}
use Rattle.chipdb_reader.specs.Kept.{link_line, link_lines}
use Rattle.chipdb_reader.specs.Reading.{IsHeadOf, PushesRouting, PushesBuffer, link_with}
use Rattle.chipdb_reader.specs.Sound.{IsLinkIn}
use Rattle.std.proofs.lemmas.List.Folds.{list_any-append}
use Rattle.index_search.specs.Places.{or_else}
use Rattle.chipdb_reader.proofs.Grown.{length-bits_named, link-in}
use Rattle.chipdb_reader.specs.Holds.{Holds, ChoicesHold, LastHolds, IsLastLine, kept_choice, last_lines}
use Rattle.chipdb_reader.proofs.Holds.{chosen-own, own-step, plls-kept, pll_open-kept}
use Rattle.chipdb_reader.proofs.ItemSteps.{At, block-at, said-at, cause-at, few-more}
use Rattle.chipdb_reader.proofs.Searches.{lookup-push}

-- ---- values by their numbers

-- the first bit says whether a number is odd
odd-same : (a b : ℕ) → (a % 2 == 1) ≡ (b % 2 == 1) → a % 2 ≡ b % 2
odd-same a b same =
    elim (cases_eq (a % 2) 1) [
      | inl one_a ↦
          let one_b : (b % 2 == 1) ≡ true = sym same ∙ eq-eqb (a % 2) 1 one_a in
          one_a ∙ sym (eqb-true (b % 2) 1 one_b)
      | inr not_a ↦
          let not_b : (b % 2 == 1) ≡ false = sym same ∙ ne_eqb (a % 2) 1 not_a in
          let other : b % 2 ≡ 1 → ⊥ = eqb-false (b % 2) 1 not_b in
          omega (arith, not_a, other)
    ]

-- numbers of at most n bits are equal if their bits are
word_bits-same : (count a b : ℕ) → a < 2 ^ count → b < 2 ^ count → word_bits count a ≡ word_bits count b → a ≡ b
unfolding word_bits
word_bits-same zero a b small_a small_b same = omega arith
word_bits-same (suc count) a b small_a small_b same =
    let first : (a % 2 == 1) ≡ (b % 2 == 1) = cc in
    let rest : word_bits count (a / 2) ≡ word_bits count (b / 2) = cc in
    let odd : a % 2 ≡ b % 2 = odd-same a b first in
    let wide_a : a < 2 * 2 ^ count = rw pow-succ' at small_a in
    let wide_b : b < 2 * 2 ^ count = rw pow-succ' at small_b in
    let half : a / 2 ≡ b / 2 = word_bits-same count (a / 2) (b / 2) (omega arith) (omega arith) rest in
    omega arith

-- equal values are equal numbers
pub values-same : (count a b : ℕ) → a < 2 ^ count → b < 2 ^ count → pointwise beq (word_bits count a) (word_bits count b) ≡ eqb a b
values-same count a b small_a small_b =
    elim (cases_eq a b) [
      | inl same ↦ rw (same, pointwise-same (word_bits count b)) (sym (eq-eqb b b refl))
      | inr other ↦
          elim (cases_Bool (pointwise beq (word_bits count a) (word_bits count b))) [
            | inl equal ↦ absurd (other (word_bits-same count a b small_a small_b (same_bits _ _ equal)))
            | inr apart ↦ apart ∙ sym (ne_eqb a b other)
          ]
    ]

-- ---- routings

-- a choice of a statement's bits as a link
link-read : (bits : List (List RowCol)) (head : KeptHead) (choice : Choice) → IsHeadOf bits head → link_of (head_named bits head) (choice_named head.count choice) ≡ link_line bits (link_with head choice)
link-read bits head choice is =
    let count = length-bits_named bits head is in
    λ i. record { x = head.x; y = head.y; dst = head.dst; src = choice.src; bits = bits_named bits head.bits; values = word_bits (sym count i) choice.values }

-- what the words of a line say below a statement of links
choice-read : (nets : ℕ) (bits : List (List RowCol)) (head : KeptHead) (words : List (List ℕ)) (choice : Choice) → IsHeadOf bits head → Chooses nets head.count words choice
    → choice_of nets (length (bits_named bits head.bits)) words ≡ Ok (choice_named head.count choice)
choice-read nets bits head words choice is chosen = ap (λ count. choice_of nets count words) (length-bits_named bits head is) ∙ chosen.says

-- a line of a `.routing`
pub routing-step : (old : DatabaseState) (lines_kept : Vec LinkLine Global) (lines : List (List ℕ)) (n : ℕ) (chip : Chip) (head : KeptHead) (word : List ℕ) (words : List (List ℕ)) → At old lines n chip (Routings head) word words
    → IsHeadOf old.bits head → PushesRouting chip.nets head (word ∷ words) old.routings.items lines_kept.items → Holds (record old { routings = lines_kept }) lines (n + 1)
unfolding buffers_at routings_at
routing-step old lines_kept lines n chip head word words at is pushed =
    let choice = pushed.choice in
    let read = choice-read chip.nets old.bits head (word ∷ words) choice is pushed.chosen in
    let said : Said = record nothing { choices = choice_named head.count choice ∷ [] } in
    let says : said_at lines n ≡ said = said-at old lines n chip (Routings head) word words at ∙ ap (λ r. record nothing { choices = item r }) read in
    let over = block-at old lines n chip (Routings head) word words at in
    let none : buffers_at lines n ≡ [] = ap (λ b. buffers_in b (new_choices lines n (said_at lines n).choices)) over in
    let link : routings_at lines n ≡ link_line old.bits (link_with head choice) ∷ [] =
    (λ i. routings_in (over i) (says i).choices) ∙ ap (λ l. l ∷ []) (link-read old.bits head choice is) in
    let under = at.under in
    let added : link_lines old.bits lines_kept.items ≡ link_lines old.bits old.routings.items ++ routings_at lines n =
    ap (link_lines old.bits) pushed.added ∙ map-append (link_line old.bits) old.routings.items (link_with head choice ∷ []) ∙ ap (λ ls. link_lines old.bits old.routings.items ++ ls) (sym link) in
    let range = at.holds.in_range in
    let lists : All (IsLinkIn old.bits) lines_kept.items =
    rw pushed.added (All-push (IsLinkIn old.bits) old.routings.items (link_with head choice) range.routings (link-in old.bits head choice is pushed.chosen.small)) in
    own-step old (record old { routings = lines_kept }) lines n said at.own says at.holds
    (record { texts = at.holds.ready.texts; nets = at.holds.ready.nets; buffers = at.holds.ready.buffers; below = at.holds.ready.below })
    (record { names = range.names; functions = range.functions; function_bits = range.function_bits; extras = range.extras; buffers = range.buffers; routings = lists })
    (rw under tt) refl refl (λ net. refl) (sym (append-nil _)) (append-nothing _ _ none) added (sym (append-nil _)) (sym (append-nil _)) (sym (append-nil _)) (sym (append-nil _))
    (plls-kept old lines n said at.own says refl at.holds) (pll_open-kept old lines n said at.own says refl at.holds)
    (few-more n _ at.holds.few) (few-more n _ at.holds.few_lists)

-- ---- buffers

-- some line passes if one of the looked-up values does
found-passes : (reader : DatabaseState) (head : KeptHead) (test : LinkChoice → Bool) (values src : ℕ) (ls : List LinkLine)
    → ((l : LinkLine) → IsLastLine reader head l → eqb values l.values ≡ true → l.src ≡ src → test (kept_choice head.count l) ≡ true)
    → All (IsLastLine reader head) ls → lookup (nat_eq values) (choices_of ls) ≡ Some src → list_any test (map (kept_choice head.count) ls) ≡ true
found-passes reader head test values src [] passes all found = absurd cc
found-passes reader head test values src (l ∷ ls) passes all found =
    let P : LinkLine → Type 0 = IsLastLine reader head in
    let rest_all = All-tail P l ls all in
    elim (cases_Bool (eqb values l.values)) [
      | inl here ↦
          let is : Some l.src ≡ Some src = rw here at found in
          or_left (test (kept_choice head.count l)) (list_any test (map (kept_choice head.count) ls)) (passes l (All-head P l ls all) here cc)
      | inr other ↦
          let rest : lookup (nat_eq values) (choices_of ls) ≡ Some src = rw other at found in
          or_right (test (kept_choice head.count l)) (list_any test (map (kept_choice head.count) ls)) (found-passes reader head test values src ls passes rest_all rest)
    ]

-- no line passes if each fails
none-passes : (reader : DatabaseState) (head : KeptHead) (test : LinkChoice → Bool) (ls : List LinkLine)
    → ((l : LinkLine) → IsLastLine reader head l → test (kept_choice head.count l) ≡ false) → All (IsLastLine reader head) ls → list_any test (map (kept_choice head.count) ls) ≡ false
none-passes reader head test [] fails all = refl
none-passes reader head test (l ∷ ls) fails all =
    let P : LinkLine → Type 0 = IsLastLine reader head in
    or_from (test (kept_choice head.count l)) (list_any test (map (kept_choice head.count) ls)) (fails l (All-head P l ls all)) (none-passes reader head test ls fails (All-tail P l ls all))

-- the values of a line and of a choice
same-by_number : (reader : DatabaseState) (head : KeptHead) (choice : Choice) (l : LinkLine) → choice.values < 2 ^ head.count → IsLastLine reader head l
    → has_same_values (choice_named head.count choice) (kept_choice head.count l) ≡ eqb choice.values l.values
same-by_number reader head choice l small is = values-same head.count choice.values l.values small is.small

-- a choice whose values no line has
fails-unchosen : (reader : DatabaseState) (head : KeptHead) (choice : Choice) (l : LinkLine) → choice.values < 2 ^ head.count → chosen_src reader.buffers choice.values ≡ None → IsLastLine reader head l
    → has_same_values (choice_named head.count choice) (kept_choice head.count l) ≡ false
fails-unchosen reader head choice l small none is =
    same-by_number reader head choice l small is ∙ ne_eqb choice.values l.values (λ same.
    let some : chosen_src reader.buffers choice.values ≡ Some l.src = ap (chosen_src reader.buffers) same ∙ is.chosen in
    let both : None ≡ Some l.src = sym none ∙ some in
    cc)

-- a line with the values of a choice has the net that they choose
src-is : (reader : DatabaseState) (head : KeptHead) (values src : ℕ) (l : LinkLine) → chosen_src reader.buffers values ≡ Some src → IsLastLine reader head l → values ≡ l.values → l.src ≡ src
src-is reader head values src l chosen is same =
    let both : Some l.src ≡ Some src = sym is.chosen ∙ ap (chosen_src reader.buffers) (sym same) ∙ chosen in cc

-- whether the index has that net, or another one
abbrev pub is_equal : Option ℕ → ℕ → Bool
is_equal None src = false
is_equal (Some found) src = eqb found src

abbrev pub is_apart : Option ℕ → ℕ → Bool
is_apart None src = false
is_apart (Some found) src = not (eqb found src)

-- what the index says about the values of a choice
pub record Judged (reader : DatabaseState) (lines : List (List ℕ)) (n : ℕ) (head : KeptHead) (choice : Choice) (found : Option ℕ) : Type 0 where
  pub equal : is_chosen_before lines n (is_same_choice (choice_named head.count choice)) ≡ is_equal found choice.src
  pub other : is_chosen_before lines n (is_other_choice (choice_named head.count choice)) ≡ is_apart found choice.src

pub judged : (reader : DatabaseState) (lines : List (List ℕ)) (n : ℕ) (head : KeptHead) (choice : Choice) (found : Option ℕ) → LastHolds reader lines n head → choice.values < 2 ^ head.count
    → chosen_src reader.buffers choice.values ≡ found → lookup (nat_eq choice.values) (choices_of (last_lines reader)) ≡ found → Judged reader lines n head choice found
judged reader lines n head choice None holds small chosen looked = record {
  equal = holds.seen _ ∙ none-passes reader head (is_same_choice (choice_named head.count choice)) (last_lines reader) (λ l is. rw (fails-unchosen reader head choice l small chosen is) refl) holds.own;
  other = holds.seen _ ∙ none-passes reader head (is_other_choice (choice_named head.count choice)) (last_lines reader) (λ l is. rw (fails-unchosen reader head choice l small chosen is) refl) holds.own;
}
judged reader lines n head choice (Some src) holds small chosen looked =
    let lc = choice_named head.count choice in
    elim (cases_eq src choice.src) [
      | inl same_src ↦
          let yes : eqb src choice.src ≡ true = eq-eqb src choice.src same_src in
          record {
            equal = holds.seen _ ∙ found-passes reader head (is_same_choice lc) choice.values src (last_lines reader)
                (λ l is here at.
                let same_values = same-by_number reader head choice l small is ∙ here in
                let same_net : eqb choice.src l.src ≡ true = eq-eqb choice.src l.src (sym same_src ∙ sym at) in
                rw (same_values, same_net) refl)
                holds.own looked ∙ sym yes;
            other = holds.seen _ ∙ none-passes reader head (is_other_choice lc) (last_lines reader)
                (λ l is. elim (cases_eq choice.values l.values) [
                  | inl equal ↦
                      let at : l.src ≡ src = src-is reader head choice.values src l chosen is equal in
                      let same_net : eqb choice.src l.src ≡ true = eq-eqb choice.src l.src (sym same_src ∙ sym at) in
                      rw same_net (and-false _)
                  | inr apart ↦
                      let differ = same-by_number reader head choice l small is ∙ ne_eqb choice.values l.values apart in
                      rw differ refl
                ])
                holds.own ∙ sym (ap not yes);
          }
      | inr other_src ↦
          let no_ : eqb src choice.src ≡ false = ne_eqb src choice.src other_src in
          record {
            equal = holds.seen _ ∙ none-passes reader head (is_same_choice lc) (last_lines reader)
                (λ l is. elim (cases_eq choice.values l.values) [
                  | inl equal ↦
                      let at : l.src ≡ src = src-is reader head choice.values src l chosen is equal in
                      let apart_net : eqb choice.src l.src ≡ false = ne_eqb choice.src l.src (λ e. other_src (sym at ∙ sym e)) in
                      rw apart_net (and-false _)
                  | inr apart ↦
                      let differ = same-by_number reader head choice l small is ∙ ne_eqb choice.values l.values apart in
                      rw differ refl
                ])
                holds.own ∙ sym no_;
            other = holds.seen _ ∙ found-passes reader head (is_other_choice lc) choice.values src (last_lines reader)
                (λ l is here at.
                let same_values = same-by_number reader head choice l small is ∙ here in
                let apart_net : eqb choice.src l.src ≡ false = ne_eqb choice.src l.src (λ e. other_src (sym at ∙ sym e)) in
                rw (same_values, apart_net) refl)
                holds.own looked ∙ sym (ap not no_);
          }
    ]

-- what a `.buffer` line says
buffer-said : (old : DatabaseState) (lines : List (List ℕ)) (n : ℕ) (chip : Chip) (head : KeptHead) (word : List ℕ) (words : List (List ℕ)) (choice : Choice) → At old lines n chip (Buffers head) word words
    → IsHeadOf old.bits head → Chooses chip.nets head.count (word ∷ words) choice → said_at lines n ≡ record nothing { choices = choice_named head.count choice ∷ [] }
buffer-said old lines n chip head word words choice at is chosen =
    said-at old lines n chip (Buffers head) word words at ∙ ap (λ r. record nothing { choices = item r }) (choice-read chip.nets old.bits head (word ∷ words) choice is chosen)

-- and what is wrong with it
pub buffer-cause : (old : DatabaseState) (lines : List (List ℕ)) (n : ℕ) (chip : Chip) (head : KeptHead) (word : List ℕ) (words : List (List ℕ)) (choice : Choice) → At old lines n chip (Buffers head) word words
    → IsHeadOf old.bits head → Chooses chip.nets head.count (word ∷ words) choice
    → cause_at lines n ≡ cause_if (is_chosen_before lines n (is_other_choice (choice_named head.count choice))) ValuesTwice
buffer-cause old lines n chip head word words choice at is chosen =
    cause-at old lines n chip (Buffers head) word words at ∙ ap (choice_cause lines n) (choice-read chip.nets old.bits head (word ∷ words) choice is chosen)

-- the lines of the statement hold, if the block is one of links
pub last-holds : (old : DatabaseState) (lines : List (List ℕ)) (n : ℕ) (head : KeptHead) → ChoicesHold old lines n old.below → old.below ≡ Buffers head → LastHolds old lines n head
last-holds old lines n head holds under = subst (ChoicesHold old lines n) under holds

-- the judgement of a line
pub buffer-judged : (old : DatabaseState) (lines : List (List ℕ)) (n : ℕ) (chip : Chip) (head : KeptHead) (word : List ℕ) (words : List (List ℕ)) (choice : Choice) → At old lines n chip (Buffers head) word words
    → choice.values < 2 ^ head.count → Judged old lines n head choice (chosen_src old.buffers choice.values)
buffer-judged old lines n chip head word words choice at small =
    judged old lines n head choice (chosen_src old.buffers choice.values) (last-holds old lines n head at.holds.choices at.under) small refl refl

-- the causes agree
cause_of_apart : (found : Option ℕ) (src : ℕ) → cause_if (is_apart found src) ValuesTwice ≡ choice_cause_of found src
cause_of_apart None src = refl
cause_of_apart (Some other) src = by (eqb other src)
  where
    by : (b : Bool) → cause_if (not b) ValuesTwice ≡ cond b None (Some ValuesTwice)
    by true = refl
    by false = refl

-- the cause of a line is the one that the index gives
pub buffer-cause_is : (old : DatabaseState) (lines : List (List ℕ)) (n : ℕ) (chip : Chip) (head : KeptHead) (word : List ℕ) (words : List (List ℕ)) (choice : Choice) → At old lines n chip (Buffers head) word words
    → IsHeadOf old.bits head → Chooses chip.nets head.count (word ∷ words) choice → cause_at lines n ≡ buffer_cause old.buffers (link_with head choice)
buffer-cause_is old lines n chip head word words choice at is chosen =
    buffer-cause old lines n chip head word words choice at is chosen
    ∙ ap (λ b. cause_if b ValuesTwice) (buffer-judged old lines n chip head word words choice at chosen.small).other
    ∙ cause_of_apart (chosen_src old.buffers choice.values) choice.src

-- a line that the index takes is a new one or an equal one
is_equal-fits : (found src : ℕ) → choice_cause_of (Some found) src ≡ None → eqb found src ≡ true
is_equal-fits found src fits =
    elim (cases_Bool (eqb found src)) [
      | inl same ↦ same
      | inr other ↦ let twice : Some ValuesTwice ≡ None = rw other at fits in absurd cc
    ]

-- what the lines of the statement are then
pub record Grows (old new : DatabaseState) (lines : List (List ℕ)) (n : ℕ) (head : KeptHead) (choice : Choice) : Type 0 where
  pub links : link_lines old.bits new.buffers.lines.items ≡ link_lines old.bits old.buffers.lines.items ++ buffers_at lines n
  pub lists : All (IsLinkIn old.bits) new.buffers.lines.items
  pub last : LastHolds new lines (n + 1) head

grows-new : (old new : DatabaseState) (lines : List (List ℕ)) (n : ℕ) (chip : Chip) (head : KeptHead) (word : List ℕ) (words : List (List ℕ)) (choice : Choice) → At old lines n chip (Buffers head) word words
    → IsHeadOf old.bits head → Chooses chip.nets head.count (word ∷ words) choice → AddsBuffer old.buffers new.buffers (link_with head choice)
    → chosen_src old.buffers choice.values ≡ None → Grows old new lines n head choice
unfolding buffers_at
grows-new old new lines n chip head word words choice at is chosen added none =
    let line = link_with head choice in
    let lc = choice_named head.count choice in
    let holds = last-holds old lines n head at.holds.choices at.under in
    let says = buffer-said old lines n chip head word words choice at is chosen in
    let over = block-at old lines n chip (Buffers head) word words at in
    let equal : is_chosen_before lines n (is_same_choice lc) ≡ false = (buffer-judged old lines n chip head word words choice at chosen.small).equal ∙ ap (λ o. is_equal o choice.src) none in
    let new_one : new_choices lines n (lc ∷ []) ≡ lc ∷ [] = rw equal refl in
    let link : buffers_at lines n ≡ link_line old.bits line ∷ [] =
    (λ i. buffers_in (over i) (new_choices lines n (says i).choices)) ∙ ap (map (link_of (head_named old.bits head))) new_one ∙ ap (λ l. l ∷ []) (link-read old.bits head choice is) in
    let pushed : new.buffers.lines.items ≡ old.buffers.lines.items ++ line ∷ [] = added.lines ∙ ap (λ o. with_line o old.buffers.lines.items line) none in
    let last : last_lines new ≡ last_lines old ++ line ∷ [] =
    (λ i. drop (added.start i) (pushed i)) ∙ drop-append-le old.buffers.start old.buffers.lines.items (line ∷ []) at.holds.ready.buffers.within in
    let range = at.holds.in_range in
    let found : (values : ℕ) → chosen_src new.buffers values ≡ or_else (chosen_src old.buffers values) (cond (eqb values choice.values) (Some choice.src) None) =
    λ values. ap (λ ls. lookup (nat_eq values) (choices_of ls)) last
    ∙ ap (lookup (nat_eq values)) (map-append (λ (l : LinkLine). (l.values, l.src)) (last_lines old) (line ∷ []))
    ∙ lookup-push (nat_eq values) (choices_of (last_lines old)) (choice.values, choice.src) in
    let older : (l : LinkLine) → IsLastLine old head l → IsLastLine new head l =
    λ l before. record { bits = before.bits; small = before.small; chosen = found l.values ∙ ap (λ o. or_else o (cond (eqb l.values choice.values) (Some choice.src) None)) before.chosen } in
    let newest : IsLastLine new head line =
    let here : eqb choice.values choice.values ≡ true = eq-eqb choice.values choice.values refl in
    record { bits = refl; small = chosen.small; chosen = found choice.values ∙ rw (none, here) refl } in
    record {
      links = ap (link_lines old.bits) pushed ∙ map-append (link_line old.bits) old.buffers.lines.items (line ∷ []) ∙ ap (λ ls. link_lines old.bits old.buffers.lines.items ++ ls) (sym link);
      lists = rw pushed (All-push (IsLinkIn old.bits) old.buffers.lines.items line range.buffers (link-in old.bits head choice is chosen.small));
      last = record {
        own = rw last (All-push (IsLastLine new head) (last_lines old) line (All-weaker (IsLastLine old head) (IsLastLine new head) older (last_lines old) holds.own) newest);
        seen = λ test.
            chosen-own lines n test at.own ∙ (λ i. holds.seen test i || list_any test (says i).choices)
            ∙ sym (list_any-append test (map (kept_choice head.count) (last_lines old)) (lc ∷ []))
            ∙ ap (list_any test) (sym (map-append (kept_choice head.count) (last_lines old) (line ∷ [])))
            ∙ ap (λ ls. list_any test (map (kept_choice head.count) ls)) (sym last);
      };
    }

grows-equal : (old new : DatabaseState) (lines : List (List ℕ)) (n : ℕ) (chip : Chip) (head : KeptHead) (word : List ℕ) (words : List (List ℕ)) (choice : Choice) (src : ℕ) → At old lines n chip (Buffers head) word words
    → IsHeadOf old.bits head → Chooses chip.nets head.count (word ∷ words) choice → AddsBuffer old.buffers new.buffers (link_with head choice)
    → chosen_src old.buffers choice.values ≡ Some src → eqb src choice.src ≡ true → Grows old new lines n head choice
unfolding buffers_at
grows-equal old new lines n chip head word words choice src at is chosen added some same_src =
    let line = link_with head choice in
    let lc = choice_named head.count choice in
    let holds = last-holds old lines n head at.holds.choices at.under in
    let says = buffer-said old lines n chip head word words choice at is chosen in
    let over = block-at old lines n chip (Buffers head) word words at in
    let equal : is_chosen_before lines n (is_same_choice lc) ≡ true = (buffer-judged old lines n chip head word words choice at chosen.small).equal ∙ ap (λ o. is_equal o choice.src) some ∙ same_src in
    let none_new : new_choices lines n (lc ∷ []) ≡ [] = rw equal refl in
    let link : buffers_at lines n ≡ [] = (λ i. buffers_in (over i) (new_choices lines n (says i).choices)) ∙ ap (map (link_of (head_named old.bits head))) none_new in
    let kept : new.buffers.lines.items ≡ old.buffers.lines.items = added.lines ∙ ap (λ o. with_line o old.buffers.lines.items line) some in
    let last : last_lines new ≡ last_lines old = λ i. drop (added.start i) (kept i) in
    let range = at.holds.in_range in
    let found : (values : ℕ) → chosen_src new.buffers values ≡ chosen_src old.buffers values =
    λ values. ap (λ ls. lookup (nat_eq values) (choices_of ls)) last in
    let older : (l : LinkLine) → IsLastLine old head l → IsLastLine new head l =
    λ l before. record { bits = before.bits; small = before.small; chosen = found l.values ∙ before.chosen } in
    let looked : lookup (nat_eq choice.values) (choices_of (last_lines old)) ≡ Some src = some in
    let again : (test : LinkChoice → Bool) → (list_any test (map (kept_choice head.count) (last_lines old)) || (test lc || false)) ≡ list_any test (map (kept_choice head.count) (last_lines old)) =
    λ test. elim (cases_Bool (test lc)) [
      | inl held ↦
          let there = found-passes old head test choice.values src (last_lines old)
          (λ l before here at_src.
          let values : l.values ≡ choice.values = sym (eqb-true choice.values l.values here) in
          let net : l.src ≡ choice.src = at_src ∙ eqb-true src choice.src same_src in
          let one : kept_choice head.count l ≡ lc = λ i. record { values = word_bits head.count (values i); src = net i } in
          ap test one ∙ held)
          holds.own looked in
          ap (λ b. b || (test lc || false)) there ∙ sym there
      | inr not_yet ↦ ap (λ b. list_any test (map (kept_choice head.count) (last_lines old)) || (b || false)) not_yet ∙ or-false _
    ] in
    record {
      links = ap (link_lines old.bits) kept ∙ append-nothing (link_lines old.bits old.buffers.lines.items) (buffers_at lines n) link;
      lists = rw kept range.buffers;
      last = record {
        own = rw last (All-weaker (IsLastLine old head) (IsLastLine new head) older (last_lines old) holds.own);
        seen = λ test.
            chosen-own lines n test at.own ∙ (λ i. holds.seen test i || list_any test (says i).choices) ∙ again test
            ∙ ap (λ ls. list_any test (map (kept_choice head.count) ls)) (sym last);
      };
    }

grows : (old new : DatabaseState) (lines : List (List ℕ)) (n : ℕ) (chip : Chip) (head : KeptHead) (word : List ℕ) (words : List (List ℕ)) (choice : Choice) (found : Option ℕ) → At old lines n chip (Buffers head) word words
    → IsHeadOf old.bits head → Chooses chip.nets head.count (word ∷ words) choice → AddsBuffer old.buffers new.buffers (link_with head choice)
    → chosen_src old.buffers choice.values ≡ found → choice_cause_of found choice.src ≡ None → Grows old new lines n head choice
grows old new lines n chip head word words choice None at is chosen added found fits = grows-new old new lines n chip head word words choice at is chosen added found
grows old new lines n chip head word words choice (Some src) at is chosen added found fits = grows-equal old new lines n chip head word words choice src at is chosen added found (is_equal-fits src choice.src fits)

no_routing : (old : DatabaseState) (lines : List (List ℕ)) (n : ℕ) (head : KeptHead) → block_over lines n ≡ block_named old.bits (Buffers head) → routings_at lines n ≡ []
unfolding routings_at
no_routing old lines n head over = ap (λ b. routings_in b (said_at lines n).choices) over

-- a line of a `.buffer`
pub buffer-step : (old new : DatabaseState) (lines : List (List ℕ)) (n : ℕ) (chip : Chip) (head : KeptHead) (word : List ℕ) (words : List (List ℕ)) → At old lines n chip (Buffers head) word words
    → IsHeadOf old.bits head → PushesBuffer chip.nets head (word ∷ words) old new → Holds new lines (n + 1)
buffer-step old new lines n chip head word words at is pushed =
    let choice = pushed.choice in
    let said : Said = record nothing { choices = choice_named head.count choice ∷ [] } in
    let says : said_at lines n ≡ said = buffer-said old lines n chip head word words choice at is pushed.chosen in
    let grown = grows old new lines n chip head word words choice (chosen_src old.buffers choice.values) at is pushed.chosen pushed.added refl pushed.fits in
    let over = block-at old lines n chip (Buffers head) word words at in
    let none : routings_at lines n ≡ [] = no_routing old lines n head over in
    let range = at.holds.in_range in
    let under = at.under in
    let last : ChoicesHold (record old { buffers = new.buffers }) lines (n + 1) (Buffers head) =
    record { own = λ k d lt. let o = grown.last.own k d lt in record { bits = o.bits; small = o.small; chosen = o.chosen }; seen = grown.last.seen } in
    subst (λ r. Holds r lines (n + 1)) (sym pushed.rest)
    (own-step old (record old { buffers = new.buffers }) lines n said at.own says at.holds
    (record { texts = at.holds.ready.texts; nets = at.holds.ready.nets; buffers = pushed.added.indexed; below = at.holds.ready.below })
    (record { names = range.names; functions = range.functions; function_bits = range.function_bits; extras = range.extras; buffers = grown.lists; routings = range.routings })
    (subst (ChoicesHold (record old { buffers = new.buffers }) lines (n + 1)) (sym under) last)
    refl refl (λ net. refl) (sym (append-nil _)) grown.links (append-nothing _ _ none) (sym (append-nil _)) (sym (append-nil _)) (sym (append-nil _)) (sym (append-nil _))
    (plls-kept old lines n said at.own says refl at.holds) (pll_open-kept old lines n said at.own says refl at.holds)
    (few-more n _ at.holds.few) (few-more n _ at.holds.few_lists))
