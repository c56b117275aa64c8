-- The lists on their way, before and after a call.
use Rattle.std.proofs.Common.{◌≡◌, ℕ, suc, ◌+◌, ◌<◌, ◌≤◌, Bool, cond, false, true, List, [], ◌∷◌, ap, ap₂, arith, fold, get_or, length, refl, subst, sym, take, take_all, ◌∙◌}
use Rattle.std.specs.List.{sum_by}
use Rattle.std.specs.Prelude.{All, map}
use Rattle.std.proofs.lemmas.List.{get_or-map, length-map}
use Rattle.vlog_module.specs.Parts.{Parts}
use Rattle.vlog_semantics.specs.declared.event.Event.{Event}
use Rattle.vlog_semantics.specs.Entries.{Entry}
use Rattle.vlog_semantics.specs.Named.{values_of}
use Rattle.vlog_semantics.specs.Run.{followed, input_names, start}
use Rattle.vlog_semantics.specs.Values.{bit_of}
use Rattle.vlog_run.specs.Text.{entry_line}
use Rattle.vlog_lanes.specs.declared.lanes.Lanes.{Lanes}
use Rattle.vlog_lanes.specs.Lanes.{lane_of}
use Rattle.vlog_lanes.specs.Showing.{Shows, input_count}
use Rattle.vlog_sweep.specs.Strands.{Called, ShowsAll, Stands, entry_of, left_of, line_of, next_entry, stepped, turned}
use Rattle.vlog_sweep.specs.declared.list.EventList.{EventList}
use Rattle.vlog_sweep.specs.declared.strand.Strand.{Strand}
use Rattle.vlog_sweep.proofs.Left.{left-le, left-lt, sum-lt}
use Rattle.vlog_sweep.proofs.Runs.{output_count}
use Rattle.vlog_sweep.proofs.Shown.{inputs-known, line-shown, outputs-known, some-item}
use Rattle.vlog_sweep.proofs.Texts.{turn-room}

-- the lists in their lanes, each with its entry
pub record Going (m : Parts) (all : List EventList) (lanes : Lanes) (strands : List Strand) : Type 0 where
  pub shown : ShowsAll m lanes strands
  pub lists : map (λ strand. strand.list.now) strands ≡ all

-- the lists in their lanes, and the text of them all
pub record Writing (m : Parts) (line : List ℕ) (all : List EventList) (lanes : Lanes) (strands : List Strand) (text : List ℕ) : Type 0 where
  pub going : Going m all lanes strands
  pub stands : Stands m line strands text
  pub width : length line ≡ output_count m + 1

-- the lists after a call
pub record Turned (strands next : List Strand) (active width : ℕ) : Type 0 where
  pub size : length next ≡ length strands
  pub each : (k : ℕ) (d : Strand) → k < length strands → get_or next k d ≡ turned width active k (get_or strands k d)

-- a call on the lists and their text, and the outputs after it
pub record Step (m : Parts) (line : List ℕ) (all : List EventList) (before after : Lanes) (strands : List Strand) (text outputs : List ℕ) (active : ℕ) : Type 0 where
  pub writing : Writing m line all before strands text
  pub called : Called before after strands active
  pub read : (lane : ℕ) (entry : Entry) → Shows after lane m entry → lane_of lane outputs ≡ values_of entry.outputs

-- a call on lists and a text that were read
pub as-step : {m : Parts} {line : List ℕ} {all : List EventList} {before after : Lanes} {active : ℕ} (read strands old : List Strand) (text old_text outputs : List ℕ)
    → read ≡ strands → old ≡ strands → old_text ≡ text → Writing m line all before strands text → Called before after read active
    → ((lane : ℕ) (entry : Entry) → Shows after lane m entry → lane_of lane outputs ≡ values_of entry.outputs)
    → Step m line all before after old old_text outputs active
as-step {m = m} {line = line} {all = all} {before = before} {after = after} {active = active} read strands old text old_text outputs read_is old_is text_is writing called outputs_are = record {
  writing = subst (λ xs. Writing m line all before xs old_text) (sym old_is) (subst (λ t. Writing m line all before strands t) (sym text_is) writing);
  called = subst (λ xs. Called before after xs active) (read_is ∙ sym old_is) called;
  read = outputs_are;
}

-- ---- the lists

-- as many lists as lanes
pub as-many : {m : Parts} {all : List EventList} {lanes : Lanes} {strands : List Strand} → Going m all lanes strands → length strands ≡ length all
as-many {strands = strands} going = sym (length-map strands (λ (strand : Strand). strand.list.now)) ∙ ap length going.lists

-- the list of a lane
list-at : {m : Parts} {all : List EventList} {lanes : Lanes} {strands : List Strand} (k : ℕ) (d : Strand) (e : EventList) → Going m all lanes strands → k < length strands
    → get_or all k e ≡ (get_or strands k d).list.now
list-at {strands = strands} k d e going inside =
    ap (λ xs. get_or xs k e) (sym going.lists) ∙ get_or-map (λ (strand : Strand). strand.list.now) strands k d e inside

-- before the first event
pub begun : (m : Parts) (all : List EventList) (lanes : Lanes) (strands : List Strand) → length all ≤ 64 → ((lane : ℕ) → lane < 64 → Shows lanes lane m (start m))
    → map (λ strand. strand.list.now) strands ≡ all → All (λ strand. strand.taken ≡ 0) strands → Going m all lanes strands
begun m all lanes strands few shows lists fresh =
    let short : length strands ≤ 64 = omega (arith, few, length-map strands (λ (strand : Strand). strand.list.now), ap length lists) in
    record {
      shown = λ k d inside. subst (λ n. Shows lanes k m (fold (followed m) (start m) (take n (get_or strands k d).list.now.events.items)))
          (sym (fresh k d inside)) (shows k (omega (arith, inside, short)));
      lists = lists;
    }

-- the inputs of the events are those of the lanes
pub inputs-going : {m : Parts} {all : List EventList} {lanes : Lanes} {strands : List Strand} (read : List Strand) → read ≡ strands → Going m all lanes strands
    → All (λ list. All (λ event. event.pin < length (input_names m.ports)) list.events.items) all
    → All (λ strand. All (λ event. event.pin < input_count lanes) strand.list.now.events.items) read
inputs-going {m = m} {all = all} {lanes = lanes} {strands = strands} read is going within =
    subst (All (λ strand. All (λ event. event.pin < input_count lanes) strand.list.now.events.items)) (sym is)
    (λ k d inside.
    let strand : Strand = get_or strands k d in
    let count : input_count lanes ≡ length (input_names m.ports) = inputs-known lanes k m (entry_of m strand) (going.shown k d inside) in
    let counted : k < length all = omega (arith, inside, as-many going) in
    subst (λ n. All (λ event. event.pin < n) strand.list.now.events.items) (sym count)
    (subst (λ (list : EventList). All (λ event. event.pin < length (input_names m.ports)) list.events.items) (list-at k d d.list.now going inside) (within k d.list.now counted)))

same-map : {A B : Type 0} (f : A → B) (xs ys : List A) → length ys ≡ length xs → ((k : ℕ) (d : A) → k < length xs → f (get_or ys k d) ≡ f (get_or xs k d)) → map f ys ≡ map f xs
same-map f [] [] size same = refl
same-map f [] (y ∷ ys) size same = absurd (omega (arith, size))
same-map f (x ∷ xs) [] size same = absurd (omega (arith, size))
same-map f (x ∷ xs) (y ∷ ys) size same =
    ap₂ (λ z zs. z ∷ zs) (same 0 x (omega arith)) (same-map f xs ys (omega (arith, size)) (λ k d inside. same (suc k) d (omega (arith, inside))))

same-list : (b : Bool) (width : ℕ) (strand : Strand) → (cond b (stepped width strand) strand).list.now ≡ strand.list.now
same-list true width strand = refl
same-list false width strand = refl

-- the lists go on after a call
pub went-on : {m : Parts} {all : List EventList} {before after : Lanes} {strands : List Strand} {active : ℕ} (width : ℕ) (next : List Strand)
    → Going m all before strands → Called before after strands active → Turned strands next active width → Going m all after next
went-on {m = m} {after = after} {strands = strands} {active = active} width next going called turns = record {
  shown = λ k d inside.
      let within : k < length strands = omega (arith, inside, turns.size) in
      subst (λ strand. Shows after k m (entry_of m strand)) (sym (turns.each k d within)) (called.shown m width going.shown k d within);
  lists = same-map (λ (strand : Strand). strand.list.now) strands next turns.size
      (λ k d inside. ap (λ (strand : Strand). strand.list.now) (turns.each k d inside) ∙ same-list (bit_of active k) width (get_or strands k d))
      ∙ going.lists;
}

-- fewer events are left after a call
pub less-left : {before after : Lanes} {strands : List Strand} {active : ℕ} (width : ℕ) (next : List Strand)
    → Called before after strands active → Turned strands next active width → sum_by left_of next < sum_by left_of strands
less-left {strands = strands} {active = active} width next called turns =
    let some = called.some in
    sum-lt left_of strands next some.0 turns.size
    (λ j d within. omega (arith, ap left_of (turns.each j d within), left-le (bit_of active j) width (get_or strands j d)))
    some.1
    (λ d.
    omega (
      arith,
      ap left_of (turns.each some.0 d some.1),
      left-lt (bit_of active some.0) width (get_or strands some.0 d) some.2 (called.left some.0 d some.1 some.2),
    ))

-- the lines of the lanes if no list has an event left
pub lines-ended : {m : Parts} {all : List EventList} {lanes : Lanes} {strands : List Strand} (outputs : List ℕ) → Going m all lanes strands
    → ((lane : ℕ) (entry : Entry) → Shows lanes lane m entry → lane_of lane outputs ≡ values_of entry.outputs)
    → ((k : ℕ) (d : Strand) → k < length strands → left_of (get_or strands k d) ≡ 0)
    → (k : ℕ) (d : EventList) → k < length all → line_of outputs k ≡ entry_line false (fold (followed m) (start m) (get_or all k d).events.items)
lines-ended {m = m} {strands = strands} outputs going read none k d inside =
    let within : k < length strands = omega (arith, inside, as-many going) in
    let some : Strand = some-item strands k within in
    let strand : Strand = get_or strands k some in
    let events : List Event = strand.list.now.events.items in
    let past : length events ≤ strand.taken = omega (arith, none k some within) in
    line-shown outputs k (entry_of m strand) (read k (entry_of m strand) (going.shown k some within))
    ∙ ap (λ had. entry_line false (fold (followed m) (start m) had)) (take_all strand.taken events past)
    ∙ ap (λ (list : EventList). entry_line false (fold (followed m) (start m) list.events.items)) (sym (list-at k some d going within))

-- ---- their text

-- a line has a byte for each output, and one more
pub width-known : {m : Parts} {line : List ℕ} {all : List EventList} {before after : Lanes} {strands : List Strand} {text outputs : List ℕ} {active : ℕ} (k : ℕ) (d : Strand)
    → Step m line all before after strands text outputs active → k < length strands → length line ≡ length outputs + 1
width-known {m = m} {strands = strands} {outputs = outputs} {active = active} k d step inside =
    let next : Strand = turned 0 active k (get_or strands k d) in
    step.writing.width
    ∙ ap (λ n. n + 1) (sym (outputs-known m next outputs k (step.read k (entry_of m next) (step.called.shown m 0 step.writing.going.shown k d inside))))

-- the line of a lane that has its event
pub line-known : {m : Parts} {line : List ℕ} {all : List EventList} {before after : Lanes} {strands : List Strand} {text outputs : List ℕ} {active : ℕ} (k : ℕ) (d : Strand)
    → Step m line all before after strands text outputs active → k < length strands → bit_of active k ≡ true
    → line_of outputs k ≡ entry_line false (next_entry m (get_or strands k d))
line-known {m = m} {strands = strands} {outputs = outputs} {active = active} k d step inside on =
    let strand : Strand = get_or strands k d in
    let next : Strand = turned 0 active k strand in
    line-shown outputs k (entry_of m next) (step.read k (entry_of m next) (step.called.shown m 0 step.writing.going.shown k d inside))
    ∙ ap (λ b. entry_line false (entry_of m (cond b (stepped 0 strand) strand))) on

-- such a lane has room for its line
pub room-known : {m : Parts} {line : List ℕ} {all : List EventList} {before after : Lanes} {strands : List Strand} {text outputs : List ℕ} {active : ℕ} (k : ℕ) (d : Strand)
    → Step m line all before after strands text outputs active → k < length strands → bit_of active k ≡ true
    → (get_or strands k d).at + (length outputs + 1) ≤ length text
room-known {m = m} {line = line} {strands = strands} {text = text} {outputs = outputs} k d step inside on =
    turn-room m line strands text k (length outputs + 1) d step.writing.stands inside (step.called.left k d inside on) (width-known k d step inside)
