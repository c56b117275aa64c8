-- Runs that go on.
use Rattle.std.proofs.Common.{◌≡◌, ℕ, zero, suc, ◌+◌, ◌<◌, ◌≤◌, Bool, true, false, cond, List, [], ◌∷◌, ◌++◌, ap, arith, append-nil, flat_map, fold, get_or, length, refl, sym, take, ◌∙◌}
use Rattle.std.specs.Prelude.{None, Some, bytes_eq, slice_get}
use Rattle.std.specs.List.{list_any}
use Rattle.std.specs.Option.{option_map}
use Rattle.std.proofs.lemmas.Bool.{eq-eqb, eqb-true}
use Rattle.std.proofs.lemmas.List.{length-map, take_more}
use Rattle.std.proofs.lemmas.List.Concat.{flat_map-append}
use Rattle.std.proofs.lemmas.List.Sums.{fold_more}
use Rattle.vlog_module.specs.declared.item.Item.{Item}
use Rattle.vlog_module.specs.declared.item.Item.TheVariants.{Assign}
use Rattle.vlog_module.specs.Parts.{Parts}
use Rattle.vlog_semantics.specs.declared.event.Event.{Event}
use Rattle.vlog_semantics.specs.Entries.{Entry, put}
use Rattle.vlog_semantics.specs.Named.{values_of}
use Rattle.vlog_semantics.specs.Run.{acted, changed, edges_between, followed, has_its_edge, input_bit, is_same_bit, output_start, output_step, run_from, settled, start, wave_bound, waved, Edges}
use Rattle.vlog_semantics.specs.Values.{Readable}
use Rattle.vlog_run.specs.Text.{entry_line}
use Rattle.vlog_sweep.specs.Strands.{entry_of, has_bit, is_on, next_of, stepped}
use Rattle.vlog_sweep.specs.declared.strand.Strand.{Strand}

-- ---- one event more

run-push : (m : Parts) (entry : Entry) (events : List Event) (event : Event)
    → run_from m entry (events ++ event ∷ []) ≡ run_from m entry events ++ fold (followed m) entry (events ++ event ∷ []) ∷ []
unfolding run_from
run-push m entry [] event = refl
run-push m entry (first ∷ events) event = ap (λ entries. entry ∷ entries) (run-push m (followed m entry first) events event)

-- the lines of one event more
pub lines-more : (m : Parts) (entry : Entry) (events : List Event) (i : ℕ) → i < length events
    → flat_map (entry_line false) (run_from m entry (take (i + 1) events))
    ≡ flat_map (entry_line false) (run_from m entry (take i events)) ++ entry_line false (fold (followed m) entry (take (i + 1) events))
lines-more m entry events i within =
    let none : Event = record { pin = 0; bit = false } in
    let more : take (i + 1) events ≡ take i events ++ get_or events i none ∷ [] = take_more events i none within in
    ap (λ list. flat_map (entry_line false) (run_from m entry list)) more
    ∙ ap (flat_map (entry_line false)) (run-push m entry (take i events) (get_or events i none))
    ∙ flat_map-append (entry_line false) (run_from m entry (take i events)) (fold (followed m) entry (take i events ++ get_or events i none ∷ []) ∷ [])
    ∙ ap (λ line. flat_map (entry_line false) (run_from m entry (take i events)) ++ line) (append-nil (entry_line false (fold (followed m) entry (take i events ++ get_or events i none ∷ []))))
    ∙ ap (λ list. flat_map (entry_line false) (run_from m entry (take i events)) ++ entry_line false (fold (followed m) entry list)) (sym more)

-- ---- how many outputs there are

put-length : {A : Type 0} (entries : List (List ℕ × A)) (name : List ℕ) (value : A) → length (put entries name value) ≡ length entries
put-length [] name value = refl
put-length (entry ∷ entries) name value =
    elim (bytes_eq entry.0 name) as (λ b. length (cond b ((entry.0, value) ∷ entries) (entry ∷ put entries name value)) ≡ suc (length entries)) [
      | true ↦ refl
      | false ↦ ap suc (put-length entries name value)
    ]

outputs-length : (from : Readable) (outputs : List (List ℕ × Bool)) (items : List Item) → length (fold (output_step from) outputs items) ≡ length outputs
outputs-length from outputs [] = refl
outputs-length from outputs (Assign name value ∷ items) = outputs-length from (put outputs name _) items ∙ put-length outputs name _
outputs-length from outputs (other ∷ items) = outputs-length from outputs items

-- how many outputs a module has
abbrev pub output_count : Parts → ℕ
output_count m = length (flat_map output_start m.ports)

settled-count : (m : Parts) (inputs registers : List (List ℕ × Bool)) (words : List (List ℕ × ℕ)) (memories : List (List ℕ × List ℕ))
    → length (settled m inputs registers words memories).outputs ≡ output_count m
unfolding settled
settled-count m inputs registers words memories = outputs-length _ (flat_map output_start m.ports) m.items

start-count : (m : Parts) → length (start m).outputs ≡ output_count m
unfolding start
start-count m = settled-count m _ _ _ _

acted-count : (m : Parts) (edges : Edges) (inputs : List (List ℕ × Bool)) (before : Entry) → length (acted m edges inputs before).outputs ≡ output_count m
unfolding acted
acted-count m edges inputs before = settled-count m _ _ _ _

waved-count : (m : Parts) (bound : ℕ) (before after : Entry) → length after.outputs ≡ output_count m → length (waved m bound before after).outputs ≡ output_count m
unfolding waved
waved-count m zero before after count = count
waved-count m (suc more) before after count =
    let edges = edges_between before after in
    elim (list_any (has_its_edge edges) m.items) as (λ b. length (cond b (waved m more after (acted m edges after.inputs after)) after).outputs ≡ output_count m) [
      | true ↦ waved-count m more after (acted m edges after.inputs after) (acted-count m edges after.inputs after)
      | false ↦ count
    ]

followed-count : (m : Parts) (entry : Entry) (event : Event) → length entry.outputs ≡ output_count m → length (followed m entry event).outputs ≡ output_count m
unfolding followed changed
followed-count m entry event count =
    elim (is_same_bit event.bit (input_bit entry event.pin)) as (λ b. length (cond b entry (changed m entry event)).outputs ≡ output_count m) [
      | true ↦ count
      | false ↦ waved-count m (wave_bound m) entry _ (acted-count m _ _ _)
    ]

run-count : (m : Parts) (entry : Entry) (events : List Event) → length entry.outputs ≡ output_count m → length (fold (followed m) entry events).outputs ≡ output_count m
run-count m entry [] count = count
run-count m entry (event ∷ events) count = run-count m (followed m entry event) events (followed-count m entry event count)

-- after each list of events there are as many
pub outputs-same : (m : Parts) (events : List Event) → length (values_of (fold (followed m) (start m) events).outputs) ≡ output_count m
outputs-same m events =
    length-map (fold (followed m) (start m) events).outputs (λ (entry : List ℕ × Bool). entry.1) ∙ run-count m (start m) events (start-count m)

-- ---- a list in its lane

-- the next event is the one that its lane gets
pub on-event : (pin k : ℕ) (events : List Event) (d : Event) → is_on pin (slice_get events k) ≡ true
    → (k < length events) × (get_or events k d ≡ record { pin = pin; bit = has_bit (slice_get events k) })
on-event pin k [] d on = absurd cc
on-event pin zero (event ∷ events) d on =
    let same : event.pin ≡ pin = eqb-true event.pin pin on in
    (omega arith, ap (λ p. record { pin = p; bit = event.bit }) same)
on-event pin (suc k) (event ∷ events) d on =
    let later = on-event pin k events d on in
    (omega (arith, later.0), later.1)

-- the input of the next event
pub pin-none : (k : ℕ) (events : List Event) → option_map (λ (event : Event). event.pin) (slice_get events k) ≡ None → length events ≤ k
pin-none k [] none = omega arith
pin-none zero (event ∷ events) none = absurd cc
pin-none (suc k) (event ∷ events) none = omega (arith, pin-none k events none)

pub pin-on : (pin k : ℕ) (events : List Event) → option_map (λ (event : Event). event.pin) (slice_get events k) ≡ Some pin → is_on pin (slice_get events k) ≡ true
pin-on pin k [] is = absurd cc
pin-on pin zero (event ∷ events) is =
    let same : event.pin ≡ pin = cc in
    eq-eqb event.pin pin same
pin-on pin (suc k) (event ∷ events) is = pin-on pin k events is

-- what a lane shows after its event
pub turned-entry : (m : Parts) (strand : Strand) (width pin : ℕ) (active bit : Bool) → active ≡ is_on pin (next_of strand) → bit ≡ has_bit (next_of strand)
    → cond active (followed m (entry_of m strand) (record { pin = pin; bit = bit })) (entry_of m strand) ≡ entry_of m (cond active (stepped width strand) strand)
turned-entry m strand width pin false bit active_is bit_is = refl
turned-entry m strand width pin true bit active_is bit_is =
    let none : Event = record { pin = 0; bit = false } in
    let events : List Event = strand.list.now.events.items in
    let next = on-event pin strand.taken events none (sym active_is) in
    ap (λ b. followed m (entry_of m strand) (record { pin = pin; bit = b })) bit_is
    ∙ ap (followed m (entry_of m strand)) (sym next.1)
    ∙ sym (fold_more (followed m) (start m) events strand.taken none next.0)
