-- What lanes show before and after a call.
use Rattle.std.proofs.Common.{◌≡◌, ℕ, ◌<◌, cond, false, true, List, [], ◌∷◌, ◌++◌, ap, append-nil, arith, get_or, length, subst, sym, ◌∙◌}
use Rattle.std.specs.Prelude.{All, map}
use Rattle.std.proofs.lemmas.List.{length-map}
use Rattle.vlog_module.specs.Parts.{Parts}
use Rattle.vlog_semantics.specs.declared.event.Event.{Event}
use Rattle.vlog_semantics.specs.Entries.{Entry}
use Rattle.vlog_semantics.specs.Named.{values_of}
use Rattle.vlog_semantics.specs.Run.{followed, input_names}
use Rattle.vlog_semantics.specs.Values.{bit_of, number_of}
use Rattle.vlog_run.specs.Text.{bit_digit, entry_line}
use Rattle.vlog_lanes.specs.declared.call.Call.{Call}
use Rattle.vlog_lanes.specs.declared.lanes.Lanes.{Lanes}
use Rattle.vlog_lanes.specs.Lanes.{lane_event, lane_of}
use Rattle.vlog_lanes.specs.Showing.{Shows, input_count}
use Rattle.vlog_sweep.specs.Strands.{entry_of, had, has_bit, is_on, line_of, next_of, stepped}
use Rattle.vlog_sweep.specs.declared.strand.Strand.{Strand}
use Rattle.vlog_sweep.proofs.Runs.{on-event, output_count, outputs-same, turned-entry}
use Rattle.vlog_sweep.proofs.Bits.{lane-bit}

-- lanes that show an entry have the inputs of the module
pub inputs-known : (lanes : Lanes) (lane : ℕ) (m : Parts) (entry : Entry) → Shows lanes lane m entry → input_count lanes ≡ length (input_names m.ports)
inputs-known lanes lane m entry shows = shows.laid_out.input_count

-- as many outputs as the module has
pub outputs-known : (m : Parts) (strand : Strand) (outputs : List ℕ) (lane : ℕ) → lane_of lane outputs ≡ values_of (entry_of m strand).outputs → length outputs ≡ output_count m
outputs-known m strand outputs lane is = sym (length-map outputs (λ word. bit_of word lane)) ∙ ap length is ∙ outputs-same m (had strand)

-- the line of a lane is that of its entry
pub line-shown : (outputs : List ℕ) (lane : ℕ) (entry : Entry) → lane_of lane outputs ≡ values_of entry.outputs → line_of outputs lane ≡ entry_line false entry
unfolding entry_line
line-shown outputs lane entry is =
    ap (λ bits. map bit_digit bits ++ 10 ∷ []) is ∙ ap (λ digits. digits ++ 10 ∷ []) (sym (append-nil (map bit_digit (values_of entry.outputs))))

-- the input of a next event is one of the module's
pub pin-within : (strands : List Strand) (n k pin : ℕ) (d : Strand) → All (λ strand. All (λ event. event.pin < n) strand.list.now.events.items) strands
    → k < length strands → is_on pin (next_of (get_or strands k d)) ≡ true → pin < n
pin-within strands n k pin d within inside on =
    let none : Event = record { pin = 0; bit = false } in
    let strand : Strand = get_or strands k d in
    let next = on-event pin strand.taken strand.list.now.events.items none on in
    subst (λ event. event.pin < n) next.1 (within k d inside strand.taken none next.0)

-- an item of a list that has some
pub some-item : {A : Type 0} (xs : List A) (k : ℕ) → k < length xs → A
some-item [] k within = absurd (omega (arith, within))
some-item (x ∷ xs) k within = x

-- ---- a call

-- what a call does: its input, its lanes and their bits
pub record Calls (strands : List Strand) (pin : ℕ) (call : Call) : Type 0 where
  pub pin_is : call.pin ≡ pin
  pub active : call.active ≡ number_of (map (λ strand. is_on pin (next_of strand)) strands)
  pub bits : call.bits ≡ number_of (map (λ strand. has_bit (next_of strand)) strands)

-- whether a list has its event in a call
pub active-on : (strands : List Strand) (pin : ℕ) (call : Call) (k : ℕ) (d : Strand) → Calls strands pin call → k < length strands
    → bit_of call.active k ≡ is_on pin (next_of (get_or strands k d))
active-on strands pin call k d calls inside = lane-bit (λ strand. is_on pin (next_of strand)) strands call.active k d calls.active inside

-- such a list has an event left
pub active-left : (strands : List Strand) (pin : ℕ) (call : Call) (k : ℕ) (d : Strand) → Calls strands pin call → k < length strands → bit_of call.active k ≡ true
    → (get_or strands k d).taken < length (get_or strands k d).list.now.events.items
active-left strands pin call k d calls inside on =
    let none : Event = record { pin = 0; bit = false } in
    let strand : Strand = get_or strands k d in
    (on-event pin strand.taken strand.list.now.events.items none (sym (active-on strands pin call k d calls inside) ∙ on)).0

-- what a lane shows after a call
pub shown-after : (m : Parts) (after : Lanes) (strands : List Strand) (pin width : ℕ) (call : Call) (k : ℕ) (d : Strand) → Calls strands pin call → k < length strands
    → Shows after k m (cond (bit_of call.active k) (followed m (entry_of m (get_or strands k d)) (lane_event call.pin call.bits k)) (entry_of m (get_or strands k d)))
    → Shows after k m (entry_of m (cond (bit_of call.active k) (stepped width (get_or strands k d)) (get_or strands k d)))
shown-after m after strands pin width call k d calls inside shows =
    let strand : Strand = get_or strands k d in
    let bit_is : bit_of call.bits k ≡ has_bit (next_of strand) = lane-bit (λ s. has_bit (next_of s)) strands call.bits k d calls.bits inside in
    subst (Shows after k m)
    (ap (λ p. cond (bit_of call.active k) (followed m (entry_of m strand) (record { pin = p; bit = bit_of call.bits k })) (entry_of m strand)) calls.pin_is
    ∙ turned-entry m strand width pin (bit_of call.active k) (bit_of call.bits k) (active-on strands pin call k d calls inside) bit_is) shows
