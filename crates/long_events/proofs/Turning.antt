-- What a cursor has left to do, before and after a turn.
use Rattle.std.proofs.Common.{◌≡◌, ◌≢◌, ◌∙◌, ℕ, zero, suc, ◌+◌, ◌-◌, ◌<◌, ◌≤◌, Bool, true, List, [], ◌∷◌, ◌++◌, Some, None, drop, drop_of_length-le, flat_map, get_or, length, replicate, refl, sym, ap, ap₂, append_assoc, append-nil, arith}
use Rattle.std.specs.Prelude.{◌&&◌, ◌==◌, bytes_eq, slice_get, slice_set, nat_lt}
use Rattle.std.proofs.lemmas.List.{drop_more, get_or-set_same, get_or-set_other, length-set}
use Rattle.std.proofs.lemmas.Bool.{and_from, and_parts, cond_both, eqb-true, ltb-true, ltb-false}
use Rattle.std.proofs.lemmas.Option.{get_or_from_slice_get, slice_get_within}
use Rattle.shared_lemmas.proofs.Bytes.{bytes_eq-same, same_bytes}
use Rattle.vlog_semantics.specs.declared.event.Event.{Event}
use Rattle.long_events.specs.declared.cursor.Cursor.{Cursor}
use Rattle.long_events.specs.declared.cursor.Frame.{Frame}
use Rattle.long_events.specs.declared.moves.Move.{Move}
use Rattle.long_events.specs.declared.moves.Move.TheVariants as move
use Rattle.long_events.specs.declared.step.Step.{Step}
use Rattle.long_events.specs.declared.step.Step.TheVariants.{Give, Toggle, Repeat, End}
use Rattle.long_events.specs.Moves.{led_by, times}
use Rattle.long_events.specs.inside.Cursors.{Stands, Tick, again, closed, frame_at, innermost, joins, moves_left, opened, outside, pass, passed, resumed, tick_moves, tick_parts, ticks_left, toggling, turned_over}
use Rattle.long_events.specs.inside.Cursors.Tick.{given, turned}
use Rattle.long_events.specs.inside.Nesting.{closings, nests}
use Rattle.long_events.proofs.Nested.{same-rest, tick_parts-cons}

-- ---- what is left

-- what leads the first part comes first
resumed-led_by : (steps : List Step) (frames : List Frame) (depth : ℕ) (ticks : List Tick) (parts : List (List Tick))
    → resumed steps frames depth (led_by ticks parts) ≡ ticks ++ resumed steps frames depth parts
resumed-led_by steps frames zero ticks [] = sym (append-nil ticks)
resumed-led_by steps frames zero ticks (part ∷ parts) = refl
resumed-led_by steps frames (suc depth) ticks [] = refl
resumed-led_by steps frames (suc depth) ticks (part ∷ parts) =
    append_assoc ticks part (turned ∷ times (frame_at frames depth).left (pass steps (frame_at frames depth).start) ++ resumed steps frames depth parts)

-- other frames don't matter
frame-below : (frames : List Frame) (place depth : ℕ) (frame : Frame) → depth < place → frame_at (slice_set frames place frame) depth ≡ frame_at frames depth
frame-below frames place depth frame below =
    let other : depth ≢ place = omega arith in get_or-set_other frames place depth frame (record { start = 0; left = 0 }) other

resumed-below : (steps : List Step) (frames : List Frame) (place depth : ℕ) (frame : Frame) (parts : List (List Tick)) → depth ≤ place
    → resumed steps (slice_set frames place frame) depth parts ≡ resumed steps frames depth parts
resumed-below steps frames place zero frame parts below = refl
resumed-below steps frames place (suc depth) frame parts below =
    ap₂ (λ (at : Frame) (rest : List Tick). get_or parts 0 [] ++ (turned ∷ times at.left (pass steps at.start) ++ rest))
    (frame-below frames place depth frame (omega arith))
    (resumed-below steps frames place depth frame (drop 1 parts) (omega arith))

joins-below : (steps : List Step) (frames : List Frame) (place depth : ℕ) (frame : Frame) (ends : List ℕ) → depth ≤ place
    → joins steps (slice_set frames place frame) depth ends ≡ joins steps frames depth ends
joins-below steps frames place zero frame ends below = refl
joins-below steps frames place (suc depth) frame ends below =
    ap₂ (λ (at : Frame) (rest : Bool). nests (suc depth) (drop at.start steps) && (bytes_eq (closings at.start (drop at.start steps)) ends && rest))
    (frame-below frames place depth frame (omega arith))
    (joins-below steps frames place depth frame (drop 1 ends) (omega arith))

-- without toggles that are left
idle-ticks : (steps : List Step) (cursor : Cursor) → cursor.toggles ≡ 0
    → ticks_left steps cursor ≡ resumed steps cursor.frames cursor.depth (tick_parts (drop cursor.place steps))
unfolding ticks_left
idle-ticks steps cursor none =
    ap (λ count. replicate count (given (move.Toggled cursor.pin)) ++ resumed steps cursor.frames cursor.depth (tick_parts (drop cursor.place steps))) none

-- the lines that are left begin with this one
pub record IsHere (steps : List Step) (cursor : Cursor) (step : Step) : Type 0 where
  pub idle : cursor.toggles ≡ 0
  pub here : drop cursor.place steps ≡ step ∷ drop (cursor.place + 1) steps

here-ticks : (steps : List Step) (cursor : Cursor) (step : Step) → IsHere steps cursor step
    → ticks_left steps cursor ≡ resumed steps cursor.frames cursor.depth (tick_parts (step ∷ drop (cursor.place + 1) steps))
here-ticks steps cursor step at =
    idle-ticks steps cursor at.idle ∙ ap (λ (rest : List Step). resumed steps cursor.frames cursor.depth (tick_parts rest)) at.here

here-nests : (steps : List Step) (cursor : Cursor) (step : Step) → IsHere steps cursor step → Stands steps cursor → nests cursor.depth (step ∷ drop (cursor.place + 1) steps) ≡ true
here-nests steps cursor step at stands = ap (nests cursor.depth) (sym at.here) ∙ stands.nested

here-joins : (steps : List Step) (cursor : Cursor) (step : Step) → IsHere steps cursor step → Stands steps cursor
    → joins steps cursor.frames cursor.depth (closings cursor.place (step ∷ drop (cursor.place + 1) steps)) ≡ true
here-joins steps cursor step at stands =
    ap (λ (rest : List Step). joins steps cursor.frames cursor.depth (closings cursor.place rest)) (sym at.here) ∙ stands.joined

-- ---- an event, and a line that toggles

pub give-stands : (steps : List Step) (cursor : Cursor) (event : Event) → IsHere steps cursor (Give event) → Stands steps cursor → Stands steps (passed cursor)
unfolding nests closings
give-stands steps cursor event at stands =
    record { deep = stands.deep; room = stands.room; nested = here-nests steps cursor (Give event) at stands; joined = here-joins steps cursor (Give event) at stands }

pub give-does : (steps : List Step) (cursor : Cursor) (event : Event) → IsHere steps cursor (Give event)
    → ticks_left steps cursor ≡ given (move.Given event) ∷ ticks_left steps (passed cursor)
unfolding tick_parts
give-does steps cursor event at =
    here-ticks steps cursor (Give event) at
    ∙ resumed-led_by steps cursor.frames cursor.depth (given (move.Given event) ∷ []) (tick_parts (drop (cursor.place + 1) steps))
    ∙ ap (λ ticks. given (move.Given event) ∷ ticks) (sym (idle-ticks steps (passed cursor) at.idle))

pub toggle-stands : (steps : List Step) (cursor : Cursor) (pin count : ℕ) → IsHere steps cursor (Toggle pin count) → Stands steps cursor → Stands steps (toggling cursor pin count)
unfolding nests closings
toggle-stands steps cursor pin count at stands =
    record { deep = stands.deep; room = stands.room; nested = here-nests steps cursor (Toggle pin count) at stands; joined = here-joins steps cursor (Toggle pin count) at stands }

pub toggle-does : (steps : List Step) (cursor : Cursor) (pin count : ℕ) → IsHere steps cursor (Toggle pin count)
    → ticks_left steps cursor ≡ turned ∷ ticks_left steps (toggling cursor pin count)
unfolding tick_parts ticks_left
toggle-does steps cursor pin count at =
    here-ticks steps cursor (Toggle pin count) at
    ∙ resumed-led_by steps cursor.frames cursor.depth (turned ∷ replicate count (given (move.Toggled pin))) (tick_parts (drop (cursor.place + 1) steps))

-- ---- a toggle

pub toggled-does : (steps : List Step) (cursor : Cursor) → 0 < cursor.toggles
    → ticks_left steps cursor ≡ given (move.Toggled cursor.pin) ∷ ticks_left steps (record cursor { toggles = cursor.toggles - 1 })
unfolding ticks_left
toggled-does steps cursor some =
    let more : cursor.toggles ≡ suc (cursor.toggles - 1) = omega arith in
    ap (λ count. replicate count (given (move.Toggled cursor.pin)) ++ resumed steps cursor.frames cursor.depth (tick_parts (drop cursor.place steps))) more

-- ---- a `repeat`

pub open-fits : (steps : List Step) (cursor : Cursor) (count : ℕ) → IsHere steps cursor (Repeat count) → Stands steps cursor → (0 < count) × (cursor.depth < 8)
unfolding nests
open-fits steps cursor count at stands =
    let parts = and_parts (nat_lt 0 count) (nat_lt cursor.depth 8 && nests (suc cursor.depth) (drop (cursor.place + 1) steps)) (here-nests steps cursor (Repeat count) at stands) in
    let more = and_parts (nat_lt cursor.depth 8) (nests (suc cursor.depth) (drop (cursor.place + 1) steps)) parts.1 in
    (ltb-true 0 count parts.0, ltb-true cursor.depth 8 more.0)

open-nests : (steps : List Step) (cursor : Cursor) (count : ℕ) → IsHere steps cursor (Repeat count) → Stands steps cursor → nests (suc cursor.depth) (drop (cursor.place + 1) steps) ≡ true
unfolding nests
open-nests steps cursor count at stands =
    let parts = and_parts (nat_lt 0 count) (nat_lt cursor.depth 8 && nests (suc cursor.depth) (drop (cursor.place + 1) steps)) (here-nests steps cursor (Repeat count) at stands) in
    (and_parts (nat_lt cursor.depth 8) (nests (suc cursor.depth) (drop (cursor.place + 1) steps)) parts.1).1

entered : Cursor → ℕ → Frame
entered cursor count = record { start = cursor.place + 1; left = count - 1 }

-- the frame of the body that was entered
own-frame : (frames : List Frame) (place : ℕ) (frame : Frame) → place < length frames → frame_at (slice_set frames place frame) place ≡ frame
own-frame frames place frame within = get_or-set_same frames place frame (record { start = 0; left = 0 }) within

joins-suc : (steps : List Step) (frames : List Frame) (depth : ℕ) (frame : Frame) (ends : List ℕ) → frame_at frames depth ≡ frame
    → nests (suc depth) (drop frame.start steps) ≡ true → closings frame.start (drop frame.start steps) ≡ ends → joins steps frames depth (drop 1 ends) ≡ true
    → joins steps frames (suc depth) ends ≡ true
joins-suc steps frames depth frame ends is nested same rest =
    ap (λ (at : Frame). nests (suc depth) (drop at.start steps) && (bytes_eq (closings at.start (drop at.start steps)) ends && joins steps frames depth (drop 1 ends))) is
    ∙ and_from (nests (suc depth) (drop frame.start steps)) (bytes_eq (closings frame.start (drop frame.start steps)) ends && joins steps frames depth (drop 1 ends)) nested
    (and_from (bytes_eq (closings frame.start (drop frame.start steps)) ends) (joins steps frames depth (drop 1 ends)) (bytes_eq-same _ _ same) rest)

pub open-stands : (steps : List Step) (cursor : Cursor) (count : ℕ) → IsHere steps cursor (Repeat count) → Stands steps cursor → Stands steps (opened cursor count)
unfolding closings entered
open-stands steps cursor count at stands =
    let fits = open-fits steps cursor count at stands in
    let rest = drop (cursor.place + 1) steps in
    let frames = slice_set cursor.frames cursor.depth (entered cursor count) in
    let within : cursor.depth < length cursor.frames = omega (arith, stands.room, fits.1) in
    let one : cursor.depth + 1 ≡ suc cursor.depth = omega arith in
    record {
      deep = omega (arith, fits.1);
      room = length-set cursor.frames cursor.depth (entered cursor count) ∙ stands.room;
      nested = ap (λ depth. nests depth rest) one ∙ open-nests steps cursor count at stands;
      joined = ap (λ depth. joins steps frames depth (closings (cursor.place + 1) rest)) one
          ∙ joins-suc steps frames cursor.depth (entered cursor count) (closings (cursor.place + 1) rest) (own-frame cursor.frames cursor.depth (entered cursor count) within)
          (open-nests steps cursor count at stands) refl
          (joins-below steps cursor.frames cursor.depth cursor.depth (entered cursor count) (drop 1 (closings (cursor.place + 1) rest)) (omega arith)
          ∙ here-joins steps cursor (Repeat count) at stands);
    }

-- a body that comes at least once
pass-first : (count : ℕ) (body rest : List Tick) → 0 < count
    → times count (body ++ turned ∷ []) ++ rest ≡ body ++ (turned ∷ times (count - 1) (body ++ turned ∷ []) ++ rest)
unfolding times
pass-first count body rest some =
    let more : count ≡ suc (count - 1) = omega arith in
    let round : List Tick = body ++ turned ∷ [] in
    let others : List Tick = times (count - 1) round in
    ap (λ n. times n round ++ rest) more ∙ append_assoc round others rest ∙ append_assoc body (turned ∷ []) (others ++ rest)

pub open-does : (steps : List Step) (cursor : Cursor) (count : ℕ) → IsHere steps cursor (Repeat count) → Stands steps cursor
    → ticks_left steps cursor ≡ turned ∷ ticks_left steps (opened cursor count)
unfolding tick_parts entered
open-does steps cursor count at stands =
    let fits = open-fits steps cursor count at stands in
    let rest = drop (cursor.place + 1) steps in
    let body = get_or (tick_parts rest) 0 [] in
    let parts = drop 1 (tick_parts rest) in
    let outer = resumed steps cursor.frames cursor.depth parts in
    let frames = slice_set cursor.frames cursor.depth (entered cursor count) in
    let within : cursor.depth < length cursor.frames = omega (arith, stands.room, fits.1) in
    let one : suc cursor.depth ≡ cursor.depth + 1 = omega arith in
    let inner : resumed steps frames (suc cursor.depth) (tick_parts rest) ≡ body ++ (turned ∷ times (count - 1) (body ++ turned ∷ []) ++ outer) =
    ap₂ (λ (frame : Frame) (following : List Tick). body ++ (turned ∷ times frame.left (pass steps frame.start) ++ following))
    (own-frame cursor.frames cursor.depth (entered cursor count) within)
    (resumed-below steps cursor.frames cursor.depth cursor.depth (entered cursor count) parts (omega arith)) in
    here-ticks steps cursor (Repeat count) at
    ∙ ap (λ (lines : List (List Tick)). resumed steps cursor.frames cursor.depth (turned_over count lines)) (tick_parts-cons rest)
    ∙ resumed-led_by steps cursor.frames cursor.depth (turned ∷ times count (body ++ turned ∷ [])) parts
    ∙ ap (λ (ticks : List Tick). turned ∷ ticks)
    (pass-first count body outer fits.0
    ∙ sym inner
    ∙ ap (λ depth. resumed steps frames depth (tick_parts rest)) one
    ∙ sym (idle-ticks steps (opened cursor count) at.idle))

-- ---- an `end`

pub close-fits : (steps : List Step) (cursor : Cursor) → IsHere steps cursor End → Stands steps cursor → 0 < cursor.depth
unfolding nests
close-fits steps cursor at stands = by_depth cursor.depth (here-nests steps cursor End at stands)
  where
    by_depth : (depth : ℕ) → nests depth (End ∷ drop (cursor.place + 1) steps) ≡ true → 0 < depth
    by_depth zero nested = absurd cc
    by_depth (suc depth) nested = omega arith

-- what is known of the body that ends
record Ends (steps : List Step) (cursor : Cursor) (outer : ℕ) (frame : Frame) : Type 0 where
  deeper : cursor.depth ≡ suc outer
  own : frame_at cursor.frames outer ≡ frame
  within : outer < length cursor.frames
  body : nests (suc outer) (drop frame.start steps) ≡ true
  same : closings frame.start (drop frame.start steps) ≡ closings cursor.place (drop cursor.place steps)
  nested : nests outer (drop (cursor.place + 1) steps) ≡ true
  joined : joins steps cursor.frames outer (closings (cursor.place + 1) (drop (cursor.place + 1) steps)) ≡ true

close-ends : (steps : List Step) (cursor : Cursor) → IsHere steps cursor End → Stands steps cursor → Ends steps cursor (cursor.depth - 1) (innermost cursor)
unfolding nests closings
close-ends steps cursor at stands =
    let outer = cursor.depth - 1 in
    let frame = innermost cursor in
    let rest = drop (cursor.place + 1) steps in
    let ends = (cursor.place + 1) ∷ closings (cursor.place + 1) rest in
    let inside : 0 < cursor.depth = close-fits steps cursor at stands in
    let deeper : cursor.depth ≡ suc outer = omega arith in
    let joined : joins steps cursor.frames (suc outer) ends ≡ true = ap (λ depth. joins steps cursor.frames depth ends) (sym deeper) ∙ here-joins steps cursor End at stands in
    let parts = and_parts (nests (suc outer) (drop frame.start steps)) (bytes_eq (closings frame.start (drop frame.start steps)) ends && joins steps cursor.frames outer (drop 1 ends)) joined in
    let more = and_parts (bytes_eq (closings frame.start (drop frame.start steps)) ends) (joins steps cursor.frames outer (drop 1 ends)) parts.1 in
    record {
      deeper = deeper;
      own = refl;
      within = omega (arith, stands.room, stands.deep);
      body = parts.0;
      same = same_bytes (closings frame.start (drop frame.start steps)) ends more.0 ∙ ap (closings cursor.place) (sym at.here);
      nested = ap (λ depth. nests depth (End ∷ rest)) (sym deeper) ∙ here-nests steps cursor End at stands;
      joined = more.1;
    }

less : Cursor → Frame
less cursor = record { start = (innermost cursor).start; left = (innermost cursor).left - 1 }

again-stands : (steps : List Step) (cursor : Cursor) → IsHere steps cursor End → Stands steps cursor → Stands steps (again cursor)
unfolding closings less
again-stands steps cursor at stands =
    let ends = close-ends steps cursor at stands in
    let outer = cursor.depth - 1 in
    let start = (innermost cursor).start in
    let body = drop start steps in
    let frames = slice_set cursor.frames outer (less cursor) in
    let after : drop 1 (closings start body) ≡ closings (cursor.place + 1) (drop (cursor.place + 1) steps) =
    ap (drop 1) (ends.same ∙ ap (closings cursor.place) at.here) in
    record {
      deep = stands.deep;
      room = length-set cursor.frames outer (less cursor) ∙ stands.room;
      nested = ap (λ depth. nests depth body) ends.deeper ∙ ends.body;
      joined = ap (λ depth. joins steps frames depth (closings start body)) ends.deeper
          ∙ joins-suc steps frames outer (less cursor) (closings start body) (own-frame cursor.frames outer (less cursor) ends.within) ends.body refl
          (joins-below steps cursor.frames outer outer (less cursor) (drop 1 (closings start body)) (omega arith)
          ∙ ap (joins steps cursor.frames outer) after
          ∙ ends.joined);
    }

outside-stands : (steps : List Step) (cursor : Cursor) → IsHere steps cursor End → Stands steps cursor → Stands steps (outside cursor)
outside-stands steps cursor at stands =
    let ends = close-ends steps cursor at stands in
    record { deep = omega (arith, stands.deep); room = stands.room; nested = ends.nested; joined = ends.joined }

-- what is left at an `end`
end-ticks : (steps : List Step) (cursor : Cursor) → IsHere steps cursor End → Stands steps cursor
    → ticks_left steps cursor
    ≡ turned ∷ (times (innermost cursor).left (pass steps (innermost cursor).start) ++ resumed steps cursor.frames (cursor.depth - 1) (tick_parts (drop (cursor.place + 1) steps)))
unfolding tick_parts
end-ticks steps cursor at stands =
    here-ticks steps cursor End at
    ∙ ap (λ depth. resumed steps cursor.frames depth ([] ∷ tick_parts (drop (cursor.place + 1) steps))) (close-ends steps cursor at stands).deeper

again-does : (steps : List Step) (cursor : Cursor) → IsHere steps cursor End → Stands steps cursor → 0 < (innermost cursor).left
    → ticks_left steps cursor ≡ turned ∷ ticks_left steps (again cursor)
unfolding tick_parts less
again-does steps cursor at stands some =
    let ends = close-ends steps cursor at stands in
    let outer = cursor.depth - 1 in
    let frame = innermost cursor in
    let parts = tick_parts (drop frame.start steps) in
    let body = get_or parts 0 [] in
    let frames = slice_set cursor.frames outer (less cursor) in
    let rest = tick_parts (drop (cursor.place + 1) steps) in
    let following : drop 1 parts ≡ rest = same-rest steps frame.start cursor.place ends.same ∙ ap (λ (lines : List Step). drop 1 (tick_parts lines)) at.here in
    let inner : resumed steps frames (suc outer) parts ≡ body ++ (turned ∷ times (frame.left - 1) (body ++ turned ∷ []) ++ resumed steps cursor.frames outer rest) =
    ap₂ (λ (at : Frame) (others : List Tick). body ++ (turned ∷ times at.left (pass steps at.start) ++ others))
    (own-frame cursor.frames outer (less cursor) ends.within)
    (resumed-below steps cursor.frames outer outer (less cursor) (drop 1 parts) (omega arith) ∙ ap (resumed steps cursor.frames outer) following) in
    end-ticks steps cursor at stands
    ∙ ap (λ (ticks : List Tick). turned ∷ ticks)
    (pass-first frame.left body (resumed steps cursor.frames outer rest) some
    ∙ sym inner
    ∙ ap (λ depth. resumed steps frames depth parts) (sym ends.deeper)
    ∙ sym (idle-ticks steps (again cursor) at.idle))

outside-does : (steps : List Step) (cursor : Cursor) → IsHere steps cursor End → Stands steps cursor → (innermost cursor).left ≤ 0
    → ticks_left steps cursor ≡ turned ∷ ticks_left steps (outside cursor)
unfolding times
outside-does steps cursor at stands none =
    let zero_left : (innermost cursor).left ≡ 0 = omega arith in
    let rest = resumed steps cursor.frames (cursor.depth - 1) (tick_parts (drop (cursor.place + 1) steps)) in
    end-ticks steps cursor at stands
    ∙ ap (λ count. turned ∷ (times count (pass steps (innermost cursor).start) ++ rest)) zero_left
    ∙ ap (λ (ticks : List Tick). turned ∷ ticks) (sym (idle-ticks steps (outside cursor) at.idle))

pub close-stands : (steps : List Step) (cursor : Cursor) → IsHere steps cursor End → Stands steps cursor → Stands steps (closed cursor)
close-stands steps cursor at stands =
    cond_both (nat_lt 0 (innermost cursor).left) (again cursor) (outside cursor) (Stands steps)
    (λ some. again-stands steps cursor at stands) (λ none. outside-stands steps cursor at stands)

pub close-does : (steps : List Step) (cursor : Cursor) → IsHere steps cursor End → Stands steps cursor → ticks_left steps cursor ≡ turned ∷ ticks_left steps (closed cursor)
close-does steps cursor at stands =
    cond_both (nat_lt 0 (innermost cursor).left) (again cursor) (outside cursor) (λ (after : Cursor). ticks_left steps cursor ≡ turned ∷ ticks_left steps after)
    (λ some. again-does steps cursor at stands (ltb-true 0 (innermost cursor).left some))
    (λ none. outside-does steps cursor at stands (ltb-false 0 (innermost cursor).left none))

-- ---- no line

pub ended-does : (steps : List Step) (cursor : Cursor) → cursor.toggles ≡ 0 → drop cursor.place steps ≡ [] → Stands steps cursor → ticks_left steps cursor ≡ []
unfolding nests tick_parts
ended-does steps cursor idle none stands =
    let nested : (cursor.depth == 0) ≡ true = ap (nests cursor.depth) (sym none) ∙ stands.nested in
    let outermost : cursor.depth ≡ 0 = eqb-true cursor.depth 0 nested in
    idle-ticks steps cursor idle
    ∙ ap (λ (rest : List Step). resumed steps cursor.frames cursor.depth (tick_parts rest)) none
    ∙ ap (λ depth. resumed steps cursor.frames depth ([] ∷ [])) outermost

-- ---- the step at a place

pub step-here : (steps : List Step) (cursor : Cursor) (step : Step) → cursor.toggles ≤ 0 → Some step ≡ slice_get steps cursor.place → IsHere steps cursor step
step-here steps cursor step idle found =
    let within : cursor.place < length steps = slice_get_within steps cursor.place step (sym found) in
    record {
      idle = omega arith;
      here = drop_more steps cursor.place step within
          ∙ ap (λ (first : Step). first ∷ drop (cursor.place + 1) steps) (get_or_from_slice_get steps cursor.place step step (sym found));
    }

pub none-here : (steps : List Step) (place : ℕ) → None ≡ slice_get steps place → drop place steps ≡ []
none-here [] place found = drop_of_length-le [] (omega arith)
none-here (step ∷ steps) zero found = absurd cc
none-here (step ∷ steps) (suc place) found = none-here steps place found

-- ---- moves

pub moves-moved : (steps : List Step) (old new : Cursor) (first : Move) → ticks_left steps old ≡ given first ∷ ticks_left steps new → moves_left steps old ≡ first ∷ moves_left steps new
unfolding moves_left
moves-moved steps old new first does = ap (flat_map tick_moves) does

pub moves-turned : (steps : List Step) (old new : Cursor) → ticks_left steps old ≡ turned ∷ ticks_left steps new → moves_left steps new ≡ moves_left steps old
unfolding moves_left
moves-turned steps old new does = sym (ap (flat_map tick_moves) does)

pub moves-ended : (steps : List Step) (cursor : Cursor) → ticks_left steps cursor ≡ [] → moves_left steps cursor ≡ []
unfolding moves_left
moves-ended steps cursor does = ap (flat_map tick_moves) does
