use Rattle.std.proofs.Common.{◌∙◌, ◌++◌, Bool, List, ℕ, ap, length, subst}
use Rattle.vlog_semantics.specs.declared.event.Event.{Event}
use Rattle.long_events.specs.Streams.{events_left}
use Rattle.long_runs.specs.inside.Printing.{rest_text}
use Rattle.long_runs.proofs.Sent.{Adding, adding-begun, adding-ended, adding-next, falls}
use Rattle.long_runs.proofs.texts.push_rest.Goals as goal

pub loop-more-init : goal.loop-more-init
loop-more-init c = record {
  going = λ m entry prints. adding-begun m c.args.text.now.items c.args.printer.now entry (events_left c.args.events.now) prints;
  inputs = c.requires.inputs;
  counted = c.requires.counted;
}

pub next_piece-more-requires-clause-printing : goal.next_piece-more-requires-clause-printing
next_piece-more-requires-clause-printing c =
    let p = c.requires.printing in
    let going = c.loop-more.invariant.going p.m p.entry p.prints in
    record { m = p.m; entry = going.last; prints = going.prints }

pub loop-more-preserved : goal.loop-more-preserved
loop-more-preserved c = record {
  going = λ m entry prints.
      let all : List ℕ = c.args.text.now.items ++ rest_text c.args.printer.now m entry (events_left c.args.events.now) in
      let left : List Event = events_left c.loop-more.events in
      let going = subst (λ (more : Bool). Adding m c.loop-more.text.items c.loop-more.printer left more all) c.loop-more-test.true (c.loop-more.invariant.going m entry prints) in
      let added = c.in_ok-extend_from_slice.ensures.items ∙ ap (λ (piece : List ℕ). c.loop-more.text.items ++ piece) c.deref.ensures.value in
      adding-next m c.loop-more.text.items c.extend_from_slice.new.self.items c.loop-more.printer c.next_piece-more.new.self left (events_left c.next_piece-more.new.events) c.next_piece-more.result all going
      (c.next_piece-more.ensures.makes m going.last going.prints) added;
  inputs = c.next_piece-more.ensures.inputs;
  counted = c.next_piece-more.ensures.counted;
}

pub loop-more-smaller : goal.loop-more-smaller
loop-more-smaller c =
    let p = c.requires.printing in
    let going = c.loop-more.invariant.going p.m p.entry p.prints in
    let makes = c.next_piece-more.ensures.makes p.m going.last going.prints in
    falls c.loop-more.more c.next_piece-more.result (length (events_left c.loop-more.events)) (length (events_left c.next_piece-more.new.events)) c.loop-more-test.true makes.fewer

pub returns : goal.returns
returns c m entry prints =
    let all : List ℕ = c.args.text.now.items ++ rest_text c.args.printer.now m entry (events_left c.args.events.now) in
    let left : List Event = events_left c.loop-more.events in
    adding-ended m c.loop-more.text.items c.loop-more.printer left all
    (subst (λ (more : Bool). Adding m c.loop-more.text.items c.loop-more.printer left more all) c.loop-more-test.false (c.loop-more.invariant.going m entry prints))
