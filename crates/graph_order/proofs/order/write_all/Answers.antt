use Rattle.std.proofs.Common.{◌<◌, true, length, set, ap, sym, subst, ◌∙◌, arith}
use Rattle.std.proofs.lemmas.List.{length-set}
use Rattle.graph_order.specs.Wiring.{has}
use Rattle.graph_order.specs.Rows.{is_marked, wiring_of}
use Rattle.graph_order.specs.Ready.{IsWritten}
use Rattle.graph_order.proofs.Lists.{row-items}
use Rattle.graph_order.proofs.Written.{marked, nothing-written, written-more, popped-least, popped-ready, popped-others, fewer-left}
use Rattle.graph_order.proofs.order.write_all.Goals as goal

pub loop-node-init : goal.loop-node-init
loop-node-init c = record {
  marks = c.requires.marks;
  ready = c.in_ok-ready.ensures.ready;
  all = c.in_ok-ready.ensures.all;
  order = nothing-written (wiring_of c.args.driven.now c.args.reads.now) (is_marked c.args.written.now) c.new-order.result.items c.new-order.ensures.items c.requires.unmarked;
}

pub insert_ready-requires-clause-ready : goal.insert_ready-requires-clause-ready
insert_ready-requires-clause-ready c =
    let wiring = wiring_of c.args.driven.now c.args.reads.now in
    let node = c.in-Some.node in
    let i = c.loop-node.invariant in
    let ready = i.ready node c.in-Some.ensures.member in
    let old = is_marked c.loop-node.written in
    let new = is_marked (set c.loop-node.written node true) in
    let within : node < length c.loop-node.written = omega (arith, ready.within, i.marks) in
    popped-ready wiring old new node (marked c.loop-node.written node within) c.loop-node.ready c.pop_first.new.self c.in-Some.ensures.updates i.ready

pub insert_ready-requires-clause-others : goal.insert_ready-requires-clause-others
insert_ready-requires-clause-others c =
    let wiring = wiring_of c.args.driven.now c.args.reads.now in
    let node = c.in-Some.node in
    let i = c.loop-node.invariant in
    let ready = i.ready node c.in-Some.ensures.member in
    let old = is_marked c.loop-node.written in
    let new = is_marked (set c.loop-node.written node true) in
    let within : node < length c.loop-node.written = omega (arith, ready.within, i.marks) in
    let row = c.index-readers-node.result in
    let row_within : node < length c.args.readers.now = omega (arith, ready.within, c.requires.reader_rows) in
    popped-others wiring old new node (marked c.loop-node.written node within) (has c.deref.result.now) c.loop-node.ready c.pop_first.new.self
    (λ k reads. ap (λ list. has list k) (c.deref.ensures.value ∙ sym (row-items c.args.readers.now node row row row_within c.index-readers-node.is)) ∙ c.requires.readers_all k node reads)
    c.in-Some.ensures.updates i.all

pub loop-node-smaller : goal.loop-node-smaller
loop-node-smaller c =
    let wiring = wiring_of c.args.driven.now c.args.reads.now in
    let node = c.in-Some.node in
    let i = c.loop-node.invariant in
    let ready = i.ready node c.in-Some.ensures.member in
    let old = is_marked c.loop-node.written in
    let new = is_marked (set c.loop-node.written node true) in
    let within : node < length c.loop-node.written = omega (arith, ready.within, i.marks) in
    fewer-left wiring old new node (marked c.loop-node.written node within) (length c.args.driven.now) ready.within ready.unlisted

pub loop-node-preserved : goal.loop-node-preserved
loop-node-preserved c =
    let wiring = wiring_of c.args.driven.now c.args.reads.now in
    let node = c.in-Some.node in
    let i = c.loop-node.invariant in
    let ready = i.ready node c.in-Some.ensures.member in
    let old = is_marked c.loop-node.written in
    let new = is_marked (set c.loop-node.written node true) in
    let within : node < length c.loop-node.written = omega (arith, ready.within, i.marks) in
    let marks = marked c.loop-node.written node within in
    let order = c.loop-node.order.items in
    let least = popped-least wiring old new node marks c.loop-node.ready c.in-Some.ensures.member c.in-Some.ensures.least i.ready i.all in
    record {
      marks = length-set c.loop-node.written node true ∙ i.marks;
      ready = c.in_ok-insert_ready.ensures.ready;
      all = c.in_ok-insert_ready.ensures.all;
      order = subst (λ list. IsWritten wiring new list) (sym c.in_ok-push.ensures.items) (written-more wiring old new node marks order least i.order);
    }
