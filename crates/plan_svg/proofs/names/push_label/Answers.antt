use Rattle.std.proofs.lemmas.Result.{on_ok_weaker}
use Rattle.plan_svg.proofs.Said.{label-written}
use Rattle.plan_svg.proofs.names.push_label.Goals as goal

pub returns : goal.returns
returns c =
    rw (← c.from-first.ensures, ← c.from-last.ensures)
    (on_ok_weaker c.push_escaped-3.result
    (λ ended.
    label-written c.from-first.result c.from-last.result c.args.name.now c.args.text.now.items c.push_escaped-2.new.text.items c.extend_from_slice.new.self.items c.push_escaped-3.new.text.items
    c.if-name-first.false c.in_ok-push_escaped.ensures c.in_ok-extend_from_slice.ensures.items ended)
    c.push_escaped-3.ensures)
