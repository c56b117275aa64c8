use Rattle.std.proofs.Common.{◌<◌, ◌∙◌, ◌==◌, length, get_or, ap, sym, arith}
use Rattle.std.proofs.lemmas.Bool.{eq-eqb}
use Rattle.graph_order.specs.Wiring.{has}
use Rattle.graph_order.specs.Rows.{wiring_of}
use Rattle.graph_order.proofs.Closed.{level-open}
use Rattle.graph_order.proofs.Each.{row-all, any-has}
use Rattle.graph_order.proofs.Lists.{row-items}
use Rattle.graph_order.proofs.cycle.cycle_at.Goals as goal

pub has_level-requires : goal.has_level-requires
has_level-requires c =
    row-all (λ node. node < length c.args.levels.now) c.args.reads.now c.args.node c.index-reads-node.result c.deref.result.now
    (omega (arith, c.requires.node, c.requires.rows)) c.index-reads-node.is c.deref.ensures.value
    (λ node found. let less = c.requires.within c.args.node node found in omega (arith, less, c.requires.levels))

pub returns-else-has_level-clause-none : goal.returns-else-has_level-clause-none
returns-else-has_level-clause-none c =
    let row = c.index-reads-node.result in
    let at = c.args.node in
    let levels = c.args.levels.now in
    let within : at < length c.args.reads.now = omega (arith, c.requires.node, c.requires.rows) in
    let here = row-items c.args.reads.now at row row within c.index-reads-node.is ∙ sym c.deref.ensures.value in
    level-open (wiring_of c.args.driven.now c.args.reads.now) levels c.requires.none_rises at (λ other reads own.
    let found = any-has (λ node. get_or levels node 0 == get_or levels at 0) c.deref.result.now other (ap (λ list. has list other) (sym here) ∙ reads) (eq-eqb (get_or levels other 0) (get_or levels at 0) own) in
    absurd (cc (found, c.has_level.ensures, c.if-has_level.false)))
