use Rattle.std.proofs.Common.{◌≡◌, Some, length, sym, ap, ◌∙◌, take, rules, arith}
use Rattle.bin_stream.proofs.FrontGrown.{found-edge, start-after_edge, none-after_edge}
use Rattle.bin_stream.proofs.reading.edge.start_after.Goals as goal

pub returns-in-Some-clause-found : goal.returns-in-Some-clause-found
returns-in-Some-clause-found c =
    let three : length c.args.last ≡ 3 = search rules in
    let edge = take c.edge_of-edge.result.count c.edge_of-edge.result.bytes in
    found-edge c.args.last c.args.piece.now edge three c.edge_of-edge.ensures.bytes c.in-Some.offset (sym c.in-Some.ensures.offset) ∙ ap (λ n. Some n) (omega arith)

pub returns-in-None-clause-found : goal.returns-in-None-clause-found
returns-in-None-clause-found c =
    let three : length c.args.last ≡ 3 = search rules in
    let edge = take c.edge_of-edge.result.count c.edge_of-edge.result.bytes in
    start-after_edge c.args.last c.args.piece.now edge three c.edge_of-edge.ensures.bytes c.start_within.result (sym c.in-None.ensures.offset) c.start_within.ensures.within c.start_within.ensures.found

pub returns-in-None-clause-none : goal.returns-in-None-clause-none
returns-in-None-clause-none c = λ is.
    let three : length c.args.last ≡ 3 = search rules in
    let edge = take c.edge_of-edge.result.count c.edge_of-edge.result.bytes in
    none-after_edge c.args.last c.args.piece.now edge three c.edge_of-edge.ensures.bytes (sym c.in-None.ensures.offset) (c.start_within.ensures.none is)
