use Rattle.std.proofs.Common.{◌≡◌, ◌+◌, ◌-◌, ap, drop, sym, take, arith, ◌∙◌}
use Rattle.std.proofs.lemmas.List.{drop-take}
use Rattle.vlog_engine.proofs.reading.part.Goals as goal

pub returns-then-end-items : goal.returns-then-end-items
returns-then-end-items g c ordered within =
    let sum : c.args.from + (c.args.end - c.args.from) ≡ c.args.end = omega arith in
    sym (drop-take c.args.from (c.args.end - c.args.from) c.args.items.now) ∙ ap (λ n. drop c.args.from (take n c.args.items.now)) sum
