use Rattle.std.proofs.Common.{◌≡◌, ◌++◌}
use Rattle.index_search.specs.Places.{gathered_below}
use Rattle.text_lines.specs.Written.{text_of}
use Rattle.ice_gen.specs.Database.{net_lines}
use Rattle.ice_gen.proofs.names.append_nets.Given as goal

abbrev pub invariant-loop-net : goal.invariant-loop-net
invariant-loop-net l =
    l.text.items ≡ l.initial.text.items ++ text_of (gathered_below l.net (net_lines l.device))
