use Rattle.std.proofs.Common.{vec_len, take, ◌-◌, ◌+◌, ◌≤◌}
use Rattle.std.specs.Io.KnownBytes.{Consumes}
use Rattle.ice_io.specs.Faults.{RoseBy}
use Rattle.ice_io.proofs.source.read_expected.Given as goal

abbrev pub invariant-loop-bytes : goal.invariant-loop-bytes
invariant-loop-bytes g l = record {
  taken : Consumes (g.S.Source.left l.initial.source) (g.S.Source.left l.source) (take l.filled l.bytes.items);
  filled : l.filled ≤ vec_len l.bytes;
  most : vec_len l.bytes ≤ l.limit + 1;
  below : l.filled ≤ l.limit;
  read : RoseBy l.filled (g.S.Source.bytes_read l.initial.source) (g.S.Source.bytes_read l.source);
  bytes : g.S.Source.bytes_read l.initial.source ≤ g.S.Source.bytes_read l.source;
  faults : g.S.Source.faults l.initial.source ≤ g.S.Source.faults l.source;
}

abbrev pub decreases-loop-bytes : goal.decreases-loop-bytes
decreases-loop-bytes g l = l.limit + 1 - l.filled
