use Rattle.std.proofs.Common.{◌≡◌, ℕ, List, length, vec_len, ◌-◌, ◌+◌, ◌≤◌}
use Rattle.std.specs.Io.KnownBytes.{Consumes}
use Rattle.ice_io.specs.Faults.{RoseBy}
use Rattle.ice_io.specs.Takers.{TakesMore}
use Rattle.ice_io.proofs.taker.feed_all.Given as goal

-- the bytes read from the source are those that the taker took
abbrev pub invariant-loop-buffer : goal.invariant-loop-buffer
invariant-loop-buffer g l = record {
  taken : (bytes : List ℕ) × Consumes (g.S.Source.left l.initial.source) (g.S.Source.left l.source) bytes × (length bytes ≡ l.taken)
      × TakesMore g.T.Taker.has_taken l.initial.taker l.taker bytes;
  fed : g.T.Taker.fed l.taker ≤ l.taken;
  within : l.taken ≤ l.limit;
  room : 1 ≤ vec_len l.buffer;
  most : vec_len l.buffer ≤ 65536;
  read : RoseBy l.taken (g.S.Source.bytes_read l.initial.source) (g.S.Source.bytes_read l.source);
  bytes : g.S.Source.bytes_read l.initial.source ≤ g.S.Source.bytes_read l.source;
  faults : g.S.Source.faults l.initial.source ≤ g.S.Source.faults l.source;
}

abbrev pub decreases-loop-buffer : goal.decreases-loop-buffer
decreases-loop-buffer g l = l.limit + 1 - l.taken
