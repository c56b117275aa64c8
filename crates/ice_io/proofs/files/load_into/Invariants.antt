use Rattle.std.proofs.Common.{◌≡◌, ℕ, List, length, vec_len, ◌-◌, ◌+◌, ◌≤◌}
use Rattle.ice_io.specs.Faults.{RoseBy}
use Rattle.ice_io.specs.Files.{HasFront}
use Rattle.ice_io.specs.Takers.{TakesMore}
use Rattle.ice_io.proofs.files.load_into.Given as goal

-- the first bytes of the file are those that the taker took
abbrev pub invariant-loop-buffer : goal.invariant-loop-buffer
invariant-loop-buffer g l =
    let F = g.F.Files in
    record {
      taken : (bytes : List ℕ) × HasFront (F.contents l.initial.files) l.name bytes × (length bytes ≡ l.taken)
          × TakesMore g.T.Taker.has_taken l.initial.taker l.taker bytes;
      fed : g.T.Taker.fed l.taker ≤ l.taken;
      within : l.taken ≤ l.limit;
      room : 1 ≤ vec_len l.buffer;
      most : vec_len l.buffer ≤ 65536;
      read : RoseBy l.taken (F.bytes_read l.initial.files) (F.bytes_read l.files);
      bytes : F.bytes_read l.initial.files ≤ F.bytes_read l.files;
      faults : F.load_faults l.initial.files ≤ F.load_faults l.files;
      same_contents : F.contents l.files ≡ F.contents l.initial.files;
      same_steady : F.steady l.files ≡ F.steady l.initial.files;
      same_stores : F.stores l.files ≡ F.stores l.initial.files;
      same_store_faults : F.store_faults l.files ≡ F.store_faults l.initial.files;
    }

abbrev pub decreases-loop-buffer : goal.decreases-loop-buffer
decreases-loop-buffer g l = l.limit + 1 - l.taken
