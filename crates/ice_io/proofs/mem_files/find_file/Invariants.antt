use Rattle.std.proofs.Common.{◌≡◌, drop, map}
use Rattle.std.specs.Ordering.{nat_cmp}
use Rattle.std.specs.Cmp.Lexicographic.{slice_cmp}
use Rattle.std.specs.FinMap.{find}
use Rattle.ice_io.specs.MemFiles.{entry_of}
use Rattle.ice_io.proofs.mem_files.find_file.Given as goal

abbrev pub invariant-loop-file : goal.invariant-loop-file
invariant-loop-file l =
    find (slice_cmp nat_cmp) l.name (map entry_of l.files) ≡ find (slice_cmp nat_cmp) l.name (map entry_of (drop l.file-index l.files))
