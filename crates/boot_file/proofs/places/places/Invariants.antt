use Rattle.std.proofs.Common.{◌≡◌, ℕ, ◌^◌, ◌<◌, ◌≤◌, length, get_or}
use Rattle.boot_file.specs.BootFile.{bytes_of, place_of}
use Rattle.boot_file.proofs.places.places.Given as goal

abbrev pub invariant-loop-index : goal.invariant-loop-index
invariant-loop-index l = record {
  near : l.place < 2 ^ 24 → l.place ≡ place_of (bytes_of l.images) l.options l.index;
  far : 2 ^ 24 ≤ l.place → 2 ^ 24 ≤ place_of (bytes_of l.images) l.options l.index;
  count : length l.places.items ≡ l.index;
  found : (k : ℕ) → k < l.index → get_or l.places.items k 0 ≡ place_of (bytes_of l.images) l.options k;
  small : (k : ℕ) → get_or l.places.items k 0 < 2 ^ 24;
}
