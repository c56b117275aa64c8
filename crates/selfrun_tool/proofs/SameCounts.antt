-- Equal counts.
use Rattle.std.proofs.Common.{◌≡◌, ℕ}
use Rattle.selfrun_tool.specs.declared.counts.Counts.{Counts}

abbrev counts_by : ℕ → ℕ → ℕ → ℕ → ℕ → ℕ → ℕ → ℕ → Counts
counts_by bin nets cells rams wires events explained ones = record { bin = bin; nets = nets; cells = cells; rams = rams; wires = wires; events = events; explained = explained; ones = ones }

pub same-counts : (one other : Counts) → one.bin ≡ other.bin → one.nets ≡ other.nets → one.cells ≡ other.cells → one.rams ≡ other.rams → one.wires ≡ other.wires
    → one.events ≡ other.events → one.explained ≡ other.explained → one.ones ≡ other.ones → one ≡ other
same-counts one other bin nets cells rams wires events explained ones =
    let same : counts_by one.bin one.nets one.cells one.rams one.wires one.events one.explained one.ones
    ≡ counts_by other.bin other.nets other.cells other.rams other.wires other.events other.explained other.ones = cc in
    same
