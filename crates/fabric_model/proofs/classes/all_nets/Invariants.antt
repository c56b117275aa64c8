use Rattle.std.proofs.Common.{◌≡◌, ℕ, ◌<◌, length, get_or}
use Rattle.fabric_model.proofs.classes.all_nets.Given as goal

abbrev pub invariant-loop-net : goal.invariant-loop-net
invariant-loop-net l = record { all : length l.all.items ≡ l.net; apart : (net : ℕ) → net < l.net → get_or l.all.items net 0 ≡ net }
