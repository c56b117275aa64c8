use Rattle.std.proofs.Common.{◌≡◌, ℕ, false, ◌||◌, get_or, take}
use Rattle.std.specs.List.{list_any}
use Rattle.fabric_model.specs.Found.{touches}
use Rattle.fabric_model.proofs.reads.mark_ends.Given as goal

abbrev pub invariant-loop-link : goal.invariant-loop-link
invariant-loop-link l = (net : ℕ) → get_or l.reads net false ≡ (get_or l.fn.reads net false || list_any (touches net) (take l.link-index l.links))
