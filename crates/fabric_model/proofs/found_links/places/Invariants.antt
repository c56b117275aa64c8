use Rattle.std.proofs.Common.{◌≡◌, map, take}
use Rattle.fabric_model.proofs.found_links.places.Given as goal

abbrev pub invariant-loop-link : goal.invariant-loop-link
invariant-loop-link l = l.places.items ≡ map (λ link. link.place) (take l.link-index l.links)
