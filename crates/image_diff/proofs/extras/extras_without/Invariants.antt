use Rattle.std.proofs.Common.{◌≡◌, not, filter, take}
use Rattle.ice_image.specs.Either.{configuration_of}
use Rattle.image_diff.specs.Differences.{is_set_extra}
use Rattle.image_diff.proofs.extras.extras_without.Given as goal

abbrev pub invariant-loop-at : goal.invariant-loop-at
invariant-loop-at l =
    l.alone.items ≡ filter (λ at. not (is_set_extra (configuration_of l.other) at)) (take l.at-index l.at-items)
