use Rattle.std.proofs.Common.{sym}
use Rattle.std.proofs.lemmas.Option.{slice_get_past, slice_get-get_or}
use Rattle.image_explain.proofs.places.link_at.Goals as goal

pub returns-then-place-links : goal.returns-then-place-links
returns-then-place-links c = sym (slice_get-get_or c.args.links.now c.args.place _ c.if-place-links.true)

pub returns-else-place-links : goal.returns-else-place-links
returns-else-place-links c = sym (slice_get_past c.args.links.now c.args.place c.if-place-links.false)
