use Rattle.std.proofs.Common.{refl, sym}
use Rattle.std.proofs.lemmas.Option.{slice_get_past}
use Rattle.image_explain.proofs.Gathered.{item-found}
use Rattle.image_explain.proofs.places.function_at.Goals as goal

pub returns-then-place-functions : goal.returns-then-place-functions
returns-then-place-functions c = sym (item-found c.args.functions.now c.args.functions.now c.args.place c.index-functions-place.result refl c.if-place-functions.true c.index-functions-place.is)

pub returns-else-place-functions : goal.returns-else-place-functions
returns-else-place-functions c = sym (slice_get_past c.args.functions.now c.args.place c.if-place-functions.false)
