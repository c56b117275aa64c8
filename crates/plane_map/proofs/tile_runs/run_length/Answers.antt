use Rattle.std.proofs.Common.{sym, ap, ◌∙◌, Some}
use Rattle.plane_map.proofs.RunPlaces.{other-length, io-length}
use Rattle.plane_map.proofs.tile_runs.run_length.Goals as goal

pub returns-in-Io-2 : goal.returns-in-Io-2
returns-in-Io-2 c y there = io-length c.args.device c.args.x y (there ∙ ap (λ k. Some k) c.in-Io-2.is) (sym c.on_side.ensures ∙ c.if-on_side.false)

pub returns-in-Logic : goal.returns-in-Logic
returns-in-Logic c y there = c.tile_width.ensures ∙ other-length c.args.device c.args.x y c.args.kind there (c.in-Logic.is)
