use Rattle.std.proofs.Common.{ℕ, ◌+◌, ◌<◌, ◌≤◌, slice_index, subst, arith}
use Rattle.std.proofs.lemmas.List.{get_or-take}
use Rattle.plane_map.specs.declared.layout.Layout.TheInside.{Inside}
use Rattle.plane_map.specs.Inside.{laid_out, IsInside}
use Rattle.plane_map.specs.Layout.{half_width, start_of, cram_width}
use Rattle.plane_map.proofs.Layouts.{width_of-fits}
use Rattle.plane_map.proofs.layout.Layout.width.Goals as goal

-- of the fields
kept-fits : (a : Inside) → IsInside a → (u : ℕ) → u < half_width a.device → start_of (laid_out a) u + slice_index a.widths u ≤ cram_width a.device
kept-fits a s u h = omega (arith, width_of-fits (laid_out a) s.layout u h, get_or-take (half_width a.device) a.widths u 0 h)

pub returns-clause-fits : goal.returns-clause-fits
returns-clause-fits c =
    subst (λ l. c.args.distance < half_width l.device → start_of l c.args.distance + slice_index c.self.inside.widths c.args.distance ≤ cram_width l.device) c.self.view_is
    (kept-fits c.self.inside c.self.invariant c.args.distance) c.requires
