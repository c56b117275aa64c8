use Rattle.std.proofs.Common.{◌≡◌, ℕ, ◌<◌, ◌∙◌, sym, subst, ap, slice_index, arith}
use Rattle.plane_map.specs.declared.layout.Layout.TheInside.{Inside}
use Rattle.plane_map.specs.Inside.{laid_out, IsInside}
use Rattle.plane_map.specs.Layout.{half_width, start_of}
use Rattle.plane_map.proofs.Layouts.{half_width-le}
use Rattle.plane_map.proofs.Starts.{starts-at, start_in-take}
use Rattle.plane_map.proofs.layout.Layout.start.Goals as goal

-- of the fields
kept-start : (a : Inside) → IsInside a → (u : ℕ) → u < half_width a.device → slice_index a.starts u ≡ start_of (laid_out a) u
kept-start a s u h =
    ap (λ starts. slice_index starts u) (sym s.starts) ∙ starts-at a.widths 17 u (omega (arith, half_width-le a.device)) ∙ sym (start_in-take (half_width a.device) a.widths u (omega arith))

pub returns : goal.returns
returns c =
    subst (λ l. c.args.distance < half_width l.device → slice_index c.self.inside.starts c.args.distance ≡ start_of l c.args.distance) c.self.view_is
    (kept-start c.self.inside c.self.invariant c.args.distance) c.requires
