use Rattle.std.proofs.Common.{sym, ap, ◌≡◌, ◌∙◌}
use Rattle.bit_plane.specs.inside.Packed.{packed}
use Rattle.bit_plane.specs.Rows.{rows_of}
use Rattle.std.proofs.Common.{take, ◌*◌}
use Rattle.bit_plane.proofs.Kept.{bits_same}
use Rattle.bit_plane.proofs.plane.PlaneBits.same.Goals as goal

pub returns : goal.returns
returns g c =
    let here = c.args.self.now in
    let there = c.args.other.now in
    let lent : packed c.deref.result.now ≡ packed here.words.items = ap packed c.deref.ensures.value in
    let lent_too : packed c.deref-2.result.now ≡ packed there.words.items = ap packed c.deref-2.ensures.value in (
      λ equal. ap (λ bits. rows_of g.row.W g.row.H (take (g.row.W * g.row.H) bits)) (sym lent ∙ c.same.ensures.0 equal ∙ lent_too),
      λ rows. c.same.ensures.1 (lent ∙ bits_same g.row.W g.row.H here.words.items there.words.items (sym here.words.ok.0 ∙ here.sized) (sym there.words.ok.0 ∙ there.sized) here.clear there.clear rows ∙ sym lent_too),
    )
