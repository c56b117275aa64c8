-- The layouts are the standard ones.
use Rattle.std.proofs.Common.{IfOk, subst}
use Rattle.layout_file.specs.declared.layouts.Layouts.{Layouts}
use Rattle.ice_pack.specs.Packed.{PacksBack, PacksToItself}
use Rattle.ice_pack.proofs.unpacking.unpack.Goals as goal

pub returns-clause-back : goal.returns-clause-back
returns-clause-back c =
    subst (λ (layouts : Layouts). IfOk c.unpack_with.result (λ text. PacksBack layouts c.args.bin.now text.items)) c.standard.ensures.layouts c.unpack_with.ensures.back

pub returns-clause-itself : goal.returns-clause-itself
returns-clause-itself c =
    subst (λ (layouts : Layouts). IfOk c.unpack_with.result (λ text. PacksToItself layouts c.args.bin.now text.items)) c.standard.ensures.layouts c.unpack_with.ensures.itself
