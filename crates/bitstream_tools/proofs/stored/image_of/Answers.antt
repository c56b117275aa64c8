use Rattle.std.proofs.Common.{ℕ, ap, sym, ◌∙◌}
use Rattle.std.specs.Prelude.{unwrap_or, Option}
use Rattle.bitstream_tools.proofs.StoredNames.{image-is}
use Rattle.bitstream_tools.proofs.stored.image_of.Goals as goal

pub returns-in-Some : goal.returns-in-Some
returns-in-Some c =
    ap (λ (found : Option ℕ). unwrap_or found 0) (sym c.in-Some.is ∙ c.index_of.ensures.is)
    ∙ image-is (λ name. name.now) c.args.names.now c.args.stored.now c.args.word _ c.requires.stored c.requires.word

pub returns-in-None : goal.returns-in-None
returns-in-None c =
    ap (λ (found : Option ℕ). unwrap_or found 0) (sym c.in-None.is ∙ c.index_of.ensures.is)
    ∙ image-is (λ name. name.now) c.args.names.now c.args.stored.now c.args.word _ c.requires.stored c.requires.word
