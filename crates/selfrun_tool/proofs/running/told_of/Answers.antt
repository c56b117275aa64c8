use Rattle.std.proofs.Common.{subst, sym}
use Rattle.layout_file.specs.Layouts.{HasLayout, standard_layouts}
use Rattle.ice_image.specs.Configuration.{Configuration}
use Rattle.selfrun_tool.proofs.StandardImage.{image-standard}
use Rattle.selfrun_tool.proofs.running.told_of.Goals as goal

pub pack-requires : goal.pack-requires
pack-requires c = subst (λ (image : Configuration). HasLayout standard_layouts image.layout) (sym c.requires) (image-standard c.args.request.device c.args.request.seed)
