use Rattle.vlog_forms.proofs.Whole.{outcome-spells}
use Rattle.vlog_parser.specs.Drafts.{so_far}
use Rattle.vlog_parser.proofs.modules.whole_module.Goals as goal

pub of-requires : goal.of-requires
of-requires c = (outcome-spells c.args.bytes.now (so_far c.args.draft) c.requires).well_formed
