use Rattle.std.specs.Prelude.{map, string_bytes}
use Rattle.design_tools.proofs.Fabric.{names-kept, promise-kept}
use Rattle.design_tools.proofs.writing.run_icebox_vlog.Goals as goal

pub returns-clause-fabric : goal.returns-clause-fabric
returns-clause-fabric g c = promise-kept _ (map string_bytes c.args.args.now) _ _ _ c.run_tool.ensures

pub returns-clause-names : goal.returns-clause-names
returns-clause-names g c = names-kept _ (map string_bytes c.args.args.now) _ _ _ c.run_tool.ensures
