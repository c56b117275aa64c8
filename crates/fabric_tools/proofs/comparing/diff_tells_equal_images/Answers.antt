use Rattle.fabric_tools.proofs.Equal.{equal-told}
use Rattle.fabric_tools.proofs.comparing.diff_tells_equal_images.Goals as goal

pub returns : goal.returns
returns c = equal-told
