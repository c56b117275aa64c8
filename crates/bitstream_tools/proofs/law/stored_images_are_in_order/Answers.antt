use Rattle.bitstream_tools.proofs.StoredOrder.{stored_in_order}
use Rattle.bitstream_tools.proofs.law.stored_images_are_in_order.Goals as goal

pub returns : goal.returns
returns c = stored_in_order
