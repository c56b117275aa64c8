use Rattle.std.proofs.Common.{◌∙◌}
use Rattle.bit_plane.proofs.Turned.{reversed-bytes}
use Rattle.bit_plane.proofs.order.bytes_of_word.Goals as goal

pub returns : goal.returns
returns c = c.to_be_bytes.ensures ∙ reversed-bytes c.args.word c.reversed.result c.reversed.ensures c.reversed.type_inv
