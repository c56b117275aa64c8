use Rattle.std.proofs.Common.{◌*◌, length, get_or}
use Rattle.boot_file.specs.BootFile.{HasBytes, header_byte}
use Rattle.boot_file.proofs.joining.headers.Given as goal

abbrev pub invariant-loop-index : goal.invariant-loop-index
invariant-loop-index l = HasBytes (header_byte (length l.places) (λ index. get_or l.places index 0) l.options) (32 * l.index) l.file.items
