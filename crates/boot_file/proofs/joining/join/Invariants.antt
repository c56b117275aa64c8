use Rattle.boot_file.specs.BootFile.{HasBytes, boot_byte, bytes_of, start_of}
use Rattle.boot_file.proofs.joining.join.Given as goal

abbrev pub invariant-loop-index : goal.invariant-loop-index
invariant-loop-index l = HasBytes (boot_byte (bytes_of l.images) l.fn.options) (start_of (bytes_of l.images) l.fn.options l.index) l.file.items
