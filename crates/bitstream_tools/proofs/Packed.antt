-- What the records of packing and unpacking say of the answers.
use Rattle.std.proofs.Common.{◌≡◌, ◌∙◌, Bool, List, ℕ, sym, ap, ap₂}
use Rattle.layout_file.specs.declared.layouts.Layouts.{Layouts}
use Rattle.ice_pack.specs.Packed.{IsPacked, IsUnpacked}
use Rattle.tool_run.specs.Tasks.{Done}
use Rattle.bitstream_tools.specs.Pack.{packed, packed_under}
use Rattle.bitstream_tools.specs.Unpack.{unpacked, unpacked_under}

-- bytes that are packed are the answer
pub packed_is : (layouts : Layouts) (no_sleep : Bool) (text bytes : List ℕ) → IsPacked layouts text no_sleep bytes → packed_under no_sleep text layouts ≡ Done bytes
packed_is layouts no_sleep text bytes is =
    ap₂ (packed no_sleep) is.means.configures is.means.accepted ∙ ap Done (sym is.canonical)

-- and a text that is unpacked
pub unpacked_is : (layouts : Layouts) (bytes text : List ℕ) → IsUnpacked layouts bytes text → unpacked_under bytes layouts ≡ Done text
unpacked_is layouts bytes text is = ap unpacked is.read ∙ ap Done (sym is.canonical)
