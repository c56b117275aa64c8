-- The layout of an image that is read.
use Rattle.std.proofs.Common.{◌≡◌, ℕ, ◌∙◌, Bool, true, false, List, length, sym, ap, subst}
use Rattle.std.specs.Prelude.{is_some, if◌then◌else◌, Option, Some, None, Result, Ok, Err}
use Rattle.text_lines.specs.Lines.{lines_of}
use Rattle.plane_map.specs.declared.device.DeviceName.{DeviceName}
use Rattle.layout_file.specs.declared.layouts.Layouts.{Layouts}
use Rattle.layout_file.specs.Layouts.{AreLayouts, HasLayout, layout_for, layouts_in, standard_layouts}
use Rattle.layout_file.specs.Faults.{layout_fault_of}
use Rattle.layout_file.specs.declared.fault.LayoutFault.{LayoutFault}
use Rattle.layout_file.proofs.ByDevice.{own-layout, read-are, standard-are}
use Rattle.ice_image.specs.Bits.{image_from}
use Rattle.ice_image.specs.Configuration.{Configuration}
use Rattle.asc_text.specs.Faults.{Fault as TextFault, asc_fault_of}
use Rattle.asc_text.specs.Blocks.{device_before}
use Rattle.asc_text.specs.Meaning.{asc_image_of, image_for}
use Rattle.bin_stream.specs.Front.{preamble_offset}
use Rattle.bin_stream.specs.Refusals.{Fault as StreamFault}
use Rattle.bin_stream.specs.Spelling.{bin_read_of}
use Rattle.bin_stream.proofs.Decided.{decided}
use Rattle.tool_inputs.specs.Images.{image_read, of_stream, of_text}
use Rattle.tool_inputs.specs.Layouts.{layouts_for, layouts_read, layouts_with}

-- ---- layouts

with-are : (bytes : List ℕ) (fault : Option LayoutFault) (layouts : Layouts) → layouts_with (layouts_in bytes) fault ≡ Ok layouts → AreLayouts layouts
with-are bytes None layouts is = let same : layouts_in bytes ≡ layouts = cc in subst AreLayouts same (read-are bytes)
with-are bytes (Some fault) layouts is = absurd cc

-- the layouts for a tool are each one of its device
pub for-are : (layout : Option (List ℕ)) (layouts : Layouts) → layouts_for layout ≡ Ok layouts → AreLayouts layouts
unfolding layouts_read
for-are None layouts is = let same : standard_layouts ≡ layouts = cc in subst AreLayouts same standard-are
for-are (Some bytes) layouts is = with-are bytes (layout_fault_of bytes) layouts is

-- ---- images

stream-read : (read : Result Configuration StreamFault) (image : Configuration) → of_stream read ≡ Ok image → read ≡ Ok image
stream-read (Ok one) image is = cc
stream-read (Err fault) image is = absurd cc

text-read : (fault : Option TextFault) (read : Option Configuration) (image : Configuration) → of_text fault read ≡ Ok image → read ≡ Some image
text-read (Some fault) read image is = absurd cc
text-read None (Some one) image is = cc
text-read None None image is = absurd cc

text-layout : (layouts : Layouts) → AreLayouts layouts → (device : Option DeviceName) (lines : List (List ℕ)) (image : Configuration) → image_for layouts device lines ≡ Some image → HasLayout layouts image.layout
unfolding image_from
text-layout layouts are None lines image is = absurd cc
text-layout layouts are (Some device) lines image is =
    let laid : layout_for layouts device ≡ image.layout = cc in
    ap (λ layout. layout_for layouts layout.device) (sym laid) ∙ own-layout layouts device are ∙ laid

-- an image that is read under layouts has one of them
pub read-layout : (layouts : Layouts) → AreLayouts layouts → (bytes : List ℕ) (image : Configuration) → image_read layouts bytes ≡ Ok image → HasLayout layouts image.layout
unfolding image_read asc_image_of
read-layout layouts are bytes image is = by_case (is_some (preamble_offset bytes)) is
  where
    by_case : (streams : Bool) → (if streams then of_stream (bin_read_of layouts bytes) else of_text (asc_fault_of layouts bytes) (asc_image_of layouts bytes)) ≡ Ok image
        → HasLayout layouts image.layout
    by_case true read = (((decided layouts are bytes).spelled image).1 (stream-read (bin_read_of layouts bytes) image read)).layout
    by_case false read = let lines = lines_of bytes in text-layout layouts are (device_before lines (length lines)) lines image (text-read (asc_fault_of layouts bytes) (asc_image_of layouts bytes) image read)
