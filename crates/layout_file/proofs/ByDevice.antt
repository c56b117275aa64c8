-- Layouts by their devices.
use Rattle.std.proofs.Common.{◌≡◌, ℕ, List, length, refl, ap, ◌∙◌}
use Rattle.text_lines.specs.Lines.{lines_of}
use Rattle.plane_map.specs.declared.device.DeviceName.{DeviceName}
use Rattle.plane_map.specs.declared.device.DeviceName.TheVariants.{Lp384, Hx1k, Hx8k}
use Rattle.plane_map.specs.Layout.{Layout, standard_layout}
use Rattle.layout_file.specs.declared.layouts.Layouts.{Layouts}
use Rattle.layout_file.specs.Layouts.{AreLayouts, layout_before, layout_for, layouts_by, layouts_in, standard_layouts}

-- the layout of a device
pub layout-by : (layout : DeviceName → Layout) (device : DeviceName) → layout_for (layouts_by layout) device ≡ layout device
layout-by layout Lp384 = refl
layout-by layout Hx1k = refl
layout-by layout Hx8k = refl

-- layouts that are each one of its device
pub are-layouts : (layout : DeviceName → Layout) → ((device : DeviceName) → (layout device).device ≡ device) → AreLayouts (layouts_by layout)
are-layouts layout own device = ap (λ (l : Layout). l.device) (layout-by layout device) ∙ own device

-- the layouts that hold if no others are given
pub standard-are : AreLayouts standard_layouts
standard-are = are-layouts standard_layout (λ device. refl)

-- the layouts of a text
pub read-are : (text : List ℕ) → AreLayouts (layouts_in text)
unfolding layouts_in
read-are text = are-layouts (layout_before (lines_of text) (length (lines_of text))) (λ device. refl)

-- the layouts give each of theirs for its device
pub own-layout : (layouts : Layouts) (device : DeviceName) → AreLayouts layouts → layout_for layouts (layout_for layouts device).device ≡ layout_for layouts device
own-layout layouts device are = ap (layout_for layouts) (are device)
