-- The layouts of the devices, and those that a layout file gives.
use Rattle.std.specs.Prelude.{◌≡◌, ℕ, true, false, List, length, unwrap_or}
use Rattle.text_lines.specs.Lines.{lines_of}
use Rattle.plane_map.specs.declared.device.DeviceName.{DeviceName}
use Rattle.plane_map.specs.declared.device.DeviceName.TheVariants.{Lp384, Hx1k, Hx8k}
use Rattle.plane_map.specs.Layout.{Layout, standard_layout, standard_widths, standard_side_columns, standard_pad_columns, standard_pad_rows, standard_banks}
use Rattle.layout_file.specs.declared.field.Numbers.TheVariants.{Widths, SideColumns, PadColumns, PadRows, Banks}
use Rattle.layout_file.specs.declared.field.Flag.TheVariants.{Mirror, Flip, PadMirror, RamFlip}
use Rattle.layout_file.specs.declared.layouts.Layouts.{Layouts}
use Rattle.layout_file.specs.Faults.{numbers_before, flag_before}

-- the layout of a device
abbrev pub layout_for : Layouts → DeviceName → Layout
layout_for layouts Lp384 = layouts.lp384
layout_for layouts Hx1k = layouts.hx1k
layout_for layouts Hx8k = layouts.hx8k

-- a layout of each device
abbrev pub layouts_by : (DeviceName → Layout) → Layouts
layouts_by layout = record { lp384 = layout Lp384; hx1k = layout Hx1k; hx8k = layout Hx8k }

-- each layout is one of the device that it is named for
abbrev pub AreLayouts : Layouts → Type 0
AreLayouts layouts = (device : DeviceName) → (layout_for layouts device).device ≡ device

-- the layouts give this layout for its device
abbrev pub HasLayout : Layouts → Layout → Type 0
HasLayout layouts layout = layout_for layouts layout.device ≡ layout

-- the layouts that hold if no others are given
abbrev pub standard_layouts : Layouts
standard_layouts = layouts_by standard_layout

-- the layout of a device that the lines before a line give; what isn't given is standard
abbrev pub layout_before : List (List ℕ) → ℕ → DeviceName → Layout
layout_before lines n device = record {
  device = device;
  widths = unwrap_or (numbers_before lines n device Widths) (standard_widths device);
  side_columns = unwrap_or (numbers_before lines n device SideColumns) standard_side_columns;
  pad_columns = unwrap_or (numbers_before lines n device PadColumns) standard_pad_columns;
  pad_rows = unwrap_or (numbers_before lines n device PadRows) standard_pad_rows;
  banks = unwrap_or (numbers_before lines n device Banks) standard_banks;
  mirror = unwrap_or (flag_before lines n device Mirror) true;
  flip = unwrap_or (flag_before lines n device Flip) true;
  pad_mirror = unwrap_or (flag_before lines n device PadMirror) false;
  ram_flip = unwrap_or (flag_before lines n device RamFlip) true;
}

-- the layouts that a layout file without a faulty line gives
unfoldable pub layouts_in : List ℕ → Layouts
layouts_in bytes = let lines = lines_of bytes in layouts_by (layout_before lines (length lines))
