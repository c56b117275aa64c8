-- Which lines of a layout file are faulty. Indexes of lines count from 0.
use Rattle.std.specs.Prelude.{ℕ, ◌+◌, Bool, true, false, not, List, length, is_some, ◌==◌, if◌then◌else◌, Option, Some, None}
use Rattle.text_lines.specs.Lines.{lines_of, line_at}
use Rattle.index_search.specs.Places.{any_below, last_below, first_below, or_else}
use Rattle.plane_map.specs.declared.device.DeviceName.{DeviceName}
use Rattle.plane_map.specs.Devices.{is_same_device}
use Rattle.plane_map.specs.DeviceWords.{device_named}
use Rattle.plane_map.specs.Layout.{half_width, are_widths, are_places}
use Rattle.layout_file.specs.declared.field.Numbers.{Numbers}
use Rattle.layout_file.specs.declared.field.Numbers.TheVariants.{Widths, SideColumns, PadColumns, PadRows, Banks}
use Rattle.layout_file.specs.declared.field.Flag.{Flag}
use Rattle.layout_file.specs.declared.field.Flag.TheVariants.{Mirror, Flip, PadMirror, RamFlip}
use Rattle.layout_file.specs.declared.fault.LayoutCause.{LayoutCause}
use Rattle.layout_file.specs.declared.fault.LayoutCause.TheVariants.{Statement, Device, Repeated, Width, Place}
use Rattle.layout_file.specs.declared.fault.LayoutFault.{LayoutFault}
use Rattle.layout_file.specs.Lines.{Line, Passed, Section, List_of, Flag_of, Unknown, line_of}

-- what the line of an index says
abbrev pub said_at : List (List ℕ) → ℕ → Line
said_at lines n = line_of (line_at lines n)

-- ---- sections

-- whether a line begins a section
abbrev pub is_section : Line → Bool
is_section (Section word) = true
is_section line = false

-- the device of the section that a line begins
abbrev pub device_in : Line → Option DeviceName
device_in (Section word) = device_named word
device_in line = None

-- the device of the section that the line of an index begins, if there is an index
abbrev pub device_at : List (List ℕ) → Option ℕ → Option DeviceName
device_at lines None = None
device_at lines (Some k) = device_in (said_at lines k)

-- the device of the section to which a line belongs: the device of the last `.layout` before the line, and none before the first
unfoldable pub section_before : List (List ℕ) → ℕ → Option DeviceName
section_before lines n = device_at lines (last_below n (λ k. is_section (said_at lines k)))

-- whether there is a device, and it is this one
abbrev pub is_device : DeviceName → Option DeviceName → Bool
is_device device None = false
is_device device (Some other) = is_same_device device other

-- whether a section of the device begins before a line
unfoldable pub has_section : List (List ℕ) → ℕ → DeviceName → Bool
has_section lines n device = any_below n (λ k. is_device device (device_in (said_at lines k)))

-- ---- fields

abbrev pub is_numbers : Numbers → Numbers → Bool
is_numbers Widths Widths = true
is_numbers SideColumns SideColumns = true
is_numbers PadColumns PadColumns = true
is_numbers PadRows PadRows = true
is_numbers Banks Banks = true
is_numbers field other = false

abbrev pub is_flag : Flag → Flag → Bool
is_flag Mirror Mirror = true
is_flag Flip Flip = true
is_flag PadMirror PadMirror = true
is_flag RamFlip RamFlip = true
is_flag field other = false

-- the numbers that a line says for a field
abbrev pub numbers_in : Numbers → Line → Option (List ℕ)
numbers_in field (List_of other numbers) = if is_numbers field other then Some numbers else None
numbers_in field line = None

-- what a line says for a field of `yes` or `no`
abbrev pub flag_in : Flag → Line → Option Bool
flag_in field (Flag_of other value) = if is_flag field other then Some value else None
flag_in field line = None

-- the numbers that a line gives a device for a field, if the line is in the device's section
abbrev pub numbers_given : List (List ℕ) → DeviceName → Numbers → ℕ → Option (List ℕ)
numbers_given lines device field k = if is_device device (section_before lines k) then numbers_in field (said_at lines k) else None

-- what a line gives a device for a field of `yes` or `no`
abbrev pub flag_given : List (List ℕ) → DeviceName → Flag → ℕ → Option Bool
flag_given lines device field k = if is_device device (section_before lines k) then flag_in field (said_at lines k) else None

-- the numbers that the lines before a line give a device for a field
unfoldable pub numbers_before : List (List ℕ) → ℕ → DeviceName → Numbers → Option (List ℕ)
numbers_before lines n device field = first_below n (numbers_given lines device field)

-- what the lines before a line give a device for a field of `yes` or `no`
unfoldable pub flag_before : List (List ℕ) → ℕ → DeviceName → Flag → Option Bool
flag_before lines n device field = first_below n (flag_given lines device field)

-- how many numbers a field has
abbrev pub count_of : DeviceName → Numbers → ℕ
count_of device Widths = half_width device
count_of device SideColumns = 18
count_of device PadColumns = 18
count_of device PadRows = 16
count_of device Banks = 4

-- ---- causes

abbrev pub cause_if : Bool → LayoutCause → Option LayoutCause
cause_if true cause = Some cause
cause_if false cause = None

-- numbers that the field can't have
abbrev pub numbers_cause : DeviceName → Numbers → List ℕ → Option LayoutCause
numbers_cause device Widths numbers = cause_if (not (are_widths device numbers)) Width
numbers_cause device SideColumns numbers = cause_if (not (are_places 18 18 numbers)) Place
numbers_cause device PadColumns numbers = cause_if (not (are_places 18 42 numbers)) Place
numbers_cause device PadRows numbers = cause_if (not (are_places 16 16 numbers)) Place
numbers_cause device Banks numbers = cause_if (not (are_places 4 4 numbers)) Place

-- why the beginning of a section is faulty: an unknown device, or a device that has a section already
abbrev pub section_cause : List (List ℕ) → ℕ → Option DeviceName → Option LayoutCause
section_cause lines n None = Some Device
section_cause lines n (Some device) = cause_if (has_section lines n device) Repeated

-- why a field of numbers is faulty in a section
abbrev pub list_cause : List (List ℕ) → ℕ → Option DeviceName → Numbers → List ℕ → Option LayoutCause
list_cause lines n None field numbers = Some Statement
list_cause lines n (Some device) field numbers =
    or_else (cause_if (not (length numbers == count_of device field)) Statement)
    (or_else (cause_if (is_some (numbers_before lines n device field)) Repeated) (numbers_cause device field numbers))

-- why a field of `yes` or `no` is faulty in a section
abbrev pub flag_cause : List (List ℕ) → ℕ → Option DeviceName → Flag → Option LayoutCause
flag_cause lines n None field = Some Statement
flag_cause lines n (Some device) field = cause_if (is_some (flag_before lines n device field)) Repeated

-- the least cause for which a line is faulty
abbrev pub cause_of : List (List ℕ) → ℕ → Line → Option LayoutCause
cause_of lines n Passed = None
cause_of lines n (Section word) = section_cause lines n (device_named word)
cause_of lines n (List_of field numbers) = list_cause lines n (section_before lines n) field numbers
cause_of lines n (Flag_of field value) = flag_cause lines n (section_before lines n) field
cause_of lines n Unknown = Some Statement

-- a line by its number, and what is wrong with it
abbrev pub fault_with : ℕ → Option LayoutCause → Option LayoutFault
fault_with line None = None
fault_with line (Some cause) = Some (record { line = line; cause = cause })

-- what is wrong with the line of an index
abbrev pub fault_at : List (List ℕ) → ℕ → Option LayoutFault
fault_at lines n = fault_with (n + 1) (cause_of lines n (said_at lines n))

-- the first faulty line of a layout file; lines are numbered from 1
unfoldable pub layout_fault_of : List ℕ → Option LayoutFault
layout_fault_of bytes = let lines = lines_of bytes in first_below (length lines) (fault_at lines)
