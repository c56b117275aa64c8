-- What a reader of a layout file keeps between the lines, and how it takes one.
use Rattle.std.specs.Prelude.{◌≡◌, ℕ, Bool, true, false, not, List, length, nat_lt, ◌==◌, Option, Some, None}
use Rattle.index_search.specs.Places.{or_else}
use Rattle.plane_map.specs.declared.device.DeviceName.{DeviceName}
use Rattle.plane_map.specs.declared.device.DeviceName.TheVariants.{Lp384, Hx1k, Hx8k}
use Rattle.plane_map.specs.DeviceWords.{device_named}
use Rattle.plane_map.specs.Layout.{standard_layout}
use Rattle.layout_file.specs.declared.field.Numbers.{Numbers}
use Rattle.layout_file.specs.declared.field.Numbers.TheVariants.{Widths, SideColumns, PadColumns, PadRows, Banks}
use Rattle.layout_file.specs.declared.field.Flag.{Flag}
use Rattle.layout_file.specs.declared.field.Flag.TheVariants.{Mirror, Flip, PadMirror, RamFlip}
use Rattle.layout_file.specs.declared.fault.LayoutCause.{LayoutCause}
use Rattle.layout_file.specs.declared.fault.LayoutCause.TheVariants.{Statement, Device, Repeated}
use Rattle.layout_file.specs.declared.layouts.Layouts.{Layouts}
use Rattle.layout_file.specs.declared.line.LineKind.{LineKind}
use Rattle.layout_file.specs.declared.line.LineKind.TheVariants as kind
use Rattle.layout_file.specs.declared.section.Given.{Given}
use Rattle.layout_file.specs.declared.section.Section.{Section as Part}
use Rattle.layout_file.specs.declared.reader.SectionReader.{SectionReader}
use Rattle.layout_file.specs.Lines.{Line, Passed, Section, List_of, Flag_of, Unknown}
use Rattle.layout_file.specs.Layouts.{layouts_by}
use Rattle.layout_file.specs.Faults.{is_section, device_in, cause_if, count_of, numbers_cause}

-- ---- sections

abbrev pub nothing_given : Given
nothing_given = record {
  widths = false;
  side_columns = false;
  pad_columns = false;
  pad_rows = false;
  banks = false;
  mirror = false;
  flip = false;
  pad_mirror = false;
  ram_flip = false;
}

-- a section of which no line was read
abbrev pub unread_section : DeviceName → Part
unread_section device = record { layout = standard_layout device; begun = false; given = nothing_given }

-- whether a field was given
abbrev pub has_numbers : Given → Numbers → Bool
has_numbers given Widths = given.widths
has_numbers given SideColumns = given.side_columns
has_numbers given PadColumns = given.pad_columns
has_numbers given PadRows = given.pad_rows
has_numbers given Banks = given.banks

abbrev pub has_flag : Given → Flag → Bool
has_flag given Mirror = given.mirror
has_flag given Flip = given.flip
has_flag given PadMirror = given.pad_mirror
has_flag given RamFlip = given.ram_flip

-- why the section refuses the numbers of a field
abbrev pub numbers_refusal : Part → Numbers → List ℕ → Option LayoutCause
numbers_refusal section field numbers =
    or_else (cause_if (not (length numbers == count_of section.layout.device field)) Statement)
    (or_else (cause_if (has_numbers section.given field) Repeated) (numbers_cause section.layout.device field numbers))

-- the section with the numbers of a field
abbrev pub with_numbers : Part → Numbers → List ℕ → Part
with_numbers section Widths numbers =
    record section { layout = record section.layout { widths = numbers }; given = record section.given { widths = true } }
with_numbers section SideColumns numbers =
    record section { layout = record section.layout { side_columns = numbers }; given = record section.given { side_columns = true } }
with_numbers section PadColumns numbers =
    record section { layout = record section.layout { pad_columns = numbers }; given = record section.given { pad_columns = true } }
with_numbers section PadRows numbers =
    record section { layout = record section.layout { pad_rows = numbers }; given = record section.given { pad_rows = true } }
with_numbers section Banks numbers =
    record section { layout = record section.layout { banks = numbers }; given = record section.given { banks = true } }

-- why the section refuses a field of `yes` or `no`
abbrev pub flag_refusal : Part → Flag → Option LayoutCause
flag_refusal section field = cause_if (has_flag section.given field) Repeated

-- the section with a field of `yes` or `no`
abbrev pub with_flag : Part → Flag → Bool → Part
with_flag section Mirror value =
    record section { layout = record section.layout { mirror = value }; given = record section.given { mirror = true } }
with_flag section Flip value =
    record section { layout = record section.layout { flip = value }; given = record section.given { flip = true } }
with_flag section PadMirror value =
    record section { layout = record section.layout { pad_mirror = value }; given = record section.given { pad_mirror = true } }
with_flag section RamFlip value =
    record section { layout = record section.layout { ram_flip = value }; given = record section.given { ram_flip = true } }

-- ---- the reader

-- a reader by the sections that it keeps
abbrev pub reader_of : (DeviceName → Part) → Option DeviceName → SectionReader
reader_of section current = record { lp384 = section Lp384; hx1k = section Hx1k; hx8k = section Hx8k; current = current }

-- the section of a device
abbrev pub section_for : SectionReader → DeviceName → Part
section_for reader Lp384 = reader.lp384
section_for reader Hx1k = reader.hx1k
section_for reader Hx8k = reader.hx8k

-- the reader with that section for a device
abbrev pub with_section : SectionReader → DeviceName → Part → SectionReader
with_section reader Lp384 section = record reader { lp384 = section }
with_section reader Hx1k section = record reader { hx1k = section }
with_section reader Hx8k section = record reader { hx8k = section }

-- no line was read
abbrev pub unread : SectionReader
unread = reader_of unread_section None

-- the layouts that were given
abbrev pub layouts_of : SectionReader → Layouts
layouts_of reader = layouts_by (λ device. (section_for reader device).layout)

-- a section begins
abbrev pub begin_refusal : SectionReader → Option DeviceName → Option LayoutCause
begin_refusal reader None = Some Device
begin_refusal reader (Some device) = cause_if (section_for reader device).begun Repeated

abbrev pub begun_with : SectionReader → Option DeviceName → SectionReader
begun_with reader None = reader
begun_with reader (Some device) = record (with_section reader device (record (section_for reader device) { begun = true })) { current = Some device }

-- a field of numbers in the section of a device
abbrev pub list_refusal_at : SectionReader → Option DeviceName → Numbers → List ℕ → Option LayoutCause
list_refusal_at reader None field numbers = Some Statement
list_refusal_at reader (Some device) field numbers = numbers_refusal (section_for reader device) field numbers

abbrev pub with_list_at : SectionReader → Option DeviceName → Numbers → List ℕ → SectionReader
with_list_at reader None field numbers = reader
with_list_at reader (Some device) field numbers = with_section reader device (with_numbers (section_for reader device) field numbers)

abbrev pub list_refusal : SectionReader → Numbers → List ℕ → Option LayoutCause
list_refusal reader field numbers = list_refusal_at reader reader.current field numbers

abbrev pub with_list : SectionReader → Numbers → List ℕ → SectionReader
with_list reader field numbers = with_list_at reader reader.current field numbers

-- a field of `yes` or `no` in the section of a device
abbrev pub flag_refusal_at : SectionReader → Option DeviceName → Flag → Option LayoutCause
flag_refusal_at reader None field = Some Statement
flag_refusal_at reader (Some device) field = flag_refusal (section_for reader device) field

abbrev pub with_flag_at : SectionReader → Option DeviceName → Flag → Bool → SectionReader
with_flag_at reader None field value = reader
with_flag_at reader (Some device) field value = with_section reader device (with_flag (section_for reader device) field value)

abbrev pub flag_refusal_in : SectionReader → Flag → Option LayoutCause
flag_refusal_in reader field = flag_refusal_at reader reader.current field

abbrev pub with_flag_in : SectionReader → Flag → Bool → SectionReader
with_flag_in reader field value = with_flag_at reader reader.current field value

-- why the reader refuses a line
abbrev pub refusal : SectionReader → Line → Option LayoutCause
refusal reader Passed = None
refusal reader (Section word) = begin_refusal reader (device_named word)
refusal reader (List_of field numbers) = list_refusal reader field numbers
refusal reader (Flag_of field value) = flag_refusal_in reader field
refusal reader Unknown = Some Statement

-- the reader after a line
abbrev pub taken : SectionReader → Line → SectionReader
taken reader Passed = reader
taken reader (Section word) = begun_with reader (device_named word)
taken reader (List_of field numbers) = with_list reader field numbers
taken reader (Flag_of field value) = with_flag_in reader field value
taken reader Unknown = reader

-- ---- what the code sees of a line

-- words that aren't all numbers, or more numbers than any field has
abbrev pub is_long : Option (List ℕ) → Bool
is_long None = true
is_long (Some numbers) = nat_lt 18 (length numbers)

-- a line that each reader refuses
abbrev pub is_refused_always : Line → Bool
is_refused_always Unknown = true
is_refused_always (List_of field numbers) = nat_lt 18 (length numbers)
is_refused_always line = false

pub record IsBeginning (device : Option DeviceName) (line : Line) : Type 0 where
  pub begins : is_section line ≡ true
  pub named : device_in line ≡ device

-- that a line says what the code sees of it
abbrev pub Says : LineKind → Line → Type 0
Says kind.Passed line = line ≡ Passed
Says (kind.Section device) line = IsBeginning device line
Says (kind.List field numbers) line = line ≡ List_of field numbers
Says (kind.Answer field value) line = line ≡ Flag_of field value
Says kind.Unknown line = is_refused_always line ≡ true
