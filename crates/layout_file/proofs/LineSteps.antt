-- What the reader keeps is what the lines before the next one give.
use Rattle.std.proofs.Common.{◌≡◌, ℕ, suc, Bool, true, false, List, refl, ap, ◌∙◌}
use Rattle.std.specs.Prelude.{Option, Some, None, is_some, if◌then◌else◌}
use Rattle.std.proofs.Math.Bool.{or-false, or-true}
use Rattle.index_search.specs.Places.{any_below, first_below, last_below, or_else}
use Rattle.index_search.proofs.Places.{or_else-none}
use Rattle.plane_map.specs.declared.device.DeviceName.{DeviceName}
use Rattle.plane_map.specs.declared.device.DeviceName.TheVariants.{Lp384, Hx1k, Hx8k}
use Rattle.plane_map.specs.Devices.{is_same_device}
use Rattle.plane_map.specs.DeviceWords.{device_named}
use Rattle.layout_file.specs.declared.field.Numbers.{Numbers}
use Rattle.layout_file.specs.declared.field.Numbers.TheVariants.{Widths, SideColumns, PadColumns, PadRows, Banks}
use Rattle.layout_file.specs.declared.field.Flag.{Flag}
use Rattle.layout_file.specs.declared.field.Flag.TheVariants.{Mirror, Flip, PadMirror, RamFlip}
use Rattle.layout_file.specs.declared.fault.LayoutCause.TheVariants.{Repeated}
use Rattle.layout_file.specs.declared.section.Given.{Given}
use Rattle.layout_file.specs.declared.section.Section.{Section as Part}
use Rattle.layout_file.specs.declared.reader.SectionReader.{SectionReader}
use Rattle.layout_file.specs.Lines.{Line, Passed, Section, List_of, Flag_of, Unknown}
use Rattle.layout_file.specs.Faults.{said_at, is_section, device_in, section_before, has_section, is_device, numbers_in, flag_in, numbers_given, flag_given, numbers_before, flag_before, cause_if, cause_of, section_cause, list_cause, flag_cause}
use Rattle.layout_file.specs.Layouts.{layout_before}
use Rattle.layout_file.specs.inside.Reading.{begin_refusal, flag_refusal, flag_refusal_at, has_flag, has_numbers, list_refusal_at, numbers_refusal, reader_of, refusal, section_for, unread, with_section}

-- ---- what is kept before a line

abbrev pub given_before : List (List ℕ) → ℕ → DeviceName → Given
given_before lines n device = record {
  widths = is_some (numbers_before lines n device Widths);
  side_columns = is_some (numbers_before lines n device SideColumns);
  pad_columns = is_some (numbers_before lines n device PadColumns);
  pad_rows = is_some (numbers_before lines n device PadRows);
  banks = is_some (numbers_before lines n device Banks);
  mirror = is_some (flag_before lines n device Mirror);
  flip = is_some (flag_before lines n device Flip);
  pad_mirror = is_some (flag_before lines n device PadMirror);
  ram_flip = is_some (flag_before lines n device RamFlip);
}

abbrev pub part_before : List (List ℕ) → ℕ → DeviceName → Part
part_before lines n device = record { layout = layout_before lines n device; begun = has_section lines n device; given = given_before lines n device }

abbrev pub reader_before : List (List ℕ) → ℕ → SectionReader
reader_before lines n = reader_of (part_before lines n) (section_before lines n)

-- before the first line
pub reader-first : (lines : List (List ℕ)) → reader_before lines 0 ≡ unread
unfolding section_before has_section numbers_before flag_before any_below first_below last_below
reader-first lines = refl

-- ---- the sections of a reader

-- that of a device
pub section-of : (section : DeviceName → Part) (current : Option DeviceName) (device : DeviceName) → section_for (reader_of section current) device ≡ section device
section-of section current Lp384 = refl
section-of section current Hx1k = refl
section-of section current Hx8k = refl

-- readers with the same sections
pub same-sections : (before after : DeviceName → Part) (current now : Option DeviceName)
    → ((device : DeviceName) → after device ≡ before device) → now ≡ current → reader_of after now ≡ reader_of before current
same-sections before after current now kept is = rw (kept Lp384, kept Hx1k, kept Hx8k, is) refl

-- readers whose sections differ at one device
pub other-section : (before after : DeviceName → Part) (current now : Option DeviceName) (device : DeviceName) (part : Part)
    → after device ≡ part → ((other : DeviceName) → is_same_device other device ≡ false → after other ≡ before other) → now ≡ current
    → reader_of after now ≡ with_section (reader_of before current) device part
other-section before after current now Lp384 part here kept is = rw (here, kept Hx1k refl, kept Hx8k refl, is) refl
other-section before after current now Hx1k part here kept is = rw (here, kept Lp384 refl, kept Hx8k refl, is) refl
other-section before after current now Hx8k part here kept is = rw (here, kept Lp384 refl, kept Hx1k refl, is) refl

-- ---- a refusal is the cause of the line

numbers-known : (lines : List (List ℕ)) (n : ℕ) (device : DeviceName) (field : Numbers)
    → has_numbers (given_before lines n device) field ≡ is_some (numbers_before lines n device field)
numbers-known lines n device Widths = refl
numbers-known lines n device SideColumns = refl
numbers-known lines n device PadColumns = refl
numbers-known lines n device PadRows = refl
numbers-known lines n device Banks = refl

flag-known : (lines : List (List ℕ)) (n : ℕ) (device : DeviceName) (field : Flag)
    → has_flag (given_before lines n device) field ≡ is_some (flag_before lines n device field)
flag-known lines n device Mirror = refl
flag-known lines n device Flip = refl
flag-known lines n device PadMirror = refl
flag-known lines n device RamFlip = refl

refusal-section : (lines : List (List ℕ)) (n : ℕ) (device : Option DeviceName) → begin_refusal (reader_before lines n) device ≡ section_cause lines n device
refusal-section lines n None = refl
refusal-section lines n (Some device) = ap (λ (part : Part). cause_if part.begun Repeated) (section-of (part_before lines n) (section_before lines n) device)

refusal-list : (lines : List (List ℕ)) (n : ℕ) (device : Option DeviceName) (field : Numbers) (numbers : List ℕ)
    → list_refusal_at (reader_before lines n) device field numbers ≡ list_cause lines n device field numbers
refusal-list lines n None field numbers = refl
refusal-list lines n (Some device) field numbers =
    ap (λ (part : Part). numbers_refusal part field numbers) (section-of (part_before lines n) (section_before lines n) device)
    ∙ rw (numbers-known lines n device field) refl

refusal-flag : (lines : List (List ℕ)) (n : ℕ) (device : Option DeviceName) (field : Flag)
    → flag_refusal_at (reader_before lines n) device field ≡ flag_cause lines n device field
refusal-flag lines n None field = refl
refusal-flag lines n (Some device) field =
    ap (λ (part : Part). flag_refusal part field) (section-of (part_before lines n) (section_before lines n) device)
    ∙ rw (flag-known lines n device field) refl

pub refusal-is : (lines : List (List ℕ)) (n : ℕ) (line : Line) → refusal (reader_before lines n) line ≡ cause_of lines n line
refusal-is lines n Passed = refl
refusal-is lines n (Section word) = refusal-section lines n (device_named word)
refusal-is lines n (List_of field numbers) = refusal-list lines n (section_before lines n) field numbers
refusal-is lines n (Flag_of field value) = refusal-flag lines n (section_before lines n) field
refusal-is lines n Unknown = refl

-- ---- what a line leaves as it is

if-none : {A : Type 0} (test : Bool) (value : Option A) → value ≡ None → (if test then value else None) ≡ None
if-none true value none = none
if-none false value none = refl

pub numbers-kept : (lines : List (List ℕ)) (n : ℕ) (device : DeviceName) (field : Numbers)
    → numbers_given lines device field n ≡ None → numbers_before lines (suc n) device field ≡ numbers_before lines n device field
unfolding numbers_before first_below
numbers-kept lines n device field none =
    ap (or_else (first_below n (numbers_given lines device field))) none ∙ or_else-none (first_below n (numbers_given lines device field))

pub flag-kept : (lines : List (List ℕ)) (n : ℕ) (device : DeviceName) (field : Flag)
    → flag_given lines device field n ≡ None → flag_before lines (suc n) device field ≡ flag_before lines n device field
unfolding flag_before first_below
flag-kept lines n device field none =
    ap (or_else (first_below n (flag_given lines device field))) none ∙ or_else-none (first_below n (flag_given lines device field))

pub begun-kept : (lines : List (List ℕ)) (n : ℕ) (device : DeviceName)
    → is_device device (device_in (said_at lines n)) ≡ false → has_section lines (suc n) device ≡ has_section lines n device
unfolding has_section any_below
begun-kept lines n device other = rw other (or-false (any_below n (λ k. is_device device (device_in (said_at lines k)))))

pub current-kept : (lines : List (List ℕ)) (n : ℕ) → is_section (said_at lines n) ≡ false → section_before lines (suc n) ≡ section_before lines n
unfolding section_before last_below
current-kept lines n other = rw other refl

-- a line that gives a device nothing
pub record GivesNothing (lines : List (List ℕ)) (n : ℕ) (device : DeviceName) : Type 0 where
  pub numbers : (field : Numbers) → numbers_given lines device field n ≡ None
  pub flags : (field : Flag) → flag_given lines device field n ≡ None

pub part-kept : (lines : List (List ℕ)) (n : ℕ) (device : DeviceName)
    → GivesNothing lines n device → is_device device (device_in (said_at lines n)) ≡ false → part_before lines (suc n) device ≡ part_before lines n device
part-kept lines n device none other =
    rw (
      numbers-kept lines n device Widths (none.numbers Widths),
      numbers-kept lines n device SideColumns (none.numbers SideColumns),
      numbers-kept lines n device PadColumns (none.numbers PadColumns),
      numbers-kept lines n device PadRows (none.numbers PadRows),
      numbers-kept lines n device Banks (none.numbers Banks),
      flag-kept lines n device Mirror (none.flags Mirror),
      flag-kept lines n device Flip (none.flags Flip),
      flag-kept lines n device PadMirror (none.flags PadMirror),
      flag-kept lines n device RamFlip (none.flags RamFlip),
      begun-kept lines n device other,
    ) refl

pub part-begun : (lines : List (List ℕ)) (n : ℕ) (device : DeviceName)
    → GivesNothing lines n device → is_device device (device_in (said_at lines n)) ≡ true
    → part_before lines (suc n) device ≡ record (part_before lines n device) { begun = true }
unfolding has_section any_below
part-begun lines n device none here =
    rw (
      numbers-kept lines n device Widths (none.numbers Widths),
      numbers-kept lines n device SideColumns (none.numbers SideColumns),
      numbers-kept lines n device PadColumns (none.numbers PadColumns),
      numbers-kept lines n device PadRows (none.numbers PadRows),
      numbers-kept lines n device Banks (none.numbers Banks),
      flag-kept lines n device Mirror (none.flags Mirror),
      flag-kept lines n device Flip (none.flags Flip),
      flag-kept lines n device PadMirror (none.flags PadMirror),
      flag-kept lines n device RamFlip (none.flags RamFlip),
      here,
      or-true (any_below n (λ k. is_device device (device_in (said_at lines k)))),
    ) refl

-- lines of other sections give it nothing
pub nothing-elsewhere : (lines : List (List ℕ)) (n : ℕ) (device : DeviceName) → is_device device (section_before lines n) ≡ false → GivesNothing lines n device
nothing-elsewhere lines n device other = record { numbers = λ field. rw other refl; flags = λ field. rw other refl }

-- nor do lines that are no fields
pub nothing-without : (lines : List (List ℕ)) (n : ℕ) (device : DeviceName) (line : Line) → said_at lines n ≡ line
    → ((field : Numbers) → numbers_in field line ≡ None) → ((field : Flag) → flag_in field line ≡ None) → GivesNothing lines n device
nothing-without lines n device line said numbers flags = record {
  numbers = λ field. if-none (is_device device (section_before lines n)) (numbers_in field (said_at lines n)) (ap (numbers_in field) said ∙ numbers field);
  flags = λ field. if-none (is_device device (section_before lines n)) (flag_in field (said_at lines n)) (ap (flag_in field) said ∙ flags field);
}
