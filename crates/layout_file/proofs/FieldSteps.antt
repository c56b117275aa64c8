-- What the reader keeps after a line.
use Rattle.std.proofs.Common.{◌≡◌, ℕ, suc, Bool, true, false, List, refl, sym, ap, ◌∙◌}
use Rattle.std.specs.Prelude.{Option, Some, None, is_some, not, length, ◌==◌}
use Rattle.shared_lemmas.proofs.Options.{none_from_is_some}
use Rattle.index_search.specs.Places.{first_below, last_below, or_else}
use Rattle.index_search.proofs.Found.{or_else-first, or_else-other}
use Rattle.plane_map.specs.declared.device.DeviceName.{DeviceName}
use Rattle.plane_map.specs.DeviceWords.{device_named}
use Rattle.plane_map.proofs.Devices.{same-device}
use Rattle.layout_file.specs.declared.field.Numbers.{Numbers}
use Rattle.layout_file.specs.declared.field.Numbers.TheVariants.{Widths, SideColumns, PadColumns, PadRows, Banks}
use Rattle.layout_file.specs.declared.field.Flag.{Flag}
use Rattle.layout_file.specs.declared.field.Flag.TheVariants.{Mirror, Flip, PadMirror, RamFlip}
use Rattle.layout_file.specs.declared.fault.LayoutCause.TheVariants.{Statement, Repeated}
use Rattle.layout_file.specs.declared.section.Section.{Section as Part}
use Rattle.layout_file.specs.declared.reader.SectionReader.{SectionReader}
use Rattle.layout_file.specs.Lines.{Line, Passed, Section, List_of, Flag_of, Unknown}
use Rattle.layout_file.specs.Faults.{said_at, is_section, device_in, section_before, is_device, is_numbers, is_flag, numbers_in, flag_in, numbers_given, flag_given, numbers_before, flag_before, cause_if, cause_of, count_of, numbers_cause, section_cause, list_cause, flag_cause}
use Rattle.layout_file.specs.inside.Reading.{begun_with, reader_of, section_for, taken, with_flag, with_flag_at, with_list_at, with_numbers, with_section}
use Rattle.layout_file.proofs.AcceptedNumbers.{no-cause}
use Rattle.layout_file.proofs.LineSteps.{GivesNothing, begun-kept, current-kept, flag-kept, nothing-elsewhere, nothing-without, numbers-kept, part-begun, other-section, part-kept, part_before, reader_before, same-sections, section-of}

-- ---- fields of numbers

is-same : (field : Numbers) → is_numbers field field ≡ true
is-same Widths = refl
is-same SideColumns = refl
is-same PadColumns = refl
is-same PadRows = refl
is-same Banks = refl

-- a line of another field, and one of none
numbers-other : (lines : List (List ℕ)) (n : ℕ) (device : DeviceName) (field other : Numbers) (numbers : List ℕ)
    → said_at lines n ≡ List_of other numbers → is_device device (section_before lines n) ≡ true → is_numbers field other ≡ false
    → numbers_before lines (suc n) device field ≡ numbers_before lines n device field
numbers-other lines n device field other numbers said here differs = numbers-kept lines n device field (rw (here, said, differs) refl)

flag-at_numbers : (lines : List (List ℕ)) (n : ℕ) (device : DeviceName) (field : Flag) (other : Numbers) (numbers : List ℕ)
    → said_at lines n ≡ List_of other numbers → is_device device (section_before lines n) ≡ true
    → flag_before lines (suc n) device field ≡ flag_before lines n device field
flag-at_numbers lines n device field other numbers said here = flag-kept lines n device field (rw (here, said) refl)

-- the first line of a field
numbers-first : (lines : List (List ℕ)) (n : ℕ) (device : DeviceName) (field : Numbers) (numbers : List ℕ)
    → said_at lines n ≡ List_of field numbers → is_device device (section_before lines n) ≡ true → numbers_before lines n device field ≡ None
    → numbers_before lines (suc n) device field ≡ Some numbers
unfolding numbers_before first_below
numbers-first lines n device field numbers said here none =
    let given : numbers_given lines device field n ≡ Some numbers = rw (here, said, is-same field) refl in
    rw (none, given) refl

-- a part after it
part-numbers : (lines : List (List ℕ)) (n : ℕ) (device : DeviceName) (field : Numbers) (numbers : List ℕ)
    → said_at lines n ≡ List_of field numbers → is_device device (section_before lines n) ≡ true → numbers_before lines n device field ≡ None
    → part_before lines (suc n) device ≡ with_numbers (part_before lines n device) field numbers
part-numbers lines n device Widths numbers said here none =
    let begun : is_device device (device_in (said_at lines n)) ≡ false = rw said refl in
    rw (
      numbers-first lines n device Widths numbers said here none,
      numbers-other lines n device SideColumns Widths numbers said here refl,
      numbers-other lines n device PadColumns Widths numbers said here refl,
      numbers-other lines n device PadRows Widths numbers said here refl,
      numbers-other lines n device Banks Widths numbers said here refl,
      flag-at_numbers lines n device Mirror Widths numbers said here,
      flag-at_numbers lines n device Flip Widths numbers said here,
      flag-at_numbers lines n device PadMirror Widths numbers said here,
      flag-at_numbers lines n device RamFlip Widths numbers said here,
      begun-kept lines n device begun,
    ) refl
part-numbers lines n device SideColumns numbers said here none =
    let begun : is_device device (device_in (said_at lines n)) ≡ false = rw said refl in
    rw (
      numbers-first lines n device SideColumns numbers said here none,
      numbers-other lines n device Widths SideColumns numbers said here refl,
      numbers-other lines n device PadColumns SideColumns numbers said here refl,
      numbers-other lines n device PadRows SideColumns numbers said here refl,
      numbers-other lines n device Banks SideColumns numbers said here refl,
      flag-at_numbers lines n device Mirror SideColumns numbers said here,
      flag-at_numbers lines n device Flip SideColumns numbers said here,
      flag-at_numbers lines n device PadMirror SideColumns numbers said here,
      flag-at_numbers lines n device RamFlip SideColumns numbers said here,
      begun-kept lines n device begun,
    ) refl
part-numbers lines n device PadColumns numbers said here none =
    let begun : is_device device (device_in (said_at lines n)) ≡ false = rw said refl in
    rw (
      numbers-first lines n device PadColumns numbers said here none,
      numbers-other lines n device Widths PadColumns numbers said here refl,
      numbers-other lines n device SideColumns PadColumns numbers said here refl,
      numbers-other lines n device PadRows PadColumns numbers said here refl,
      numbers-other lines n device Banks PadColumns numbers said here refl,
      flag-at_numbers lines n device Mirror PadColumns numbers said here,
      flag-at_numbers lines n device Flip PadColumns numbers said here,
      flag-at_numbers lines n device PadMirror PadColumns numbers said here,
      flag-at_numbers lines n device RamFlip PadColumns numbers said here,
      begun-kept lines n device begun,
    ) refl
part-numbers lines n device PadRows numbers said here none =
    let begun : is_device device (device_in (said_at lines n)) ≡ false = rw said refl in
    rw (
      numbers-first lines n device PadRows numbers said here none,
      numbers-other lines n device Widths PadRows numbers said here refl,
      numbers-other lines n device SideColumns PadRows numbers said here refl,
      numbers-other lines n device PadColumns PadRows numbers said here refl,
      numbers-other lines n device Banks PadRows numbers said here refl,
      flag-at_numbers lines n device Mirror PadRows numbers said here,
      flag-at_numbers lines n device Flip PadRows numbers said here,
      flag-at_numbers lines n device PadMirror PadRows numbers said here,
      flag-at_numbers lines n device RamFlip PadRows numbers said here,
      begun-kept lines n device begun,
    ) refl
part-numbers lines n device Banks numbers said here none =
    let begun : is_device device (device_in (said_at lines n)) ≡ false = rw said refl in
    rw (
      numbers-first lines n device Banks numbers said here none,
      numbers-other lines n device Widths Banks numbers said here refl,
      numbers-other lines n device SideColumns Banks numbers said here refl,
      numbers-other lines n device PadColumns Banks numbers said here refl,
      numbers-other lines n device PadRows Banks numbers said here refl,
      flag-at_numbers lines n device Mirror Banks numbers said here,
      flag-at_numbers lines n device Flip Banks numbers said here,
      flag-at_numbers lines n device PadMirror Banks numbers said here,
      flag-at_numbers lines n device RamFlip Banks numbers said here,
      begun-kept lines n device begun,
    ) refl

-- ---- fields of `yes` or `no`

is-same_flag : (field : Flag) → is_flag field field ≡ true
is-same_flag Mirror = refl
is-same_flag Flip = refl
is-same_flag PadMirror = refl
is-same_flag RamFlip = refl

flag-other : (lines : List (List ℕ)) (n : ℕ) (device : DeviceName) (field other : Flag) (value : Bool)
    → said_at lines n ≡ Flag_of other value → is_device device (section_before lines n) ≡ true → is_flag field other ≡ false
    → flag_before lines (suc n) device field ≡ flag_before lines n device field
flag-other lines n device field other value said here differs = flag-kept lines n device field (rw (here, said, differs) refl)

numbers-at_flag : (lines : List (List ℕ)) (n : ℕ) (device : DeviceName) (field : Numbers) (other : Flag) (value : Bool)
    → said_at lines n ≡ Flag_of other value → is_device device (section_before lines n) ≡ true
    → numbers_before lines (suc n) device field ≡ numbers_before lines n device field
numbers-at_flag lines n device field other value said here = numbers-kept lines n device field (rw (here, said) refl)

flag-first : (lines : List (List ℕ)) (n : ℕ) (device : DeviceName) (field : Flag) (value : Bool)
    → said_at lines n ≡ Flag_of field value → is_device device (section_before lines n) ≡ true → flag_before lines n device field ≡ None
    → flag_before lines (suc n) device field ≡ Some value
unfolding flag_before first_below
flag-first lines n device field value said here none =
    let given : flag_given lines device field n ≡ Some value = rw (here, said, is-same_flag field) refl in
    rw (none, given) refl

part-flag : (lines : List (List ℕ)) (n : ℕ) (device : DeviceName) (field : Flag) (value : Bool)
    → said_at lines n ≡ Flag_of field value → is_device device (section_before lines n) ≡ true → flag_before lines n device field ≡ None
    → part_before lines (suc n) device ≡ with_flag (part_before lines n device) field value
part-flag lines n device Mirror value said here none =
    let begun : is_device device (device_in (said_at lines n)) ≡ false = rw said refl in
    rw (
      flag-first lines n device Mirror value said here none,
      flag-other lines n device Flip Mirror value said here refl,
      flag-other lines n device PadMirror Mirror value said here refl,
      flag-other lines n device RamFlip Mirror value said here refl,
      numbers-at_flag lines n device Widths Mirror value said here,
      numbers-at_flag lines n device SideColumns Mirror value said here,
      numbers-at_flag lines n device PadColumns Mirror value said here,
      numbers-at_flag lines n device PadRows Mirror value said here,
      numbers-at_flag lines n device Banks Mirror value said here,
      begun-kept lines n device begun,
    ) refl
part-flag lines n device Flip value said here none =
    let begun : is_device device (device_in (said_at lines n)) ≡ false = rw said refl in
    rw (
      flag-first lines n device Flip value said here none,
      flag-other lines n device Mirror Flip value said here refl,
      flag-other lines n device PadMirror Flip value said here refl,
      flag-other lines n device RamFlip Flip value said here refl,
      numbers-at_flag lines n device Widths Flip value said here,
      numbers-at_flag lines n device SideColumns Flip value said here,
      numbers-at_flag lines n device PadColumns Flip value said here,
      numbers-at_flag lines n device PadRows Flip value said here,
      numbers-at_flag lines n device Banks Flip value said here,
      begun-kept lines n device begun,
    ) refl
part-flag lines n device PadMirror value said here none =
    let begun : is_device device (device_in (said_at lines n)) ≡ false = rw said refl in
    rw (
      flag-first lines n device PadMirror value said here none,
      flag-other lines n device Mirror PadMirror value said here refl,
      flag-other lines n device Flip PadMirror value said here refl,
      flag-other lines n device RamFlip PadMirror value said here refl,
      numbers-at_flag lines n device Widths PadMirror value said here,
      numbers-at_flag lines n device SideColumns PadMirror value said here,
      numbers-at_flag lines n device PadColumns PadMirror value said here,
      numbers-at_flag lines n device PadRows PadMirror value said here,
      numbers-at_flag lines n device Banks PadMirror value said here,
      begun-kept lines n device begun,
    ) refl
part-flag lines n device RamFlip value said here none =
    let begun : is_device device (device_in (said_at lines n)) ≡ false = rw said refl in
    rw (
      flag-first lines n device RamFlip value said here none,
      flag-other lines n device Mirror RamFlip value said here refl,
      flag-other lines n device Flip RamFlip value said here refl,
      flag-other lines n device PadMirror RamFlip value said here refl,
      numbers-at_flag lines n device Widths RamFlip value said here,
      numbers-at_flag lines n device SideColumns RamFlip value said here,
      numbers-at_flag lines n device PadColumns RamFlip value said here,
      numbers-at_flag lines n device PadRows RamFlip value said here,
      numbers-at_flag lines n device Banks RamFlip value said here,
      begun-kept lines n device begun,
    ) refl

-- ---- a line of each kind

-- a line that changes nothing
step-nothing : (lines : List (List ℕ)) (n : ℕ) (line : Line) → said_at lines n ≡ line
    → ((field : Numbers) → numbers_in field line ≡ None) → ((field : Flag) → flag_in field line ≡ None)
    → is_section line ≡ false → device_in line ≡ None
    → reader_before lines (suc n) ≡ reader_before lines n
step-nothing lines n line said numbers flags section device =
    let none : (d : DeviceName) → is_device d (device_in (said_at lines n)) ≡ false = λ d. rw (said, device) refl in
    same-sections (part_before lines n) (part_before lines (suc n)) (section_before lines n) (section_before lines (suc n))
    (λ d. part-kept lines n d (nothing-without lines n d line said numbers flags) (none d))
    (current-kept lines n (ap is_section said ∙ section))

-- the section of a line after a beginning
current-begun : (lines : List (List ℕ)) (n : ℕ) (word : List ℕ) → said_at lines n ≡ Section word → section_before lines (suc n) ≡ device_named word
unfolding section_before last_below
current-begun lines n word said = rw said (rw said refl)

step-section : (lines : List (List ℕ)) (n : ℕ) (word : List ℕ) (device : Option DeviceName) → said_at lines n ≡ Section word → device_named word ≡ device
    → section_cause lines n device ≡ None → reader_before lines (suc n) ≡ begun_with (reader_before lines n) device
step-section lines n word None said named none = absurd cc
step-section lines n word (Some device) said named none =
    let in_line : device_in (said_at lines n) ≡ Some device = ap device_in said ∙ named in
    let nothing : (d : DeviceName) → GivesNothing lines n d = λ d. nothing-without lines n d (Section word) said (λ field. refl) (λ field. refl) in
    let before = part_before lines n in
    let current = section_before lines n in
    let begins : part_before lines (suc n) device ≡ record (section_for (reader_of before current) device) { begun = true } =
    part-begun lines n device (nothing device) (ap (is_device device) in_line ∙ same-device device)
    ∙ ap (λ (part : Part). record part { begun = true }) (sym (section-of before current device)) in
    ap (λ (reader : SectionReader). record reader { current = section_before lines (suc n) })
    (other-section before (part_before lines (suc n)) current current device (record (section_for (reader_of before current) device) { begun = true }) begins
    (λ other differs. part-kept lines n other (nothing other) (ap (is_device other) in_line ∙ differs)) refl)
    ∙ ap (λ (now : Option DeviceName). record (with_section (reader_of before current) device (record (section_for (reader_of before current) device) { begun = true })) { current = now })
    (current-begun lines n word said ∙ named)

-- numbers whose field was given are refused
not-given : (lines : List (List ℕ)) (n : ℕ) (device : DeviceName) (field : Numbers) (numbers : List ℕ)
    → list_cause lines n (Some device) field numbers ≡ None → numbers_before lines n device field ≡ None
not-given lines n device field numbers none =
    let first = cause_if (not (length numbers == count_of device field)) Statement in
    let second = cause_if (is_some (numbers_before lines n device field)) Repeated in
    let third = numbers_cause device field numbers in
    none_from_is_some (numbers_before lines n device field)
    (no-cause (is_some (numbers_before lines n device field)) Repeated (or_else-first second third (or_else-other first (or_else second third) none)))

step-list : (lines : List (List ℕ)) (n : ℕ) (device : Option DeviceName) (field : Numbers) (numbers : List ℕ) → said_at lines n ≡ List_of field numbers
    → section_before lines n ≡ device → list_cause lines n device field numbers ≡ None
    → reader_before lines (suc n) ≡ with_list_at (reader_before lines n) device field numbers
step-list lines n None field numbers said current none = absurd cc
step-list lines n (Some device) field numbers said current none =
    let before = part_before lines n in
    let reader = reader_before lines n in
    let here : is_device device (section_before lines n) ≡ true = ap (is_device device) current ∙ same-device device in
    let takes : part_before lines (suc n) device ≡ with_numbers (section_for reader device) field numbers =
    part-numbers lines n device field numbers said here (not-given lines n device field numbers none)
    ∙ ap (λ (part : Part). with_numbers part field numbers) (sym (section-of before (section_before lines n) device)) in
    other-section before (part_before lines (suc n)) (section_before lines n) (section_before lines (suc n)) device (with_numbers (section_for reader device) field numbers) takes
    (λ other differs. part-kept lines n other (nothing-elsewhere lines n other (ap (is_device other) current ∙ differs)) (rw said refl))
    (current-kept lines n (ap is_section said))

not-given_flag : (lines : List (List ℕ)) (n : ℕ) (device : DeviceName) (field : Flag)
    → flag_cause lines n (Some device) field ≡ None → flag_before lines n device field ≡ None
not-given_flag lines n device field none =
    none_from_is_some (flag_before lines n device field) (no-cause (is_some (flag_before lines n device field)) Repeated none)

step-flag : (lines : List (List ℕ)) (n : ℕ) (device : Option DeviceName) (field : Flag) (value : Bool) → said_at lines n ≡ Flag_of field value
    → section_before lines n ≡ device → flag_cause lines n device field ≡ None
    → reader_before lines (suc n) ≡ with_flag_at (reader_before lines n) device field value
step-flag lines n None field value said current none = absurd cc
step-flag lines n (Some device) field value said current none =
    let before = part_before lines n in
    let reader = reader_before lines n in
    let here : is_device device (section_before lines n) ≡ true = ap (is_device device) current ∙ same-device device in
    let takes : part_before lines (suc n) device ≡ with_flag (section_for reader device) field value =
    part-flag lines n device field value said here (not-given_flag lines n device field none)
    ∙ ap (λ (part : Part). with_flag part field value) (sym (section-of before (section_before lines n) device)) in
    other-section before (part_before lines (suc n)) (section_before lines n) (section_before lines (suc n)) device (with_flag (section_for reader device) field value) takes
    (λ other differs. part-kept lines n other (nothing-elsewhere lines n other (ap (is_device other) current ∙ differs)) (rw said refl))
    (current-kept lines n (ap is_section said))

-- what the reader keeps after a line that isn't faulty
pub reader-next : (lines : List (List ℕ)) (n : ℕ) (line : Line) → said_at lines n ≡ line → cause_of lines n line ≡ None
    → reader_before lines (suc n) ≡ taken (reader_before lines n) line
reader-next lines n Passed said none = step-nothing lines n Passed said (λ field. refl) (λ field. refl) refl refl
reader-next lines n (Section word) said none = step-section lines n word (device_named word) said refl none
reader-next lines n (List_of field numbers) said none = step-list lines n (section_before lines n) field numbers said refl none
reader-next lines n (Flag_of field value) said none = step-flag lines n (section_before lines n) field value said refl none
reader-next lines n Unknown said none = absurd cc
