-- Lines that are none of a layout file.
use Rattle.std.proofs.Common.{◌≡◌, ℕ, ◌<◌, ◌≤◌, true, false, List, length, refl, arith}
use Rattle.std.specs.Prelude.{Option, Some, None, nat_lt, ◌==◌}
use Rattle.std.proofs.lemmas.Bool.{ltb-true, ne_eqb}
use Rattle.plane_map.specs.declared.device.DeviceName.{DeviceName}
use Rattle.plane_map.specs.declared.device.DeviceName.TheVariants.{Lp384, Hx1k, Hx8k}
use Rattle.layout_file.specs.declared.field.Numbers.{Numbers}
use Rattle.layout_file.specs.declared.field.Numbers.TheVariants.{Widths, SideColumns, PadColumns, PadRows, Banks}
use Rattle.layout_file.specs.declared.fault.LayoutCause.TheVariants.{Statement}
use Rattle.layout_file.specs.declared.section.Section.{Section as Part}
use Rattle.layout_file.specs.declared.reader.SectionReader.{SectionReader}
use Rattle.layout_file.specs.Lines.{Line, Passed, Section, List_of, Flag_of, Unknown}
use Rattle.layout_file.specs.Faults.{count_of}
use Rattle.layout_file.specs.inside.Reading.{is_refused_always, list_refusal_at, numbers_refusal, refusal, section_for}

-- no field has more than 18 numbers
few : (device : DeviceName) (field : Numbers) → count_of device field ≤ 18
few Lp384 Widths = omega arith
few Hx1k Widths = omega arith
few Hx8k Widths = omega arith
few device SideColumns = omega arith
few device PadColumns = omega arith
few device PadRows = omega arith
few device Banks = omega arith

too-many : (section : Part) (field : Numbers) (numbers : List ℕ) → nat_lt 18 (length numbers) ≡ true → numbers_refusal section field numbers ≡ Some Statement
too-many section field numbers many =
    let more : 18 < length numbers = ltb-true 18 (length numbers) many in
    let other : (length numbers == count_of section.layout.device field) ≡ false = ne_eqb (length numbers) (count_of section.layout.device field) (λ e. omega (arith, few section.layout.device field)) in
    rw other refl

too-many-at : (reader : SectionReader) (device : Option DeviceName) (field : Numbers) (numbers : List ℕ) → nat_lt 18 (length numbers) ≡ true
    → list_refusal_at reader device field numbers ≡ Some Statement
too-many-at reader None field numbers many = refl
too-many-at reader (Some device) field numbers many = too-many (section_for reader device) field numbers many

-- each reader refuses them
pub refused-as-none : (reader : SectionReader) (line : Line) → is_refused_always line ≡ true → refusal reader line ≡ Some Statement
refused-as-none reader Passed none = absurd cc
refused-as-none reader (Section word) none = absurd cc
refused-as-none reader (List_of field numbers) none = too-many-at reader reader.current field numbers none
refused-as-none reader (Flag_of field value) none = absurd cc
refused-as-none reader Unknown none = refl
