-- The definitions at small texts, worked out by hand.
use Rattle.std.proofs.Common.{◌≡◌, ℕ, true, false, [], ◌∷◌, refl}
use Rattle.std.specs.Prelude.{codes, Option, Some, None}
use Rattle.text_lines.specs.Lines.{lines_of, trimmed}
use Rattle.text_lines.specs.Words.{words_of, pieces_of, numbers_of, number_of}
use Rattle.index_search.specs.Places.{any_below, first_below, last_below}
use Rattle.plane_map.specs.Layout.{start_in, standard_layout}
use Rattle.plane_map.specs.declared.device.DeviceName.TheVariants.{Lp384, Hx1k, Hx8k}
use Rattle.layout_file.specs.declared.fault.LayoutFault.{LayoutFault}
use Rattle.layout_file.specs.declared.fault.LayoutCause.{LayoutCause}
use Rattle.layout_file.specs.declared.fault.LayoutCause.TheVariants.{Statement, Device, Repeated, Width, Place}
use Rattle.layout_file.specs.Lines.{line_of, without_blanks}
use Rattle.layout_file.specs.Faults.{section_before, has_section, numbers_before, flag_before, layout_fault_of}
use Rattle.layout_file.specs.Layouts.{layouts_in, standard_layouts}

abbrev fault : ℕ → LayoutCause → Option LayoutFault
fault line cause = Some (record { line = line; cause = cause })

-- an empty text gives the standard layouts
nothing : layouts_in [] ≡ standard_layouts
unfolding layouts_in lines_of numbers_before flag_before first_below
nothing = refl

nothing_faulty : layout_fault_of [] ≡ None
unfolding layout_fault_of lines_of first_below
nothing_faulty = refl

-- widths for which a plane has no room
wide : layout_fault_of (codes ".layout 1k\nwidths 18 54 54 42 54 54 57\n") ≡ fault 2 Width
unfolding layout_fault_of lines_of line_of without_blanks trimmed words_of pieces_of numbers_of number_of section_before has_section numbers_before flag_before any_below first_below last_below start_in
wide = refl

-- two quarters of one bank
banks_twice : layout_fault_of (codes ".layout 8k\nbanks 0 1 2 2\n") ≡ fault 2 Place
unfolding layout_fault_of lines_of line_of without_blanks trimmed words_of pieces_of numbers_of number_of section_before has_section numbers_before flag_before any_below first_below last_below start_in
banks_twice = refl

-- another device
other_device : layout_fault_of (codes ".layout 5k\n") ≡ fault 1 Device
unfolding layout_fault_of lines_of line_of without_blanks trimmed words_of pieces_of numbers_of number_of section_before has_section numbers_before flag_before any_below first_below last_below start_in
other_device = refl

-- a field before the first section
field_first : layout_fault_of (codes "mirror no\n") ≡ fault 1 Statement
unfolding layout_fault_of lines_of line_of without_blanks trimmed words_of pieces_of numbers_of number_of section_before has_section numbers_before flag_before any_below first_below last_below start_in
field_first = refl

-- a second section of a device
section_twice : layout_fault_of (codes ".layout 1k\n.layout 8k\n.layout 1k\n") ≡ fault 3 Repeated
unfolding layout_fault_of lines_of line_of without_blanks trimmed words_of pieces_of numbers_of number_of section_before has_section numbers_before flag_before any_below first_below last_below start_in
section_twice = refl

-- a second line of a field, which each section may have
field_twice : layout_fault_of (codes ".layout 1k\nflip no\n.layout 8k\nflip no\nflip yes\n") ≡ fault 5 Repeated
unfolding layout_fault_of lines_of line_of without_blanks trimmed words_of pieces_of numbers_of number_of section_before has_section numbers_before flag_before any_below first_below last_below start_in
field_twice = refl

-- the number of widths is right for the other device only
other_count : layout_fault_of (codes ".layout 8k\nwidths 18 54 54 42 54 54 54\n") ≡ fault 2 Statement
unfolding layout_fault_of lines_of line_of without_blanks trimmed words_of pieces_of numbers_of number_of section_before has_section numbers_before flag_before any_below first_below last_below start_in
other_count = refl

-- widths of the smallest device: too few, too narrow, too many columns of bits, and a second section
small_count : layout_fault_of (codes ".layout 384\nwidths 18 54 54 42 54 54 54\n") ≡ fault 2 Statement
unfolding layout_fault_of lines_of line_of without_blanks trimmed words_of pieces_of numbers_of number_of section_before has_section numbers_before flag_before any_below first_below last_below start_in
small_count = refl

small_narrow : layout_fault_of (codes ".layout 384\nwidths 18 54 54 53\n") ≡ fault 2 Width
unfolding layout_fault_of lines_of line_of without_blanks trimmed words_of pieces_of numbers_of number_of section_before has_section numbers_before flag_before any_below first_below last_below start_in
small_narrow = refl

small_wide : layout_fault_of (codes ".layout 384\nwidths 18 54 54 57\n") ≡ fault 2 Width
unfolding layout_fault_of lines_of line_of without_blanks trimmed words_of pieces_of numbers_of number_of section_before has_section numbers_before flag_before any_below first_below last_below start_in
small_wide = refl

small_twice : layout_fault_of (codes ".layout 384\n.layout 1k\n.layout 384\n") ≡ fault 3 Repeated
unfolding layout_fault_of lines_of line_of without_blanks trimmed words_of pieces_of numbers_of number_of section_before has_section numbers_before flag_before any_below first_below last_below start_in
small_twice = refl

-- lines with `#` and lines without a word are skipped, and count
passed_over : layout_fault_of (codes "# a\n \t\n\n.layout 1k\n#\nbanks\n") ≡ fault 6 Statement
unfolding layout_fault_of lines_of line_of without_blanks trimmed words_of pieces_of numbers_of number_of section_before has_section numbers_before flag_before any_below first_below last_below start_in
passed_over = refl

-- `#` counts only as the first byte
remark_after_blank : layout_fault_of (codes " # a\n") ≡ fault 1 Statement
unfolding layout_fault_of lines_of line_of without_blanks trimmed words_of pieces_of numbers_of number_of section_before has_section numbers_before flag_before any_below first_below last_below start_in
remark_after_blank = refl

-- a tab parts no words
tab_between : layout_fault_of (codes ".layout 1k\nflip\tno\n") ≡ fault 2 Statement
unfolding layout_fault_of lines_of line_of without_blanks trimmed words_of pieces_of numbers_of number_of section_before has_section numbers_before flag_before any_below first_below last_below start_in
tab_between = refl

-- of two causes the first is reported
least_cause : layout_fault_of (codes ".layout 1k\nbanks 0 1 2 3\nbanks 0 0 0 0\n") ≡ fault 3 Repeated
unfolding layout_fault_of lines_of line_of without_blanks trimmed words_of pieces_of numbers_of number_of section_before has_section numbers_before flag_before any_below first_below last_below start_in
least_cause = refl

-- another word
other_word : layout_fault_of (codes ".layout 1k\nmirror maybe\n") ≡ fault 2 Statement
unfolding layout_fault_of lines_of line_of without_blanks trimmed words_of pieces_of numbers_of number_of section_before has_section numbers_before flag_before any_below first_below last_below start_in
other_word = refl

-- the layout of the other device stays the standard one
flags : layouts_in (codes ".layout 8k\npadmirror yes\nramflip no\n")
    ≡ record { lp384 = standard_layout Lp384; hx1k = standard_layout Hx1k; hx8k = record (standard_layout Hx8k) { pad_mirror = true; ram_flip = false } }
unfolding layouts_in lines_of line_of without_blanks trimmed words_of pieces_of numbers_of number_of section_before numbers_before flag_before first_below last_below
flags = refl

-- blanks before the first word and at the end of a line carry nothing
blanks : layouts_in (codes " .layout 1k \n\tbanks  3 2 1 0\t\n.layout 8k\nmirror no")
    ≡ record { lp384 = standard_layout Lp384; hx1k = record (standard_layout Hx1k) { banks = 3 ∷ 2 ∷ 1 ∷ 0 ∷ [] }; hx8k = record (standard_layout Hx8k) { mirror = false } }
unfolding layouts_in lines_of line_of without_blanks trimmed words_of pieces_of numbers_of number_of section_before numbers_before flag_before first_below last_below
blanks = refl

blanks_fine : layout_fault_of (codes " .layout 1k \n\tbanks  3 2 1 0\t\n.layout 8k\nmirror no") ≡ None
unfolding layout_fault_of lines_of line_of without_blanks trimmed words_of pieces_of numbers_of number_of section_before has_section numbers_before flag_before any_below first_below last_below start_in
blanks_fine = refl

-- the smallest device alone
small : layouts_in (codes ".layout 384\nwidths 20 54 54 54\npadmirror yes\n")
    ≡ record { lp384 = record (standard_layout Lp384) { widths = 20 ∷ 54 ∷ 54 ∷ 54 ∷ []; pad_mirror = true }; hx1k = standard_layout Hx1k; hx8k = standard_layout Hx8k }
unfolding layouts_in lines_of line_of without_blanks trimmed words_of pieces_of numbers_of number_of section_before numbers_before flag_before first_below last_below
small = refl

-- widths that leave columns over
widths : layouts_in (codes ".layout 1k\nwidths 20 54 54 42 54 54 54")
    ≡ record { lp384 = standard_layout Lp384; hx1k = record (standard_layout Hx1k) { widths = 20 ∷ 54 ∷ 54 ∷ 42 ∷ 54 ∷ 54 ∷ 54 ∷ [] }; hx8k = standard_layout Hx8k }
unfolding layouts_in lines_of line_of without_blanks trimmed words_of pieces_of numbers_of number_of section_before numbers_before flag_before first_below last_below
widths = refl

widths_fine : layout_fault_of (codes ".layout 1k\nwidths 20 54 54 42 54 54 54") ≡ None
unfolding layout_fault_of lines_of line_of without_blanks trimmed words_of pieces_of numbers_of number_of section_before has_section numbers_before flag_before any_below first_below last_below start_in
widths_fine = refl
