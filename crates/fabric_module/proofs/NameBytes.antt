-- Bytes that a name is made of are a name.
use Rattle.std.proofs.Common.{◌≡◌, ℕ, ◌++◌, List, refl, sym, subst, append_assoc}
use Rattle.std.specs.Prelude.{codes, decimal}
use Rattle.fabric_model.specs.declared.register.Register.{Register}
use Rattle.fabric_model.specs.declared.ram.RamCell.{RamCell}
use Rattle.fabric_model.specs.declared.pin.Pin.{Pin}
use Rattle.fabric_model.specs.declared.pll.PllOutput.{PllOutput}
use Rattle.vlog_module.specs.Names.{IsName}
use Rattle.fabric_module.specs.Names.{two_numbers, three_numbers, pad_name, enable_name, outside_name, output_word, pll_name, register_prefix, register_number, register_name, read_name, memory_name, wire_name}
use Rattle.fabric_module.proofs.Apart.{IsSmall}
use Rattle.fabric_module.proofs.Named.{pad-named, enable-named, outside-named, pll-named, register-named, read-named, memory-named, wire-named}

pub pad-bytes : (x y n : ℕ) (bytes : List ℕ) → bytes ≡ codes "io_" ++ three_numbers x y n → IsSmall x → IsSmall y → IsSmall n → IsName bytes
unfolding pad_name
pad-bytes x y n bytes is of_x of_y of_n = let named : IsName (codes "io_" ++ three_numbers x y n) = pad-named x y n of_x of_y of_n in subst IsName (sym is) named

pub enable-bytes : (pin : Pin) (bytes : List ℕ) → bytes ≡ codes "io_" ++ three_numbers pin.x pin.y pin.n ++ codes "_en" → IsSmall pin.x → IsSmall pin.y → IsSmall pin.n → IsName bytes
unfolding pad_name enable_name
enable-bytes pin bytes is x y n =
    let named : IsName (codes "io_" ++ three_numbers pin.x pin.y pin.n ++ codes "_en") = enable-named pin x y n in subst IsName (sym is) named

pub outside-bytes : (x y n : ℕ) (bytes : List ℕ) → bytes ≡ codes "io_" ++ three_numbers x y n ++ codes "_in" → IsSmall x → IsSmall y → IsSmall n → IsName bytes
unfolding pad_name outside_name
outside-bytes x y n bytes is of_x of_y of_n =
    let named : IsName (codes "io_" ++ three_numbers x y n ++ codes "_in") = outside-named x y n of_x of_y of_n in subst IsName (sym is) named

-- the name of an output of a PLL, one part after the other
pub pll-bytes : (x y : ℕ) (output : PllOutput) (one two three four five bytes : List ℕ) → one ≡ codes "pll_" → two ≡ one ++ decimal x → three ≡ two ++ codes "_" → four ≡ three ++ decimal y
    → five ≡ four ++ codes "_" → bytes ≡ five ++ output_word output → IsSmall x → IsSmall y → IsName bytes
unfolding pll_name
pll-bytes x y output one two three four five bytes of_one of_two of_three of_four of_five of_bytes of_x of_y =
    let is : bytes ≡ codes "pll_" ++ (decimal x ++ (codes "_" ++ (decimal y ++ (codes "_" ++ output_word output)))) = simp (of_bytes, of_five, of_four, of_three, of_two, of_one, append_assoc) refl in
    let named : IsName (codes "pll_" ++ (decimal x ++ (codes "_" ++ (decimal y ++ (codes "_" ++ output_word output))))) = pll-named x y output of_x of_y in subst IsName (sym is) named

pub register-bytes : (register : Register) (bytes : List ℕ) → bytes ≡ register_prefix register.kind ++ three_numbers register.x register.y (register_number register.kind)
    → IsSmall register.x → IsSmall register.y → IsSmall (register_number register.kind) → IsName bytes
unfolding register_name
register-bytes register bytes is x y n =
    let named : IsName (register_prefix register.kind ++ three_numbers register.x register.y (register_number register.kind)) = register-named register x y n in subst IsName (sym is) named

pub read-bytes : (ram : RamCell) (bytes : List ℕ) → bytes ≡ codes "rd_" ++ two_numbers ram.x ram.y → IsSmall ram.x → IsSmall ram.y → IsName bytes
unfolding read_name
read-bytes ram bytes is x y = let named : IsName (codes "rd_" ++ two_numbers ram.x ram.y) = read-named ram x y in subst IsName (sym is) named

pub memory-bytes : (ram : RamCell) (bytes : List ℕ) → bytes ≡ codes "mem_" ++ two_numbers ram.x ram.y → IsSmall ram.x → IsSmall ram.y → IsName bytes
unfolding memory_name
memory-bytes ram bytes is x y = let named : IsName (codes "mem_" ++ two_numbers ram.x ram.y) = memory-named ram x y in subst IsName (sym is) named

pub wire-bytes : (class : ℕ) (bytes : List ℕ) → bytes ≡ codes "n_" ++ decimal class → IsSmall class → IsName bytes
unfolding wire_name
wire-bytes class bytes is small = let named : IsName (codes "n_" ++ decimal class) = wire-named class small in subst IsName (sym is) named
