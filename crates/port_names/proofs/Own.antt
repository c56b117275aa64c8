-- The names of a written module have a form that no name of a pin file has: a beginning of their own and a digit after it.
use Rattle.std.proofs.Common.{◌≡◌, ℕ, zero, suc, ◌+◌, ◌/◌, ◌%◌, ◌<◌, true, false, List, [], ◌∷◌, ◌++◌, get_or, refl, subst, arith, inl, inr, mod-lt}
use Rattle.std.specs.Prelude.{codes, decimal, ◌==◌}
use Rattle.std.specs.Char.{is_ascii_digit}
use Rattle.std.specs.Fmt.{digit_glyph, digits_onto}
use Rattle.std.proofs.lemmas.Bool.{cases_Bool, and_from, le-leb, lt-ltb}
use Rattle.std.proofs.DigitsParse.{digits_onto-nil}
use Rattle.fabric_model.specs.declared.register.PinRegister.TheVariants as kind
use Rattle.fabric_model.specs.declared.register.RegisterKind.{RegisterKind}
use Rattle.fabric_model.specs.declared.register.RegisterKind.TheVariants.{FlipFlop, OfPin}
use Rattle.fabric_model.specs.declared.register.Register.{Register}
use Rattle.fabric_model.specs.declared.ram.RamCell.{RamCell}
use Rattle.fabric_model.specs.declared.pin.Pin.{Pin}
use Rattle.fabric_model.specs.declared.pll.PllOutput.{PllOutput}
use Rattle.fabric_module.specs.Names.{two_numbers, three_numbers, pad_name, port_name, enable_name, outside_name, output_word, pll_name, register_prefix, register_number, register_name, read_name, memory_name, wire_name}
use Rattle.pin_file.specs.PortNames.{own_beginnings, has_own_form}

-- ---- numbers begin with a digit

abbrev BeginsDigit : List ℕ → Type 0
BeginsDigit bytes = is_ascii_digit (get_or bytes 0 0) ≡ true

begins-front : (xs ys : List ℕ) → BeginsDigit xs → BeginsDigit (xs ++ ys)
begins-front [] ys begins = absurd cc
begins-front (x ∷ xs) ys begins = begins

glyph-digit : (n : ℕ) → is_ascii_digit (digit_glyph false (n % 10)) ≡ true
glyph-digit n =
    let small : n % 10 < 10 = mod-lt n (omega arith) in
    rw (lt-ltb (n % 10) 10 small) (and_from _ _ (le-leb 48 (48 + n % 10) (omega arith)) (le-leb (48 + n % 10) 57 (omega (arith, small))))

digits-begin : (k : ℕ) → 0 < k → (n : ℕ) (after : List ℕ) → BeginsDigit (digits_onto k 10 false n after)
digits-begin zero some n after = absurd (omega arith)
digits-begin (suc zero) some n after =
    elim (cases_Bool (n / 10 == 0)) [ inl here ↦ rw here (glyph-digit n) | inr away ↦ rw away (glyph-digit n) ]
digits-begin (suc (suc k)) some n after =
    elim (cases_Bool (n / 10 == 0)) [
      | inl here ↦ rw here (glyph-digit n)
      | inr away ↦ rw away (digits-begin (suc k) (omega arith) (n / 10) (digit_glyph false (n % 10) ∷ after))
    ]

decimal-begins : (n : ℕ) → BeginsDigit (decimal n)
decimal-begins n = subst BeginsDigit (digits_onto-nil 10 false n) (digits-begin 64 (omega arith) n [])

two-begin : (x y : ℕ) → BeginsDigit (two_numbers x y)
unfolding two_numbers
two-begin x y = begins-front (decimal x) _ (decimal-begins x)

three-begin : (x y n : ℕ) → BeginsDigit (three_numbers x y n)
unfolding three_numbers
three-begin x y n = begins-front (decimal x) _ (decimal-begins x)

-- ---- names

-- a name has a form of a module's own
abbrev pub IsOwn : List ℕ → Type 0
IsOwn name = has_own_form name ≡ true

own-pin : (rest : List ℕ) → BeginsDigit rest → IsOwn (codes "io_" ++ rest)
unfolding has_own_form own_beginnings
own-pin rest begins = rw begins refl

own-pad : (x y n : ℕ) → IsOwn (pad_name x y n)
unfolding pad_name
own-pad x y n = own-pin (three_numbers x y n) (three-begin x y n)

pub own-port : (pin : Pin) → IsOwn (port_name pin)
own-port pin = own-pad pin.x pin.y pin.n

pub own-enable : (pin : Pin) → IsOwn (enable_name pin)
unfolding pad_name enable_name
own-enable pin =
    own-pin (three_numbers pin.x pin.y pin.n ++ codes "_en") (begins-front (three_numbers pin.x pin.y pin.n) (codes "_en") (three-begin pin.x pin.y pin.n))

pub own-outside : (x y n : ℕ) → IsOwn (outside_name x y n)
unfolding pad_name outside_name
own-outside x y n = own-pin (three_numbers x y n ++ codes "_in") (begins-front (three_numbers x y n) (codes "_in") (three-begin x y n))

pub own-pll : (x y : ℕ) (output : PllOutput) → IsOwn (pll_name x y output)
unfolding pll_name has_own_form own_beginnings
own-pll x y output = rw (begins-front (decimal x) (codes "_" ++ (decimal y ++ (codes "_" ++ output_word output))) (decimal-begins x)) refl

own-kind : (register : RegisterKind) (rest : List ℕ) → BeginsDigit rest → IsOwn (register_prefix register ++ rest)
unfolding has_own_form own_beginnings
own-kind (FlipFlop i) rest begins = rw begins refl
own-kind (OfPin n kind.Input) rest begins = rw begins refl
own-kind (OfPin n kind.SecondInput) rest begins = rw begins refl
own-kind (OfPin n kind.InputClockEnable) rest begins = rw begins refl
own-kind (OfPin n kind.Output) rest begins = rw begins refl
own-kind (OfPin n kind.SecondOutput) rest begins = rw begins refl
own-kind (OfPin n kind.OutputClockEnable) rest begins = rw begins refl
own-kind (OfPin n kind.OutputEnable) rest begins = rw begins refl

pub own-register : (register : Register) → IsOwn (register_name register)
unfolding register_name
own-register register =
    own-kind register.kind (three_numbers register.x register.y (register_number register.kind)) (three-begin register.x register.y (register_number register.kind))

pub own-read : (ram : RamCell) → IsOwn (read_name ram)
unfolding read_name has_own_form own_beginnings
own-read ram = rw (two-begin ram.x ram.y) refl

pub own-memory : (ram : RamCell) → IsOwn (memory_name ram)
unfolding memory_name has_own_form own_beginnings
own-memory ram = rw (two-begin ram.x ram.y) refl

pub own-wire : (class : ℕ) → IsOwn (wire_name class)
unfolding wire_name has_own_form own_beginnings
own-wire class = rw (decimal-begins class) refl
