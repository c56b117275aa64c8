-- The names of a written module are names, its ports are apart, and each of its outputs is assigned.
use Rattle.std.proofs.Common.{◌≡◌, ℕ, Bool, true, false, List, [], ◌∷◌, ◌++◌, map, refl, ◌∙◌}
use Rattle.std.specs.Prelude.{All, bytes_eq, codes, decimal, not, ◌&&◌, IsTrue}
use Rattle.std.specs.List.{list_all, IsDistinct, AllByRecursion}
use Rattle.std.specs.Str.Parse.{AllDigits}
use Rattle.std.proofs.lemmas.Bool.{le-leb, or_right, and_from}
use Rattle.std.proofs.lemmas.Str.Parse.{tells_digits}
use Rattle.std.proofs.lemmas.List.Folds.{list_all-append}
use Rattle.std.proofs.lemmas.List.Elements.{All-head, All-tail}
use Rattle.vlog_module.specs.Names.{is_name_byte, reserved_words, is_name, IsName}
use Rattle.fabric_model.specs.declared.register.PinRegister.TheVariants as kind
use Rattle.fabric_model.specs.declared.register.RegisterKind.{RegisterKind}
use Rattle.fabric_model.specs.declared.register.RegisterKind.TheVariants.{FlipFlop, OfPin}
use Rattle.fabric_model.specs.declared.register.Register.{Register}
use Rattle.fabric_model.specs.declared.ram.RamCell.{RamCell}
use Rattle.fabric_model.specs.declared.pin.Pin.{Pin}
use Rattle.fabric_model.specs.declared.pll.PllOutput.{PllOutput}
use Rattle.fabric_model.specs.declared.pll.PllOutput.TheVariants as output
use Rattle.fabric_module.specs.Names.{two_numbers, three_numbers, pad_name, enable_name, outside_name, output_word, pll_name, register_prefix, register_number, register_name, read_name, memory_name, wire_name}
use Rattle.fabric_module.proofs.Lists.{Apart}
use Rattle.fabric_module.proofs.Apart.{IsSmall, number-digits}

-- ---- bytes of names

digits-named : (digits : List ℕ) → AllDigits 10 digits → list_all is_name_byte digits ≡ true
digits-named [] all = refl
digits-named (digit ∷ digits) all =
    let parts = tells_digits.parts digit digits all in
    and_from (is_name_byte digit) (list_all is_name_byte digits)
    (or_right _ _ (and_from _ _ (le-leb 48 digit parts.0.0) (le-leb digit 57 parts.0.1))) (digits-named digits parts.1)

number-named : (n : ℕ) → IsSmall n → list_all is_name_byte (decimal n) ≡ true
number-named n small = digits-named (decimal n) (number-digits n small)

-- two parts with `_` between them
joined-named : (first second : List ℕ) → list_all is_name_byte first ≡ true → list_all is_name_byte second ≡ true → list_all is_name_byte (first ++ 95 ∷ second) ≡ true
joined-named first second of_first of_second =
    list_all-append is_name_byte first (95 ∷ second) ∙ and_from (list_all is_name_byte first) (list_all is_name_byte (95 ∷ second)) of_first of_second

two-named : (x y : ℕ) → IsSmall x → IsSmall y → list_all is_name_byte (two_numbers x y) ≡ true
unfolding two_numbers
two-named x y of_x of_y = joined-named (decimal x) (decimal y) (number-named x of_x) (number-named y of_y)

three-named : (x y n : ℕ) → IsSmall x → IsSmall y → IsSmall n → list_all is_name_byte (three_numbers x y n) ≡ true
unfolding three_numbers
three-named x y n of_x of_y of_n =
    joined-named (decimal x) (decimal y ++ 95 ∷ decimal n) (number-named x of_x) (joined-named (decimal y) (decimal n) (number-named y of_y) (number-named n of_n))

-- ---- names

name-true : (word reserved : Bool) → word ≡ true → reserved ≡ false → IsTrue (word && not reserved)
name-true true false is away = refl
name-true true true is away = absurd cc
name-true false reserved is away = absurd cc

pub pad-named : (x y n : ℕ) → IsSmall x → IsSmall y → IsSmall n → IsName (pad_name x y n)
unfolding is_name reserved_words pad_name
pad-named x y n of_x of_y of_n = name-true (list_all is_name_byte (three_numbers x y n)) false (three-named x y n of_x of_y of_n) refl

-- three numbers and a tail
tail-named : (x y n : ℕ) (tail : List ℕ) → list_all is_name_byte tail ≡ true → IsSmall x → IsSmall y → IsSmall n → list_all is_name_byte (three_numbers x y n ++ tail) ≡ true
tail-named x y n tail of_tail of_x of_y of_n =
    list_all-append is_name_byte (three_numbers x y n) tail ∙ and_from (list_all is_name_byte (three_numbers x y n)) (list_all is_name_byte tail) (three-named x y n of_x of_y of_n) of_tail

pub enable-named : (pin : Pin) → IsSmall pin.x → IsSmall pin.y → IsSmall pin.n → IsName (enable_name pin)
unfolding is_name reserved_words pad_name enable_name
enable-named pin of_x of_y of_n =
    name-true (list_all is_name_byte (three_numbers pin.x pin.y pin.n ++ codes "_en")) false (tail-named pin.x pin.y pin.n (codes "_en") refl of_x of_y of_n) refl

pub outside-named : (x y n : ℕ) → IsSmall x → IsSmall y → IsSmall n → IsName (outside_name x y n)
unfolding is_name reserved_words pad_name outside_name
outside-named x y n of_x of_y of_n =
    name-true (list_all is_name_byte (three_numbers x y n ++ codes "_in")) false (tail-named x y n (codes "_in") refl of_x of_y of_n) refl

word-named : (output : PllOutput) → list_all is_name_byte (output_word output) ≡ true
word-named output.A = refl
word-named output.B = refl
word-named output.Lock = refl
word-named output.Sdo = refl

pub pll-named : (x y : ℕ) (output : PllOutput) → IsSmall x → IsSmall y → IsName (pll_name x y output)
unfolding is_name reserved_words pll_name
pll-named x y output of_x of_y =
    name-true (list_all is_name_byte (decimal x ++ 95 ∷ (decimal y ++ 95 ∷ output_word output))) false
    (joined-named (decimal x) (decimal y ++ 95 ∷ output_word output) (number-named x of_x) (joined-named (decimal y) (output_word output) (number-named y of_y) (word-named output))) refl

kind-named : (register : RegisterKind) (rest : List ℕ) → list_all is_name_byte rest ≡ true → IsName (register_prefix register ++ rest)
unfolding is_name reserved_words
kind-named (FlipFlop i) rest all = name-true (list_all is_name_byte rest) false all refl
kind-named (OfPin n kind.Input) rest all = name-true (list_all is_name_byte rest) false all refl
kind-named (OfPin n kind.SecondInput) rest all = name-true (list_all is_name_byte rest) false all refl
kind-named (OfPin n kind.InputClockEnable) rest all = name-true (list_all is_name_byte rest) false all refl
kind-named (OfPin n kind.Output) rest all = name-true (list_all is_name_byte rest) false all refl
kind-named (OfPin n kind.SecondOutput) rest all = name-true (list_all is_name_byte rest) false all refl
kind-named (OfPin n kind.OutputClockEnable) rest all = name-true (list_all is_name_byte rest) false all refl
kind-named (OfPin n kind.OutputEnable) rest all = name-true (list_all is_name_byte rest) false all refl

pub register-named : (register : Register) → IsSmall register.x → IsSmall register.y → IsSmall (register_number register.kind) → IsName (register_name register)
unfolding register_name
register-named register of_x of_y of_number =
    kind-named register.kind (three_numbers register.x register.y (register_number register.kind)) (three-named register.x register.y (register_number register.kind) of_x of_y of_number)

pub read-named : (ram : RamCell) → IsSmall ram.x → IsSmall ram.y → IsName (read_name ram)
unfolding is_name reserved_words read_name
read-named ram of_x of_y = name-true (list_all is_name_byte (two_numbers ram.x ram.y)) false (two-named ram.x ram.y of_x of_y) refl

pub memory-named : (ram : RamCell) → IsSmall ram.x → IsSmall ram.y → IsName (memory_name ram)
unfolding is_name reserved_words memory_name
memory-named ram of_x of_y = name-true (list_all is_name_byte (two_numbers ram.x ram.y)) false (two-named ram.x ram.y of_x of_y) refl

pub wire-named : (class : ℕ) → IsSmall class → IsName (wire_name class)
unfolding is_name reserved_words wire_name
wire-named class small = name-true (list_all is_name_byte (decimal class)) false (number-named class small) refl

-- ---- apart

module _ {X : Type 0} (name : X → List ℕ) where
  others-apart : (first : List ℕ) (xs : List X) → All (λ y. bytes_eq first (name y) ≡ false) xs → AllByRecursion (λ other. bytes_eq first other ≡ false) (map name xs)
  others-apart first [] all = tt
  others-apart first (x ∷ xs) all =
      (All-head (λ y. bytes_eq first (name y) ≡ false) x xs all, others-apart first xs (All-tail (λ y. bytes_eq first (name y) ≡ false) x xs all))

  -- the names of items that are apart are distinct
  pub distinct-names : (xs : List X) → Apart name xs → IsDistinct bytes_eq (map name xs)
  unfolding IsDistinct
  distinct-names [] apart = tt
  distinct-names (x ∷ xs) apart = (others-apart (name x) xs apart.0, distinct-names xs apart.1)
