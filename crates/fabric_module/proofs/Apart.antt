-- Names with other numbers are apart, and names of parts of several kinds begin differently.
use Rattle.std.proofs.Common.{◌≡◌, ℕ, ◌^◌, ◌<◌, List, [], ◌∷◌, ◌++◌, get_or, refl, sym, ap, ap₂, ◌∙◌, subst, arith, append_assoc}
use Rattle.std.specs.Prelude.{Bool, true, false, bytes_eq, codes, decimal, if◌then◌else◌}
use Rattle.std.specs.Char.{digit_value}
use Rattle.std.specs.Str.Parse.{AllDigits}
use Rattle.std.proofs.lemmas.Fmt.{decimal_injective, decimal_is_IsNumeral}
use Rattle.fabric_model.specs.declared.input_port.InputPort.{InputPort}
use Rattle.fabric_model.specs.declared.input_port.InputPort.TheVariants.{Pad, Outside, Pll}
use Rattle.fabric_model.specs.declared.pll.PllOutput.{PllOutput}
use Rattle.fabric_model.specs.declared.pll.PllOutput.TheVariants as output
use Rattle.fabric_model.specs.declared.register.PinRegister.TheVariants as kind
use Rattle.fabric_model.specs.declared.register.RegisterKind.{RegisterKind}
use Rattle.fabric_model.specs.declared.register.RegisterKind.TheVariants.{FlipFlop, OfPin}
use Rattle.fabric_model.specs.declared.register.Register.{Register}
use Rattle.fabric_model.specs.declared.ram.RamCell.{RamCell}
use Rattle.fabric_model.specs.declared.pin.Pin.{Pin}
use Rattle.fabric_model.specs.Outputs.{Output as OutputPort}
use Rattle.fabric_module.specs.Names.{two_numbers, three_numbers, pad_name, port_name, enable_name, outside_name, output_word, pll_name, input_port_name, output_name, register_prefix, register_number, register_name, read_name, memory_name, wire_name}

-- ---- numbers in names

cut-same : (xs ys u w : List ℕ) → AllDigits 10 xs → AllDigits 10 ys → xs ++ 95 ∷ u ≡ ys ++ 95 ∷ w → (xs ≡ ys) × (u ≡ w)
cut-same [] [] u w of_x of_y same = (refl, cc)
cut-same [] (y ∷ ys) u w of_x of_y same =
    let first : y ≡ 95 = cc in let never : digit_value 95 < 10 = subst (λ c. digit_value c < 10) first of_y.0 in absurd (omega arith)
cut-same (x ∷ xs) [] u w of_x of_y same =
    let first : x ≡ 95 = cc in let never : digit_value 95 < 10 = subst (λ c. digit_value c < 10) first of_x.0 in absurd (omega arith)
cut-same (x ∷ xs) (y ∷ ys) u w of_x of_y same =
    let first : x ≡ y = cc in
    let following : xs ++ 95 ∷ u ≡ ys ++ 95 ∷ w = cc in
    let rest = cut-same xs ys u w of_x.1 of_y.1 following in
    let front : xs ≡ ys = rest.0 in
    (cc, rest.1)

no-tail : (xs ys w : List ℕ) → AllDigits 10 xs → xs ≡ ys ++ 95 ∷ w → ⊥
no-tail [] [] w of_x same = absurd cc
no-tail [] (y ∷ ys) w of_x same = absurd cc
no-tail (x ∷ xs) [] w of_x same =
    let first : x ≡ 95 = cc in let never : digit_value 95 < 10 = subst (λ c. digit_value c < 10) first of_x.0 in absurd (omega arith)
no-tail (x ∷ xs) (y ∷ ys) w of_x same =
    let following : xs ≡ ys ++ 95 ∷ w = cc in no-tail xs ys w of_x.1 following

-- a number that a name can have
abbrev pub IsSmall : ℕ → Type 0
IsSmall n = n < 2 ^ 64

pub number-digits : (n : ℕ) → IsSmall n → AllDigits 10 (decimal n)
number-digits n small = (decimal_is_IsNumeral n small).0.1

pub two-same : (x y a b : ℕ) → IsSmall x → IsSmall y → IsSmall a → IsSmall b → two_numbers x y ≡ two_numbers a b → (x ≡ a) × (y ≡ b)
unfolding two_numbers
two-same x y a b of_x of_y of_a of_b same =
    let cut = cut-same (decimal x) (decimal a) (decimal y) (decimal b) (number-digits x of_x) (number-digits a of_a) same in
    (decimal_injective x a of_x of_a cut.0, decimal_injective y b of_y of_b cut.1)

pub three-same : (x y n a b c : ℕ) → IsSmall x → IsSmall y → IsSmall n → IsSmall a → IsSmall b → IsSmall c
    → three_numbers x y n ≡ three_numbers a b c → (x ≡ a) × (y ≡ b) × (n ≡ c)
unfolding three_numbers
three-same x y n a b c of_x of_y of_n of_a of_b of_c same =
    let cut = cut-same (decimal x) (decimal a) (decimal y ++ 95 ∷ decimal n) (decimal b ++ 95 ∷ decimal c) (number-digits x of_x) (number-digits a of_a) same in
    let rest = cut-same (decimal y) (decimal b) (decimal n) (decimal c) (number-digits y of_y) (number-digits b of_b) cut.1 in
    (decimal_injective x a of_x of_a cut.0, decimal_injective y b of_y of_b rest.0, decimal_injective n c of_n of_c rest.1)

joined : (a b c : ℕ) (tail : List ℕ) → (decimal a ++ 95 ∷ (decimal b ++ 95 ∷ decimal c)) ++ 95 ∷ tail ≡ decimal a ++ 95 ∷ (decimal b ++ 95 ∷ (decimal c ++ 95 ∷ tail))
joined a b c tail =
    append_assoc (decimal a) (95 ∷ (decimal b ++ 95 ∷ decimal c)) (95 ∷ tail) ∙ ap (λ list. decimal a ++ 95 ∷ list) (append_assoc (decimal b) (95 ∷ decimal c) (95 ∷ tail))

-- a tail after a third number tells three numbers from others
pub three-tail : (x y n a b c : ℕ) (tail : List ℕ) → IsSmall x → IsSmall y → IsSmall n → IsSmall a → IsSmall b → three_numbers x y n ≡ three_numbers a b c ++ 95 ∷ tail → ⊥
unfolding three_numbers
three-tail x y n a b c tail of_x of_y of_n of_a of_b same =
    let cut = cut-same (decimal x) (decimal a) (decimal y ++ 95 ∷ decimal n) (decimal b ++ 95 ∷ (decimal c ++ 95 ∷ tail)) (number-digits x of_x) (number-digits a of_a) (same ∙ joined a b c tail) in
    let rest = cut-same (decimal y) (decimal b) (decimal n) (decimal c ++ 95 ∷ tail) (number-digits y of_y) (number-digits b of_b) cut.1 in
    no-tail (decimal n) (decimal c) tail (number-digits n of_n) rest.1

-- three numbers are the same if they are so with tails
pub three-tails : (x y n a b c : ℕ) (tail other : List ℕ) → IsSmall x → IsSmall y → IsSmall n → IsSmall a → IsSmall b → IsSmall c
    → three_numbers x y n ++ 95 ∷ tail ≡ three_numbers a b c ++ 95 ∷ other → three_numbers x y n ≡ three_numbers a b c
unfolding three_numbers
three-tails x y n a b c tail other of_x of_y of_n of_a of_b of_c same =
    let cut = cut-same (decimal x) (decimal a) (decimal y ++ 95 ∷ (decimal n ++ 95 ∷ tail)) (decimal b ++ 95 ∷ (decimal c ++ 95 ∷ other)) (number-digits x of_x) (number-digits a of_a)
    (sym (joined x y n tail) ∙ (same ∙ joined a b c other)) in
    let rest = cut-same (decimal y) (decimal b) (decimal n ++ 95 ∷ tail) (decimal c ++ 95 ∷ other) (number-digits y of_y) (number-digits b of_b) cut.1 in
    let last = cut-same (decimal n) (decimal c) tail other (number-digits n of_n) (number-digits c of_c) rest.1 in
    ap₂ (λ first more. first ++ 95 ∷ more) cut.0 (ap₂ (λ first more. first ++ 95 ∷ more) rest.0 last.0)

-- ---- outputs of PLLs

word-same : (one two : PllOutput) → output_word one ≡ output_word two → one ≡ two
word-same output.A output.A same = refl
word-same output.A output.B same = let first : 97 ≡ 98 = ap (λ word. get_or word 0 0) same in absurd (omega (arith, first))
word-same output.A output.Lock same = let first : 97 ≡ 108 = ap (λ word. get_or word 0 0) same in absurd (omega (arith, first))
word-same output.A output.Sdo same = let first : 97 ≡ 115 = ap (λ word. get_or word 0 0) same in absurd (omega (arith, first))
word-same output.B output.A same = let first : 98 ≡ 97 = ap (λ word. get_or word 0 0) same in absurd (omega (arith, first))
word-same output.B output.B same = refl
word-same output.B output.Lock same = let first : 98 ≡ 108 = ap (λ word. get_or word 0 0) same in absurd (omega (arith, first))
word-same output.B output.Sdo same = let first : 98 ≡ 115 = ap (λ word. get_or word 0 0) same in absurd (omega (arith, first))
word-same output.Lock output.A same = let first : 108 ≡ 97 = ap (λ word. get_or word 0 0) same in absurd (omega (arith, first))
word-same output.Lock output.B same = let first : 108 ≡ 98 = ap (λ word. get_or word 0 0) same in absurd (omega (arith, first))
word-same output.Lock output.Lock same = refl
word-same output.Lock output.Sdo same = let first : 108 ≡ 115 = ap (λ word. get_or word 0 0) same in absurd (omega (arith, first))
word-same output.Sdo output.A same = let first : 115 ≡ 97 = ap (λ word. get_or word 0 0) same in absurd (omega (arith, first))
word-same output.Sdo output.B same = let first : 115 ≡ 98 = ap (λ word. get_or word 0 0) same in absurd (omega (arith, first))
word-same output.Sdo output.Lock same = let first : 115 ≡ 108 = ap (λ word. get_or word 0 0) same in absurd (omega (arith, first))
word-same output.Sdo output.Sdo same = refl

pub pll-same : (x y a b : ℕ) (one two : PllOutput) → IsSmall x → IsSmall y → IsSmall a → IsSmall b → pll_name x y one ≡ pll_name a b two → (x ≡ a) × (y ≡ b) × (one ≡ two)
unfolding pll_name
pll-same x y a b one two of_x of_y of_a of_b same =
    let following : decimal x ++ 95 ∷ (decimal y ++ 95 ∷ output_word one) ≡ decimal a ++ 95 ∷ (decimal b ++ 95 ∷ output_word two) = cc in
    let cut = cut-same (decimal x) (decimal a) (decimal y ++ 95 ∷ output_word one) (decimal b ++ 95 ∷ output_word two) (number-digits x of_x) (number-digits a of_a) following in
    let rest = cut-same (decimal y) (decimal b) (output_word one) (output_word two) (number-digits y of_y) (number-digits b of_b) cut.1 in
    (decimal_injective x a of_x of_a cut.0, decimal_injective y b of_y of_b rest.0, word-same one two rest.1)

-- ---- how names begin

by-kind : (P : List ℕ → Type 0) → ((rest : List ℕ) → P (102 ∷ rest)) → ((rest : List ℕ) → P (112 ∷ rest)) → ((rest : List ℕ) → P (99 ∷ rest))
    → (register : RegisterKind) (rest : List ℕ) → P (register_prefix register ++ rest)
by-kind P of_f of_p of_c (FlipFlop i) rest = of_f (102 ∷ 95 ∷ rest)
by-kind P of_f of_p of_c (OfPin n kind.Input) rest = of_p (105 ∷ 95 ∷ rest)
by-kind P of_f of_p of_c (OfPin n kind.SecondInput) rest = of_p (106 ∷ 95 ∷ rest)
by-kind P of_f of_p of_c (OfPin n kind.InputClockEnable) rest = of_c (105 ∷ 95 ∷ rest)
by-kind P of_f of_p of_c (OfPin n kind.Output) rest = of_p (111 ∷ 95 ∷ rest)
by-kind P of_f of_p of_c (OfPin n kind.SecondOutput) rest = of_p (113 ∷ 95 ∷ rest)
by-kind P of_f of_p of_c (OfPin n kind.OutputClockEnable) rest = of_c (111 ∷ 95 ∷ rest)
by-kind P of_f of_p of_c (OfPin n kind.OutputEnable) rest = of_p (101 ∷ 95 ∷ rest)

-- the name of a register begins with an f, a p or a c
pub register-begins : (P : List ℕ → Type 0) → ((rest : List ℕ) → P (102 ∷ rest)) → ((rest : List ℕ) → P (112 ∷ rest)) → ((rest : List ℕ) → P (99 ∷ rest))
    → (register : Register) → P (register_name register)
unfolding register_name
register-begins P of_f of_p of_c register = by-kind P of_f of_p of_c register.kind (three_numbers register.x register.y (register_number register.kind))

-- the names of ports begin in one way
by-enable : (P : List ℕ → Type 0) → ((rest : List ℕ) → P (codes "io_" ++ rest)) → (enable : Bool) (pin : Pin) → P (if enable then enable_name pin else port_name pin)
unfolding pad_name enable_name
by-enable P each true pin = each (three_numbers pin.x pin.y pin.n ++ codes "_en")
by-enable P each false pin = each (three_numbers pin.x pin.y pin.n)

pub output-begins : (P : List ℕ → Type 0) → ((rest : List ℕ) → P (codes "io_" ++ rest)) → (output : OutputPort) → P (output_name output)
output-begins P each output = by-enable P each output.enable output.pin

pub input-begins : (P : List ℕ → Type 0) → ((rest : List ℕ) → P (codes "io_" ++ rest)) → ((rest : List ℕ) → P (codes "pll_" ++ rest)) → (port : InputPort) → P (input_port_name port)
unfolding pad_name outside_name pll_name
input-begins P each of_pll (Pad x y n) = each (three_numbers x y n)
input-begins P each of_pll (Outside x y n) = each (three_numbers x y n ++ codes "_in")
input-begins P each of_pll (Pll x y output) = of_pll (decimal x ++ (codes "_" ++ (decimal y ++ (codes "_" ++ output_word output))))

-- a name that begins so is no register's, RAM's or wire's
pub io-no_register : (rest : List ℕ) (register : Register) → bytes_eq (codes "io_" ++ rest) (register_name register) ≡ false
io-no_register rest register = register-begins (λ name. bytes_eq (codes "io_" ++ rest) name ≡ false) (λ more. refl) (λ more. refl) (λ more. refl) register

pub io-no_read : (rest : List ℕ) (ram : RamCell) → bytes_eq (codes "io_" ++ rest) (read_name ram) ≡ false
unfolding read_name
io-no_read rest ram = refl

pub io-no_memory : (rest : List ℕ) (ram : RamCell) → bytes_eq (codes "io_" ++ rest) (memory_name ram) ≡ false
unfolding memory_name
io-no_memory rest ram = refl

pub io-no_wire : (rest : List ℕ) (class : ℕ) → bytes_eq (codes "io_" ++ rest) (wire_name class) ≡ false
unfolding wire_name
io-no_wire rest class = refl

pll-no_kind : (rest : List ℕ) (register : RegisterKind) (more : List ℕ) → bytes_eq (codes "pll_" ++ rest) (register_prefix register ++ more) ≡ false
pll-no_kind rest (FlipFlop i) more = refl
pll-no_kind rest (OfPin n kind.Input) more = refl
pll-no_kind rest (OfPin n kind.SecondInput) more = refl
pll-no_kind rest (OfPin n kind.InputClockEnable) more = refl
pll-no_kind rest (OfPin n kind.Output) more = refl
pll-no_kind rest (OfPin n kind.SecondOutput) more = refl
pll-no_kind rest (OfPin n kind.OutputClockEnable) more = refl
pll-no_kind rest (OfPin n kind.OutputEnable) more = refl

pub pll-no_register : (rest : List ℕ) (register : Register) → bytes_eq (codes "pll_" ++ rest) (register_name register) ≡ false
unfolding register_name
pll-no_register rest register = pll-no_kind rest register.kind (three_numbers register.x register.y (register_number register.kind))

pub pll-no_read : (rest : List ℕ) (ram : RamCell) → bytes_eq (codes "pll_" ++ rest) (read_name ram) ≡ false
unfolding read_name
pll-no_read rest ram = refl

pub pll-no_memory : (rest : List ℕ) (ram : RamCell) → bytes_eq (codes "pll_" ++ rest) (memory_name ram) ≡ false
unfolding memory_name
pll-no_memory rest ram = refl

pub pll-no_wire : (rest : List ℕ) (class : ℕ) → bytes_eq (codes "pll_" ++ rest) (wire_name class) ≡ false
unfolding wire_name
pll-no_wire rest class = refl

pub register-no_wire : (register : Register) (class : ℕ) → bytes_eq (register_name register) (wire_name class) ≡ false
unfolding wire_name
register-no_wire register class = register-begins (λ name. bytes_eq name (wire_name class) ≡ false) (λ rest. refl) (λ rest. refl) (λ rest. refl) register

pub wire-no_register : (class : ℕ) (register : Register) → bytes_eq (wire_name class) (register_name register) ≡ false
unfolding wire_name
wire-no_register class register = register-begins (λ name. bytes_eq (wire_name class) name ≡ false) (λ rest. refl) (λ rest. refl) (λ rest. refl) register

pub register-no_read : (register : Register) (ram : RamCell) → bytes_eq (register_name register) (read_name ram) ≡ false
unfolding read_name
register-no_read register ram = register-begins (λ name. bytes_eq name (read_name ram) ≡ false) (λ rest. refl) (λ rest. refl) (λ rest. refl) register

pub register-no_memory : (register : Register) (ram : RamCell) → bytes_eq (register_name register) (memory_name ram) ≡ false
unfolding memory_name
register-no_memory register ram = register-begins (λ name. bytes_eq name (memory_name ram) ≡ false) (λ rest. refl) (λ rest. refl) (λ rest. refl) register

pub input-no_register : (port : InputPort) (register : Register) → bytes_eq (input_port_name port) (register_name register) ≡ false
input-no_register port register = input-begins (λ name. bytes_eq name (register_name register) ≡ false) (λ rest. io-no_register rest register) (λ rest. pll-no_register rest register) port

pub input-no_wire : (port : InputPort) (class : ℕ) → bytes_eq (input_port_name port) (wire_name class) ≡ false
input-no_wire port class = input-begins (λ name. bytes_eq name (wire_name class) ≡ false) (λ rest. io-no_wire rest class) (λ rest. pll-no_wire rest class) port

pub output-no_register : (output : OutputPort) (register : Register) → bytes_eq (output_name output) (register_name register) ≡ false
output-no_register output register = output-begins (λ name. bytes_eq name (register_name register) ≡ false) (λ rest. io-no_register rest register) output

pub output-no_read : (output : OutputPort) (ram : RamCell) → bytes_eq (output_name output) (read_name ram) ≡ false
output-no_read output ram = output-begins (λ name. bytes_eq name (read_name ram) ≡ false) (λ rest. io-no_read rest ram) output

pub output-no_memory : (output : OutputPort) (ram : RamCell) → bytes_eq (output_name output) (memory_name ram) ≡ false
output-no_memory output ram = output-begins (λ name. bytes_eq name (memory_name ram) ≡ false) (λ rest. io-no_memory rest ram) output

pub read-no_memory : (a b : RamCell) → bytes_eq (read_name a) (memory_name b) ≡ false
unfolding read_name memory_name
read-no_memory a b = refl
