-- How long the text of the database is: each of a tile's names is one net's.
use Rattle.std.proofs.Common.{◌≡◌, ◌≢◌, ℕ, zero, suc, ◌+◌, ◌-◌, ◌*◌, ◌^◌, ◌<◌, ◌≤◌, Bool, true, false, ◌&&◌, ◌==◌, List, [], ◌∷◌, ◌++◌, length, map, refl, ap, ◌∙◌, inl, inr, arith, lit≤, lit<, length-append}
use Rattle.std.specs.Prelude.{codes, decimal, nat_le, nat_lt, if◌then◌else◌, Option, Some, None}
use Rattle.std.proofs.lemmas.Bool.{cases_eq}
use Rattle.std.proofs.lemmas.Bool.Decides.{nat_tests}
use Rattle.std.proofs.lemmas.Fmt.{length-decimal-le}
use Rattle.std.proofs.lemmas.List.{map-append}
use Rattle.index_search.specs.Places.{gathered_below}
use Rattle.text_lines.specs.Written.{text_of}
use Rattle.asc_text.proofs.Pieces.{text_of-append, text_of-none, text_of-one}
use Rattle.asc_text.specs.Canonical.{with_word, grid_line}
use Rattle.plane_map.specs.Layout.{kind_of, grid_width, grid_height}
use Rattle.plane_map.specs.declared.device.DeviceName.{DeviceName}
use Rattle.plane_map.specs.declared.device.DeviceName.TheVariants.{Lp384, Hx1k, Hx8k}
use Rattle.plane_map.specs.declared.tile.TileKind.{TileKind}
use Rattle.plane_map.specs.declared.tile.TileKind.TheVariants.{Io, Logic, RamB, RamT}
use Rattle.plane_map.proofs.Grids.{grid_width-le, grid_height-le}
use Rattle.ice_gen.specs.Numbers.{nets, rams, cell_number, ram_number, clock_net, input_net, out_net, in_0_net, address_net, write_net, read_net, in_3_net, read_enable_net, write_enable_net, middle_net}
use Rattle.plane_map.specs.DeviceWords.{device_word}
use Rattle.asc_text.specs.Statements.{device_keyword}
use Rattle.ice_gen.specs.Database.{bit_word, buffer_line, by_all_cells, by_cells, cell_line, cell_names, cell_wire, database_lines, device_line, far_net, generated_database, head_lines, in_0_lines, in_0_statement, in_3_lines, in_3_lines_below, logic_names, ram_names, pin_names, names_by_kind, names_at, names_in_row, name_line, named, near_net, net_lines, numbered, pad_drive_line, pin_type_line, ten_bits}

-- ---- bounds

in_0-small : (device : DeviceName) (j : ℕ) → j < 10000 → in_0_net device j < 1000000
in_0-small Lp384 j few = omega arith
in_0-small Hx1k j few = omega arith
in_0-small Hx8k j few = omega arith

in_3-small : (device : DeviceName) (j : ℕ) → j < 10000 → in_3_net device j < 1000000
in_3-small Lp384 j few = omega arith
in_3-small Hx1k j few = omega arith
in_3-small Hx8k j few = omega arith

read-small : (device : DeviceName) (j : ℕ) → j < 10000 → read_net device j 0 < 1000000
read-small Lp384 j few = omega arith
read-small Hx1k j few = omega arith
read-small Hx8k j few = omega arith

cell-small : (device : DeviceName) (x y i : ℕ) → x < 34 → y < 34 → i < 8 → cell_number device x y i < 10000
cell-small Lp384 x y i near low few = grind (arith, nat_tests)
cell-small Hx1k x y i near low few = grind (arith, nat_tests)
cell-small Hx8k x y i near low few = grind (arith, nat_tests)

-- ---- sums

-- the sum of what the places below a bound give
abbrev pub total : ℕ → (ℕ → ℕ) → ℕ
total zero f = 0
total (suc n) f = total n f + f n

total-le : (n : ℕ) (f g : ℕ → ℕ) → ((k : ℕ) → k < n → f k ≤ g k) → total n f ≤ total n g
total-le zero f g h = omega arith
total-le (suc n) f g h =
    let before = total-le n f g (λ k within. h k (omega arith)) in
    let here : f n ≤ g n = h n (omega arith) in
    omega (arith, before, here)

total-most : (n c : ℕ) (f : ℕ → ℕ) → ((k : ℕ) → k < n → f k ≤ c) → total n f ≤ n * c
total-most zero c f h = omega arith
total-most (suc n) c f h =
    let before = total-most n c f (λ k within. h k (omega arith)) in
    let here : f n ≤ c = h n (omega arith) in
    grind (arith, before, here)

total-add : (n : ℕ) (f g : ℕ → ℕ) → total n (λ k. f k + g k) ≡ total n f + total n g
total-add zero f g = refl
total-add (suc n) f g = let before = total-add n f g in omega (arith, before)

total-zero : (n : ℕ) → total n (λ k. 0) ≡ 0
total-zero zero = refl
total-zero (suc n) = let before = total-zero n in omega (arith, before)

-- sums of sums, one way and the other
total-sum : (n m c : ℕ) (f : ℕ → ℕ → ℕ) → ((i : ℕ) → i < m → total n (f i) ≤ c) → total n (λ k. total m (λ i. f i k)) ≤ m * c
total-sum n zero c f h = let none = total-zero n in omega (arith, none)
total-sum n (suc m) c f h =
    let before = total-sum n m c f (λ i within. h i (omega arith)) in
    let here : total n (f m) ≤ c = h m (omega arith) in
    let both = total-add n (λ k. total m (λ i. f i k)) (f m) in
    grind (arith, before, here, both)

total-has : (n k : ℕ) (f : ℕ → ℕ) → k < n → f k ≤ total n f
total-has zero k f within = absurd (omega arith)
total-has (suc n) k f within = elim (cases_eq k n) [
  | inl same ↦ let e : f k ≡ f n = ap f same in omega (arith, e)
  | inr apart ↦ let before = total-has n k f (omega arith) in omega (arith, before)
]

-- what a name costs, if the number is another one
abbrev pub cost_at : ℕ → ℕ → ℕ
cost_at a k = if k == a then 84 else 0

at-most : (a k : ℕ) → cost_at a k ≤ 84
at-most a k = grind (arith, nat_tests)

at-other : (a k : ℕ) → k ≢ a → cost_at a k ≡ 0
at-other a k apart = grind (arith, nat_tests)

at-same : (a k : ℕ) → k ≡ a → cost_at a k ≡ 84
at-same a k same = grind (arith, nat_tests)

total-before : (n a : ℕ) → n ≤ a → total n (cost_at a) ≡ 0
total-before zero a before = refl
total-before (suc n) a before =
    let less = total-before n a (omega arith) in
    let here = at-other a n (λ same. omega arith) in
    omega (arith, less, here)

total-at : (n a : ℕ) → total n (cost_at a) ≤ 84
total-at zero a = omega arith
total-at (suc n) a = elim (cases_eq n a) [
  | inl same ↦ let less = total-before n a (omega arith) in let here = at-most a n in omega (arith, less, here)
  | inr apart ↦ let less = total-at n a in let here = at-other a n apart in omega (arith, less, here)
]

-- ---- lines

-- how many bytes lines have
abbrev pub size : List (List ℕ) → ℕ
size lines = length (text_of lines)

size-append : (a b : List (List ℕ)) → size (a ++ b) ≡ size a + size b
size-append a b = ap length (text_of-append a b) ∙ length-append (text_of a) (text_of b)

size-none : size [] ≡ 0
size-none = ap length text_of-none

size-one : (line : List ℕ) → size (line ∷ []) ≡ length line + 1
size-one line = ap length (text_of-one line) ∙ length-append line (10 ∷ [])

size-gathered : (n : ℕ) (given : ℕ → List (List ℕ)) → size (gathered_below n given) ≡ total n (λ k. size (given k))
unfolding gathered_below
size-gathered zero given = size-none
size-gathered (suc n) given = size-append (gathered_below n given) (given n) ∙ ap (λ m. m + size (given n)) (size-gathered n given)

module _ (line : List ℕ → List ℕ) where
  lines-append : (a b : List (List ℕ)) → size (map line (a ++ b)) ≡ size (map line a) + size (map line b)
  lines-append a b = ap size (map-append line a b) ∙ size-append (map line a) (map line b)

  lines-gathered : (n : ℕ) (given : ℕ → List (List ℕ)) → size (map line (gathered_below n given)) ≡ total n (λ k. size (map line (given k)))
  unfolding gathered_below
  lines-gathered zero given = size-none
  lines-gathered (suc n) given = lines-append (gathered_below n given) (given n) ∙ ap (λ m. m + size (map line (given n))) (lines-gathered n given)

  -- a name that only one net has
  named-at : (test : Bool) (name : List ℕ) (a k : ℕ) → length (line name) ≤ 83 → (test ≡ true → k ≡ a) → size (map line (named test name)) ≤ cost_at a k
  named-at false name a k short only = let none = size-none in omega (arith, none)
  named-at true name a k short only = let one = size-one (line name) in let here = at-same a k (only refl) in omega (arith, one, here)

  -- a name that each of some nets in a row has
  numbered-at : (net first count : ℕ) (word : List ℕ) → length (line (word ++ decimal (net - first))) ≤ 83 → size (map line (numbered net first count word)) ≤ total count (λ b. cost_at (first + b) net)
  numbered-at net first count word short = go (nat_le first net && nat_lt net (first + count)) refl
    where
      go : (test : Bool) → (nat_le first net && nat_lt net (first + count)) ≡ test → size (map line (named test (word ++ decimal (net - first)))) ≤ total count (λ b. cost_at (first + b) net)
      go false is = let none = size-none in omega (arith, none)
      go true is =
          let one = size-one (line (word ++ decimal (net - first))) in
          let from : first ≤ net = grind (arith, nat_tests) in
          let below : net < first + count = grind (arith, nat_tests) in
          let here = at-same (first + (net - first)) net (omega arith) in
          let has = total-has count (net - first) (λ b. cost_at (first + b) net) (omega arith) in
          omega (arith, one, here, has)

-- ---- names

-- a small number has few digits
few-digits : (n : ℕ) → n < 1000000 → length (decimal n) ≤ 6
few-digits n small = length-decimal-le 6 n (lit< tt) small (omega arith)

-- the place and a name
line-length : (x y : ℕ) (name : List ℕ) → x < 1000000 → y < 1000000 → length name ≤ 60 → length (name_line x y name) ≤ 83
line-length x y name small_x small_y short =
    omega (
      arith,
      few-digits x small_x,
      few-digits y small_y,
      length-append (decimal x ++ 32 ∷ decimal y) (32 ∷ name),
      length-append (decimal x) (32 ∷ decimal y),
    )

-- the name of a wire of a cell
wire-length : (i : ℕ) (wire : List ℕ) → i < 1000000 → length wire ≤ 10 → length (cell_wire i wire) ≤ 60
wire-length i wire small short =
    omega (arith, few-digits i small, length-append (codes "lutff_" ++ decimal i) wire, length-append (codes "lutff_") (decimal i))

-- a word and a number
word-length : (word : List ℕ) (n : ℕ) → n < 1000000 → length word ≤ 20 → length (word ++ decimal n) ≤ 60
word-length word n small short = omega (arith, few-digits n small, length-append word (decimal n))

module _ (device : DeviceName) (x y : ℕ) (small_x : x < 1000000) (small_y : y < 1000000) where
  -- how many bytes the lines of a net in a tile have
  abbrev pub lines_size : List (List ℕ) → ℕ
  lines_size names = size (map (name_line x y) names)

  cell-cost : (n j i : ℕ) → i < 1000000 → total n (λ net. lines_size (cell_names device net j i)) ≤ 336
  unfolding cell_names
  cell-cost n j i small =
      let wire : (w : List ℕ) → length w ≤ 10 → length (name_line x y (cell_wire i w)) ≤ 83 = λ w short. line-length x y (cell_wire i w) small_x small_y (wire-length i w small short) in
      let cost : ℕ → ℕ = λ net. cost_at (in_0_net device j) net + cost_at (out_net (j - 2)) net + cost_at (in_3_net device j) net + cost_at (out_net j) net in
      let each : (net : ℕ) → net < n → lines_size (cell_names device net j i) ≤ cost net = λ net within.
      let a = named (net == in_0_net device j) (cell_wire i (codes "/in_0")) in
      let b = named (nat_le 2 j && (net == out_net (j - 2))) (cell_wire i (codes "/in_1")) in
      let d = named (nat_lt j (rams device) && (net == in_3_net device j)) (cell_wire i (codes "/in_3")) in
      let e = named (net == out_net j) (cell_wire i (codes "/out")) in
      omega (
        arith,
        lines-append (name_line x y) (a ++ b ++ d) e,
        lines-append (name_line x y) (a ++ b) d,
        lines-append (name_line x y) a b,
        named-at (name_line x y) (net == in_0_net device j) (cell_wire i (codes "/in_0")) (in_0_net device j) net (wire (codes "/in_0") (lit≤ tt)) (λ is. grind (arith, nat_tests)),
        named-at (name_line x y) (nat_le 2 j && (net == out_net (j - 2))) (cell_wire i (codes "/in_1")) (out_net (j - 2)) net (wire (codes "/in_1") (lit≤ tt)) (λ is. grind (arith, nat_tests)),
        named-at (name_line x y) (nat_lt j (rams device) && (net == in_3_net device j)) (cell_wire i (codes "/in_3")) (in_3_net device j) net (wire (codes "/in_3") (lit≤ tt)) (λ is. grind (arith, nat_tests)),
        named-at (name_line x y) (net == out_net j) (cell_wire i (codes "/out")) (out_net j) net (wire (codes "/out") (lit≤ tt)) (λ is. grind (arith, nat_tests)),
      ) in
      let all = total-le n (λ net. lines_size (cell_names device net j i)) cost each in
      omega (
        arith,
        all,
        total-add n (λ net. cost_at (in_0_net device j) net + cost_at (out_net (j - 2)) net + cost_at (in_3_net device j) net) (cost_at (out_net j)),
        total-add n (λ net. cost_at (in_0_net device j) net + cost_at (out_net (j - 2)) net) (cost_at (in_3_net device j)),
        total-add n (cost_at (in_0_net device j)) (cost_at (out_net (j - 2))),
        total-at n (in_0_net device j),
        total-at n (out_net (j - 2)),
        total-at n (in_3_net device j),
        total-at n (out_net j),
      )

  logic-cost : (n : ℕ) → total n (λ net. lines_size (logic_names device net x y)) ≤ 2856
  unfolding logic_names
  logic-cost n =
      let line : List ℕ → List ℕ = name_line x y in
      let cells : ℕ → ℕ → ℕ = λ i net. lines_size (cell_names device net (cell_number device x y i) i) in
      let cost : ℕ → ℕ = λ net. cost_at clock_net net + total 8 (λ i. cells i net) + cost_at clock_net net in
      let each : (net : ℕ) → net < n → lines_size (logic_names device net x y) ≤ cost net = λ net within.
      let a = named (net == clock_net) (codes "glb_netwk_0") in
      let b = gathered_below 8 (λ i. cell_names device net (cell_number device x y i) i) in
      let d = named (net == clock_net) (codes "lutff_global/clk") in
      omega (
        arith,
        lines-append line (a ++ b) d,
        lines-append line a b,
        lines-gathered line 8 (λ i. cell_names device net (cell_number device x y i) i),
        named-at line (net == clock_net) (codes "glb_netwk_0") clock_net net (line-length x y (codes "glb_netwk_0") small_x small_y (lit≤ tt)) (λ is. grind (arith, nat_tests)),
        named-at line (net == clock_net) (codes "lutff_global/clk") clock_net net (line-length x y (codes "lutff_global/clk") small_x small_y (lit≤ tt)) (λ is. grind (arith, nat_tests)),
      ) in
      let all = total-le n (λ net. lines_size (logic_names device net x y)) cost each in
      omega (
        arith,
        all,
        total-add n (λ net. cost_at clock_net net + total 8 (λ i. cells i net)) (cost_at clock_net),
        total-add n (cost_at clock_net) (λ net. total 8 (λ i. cells i net)),
        total-at n clock_net,
        total-sum n 8 336 cells (λ i within. cell-cost n (cell_number device x y i) i (omega arith)),
      )

  numbered-cost : (n first count : ℕ) → total n (λ net. total count (λ b. cost_at (first + b) net)) ≤ count * 84
  numbered-cost n first count = total-sum n count 84 (λ b. cost_at (first + b)) (λ b within. total-at n (first + b))

  ram-cost : (n r : ℕ) → n < 1000000 → total n (λ net. lines_size (ram_names device net r)) ≤ 4368
  unfolding ram_names
  ram-cost n r few =
      let line : List ℕ → List ℕ = name_line x y in
      let A : ℕ → ℕ = λ net. total 8 (λ b. cost_at (address_net r 0 + b) net) in
      let D : ℕ → ℕ = λ net. total 16 (λ b. cost_at (read_net device r 0 + b) net) in
      let W : ℕ → ℕ = λ net. total 16 (λ b. cost_at (write_net r 0 + b) net) in
      let C : ℕ → ℕ = cost_at clock_net in
      let E : ℕ → ℕ = cost_at (read_enable_net device) in
      let F : ℕ → ℕ = cost_at (write_enable_net device) in
      let cost : ℕ → ℕ = λ net. A net + C net + D net + E net + A net + C net + W net + F net in
      let each : (net : ℕ) → net < n → lines_size (ram_names device net r) ≤ cost net = λ net within.
      let n1 = numbered net (address_net r 0) 8 (codes "ram/RADDR_") in
      let n2 = named (net == clock_net) (codes "ram/RCLK") in
      let n3 = numbered net (read_net device r 0) 16 (codes "ram/RDATA_") in
      let n4 = named (net == read_enable_net device) (codes "ram/RE") in
      let n5 = numbered net (address_net r 0) 8 (codes "ram/WADDR_") in
      let n6 = named (net == clock_net) (codes "ram/WCLK") in
      let n7 = numbered net (write_net r 0) 16 (codes "ram/WDATA_") in
      let n8 = named (net == write_enable_net device) (codes "ram/WE") in
      let short : (word : List ℕ) → length word ≤ 60 → length (line word) ≤ 83 = λ word brief. line-length x y word small_x small_y brief in
      let digits : (word : List ℕ) (first : ℕ) → length word ≤ 20 → length (line (word ++ decimal (net - first))) ≤ 83 = λ word first brief. short (word ++ decimal (net - first)) (word-length word (net - first) (omega arith) brief) in
      omega (
        arith,
        lines-append line (n1 ++ n2 ++ n3 ++ n4 ++ n5 ++ n6 ++ n7) n8,
        lines-append line (n1 ++ n2 ++ n3 ++ n4 ++ n5 ++ n6) n7,
        lines-append line (n1 ++ n2 ++ n3 ++ n4 ++ n5) n6,
        lines-append line (n1 ++ n2 ++ n3 ++ n4) n5,
        lines-append line (n1 ++ n2 ++ n3) n4,
        lines-append line (n1 ++ n2) n3,
        lines-append line n1 n2,
        numbered-at line net (address_net r 0) 8 (codes "ram/RADDR_") (digits (codes "ram/RADDR_") (address_net r 0) (lit≤ tt)),
        named-at line (net == clock_net) (codes "ram/RCLK") clock_net net (short (codes "ram/RCLK") (lit≤ tt)) (λ is. grind (arith, nat_tests)),
        numbered-at line net (read_net device r 0) 16 (codes "ram/RDATA_") (digits (codes "ram/RDATA_") (read_net device r 0) (lit≤ tt)),
        named-at line (net == read_enable_net device) (codes "ram/RE") (read_enable_net device) net (short (codes "ram/RE") (lit≤ tt)) (λ is. grind (arith, nat_tests)),
        numbered-at line net (address_net r 0) 8 (codes "ram/WADDR_") (digits (codes "ram/WADDR_") (address_net r 0) (lit≤ tt)),
        named-at line (net == clock_net) (codes "ram/WCLK") clock_net net (short (codes "ram/WCLK") (lit≤ tt)) (λ is. grind (arith, nat_tests)),
        numbered-at line net (write_net r 0) 16 (codes "ram/WDATA_") (digits (codes "ram/WDATA_") (write_net r 0) (lit≤ tt)),
        named-at line (net == write_enable_net device) (codes "ram/WE") (write_enable_net device) net (short (codes "ram/WE") (lit≤ tt)) (λ is. grind (arith, nat_tests)),
      ) in
      let all = total-le n (λ net. lines_size (ram_names device net r)) cost each in
      omega (
        arith,
        all,
        total-add n (λ net. A net + C net + D net + E net + A net + C net + W net) F,
        total-add n (λ net. A net + C net + D net + E net + A net + C net) W,
        total-add n (λ net. A net + C net + D net + E net + A net) C,
        total-add n (λ net. A net + C net + D net + E net) A,
        total-add n (λ net. A net + C net + D net) E,
        total-add n (λ net. A net + C net) D,
        total-add n A C,
        numbered-cost n (address_net r 0) 8,
        numbered-cost n (read_net device r 0) 16,
        numbered-cost n (write_net r 0) 16,
        total-at n clock_net,
        total-at n (read_enable_net device),
        total-at n (write_enable_net device),
      )

  io-cost : (n : ℕ) → total n (λ net. lines_size (pin_names device net x y)) ≤ 252
  unfolding pin_names
  io-cost n =
      let line : List ℕ → List ℕ = name_line x y in
      let cost : ℕ → ℕ = λ net. cost_at input_net net + cost_at (read_enable_net device) net + cost_at (middle_net device) net in
      let each : (net : ℕ) → net < n → lines_size (pin_names device net x y) ≤ cost net = λ net within.
      let t1 = (x == 0) && (y == 2) && (net == input_net) in
      let t2 = (x == 0) && (y == 3) && (net == read_enable_net device) in
      let t3 = (x == 0) && (y == 4) && (net == middle_net device) in
      let a = named t1 (codes "io_0/D_IN_0") in
      let b = named t2 (codes "io_0/D_OUT_0") in
      let d = named t3 (codes "io_0/D_OUT_0") in
      omega (
        arith,
        lines-append line (a ++ b) d,
        lines-append line a b,
        named-at line t1 (codes "io_0/D_IN_0") input_net net (line-length x y (codes "io_0/D_IN_0") small_x small_y (lit≤ tt)) (λ is. grind (arith, nat_tests)),
        named-at line t2 (codes "io_0/D_OUT_0") (read_enable_net device) net (line-length x y (codes "io_0/D_OUT_0") small_x small_y (lit≤ tt)) (λ is. grind (arith, nat_tests)),
        named-at line t3 (codes "io_0/D_OUT_0") (middle_net device) net (line-length x y (codes "io_0/D_OUT_0") small_x small_y (lit≤ tt)) (λ is. grind (arith, nat_tests)),
      ) in
      let all = total-le n (λ net. lines_size (pin_names device net x y)) cost each in
      omega (
        arith,
        all,
        total-add n (λ net. cost_at input_net net + cost_at (read_enable_net device) net) (cost_at (middle_net device)),
        total-add n (cost_at input_net) (cost_at (read_enable_net device)),
        total-at n input_net,
        total-at n (read_enable_net device),
        total-at n (middle_net device),
      )

  none-cost : (n : ℕ) → total n (λ net. size []) ≤ 4368
  none-cost n =
      let all = total-le n (λ net. size []) (λ net. 0) (λ net within. let none = size-none in omega (arith, none)) in
      omega (arith, all, total-zero n)

  -- all names of a tile, each of which one net has
  tile-cost : (n : ℕ) (kind : Option TileKind) → n < 1000000 → total n (λ net. lines_size (names_by_kind device net x y kind)) ≤ 4368
  tile-cost n None few = none-cost n
  tile-cost n (Some Io) few = let cost = io-cost n in omega (arith, cost)
  tile-cost n (Some Logic) few = let cost = logic-cost n in omega (arith, cost)
  tile-cost n (Some RamB) few = ram-cost n (ram_number device x y) few
  tile-cost n (Some RamT) few = none-cost n

-- ---- nets

module _ (device : DeviceName) (n : ℕ) (few : n < 1000000) where
  row-cost : (y : ℕ) → y < 34 → total n (λ net. size (names_in_row device net y)) ≤ grid_width device * 4368
  row-cost y low =
      let tile : ℕ → ℕ → ℕ = λ x net. size (map (name_line x y) (names_at device net x y)) in
      let most = grid_width-le device in
      let each : (net : ℕ) → net < n → size (names_in_row device net y) ≤ total (grid_width device) (λ x. tile x net) = λ net within.
      let same = size-gathered (grid_width device) (λ x. map (name_line x y) (names_at device net x y)) in omega (arith, same) in
      let all = total-le n (λ net. size (names_in_row device net y)) (λ net. total (grid_width device) (λ x. tile x net)) each in
      let sum = total-sum n (grid_width device) 4368 tile (λ x within. tile-cost device x y (omega arith) (omega arith) n (kind_of device x y) few) in
      omega (arith, all, sum)

  rows-cost : total n (λ net. size (gathered_below (grid_height device) (names_in_row device net))) ≤ grid_height device * (grid_width device * 4368)
  rows-cost =
      let row : ℕ → ℕ → ℕ = λ y net. size (names_in_row device net y) in
      let high = grid_height-le device in
      let each : (net : ℕ) → net < n → size (gathered_below (grid_height device) (names_in_row device net)) ≤ total (grid_height device) (λ y. row y net) = λ net within.
      let same = size-gathered (grid_height device) (names_in_row device net) in omega (arith, same) in
      let all = total-le n (λ net. size (gathered_below (grid_height device) (names_in_row device net))) (λ net. total (grid_height device) (λ y. row y net)) each in
      let sum = total-sum n (grid_height device) (grid_width device * 4368) row (λ y within. row-cost y (omega arith)) in
      omega (arith, all, sum)

  nets-cost : total n (λ net. size (net_lines device net)) ≤ n * 12 + grid_height device * (grid_width device * 4368)
  unfolding net_lines
  nets-cost =
      let rows : ℕ → ℕ = λ net. size (gathered_below (grid_height device) (names_in_row device net)) in
      let each : (net : ℕ) → net < n → size (net_lines device net) ≤ 12 + rows net = λ net within.
      let statement = with_word (codes ".net") (decimal net) in
      omega (arith, size-append (statement ∷ []) (gathered_below (grid_height device) (names_in_row device net)), size-one statement, length-append (codes ".net") (32 ∷ decimal net), few-digits net (omega arith)) in
      let all = total-le n (λ net. size (net_lines device net)) (λ net. 12 + rows net) each in
      let const = total-most n 12 (λ net. 12) (λ net within. omega arith) in
      omega (arith, all, total-add n (λ net. 12) rows, const, rows-cost)

-- ---- buffers and the head

-- a line and a word after it
word-after : (line word : List ℕ) (a b : ℕ) → length line ≤ a → length word ≤ b → length (with_word line word) ≤ a + b + 1
word-after line word a b one two = omega (arith, one, two, length-append line (32 ∷ word))

bit-length : (row col : ℕ) → row < 1000000 → col < 1000000 → length (bit_word row col) ≤ 15
bit-length row col low near =
    omega (arith, few-digits row low, few-digits col near, length-append (66 ∷ decimal row ++ 91 ∷ decimal col) (93 ∷ []), length-append (66 ∷ decimal row) (91 ∷ decimal col))

grid-length : (keyword : List ℕ) (x y a : ℕ) → x < 1000000 → y < 1000000 → length keyword ≤ a → length (grid_line keyword x y) ≤ a + 14
grid-length keyword x y a small_x small_y short =
    let one = word-after keyword (decimal x) a 6 short (few-digits x small_x) in
    let two = word-after (with_word keyword (decimal x)) (decimal y) (a + 6 + 1) 6 one (few-digits y small_y) in
    omega (arith, two)

buffer-length : (x y net : ℕ) → x < 1000000 → y < 1000000 → net < 1000000 → length (buffer_line x y net) ≤ 28
buffer-length x y net small_x small_y small = word-after (grid_line (codes ".buffer") x y) (decimal net) 21 6 (grid-length (codes ".buffer") x y 7 small_x small_y (lit≤ tt)) (few-digits net small)

in_0-size : (device : DeviceName) (x y j i : ℕ) → x < 34 → y < 34 → j < 10000 → i < 8 → size (in_0_lines device x y j i) ≤ 100
unfolding in_0_lines
in_0-size device x y j i small_x small_y small_j small_i =
    let net : in_0_net device j < 1000000 = in_0-small device j small_j in
    let far : far_net j < 1000000 = grind (arith, nat_tests) in
    let one = buffer-length x y (in_0_net device j) (omega arith) (omega arith) net in
    let two = word-after (buffer_line x y (in_0_net device j)) (bit_word (2 * i) 0) 28 15 one (bit-length (2 * i) 0 (omega arith) (omega arith)) in
    let three = word-after (with_word (buffer_line x y (in_0_net device j)) (bit_word (2 * i) 0)) (bit_word (2 * i + 1) 0) 44 15 two (bit-length (2 * i + 1) 0 (omega arith) (omega arith)) in
    let near_line = with_word (codes "10") (decimal (near_net j)) in
    let far_line = with_word (codes "01") (decimal (far_net j)) in
    omega (
      arith,
      three,
      word-after (codes "10") (decimal (near_net j)) 2 6 (lit≤ tt) (few-digits (near_net j) (omega arith)),
      word-after (codes "01") (decimal (far_net j)) 2 6 (lit≤ tt) (few-digits (far_net j) far),
      size-append (in_0_statement device x y j i ∷ []) (near_line ∷ far_line ∷ []),
      size-append (near_line ∷ []) (far_line ∷ []),
      size-one (in_0_statement device x y j i),
      size-one near_line,
      size-one far_line,
    )

in_3-size : (device : DeviceName) (x y j i : ℕ) → x < 34 → y < 34 → j < 10000 → i < 8 → size (in_3_lines device x y j i) ≤ 100
unfolding in_3_lines
in_3-size device x y j i small_x small_y small_j small_i =
    let net : in_3_net device j < 1000000 = in_3-small device j small_j in
    let read : read_net device j 0 < 1000000 = read-small device j small_j in
    let one = buffer-length x y (in_3_net device j) (omega arith) (omega arith) net in
    let two = word-after (buffer_line x y (in_3_net device j)) (bit_word (2 * i) 1) 28 15 one (bit-length (2 * i) 1 (omega arith) (omega arith)) in
    let statement = with_word (buffer_line x y (in_3_net device j)) (bit_word (2 * i) 1) in
    let choice = with_word (codes "1") (decimal (read_net device j 0)) in
    omega (arith, two, word-after (codes "1") (decimal (read_net device j 0)) 1 6 (lit≤ tt) (few-digits (read_net device j 0) read), size-append (statement ∷ []) (choice ∷ []), size-one statement, size-one choice)

in_3-size-below : (device : DeviceName) (x y j i : ℕ) → x < 34 → y < 34 → j < 10000 → i < 8 → size (in_3_lines_below device x y j i) ≤ 100
in_3-size-below device x y j i small_x small_y small_j small_i = go (nat_lt j (rams device))
  where
    go : (test : Bool) → size (if test then in_3_lines device x y j i else []) ≤ 100
    go true = in_3-size device x y j i small_x small_y small_j small_i
    go false = let none = size-none in omega (arith, none)

module _ (device : DeviceName) (lines_of : ℕ → ℕ → ℕ → ℕ → List (List ℕ))
    (short : (x y j i : ℕ) → x < 34 → y < 34 → j < 10000 → i < 8 → size (lines_of x y j i) ≤ 100) where
  by_cells-size : (x y : ℕ) (kind : Option TileKind) → x < 34 → y < 34 → size (by_cells device (lines_of x y) x y kind) ≤ 800
  by_cells-size x y None near low = let none = size-none in omega (arith, none)
  by_cells-size x y (Some Io) near low = let none = size-none in omega (arith, none)
  by_cells-size x y (Some RamB) near low = let none = size-none in omega (arith, none)
  by_cells-size x y (Some RamT) near low = let none = size-none in omega (arith, none)
  by_cells-size x y (Some Logic) near low =
      let given : ℕ → List (List ℕ) = λ i. lines_of x y (cell_number device x y i) i in
      omega (arith, size-gathered 8 given, total-most 8 100 (λ i. size (given i)) (λ i within. short x y (cell_number device x y i) i near low (cell-small device x y i near low within) within))

  all_cells-size : size (by_all_cells device lines_of) ≤ grid_height device * (grid_width device * 800)
  all_cells-size =
      let most = grid_width-le device in
      let high = grid_height-le device in
      let place : ℕ → ℕ → List (List ℕ) = λ y x. by_cells device (lines_of x y) x y (kind_of device x y) in
      let row : (y : ℕ) → y < grid_height device → size (gathered_below (grid_width device) (place y)) ≤ grid_width device * 800 = λ y low.
      let same = size-gathered (grid_width device) (place y) in
      let sum = total-most (grid_width device) 800 (λ x. size (place y x)) (λ x near. by_cells-size x y (kind_of device x y) (omega arith) (omega arith)) in
      omega (arith, same, sum) in
      let same = size-gathered (grid_height device) (λ y. gathered_below (grid_width device) (place y)) in
      let sum = total-most (grid_height device) (grid_width device * 800) (λ y. size (gathered_below (grid_width device) (place y))) row in
      omega (arith, same, sum)

-- the bytes of some places
length-below : (n c : ℕ) (given : ℕ → List ℕ) → ((k : ℕ) → k < n → length (given k) ≤ c) → length (gathered_below n given) ≤ n * c
unfolding gathered_below
length-below zero c given h = omega arith
length-below (suc n) c given h =
    let before = length-below n c given (λ k within. h k (omega arith)) in
    let here : length (given n) ≤ c = h n (omega arith) in
    let both = length-append (gathered_below n given) (given n) in
    grind (arith, before, here, both)

ten-length : (row : ℕ) → row < 1000000 → length (ten_bits row) ≤ 160
ten-length row low = length-below 10 16 (λ k. 32 ∷ bit_word row (36 + k)) (λ k within. let one = bit-length row (36 + k) low (omega arith) in omega (arith, one))

cell-length : (i : ℕ) → i < 8 → length (cell_line i) ≤ 400
cell-length i small =
    omega (
      arith,
      few-digits i (omega arith),
      ten-length (2 * i) (omega arith),
      ten-length (2 * i + 1) (omega arith),
      length-append (codes "LC_" ++ decimal i ++ ten_bits (2 * i)) (ten_bits (2 * i + 1)),
      length-append (codes "LC_" ++ decimal i) (ten_bits (2 * i)),
      length-append (codes "LC_") (decimal i),
    )

pin-length : (k : ℕ) → k < 6 → length (pin_type_line k) ≤ 36
pin-length k small =
    word-after (codes "IOB_0.PINTYPE_" ++ decimal k) (bit_word k 0) 20 15 (let digits = few-digits k (omega arith) in omega (arith, digits, length-append (codes "IOB_0.PINTYPE_") (decimal k))) (bit-length k 0 (omega arith) (omega arith))

name-length : (device : DeviceName) → length (with_word device_keyword (device_word device)) ≤ 11
name-length Lp384 = lit≤ tt
name-length Hx1k = lit≤ tt
name-length Hx8k = lit≤ tt

nets-few : (device : DeviceName) → nets device < 20000
nets-few Lp384 = lit< tt
nets-few Hx1k = lit< tt
nets-few Hx8k = lit< tt

device-length : (device : DeviceName) → length (device_line device) ≤ 32
device-length device =
    let name = with_word device_keyword (device_word device) in
    let wide : grid_width device < 1000000 = omega (arith, grid_width-le device) in
    let high : grid_height device < 1000000 = omega (arith, grid_height-le device) in
    word-after (grid_line name (grid_width device) (grid_height device)) (decimal (nets device)) 25 6 (grid-length name (grid_width device) (grid_height device) 11 wide high (name-length device)) (few-digits (nets device) (omega (arith, nets-few device)))

pad-length : (device : DeviceName) → length (pad_drive_line device) ≤ 40
pad-length Lp384 = grid-length (with_word (codes "padin_glb_netwk.0") (decimal 0)) 180 79 26 (lit< tt) (lit< tt) (word-after (codes "padin_glb_netwk.0") (decimal 0) 19 6 (lit≤ tt) (few-digits 0 (lit< tt)))
pad-length Hx1k = grid-length (with_word (codes "padin_glb_netwk.0") (decimal 0)) 330 143 26 (lit< tt) (lit< tt) (word-after (codes "padin_glb_netwk.0") (decimal 0) 19 6 (lit≤ tt) (few-digits 0 (lit< tt)))
pad-length Hx8k = grid-length (with_word (codes "padin_glb_netwk.0") (decimal 0)) 870 271 26 (lit< tt) (lit< tt) (word-after (codes "padin_glb_netwk.0") (decimal 0) 19 6 (lit≤ tt) (few-digits 0 (lit< tt)))

head-size : (device : DeviceName) → size (head_lines device) ≤ 5000
unfolding head_lines
head-size device =
    let pins : List (List ℕ) = gathered_below 6 (λ k. pin_type_line k ∷ []) in
    let cells : List (List ℕ) = gathered_below 8 (λ i. cell_line i ∷ []) in
    let first : List (List ℕ) = device_line device ∷ codes ".gbufpin" ∷ codes "0 1 0 0" ∷ codes ".io_tile_bits 18 16" ∷ [] in
    let pad : List (List ℕ) = codes ".extra_bits" ∷ pad_drive_line device ∷ [] in
    let pin_sizes = total-most 6 37 (λ k. size (pin_type_line k ∷ [])) (λ k within. let short = pin-length k within in let one = size-one (pin_type_line k) in omega (arith, short, one)) in
    let cell_sizes = total-most 8 401 (λ i. size (cell_line i ∷ [])) (λ i within. let short = cell-length i within in let one = size-one (cell_line i) in omega (arith, short, one)) in
    let pins_are = size-gathered 6 (λ k. pin_type_line k ∷ []) in
    let cells_are = size-gathered 8 (λ i. cell_line i ∷ []) in
    let device_short = device-length device in
    let pad_short = pad-length device in
    let first_size : size first ≤ 100 =
    omega (
      arith,
      device_short,
      size-append (device_line device ∷ []) (codes ".gbufpin" ∷ codes "0 1 0 0" ∷ codes ".io_tile_bits 18 16" ∷ []),
      size-one (device_line device),
      size-append (codes ".gbufpin" ∷ []) (codes "0 1 0 0" ∷ codes ".io_tile_bits 18 16" ∷ []),
      size-one (codes ".gbufpin"),
      size-append (codes "0 1 0 0" ∷ []) (codes ".io_tile_bits 18 16" ∷ []),
      size-one (codes "0 1 0 0"),
      size-one (codes ".io_tile_bits 18 16"),
    ) in
    let pad_size : size pad ≤ 100 = omega (arith, pad_short, size-append (codes ".extra_bits" ∷ []) (pad_drive_line device ∷ []), size-one (codes ".extra_bits"), size-one (pad_drive_line device)) in
    omega (
      arith,
      pin_sizes,
      cell_sizes,
      pins_are,
      cells_are,
      first_size,
      pad_size,
      size-append (first ++ pins ++ codes ".logic_tile_bits 54 16" ∷ cells) pad,
      size-append (first ++ pins) (codes ".logic_tile_bits 54 16" ∷ cells),
      size-append first pins,
      size-append (codes ".logic_tile_bits 54 16" ∷ []) cells,
      size-one (codes ".logic_tile_bits 54 16"),
    )

-- ---- the whole

whole-size : (device : DeviceName) → size (database_lines device) ≤ 5000 + (nets device * 12 + grid_height device * (grid_width device * 4368)) + grid_height device * (grid_width device * 800) + grid_height device * (grid_width device * 800)
unfolding database_lines
whole-size device =
    let named_nets = gathered_below (nets device) (net_lines device) in
    let in_0 = by_all_cells device (in_0_lines device) in
    let in_3 = by_all_cells device (in_3_lines_below device) in
    omega (
      arith,
      head-size device,
      size-gathered (nets device) (net_lines device),
      nets-cost device (nets device) (omega (arith, nets-few device)),
      all_cells-size device (in_0_lines device) (in_0-size device),
      all_cells-size device (in_3_lines_below device) (in_3-size-below device),
      size-append (head_lines device ++ named_nets ++ in_0) in_3,
      size-append (head_lines device ++ named_nets) in_0,
      size-append (head_lines device) named_nets,
    )

-- The text is short enough to be read as a database.
pub database-size : (device : DeviceName) → length (generated_database device) ≤ 2 ^ 28
unfolding generated_database
database-size Lp384 = let whole = whole-size Lp384 in omega (arith, whole)
database-size Hx1k = let whole = whole-size Hx1k in omega (arith, whole)
database-size Hx8k = let whole = whole-size Hx8k in omega (arith, whole)
