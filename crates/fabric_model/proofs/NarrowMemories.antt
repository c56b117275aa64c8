-- A used RAM of a narrow mode is a memory of narrow words, in each step of each run of a fabric.
use Rattle.std.proofs.Common.{◌≡◌, ◌≢◌, ℕ, zero, suc, ◌+◌, ◌*◌, ◌/◌, ◌%◌, ◌^◌, ◌<◌, ◌≤◌, ◌&&◌, ◌==◌, Bool, true, false, List, [], ◌∷◌, ◌++◌, length, map, take, drop, get_or, set, refl, sym, ap, ◌∙◌, subst, inl, inr, arith, eq-eqb, ne_eqb, length-append, if◌then◌else◌}
use Rattle.std.specs.Prelude.{All, Contains, Option, None}
use Rattle.std.proofs.lemmas.Bool.{cases_Bool}
use Rattle.std.proofs.lemmas.Bool.Decides.{eqb_tells}
use Rattle.std.proofs.lemmas.Grind.{get_or-set_at}
use Rattle.std.proofs.Math.Nat.{mul_comm, mul-mod_right, le-div_iff_mul-le, div-lt_iff_lt-mul}
use Rattle.std.proofs.Math.Seq.{take-add}
use Rattle.std.proofs.lemmas.Nat.{mod-mul-add, div-mul-add, pow_pos}
use Rattle.std.proofs.lemmas.List.{get_or-set_other, length-map, length-set, length-take-le, length-drop, map-append}
use Rattle.std.proofs.lemmas.List.Elements.{All-nil, All-cons, All-map, All-set, All-get_or, All-weaker, All-contains, All-contains_itself}
use Rattle.index_search.specs.Places.{gathered_below}
use Rattle.index_search.proofs.Gathered.{All-gathered_below}
use Rattle.plane_map.specs.declared.tile.TileKind.TheVariants.{RamB}
use Rattle.plane_map.specs.Layout.{kind_of, grid_width, grid_height}
use Rattle.bit_plane.specs.BitList.{bit_value, word_of}
use Rattle.bit_plane.specs.Rows.{row_from}
use Rattle.bit_plane.proofs.Words.{bit_value-le, word_of-lt}
use Rattle.bit_plane.proofs.Parts.{word_of-append}
use Rattle.bit_plane.proofs.Made.{length-row_from, get_or-row_from}
use Rattle.ice_image.specs.Configuration.{Configuration}
use Rattle.chipdb_lines.specs.Statements.{is_kind_there}
use Rattle.chipdb_reader.specs.Database.{Database}
use Rattle.narrow_words.specs.Narrow.{share, put_bit, got_bit}
use Rattle.fabric_model.specs.declared.ram.RamCell.{RamCell}
use Rattle.fabric_model.specs.Tiles.{over_grid}
use Rattle.fabric_model.specs.Rams.{data_bit, is_ram_used, ram_at, rams_of, over_rams, start_word, start_words}
use Rattle.fabric_model.specs.declared.options.FabricOptions.{FabricOptions}
use Rattle.fabric_model.specs.Fabric.{Fabric, fabric_with, numbered_from, numbered}
use Rattle.fabric_model.specs.Values.{State, input_or_0, input_or_1, bit_in, is_connected}
use Rattle.fabric_model.specs.Steps.{Edges, event_edges, wave_edges, word_address, high_part, word_at, bit_of_word, masked_bit, written_data, written, shown, next_words, next_register, words_after, read_after, state_after, settled_state, start_state, Event, Entry, EndsAt, IsFirst, FollowEach}
use Rattle.fabric_model.specs.Steps.EndsAt.{bound, rests, goes_on}
use Rattle.fabric_model.specs.NarrowMemories.{narrow_in, narrow_address, port_place, given_bit, AreWords, HasWords, words_in, read_in, is_written, is_read, WritesNarrow, ReadsNarrow, IsNarrowMemory, OfStep, EachWave, EachStep, RamsAreMemories}
use Rattle.fabric_model.proofs.OneValue.{each_below-length}
use Rattle.fabric_model.proofs.Within.{All-if, All-single, All-over_tiles, All-numbered}
use Rattle.fabric_model.proofs.Settling.{numbered-read}

-- ---- bits of narrow words in a word

-- the place in a word of a bit of a narrow word tells the high part and the bit
rest-is : (each d high : ℕ) → high < each → (each * d + high) % each ≡ high
rest-is each d high less = ap (λ bits. (bits + high) % each) (mul_comm each d) ∙ mod-mul-add d each high less

part-is : (each d high : ℕ) → high < each → (each * d + high) / each ≡ d
part-is each d high less = ap (λ bits. (bits + high) / each) (mul_comm each d) ∙ div-mul-add d each high less

-- it stands inside the word
bit-inside : (each d high : ℕ) → high < each → d < 16 / each → each * d + high < 16
bit-inside each d high less short =
    let positive : 0 < each = omega (arith, less) in
    let most : suc d * each ≤ 16 = (le-div_iff_mul-le positive).0 (omega (arith, short)) in
    omega (arith, less, most, mul_comm each d)

-- an address of narrow words has a high part below the share
high-of : (each address : ℕ) → address < 256 * each → address / 256 < each
high-of each address inside = (div-lt_iff_lt-mul (omega arith)).1 (omega (arith, inside))

-- the port bit of a narrow bit, by modes
data_bit-is : (mode d : ℕ) → 0 < mode → mode < 4 → data_bit mode d ≡ port_place mode d
data_bit-is zero d narrow few = absurd (omega (arith, narrow))
data_bit-is (suc zero) d narrow few = let same : 2 * d + 0 ≡ 2 * d = omega arith in same
data_bit-is (suc (suc zero)) d narrow few = refl
data_bit-is (suc (suc (suc zero))) d narrow few = refl
data_bit-is (suc (suc (suc (suc mode)))) d narrow few = absurd (omega (arith, few))

module _ (mode d high : ℕ) (less : high < share mode) where
  -- the bits of the narrow word that is put
  put-there : (word value : ℕ → Bool) → put_bit mode word high value (share mode * d + high) ≡ value d
  put-there word value =
      rw (eq-eqb ((share mode * d + high) % share mode) high (rest-is (share mode) d high less)) (ap value (part-is (share mode) d high less))

  -- those of the others
  put-away : (word value : ℕ → Bool) (other : ℕ) → high ≢ other → put_bit mode word other value (share mode * d + high) ≡ word (share mode * d + high)
  put-away word value other away =
      rw (ne_eqb ((share mode * d + high) % share mode) other (λ same. away (sym (rest-is (share mode) d high less) ∙ same))) refl

-- what is got of a narrow word
got-there : (mode d : ℕ) (word : ℕ → Bool) (high : ℕ) → got_bit mode word high (share mode * d) ≡ word (share mode * d + high)
got-there mode d word high = rw (eq-eqb (share mode * d % share mode) 0 (mul-mod_right (share mode) d)) refl

-- ---- addresses

-- an address has the number of a word and a high part
record IsAddress (mode address low high : ℕ) : Type 0 where
  address_is : address ≡ low + 256 * high
  low_small : low < 256
  high_small : high < share mode

module _ (connected bit : ℕ → Bool) where
  address-is : (mode : ℕ) (ports : List (Option ℕ)) → mode < 4 → length ports ≡ 11
      → IsAddress mode (narrow_address connected bit mode ports) (word_address connected bit ports) (high_part connected bit mode ports)
  address-is mode ports few eleven =
      let value = input_or_0 connected bit in
      let low : List Bool = map value (take 8 ports) in
      let high : List Bool = map value (take mode (drop 8 ports)) in
      let eight : length low ≡ 8 = length-map (take 8 ports) value ∙ length-take-le 8 ports (omega (arith, eleven)) in
      let long : length high ≡ mode =
      length-map (take mode (drop 8 ports)) value ∙ length-take-le mode (drop 8 ports) (omega (arith, eleven, few, length-drop 8 ports)) in
      let split : map value (take (8 + mode) ports) ≡ low ++ high =
      ap (map value) (take-add 8 mode ports) ∙ map-append value (take 8 ports) (take mode (drop 8 ports)) in
      let count : 2 ^ length low ≡ 256 = ap (λ n. 2 ^ n) eight in
      record {
        address_is = ap word_of split ∙ word_of-append low high ∙ ap (λ n. word_of low + n * word_of high) count;
        low_small = subst (λ n. word_of low < n) count (word_of-lt low);
        high_small = subst (λ n. word_of high < 2 ^ n) long (word_of-lt high);
      }

-- ---- words

bit-made : (made : ℕ → Bool) (b : ℕ) → b < 16 → bit_of_word (row_from 16 made) b ≡ made b
bit-made made b within = get_or-row_from 16 made b within

module _ (connected bit : ℕ → Bool) (ram : RamCell) where
  written-narrow : (word : List Bool) → 0 < ram.write
      → written connected bit ram word
      ≡ row_from 16 (put_bit ram.write (bit_of_word word) (high_part connected bit ram.write ram.waddr) (written_data connected bit ram))
  unfolding written
  written-narrow word narrow = rw (ne_eqb ram.write 0 (λ none. absurd (omega (arith, none, narrow)))) refl

  shown-narrow : (word : List Bool) → 0 < ram.read
      → shown connected bit ram word ≡ row_from 16 (got_bit ram.read (bit_of_word word) (high_part connected bit ram.read ram.raddr))
  unfolding shown
  shown-narrow word narrow = rw (ne_eqb ram.read 0 (λ none. absurd (omega (arith, none, narrow)))) refl

  written-long : (word : List Bool) → length (written connected bit ram word) ≡ 16
  unfolding written
  written-long word =
      elim (cases_Bool (ram.write == 0)) [
        | inl whole ↦ rw whole (length-row_from 16 (masked_bit connected bit ram word))
        | inr narrow ↦
            rw narrow
            (length-row_from 16 (put_bit ram.write (bit_of_word word) (high_part connected bit ram.write ram.waddr) (written_data connected bit ram)))
      ]

  set-words : (words : List (List Bool)) (address : ℕ) (word : List Bool) → length word ≡ 16 → AreWords words → AreWords (set words address word)
  set-words words address word long are =
      (length-set words address word ∙ are.0, All-set (λ one. length one ≡ 16) words address word long are.1)

  -- the words of a RAM stay 256 words of 16 bits
  next-words : (words : List (List Bool)) → AreWords words → AreWords (next_words connected bit ram words)
  unfolding next_words
  next-words words are =
      let address = word_address connected bit ram.waddr in
      elim (cases_Bool (input_or_1 connected bit ram.wclke && input_or_0 connected bit ram.we)) [
        | inl writes ↦
            rw writes
            (set-words words address (written connected bit ram (word_at words address)) (written-long (word_at words address)) are)
        | inr stays ↦ rw stays are
      ]

  module _ (words : List (List Bool)) where
    words-written : input_or_1 connected bit ram.wclke ≡ true → input_or_0 connected bit ram.we ≡ true
        → next_words connected bit ram words
        ≡ set words (word_address connected bit ram.waddr) (written connected bit ram (word_at words (word_address connected bit ram.waddr)))
    unfolding next_words
    words-written clocked enabled = rw (clocked, enabled) refl

    register-read : (register : List Bool) → input_or_1 connected bit ram.rclke ≡ true → input_or_0 connected bit ram.re ≡ true
        → next_register connected bit ram words register ≡ shown connected bit ram (word_at words (word_address connected bit ram.raddr))
    unfolding next_register
    register-read register clocked enabled = rw (clocked, enabled) refl

    words-kept : (input_or_1 connected bit ram.wclke && input_or_0 connected bit ram.we) ≡ false → next_words connected bit ram words ≡ words
    unfolding next_words
    words-kept off = rw off refl

    register-kept : (register : List Bool) → (input_or_1 connected bit ram.rclke && input_or_0 connected bit ram.re) ≡ false
        → next_register connected bit ram words register ≡ register
    unfolding next_register
    register-kept register off = rw off refl

    -- a bit of the narrow word that a port reads
    shown-bit : (d : ℕ) → 0 < ram.read → ram.read < 4 → length ram.raddr ≡ 11 → d < 16 / share ram.read
        → get_or (shown connected bit ram (word_at words (word_address connected bit ram.raddr))) (share ram.read * d) false
        ≡ narrow_in ram.read words (narrow_address connected bit ram.read ram.raddr) d
    shown-bit d narrow few eleven short =
        let low = word_address connected bit ram.raddr in
        let high = high_part connected bit ram.read ram.raddr in
        let address = narrow_address connected bit ram.read ram.raddr in
        let parts = address-is connected bit ram.read ram.raddr few eleven in
        let inside : share ram.read * d + 0 < 16 = bit-inside (share ram.read) d 0 (pow_pos ram.read) short in
        let first : address % 256 ≡ low = omega (arith, parts.address_is, parts.low_small) in
        let second : address / 256 ≡ high = omega (arith, parts.address_is, parts.low_small) in
        ap (λ word. get_or word (share ram.read * d) false) (shown-narrow (word_at words low) narrow)
        ∙ bit-made (got_bit ram.read (bit_of_word (word_at words low)) high) (share ram.read * d) (omega (arith, inside))
        ∙ got-there ram.read d (bit_of_word (word_at words low)) high
        ∙ ap (λ h. bit_of_word (word_at words low) (share ram.read * d + h)) (sym second)
        ∙ ap (λ a. bit_of_word (word_at words a) (share ram.read * d + address / 256)) (sym first)

    module _ (are : AreWords words) (narrow : 0 < ram.write) (few : ram.write < 4) (eleven : length ram.waddr ≡ 11) where
      -- a bit of each narrow word after a write
      abbrev low_number : ℕ
      low_number = word_address connected bit ram.waddr

      abbrev high_number : ℕ
      high_number = high_part connected bit ram.write ram.waddr

      abbrev old_word : List Bool
      old_word = word_at words low_number

      abbrev words_next : List (List Bool)
      words_next = set words low_number (written connected bit ram old_word)

      abbrev target : ℕ
      target = narrow_address connected bit ram.write ram.waddr

      abbrev bit_number : ℕ → ℕ → ℕ
      bit_number address d = share ram.write * d + address / 256

      in-word : (address d : ℕ) → address < 256 * share ram.write → d < 16 / share ram.write → address % 256 ≡ low_number
          → narrow_in ram.write words_next address d ≡ put_bit ram.write (bit_of_word old_word) high_number (written_data connected bit ram) (bit_number address d)
      in-word address d inside short same =
          let parts = address-is connected bit ram.write ram.waddr few eleven in
          ap (λ word. bit_of_word word (bit_number address d))
          (get_or-set_at words low_number (address % 256) (written connected bit ram old_word) [] same (omega (arith, are.0, parts.low_small)) ∙ written-narrow old_word narrow)
          ∙ bit-made (put_bit ram.write (bit_of_word old_word) high_number (written_data connected bit ram)) (bit_number address d)
          (bit-inside (share ram.write) d (address / 256) (high-of (share ram.write) address inside) short)

      written-bit : (address d : ℕ) → address < 256 * share ram.write → d < 16 / share ram.write
          → narrow_in ram.write words_next address d
          ≡ (if address == target then given_bit connected bit ram d else narrow_in ram.write words address d)
      written-bit address d inside short =
          let parts = address-is connected bit ram.write ram.waddr few eleven in
          let less = high-of (share ram.write) address inside in
          elim (eqb_tells (address % 256) low_number) [
            | inl same ↦
                elim (eqb_tells (address / 256) high_number) [
                  | inl here ↦
                      let there : address ≡ target = omega (arith, same.1, here.1, parts.address_is) in
                      rw (eq-eqb address target there)
                      (in-word address d inside short same.1
                      ∙ ap (λ h. put_bit ram.write (bit_of_word old_word) h (written_data connected bit ram) (bit_number address d)) (sym here.1)
                      ∙ put-there ram.write d (address / 256) less (bit_of_word old_word) (written_data connected bit ram)
                      ∙ ap (λ port. input_or_0 connected bit (get_or ram.wdata port None)) (data_bit-is ram.write d narrow few))
                  | inr away ↦
                      rw (ne_eqb address target (λ there. absurd (away.1 (omega (arith, there, parts.address_is, parts.low_small)))))
                      (in-word address d inside short same.1
                      ∙ put-away ram.write d (address / 256) less (bit_of_word old_word) (written_data connected bit ram) high_number away.1
                      ∙ ap (λ a. bit_of_word (word_at words a) (bit_number address d)) (sym same.1))
                ]
            | inr apart ↦
                rw (ne_eqb address target (λ there. absurd (apart.1 (omega (arith, there, parts.address_is, parts.low_small)))))
                (ap (λ word. bit_of_word word (bit_number address d)) (get_or-set_other words low_number (address % 256) (written connected bit ram old_word) [] apart.1))
          ]

-- ---- places

numbered-within : {A : Type 0} (n : ℕ) (items : List A) → All (λ (pair : ℕ × A). pair.0 < n + length items) (numbered_from n items)
unfolding numbered_from
numbered-within {A} n [] = All-nil (λ (pair : ℕ × A). pair.0 < n + 0)
numbered-within {A} n (item ∷ items) =
    All-cons (λ (pair : ℕ × A). pair.0 < n + suc (length items)) (n, item) (numbered_from (suc n) items) (omega arith)
    (All-weaker (λ (pair : ℕ × A). pair.0 < suc n + length items) (λ (pair : ℕ × A). pair.0 < n + suc (length items))
    (λ pair within. omega (arith, within)) (numbered_from (suc n) items) (numbered-within (suc n) items))

numbered-length : {A : Type 0} (n : ℕ) (items : List A) → length (numbered_from n items) ≡ length items
unfolding numbered_from
numbered-length n [] = refl
numbered-length n (item ∷ items) = ap suc (numbered-length (suc n) items)

-- what holds of each item that a list contains
each-of : {A : Type 0} (P : A → Type 0) (items : List A) → ((item : A) → Contains items item → P item) → All P items
each-of P items holds = All-weaker (Contains items) P holds items (All-contains_itself items)

-- ---- RAMs

-- a RAM has modes below 4 and eleven address places a port
record IsRam (ram : RamCell) : Type 0 where
  write : ram.write < 4
  read : ram.read < 4
  waddr : length ram.waddr ≡ 11
  raddr : length ram.raddr ≡ 11

-- lists that give as much at each place are as long
same-length : {A B : Type 0} (n : ℕ) (one : ℕ → List A) (other : ℕ → List B) → ((k : ℕ) → length (one k) ≡ length (other k))
    → length (gathered_below n one) ≡ length (gathered_below n other)
unfolding gathered_below
same-length zero one other same = refl
same-length (suc n) one other same =
    omega (arith, length-append (gathered_below n one) (one n), length-append (gathered_below n other) (other n), same n, same-length n one other same)

same-if : {A B : Type 0} (passes : Bool) (one : List A) (other : List B) → length one ≡ length other
    → length (if passes then one else []) ≡ length (if passes then other else [])
same-if true one other same = same
same-if false one other same = refl

-- a mode is below 4
mode-small : (first second : Bool) → bit_value first + 2 * bit_value second < 4
mode-small first second = omega (arith, bit_value-le first, bit_value-le second)

module _ (options : FabricOptions) (db : Database) (image : Configuration) where
  over_rams-length : {A B : Type 0} (one : ℕ → ℕ → A) (other : ℕ → ℕ → B)
      → length (over_rams db image (λ x y. one x y ∷ [])) ≡ length (over_rams db image (λ x y. other x y ∷ []))
  unfolding over_grid
  over_rams-length one other =
      let device = image.layout.device in
      same-length (grid_height device) _ _ (λ y. same-length (grid_width device) _ _ (λ x.
      same-if (is_kind_there RamB (kind_of device x y)) _ _ (same-if (is_ram_used db image x y) (one x y ∷ []) (other x y ∷ []) refl)))

  ram-is : (x y : ℕ) → IsRam (ram_at db image x y)
  unfolding ram_at
  ram-is x y = record {
    write = mode-small _ _;
    read = mode-small _ _;
    waddr = each_below-length 11 _;
    raddr = each_below-length 11 _;
  }

  rams-are : All IsRam (fabric_with options db image).rams
  unfolding fabric_with rams_of
  rams-are =
      All-over_tiles IsRam image.layout.device RamB _
      (λ x y left low. All-if IsRam (is_ram_used db image x y) (ram_at db image x y ∷ []) (All-single IsRam (ram_at db image x y) (ram-is x y)))

  words-start : (x y : ℕ) → AreWords (start_words image x y)
  unfolding start_words
  words-start x y = (
    each_below-length 256 (start_word image x y),
    All-gathered_below (λ word. length word ≡ 16) 256 (λ k. start_word image x y k ∷ [])
        (λ k below. All-single (λ word. length word ≡ 16) (start_word image x y k) (length-row_from 16 _)),
  )

  start-has : HasWords (fabric_with options db image) (start_state (fabric_with options db image))
  unfolding fabric_with rams_of
  start-has = record {
    each =
        All-over_tiles AreWords image.layout.device RamB _
        (λ x y left low. All-if AreWords (is_ram_used db image x y) (start_words image x y ∷ [])
        (All-single AreWords (start_words image x y) (words-start x y)));
    count = over_rams-length (start_words image) (ram_at db image);
  }

-- ---- steps

-- what is left of two conditions that don't both hold
other-off : (one other : Bool) → (one && other) ≡ false → one ≡ true → other ≡ false
other-off true other off on = off
other-off false other off on = absurd cc

both-on : (one other : Bool) → (one && other) ≡ true → (one ≡ true) × (other ≡ true)
both-on true other on = (refl, on)
both-on false other on = absurd cc

module _ (fabric : Fabric) (rams : All IsRam fabric.rams) where
  abbrev connected : ℕ → Bool
  connected = is_connected fabric

  place-is : (place : ℕ × RamCell) → Contains (numbered fabric.rams) place → IsRam place.1
  place-is place there = All-contains (λ (p : ℕ × RamCell). IsRam p.1) (numbered fabric.rams) place (All-numbered IsRam 0 fabric.rams rams) there

  place-words : (state : State) → HasWords fabric state → (place : ℕ × RamCell) → Contains (numbered fabric.rams) place
      → AreWords (words_in state place.0)
  place-words state has place there =
      let within : place.0 < 0 + length fabric.rams =
      All-contains (λ (p : ℕ × RamCell). p.0 < 0 + length fabric.rams) (numbered fabric.rams) place (numbered-within 0 fabric.rams) there in
      All-get_or AreWords state.words place.0 [] (omega (arith, within, has.count)) has.each

  module _ (edges : Edges) (before after : Entry) (has : HasWords fabric before.state)
      (state-is : after.state ≡ settled_state fabric (bit_in after.v) (state_after fabric before.pins before.state (bit_in before.v) edges)) where
    abbrev bits_before : ℕ → Bool
    bits_before = bit_in before.v

    words-are : after.state.words ≡ map (words_after connected bits_before edges before.state) (numbered fabric.rams)
    unfolding settled_state state_after
    words-are = ap (λ (state : State). state.words) state-is

    reads-are : after.state.reads ≡ map (read_after connected bits_before edges before.state) (numbered fabric.rams)
    unfolding settled_state state_after
    reads-are = ap (λ (state : State). state.reads) state-is

    words-stay : (place : ℕ × RamCell) → Contains (numbered fabric.rams) place → AreWords (words_after connected bits_before edges before.state place)
    words-stay place there =
        let are = place-words before.state has place there in
        elim (cases_Bool (edges place.1.wneg place.1.wclk)) [
          | inl edge ↦ rw edge (next-words connected bits_before place.1 (words_in before.state place.0) are)
          | inr still ↦ rw still are
        ]

    has-after : HasWords fabric after.state
    has-after =
        let next = words_after connected bits_before edges before.state in
        let all : All AreWords (map next (numbered fabric.rams)) =
        All-map AreWords next (numbered fabric.rams) (each-of (λ place. AreWords (next place)) (numbered fabric.rams) words-stay) in
        record {
          each = subst (All AreWords) (sym words-are) all;
          count = ap length words-are ∙ length-map (numbered fabric.rams) next ∙ numbered-length 0 fabric.rams;
        }

    module _ (place : ℕ × RamCell) (there : Contains (numbered fabric.rams) place) where
      abbrev ram : RamCell
      ram = place.1

      abbrev old_words : List (List Bool)
      old_words = words_in before.state place.0

      abbrev old_read : List Bool
      old_read = read_in before.state place.0

      words-at : words_in after.state place.0 ≡ words_after connected bits_before edges before.state place
      words-at = ap (λ words. get_or words place.0 []) words-are ∙ numbered-read (words_after connected bits_before edges before.state) [] fabric.rams place there

      read-at : read_in after.state place.0 ≡ read_after connected bits_before edges before.state place
      read-at = ap (λ reads. get_or reads place.0 []) reads-are ∙ numbered-read (read_after connected bits_before edges before.state) [] fabric.rams place there

      words-edge : edges ram.wneg ram.wclk ≡ true → words_after connected bits_before edges before.state place ≡ next_words connected bits_before ram old_words
      words-edge edge = rw edge refl

      read-edge : edges ram.rneg ram.rclk ≡ true → read_after connected bits_before edges before.state place ≡ next_register connected bits_before ram old_words old_read
      read-edge edge = rw edge refl

      writes-narrow : WritesNarrow fabric edges before after place
      writes-narrow narrow writes address d inside short =
          let is = place-is place there in
          let edge = both-on (edges ram.wneg ram.wclk) (input_or_1 connected bits_before ram.wclke && input_or_0 connected bits_before ram.we) writes in
          let enables = both-on (input_or_1 connected bits_before ram.wclke) (input_or_0 connected bits_before ram.we) edge.1 in
          ap (λ now. narrow_in ram.write now address d)
          (words-at ∙ words-edge edge.0 ∙ words-written connected bits_before ram old_words enables.0 enables.1)
          ∙ written-bit connected bits_before ram old_words (place-words before.state has place there) narrow is.write is.waddr address d inside short

      reads-narrow : ReadsNarrow fabric edges before after place
      reads-narrow narrow reads d short =
          let is = place-is place there in
          let edge = both-on (edges ram.rneg ram.rclk) (input_or_1 connected bits_before ram.rclke && input_or_0 connected bits_before ram.re) reads in
          let enables = both-on (input_or_1 connected bits_before ram.rclke) (input_or_0 connected bits_before ram.re) edge.1 in
          ap (λ now. get_or now (share ram.read * d) false)
          (read-at ∙ read-edge edge.0 ∙ register-read connected bits_before ram old_words old_read enables.0 enables.1)
          ∙ shown-bit connected bits_before ram old_words d narrow is.read is.raddr short

      keeps-words : is_written fabric edges before ram ≡ false → words_in after.state place.0 ≡ old_words
      keeps-words off =
          elim (cases_Bool (edges ram.wneg ram.wclk)) [
            | inl edge ↦
                words-at ∙ words-edge edge
                ∙ words-kept connected bits_before ram old_words (other-off (edges ram.wneg ram.wclk) (input_or_1 connected bits_before ram.wclke && input_or_0 connected bits_before ram.we) off edge)
            | inr still ↦ words-at ∙ rw still refl
          ]

      keeps-read : is_read fabric edges before ram ≡ false → read_in after.state place.0 ≡ old_read
      keeps-read off =
          elim (cases_Bool (edges ram.rneg ram.rclk)) [
            | inl edge ↦
                read-at ∙ read-edge edge
                ∙ register-kept connected bits_before ram old_words old_read (other-off (edges ram.rneg ram.rclk) (input_or_1 connected bits_before ram.rclke && input_or_0 connected bits_before ram.re) off edge)
            | inr still ↦ read-at ∙ rw still refl
          ]

      memory : IsNarrowMemory fabric edges before after place
      memory = record { writes = writes-narrow; reads = reads-narrow; keeps_words = keeps-words; keeps_read = keeps-read }

    memories : All (IsNarrowMemory fabric edges before after) (numbered fabric.rams)
    memories = each-of (IsNarrowMemory fabric edges before after) (numbered fabric.rams) memory

  -- ---- runs

  abbrev IsStep : OfStep
  IsStep edges before after = HasWords fabric after.state × All (IsNarrowMemory fabric edges before after) (numbered fabric.rams)

  each-wave : {most : ℕ} {earlier before prior last : Entry} (waves : EndsAt fabric most earlier before prior last) → HasWords fabric before.state
      → EachWave IsStep waves × HasWords fabric last.state
  each-wave bound has = (tt, has)
  each-wave (rests still) has = (tt, has)
  each-wave {earlier = earlier} {before = before} (goes_on next comes wave more) has =
      let edges : Edges = wave_edges fabric (bit_in earlier.v) (bit_in before.v) in
      let here = has-after edges before next has wave.state in
      let rest = each-wave more here in
      (((here, memories edges before next has wave.state), rest.0), rest.1)

  each-step : (events : List Event) (entry : Entry) (entries : List Entry) → HasWords fabric entry.state → (follow : FollowEach fabric entry events entries)
      → EachStep fabric IsStep entry events entries follow
  each-step [] entry [] has follow = tt
  each-step [] entry (next ∷ entries) has follow = absurd follow
  each-step (event ∷ events) entry [] has follow = absurd follow
  each-step (event ∷ events) entry (next ∷ entries) has follow =
      let first = follow.0.first in
      let edges : Edges = event_edges fabric (bit_in entry.v) (bit_in first.v) in
      let here = has-after edges entry first has follow.0.first_step.state in
      let waves = each-wave follow.0.waves here in
      ((here, memories edges entry first has follow.0.first_step.state), waves.0, each-step events next entries waves.1 follow.1)

  first-has : HasWords fabric (start_state fabric) → (first : Entry) → IsFirst fabric first → HasWords fabric first.state
  unfolding settled_state
  first-has start first is =
      let words : first.state.words ≡ fabric.start = ap (λ (state : State). state.words) is.state in
      record { each = subst (All AreWords) (sym words) start.each; count = ap length words ∙ start.count }

-- in each step of each run used RAMs are memories of narrow words
pub narrow-memories : (options : FabricOptions) (db : Database) (image : Configuration) → RamsAreMemories options db image
narrow-memories options db image events first entries run =
    let fabric = fabric_with options db image in
    let rams = rams-are options db image in
    let has = first-has fabric rams (start-has options db image) first run.0 in
    (has, each-step fabric rams events first entries has run.1)
