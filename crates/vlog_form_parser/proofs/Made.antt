-- Items that are made of the values of their places.
use Rattle.std.proofs.Common.{◌≡◌, ℕ, Bool, List, ◌+◌, drop, reverse, refl, ap, ◌∙◌}
use Rattle.vlog_module.specs.declared.atoms.Atom.{Atom}
use Rattle.vlog_module.specs.declared.item.Lut.{Lut}
use Rattle.vlog_module.specs.declared.item.Right.TheVariants as right
use Rattle.vlog_module.specs.declared.item.Item.TheVariants as item
use Rattle.vlog_forms.specs.declared.form.Form.TheVariants as form
use Rattle.vlog_forms.specs.Values.{Value}
use Rattle.vlog_form_parser.proofs.ValuesAt.{after-next}
use Rattle.vlog_forms.specs.Items.{item_of, lut_in, name_in, edge_in, bit_in, word_in, index_in, atom_in, atoms_in, following}

pub after-zero : (v : List Value) → following 0 v ≡ v
unfolding following
after-zero v = refl

pub after-one : (place : ℕ) (v : List Value) → following (place + 1) v ≡ drop 1 (following place v)
unfolding following
after-one place v = after-next v place 1 ∙ one (following place v)
  where
    one : (v : List Value) → following 1 v ≡ drop 1 v
    one v = refl

pub register-made : (v : List Value) (name : List ℕ) (start : Bool) → name ≡ name_in (following 0 v) → start ≡ bit_in (following 1 v) → item.Register name start ≡ item_of form.Register v
unfolding item_of
register-made v name start a b = let first : name ≡ name_in v = a ∙ ap name_in (after-zero v) in cc

pub word-made : (v : List Value) (name : List ℕ) (start : ℕ) → name ≡ name_in (following 0 v) → start ≡ word_in (following 1 v) → item.Word name start ≡ item_of form.Word v
unfolding item_of
word-made v name start a b = let first : name ≡ name_in v = a ∙ ap name_in (after-zero v) in cc

pub memory-made : (v : List Value) (name : List ℕ) → name ≡ name_in (following 0 v) → item.Memory name ≡ item_of form.Memory v
unfolding item_of
memory-made v name a = let first : name ≡ name_in v = a ∙ ap name_in (after-zero v) in cc

pub assign-made : (v : List Value) (name : List ℕ) (value : Atom) → name ≡ name_in (following 0 v) → value ≡ atom_in (following 1 v) → item.Assign name value ≡ item_of form.Assign v
unfolding item_of
assign-made v name value a b = let first : name ≡ name_in v = a ∙ ap name_in (after-zero v) in cc

pub flip-made : (v : List Value) (falling : Bool) (clock : List ℕ) (enable reset : Atom) (set : Bool) (target : List ℕ) (lut : Lut)
    → falling ≡ edge_in (following 0 v) → clock ≡ name_in (following 1 v) → enable ≡ atom_in (following 2 v) → reset ≡ atom_in (following 3 v) → set ≡ bit_in (following 5 v)
    → target ≡ name_in (following 4 v) → lut ≡ lut_in (following 6 v) → item.FlipFlop falling clock enable reset set target lut ≡ item_of form.FlipFlop v
unfolding item_of
flip-made v falling clock enable reset set target lut a b c d e f g = let first : falling ≡ edge_in v = a ∙ ap edge_in (after-zero v) in cc

pub flip_at_once-made : (v : List Value) (falling : Bool) (clock reset : List ℕ) (set : Bool) (target : List ℕ) (enable : Atom) (lut : Lut)
    → falling ≡ edge_in (following 0 v) → clock ≡ name_in (following 1 v) → reset ≡ name_in (following 2 v) → set ≡ bit_in (following 4 v) → target ≡ name_in (following 3 v)
    → enable ≡ atom_in (following 5 v) → lut ≡ lut_in (following 6 v) → item.AsyncFlipFlop falling clock reset set target enable lut ≡ item_of form.AsyncFlipFlop v
unfolding item_of
flip_at_once-made v falling clock reset set target enable lut a b c d e f g = let first : falling ≡ edge_in v = a ∙ ap edge_in (after-zero v) in cc

pub set_at_once-made : (v : List Value) (reset : List ℕ) (set : Bool) (target : List ℕ) → reset ≡ name_in (following 0 v) → set ≡ bit_in (following 2 v) → target ≡ name_in (following 1 v)
    → item.AsyncReset reset set target ≡ item_of form.AsyncReset v
unfolding item_of
set_at_once-made v reset set target a b c = let first : reset ≡ name_in v = a ∙ ap name_in (after-zero v) in cc

pub read-made : (v : List Value) (falling : Bool) (clock : List ℕ) (clock_enable enable : Atom) (target memory : List ℕ) (address : List Atom)
    → falling ≡ edge_in (following 0 v) → clock ≡ name_in (following 1 v) → clock_enable ≡ atom_in (following 2 v) → enable ≡ atom_in (following 3 v)
    → target ≡ name_in (following 4 v) → memory ≡ name_in (following 5 v) → address ≡ reverse (atoms_in 8 (following 6 v))
    → item.Read falling clock clock_enable enable target memory address ≡ item_of form.Read v
unfolding item_of
read-made v falling clock clock_enable enable target memory address a b c d e f g = let first : falling ≡ edge_in v = a ∙ ap edge_in (after-zero v) in cc

pub read_narrow-made : (v : List Value) (falling : Bool) (clock : List ℕ) (clock_enable enable : Atom) (target memory : List ℕ) (address shift : List Atom) (pattern : ℕ)
    → falling ≡ edge_in (following 0 v) → clock ≡ name_in (following 1 v) → clock_enable ≡ atom_in (following 2 v) → enable ≡ atom_in (following 3 v)
    → target ≡ name_in (following 4 v) → memory ≡ name_in (following 5 v) → address ≡ reverse (atoms_in 8 (following 6 v)) → shift ≡ reverse (atoms_in 3 (following 14 v)) → pattern ≡ word_in (following 17 v)
    → item.ReadNarrow falling clock clock_enable enable target memory address shift pattern ≡ item_of form.ReadNarrow v
unfolding item_of
read_narrow-made v falling clock clock_enable enable target memory address shift pattern a b c d e f g h i = let first : falling ≡ edge_in v = a ∙ ap edge_in (after-zero v) in cc

pub write-made : (v : List Value) (falling : Bool) (clock : List ℕ) (clock_enable enable : Atom) (memory : List ℕ) (address mask bits : List Atom)
    → falling ≡ edge_in (following 0 v) → clock ≡ name_in (following 1 v) → clock_enable ≡ atom_in (following 2 v) → enable ≡ atom_in (following 3 v)
    → memory ≡ name_in (following 4 v) → address ≡ reverse (atoms_in 8 (following 5 v)) → mask ≡ reverse (atoms_in 16 (following 13 v)) → bits ≡ reverse (atoms_in 16 (following 29 v))
    → item.Write falling clock clock_enable enable memory address mask bits ≡ item_of form.Write v
unfolding item_of
write-made v falling clock clock_enable enable memory address mask bits a b c d e f g h = let first : falling ≡ edge_in v = a ∙ ap edge_in (after-zero v) in cc

pub write_narrow-made : (v : List Value) (falling : Bool) (clock : List ℕ) (clock_enable enable : Atom) (memory : List ℕ) (address : List Atom) (pattern : ℕ) (shift bits : List Atom)
    → falling ≡ edge_in (following 0 v) → clock ≡ name_in (following 1 v) → clock_enable ≡ atom_in (following 2 v) → enable ≡ atom_in (following 3 v)
    → memory ≡ name_in (following 4 v) → address ≡ reverse (atoms_in 8 (following 5 v)) → pattern ≡ word_in (following 13 v) → shift ≡ reverse (atoms_in 3 (following 14 v)) → bits ≡ reverse (atoms_in 16 (following 17 v))
    → item.WriteNarrow falling clock clock_enable enable memory address pattern shift bits ≡ item_of form.WriteNarrow v
unfolding item_of
write_narrow-made v falling clock clock_enable enable memory address pattern shift bits a b c d e f g h i = let first : falling ≡ edge_in v = a ∙ ap edge_in (after-zero v) in cc

pub start-made : (v : List Value) (memory : List ℕ) (k word : ℕ) → memory ≡ name_in (following 0 v) → k ≡ index_in (following 1 v) → word ≡ word_in (following 2 v)
    → item.Start memory k word ≡ item_of form.Start v
unfolding item_of
start-made v memory k word a b c = let first : memory ≡ name_in v = a ∙ ap name_in (after-zero v) in cc

pub lut-made : (v : List Value) (place word : ℕ) (ins : List Atom) → word ≡ word_in (following place v) → ins ≡ reverse (atoms_in 4 (following (place + 1) v))
    → record { word = word; ins = ins } ≡ lut_in (following place v)
lut-made v place word ins a b =
    let second : ins ≡ reverse (atoms_in 4 (drop 1 (following place v))) = b ∙ ap (λ values. reverse (atoms_in 4 values)) (after-one place v) in
    cc

pub wire-made : (v : List Value) (name : List ℕ) → name ≡ name_in (following 0 v) → name ≡ name_in v
wire-made v name a = a ∙ ap name_in (after-zero v)

pub wire_bit-made : (v : List Value) (name : List ℕ) (bit : Bool) → name ≡ name_in (following 0 v) → bit ≡ bit_in (following 1 v) → item.Wire name (right.Bit bit) ≡ item_of form.WireBit v
unfolding item_of
wire_bit-made v name bit a b = let first : name ≡ name_in v = wire-made v name a in cc

pub wire_whole-made : (v : List Value) (name source : List ℕ) → name ≡ name_in (following 0 v) → source ≡ name_in (following 1 v) → item.Wire name (right.Whole source) ≡ item_of form.WireWhole v
unfolding item_of
wire_whole-made v name source a b = let first : name ≡ name_in v = wire-made v name a in cc

pub wire_part-made : (v : List Value) (name source : List ℕ) (k : ℕ) → name ≡ name_in (following 0 v) → source ≡ name_in (following 1 v) → k ≡ index_in (following 2 v)
    → item.Wire name (right.Part source k) ≡ item_of form.WirePart v
unfolding item_of
wire_part-made v name source k a b d = let first : name ≡ name_in v = wire-made v name a in cc

pub wire_lut-made : (v : List Value) (name : List ℕ) (lut : Lut) → name ≡ name_in (following 0 v) → lut ≡ lut_in (following 1 v) → item.Wire name (right.Lut lut) ≡ item_of form.WireLut v
unfolding item_of
wire_lut-made v name lut a b = let first : name ≡ name_in v = wire-made v name a in cc

pub wire_majority-made : (v : List Value) (name : List ℕ) (x y z : Atom) → name ≡ name_in (following 0 v) → x ≡ atom_in (following 1 v) → y ≡ atom_in (following 2 v) → z ≡ atom_in (following 3 v)
    → item.Wire name (right.Majority x y z) ≡ item_of form.WireMajority v
unfolding item_of
wire_majority-made v name x y z a b d e = let first : name ≡ name_in v = wire-made v name a in cc

pub wire_choose-made : (v : List Value) (name reset : List ℕ) (set : Bool) (target : List ℕ) → name ≡ name_in (following 0 v) → reset ≡ name_in (following 1 v) → set ≡ bit_in (following 2 v) → target ≡ name_in (following 3 v)
    → item.Wire name (right.Choose reset set target) ≡ item_of form.WireChoose v
unfolding item_of
wire_choose-made v name reset set target a b d e = let first : name ≡ name_in v = wire-made v name a in cc
