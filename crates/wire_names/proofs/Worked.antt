-- Worked values of the definitions.
use Rattle.std.proofs.Common.{◌≡◌, ℕ, false, List, [], ◌∷◌, refl}
use Rattle.std.specs.Prelude.{Option, Some, None, codes}
use Rattle.text_lines.specs.Lines.{lines_of}
use Rattle.text_lines.specs.Words.{pieces_of, words_of}
use Rattle.text_lines.specs.Written.{text_of}
use Rattle.index_search.specs.Places.{first_below}
use Rattle.vlog_module.specs.declared.item.Item.TheVariants.{Register, Wire}
use Rattle.vlog_module.specs.declared.item.Right.TheVariants.{Whole as RightWhole}
use Rattle.vlog_module.specs.Parts.{Parts}
use Rattle.wire_names.specs.declared.fault.WireNamesCause.TheVariants as cause
use Rattle.wire_names.specs.declared.fault.WireNamesFault.{WireNamesFault}
use Rattle.wire_names.specs.declared.fault.WireNamesFault.TheVariants.{At}
use Rattle.wire_names.specs.Faults.{named_in, names_fault_of, wires_named}
use Rattle.wire_names.specs.Lines.{Named, Unknown, line_of}
use Rattle.wire_names.specs.Lists.{free_names, names_text}
use Rattle.wire_names.specs.Names.{declared_names}

-- ---- lines

named : line_of (codes " n_3\t uart.tx_state[2] ") ≡ Named (codes "n_3") (codes "uart.tx_state[2]")
unfolding line_of words_of pieces_of
named = refl

-- 33 and 126 are the first and the last byte of a name
ends : line_of (codes "n !~") ≡ Named (codes "n") (codes "!~")
unfolding line_of words_of pieces_of
ends = refl

past_end : line_of (110 ∷ 32 ∷ 127 ∷ []) ≡ Unknown
unfolding line_of words_of pieces_of
past_end = refl

three_words : line_of (codes "n a b") ≡ Unknown
unfolding line_of words_of pieces_of
three_words = refl

-- ---- a module with the wires `n` and `k`

small : Parts
small = record {
  name = codes "m";
  ports = record { name = codes "c"; output = false } ∷ [];
  items = Register (codes "r") false ∷ Wire (codes "n") (RightWhole (codes "c")) ∷ Wire (codes "k") (RightWhole (codes "n")) ∷ [];
}

fault : List ℕ → Option WireNamesFault
fault text = names_fault_of small text

fine : fault (codes "k a\n\nn b") ≡ None
unfolding fault names_fault_of first_below lines_of named_in line_of words_of pieces_of declared_names small
fine = refl

one_word : fault (codes "\nn\nx a") ≡ Some (At 2 cause.Form)
unfolding fault names_fault_of first_below lines_of named_in line_of words_of pieces_of declared_names small
one_word = refl

-- a register is no wire
no_wire : fault (codes "n a\nr b") ≡ Some (At 2 cause.Wire)
unfolding fault names_fault_of first_below lines_of named_in line_of words_of pieces_of declared_names small
no_wire = refl

same_wire : fault (codes "n a\nn a") ≡ Some (At 2 cause.WireTwice)
unfolding fault names_fault_of first_below lines_of named_in line_of words_of pieces_of declared_names small
same_wire = refl

same_name : fault (codes "n a\nk a") ≡ Some (At 2 cause.NameTwice)
unfolding fault names_fault_of first_below lines_of named_in line_of words_of pieces_of declared_names small
same_name = refl

-- a name of the module is taken, also that of the wire itself
port : fault (codes "n c") ≡ Some (At 1 cause.NameTwice)
unfolding fault names_fault_of first_below lines_of named_in line_of words_of pieces_of declared_names small
port = refl

itself : fault (codes "n n") ≡ Some (At 1 cause.NameTwice)
unfolding fault names_fault_of first_below lines_of named_in line_of words_of pieces_of declared_names small
itself = refl

-- ---- what is free of wanted names, and its text

free : free_names small ((codes "x", codes "a") ∷ (codes "n", codes "c") ∷ (codes "n", codes "a b") ∷ (codes "n", codes "a") ∷ (codes "n", codes "b") ∷ (codes "k", codes "a") ∷ (codes "k", codes "b") ∷ [])
    ≡ (codes "n", codes "a") ∷ (codes "k", codes "b") ∷ []
unfolding free_names declared_names small
free = refl

written : names_text ((codes "n", codes "a") ∷ (codes "k", codes "b") ∷ []) ≡ codes "n a\nk b\n"
unfolding names_text text_of
written = refl

given : wires_named (codes "n a\nk b\n") ≡ (codes "n", codes "a") ∷ (codes "k", codes "b") ∷ []
unfolding wires_named lines_of named_in line_of words_of pieces_of
given = refl
