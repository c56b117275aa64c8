-- Values: what fills the slots of a form that take one.
use Rattle.std.specs.Prelude.{ℕ, zero, suc, Bool, true, false, not, List, [], ◌∷◌, ◌==◌, bytes_eq}
use Rattle.vlog_tokens.specs.declared.fixed.Fixed.{Fixed}
use Rattle.vlog_tokens.specs.declared.fixed.Fixed.TheVariants as sign
use Rattle.vlog_tokens.specs.Fixed.{fixed_text}
use Rattle.vlog_tokens.specs.Tokens.{TokenValue}
use Rattle.vlog_tokens.specs.Tokens.{TokenValue as token}
use Rattle.vlog_module.specs.declared.atoms.Atom.{Atom}
use Rattle.vlog_module.specs.declared.atoms.Atom.TheVariants as atom
use Rattle.vlog_forms.specs.declared.slot.Role.{Role}
use Rattle.vlog_forms.specs.declared.value.Value as read
use Rattle.vlog_forms.specs.declared.value.Value.TheVariants as reads

-- a value
pub data Value : Type 0 where
  -- a name and how it is used
  Name : Role → List ℕ → Value
  -- whether the edge is `negedge`
  Edge : Bool → Value
  Bit : Bool → Value
  Word : ℕ → Value
  Index : ℕ → Value
  AnAtom : Atom → Value

-- the value that a value of the code stands for
abbrev pub seen : read.Value → Value
seen (reads.Name role text) = Name role text.now
seen (reads.Edge falling) = Edge falling
seen (reads.Bit bit) = Bit bit
seen (reads.Word word) = Word word
seen (reads.Index index) = Index index
seen (reads.AtomBit bit) = AnAtom (atom.Bit bit)
seen (reads.AtomName text) = AnAtom (atom.Whole text.now)
seen (reads.AtomPart text k) = AnAtom (atom.Part text.now k)

-- the tokens of an atom
abbrev pub atom_tokens : Atom → List TokenValue
atom_tokens (atom.Bit bit) = token.bit bit ∷ []
atom_tokens (atom.Whole name) = token.name name ∷ []
atom_tokens (atom.Part name k) =
    token.name name ∷ token.fixed sign.OpenBracket ∷ token.number k ∷ token.fixed sign.CloseBracket ∷ []

-- the reserved word of an edge
abbrev pub edge_sign : Bool → Fixed
edge_sign true = sign.Negedge
edge_sign false = sign.Posedge

-- the tokens of a value
abbrev pub value_tokens : Value → List TokenValue
value_tokens (Name role name) = token.name name ∷ []
value_tokens (Edge falling) = token.fixed (edge_sign falling) ∷ []
value_tokens (Bit bit) = token.bit bit ∷ []
value_tokens (Word word) = token.word word ∷ []
value_tokens (Index index) = token.number index ∷ []
value_tokens (AnAtom one) = atom_tokens one

-- the tokens of the value at an index; a token that nothing fits if there is none
abbrev pub tokens_at : List Value → ℕ → List TokenValue
tokens_at [] place = token.stray ∷ []
tokens_at (value ∷ values) zero = value_tokens value
tokens_at (value ∷ values) (suc place) = tokens_at values place

-- whether two tokens have the same value; a stray byte equals no token
abbrev pub is_same_bit : Bool → Bool → Bool
is_same_bit true other = other
is_same_bit false other = not other

abbrev pub is_same_token : TokenValue → TokenValue → Bool
is_same_token (token.fixed one) (token.fixed other) = bytes_eq (fixed_text one) (fixed_text other)
is_same_token (token.name one) (token.name other) = bytes_eq one other
is_same_token (token.bit one) (token.bit other) = is_same_bit one other
is_same_token (token.word one) (token.word other) = one == other
is_same_token (token.number one) (token.number other) = one == other
is_same_token _ _ = false
