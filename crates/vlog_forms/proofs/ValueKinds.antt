-- Values of the kinds that slots take, and slots of one token.
use Rattle.std.proofs.Common.{◌≡◌, ℕ, Bool, true, false, [], ◌∷◌, refl, ap, sym, subst}
use Rattle.std.specs.Prelude.{Some, None, if◌then◌else◌, nat_le}
use Rattle.vlog_tokens.specs.declared.fixed.Fixed.TheVariants as sign
use Rattle.vlog_tokens.specs.Tokens.{TokenValue}
use Rattle.vlog_tokens.specs.Tokens.{TokenValue as token}
use Rattle.vlog_module.specs.declared.atoms.Atom.{Atom}
use Rattle.vlog_module.specs.declared.atoms.Atom.TheVariants as atom
use Rattle.vlog_forms.specs.declared.slot.Slot.{Slot}
use Rattle.vlog_forms.specs.declared.slot.Slot.TheVariants as slot
use Rattle.vlog_forms.specs.Values.{Value, value_tokens, is_same_token}
use Rattle.vlog_forms.specs.Values.Value.{Name, Edge, Bit, Word, Index, AnAtom}
use Rattle.vlog_forms.specs.Reading.{single}
use Rattle.vlog_forms.proofs.Tokens.{token-same}

-- the index of a part is below 16
abbrev pub FitsAtom : Atom → Type 0
FitsAtom (atom.Part name k) = nat_le k 15 ≡ true
FitsAtom _ = Unit {0}

-- a value is of the kind that a slot takes
abbrev pub Fits : Slot → Value → Type 0
Fits (slot.Name role) (Name other name) = other ≡ role
Fits slot.Edge (Edge falling) = Unit {0}
Fits slot.Bit (Bit bit) = Unit {0}
Fits slot.Word (Word word) = Unit {0}
Fits (slot.Index limit) (Index k) = nat_le k limit ≡ true
Fits slot.Atom (AnAtom one) = FitsAtom one
Fits _ _ = ⊥

index_step : (b : Bool) (limit k : ℕ) (value : Value) → nat_le k limit ≡ b → (if b then Some (Index k) else None) ≡ Some value
    → Fits (slot.Index limit) value × (value_tokens value ≡ token.number k ∷ [])
index_step true limit k value fits reads =
    let same : Index k ≡ value = cc in
    subst (λ (w : Value). Fits (slot.Index limit) w × (value_tokens w ≡ token.number k ∷ [])) same (fits, refl)
index_step false limit k value fits reads = absurd cc

edge_step : (a b : Bool) (one : TokenValue) (value : Value) → is_same_token (token.fixed sign.Posedge) one ≡ a → is_same_token (token.fixed sign.Negedge) one ≡ b
    → (if a then Some (Edge false) else if b then Some (Edge true) else None) ≡ Some value → Fits slot.Edge value × (value_tokens value ≡ one ∷ [])
edge_step true b one value rises falls reads =
    let same : Edge false ≡ value = cc in
    let is : token.fixed sign.Posedge ≡ one = token-same (token.fixed sign.Posedge) one rises in
    subst (λ (w : Value). Fits slot.Edge w × (value_tokens w ≡ one ∷ [])) same (tt, ap (λ each. each ∷ []) is)
edge_step false true one value rises falls reads =
    let same : Edge true ≡ value = cc in
    let is : token.fixed sign.Negedge ≡ one = token-same (token.fixed sign.Negedge) one falls in
    subst (λ (w : Value). Fits slot.Edge w × (value_tokens w ≡ one ∷ [])) same (tt, ap (λ each. each ∷ []) is)
edge_step false false one value rises falls reads = absurd cc

-- the value of a token is of the slot's kind, and is written so
pub single-fits : (wanted : Slot) (one : TokenValue) (value : Value) → single wanted one ≡ Some value → Fits wanted value × (value_tokens value ≡ one ∷ [])
single-fits (slot.Name role) (token.name name) value reads =
    let same : Name role name ≡ value = cc in
    subst (λ (w : Value). Fits (slot.Name role) w × (value_tokens w ≡ token.name name ∷ [])) same (refl, refl)
single-fits slot.Edge one value reads =
    edge_step (is_same_token (token.fixed sign.Posedge) one) (is_same_token (token.fixed sign.Negedge) one) one value refl refl reads
single-fits slot.Bit (token.bit bit) value reads =
    let same : Bit bit ≡ value = cc in
    subst (λ (w : Value). Fits slot.Bit w × (value_tokens w ≡ token.bit bit ∷ [])) same (tt, refl)
single-fits slot.Word (token.word word) value reads =
    let same : Word word ≡ value = cc in
    subst (λ (w : Value). Fits slot.Word w × (value_tokens w ≡ token.word word ∷ [])) same (tt, refl)
single-fits (slot.Index limit) (token.number k) value reads = index_step (nat_le k limit) limit k value refl reads
single-fits wanted one value reads = absurd cc

-- whether a slot takes an atom
abbrev pub takes_atom : Slot → Bool
takes_atom slot.Atom = true
takes_atom _ = false

-- a token that is the value, in a slot of its kind
abbrev pub Single : Slot → Value → Type 0
Single wanted value = (one : TokenValue) × (value_tokens value ≡ one ∷ []) × (single wanted one ≡ Some value)

pub single-takes : (wanted : Slot) (value : Value) → takes_atom wanted ≡ false → Fits wanted value → Single wanted value
single-takes (slot.Name role) (Name other name) free fits =
    (token.name name, refl, ap (λ r. Some (Name r name)) (sym fits))
single-takes slot.Edge (Edge true) free fits = (token.fixed sign.Negedge, refl, refl)
single-takes slot.Edge (Edge false) free fits = (token.fixed sign.Posedge, refl, refl)
single-takes slot.Bit (Bit bit) free fits = (token.bit bit, refl, refl)
single-takes slot.Word (Word word) free fits = (token.word word, refl, refl)
single-takes (slot.Index limit) (Index k) free fits =
    (token.number k, refl, ap (λ b. if b then Some (Index k) else None) fits)
single-takes slot.Atom value free fits = absurd cc
single-takes wanted value free fits = absurd fits
