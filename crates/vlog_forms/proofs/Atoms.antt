-- Reading an atom.
use Rattle.std.proofs.Common.{◌≡◌, ℕ, Bool, true, false, List, [], ◌∷◌, ◌++◌, refl, ap, sym, ◌∙◌}
use Rattle.std.specs.Prelude.{Result, Ok, Err, if◌then◌else◌, nat_le}
use Rattle.vlog_tokens.specs.declared.fixed.Fixed.TheVariants as sign
use Rattle.vlog_tokens.specs.Tokens.{TokenValue, Spot}
use Rattle.vlog_tokens.specs.Tokens.{TokenValue as token}
use Rattle.vlog_module.specs.declared.atoms.Atom.{Atom}
use Rattle.vlog_module.specs.declared.atoms.Atom.TheVariants as atom
use Rattle.vlog_forms.specs.Values.{atom_tokens, is_same_token}
use Rattle.vlog_forms.specs.Values.Value.{AnAtom}
use Rattle.vlog_forms.specs.Items.{tokens_in}
use Rattle.vlog_forms.specs.Reading.{Found, found_at, Reading, opens, read_tokens, with_index, close_part, index_part, read_part, after_open, with_atom, with_part, atom_from, read_atom}
use Rattle.vlog_forms.proofs.Tokens.{token-same, same-token}
use Rattle.vlog_forms.proofs.Pairs.{ok_first, ok_second}
use Rattle.vlog_forms.proofs.Exact.{read_tokens-whole}
use Rattle.vlog_forms.proofs.ValueKinds.{FitsAtom}

-- ---- what is read is in the text

-- `k]` is in the text
record PartStands (spots : List Spot) (k : ℕ) (rest : List Spot) : Type 0 where
  tokens : tokens_in spots ≡ token.number k ∷ token.fixed sign.CloseBracket ∷ tokens_in rest
  small : nat_le k 15 ≡ true

close_case : (k other : ℕ) (spots rest : List Spot) (reading : Result (List Spot) ℕ)
    → ((left : List Spot) → reading ≡ Ok left → tokens_in spots ≡ token.fixed sign.CloseBracket ∷ tokens_in left) → with_index k reading ≡ Ok (other, rest)
    → (k ≡ other) × (tokens_in spots ≡ token.fixed sign.CloseBracket ∷ tokens_in rest)
close_case k other spots rest (Err stuck) stands reads = absurd cc
close_case k other spots rest (Ok left) stands reads =
    let same : left ≡ rest = ok_second reads in (ok_first reads, rw same at (stands left refl))

close-stands : (end k other : ℕ) (spots rest : List Spot) → close_part end k spots ≡ Ok (other, rest)
    → (k ≡ other) × (tokens_in spots ≡ token.fixed sign.CloseBracket ∷ tokens_in rest)
close-stands end k other spots rest reads =
    close_case k other spots rest (read_tokens end (token.fixed sign.CloseBracket ∷ []) spots)
    (λ left. read_tokens-whole end (token.fixed sign.CloseBracket ∷ []) spots left) reads

index_case : (b : Bool) (end k other offset : ℕ) (spots rest : List Spot) → nat_le k 15 ≡ b
    → (if b then close_part end k spots else Err offset) ≡ Ok (other, rest)
    → (k ≡ other) × (nat_le k 15 ≡ true) × (tokens_in spots ≡ token.fixed sign.CloseBracket ∷ tokens_in rest)
index_case true end k other offset spots rest small reads =
    let closes = close-stands end k other spots rest reads in (closes.0, small, closes.1)
index_case false end k other offset spots rest small reads = absurd cc

index-stands : (end offset other : ℕ) (one : TokenValue) (spots rest : List Spot) → index_part end offset one spots ≡ Ok (other, rest)
    → (one ≡ token.number other) × (nat_le other 15 ≡ true) × (tokens_in spots ≡ token.fixed sign.CloseBracket ∷ tokens_in rest)
index-stands end offset other (token.number k) spots rest reads =
    let stands = index_case (nat_le k 15) end k other offset spots rest refl reads in
    (ap token.number stands.0, rw stands.0 at stands.1, stands.2)
index-stands end offset other one spots rest reads = absurd cc

part-stands : (end k : ℕ) (spots rest : List Spot) → read_part end spots ≡ Ok (k, rest) → PartStands spots k rest
part-stands end k [] rest reads = absurd cc
part-stands end k (first ∷ spots) rest reads =
    let stands = index-stands end first.offset k first.token spots rest reads in
    record { tokens = cc (stands.0, stands.2); small = stands.1 }

-- an atom is in the text, and is the next value that is read
pub record AtomStands (found : List Found) (spots : List Spot) (after : List Found) (rest : List Spot) : Type 0 where
  pub offset : ℕ
  pub one : Atom
  pub gained : after ≡ found ++ found_at offset (AnAtom one) ∷ []
  pub tokens : tokens_in spots ≡ atom_tokens one ++ tokens_in rest
  pub fits : FitsAtom one

open_case : (first : Spot) (spots : List Spot) → opens (first ∷ spots) ≡ true → first.token ≡ token.fixed sign.OpenBracket
open_case first spots same = sym (token-same (token.fixed sign.OpenBracket) first.token same)

part_step : (found : List Found) (offset : ℕ) (name : List ℕ) (head : Spot) (spots : List Spot) (reading : Reading ℕ) (after : List Found) (rest : List Spot)
    → head.token ≡ token.name name → opens spots ≡ true → ((k : ℕ) (left : List Spot) → reading ≡ Ok (k, left) → PartStands (after_open spots) k left)
    → with_part found offset name reading ≡ Ok (after, rest) → AtomStands found (head ∷ spots) after rest
part_step found offset name head [] reading after rest named opened stands reads = absurd cc
part_step found offset name head (first ∷ spots) (Err stuck) after rest named opened stands reads = absurd cc
part_step found offset name head (first ∷ spots) (Ok part) after rest named opened stands reads =
    let bracket : first.token ≡ token.fixed sign.OpenBracket = open_case first spots opened in
    let there = stands part.0 part.1 refl in
    let left : part.1 ≡ rest = ok_second reads in
    let following : tokens_in spots ≡ token.number part.0 ∷ token.fixed sign.CloseBracket ∷ tokens_in rest = rw left at there.tokens in
    record { offset = offset; one = atom.Part name part.0; gained = sym (ok_first reads); tokens = cc; fits = there.small }

name_case : (b : Bool) (end : ℕ) (found : List Found) (offset : ℕ) (name : List ℕ) (head : Spot) (spots : List Spot) (after : List Found) (rest : List Spot)
    → head.token ≡ token.name name → opens spots ≡ b
    → (if b then with_part found offset name (read_part end (after_open spots)) else with_atom found offset (atom.Whole name) spots) ≡ Ok (after, rest)
    → AtomStands found (head ∷ spots) after rest
name_case true end found offset name head spots after rest named opened reads =
    part_step found offset name head spots (read_part end (after_open spots)) after rest named opened (λ k left. part-stands end k (after_open spots) left) reads
name_case false end found offset name head spots after rest named opened reads =
    let left : spots ≡ rest = ok_second reads in
    record { offset = offset; one = atom.Whole name; gained = sym (ok_first reads); tokens = cc; fits = tt }

from-stands : (end : ℕ) (found : List Found) (head : Spot) (one : TokenValue) (spots : List Spot) (after : List Found) (rest : List Spot)
    → head.token ≡ one → atom_from end found head.offset one spots ≡ Ok (after, rest) → AtomStands found (head ∷ spots) after rest
from-stands end found head (token.bit bit) spots after rest is reads =
    let left : spots ≡ rest = ok_second reads in
    record { offset = head.offset; one = atom.Bit bit; gained = sym (ok_first reads); tokens = cc; fits = tt }
from-stands end found head (token.name name) spots after rest is reads =
    name_case (opens spots) end found head.offset name head spots after rest is refl reads
from-stands end found head one spots after rest is reads = absurd cc

pub atom-stands : (end : ℕ) (found : List Found) (spots : List Spot) (after : List Found) (rest : List Spot) → read_atom end found spots ≡ Ok (after, rest) → AtomStands found spots after rest
atom-stands end found [] after rest reads = absurd cc
atom-stands end found (head ∷ spots) after rest reads = from-stands end found head head.token spots after rest refl reads

-- ---- what is in the text is read

-- whether `[` comes next
abbrev pub opens_next : List TokenValue → Bool
opens_next [] = false
opens_next (one ∷ more) = is_same_token (token.fixed sign.OpenBracket) one

opens-tokens : (spots : List Spot) → opens spots ≡ opens_next (tokens_in spots)
opens-tokens [] = refl
opens-tokens (first ∷ spots) = refl

-- an atom is found next, and these tokens are left
pub record AtomRead (reading : Reading (List Found)) (found : List Found) (one : Atom) (tail : List TokenValue) : Type 0 where
  pub offset : ℕ
  pub rest : List Spot
  pub reads : reading ≡ Ok (found ++ found_at offset (AnAtom one) ∷ [], rest)
  pub left : tokens_in rest ≡ tail

pub atom-read : (end : ℕ) (found : List Found) (one : Atom) (spots : List Spot) (tail : List TokenValue) → FitsAtom one → tokens_in spots ≡ atom_tokens one ++ tail → opens_next tail ≡ false
    → AtomRead (read_atom end found spots) found one tail
atom-read end found (atom.Bit bit) [] tail fits stands closed = absurd cc
atom-read end found (atom.Bit bit) (head ∷ spots) tail fits stands closed =
    let is : head.token ≡ token.bit bit = cc in
    record { offset = head.offset; rest = spots; reads = ap (λ one. atom_from end found head.offset one spots) is; left = cc }
atom-read end found (atom.Whole name) [] tail fits stands closed = absurd cc
atom-read end found (atom.Whole name) (head ∷ spots) tail fits stands closed =
    let is : head.token ≡ token.name name = cc in
    let left : tokens_in spots ≡ tail = cc in
    let shut : opens spots ≡ false = opens-tokens spots ∙ ap opens_next left ∙ closed in
    let chosen : atom_from end found head.offset (token.name name) spots ≡ with_atom found head.offset (atom.Whole name) spots
    = ap (λ b. if b then with_part found head.offset name (read_part end (after_open spots)) else with_atom found head.offset (atom.Whole name) spots) shut in
    record { offset = head.offset; rest = spots; reads = ap (λ one. atom_from end found head.offset one spots) is ∙ chosen; left = left }
atom-read end found (atom.Part name k) (head ∷ bracket ∷ number ∷ close ∷ spots) tail fits stands closed =
    let is : head.token ≡ token.name name = cc in
    let open_is : bracket.token ≡ token.fixed sign.OpenBracket = cc in
    let number_is : number.token ≡ token.number k = cc in
    let close_is : close.token ≡ token.fixed sign.CloseBracket = cc in
    let left : tokens_in spots ≡ tail = cc in
    let opened : opens (bracket ∷ number ∷ close ∷ spots) ≡ true = rw open_is (same-token (token.fixed sign.OpenBracket) tt) in
    let closes : is_same_token (token.fixed sign.CloseBracket) close.token ≡ true = rw close_is (same-token (token.fixed sign.CloseBracket) tt) in
    let part : read_part end (number ∷ close ∷ spots) ≡ Ok (k, spots) =
    ap (λ one. index_part end number.offset one (close ∷ spots)) number_is
    ∙ ap (λ b. if b then close_part end k (close ∷ spots) else Err number.offset) fits
    ∙ ap (λ b. with_index k (if b then Ok spots else Err close.offset)) closes in
    let chosen : atom_from end found head.offset (token.name name) (bracket ∷ number ∷ close ∷ spots) ≡ with_part found head.offset name (read_part end (number ∷ close ∷ spots))
    = ap (λ b. if b then with_part found head.offset name (read_part end (number ∷ close ∷ spots)) else with_atom found head.offset (atom.Whole name) (bracket ∷ number ∷ close ∷ spots)) opened in
    record { offset = head.offset; rest = spots; reads = ap (λ one. atom_from end found head.offset one (bracket ∷ number ∷ close ∷ spots)) is ∙ chosen ∙ ap (with_part found head.offset name) part; left = left }
atom-read end found (atom.Part name k) spots tail fits stands closed = absurd cc
