-- Names of one net among all names.
use Rattle.std.proofs.Common.{◌≡◌, ℕ, zero, suc, ◌<◌, Bool, true, false, ◌&&◌, List, [], ◌∷◌, length, get_or, ◌==◌, refl, inl, inr, arith}
use Rattle.std.specs.Prelude.{filter, bytes_eq}
use Rattle.std.specs.List.{list_any}
use Rattle.std.proofs.lemmas.Bool.{cases_Bool}
use Rattle.std.proofs.Math.Bool.{or-true}
use Rattle.chipdb_lines.specs.Items.{NameLine}
use Rattle.chipdb_reader.specs.declared.items.NetName.{NetName}
use Rattle.chipdb_reader.specs.Kept.{name_lines}
use Rattle.chipdb_reader.specs.Lookups.{names_of_net}
use Rattle.chipdb_reader.specs.Nets.{names_with}
use Rattle.chipdb_reader.specs.Texts.{text_at}

-- a line of the net with that name is one of the net's lines
any_filtered : {A : Type 0} (first second : A → Bool) (items : List A) → list_any (λ item. first item && second item) items ≡ list_any second (filter first items)
any_filtered first second [] = refl
any_filtered first second (item ∷ items) =
    elim (cases_Bool (first item)) [
      | inl here ↦ rw (here, any_filtered first second items) refl
      | inr other ↦ rw (other, any_filtered first second items) refl
    ]

pub any_named : (net : ℕ) (name : List ℕ) (lines : List NameLine)
    → list_any (λ line. (line.net == net) && bytes_eq name line.name) lines ≡ list_any (λ line. bytes_eq name line.name) (names_of_net net lines)
unfolding names_of_net
any_named net name lines = any_filtered (λ line. line.net == net) (λ line. bytes_eq name line.name) lines

-- the lines of a net, of which one has the name
pub any_listed-at : (texts : List (List ℕ)) (net : ℕ) (name : List ℕ) (named : List NetName) (k : ℕ) (d : NetName) → k < length named
    → bytes_eq name (text_at texts (get_or named k d).name) ≡ true
    → list_any (λ line. bytes_eq name line.name) (name_lines texts (names_with net named)) ≡ true
any_listed-at texts net name [] k d inside here = absurd (omega arith)
any_listed-at texts net name (first ∷ named) zero d inside here =
    let is : bytes_eq name (text_at texts first.name) ≡ true = here in rw is refl
any_listed-at texts net name (first ∷ named) (suc k) d inside here =
    rw (any_listed-at texts net name named k d (omega arith) here) (or-true (bytes_eq name (text_at texts first.name)))

-- and none
pub any_listed-none : (texts : List (List ℕ)) (net : ℕ) (name : List ℕ) (named : List NetName)
    → ((k : ℕ) (d : NetName) → k < length named → bytes_eq name (text_at texts (get_or named k d).name) ≡ false)
    → list_any (λ line. bytes_eq name line.name) (name_lines texts (names_with net named)) ≡ false
any_listed-none texts net name [] none = refl
any_listed-none texts net name (first ∷ named) none =
    let is : bytes_eq name (text_at texts first.name) ≡ false = none 0 first (omega arith) in
    rw (is, any_listed-none texts net name named (λ k d inside. none (suc k) d (omega arith))) refl
