-- Modules that grow item by item.
use Rattle.std.proofs.Common.{◌≡◌, ℕ, zero, suc, List, [], ◌∷◌, ◌++◌, map, take, Some, slice_get, bytes_eq, All, ◌⊎◌, inl, inr, refl, ap}
use Rattle.std.specs.List.{IsDistinct}
use Rattle.vlog_module.specs.declared.item.Item.{Item}
use Rattle.vlog_module.specs.declared.modules.Port.{Port}
use Rattle.vlog_module.specs.Names.{IsName}
use Rattle.vlog_module.specs.WellFormed.{IsAllowed, IsBegun, scope_of}

-- an element of a list with one more at its end is one of the old or the new one
pub record IsOld {A : Type 0} (xs : List A) (y : A) (i : ℕ) (z : A) : Type 0 where
  pub here : slice_get xs i ≡ Some z
  pub before : take i (xs ++ y ∷ []) ≡ take i xs

pub record IsLast {A : Type 0} (xs : List A) (y : A) (i : ℕ) (z : A) : Type 0 where
  pub here : z ≡ y
  pub before : take i (xs ++ y ∷ []) ≡ xs

pub old-or-last : {A : Type 0} (xs : List A) (y : A) (i : ℕ) (z : A) → slice_get (xs ++ y ∷ []) i ≡ Some z → IsOld xs y i z ⊎ IsLast xs y i z
old-or-last [] y zero z at = inr (record { here = cc; before = refl })
old-or-last [] y (suc i) z at = cc
old-or-last (x ∷ xs) y zero z at = inl (record { here = at; before = refl })
old-or-last (x ∷ xs) y (suc i) z at =
    elim (old-or-last xs y i z at) [
      | inl old ↦ inl (record { here = old.here; before = ap (λ rest. x ∷ rest) old.before })
      | inr last ↦ inr (record { here = last.here; before = ap (λ rest. x ∷ rest) last.before })
    ]

-- no items
pub IsBegun-empty : (ports : List Port) → All (λ port. IsName port.name) ports → IsDistinct bytes_eq (map (λ port. port.name) ports) → IsBegun ports []
IsBegun-empty ports named apart = record { named = named; apart = apart; allowed = λ i item at. cc }

-- one more item
pub IsBegun-push : (ports : List Port) (items : List Item) (item : Item) → IsBegun ports items → IsAllowed (scope_of ports items) item → IsBegun ports (items ++ item ∷ [])
IsBegun-push ports items item begun next = record {
  named = begun.named;
  apart = begun.apart;
  allowed = λ i other at.
      elim (old-or-last items item i other at) [
        | inl old ↦ rw old.before (begun.allowed i other old.here)
        | inr last ↦ rw (last.before, last.here) next
      ];
}
