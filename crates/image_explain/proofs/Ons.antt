-- Items that are there if a test passes.
use Rattle.std.proofs.Common.{◌≡◌, ℕ, append-nil, Bool, true, false, List, [], ◌∷◌, ◌++◌, sym, ap, ◌∙◌}
use Rattle.std.specs.Prelude.{if◌then◌else◌}
use Rattle.image_explain.specs.declared.item.Active.TheVariants.{LogicCell}

-- a cell, if one of its bits is set
pub cell-set : (test : Bool) (i lut flags picked_lut picked_flags : ℕ) → test ≡ true → lut ≡ picked_lut → flags ≡ picked_flags → LogicCell i lut flags ∷ [] ≡ (if test then LogicCell i picked_lut picked_flags ∷ [] else [])
cell-set true i lut flags picked_lut picked_flags is lut_is flags_are = ap (λ l. LogicCell i l flags ∷ []) lut_is ∙ ap (λ f. LogicCell i picked_lut f ∷ []) flags_are
cell-set false i lut flags picked_lut picked_flags is lut_is flags_are = absurd cc

-- nothing, if a test fails
pub none-where : {A : Type 0} (test : Bool) (some : List A) (text : List A) → test ≡ false → text ≡ text ++ (if test then some else [])
none-where true some text is = absurd cc
none-where false some text is = sym (append-nil text)
