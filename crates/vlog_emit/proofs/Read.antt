-- What is read of nets, by their classes.
use Rattle.std.proofs.Common.{◌≡◌, ℕ, Bool, List, refl, ap, ◌∙◌, inl, inr}
use Rattle.std.specs.Prelude.{Some, None, if◌then◌else◌}
use Rattle.std.proofs.lemmas.Bool.{cases_Bool}
use Rattle.vlog_module.specs.declared.atoms.Atom.TheVariants.{Bit, Whole}
use Rattle.fabric_model.specs.Joins.{class_of}
use Rattle.fabric_model.specs.Fabric.{Fabric}
use Rattle.fabric_model.specs.Values.{is_connected}
use Rattle.fabric_module.specs.Names.{wire_name}
use Rattle.fabric_module.specs.Rights.{input_atom}

-- a net without a driver has the stated value
pub atom-none : (fabric : Fabric) (stated : Bool) (net : ℕ) → None ≡ (if is_connected fabric net then Some (class_of fabric.joins net) else None)
    → Bit stated ≡ input_atom fabric stated (Some net)
unfolding input_atom
atom-none fabric stated net is =
    elim (cases_Bool (is_connected fabric net)) [
      | inl driven ↦ let never : None ≡ Some (class_of fabric.joins net) = rw driven at is in absurd cc
      | inr away ↦ rw away refl
    ]

-- one with a driver has the wire of its class
pub atom-some : (fabric : Fabric) (stated : Bool) (net class : ℕ) (name : List ℕ) → Some class ≡ (if is_connected fabric net then Some (class_of fabric.joins net) else None)
    → name ≡ wire_name class → Whole name ≡ input_atom fabric stated (Some net)
unfolding input_atom
atom-some fabric stated net class name is of_name =
    elim (cases_Bool (is_connected fabric net)) [
      | inl driven ↦
          let some : Some class ≡ Some (class_of fabric.joins net) = rw driven at is in
          let same : class ≡ class_of fabric.joins net = cc in
          rw driven (ap (λ n. Whole n) (of_name ∙ ap wire_name same))
      | inr away ↦ let never : Some class ≡ None = rw away at is in absurd cc
    ]
