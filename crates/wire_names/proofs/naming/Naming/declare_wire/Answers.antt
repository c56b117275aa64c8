use Rattle.std.proofs.Common.{◌∙◌, [], ◌∷◌, ℕ, List, ap, refl, subst, sym}
use Rattle.std.proofs.lemmas.Result.{on_ok_weaker}
use Rattle.name_set.specs.Sets.{with_name}
use Rattle.wire_names.specs.Naming.{IsWith}
use Rattle.wire_names.proofs.Declaring.{with-one}
use Rattle.wire_names.proofs.naming.Naming.declare_wire.Goals as goal

pub returns : goal.returns
returns c =
    let taken : List (List ℕ) = c.args.self.now.taken in
    let wires : List (List ℕ) = c.args.self.now.wires in
    let name : List ℕ = c.args.name.now in
    on_ok_weaker c.push-2.result (λ pushed. record {
      taken = subst (IsWith (name ∷ []) taken) (sym (pushed ∙ ap (with_name taken) c.bytes-2.ensures.bytes)) (with-one taken name);
      wires_are = subst (IsWith (name ∷ []) wires) (sym (c.in_ok-push.ensures ∙ ap (with_name wires) c.bytes.ensures.bytes)) (with-one wires name);
      named = refl;
    }) c.push-2.ensures
