use Rattle.std.proofs.Common.{◌≡◌, ◌∷◌, [], ◌++◌, ℕ, List, refl, sym, ap, ◌∙◌}
use Rattle.std.proofs.lemmas.Result.{on_ok_weaker}
use Rattle.pin_file.specs.PortNames.{has_name, names_with, port_name}
use Rattle.std.specs.List.{list_any}
use Rattle.pin_file.proofs.PortSteps.{grows-free, grows-taken}
use Rattle.pin_file.proofs.ports.Ports.name_pin.Goals as goal

pub returns-then-has_any : goal.returns-then-has_any
returns-then-has_any c =
    let is : c.deref.result.now ≡ port_name c.args.name.now = c.deref.ensures.value ∙ c.in_ok-port.ensures.name in
    grows-taken c.args.self.now c.args.place c.args.pin (port_name c.args.name.now) c.in_ok-names.names.items
    (c.in_ok-names.ensures ∙ ap (λ name. names_with name c.args.pin) is)
    (ap (list_any (λ n. has_name c.args.self.now.names n.items)) (sym c.deref-2.ensures.value) ∙ sym c.has_any.ensures ∙ c.if-has_any.true)

pub returns : goal.returns
returns c =
    let is : c.deref.result.now ≡ port_name c.args.name.now = c.deref.ensures.value ∙ c.in_ok-port.ensures.name in
    on_ok_weaker c.insert_all.result (λ added.
    grows-free c.args.self.now _ c.args.place c.args.pin (port_name c.args.name.now) c.in_ok-names.names.items
    (c.in_ok-names.ensures ∙ ap (λ name. names_with name c.args.pin) is)
    (ap (list_any (λ n. has_name c.args.self.now.names n.items)) (sym c.deref-2.ensures.value) ∙ sym c.has_any.ensures ∙ c.if-has_any.false)
    c.requires
    (record {
      list = c.in_ok-push.ensures.items ∙ ap (λ (name : List ℕ). c.args.self.now.list.items ++ record { place = c.args.place; name = name } ∷ []) (c.in_ok-name.ensures ∙ c.deref-3.ensures.value ∙ c.in_ok-port.ensures.name);
      places = refl;
      names = added;
      pins = refl;
    })) c.insert_all.ensures
