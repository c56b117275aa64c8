use Rattle.std.proofs.Common.{◌≡◌, ◌+◌, List, length, ap, ◌∙◌}
use Rattle.std.specs.Prelude.{position, unwrap_or}
use Rattle.fabric_model.specs.declared.signal.Signal.TheVariants as signal
use Rattle.fabric_model.specs.Registers.{PinKey, is_same_key, key_in, pin_keys, register_in}
use Rattle.fabric_model.specs.declared.pin_signals.PinKey.{PinKey as KeptKey}
use Rattle.fabric_model.specs.PinKeys.{SignalsOf, key_of}
use Rattle.fabric_model.proofs.Keys.{place_said}
use Rattle.fabric_model.proofs.pin_signals.PinSignals.register_in.Goals as goal

pub returns : goal.returns
returns c =
    let key : PinKey = key_in c.args.pin c.args.register in
    let keys : List PinKey = pin_keys c.self.inside.pins.now in
    let kept : List KeptKey = c.self.inside.keys.items in
    let place : c.key_place-place.result ≡ unwrap_or (position (is_same_key key) keys) (length keys) =
    c.key_place-place.ensures
    ∙ ap (λ (all : List KeptKey). unwrap_or (position (λ (other : KeptKey). is_same_key (key_of c.key_in.result) (key_of other)) all) (length all)) c.deref.ensures.value
    ∙ ap (λ (one : PinKey). unwrap_or (position (λ (other : KeptKey). is_same_key one (key_of other)) kept) (length kept)) c.key_in.ensures
    ∙ place_said kept key c.self.inside.pins.now c.self.invariant.keys_are in
    ap (λ index. signal.Register index) (c.in_ok-index_after.ensures ∙ ap (λ n. c.self.inside.flips + n) place)
    ∙ ap (λ (of : SignalsOf). register_in of.flips of.pins c.args.pin c.args.register) c.self.view_is
