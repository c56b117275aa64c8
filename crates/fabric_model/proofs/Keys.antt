-- Registers of pins, by their keys.
use Rattle.std.proofs.Common.{◌≡◌, List, map, length, refl, sym, ap, ◌∙◌}
use Rattle.std.specs.Prelude.{position, unwrap_or, All}
use Rattle.std.proofs.lemmas.List.{length-map}
use Rattle.chipdb_reader.proofs.Found.{position-map}
use Rattle.fabric_model.specs.declared.pin.Pin.{Pin}
use Rattle.fabric_model.specs.Registers.{PinKey, is_same_key, pin_keys}
use Rattle.fabric_model.specs.declared.pin_signals.PinKey.{PinKey as KeptKey}
use Rattle.fabric_model.specs.PinKeys.{key_of}

-- the place of a key among the kept ones is that among the keys that they say
pub place_said : (keys : List KeptKey) (key : PinKey) (pins : List Pin) → map key_of keys ≡ pin_keys pins
    → unwrap_or (position (λ (other : KeptKey). is_same_key key (key_of other)) keys) (length keys) ≡ unwrap_or (position (is_same_key key) (pin_keys pins)) (length (pin_keys pins))
place_said keys key pins are =
    let known : All (λ (other : KeptKey). Unit {0}) keys = λ k d inside. tt in
    ap (λ found. unwrap_or found (length keys)) (sym (position-map (λ other. Unit {0}) key_of (is_same_key key) (λ other. is_same_key key (key_of other)) keys (λ other here. refl) known))
    ∙ ap (λ count. unwrap_or (position (is_same_key key) (map key_of keys)) count) (sym (length-map keys key_of))
    ∙ ap (λ list. unwrap_or (position (is_same_key key) list) (length list)) are
