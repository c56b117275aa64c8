-- A text of which the outcome is a module spells the module.
use Rattle.std.proofs.Common.{◌≡◌, ℕ, zero, suc, ◌<◌, Bool, true, false, not, ◌||◌, List, [], ◌∷◌, ◌++◌, length, take, map, refl, ap, sym, ◌∙◌, subst, append_assoc, arith}
use Rattle.std.proofs.lemmas.Cmp.{nat_list_eq_equiv}
use Rattle.std.proofs.lemmas.List.{append-nil, length-append, length-map}
use Rattle.std.proofs.lemmas.List.Elements.{All-nil, All-cons}
use Rattle.std.proofs.lemmas.Map.Keys.{IsDistinct-push}
use Rattle.std.specs.Prelude.{Result, Ok, Err, Option, Some, None, if◌then◌else◌, flat_map, slice_get, bytes_eq, All, IsTrue}
use Rattle.std.specs.List.{list_any, IsDistinct}
use Rattle.std.proofs.lemmas.Bool.{and_parts}
use Rattle.vlog_tokens.specs.declared.fixed.Fixed.TheVariants as sign
use Rattle.vlog_tokens.specs.Tokens.{TokenValue, Spot, spots_of}
use Rattle.vlog_tokens.specs.Tokens.{TokenValue as token}
use Rattle.vlog_module.specs.declared.sort.Sort.TheVariants as sort
use Rattle.vlog_module.specs.declared.item.Item.{Item}
use Rattle.vlog_module.specs.declared.modules.Port.{Port}
use Rattle.vlog_module.specs.Names.{IsName}
use Rattle.vlog_module.specs.Parts.{Parts}
use Rattle.vlog_module.specs.Uses.{uses_of}
use Rattle.vlog_module.specs.WellFormed.{scope_of, is_assigned, IsAllowed, IsModule}
use Rattle.vlog_forms.specs.declared.form.Form.{Form}
use Rattle.vlog_forms.specs.declared.form.Form.TheVariants as form
use Rattle.vlog_forms.specs.declared.fault.VlogCause.TheVariants.{Undeclared, AssignedTwice}
use Rattle.vlog_forms.specs.declared.slot.Role.TheVariants.{Declares}
use Rattle.vlog_forms.specs.declared.slot.Slot.TheVariants as slot
use Rattle.vlog_forms.specs.Values.{Value, is_same_token}
use Rattle.vlog_forms.specs.Values.Value.{Name}
use Rattle.vlog_forms.specs.Layout.{slots_of, filled}
use Rattle.vlog_forms.specs.Items.{item_of, item_tokens, port_form, port_tokens, more_names, names_tokens, module_tokens, tokens_in, name_in, IsSpelling}
use Rattle.vlog_forms.specs.Reading.{Found, found_at, values_of, offset_of, Reading, read_slots, read_tokens, after_tokens, and_then, Whole, first_whole, read_forms, port_forms, all_forms}
use Rattle.vlog_forms.specs.Outcome.{Fault, fault, after, unless_fault, item_fault, are_assigned, at_end, ending, is_end, module_of, with_item, item_outcome, items_outcome, is_output, port_of, ports_outcome, uses_in, Turn, wants_name, may_close, PortStep, sign_step, port_step, next_port, port_names, twice_fault, header_slots, with_head, with_names, with_semicolon, ports_next, header_outcome, spots_outcome, outcome_of}
use Rattle.vlog_forms.specs.Outcome.Turn.{Opened, Named, Parted}
use Rattle.vlog_forms.specs.Outcome.PortStep.{TakesName, PartsNames, Closes, Stops}
use Rattle.vlog_forms.proofs.Tokens.{token-same}
use Rattle.vlog_forms.proofs.Pairs.{ok_same, ok_first, ok_second}
use Rattle.vlog_forms.proofs.Exact.{read_tokens-whole}
use Rattle.vlog_forms.proofs.SlotLists.{FitAll, slots-stand}
use Rattle.vlog_forms.proofs.Forms.{forms-read}
use Rattle.vlog_forms.proofs.Rebuilt.{is_item, rebuilt-fit, values-rebuilt}
use Rattle.vlog_forms.proofs.Uses.{uses-of-values}
use Rattle.vlog_forms.proofs.Spelled.{form-some}
use Rattle.vlog_forms.proofs.ItemRead.{read-shape-of}
use Rattle.vlog_forms.proofs.ItemsRead.{MayFollow}
use Rattle.vlog_forms.proofs.HeaderRead.{NamesOf, port_name}
use Rattle.vlog_forms.proofs.Sound.{AreSoundTokens, sound-parts, IsSoundValue, AreSoundValues, slots-sound, spots-sound}
use Rattle.vlog_forms.proofs.Allowed.{item-allowed}

unless_parts : {A : Type 0} (one : Option Fault) (next : Result A Fault) (whole : A) → unless_fault one next ≡ Ok whole → (one ≡ None) × (next ≡ Ok whole)
unless_parts (Some one) next whole reads = absurd cc
unless_parts None next whole reads = (refl, reads)

-- ---- items

-- the items after a module as far as it is read, up to `endmodule`
pub record ItemsStand (m : Parts) (spots : List Spot) (whole : Parts) : Type 0 where
  pub items : List Item
  pub is : whole ≡ module_of m.name m.ports (m.items ++ items)
  pub tokens : tokens_in spots ≡ flat_map item_tokens items ++ token.fixed sign.Endmodule ∷ []
  pub follow : MayFollow m.ports m.items items
  pub assigned : are_assigned m.ports (m.items ++ items) ≡ true

end_parts : (b : Bool) (m : Parts) (offset : ℕ) (spots : List Spot) (whole : Parts) → are_assigned m.ports m.items ≡ b → (if b then at_end m spots else Err (fault offset Undeclared)) ≡ Ok whole
    → (are_assigned m.ports m.items ≡ true) × (spots ≡ []) × (whole ≡ m)
end_parts false m offset spots whole is reads = absurd cc
end_parts true m offset [] whole is reads = (is, refl, sym (ok_same reads))
end_parts true m offset (first ∷ spots) whole is reads = absurd cc

end-form : (one : Form) → is_end one ≡ true → one ≡ form.End
end-form form.End is = refl
end-form one is = absurd cc

end-stands : (end : ℕ) (spots : List Spot) (found : List Found) (rest : List Spot) → read_slots end (slots_of form.End) [] spots ≡ Ok (found, rest)
    → tokens_in spots ≡ token.fixed sign.Endmodule ∷ tokens_in rest
unfolding slots_of filled
end-stands end spots found rest reads = (slots-stand end (slots_of form.End) [] spots found rest reads).tokens

-- a declaration of a port that isn't given has no name
stray-stuck : (end : ℕ) (spots rest : List Spot) → read_tokens end (token.stray ∷ []) spots ≡ Ok rest → ⊥
stray-stuck end [] rest reads = cc
stray-stuck end (first ∷ spots) rest reads = cc

after_stray : (end : ℕ) (left : List Spot) (reading : Result (List Spot) ℕ) (step : List Found × List Spot) → read_tokens end (token.stray ∷ []) left ≡ reading
    → and_then (after_tokens [] reading) (read_slots end (slot.Fixed sign.Semicolon ∷ [])) ≡ Ok step → ⊥
after_stray end left (Ok rest) step is reads = stray-stuck end left rest is
after_stray end left (Err stuck) step is reads = cc

after_fixed : (end : ℕ) (reading : Result (List Spot) ℕ) (step : List Found × List Spot)
    → and_then (after_tokens [] reading) (read_slots end (slot.Space ∷ slot.Again 0 ∷ slot.Fixed sign.Semicolon ∷ [])) ≡ Ok step → ⊥
unfolding read_slots
after_fixed end (Err stuck) step reads = cc
after_fixed end (Ok left) step reads = after_stray end left (read_tokens end (token.stray ∷ []) left) step refl reads

no-port : (end : ℕ) (one : Form) (spots : List Spot) (step : List Found × List Spot) → is_item one ≡ false → is_end one ≡ false → read_slots end (slots_of one) [] spots ≡ Ok step → ⊥
unfolding slots_of read_slots
no-port end form.Input spots step is more reads = after_fixed end (read_tokens end (token.fixed sign.Input ∷ []) spots) step reads
no-port end form.Output spots step is more reads = after_fixed end (read_tokens end (token.fixed sign.Output ∷ []) spots) step reads
no-port end one spots step is more reads = absurd cc

is-item : (b : Bool) (end : ℕ) (one : Form) (spots : List Spot) (step : List Found × List Spot) → is_item one ≡ b → is_end one ≡ false → read_slots end (slots_of one) [] spots ≡ Ok step → is_item one ≡ true
is-item true end one spots step is more reads = is
is-item false end one spots step is more reads = absurd (no-port end one spots step is more reads)

-- a form that fits: what it declares and reads, and that it has at least one token
pub record WholeStands (spots : List Spot) (one : Whole) : Type 0 where
  pub values : AreSoundValues (values_of one.found)
  pub left : AreSoundTokens (tokens_in one.spots)
  pub uses : is_end one.form ≡ false → uses_of (item_of one.form (values_of one.found)) ≡ uses_in (values_of one.found)
  pub shorter : length one.spots < length spots

pub whole-stands : (end : ℕ) (spots : List Spot) (one : Whole) → AreSoundTokens (tokens_in spots) → read_forms end [] all_forms spots ≡ Ok one → WholeStands spots one
whole-stands end spots one sound is =
    let v : List Value = values_of one.found in
    let read = forms-read end [] all_forms spots one is in
    let stands = slots-stand end (slots_of one.form) [] spots one.found one.spots read.reads in
    let fit : FitAll (slots_of one.form) v = subst (λ (f : List Found). FitAll (slots_of one.form) (values_of f)) (sym stands.gained) stands.fit in
    let good = slots-sound end (slots_of one.form) [] spots one.found one.spots sound read.reads in
    let made : List TokenValue = filled (slots_of one.form) [] (values_of stands.given) in
    record {
      values = subst (λ (f : List Found). AreSoundValues (values_of f)) (sym good.gained) good.values;
      left = good.left;
      uses = λ ends.
          let item : is_item one.form ≡ true = is-item (is_item one.form) end one.form spots (one.found, one.spots) refl ends read.reads in
          sym (uses-of-values (item_of one.form v)) ∙ ap uses_in (values-rebuilt one.form v item ∙ rebuilt-fit (slots_of one.form) v fit);
      shorter = omega (
        arith,
        length-map spots (λ (each : Spot). each.token),
        length-map one.spots (λ (each : Spot). each.token),
        ap length stands.tokens,
        length-append made (tokens_in one.spots),
        form-some one.form (values_of stands.given),
      );
    }

-- what follows an item
abbrev StandsAfter : ℕ → ℕ → Parts → Type 0
StandsAfter most end whole = (next : Parts) (left : List Spot) → AreSoundTokens (tokens_in left) → items_outcome most end next left ≡ Ok whole → ItemsStand next left whole

whole_case : (b : Bool) (most end : ℕ) (m : Parts) (spots : List Spot) (whole : Parts) (one : Whole) → AreSoundTokens (tokens_in spots) → read_forms end [] all_forms spots ≡ Ok one
    → StandsAfter most end whole → is_end one.form ≡ b
    → (if b then ending m (offset_of end spots) one.spots
    else unless_fault (item_fault (scope_of m.ports m.items) (offset_of end spots) (item_of one.form (values_of one.found)) one.found) (items_outcome most end (with_item m (item_of one.form (values_of one.found))) one.spots)) ≡ Ok whole
    → ItemsStand m spots whole
unfolding MayFollow
whole_case true most end m spots whole one sound is more ends reads =
    let read = forms-read end [] all_forms spots one is in
    let last : read_slots end (slots_of form.End) [] spots ≡ Ok (one.found, one.spots) = ap (λ f. read_slots end (slots_of f) [] spots) (sym (end-form one.form ends)) ∙ read.reads in
    let done = end_parts (are_assigned m.ports m.items) m (offset_of end spots) one.spots whole refl reads in
    record {
      items = [];
      is = done.2 ∙ ap (module_of m.name m.ports) (sym (append-nil m.items));
      tokens = end-stands end spots one.found one.spots last ∙ ap (λ rest. token.fixed sign.Endmodule ∷ tokens_in rest) done.1;
      follow = tt;
      assigned = ap (are_assigned m.ports) (append-nil m.items) ∙ done.0;
    }
whole_case false most end m spots whole one sound is more ends reads =
    let made : Item = item_of one.form (values_of one.found) in
    let read = forms-read end [] all_forms spots one is in
    let item : is_item one.form ≡ true = is-item (is_item one.form) end one.form spots (one.found, one.spots) refl ends read.reads in
    let stands = slots-stand end (slots_of one.form) [] spots one.found one.spots read.reads in
    let fit : FitAll (slots_of one.form) (values_of one.found) = subst (λ (f : List Found). FitAll (slots_of one.form) (values_of f)) (sym stands.gained) stands.fit in
    let good = slots-sound end (slots_of one.form) [] spots one.found one.spots sound read.reads in
    let values : AreSoundValues (values_of one.found) = subst (λ (f : List Found). AreSoundValues (values_of f)) (sym good.gained) good.values in
    let tokens = (read-shape-of end one.form spots one.spots one.found item read.reads).0 in
    let parts = unless_parts (item_fault (scope_of m.ports m.items) (offset_of end spots) made one.found) (items_outcome most end (with_item m made) one.spots) whole reads in
    let allowed : IsAllowed (scope_of m.ports m.items) made = item-allowed (scope_of m.ports m.items) (offset_of end spots) one.form one.found item fit values parts.0 in
    let next = more (with_item m made) one.spots good.left parts.1 in
    let regroup : (m.items ++ made ∷ []) ++ next.items ≡ m.items ++ made ∷ next.items = append_assoc m.items (made ∷ []) next.items in
    record {
      items = made ∷ next.items;
      is = next.is ∙ ap (module_of m.name m.ports) regroup;
      tokens = tokens ∙ ap (λ rest. item_tokens made ++ rest) next.tokens ∙ sym (append_assoc (item_tokens made) (flat_map item_tokens next.items) (token.fixed sign.Endmodule ∷ []));
      follow = (allowed, next.follow);
      assigned = ap (are_assigned m.ports) (sym regroup) ∙ next.assigned;
    }

forms_case : (most end : ℕ) (m : Parts) (spots : List Spot) (whole : Parts) (reading : Result Whole ℕ) → AreSoundTokens (tokens_in spots) → read_forms end [] all_forms spots ≡ reading
    → StandsAfter most end whole → after reading (item_outcome (items_outcome most end) m (offset_of end spots)) ≡ Ok whole → ItemsStand m spots whole
forms_case most end m spots whole (Err stuck) sound is more reads = absurd cc
forms_case most end m spots whole (Ok one) sound is more reads = whole_case (is_end one.form) most end m spots whole one sound is more refl reads

pub items-stand : (most end : ℕ) (m : Parts) (spots : List Spot) (whole : Parts) → AreSoundTokens (tokens_in spots) → items_outcome most end m spots ≡ Ok whole → ItemsStand m spots whole
unfolding items_outcome
items-stand zero end m spots whole sound reads = absurd cc
items-stand (suc most) end m spots whole sound reads =
    forms_case most end m spots whole (read_forms end [] all_forms spots) sound refl (λ next left good. items-stand most end next left whole good) reads

-- ---- declarations of ports

-- each is a name that PORTS declares
abbrev AreNames : List Found → Type 0
AreNames [] = Unit {0}
AreNames (one ∷ names) = (one.value ≡ Name (Declares sort.Input) (name_in (one.value ∷ []))) × AreNames names

record PortsStand (names : List Found) (before : List Port) (spots : List Spot) (next : List Port → List Spot → Result Parts Fault) (whole : Parts) : Type 0 where
  ports : List Port
  rest : List Spot
  are : NamesOf names ports
  tokens : tokens_in spots ≡ flat_map port_tokens ports ++ tokens_in rest
  following : next (before ++ ports) rest ≡ Ok whole
  sound : AreSoundTokens (tokens_in rest)

port-whole : (first second : Reading (List Found)) (one : Whole) → first_whole form.Input first (first_whole form.Output second (Err 0)) ≡ Ok one → one.form ≡ port_form (is_output one.form)
port-whole (Ok step) second one reads =
    let same : record { form = form.Input; found = step.0; spots = step.1 } ≡ one = ok_same reads in subst (λ (w : Whole). w.form ≡ port_form (is_output w.form)) same refl
port-whole (Err stuck) (Ok step) one reads =
    let same : record { form = form.Output; found = step.0; spots = step.1 } ≡ one = ok_same reads in subst (λ (w : Whole). w.form ≡ port_form (is_output w.form)) same refl
port-whole (Err stuck) (Err other) one reads = absurd cc

port-form : (end : ℕ) (given : List Found) (spots : List Spot) (one : Whole) → read_forms end given port_forms spots ≡ Ok one → one.form ≡ port_form (is_output one.form)
unfolding read_forms
port-form end given spots one reads = port-whole (read_slots end (slots_of form.Input) given spots) (read_slots end (slots_of form.Output) given spots) one reads

port-valueless : (output : Bool) (values : List Value) → FitAll (slots_of (port_form output)) values → values ≡ []
unfolding slots_of FitAll
port-valueless true [] fit = refl
port-valueless true (value ∷ values) fit = absurd fit.1.1.1.1
port-valueless false [] fit = refl
port-valueless false (value ∷ values) fit = absurd fit.1.1.1.1

declaration-stands : (end : ℕ) (name : Found) (spots : List Spot) (one : Whole) → name.value ≡ Name (Declares sort.Input) (name_in (name.value ∷ []))
    → read_forms end (name ∷ []) port_forms spots ≡ Ok one → tokens_in spots ≡ port_tokens (port_of (name_in (name.value ∷ [])) (is_output one.form)) ++ tokens_in one.spots
declaration-stands end name spots one is reads =
    let read = forms-read end (name ∷ []) port_forms spots one reads in
    let stands = slots-stand end (slots_of one.form) (name ∷ []) spots one.found one.spots read.reads in
    let shape : one.form ≡ port_form (is_output one.form) = port-form end (name ∷ []) spots one reads in
    let none : values_of stands.given ≡ [] = port-valueless (is_output one.form) (values_of stands.given) (subst (λ (f : Form). FitAll (slots_of f) (values_of stands.given)) shape stands.fit) in
    stands.tokens ∙ ap (λ values. filled (slots_of one.form) (name.value ∷ []) values ++ tokens_in one.spots) none
    ∙ ap (λ f. filled (slots_of f) (name.value ∷ []) [] ++ tokens_in one.spots) shape
    ∙ ap (λ value. filled (slots_of (port_form (is_output one.form))) (value ∷ []) [] ++ tokens_in one.spots) is

port_case : (end : ℕ) (name : Found) (names : List Found) (before : List Port) (spots : List Spot) (next : List Port → List Spot → Result Parts Fault) (whole : Parts) (reading : Result Whole ℕ)
    → name.value ≡ Name (Declares sort.Input) (name_in (name.value ∷ [])) → AreSoundTokens (tokens_in spots) → read_forms end (name ∷ []) port_forms spots ≡ reading
    → ((ports : List Port) (left : List Spot) → AreSoundTokens (tokens_in left) → ports_outcome end names ports left next ≡ Ok whole → PortsStand names ports left next whole)
    → after reading (λ one. ports_outcome end names (before ++ port_of (name_in (name.value ∷ [])) (is_output one.form) ∷ []) one.spots next) ≡ Ok whole
    → PortsStand (name ∷ names) before spots next whole
port_case end name names before spots next whole (Err stuck) is sound reads more outcome = absurd cc
port_case end name names before spots next whole (Ok one) is sound reads more outcome =
    let port : Port = port_of (name_in (name.value ∷ [])) (is_output one.form) in
    let stands : tokens_in spots ≡ port_tokens port ++ tokens_in one.spots = declaration-stands end name spots one is reads in
    let left = sound-parts (port_tokens port) (tokens_in one.spots) (subst AreSoundTokens stands sound) in
    let rest = more (before ++ port ∷ []) one.spots left.1 outcome in
    record {
      ports = port ∷ rest.ports;
      rest = rest.rest;
      are = (is, rest.are);
      tokens = stands ∙ ap (λ tokens. port_tokens port ++ tokens) rest.tokens ∙ sym (append_assoc (port_tokens port) (flat_map port_tokens rest.ports) (tokens_in rest.rest));
      following = ap (λ all. next all rest.rest) (sym (append_assoc before (port ∷ []) rest.ports)) ∙ rest.following;
      sound = rest.sound;
    }

ports-stand : (end : ℕ) (names : List Found) (before : List Port) (spots : List Spot) (next : List Port → List Spot → Result Parts Fault) (whole : Parts)
    → AreNames names → AreSoundTokens (tokens_in spots) → ports_outcome end names before spots next ≡ Ok whole → PortsStand names before spots next whole
unfolding ports_outcome
ports-stand end [] before spots next whole are sound outcome =
    record { ports = []; rest = spots; are = tt; tokens = refl; following = ap (λ all. next all spots) (append-nil before) ∙ outcome; sound = sound }
ports-stand end (name ∷ names) before spots next whole are sound outcome =
    port_case end name names before spots next whole (read_forms end (name ∷ []) port_forms spots) are.0 sound refl
    (λ ports left good. ports-stand end names ports left next whole are.1 good) outcome

-- ---- the names of the ports

abbrev found_more : List Found → List TokenValue
found_more [] = []
found_more (one ∷ names) = token.fixed sign.Comma ∷ token.name (name_in (one.value ∷ [])) ∷ found_more names

-- names after a part of the list of ports
abbrev turn_tokens : Turn → List Found → List TokenValue
turn_tokens Named names = found_more names
turn_tokens Opened [] = []
turn_tokens Opened (one ∷ names) = token.name (name_in (one.value ∷ [])) ∷ found_more names
turn_tokens Parted [] = []
turn_tokens Parted (one ∷ names) = token.name (name_in (one.value ∷ [])) ∷ found_more names

-- a name follows a comma
abbrev HasName : Turn → List Found → Type 0
HasName Parted [] = ⊥
HasName _ _ = Unit {0}

record NamesStand (turn : Turn) (before : List Found) (spots : List Spot) (after : List Found) (rest : List Spot) : Type 0 where
  given : List Found
  gained : after ≡ before ++ given
  names : AreNames given
  has : HasName turn given
  tokens : tokens_in spots ≡ turn_tokens turn given ++ token.fixed sign.CloseParen ∷ tokens_in rest

-- what a token is, from the step that it makes
name_step : (b : Bool) (text name : List ℕ) → (if b then TakesName text else Stops) ≡ TakesName name → (token.name text ≡ token.name name) × (b ≡ true)
name_step true text name is = let same : text ≡ name = cc in (ap token.name same, refl)
name_step false text name is = absurd cc

sign_takes : (a b c d : Bool) (name : List ℕ) → (if a then (if b then Stops else PartsNames) else if c then (if d then Closes else Stops) else Stops) ≡ TakesName name → ⊥
sign_takes true true c d name is = cc
sign_takes true false c d name is = cc
sign_takes false b true true name is = cc
sign_takes false b true false name is = cc
sign_takes false b false d name is = cc

sign-takes : (turn : Turn) (one : TokenValue) (name : List ℕ) → sign_step turn one ≡ TakesName name → ⊥
sign-takes turn one name is =
    sign_takes (is_same_token (token.fixed sign.Comma) one) (wants_name turn) (is_same_token (token.fixed sign.CloseParen) one) (may_close turn) name is

step-takes : (turn : Turn) (one : TokenValue) (name : List ℕ) → port_step turn one ≡ TakesName name → (one ≡ token.name name) × (wants_name turn ≡ true)
step-takes turn (token.name text) name is = name_step (wants_name turn) text name is
step-takes turn (token.fixed fixed) name is = absurd (sign-takes turn (token.fixed fixed) name is)
step-takes turn (token.bit bit) name is = absurd (sign-takes turn (token.bit bit) name is)
step-takes turn (token.word word) name is = absurd (sign-takes turn (token.word word) name is)
step-takes turn (token.number number) name is = absurd (sign-takes turn (token.number number) name is)
step-takes turn token.stray name is = absurd (sign-takes turn token.stray name is)

sign_parts : (a b c d : Bool) → (if a then (if b then Stops else PartsNames) else if c then (if d then Closes else Stops) else Stops) ≡ PartsNames → (a ≡ true) × (b ≡ false)
sign_parts true true c d is = absurd cc
sign_parts true false c d is = (refl, refl)
sign_parts false b true true is = absurd cc
sign_parts false b true false is = absurd cc
sign_parts false b false d is = absurd cc

sign-parts : (turn : Turn) (one : TokenValue) → sign_step turn one ≡ PartsNames → (one ≡ token.fixed sign.Comma) × (wants_name turn ≡ false)
sign-parts turn one is =
    let both = sign_parts (is_same_token (token.fixed sign.Comma) one) (wants_name turn) (is_same_token (token.fixed sign.CloseParen) one) (may_close turn) is in
    (sym (token-same (token.fixed sign.Comma) one both.0), both.1)

name_parts : (b : Bool) (text : List ℕ) → (if b then TakesName text else Stops) ≡ PartsNames → ⊥
name_parts true text is = cc
name_parts false text is = cc

step-parts : (turn : Turn) (one : TokenValue) → port_step turn one ≡ PartsNames → (one ≡ token.fixed sign.Comma) × (wants_name turn ≡ false)
step-parts turn (token.name text) is = absurd (name_parts (wants_name turn) text is)
step-parts turn (token.fixed fixed) is = sign-parts turn (token.fixed fixed) is
step-parts turn (token.bit bit) is = sign-parts turn (token.bit bit) is
step-parts turn (token.word word) is = sign-parts turn (token.word word) is
step-parts turn (token.number number) is = sign-parts turn (token.number number) is
step-parts turn token.stray is = sign-parts turn token.stray is

sign_closes : (a b c d : Bool) → (if a then (if b then Stops else PartsNames) else if c then (if d then Closes else Stops) else Stops) ≡ Closes → (c ≡ true) × (d ≡ true)
sign_closes true true c d is = absurd cc
sign_closes true false c d is = absurd cc
sign_closes false b true true is = (refl, refl)
sign_closes false b true false is = absurd cc
sign_closes false b false d is = absurd cc

sign-closes : (turn : Turn) (one : TokenValue) → sign_step turn one ≡ Closes → (one ≡ token.fixed sign.CloseParen) × (may_close turn ≡ true)
sign-closes turn one is =
    let both = sign_closes (is_same_token (token.fixed sign.Comma) one) (wants_name turn) (is_same_token (token.fixed sign.CloseParen) one) (may_close turn) is in
    (sym (token-same (token.fixed sign.CloseParen) one both.0), both.1)

name_closes : (b : Bool) (text : List ℕ) → (if b then TakesName text else Stops) ≡ Closes → ⊥
name_closes true text is = cc
name_closes false text is = cc

step-closes : (turn : Turn) (one : TokenValue) → port_step turn one ≡ Closes → (one ≡ token.fixed sign.CloseParen) × (may_close turn ≡ true)
step-closes turn (token.name text) is = absurd (name_closes (wants_name turn) text is)
step-closes turn (token.fixed fixed) is = sign-closes turn (token.fixed fixed) is
step-closes turn (token.bit bit) is = sign-closes turn (token.bit bit) is
step-closes turn (token.word word) is = sign-closes turn (token.word word) is
step-closes turn (token.number number) is = sign-closes turn (token.number number) is
step-closes turn token.stray is = sign-closes turn token.stray is

name-next : (turn : Turn) (one : Found) (names : List Found) → wants_name turn ≡ true → turn_tokens turn (one ∷ names) ≡ token.name (name_in (one.value ∷ [])) ∷ found_more names
name-next Opened one names wants = refl
name-next Named one names wants = absurd cc
name-next Parted one names wants = refl

some-has : (turn : Turn) (one : Found) (names : List Found) → HasName turn (one ∷ names)
some-has Opened one names = tt
some-has Named one names = tt
some-has Parted one names = tt

comma-next : (turn : Turn) (names : List Found) → wants_name turn ≡ false → HasName Parted names → turn_tokens turn names ≡ token.fixed sign.Comma ∷ turn_tokens Parted names
comma-next turn [] wants has = absurd has
comma-next Named (one ∷ names) wants has = refl
comma-next Opened (one ∷ names) wants has = absurd cc
comma-next Parted (one ∷ names) wants has = absurd cc

parted-has : (turn : Turn) (names : List Found) → wants_name turn ≡ false → HasName turn names
parted-has Named names wants = tt
parted-has Opened names wants = absurd cc
parted-has Parted names wants = absurd cc

close-next : (turn : Turn) → may_close turn ≡ true → (turn_tokens turn [] ≡ []) × HasName turn []
close-next Opened closes = (refl, tt)
close-next Named closes = (refl, tt)
close-next Parted closes = absurd cc

step_case : (end : ℕ) (turn : Turn) (before : List Found) (first : Spot) (spots : List Spot) (after : List Found) (rest : List Spot) (step : PortStep) → port_step turn first.token ≡ step
    → ((next : Turn) (found : List Found) → port_names end next found spots ≡ Ok (after, rest) → NamesStand next found spots after rest)
    → next_port step first.offset before spots (λ next found. port_names end next found spots) ≡ Ok (after, rest) → NamesStand turn before (first ∷ spots) after rest
step_case end turn before first spots after rest (TakesName name) is more reads =
    let token_is = step-takes turn first.token name is in
    let one : Found = found_at first.offset (Name (Declares sort.Input) name) in
    let next = more Named (before ++ one ∷ []) reads in
    record {
      given = one ∷ next.given;
      gained = next.gained ∙ append_assoc before (one ∷ []) next.given;
      names = (refl, next.names);
      has = some-has turn one next.given;
      tokens = ap (λ each. each ∷ tokens_in spots) token_is.0 ∙ ap (λ tail. token.name name ∷ tail) next.tokens
          ∙ ap (λ front. front ++ token.fixed sign.CloseParen ∷ tokens_in rest) (sym (name-next turn one next.given token_is.1));
    }
step_case end turn before first spots after rest PartsNames is more reads =
    let token_is = step-parts turn first.token is in
    let next = more Parted before reads in
    record {
      given = next.given;
      gained = next.gained;
      names = next.names;
      has = parted-has turn next.given token_is.1;
      tokens = ap (λ each. each ∷ tokens_in spots) token_is.0 ∙ ap (λ tail. token.fixed sign.Comma ∷ tail) next.tokens
          ∙ ap (λ front. front ++ token.fixed sign.CloseParen ∷ tokens_in rest) (sym (comma-next turn next.given token_is.1 next.has));
    }
step_case end turn before first spots after rest Closes is more reads =
    let token_is = step-closes turn first.token is in
    let none = close-next turn token_is.1 in
    let left : spots ≡ rest = ok_second reads in
    record {
      given = [];
      gained = sym (ok_first reads) ∙ sym (append-nil before);
      names = tt;
      has = none.1;
      tokens = ap (λ each. each ∷ tokens_in spots) token_is.0 ∙ ap (λ tail. token.fixed sign.CloseParen ∷ tokens_in tail) left
          ∙ ap (λ front. front ++ token.fixed sign.CloseParen ∷ tokens_in rest) (sym none.0);
    }
step_case end turn before first spots after rest Stops is more reads = absurd cc

names-stand : (end : ℕ) (turn : Turn) (before : List Found) (spots : List Spot) (after : List Found) (rest : List Spot) → port_names end turn before spots ≡ Ok (after, rest) → NamesStand turn before spots after rest
unfolding port_names
names-stand end turn before [] after rest reads = absurd cc
names-stand end turn before (first ∷ spots) after rest reads =
    step_case end turn before first spots after rest (port_step turn first.token) refl (λ next found. names-stand end next found spots after rest) reads

-- the names of ports, as tokens
more-same : (names : List Found) (ports : List Port) → NamesOf names ports → found_more names ≡ more_names ports
more-same [] [] are = refl
more-same [] (port ∷ ports) are = absurd are
more-same (one ∷ names) [] are = absurd are
more-same (one ∷ names) (port ∷ ports) are =
    let named : name_in (one.value ∷ []) ≡ port.name = ap (λ v. name_in (v ∷ [])) are.0 in
    ap (λ name. token.fixed sign.Comma ∷ token.name name ∷ found_more names) named ∙ ap (λ tail. token.fixed sign.Comma ∷ token.name port.name ∷ tail) (more-same names ports are.1)

names-same : (names : List Found) (ports : List Port) → NamesOf names ports → turn_tokens Opened names ≡ names_tokens ports
names-same [] [] are = refl
names-same [] (port ∷ ports) are = absurd are
names-same (one ∷ names) [] are = absurd are
names-same (one ∷ names) (port ∷ ports) are =
    let named : name_in (one.value ∷ []) ≡ port.name = ap (λ v. name_in (v ∷ [])) are.0 in
    ap (λ name. token.name name ∷ found_more names) named ∙ ap (λ tail. token.name port.name ∷ tail) (more-same names ports are.1)

abbrev HasGoodName : Port → Type 0
HasGoodName port = IsName port.name

more-named : (ports : List Port) → AreSoundTokens (more_names ports) → All HasGoodName ports
more-named [] sound = All-nil HasGoodName
more-named (port ∷ ports) sound = All-cons HasGoodName port ports sound.1.0 (more-named ports sound.1.1)

ports-named : (ports : List Port) → AreSoundTokens (names_tokens ports) → All HasGoodName ports
ports-named [] sound = All-nil HasGoodName
ports-named (port ∷ ports) sound = All-cons HasGoodName port ports sound.0 (more-named ports sound.1)

-- names without a repeat are apart
any-turned : (name : List ℕ) (names : List (List ℕ)) → list_any (bytes_eq name) names ≡ list_any (λ other. bytes_eq other name) names
any-turned name [] = refl
any-turned name (other ∷ names) =
    ap (λ b. b || list_any (bytes_eq name) names) (nat_list_eq_equiv.symm name other) ∙ ap (λ b. bytes_eq other name || b) (any-turned name names)

twice_case : (b : Bool) (one : Fault) (rest : Option Fault) → (if b then Some one else rest) ≡ None → (b ≡ false) × (rest ≡ None)
twice_case true one rest none = absurd cc
twice_case false one rest none = (refl, none)

names-apart : (before : List (List ℕ)) (names : List Found) (ports : List Port) → NamesOf names ports → IsDistinct bytes_eq before → twice_fault before names ≡ None → IsDistinct bytes_eq (before ++ map port_name ports)
names-apart before [] [] are apart none = subst (IsDistinct bytes_eq) (sym (append-nil before)) apart
names-apart before [] (port ∷ ports) are apart none = absurd are
names-apart before (one ∷ names) [] are apart none = absurd are
names-apart before (one ∷ names) (port ∷ ports) are apart none =
    let name : List ℕ = name_in (one.value ∷ []) in
    let named : name ≡ port.name = ap (λ v. name_in (v ∷ [])) are.0 in
    let parts = twice_case (list_any (λ other. bytes_eq other name) before) (fault one.offset AssignedTwice) (twice_fault (before ++ name ∷ []) names) none in
    let more : IsDistinct bytes_eq (before ++ name ∷ []) = IsDistinct-push nat_list_eq_equiv before name apart (any-turned name before ∙ parts.0) in
    let all : IsDistinct bytes_eq ((before ++ name ∷ []) ++ map port_name ports) = names-apart (before ++ name ∷ []) names ports are.1 more parts.1 in
    subst (IsDistinct bytes_eq) (append_assoc before (name ∷ []) (map port_name ports) ∙ ap (λ n. before ++ n ∷ map port_name ports) named) all

-- the values of the names are sound
more-sound : (names : List Found) → AreNames names → AreSoundTokens (found_more names) → AreSoundValues (values_of names)
more-sound [] are sound = tt
more-sound (one ∷ names) are sound = (subst IsSoundValue (sym are.0) sound.1.0, more-sound names are.1 sound.1.1)

names-sound : (names : List Found) → AreNames names → AreSoundTokens (turn_tokens Opened names) → AreSoundValues (values_of names)
names-sound [] are sound = tt
names-sound (one ∷ names) are sound = (subst IsSoundValue (sym are.0) sound.0, more-sound names are.1 sound.1)

pub listed-sound : (end : ℕ) (spots : List Spot) (names : List Found) (rest : List Spot) → AreSoundTokens (tokens_in spots) → port_names end Opened [] spots ≡ Ok (names, rest)
    → AreSoundValues (values_of names) × AreSoundTokens (tokens_in rest)
listed-sound end spots names rest sound reads =
    let list = names-stand end Opened [] spots names rest reads in
    let are : AreNames names = subst AreNames (sym list.gained) list.names in
    let is : tokens_in spots ≡ turn_tokens Opened names ++ token.fixed sign.CloseParen ∷ tokens_in rest
    = list.tokens ∙ ap (λ each. turn_tokens Opened each ++ token.fixed sign.CloseParen ∷ tokens_in rest) (sym list.gained) in
    let good = sound-parts (turn_tokens Opened names) (token.fixed sign.CloseParen ∷ tokens_in rest) (subst AreSoundTokens is sound) in
    (names-sound names are good.0, good.1.1)

-- ---- the whole text

allowed-at : (ports : List Port) (before items : List Item) → MayFollow ports before items → (i : ℕ) (one : Item) → slice_get items i ≡ Some one → IsAllowed (scope_of ports (before ++ take i items)) one
unfolding MayFollow
allowed-at ports before [] follow zero one at = absurd cc
allowed-at ports before [] follow (suc i) one at = absurd cc
allowed-at ports before (first ∷ items) follow zero one at =
    let same : first ≡ one = cc in
    subst (λ (list : List Item). IsAllowed (scope_of ports list) one) (sym (append-nil before)) (subst (λ (each : Item). IsAllowed (scope_of ports before) each) same follow.0)
allowed-at ports before (first ∷ items) follow (suc i) one at =
    subst (λ (list : List Item). IsAllowed (scope_of ports list) one) (append_assoc before (first ∷ []) (take i items)) (allowed-at ports (before ++ first ∷ []) items follow.1 i one at)

either_given : (a b : Bool) → (not a || b) ≡ true → a ≡ true → b ≡ true
either_given true b either given = either
either_given false b either given = absurd cc

complete : (ports : List Port) (items : List Item) → are_assigned ports items ≡ true → All (λ port. IsTrue port.output → IsTrue (is_assigned items port.name)) ports
complete [] items assigned = All-nil (λ port. IsTrue port.output → IsTrue (is_assigned items port.name))
complete (port ∷ ports) items assigned =
    let parts = and_parts (not port.output || is_assigned items port.name) (are_assigned ports items) assigned in
    All-cons (λ port. IsTrue port.output → IsTrue (is_assigned items port.name)) port ports (either_given port.output (is_assigned items port.name) parts.0) (complete ports items parts.1)

header-fit : (values : List Value) → FitAll header_slots values → values ≡ Name (Declares sort.Input) (name_in values) ∷ []
unfolding FitAll
header-fit [] fit = absurd fit.1.0
header-fit (Name role name ∷ []) fit = ap (λ r. Name r name ∷ []) fit.1.0
header-fit (Name role name ∷ other ∷ values) fit = absurd fit.1.1.1
header-fit (value ∷ values) fit = absurd fit.1.0

-- a text by its tokens
pub record TokensStand (spots : List Spot) (m : Parts) : Type 0 where
  pub tokens : tokens_in spots ≡ module_tokens m
  pub well_formed : IsModule m

head-tokens : (end : ℕ) (spots : List Spot) (head : List Found) (rest : List Spot) → read_slots end header_slots [] spots ≡ Ok (head, rest)
    → tokens_in spots ≡ token.fixed sign.Module ∷ token.name (name_in (values_of head)) ∷ token.fixed sign.OpenParen ∷ tokens_in rest
unfolding filled
head-tokens end spots head rest reads =
    let stands = slots-stand end header_slots [] spots head rest reads in
    let is : values_of stands.given ≡ Name (Declares sort.Input) (name_in (values_of stands.given)) ∷ [] = header-fit (values_of stands.given) stands.fit in
    let same : values_of stands.given ≡ values_of head = ap values_of (sym stands.gained) in
    stands.tokens ∙ ap (λ values. filled header_slots [] values ++ tokens_in rest) is
    ∙ ap (λ values. token.fixed sign.Module ∷ token.name (name_in values) ∷ token.fixed sign.OpenParen ∷ tokens_in rest) same

nothing-apart : IsDistinct bytes_eq []
unfolding IsDistinct
nothing-apart = tt

-- a text whose header is read, with no fault after it
after_header : (end : ℕ) (spots : List Spot) (head : List Found) (listed : List Spot) (names : List Found) (closed rest : List Spot) (m : Parts) → AreSoundTokens (tokens_in spots)
    → read_slots end header_slots [] spots ≡ Ok (head, listed) → port_names end Opened [] listed ≡ Ok (names, closed) → read_tokens end (token.fixed sign.Semicolon ∷ []) closed ≡ Ok rest
    → header_outcome end (record { head = head; names = names; spots = rest }) ≡ Ok m → TokensStand spots m
unfolding module_tokens
after_header end spots head listed names closed rest m sound heads lists shuts outcome =
    let name : List ℕ = name_in (values_of head) in
    let front : tokens_in spots ≡ token.fixed sign.Module ∷ token.name name ∷ token.fixed sign.OpenParen ∷ tokens_in listed = head-tokens end spots head listed heads in
    let good = subst AreSoundTokens front sound in
    let list = names-stand end Opened [] listed names closed lists in
    let are : AreNames names = subst AreNames (sym list.gained) list.names in
    let listed_is : tokens_in listed ≡ turn_tokens Opened names ++ token.fixed sign.CloseParen ∷ tokens_in closed
    = list.tokens ∙ ap (λ each. turn_tokens Opened each ++ token.fixed sign.CloseParen ∷ tokens_in closed) (sym list.gained) in
    let closed_is : tokens_in closed ≡ token.fixed sign.Semicolon ∷ tokens_in rest = read_tokens-whole end (token.fixed sign.Semicolon ∷ []) closed rest shuts in
    let names_good = sound-parts (turn_tokens Opened names) (token.fixed sign.CloseParen ∷ tokens_in closed) (subst AreSoundTokens listed_is good.1.1.1) in
    let rest_good : AreSoundTokens (tokens_in rest) = (subst AreSoundTokens closed_is names_good.1.1).1 in
    let parts = unless_parts (twice_fault [] names) (ports_outcome end names [] rest (ports_next end name)) m outcome in
    let ports = ports-stand end names [] rest (ports_next end name) m are rest_good parts.1 in
    let items = items-stand (suc (length ports.rest)) end (module_of name ports.ports []) ports.rest m ports.sound ports.following in
    let same : turn_tokens Opened names ≡ names_tokens ports.ports = names-same names ports.ports ports.are in
    let last : List TokenValue = flat_map item_tokens items.items ++ token.fixed sign.Endmodule ∷ [] in
    let body : List TokenValue = flat_map port_tokens ports.ports ++ last in
    let rest_is : tokens_in rest ≡ body = ports.tokens ∙ ap (λ tail. flat_map port_tokens ports.ports ++ tail) items.tokens in
    let all : Parts = module_of name ports.ports items.items in
    let stands : TokensStand spots all = record {
      tokens = front
          ∙ ap (λ tail. token.fixed sign.Module ∷ token.name name ∷ token.fixed sign.OpenParen ∷ tail)
          (listed_is ∙ ap (λ tail. turn_tokens Opened names ++ token.fixed sign.CloseParen ∷ tail) (closed_is ∙ ap (λ tail. token.fixed sign.Semicolon ∷ tail) rest_is)
          ∙ ap (λ tokens. tokens ++ token.fixed sign.CloseParen ∷ token.fixed sign.Semicolon ∷ body) same
          ∙ sym (append_assoc (names_tokens ports.ports) (token.fixed sign.CloseParen ∷ token.fixed sign.Semicolon ∷ []) body));
      well_formed = record {
        named = good.1.0;
        begun = record {
          named = ports-named ports.ports (subst AreSoundTokens same names_good.0);
          apart = names-apart [] names ports.ports ports.are nothing-apart parts.0;
          allowed = allowed-at ports.ports [] items.items items.follow;
        };
        complete = complete ports.ports items.items items.assigned;
      };
    } in
    subst (TokensStand spots) (sym items.is) stands

semicolon_case : (end : ℕ) (spots : List Spot) (head : List Found) (listed : List Spot) (names : List Found) (closed : List Spot) (reading : Result (List Spot) ℕ) (m : Parts) → AreSoundTokens (tokens_in spots)
    → read_slots end header_slots [] spots ≡ Ok (head, listed) → port_names end Opened [] listed ≡ Ok (names, closed) → read_tokens end (token.fixed sign.Semicolon ∷ []) closed ≡ reading
    → after (with_semicolon head names reading) (header_outcome end) ≡ Ok m → TokensStand spots m
semicolon_case end spots head listed names closed (Err stuck) m sound heads lists shuts outcome = absurd cc
semicolon_case end spots head listed names closed (Ok rest) m sound heads lists shuts outcome = after_header end spots head listed names closed rest m sound heads lists shuts outcome

names_case : (end : ℕ) (spots : List Spot) (head : List Found) (listed : List Spot) (reading : Reading (List Found)) (m : Parts) → AreSoundTokens (tokens_in spots)
    → read_slots end header_slots [] spots ≡ Ok (head, listed) → port_names end Opened [] listed ≡ reading
    → after (with_names end head reading) (header_outcome end) ≡ Ok m → TokensStand spots m
names_case end spots head listed (Err stuck) m sound heads lists outcome = absurd cc
names_case end spots head listed (Ok names) m sound heads lists outcome =
    semicolon_case end spots head listed names.0 names.1 (read_tokens end (token.fixed sign.Semicolon ∷ []) names.1) m sound heads lists refl outcome

head_case : (end : ℕ) (spots : List Spot) (reading : Reading (List Found)) (m : Parts) → AreSoundTokens (tokens_in spots)
    → read_slots end header_slots [] spots ≡ reading → after (with_head end reading) (header_outcome end) ≡ Ok m → TokensStand spots m
head_case end spots (Err stuck) m sound heads outcome = absurd cc
head_case end spots (Ok head) m sound heads outcome = names_case end spots head.0 head.1 (port_names end Opened [] head.1) m sound heads refl outcome

pub tokens-stand : (end : ℕ) (spots : List Spot) (m : Parts) → AreSoundTokens (tokens_in spots) → spots_outcome end spots ≡ Ok m → TokensStand spots m
unfolding spots_outcome
tokens-stand end spots m sound outcome = head_case end spots (read_slots end header_slots [] spots) m sound refl outcome

-- a text spells the module that is its outcome
pub outcome-spells : (text : List ℕ) (m : Parts) → outcome_of text ≡ Ok m → IsSpelling text m
unfolding outcome_of
outcome-spells text m outcome =
    let stands = tokens-stand (length text) (spots_of text) m (spots-sound 0 0 text) outcome in
    record { tokens = stands.tokens; well_formed = stands.well_formed }
