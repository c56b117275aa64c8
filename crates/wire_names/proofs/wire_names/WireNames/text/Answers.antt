use Rattle.std.proofs.Common.{◌∙◌, ◌≤◌, ◌<◌, ◌∷◌, [], ◌++◌, ℕ, List, Vec, Global, ap, arith, length, subst, sym}
use Rattle.std.specs.Prelude.{IsSome, slice_get}
use Rattle.std.proofs.lemmas.Bool.{false≢true}
use Rattle.std.proofs.lemmas.List.{take_all}
use Rattle.wire_names.specs.Lists.{name_line, names_text}
use Rattle.text_lines.specs.Written.{text_of}
use Rattle.wire_names.proofs.Entries.{length-entries, text-more}
use Rattle.wire_names.proofs.wire_names.WireNames.text.Goals as goal
use Rattle.wire_names.proofs.wire_names.WireNames.text.Goals.{in-Some+in_ok-push_line, in_default}

pub loop-place-init : goal.loop-place-init
unfolding names_text text_of
loop-place-init c = c.new-text.ensures.items

pub loop-place-preserved : goal.loop-place-preserved
loop-place-preserved c = elim c.match-get_index.branch [
  | in-Some+in_ok-push_line w ↦
      let key = w.in-Some.wire.now in
      let value = w.in-Some.name.now in
      ap (λ (text : Vec ℕ Global). text.items) w.text-is
      ∙ w.in_ok-push_line.ensures
      ∙ ap (λ (wire : List ℕ). c.loop-place.text.items ++ text_of (name_line (wire, w.deref-in-Some.result.now) ∷ [])) w.deref.ensures.value
      ∙ ap (λ (name : List ℕ). c.loop-place.text.items ++ text_of (name_line (key.items, name) ∷ [])) w.deref-in-Some.ensures.value
      ∙ ap (λ (text : List ℕ). text ++ text_of (name_line (key.items, value.items) ∷ [])) c.loop-place.invariant
      ∙ sym (text-more (λ (key : Vec ℕ Global). key.items) (λ (name : Vec ℕ Global). name.items) c.self.inside.by_wire.entries c.loop-place.place key value c.args.self.now
      (w.in-Some.ensures.entry ∙ ap (λ (entries : List (Vec ℕ Global × Vec ℕ Global)). slice_get entries c.loop-place.place) c.as_slice-entries.ensures.entries) c.self.view_is)
  | in_default w ↦
      let within : c.loop-place.place < length c.as_slice-entries.result = omega (arith, c.loop-place-test.true, c.len-place-end.ensures) in
      absurd (false≢true (subst (λ found. IsSome found) w.in_default.is (c.get_index.ensures.found.1 within)))
]

pub returns : goal.returns
returns c =
    let all : length c.args.self.now ≤ c.loop-place.place =
    omega (arith, length-entries (λ (key : Vec ℕ Global). key.items) (λ (name : Vec ℕ Global). name.items) c.self.inside.by_wire.entries c.args.self.now c.self.view_is, ap length c.as_slice-entries.ensures.entries, c.len-place-end.ensures, c.loop-place-test.false) in
    c.loop-place.invariant ∙ ap names_text (take_all c.loop-place.place c.args.self.now all)
