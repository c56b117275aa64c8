-- Which form is read.
use Rattle.std.proofs.Common.{◌≡◌, ℕ, List, [], ◌∷◌, refl, ap, subst}
use Rattle.std.specs.Prelude.{Result, Ok, Err}
use Rattle.vlog_tokens.specs.Tokens.{Spot}
use Rattle.vlog_forms.specs.declared.form.Form.{Form}
use Rattle.vlog_forms.specs.declared.form.Form.TheVariants as form
use Rattle.vlog_forms.specs.Layout.{slots_of}
use Rattle.vlog_forms.specs.Reading.{Found, Reading, read_slots, Whole, first_whole, or_further, read_forms, all_forms}
use Rattle.vlog_forms.proofs.SlotLists.{are_closed, is_closed, are_before, IsSound}

-- a form among others
pub data IsAmong (one : Form) : List Form → Type 0 where
  here : {forms : List Form} → IsAmong one (one ∷ forms)
  later : {other : Form} {forms : List Form} → IsAmong one forms → IsAmong one (other ∷ forms)

pub among-all : (one : Form) → IsAmong one all_forms
among-all form.Input = here
among-all form.Output = later here
among-all form.Register = later (later here)
among-all form.Word = later (later (later here))
among-all form.Memory = later (later (later (later here)))
among-all form.WireBit = later (later (later (later (later here))))
among-all form.WireWhole = later (later (later (later (later (later here)))))
among-all form.WirePart = later (later (later (later (later (later (later here))))))
among-all form.WireLut = later (later (later (later (later (later (later (later here)))))))
among-all form.WireMajority = later (later (later (later (later (later (later (later (later here))))))))
among-all form.WireChoose = later (later (later (later (later (later (later (later (later (later here)))))))))
among-all form.Assign = later (later (later (later (later (later (later (later (later (later (later here))))))))))
among-all form.FlipFlop = later (later (later (later (later (later (later (later (later (later (later (later here)))))))))))
among-all form.AsyncFlipFlop = later (later (later (later (later (later (later (later (later (later (later (later (later here))))))))))))
among-all form.AsyncReset = later (later (later (later (later (later (later (later (later (later (later (later (later (later here)))))))))))))
among-all form.Read = later (later (later (later (later (later (later (later (later (later (later (later (later (later (later here))))))))))))))
among-all form.ReadNarrow = later (later (later (later (later (later (later (later (later (later (later (later (later (later (later (later here)))))))))))))))
among-all form.Write = later (later (later (later (later (later (later (later (later (later (later (later (later (later (later (later (later here))))))))))))))))
among-all form.WriteNarrow = later (later (later (later (later (later (later (later (later (later (later (later (later (later (later (later (later (later here)))))))))))))))))
among-all form.Start = later (later (later (later (later (later (later (later (later (later (later (later (later (later (later (later (later (later (later here))))))))))))))))))
among-all form.End = later (later (later (later (later (later (later (later (later (later (later (later (later (later (later (later (later (later (later (later here)))))))))))))))))))

-- a form that was read
pub record IsRead (end : ℕ) (given : List Found) (forms : List Form) (spots : List Spot) (whole : Whole) : Type 0 where
  pub among : IsAmong whole.form forms
  pub reads : read_slots end (slots_of whole.form) given spots ≡ Ok (whole.found, whole.spots)

whole_case : (end : ℕ) (given : List Found) (one : Form) (forms : List Form) (spots : List Spot) (whole : Whole) (reading : Reading (List Found)) (others : Result Whole ℕ)
    → read_slots end (slots_of one) given spots ≡ reading → (others ≡ Ok whole → IsRead end given forms spots whole) → first_whole one reading others ≡ Ok whole → IsRead end given (one ∷ forms) spots whole
whole_case end given one forms spots whole (Ok step) others is more reads =
    let same : record { form = one; found = step.0; spots = step.1 } ≡ whole = cc in
    subst (λ (w : Whole). IsRead end given (one ∷ forms) spots w) same (record { among = here; reads = is })
whole_case end given one forms spots whole (Err stuck) (Ok other) is more reads =
    let found = more cc in record { among = later found.among; reads = found.reads }
whole_case end given one forms spots whole (Err stuck) (Err other) is more reads = absurd cc

-- the form that fits is read
pub forms-read : (end : ℕ) (given : List Found) (forms : List Form) (spots : List Spot) (whole : Whole) → read_forms end given forms spots ≡ Ok whole → IsRead end given forms spots whole
unfolding read_forms
forms-read end given [] spots whole reads = absurd cc
forms-read end given (one ∷ forms) spots whole reads =
    whole_case end given one forms spots whole (read_slots end (slots_of one) given spots) (read_forms end given forms spots) refl (forms-read end given forms spots whole) reads

-- some form fits
abbrev pub SomeWhole : Result Whole ℕ → Type 0
SomeWhole reading = (whole : Whole) × (reading ≡ Ok whole)

later_case : (one : Form) (reading : Reading (List Found)) (others : Result Whole ℕ) → SomeWhole others → SomeWhole (first_whole one reading others)
later_case one (Ok step) others some = (record { form = one; found = step.0; spots = step.1 }, refl)
later_case one (Err stuck) others some = (some.0, ap (or_further stuck) some.1)

-- if one of the forms fits, then some form is found
pub some-whole : (end : ℕ) (given : List Found) (one : Form) (forms : List Form) (spots : List Spot) (step : List Found × List Spot) → IsAmong one forms
    → read_slots end (slots_of one) given spots ≡ Ok step → SomeWhole (read_forms end given forms spots)
unfolding read_forms
some-whole end given one [] spots step among reads = elim among [ ]
some-whole end given one (_ ∷ forms) spots step here reads =
    (record { form = one; found = step.0; spots = step.1 }, ap (λ reading. first_whole one reading (read_forms end given forms spots)) reads)
some-whole end given one (other ∷ forms) spots step (later among) reads =
    later_case other (read_slots end (slots_of other) given spots) (read_forms end given forms spots) (some-whole end given one forms spots step among reads)

-- ---- the facts of each form that reading needs; a port's name is given before its declaration

abbrev pub given_count : Form → ℕ
given_count form.Input = 1
given_count form.Output = 1
given_count _ = 0

pub form-sound : (one : Form) → IsSound (given_count one) (slots_of one)
unfolding slots_of are_closed is_closed are_before
form-sound form.Input = record { closed = refl; before = refl }
form-sound form.Output = record { closed = refl; before = refl }
form-sound form.Register = record { closed = refl; before = refl }
form-sound form.Word = record { closed = refl; before = refl }
form-sound form.Memory = record { closed = refl; before = refl }
form-sound form.WireBit = record { closed = refl; before = refl }
form-sound form.WireWhole = record { closed = refl; before = refl }
form-sound form.WirePart = record { closed = refl; before = refl }
form-sound form.WireLut = record { closed = refl; before = refl }
form-sound form.WireMajority = record { closed = refl; before = refl }
form-sound form.WireChoose = record { closed = refl; before = refl }
form-sound form.Assign = record { closed = refl; before = refl }
form-sound form.FlipFlop = record { closed = refl; before = refl }
form-sound form.AsyncFlipFlop = record { closed = refl; before = refl }
form-sound form.AsyncReset = record { closed = refl; before = refl }
form-sound form.Read = record { closed = refl; before = refl }
form-sound form.ReadNarrow = record { closed = refl; before = refl }
form-sound form.Write = record { closed = refl; before = refl }
form-sound form.WriteNarrow = record { closed = refl; before = refl }
form-sound form.Start = record { closed = refl; before = refl }
form-sound form.End = record { closed = refl; before = refl }
