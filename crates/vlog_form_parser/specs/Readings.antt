-- What the code's answer says of a reading as the definitions have it.
use Rattle.std.specs.Prelude.{◌≡◌, ℕ, max, List, Result, Ok, Err}
use Rattle.vlog_tokens.specs.Tokens.{Spot, spots_at}
use Rattle.vlog_forms.specs.Reading.{Found, Reading}
use Rattle.vlog_forms.specs.Reading as reading
use Rattle.vlog_form_parser.specs.declared.forms.Whole.{Whole}
use Rattle.vlog_form_parser.specs.declared.stop.ReadStop.{ReadStop}
use Rattle.vlog_form_parser.specs.declared.stop.ReadStop.TheVariants.{Stuck, Memory}

-- the reading stopped at this offset; out of memory says nothing of it
abbrev pub StopsAt : {A : Type 0} → Result A ℕ → ReadStop → Type 0
StopsAt reading (Stuck at) = reading ≡ Err at
StopsAt reading (Memory refused) = Unit {0}

abbrev pub IsMemory : ReadStop → Type 0
IsMemory (Stuck at) = ⊥
IsMemory (Memory refused) = Unit {0}

-- tokens are read, up to an offset
abbrev pub ReadsTokens : Result (List Spot) ℕ → List ℕ → Result ℕ ℕ → Type 0
ReadsTokens reading bytes (Ok end) = reading ≡ Ok (spots_at bytes end)
ReadsTokens reading bytes (Err at) = reading ≡ Err at

-- these values are read, up to an offset
abbrev pub ReadsTo : Reading (List Found) → List ℕ → List Found → Result ℕ ReadStop → Type 0
ReadsTo reading bytes found (Ok end) = reading ≡ Ok (found, spots_at bytes end)
ReadsTo reading bytes found (Err stop) = StopsAt reading stop

-- an index is read, up to an offset
abbrev pub ReadsIndex : Reading ℕ → List ℕ → Result (ℕ × ℕ) ℕ → Type 0
ReadsIndex reading bytes (Ok part) = reading ≡ Ok (part.0, spots_at bytes part.1)
ReadsIndex reading bytes (Err at) = reading ≡ Err at

-- tokens are read, up to an offset, and no value is among them
abbrev pub ReadsOver : Reading (List Found) → List ℕ → List Found → Result ℕ ℕ → Type 0
ReadsOver reading bytes found (Ok end) = reading ≡ Ok (found, spots_at bytes end)
ReadsOver reading bytes found (Err at) = reading ≡ Err at

-- a form that fits, with these values, up to an offset
abbrev pub whole_of : Whole → List ℕ → List Found → reading.Whole
whole_of whole bytes found = record { form = whole.form; found = found; spots = spots_at bytes whole.end }

abbrev pub ReadsForm : Result reading.Whole ℕ → List ℕ → List Found → Result Whole ReadStop → Type 0
ReadsForm reading bytes found (Ok whole) = reading ≡ Ok (whole_of whole bytes found)
ReadsForm reading bytes found (Err stop) = StopsAt reading stop

-- the answer of the other forms, after one form stopped at an offset
abbrev pub further : ℕ → Result Whole ReadStop → Result Whole ReadStop
further stuck (Ok whole) = Ok whole
further stuck (Err (Stuck other)) = Err (Stuck (max stuck other))
further stuck (Err (Memory refused)) = Err (Memory refused)
