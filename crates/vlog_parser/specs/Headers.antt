-- What the code's answer says of the reading of a header as the definitions have it.
use Rattle.std.specs.Prelude.{◌≡◌, ℕ, List, length, Option, Some, None, Result, Ok, Err}
use Rattle.vlog_tokens.specs.Tokens.{spots_at}
use Rattle.vlog_forms.specs.Reading.{Found, Reading}
use Rattle.vlog_forms.specs.Outcome.{Turn as turn, PortStep as step, Header, port_names}
use Rattle.vlog_parser.specs.declared.header.Turn.{Turn}
use Rattle.vlog_parser.specs.declared.header.Turn.TheVariants.{Opened, Named, Parted}
use Rattle.vlog_parser.specs.declared.header.Step.{Step}
use Rattle.vlog_parser.specs.declared.header.Step.TheVariants.{TakesName, Parts, Closes, Stops}
use Rattle.vlog_form_parser.specs.declared.stop.ReadStop.{ReadStop}
use Rattle.vlog_form_parser.specs.Readings.{StopsAt}

abbrev pub turn_of : Turn → turn
turn_of Opened = turn.Opened
turn_of Named = turn.Named
turn_of Parted = turn.Parted

abbrev pub seen_step : Step → step
seen_step (TakesName name) = step.TakesName name.now
seen_step Parts = step.PartsNames
seen_step Closes = step.Closes
seen_step Stops = step.Stops

-- the names are read up to `)`; or one more token is read, and the answer is that of the tokens after it
abbrev pub ReadsNames : Reading (List Found) → List ℕ → List Found → Option Turn → ℕ → Type 0
ReadsNames reading bytes found None end = reading ≡ Ok (found, spots_at bytes end)
ReadsNames reading bytes found (Some next) end = reading ≡ port_names (length bytes) (turn_of next) found (spots_at bytes end)

abbrev pub ReadsTurn : Reading (List Found) → List ℕ → List Found → Result (Option Turn × ℕ) ReadStop → Type 0
ReadsTurn reading bytes found (Ok read) = ReadsNames reading bytes found read.0 read.1
ReadsTurn reading bytes found (Err stop) = StopsAt reading stop

abbrev pub ReadsHeader : Result Header ℕ → List ℕ → List Found → List Found → Result ℕ ReadStop → Type 0
ReadsHeader reading bytes head names (Ok end) = reading ≡ Ok (record { head = head; names = names; spots = spots_at bytes end })
ReadsHeader reading bytes head names (Err stop) = StopsAt reading stop
