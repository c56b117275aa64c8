-- The command line of `selfrun`: it is simple, and what is found in the arguments is the request.
use Rattle.std.proofs.Common.{◌≡◌, ◌∙◌, Bool, true, false, ℕ, List, refl, sym, ap}
use Rattle.std.specs.Prelude.{Option, Some, None, IfSome, codes, if◌then◌else◌}
use Rattle.std.specs.Borrow.{Bor}
use Rattle.clap.specs.Words.{App, Row, Text, first_of, is_simple_and_free, matches_of}
use Rattle.clap.proofs.OnLiterals.{clap_on_literals}
use Rattle.plane_map.specs.declared.device.DeviceName.{DeviceName}
use Rattle.plane_map.specs.declared.device.DeviceName.TheVariants.{Lp384, Hx1k, Hx8k}
use Rattle.plane_map.specs.Devices.{has_database}
use Rattle.plane_map.specs.DeviceWords.{database_device_named, device_named, with_database}
use Rattle.tool_run.specs.Needs.{text_of}
use Rattle.tool_inputs.specs.Commands.{is_taken}
use Rattle.selfrun_tool.specs.declared.request.Request.{Request}
use Rattle.seeds.specs.Seeds.{seed_of}
use Rattle.selfrun_tool.specs.Selfrun.{events_count, given, request_by, request_with, selfrun_command, selfrun_request}

pub selfrun-is_simple : is_simple_and_free selfrun_command ≡ true
unfolding clap_on_literals
selfrun-is_simple = refl

pub request-taken : (args : List Text) (taken : Bool) (rows : List Row) → is_taken selfrun_command args ≡ taken → matches_of selfrun_command args ≡ rows
    → selfrun_request args ≡ (if taken then request_by rows else None)
unfolding selfrun_request
request-taken args taken rows is found = ap (λ (b : Bool). if b then request_by (matches_of selfrun_command args) else None) is ∙ ap (λ rows. if taken then request_by rows else None) found

part-given : {A : Type 0} (part : Text → Option A) (rows : List Row) (id : Text) (text : Option (Bor (List ℕ))) → text_of text ≡ first_of id rows → given part (text_of text) ≡ given part (first_of id rows)
part-given part rows id text found = ap (given part) found

pub request-found : (args : List Text) (app : App) (rows : List Row) (device seed events : Option (Bor (List ℕ))) (one : Option DeviceName) (two three : Option ℕ) (request : Option Request)
    → app ≡ selfrun_command → true ≡ is_taken app args → rows ≡ matches_of app args
    → text_of device ≡ first_of (codes "device") rows → text_of seed ≡ first_of (codes "seed") rows → text_of events ≡ first_of (codes "events") rows
    → one ≡ given database_device_named (text_of device) → two ≡ given seed_of (text_of seed) → three ≡ given events_count (text_of events)
    → request ≡ request_with one two three → request ≡ selfrun_request args
request-found args app rows device seed events one two three request same taken found device_is seed_is events_is one_is two_is three_is is =
    let here : matches_of selfrun_command args ≡ rows = sym (found ∙ ap (λ a. matches_of a args) same) in
    is
    ∙ ap (λ d. request_with d two three) (one_is ∙ part-given database_device_named rows (codes "device") device device_is)
    ∙ ap (λ s. request_with (given database_device_named (first_of (codes "device") rows)) s three) (two_is ∙ part-given seed_of rows (codes "seed") seed seed_is)
    ∙ ap (request_with (given database_device_named (first_of (codes "device") rows)) (given seed_of (first_of (codes "seed") rows))) (three_is ∙ part-given events_count rows (codes "events") events events_is)
    ∙ sym (request-taken args true rows (sym (taken ∙ ap (λ a. is_taken a args) same)) here)

-- ---- the device of a request has a database

device-with : (device : Option DeviceName) → IfSome (with_database device) (λ device. has_database device ≡ true)
device-with None = tt
device-with (Some Lp384) = tt
device-with (Some Hx1k) = refl
device-with (Some Hx8k) = refl

device-given : (word : Option Text) → IfSome (given database_device_named word) (λ device. has_database device ≡ true)
device-given None = tt
device-given (Some word) = device-with (device_named word)

device-asked : (device : Option DeviceName) (seed events : Option ℕ) → IfSome device (λ device. has_database device ≡ true)
    → IfSome (request_with device seed events) (λ request. has_database request.device ≡ true)
device-asked (Some device) (Some seed) (Some events) has = has
device-asked (Some device) (Some seed) None has = tt
device-asked (Some device) None events has = tt
device-asked None seed events has = tt

device-taken : (taken : Bool) (request : Option Request) → IfSome request (λ request. has_database request.device ≡ true)
    → IfSome (if taken then request else None) (λ request. has_database request.device ≡ true)
device-taken true request has = has
device-taken false request has = tt

pub request-database : (args : List Text) → IfSome (selfrun_request args) (λ request. has_database request.device ≡ true)
unfolding selfrun_request
request-database args =
    let rows = matches_of selfrun_command args in
    let device = first_of (codes "device") rows in
    device-taken (is_taken selfrun_command args) (request_by rows)
    (device-asked (given database_device_named device) (given seed_of (first_of (codes "seed") rows)) (given events_count (first_of (codes "events") rows)) (device-given device))
