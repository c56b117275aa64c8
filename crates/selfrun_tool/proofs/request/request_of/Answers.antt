use Rattle.std.proofs.Common.{◌≡◌, ◌∙◌, sym, ap, subst}
use Rattle.std.specs.Prelude.{Option, IfSome, is_some, map, string_bytes}
use Rattle.clap.specs.Words.{app_of, found_of, is_simple_and_free, matches_of, rows_of}
use Rattle.clap.specs.declared.parser.matches.ArgMatches.{ArgMatches}
use Rattle.selfrun_tool.proofs.Words.{request-found, selfrun-is_simple}
use Rattle.selfrun_tool.proofs.request.request_of.Goals as goal

pub parse-requires : goal.parse-requires
parse-requires c = ap is_simple_and_free c.in_ok-command.ensures ∙ selfrun-is_simple

pub returns-in-Some : goal.returns-in-Some
returns-in-Some c =
    let args = map string_bytes c.args.args.now in
    let app = app_of c.in_ok-command.command in
    let holds : Option ArgMatches → Type 0 = λ found. IfSome found (λ m. rows_of (found_of m) ≡ matches_of app args) in
    request-found args app (rows_of (found_of c.in-Some.matches)) c.value.result c.value-in-Some.result c.value-in-Some-2.result
    c.device_given-device.result c.seed_given-seed.result c.events_given-events.result c.wanted.result c.in_ok-command.ensures
    (ap is_some (sym c.in-Some.is) ∙ c.in_ok-matches.ensures.taken) (subst holds c.in-Some.is c.in_ok-matches.ensures.rows) c.value.ensures c.value-in-Some.ensures c.value-in-Some-2.ensures
    c.device_given-device.ensures c.seed_given-seed.ensures c.events_given-events.ensures c.wanted.ensures
