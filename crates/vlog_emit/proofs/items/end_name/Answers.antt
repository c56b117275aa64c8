use Rattle.std.proofs.Common.{sym, ap, ◌∙◌}
use Rattle.std.specs.Prelude.{Some}
use Rattle.fabric_model.specs.Clocks.ClockEnd.{at_pin, at_register, still, logic}
use Rattle.vlog_emit.proofs.Kept.{clock-end}
use Rattle.vlog_emit.proofs.Within.{clock-within, register-within}
use Rattle.vlog_emit.proofs.items.end_name.Goals as goal

pub input_name-requires : goal.input_name-requires
input_name-requires c = clock-within c.args.design.now c.requires.design c.args.net c.requires.within c.in-Pin.place c.in-Pin.turned (sym c.in-Pin.ensures)

pub returns-in_ok-name-in-Pin : goal.returns-in_ok-name-in-Pin
returns-in_ok-name-in-Pin c fabric kept =
    ap (λ name. Some name) (c.in_ok-name-in-Pin.ensures fabric kept)
    ∙ clock-end fabric c.args.design.now kept c.args.net c.requires.within (at_pin c.in-Pin.place c.in-Pin.turned) c.in-Pin.ensures

pub register_at-requires : goal.register_at-requires
register_at-requires c =
    register-within c.args.design.now c.requires.design c.args.net c.requires.within c.in-Register.class c.in-Register.place c.in-Register.turned (sym c.in-Register.ensures)

pub returns-in_ok-name-in-Register : goal.returns-in_ok-name-in-Register
returns-in_ok-name-in-Register c fabric kept =
    ap (λ name. Some name) (c.in_ok-name-in-Register.ensures fabric kept)
    ∙ clock-end fabric c.args.design.now kept c.args.net c.requires.within (at_register c.in-Register.class c.in-Register.place c.in-Register.turned) c.in-Register.ensures

pub returns-in-Still : goal.returns-in-Still
returns-in-Still c fabric kept = clock-end fabric c.args.design.now kept c.args.net c.requires.within (still c.in-Still.field-0) c.in-Still.ensures

pub returns-in-Logic : goal.returns-in-Logic
returns-in-Logic c fabric kept = clock-end fabric c.args.design.now kept c.args.net c.requires.within logic c.in-Logic.ensures
