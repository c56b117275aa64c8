use Rattle.std.proofs.Common.{◌≡◌, ◌/◌, ◌∙◌, sym, subst}
use Rattle.std.proofs.lemmas.Result.{err_from_is_err_and}
use Rattle.std.specs.Prelude.{Some, None}
use Rattle.bin_stream.specs.Commands.{number_of}
use Rattle.bin_stream.specs.Refusals.{first_fault, fault_at, data_kind}
use Rattle.bin_stream.specs.inside.Heads.{first_byte, payload_in, opcode_in, number_in, IsOf}
use Rattle.bin_stream.specs.inside.Step.{Refuses}
use Rattle.bin_stream.proofs.Entered.{Refuses-by, short_refused, short_entered, data_fault-is, data_entered}
use Rattle.bin_stream.proofs.reading.machine.Machine.enter_command.Goals as goal

pub returns-in_err-command-clause-refused : goal.returns-in_err-command-clause-refused
returns-in_err-command-clause-refused c =
    let p = err_from_is_err_and c.from_residual.result c.from_residual.ensures.1 in
    rw (p.1, p.2) (λ commands _. c.in_err-command.ensures.refused commands)

pub returns-in_err-size-in-Data-clause-refused : goal.returns-in_err-size-in-Data-clause-refused
returns-in_err-size-in-Data-clause-refused c =
    let p = err_from_is_err_and c.from_residual-in_err-size-in-Data.result c.from_residual-in_err-size-in-Data.ensures.1 in
    rw (p.1, p.2) (λ commands stands.
    let machine = c.args.self.now in
    let bytes = c.args.at.bytes.now in
    let head = c.in_ok-command in
    let kind = c.in-Data.kind in
    let is_data : data_kind (first_byte bytes / 16) (number_of (payload_in bytes)) ≡ Some kind = subst (IsOf (first_byte bytes / 16) (number_of (payload_in bytes))) c.in-Data.is head.ensures.says in
    let told = data_fault-is machine.layouts commands c.args.at.offset head.field-0.size bytes machine.registers machine.image head.ensures.allowed head.ensures.size stands kind is_data in
    Refuses-by _ _ c.in_err-size-in-Data.field-0.0 told c.in_err-size-in-Data.ensures.refused)

pub returns-in_ok-size-in-Data-clause-entered : goal.returns-in_ok-size-in-Data-clause-entered
returns-in_ok-size-in-Data-clause-entered c = λ commands stands.
    let machine = c.args.self.now in
    let bytes = c.args.at.bytes.now in
    let head = c.in_ok-command in
    let rows = c.in_ok-size-in-Data in
    let kind = c.in-Data.kind in
    let is_data : data_kind (first_byte bytes / 16) (number_of (payload_in bytes)) ≡ Some kind = subst (IsOf (first_byte bytes / 16) (number_of (payload_in bytes))) c.in-Data.is head.ensures.says in
    let told = data_fault-is machine.layouts commands c.args.at.offset head.field-0.size bytes machine.registers machine.image head.ensures.allowed head.ensures.size stands kind is_data in
    let fine : first_fault commands c.args.at.offset bytes ≡ None = told ∙ rows.ensures.allowed in
    data_entered machine.layouts commands c.args.at.offset head.field-0.size bytes machine.registers machine.image head.ensures.allowed head.ensures.size stands kind is_data fine c.requires.layouts rows.size c.enter_data.new.self.registers c.enter_data.new.self.image rows.ensures.size rows.ensures.registers rows.ensures.drawn

pub returns-in-Ok-clause-entered : goal.returns-in-Ok-clause-entered
returns-in-Ok-clause-entered c = λ commands stands.
    let machine = c.args.self.now in
    let bytes = c.args.at.bytes.now in
    let head = c.in_ok-command in
    let command = c.in-Short.command in
    let says : (first_byte bytes / 16 ≡ opcode_in command) × (number_of (payload_in bytes) ≡ number_in command) = subst (IsOf (first_byte bytes / 16) (number_of (payload_in bytes))) c.in-Short.is head.ensures.says in
    short_entered machine.layouts commands c.args.at.offset head.field-0.size bytes machine.registers machine.image head.ensures.allowed head.ensures.size stands command says c.is_wake_up.result c.enter_short.new.self c.in-Ok.ensures.allowed c.in-Ok.ensures.entered c.is_wake_up.ensures

pub returns-in-Err-clause-refused : goal.returns-in-Err-clause-refused
returns-in-Err-clause-refused c = λ commands stands.
    let machine = c.args.self.now in
    let bytes = c.args.at.bytes.now in
    let head = c.in_ok-command in
    let command = c.in-Short.command in
    let says : (first_byte bytes / 16 ≡ opcode_in command) × (number_of (payload_in bytes) ≡ number_in command) = subst (IsOf (first_byte bytes / 16) (number_of (payload_in bytes))) c.in-Short.is head.ensures.says in
    let wrong : first_fault commands c.args.at.offset bytes ≡ Some (fault_at c.args.at.offset c.in-Err.cause) = short_refused machine.layouts commands c.args.at.offset head.field-0.size bytes machine.registers machine.image head.ensures.allowed head.ensures.size stands command says c.in-Err.cause c.in-Err.ensures.allowed in
    subst (Refuses (first_fault commands c.args.at.offset bytes)) (sym c.fault_at.ensures) wrong
