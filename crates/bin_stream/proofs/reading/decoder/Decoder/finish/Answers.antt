use Rattle.std.proofs.Common.{subst}
use Rattle.bin_stream.specs.inside.Stages.{IsStage}
use Rattle.bin_stream.specs.declared.reading.stage.Stage.TheVariants.{Front, Plain, Commands}
use Rattle.bin_stream.proofs.Stages.{front-told, cut-told, decided_for}
use Rattle.bin_stream.proofs.reading.decoder.Decoder.finish.Goals as goal

pub returns-in-Front-clause-refused : goal.returns-in-Front-clause-refused
returns-in-Front-clause-refused c = λ layouts bytes stands.
    let at : IsStage layouts bytes (Front c.in-Front.kept) = subst (IsStage layouts bytes) c.in-Front.is stands.stage in
    front-told layouts bytes c.args.self.fed c.fault_at.result at.none stands.fed c.fault_at.ensures

pub returns-in-Plain-clause-refused : goal.returns-in-Plain-clause-refused
returns-in-Plain-clause-refused c = λ layouts bytes stands.
    let at : IsStage layouts bytes (Plain c.in-Plain.last) = subst (IsStage layouts bytes) c.in-Plain.is stands.stage in
    front-told layouts bytes c.args.self.fed c.fault_at-in-Plain.result at.none stands.fed c.fault_at-in-Plain.ensures

pub returns-in-Commands-clause-refused : goal.returns-in-Commands-clause-refused
returns-in-Commands-clause-refused c = λ layouts bytes stands.
    let w = c.in-Commands in
    let at : IsStage layouts bytes (Commands w.comment w.registers w.image w.pending) = subst (IsStage layouts bytes) w.is stands.stage in
    cut-told layouts bytes w.comment w.registers w.image _ w.pending.items c.args.self.fed c.fault_at-in-Commands.result at stands.fed c.fault_at-in-Commands.ensures

pub returns-in-Front-clause-decided : goal.returns-in-Front-clause-decided
returns-in-Front-clause-decided c = λ layouts bytes stands. decided_for layouts bytes bytes c.args.self stands

pub returns-in-Plain-clause-decided : goal.returns-in-Plain-clause-decided
returns-in-Plain-clause-decided c = λ layouts bytes stands. decided_for layouts bytes bytes c.args.self stands

pub returns-in-Commands-clause-decided : goal.returns-in-Commands-clause-decided
returns-in-Commands-clause-decided c = λ layouts bytes stands. decided_for layouts bytes bytes c.args.self stands

pub returns-in-Image-clause-decided : goal.returns-in-Image-clause-decided
returns-in-Image-clause-decided c = λ layouts bytes stands. decided_for layouts bytes bytes c.args.self stands

pub returns-clause-decided : goal.returns-clause-decided
returns-clause-decided c = λ layouts bytes stands. decided_for layouts bytes bytes c.args.self stands
