use Rattle.std.proofs.Common.{◌≡◌, ◌++◌, List, ℕ, sym, subst}
use Rattle.std.specs.Prelude.{None, Some, ⊤}
use Rattle.std.proofs.lemmas.Result.{MatchResult-weaker}
use Rattle.layout_file.specs.declared.layouts.Layouts.{Layouts}
use Rattle.bin_stream.specs.Spelling.{bin_read_of, Tells}
use Rattle.bin_stream.specs.Decoding.{StandsFor}
use Rattle.bin_stream.specs.Settled.{IsOpen, Settles}
use Rattle.bin_stream.specs.inside.Stages.{IsStage, fault_in}
use Rattle.bin_stream.proofs.Stages.{decided_for, stage_open, stage_settled, stage_stays}
use Rattle.bin_stream.proofs.reading.decoder.Decoder.feed.Goals as goal

pub returns-clause-stays : goal.returns-clause-stays
returns-clause-stays c =
    let own = c.args.self.now.layouts in
    let piece = c.args.piece.now in
    let after = c.after-stage.result in
    MatchResult-weaker c.answer-answer.result {P = λ _. ⊤} {P' = λ _. ⊤} {Q = λ fault. fault_in after ≡ Some fault} {Q' = λ fault. (layouts : Layouts) (bytes more : List ℕ) → StandsFor layouts bytes c.args.self.now → Tells (bin_read_of layouts (bytes ++ piece ++ more)) fault}
    c.answer-answer.ensures.refused
    (λ _ holds. holds)
    (λ fault refused layouts bytes more stands.
    let before : IsStage own bytes c.args.self.now.stage = subst (λ (layouts : Layouts). IsStage layouts bytes c.args.self.now.stage) (sym stands.layouts_are) stands.stage in
    let here : IsStage own (bytes ++ piece) after = c.after-stage.ensures.stands bytes (sym stands.fed) (subst (IsStage own bytes) (sym c.replace-stage.ensures.value) before) in
    subst (λ (layouts : Layouts). Tells (bin_read_of layouts (bytes ++ piece ++ more)) fault) stands.layouts_are (stage_stays own c.args.self.now.laid (bytes ++ piece) more after fault here refused))

pub returns-clause-decided : goal.returns-clause-decided
returns-clause-decided c = λ layouts bytes stands. decided_for layouts bytes (bytes ++ c.args.piece.now) c.args.self.now stands

pub returns-clause-goes_on : goal.returns-clause-goes_on
returns-clause-goes_on c =
    let own = c.args.self.now.layouts in
    let piece = c.args.piece.now in
    let after = c.after-stage.result in
    MatchResult-weaker c.answer-answer.result {P = λ _. fault_in after ≡ None} {P' = λ _. (layouts : Layouts) (bytes : List ℕ) → StandsFor layouts bytes c.args.self.now → IsOpen (bin_read_of layouts (bytes ++ piece))} {Q = λ _. ⊤} {Q' = λ _. ⊤}
    c.answer-answer.ensures.clear
    (λ _ clear layouts bytes stands.
    let before : IsStage own bytes c.args.self.now.stage = subst (λ (layouts : Layouts). IsStage layouts bytes c.args.self.now.stage) (sym stands.layouts_are) stands.stage in
    let here : IsStage own (bytes ++ piece) after = c.after-stage.ensures.stands bytes (sym stands.fed) (subst (IsStage own bytes) (sym c.replace-stage.ensures.value) before) in
    subst (λ (layouts : Layouts). IsOpen (bin_read_of layouts (bytes ++ piece))) stands.layouts_are (stage_open own (bytes ++ piece) after here clear))
    (λ _ holds. holds)

pub returns-clause-refused : goal.returns-clause-refused
returns-clause-refused c =
    let own = c.args.self.now.layouts in
    let piece = c.args.piece.now in
    let after = c.after-stage.result in
    MatchResult-weaker c.answer-answer.result {P = λ _. ⊤} {P' = λ _. ⊤} {Q = λ fault. fault_in after ≡ Some fault} {Q' = λ fault. (layouts : Layouts) (bytes : List ℕ) → StandsFor layouts bytes c.args.self.now → Settles (bin_read_of layouts (bytes ++ piece)) fault}
    c.answer-answer.ensures.refused
    (λ _ holds. holds)
    (λ fault refused layouts bytes stands.
    let before : IsStage own bytes c.args.self.now.stage = subst (λ (layouts : Layouts). IsStage layouts bytes c.args.self.now.stage) (sym stands.layouts_are) stands.stage in
    let here : IsStage own (bytes ++ piece) after = c.after-stage.ensures.stands bytes (sym stands.fed) (subst (IsStage own bytes) (sym c.replace-stage.ensures.value) before) in
    subst (λ (layouts : Layouts). Settles (bin_read_of layouts (bytes ++ piece)) fault) stands.layouts_are (stage_settled own (bytes ++ piece) after fault here refused))
