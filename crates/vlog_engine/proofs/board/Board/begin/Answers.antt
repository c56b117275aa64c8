use Rattle.std.proofs.Common.{◌≡◌, Bool, true, false, ap, ap₂, arith, cond, inl, inr, refl, subst, sym, ◌∙◌}
use Rattle.std.proofs.lemmas.Bool.{cases_Bool}
use Rattle.vlog_semantics.specs.declared.layout.SlotLayout.{SlotLayout}
use Rattle.vlog_engine.specs.Boards.{IsChangedIn}
use Rattle.vlog_engine.specs.StepKinds.Step.{at_event}
use Rattle.vlog_engine.proofs.Calls.{changed-in, clocked-then-idle, idle-then, idle-then-clocked, same-size, settled-idle, shown-idle, stays-then}
use Rattle.vlog_engine.proofs.board.Board.begin.Goals as goal

none-in : (bit : Bool) → cond bit false false ≡ false
none-in true = refl
none-in false = refl

pub clock-requires-2-clause-pin : goal.clock-requires-2-clause-pin
clock-requires-2-clause-pin g c = omega (arith, c.requires, ap (λ (k : SlotLayout). k.input_count) c.clock.ensures.same.layout)

pub returns-clause-same : goal.returns-clause-same
returns-clause-same g c =
    stays-then c.args.self.now c.clock-2.new.self c.show.new.self (stays-then c.args.self.now c.clock.new.self c.clock-2.new.self c.clock.ensures.same c.clock-2.ensures.same)
    (stays-then c.clock-2.new.self c.settle.new.self c.show.new.self c.settle.ensures.same c.show.ensures.same)

pub returns-clause-moments : goal.returns-clause-moments
returns-clause-moments g c = c.show.ensures.moments ∙ c.settle.ensures.moments ∙ c.clock-2.ensures.moments ∙ c.clock.ensures.moments

pub returns-clause-idle : goal.returns-clause-idle
returns-clause-idle g c lane within off =
    let at = g.V.Value.at in
    let bit = at c.args.bits lane in
    let rising_off = c.both.ensures lane within ∙ ap (λ k. cond bit k false) off ∙ none-in bit in
    let falling_off = c.select.ensures lane within ∙ ap₂ (λ (x y : Bool). cond bit x y) (c.every.ensures lane within) off ∙ none-in bit in
    let a = c.args.self.now in
    let b = c.clock.new.self in
    let d = c.clock-2.new.self in
    let e = c.settle.new.self in
    let two = stays-then a b d c.clock.ensures.same c.clock-2.ensures.same in
    let one_idle = idle-then lane a b d c.clock.ensures.same (c.clock.ensures.idle lane within rising_off) (c.clock-2.ensures.idle lane within falling_off) in
    let two_idle = idle-then lane a d e two one_idle (settled-idle (at c.args.changed lane) lane d e c.settle.ensures.same (c.settle.ensures.settled lane within) off) in
    idle-then lane a e c.show.new.self (stays-then a d e two c.settle.ensures.same) two_idle
    (shown-idle (at c.args.changed lane) lane e c.show.new.self c.show.ensures.same (c.show.ensures.shown lane within) off)

pub returns-clause-changed : goal.returns-clause-changed
returns-clause-changed g c lane within on =
    let at = g.V.Value.at in
    let bit = at c.args.bits lane in
    let pin = c.args.pin in
    let a = c.args.self.now in
    let b = c.clock.new.self in
    let d = c.clock-2.new.self in
    let e = c.settle.new.self in
    let two = stays-then a b d c.clock.ensures.same c.clock-2.ensures.same in
    elim (cases_Bool bit) [
      | inl rises ↦
          let rising_on = c.both.ensures lane within ∙ ap₂ (λ (x y : Bool). cond x y false) rises on in
          let falling_off = c.select.ensures lane within ∙ ap (λ k. cond k (at c.every.result lane) (at c.args.changed lane)) rises ∙ c.every.ensures lane within in
          subst (λ k. IsChangedIn (at_event (record { pin = pin; bit = k })) lane a c.show.new.self) (sym rises)
          (changed-in (at_event (record { pin = pin; bit = true })) lane (at c.args.changed lane) (at c.args.changed lane) a d e c.show.new.self two c.settle.ensures.same
          (clocked-then-idle (at_event (record { pin = pin; bit = true })) lane a b d c.clock.ensures.same (c.clock.ensures.clocked lane within rising_on) (c.clock-2.ensures.idle lane within falling_off) (same-size lane a b c.clock.ensures.same))
          (c.settle.ensures.settled lane within) on (c.show.ensures.shown lane within) on)
      | inr falls ↦
          let rising_off = c.both.ensures lane within ∙ ap (λ k. cond k (at c.args.changed lane) false) falls in
          let falling_on = c.select.ensures lane within ∙ ap (λ k. cond k (at c.every.result lane) (at c.args.changed lane)) falls ∙ on in
          subst (λ k. IsChangedIn (at_event (record { pin = pin; bit = k })) lane a c.show.new.self) (sym falls)
          (changed-in (at_event (record { pin = pin; bit = false })) lane (at c.args.changed lane) (at c.args.changed lane) a d e c.show.new.self two c.settle.ensures.same
          (idle-then-clocked (at_event (record { pin = pin; bit = false })) lane a b d c.clock.ensures.same (c.clock.ensures.idle lane within rising_off)
          (c.clock.ensures.tracked lane within) (c.clock-2.ensures.clocked lane within falling_on))
          (c.settle.ensures.settled lane within) on (c.show.ensures.shown lane within) on)
    ]
