use Rattle.std.proofs.Common.{Bool, List, Some, None, ap, false, get_or, refl, sym, ◌∙◌}
use Rattle.std.specs.Option.{option_map}
use Rattle.vlog_semantics.specs.Named.{values_of}
use Rattle.vlog_semantics.specs.Run.{readable}
use Rattle.vlog_semantics.proofs.Reading.{register-read, register-declared}
use Rattle.vlog_engine.specs.Lanes.{lane_bits}
use Rattle.vlog_engine.proofs.Boards.{register-slot, source-cell}
use Rattle.vlog_engine.proofs.board.Board.register.Goals as goal

pub returns-in-Some-clause-is : goal.returns-in-Some-clause-is
returns-in-Some-clause-is g c lane m entry shows =
    let r = c.args.self.now in
    let bits : List Bool = values_of (readable entry).bits in
    let slot = c.in-Some.slot in
    ap (λ (bit : Bool). Some bit) (c.cell_at.ensures.bits lane shows.within ∙ ap (λ cells. get_or (lane_bits g.V.Value.at lane cells) slot false) c.deref.ensures.value
    ∙ source-cell m entry r lane shows slot (register-slot m r.layout c.args.name.now slot shows.laid_out c.in-Some.ensures))
    ∙ ap (option_map (λ slot. get_or bits slot false)) c.in-Some.ensures
    ∙ sym (register-read m entry r.layout bits c.args.name.now shows.laid_out shows.shown.named refl)

pub returns-in-None-clause-is : goal.returns-in-None-clause-is
returns-in-None-clause-is g c lane m entry shows =
    let bits : List Bool = values_of (readable entry).bits in
    ap (option_map (λ slot. get_or bits slot false)) c.in-None.ensures
    ∙ sym (register-read m entry c.args.self.now.layout bits c.args.name.now shows.laid_out shows.shown.named refl)

pub returns-in-Some-clause-declared : goal.returns-in-Some-clause-declared
returns-in-Some-clause-declared g c lane m entry shows =
    let bits : List Bool = values_of (readable entry).bits in
    register-declared m entry c.args.name.now (Some (get_or bits c.in-Some.slot false)) shows.shown.named
    (ap (option_map (λ slot. get_or bits slot false)) c.in-Some.ensures ∙ sym (register-read m entry c.args.self.now.layout bits c.args.name.now shows.laid_out shows.shown.named refl))

pub returns-in-None-clause-declared : goal.returns-in-None-clause-declared
returns-in-None-clause-declared g c lane m entry shows =
    let bits : List Bool = values_of (readable entry).bits in
    register-declared m entry c.args.name.now None shows.shown.named
    (ap (option_map (λ slot. get_or bits slot false)) c.in-None.ensures ∙ sym (register-read m entry c.args.self.now.layout bits c.args.name.now shows.laid_out shows.shown.named refl))
