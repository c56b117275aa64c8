use Rattle.std.proofs.Common.{◌≡◌, ◌++◌, ◌∷◌, [], refl}
use Rattle.chipdb_reader.proofs.BufferSteps.{adds-indexed}
use Rattle.chipdb_reader.proofs.Outcomes.{ok-fact, ok-test}
use Rattle.chipdb_reader.proofs.buffers.Buffers.add_indexed.Goals as goal

pub returns-clause-added : goal.returns-clause-added
returns-clause-added c =
    let pushed = ok-test c.push.result c.map_err-2.result c.in_ok-map_err-2.field-0 c.map_err-2.ensures.variant c.in_ok-map_err-2.was in
    let items : c.push.new.self.items ≡ c.args.self.now.lines.items ++ c.args.line ∷ [] = rw pushed at c.push.ensures.items in
    adds-indexed c.args.self.now (record { lines = c.push.new.self; start = c.args.self.now.start; marks = c.set_mark.new.marks; is_indexed = c.args.self.now.is_indexed; chosen = c.insert.new.self }) c.args.line
    c.requires.indexed c.requires.many c.requires.absent
    (ok-fact c.insert.result c.map_err.result c.in_ok-map_err.field-0 _ c.map_err.ensures.variant c.in_ok-map_err.was c.insert.ensures.updates) items refl refl c.set_mark.ensures.here c.set_mark.ensures.others
