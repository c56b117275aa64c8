use Rattle.std.proofs.Common.{◌≡◌, ◌++◌, ◌∷◌, [], refl}
use Rattle.chipdb_reader.proofs.BufferSteps.{adds-few}
use Rattle.chipdb_reader.proofs.Outcomes.{ok-test}
use Rattle.chipdb_reader.proofs.buffers.Buffers.add_few.Goals as goal

pub returns-clause-added : goal.returns-clause-added
returns-clause-added c =
    let pushed = ok-test c.push.result c.map_err.result c.in_ok-map_err.field-0 c.map_err.ensures.variant c.in_ok-map_err.was in
    let items : c.push.new.self.items ≡ c.args.self.now.lines.items ++ c.args.line ∷ [] = rw pushed at c.push.ensures.items in
    adds-few c.args.self.now (record { lines = c.push.new.self; start = c.args.self.now.start; marks = c.set_mark.new.marks; is_indexed = c.args.self.now.is_indexed; chosen = c.args.self.now.chosen }) c.args.line
    c.requires.indexed c.requires.few c.requires.absent items refl refl refl c.set_mark.ensures.here c.set_mark.ensures.others
