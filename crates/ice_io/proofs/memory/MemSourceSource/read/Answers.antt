use Rattle.std.proofs.Common.{arith, sym, ap}
use Rattle.ice_io.proofs.Parts.{front_read}
use Rattle.ice_io.specs.InMemory.{SourceState}
use Rattle.ice_io.proofs.memory.MemSourceSource.read.Goals as goal

pub returns-clause-bytes : goal.returns-clause-bytes
returns-clause-bytes c =
    let is_bytes = c.deref-2.ensures.value in
    front_read _ c.self.inside.bytes.items _ c.args.into.now _ c.self.inside.most _ (ap (λ (s : SourceState). s.left) (sym c.self.view_is))
    c.self.invariant.1 (omega (arith, c.self.inside.bytes.ok.0)) (rw is_bytes at c.copy_front-count.ensures.size) (rw is_bytes at c.copy_front-count.ensures.copied) (omega arith)
