use Rattle.std.proofs.Common.{inl, refl, subst, Contains}
use Rattle.ice_io.specs.MemFiles.{FilesState}
use Rattle.ice_io.proofs.mem_files.MemFiles.file_to_load.Goals as goal

pub returns-then-is_listed-clause-none : goal.returns-then-is_listed-clause-none
returns-then-is_listed-clause-none c =
    let listed : Contains c.self.inside.failing.items c.self.inside.calls = rw c.deref.ensures.value at c.is_listed.ensures.0 c.if-is_listed.true in
    (λ _. inl (subst (λ (s : FilesState). Contains s.failing s.calls) c.self.view_is listed), λ _. refl)
