use Rattle.std.proofs.Common.{arith, rules, ◌∙◌, ap, inl, inr, subst, refl, Contains}
use Rattle.std.proofs.lemmas.List.{take_all}
use Rattle.std.specs.Prelude.{string_bytes}
use Rattle.std.specs.FinMap.{insert}
use Rattle.ice_io.specs.Faults.{counted}
use Rattle.ice_io.specs.MemFiles.{FilesState, files_of, stored_over}
use Rattle.ice_io.proofs.Stored.{stored_over_stored}
use Rattle.ice_io.proofs.mem_files.MemFiles.replace.Goals as goal
use Rattle.ice_io.proofs.mem_files.MemFiles.replace.Goals.{then-is_listed-via-then-is_listed, then-is_listed-via-else-is_listed+then-ne}

pub returns-then-is_listed-clause-fails : goal.returns-then-is_listed-clause-fails
returns-then-is_listed-clause-fails g c = (
  λ _. elim c.then-is_listed.branch [
    | then-is_listed-via-then-is_listed w ↦
        let listed : Contains c.self.inside.failing.items (counted c.self.inside.calls) = rw (c.deref.ensures.value, c.saturating_add-self-inside.ensures) at c.is_listed.ensures.0 w.if-is_listed.true in
        inl (subst (λ (s : FilesState). Contains s.failing (counted s.calls)) c.self.view_is listed)
    | then-is_listed-via-else-is_listed+then-ne w ↦ inr (search rules)
  ],
  λ _. refl,
)

pub returns-then-fill-clause-after : goal.returns-then-fill-clause-after
returns-then-fill-clause-after g c =
    let all = files_of c.self.inside.files.items in
    let target = string_bytes c.self.inside.target in
    let old = stored_over all target c.self.inside.stored c.self.inside.room.held in
    let held = c.fill.ensures.held ∙ take_all _ (g.C.Content.bytes c.args.content) (omega arith) in
    let files = stored_over_stored all target c.self.inside.stored c.self.inside.room.held c.fill.new.self.held ∙ ap (insert old target) held in
    rw (← c.self.view_is) (λ i. record {
      files = files i;
      target = target;
      room = c.fill.ensures.size i;
      most = c.self.inside.most;
      failing = c.self.inside.failing.items;
      calls = c.saturating_add-self-inside.ensures i;
      load_faults = c.self.inside.load_faults;
      store_faults = c.self.inside.store_faults;
      bytes_read = c.self.inside.bytes_read;
      stores = c.saturating_add-self-inside-2.ensures i;
    })

pub returns-clause-after_part : goal.returns-clause-after_part
returns-clause-after_part g c =
    let all = files_of c.self.inside.files.items in
    let target = string_bytes c.self.inside.target in
    let old = stored_over all target c.self.inside.stored c.self.inside.room.held in
    let files = stored_over_stored all target c.self.inside.stored c.self.inside.room.held c.fill.new.self.held ∙ ap (insert old target) c.fill.ensures.held in
    λ _. rw (← c.self.view_is) (λ i. record {
      files = files i;
      target = target;
      room = c.fill.ensures.size i;
      most = c.self.inside.most;
      failing = c.self.inside.failing.items;
      calls = c.saturating_add-self-inside.ensures i;
      load_faults = c.self.inside.load_faults;
      store_faults = c.saturating_add-self-inside-3.ensures i;
      bytes_read = c.self.inside.bytes_read;
      stores = c.saturating_add-self-inside-2.ensures i;
    })
