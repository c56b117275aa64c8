use Rattle.std.proofs.Common.{◌≡◌, ◌∙◌, sym, ap, Some, option_copied}
use Rattle.std.specs.FinMap.{get, get-from_entries}
use Rattle.std.specs.Cmp.Lexicographic.{nat_list_cmp_total}
use Rattle.ice_io.specs.MemFiles.{FilesState, files_of}
use Rattle.ice_io.proofs.Stored.{get_stored, get_other, get_unstored}
use Rattle.ice_io.proofs.mem_files.MemFiles.bytes_of.Goals as goal
use Rattle.ice_io.proofs.mem_files.MemFiles.bytes_of.Goals.{else-self-via-then-self+else-eq, else-self-via-else-self}

pub returns-then-eq : goal.returns-then-eq
returns-then-eq c =
    let same = rw c.as_str.ensures.value at (sym c.eq.ensures ∙ c.if-eq.true) in
    ap Some c.bytes.ensures
    ∙ sym (get_stored _ _ _ _ _ c.if-self.true same) ∙ ap (λ (s : FilesState). get s.files c.args.name.now) c.self.view_is

pub returns : goal.returns
returns c =
    let found : option_copied c.find_file.result ≡ get (files_of c.self.inside.files.items) c.args.name.now =
    rw c.deref.ensures.value at c.find_file.ensures ∙ sym (get-from_entries nat_list_cmp_total _ _) in
    let seen = ap (λ (s : FilesState). get s.files c.args.name.now) c.self.view_is in
    elim c.else-self.branch [
      | else-self-via-then-self+else-eq w ↦
          let other = rw w.as_str.ensures.value at (sym w.eq.ensures ∙ w.if-eq.false) in
          found ∙ sym (get_other _ _ _ _ _ other) ∙ seen
      | else-self-via-else-self w ↦ found ∙ sym (get_unstored _ _ _ _ _ w.if-self.false) ∙ seen
    ]
