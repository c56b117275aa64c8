use Rattle.std.proofs.Common.{arith, ◌≡◌, ◌∙◌, ◌+◌, Some, ap, drop, length-drop, refl, sym}
use Rattle.std.specs.FinMap.{get}
use Rattle.ice_io.proofs.Parts.{front_given}
use Rattle.ice_io.specs.MemFiles.{FilesState}
use Rattle.ice_io.proofs.mem_files.MemFilesFiles.read_at.Goals as goal

pub returns-in-Some-clause-bytes : goal.returns-in-Some-clause-bytes
returns-in-Some-clause-bytes c =
    let name = c.args.name.now in
    let all = c.in-Some.bytes.now in
    let n = c.copy_front-count.result in
    let found : get c.args.self.now.files name ≡ Some all = sym (ap (λ (s : FilesState). get s.files name) c.self.view_is) ∙ c.in-Some.ensures.found all refl in
    let size = rw c.from_place.ensures at c.copy_front-count.ensures.size in
    let copied = rw c.from_place.ensures at c.copy_front-count.ensures.copied in
    rw found (drop (c.args.at + n) all, front_given (drop c.args.at all) all c.copy_front-count.new.into c.args.into.now c.args.at n refl (omega (arith, size)) copied)

pub returns-in-Some-clause-end : goal.returns-in-Some-clause-end
returns-in-Some-clause-end c = λ none room.
    let name = c.args.name.now in
    let all = c.in-Some.bytes.now in
    let found : get c.args.self.now.files name ≡ Some all = sym (ap (λ (s : FilesState). get s.files name) c.self.view_is) ∙ c.in-Some.ensures.found all refl in
    let size = rw c.from_place.ensures at c.copy_front-count.ensures.size in
    rw found (omega (arith, size, c.self.invariant, length-drop c.args.at all))
