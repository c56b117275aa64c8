use Rattle.std.proofs.Common.{◌≡◌, ◌∙◌, arith, ℕ, [], ◌++◌, Option, length, length-append, length-take, refl, subst, take, Ok, Err, OnErr, Result}
use Rattle.ice_io.specs.Files.{EndsBefore, FileMap, HasPart, LacksFile}
use Rattle.ice_io.proofs.Fronts.{HasFront-all, HasFront-long, HasFront-more, HasFront-none, TakesFrontOf-none}
use Rattle.ice_io.proofs.Takers.{TakesMore-none, TakesMore-trans}
use Rattle.ice_io.proofs.files.load_into.Goals as goal

-- a fact, if the call failed
on_err : {T E P : Type 0} (r : Result T E) → P → OnErr r P
on_err (Ok x) p = tt
on_err (Err e) p = p

pub returns-in_err-buffer-clause-part : goal.returns-in_err-buffer-clause-part
returns-in_err-buffer-clause-part g c = on_err c.from_residual.result (TakesFrontOf-none g.T.Taker.has_taken (g.F.Files.contents c.args.files.now) c.args.name.now c.args.taker.now)

pub loop-buffer-init : goal.loop-buffer-init
loop-buffer-init g c = record {
  taken = ([], HasFront-none (g.F.Files.contents c.args.files.now) c.args.name.now, refl, TakesMore-none g.T.Taker.has_taken c.args.taker.now);
  fed = omega arith;
  within = omega arith;
  room = omega arith;
  most = omega arith;
  read = (omega arith, omega arith);
  bytes = omega arith;
  faults = omega arith;
  same_contents = refl;
  same_steady = refl;
  same_stores = refl;
  same_store_faults = refl;
}

pub returns-in_err-count-clause-part : goal.returns-in_err-count-clause-part
returns-in_err-count-clause-part g c =
    let taken = c.loop-buffer.invariant.taken in
    on_err c.from_residual-in_err-count.result (taken.0, taken.1, taken.3)

pub returns-in_err-count-clause-lacks : goal.returns-in_err-count-clause-lacks
returns-in_err-count-clause-lacks g c = λ _ steady.
    subst (λ (contents : Option FileMap). LacksFile contents c.args.name.now) c.loop-buffer.invariant.same_contents
    (c.in_err-count.ensures.lacks (c.loop-buffer.invariant.same_steady ∙ steady))

pub returns-in_err-count-clause-failed : goal.returns-in_err-count-clause-failed
returns-in_err-count-clause-failed g c = λ _. omega (arith, c.loop-buffer.invariant.faults, c.in_err-count.ensures.failed)

pub returns-then-count-eq0-clause-bytes : goal.returns-then-count-eq0-clause-bytes
returns-then-count-eq0-clause-bytes g c =
    let i = c.loop-buffer.invariant in
    let taken = i.taken in
    let name = c.args.name.now in
    let ends : EndsBefore (g.F.Files.contents c.args.files.now) name c.loop-buffer.taken =
    subst (λ (contents : Option FileMap). EndsBefore contents name c.loop-buffer.taken) i.same_contents (c.in_ok-count.ensures.end (omega arith) (omega (arith, i.room, length-take {A = ℕ}))) in
    (taken.0, HasFront-all (g.F.Files.contents c.args.files.now) name taken.0 c.loop-buffer.taken taken.2 taken.1 ends, omega (arith, i.within, taken.2), taken.3)

pub returns-then-count-eq0-clause-read : goal.returns-then-count-eq0-clause-read
returns-then-count-eq0-clause-read g c =
    let i = c.loop-buffer.invariant in
    let e = c.in_ok-count.ensures in
    let taken = i.taken in
    let name = c.args.name.now in
    let ends : EndsBefore (g.F.Files.contents c.args.files.now) name c.loop-buffer.taken =
    subst (λ (contents : Option FileMap). EndsBefore contents name c.loop-buffer.taken) i.same_contents (e.end (omega arith) (omega (arith, i.room, length-take {A = ℕ}))) in (
      taken.0,
      HasFront-all (g.F.Files.contents c.args.files.now) name taken.0 c.loop-buffer.taken taken.2 taken.1 ends,
      taken.3,
      (omega (arith, i.read.0, e.read.0, taken.2), omega (arith, i.read.1, e.read.1, taken.2)),
    )

pub returns-then-taken-count-clause-part : goal.returns-then-taken-count-clause-part
returns-then-taken-count-clause-part g c =
    let taken = c.loop-buffer.invariant.taken in
    (taken.0, taken.1, taken.3)

pub returns-then-taken-count-clause-too_long : goal.returns-then-taken-count-clause-too_long
returns-then-taken-count-clause-too_long g c = λ _.
    let i = c.loop-buffer.invariant in
    let taken = i.taken in
    let name = c.args.name.now in
    let piece = take c.in_ok-count.count c.read_at.new.into in
    let has : HasPart (g.F.Files.contents c.args.files.now) name c.loop-buffer.taken piece =
    subst (λ (contents : Option FileMap). HasPart contents name c.loop-buffer.taken piece) i.same_contents c.in_ok-count.ensures.bytes in
    HasFront-long (g.F.Files.contents c.args.files.now) name taken.0 piece c.loop-buffer.taken c.args.limit taken.2
    (omega (arith, c.in_ok-count.ensures.count, length-take {A = ℕ})) taken.1 has

pub returns-then-taken-count-clause-read_past : goal.returns-then-taken-count-clause-read_past
returns-then-taken-count-clause-read_past g c = λ _.
    let i = c.loop-buffer.invariant in
    let e = c.in_ok-count.ensures in
    (omega (arith, i.read.0, e.read.0, e.count, i.within, length-take {A = ℕ}), omega (arith, i.read.1, e.read.1, e.count, i.within, length-take {A = ℕ}))

pub take-requires-clause-short : goal.take-requires-clause-short
take-requires-clause-short g c = omega (arith, c.loop-buffer.invariant.most, length-take {A = ℕ})

pub loop-buffer-preserved : goal.loop-buffer-preserved
loop-buffer-preserved g c =
    let i = c.loop-buffer.invariant in
    let e = c.in_ok-count.ensures in
    let name = c.args.name.now in
    let bytes = i.taken.0 in
    let piece = take c.in_ok-count.count c.read_at.new.into in
    let long : length piece ≡ c.in_ok-count.count = omega (arith, e.count, length-take {A = ℕ}) in
    let has : HasPart (g.F.Files.contents c.args.files.now) name c.loop-buffer.taken piece =
    subst (λ (contents : Option FileMap). HasPart contents name c.loop-buffer.taken piece) i.same_contents e.bytes in
    record {
      taken = (
        bytes ++ piece,
        HasFront-more (g.F.Files.contents c.args.files.now) name bytes piece c.loop-buffer.taken i.taken.2 i.taken.1 has,
        length-append bytes piece ∙ omega (arith, i.taken.2, long),
        TakesMore-trans g.T.Taker.has_taken c.args.taker.now c.loop-buffer.taker c.take.new.self bytes piece i.taken.3 c.take.ensures.taken,
      );
      fed = omega (arith, i.fed, c.take.ensures.bound, long);
      within = omega (arith, c.if-taken-count.false);
      room = i.room;
      most = i.most;
      read = (omega (arith, i.read.0, e.read.0), omega (arith, i.read.1, e.read.1));
      bytes = omega (arith, i.bytes, e.bytes_never_fall);
      faults = omega (arith, i.faults, e.never_falls);
      same_contents = e.same_contents ∙ i.same_contents;
      same_steady = e.same_steady ∙ i.same_steady;
      same_stores = e.same_stores ∙ i.same_stores;
      same_store_faults = e.same_store_faults ∙ i.same_store_faults;
    }
