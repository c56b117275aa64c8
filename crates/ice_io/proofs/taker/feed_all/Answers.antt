use Rattle.std.proofs.Common.{◌≡◌, ◌∙◌, arith, ℕ, ◌+◌, List, Option, ◌++◌, append_assoc, length, length-append, length-take, subst, take}
use Rattle.std.proofs.KnownBytes.{Consumes-trans}
use Rattle.std.proofs.lemmas.Grind.{common_steps}
use Rattle.std.specs.Io.KnownBytes.{Consumes}
use Rattle.ice_io.specs.Taken.{TakesCount}
use Rattle.ice_io.proofs.taker.feed_all.Goals as goal

-- bytes that were taken, and then more, as a count
TakesCount_more : (a b c : Option (List ℕ)) (xs ys : List ℕ) (n : ℕ) → Consumes a b xs → Consumes b c ys → length xs + length ys ≡ n → TakesCount a c n
TakesCount_more a b c xs ys n p q e = (xs ++ ys, Consumes-trans a b c xs ys p q, length-append xs ys ∙ e)

pub returns-then-taken-count-clause-too_long : goal.returns-then-taken-count-clause-too_long
returns-then-taken-count-clause-too_long g c =
    let taken = c.loop-buffer.invariant.taken in
    λ _. TakesCount_more (g.S.Source.left c.args.source.now) (g.S.Source.left c.loop-buffer.source) (g.S.Source.left c.read.new.self) taken.0 (take c.in_ok-count.count c.read.new.into) (c.args.limit + 1)
    taken.1 c.in_ok-count.ensures.bytes.0 (grind (arith, common_steps, taken.2))

pub returns-then-taken-count-clause-part : goal.returns-then-taken-count-clause-part
returns-then-taken-count-clause-part g c =
    let taken = c.loop-buffer.invariant.taken in
    let piece = take c.in_ok-count.count c.read.new.into in
    (taken.0, piece, Consumes-trans (g.S.Source.left c.args.source.now) (g.S.Source.left c.loop-buffer.source) (g.S.Source.left c.read.new.self) taken.0 piece taken.1 c.in_ok-count.ensures.bytes.0, taken.3)

pub take-requires-clause-short : goal.take-requires-clause-short
take-requires-clause-short g c = omega (arith, c.loop-buffer.invariant.most, length-take {A = ℕ})

pub loop-buffer-preserved : goal.loop-buffer-preserved
loop-buffer-preserved g c =
    let i = c.loop-buffer.invariant in
    let bytes = i.taken.0 in
    let piece = take c.in_ok-count.count c.read.new.into in
    record {
      taken = (
        bytes ++ piece,
        Consumes-trans (g.S.Source.left c.args.source.now) (g.S.Source.left c.loop-buffer.source) (g.S.Source.left c.read.new.self) bytes piece i.taken.1 c.in_ok-count.ensures.bytes.0,
        grind (arith, common_steps, i.taken.2),
        λ setting before takes. subst (g.T.Taker.has_taken setting c.take.new.self) (append_assoc before bytes piece) (c.take.ensures.taken setting (before ++ bytes) (i.taken.3 setting before takes)),
      );
      fed = grind (arith, common_steps, i.fed, c.take.ensures.bound);
      within = omega (arith, c.if-taken-count.false);
      room = i.room;
      most = i.most;
      read = (omega (arith, i.read.0, c.in_ok-count.ensures.read.0), omega (arith, i.read.1, c.in_ok-count.ensures.read.1));
      bytes = omega (arith, i.bytes, c.in_ok-count.ensures.bytes_never_fall);
      faults = omega (arith, i.faults, c.in_ok-count.ensures.never_falls);
    }
