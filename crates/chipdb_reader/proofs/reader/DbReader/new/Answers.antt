use Rattle.std.proofs.Common.{[], arith, lit<, sym, refl, subst}
use Rattle.chipdb_reader.specs.Feeding.{IsGoing}
use Rattle.chipdb_reader.proofs.reader.DbReader.new.Goals as goal

pub invariant_of-result : goal.invariant_of-result
invariant_of-result c = record {
  going = λ none. subst IsGoing (sym c.new-lines.ensures.taker) ([], c.new-taker.ensures.taken);
  within = λ none. omega (arith, c.new-lines.ensures.fed, c.new-taker.ensures.none);
  limit = lit< tt;
}

pub returns-clause-stands : goal.returns-clause-stands
returns-clause-stands c = record { fed = refl; has = c.new-lines.ensures.stands tt c.new-taker.ensures.taken }
