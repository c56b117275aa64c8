use Rattle.std.proofs.Common.{◌≡◌, arith, ap}
use Rattle.std.proofs.lemmas.List.{length-append}
use Rattle.chipdb_reader.specs.Feeding.{Intake}
use Rattle.chipdb_reader.proofs.Fed.{none-before}
use Rattle.chipdb_reader.proofs.reader.DbReader.feed.Goals as goal

pub feed-requires-clause-room : goal.feed-requires-clause-room
feed-requires-clause-room c = λ none.
    let fed : c.self.inside.fed ≡ c.args.self.now.fed = ap (λ (v : Intake). v.fed) c.self.view_is in
    omega (arith, c.self.invariant.within none, fed, c.requires)

pub invariant_of-self : goal.invariant_of-self
invariant_of-self c =
    let fed : c.self.inside.fed ≡ c.args.self.now.fed = ap (λ (v : Intake). v.fed) c.self.view_is in
    let told = c.feed.ensures in
    record {
      going = told.ready;
      within = λ none. omega (arith, told.bound none, c.self.invariant.within (none-before _ _ _ told.again told.kept none));
      limit = omega (arith, fed, c.requires);
    }

pub returns-clause-stands : goal.returns-clause-stands
returns-clause-stands c = rw (← c.self.view_is) (λ text stands. record {
  fed = omega (arith, stands.fed, length-append text c.args.piece.now);
  has = c.feed.ensures.stands tt text stands.has;
})
