use Rattle.std.proofs.Common.{sym, ap, ◌∙◌, arith}
use Rattle.ice_image.specs.Either.{configuration_of}
use Rattle.fabric_model.proofs.Setting.{links_on-none, line-fits, lines-more_on, lines-more_off}
use Rattle.fabric_model.proofs.on.all_on.Goals as goal
use Rattle.fabric_model.proofs.on.all_on.Goals.{then-is_link_on+in_ok-place+in_ok-push, else-is_link_on}

pub loop-i-init : goal.loop-i-init
loop-i-init c = c.new-on.ensures.items ∙ sym (links_on-none (configuration_of c.args.image.now))

pub is_link_on-requires-clause-fit : goal.is_link_on-requires-clause-fit
is_link_on-requires-clause-fit c = line-fits c.args.db.now.chip c.args.db.now.bits c.args.links.now c.loop-i.i _ (omega arith) c.requires.fit

pub loop-i-preserved : goal.loop-i-preserved
loop-i-preserved c =
    let image = configuration_of c.args.image.now in
    let table = c.args.db.now.bits in
    let lines = c.args.links.now in
    let i = c.loop-i.i in
    elim c.if-is_link_on.branch [
      | then-is_link_on+in_ok-place+in_ok-push w ↦
          ap (λ on. on.items) w.on-is
          ∙ lines-more_on image table lines i w.in_ok-place.place _ c.loop-i.on.items w.push.new.self.items c.loop-i-test.true (sym c.is_link_on.ensures ∙ w.if-is_link_on.true)
          w.in_ok-place.ensures c.loop-i.invariant w.in_ok-push.ensures.items
      | else-is_link_on w ↦
          ap (λ on. on.items) w.on-is
          ∙ lines-more_off image table lines i _ c.loop-i.on.items c.loop-i-test.true (sym c.is_link_on.ensures ∙ w.if-is_link_on.false) c.loop-i.invariant
    ]
