use Rattle.std.proofs.Common.{List, ◌≤◌, ◌||◌, map, sym, ap, ap₂, ◌∙◌, subst}
use Rattle.std.specs.List.{list_any}
use Rattle.ice_image.specs.Either.{configuration_of}
use Rattle.chipdb_reader.specs.declared.items.LinkLine.{LinkLine}
use Rattle.chipdb_reader.specs.Kept.{database_in, link_lines}
use Rattle.fabric_model.specs.Joins.{class_of}
use Rattle.fabric_model.specs.Found.{links_on, ends_of, comes_from, touches}
use Rattle.fabric_model.proofs.Ending.{below-at, are-links}
use Rattle.fabric_model.proofs.Within.{nets-more}
use Rattle.fabric_model.proofs.found_links.found.Goals as goal

pub classes-requires : goal.classes-requires
classes-requires c =
    let image = configuration_of c.args.image.now in
    let db = database_in c.args.db.now in
    let kept = λ (lines : List LinkLine). links_on image (link_lines c.args.db.now.bits lines) in
    below-at c.in_ok-nets.nets db.chip image db.routings c.deref.result.now (subst (λ n. db.chip.nets ≤ n) (sym c.in_ok-nets.ensures) (nets-more db image c.args.all_pins))
    (c.deref.ensures.value ∙ c.in_ok-routings.ensures ∙ ap kept c.routings.ensures.routings) c.routings.ensures.fit.routings

pub reads-requires-clause-buffers : goal.reads-requires-clause-buffers
reads-requires-clause-buffers c =
    let image = configuration_of c.args.image.now in
    let db = database_in c.args.db.now in
    let kept = λ (lines : List LinkLine). links_on image (link_lines c.args.db.now.bits lines) in
    below-at c.in_ok-nets.nets db.chip image db.buffers c.deref-2.result.now (subst (λ n. db.chip.nets ≤ n) (sym c.in_ok-nets.ensures) (nets-more db image c.args.all_pins))
    (c.deref-2.ensures.value ∙ c.in_ok-buffers.ensures ∙ ap kept c.buffers.ensures.buffers) c.routings.ensures.fit.buffers

pub reads-requires-clause-routings : goal.reads-requires-clause-routings
reads-requires-clause-routings c =
    let image = configuration_of c.args.image.now in
    let db = database_in c.args.db.now in
    let kept = λ (lines : List LinkLine). links_on image (link_lines c.args.db.now.bits lines) in
    below-at c.in_ok-nets.nets db.chip image db.routings c.deref-3.result.now (subst (λ n. db.chip.nets ≤ n) (sym c.in_ok-nets.ensures) (nets-more db image c.args.all_pins))
    (c.deref-3.ensures.value ∙ c.in_ok-routings.ensures ∙ ap kept c.routings.ensures.routings) c.routings.ensures.fit.routings

pub returns-clause-links : goal.returns-clause-links
returns-clause-links c =
    let image = configuration_of c.args.image.now in
    let db = database_in c.args.db.now in
    let kept = λ (lines : List LinkLine). links_on image (link_lines c.args.db.now.bits lines) in
    let nets = c.in_ok-nets.nets in
    are-links nets db image c.in_ok-buffers.buffers.items c.in_ok-routings.routings.items _ (subst (λ n. db.chip.nets ≤ n) (sym c.in_ok-nets.ensures) (nets-more db image c.args.all_pins)) c.routings.ensures.fit
    (c.in_ok-buffers.ensures ∙ ap kept c.buffers.ensures.buffers) (c.in_ok-routings.ensures ∙ ap kept c.routings.ensures.routings)
    (c.in_ok-places.ensures ∙ ap (map (λ link. link.place)) c.deref-4.ensures.value)
    (c.in_ok-places-2.ensures ∙ ap (map (λ link. link.place)) c.deref-5.ensures.value)
    c.in_ok-classes.ensures.length
    (λ net within.
    c.in_ok-classes.ensures.classes net within ∙ ap (λ links. class_of (ends_of links) net) c.deref.ensures.value)
    (λ net. c.in_ok-reads.ensures.reads net ∙ ap₂ (λ a b. list_any (comes_from net) a || list_any (touches net) b) c.deref-2.ensures.value c.deref-3.ensures.value)
