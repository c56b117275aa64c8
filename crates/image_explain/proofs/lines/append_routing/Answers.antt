use Rattle.std.proofs.Common.{◌≡◌, ◌++◌, Some, ap, sym, ◌∙◌}
use Rattle.std.specs.Prelude.{codes, slice_get}
use Rattle.std.proofs.lemmas.Result.{on_ok_weaker}
use Rattle.chipdb_reader.specs.Kept.{database_in, link_line as kept_link}
use Rattle.image_explain.specs.Explained.{link_line, net_text}
use Rattle.image_explain.proofs.Gathered.{line-found}
use Rattle.image_explain.proofs.Texts.{nets-written}
use Rattle.image_explain.proofs.lines.append_routing.Goals as goal

pub returns-in-Some : goal.returns-in-Some
returns-in-Some c =
    let names = (database_in c.args.db.now).names in
    let found : slice_get c.args.db.now.routings c.args.place ≡ Some c.in-Some.link = cc (c.in-Some.ensures, c.routings.ensures.routings) in
    on_ok_weaker c.append_nets.result (λ written.
    nets-written c.args.text.now.items c.extend_from_slice.new.self.items c.append_nets.new.text.items (codes "routing") (net_text names c.args.at.x c.args.at.y c.in-Some.link.src) (net_text names c.args.at.x c.args.at.y c.in-Some.link.dst) c.in_ok-extend_from_slice.ensures.items written
    ∙ ap (λ link. c.args.text.now.items ++ link_line names (codes "routing") c.args.at.x c.args.at.y link) (sym (line-found (kept_link c.args.db.now.bits) c.args.db.now.routings c.args.place c.in-Some.link found))) c.append_nets.ensures
