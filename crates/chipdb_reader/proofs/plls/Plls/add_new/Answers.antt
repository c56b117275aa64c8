use Rattle.std.proofs.Common.{◌∷◌, ◌++◌, [], map, bytes_eq, refl, ap, ◌∙◌}
use Rattle.std.specs.List.{list_any}
use Rattle.std.proofs.lemmas.List.{map-append}
use Rattle.chipdb_reader.specs.Kept.{pll_line}
use Rattle.chipdb_reader.proofs.PllChanges.{named-more}
use Rattle.chipdb_reader.proofs.plls.Plls.add_new.Goals as goal

pub returns : goal.returns
returns c =
    let taken = c.requires in
    let copied = c.in_ok-name.ensures.items_if_clones_equal (λ x y same. same) in
    record {
      earlier = refl;
      last = refl;
      lines = rw taken (ap (map pll_line) c.in_ok-push.ensures.items ∙ map-append pll_line c.args.self.now.lines.items (c.in_ok-line.line ∷ [])
          ∙ ap (λ line. map pll_line c.args.self.now.lines.items ++ line ∷ []) c.in_ok-line.ensures);
      named = λ name. rw taken (ap (list_any (λ key. bytes_eq name key.items)) c.in_ok-insert.ensures.keys
          ∙ named-more c.args.self.now.names.keys c.in_ok-name.name c.args.item.name.now name copied);
    }
