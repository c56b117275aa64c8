use Rattle.std.proofs.Common.{[], ◌∷◌, ◌++◌, map, ap, sym, ◌∙◌}
use Rattle.std.specs.Prelude.{codes}
use Rattle.std.proofs.lemmas.Result.{on_ok_weaker}
use Rattle.text_lines.specs.Written.{text_of}
use Rattle.asc_text.proofs.Pieces.{lines-joined, nothing-written, text_of-one}
use Rattle.chipdb_reader.specs.Kept.{database_in}
use Rattle.image_explain.specs.Explained.{extra_text}
use Rattle.image_explain.specs.Inside.{lists_of}
use Rattle.image_diff.specs.Differences.{extra_changes, minus, plus}
use Rattle.image_diff.proofs.Written.{none-changed, some-changed}
use Rattle.image_diff.proofs.extras.append_places.Goals as goal

pub returns-then-are_none : goal.returns-then-are_none
returns-then-are_none c =
    let extras = (database_in c.args.db.now).extras in
    nothing-written c.args.text.now.items (extra_changes extras c.args.first.now c.args.second.now) (none-changed extras c.args.first.now c.args.second.now (sym c.are_none.ensures ∙ c.if-are_none.true))

pub returns : goal.returns
returns c =
    let extras = (database_in c.args.db.now).extras in
    let old = c.args.text.now.items in
    let firsts = map (extra_text extras) c.args.first.now in
    let seconds = map (extra_text extras) c.args.second.now in
    let statement = c.extend_from_slice.new.self.items in
    let marked = c.append_each.new.text.items in
    let one = c.in_ok-extend_from_slice.ensures.items ∙ ap (λ text. old ++ text) (sym (text_of-one (codes ".extra_bits"))) in
    let two = c.in_ok-append_each.ensures ∙ ap (λ lines. statement ++ text_of (map minus lines)) (ap (λ lines. lists_of lines) c.deref.ensures.value ∙ c.in_ok-first.ensures) in
    on_ok_weaker c.append_each-2.result (λ written.
    lines-joined old marked c.append_each-2.new.text.items (codes ".extra_bits" ∷ map minus firsts) (map plus seconds)
    (lines-joined old statement marked (codes ".extra_bits" ∷ []) (map minus firsts) one two)
    (written ∙ ap (λ lines. marked ++ text_of (map plus lines)) (ap (λ lines. lists_of lines) c.deref-2.ensures.value ∙ c.in_ok-second.ensures))
    ∙ ap (λ lines. old ++ text_of lines) (sym (some-changed extras c.args.first.now c.args.second.now (sym c.are_none.ensures ∙ c.if-are_none.false)))) c.append_each-2.ensures
