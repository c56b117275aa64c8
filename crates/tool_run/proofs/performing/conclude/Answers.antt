use Rattle.std.proofs.Common.{◌≡◌, ◌++◌, ◌∙◌, ℕ, List, codes, ap, subst, sym, refl, inl, inr, arith}
use Rattle.std.proofs.lemmas.List.{append-nil}
use Rattle.tool_run.specs.Counts.{counts}
use Rattle.tool_run.specs.Lines.{line_of, phrase_text, write_failed}
use Rattle.tool_run.specs.Needs.{text_of}
use Rattle.tool_run.specs.Effects.{Writes}
use Rattle.tool_run.proofs.Deliveries.{delivery_says}
use Rattle.tool_run.proofs.Loading.{failed-is}
use Rattle.tool_run.proofs.performing.conclude.Goals as goal

pub returns-in-Err-Failed : goal.returns-in-Err-Failed
returns-in-Err-Failed g c =
    let F = g.F.Files in
    let O = g.O.Sink in
    let e = c.in-Err-Failed.ensures in
    let at = c.in-Err-Failed.target in
    let new = c.deliver.new in
    let failed = failed-is {T = Unit {0}} c.in-Err-Failed.field-0 _ c.in-Err-Failed.field-0-is in
    let writes : List ℕ → Type 0 = λ said. Writes (line_of c.args.job.now.tool_name.now said) (g.E.Sink.held c.args.errors.now) (g.E.Sink.held c.write_named.new.errors) (g.E.Sink.faults c.args.errors.now) (g.E.Sink.faults c.write_named.new.errors) in
    let said = codes "write failed: " ++ c.target_name-name.result.now in
    let line : writes (write_failed (text_of at)) =
    subst writes (ap (λ phrase. said ++ phrase_text phrase) c.text.ensures ∙ append-nil said ∙ ap (λ name. codes "write failed: " ++ name) c.target_name-name.ensures) c.write_named.ensures in
    record {
      statuses = inr (inr (inr (inl refl)));
      whole = λ zero_is. absurd (omega arith);
      silent = λ zero_is. absurd (omega arith);
      refused = λ refusal. absurd (grind arith);
      part = λ four_is. rw c.in-Ok.is
          (delivery_says F.contents (counts F.store_faults F.stores) O.held O.faults c.args.files.now new.files c.args.output.now new.output (λ text. text ≡ write_failed (text_of at)) writes
          (text_of c.args.beside) (g.P.Product.beside c.in-Ok.product) (text_of c.args.job.now.target) (g.P.Product.bytes c.in-Ok.product)
          (λ text is. subst writes (sym is) line) (e.failed at failed));
      memory = λ five_is. absurd (omega arith);
      untouched = λ not_zero not_four. absurd (not_four refl);
      kept = λ not_zero not_four. absurd (not_four refl);
      unstored = λ not_zero not_four. absurd (not_four refl);
      aside = e.aside;
      unasked = e.same_files;
    }
