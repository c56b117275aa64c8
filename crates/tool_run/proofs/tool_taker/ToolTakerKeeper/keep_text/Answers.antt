use Rattle.std.proofs.Common.{[], ◌∷◌, ◌++◌, ◌∙◌, ap, subst, sym}
use Rattle.tool_run.specs.Intakes.{TakesOrStops}
use Rattle.tool_run.proofs.tool_taker.ToolTakerKeeper.keep_text.Goals as goal

pub returns-in-Ok-clause-text : goal.returns-in-Ok-clause-text
returns-in-Ok-clause-text g c =
    let T = g.T.PieceTool in
    let t = c.in-Ok.ensures.text in (
      t.0,
      t.1,
      λ setting before kept.
          let taken = t.2 (setting.0, setting.1, before) [] kept in
          let after = subst (λ tool. TakesOrStops (T.takes tool setting.1 before) (T.answer_of tool setting.1) c.feed_one.new.taker.intake t.0) (sym taken.0) taken.1 in (
            ap (λ tool. tool.now) c.close.ensures.same_tool ∙ taken.0,
            subst (λ tool. TakesOrStops (T.takes tool setting.1 (before ++ t.0 ∷ [])) (T.answer_of tool setting.1) c.close.new.self.intake []) taken.0 (c.close.ensures.closed setting.1 before t.0 after),
          ),
    )
