use Rattle.std.proofs.Common.{ℕ, List, refl, subst, sym, inl, inr, arith}
use Rattle.tool_run.specs.Lines.{line_of, out_of_memory}
use Rattle.tool_run.specs.Effects.{Writes}
use Rattle.tool_run.proofs.performing.give_up.Goals as goal

pub returns-clause-does : goal.returns-clause-does
returns-clause-does g c = λ task speaks.
    let writes : List ℕ → Type 0 = λ name. Writes (line_of name out_of_memory) (g.E.Sink.held c.args.errors.now) (g.E.Sink.held c.write_out_of_memory.new.errors) (g.E.Sink.faults c.args.errors.now) (g.E.Sink.faults c.write_out_of_memory.new.errors) in
    record {
      statuses = omega arith;
      whole = λ zero_is. absurd (omega arith);
      end = λ zero_is. absurd (omega arith);
      silent = λ zero_is. absurd (omega arith);
      refusal = λ one_is. absurd (omega arith);
      usage = λ two_is. absurd (omega arith);
      longer = λ six_is. absurd (omega arith);
      refused = λ refusal. absurd (grind arith);
      read = λ three_is. absurd (omega arith);
      steady = λ three_is. absurd (omega arith);
      part = λ four_is. absurd (omega arith);
      memory = λ five_is. subst writes (sym speaks) c.write_out_of_memory.ensures;
      exact = λ known text tells. inr (inl refl);
      untouched = λ not_zero not_four. refl;
      kept = λ not_zero not_four. refl;
      unstored = λ why. refl;
      aside = λ no_stream. refl;
      unread = λ none. refl;
      unreached = λ known text tells none. refl;
      unasked = λ no_need no_file. refl;
    }
