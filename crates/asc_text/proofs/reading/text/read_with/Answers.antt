use Rattle.std.proofs.Common.{sym, ◌∙◌}
use Rattle.asc_text.proofs.Symbols.{symbols-are}
use Rattle.asc_text.proofs.reading.text.read_with.Goals as goal

pub returns-clause-means : goal.returns-clause-means
returns-clause-means c =
    let means = c.in_ok-image.ensures.means in
    record {
      accepted = means.accepted;
      configures = means.configures;
      names = symbols-are c.args.layouts c.args.bytes.now means.accepted ∙ sym c.in_ok-symbols.ensures;
    }
