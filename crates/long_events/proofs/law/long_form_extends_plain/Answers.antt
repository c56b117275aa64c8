use Rattle.long_events.proofs.PlainLists.{extends-plain}
use Rattle.long_events.proofs.law.long_form_extends_plain.Goals as goal

pub returns : goal.returns
returns c ports bytes = extends-plain ports bytes
