use mathlib.Core.Path.{sym, ap, ◌∙◌}
use Rattle.wire.proofs.Laws.{mapped_refused}
use Rattle.header_payload.specs.Answers.{scan_of}
use Rattle.moves.proofs.Laws.{answer_refused, parents_long, scan_counted}
use borrow.Author.Rules.{rules}
use Rattle.moves.proofs.parent_moves.Goals as goal
use Rattle.wire.specs.Answers.{as_step}

pub returns-in-Ok : goal.returns-in-Ok
returns-in-Ok c = scan_counted c.args.envelope.now (sym (ap as_step c.in-Ok.is) ∙ c.scan_header.ensures.result_value) c.scan_header.ensures.settled c.total_moves-total.ensures

pub returns-in-Err : goal.returns-in-Err
returns-in-Err c = answer_refused (mapped_refused scan_of _ (sym (ap as_step c.in-Err.is) ∙ c.scan_header.ensures.result_value))
