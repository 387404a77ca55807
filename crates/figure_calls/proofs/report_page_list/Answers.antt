use native.Mathlib.Omega.{arith}
use Rattle.figure_calls.proofs.Called.{report_short, report_called}
use Rattle.figure_calls.proofs.report_page_list.Goals as goal

pub returns-then-res-lt2 : goal.returns-then-res-lt2
returns-then-res-lt2 c = report_short _ _ _ _ _ (omega arith)

pub returns : goal.returns
returns c = report_called _ _ _ c.report_page_list-answer.result (omega arith) c.report_page_list-answer.ensures.answers c.report_page_list-answer.ensures.leaves c.tell_report.ensures.answers c.tell_report.ensures.leaves
