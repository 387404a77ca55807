-- What a report answers: how many lists it took and refused so far, or a refusal with the same.
use Rattle.std.specs.Prelude.{Result}
use Rattle.figure_rules.specs.declared.ListCounts.{ListCounts}
use Rattle.figure_rules.specs.declared.RefusedReport.{RefusedReport}

abbrev pub ReportAnswer : Type 0
ReportAnswer = Result ListCounts RefusedReport
