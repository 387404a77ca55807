use Prim.Native.Nat.{◌+◌}
use mathlib.Core.Path.{sym}
use native.Mathlib.Omega.{arith}
use borrow.Author.Tests.{le-ltb}
use Rattle.page_list_report.proofs.ReportLaws.{below_rest}
use Rattle.page_list_report.proofs.takes_more.Goals as goal

pub returns-then-counts-lt-MOST_LISTS : goal.returns-then-counts-lt-MOST_LISTS
returns-then-counts-lt-MOST_LISTS c = let a = c.args.counts in below_rest a.accepted a.refused 1024 (omega arith)

pub returns : goal.returns
returns c = let a = c.args.counts in sym (le-ltb (a.accepted + a.refused) 1024 (omega arith))
