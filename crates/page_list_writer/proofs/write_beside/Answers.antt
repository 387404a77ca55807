use Rattle.page_list_writer.proofs.Whole.{list_long, list_refused_lem, list_roomless, list_written}
use Rattle.page_list_writer.proofs.write_beside.Goals as goal

pub returns-then-long-gt-CEILING : goal.returns-then-long-gt-CEILING
returns-then-long-gt-CEILING c = let a = c.args in λ h o. list_long a.entries a.file a.parents.now a.flags.now a.columns.now a.pages.now a.out.now a.n h o c.page_list_long-long.ensures c.if-long-gt-CEILING.true

pub returns-then-number-ne0 : goal.returns-then-number-ne0
returns-then-number-ne0 c = let a = c.args in λ h o. list_refused_lem a.entries a.file a.parents.now a.flags.now a.columns.now a.pages.now a.out.now a.n h o c.page_list_long-long.ensures c.if-long-gt-CEILING.false c.page_list_number-number.ensures c.if-number-ne0.true

pub returns-then-out-long : goal.returns-then-out-long
returns-then-out-long c = let a = c.args in λ h o. list_roomless a.entries a.file a.parents.now a.flags.now a.columns.now a.pages.now a.out.now a.n h o c.page_list_long-long.ensures c.if-long-gt-CEILING.false c.page_list_number-number.ensures c.if-number-ne0.false c.if-out-long.true

pub returns : goal.returns
returns c = let a = c.args in λ h o. list_written a.entries a.file a.parents.now a.flags.now a.columns.now a.pages.now a.out.now a.n h o c.page_list_long-long.ensures c.if-long-gt-CEILING.false c.page_list_number-number.ensures c.if-number-ne0.false c.if-out-long.false c.write_envelope.ensures
