-- `same_page_counts` meets its contract: each arm is given which answers they are.
use Rattle.same_tables.proofs.same_page_counts.Goals as goal

pub returns-in-Ok-y : goal.returns-in-Ok-y
returns-in-Ok-y c = simp (c.in-Ok.is, c.in-Ok-y.is)
