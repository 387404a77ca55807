-- `same_answers` meets its contract: each arm is given which answers they are.
use Rattle.same_tables.proofs.same_answers.Goals as goal

pub returns-in-Ok-y : goal.returns-in-Ok-y
returns-in-Ok-y c = rw (c.in-Ok.is, c.in-Ok-y.is) c.same_read.ensures

pub returns-in-Err-y : goal.returns-in-Err-y
returns-in-Err-y c = rw (c.in-Ok.is, c.in-Err-y.is)
