use native.Mathlib.Omega.{arith}
use Rattle.answers.proofs.HandedLaws.{hands_nothing, tells}
use Rattle.figure_calls.proofs.Called.{count_words}
use Rattle.figure_calls.proofs.count_true.Goals as goal

pub returns-then-res-lt1 : goal.returns-then-res-lt1
returns-then-res-lt1 c = hands_nothing 1 _ _ c.args.res.now (omega arith)

pub returns : goal.returns
returns c = tells 1 (omega arith) (count_words c.count_true-answer.result) c.count_true-answer.ensures c.tell_count.ensures.answers c.tell_count.ensures.leaves
