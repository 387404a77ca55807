use native.Mathlib.Omega.{arith}
use Rattle.clusters.specs.Answers.{cluster_at}
use borrow.Author.Rules.{rules}
use Rattle.footer.proofs.fill.cluster_at.Goals as goal

pub overflow_add-at : goal.overflow_add-at
overflow_add-at c = omega (arith, c.requires)

pub overflow_add-at-2 : goal.overflow_add-at-2
overflow_add-at-2 c = omega (arith, c.requires)

pub overflow_add-at-3 : goal.overflow_add-at-3
overflow_add-at-3 c = omega (arith, c.requires)

pub overflow_add-at-4 : goal.overflow_add-at-4
overflow_add-at-4 c = omega (arith, c.requires)

pub returns : goal.returns
unfolding cluster_at
returns c = λ i. record { first_entry = c.little_8-2.ensures.is i; entries = c.little_8-3.ensures.is i; page_list = record { size = c.little_4.ensures.0.is i; offset = c.little_8.ensures.is i }; checksum = c.checksum_at.ensures i }
