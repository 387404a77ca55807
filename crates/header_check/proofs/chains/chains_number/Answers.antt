use mathlib.Core.Path.{sym, ◌∙◌}
use Rattle.header_check.proofs.Parents.{chains_end, chain_endless}
use Rattle.header_check.proofs.chains.chains_number.Goals as goal

pub all_parents-requires : goal.all_parents-requires
all_parents-requires c = c.requires

pub returns-in-None : goal.returns-in-None
returns-in-None c = chains_end c.args.fields.now c.requires _ c.all_parents.ensures (sym c.endless_chain.ensures ∙ c.in-None.is)

pub returns-in-Some : goal.returns-in-Some
returns-in-Some c = chain_endless c.args.fields.now c.requires _ c.all_parents.ensures _ (sym c.endless_chain.ensures ∙ c.in-Some.is)
