use mathlib.Core.Path.{◌∙◌}
use Rattle.decimals.proofs.DecimalLaws.{fewest_decimal}
use Rattle.decimals.proofs.digits_of.Goals as goal

pub returns : goal.returns
returns c = record {
  is = c.decimal-len.ensures.digits ∙ fewest_decimal c.args.n c.decimal-len.result c.decimal-len.ensures.len;
  counts = c.decimal-len.ensures.in_bounds;
}
