use Rattle.field_check.proofs.Lengths.{with_field_long}
use Rattle.field_check.proofs.long.with_field.Goals as goal

pub returns : goal.returns
returns c = λ strings n. with_field_long strings n c.args.row c.args.total _ _ _ _ _ _ c.numbers_long.ensures c.grown-numbers.ensures c.grown.ensures c.grown-named.ensures c.grown-2.ensures c.grown-3.ensures
