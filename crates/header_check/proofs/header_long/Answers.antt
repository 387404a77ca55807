use Rattle.header_check.proofs.Whole.{header_long_is}
use Rattle.header_check.proofs.header_long.Goals as goal

pub returns : goal.returns
returns c = λ strings. let a = c.args in
    header_long_is strings a.texts a.fields.now a.columns.now a.aliases.now _ _ _ _ _ _ (c.fields_long.ensures strings _) c.grown-with_heads.ensures c.grown-named.ensures c.grown-described.ensures c.with_rows-with_columns.ensures c.with_rows.ensures
