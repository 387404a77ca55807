use Prim.Native.Nat.{◌*◌}
use Rattle.verdicts.proofs.Capped.{grown_twice}
use Rattle.page_list_check.proofs.page_list_long.Goals as goal

pub returns : goal.returns
returns c = grown_twice 16 (c.args.columns * 8) (c.args.rows * 16) _ _ c.with_rows.ensures c.with_rows-2.ensures
