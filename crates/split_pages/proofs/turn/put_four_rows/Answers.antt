-- `split_pages::turn::put_four_rows` meets its contract. Assumes nothing.
use Rattle.std.proofs.Common.{◌+◌, ◌*◌, ap, ◌∙◌}
use Rattle.split_pages.specs.Turn.{two_rows, four_rows}
use Rattle.split_pages.proofs.turn.put_four_rows.Goals as goal

pub returns : goal.returns
unfolding four_rows
returns c = let a = c.args in
    c.put_two_rows-2.ensures
    ∙ ap (two_rows a.a a.b a.c a.d a.e a.f a.g a.i a.h 65536 (a.at + 2 * a.n) a.n) c.put_two_rows.ensures
