-- `split_pages::number::put_4` meets its contract: twice two bytes. Assumes nothing.
use Rattle.std.proofs.Common.{◌+◌, ◌/◌, sym, ap, ◌∙◌}
use Rattle.coding.specs.Strides.{puts}
use Rattle.coding.proofs.Puts.{puts_add}
use Rattle.split_pages.proofs.number.put_4.Goals as goal

pub returns : goal.returns
returns c = let a = c.args in
    c.put_2-2.ensures ∙ ap (puts 2 (a.x / 65536) (a.at + 2)) c.put_2.ensures
    ∙ sym (puts_add 2 2 a.x a.at a.out.now)
