-- `split_pages::number::put_8` meets its contract: twice four bytes. Assumes nothing.
use Rattle.std.proofs.Common.{◌+◌, ◌/◌, sym, ap, ◌∙◌}
use Rattle.coding.specs.Strides.{puts}
use Rattle.coding.proofs.Puts.{puts_add}
use Rattle.split_pages.proofs.number.put_8.Goals as goal

pub returns : goal.returns
returns c = let a = c.args in
    c.put_4-2.ensures ∙ ap (puts 4 (a.x / 4294967296) (a.at + 4)) c.put_4.ensures
    ∙ sym (puts_add 4 4 a.x a.at a.out.now)
