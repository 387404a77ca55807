-- `split_pages::number::put_2` meets its contract: twice one byte. Assumes nothing.
use Rattle.std.proofs.Common.{◌+◌, ◌/◌, sym, ap, ◌∙◌}
use Rattle.coding.specs.Strides.{puts}
use Rattle.coding.proofs.Puts.{puts_add}
use Rattle.split_pages.proofs.number.put_2.Goals as goal

pub returns : goal.returns
returns c = let a = c.args in
    c.put_1-2.ensures ∙ ap (puts 1 (a.x / 256) (a.at + 1)) c.put_1.ensures
    ∙ sym (puts_add 1 1 a.x a.at a.out.now)
