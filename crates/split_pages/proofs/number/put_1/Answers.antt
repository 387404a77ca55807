-- `split_pages::number::put_1` meets its contract: by definition. Assumes nothing.
use Rattle.std.proofs.Common.{refl}
use Rattle.coding.specs.Strides.{puts}
use Rattle.split_pages.proofs.number.put_1.Goals as goal

pub returns : goal.returns
unfolding puts
returns c = refl
