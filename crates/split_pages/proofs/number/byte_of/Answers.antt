-- `split_pages::number::byte_of` meets its contract. Assumes nothing.
use Rattle.planes.proofs.Words.{bytes_power}
use Rattle.std.proofs.Common.{ℕ, ◌/◌, ◌%◌, sym, ap}
use Rattle.split_pages.proofs.number.byte_of.Goals as goal

pub returns : goal.returns
returns c = ap (λ (d : ℕ). c.args.x / d % 256) (sym (bytes_power c.args.j))
