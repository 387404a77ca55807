use mathlib.Core.Path.{◌≡◌}
use lib.ListN.{length}
use native.Mathlib.Omega.{arith}
use Rattle.stores.proofs.Storing.{stored_front}
use borrow.Author.Rules.{rules}
use Rattle.list_report.proofs.put_line.Goals as goal

pub returns : goal.returns
returns c = let long : length c.args.line.bytes ≡ 128 = search rules in
    let front = stored_front c.store_bytes.ensures (omega (arith, c.requires, c.well_formed)) in record { many = front.1; stands = front.0 }
