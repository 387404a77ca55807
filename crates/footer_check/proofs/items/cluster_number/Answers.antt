use Prim.Native.Nat.{◌^◌}
use borrow.Author.Tests.{lt-ltb}
use Rattle.writing.specs.Footer.{cluster_piece}
use Rattle.writing.proofs.Items.{first_alone}
use native.Mathlib.Omega.{arith}
use Rattle.footer_check.proofs.items.cluster_number.Goals as goal

pub returns : goal.returns
unfolding cluster_piece
returns c = rw (lt-ltb c.args.row.first_entry (2 ^ 64) (omega arith), first_alone, ← c.unless_due-start.ensures, ← c.entry_count.ensures, ← c.narrow-entries.ensures, ← c.link_number-page_list.ensures, ← c.checksum_number-checksum.ensures, ← c.first.ensures, ← c.first-2.ensures) c.first-3.ensures
