use Prim.Native.Nat.{◌^◌}
use borrow.Author.Tests.{lt-ltb}
use Rattle.writing.specs.Footer.{link_piece}
use Rattle.writing.proofs.Items.{first_alone}
use native.Mathlib.Omega.{arith}
use Rattle.footer_check.proofs.items.link_number.Goals as goal

pub returns : goal.returns
unfolding link_piece
returns c = rw (lt-ltb c.args.link.offset (2 ^ 64) (omega arith), first_alone, ← c.narrow-uncompressed.ensures, ← c.stored_as.ensures, ← c.narrow-stored.ensures, ← c.in_file-place.ensures, ← c.first.ensures) c.first-2.ensures
