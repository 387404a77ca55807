use Prim.Native.Nat.{◌^◌}
use mathlib.Core.Path.{refl}
use borrow.Author.Tests.{lt-ltb, le-ltb}
use Rattle.writing.specs.PageList.{page_word_piece, page_piece}
use Rattle.writing.proofs.Items.{first_alone, first_nonzero}
use native.Mathlib.Omega.{arith}
use Rattle.page_list_check.proofs.page.page_number.Goals as goal

pub returns-then-stored-ne0 : goal.returns-then-stored-ne0
unfolding page_piece page_word_piece
returns-then-stored-ne0 c = let p = c.args.page in rw (lt-ltb p.elements (2 ^ 30) (omega arith), lt-ltb p.bit 2 (omega arith), ← c.size_of-due.ensures, ← c.stored_as.ensures, ← c.narrow-stored.ensures) (first_nonzero _ _ c.if-stored-ne0.true)

pub returns-then-bit-lt2 : goal.returns-then-bit-lt2
unfolding page_piece page_word_piece
returns-then-bit-lt2 c = let p = c.args.page in rw (lt-ltb p.elements (2 ^ 30) (omega arith), lt-ltb p.bit 2 (omega arith), lt-ltb p.offset (2 ^ 64) (omega arith), first_alone, ← c.size_of-due.ensures, ← c.stored_as.ensures, ← c.narrow-stored.ensures, c.if-stored-ne0.false, ← c.trailer_size-behind.ensures) c.in_file.ensures

pub returns-then-elements-lt-BITS_30 : goal.returns-then-elements-lt-BITS_30
unfolding page_piece page_word_piece
returns-then-elements-lt-BITS_30 c = let p = c.args.page in rw (lt-ltb p.elements (2 ^ 30) (omega arith), le-ltb p.bit 2 (omega arith)) refl

pub returns : goal.returns
unfolding page_piece page_word_piece
returns c = let p = c.args.page in rw (le-ltb p.elements (2 ^ 30) (omega arith)) refl
