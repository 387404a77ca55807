use Prim.Native.Nat.{◌^◌}
use native.Mathlib.Omega.{arith}
use borrow.Author.Tests.{lt-ltb, le-ltb}
use Rattle.frames.specs.Frames.{frame_size}
use Rattle.frames.proofs.SizeWord.{kept, negative_non_neg, negative_word, positive_word, positive_below, negative_size}
use borrow.Author.Rules.{rules}
use Rattle.frames.proofs.frame.frame_size.Goals as goal

pub returns-then-size-lt0 : goal.returns-then-size-lt0
unfolding frame_size
returns-then-size-lt0 c = let h = negative_word c.args.word c.signed-size.ensures c.requires c.if-size-lt0.true in
    rw (c.magnitude.ensures, kept c.args.word c.signed-size.ensures c.requires, negative_size c.args.word h c.requires) (simp (le-ltb c.args.word (2 ^ 31) h))

pub returns-else-size-lt0 : goal.returns-else-size-lt0
unfolding frame_size
returns-else-size-lt0 c = simp (positive_word c.args.word c.signed-size.ensures c.requires c.if-size-lt0.false, lt-ltb c.args.word (2 ^ 31) (positive_below c.args.word c.signed-size.ensures c.requires c.if-size-lt0.false))
