use mathlib.Core.Path.{refl, sym, ap, ◌∙◌}
use native.Mathlib.Omega.{arith}
use Rattle.std.specs.Prelude.{ℕ, ◌≡◌, Option, Some, None}
use Rattle.std.specs.Option.{is_some}
use Rattle.utf8.specs.Walking.{sound}
use Rattle.utf8.proofs.BlockLaws.{Left, left_start, left_blocks, left_ill}
use Rattle.utf8.proofs.well_formed.Goals as goal

pub returns-in_default : goal.returns-in_default
returns-in_default c = sym (left_ill _ 32 _ 0 (left_start _) c.blocks-2.ensures c.in_default.is)

pub blocks-requires-2 : goal.blocks-requires-2
blocks-requires-2 c = let large-left : Left c.args.s.now c.in-Some.large = left_blocks _ 32 _ 0 (left_start _) c.blocks-2.ensures c.in-Some.is in
    ((large-left).1, omega arith)

pub returns-in_default-blocks : goal.returns-in_default-blocks
returns-in_default-blocks c = let large-left : Left c.args.s.now c.in-Some.large = left_blocks _ 32 _ 0 (left_start _) c.blocks-2.ensures c.in-Some.is in
    sym (left_ill _ 8 _ _ (large-left) c.blocks-3.ensures c.in_default-blocks.is)

pub walk-requires : goal.walk-requires
walk-requires c = let large-left : Left c.args.s.now c.in-Some.large = left_blocks _ 32 _ 0 (left_start _) c.blocks-2.ensures c.in-Some.is in
    let small-left : Left c.args.s.now c.in-Some-blocks.small = left_blocks _ 8 _ _ (large-left) c.blocks-3.ensures c.in-Some-blocks.is in
    ((small-left).1, omega (arith, (small-left).1))

sound_is : (r : Option ℕ) → is_some r ≡ sound r
sound_is None = refl
sound_is (Some p) = refl

pub returns : goal.returns
returns c = let large-left : Left c.args.s.now c.in-Some.large = left_blocks _ 32 _ 0 (left_start _) c.blocks-2.ensures c.in-Some.is in
    let small-left : Left c.args.s.now c.in-Some-blocks.small = left_blocks _ 8 _ _ (large-left) c.blocks-3.ensures c.in-Some-blocks.is in
    sym ((small-left).0 ∙ ap sound (sym c.walk.ensures) ∙ sym (c.is_some.ensures ∙ sound_is c.walk.result))
