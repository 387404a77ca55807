-- `page_rules::answer::is_readable` meets its contract, width by width. Assumes nothing.
use mathlib.Core.Path.{◌≡◌, refl, sym, ap, ◌∙◌}
use mathlib.Core.Bool.{true}
use Prim.Native.Nat.{ℕ}
use lib.Dec.{eqb}
use borrow.Author.Tests.{eq-eqb, ne_eqb}
use Rattle.page_rules.specs.Widths.{read_width}
use Rattle.page_rules.proofs.answer.is_readable.Goals as goal

-- where the width is one of those
one_of : (w k : ℕ) → w ≡ k → read_width k ≡ true → eqb w k ≡ read_width w
one_of w k e r = eq-eqb w k e ∙ sym (ap read_width e ∙ r)

pub returns-then-width-eq1 : goal.returns-then-width-eq1
returns-then-width-eq1 c = one_of c.args.width 1 c.if-width-eq1.true refl

pub returns-then-width-eq8 : goal.returns-then-width-eq8
returns-then-width-eq8 c = one_of c.args.width 8 c.if-width-eq8.true refl

pub returns-then-width-eq16 : goal.returns-then-width-eq16
returns-then-width-eq16 c = one_of c.args.width 16 c.if-width-eq16.true refl

pub returns-then-width-eq32 : goal.returns-then-width-eq32
returns-then-width-eq32 c = one_of c.args.width 32 c.if-width-eq32.true refl

pub returns-else-width-eq32 : goal.returns-else-width-eq32
returns-else-width-eq32 c = let w = c.args.width in
    simp (ne_eqb w 1 c.if-width-eq1.false, ne_eqb w 8 c.if-width-eq8.false, ne_eqb w 16 c.if-width-eq16.false, ne_eqb w 32 c.if-width-eq32.false)
