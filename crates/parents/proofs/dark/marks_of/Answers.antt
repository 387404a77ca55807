use mathlib.Core.Path.{◌≡◌, sym, ap, subst, ◌∙◌}
use native.Mathlib.Omega.{arith}
use Rattle.rows.specs.Words.{most_fields}
use Rattle.rows.specs.Tables.{first_rows}
use Rattle.rows.specs.declared.ColumnRow.{ColumnRow}
use Rattle.parents.specs.Marks.{Darkened}
use Rattle.parents.specs.Dark.{dark, hanging, unknown_on}
use Rattle.parents.proofs.Darkening.{none_marked, none_dark}
use Rattle.parents.proofs.DarkLaws.{owner_below, marks_kept, marks_added}
use Rattle.parents.proofs.dark.marks_of.Goals as goal
use Rattle.parents.proofs.dark.marks_of.Goals.{then-unknown_on, else-unknown_on}

pub loop-i-init : goal.loop-i-init
unfolding first_rows dark hanging
loop-i-init c = (none_marked most_fields, none_dark _ _ most_fields c.requires.n_le_most_fields.0)

pub darken-requires : goal.darken-requires
darken-requires c = let p = c.requires in
    let own = owner_below c.args.n c.column_row-column.result (sym c.unknown_on.ensures ∙ c.if-unknown_on.true) in
    record { n_le_most_fields = (p.n_le_most_fields.0, own, p.n_le_most_fields.1); inside = p.inside; dark_marks = c.loop-i.invariant.1 }

pub loop-i-preserved : goal.loop-i-preserved
loop-i-preserved c = let s = c.args in
    let i = c.loop-i in
    let long = c.requires.n_le_most_fields.1 in
    let row = c.column_row-column.ensures in
    let u = c.unknown_on.ensures ∙ ap (unknown_on s.n) row in (
      elim c.if-unknown_on.branch [
        | then-unknown_on w ↦ marks_added s.parents.now s.n c.requires.inside long _ i.i i.marks c.if-unknown_on.marks i.invariant.0 (sym u ∙ w.if-unknown_on.true)
            (subst (λ (x : ColumnRow). Darkened s.parents.now i.marks c.if-unknown_on.marks s.n x.field.0) row (rw w.marks-is w.darken.ensures))
        | else-unknown_on w ↦ marks_kept s.parents.now s.n c.requires.inside long _ i.i i.marks c.if-unknown_on.marks i.invariant.0 (sym u ∙ w.if-unknown_on.false) w.marks-is
      ],
      elim c.if-unknown_on.branch [ then-unknown_on w ↦ rw w.marks-is w.darken.ensures.still | else-unknown_on w ↦ rw w.marks-is i.invariant.1 ],
    )

pub returns : goal.returns
returns c = let i = c.loop-i in
    let e : i.i ≡ c.args.count = omega arith in
    rw e at i.invariant.0
