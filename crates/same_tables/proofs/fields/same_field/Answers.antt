-- `same_field` meets its contract: the rows that were read are those of the tables.
use mathlib.Core.Path.{refl}
use Rattle.same_tables.proofs.Numbers.{field_is}
use Rattle.same_tables.proofs.fields.same_field.Goals as goal

pub returns-then-same_strings : goal.returns-then-same_strings
returns-then-same_strings c = field_is _ _ _ _ _ c.field_row-a.ensures c.field_row-b.ensures c.dark_mark.ensures c.dark_mark-then-same_strings.ensures (rw (← c.same_heads.ensures, c.if-same_heads.true, ← c.same_strings.ensures, c.if-same_strings.true))

pub returns-else-same_strings : goal.returns-else-same_strings
returns-else-same_strings c = field_is _ _ _ _ _ c.field_row-a.ensures c.field_row-b.ensures refl refl (rw (← c.same_heads.ensures, c.if-same_heads.true, ← c.same_strings.ensures, c.if-same_strings.false))

pub returns-else-same_heads : goal.returns-else-same_heads
returns-else-same_heads c = field_is _ _ _ _ _ c.field_row-a.ensures c.field_row-b.ensures refl refl (rw (← c.same_heads.ensures, c.if-same_heads.false))
