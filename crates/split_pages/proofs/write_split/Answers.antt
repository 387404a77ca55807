-- `split_pages::write_split` meets its contract: a page of fewer than eight elements, one of more, no room, and no width of split pages. Assumes nothing.
use Rattle.std.proofs.Common.{sym, ◌∙◌}
use Rattle.split_pages.proofs.Codes.{into_room, into_no_room, into_no_split}
use Rattle.split_pages.proofs.write_split.Goals as goal

pub returns-then-n-lt8 : goal.returns-then-n-lt8
returns-then-n-lt8 c = let a = c.args in
    c.write_few.ensures ∙ sym (into_room a.delta a.zigzag a.width a.words.now a.out.now (sym c.is_split.ensures ∙ c.if-is_split.true) c.if-n-width.true)

pub returns-else-n-lt8 : goal.returns-else-n-lt8
returns-else-n-lt8 c = let a = c.args in
    c.write_many.ensures ∙ sym (into_room a.delta a.zigzag a.width a.words.now a.out.now (sym c.is_split.ensures ∙ c.if-is_split.true) c.if-n-width.true)

pub returns-else-n-width : goal.returns-else-n-width
returns-else-n-width c = let a = c.args in
    into_no_room a.delta a.zigzag a.width a.words.now a.out.now (sym c.is_split.ensures ∙ c.if-is_split.true) c.if-n-width.false

pub returns-else-is_split : goal.returns-else-is_split
returns-else-is_split c = let a = c.args in
    into_no_split a.delta a.zigzag a.width a.words.now a.out.now (sym c.is_split.ensures ∙ c.if-is_split.false)
