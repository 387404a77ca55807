-- `split_pages::write::code_at` meets its contract, with delta, with zigzag and with neither. Assumes nothing.
use Rattle.std.proofs.Common.{◌∙◌}
use Rattle.split_pages.proofs.Codes.{delta_first, delta_later, zigzag_place, same_place}
use Rattle.split_pages.proofs.write.code_at.Goals as goal

pub returns-then-i-eq0 : goal.returns-then-i-eq0
returns-then-i-eq0 c = let a = c.args in
    c.difference.ensures ∙ delta_first a.zigzag a.width a.words.now a.delta a.i c.if-delta.true c.if-i-eq0.true c.requires.1

pub returns-then-delta : goal.returns-then-delta
returns-then-delta c = let a = c.args in
    c.difference-then-delta.ensures ∙ delta_later a.zigzag a.width a.words.now a.delta a.i c.if-delta.true c.if-i-eq0.false c.requires.1

pub returns-then-zigzag : goal.returns-then-zigzag
returns-then-zigzag c = let a = c.args in
    c.zigzag.ensures ∙ zigzag_place a.delta a.zigzag a.width a.words.now a.i c.if-delta.false c.if-zigzag.true c.requires.1

pub returns : goal.returns
returns c = let a = c.args in
    same_place a.delta a.zigzag a.width a.words.now a.i c.if-delta.false c.if-zigzag.false c.requires.1
