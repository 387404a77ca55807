use Rattle.page_figures.proofs.FigureLaws.{figures_short, figures_ready, figures_all}
use borrow.Author.Rules.{rules}
use Rattle.page_figures.proofs.write_figures.Goals as goal

pub sum_payload-requires : goal.sum_payload-requires
sum_payload-requires c = let a = c.args in figures_ready a.file a.rows.now a.n a.e.now a.judged c.requires a.figures.now c.if-n-figures.true c.up_to-s.ensures

pub returns-then-n-figures : goal.returns-then-n-figures
returns-then-n-figures c = let a = c.args in figures_all a.file a.rows.now a.n a.e.now a.judged c.requires a.figures.now c.if-n-figures.true c.up_to-s.ensures _ c.sum_payload.ensures

pub returns : goal.returns
returns c = let a = c.args in figures_short a.file a.rows.now a.n a.e.now a.judged c.requires a.figures.now c.if-n-figures.false
