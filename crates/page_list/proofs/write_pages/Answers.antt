use mathlib.Core.Path.{ap, ◌∙◌}
use mathlib.Core.List.{List}
use Prim.Native.Nat.{ℕ}
use Rattle.numbers.specs.Rows.{over}
use Rattle.wire.specs.Reading.{rows_of}
use Rattle.column_pages.specs.ColumnPages.{payload}
use Rattle.column_pages.specs.Answers.{bits_in}
use Rattle.page_list.specs.Tables.{page_table}
use Rattle.page_list.proofs.AnswerLaws.{fill_ready, read_short, read_all}
use borrow.Author.Rules.{rules}
use Rattle.page_list.proofs.write_pages.Goals as goal

pub fill_payload-requires : goal.fill_payload-requires
fill_payload-requires c = let a = c.args in let both = fill_ready a.file _ a.e.now _ a.judged c.up_to-s.ensures c.requires.0 c.requires.1 c.if-judged-pages.true in
    record { s_value = both.0; s_in_bounds = both.1 }

pub returns-then-judged-pages : goal.returns-then-judged-pages
returns-then-judged-pages c = let a = c.args in
    read_all _ a.pages.now _ c.requires.1 c.if-judged-pages.true
    (c.fill_payload.ensures ∙ ap (λ (s : List ℕ). over (page_table (rows_of (payload a.file (bits_in a.rows.now a.n) a.judged.strict s 4))) a.pages.now) c.up_to-s.ensures)

pub returns : goal.returns
returns c = read_short _ c.args.pages.now c.requires.1 c.if-judged-pages.false
