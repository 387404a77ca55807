use Rattle.page_list_writer.proofs.Bytes.{pages_none, pages_more, pages_stop, pages_all}
use Rattle.page_list_writer.proofs.write.write_pages.Goals as goal

pub loop-i-init : goal.loop-i-init
loop-i-init c = pages_none

pub returns-then-page-c : goal.returns-then-page-c
returns-then-page-c c = let both = pages_stop c.loop-i.invariant c.loop-i-test.true c.page_words-page.ensures c.if-page-c.true in
    record { count_value = both.0; by_index = both.1 }

pub loop-i-preserved : goal.loop-i-preserved
loop-i-preserved c = pages_more c.loop-i.invariant c.loop-i-test.true c.page_words-page.ensures c.if-page-c.false c.write_page-next.auto.out c.write_page-next.ensures

pub returns : goal.returns
returns c = let both = pages_all c.loop-i.invariant c.loop-i-test.false in
    record { count_value = both.0; by_index = both.1 }
