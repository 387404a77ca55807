use mathlib.Core.Path.{sym, ◌∙◌}
use Rattle.pairing.proofs.PairedLaws.{paired_stale, paired_read}
use borrow.Author.Rules.{rules}
use Rattle.pairing.proofs.read_paired_page_list.Goals as goal

pub returns-then-is_stale : goal.returns-then-is_stale
returns-then-is_stale c = let a = c.args in
    rw (paired_stale a.header.now a.page_list.now a.entries a.checksum a.file_length (sym c.is_stale.ensures ∙ c.if-is_stale.true)) (c.refuse_stale.ensures a.pages.now)

pub returns : goal.returns
returns c = let a = c.args in
    rw (paired_read a.header.now a.page_list.now a.entries a.checksum a.file_length (sym c.is_stale.ensures ∙ c.if-is_stale.false)) c.read_page_list.ensures
