-- `page_decoding::read::fill_split` meets its contract, with delta, with zigzag and with neither. Assumes nothing.
use Rattle.std.proofs.Common.{sym, ◌∙◌, arith}
use Rattle.coding.proofs.Below.{below_all}
use Rattle.page_decoding.proofs.Split.{small, with_delta, with_zigzag, with_neither}
use Rattle.page_decoding.proofs.read.fill_split.Goals as goal

pub returns-then-has_delta : goal.returns-then-has_delta
returns-then-has_delta c t e m s = let a = c.args in
    let r = c.requires in
    c.sum_up.ensures
    ∙ with_delta a.width a.n a.page.now a.out.now _ r.0 r.1 r.2 c.split_out.ensures t e s (sym (c.has_delta.ensures.1 t e m) ∙ c.if-has_delta.true)

pub unzigzag_all-requires : goal.unzigzag_all-requires
unzigzag_all-requires c = let a = c.args in
    let r = c.requires in
    let octets = below_all 256 a.page.now (λ i h. omega (arith, c.type_inv.page i)) in
    (c.has_zigzag.ensures.0 c.if-has_zigzag.true, omega (arith, c.split_out.auto.out, r.3), small a.width a.n a.page.now a.out.now _ r.0 r.1 r.2 c.split_out.ensures octets)

pub returns-then-has_zigzag : goal.returns-then-has_zigzag
returns-then-has_zigzag c t e m s = let a = c.args in
    let r = c.requires in
    c.unzigzag_all.ensures
    ∙ with_zigzag a.width a.n a.page.now a.out.now _ r.0 r.1 r.2 c.split_out.ensures t e s
    (sym (c.has_delta.ensures.1 t e m) ∙ c.if-has_delta.false)
    (sym (c.has_zigzag.ensures.1 t e m) ∙ c.if-has_zigzag.true)

pub returns-else-has_zigzag : goal.returns-else-has_zigzag
returns-else-has_zigzag c t e m s = let a = c.args in
    let r = c.requires in
    with_neither a.width a.n a.page.now a.out.now _ r.0 r.1 r.2 c.split_out.ensures t e s
    (sym (c.has_delta.ensures.1 t e m) ∙ c.if-has_delta.false)
    (sym (c.has_zigzag.ensures.1 t e m) ∙ c.if-has_zigzag.false)
