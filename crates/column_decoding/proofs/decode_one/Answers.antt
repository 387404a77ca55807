-- `column_decoding::decode_one` meets its contract: the range, then the single call. Assumes nothing.
use mathlib.Core.Path.{sym, ap, ◌∙◌}
use mathlib.Core.List.{List}
use Prim.Native.Nat.{ℕ}
use lib.ListN.{length}
use borrow.Author.Tests.{ne_eqb}
use Rattle.page_rules.specs.Page.{decode_outcome, decoded}
use Rattle.column_rules.proofs.TurnLaws.{is_single, is_outside}
use Rattle.column_decoding.proofs.Turns.{verdict_inside, is_inside, part_is}
use Rattle.column_decoding.proofs.decode_one.Goals as goal

pub returns-then-in_file-ne0 : goal.returns-then-in_file-ne0
returns-then-in_file-ne0 c = let a = c.args in
    let o : (t : ℕ) → _ = λ t. is_outside t a.file.now a.page a.out.now a.start
    (sym (verdict_inside a.file.now a.page _ _ c.trailer_size-behind.ensures c.in_file.ensures) ∙ ne_eqb _ 0 c.if-in_file-ne0.true) in
    record { answers = λ t e. c.outside_answer.ensures t e ∙ sym (o t).0; leaves = λ t e m. sym (o t).1 }

pub returns : goal.returns
returns c = let a = c.args in
    let i = is_inside a.file.now a.page _ _ c.trailer_size-behind.ensures c.in_file.ensures c.if-in_file-ne0.false in
    let d = c.decode_as.ensures in
    let part = part_is a.file.now a.page _ c.trailer_size-behind.ensures in record {
      answers = λ t e. d.answers t e ∙ ap (λ (l : List ℕ). decode_outcome t a.page.elements a.page.checksum l (length a.out.now) a.start) part
          ∙ sym (is_single t a.file.now a.page a.out.now a.start i).0;
      leaves = λ t e m. d.leaves t e m ∙ ap (λ (l : List ℕ). decoded t a.page.elements a.page.checksum l a.out.now a.start) part
          ∙ sym (is_single t a.file.now a.page a.out.now a.start i).1;
    }
