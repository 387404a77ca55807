-- A length that was counted up to one more than the ceiling.
use Prim.Native.Nat.{ℕ}
use mathlib.Core.Path.{◌≡◌, sym, ap, ◌∙◌}
use lib.Dec.{leb}
use borrow.Author.Tests.{leb-true, leb-false, le-leb, lt-leb}
use Rattle.envelope.specs.Envelope.{ceiling}
use Rattle.verdicts.specs.Length.{capped}
use Rattle.verdicts.proofs.Capped.{capped_leb, capped_small}
use Rattle.stores.proofs.Answers.{Counted}

pub counted : (n long : ℕ) → long ≡ capped n → Counted n long
counted n long e =
    let same : leb n ceiling ≡ leb long ceiling = sym (capped_leb n) ∙ ap (λ (k : ℕ). leb k ceiling) (sym e) in
    record {
      above = λ big. leb-false n ceiling (same ∙ lt-leb long ceiling big);
      within = λ short. e ∙ sym (capped_small n (leb-true n ceiling (same ∙ le-leb long ceiling short)));
    }
