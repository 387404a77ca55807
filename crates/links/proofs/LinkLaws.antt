-- A link, by its locator.
use Prim.Native.Nat.{ℕ}
use mathlib.Core.Path.{◌≡◌, ap, ◌∙◌}
use mathlib.Core.List.{List}
use Rattle.locator.specs.declared.Range.{Range}
use Rattle.wire.specs.Reading.{found, Rule, after, give, number}
use Rattle.locator.specs.Locator.{located, locator}
use Rattle.locator.proofs.Laws.{located_by}
use Rattle.links.specs.Links.{link}
use Rattle.rows.specs.declared.Link.{Link}

abbrev row : ℕ → ℕ → Rule Link
row stored offset = give (record { size = stored; offset = offset })

pub link_by : (file : ℕ) (s : List ℕ) (at : ℕ) {due p : ℕ} → number 4 s at ≡ found due p
    → link file s at ≡ after (λ (r : Range). give (record { size = r.size; offset = r.offset })) s (locator file due 0 s p)
unfolding link
link_by file s at {due} {p} e = ap (after (λ size. located file size 0 row) s) e ∙ located_by file due 0 row s p
