-- Bytes stored from the first place on, with their checksum behind them.
use Prim.Native.Nat.{ℕ, ◌+◌, ◌≤◌}
use mathlib.Core.List.{List, ◌++◌}
use mathlib.Core.Path.{◌≡◌, sym, ap, ◌∙◌}
use native.Mathlib.Omega.{arith}
use native.Mathlib.Nat.{zero-add}
use lib.ListN.{length, take, drop, length-append}
use lib.Seq.{sets, sets-eq, length-sets, take_at}
use Rattle.numbers.specs.Rows.{over}
use Rattle.checksum.specs.Crc.{crc32}
use Rattle.tree.specs.Bytes.{spelled}
use Rattle.tree.specs.EnvelopeTree.{sealed}
use Rattle.tree.proofs.Place.{length_spelled}
use Rattle.stores.specs.Stored.{Stored}
use Rattle.stores.proofs.Storing.{sets_then}

pub sealed_over : (old : List ℕ) (u new done : List ℕ) (end : ℕ) → Stored old 0 u new end
    → (end + 4 ≤ length new → done ≡ sets new end (spelled 4 (crc32 (take end new)))) → length (sealed u) ≤ length old → done ≡ over (sealed u) old
unfolding sealed
sealed_over old u new done end s seal room =
    let sum = spelled 4 (crc32 u) in
    let long = length-append u sum in
    let four = length_spelled 4 (crc32 u) in
    let (is, stop) = s.done (omega arith) in
    let n_is : end ≡ length u = stop ∙ zero-add (length u) in
    let same : length new ≡ length old = ap length is ∙ length-sets old 0 u in
    let front : new ≡ u ++ drop (0 + length u) old = is ∙ sets-eq u old 0 (omega arith) in
    let part : take end new ≡ u = ap (λ (l : List ℕ). take end l) front ∙ take_at u (drop (0 + length u) old) end (sym n_is) in
    let last : done ≡ sets new end sum = seal (omega arith) ∙ ap (λ (l : List ℕ). sets new end (spelled 4 (crc32 l))) part in
    let all : sets new end sum ≡ sets old 0 (u ++ sum) = (λ i. sets (is i) (stop i) sum) ∙ sym (sets_then old 0 u sum) in
    let whole : sets old 0 (u ++ sum) ≡ (u ++ sum) ++ drop (0 + length (u ++ sum)) old = sets-eq (u ++ sum) old 0 (omega arith) in
    last ∙ all ∙ whole ∙ ap (λ (k : ℕ). (u ++ sum) ++ drop k old) (zero-add (length (u ++ sum)))
