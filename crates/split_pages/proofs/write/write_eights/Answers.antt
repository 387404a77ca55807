use Rattle.std.proofs.Common.{◌≡◌, ℕ, List, ◌+◌, ◌-◌, ◌*◌, ◌/◌, ◌≤◌, length, get_or, subst, mul_comm, arith}
use Rattle.split_pages.specs.Split.{codes}
use Rattle.split_pages.proofs.Codes.{length_codes}
use Rattle.split_pages.proofs.Turning.{Written, written_next, written_all}
use Rattle.split_pages.proofs.write.write_eights.Goals.{else-loop-i-test, then-loop-i-test+else-last-i-gt8}
use Rattle.split_pages.proofs.write.write_eights.Goals as goal

pub loop-i-preserved : goal.loop-i-preserved
loop-i-preserved c = let a = c.args in
    let l = c.loop-i in
    let f : ℕ → ℕ = λ r. get_or (codes a.delta a.zigzag a.width 0 a.words.now) r 0 in
    (omega arith, written_next (a.width / 8) (length a.words.now) f a.out.now l.i l.i l.out _ l.invariant.1 (omega arith) c.write_eight.ensures)

-- the loop ends at its test, or behind the last turn: either way no more than eight elements are left
pub returns : goal.returns
returns c = let a = c.args in
    let l = c.loop-i in
    let k : ℕ = a.width / 8 in
    let n : ℕ = length a.words.now in
    let xs : List ℕ = codes a.delta a.zigzag a.width 0 a.words.now in
    let f : ℕ → ℕ = λ r. get_or xs r 0 in
    let big : k * n ≤ length a.out.now = subst (λ (m : ℕ). m ≤ length a.out.now) (mul_comm n k) c.requires.2 in
    let e : n - 8 + 8 ≡ n = omega arith in
    let last : (i : ℕ) → n - 8 ≤ i → Written k n i f a.out.now c.loop-i-test.out → Written k n (n - 8 + 8) f a.out.now c.write_eight-2.new.out =
    λ i h w. written_next k n f a.out.now i (n - 8) c.loop-i-test.out _ w h c.write_eight-2.ensures in
    written_all k xs a.out.now _ n (n - 8 + 8) (length_codes a.delta a.zigzag a.width 0 a.words.now) (omega arith) big e
    (elim c.loop-i-test.branch [
      | else-loop-i-test w ↦ last l.i (omega arith) (rw w.out-is l.invariant.1)
      | then-loop-i-test+else-last-i-gt8 w ↦ last (l.i + 8) (omega arith)
          (rw w.out-is (written_next k n f a.out.now l.i l.i l.out _ l.invariant.1 (omega arith) w.write_eight.ensures))
    ])
