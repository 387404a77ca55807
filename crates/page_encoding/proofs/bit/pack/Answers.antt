use Rattle.coding.proofs.Bits.{length_packed, get_or_packed, last_byte}
use Rattle.planes.proofs.Filling.{Filled, fill_turn, fill_done}
use Rattle.coding.specs.Layout.{bits_byte, packed}
use mathlib.Core.Path.{◌≡◌, sym, ◌∙◌}
use mathlib.Core.List.{List}
use Prim.Native.Nat.{ℕ, ◌+◌, ◌*◌, ◌/◌, ◌%◌, ◌<◌, ◌≤◌}
use native.Mathlib.Omega.{arith}
use lib.ListN.{length, set, drop}
use Rattle.page_encoding.proofs.bit.pack.Invariants.{bytes_for}
use Rattle.page_encoding.proofs.bit.pack.Goals as goal

-- a byte more
turn : (words out₀ out : List ℕ) (m b : ℕ) → m < bytes_for words → bytes_for words ≤ length out₀ → Filled (packed (bytes_for words) words) out₀ m out
    → b ≡ bits_byte 8 (drop (8 * m) words) → Filled (packed (bytes_for words) words) out₀ (m + 1) (set out m b)
turn words out₀ out m b l r f e =
    let n = length_packed (bytes_for words) words in
    fill_turn (packed (bytes_for words) words) out₀ out m b f (omega arith) (omega arith) (e ∙ sym (get_or_packed (bytes_for words) words m l))

pub loop-m-preserved : goal.loop-m-preserved
loop-m-preserved c = let a = c.args in
    let l = c.loop-m in
    turn a.words.now a.out.now l.out l.m c.bits_byte.result (omega arith) (omega arith) l.invariant c.bits_byte.ensures

pub returns-then-rest-gt0 : goal.returns-then-rest-gt0
returns-then-rest-gt0 c = let a = c.args in
    let l = c.loop-m in
    let xs : List ℕ = a.words.now in
    let n = length_packed (bytes_for xs) xs in
    let all_turns : length xs / 8 ≡ l.m = omega arith in
    let last = turn xs a.out.now l.out (length xs / 8) c.bits_byte-then-rest-gt0.result (omega arith) (omega arith) (rw all_turns l.invariant)
    (c.bits_byte-then-rest-gt0.ensures ∙ last_byte (8 * (length xs / 8)) (length xs % 8) xs (omega arith) (omega arith)) in
    last.0 ∙ fill_done (packed (bytes_for xs) xs) a.out.now (length xs / 8 + 1) (omega arith)

pub returns-else-rest-gt0 : goal.returns-else-rest-gt0
returns-else-rest-gt0 c = let a = c.args in
    let l = c.loop-m in
    let xs : List ℕ = a.words.now in
    let n = length_packed (bytes_for xs) xs in
    l.invariant.0 ∙ fill_done (packed (bytes_for xs) xs) a.out.now l.m (omega arith)
