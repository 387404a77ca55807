-- The numbers of a plain page laid into lent words part after part.
-- Assumes nothing.
use Rattle.std.proofs.Common.{◌≡◌, ℕ, zero, suc, ◌+◌, ◌-◌, ◌*◌, ◌/◌, ◌%◌, ◌<◌, ◌≤◌, List, ◌∷◌, ◌++◌, length, get_or, take, drop, set, sym, ap, ◌∙◌, subst, append-nil, suc-mul, suc-add, zero-add, zero-mul, mul-one, arith, drop_of_length-le, length-take-le, get_or-take, drop-drop, ext_get_or, ne_eqb}
use borrow.Rule.Slice.PartMut.{put_mid}
use Rattle.numbers.specs.Choice.{pick}
use Rattle.numbers.specs.Numbers.{little}
use Rattle.numbers.specs.Rows.{over}
use Rattle.numbers.proofs.Parts.{over_length, rest_of, put_rest}
use Rattle.coding.specs.Layout.{plain, unplain}
use Rattle.coding.specs.Inverses.{Below}
use Rattle.coding.proofs.Plain.{over_more, length_plain, length_unplain, get_or_unplain, little_single, plain_unplain}
use Rattle.coding.proofs.Places.{higher, lowest}
use Rattle.coding.proofs.Puts.{plain_byte}
use Rattle.planes.proofs.Filling.{Filled, fill_turn}
use Rattle.page_decoding.specs.Blocks.{block_of}

-- words that have a list in front, and beyond it what they had
abbrev pub Laid : List ℕ → List ℕ → List ℕ → Type 0
Laid l out₀ out = (out ≡ over l out₀) × (length out ≡ length out₀)

-- more behind the first i of them, as their part is lent and put back
pub laid_more : (i : ℕ) (first next all out₀ out new : List ℕ) → length first ≡ i → first ++ next ≡ all → length all ≤ length out₀ → Laid first out₀ out
    → new ≡ over next (take (length out - i) (drop i out)) → Laid all out₀ (put_mid i (length out - i) out new)
laid_more i first next all out₀ out new long joined room h e =
    let is : put_mid i (length out - i) out new ≡ over all out₀ =
    put_rest i out new
    ∙ ap (λ (l : List ℕ). take i out ++ l) (e ∙ ap (over next) (rest_of i out))
    ∙ ap (λ (o : List ℕ). take i o ++ over next (drop i o)) h.0
    ∙ over_more i first next out₀ long
    ∙ ap (λ (l : List ℕ). over l out₀) joined in
    (is, ap length is ∙ over_length all out₀ room)

-- numbers of k bytes behind the first i
pub unplain_more : (k i n : ℕ) (bs : List ℕ) → unplain k i bs ++ unplain k n (drop (i * k) bs) ≡ unplain k (i + n) bs
unfolding unplain
unplain_more k zero n bs = rw (zero-mul k, zero-add n)
unplain_more k (suc i) n bs =
    let m : suc i * k ≡ k + i * k = omega (arith, suc-mul i k) in
    let d : drop (suc i * k) bs ≡ drop (i * k) (drop k bs) = ap (λ (j : ℕ). drop j bs) m ∙ sym (drop-drop (i * k) k bs) in
    ap (λ (l : List ℕ). little k bs 0 ∷ (unplain k i (drop k bs) ++ unplain k n l)) d
    ∙ ap (λ (l : List ℕ). little k bs 0 ∷ l) (unplain_more k i n (drop k bs)) ∙ ap (λ (j : ℕ). unplain k j bs) (sym (suc-add i n))

-- a block of single bytes is the bytes of eight numbers of two
pub unplain_bytes : (n : ℕ) (bs : List ℕ) → n * 2 ≤ length bs → Below 256 bs → plain 2 (unplain 2 n bs) ≡ unplain 1 (n * 2) bs
unplain_bytes n bs room octets = plain_unplain 2 n bs room octets ∙ sym single
  where
    single : unplain 1 (n * 2) bs ≡ take (n * 2) bs
    single = ext_get_or 0 (unplain 1 (n * 2) bs) (take (n * 2) bs) (length_unplain 1 (n * 2) bs ∙ sym (length-take-le (n * 2) bs room))
        (λ i l.
        let li : i < n * 2 = subst (λ (m : ℕ). i < m) (length_unplain 1 (n * 2) bs) l in
        get_or_unplain 1 (n * 2) bs i li ∙ sym (little_single (i * 1) bs) ∙ ap (λ (j : ℕ). get_or bs j 0) (mul-one i) ∙ sym (get_or-take (n * 2) bs i 0 li))

-- the two lowest bytes of a number more, one store each
pub pair_turn : (xs d out : List ℕ) (j : ℕ) → j < length xs → length xs * 2 ≤ length d → Filled (plain 2 xs) d (2 * j) out
    → Filled (plain 2 xs) d (2 * (j + 1)) (set (set out (2 * j) (get_or xs j 0 % 256)) (2 * j + 1) (get_or xs j 0 / 256 % 256))
pair_turn xs d out j h room f =
    let x : ℕ = get_or xs j 0 in
    let l : List ℕ = plain 2 xs in
    let long = length_plain 2 xs in
    let at_low : j * 2 + 0 ≡ 2 * j = omega arith in
    let at_high : j * 2 + 1 ≡ 2 * j + 1 = omega arith in
    let next : 2 * j + 1 + 1 ≡ 2 * (j + 1) = omega arith in
    let low : x % 256 ≡ get_or l (2 * j) 0 =
    lowest x ∙ plain_byte 2 xs j 0 h (omega arith) ∙ ap (λ (p : ℕ). get_or l p 0) at_low in
    let high : x / 256 % 256 ≡ get_or l (2 * j + 1) 0 =
    lowest (x / 256) ∙ higher x 0 ∙ plain_byte 2 xs j 1 h (omega arith) ∙ ap (λ (p : ℕ). get_or l p 0) at_high in
    let both = fill_turn l d (set out (2 * j) (x % 256)) (2 * j + 1) (x / 256 % 256) (fill_turn l d out (2 * j) (x % 256) f (omega arith) (omega arith) low)
    (omega arith) (omega arith) high in
    subst (λ (m : ℕ). Filled l d m (set (set out (2 * j) (x % 256)) (2 * j + 1) (x / 256 % 256))) next both

-- how many numbers are a block
pub block_one : (k : ℕ) → k ≡ 1 → block_of k ≡ 16
block_one k e = ap block_of e

pub block_more : (k : ℕ) → (k ≡ 1 → ⊥) → block_of k ≡ 8
block_more k n = ap (λ b. pick b 16 8) (ne_eqb k 1 n)

-- a list over one that is no longer
pub over_all : (l d : List ℕ) → length d ≤ length l → over l d ≡ l
over_all l d h = ap (λ (r : List ℕ). l ++ r) (drop_of_length-le d h) ∙ append-nil l
