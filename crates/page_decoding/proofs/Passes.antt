-- Plane after plane placed into words: each makes the numbers a byte longer.
-- Assumes nothing.
use Rattle.std.proofs.Common.{◌≡◌, ℕ, zero, suc, ◌+◌, ◌-◌, ◌*◌, ◌/◌, ◌^◌, ◌<◌, ◌≤◌, Bool, true, false, ltb, List, ◌++◌, length, get_or, take, drop, replicate, sym, refl, ap, ◌∙◌, ap₂, mul_assoc, suc-mul, pow-suc, mul-add, add-one, arith, length-drop, length-take-le, get_or-drop, get_or-take, get_or-append-add, ext_get_or, ltb-false}
use native.Mathlib.Nat.{div-eq_of_lt, div-div-eq-div-mul}
use lib.ListN.{length-replicate, get_or-replicate, get_or-append}
use Rattle.numbers.specs.Rows.{over}
use Rattle.numbers.specs.Choice.{pick}
use Rattle.numbers.proofs.Parts.{over_length}
use Rattle.planes.specs.Plane.{with_byte, cleared}
use Rattle.planes.proofs.Joined.{length_joined, get_or_joined, get_or_behind}
use Rattle.planes.proofs.Words.{with_byte_over, power_positive}
use Rattle.coding.specs.Layout.{unplanes}
use Rattle.coding.specs.Inverses.{Below}
use Rattle.coding.specs.Strides.{strided}
use Rattle.page_decoding.specs.Passes.{placed_below, PlanesInTurn}
use Rattle.coding.proofs.Below.{below_any, below_take}
use Rattle.coding.proofs.Planes.{length_unplanes}
use Rattle.coding.proofs.Strided.{strided_add, strided_single, strided_below, get_or_unplanes}

-- what stands in a list written over another

over_front : (l d : List ℕ) (i : ℕ) → i < length l → get_or (over l d) i 0 ≡ get_or l i 0
over_front l d i h = get_or-append l (drop (length l) d) 0 i h

over_behind : (l d : List ℕ) (i : ℕ) → length l ≤ i → get_or (over l d) i 0 ≡ get_or d i 0
over_behind l d i h =
    let e : i ≡ length l + (i - length l) = omega arith in
    ap (λ (j : ℕ). get_or (over l d) j 0) e ∙ get_or-append-add l (drop (length l) d) (i - length l) 0
    ∙ get_or-drop (length l) d (i - length l) 0 ∙ ap (λ (j : ℕ). get_or d j 0) (sym e)

-- words after the planes below p were placed over some

module _ (n : ℕ) (page ws : List ℕ) (lent : n ≤ length ws) (octets : Below 256 page) where
  abbrev plane : ℕ → List ℕ
  plane p = take n (drop (p * n) page)

  pub length_below : (p : ℕ) → length (placed_below p n page ws) ≡ length ws
  unfolding placed_below
  length_below zero = refl
  length_below (suc p) = length_joined (with_byte 8 p) (plane p) (placed_below p n page ws) ∙ length_below p

  length_plane : (p : ℕ) → suc p * n ≤ length page → length (plane p) ≡ n
  length_plane p room = length-take-le n (drop (p * n) page) (omega (arith, length-drop (p * n) page, suc-mul p n))

  earlier : (p : ℕ) → suc p * n ≤ length page → p * n ≤ length page
  earlier p room = omega (arith, suc-mul p n)

  behind : (p : ℕ) → p * n ≤ length page → (i : ℕ) → n ≤ i → get_or (placed_below p n page ws) i 0 ≡ get_or ws i 0
  unfolding placed_below
  behind zero room i h = refl
  behind (suc p) room i h =
      get_or_behind (with_byte 8 p) (plane p) (placed_below p n page ws) i (omega (arith, length_plane p room)) ∙ behind p (earlier p room) i h

  -- a byte more below what is above
  longer : (p i x : ℕ) → strided p n page i + 256 ^ p * (get_or page (p * n + i) 0 + 256 * (x / 256 ^ p / 256))
      ≡ strided (suc p) n page i + 256 ^ suc p * (x / 256 ^ suc p)
  longer p i x =
      let u : ℕ = 256 ^ p in
      let b : ℕ = get_or page (p * n + i) 0 in
      let z : ℕ = x / u / 256 in
      let e : p * n + i ≡ i + p * n = omega arith in
      let s : strided (suc p) n page i ≡ strided p n page i + u * b =
      ap (λ (k : ℕ). strided k n page i) (sym (add-one p)) ∙ strided_add p 1 n i page
      ∙ ap (λ (y : ℕ). strided p n page i + u * y) (sym (strided_single n (i + p * n) page) ∙ ap (λ (j : ℕ). get_or page j 0) (sym e)) in
      let q : 256 ^ suc p * (x / 256 ^ suc p) ≡ u * (256 * z) =
      ap (λ (m : ℕ). m * (x / m)) (pow-suc 256 p) ∙ ap (λ (y : ℕ). u * 256 * y) (sym (div-div-eq-div-mul x u 256)) ∙ mul_assoc u 256 z in
      ap (λ (y : ℕ). strided p n page i + y) (mul-add u b (256 * z)) ∙ omega (arith, s, q)

  at : (p : ℕ) → p ≤ 8 → p * n ≤ length page → (i : ℕ) → i < n
      → get_or (placed_below p n page ws) i 0 ≡ strided p n page i + 256 ^ p * (get_or ws i 0 / 256 ^ p)
  unfolding placed_below strided
  at zero small room i l = omega arith
  at (suc p) small room i l =
      let x : ℕ = get_or ws i 0 in
      get_or_joined (with_byte 8 p) (plane p) (placed_below p n page ws) i (omega (arith, length_plane p room)) (omega (arith, length_below p))
      ∙ ap₂ (with_byte 8 p) (get_or-take n (drop (p * n) page) i 0 l ∙ get_or-drop (p * n) page i 0) (at p (omega arith) (earlier p room) i l)
      ∙ with_byte_over 8 p (get_or page (p * n + i) 0) (strided p n page i) (x / 256 ^ p) small (strided_below p n i page octets)
      ∙ longer p i x

-- words that were cleared before have nothing above k bytes

length_cleared : (k : ℕ) (ws : List ℕ) → length (cleared k ws) ≡ length ws
unfolding cleared
length_cleared k ws = go (ltb k 8)
  where
    go : (t : Bool) → length (pick t (replicate (length ws) 0) ws) ≡ length ws
    go true = length-replicate (length ws) 0
    go false = refl

-- the first n of the words so cleared, with the others behind them
pub start_is : (k n : ℕ) (ws new : List ℕ) → n ≤ length ws → new ≡ cleared k (take n ws) → new ++ drop n ws ≡ over (cleared k (take n ws)) ws
start_is k n ws new h e = ap₂ (λ (l : List ℕ) (m : ℕ). l ++ drop m ws) e (sym (length_cleared k (take n ws) ∙ length-take-le n ws h))

pub start_long : (k n : ℕ) (ws : List ℕ) → n ≤ length ws → length (over (cleared k (take n ws)) ws) ≡ length ws
start_long k n ws h = over_length (cleared k (take n ws)) ws (omega (arith, length_cleared k (take n ws), length-take-le n ws h))

nothing_above : (k : ℕ) (ws : List ℕ) → k ≤ 8 → Below (256 ^ 8) ws → (i : ℕ) → i < length ws → get_or (cleared k ws) i 0 / 256 ^ k ≡ 0
unfolding cleared
nothing_above k ws h below i l = go (ltb k 8) refl
  where
    go : (t : Bool) → ltb k 8 ≡ t → get_or (pick t (replicate (length ws) 0) ws) i 0 / 256 ^ k ≡ 0
    go true e = ap (λ (x : ℕ). x / 256 ^ k) (get_or-replicate (length ws) i 0 0 l) ∙ div-eq_of_lt (power_positive k)
    go false e =
        let f = ltb-false k 8 e in
        let g : k ≡ 8 = omega arith in
        ap (λ (m : ℕ). get_or ws i 0 / 256 ^ m) g ∙ div-eq_of_lt (below_any (256 ^ 8) ws (power_positive 8) below i)

pub planes_in_turn : PlanesInTurn
unfolding PlanesInTurn
planes_in_turn k n page ws small room lent octets words =
    ext_get_or 0 (placed_below k n page start) (over (unplanes k n page) ws) (length_below n page start enough octets k ∙ long ∙ sym over_long) (λ i h. each i (ltb i n) refl)
  where
    first : List ℕ
    first = cleared k (take n ws)

    start : List ℕ
    start = over first ws

    n_first : length first ≡ n
    n_first = length_cleared k (take n ws) ∙ length-take-le n ws lent

    n_numbers : length (unplanes k n page) ≡ n
    n_numbers = length_unplanes k n page room

    long : length start ≡ length ws
    long = start_long k n ws lent

    over_long : length (over (unplanes k n page) ws) ≡ length ws
    over_long = over_length (unplanes k n page) ws (omega (arith, n_numbers))

    enough : n ≤ length start
    enough = omega (arith, long)

    each : (i : ℕ) (t : Bool) → ltb i n ≡ t → get_or (placed_below k n page start) i 0 ≡ get_or (over (unplanes k n page) ws) i 0
    each i true e =
        let l = borrow.Author.Tests.ltb-true i n e in
        let none : get_or start i 0 / 256 ^ k ≡ 0 =
        ap (λ (x : ℕ). x / 256 ^ k) (over_front first ws i (omega (arith, n_first)))
        ∙ nothing_above k (take n ws) small (below_take (256 ^ 8) n ws words) i (omega (arith, length-take-le n ws lent)) in
        at n page start enough octets k small room i l ∙ ap (λ (x : ℕ). strided k n page i + 256 ^ k * x) none ∙ omega arith
        ∙ sym (get_or_unplanes k n page i l room) ∙ sym (over_front (unplanes k n page) ws i (omega (arith, n_numbers)))
    each i false e =
        let l = ltb-false i n e in
        behind n page start enough octets k room i (omega arith) ∙ over_behind first ws i (omega (arith, n_first))
        ∙ sym (over_behind (unplanes k n page) ws i (omega (arith, n_numbers)))
