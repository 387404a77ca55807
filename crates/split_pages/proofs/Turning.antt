-- Eight numbers turned: byte e of row j is byte j of number e.
-- Assumes nothing.
use Rattle.std.proofs.Common.{◌≡◌, ℕ, zero, suc, ◌+◌, ◌-◌, ◌*◌, ◌/◌, ◌%◌, ◌^◌, ◌<◌, ◌≤◌, Bool, true, false, eqb, ltb, List, length, get_or, drop, sym, refl, ap, ◌∙◌, subst, ap₂, not-suc-le-zero, mul-le-mul_right, mod-lt, suc-mul, mul_comm, div-add-mod', arith, length-append, length-drop, get_or-drop, get_or-append-add, ext_get_or, pow_pos, pow-add, ltb-false, ltb-true, eqb-true}
use native.Mathlib.Nat.{mod-mod, div-div-eq-div-mul, mul-div-mul_right}
use lib.ListN.{get_or-append}
use Rattle.coding.specs.Layout.{planes}
use Rattle.numbers.specs.Rows.{over}
use Rattle.coding.proofs.Planes.{length_planes}
use Rattle.coding.proofs.Places.{get_or_planes, plane_of}
use Rattle.coding.specs.Strides.{puts}
use Rattle.planes.specs.Plane.{byte_at}
use Rattle.split_pages.specs.Turn.{evens, pairs, fours, row, two_rows, four_rows, eight_rows, Turned}
use Rattle.planes.proofs.Words.{bytes_power}
use Rattle.coding.proofs.Puts.{length_puts, puts_before, puts_behind, puts_in}
use borrow.Author.Tests.{eqb-false}
use lib.Bits.{bit_and, bit_or, and_shr, and_mod, or_shr, or_mod, and_zero_r, or_zero_r, and_mask, and_block}

-- a byte of a number without its lowest bytes
byte_down : (x u p : ℕ) → byte_at (x / 256 ^ u) p ≡ byte_at x (u + p)
byte_down x u p = ap (λ (y : ℕ). y % 256) (div-div-eq-div-mul x (256 ^ u) (256 ^ p) ∙ ap (λ (d : ℕ). x / d) (sym (pow-add 256 u p)))

byte_bits : (f : ℕ → ℕ → ℕ) → ((a b k : ℕ) → f a b / 2 ^ k ≡ f (a / 2 ^ k) (b / 2 ^ k)) → ((a b k : ℕ) → f a b % 2 ^ k ≡ f (a % 2 ^ k) (b % 2 ^ k))
    → (a b p : ℕ) → byte_at (f a b) p ≡ f (byte_at a p) (byte_at b p)
byte_bits f down low a b p =
    let e = bytes_power p in
    ap (λ (d : ℕ). f a b / d % 256) e
    ∙ ap (λ (y : ℕ). y % 2 ^ 8) (down a b (8 * p))
    ∙ low (a / 2 ^ (8 * p)) (b / 2 ^ (8 * p)) 8
    ∙ ap (λ (d : ℕ). f (a / d % 256) (b / d % 256)) (sym e)

-- the bytes that a mask has, and those that it has not

masked : (mask a p : ℕ) → byte_at mask p ≡ 255 → byte_at (bit_and a mask) p ≡ byte_at a p
masked mask a p e = byte_bits bit_and and_shr and_mod a mask p ∙ ap (bit_and (byte_at a p)) e ∙ and_mask (byte_at a p) 8 ∙ mod-mod (a / 256 ^ p) 256

clear : (mask a p : ℕ) → byte_at mask p ≡ 0 → byte_at (bit_and a mask) p ≡ 0
clear mask a p e = byte_bits bit_and and_shr and_mod a mask p ∙ ap (bit_and (byte_at a p)) e ∙ and_zero_r (byte_at a p)

-- moved up

moved : (mask b u : ℕ) → bit_and b mask * 256 ^ u ≡ bit_and (b * 256 ^ u) (mask * 256 ^ u)
moved mask b u =
    let e = bytes_power u in
    let z = lib.Pow.pow_pos (8 * u) in
    let g : (x : ℕ) → x * 2 ^ (8 * u) + 0 ≡ x * 2 ^ (8 * u) = λ x. native.Mathlib.Nat.add-zero (x * 2 ^ (8 * u)) in
    ap (λ (m : ℕ). bit_and b mask * m) e ∙ sym (g (bit_and b mask)) ∙ sym (and_block (8 * u) b mask 0 0 z z)
    ∙ ap₂ bit_and (g b ∙ ap (λ (m : ℕ). b * m) (sym e)) (g mask ∙ ap (λ (m : ℕ). mask * m) (sym e))

up_by : (b u q : ℕ) → byte_at (b * 256 ^ u) (q + u) ≡ byte_at b q
up_by b u q =
    ap (λ (d : ℕ). b * 256 ^ u / d % 256) (pow-add 256 q u)
    ∙ ap (λ (y : ℕ). y % 256) (mul-div-mul_right b (256 ^ q) (subst (λ (m : ℕ). 0 < m) (sym (bytes_power u)) (pow_pos (8 * u))))

-- a byte of a number's own lanes, and one of the other's

module _ (mask u a b : ℕ) where
  pub own : (p : ℕ) → byte_at mask p ≡ 255 → byte_at (mask * 256 ^ u) p ≡ 0 → byte_at (evens mask (256 ^ u) a b) p ≡ byte_at a p
  own p e f =
      byte_bits bit_or or_shr or_mod (bit_and a mask) (bit_and b mask * 256 ^ u) p
      ∙ ap₂ bit_or (masked mask a p e) (ap (λ (x : ℕ). byte_at x p) (moved mask b u) ∙ clear (mask * 256 ^ u) (b * 256 ^ u) p f)
      ∙ or_zero_r (byte_at a p)

  pub other : (q : ℕ) → byte_at mask (q + u) ≡ 0 → byte_at (mask * 256 ^ u) (q + u) ≡ 255 → byte_at (evens mask (256 ^ u) a b) (q + u) ≡ byte_at b q
  other q e f =
      byte_bits bit_or or_shr or_mod (bit_and a mask) (bit_and b mask * 256 ^ u) (q + u)
      ∙ ap₂ bit_or (clear mask a (q + u) e)
      (ap (λ (x : ℕ). byte_at x (q + u)) (moved mask b u) ∙ masked (mask * 256 ^ u) (b * 256 ^ u) (q + u) f ∙ up_by b u q)

-- the three stages: four bytes, two, one

below_two : (P : ℕ → Type 0) → P 0 → P 1 → (r : ℕ) → r < 2 → P r
below_two P a b zero h = a
below_two P a b (suc zero) h = b
below_two P a b (suc (suc r)) h = absurd (omega arith)

below_four : (P : ℕ → Type 0) → P 0 → P 1 → P 2 → P 3 → (r : ℕ) → r < 4 → P r
below_four P a b c d zero h = a
below_four P a b c d (suc zero) h = b
below_four P a b c d (suc (suc zero)) h = c
below_four P a b c d (suc (suc (suc zero))) h = d
below_four P a b c d (suc (suc (suc (suc r)))) h = absurd (omega arith)

abbrev M32 : ℕ
M32 = 0x00000000FFFFFFFF

abbrev M16 : ℕ
M16 = 0x0000FFFF0000FFFF

abbrev M8 : ℕ
M8 = 0x00FF00FF00FF00FF

module _ (a c k r : ℕ) (h : r < 4) where
  half_own : byte_at (evens M32 4294967296 (a / 256 ^ k) (c / 256 ^ k)) r ≡ byte_at a (k + r)
  half_own =
      own M32 4 (a / 256 ^ k) (c / 256 ^ k) r (below_four (λ i. byte_at M32 i ≡ 255) refl refl refl refl r h) (below_four (λ i. byte_at (M32 * 256 ^ 4) i ≡ 0) refl refl refl refl r h)
      ∙ byte_down a k r

  half_other : byte_at (evens M32 4294967296 (a / 256 ^ k) (c / 256 ^ k)) (r + 4) ≡ byte_at c (k + r)
  half_other =
      other M32 4 (a / 256 ^ k) (c / 256 ^ k) r (below_four (λ i. byte_at M32 (i + 4) ≡ 0) refl refl refl refl r h) (below_four (λ i. byte_at (M32 * 256 ^ 4) (i + 4) ≡ 255) refl refl refl refl r h)
      ∙ byte_down c k r

-- byte k + i + r of each of four numbers, i being 0 or 2, and r 0 or 1
module _ (a b c d k i r : ℕ) (small : i + r < 4) (h : r < 2) where
  abbrev low_half : ℕ
  low_half = evens M32 4294967296 (a / 256 ^ k) (c / 256 ^ k)

  abbrev high_half : ℕ
  high_half = evens M32 4294967296 (b / 256 ^ k) (d / 256 ^ k)

  abbrev four : ℕ
  four = fours a b c d (256 ^ k) (256 ^ i)

  along : i + (r + 4) ≡ i + r + 4
  along = omega arith

  fours_0 : byte_at four r ≡ byte_at a (k + (i + r))
  fours_0 =
      own M16 2 (low_half / 256 ^ i) (high_half / 256 ^ i) r (below_two (λ p. byte_at M16 p ≡ 255) refl refl r h) (below_two (λ p. byte_at (M16 * 256 ^ 2) p ≡ 0) refl refl r h)
      ∙ byte_down low_half i r ∙ half_own a c k (i + r) small

  fours_1 : byte_at four (r + 2) ≡ byte_at b (k + (i + r))
  fours_1 =
      other M16 2 (low_half / 256 ^ i) (high_half / 256 ^ i) r (below_two (λ p. byte_at M16 (p + 2) ≡ 0) refl refl r h) (below_two (λ p. byte_at (M16 * 256 ^ 2) (p + 2) ≡ 255) refl refl r h)
      ∙ byte_down high_half i r ∙ half_own b d k (i + r) small

  fours_2 : byte_at four (r + 4) ≡ byte_at c (k + (i + r))
  fours_2 =
      own M16 2 (low_half / 256 ^ i) (high_half / 256 ^ i) (r + 4) (below_two (λ p. byte_at M16 (p + 4) ≡ 255) refl refl r h) (below_two (λ p. byte_at (M16 * 256 ^ 2) (p + 4) ≡ 0) refl refl r h)
      ∙ byte_down low_half i (r + 4) ∙ ap (byte_at low_half) along ∙ half_other a c k (i + r) small

  fours_3 : byte_at four (r + 4 + 2) ≡ byte_at d (k + (i + r))
  fours_3 =
      other M16 2 (low_half / 256 ^ i) (high_half / 256 ^ i) (r + 4) (below_two (λ p. byte_at M16 (p + 4 + 2) ≡ 0) refl refl r h) (below_two (λ p. byte_at (M16 * 256 ^ 2) (p + 4 + 2) ≡ 255) refl refl r h)
      ∙ byte_down high_half i (r + 4) ∙ ap (byte_at high_half) along ∙ half_other b d k (i + r) small

-- byte e of the row of k + i + r
pub row_byte : (f : ℕ → ℕ) (k i r : ℕ) → i + r < 4 → r < 2 → (e : ℕ) → e < 8
    → byte_at (row (f 0) (f 1) (f 2) (f 3) (f 4) (f 5) (f 6) (f 7) (256 ^ k) (256 ^ i) (256 ^ r)) e ≡ byte_at (f e) (k + (i + r))
unfolding row
row_byte f k i r small h e l = go e l
  where
    A : ℕ
    A = fours (f 0) (f 2) (f 4) (f 6) (256 ^ k) (256 ^ i)

    B : ℕ
    B = fours (f 1) (f 3) (f 5) (f 7) (256 ^ k) (256 ^ i)

    zero_in : r + 0 ≡ r
    zero_in = omega arith

    six : r + 6 ≡ r + 4 + 2
    six = omega arith

    go : (e : ℕ) → e < 8 → byte_at (pairs (A / 256 ^ r) (B / 256 ^ r)) e ≡ byte_at (f e) (k + (i + r))
    go zero l = own M8 1 (A / 256 ^ r) (B / 256 ^ r) 0 refl refl ∙ byte_down A r 0 ∙ ap (byte_at A) zero_in ∙ fours_0 (f 0) (f 2) (f 4) (f 6) k i r small h
    go (suc zero) l = other M8 1 (A / 256 ^ r) (B / 256 ^ r) 0 refl refl ∙ byte_down B r 0 ∙ ap (byte_at B) zero_in ∙ fours_0 (f 1) (f 3) (f 5) (f 7) k i r small h
    go (suc (suc zero)) l = own M8 1 (A / 256 ^ r) (B / 256 ^ r) 2 refl refl ∙ byte_down A r 2 ∙ fours_1 (f 0) (f 2) (f 4) (f 6) k i r small h
    go (suc (suc (suc zero))) l = other M8 1 (A / 256 ^ r) (B / 256 ^ r) 2 refl refl ∙ byte_down B r 2 ∙ fours_1 (f 1) (f 3) (f 5) (f 7) k i r small h
    go (suc (suc (suc (suc zero)))) l = own M8 1 (A / 256 ^ r) (B / 256 ^ r) 4 refl refl ∙ byte_down A r 4 ∙ fours_2 (f 0) (f 2) (f 4) (f 6) k i r small h
    go (suc (suc (suc (suc (suc zero))))) l = other M8 1 (A / 256 ^ r) (B / 256 ^ r) 4 refl refl ∙ byte_down B r 4 ∙ fours_2 (f 1) (f 3) (f 5) (f 7) k i r small h
    go (suc (suc (suc (suc (suc (suc zero)))))) l = own M8 1 (A / 256 ^ r) (B / 256 ^ r) 6 refl refl ∙ byte_down A r 6 ∙ ap (byte_at A) six ∙ fours_3 (f 0) (f 2) (f 4) (f 6) k i r small h
    go (suc (suc (suc (suc (suc (suc (suc zero))))))) l = other M8 1 (A / 256 ^ r) (B / 256 ^ r) 6 refl refl ∙ byte_down B r 6 ∙ ap (byte_at B) six ∙ fours_3 (f 1) (f 3) (f 5) (f 7) k i r small h
    go (suc (suc (suc (suc (suc (suc (suc (suc e)))))))) l = absurd (omega arith)

-- a plane's eight bytes stored: one more plane of the eight elements is written

module _ (k n i : ℕ) (f : ℕ → ℕ) (d : List ℕ) where
  pub record Turning (j : ℕ) (out : List ℕ) : Type 0 where
    pub same_size_lem : length out ≡ length d
    pub kept : (m r : ℕ) → m < k → r < i → get_or out (m * n + r) 0 ≡ get_or d (m * n + r) 0
    pub written : (m e : ℕ) → m < j → e < 8 → get_or out (m * n + (i + e)) 0 ≡ byte_at (f e) m
    pub behind : (p : ℕ) → k * n ≤ p → get_or out p 0 ≡ get_or d p 0

  pub turning_none : Turning 0 d
  turning_none = record { same_size_lem = refl; kept = λ m r a b. refl; written = λ m e a b. absurd (not-suc-le-zero a); behind = λ p a. refl }

  pub turning_all : (out : List ℕ) → Turning k out → Turned k n i f d out
  turning_all out t = record { same_size = t.same_size_lem; kept = t.kept; written = t.written; behind = t.behind }

  -- the planes stand apart
  earlier_plane : (m j : ℕ) → m < j → m * n + n ≤ j * n
  earlier_plane m j h =
      let a : suc m * n ≤ j * n = mul-le-mul_right n h in
      omega (arith, suc-mul m n)

  outside : (j y m r : ℕ) (out : List ℕ) → i + 8 ≤ n → r < n → (m ≡ j → r < i) → get_or (puts 8 y (j * n + i) out) (m * n + r) 0 ≡ get_or out (m * n + r) 0
  outside j y m r out room l same = go (ltb m j) refl (eqb m j) refl
    where
      go : (a : Bool) → ltb m j ≡ a → (b : Bool) → eqb m j ≡ b → get_or (puts 8 y (j * n + i) out) (m * n + r) 0 ≡ get_or out (m * n + r) 0
      go true a b e =
          let g = earlier_plane m j (ltb-true m j a) in
          puts_before 8 y (j * n + i) (m * n + r) out (omega arith)
      go false a true e =
          let q = eqb-true m j e in
          let g : m * n ≡ j * n = ap (λ (x : ℕ). x * n) q in
          let s = same q in
          puts_before 8 y (j * n + i) (m * n + r) out (omega arith)
      go false a false e =
          let q = eqb-false m j e in
          let v = ltb-false m j a in
          let w : j < m = omega arith in
          let g = earlier_plane j m w in
          puts_behind 8 y (j * n + i) (m * n + r) out (omega arith)

  pub turning_next : (j y at : ℕ) (out : List ℕ) → Turning j out → j < k → i + 8 ≤ n → k * n ≤ length d → at ≡ j * n + i
      → ((e : ℕ) → e < 8 → byte_at y e ≡ byte_at (f e) j) → Turning (suc j) (puts 8 y at out)
  turning_next j y at out t l room big place value =
      subst (λ (q : ℕ). Turning (suc j) (puts 8 y q out)) (sym place) (record {
        same_size_lem = length_puts 8 y (j * n + i) out ∙ t.same_size_lem;
        kept = λ m r a b. outside j y m r out room (omega arith) (λ e. b) ∙ t.kept m r a b;
        written = λ m e a b. at_plane m e a b (eqb m j) refl;
        behind = λ p a.
            let g = earlier_plane j k l in
            puts_behind 8 y (j * n + i) p out (omega arith) ∙ t.behind p a;
      })
    where
      at_plane : (m e : ℕ) → m < suc j → e < 8 → (b : Bool) → eqb m j ≡ b → get_or (puts 8 y (j * n + i) out) (m * n + (i + e)) 0 ≡ byte_at (f e) m
      at_plane m e a h true q =
          let s = eqb-true m j q in
          let g = earlier_plane j k l in
          let z = t.same_size_lem in
          let p : m * n + (i + e) ≡ j * n + i + e = ap (λ (x : ℕ). x * n + (i + e)) s ∙ omega arith in
          ap (λ (x : ℕ). get_or (puts 8 y (j * n + i) out) x 0) p
          ∙ puts_in 8 y (j * n + i) e out h (omega arith) ∙ value e h ∙ ap (byte_at (f e)) (sym s)
      at_plane m e a h false q =
          let s = eqb-false m j q in
          outside j y m (i + e) out room (omega arith) (λ w. absurd (s w)) ∙ t.written m e (omega arith) h

  -- two more planes, from an even one on
  two_more : (j k' i' at : ℕ) (out : List ℕ) → j ≡ k' + i' → i' + 1 < 4 → j + 1 < k → i + 8 ≤ n → k * n ≤ length d → at ≡ j * n + i → Turning j out
      → Turning (suc (suc j)) (two_rows (f 0) (f 1) (f 2) (f 3) (f 4) (f 5) (f 6) (f 7) (256 ^ k') (256 ^ i') at n out)
  unfolding two_rows
  two_more j k' i' at out e s l room big place t =
      let y : ℕ = row (f 0) (f 1) (f 2) (f 3) (f 4) (f 5) (f 6) (f 7) (256 ^ k') (256 ^ i') 1 in
      let z : ℕ = row (f 0) (f 1) (f 2) (f 3) (f 4) (f 5) (f 6) (f 7) (256 ^ k') (256 ^ i') 256 in
      let ya : k' + (i' + 0) ≡ j = omega arith in
      let za : k' + (i' + 1) ≡ suc j = omega arith in
      let next : at + n ≡ suc j * n + i = omega (arith, suc-mul j n) in
      turning_next (suc j) z (at + n) (puts 8 y at out)
      (turning_next j y at out t (omega arith) room big place (λ b h. row_byte f k' i' 0 (omega arith) (omega arith) b h ∙ ap (byte_at (f b)) ya))
      (omega arith) room big next (λ b h. row_byte f k' i' 1 s (omega arith) b h ∙ ap (byte_at (f b)) za)

-- all planes: two, four, eight

pub turned_two : (n i : ℕ) (f : ℕ → ℕ) (d : List ℕ) → i + 8 ≤ n → 2 * n ≤ length d
    → Turned 2 n i f d (two_rows (f 0) (f 1) (f 2) (f 3) (f 4) (f 5) (f 6) (f 7) 1 1 i n d)
turned_two n i f d room big =
    turning_all 2 n i f d _ (two_more 2 n i f d 0 0 0 i d refl (omega arith) (omega arith) room big (omega arith) (turning_none 2 n i f d))

pub turned_four : (n i : ℕ) (f : ℕ → ℕ) (d : List ℕ) → i + 8 ≤ n → 4 * n ≤ length d
    → Turned 4 n i f d (four_rows (f 0) (f 1) (f 2) (f 3) (f 4) (f 5) (f 6) (f 7) 1 i n d)
unfolding four_rows
turned_four n i f d room big =
    turning_all 4 n i f d _ (two_more 4 n i f d 2 0 2 (i + 2 * n) _ refl (omega arith) (omega arith) room big (omega arith)
    (two_more 4 n i f d 0 0 0 i d refl (omega arith) (omega arith) room big (omega arith) (turning_none 4 n i f d)))

pub turned_eight : (n i : ℕ) (f : ℕ → ℕ) (d : List ℕ) → i + 8 ≤ n → 8 * n ≤ length d
    → Turned 8 n i f d (eight_rows (f 0) (f 1) (f 2) (f 3) (f 4) (f 5) (f 6) (f 7) i n d)
unfolding eight_rows four_rows
turned_eight n i f d room big =
    turning_all 8 n i f d _ (two_more 8 n i f d 6 4 2 (i + 4 * n + 2 * n) _ refl (omega arith) (omega arith) room big (omega arith)
    (two_more 8 n i f d 4 4 0 (i + 4 * n) _ refl (omega arith) (omega arith) room big (omega arith)
    (two_more 8 n i f d 2 0 2 (i + 2 * n) _ refl (omega arith) (omega arith) room big (omega arith)
    (two_more 8 n i f d 0 0 0 i d refl (omega arith) (omega arith) room big (omega arith) (turning_none 8 n i f d)))))

-- a loop that writes eight elements of every plane a turn: after i elements

pub record Written (k n i : ℕ) (f : ℕ → ℕ) (old out : List ℕ) : Type 0 where
  pub same_size_lem : length out ≡ length old
  pub there : (j r : ℕ) → j < k → r < i → get_or out (j * n + r) 0 ≡ byte_at (f r) j
  pub behind : (p : ℕ) → k * n ≤ p → get_or out p 0 ≡ get_or old p 0

module _ (k n : ℕ) (f : ℕ → ℕ) (old : List ℕ) where
  pub written_next : (i m : ℕ) (out new : List ℕ) → Written k n i f old out → m ≤ i → Turned k n m (λ e. f (m + e)) out new → Written k n (m + 8) f old new
  written_next i m out new w l t = record {
    same_size_lem = t.same_size ∙ w.same_size_lem;
    there = λ j r a b. at j r a b (ltb r m) refl;
    behind = λ p a. t.behind p a ∙ w.behind p a;
  }
    where
      at : (j r : ℕ) → j < k → r < m + 8 → (b : Bool) → ltb r m ≡ b → get_or new (j * n + r) 0 ≡ byte_at (f r) j
      at j r a b true e =
          let h = ltb-true r m e in
          t.kept j r a h ∙ w.there j r a (omega arith)
      at j r a b false e =
          let h = ltb-false r m e in
          let s : m + (r - m) ≡ r = omega arith in
          subst (λ (q : ℕ). get_or new (j * n + q) 0 ≡ byte_at (f q) j) s (t.written j (r - m) a (omega arith))

pub written_all : (k : ℕ) (xs old out : List ℕ) (n i : ℕ) → length xs ≡ n → 0 < n → k * n ≤ length old → i ≡ n → Written k n i (λ r. get_or xs r 0) old out → out ≡ over (planes k xs) old
written_all k xs old out n i e z big all_in w = ext_get_or 0 out (over (planes k xs) old) size (λ p h. at p (ltb p (k * n)) refl)
  where
    all : length (planes k xs) ≡ k * n
    all = length_planes k xs ∙ ap (λ (m : ℕ). k * m) e

    size : length out ≡ length (over (planes k xs) old)
    size =
        let a = length-append (planes k xs) (drop (length (planes k xs)) old) in
        let b = length-drop (length (planes k xs)) old in
        let c = all in
        let s = w.same_size_lem in
        omega arith

    at : (p : ℕ) (b : Bool) → ltb p (k * n) ≡ b → get_or out p 0 ≡ get_or (over (planes k xs) old) p 0
    at p true q =
        let l = ltb-true p (k * n) q in
        let d = div-add-mod' p n in
        let a = all in
        ap (λ (i : ℕ). get_or out i 0) (sym d)
        ∙ w.there (p / n) (p % n) (plane_of n k p (subst (λ (m : ℕ). p < m) (mul_comm k n) l)) (subst (λ (m : ℕ). p % n < m) (sym all_in) (mod-lt p z))
        ∙ ap (λ (m : ℕ). byte_at (get_or xs (p % m) 0) (p / m)) (sym e)
        ∙ sym (get_or_planes k xs p (subst (λ (m : ℕ). p < k * m) (sym e) l))
        ∙ sym (get_or-append (planes k xs) (drop (length (planes k xs)) old) 0 p (omega arith))
    at p false q =
        let l = ltb-false p (k * n) q in
        let a = all in
        let s : length (planes k xs) + (p - k * n) ≡ p = omega arith in
        w.behind p l
        ∙ ap (λ (i : ℕ). get_or old i 0) (sym s)
        ∙ sym (get_or-drop (length (planes k xs)) old (p - k * n) 0)
        ∙ sym (get_or-append-add (planes k xs) (drop (length (planes k xs)) old) (p - k * n) 0)
        ∙ ap (λ (i : ℕ). get_or (over (planes k xs) old) i 0) s
