-- The items of a list by the numbers of their rows: the laws of the loops that check, count and write them.
use Prim.Native.Nat.{ℕ, zero, suc, ◌+◌, ◌-◌, ◌≤◌, ◌<◌}
use mathlib.Core.List.{List, [], ◌∷◌, ◌++◌, append_assoc, append-nil}
use mathlib.Core.Path.{◌≡◌, refl, sym, ap, ◌∙◌}
use native.Mathlib.Numerals.{add-one}
use native.Mathlib.Omega.{arith}
use Rattle.numbers.proofs.Choice.{both_assoc, both_right}
use Rattle.rows.specs.Tables.{first_rows}
use Rattle.writing.specs.Piece.{Piece, first, nothing, ◌&◌, pieces}

-- pieces that are the same in each part

alike : (x y : Piece) → x.bytes ≡ y.bytes → x.long ≡ y.long → x.fits ≡ y.fits → x.number ≡ y.number → x.places ≡ y.places → x ≡ y
alike x y b l f n p = λ i. record { bytes = b i; long = l i; fits = f i; number = n i; places = p i }

pub first_alone : (a : ℕ) → first a 0 ≡ a
first_alone zero = refl
first_alone (suc a) = refl

pub first_nonzero : (a b : ℕ) → (a ≡ 0 → ⊥) → a ≡ first a b
first_nonzero zero b n = absurd (n refl)
first_nonzero (suc a) b n = refl

pub first_assoc : (a b c : ℕ) → first (first a b) c ≡ first a (first b c)
first_assoc zero b c = refl
first_assoc (suc a) b c = refl

join_assoc : (x y z : Piece) → (x & y) & z ≡ x & (y & z)
join_assoc x y z =
    alike _ _
    (append_assoc x.bytes y.bytes z.bytes)
    (omega arith)
    (both_assoc x.fits y.fits z.fits)
    (first_assoc x.number y.number z.number)
    (append_assoc x.places y.places z.places)

join_nothing : (x : Piece) → x & nothing ≡ x
join_nothing x = alike _ _ (append-nil x.bytes) (omega arith) (both_right x.fits) (first_alone x.number) (append-nil x.places)

nothing_join : (x : Piece) → nothing & x ≡ x
nothing_join x = alike _ _ refl (omega arith) refl refl refl

-- one item more
module _ {A : Type 0} (f : List A → A → Piece) where
  pub pieces_more : (done xs : List A) (x : A) → pieces f done (xs ++ (x ∷ [])) ≡ pieces f done xs & f (done ++ xs) x
  unfolding pieces
  pieces_more done [] x = join_nothing (f done x) ∙ ap (λ (d : List A). f d x) (sym (append-nil done)) ∙ sym (nothing_join (f (done ++ []) x))
  pieces_more done (y ∷ ys) x =
      ap (λ (p : Piece). f done y & p) (pieces_more (done ++ (y ∷ [])) ys x ∙ ap (λ (d : List A). pieces f (done ++ (y ∷ [])) ys & f d x) (append_assoc done (y ∷ []) ys))
      ∙ sym (join_assoc (f done y) (pieces f (done ++ (y ∷ [])) ys) (f (done ++ (y ∷ ys)) x))

-- the items of the first rows of a table
module _ {A : Type 0} (f : List A → A → Piece) (row : List ℕ → ℕ → A) (table : List ℕ) where
  abbrev pub items : ℕ → Piece
  items n = pieces f [] (first_rows row table n)

  -- and the item of one row after those before it
  abbrev pub item : ℕ → Piece
  item i = f (first_rows row table i) (row table i)

  pub items_none : items 0 ≡ nothing
  unfolding pieces first_rows
  items_none = refl

  pub items_more : (i : ℕ) → items (i + 1) ≡ items i & item i
  unfolding first_rows
  items_more i = ap items (add-one i) ∙ pieces_more f [] (first_rows row table i) (row table i)

  -- a loop has passed i of n rows: nothing of them was refused
  pub record Passed (n i : ℕ) : Type 0 where
    pub most : i ≤ n
    pub none : (items i).number ≡ 0

  pub passed_none : (n : ℕ) → Passed n 0
  passed_none n = record { most = omega arith; none = ap (λ (p : Piece). p.number) items_none }

  number_more : (i : ℕ) → (items (i + 1)).number ≡ first (items i).number (item i).number
  number_more i = ap (λ (p : Piece). p.number) (items_more i)

  pub passed_more : {n i r : ℕ} → Passed n i → i < n → r ≡ (item i).number → r ≡ 0 → Passed n (i + 1)
  passed_more {i = i} p less is good =
      record { most = omega (arith, p.most); none = number_more i ∙ ap (λ (k : ℕ). first k (item i).number) p.none ∙ sym is ∙ good }

  -- a refusal stays that of all rows
  stays : (i k r : ℕ) → (items i).number ≡ r → (r ≡ 0 → ⊥) → (items (i + k)).number ≡ r
  stays i zero r e bad = let same : i + 0 ≡ i = omega arith in ap (λ (m : ℕ). (items m).number) same ∙ e
  stays i (suc k) r e bad =
      let same : i + suc k ≡ i + k + 1 = omega arith in
      let before = stays i k r e bad in
      ap (λ (m : ℕ). (items m).number) same ∙ number_more (i + k) ∙ ap (λ (m : ℕ). first m (item (i + k)).number) before ∙ sym (first_nonzero r (item (i + k)).number bad)

  pub passed_refused : {n i r : ℕ} → Passed n i → i < n → r ≡ (item i).number → (r ≡ 0 → ⊥) → r ≡ (items n).number
  passed_refused {n} {i} {r} p less is bad =
      let here : (items (i + 1)).number ≡ r = number_more i ∙ ap (λ (k : ℕ). first k (item i).number) p.none ∙ sym is in
      let (k, same) = rest n i less in
      sym (ap (λ (m : ℕ). (items m).number) same ∙ stays (i + 1) k r here bad)
    where
      rest : (n i : ℕ) → i < n → (k : ℕ) × (n ≡ i + 1 + k)
      rest n i less = (n - (i + 1), omega arith)

  pub passed_all : {n i : ℕ} → Passed n i → n ≤ i → 0 ≡ (items n).number
  passed_all {n} {i} p h = let same : n ≡ i = omega (arith, p.most) in sym (ap (λ (m : ℕ). (items m).number) same ∙ p.none)
