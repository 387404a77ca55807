-- How the reader's rules take frames around pieces.
use Prim.Native.Nat.{ℕ, zero, suc, ◌+◌, ◌*◌, ◌-◌, ◌^◌, ◌≤◌, ◌<◌}
use mathlib.Core.List.{List, [], ◌∷◌, ◌++◌, append_assoc, append-nil}
use mathlib.Core.Bool.{Bool, true, false}
use mathlib.Core.Path.{◌≡◌, refl, ap, ◌∙◌, subst}
use native.Mathlib.Omega.{arith}
use native.Mathlib.Nat.{add-zero}
use lib.Dec.{eqb}
use borrow.Author.Tests.{eq-eqb, ne_eqb}
use lib.ListN.{length, take, length-append}
use Rattle.numbers.specs.Choice.{pick}
use Rattle.numbers.specs.Numbers.{little}
use Rattle.wire.specs.Reading.{Step, found, refused, Rule, fault, after, in_item}
use Rattle.frames.specs.Frames.{closed_by, closed, record_head, record_body, record_of, list_stop, list_count, count_judged, list_body, list_of, within, items}
use Rattle.wire.specs.declared.Fault.{Fault}
use Rattle.frames.specs.declared.ListHead.{ListHead}
use Rattle.wire.specs.declared.Kind.TheVariants.{Frame}
use Rattle.tree.specs.Bytes.{spelled, Stands}
use Rattle.tree.specs.Shape.{record_bytes, list_bytes, Means, none, more}
use Rattle.tree.proofs.Place.{length_spelled, stands_left, stands_right, little_spelled, container_in}
use Rattle.numbers.proofs.Choice.{both_true}
use Rattle.tree.proofs.Frames.{closed_complete, record_head_complete, list_count_is}
use Rattle.writing.specs.Piece.{Piece, first, record_piece, pieces, list_piece}
use Rattle.writing.proofs.Sure.{first_none, list_bytes_long}
use Rattle.writing.proofs.ReadBack.{At, Found, RefusedBy, Reads, left_at, right_at}

-- a record frame

-- a record frame around bytes: what is in it is read in a container of its own
record InRecord {A : Type 0} (s : List ℕ) (strict : Bool) (R : Rule A) (end p : ℕ) (bs : List ℕ) : Type 0 where
  body : At s (p + 4 + length bs) (p + 4) bs
  is : record_of strict R (take end s) p ≡ closed strict (p + 4 + length bs) (R (take (p + 4 + length bs) s) (p + 4))

in_record : {A : Type 0} (s : List ℕ) (strict : Bool) (R : Rule A) (end p : ℕ) (bs : List ℕ) → length s < 2 ^ 31 → At s end p (record_bytes bs)
    → InRecord s strict R end p bs
unfolding record_of
in_record s strict R end p bs small at =
    let n = 4 + length bs in
    let word = length_spelled 4 n in
    let long = length-append (spelled 4 n) bs in
    let inside = at.inside in
    let room = at.room in
    let there : little 4 s p ≡ n = little_spelled 4 n (omega arith) (stands_left (spelled 4 n) bs at.stands) in
    let stop : p + n ≡ p + 4 + length bs = omega arith in
    let head : record_head (take end s) p ≡ found (p + 4) (p + n) = record_head_complete s end p n inside there (omega arith) (omega arith) (omega arith) in
    let frame : take (p + 4 + length bs) (take end s) ≡ take (p + 4 + length bs) s = container_in s end inside (p + 4 + length bs) (omega arith) in
    record {
      body = record { inside = omega arith; stands = rw word at (stands_right (spelled 4 n) bs at.stands); room = omega arith };
      is = ap (record_body strict R (take end s)) (head ∙ ap (found (p + 4)) stop) ∙ ap (λ (c : List ℕ). closed strict (p + 4 + length bs) (R c (p + 4))) frame;
    }

pub record_reads : {A : Type 0} {s : List ℕ} {R : Rule A} {x : Piece} {M : A → Type 0} (strict : Bool) → length s < 2 ^ 31 → Reads s R x M
    → Reads s (record_of strict R) (record_piece x) M
record_reads {s = s} {R = R} {x = x} strict small law =
    record {
      finds = λ end p at good.
          let i = in_record s strict R end p x.bytes small at in
          let stop = p + 4 + length x.bytes in
          let r = law.finds stop (p + 4) i.body good in
          let same : stop ≡ p + length (record_bytes x.bytes) = omega (arith, length-append (spelled 4 (4 + length x.bytes)) x.bytes, length_spelled 4 (4 + length x.bytes)) in
          record {
            value = r.value;
            is = i.is ∙ ap (closed strict stop) r.is ∙ closed_complete (λ f. f) strict stop r.value stop (λ _. omega arith) ∙ ap (found r.value) same;
            means = r.means;
          };
      refuses = λ end p at fits bad.
          let i = in_record s strict R end p x.bytes small at in
          let stop = p + 4 + length x.bytes in
          let r = law.refuses stop (p + 4) i.body fits bad in
          record { by = r.by; is = i.is ∙ ap (closed strict stop) r.is; number = r.number };
    }

-- items

within_by : (head i : ℕ) (f : Fault) → (in_item head i f).number ≡ f.number
unfolding in_item
within_by head i f = go (eqb f.list 0)
  where
    go : (b : Bool) → (pick b (record { number = f.number; place = f.place; kind = f.kind; list = head; item = i }) f).number ≡ f.number
    go true = refl
    go false = refl

module _ {A C : Type 0} (s : List ℕ) (head : ℕ) (r : List A → Rule A) (f : List C → C → Piece) (M : List C → C → A → Type 0) (law : (done : List C) (before : List A) → Means M done before → (c : C) → Reads s (r before) (f done c) (M done c)) where
  items_find : (cs done : List C) (before : List A) → Means M done before → (end p : ℕ) → At s end p (pieces f done cs).bytes → (pieces f done cs).number ≡ 0
      → Found (items head r (length cs) before (take end s) p) (p + length (pieces f done cs).bytes) (Means M (done ++ cs))
  unfolding items pieces
  items_find [] done before m end p at good = record { value = before; is = rw (add-zero p) refl; means = rw append-nil m }
  items_find (c ∷ cs) done before m end p at good =
      let x = f done c in
      let y = pieces f (done ++ (c ∷ [])) cs in
      let (n, k) = first_none x.number y.number good in
      let one = (law done before m c).finds end p (left_at s x.bytes y.bytes at) n in
      let two = items_find cs (done ++ (c ∷ [])) (before ++ (one.value ∷ [])) (more m one.means) end (p + length x.bytes) (right_at s x.bytes y.bytes at) k in
      let stop : p + length x.bytes + length y.bytes ≡ p + length (x.bytes ++ y.bytes) = omega (arith, length-append x.bytes y.bytes) in
      record {
        value = two.value;
        is = ap (λ (z : Step A). after (λ v. items head r (length cs) (before ++ (v ∷ []))) (take end s) (within head (length before) z)) one.is ∙ two.is ∙ ap (found two.value) stop;
        means = subst (λ (l : List C). Means M l two.value) (append_assoc done (c ∷ []) cs) two.means;
      }

  items_refuse : (cs done : List C) (before : List A) → Means M done before → (end p : ℕ) → At s end p (pieces f done cs).bytes
      → (pieces f done cs).fits ≡ true → ((pieces f done cs).number ≡ 0 → ⊥)
      → RefusedBy (items head r (length cs) before (take end s) p) (pieces f done cs).number
  unfolding items pieces
  items_refuse [] done before m end p at fits bad = absurd (bad refl)
  items_refuse (c ∷ cs) done before m end p at fits bad =
      let x = f done c in
      let y = pieces f (done ++ (c ∷ [])) cs in
      let (fits₁, fits₂) = both_true x.fits y.fits fits in
      go x.number refl bad
      (λ e b.
      let one = (law done before m c).finds end p (left_at s x.bytes y.bytes at) e in
      let two = items_refuse cs (done ++ (c ∷ [])) (before ++ (one.value ∷ [])) (more m one.means) end (p + length x.bytes) (right_at s x.bytes y.bytes at) fits₂ b in
      record {
        by = two.by;
        is = ap (λ (z : Step A). after (λ v. items head r (length cs) (before ++ (v ∷ []))) (take end s) (within head (length before) z)) one.is ∙ two.is;
        number = two.number;
      })
      (λ b.
      let one = (law done before m c).refuses end p (left_at s x.bytes y.bytes at) fits₁ b in
      record {
        by = in_item head (length before) one.by;
        is = ap (λ (z : Step A). after (λ v. items head r (length cs) (before ++ (v ∷ []))) (take end s) (within head (length before) z)) one.is;
        number = within_by head (length before) one.by ∙ one.number;
      })
    where
      go : {X : Step (List A)} (n : ℕ) → (f done c).number ≡ n → (first n (pieces f (done ++ (c ∷ [])) cs).number ≡ 0 → ⊥)
          → ((f done c).number ≡ 0 → ((pieces f (done ++ (c ∷ [])) cs).number ≡ 0 → ⊥) → RefusedBy X (pieces f (done ++ (c ∷ [])) cs).number)
          → (((f done c).number ≡ 0 → ⊥) → RefusedBy X (f done c).number)
          → RefusedBy X (first n (pieces f (done ++ (c ∷ [])) cs).number)
      go zero e b later now = later e b
      go (suc n) e b later now =
          let r' = now (λ z. absurd (omega (arith, e, z))) in
          record { by = r'.by; is = r'.is; number = r'.number ∙ e }

-- a list frame

-- a list frame around bytes: its head is read, and its items in a container of their own
record InList {A : Type 0} (s : List ℕ) (strict : Bool) (verdict : ℕ → ℕ) (r : ℕ → List A → Rule A) (end p n : ℕ) (bs : List ℕ) : Type 0 where
  body : At s (p + 8 + length bs) (p + 8) bs
  good : verdict n ≡ 0
      → list_of strict verdict r (take end s) p ≡ closed_by (in_item p n) strict (p + 8 + length bs) (items p (r n) n [] (take (p + 8 + length bs) s) (p + 8))
  bad : (verdict n ≡ 0 → ⊥) → list_of strict verdict r (take end s) p ≡ refused (fault (verdict n) Frame p)

in_list : {A : Type 0} (s : List ℕ) (strict : Bool) (verdict : ℕ → ℕ) (r : ℕ → List A → Rule A) (end p n : ℕ) (bs : List ℕ) → length s < 2 ^ 31 → n < 2 ^ 28
    → At s end p (list_bytes n bs) → InList s strict verdict r end p n bs
unfolding list_of count_judged
in_list s strict verdict r end p n bs small few at =
    let size = 8 + length bs in
    let b₁ = spelled 4 (2 ^ 32 - size) in
    let b₂ = spelled 4 n in
    let long₁ = length_spelled 4 (2 ^ 32 - size) in
    let long₂ = length_spelled 4 n in
    let long = list_bytes_long n bs in
    let inside = at.inside in
    let room = at.room in
    let there : little 4 s p ≡ 2 ^ 32 - size = little_spelled 4 (2 ^ 32 - size) (omega arith) (stands_left b₁ (b₂ ++ bs) at.stands) in
    let second : Stands s (p + 4) (b₂ ++ bs) = rw long₁ at (stands_right b₁ (b₂ ++ bs) at.stands) in
    let there' : little 4 s (p + 4) ≡ n = little_spelled 4 n (omega arith) (stands_left b₂ bs second) in
    let place : p + 4 + length b₂ ≡ p + 8 = omega arith in
    let stop : p + size ≡ p + 8 + length bs = omega arith in
    let head : list_count (take end s) p (list_stop (take end s) p) ≡ found (record { count = n; start = p + 8 }) (p + 8 + length bs) = rw stop at (list_count_is s end p size n inside there there' (omega arith) (omega arith) few (omega arith)) in
    let frame : take (p + 8 + length bs) (take end s) ≡ take (p + 8 + length bs) s = container_in s end inside (p + 8 + length bs) (omega arith) in
    record {
      body = record { inside = omega arith; stands = rw place at (stands_right b₂ bs second); room = omega arith };
      good = λ e.
          let yes : eqb (verdict n) 0 ≡ true = eq-eqb (verdict n) 0 e in
          ap (λ (h : Step ListHead). list_body strict r (take end s) p (count_judged verdict p h)) head ∙ rw yes refl
          ∙ ap (λ (c : List ℕ). closed_by (in_item p n) strict (p + 8 + length bs) (items p (r n) n [] c (p + 8))) frame;
      bad = λ e.
          let no : eqb (verdict n) 0 ≡ false = ne_eqb (verdict n) 0 e in
          ap (λ (h : Step ListHead). list_body strict r (take end s) p (count_judged verdict p h)) head ∙ rw no refl;
    }

-- a list of few items, whose count stays below the reserved bits
pub list_reads : {A C : Type 0} (s : List ℕ) (strict : Bool) (verdict : ℕ → ℕ) (r : ℕ → List A → Rule A) (f : List C → C → Piece) (M : List C → C → A → Type 0) (rows : List C)
    → length s < 2 ^ 31 → length rows < 2 ^ 28
    → ((done : List C) (before : List A) → Means M done before → (c : C) → Reads s (r (length rows) before) (f done c) (M done c))
    → Reads s (list_of strict verdict r) (list_piece verdict f rows) (Means M rows)
list_reads {A} {C} s strict verdict r f M rows small few law =
    record {
      finds = λ end p at good.
          let i = in_list s strict verdict r end p n bs small few at in
          let (counted, fine) = first_none (verdict n) x.number good in
          let stop = p + 8 + length bs in
          let got = items_find s p (r n) f M law rows [] [] none stop (p + 8) i.body fine in
          let same : stop ≡ p + length (list_bytes n bs) = omega (arith, list_bytes_long n bs) in
          record {
            value = got.value;
            is = i.good counted ∙ ap (closed_by (in_item p n) strict stop) got.is ∙ closed_complete (in_item p n) strict stop got.value stop (λ _. omega arith) ∙ ap (found got.value) same;
            means = got.means;
          };
      refuses = λ end p at fits bad. go end p (in_list s strict verdict r end p n bs small few at) fits (verdict n) refl bad;
    }
  where
    n : ℕ
    n = length rows

    x : Piece
    x = pieces f [] rows

    bs : List ℕ
    bs = x.bytes

    go : (end p : ℕ) → InList s strict verdict r end p n bs → x.fits ≡ true → (v : ℕ) → verdict n ≡ v → (first v x.number ≡ 0 → ⊥)
        → RefusedBy (list_of strict verdict r (take end s) p) (first v x.number)
    go end p i fits zero e bad =
        let got = items_refuse s p (r n) f M law rows [] [] none (p + 8 + length bs) (p + 8) i.body fits bad in
        record { by = got.by; is = i.good e ∙ ap (closed_by (in_item p n) strict (p + 8 + length bs)) got.is; number = got.number }
    go end p i fits (suc v) e bad = record { by = fault (verdict n) Frame p; is = i.bad (λ z. absurd (omega (arith, e, z))); number = e }

-- the same where each item has eight bytes or more, so that there are few
items_long : {C : Type 0} (f : List C → C → Piece) → ((done : List C) (c : C) → 8 ≤ length (f done c).bytes) → (rows done : List C)
    → 8 * length rows ≤ length (pieces f done rows).bytes
unfolding pieces
items_long f some [] done = omega arith
items_long f some (c ∷ rows) done =
    let x = f done c in
    let y = pieces f (done ++ (c ∷ [])) rows in
    omega (arith, some done c, items_long f some rows (done ++ (c ∷ [])), length-append x.bytes y.bytes)

pub long_list_reads : {A C : Type 0} (s : List ℕ) (strict : Bool) (verdict : ℕ → ℕ) (r : ℕ → List A → Rule A) (f : List C → C → Piece) (M : List C → C → A → Type 0) (rows : List C)
    → length s < 2 ^ 31 → ((done : List C) (c : C) → 8 ≤ length (f done c).bytes)
    → ((done : List C) (before : List A) → Means M done before → (c : C) → Reads s (r (length rows) before) (f done c) (M done c))
    → Reads s (list_of strict verdict r) (list_piece verdict f rows) (Means M rows)
long_list_reads s strict verdict r f M rows small some law =
    record {
      finds = λ end p at good. (list_reads s strict verdict r f M rows small (few end p at) law).finds end p at good;
      refuses = λ end p at fits bad. (list_reads s strict verdict r f M rows small (few end p at) law).refuses end p at fits bad;
    }
  where
    few : (end p : ℕ) → At s end p (list_piece verdict f rows).bytes → length rows < 2 ^ 28
    few end p at = omega (arith, at.inside, at.room, list_bytes_long (length rows) (pieces f [] rows).bytes, items_long f some rows [])
