-- How the reader's rules take the bytes of a piece: they find it where the piece is not refused, and where it fits they refuse it by its number.
use Prim.Native.Nat.{ℕ, zero, suc, ◌+◌, ◌-◌, ◌^◌, ◌≤◌, ◌<◌}
use mathlib.Core.List.{List, ◌++◌}
use mathlib.Core.Bool.{Bool, true, false}
use mathlib.Core.Path.{◌≡◌, refl, sym, ap, ◌∙◌}
use native.Mathlib.Omega.{arith}
use native.Mathlib.Nat.{add-zero}
use lib.Dec.{ltb, leb, eqb}
use borrow.Author.Tests.{ltb-true, le-leb, eq-eqb, ne_eqb}
use lib.ListN.{length, take, drop, length-append}
use Rattle.numbers.specs.Choice.{pick}
use Rattle.numbers.specs.Numbers.{little}
use Rattle.wire.specs.Reading.{Step, found, refused, Rule, fault, after, ◌>>=◌, give, here, number, judged, tested, unless}
use Rattle.text.specs.Strings.{string_of, string}
use Rattle.utf8.specs.WellFormed.{well_formed}
use Rattle.wire.specs.declared.Fault.{Fault}
use Rattle.rows.specs.declared.Text.{Text as TextRow}
use Rattle.wire.specs.declared.Kind.TheVariants.{Text, Number}
use Rattle.tree.specs.Bytes.{spelled, Stands}
use Rattle.tree.specs.Shape.{chars, NoVerdict}
use Rattle.tree.proofs.Place.{length_spelled, stands_left, stands_right, part_stands, little_spelled, container_long, little_container, part_in}
use Rattle.tree.proofs.Simple.{plain_law}
use Rattle.numbers.proofs.Choice.{both_true}
use Rattle.writing.specs.Piece.{Piece, first, put, lies, text, nothing, ◌&◌}
use Rattle.writing.proofs.Sure.{first_none, unless_none}

-- bytes that stand at p, in a container of s that ends at `end`
pub record At (s : List ℕ) (end p : ℕ) (bs : List ℕ) : Type 0 where
  pub inside : end ≤ length s
  pub stands : Stands s p bs
  pub room : p + length bs ≤ end

-- a step found a value that means what it should, with this place after it
pub record Found {A : Type 0} (x : Step A) (q : ℕ) (M : A → Type 0) : Type 0 where
  pub value : A
  pub is : x ≡ found value q
  pub means : M value

-- a step is refused by this number
pub record RefusedBy {A : Type 0} (x : Step A) (n : ℕ) : Type 0 where
  pub by : Fault
  pub is : x ≡ refused by
  pub number : by.number ≡ n

pub record Reads {A : Type 0} (s : List ℕ) (R : Rule A) (x : Piece) (M : A → Type 0) : Type 0 where
  pub finds : (end p : ℕ) → At s end p x.bytes → x.number ≡ 0 → Found (R (take end s) p) (p + length x.bytes) M
  pub refuses : (end p : ℕ) → At s end p x.bytes → x.fits ≡ true → (x.number ≡ 0 → ⊥) → RefusedBy (R (take end s) p) x.number

-- numbers

judged_by : (verdict : ℕ → ℕ) (at n q : ℕ) → (verdict n ≡ 0 → ⊥) → RefusedBy (judged verdict at (found n q)) (verdict n)
unfolding judged
judged_by verdict at n q bad =
    let no : eqb (verdict n) 0 ≡ false = ne_eqb (verdict n) 0 bad in
    record { by = fault (verdict n) Number at; is = rw no refl; number = refl }

judged_good : (verdict : ℕ → ℕ) (at n q : ℕ) → verdict n ≡ 0 → judged verdict at (found n q) ≡ found n q
unfolding judged
judged_good verdict at n q good = let yes : eqb (verdict n) 0 ≡ true = eq-eqb (verdict n) 0 good in rw yes refl

put_number : (bits : ℕ) (verdict : ℕ → ℕ) (n : ℕ) → ltb n (2 ^ bits) ≡ true → unless (ltb n (2 ^ bits)) 25 (verdict n) ≡ verdict n
put_number bits verdict n e = rw e refl

module _ (s : List ℕ) where
  -- a number that fits is read as it is
  number_is_lem : (k n : ℕ) → n < 256 ^ k → (end p : ℕ) → At s end p (spelled k n) → number k (take end s) p ≡ found n (p + length (spelled k n))
  number_is_lem k n small end p at =
      let r = (plain_law s true k).complete end p n at.inside (small, refl) (λ _. tt) at.stands at.room in
      r.reads ∙ ap (λ (m : ℕ). found m (p + length (spelled k n))) r.means

  -- a number with a verdict, which the rule may put in other words
  pub judged_reads : (k bits : ℕ) (verdict verdict' : ℕ → ℕ) (n : ℕ) → 2 ^ bits ≤ 256 ^ k → verdict n ≡ verdict' n
      → Reads s (tested k verdict) (put k bits verdict' n) (λ a. a ≡ n)
  judged_reads k bits verdict verdict' n wide same =
      record {
        finds = λ end p at good.
            let (small, fine) = unless_none (ltb n (2 ^ bits)) 24 (verdict' n) good in
            let is = number_is_lem k n (omega (arith, ltb-true n (2 ^ bits) small)) end p at in
            record { value = n; is = ap (judged verdict p) is ∙ judged_good verdict p n (p + length (spelled k n)) (same ∙ fine); means = refl };
        refuses = λ end p at fits bad.
            let is = number_is_lem k n (omega (arith, ltb-true n (2 ^ bits) fits)) end p at in
            let put_is = put_number bits verdict' n fits in
            let r = judged_by verdict p n (p + length (spelled k n)) (λ z. bad (put_is ∙ sym same ∙ z)) in
            record { by = r.by; is = ap (judged verdict p) is ∙ r.is; number = r.number ∙ same ∙ sym put_is };
      }

  pub number_reads : (k bits : ℕ) (verdict : ℕ → ℕ) (n : ℕ) → 2 ^ bits ≤ 256 ^ k → Reads s (tested k verdict) (put k bits verdict n) (λ a. a ≡ n)
  number_reads k bits verdict n wide = judged_reads k bits verdict verdict n wide refl

  pub plain_reads : (k bits n : ℕ) → 2 ^ bits ≤ 256 ^ k → Reads s (number k) (put k bits NoVerdict n) (λ a. a ≡ n)
  plain_reads k bits n wide =
      record {
        finds = λ end p at good.
            let (small, _) = unless_none (ltb n (2 ^ bits)) 24 0 good in
            record { value = n; is = number_is_lem k n (omega (arith, ltb-true n (2 ^ bits) small)) end p at; means = refl };
        refuses = λ end p at fits bad. absurd (bad (put_number bits NoVerdict n fits));
      }

  -- strings

  string_is : (small : length s < 2 ^ 31) (cs : List ℕ) (end p : ℕ) → At s end p (spelled 4 (length cs) ++ cs)
      → (string (take end s) p ≡ pick (well_formed cs) (found (record { place = p + 4; len = length cs }) (p + length (spelled 4 (length cs) ++ cs))) (refused (fault 9 Text p)))
      × (chars s (record { place = p + 4; len = length cs }) ≡ cs)
  unfolding string_of
  string_is small cs end p at =
      let head = length_spelled 4 (length cs) in
      let long = length-append (spelled 4 (length cs)) cs in
      let inside = at.inside in
      let room = at.room in
      let whole = container_long s end inside in
      let there : little 4 (take end s) p ≡ length cs = little_container s end inside 4 p (omega arith) ∙ little_spelled 4 (length cs) (omega arith) (stands_left (spelled 4 (length cs)) cs at.stands) in
      let room₁ : leb (p + 4) (length (take end s)) ≡ true = le-leb (p + 4) (length (take end s)) (omega arith) in
      let room₂ : leb (p + 4 + length cs) (length (take end s)) ≡ true = le-leb (p + 4 + length cs) (length (take end s)) (omega arith) in
      let right : Stands s (p + 4) cs = rw head at (stands_right (spelled 4 (length cs)) cs at.stands) in
      let part : take (length cs) (drop (p + 4) s) ≡ cs = part_stands right in
      let part' : take (length cs) (drop (p + 4) (take end s)) ≡ cs = part_in s end (p + 4) (length cs) (omega arith) ∙ part in
      let stop : p + 4 + length cs ≡ p + length (spelled 4 (length cs) ++ cs) = omega arith in
      (rw (there, room₁, room₂, part', stop) refl, part)

  string_by : (strings : List ℕ) (t : TextRow) (end p : ℕ) → lies strings t ≡ true → (b : Bool) → well_formed (chars strings t) ≡ b → (x : Step TextRow)
      → string (take end s) p ≡ pick b x (refused (fault 9 Text p)) → (b ≡ true → ⊥)
      → RefusedBy (string (take end s) p) (unless (lies strings t) 7 (unless (well_formed (chars strings t)) 9 0))
  string_by strings t end p fits true e x is bad = absurd (bad refl)
  string_by strings t end p fits false e x is bad = record { by = fault 9 Text p; is = is; number = rw (fits, e) refl }

  pub string_reads : length s < 2 ^ 31 → (strings : List ℕ) (t : TextRow) → Reads s string (text strings t) (λ a. chars s a ≡ chars strings t)
  unfolding text
  string_reads small strings t =
      let cs = chars strings t in
      record {
        finds = λ end p at good.
            let (is, same) = string_is small cs end p at in
            let (_, rest) = unless_none (lies strings t) 6 _ good in
            let (fine, _) = unless_none (well_formed cs) 8 0 rest in
            record { value = record { place = p + 4; len = length cs }; is = is ∙ rw fine refl; means = same };
        refuses = λ end p at fits bad.
            let (is, _) = string_is small cs end p at in
            string_by strings t end p fits (well_formed cs) refl _ is (λ e. bad (rw (fits, e) refl));
      }

  -- what is found may be said in other words
  pub meant_reads : {A : Type 0} {R : Rule A} {x : Piece} {M N : A → Type 0} → ((a : A) → M a → N a) → Reads s R x M → Reads s R x N
  meant_reads says law =
      record {
        finds = λ end p at good. let r = law.finds end p at good in record { value = r.value; is = r.is; means = says r.value r.means };
        refuses = law.refuses;
      }

  -- sequence

  pub give_reads : {A : Type 0} (b : A) (M : A → Type 0) → M b → Reads s (give b) nothing M
  give_reads b M m =
      record {
        finds = λ end p at good. record { value = b; is = rw (add-zero p) refl; means = m };
        refuses = λ end p at fits bad. absurd (bad refl);
      }

  pub here_reads : {B : Type 0} {k : ℕ → Rule B} {x : Piece} {M : B → Type 0} → ((at : ℕ) → Reads s (k at) x M) → Reads s (here >>= k) x M
  here_reads law = record { finds = λ end p at good. (law p).finds end p at good; refuses = λ end p at fits bad. (law p).refuses end p at fits bad }

  pub left_at : {end p : ℕ} (a b : List ℕ) → At s end p (a ++ b) → At s end p a
  left_at a b at = record { inside = at.inside; stands = stands_left a b at.stands; room = omega (arith, at.room, length-append a b) }

  pub right_at : {end p : ℕ} (a b : List ℕ) → At s end p (a ++ b) → At s end (p + length a) b
  right_at a b at = record { inside = at.inside; stands = stands_right a b at.stands; room = omega (arith, at.room, length-append a b) }

  pub next_reads : {A B : Type 0} {R : Rule A} {k : A → Rule B} {x y : Piece} {M : A → Type 0} {N : B → Type 0}
      → Reads s R x M → ((a : A) → M a → Reads s (k a) y N) → Reads s (R >>= k) (x & y) N
  next_reads {A} {B} {R} {k} {x} {y} {M} {N} one two =
      record {
        finds = λ end p at good.
            let (n, m) = first_none x.number y.number good in
            let r = one.finds end p (left_at x.bytes y.bytes at) n in
            let q = (two r.value r.means).finds end (p + length x.bytes) (right_at x.bytes y.bytes at) m in
            let stop : p + length x.bytes + length y.bytes ≡ p + length (x.bytes ++ y.bytes) = omega (arith, length-append x.bytes y.bytes) in
            record { value = q.value; is = ap (after k (take end s)) r.is ∙ q.is ∙ ap (found q.value) stop; means = q.means };
        refuses = λ end p at fits bad. go end p at (both_true x.fits y.fits fits) x.number refl bad;
      }
    where
      go : (end p : ℕ) → At s end p (x.bytes ++ y.bytes) → (x.fits ≡ true) × (y.fits ≡ true) → (n : ℕ) → x.number ≡ n → (first n y.number ≡ 0 → ⊥)
          → RefusedBy (after k (take end s) (R (take end s) p)) (first n y.number)
      go end p at fits zero e bad =
          let r = one.finds end p (left_at x.bytes y.bytes at) e in
          let q = (two r.value r.means).refuses end (p + length x.bytes) (right_at x.bytes y.bytes at) fits.1 bad in
          record { by = q.by; is = ap (after k (take end s)) r.is ∙ q.is; number = q.number }
      go end p at fits (suc n) e bad =
          let r = one.refuses end p (left_at x.bytes y.bytes at) fits.0 (λ z. absurd (omega (arith, e, z))) in
          record { by = r.by; is = ap (after k (take end s)) r.is; number = r.number ∙ e }
