-- What is not refused fits its place, and what fits is as long as it is said to be.
use Prim.Native.Nat.{ℕ, zero, suc, ◌+◌, ◌-◌, ◌^◌}
use mathlib.Core.List.{List, [], ◌∷◌, ◌++◌}
use mathlib.Core.Bool.{Bool, true, false}
use mathlib.Core.Path.{◌≡◌, refl, sym, ap, ◌∙◌}
use native.Mathlib.Omega.{arith}
use lib.Dec.{ltb, leb}
use borrow.Author.Tests.{leb-true}
use lib.ListN.{length, drop, length-append, length-drop}
use lib.Seq.{length-take-le}
use Rattle.checksum.specs.Crc.{crc32}
use Rattle.wire.specs.Reading.{unless}
use Rattle.envelope.specs.Envelope.{ceiling}
use Rattle.rows.specs.declared.Text.{Text}
use Rattle.tree.specs.Bytes.{spelled}
use Rattle.tree.specs.Shape.{list_bytes, chars}
use Rattle.tree.specs.EnvelopeTree.{sealed}
use Rattle.tree.proofs.Place.{length_spelled}
use Rattle.numbers.specs.Lists.{Each}
use Rattle.numbers.proofs.Lists.{each_append}
use Rattle.numbers.proofs.Choice.{clash, both_true}
use Rattle.writing.proofs.Items.{first_alone, first_assoc}
use Rattle.writing.specs.Piece.{Place, placed, Piece, first, first_of, alone, put, lies, text, nothing, ◌&◌, record_piece, pieces, list_piece, enveloped}

-- an envelope
pub record Whole (x : Piece) : Type 0 where
  pub fits : x.number ≡ 0 → x.fits ≡ true
  pub long : x.fits ≡ true → length x.bytes ≡ x.long

-- what does not fit is refused
abbrev pub Outside : Place → Type 0
Outside p = p.fits ≡ false → p.number ≡ 0 → ⊥

-- a part of its payload, which is refused front to back
pub record Sure (x : Piece) : Type 0 where
  pub fits : x.number ≡ 0 → x.fits ≡ true
  pub long : x.fits ≡ true → length x.bytes ≡ x.long
  pub order : x.number ≡ first_of x.places
  pub outside : Each Outside x.places

pub first_none : (n m : ℕ) → first n m ≡ 0 → (n ≡ 0) × (m ≡ 0)
first_none zero m e = (refl, e)
first_none (suc n) m e = absurd (omega arith)

-- a test that is passed, by the number of what it refuses
pub unless_none : (b : Bool) (k rest : ℕ) → unless b (suc k) rest ≡ 0 → (b ≡ true) × (rest ≡ 0)
unless_none true k rest e = (refl, e)
unless_none false k rest e = absurd (omega arith)

-- one place alone
pub alone_sure : (bytes : List ℕ) (long : ℕ) (fits : Bool) (k verdict : ℕ) → (fits ≡ true → length bytes ≡ long) → Sure (alone bytes long (placed fits (suc k) verdict))
alone_sure bytes long fits k verdict size =
    record {
      fits = λ e. (unless_none fits k verdict e).0;
      long = size;
      order = sym (first_alone (unless fits (suc k) verdict));
      outside = (λ unfit none. clash (unless_none fits k verdict none).0 unfit, tt);
    }

pub put_sure : (k bits : ℕ) (verdict : ℕ → ℕ) (n : ℕ) → Sure (put k bits verdict n)
put_sure k bits verdict n = alone_sure (spelled k n) k (ltb n (2 ^ bits)) 24 (verdict n) (λ _. length_spelled k n)

-- the characters of a string that lies in the lent strings
pub chars_long : (strings : List ℕ) (t : Text) → lies strings t ≡ true → length (chars strings t) ≡ t.len
chars_long strings t e =
    length-take-le t.len (drop t.place strings) (omega (arith, leb-true (t.place + t.len) (length strings) e, length-drop t.place strings))

pub text_sure : (strings : List ℕ) (t : Text) → Sure (text strings t)
unfolding text
text_sure strings t =
    let cs = chars strings t in
    alone_sure _ (4 + t.len) (lies strings t) 6 _
    (λ e. omega (arith, length-append (spelled 4 (length cs)) cs, length_spelled 4 (length cs), chars_long strings t e))

pub nothing_sure : Sure nothing
nothing_sure = record { fits = λ _. refl; long = λ _. refl; order = refl; outside = tt }

pub first_of_join : (ps qs : List Place) → first_of (ps ++ qs) ≡ first (first_of ps) (first_of qs)
first_of_join [] qs = refl
first_of_join (p ∷ ps) qs = ap (first p.number) (first_of_join ps qs) ∙ sym (first_assoc p.number (first_of ps) (first_of qs))

pub and_sure : {x y : Piece} → Sure x → Sure y → Sure (x & y)
and_sure {x} {y} a b =
    record {
      fits = λ e. let (n, m) = first_none x.number y.number e in rw (a.fits n, b.fits m) refl;
      long = λ e.
          let (f, g) = both_true x.fits y.fits e in
          omega (arith, length-append x.bytes y.bytes, a.long f, b.long g);
      order = (λ i. first (a.order i) (b.order i)) ∙ sym (first_of_join x.places y.places);
      outside = each_append Outside x.places y.places a.outside b.outside;
    }

pub record_sure : {x : Piece} → Sure x → Sure (record_piece x)
record_sure {x} a =
    record {
      fits = a.fits;
      long = λ e. omega (arith, length-append (spelled 4 (4 + length x.bytes)) x.bytes, length_spelled 4 (4 + length x.bytes), a.long e);
      order = a.order;
      outside = a.outside;
    }

pub pieces_sure : {A : Type 0} (f : List A → A → Piece) → ((done : List A) (a : A) → Sure (f done a)) → (rows done : List A) → Sure (pieces f done rows)
unfolding pieces
pieces_sure f sure [] done = nothing_sure
pieces_sure f sure (a ∷ rows) done = and_sure (sure done a) (pieces_sure f sure rows (done ++ (a ∷ [])))

pub list_bytes_long : (n : ℕ) (body : List ℕ) → length (list_bytes n body) ≡ 8 + length body
list_bytes_long n body =
    let word = spelled 4 (2 ^ 32 - (8 + length body)) in
    omega (arith, length-append word (spelled 4 n ++ body), length-append (spelled 4 n) body, length_spelled 4 (2 ^ 32 - (8 + length body)), length_spelled 4 n)

pub list_sure : {A : Type 0} (verdict : ℕ → ℕ) (f : List A → A → Piece) → ((done : List A) (a : A) → Sure (f done a)) → (rows : List A)
    → Sure (list_piece verdict f rows)
list_sure verdict f sure rows =
    let inside = pieces_sure f sure rows [] in
    record {
      fits = λ e. inside.fits (first_none (verdict (length rows)) (pieces f [] rows).number e).1;
      long = λ e. omega (arith, list_bytes_long (length rows) (pieces f [] rows).bytes, inside.long e);
      order = ap (first (verdict (length rows))) inside.order;
      outside = (λ unfit. clash refl unfit, inside.outside);
    }

pub envelope_sure : {x : Piece} (version minimum : ℕ) → Sure x → Whole (enveloped version minimum x)
unfolding sealed
envelope_sure {x} version minimum a =
    let u = spelled 2 version ++ (spelled 2 minimum ++ x.bytes) in
    record {
      fits = λ e. a.fits (unless_none (leb (8 + x.long) ceiling) 0 x.number e).1;
      long = λ e.
          omega (arith, length-append u (spelled 4 (crc32 u)), length-append (spelled 2 version) (spelled 2 minimum ++ x.bytes), length-append (spelled 2 minimum) x.bytes, length_spelled 4 (crc32 u), length_spelled 2 version, length_spelled 2 minimum, a.long e);
    }
