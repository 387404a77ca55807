-- Pieces that are refused with listed numbers only, as soon as their parts are.
use Prim.Native.Nat.{ℕ, zero, suc, ◌+◌, ◌^◌}
use mathlib.Core.List.{List, [], ◌∷◌, ◌++◌}
use mathlib.Core.Bool.{Bool, true, false}
use mathlib.Core.Path.{◌≡◌, refl}
use lib.Dec.{ltb, leb}
use lib.ListN.{length}
use Rattle.wire.specs.Reading.{unless}
use Rattle.envelope.specs.Envelope.{ceiling}
use Rattle.refusals.specs.Refusals.{among}
use Rattle.writing.specs.Piece.{Piece, first, put, nothing, ◌&◌, record_piece, pieces, list_piece, tested_first, tested_last, enveloped}

-- 0, or one of these numbers
abbrev pub Allowed : List ℕ → ℕ → Type 0
Allowed ns n = among (0 ∷ ns) n ≡ true

-- a piece is refused with none but these numbers
pub record Gives (ns : List ℕ) (x : Piece) : Type 0 where
  pub number : Allowed ns x.number

module _ (ns : List ℕ) where
  none_allowed : Allowed ns 0
  unfolding among
  none_allowed = refl

  pub unless_allowed : (b : Bool) (k rest : ℕ) → Allowed ns k → Allowed ns rest → Allowed ns (unless b k rest)
  unless_allowed true k rest a c = c
  unless_allowed false k rest a c = a

  -- a test with one number
  pub test_allowed : (b : Bool) (k : ℕ) → Allowed ns k → Allowed ns (unless b k 0)
  test_allowed b k a = unless_allowed b k 0 a none_allowed

  pub first_allowed : (a b : ℕ) → Allowed ns a → Allowed ns b → Allowed ns (first a b)
  first_allowed zero b p q = q
  first_allowed (suc a) b p q = p

pub nothing_gives : {ns : List ℕ} → Gives ns nothing
nothing_gives {ns} = record { number = none_allowed ns }

-- a number, whose verdict is asked for only where it fits
pub put_gives : {ns : List ℕ} (k bits : ℕ) (verdict : ℕ → ℕ) (n : ℕ) → Allowed ns 25 → (ltb n (2 ^ bits) ≡ true → Allowed ns (verdict n)) → Gives ns (put k bits verdict n)
put_gives {ns} k bits verdict n wide good = record { number = by (ltb n (2 ^ bits)) good }
  where
    by : (b : Bool) → (b ≡ true → Allowed ns (verdict n)) → Allowed ns (unless b 25 (verdict n))
    by true good = good refl
    by false good = wide

pub and_gives : {ns : List ℕ} {x y : Piece} → Gives ns x → Gives ns y → Gives ns (x & y)
and_gives {ns} {x} {y} p q = record { number = first_allowed ns x.number y.number p.number q.number }

pub record_gives : {ns : List ℕ} {x : Piece} → Gives ns x → Gives ns (record_piece x)
record_gives p = record { number = p.number }

pieces_give : {ns : List ℕ} {A : Type 0} (f : List A → A → Piece) → ((done : List A) (a : A) → Gives ns (f done a)) → (rows done : List A) → Gives ns (pieces f done rows)
unfolding pieces
pieces_give f each [] done = nothing_gives
pieces_give f each (a ∷ rows) done = and_gives (each done a) (pieces_give f each rows (done ++ (a ∷ [])))

pub list_gives : {ns : List ℕ} {A : Type 0} (verdict : ℕ → ℕ) (f : List A → A → Piece) → ((n : ℕ) → Allowed ns (verdict n)) → ((done : List A) (a : A) → Gives ns (f done a)) → (rows : List A)
    → Gives ns (list_piece verdict f rows)
list_gives {ns} verdict f count each rows = record { number = first_allowed ns (verdict (length rows)) (pieces f [] rows).number (count (length rows)) (pieces_give f each rows []).number }

pub envelope_gives : {ns : List ℕ} {x : Piece} (version minimum : ℕ) → Allowed ns 1 → Gives ns x → Gives ns (enveloped version minimum x)
envelope_gives {ns} {x} version minimum long p = record { number = unless_allowed ns (leb (8 + x.long) ceiling) 1 x.number long p.number }

pub last_gives : {ns : List ℕ} {x : Piece} (n : ℕ) → Gives ns x → Allowed ns n → Gives ns (tested_last x n)
last_gives {ns} {x} n p a = record { number = first_allowed ns x.number n p.number a }

pub tested_gives : {ns : List ℕ} {x : Piece} (b : Bool) (n : ℕ) → Allowed ns n → Gives ns x → Gives ns (tested_first b n x)
tested_gives {ns} {x} b n a p = record { number = unless_allowed ns b n x.number a p.number }
