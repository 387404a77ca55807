-- What a writer answers, for any piece: each of its ends, by what was found out before it.
use Prim.Native.Nat.{ℕ, ◌+◌, ◌≤◌, ◌<◌}
use mathlib.Core.List.{List}
use mathlib.Core.Bool.{Bool, true, false}
use mathlib.Core.Path.{◌≡◌, refl, sym, ap, ◌∙◌}
use native.Mathlib.Omega.{arith}
use lib.ListN.{length}
use lib.Dec.{leb, eqb}
use borrow.Author.Tests.{le-leb, lt-leb, eq-eqb, ne_eqb}
use Rattle.numbers.specs.Rows.{over}
use Rattle.wire.specs.Reading.{Step, found, refused, unless}
use Rattle.wire.specs.declared.Fault.{Fault}
use Rattle.envelope.specs.Envelope.{ceiling}
use Rattle.header.specs.Header.{Header}
use Rattle.header.specs.Beside.{read}
use Rattle.writing.specs.Piece.{Piece, first, tested_last, enveloped}
use Rattle.writing.specs.Answers.{Answered, verdict, answer, left, beside_header, outcome_of}
use Rattle.writing.specs.Answer.{WriteAnswer}
use Rattle.stores.specs.Stored.{InFront}
use Rattle.std.specs.Prelude.{Ok, Err}

-- a length that was counted up to the ceiling: n itself where it is not above that, else anything above
pub record Counted (n long : ℕ) : Type 0 where
  pub above : ceiling < long → ceiling < n
  pub within : long ≤ ceiling → long ≡ n

-- the bytes of a piece are as many as it says, where nothing of it is refused
abbrev pub Exact : Piece → Type 0
Exact x = x.number ≡ 0 → length x.bytes ≡ x.long

-- the length of an envelope comes before what is tested last
pub length_first : (version minimum : ℕ) (y : Piece) (n : ℕ) → (tested_last (enveloped version minimum y) n).number ≡ unless (leb (8 + y.long) ceiling) 1 (first y.number n)
length_first version minimum y n = by (leb (8 + y.long) ceiling)
  where
    by : (b : Bool) → first (unless b 1 y.number) n ≡ unless b 1 (first y.number n)
    by true = refl
    by false = refl

-- a refusal by its envelope and number
abbrev refused_by : ℕ → ℕ → WriteAnswer
refused_by k n = Err (record { envelope = k; number = n })

module _ (k : ℕ) (x : Piece) (out : List ℕ) where
  answered : (out' : List ℕ) (r : WriteAnswer) → r ≡ answer k (length out) (read x) → out' ≡ left out (read x) → Answered k (read x) out out' r
  answered out' r is bytes = record { answers = is; reports = ap outcome_of is; bytes_are = bytes }

  -- something is refused
  pub refused_answer : (n : ℕ) → n ≡ x.number → (n ≡ 0 → ⊥) → Answered k (read x) out out (Err (record { envelope = k; number = n }))
  unfolding answer verdict left
  refused_answer n e bad =
      let refuses : eqb x.number 0 ≡ false = ne_eqb x.number 0 (λ z. bad (e ∙ z)) in
      answered out (refused_by k n) (rw refuses (ap (refused_by k) e)) (rw refuses refl)

  -- nothing is refused, and there is no room
  pub roomless : x.number ≡ 0 → length out < x.long → Answered k (read x) out out (Err (record { envelope = k; number = 20 }))
  unfolding answer verdict left
  roomless good few =
      let fine : eqb x.number 0 ≡ true = eq-eqb x.number 0 good in
      let small : leb x.long (length out) ≡ false = lt-leb x.long (length out) few in
      answered out (Err (record { envelope = k; number = 20 })) (rw (fine, small) refl) (rw (fine, small) refl)

  -- nothing is refused, and there is room
  pub wrote : (out' : List ℕ) → x.number ≡ 0 → x.long ≤ length out → out' ≡ over x.bytes out → Answered k (read x) out out' (Ok x.long)
  unfolding answer verdict left
  wrote out' good enough is =
      let fine : eqb x.number 0 ≡ true = eq-eqb x.number 0 good in
      let room : leb x.long (length out) ≡ true = le-leb x.long (length out) enough in
      answered out' (Ok x.long) (rw (fine, room) refl) (rw (fine, room) is)

  -- a piece whose length is tested first: n is the number of all that comes after that
  module _ (n : ℕ) (first-long : x.number ≡ unless (leb x.long ceiling) 1 n) (long : ℕ) (counted : Counted x.long long) where
    pub long_answer : ceiling < long → Answered k (read x) out out (Err (record { envelope = k; number = 1 }))
    long_answer big =
        let long_is : leb x.long ceiling ≡ false = lt-leb x.long ceiling (counted.above big) in
        refused_answer 1 (sym (first-long ∙ ap (λ b. unless b 1 n) long_is)) (λ z. absurd (omega (arith, z)))

    module _ (short : long ≤ ceiling) where
      exact : long ≡ x.long
      exact = counted.within short

      number_is_lem : n ≡ x.number
      number_is_lem =
          let e = exact in
          let short_is : leb x.long ceiling ≡ true = le-leb x.long ceiling (omega arith) in
          sym (first-long ∙ ap (λ b. unless b 1 n) short_is)

      pub number_answer : (n ≡ 0 → ⊥) → Answered k (read x) out out (Err (record { envelope = k; number = n }))
      number_answer bad = refused_answer n number_is_lem bad

      pub room_answer : n ≡ 0 → length out < long → Answered k (read x) out out (Err (record { envelope = k; number = 20 }))
      room_answer good few = let e = exact in roomless (sym number_is_lem ∙ good) (omega arith)

      pub written_answer : (out' : List ℕ) → Exact x → n ≡ 0 → long ≤ length out → InFront x out out' → Answered k (read x) out out' (Ok long)
      written_answer out' same good enough stands =
          let e = exact in
          let fine = sym number_is_lem ∙ good in
          let bytes = same fine in
          rw e (wrote out' fine (omega arith) (stands (omega arith)))

-- what is written beside a header: the header's refusal first
module _ (k : ℕ) (x : Header → Piece) (out : List ℕ) {s : Step Header} where
  pub header_refused_lem : {f : Fault} → s ≡ refused f → Answered k (beside_header x s) out out (Err (record { envelope = 1; number = f.number }))
  unfolding answer left
  header_refused_lem e = rw e (record { answers = refl; reports = refl; bytes_are = refl })

  pub header_found : {h : Header} {p : ℕ} {out' : List ℕ} {r : WriteAnswer} → s ≡ found h p → Answered k (read (x h)) out out' r → Answered k (beside_header x s) out out' r
  header_found e a = rw e a
