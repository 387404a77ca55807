-- What a call that has written leaves: the bytes of its piece, of which nothing was refused.
use Prim.Native.Nat.{ℕ}
use mathlib.Core.List.{List}
use mathlib.Core.Bool.{Bool, true, false}
use mathlib.Core.Path.{◌≡◌, refl, sym, ◌∙◌}
use lib.Dec.{leb, eqb}
use borrow.Author.Tests.{eqb-true}
use lib.ListN.{length, take, drop}
use lib.Seq.{take-append_seam}
use Rattle.numbers.specs.Choice.{pick, both}
use Rattle.numbers.specs.Rows.{over}
use Rattle.wire.specs.Reading.{Step, found, refused}
use Rattle.header.specs.Header.{Header}
use Rattle.header.specs.Beside.{read}
use Rattle.writing.specs.Piece.{Piece}
use Rattle.writing.specs.Answer.{WriteAnswer}
use Rattle.writing.specs.Answers.{verdict, answer, left, beside_header, Answered}
use Rattle.std.specs.Prelude.{Ok, Err}

-- a refusal, by its envelope and its number
abbrev refused_by : ℕ → ℕ → WriteAnswer
refused_by k number = Err (record { envelope = k; number = number })

not_written : {B : Type 0} {n k m : ℕ} → Ok n ≡ refused_by k m → B
not_written e = cc

pub record IsWritten (x : Piece) (n : ℕ) (out : List ℕ) : Type 0 where
  pub good : x.number ≡ 0
  pub bytes : take n out ≡ x.bytes

-- by its tests
by_tests : (k n : ℕ) (x : Piece) (out₀ out : List ℕ) (a b : Bool) → (x.number ≡ 0 → length x.bytes ≡ x.long) → (a ≡ true → x.number ≡ 0)
    → Ok n ≡ pick a (pick b (Ok x.long) (refused_by k 20)) (refused_by k x.number) → out ≡ pick (both a b) (over x.bytes out₀) out₀ → IsWritten x n out
by_tests k n x out₀ out true true long zero e is =
    let good = zero refl in
    let n_is : n ≡ x.long = cc in
    let size : n ≡ length x.bytes = n_is ∙ sym (long good) in
    record { good = good; bytes = (λ i. take (size i) (is i)) ∙ take-append_seam x.bytes (drop (length x.bytes) out₀) }
by_tests k n x out₀ out true false long zero e is = not_written e
by_tests k n x out₀ out false b long zero e is = not_written e

pub is_written_lem : (k n : ℕ) (x : Piece) (out₀ out : List ℕ) → (x.number ≡ 0 → length x.bytes ≡ x.long) → Answered k (read x) out₀ out (Ok n) → IsWritten x n out
unfolding answer verdict left
is_written_lem k n x out₀ out long call =
    by_tests k n x out₀ out (eqb x.number 0) (leb x.long (length out₀)) long (eqb-true x.number 0) call.answers call.bytes_are

-- beside a header, which is accepted then
pub record Beside-header (x : Header → Piece) (y : Step Header) (k n : ℕ) (out₀ out : List ℕ) : Type 0 where
  pub header : Header
  pub place : ℕ
  pub reads : y ≡ found header place
  pub call : Answered k (read (x header)) out₀ out (Ok n)

pub beside_header_lem : (x : Header → Piece) (y : Step Header) (k n : ℕ) (out₀ out : List ℕ) → Answered k (beside_header x y) out₀ out (Ok n) → Beside-header x y k n out₀ out
unfolding answer
beside_header_lem x (found h p) k n out₀ out call = record { header = h; place = p; reads = refl; call = call }
beside_header_lem x (refused f) k n out₀ out call = not_written call.answers
