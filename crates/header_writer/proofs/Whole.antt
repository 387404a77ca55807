-- What is answered about a header.
use Prim.Native.Nat.{ℕ, ◌≤◌, ◌<◌}
use mathlib.Core.List.{List}
use mathlib.Core.Path.{◌≡◌, refl, sym, ap, ◌∙◌}
use lib.ListN.{length}
use lib.Dec.{leb}
use Rattle.wire.specs.Reading.{unless}
use Rattle.envelope.specs.Envelope.{ceiling}
use Rattle.header.specs.Beside.{read}
use Rattle.records.specs.declared.HeaderTexts.{HeaderTexts}
use Rattle.verdicts.specs.Length.{capped}
use Rattle.writing.specs.Piece.{Piece, first}
use Rattle.writing.specs.Rows.{HeaderRows, header_rows}
use Rattle.writing.specs.Header.{payload_piece, header_piece, chains}
use Rattle.writing.specs.Answers.{Answered}
use Rattle.writing.specs.Promises.{HeaderPromised}
use Rattle.writing.specs.Answer.{WriteAnswer}
use Rattle.writing.proofs.HeaderBack.{header_promised}
use Rattle.stores.specs.Stored.{InFront}
use Rattle.stores.proofs.Answers.{Exact, length_first, long_answer, number_answer, room_answer, written_answer}
use Rattle.stores.proofs.Counting.{counted}
use Rattle.std.specs.Prelude.{Ok, Err}

module _ (strings : List ℕ) (named : HeaderTexts) (fields columns aliases out : List ℕ) where
  abbrev t : HeaderRows
  t = header_rows fields columns aliases

  abbrev x : Piece
  x = header_piece strings named t

  -- the first refusal of a header that is short enough
  abbrev rest : ℕ
  rest = first (payload_piece strings named t).number (chains t.fields)

  abbrev Answers : List ℕ → WriteAnswer → Type 0
  Answers = Answered 1 (read x) out

  -- its length is tested first
  number_is_lem : {n : ℕ} → n ≡ rest → x.number ≡ unless (leb x.long ceiling) 1 n
  unfolding header_piece
  number_is_lem e = length_first 1 1 (payload_piece strings named t) (chains t.fields) ∙ ap (unless (leb x.long ceiling) 1) (sym e)

  exact : Exact x
  unfolding HeaderPromised
  exact = (header_promised strings named t).long

  module _ {long : ℕ} (its : long ≡ capped x.long) where
    pub header_long : ceiling < long → Answers out (Err (record { envelope = 1; number = 1 }))
    header_long big = long_answer 1 x out rest (number_is_lem refl) long (counted x.long long its) big

    module _ {number : ℕ} (short : long ≤ ceiling) (is : number ≡ rest) where
      pub header_refused_lem : (number ≡ 0 → ⊥) → Answers out (Err (record { envelope = 1; number = number }))
      header_refused_lem bad = number_answer 1 x out number (number_is_lem is) long (counted x.long long its) short bad

      pub header_roomless : number ≡ 0 → length out < long → Answers out (Err (record { envelope = 1; number = 20 }))
      header_roomless good few = room_answer 1 x out number (number_is_lem is) long (counted x.long long its) short good few

      pub header_written : {out' : List ℕ} → number ≡ 0 → long ≤ length out → InFront x out out' → Answers out' (Ok long)
      header_written good enough stands = written_answer 1 x out number (number_is_lem is) long (counted x.long long its) short _ exact good enough stands
