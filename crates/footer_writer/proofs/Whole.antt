-- What is answered about a footer.
use Prim.Native.Nat.{ℕ, ◌+◌, ◌≤◌, ◌<◌}
use mathlib.Core.Path.{◌≡◌, sym, ◌∙◌, subst}
use mathlib.Core.List.{List}
use native.Mathlib.Omega.{arith}
use borrow.Author.Tests.{leb-true}
use lib.Dec.{leb}
use lib.ListN.{length}
use Rattle.wire.specs.Reading.{found}
use Rattle.wire.proofs.Laws.{passed}
use Rattle.envelope.specs.Envelope.{checksum_of, ceiling}
use Rattle.header.specs.Header.{Header}
use Rattle.header.specs.Tables.{header_of}
use Rattle.header.specs.Beside.{read}
use Rattle.footer.specs.Footer.{Footer}
use Rattle.writing.specs.Piece.{Piece}
use Rattle.writing.specs.Rows.{footer_rows}
use Rattle.writing.specs.Footer.{carries_for, all_as_carried, footer_payload_piece, footer_piece}
use Rattle.writing.specs.Answers.{Answered, footer_to_write}
use Rattle.writing.specs.Promises.{FooterPromised}
use Rattle.writing.specs.Answer.{WriteAnswer}
use Rattle.writing.proofs.FooterBack.{footer_promised}
use Rattle.verdicts.specs.Length.{capped}
use Rattle.verdicts.proofs.Capped.{capped_small}
use Rattle.stores.specs.Stored.{InFront}
use Rattle.stores.proofs.Answers.{roomless, wrote, header_found}
use Rattle.std.specs.Prelude.{Ok, Err}

-- a footer of which nothing is refused is no longer than an envelope may be
footer_short : (checksum file : ℕ) (f : Footer) → (footer_piece checksum file f).number ≡ 0 → (footer_piece checksum file f).long ≤ ceiling
unfolding footer_piece
footer_short checksum file f e =
    let y = footer_payload_piece (carries_for f.clusters) checksum file f in
    let (_, later) = passed (all_as_carried (carries_for f.clusters) f.clusters) 18 _ e in
    leb-true (8 + y.long) ceiling (passed (leb (8 + y.long) ceiling) 0 y.number later).0

module _ (checksum file : ℕ) (clusters metadata out : List ℕ) where
  abbrev x : Piece
  x = footer_piece checksum file (footer_rows clusters metadata)

  -- nothing is refused, and the length was counted
  module _ {number long : ℕ} (is : number ≡ x.number) (good : number ≡ 0) (counted : long ≡ capped x.long) where
    fine : x.number ≡ 0
    fine = sym is ∙ good

    exact : long ≡ x.long
    exact = counted ∙ sym (capped_small x.long (footer_short checksum file (footer_rows clusters metadata) fine))

    pub footer_roomless : length out < long → Answered 2 (read x) out out (Err (record { envelope = 2; number = 20 }))
    footer_roomless few = let e = exact in roomless 2 x out fine (omega arith)

    pub footer_written : {out' : List ℕ} → long ≤ length out → InFront x out out' → Answered 2 (read x) out out' (Ok long)
    unfolding FooterPromised
    footer_written {out'} enough stands =
        let e = exact in
        let bytes = (footer_promised checksum file (footer_rows clusters metadata)).long fine in
        rw e (wrote 2 x out out' fine (omega arith) (stands (omega arith)))

-- a footer beside a header that was found
pub footer_beside_lem : (header clusters metadata out : List ℕ) (file : ℕ) {sum : ℕ} {h : Header} {p : ℕ} {out' : List ℕ} {r : WriteAnswer} → header_of header ≡ found h p → sum ≡ checksum_of header
    → Answered 2 (read (footer_piece sum file (footer_rows clusters metadata))) out out' r → Answered 2 (footer_to_write header file clusters metadata) out out' r
footer_beside_lem header clusters metadata out file {out' = out'} {r} w is a =
    header_found 2 (λ _. footer_piece (checksum_of header) file (footer_rows clusters metadata)) out w
    (subst (λ (k : ℕ). Answered 2 (read (footer_piece k file (footer_rows clusters metadata))) out out' r) is a)
