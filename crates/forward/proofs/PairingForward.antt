-- Demand 3 for a page list that is read for its cluster's row.
use Prim.Native.Nat.{ℕ}
use mathlib.Core.List.{List}
use mathlib.Core.Bool.{Bool, true, false}
use mathlib.Core.Path.{◌≡◌, refl, sym, ◌∙◌, subst}
use native.Mathlib.Omega.{arith}
use lib.Dec.{eqb}
use lib.ListN.{length}
use Rattle.numbers.specs.Choice.{pick}
use Rattle.envelope.specs.Envelope.{checksum_of}
use Rattle.rows.specs.Words.{no_checksum}
use Rattle.rows.specs.declared.PageRow.{PageRow}
use Rattle.header.specs.Beside.{Beside, read, refusal}
use Rattle.page_list.specs.Tables.{page_list_beside, answer, Answered}
use Rattle.page_list.specs.Answer.{PageListAnswer}
use Rattle.pairing.specs.Paired.{paired_beside}
use Rattle.pairing.proofs.Pairs.{pairs}
use Rattle.tree.specs.HeaderTree.{render_header}
use Rattle.tree.specs.PageListTree.{render_page_list}
use Rattle.forward.specs.PairingForward.{put_right, PairingForward}
use Rattle.forward.proofs.PageListForward.{page_list_forward}
use Rattle.std.specs.Prelude.{Ok}

-- an accepting call read a page list
listed : (n pages : ℕ) (x : Beside (List (List PageRow))) → Ok pages ≡ answer n x → (rows : List (List PageRow)) × (x ≡ read rows)
unfolding answer
listed n pages (read rows) e = (rows, refl)
listed n pages (refusal k f) e = let z : ◌≡◌ {A = ℕ} 0 1 = cc in absurd (omega arith)

-- a row whose copy is put right asks for nothing more than the reader
right_copy : (header list : List ℕ) (entries checksum file : ℕ) → paired_beside header list entries (put_right checksum list) file ≡ page_list_beside header list entries file
right_copy header list entries checksum file = by (eqb checksum no_checksum)
  where
    by : (b : Bool) → paired_beside header list entries (pick b no_checksum (checksum_of list)) file ≡ page_list_beside header list entries file
    by true = pairs.unnamed header list entries file
    by false = pairs.its header list entries file

-- a call for what two readings agree on is a call for either
retold : {x y : Beside (List (List PageRow))} {p₀ p : List ℕ} {r : PageListAnswer} → x ≡ y → Answered x p₀ p r → Answered y p₀ p r
retold {p₀ = p₀} {p = p} {r = r} same call = subst (λ (z : Beside (List (List PageRow))). Answered z p₀ p r) same call

pub pairing_forward : PairingForward
pairing_forward e l entries checksum file p₀ p pages bytes bytes' call =
    let (rows, is) = listed (length p₀) pages (paired_beside e l entries checksum file) call.answers in
    let (plain, _) = pairs.accepted e l entries checksum file rows is in
    let kept = page_list_forward e l entries file p₀ p pages bytes bytes' (retold (is ∙ sym plain) call) in
    record {
      header = kept.header;
      page_list = kept.page_list;
      forward = λ t u ch ch' small small' p' r' call'.
          kept.forward t u ch ch' small small' p' r' (retold (right_copy (render_header t) (render_page_list u) entries checksum file) call');
    }
