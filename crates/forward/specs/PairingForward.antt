-- Demand 3 for a pairing: "for a pairing, the row's copy is put right too".
use Rattle.std.specs.Prelude.{ℕ, ◌≤◌, List, ◌≡◌, length, eqb}
use Rattle.numbers.specs.Choice.{pick}
use Rattle.envelope.specs.Envelope.{ceiling, checksum_of}
use Rattle.rows.specs.Words.{no_checksum}
use Rattle.column_pages.specs.ColumnPages.{bits_of}
use Rattle.page_list.specs.Tables.{Answered}
use Rattle.page_list.specs.Answer.{PageListAnswer}
use Rattle.pairing.specs.Paired.{paired_beside}
use Rattle.tree.specs.Bytes.{Bytes}
use Rattle.tree.specs.HeaderTree.{HeaderTree, render_header, tables_of}
use Rattle.tree.specs.PageListTree.{PageListTree, render_page_list}
use Rattle.forward.specs.HeaderForward.{ChosenHeader, TheHeader}
use Rattle.forward.specs.ReadersForward.{ChosenPageList, ThePageList}
use Rattle.std.specs.Prelude.{Ok}

-- a row's copy of the checksum of this page list, put right; a row without one stays without
abbrev pub put_right : ℕ → List ℕ → ℕ
put_right checksum list = pick (eqb checksum no_checksum) no_checksum (checksum_of list)

-- For an accepted call: whatever the extensions of its header and its page list, if each is small enough, any call for them with the row's copy
-- put right and the same entry count, file length and lent table gives the same answer and leaves the same table.
pub record PairingKept (e l : List ℕ) (entries checksum file : ℕ) (p₀ p : List ℕ) (r : PageListAnswer) : Type 0 where
  pub header : TheHeader e
  pub page_list : ThePageList file (bits_of (tables_of header.tree).columns) l
  pub forward : (t : HeaderTree) (u : PageListTree) → ChosenHeader header.tree t → ChosenPageList page_list.tree u
      → length (render_header t) ≤ ceiling → length (render_page_list u) ≤ ceiling
      → (p' : List ℕ) (r' : PageListAnswer) → Answered (paired_beside (render_header t) (render_page_list u) entries (put_right checksum (render_page_list u)) file) p₀ p' r'
      → (r' ≡ r) × (p' ≡ p)

-- Demand 3 for a pairing: for every accepting call, with the header e, the page list l, a row's entry count and checksum, a file length and
-- the lent table p₀, that answered with this count and left the table p.
abbrev pub PairingForward : Type 0
PairingForward =
    (e l : List ℕ) (entries checksum file : ℕ) (p₀ p : List ℕ) (pages : ℕ) → Bytes e → Bytes l
    → Answered (paired_beside e l entries checksum file) p₀ p (Ok pages) → PairingKept e l entries checksum file p₀ p (Ok pages)
