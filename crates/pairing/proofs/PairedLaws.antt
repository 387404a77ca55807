-- A page list for a cluster's row, by whether it is stale.
use Prim.Native.Nat.{ℕ}
use mathlib.Core.List.{List}
use mathlib.Core.Bool.{Bool, true, false, not}
use mathlib.Core.Path.{◌≡◌, refl, sym, ap, ◌∙◌}
use lib.ListN.{length}
use lib.Dec.{leb}
use Rattle.numbers.specs.Choice.{pick, both}
use Rattle.numbers.proofs.Choice.{both_true, both_false, both_right}
use Rattle.wire.specs.declared.Fault.{Fault}
use Rattle.wire.specs.declared.Kind.TheVariants.{Envelope}
use Rattle.wire.specs.Reading.{Step, found, refused, fault}
use Rattle.wire.proofs.Laws.{never}
use Rattle.envelope.specs.Envelope.{Versions, ceiling, opened, enclosed, versioned}
use Rattle.header.specs.Header.{Header}
use Rattle.header.specs.Tables.{header_of}
use Rattle.header.specs.Beside.{refusal, beside}
use Rattle.rows.specs.declared.PageRow.{PageRow}
use Rattle.column_pages.specs.ColumnPages.{bits_of, payload}
use Rattle.page_list.specs.PageList.{summed, page_list_of}
use Rattle.page_list.specs.Tables.{page_list_beside}
use Rattle.pairing.specs.Paired.{is_intact, intact, differs, unpaired_fault, paired_of, paired_beside}
use Rattle.pairing.specs.Stale.{stale, stale_fault, stale_beside}

-- a refusal f of the checks is kept where it is one of 1 to 3
kept : {A : Type 0} (f : Fault) (b : Bool) → ◌≡◌ {A = Step A} (pick (not b) (refused unpaired_fault) (refused f)) (refused (pick b f unpaired_fault))
kept f true = refl
kept f false = refl

module _ (h : Header) (entries file : ℕ) (list : List ℕ) where
  -- the page list's reader, from what its checks say
  abbrev from_checks : Step Versions → Step (List (List PageRow))
  from_checks x = summed entries h.lists (enclosed (λ v. payload file (bits_of h.lists.columns) v.strict) list x)

  from_opened : page_list_of h entries file list ≡ from_checks (opened 1 list)
  unfolding page_list_of versioned
  from_opened = refl

  -- a list that its reader accepts is intact
  pub listed_intact : {pages : List (List PageRow)} {q : ℕ} → page_list_of h entries file list ≡ found pages q → intact list ≡ true
  unfolding summed
  listed_intact {pages} {q} w = by (opened 1 list) (sym from_opened ∙ w)
    where
      by : (x : Step Versions) → from_checks x ≡ found pages q → is_intact x ≡ true
      by (found v p) e = refl
      by (refused f) e = never e

  module _ (checksum : ℕ) where
    -- another checksum than the row's: 26, unless the list is refused 1 to 3
    pub paired_other : differs checksum list ≡ true → paired_of h entries checksum file list ≡ refused (stale_fault (opened 1 list))
    unfolding paired_of summed stale_fault
    paired_other d = rw (d, both_right (intact list), from_opened) (by (opened 1 list))
      where
        by : (x : Step Versions) → pick (is_intact x) (refused unpaired_fault) (from_checks x) ≡ refused (stale_fault x)
        by (found v p) = refl
        by (refused f) = kept f (leb f.number 3)

    pub paired_intact : intact list ≡ true → differs checksum list ≡ true → paired_of h entries checksum file list ≡ refused unpaired_fault
    unfolding paired_of
    paired_intact i d = rw (i, d)

    pub paired_same : both (intact list) (differs checksum list) ≡ false → paired_of h entries checksum file list ≡ page_list_of h entries file list
    unfolding paired_of
    paired_same d = rw d

-- a list too short to end with a checksum is not intact
short_refused : (list : List ℕ) → leb 8 (length list) ≡ false → intact list ≡ false
unfolding opened
short_refused list short = by (leb (length list) ceiling) (leb 8 (length list)) _ short
  where
    by : (small long : Bool) (rest : Step Versions) → long ≡ false → is_intact (pick small (pick long rest (refused (fault 2 Envelope 0))) (refused (fault 1 Envelope 0))) ≡ false
    by true long rest e = ap (λ (b : Bool). is_intact (pick b rest (refused (fault 2 Envelope 0)))) e
    by false long rest e = refl

not_stale : (list : List ℕ) (long d : Bool) → leb 8 (length list) ≡ long → both long d ≡ false → both (intact list) d ≡ false
not_stale list true d l e = ap (both (intact list)) e ∙ both_false (intact list)
not_stale list false d l e = ap (λ (b : Bool). both b d) (short_refused list l)

-- Beside the header.

module _ (header list : List ℕ) where
  pub stale_first : {g : Fault} → header_of header ≡ refused g → stale_beside header list ≡ refusal 1 g
  unfolding stale_beside
  stale_first w = rw w

  pub stale_then : {h : Header} {p : ℕ} → header_of header ≡ found h p → stale_beside header list ≡ refusal 3 (stale_fault (opened 1 list))
  unfolding stale_beside
  stale_then w = rw w

  module _ (entries checksum file : ℕ) where
    pub paired_stale : stale checksum list ≡ true → paired_beside header list entries checksum file ≡ stale_beside header list
    unfolding paired_beside stale_beside stale
    paired_stale e = λ i. beside 3 (λ h. paired_other h entries file list checksum (both_true (leb 8 (length list)) (differs checksum list) e).1 i) (header_of header)

    -- where the checksums do not differ, or the list is not intact, it is the reader's call
    pub paired_plain : both (intact list) (differs checksum list) ≡ false → paired_beside header list entries checksum file ≡ page_list_beside header list entries file
    unfolding paired_beside page_list_beside
    paired_plain e = λ i. beside 3 (λ h. paired_same h entries file list checksum e i) (header_of header)

    pub paired_read : stale checksum list ≡ false → paired_beside header list entries checksum file ≡ page_list_beside header list entries file
    unfolding stale
    paired_read e = paired_plain (not_stale list (leb 8 (length list)) (differs checksum list) refl e)
