-- What the pairing says of a page list and of the row that it is read for.
use Prim.Native.Nat.{ℕ}
use mathlib.Core.List.{List}
use mathlib.Core.Bool.{Bool, true, false, not}
use mathlib.Core.Path.{◌≡◌, refl, sym, ap, ◌∙◌}
use mathlib.Core.Logic.{inl, inr, ◌⊎◌}
use lib.Dec.{eqb}
use borrow.Author.Tests.{eq-eqb, ne_eqb, eqb-true}
use Rattle.numbers.specs.Choice.{both}
use Rattle.numbers.proofs.Choice.{which, clash, both_false}
use Rattle.wire.specs.Reading.{fault}
use Rattle.wire.proofs.Laws.{never}
use Rattle.wire.specs.declared.Kind.TheVariants.{Envelope}
use Rattle.envelope.specs.Envelope.{checksum_of}
use Rattle.rows.specs.Words.{no_checksum}
use Rattle.rows.specs.declared.PageRow.{PageRow}
use Rattle.header.specs.Header.{Header}
use Rattle.header.specs.Tables.{header_of}
use Rattle.header.specs.Beside.{read, refusal, beside, in_envelope}
use Rattle.header.proofs.Besides.{Both, both_read}
use Rattle.page_list.specs.PageList.{page_list_of}
use Rattle.page_list.specs.Tables.{page_list_beside}
use Rattle.pairing.specs.Paired.{intact, differs, paired_of, paired_beside}
use Rattle.pairing.specs.Statements.{Pairs}
use Rattle.pairing.proofs.PairedLaws.{listed_intact, paired_intact, paired_same, paired_plain}

its_own : (list : List ℕ) → differs (checksum_of list) list ≡ false
its_own list = ap (λ (b : Bool). both (not (eqb (checksum_of list) no_checksum)) (not b)) (eq-eqb (checksum_of list) (checksum_of list) refl) ∙ both_false (not (eqb (checksum_of list) no_checksum))

-- at the rule
pub paired_its : (h : Header) (entries file : ℕ) (list : List ℕ) → paired_of h entries (checksum_of list) file list ≡ page_list_of h entries file list
paired_its h entries file list = paired_same h entries file list (checksum_of list) (ap (both (intact list)) (its_own list) ∙ both_false (intact list))

module _ (header list : List ℕ) (entries file : ℕ) where
  no_difference : (checksum : ℕ) → differs checksum list ≡ false → paired_beside header list entries checksum file ≡ page_list_beside header list entries file
  no_difference checksum d = paired_plain header list entries checksum file (ap (both (intact list)) d ∙ both_false (intact list))

  another_refused : (checksum : ℕ) (pages : List (List PageRow)) → differs checksum list ≡ true → page_list_beside header list entries file ≡ read pages
      → paired_beside header list entries checksum file ≡ refusal 3 (fault 26 Envelope 0)
  unfolding page_list_beside paired_beside
  another_refused checksum pages d w =
      let b = both_read 3 (λ h. page_list_of h entries file list) (header_of header) pages w in
      ap (beside 3 (λ h. paired_of h entries checksum file list)) b.reads ∙ ap (in_envelope 3) (paired_intact b.header entries file list checksum (listed_intact b.header entries file list b.inner) d)

  accepted_is : (checksum : ℕ) (pages : List (List PageRow)) → paired_beside header list entries checksum file ≡ read pages
      → (differs checksum list ≡ false) × (page_list_beside header list entries file ≡ read pages)
  unfolding page_list_beside paired_beside
  accepted_is checksum pages w =
      let b = both_read 3 (λ h. paired_of h entries checksum file list) (header_of header) pages w in
      by b (which (intact list)) (which (differs checksum list))
    where
      plainly : both (intact list) (differs checksum list) ≡ false → page_list_beside header list entries file ≡ read pages
      plainly d = sym (paired_plain header list entries checksum file d) ∙ w

      was_intact : both (intact list) (differs checksum list) ≡ false → intact list ≡ true
      was_intact d = let l = both_read 3 (λ h. page_list_of h entries file list) (header_of header) pages (plainly d) in listed_intact l.header entries file list l.inner

      by : Both (λ h. paired_of h entries checksum file list) (header_of header) pages → (intact list ≡ true) ⊎ (intact list ≡ false) → (differs checksum list ≡ true) ⊎ (differs checksum list ≡ false)
          → (differs checksum list ≡ false) × (page_list_beside header list entries file ≡ read pages)
      by b (inl i) (inl d) = never (sym (paired_intact b.header entries file list checksum i d) ∙ b.inner)
      by b (inl i) (inr d) = let none = ap (both (intact list)) d ∙ both_false (intact list) in (d, plainly none)
      by b (inr i) _ = let none = ap (λ (x : Bool). both x (differs checksum list)) i in clash (was_intact none) i

-- the test in words

another_differs : (checksum : ℕ) (list : List ℕ) → (checksum ≡ no_checksum → ⊥) → (checksum_of list ≡ checksum → ⊥) → differs checksum list ≡ true
another_differs checksum list some other = rw (ne_eqb checksum no_checksum some, ne_eqb (checksum_of list) checksum other)

same_told : (checksum : ℕ) (list : List ℕ) → differs checksum list ≡ false → (checksum ≡ no_checksum → ⊥) → checksum_of list ≡ checksum
same_told checksum list same some = eqb-true (checksum_of list) checksum (by (eqb (checksum_of list) checksum) (rw (ne_eqb checksum no_checksum some) at same))
  where
    by : (b : Bool) → not b ≡ false → b ≡ true
    by true e = refl
    by false e = clash refl e

pub pairs : Pairs
pairs =
    record {
      unnamed = λ header list entries file. no_difference header list entries file no_checksum refl;
      its = λ header list entries file. no_difference header list entries file (checksum_of list) (its_own list);
      another = λ header list entries checksum file pages some other. another_refused header list entries file checksum pages (another_differs checksum list some other);
      accepted = λ header list entries checksum file pages w.
          let (same, plain) = accepted_is header list entries file checksum pages w in
          (plain, same_told checksum list same);
    }
