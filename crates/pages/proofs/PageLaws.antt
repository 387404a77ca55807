-- Pages: sizes and totals have bounds, and a loop over pages counts their elements.
use Prim.Native.Nat.{ℕ, ◌+◌, ◌*◌, ◌^◌, ◌≤◌, ◌<◌}
use mathlib.Core.Path.{◌≡◌, refl, ap, ◌∙◌}
use mathlib.Core.List.{List, [], ◌∷◌, ◌++◌}
use native.Mathlib.Nat.{mul-le-mul}
use native.Mathlib.Omega.{arith}
use borrow.Author.Tests.{leb-true}
use lib.Dec.{leb}
use lib.ListN.{length}
use Rattle.frames.specs.declared.ListHead.{ListHead}
use Rattle.wire.specs.Reading.{found, Rule, after, give, tested, mapped}
use Rattle.wire.proofs.Laws.{passed}
use Rattle.locator.specs.Locator.{located, locator}
use Rattle.locator.specs.declared.Range.{Range}
use Rattle.locator.proofs.Laws.{located_by}
use Rattle.frames.specs.Frames.{items, list_head, list_count, list_stop}
use Rattle.frames.proofs.Laws.{count_zero}
use Rattle.frames.proofs.Loops.{Reached, reached_none, reached_more, reached_all}
use Rattle.numbers.specs.Numbers.{bytes_for, trailer}
use Rattle.pages.specs.Pages.{elements_in, checksum_in, page_word, page, running_total, elements_of}
use Rattle.pages.specs.Answers.{tally_of}
use Rattle.rows.specs.Words.{most_pages}
use Rattle.rows.specs.declared.PageRow.{PageRow}

-- a page's elements and bits multiply without wrapping
pub product_fits : (elements bits : ℕ) → elements < 2 ^ 32 → bits < 2 ^ 16 → elements * bits ≤ 281474976710656
product_fits elements bits e b =
    let l : elements ≤ 4294967296 = omega arith in
    let k : bits ≤ 65536 = omega arith in
    let m : elements * bits ≤ 4294967296 * 65536 = mul-le-mul l k in
    m

-- a page, by its first word and its locator
abbrev row_of : ℕ → ℕ → ℕ → ℕ → Rule PageRow
row_of c word size offset = give (record { column = record { 0 = c }; elements = elements_in word; checksum = checksum_in word; size = size; offset = offset })

pub page_by : (file c bits : ℕ) (s : List ℕ) (at : ℕ) {word p : ℕ} → tested 4 page_word s at ≡ found word p
    → page file c bits s at ≡ after (λ (r : Range). give (record { column = record { 0 = c }; elements = elements_in word; checksum = checksum_in word; size = r.size; offset = r.offset })) s (locator file (bytes_for (elements_in word) bits) (trailer (checksum_in word)) s p)
unfolding page
page_by file c bits s at {word} {p} e =
    ap (after (λ w. located file (bytes_for (elements_in w) bits) (trailer (checksum_in w)) (row_of c w)) s) e ∙ located_by file (bytes_for (elements_in word) bits) (trailer (checksum_in word)) (row_of c word) s p

pub elements_snoc : (done : List PageRow) (x : PageRow) → elements_of (done ++ (x ∷ [])) ≡ elements_of done + x.elements
unfolding elements_of
elements_snoc [] x = omega arith
elements_snoc (r ∷ rs) x = let e = elements_snoc rs x in omega arith

-- i pages of the n of a list have been read, and have so many elements
pub record Tallied (file c bits list n : ℕ) (s : List ℕ) (start i at elements : ℕ) : Type 0 where
  pub reached : Reached list (λ _. page file c bits) n s start i at
  pub sum : elements ≡ elements_of reached.done
  pub few : elements ≤ 1073741823 * i

module _ {file c bits list n : ℕ} {s : List ℕ} {start : ℕ} where
  pub tallied_none : Tallied file c bits list n s start 0 start 0
  unfolding elements_of reached_none
  tallied_none = record { reached = reached_none; sum = refl; few = omega arith }

  module _ {i at elements : ℕ} (m : Tallied file c bits list n s start i at elements) where
    pub tallied_more : {x : PageRow} {p : ℕ} → i < n → page file c bits s at ≡ found x p → x.elements < 2 ^ 30 → Tallied file c bits list n s start (i + 1) p (elements + x.elements)
    unfolding reached_more
    tallied_more {x} h e small =
        record {
          reached = reached_more m.reached h e;
          sum = let a = m.sum in let b = elements_snoc m.reached.done x in omega arith;
          few = let a = m.few in omega arith;
        }

    pub tallied_all : n ≤ i → found (record { pages = n; elements = elements }) at ≡ mapped tally_of (items list (λ _. page file c bits) n [] s start)
    tallied_all h =
        let count : n ≡ length m.reached.done = let a = m.reached.count in let b = m.reached.most in omega arith in
        rw (reached_all m.reached h, count, m.sum)

-- a count that passes the running total keeps it within the ceiling
pub total_fits : (total n : ℕ) → running_total total n ≡ 0 → total + n ≤ most_pages
total_fits total n z = leb-true (total + n) most_pages (passed (leb (total + n) most_pages) 9 0 z).0

pub head_fits : (total : ℕ) (s : List ℕ) (at : ℕ) {h : ListHead} {stop : ℕ} → list_head (running_total total) s at ≡ found h stop → total + h.count ≤ most_pages
head_fits total s at {h} e = total_fits total h.count (count_zero (running_total total) at (list_count s at (list_stop s at)) e)
