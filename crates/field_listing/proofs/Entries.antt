-- The entries in front of a table, as the part of it that holds them.
use Prim.Native.Nat.{ℕ, ◌*◌, ◌/◌, ◌≤◌}
use mathlib.Core.Path.{◌≡◌, refl, ap, ◌∙◌}
use mathlib.Core.List.{List, [], append-nil}
use native.Mathlib.Omega.{arith}
use lib.ListN.{length, take}
use Rattle.numbers.specs.Rows.{flat}
use Rattle.rows.specs.Words.{most_fields}
use Rattle.rows.specs.Tables.{first_rows}
use Rattle.header_reader.proofs.FillLaws.{put_front, flat_wide, front}
use Rattle.listing.specs.Order.{Entry, order_of}
use Rattle.listing.specs.Entries.{entry_width, entry_words, entry_row, entries_in}
use Rattle.listing.proofs.EntryLaws.{entries_back}
use Rattle.listing.proofs.Front.{order_of_few}
use Rattle.field_order.specs.Entered.{Entered}

-- all entries of a table that is just these
entries_of_lem : (l : List Entry) → entries_in (flat entry_words l) ≡ l
entries_of_lem l =
    let wide = flat_wide entry_words entry_width (λ _. refl) l in
    let many : length (flat entry_words l) / entry_width ≡ length l = omega arith in
    ap (first_rows entry_row (flat entry_words l)) many ∙ (rw append-nil at (entries_back.all l []))

module _ (parents : List ℕ) (n : ℕ) {old new : List ℕ} {count : ℕ} (long : length old ≡ entry_width * most_fields) (entered : Entered old 0 new count (order_of parents n)) where
  words_few : length (flat entry_words (order_of parents n)) ≤ length old
  words_few = let few = order_of_few parents n in let wide = flat_wide entry_words entry_width (λ _. refl) (order_of parents n) in omega arith

  in_front : (take (entry_width * count) new ≡ flat entry_words (order_of parents n)) × (entry_width * count ≤ length new)
  in_front = front entry_words entry_width (λ _. refl) (order_of parents n) old (omega (arith, entered.ends)) (entered.holds ∙ put_front old (flat entry_words (order_of parents n)) words_few)

  pub count_few : entry_width * count ≤ entry_width * most_fields
  count_few = let few = order_of_few parents n in let e = entered.ends in omega arith

  pub words_there : entry_width * count ≤ length new
  words_there = in_front.1

  pub words_long : entry_width * count ≡ length (take (entry_width * count) new)
  words_long =
      let wide = flat_wide entry_words entry_width (λ _. refl) (order_of parents n) in
      let e = entered.ends in
      let same = ap length in_front.0 in
      omega arith

  pub entries_are : entries_in (take (entry_width * count) new) ≡ order_of parents n
  entries_are = ap entries_in in_front.0 ∙ entries_of_lem (order_of parents n)
