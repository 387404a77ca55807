-- Entries that are written into a table.
use Rattle.std.specs.Prelude.{ℕ, ◌+◌, ◌*◌, List, ◌≡◌, length}
use Rattle.numbers.specs.Rows.{flat, put}
use Rattle.listing.specs.Order.{Entry}
use Rattle.listing.specs.Entries.{entry_width, entry_words}

-- the entries stand in the table from row `at` on, `next` is the row after them, and nothing else has changed
pub record Entered (old : List ℕ) (at : ℕ) (new : List ℕ) (next : ℕ) (entries : List Entry) : Type 0 where
  pub ends : next ≡ at + length entries
  pub holds : new ≡ put old (entry_width * at) (flat entry_words entries)
  pub long : length new ≡ length old
