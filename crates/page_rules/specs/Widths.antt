-- What the width of its elements alone tells of a page.
use Rattle.std.specs.Prelude.{ℕ, ◌+◌, ◌≤◌, ◌≡◌, List, Bool, true, eqb, length}
use Rattle.numbers.specs.Choice.{pick}
use Rattle.numbers.specs.Numbers.{bytes_for}

-- a width whose pages are read: that of each known type but Switch
abbrev pub read_width : ℕ → Bool
read_width w = pick (eqb w 1) true (pick (eqb w 8) true (pick (eqb w 16) true (pick (eqb w 32) true (eqb w 64))))

-- the page has n elements of such a width, and so many words have room for them from `start` on
pub record FitsWidth (w n : ℕ) (page : List ℕ) (words start : ℕ) : Type 0 where
  pub is_read : read_width w ≡ true
  pub there : bytes_for n w ≤ length page
  pub room : start + n ≤ words
