-- All that the call leaves that lists a header's fields: its answer, its result and the lent bytes.
use Rattle.std.specs.Prelude.{ℕ, List, ◌≡◌, length}
use Rattle.header.specs.Tables.{header_of}
use Rattle.listing.specs.Answers.{reported, left}
use Rattle.answers.specs.Handed.{given, Tells}

-- the result: how many bytes were written
pub record ListCall (e out₀ out w₀ w : List ℕ) (r : ℕ) : Type 0 where
  pub hands_over : Tells 1 (reported (length out₀) e) w₀ w r
  pub bytes_are : out ≡ given 1 w₀ (left out₀ e (header_of e)) out₀
