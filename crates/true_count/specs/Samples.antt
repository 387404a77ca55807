-- Worked calls on small Bit pages. All of them compute.
use Rattle.std.specs.Prelude.{[], ◌∷◌, ◌++◌, true, false, ◌≡◌, replicate}
use Rattle.page_rules.specs.Page.{accept, refuse}
use Rattle.true_count.specs.True.{count_outcome}

pub record Samples : Type 0 where
  -- true, seven false, true
  pub nine_elements : count_outcome 9 false (1 ∷ 1 ∷ []) ≡ accept 2
  -- five of eight, and two of three
  pub eleven_elements : count_outcome 11 false (181 ∷ 5 ∷ []) ≡ accept 7
  -- a machine word and one element more, all of them true
  pub past_aword : count_outcome 65 false (replicate 8 255 ++ (1 ∷ [])) ≡ accept 65
  -- a page without elements
  pub no_elements : count_outcome 0 false [] ≡ accept 0
  -- the bits of the checksum are not counted
  pub with_checksum : count_outcome 11 true (181 ∷ 5 ∷ 141 ∷ 188 ∷ 1 ∷ 168 ∷ []) ≡ accept 7
  -- more than 131,072 elements, whatever the page's length
  pub too_many : count_outcome 131073 false [] ≡ refuse 10
  -- a byte too many, and a checksum that is not there
  pub longer : count_outcome 8 false (1 ∷ 1 ∷ []) ≡ refuse 21
  pub no_checksum : count_outcome 11 true (181 ∷ 5 ∷ []) ≡ refuse 21
  -- another page's checksum, before an unused bit
  pub wrong_checksum : count_outcome 11 true (181 ∷ 13 ∷ 141 ∷ 188 ∷ 1 ∷ 168 ∷ []) ≡ refuse 22
  -- an unused bit
  pub unused_bit : count_outcome 9 false (1 ∷ 3 ∷ []) ≡ refuse 24
