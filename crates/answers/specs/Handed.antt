-- How a call hands over an answer: in one number, and in the words of a lent result.
use Rattle.std.specs.Prelude.{ℕ, List, ◌≡◌, length, leb}
use Rattle.numbers.specs.Choice.{pick}
use Rattle.numbers.specs.Rows.{over}
use Rattle.outcome.specs.Outcome.{Outcome, code_of}

-- what a call answers whose result has too few words: nothing is read, and nothing is written
abbrev pub short_result : ℕ
short_result = 4294967295

-- what a call does where the result w has room for n words, and what otherwise
unfoldable pub given : {A : Type 0} → ℕ → List ℕ → A → A → A
given n w does otherwise = pick (leb n (length w)) does otherwise

-- the answer, and the result before and after a call that has this code and these n words to hand over
pub record HandsOver (n code : ℕ) (words w₀ w : List ℕ) (r : ℕ) : Type 0 where
  pub answers : r ≡ given n w₀ code short_result
  pub result_is : w ≡ given n w₀ (over words w₀) w₀

-- the same where the words are an outcome's counts alone
abbrev pub Tells : ℕ → Outcome → List ℕ → List ℕ → ℕ → Type 0
Tells n o w₀ w r = HandsOver n (code_of o) o.counts w₀ w r
