-- How many elements of a Bit page are true.
use Rattle.std.specs.Prelude.{ℕ, ◌+◌, ◌≤◌, List, [], ◌∷◌, Bool, true, ◌⊎◌, ◌≡◌, length, eqb, Ok, Err}
use Rattle.numbers.specs.Choice.{pick}
use Rattle.outcome.specs.Outcome.{Outcome, is_accepted}
use Rattle.page_rules.specs.Page.{accept, refuse, RefusedBy, elements, decode_outcome, decoded, chosen}
use Rattle.true_count.specs.Answer.{CountAnswer}

-- a page call's answer, its count that of the true elements
abbrev pub outcome_of : CountAnswer → Outcome
outcome_of (Ok m) = accept m
outcome_of (Err k) = refuse k

-- an answer is told by what it says
unfoldable pub OutcomeTells : Type 0
OutcomeTells = (a b : CountAnswer) → outcome_of a ≡ outcome_of b → a ≡ b

-- how many of some elements are true
unfoldable pub trues : List ℕ → ℕ
trues [] = 0
trues (x ∷ xs) = pick (eqb x 1) 1 0 + trues xs

-- type 06
abbrev pub bit_type : ℕ
bit_type = 6

-- a Bit page of n elements is refused as decoding it to n lent words is; else the true ones among its elements are counted
unfoldable pub count_outcome : ℕ → Bool → List ℕ → Outcome
count_outcome n checksum page =
    pick (is_accepted (decode_outcome bit_type n checksum page n 0))
    (accept (trues (elements bit_type n page)))
    (decode_outcome bit_type n checksum page n 0)

-- where decoding accepts the page, the count is that of the true ones among the lent words that it then fills, wherever they start
unfoldable pub CountsDecoded : Type 0
CountsDecoded =
    (n : ℕ) (checksum : Bool) (page old : List ℕ) (start : ℕ) → is_accepted (decode_outcome bit_type n checksum page (length old) start) ≡ true
    → count_outcome n checksum page ≡ accept (trues (chosen n (decoded bit_type n checksum page old start) start))

-- where decoding refuses the page, so does the count, by the same number; where only the room was too little (20, the last test), it counts
pub record RefusedAlike (n : ℕ) (checksum : Bool) (page : List ℕ) (decoding : Outcome) : Type 0 where
  pub same_number : (k : ℕ) → decoding ≡ refuse k → (k ≡ 20 → ⊥) → count_outcome n checksum page ≡ refuse k
  pub room_aside : decoding ≡ refuse 20 → count_outcome n checksum page ≡ accept (trues (elements bit_type n page))

-- so it is however many words are lent, and wherever in them decoding starts
unfoldable pub RefusedAsDecoding : Type 0
RefusedAsDecoding =
    (n : ℕ) (checksum : Bool) (page : List ℕ) (words start : ℕ) → RefusedAlike n checksum page (decode_outcome bit_type n checksum page words start)

-- a count of at most n
pub record CountsUpTo (n : ℕ) (o : Outcome) : Type 0 where
  pub count : ℕ
  pub few : count ≤ n
  pub is_count : o ≡ accept count

-- it counts no more elements than are asked for, or refuses by one of its numbers
unfoldable pub CountNumbers : Type 0
CountNumbers =
    (n : ℕ) (checksum : Bool) (page : List ℕ)
    → CountsUpTo n (count_outcome n checksum page) ⊎ RefusedBy (10 ∷ 21 ∷ 22 ∷ 24 ∷ []) (count_outcome n checksum page)
