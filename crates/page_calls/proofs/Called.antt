-- What a call on pages leaves: for a type that no 16 bits hold, and from what the call below it left.
use Prim.Native.Nat.{ℕ, ◌≤◌, ◌<◌}
use mathlib.Core.Path.{◌≡◌, refl}
use mathlib.Core.List.{List, [], ◌∷◌}
use mathlib.Core.Bool.{Bool, false}
use mathlib.Core.Logic.{◌⊎◌, inl, inr}
use native.Mathlib.Omega.{arith}
use lib.ListN.{length, set}
use borrow.Author.Tests.{le-leb, lt-leb}
use Rattle.numbers.specs.Rows.{put, over}
use Rattle.column_type.specs.Types.{known}
use Rattle.outcome.specs.Outcome.{code_of}
use Rattle.page_rules.specs.Answer.{PageAnswer}
use Rattle.page_rules.specs.Page.{outcome_of as page_outcome, asks, readable, refuse, decode_outcome, decoded, encode_outcome, encoded}
use Rattle.column_rules.specs.Answer.{ColumnAnswer}
use Rattle.column_rules.specs.Column.{outcome_of as columnOutcome, whole_column}
use Rattle.column_rules.proofs.Unreadable.{unreadable_alike}
use Rattle.answers.specs.Handed.{short_result}
use Rattle.answers.proofs.HandedLaws.{given_room, given_short, hands_nothing, tells}
use Rattle.page_calls.specs.Calls.{EncodeCall, ColumnCall}
use Rattle.std.specs.Prelude.{Ok, Err}

-- an unknown type is not read
unreadable : (t : ℕ) → 28 < t → readable t ≡ false
unfolding known
unreadable t high = rw (le-leb 1 t (omega arith), lt-leb t 28 (omega arith))

-- a type that no 16 bits hold is unknown, and refused before all else
module _ (t : ℕ) (high : 65535 < t) where
  pub high_decode : (n : ℕ) (checksum : Bool) (page : List ℕ) (words start : ℕ) → decode_outcome t n checksum page words start ≡ refuse 23
  unfolding decode_outcome
  high_decode n checksum page words start = rw (unreadable t (omega arith))

  pub high_decoded : (n : ℕ) (checksum : Bool) (page old : List ℕ) (start : ℕ) → old ≡ decoded t n checksum page old start
  unfolding decoded
  high_decoded n checksum page old start = rw (high_decode n checksum page (length old) start)

  pub high_encode : (n : ℕ) (checksum : Bool) (words : List ℕ) (start room : ℕ) → encode_outcome t n checksum words start room ≡ refuse 23
  unfolding encode_outcome
  high_encode n checksum words start room = rw (unreadable t (omega arith))

  pub high_encoded : (n : ℕ) (checksum : Bool) (words : List ℕ) (start : ℕ) (old : List ℕ) → old ≡ encoded t n checksum words start old
  unfolding encoded
  high_encoded n checksum words start old = rw (high_encode n checksum words start (length old))

page_words_lem : (r : PageAnswer) → length (page_outcome r).counts ≡ 1
page_words_lem (Ok count) = refl
page_words_lem (Err number) = refl

pub encode_short : (t n checksum : ℕ) (words : List ℕ) (start : ℕ) (p w : List ℕ) → length w < 1 → EncodeCall t n checksum words start p p w w short_result
encode_short t n checksum words start p w short = record { hands_over = hands_nothing 1 _ _ w short; page_is = given_short 1 w _ _ short }

pub encode_called : {t n checksum : ℕ} {words : List ℕ} {start : ℕ} {p₀ p w₀ w : List ℕ} {code : ℕ} (r : PageAnswer) → 1 ≤ length w₀
    → page_outcome r ≡ encode_outcome t n (asks checksum) words start (length p₀) → p ≡ encoded t n (asks checksum) words start p₀
    → code ≡ code_of (page_outcome r) → w ≡ put w₀ 0 (page_outcome r).counts → EncodeCall t n checksum words start p₀ p w₀ w code
encode_called {w₀ = w₀} r fits outcome page is stored =
    record {
      hands_over = tells 1 fits (page_words_lem r) outcome is stored;
      page_is = given_room 1 w₀ _ _ fits page;
    }

-- a type that is unknown is refused with a count of 0
zero_put : (w : List ℕ) → 1 ≤ length w → set w 0 0 ≡ over (0 ∷ []) w
zero_put [] fits = absurd (omega arith)
zero_put (x ∷ xs) fits = refl

pub encode_high : (t n checksum : ℕ) (words : List ℕ) (start : ℕ) (p w : List ℕ) → 65535 < t → 1 ≤ length w → EncodeCall t n checksum words start p p w (set w 0 0) 1047
encode_high t n checksum words start p w high fits =
    record {
      hands_over = rw (high_encode t high n (asks checksum) words start (length p)) (record { answers = given_room 1 w _ _ fits refl; result_is = given_room 1 w _ _ fits (zero_put w fits) });
      page_is = given_room 1 w _ _ fits (high_encoded t high n (asks checksum) words start p);
    }

-- decoding a column

column_words_lem : (r : ColumnAnswer) → length (columnOutcome r).counts ≡ 1
column_words_lem (Ok pages) = refl
column_words_lem (Err why) = refl

pub column_short : (t : ℕ) (table file o w : List ℕ) → length w < 1 → ColumnCall t table file o o w w short_result
column_short t table file o w short = record { hands_over = hands_nothing 1 _ _ w short; words_are = given_short 1 w _ _ short }

pub column_called : {t : ℕ} {table file o₀ o w₀ w : List ℕ} {code : ℕ} (r : ColumnAnswer) → 1 ≤ length w₀
    → columnOutcome r ≡ (whole_column t file table o₀).outcome → o ≡ (whole_column t file table o₀).words
    → code ≡ code_of (columnOutcome r) → w ≡ put w₀ 0 (columnOutcome r).counts → ColumnCall t table file o₀ o w₀ w code
column_called {w₀ = w₀} r fits outcome words is stored =
    record { hands_over = tells 1 fits (column_words_lem r) outcome is stored; words_are = given_room 1 w₀ _ _ fits words }

-- the type that 16 bits hold in the place of the one given: itself, or one that is unknown as it is
pub column_narrowed : {t n : ℕ} {table file o₀ o w₀ w : List ℕ} {code : ℕ} → ((65535 < t) × (n ≡ 65535)) ⊎ (n ≡ t)
    → ColumnCall n table file o₀ o w₀ w code → ColumnCall t table file o₀ o w₀ w code
column_narrowed {t} {n} {table} {file} {o₀} (inl (high, is)) call =
    let same = unreadable_alike n t (unreadable n (omega arith)) (unreadable t (omega arith)) file table o₀ in
    record { hands_over = rw (← same) call.hands_over; words_are = rw (← same) call.words_are }
column_narrowed (inr is) call = rw (← is) call
