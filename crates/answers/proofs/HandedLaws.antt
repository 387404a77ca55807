-- What a call hands over: nothing where the result is too short, and otherwise what it put there.
use Prim.Native.Nat.{ℕ, ◌≤◌, ◌<◌}
use mathlib.Core.Path.{◌≡◌, ap, sym, ◌∙◌}
use mathlib.Core.List.{List, []}
use native.Mathlib.Omega.{arith}
use lib.ListN.{length}
use borrow.Author.Tests.{le-leb, lt-leb}
use Rattle.numbers.specs.Rows.{put}
use Rattle.rows.proofs.TableLaws.{over_put}
use Rattle.outcome.specs.Outcome.{Outcome, code_of}
use Rattle.answers.specs.Handed.{given, short_result, HandsOver, Tells}

pub given_room : {A : Type 0} (n : ℕ) (w : List ℕ) {a : A} (b d : A) → n ≤ length w → a ≡ b → a ≡ given n w b d
unfolding given
given_room n w b d fits e = rw (le-leb n (length w) fits) e

pub given_short : {A : Type 0} (n : ℕ) (w : List ℕ) (b d : A) → length w < n → d ≡ given n w b d
unfolding given
given_short n w b d short = rw (lt-leb n (length w) short)

pub hands_nothing : (n : ℕ) (code : ℕ) (words w : List ℕ) → length w < n → HandsOver n code words w w short_result
hands_nothing n code words w short = record { answers = given_short n w _ _ short; result_is = given_short n w _ _ short }

-- n words that are put in front are handed over
pub hands_over_lem : (n : ℕ) {code r : ℕ} {words w₀ w : List ℕ} → n ≤ length w₀ → length words ≡ n → r ≡ code → w ≡ put w₀ 0 words → HandsOver n code words w₀ w r
hands_over_lem n {words = words} {w₀ = w₀} fits long is stored =
    record {
      answers = given_room n w₀ _ _ fits is;
      result_is = given_room n w₀ _ _ fits (stored ∙ over_put [] words w₀ (omega arith));
    }

-- an answer's own outcome, which is the one that is asked for
pub tells : (n : ℕ) {own asked : Outcome} {w₀ w : List ℕ} {r : ℕ} → n ≤ length w₀ → length own.counts ≡ n → own ≡ asked → r ≡ code_of own
    → w ≡ put w₀ 0 own.counts → Tells n asked w₀ w r
tells n {w₀ = w₀} fits long same is stored =
    let counts = ap (λ (o : Outcome). o.counts) same in
    hands_over_lem n fits (ap length (sym counts) ∙ long) (is ∙ ap code_of same) (stored ∙ ap (put w₀ 0) counts)
