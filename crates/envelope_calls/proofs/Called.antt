-- What a call on envelopes leaves, from what the reader below it left.
use Prim.Native.Nat.{ℕ, ◌≤◌, ◌<◌}
use mathlib.Core.Path.{◌≡◌, refl, ap, ap₂, sym, ◌∙◌}
use mathlib.Core.List.{List}
use lib.ListN.{length}
use Rattle.numbers.specs.Rows.{put}
use Rattle.wire.specs.Reading.{Step}
use Rattle.rows.specs.declared.PageRow.{PageRow}
use Rattle.outcome.specs.Outcome.{code_of}
use Rattle.header.specs.Header.{Header}
use Rattle.header.specs.Beside.{Beside}
use Rattle.header.specs.Tables.{Answered, texts_of, outcome_of as headerOutcome}
use Rattle.header.specs.Answer.{HeaderAnswer}
use Rattle.moves.specs.Moves.{Answered as AnsweredMoves, outcome_of as movesOutcome}
use Rattle.moves.specs.Answer.{MovesAnswer}
use Rattle.footer.specs.Footer.{Footer}
use Rattle.footer.specs.Tables.{Answered as AnsweredFooter, outcome_of as footerOutcome}
use Rattle.footer.specs.Answer.{FooterAnswer}
use Rattle.page_list.specs.Tables.{Answered as AnsweredPageList, outcome_of as pageListOutcome}
use Rattle.page_list.specs.Answer.{PageListAnswer}
use Rattle.answers.specs.Results.{header_result}
use Rattle.answers.specs.Handed.{short_result}
use Rattle.answers.proofs.HandedLaws.{given_room, given_short, hands_nothing, hands_over_lem, tells}
use Rattle.envelope_calls.specs.Calls.{HeaderCall, MovesCall, FooterCall, PageListCall}
use Rattle.std.specs.Prelude.{Ok, Err}

-- Headers.

header_words : (r : HeaderAnswer) → length (header_result (texts_of r) (headerOutcome r)) ≡ 7
header_words (Ok t) = refl
header_words (Err n) = refl

pub header_short : (x : Step Header) (f c a w : List ℕ) → length w < 7 → HeaderCall x f f c c a a w w short_result
header_short x f c a w short =
    record {
      hands_over = hands_nothing 7 _ _ w short;
      fields_are = given_short 7 w _ _ short;
      columns_are = given_short 7 w _ _ short;
      aliases_are = given_short 7 w _ _ short;
    }

pub header_called : {x : Step Header} {f₀ f c₀ c a₀ a w₀ w : List ℕ} {r : HeaderAnswer} {code : ℕ} → 7 ≤ length w₀ → Answered x f₀ f c₀ c a₀ a r
    → code ≡ code_of (headerOutcome r) → w ≡ put w₀ 0 (header_result (texts_of r) (headerOutcome r)) → HeaderCall x f₀ f c₀ c a₀ a w₀ w code
header_called {w₀ = w₀} {r = r} fits left is stored =
    let result = ap₂ header_result left.reports_texts left.reports in
    record {
      hands_over = hands_over_lem 7 fits (ap length (sym result) ∙ header_words r) (is ∙ ap code_of left.reports) (stored ∙ ap (put w₀ 0) result);
      fields_are = given_room 7 w₀ _ _ fits left.fields_are;
      columns_are = given_room 7 w₀ _ _ fits left.columns_are;
      aliases_are = given_room 7 w₀ _ _ fits left.aliases_are;
    }

-- Moves.

moves_words : (r : MovesAnswer) → length (movesOutcome r).counts ≡ 1
moves_words (Ok total) = refl
moves_words (Err number) = refl

pub moves_short : (x : Step Header) (w : List ℕ) → length w < 1 → MovesCall x w w short_result
moves_short x w short = hands_nothing 1 _ _ w short

pub moves_called : {x : Step Header} {w₀ w : List ℕ} {r : MovesAnswer} {code : ℕ} → 1 ≤ length w₀ → AnsweredMoves x r
    → code ≡ code_of (movesOutcome r) → w ≡ put w₀ 0 (movesOutcome r).counts → MovesCall x w₀ w code
moves_called {r = r} fits left is stored = tells 1 fits (moves_words r) left.reports is stored

-- Footers.

footer_words : (r : FooterAnswer) → length (footerOutcome r).counts ≡ 2
footer_words (Ok counts) = refl
footer_words (Err why) = refl

pub footer_short : (x : Beside Footer) (c m w : List ℕ) → length w < 2 → FooterCall x c c m m w w short_result
footer_short x c m w short =
    record { hands_over = hands_nothing 2 _ _ w short; clusters_are = given_short 2 w _ _ short; metadata_are = given_short 2 w _ _ short }

pub footer_called : {x : Beside Footer} {c₀ c m₀ m w₀ w : List ℕ} {r : FooterAnswer} {code : ℕ} → 2 ≤ length w₀ → AnsweredFooter x c₀ c m₀ m r
    → code ≡ code_of (footerOutcome r) → w ≡ put w₀ 0 (footerOutcome r).counts → FooterCall x c₀ c m₀ m w₀ w code
footer_called {w₀ = w₀} {r = r} fits left is stored =
    record {
      hands_over = tells 2 fits (footer_words r) left.reports is stored;
      clusters_are = given_room 2 w₀ _ _ fits left.clusters_are;
      metadata_are = given_room 2 w₀ _ _ fits left.metadata_are;
    }

-- Page lists.

page_list_words : (r : PageListAnswer) → length (pageListOutcome r).counts ≡ 1
page_list_words (Ok pages) = refl
page_list_words (Err why) = refl

pub page_list_short : (x : Beside (List (List PageRow))) (p w : List ℕ) → length w < 1 → PageListCall x p p w w short_result
page_list_short x p w short = record { hands_over = hands_nothing 1 _ _ w short; pages_are = given_short 1 w _ _ short }

pub page_list_called : {x : Beside (List (List PageRow))} {p₀ p w₀ w : List ℕ} {r : PageListAnswer} {code : ℕ} → 1 ≤ length w₀ → AnsweredPageList x p₀ p r
    → code ≡ code_of (pageListOutcome r) → w ≡ put w₀ 0 (pageListOutcome r).counts → PageListCall x p₀ p w₀ w code
page_list_called {w₀ = w₀} {r = r} fits left is stored =
    record {
      hands_over = tells 1 fits (page_list_words r) left.reports is stored;
      pages_are = given_room 1 w₀ _ _ fits left.pages_are;
    }
