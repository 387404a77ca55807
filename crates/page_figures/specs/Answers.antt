-- What is answered on the figures of one page list, and what the lent rows then hold.
use Rattle.std.specs.Prelude.{ℕ, List, [], ◌∷◌, ◌≡◌, length}
use Rattle.numbers.specs.Choice.{pick}
use Rattle.numbers.specs.Rows.{over}
use Rattle.outcome.specs.Outcome.{Outcome, accepted_with, refused_in}
use Rattle.header.specs.Beside.{Beside, read, refusal}
use Rattle.rows.specs.declared.PageRow.{PageRow}
use Rattle.figure_rules.specs.Report.{list_figures, rows_for}
use Rattle.page_figures.specs.declared.Figures.{Figures}
use Rattle.page_figures.specs.Answer.{FiguresAnswer}
use Rattle.std.specs.Prelude.{Ok, Err}

-- the words of a row
abbrev pub figure_words : Figures → List ℕ
figure_words f = f.pages ∷ f.elements ∷ f.sizes ∷ f.checksums ∷ []

-- the answer in document 01's terms: the envelope and the number of a refusal, and the count of columns
abbrev pub outcome_of : FiguresAnswer → Outcome
outcome_of (Ok columns) = accepted_with (columns ∷ [])
outcome_of (Err why) = refused_in why.envelope why.number 1

-- the whole answer, for lent rows of n words: the reader's refusals, but room is that of the rows
unfoldable pub answer : ℕ → Beside (List (List PageRow)) → FiguresAnswer
answer n (read pss) = pick (rows_for n (length pss)) (Ok (length pss)) (Err (record { envelope = 3; number = 20 }))
answer n (refusal k f) = Err (record { envelope = k; number = f.number })

-- the lent rows after the call: the figures in front where the page list is accepted, else as they were
unfoldable pub written : List ℕ → Beside (List (List PageRow)) → List ℕ
written old (read pss) = pick (rows_for (length old) (length pss)) (over (list_figures pss) old) old
written old (refusal k f) = old

-- all that a call leaves, for a page list read beside its header and lent rows
pub record Answered (x : Beside (List (List PageRow))) (f₀ f : List ℕ) (r : FiguresAnswer) : Type 0 where
  pub answers : r ≡ answer (length f₀) x
  pub reports : outcome_of r ≡ outcome_of (answer (length f₀) x)
  pub figures_are : f ≡ written f₀ x
