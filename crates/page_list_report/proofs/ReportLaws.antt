-- From the figures of a page list to what a call on a report leaves.
use Prim.Native.Nat.{ℕ, ◌+◌, ◌-◌, ◌*◌, ◌/◌, ◌<◌, ◌≤◌}
use mathlib.Core.Path.{◌≡◌, refl, sym, ap, ◌∙◌}
use mathlib.Core.Bool.{Bool, true, false}
use mathlib.Core.List.{List}
use native.Mathlib.Omega.{arith}
use lib.Dec.{ltb}
use lib.ListN.{length, take, replicate, length-replicate}
use lib.Seq.{take_at}
use borrow.Author.Tests.{lt-ltb, le-ltb, ltb-true, ltb-false, leb-true, leb-false}
use Rattle.numbers.specs.Choice.{pick}
use Rattle.numbers.specs.Rows.{over}
use Rattle.numbers.proofs.Parts.{over_length}
use Rattle.wire.specs.declared.Fault.{Fault}
use Rattle.header.specs.Beside.{Beside, read, refusal}
use Rattle.header.specs.declared.Refusal.{Refusal}
use Rattle.rows.specs.Words.{most_columns}
use Rattle.rows.specs.declared.PageRow.{PageRow}
use Rattle.page_list.specs.Tables.{page_list_beside}
use Rattle.figure_rules.specs.declared.ListCounts.{ListCounts}
use Rattle.figure_rules.specs.Report.{figure_width, list_figures, rows_for, one_refused, placed, taken, most_lists, reported}
use Rattle.figure_rules.proofs.Accepted.{read_beside_lem}
use Rattle.figure_rules.proofs.Figures.{figures_length}
use Rattle.figure_rules.proofs.Tests.{reported_taken}
use Rattle.page_figures.specs.Answers.{answer, written, Answered}
use Rattle.page_figures.specs.Answer.{FiguresAnswer}
use Rattle.std.specs.Prelude.{Ok, Err}

-- a sum is below m where its second part is below what the first leaves of m
pub below_rest : (a b m : ℕ) → a < m → ltb b (m - a) ≡ ltb (a + b) m
below_rest a b m h = by (ltb b (m - a)) refl
  where
    by : (t : Bool) → ltb b (m - a) ≡ t → ltb b (m - a) ≡ ltb (a + b) m
    by true e = e ∙ sym (lt-ltb (a + b) m (omega (arith, ltb-true b (m - a) e)))
    by false e = e ∙ sym (le-ltb (a + b) m (omega (arith, ltb-false b (m - a) e)))

-- rows of zeros for as many columns as there may be
abbrev zeros : List ℕ
zeros = replicate (figure_width * most_columns) 0

summed_not_refused : {n : ℕ} {why : Refusal} → ◌≡◌ {A = FiguresAnswer} (Ok n) (Err why) → ⊥
summed_not_refused e = let z : ◌≡◌ {A = ℕ} 0 1 = cc in omega arith

-- a refusal in envelope k by rule m
abbrev refused_by : ℕ → ℕ → FiguresAnswer
refused_by k m = Err (record { envelope = k; number = m })

-- what a refusal says; an acceptance is given zeros
abbrev said : FiguresAnswer → Refusal
said (Ok n) = record { envelope = 0; number = 0 }
said (Err why) = why

-- a list that was summed up: its columns, and their figures in front of the rows
pub record SummedUp (x : Beside (List (List PageRow))) (n : ℕ) (f : List ℕ) : Type 0 where
  pub value : List (List PageRow)
  pub was : x ≡ read value
  pub many : n ≡ length value
  pub few : n ≤ most_columns
  pub long : length f ≡ figure_width * most_columns
  pub front : take (figure_width * n) f ≡ list_figures value

pub summed_up : (x : Beside (List (List PageRow))) {f : List ℕ} {r : FiguresAnswer} {n : ℕ} → Answered x zeros f r → r ≡ Ok n → SummedUp x n f
unfolding answer written
summed_up (read pss) {f} {r} {n} a e =
    by (rows_for (length zeros) (length pss)) refl (sym e ∙ a.answers) a.figures_are
  where
    by : (b : Bool) → rows_for (length zeros) (length pss) ≡ b → Ok n ≡ pick b (Ok (length pss)) (refused_by 3 20) → f ≡ pick b (over (list_figures pss) zeros) zeros
        → SummedUp (read pss) n f
    by true room same stored =
        let many : n ≡ length pss = cc in
        let all = length-replicate {A = ℕ} (figure_width * most_columns) 0 in
        let enough = leb-true (length pss) (length zeros / figure_width) room in
        let words = figures_length pss in
        record {
          value = pss;
          was = refl;
          many = many;
          few = omega arith;
          long = ap length stored ∙ over_length (list_figures pss) zeros (omega arith) ∙ all;
          front = ap (take (figure_width * n)) stored ∙ take_at (list_figures pss) _ (figure_width * n) (omega arith);
        }
    by false room same stored = absurd (summed_not_refused same)
summed_up (refusal k g) a e = absurd (summed_not_refused (sym e ∙ a.answers))

-- a list that was not: its reader refuses it, since there are rows enough for every list
pub record RefusedUp (x : Beside (List (List PageRow))) (k m : ℕ) : Type 0 where
  pub fault : Fault
  pub was : x ≡ refusal k fault
  pub number : m ≡ fault.number

pub refused_up : (x : Beside (List (List PageRow))) {f : List ℕ} {r : FiguresAnswer} {k m : ℕ} → ((pss : List (List PageRow)) → x ≡ read pss → length pss ≤ most_columns)
    → Answered x zeros f r → r ≡ Err (record { envelope = k; number = m }) → RefusedUp x k m
unfolding answer
refused_up (read pss) {f} {r} {k} {m} few a e = by (rows_for (length zeros) (length pss)) refl (sym a.answers ∙ e)
  where
    by : (b : Bool) → rows_for (length zeros) (length pss) ≡ b → pick b (Ok (length pss)) (refused_by 3 20) ≡ refused_by k m → RefusedUp (read pss) k m
    by true room same = absurd (summed_not_refused same)
    by false room same =
        let all = length-replicate {A = ℕ} (figure_width * most_columns) 0 in
        let less = leb-false (length pss) (length zeros / figure_width) room in
        let most = few pss refl in
        absurd (omega arith)
refused_up (refusal i g) {f} {r} {k} {m} few a e =
    let same : refused_by i g.number ≡ refused_by k m = sym a.answers ∙ e in
    let envelope : i ≡ k = ap (λ (r : FiguresAnswer). (said r).envelope) same in
    let number : g.number ≡ m = ap (λ (r : FiguresAnswer). (said r).number) same in
    record { fault = g; was = ap (λ (j : ℕ). refusal j g) envelope; number = sym number }

-- the call, after so many lists
module _ (header list : List ℕ) (entries file : ℕ) (counts : ListCounts) (old : List ℕ) (more : counts.accepted + counts.refused < most_lists) {f : List ℕ} {r : FiguresAnswer}
    (a : Answered (page_list_beside header list entries file) zeros f r) where
  module _ {n : ℕ} (e : r ≡ Ok n) where
    pub its_figures : SummedUp (page_list_beside header list entries file) n f
    its_figures = summed_up (page_list_beside header list entries file) a e

    pub reported_placed : reported (page_list_beside header list entries file) counts old ≡ placed n (take (figure_width * n) f) counts old
    unfolding taken
    reported_placed =
        let s = its_figures in
        reported_taken (page_list_beside header list entries file) counts old more
        ∙ ap (λ (x : Beside (List (List PageRow))). taken x counts old) s.was
        ∙ (λ j. placed (sym s.many j) (sym s.front j) counts old)

  pub reported_refused : {k m : ℕ} → r ≡ Err (record { envelope = k; number = m }) → reported (page_list_beside header list entries file) counts old ≡ record { answer = Err (record { envelope = k; number = m; lists = one_refused counts }); words = old }
  unfolding taken
  reported_refused {k} {m} e =
      let s = refused_up (page_list_beside header list entries file) (λ pss was. (read_beside_lem header list entries file pss was).small.few) a e in
      reported_taken (page_list_beside header list entries file) counts old more
      ∙ ap (λ (x : Beside (List (List PageRow))). taken x counts old) s.was
      ∙ (λ j. record { answer = Err (record { envelope = k; number = sym s.number j; lists = one_refused counts }); words = old })
