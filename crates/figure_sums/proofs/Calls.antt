-- Calls for lists in turn end where the definition does, and row c of the report has the figures of column c.
-- Assumes nothing.
use Prim.Native.Nat.{ℕ, zero, suc, ◌+◌, ◌*◌, ◌<◌}
use mathlib.Core.Path.{◌≡◌, refl, sym, ap, ◌∙◌, subst}
use mathlib.Core.Bool.{Bool, true, false}
use mathlib.Core.List.{List, [], ◌∷◌}
use native.Mathlib.Omega.{arith}
use lib.ListN.{length, get_or}
use Rattle.numbers.specs.Choice.{pick}
use Rattle.numbers.specs.Rows.{flat}
use Rattle.header.specs.Beside.{Beside, read, refusal}
use Rattle.rows.specs.declared.PageRow.{PageRow}
use Rattle.pages.specs.Pages.{elements_of}
use Rattle.figure_rules.specs.Report.{sizes_of, checksums_of, figure_width, figures_of, list_figures, rows_for}
use Rattle.figure_sums.specs.Orders.{Given, read_beside, State, fresh, counts_in, after, in_order, share_of, total, Sums, ExactSums, AnyOrder}
use Rattle.figure_sums.specs.Calls.{ReportCalls, finished, goes_on, CallsCanBeMade, CallsInOrder, SumsOfCalls, CallsInAnyOrder, pages_taken, FiguresByColumn}
use Rattle.figure_sums.proofs.Sums.{exact_sums}
use Rattle.figure_sums.proofs.Orders.{any_order}

made_from : (header : List ℕ) (gs : List Given) (st : State) → ReportCalls header gs st (in_order header gs st)
unfolding in_order
made_from header [] st = finished
made_from header (g ∷ gs) st = goes_on (record { answers = refl; leaves = refl }) (made_from header gs (after header g st))

pub calls_can_be_made : CallsCanBeMade
unfolding CallsCanBeMade
calls_can_be_made header n gs = made_from header gs (fresh n)

end_from : (header : List ℕ) (gs : List Given) (st end : State) → ReportCalls header gs st end → end ≡ in_order header gs st
unfolding in_order
end_from header [] st end finished = refl
end_from header (g ∷ gs) st end (goes_on c rest) =
    end_from header gs _ end rest
    ∙ (λ j. in_order header gs (record { counts = counts_in (c.answers j); words = c.leaves j }))

pub calls_in_order : CallsInOrder
unfolding CallsInOrder
calls_in_order header n gs st calls = end_from header gs (fresh n) st calls

pub sums_of_calls : SumsOfCalls
unfolding SumsOfCalls ExactSums CallsInOrder
sums_of_calls header n gs st h calls = subst (Sums header n gs) (sym (calls_in_order header n gs st calls)) (exact_sums header n gs h)

pub calls_in_any_order : CallsInAnyOrder
unfolding CallsInAnyOrder AnyOrder CallsInOrder
calls_in_any_order header n gs hs st other h p calls others = calls_in_order header n gs st calls ∙ any_order header n gs hs h p ∙ sym (calls_in_order header n hs other others)

-- word i of row c of a list's figures is figure i of the pages of column c; without such a column both are 0

zeros_at : (i : ℕ) → i < figure_width → 0 ≡ get_or (figures_of []) i 0
unfolding elements_of sizes_of checksums_of
zeros_at zero h = refl
zeros_at (suc zero) h = refl
zeros_at (suc (suc zero)) h = refl
zeros_at (suc (suc (suc zero))) h = refl
zeros_at (suc (suc (suc (suc i)))) h = absurd (omega arith)

column_at_lem : (pss : List (List PageRow)) (c i : ℕ) → i < figure_width → get_or (list_figures pss) (figure_width * c + i) 0 ≡ get_or (figures_of (get_or pss c [])) i 0
unfolding flat
column_at_lem [] c i h = zeros_at i h
column_at_lem (ps ∷ pss) zero zero h = refl
column_at_lem (ps ∷ pss) zero (suc zero) h = refl
column_at_lem (ps ∷ pss) zero (suc (suc zero)) h = refl
column_at_lem (ps ∷ pss) zero (suc (suc (suc zero))) h = refl
column_at_lem (ps ∷ pss) zero (suc (suc (suc (suc i)))) h = absurd (omega arith)
column_at_lem (ps ∷ pss) (suc c) i h =
    let e : figure_width * suc c + i ≡ suc (suc (suc (suc (figure_width * c + i)))) = omega arith in
    ap (λ (k : ℕ). get_or (list_figures (ps ∷ pss)) k 0) e ∙ column_at_lem pss c i h

share_at : (n c i : ℕ) (x : Beside (List (List PageRow))) → i < figure_width → get_or (share_of n x) (figure_width * c + i) 0 ≡ get_or (figures_of (pages_taken n c x)) i 0
unfolding share_of pages_taken
share_at n c i (read pss) h = by (rows_for n (length pss))
  where
    by : (b : Bool) → get_or (pick b (list_figures pss) []) (figure_width * c + i) 0 ≡ get_or (figures_of (pick b (get_or pss c []) [])) i 0
    by true = column_at_lem pss c i h
    by false = zeros_at i h
share_at n c i (refusal k f) h = zeros_at i h

total_same : (f g : Given → ℕ) → ((x : Given) → f x ≡ g x) → (gs : List Given) → total f gs ≡ total g gs
unfolding total
total_same f g same [] = refl
total_same f g same (x ∷ gs) = omega (arith, same x, total_same f g same gs)

pub figures_by_column : FiguresByColumn
unfolding FiguresByColumn SumsOfCalls
figures_by_column header n gs st h calls c inside =
    record {
      pages = ap (λ (k : ℕ). get_or st.words k 0) (omega arith) ∙ word 0 (omega arith);
      elements = word 1 (omega arith);
      sizes = word 2 (omega arith);
      checksums = word 3 (omega arith);
    }
  where
    word : (i : ℕ) → i < figure_width → get_or st.words (figure_width * c + i) 0 ≡ total (λ g. get_or (figures_of (pages_taken n c (read_beside header g))) i 0) gs
    word i l =
        (sums_of_calls header n gs st h calls).figures (figure_width * c + i) (omega arith)
        ∙ total_same _ _ (λ g. share_at n c i (read_beside header g) l) gs
