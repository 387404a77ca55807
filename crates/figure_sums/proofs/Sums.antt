-- One list more adds its share, and so up to 1,024 lists give the exact sums.
-- Assumes nothing.
use Prim.Native.Nat.{ℕ, ◌+◌, ◌*◌, ◌/◌, ◌^◌, ◌<◌, ◌≤◌}
use mathlib.Core.Path.{◌≡◌, refl, sym, ap, ◌∙◌, subst}
use mathlib.Core.Bool.{Bool, true, false}
use mathlib.Core.List.{List, [], ◌∷◌}
use native.Mathlib.Omega.{arith}
use borrow.Author.Tests.{leb-true, leb-false}
use lib.ListN.{length, get_or, length-replicate, get_or-replicate}
use Rattle.numbers.specs.Choice.{pick}
use Rattle.header.specs.Beside.{Beside, read, refusal}
use Rattle.rows.specs.declared.PageRow.{PageRow}
use Rattle.figure_rules.specs.Report.{figure_width, list_figures, added, sums_fit, rows_for, Report, not_counted, one_accepted, placed, taken, most_lists, reported}
use Rattle.figure_rules.proofs.Accepted.{SmallList, read_beside_lem}
use Rattle.figure_rules.proofs.Adding.{added_length, added_at}
use Rattle.figure_rules.proofs.Tests.{placed_short, placed_added, reported_taken}
use Rattle.figure_sums.specs.Orders.{Given, read_beside, State, fresh, counts_in, in_order, share_of, accepted_by, refused_by, total, ExactSums}
use Rattle.figure_sums.proofs.Bounds.{AtMost, zeros_most, figures_most, sums_fit_lem, added_most}
use Rattle.std.specs.Prelude.{Ok}

-- a state of a report of n words, with no word above what so many lists can have
pub record Open (n : ℕ) (st : State) : Type 0 where
  pub long : length st.words ≡ n
  pub bounded : AtMost (st.counts.accepted * 2 ^ 45) st.words

-- the state that a call leaves
abbrev left : Report → State
left r = record { counts = counts_in r.answer; words = r.words }

-- the state with what a list adds
abbrev grown : ℕ → Beside (List (List PageRow)) → State → State
grown n x st =
    record {
      counts = record { accepted = st.counts.accepted + accepted_by n x; refused = st.counts.refused + refused_by x };
      words = added (share_of n x) st.words;
    }

-- the figures of a list that was read fit
pub list_fits : (n : ℕ) (st : State) → Open n st → st.counts.accepted ≤ most_lists → (columns : ℕ) (pss : List (List PageRow)) → SmallList columns pss → sums_fit (list_figures pss) st.words ≡ true
list_fits n st o few columns pss small = sums_fit_lem (list_figures pss) st.words (2 ^ 45) (st.counts.accepted * 2 ^ 45) (figures_most pss small.each) o.bounded (omega arith)

module _ (n : ℕ) (st : State) (o : Open n st) where
  -- a call that leaves the state with what a list adds
  abbrev Grows : Beside (List (List PageRow)) → Report → Type 0
  Grows x r = (left r ≡ grown n x st) × Open n (grown n x st)

  grows : (x : Beside (List (List PageRow))) (r : Report) → AtMost (accepted_by n x * 2 ^ 45) (share_of n x)
      → (counts_in r.answer).accepted ≡ st.counts.accepted + accepted_by n x → (counts_in r.answer).refused ≡ st.counts.refused + refused_by x
      → r.words ≡ added (share_of n x) st.words → Grows x r
  grows x r most accepted refused words = (
    (λ j. record { counts = record { accepted = accepted j; refused = refused j }; words = words j }),
    record {
      long = added_length (share_of n x) st.words ∙ o.long;
      bounded = λ k. omega (arith, added_most (share_of n x) st.words (accepted_by n x * 2 ^ 45) (st.counts.accepted * 2 ^ 45) most o.bounded k);
    },
  )

  module _ (more : st.counts.accepted + st.counts.refused < most_lists) where
    placed_grows : (columns : ℕ) (pss : List (List PageRow)) → SmallList columns pss → Grows (read pss) (placed (length pss) (list_figures pss) st.counts st.words)
    unfolding added share_of accepted_by refused_by
    placed_grows columns pss small = by (rows_for n (length pss)) refl
      where
        by : (b : Bool) → rows_for n (length pss) ≡ b → Grows (read pss) (placed (length pss) (list_figures pss) st.counts st.words)
        by true e =
            let long = o.long in
            let one : accepted_by n (read pss) ≡ 1 = rw e refl in
            let share : share_of n (read pss) ≡ list_figures pss = rw e in
            subst (Grows (read pss)) (sym (placed_added (length pss) (list_figures pss) st.counts st.words (omega (arith, leb-true (length pss) (n / figure_width) e)) (list_fits n st o (omega arith) columns pss small)))
            (grows (read pss) (record { answer = Ok (one_accepted st.counts); words = added (list_figures pss) st.words })
            (λ k. omega (arith, one, ap (λ (l : List ℕ). get_or l k 0) share, figures_most pss small.each k)) (omega (arith, one)) (omega arith) (ap (λ (l : List ℕ). added l st.words) (sym share)))
        by false e =
            let long = o.long in
            let none : accepted_by n (read pss) ≡ 0 = rw e refl in
            let share : share_of n (read pss) ≡ [] = rw e in
            subst (Grows (read pss)) (sym (placed_short (length pss) (list_figures pss) st.counts st.words (omega (arith, leb-false (length pss) (n / figure_width) e))))
            (grows (read pss) (not_counted 20 st.counts st.words)
            (λ k. omega (arith, none, ap (λ (l : List ℕ). get_or l k 0) share)) (omega (arith, none)) (omega arith) (ap (λ (l : List ℕ). added l st.words) (sym share)))

    taken_grows : (header : List ℕ) (g : Given) (x : Beside (List (List PageRow))) → read_beside header g ≡ x → Grows x (taken x st.counts st.words)
    unfolding added share_of accepted_by refused_by taken
    taken_grows header g (read pss) e = let r = read_beside_lem header g.list g.entries g.file pss e in placed_grows _ pss r.small
    taken_grows header g (refusal k f) e = grows (refusal k f) (taken (refusal k f) st.counts st.words) (λ k. omega arith) (omega arith) (omega arith) refl

    pub after_grows : (header : List ℕ) (g : Given) → Grows (read_beside header g) (reported (read_beside header g) st.counts st.words)
    after_grows header g = subst (Grows (read_beside header g)) (sym (reported_taken (read_beside header g) st.counts st.words more)) (taken_grows header g (read_beside header g) refl)

-- a list is counted at most once
one_each : (n : ℕ) (x : Beside (List (List PageRow))) → accepted_by n x + refused_by x ≤ 1
unfolding accepted_by refused_by
one_each n (read pss) = by (rows_for n (length pss))
  where
    by : (b : Bool) → pick b 1 0 + 0 ≤ 1
    by true = omega arith
    by false = omega arith
one_each n (refusal k f) = omega arith

-- all lists, from any state
pub record SumsFrom (header : List ℕ) (n : ℕ) (gs : List Given) (from to : State) : Type 0 where
  pub within : Open n to
  pub counted : to.counts.accepted + to.counts.refused ≤ from.counts.accepted + from.counts.refused + length gs
  pub figures : (k : ℕ) → k < n → get_or to.words k 0 ≡ get_or from.words k 0 + total (λ g. get_or (share_of n (read_beside header g)) k 0) gs
  pub accepted_are : to.counts.accepted ≡ from.counts.accepted + total (λ g. accepted_by n (read_beside header g)) gs
  pub refused_are : to.counts.refused ≡ from.counts.refused + total (λ g. refused_by (read_beside header g)) gs

pub sums_from : (header : List ℕ) (n : ℕ) (gs : List Given) (st : State) → Open n st → st.counts.accepted + st.counts.refused + length gs ≤ most_lists → SumsFrom header n gs st (in_order header gs st)
unfolding in_order total
sums_from header n [] st o h = record { within = o; counted = omega arith; figures = λ k l. omega arith; accepted_are = omega arith; refused_are = omega arith }
sums_from header n (g ∷ gs) st o h =
    let x : Beside (List (List PageRow)) = read_beside header g in
    let one = one_each n x in
    let (same, opened) = after_grows n st o (omega arith) header g in
    let i = sums_from header n gs (grown n x st) opened (omega arith) in
    subst (λ (s : State). SumsFrom header n (g ∷ gs) st (in_order header gs s)) (sym same)
    (record {
      within = i.within;
      counted = let c = i.counted in omega arith;
      figures = λ k l. let e = added_at (share_of n x) st.words k (omega (arith, o.long)) in let f = i.figures k l in omega arith;
      accepted_are = let f = i.accepted_are in omega arith;
      refused_are = let f = i.refused_are in omega arith;
    })

pub fresh_open : (n : ℕ) → Open n (fresh n)
fresh_open n = record { long = length-replicate {A = ℕ} n _; bounded = λ k. omega (arith, zeros_most n k) }

pub exact_sums : ExactSums
unfolding ExactSums
exact_sums header n gs h =
    let s = sums_from header n gs (fresh n) (fresh_open n) (omega arith) in
    record {
      long = s.within.long;
      figures = λ k l. let f = s.figures k l in let z = get_or-replicate {A = ℕ} n k 0 0 l in omega arith;
      accepted_are = let f = s.accepted_are in omega arith;
      refused_are = let f = s.refused_are in omega arith;
    }
