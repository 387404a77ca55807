-- One call on a column does what single calls made in turn do.
-- Assumes nothing.
use Prim.Native.Nat.{ℕ, suc, ◌+◌}
use mathlib.Core.Path.{◌≡◌, refl, sym, ap, ◌∙◌, subst, transport}
use mathlib.Core.Bool.{Bool, true, false}
use mathlib.Core.List.{List, [], ◌∷◌}
use native.Mathlib.Omega.{arith}
use lib.ListN.{length}
use borrow.Author.Tests.{eq-eqb}
use Rattle.numbers.proofs.Choice.{clash, is_false}
use Rattle.outcome.specs.Outcome.{is_accepted, code_of}
use Rattle.column_rules.specs.declared.ColumnPage.{ColumnPage}
use Rattle.column_rules.specs.Column.{inside, column_pages, page_outcome, page_decoded, Decoding, index_of, in_turn}
use Rattle.column_rules.specs.SingleCalls.{SingleCalls, finished, goes_on, stops, outside, CallsInTurn, OneCallIsSingleCalls}
use Rattle.column_rules.proofs.TurnLaws.{is_single, is_outside, page_accepted, page_refused, accepted_code, refused_code, turn_accepted, turn_refused}
use Rattle.column_rules.proofs.Statements.{few_pages}

-- what calls end with is what a decoding has
abbrev Same : ℕ → ℕ → List ℕ → Decoding → Type 0
Same r k new d = (r ≡ code_of d.outcome) × (k ≡ index_of d) × (new ≡ d.words)

module _ (t : ℕ) (file : List ℕ) where
  -- a page that is refused, by the one number of its answer
  refused_same : (p : ColumnPage) (ps : List ColumnPage) (i start : ℕ) (old : List ℕ) (r : ℕ) (new : List ℕ)
      → is_accepted (page_outcome t file p (length old) start) ≡ false → r ≡ code_of (page_outcome t file p (length old) start) → new ≡ old
      → Same r i new (in_turn t file (p ∷ ps) i start old)
  refused_same p ps i start old r new e code kept =
      rw (turn_refused t file p old start ps i e) (code ∙ refused_code t file p old start i e, refl, kept)

  -- however single calls are made, they end with what the pages in turn end with
  calls_are : {ps : List ColumnPage} {i start : ℕ} {old : List ℕ} {r k : ℕ} {new : List ℕ} → SingleCalls t file ps i start old r k new → Same r k new (in_turn t file ps i start old)
  unfolding in_turn
  calls_are finished = (refl, refl, refl)
  calls_are (goes_on {p = p} {ps = ps} {i = i} {start = start} {r = r} {k = k} {old = old} {next = next} {new = new} called rest) =
      let s = is_single t file p old start called.is_inside in
      let zero : 0 ≡ code_of (page_outcome t file p (length old) start) = called.answers ∙ sym (ap code_of s.0) in
      let ok : is_accepted (page_outcome t file p (length old) start) ≡ true = eq-eqb (page_outcome t file p (length old) start).envelope 0 (omega arith) in
      subst (Same r k new)
      (ap (in_turn t file ps (suc i) (start + p.elements)) (called.leaves ∙ sym s.1) ∙ sym (turn_accepted t file p old start ps i ok))
      (calls_are rest)
  calls_are (stops {p = p} {ps = ps} {i = i} {start = start} {r = r} {old = old} {new = new} called) =
      let s = is_single t file p old start called.is_inside in
      let code : suc r ≡ code_of (page_outcome t file p (length old) start) = called.answers ∙ sym (ap code_of s.0) in
      let no : is_accepted (page_outcome t file p (length old) start) ≡ false =
      is_false _ (λ e. let z = accepted_code t file p old start e in absurd (omega arith)) in
      refused_same p ps i start old (suc r) new no code (called.leaves ∙ sym s.1 ∙ page_refused t file p old start no)
  calls_are (outside {p = p} {ps = ps} {i = i} {start = start} {old = old} h) =
      refused_same p ps i start old _ old
      (is_false _ (λ e. clash (page_accepted t file p old start e).is_inside h))
      (sym (ap code_of (is_outside t file p old start h).0)) refl

  -- they can be made

  abbrev Made : List ColumnPage → ℕ → ℕ → List ℕ → Decoding → Type 0
  Made ps i start old d = SingleCalls t file ps i start old (code_of d.outcome) (index_of d) d.words

  made_by : {ps : List ColumnPage} {i start : ℕ} {old : List ℕ} {r k : ℕ} {new : List ℕ} → SingleCalls t file ps i start old r k new → Made ps i start old (in_turn t file ps i start old)
  made_by {ps} {i} {start} {old} {r} {k} {new} made = transport (λ j. SingleCalls t file ps i start old (same.0 j) (same.1 j) (same.2 j)) made
    where
      same : Same r k new (in_turn t file ps i start old)
      same = calls_are made

  -- one page more, where the calls for the pages after it can be made
  one_more : (p : ColumnPage) (ps : List ColumnPage) (i start : ℕ) (old : List ℕ)
      → ((at : ℕ) (words : List ℕ) → Made ps (suc i) at words (in_turn t file ps (suc i) at words))
      → Made (p ∷ ps) i start old (in_turn t file (p ∷ ps) i start old)
  one_more p ps i start old rest = by (inside file p) (is_accepted (page_outcome t file p (length old) start)) refl refl
    where
      by : (b a : Bool) → inside file p ≡ b → is_accepted (page_outcome t file p (length old) start) ≡ a → Made (p ∷ ps) i start old (in_turn t file (p ∷ ps) i start old)
      by true true h e =
          let s = is_single t file p old start h in
          made_by (goes_on (record { is_inside = h; answers = sym (accepted_code t file p old start e) ∙ ap code_of s.0; leaves = s.1 })
          (rest (start + p.elements) (page_decoded t file p old start)))
      by true false h e =
          let s = is_single t file p old start h in
          let code : suc (1023 + (page_outcome t file p (length old) start).number) ≡ code_of (page_outcome t file p (length old) start) =
          (omega arith) ∙ sym (refused_code t file p old start i e) in
          made_by (stops (record { is_inside = h; answers = code ∙ ap code_of s.0; leaves = s.1 }))
      by false a h e = made_by (outside h)

  calls : (ps : List ColumnPage) (i start : ℕ) (old : List ℕ) → Made ps i start old (in_turn t file ps i start old)
  unfolding in_turn
  calls [] i start old = finished
  calls (p ∷ ps) i start old = one_more p ps i start old (λ at words. calls ps (suc i) at words)

pub calls_in_turn : CallsInTurn
unfolding CallsInTurn
calls_in_turn t file table old few = rw (few_pages t file table old few) (calls t file (column_pages table) 0 0 old)

pub one_call_is_single_calls : OneCallIsSingleCalls
unfolding OneCallIsSingleCalls
one_call_is_single_calls t file table old r k new few made = rw (few_pages t file table old few) (calls_are t file made)
