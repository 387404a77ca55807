-- Where the pages in turn end: which of them are accepted, what ends them, and the words that they leave.
-- Assumes nothing.
use Prim.Native.Nat.{ℕ, suc, ◌+◌, ◌<◌, ◌≤◌}
use mathlib.Core.Path.{◌≡◌, refl, sym, ap, ◌∙◌}
use mathlib.Core.Bool.{Bool, true, false}
use mathlib.Core.List.{List, [], ◌∷◌, ◌++◌}
use mathlib.Core.Logic.{◌⊎◌, inl, inr}
use native.Mathlib.Nat.{add-zero}
use native.Mathlib.Omega.{arith}
use lib.ListN.{length, take, drop, length-append, take-append-drop}
use Rattle.numbers.specs.Rows.{flat, over}
use Rattle.numbers.proofs.Choice.{clash}
use Rattle.outcome.specs.Outcome.{is_accepted}
use Rattle.page_rules.proofs.Laid.{length_left}
use Rattle.column_rules.specs.declared.ColumnPage.{ColumnPage}
use Rattle.column_rules.specs.Column.{accept_all, refuse_at, page_outcome, page_decoded, Decoding, index_of, in_turn}
use Rattle.column_rules.specs.Statements.{page_elements}
use Rattle.column_rules.proofs.TurnLaws.{page_accepted, turn_accepted, turn_refused, one_after_other}

module _ (t : ℕ) (file : List ℕ) where
  -- the pages from number i on stop at one that is refused, whatever comes after it
  pub record Stops (ps : List ColumnPage) (i start : ℕ) (old : List ℕ) (d : Decoding) (done : ℕ) : Type 0 where
    pub less : done < length ps
    pub same : (qs : List ColumnPage) → in_turn t file (take (suc done) ps ++ qs) i start old ≡ d

  -- so many of them are accepted, and leave the words that are left; they are all, or the next is refused
  pub record Ends (ps : List ColumnPage) (i start : ℕ) (old : List ℕ) (d : Decoding) : Type 0 where
    pub done : ℕ
    pub most : done ≤ length ps
    pub index : index_of d ≡ i + done
    pub before : in_turn t file (take done ps) i start old ≡ record { outcome = accept_all (i + done); words = d.words }
    pub last : ((done ≡ length ps) × (d.outcome ≡ accept_all (i + done))) ⊎ Stops ps i start old d done

  -- one page more in front, that is accepted
  module _ (p : ColumnPage) (ps : List ColumnPage) (i start : ℕ) (old : List ℕ) (e : is_accepted (page_outcome t file p (length old) start) ≡ true) where
    abbrev left : List ℕ
    left = page_decoded t file p old start

    module _ (d : Decoding) where
      more_last : (done : ℕ) → ((done ≡ length ps) × (d.outcome ≡ accept_all (suc i + done))) ⊎ Stops ps (suc i) (start + p.elements) left d done
          → ((suc done ≡ suc (length ps)) × (d.outcome ≡ accept_all (i + suc done))) ⊎ Stops (p ∷ ps) i start old d (suc done)
      more_last done (inl l) =
          let next : i + suc done ≡ suc i + done = omega arith in
          inl (ap suc l.0, rw next l.1)
      more_last done (inr s) =
          let less = s.less in
          inr (record {
            less = omega arith;
            same = λ qs. turn_accepted t file p old start (take (suc done) ps ++ qs) i e ∙ s.same qs;
          })

      one_more : Ends ps (suc i) (start + p.elements) left d → Ends (p ∷ ps) i start old d
      one_more r =
          let next : i + suc r.done ≡ suc i + r.done = omega arith in
          let most = r.most in
          record {
            done = suc r.done;
            most = omega arith;
            index = rw next r.index;
            before = turn_accepted t file p old start (take r.done ps) i e ∙ rw next r.before;
            last = more_last r.done r.last;
          }

  -- a first page that is refused
  none_more : (p : ColumnPage) (ps : List ColumnPage) (i start : ℕ) (old : List ℕ) → is_accepted (page_outcome t file p (length old) start) ≡ false
      → Ends (p ∷ ps) i start old (record { outcome = refuse_at (page_outcome t file p (length old) start).number i; words = old })
  unfolding in_turn
  none_more p ps i start old e =
      record {
        done = 0;
        most = omega arith;
        index = sym (add-zero i);
        before = rw (add-zero i);
        last = inr (record {
          less = omega arith;
          same = λ qs. turn_refused t file p old start qs i e;
        });
      }

  pub ends : (ps : List ColumnPage) (i start : ℕ) (old : List ℕ) → Ends ps i start old (in_turn t file ps i start old)
  unfolding in_turn
  ends [] i start old = record { done = 0; most = omega arith; index = sym (add-zero i); before = rw (add-zero i); last = inl (refl, rw (add-zero i)) }
  ends (p ∷ ps) i start old = by (ends ps (suc i) (start + p.elements) (page_decoded t file p old start)) (is_accepted (page_outcome t file p (length old) start)) refl
    where
      by : Ends ps (suc i) (start + p.elements) (page_decoded t file p old start) (in_turn t file ps (suc i) (start + p.elements) (page_decoded t file p old start))
          → (b : Bool) → is_accepted (page_outcome t file p (length old) start) ≡ b → Ends (p ∷ ps) i start old (in_turn t file (p ∷ ps) i start old)
      by r true e = rw (turn_accepted t file p old start ps i e) (one_more p ps i start old e _ r)
      by r false e = rw (turn_refused t file p old start ps i e) (none_more p ps i start old e)

  -- pages that are all accepted leave their elements, one after the other from `start` on
  abbrev pub AllLeft : List ColumnPage → ℕ → List ℕ → List ℕ → Type 0
  AllLeft ps start old new =
      (start + length (flat (page_elements t file) ps) ≤ length old) × (new ≡ take start old ++ over (flat (page_elements t file) ps) (drop start old))

  pub all_left : (ps : List ColumnPage) (i start : ℕ) (old : List ℕ) → start ≤ length old → is_accepted (in_turn t file ps i start old).outcome ≡ true
      → AllLeft ps start old (in_turn t file ps i start old).words
  unfolding in_turn flat
  all_left [] i start old h e = (omega arith, sym (take-append-drop start old))
  all_left (p ∷ ps) i start old h e =
      by (all_left ps (suc i) (start + p.elements) (page_decoded t file p old start)) (is_accepted (page_outcome t file p (length old) start)) refl e
    where
      by : (start + p.elements ≤ length (page_decoded t file p old start)
          → is_accepted (in_turn t file ps (suc i) (start + p.elements) (page_decoded t file p old start)).outcome ≡ true
          → AllLeft ps (start + p.elements) (page_decoded t file p old start) (in_turn t file ps (suc i) (start + p.elements) (page_decoded t file p old start)).words)
          → (b : Bool) → is_accepted (page_outcome t file p (length old) start) ≡ b → is_accepted (in_turn t file (p ∷ ps) i start old).outcome ≡ true
          → AllLeft (p ∷ ps) start old (in_turn t file (p ∷ ps) i start old).words
      by rest true a e =
          let xs : List ℕ = page_elements t file p in
          let ys : List ℕ = flat (page_elements t file) ps in
          let k = page_accepted t file p old start a in
          let s = turn_accepted t file p old start ps i a in
          let long : length (page_decoded t file p old start) ≡ length old = ap length k.leaves ∙ length_left old xs start p.elements k.count k.room in
          let room = k.room in
          let r = rest (omega arith) (ap (λ (d : Decoding). is_accepted d.outcome) (sym s) ∙ e) in (
            omega (arith, r.0, k.count, length-append xs ys),
            ap (λ (d : Decoding). d.words) s ∙ r.1
                ∙ ap (λ (now : List ℕ). take (start + p.elements) now ++ over ys (drop (start + p.elements) now)) k.leaves
                ∙ one_after_other old xs ys start p.elements k.count k.room,
          )
      by rest false a e = clash e (ap (λ (d : Decoding). is_accepted d.outcome) (turn_refused t file p old start ps i a))
