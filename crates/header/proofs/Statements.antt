-- Parent chains and dark marks without a bound on the moves.
use Prim.Native.Nat.{ℕ, ◌-◌, ◌<◌}
use mathlib.Core.Path.{◌≡◌, refl, sym, ap, subst, ◌∙◌}
use mathlib.Core.Logic.{⊎_elim}
use mathlib.Core.Bool.{true, false}
use mathlib.Core.List.{List}
use lib.ListN.{length, get_or, take, length-map}
use lib.Dec.{ltb}
use native.Mathlib.Omega.{arith}
use borrow.Author.Tests.{ltb-true, ltb-false}
use Rattle.wire.specs.Reading.{Step, found, refused}
use Rattle.envelope.specs.Envelope.{envelope}
use Rattle.wire.proofs.Laws.{never}
use Rattle.rows.specs.declared.FieldRow.{FieldRow}
use Rattle.header.specs.Header.{Header, payload}
use Rattle.parents.specs.Parents.{Inside, Reaches, all_reach, endless}
use Rattle.outcome.specs.Outcome.{Outcome}
use Rattle.header.specs.Tables.{chained, header_of, parents_of, chain_fault, lowest_in, endless_fault}
use Rattle.header.specs.Statements.{Lowest, ChainsAsDefined, EndlessAsDefined, DarkAsDefined, HeaderAnswerTells}
use Rattle.std.specs.Prelude.{Option, Some, None}
use Rattle.rows.specs.declared.FieldNumber.{FieldNumber}
use Rattle.numbers.proofs.Choice.{which, clash, is_false}
use Rattle.parents.proofs.EndlessLaws.{all_end, one_endless, all_reach_iff}
use Rattle.parents.proofs.DarkLaws.{Owned, dark_iff}
use Rattle.header.proofs.BoundLaws.{each_owned}
use Rattle.header.proofs.HeaderLaws.{payload_inside, header_reaches, parents_inside, column_fields}
use Rattle.std.specs.Prelude.{Ok, Err}

module _ (rows : List FieldRow) (inside : Inside (parents_of rows) (length rows)) where
  same : endless (parents_of rows) (length (parents_of rows)) (length rows) ≡ endless (parents_of rows) (length rows) (length rows)
  same = ap (λ (k : ℕ). endless (parents_of rows) k (length rows)) (length-map rows (λ (r : FieldRow). r.head.parent.0))

  all_reached : all_reach (parents_of rows) (length rows) ≡ true → (f : ℕ) → f < length rows → Reaches (parents_of rows) f
  all_reached t = all_end (parents_of rows) (length rows) inside (sym same ∙ (all_reach_iff (parents_of rows) (length rows)).0 t)

  lowest_of : all_reach (parents_of rows) (length rows) ≡ false → Lowest (parents_of rows) (length rows) (lowest_in (endless (parents_of rows) (length rows) (length rows)))
  lowest_of n = by (endless (parents_of rows) (length rows) (length rows)) refl
    where
      by : (c : Option FieldNumber) → endless (parents_of rows) (length rows) (length rows) ≡ c → Lowest (parents_of rows) (length rows) (lowest_in c)
      by None e = clash ((all_reach_iff (parents_of rows) (length rows)).1 (same ∙ e)) n
      by (Some f) e = let r = one_endless (parents_of rows) (length rows) inside f.0 e in record { one = r.0; never = r.1; below = r.2 }

lowest_unique : {parents : List ℕ} {n a b : ℕ} → Lowest parents n a → Lowest parents n b → a ≡ b
lowest_unique {a = a} {b = b} x y =
    ⊎_elim (λ t. absurd (x.never (y.below a (ltb-true a b t))))
    (λ u.
    ⊎_elim (λ t. absurd (y.never (x.below b (ltb-true b a t))))
    (λ v. let l = ltb-false a b u in let k = ltb-false b a v in omega arith)
    (which (ltb b a)))
    (which (ltb a b))

-- the verdict on an envelope whose payload is read
module _ (e : List ℕ) {h : Header} {p : ℕ} (w : envelope 1 payload e ≡ found h p) where
  accepts : all_reach (parents_of h.lists.fields) (length h.lists.fields) ≡ true → header_of e ≡ found h p
  unfolding header_of chained
  accepts t = ap (chained (take (length e - 4) e)) w ∙ rw t

  refuses : all_reach (parents_of h.lists.fields) (length h.lists.fields) ≡ false → header_of e ≡ refused (endless_fault (take (length e - 4) e) h.lists)
  unfolding header_of chained
  refuses n = ap (chained (take (length e - 4) e)) w ∙ rw n

pub chains_as_defined : ChainsAsDefined
chains_as_defined e h p w =
    let rows = h.lists.fields in
    let inside = payload_inside e w in (
      λ g. all_reached rows inside (header_reaches e g),
      λ all. ⊎_elim (accepts e w) (λ n. let r = lowest_of rows inside n in absurd (r.never (all _ r.one))) (which (all_reach (parents_of rows) (length rows))),
    )

-- the item that a step's fault names
abbrev item_in : Step Header → ℕ
item_in (found h p) = 0
item_in (refused f) = f.item

pub endless_as_defined : EndlessAsDefined
endless_as_defined e h p w f =
    let rows = h.lists.fields in
    let inside = payload_inside e w in (
      λ g. ⊎_elim (λ t. never (sym g ∙ accepts e w t))
          (λ n. subst (Lowest (parents_of rows) (length rows)) (ap item_in (sym (refuses e w n) ∙ g)) (lowest_of rows inside n))
          (which (all_reach (parents_of rows) (length rows))),
      λ r.
          let n = is_false (all_reach (parents_of rows) (length rows)) (λ t. r.never (all_reached rows inside t f r.one)) in
          let same = lowest_unique (lowest_of rows inside n) r in
          refuses e w n ∙ ap (λ (k : ℕ). refused (chain_fault (take (length e - 4) e) h.lists.fields_at k)) same,
    )

pub dark_as_defined : DarkAsDefined
dark_as_defined e h p w =
    dark_iff (parents_of h.lists.fields) (subst (Inside (parents_of h.lists.fields)) (sym long) (parents_inside e w)) h.lists.columns
    (subst (λ (n : ℕ). Owned n h.lists.columns) (sym long) (each_owned (length h.lists.fields) h.lists.columns (column_fields e w)))
  where
    long : length (parents_of h.lists.fields) ≡ length h.lists.fields
    long = length-map h.lists.fields (λ (r : FieldRow). r.head.parent.0)

pub header_answer_tells : HeaderAnswerTells
header_answer_tells (Ok t) (Ok u) o e =
    let counts = ap (λ (x : Outcome). x.counts) o in
    let f : t.fields ≡ u.fields = ap (λ (l : List ℕ). get_or l 0 0) counts in
    let c : t.columns ≡ u.columns = ap (λ (l : List ℕ). get_or l 1 0) counts in
    let a : t.aliases ≡ u.aliases = ap (λ (l : List ℕ). get_or l 2 0) counts in
    λ i. Ok (record { texts = e i; fields = f i; columns = c i; aliases = a i })
header_answer_tells (Ok t) (Err n) o e = let z : ◌≡◌ {A = ℕ} 0 1 = ap (λ (x : Outcome). x.envelope) o in absurd (omega arith)
header_answer_tells (Err n) (Ok t) o e = let z : ◌≡◌ {A = ℕ} 1 0 = ap (λ (x : Outcome). x.envelope) o in absurd (omega arith)
header_answer_tells (Err n) (Err k) o e = ap (λ (x : ℕ). Err x) (ap (λ (x : Outcome). x.number) o)
