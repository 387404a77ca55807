-- Laws of dark fields, a column more at a time, and of a table's columns. Assumes nothing.
use Prim.Native.Nat.{ℕ, ◌+◌, ◌≤◌, ◌<◌}
use mathlib.Core.Path.{◌≡◌, refl, sym, ap, ◌∙◌}
use mathlib.Core.Logic.{◌⊎◌, inl, inr, ⊎_elim, ◌↔◌}
use mathlib.Core.Bool.{Bool, true, false, not}
use mathlib.Core.List.{List, [], ◌∷◌, ◌++◌, append-nil}
use native.Mathlib.Numerals.{add-one}
use lib.ListN.{length, get_or, take}
use lib.Seq.{length-take-le, get_or-take}
use lib.Dec.{ltb}
use borrow.Author.Tests.{lt-ltb, ltb-true}
use Rattle.numbers.specs.Choice.{pick, both}
use Rattle.column_type.specs.Types.{known}
use Rattle.parents.specs.Parents.{Inside, is_above}
use Rattle.parents.specs.Marks.{Darkened}
use Rattle.rows.specs.Words.{bit}
use Rattle.rows.specs.Tables.{column_row, first_rows, columns_in}
use Rattle.parents.specs.Dark.{darkens, dark, UnknownBelow, unknown_on, hanging}
use Rattle.rows.specs.declared.ColumnRow.{ColumnRow}
use Rattle.parents.proofs.ChainLaws.{is_above_same, is_above_iff}
use Rattle.numbers.proofs.Choice.{clash, both_true}

pick_swap : (a b c : Bool) → pick a true (pick b true c) ≡ pick b true (pick a true c)
pick_swap true true c = refl
pick_swap true false c = refl
pick_swap false b c = refl

-- a column more, at the end
pub dark_snoc : (parents : List ℕ) (cs : List ColumnRow) (c : ColumnRow) (f : ℕ)
    → dark parents (cs ++ (c ∷ [])) f ≡ pick (darkens parents c f) true (dark parents cs f)
unfolding dark
dark_snoc parents [] c f = refl
dark_snoc parents (d ∷ cs) c f =
    rw (dark_snoc parents cs c f) (pick_swap (darkens parents d f) (darkens parents c f) (dark parents cs f))

bit_pick : (a d : Bool) → bit (pick a true d) ≡ pick a 1 (bit d)
bit_pick true d = refl
bit_pick false d = refl

-- a column that darkens hangs on one of n fields
pub owner_below : (n : ℕ) (c : ColumnRow) → unknown_on n c ≡ true → c.field.0 < n
owner_below n c e = ltb-true c.field.0 n (both_true (not (known c.column_type)) (ltb c.field.0 n) e).1

-- a column more of those that hang on one of n fields

pick_append : (b : Bool) (d : ColumnRow) (cs ds : List ColumnRow) → pick b (d ∷ (cs ++ ds)) (cs ++ ds) ≡ pick b (d ∷ cs) cs ++ ds
pick_append true d cs ds = refl
pick_append false d cs ds = refl

hanging_snoc : (n : ℕ) (cs : List ColumnRow) (c : ColumnRow) → hanging n (cs ++ (c ∷ [])) ≡ hanging n cs ++ pick (ltb c.field.0 n) (c ∷ []) []
unfolding hanging
hanging_snoc n [] c = refl
hanging_snoc n (d ∷ cs) c =
    rw (hanging_snoc n cs c) (pick_append (ltb d.field.0 n) d (hanging n cs) (pick (ltb c.field.0 n) (c ∷ []) []))

module _ (parents : List ℕ) (n : ℕ) (cs : List ColumnRow) (c : ColumnRow) (f : ℕ) where
  dark_more : dark parents (hanging n (cs ++ (c ∷ []))) f
      ≡ pick (unknown_on n c) (pick (is_above parents (length parents) f c.field.0) true (dark parents (hanging n cs) f)) (dark parents (hanging n cs) f)
  dark_more =
      ap (λ (l : List ColumnRow). dark parents l f) (hanging_snoc n cs c)
      ∙ by (ltb c.field.0 n) (known c.column_type) (dark_snoc parents (hanging n cs) c f)
    where
      by : (b k : Bool)
          → dark parents (hanging n cs ++ (c ∷ [])) f ≡ pick (both (not k) (is_above parents (length parents) f c.field.0)) true (dark parents (hanging n cs) f)
          → dark parents (hanging n cs ++ pick b (c ∷ []) []) f
          ≡ pick (both (not k) b) (pick (is_above parents (length parents) f c.field.0) true (dark parents (hanging n cs) f)) (dark parents (hanging n cs) f)
      by true true e = e
      by true false e = e
      by false true e = rw append-nil
      by false false e = rw append-nil

-- where every column hangs on one of them, they are all

abbrev pub Owned : ℕ → List ColumnRow → Type 0
Owned n [] = Unit {0}
Owned n (c ∷ cs) = (c.field.0 < n) × Owned n cs

pub hanging_all : (n : ℕ) (cs : List ColumnRow) → Owned n cs → hanging n cs ≡ cs
unfolding hanging
hanging_all n [] o = refl
hanging_all n (c ∷ cs) o = rw (lt-ltb c.field.0 n o.0, hanging_all n cs o.1)

-- the marks after one more column, of the first n parents of a longer list
module _ (parents : List ℕ) (n : ℕ) (inside : Inside parents n) (fits : n ≤ length parents) (words : List ℕ) (i : ℕ) (marks marks' : List ℕ)
    (held : (f : ℕ) → get_or marks f 0 ≡ bit (dark (take n parents) (hanging n (columns_in words i)) f)) where
  pub marks_kept : unknown_on n (column_row words i) ≡ false → marks' ≡ marks
      → (f : ℕ) → get_or marks' f 0 ≡ bit (dark (take n parents) (hanging n (columns_in words (i + 1))) f)
  unfolding first_rows
  marks_kept k e f = rw (e, add-one, dark_more (take n parents) n (columns_in words i) (column_row words i) f, k) (held f)

  pub marks_added : unknown_on n (column_row words i) ≡ true
      → Darkened parents marks marks' n (column_row words i).field.0
      → (f : ℕ) → get_or marks' f 0 ≡ bit (dark (take n parents) (hanging n (columns_in words (i + 1))) f)
  unfolding first_rows
  marks_added k d f =
      let l = owner_below n (column_row words i) k in
      rw (
        add-one,
        dark_more (take n parents) n (columns_in words i) (column_row words i) f,
        k,
        bit_pick (is_above (take n parents) (length (take n parents)) f (column_row words i).field.0) (dark (take n parents) (hanging n (columns_in words i)) f),
        length-take-le n parents fits,
        ← is_above_same parents (take n parents) n inside (λ x h. sym (get_or-take n parents x 0 h)) n f (column_row words i).field.0 l,
        ← held f,
      )
      (d.each f)

-- the unbounded meaning

one_more : (k a d : Bool) {A D : Type 0} → (a ≡ true) ↔ A → (d ≡ true) ↔ D → (pick (both (not k) a) true d ≡ true) ↔ (((k ≡ false) × A) ⊎ D)
one_more true a d h g = (λ e. inr (g.0 e), λ s. ⊎_elim (λ x. clash refl x.0) g.1 s)
one_more false true d h g = (λ _. inl (refl, h.0 refl), λ _. refl)
one_more false false d h g = (λ e. inr (g.0 e), λ s. ⊎_elim (λ x. clash (h.1 x.1) refl) g.1 s)

pub dark_iff : (parents : List ℕ) → Inside parents (length parents) → (cs : List ColumnRow) → Owned (length parents) cs → (f : ℕ)
    → (dark parents cs f ≡ true) ↔ UnknownBelow parents cs f
unfolding dark
dark_iff parents inside [] all f = (λ e. clash e refl, λ e. absurd e)
dark_iff parents inside (c ∷ cs) all f =
    one_more (known c.column_type) (is_above parents (length parents) f c.field.0) (dark parents cs f)
    (is_above_iff parents (length parents) inside f c.field.0 all.0)
    (dark_iff parents inside cs all.1 f)
