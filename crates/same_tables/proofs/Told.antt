-- The tests are passed exactly when the tables are the same.
use Prim.Native.Nat.{ℕ, zero, suc, ◌+◌, ◌≤◌, ◌<◌, zero-le}
use mathlib.Core.Path.{◌≡◌, refl, subst}
use mathlib.Core.Bool.{Bool, true, false}
use mathlib.Core.List.{List, [], ◌∷◌}
use native.Mathlib.Omega.{arith}
use lib.Dec.{eqb}
use borrow.Author.Tests.{eqb-true, eqb-false, eq-eqb}
use Rattle.numbers.specs.Choice.{both}
use Rattle.numbers.proofs.Choice.{clash, both_true}
use Rattle.rows.specs.Tables.{field_row, dark_mark}
use Rattle.rows.specs.declared.Text.{Text}
use Rattle.same_tables.specs.Same.{characters_of, numbers_of, same_numbers, same_texts, same_strings, same_field, all_from, same_read}
use Rattle.same_tables.specs.Means.{Exactly, SameField, HeadersTold, FootersTold, PageListsTold}

both_exactly : {a b : Bool} {P Q : Type 0} → Exactly a P → Exactly b Q → Exactly (both a b) (P × Q)
both_exactly {a = a} {b = b} x y =
    record {
      sound = λ e. let s = both_true a b e in (x.sound s.0, y.sound s.1);
      complete = λ p. rw (x.complete p.0, y.complete p.1);
    }

said : {a : Bool} {P Q : Type 0} → Exactly a P → (P → Q) → (Q → P) → Exactly a Q
said x to from = record { sound = λ e. to (x.sound e); complete = λ q. x.complete (from q) }

count_exactly : (m n : ℕ) → Exactly (eqb m n) (m ≡ n)
count_exactly m n = record { sound = eqb-true m n; complete = eq-eqb m n }

-- lists of numbers

same_sound : (a b : List ℕ) → same_numbers a b ≡ true → a ≡ b
unfolding same_numbers
same_sound [] [] e = refl
same_sound [] (y ∷ ys) e = clash e refl
same_sound (x ∷ xs) [] e = clash e refl
same_sound (x ∷ xs) (y ∷ ys) e =
    let s = both_true (eqb x y) (same_numbers xs ys) e in
    rw (eqb-true x y s.0, same_sound xs ys s.1)

same_itself : (a : List ℕ) → same_numbers a a ≡ true
unfolding same_numbers
same_itself [] = refl
same_itself (x ∷ xs) = rw (eq-eqb x x refl, same_itself xs)

numbers_exactly : (a b : List ℕ) → Exactly (same_numbers a b) (a ≡ b)
numbers_exactly a b = record { sound = same_sound a b; complete = λ q. subst (λ (c : List ℕ). same_numbers a c ≡ true) q (same_itself a) }

texts_exactly : (e : List ℕ) (s : Text) (e' : List ℕ) (t : Text) → Exactly (same_texts e s e' t) (characters_of e s ≡ characters_of e' t)
texts_exactly e s e' t = numbers_exactly (characters_of e s) (characters_of e' t)

above : (i j : ℕ) → i ≤ j → (i ≡ j → ⊥) → suc i ≤ j
above i j low differs = omega (arith, low, differs)

-- a test of every number from i on, as many as n
all_exactly : (test : ℕ → Bool) (So : ℕ → Type 0) → ((i : ℕ) → Exactly (test i) (So i)) → (n i : ℕ) → Exactly (all_from test n i) ((j : ℕ) → i ≤ j → j < i + n → So j)
unfolding all_from
all_exactly test So each zero i = record { sound = λ e j low high. absurd (omega (arith, low, high)); complete = λ all. refl }
all_exactly test So each (suc n) i =
    let rest = all_exactly test So each n (suc i) in
    record {
      sound = λ e j low high. at rest.sound j low high (both_true (test i) (all_from test n (suc i)) e) (eqb i j) refl;
      complete = λ all. rw ((each i).complete (all i (omega arith) (omega arith)), rest.complete (λ j low high. all j (omega (arith, low)) (omega (arith, high))));
    }
  where
    at : (all_from test n (suc i) ≡ true → (j : ℕ) → suc i ≤ j → j < suc i + n → So j) → (j : ℕ) → i ≤ j → j < i + suc n → (test i ≡ true) × (all_from test n (suc i) ≡ true)
        → (b : Bool) → eqb i j ≡ b → So j
    at rest j low high s true q = subst So (eqb-true i j q) ((each i).sound s.0)
    at rest j low high s false q = rest s.1 j (above i j low (eqb-false i j q)) (omega (arith, high))

-- headers

field_exactly : (e f e' f' : List ℕ) (i : ℕ) → Exactly (same_field e f e' f' i) (SameField e f e' f' i)
unfolding same_field same_strings
field_exactly e f e' f' i =
    let a = field_row f i in
    let b = field_row f' i in
    said
    (both_exactly (numbers_exactly (numbers_of a.head) (numbers_of b.head))
    (both_exactly (both_exactly (texts_exactly e a.texts.name e' b.texts.name)
    (both_exactly (texts_exactly e a.texts.type_name e' b.texts.type_name)
    (both_exactly (texts_exactly e a.texts.type_alias e' b.texts.type_alias) (texts_exactly e a.texts.description e' b.texts.description))))
    (count_exactly (dark_mark f i) (dark_mark f' i))))
    (λ p. record {
      numbers = p.0;
      name = p.1.0.0;
      type_name = p.1.0.1.0;
      type_alias = p.1.0.1.1.0;
      description = p.1.0.1.1.1;
      dark = p.1.1;
    })
    (λ q. (q.numbers, ((q.name, (q.type_name, (q.type_alias, q.description))), q.dark)))

pub headers_told : HeadersTold
unfolding same_read
headers_told e f c a t e' f' c' a' t' =
    said
    (both_exactly (numbers_exactly c c') (both_exactly (numbers_exactly a a')
    (both_exactly (count_exactly t.fields t'.fields) (both_exactly (count_exactly t.columns t'.columns) (both_exactly (count_exactly t.aliases t'.aliases)
    (both_exactly (texts_exactly e t.texts.name e' t'.texts.name) (both_exactly (texts_exactly e t.texts.description e' t'.texts.description)
    (all_exactly (same_field e f e' f') (SameField e f e' f') (field_exactly e f e' f') t.fields 0))))))))
    (λ p. record {
      columns = p.0;
      aliases = p.1.0;
      field_count = p.1.1.0;
      column_count = p.1.1.1.0;
      alias_count = p.1.1.1.1.0;
      name = p.1.1.1.1.1.0;
      description = p.1.1.1.1.1.1.0;
      fields = λ i below. p.1.1.1.1.1.1.1 i zero-le (omega (arith, below));
    })
    (λ q. (q.columns, (q.aliases, (q.field_count, (q.column_count, (q.alias_count, (q.name, (q.description, λ i low below. q.fields i (omega (arith, below))))))))))

-- footers and page lists

pub footers_told : FootersTold
footers_told c m n k c' m' n' k' =
    said (both_exactly (numbers_exactly c c') (both_exactly (numbers_exactly m m') (both_exactly (count_exactly n n') (count_exactly k k'))))
    (λ p. record { cluster_rows = p.0; link_rows = p.1.0; cluster_count = p.1.1.0; link_count = p.1.1.1 })
    (λ q. (q.cluster_rows, (q.link_rows, (q.cluster_count, q.link_count))))

pub page_lists_told : PageListsTold
page_lists_told p n p' n' =
    said (both_exactly (numbers_exactly p p') (count_exactly n n')) (λ x. record { page_rows = x.0; page_count = x.1 }) (λ q. (q.page_rows, q.page_count))
