-- The laws of a header's rows.
use Prim.Native.Nat.{ℕ, ◌^◌, ◌<◌}
use mathlib.Core.List.{List}
use mathlib.Core.Bool.{Bool, true, false}
use mathlib.Core.Path.{◌≡◌, refl, sym, subst}
use lib.ListN.{length}
use Rattle.numbers.specs.Choice.{pick}
use Rattle.wire.specs.Reading.{Rule, ◌>>=◌, give, number, tested, below, listed}
use Rattle.text.specs.Strings.{string}
use Rattle.records.specs.Records.{repetitive, repetition, field_head, field_texts, field, sized, column, aliasable, alias}
use Rattle.tree.specs.Shape.{Shape, Law, bare, number_shape, optional_shape, NoVerdict, string_shape, chars, then_shape}
use Rattle.tree.specs.HeaderTree.{texts_content, field_content, repetition_shape, head_tuple, tuple_head, head_shape, strings_tuple, tuple_strings, strings_shape, field_tuple, tuple_field, field_shape, column_tuple, tuple_column, column_shape, alias_tuple, tuple_alias, alias_shape}
use Rattle.tree.proofs.Simple.{plain_law, number_law, string_law, nothing_law, next, seen_law}

module _ (s : List ℕ) (strict : Bool) where
  -- a number, then what may hang on it

  pub plain_next : {B U : Type 0} (k : ℕ) {r : ℕ → Rule B} {G : ℕ → Shape U U} {N : ℕ × U → B → Type 0}
      → ((n : ℕ) → Law s strict (r n) bare (G n) (λ d b. N (n, d) b))
      → Law s strict (number k >>= r) bare (then_shape bare (number_shape k NoVerdict) G) N
  plain_next k {r} {G} {N} second = next (plain_law s strict k) (λ c a e. subst (λ x. Law s strict (r x) bare (G c) (λ d b. N (c, d) b)) (sym e) (second c))

  pub number_next : {B U : Type 0} (k : ℕ) (verdict : ℕ → ℕ) {r : ℕ → Rule B} {G : ℕ → Shape U U} {N : ℕ × U → B → Type 0}
      → ((n : ℕ) → Law s strict (r n) bare (G n) (λ d b. N (n, d) b))
      → Law s strict (tested k verdict >>= r) bare (then_shape bare (number_shape k verdict) G) N
  number_next k verdict {r} {G} {N} second = next (number_law s strict k verdict verdict (λ n. refl)) (λ c a e. subst (λ x. Law s strict (r x) bare (G c) (λ d b. N (c, d) b)) (sym e) (second c))

  string_next : {B U : Type 0} → length s < 2 ^ 31 → {r : _ → Rule B} {G : List ℕ → Shape U U} {N : List ℕ × U → B → Type 0}
      → ((cs : List ℕ) (a : _) → chars s a ≡ cs → Law s strict (r a) bare (G cs) (λ d b. N (cs, d) b))
      → Law s strict (string >>= r) bare (then_shape bare string_shape G) N
  string_next small second = next (string_law s strict small) second

  -- a number that is there or not, then what may hang on it
  pub optional_next : {B U : Type 0} (there : Bool) (k none : ℕ) {r : ℕ → Rule B} {G : ℕ → Shape U U} {N : ℕ × U → B → Type 0}
      → ((n : ℕ) → Law s strict (r n) bare (G n) (λ d b. N (n, d) b))
      → Law s strict (pick there (number k) (give none) >>= r) bare (then_shape bare (optional_shape there k none) G) N
  optional_next true k none second = plain_next k second
  optional_next false k none {r} {G} {N} second =
      record {
        complete = λ end p t inside valid plain stands fits.
            let e : none ≡ t.0 = sym valid.0 in
            let one = subst (λ x. Law s strict (r x) bare (G t.0) (λ d b. N (t.0, d) b)) (sym e) (second t.0) in
            let two = one.complete end p t.1 inside valid.1 plain stands fits in
            record { value = two.value; reads = two.reads; means = two.means };
        sound = λ end p b q bytes some inside at reads.
            let w = (second none).sound end p b q bytes some inside at reads in
            record {
              tree = (none, w.tree);
              valid = (refl, w.valid);
              plain = λ _. tt;
              stands = w.stands;
              stop = w.stop;
              fits = w.fits;
              means = w.means;
            };
      }

  repetition_next : {B U : Type 0} (flags : ℕ) {r : ℕ → Rule B} {G : ℕ → Shape U U} {N : ℕ × U → B → Type 0}
      → ((n : ℕ) → Law s strict (r n) bare (G n) (λ d b. N (n, d) b))
      → Law s strict (repetition flags >>= r) bare (then_shape bare (repetition_shape (repetitive flags)) G) N
  unfolding repetition
  repetition_next flags second = optional_next (repetitive flags) 8 0 second

  head_law : (n : ℕ) → Law s strict (field_head n) bare (head_shape n) (λ c a. a ≡ c)
  unfolding field_head head_shape
  head_law n =
      seen_law head_tuple tuple_head (λ c. refl) (λ t. refl)
      (plain_next 4 λ version.
      plain_next 4 λ type_version.
      number_next 4 (below n) λ parent.
      number_next 2 (listed 4) λ role.
      number_next 2 (listed 3) λ flags.
      repetition_next flags λ times.
      nothing_law s strict _ _ refl)

  strings_law : length s < 2 ^ 31 → Law s strict field_texts bare strings_shape (λ c a. texts_content s a ≡ c)
  unfolding field_texts strings_shape
  strings_law small =
      seen_law strings_tuple tuple_strings (λ c. refl) (λ t. refl)
      (string_next small λ name a₁ e₁.
      string_next small λ type_name a₂ e₂.
      string_next small λ type_alias a₃ e₃.
      string_next small λ description a₄ e₄.
      nothing_law s strict _ _ (λ i. record { name = e₁ i; type_name = e₂ i; type_alias = e₃ i; description = e₄ i }))

  pub field_law : length s < 2 ^ 31 → (n : ℕ) → Law s strict (field n) bare (field_shape n) (λ c a. field_content s a ≡ c)
  unfolding field field_shape
  field_law small n =
      seen_law field_tuple tuple_field (λ c. refl) (λ t. refl)
      (next (head_law n) λ head a₁ e₁.
      next (strings_law small) λ texts a₂ e₂.
      nothing_law s strict _ _ (λ i. record { head = e₁ i; texts = e₂ i }))

  pub column_law : (n : ℕ) → Law s strict (column n) bare (column_shape n) (λ c a. a ≡ c)
  unfolding column column_shape
  column_law n =
      seen_law column_tuple tuple_column (λ c. refl) (λ t. refl)
      (plain_next 2 λ type.
      number_next 2 (sized type) λ bits.
      number_next 4 (below n) λ field.
      number_next 4 (listed 7) λ flags.
      nothing_law s strict _ _ refl)

  pub alias_law : (flags : List ℕ) (columns : ℕ) → Law s strict (alias flags columns) bare (alias_shape flags columns) (λ c a. a ≡ c)
  unfolding alias alias_shape
  alias_law flags columns =
      seen_law alias_tuple tuple_alias (λ c. refl) (λ t. refl)
      (number_next 4 (below columns) λ c.
      number_next 4 (aliasable flags) λ f.
      nothing_law s strict _ _ refl)
