-- Laws of text: texts one after the other are text, and so are ASCII bytes.
use Prim.Native.Nat.{ℕ, ◌<◌}
use mathlib.Core.Path.{◌≡◌, refl, ap₂, ◌∙◌}
use mathlib.Core.Bool.{true}
use mathlib.Core.List.{List, [], ◌∷◌, ◌++◌}
use native.Mathlib.Omega.{arith}
use Rattle.numbers.specs.Lists.{Each}
use Rattle.numbers.specs.Rows.{flat}
use Rattle.numbers.proofs.Choice.{both_true}
use Rattle.rows.proofs.TableLaws.{flat_join}
use Rattle.utf8.specs.Scalars.{scalar, scalars, encoded, Text}
use Rattle.utf8.proofs.Bits.{scalar_low, encoded_one}

scalars_append : (cs ds : List ℕ) → scalars cs ≡ true → scalars ds ≡ true → scalars (cs ++ ds) ≡ true
unfolding scalars
scalars_append [] ds good more = more
scalars_append (c ∷ cs) ds good more = let (first, rest) = both_true (scalar c) (scalars cs) good in rw first (scalars_append cs ds rest more)

pub text_none : Text []
unfolding scalars flat
text_none = record { values = []; good = refl; is = refl }

pub text_append : {s t : List ℕ} → Text s → Text t → Text (s ++ t)
text_append a b =
    record {
      values = a.values ++ b.values;
      good = scalars_append a.values b.values a.good b.good;
      is = flat_join encoded a.values b.values ∙ ap₂ (λ (x y : List ℕ). x ++ y) a.is b.is;
    }

pub text_flat : {A : Type 0} (w : A → List ℕ) → ((x : A) → Text (w x)) → (l : List A) → Text (flat w l)
unfolding flat
text_flat w each [] = text_none
text_flat w each (x ∷ l) = text_append (each x) (text_flat w each l)

pub text_one : (b : ℕ) → b < 128 → Text (b ∷ [])
unfolding scalars flat
text_one b h = record { values = b ∷ []; good = rw (scalar_low b (omega arith)); is = rw (encoded_one b h) }

pub text_ascii : (s : List ℕ) → Each (λ b. b < 128) s → Text s
text_ascii [] each = text_none
text_ascii (b ∷ s) each = text_append (text_one b each.0) (text_ascii s each.1)
