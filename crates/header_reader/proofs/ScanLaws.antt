-- What a scan leaves in arrays that have room for all rows.
use Prim.Native.Nat.{ℕ, ◌*◌, ◌/◌, ◌≤◌}
use mathlib.Core.Path.{◌≡◌, refl, sym, ap, ◌∙◌}
use mathlib.Core.Bool.{true}
use mathlib.Core.List.{List}
use native.Mathlib.Omega.{arith}
use borrow.Author.Tests.{leb-true}
use lib.Dec.{leb}
use lib.ListN.{length, replicate, length-replicate}
use Rattle.numbers.proofs.Choice.{both_true}
use Rattle.numbers.specs.Rows.{flat, over}
use Rattle.wire.specs.Reading.{Step, found, refused, mapped}
use Rattle.rows.specs.Words.{most_fields, full_fields, full_columns, full_aliases, field_width, column_width, alias_width, field_words, column_words, alias_words}
use Rattle.header.specs.Header.{Header}
use Rattle.header.specs.Tables.{header_of, fitting, column_table, alias_table}
use Rattle.header.proofs.HeaderLaws.{full_room}
use Rattle.header_payload.specs.Answers.{scan_of}
use Rattle.header_payload.specs.Settled.{kept, Settled}
use Rattle.header_lists.proofs.LaidLaws.{laid_over}
use Rattle.header_reader.specs.Fits.{Scanned, rows_there}

-- tables of f, c and a words that have room for so many rows
pub fitting_true : (f c a fields columns aliases : ℕ) → fitting f c a fields columns aliases ≡ true → (field_width * fields ≤ f) × (column_width * columns ≤ c) × (alias_width * aliases ≤ a)
fitting_true f c a fields columns aliases e =
    let y = both_true (leb fields (f / field_width)) _ e in
    let z = both_true (leb columns (c / column_width)) (leb aliases (a / alias_width)) y.1 in
    let i = leb-true fields (f / field_width) y.0 in
    let j = leb-true columns (c / column_width) z.0 in
    let l = leb-true aliases (a / alias_width) z.1 in
    (omega arith, omega arith, omega arith)

-- the largest arrays have room for the rows of every header
pub all_there : (e : List ℕ) → rows_there full_fields full_columns full_aliases (mapped scan_of (header_of e)) ≡ true
all_there e = by (header_of e) refl
  where
    by : (x : Step Header) → header_of e ≡ x → rows_there full_fields full_columns full_aliases (mapped scan_of x) ≡ true
    by (found h q) w = full_room e w
    by (refused g) w = refl

-- arrays of n, m and l words that had room
pub scanned : (e : List ℕ) (n m l : ℕ) {p f₀ f r c a : List ℕ} → rows_there n m l (mapped scan_of (header_of e)) ≡ true
    → Settled (header_of e) (replicate most_fields 0) p f₀ f (replicate n 0) r (replicate m 0) c (replicate l 0) a → length r ≡ n → length c ≡ m → length a ≡ l → Scanned (header_of e) p r c a
unfolding kept field_words column_words alias_words
scanned e n m l there k lr lc la =
    record {
      holds = λ h q w.
          let room = fitting_true n m l (length h.lists.fields) (length h.lists.columns) (length h.lists.aliases) (rw w at there) in
          let fields = laid_over field_width (field_words 0) (λ _. refl) h.lists.fields (replicate n 0) (omega (arith, room.0, length-replicate {A = ℕ} n 0)) in
          let columns = laid_over column_width column_words (λ _. refl) h.lists.columns (replicate m 0) (omega (arith, room.1, length-replicate {A = ℕ} m 0)) in
          let aliases = laid_over alias_width alias_words (λ _. refl) h.lists.aliases (replicate l 0) (omega (arith, room.2, length-replicate {A = ℕ} l 0)) in
          record {
            parents_are = rw w at k.parents_are;
            fields_are = (rw w at k.fields_are) ∙ fields ∙ ap (λ (z : ℕ). over (flat (field_words 0) h.lists.fields) (replicate z 0)) (sym lr);
            columns_are = (rw w at k.columns_are) ∙ columns ∙ ap (λ (z : ℕ). over (column_table h.lists) (replicate z 0)) (sym lc);
            aliases_are = (rw w at k.aliases_are) ∙ aliases ∙ ap (λ (z : ℕ). over (alias_table h.lists) (replicate z 0)) (sym la);
          };
    }
