-- What a scan leaves in the arrays of a schema.
use Prim.Native.Nat.{ℕ, ◌*◌, ◌≤◌}
use mathlib.Core.Path.{◌≡◌, refl, ap, ◌∙◌}
use mathlib.Core.List.{List}
use native.Mathlib.Omega.{arith}
use lib.ListN.{length, replicate, length-replicate}
use Rattle.numbers.specs.Rows.{over}
use Rattle.wire.specs.declared.Fault.{Fault}
use Rattle.wire.specs.Reading.{Step, found, refused, mapped}
use Rattle.wire.proofs.Laws.{Mapped, mapped_found}
use Rattle.rows.specs.Words.{most_fields, most_columns, column_width, column_words}
use Rattle.header.specs.Header.{Header, flags_of}
use Rattle.header.specs.Tables.{header_of, parents_of, column_table}
use Rattle.header.proofs.HeaderLaws.{header_read, opened_end, columns_few}
use Rattle.header_payload.specs.Answers.{scan_of}
use Rattle.header_payload.specs.Settled.{kept, Settled}
use Rattle.header_payload.specs.declared.HeaderScan.{HeaderScan}
use Rattle.header_lists.proofs.LaidLaws.{laid_over}
use Rattle.header_schema.specs.Schema.{schema_of, no_schema}
use Rattle.header_schema.specs.declared.Schema.{Schema}
use Rattle.std.specs.Prelude.{Ok, Err}

module _ (e : List ℕ) {scan : HeaderScan} {q : ℕ} (w : found scan q ≡ mapped scan_of (header_of e)) where
  m : Mapped scan_of (header_of e) scan q
  m = mapped_found scan_of (header_of e) w

  pub long_enough : 8 ≤ length e
  long_enough = let h = header_read e m.was in (opened_end 1 e h.is_open).0

  pub schema_found : (sum : ℕ) {p f r₀ r c a₀ a : List ℕ} → Settled (header_of e) (replicate most_fields 0) p (replicate most_fields 0) f r₀ r (replicate (column_width * most_columns) 0) c a₀ a
      → ◌≡◌ {A = Schema} (record { verdict = Ok tt; checksum = sum; fields = scan.lists.fields; columns = scan.lists.columns; parents = p; flags = f; column_rows = c }) (schema_of sum (header_of e))
  unfolding schema_of kept column_words
  schema_found sum {p = p} {f = f} {c = c} k =
      let h = m.value in
      let i : p ≡ over (parents_of h.lists.fields) (replicate most_fields 0) = rw m.was at k.parents_are in
      let j : f ≡ over (flags_of h.lists.fields) (replicate most_fields 0) = rw m.was at k.flags_are in
      let room = columns_few e m.was in
      let l : c ≡ over (column_table h.lists) (replicate (column_width * most_columns) 0)
      = (rw m.was at k.columns_are) ∙ laid_over column_width column_words (λ _. refl) h.lists.columns (replicate (column_width * most_columns) 0) (omega (arith, room, length-replicate {A = ℕ} (column_width * most_columns) 0)) in
      let nf : scan.lists.fields ≡ length h.lists.fields = ap (λ (x : HeaderScan). x.lists.fields) m.is in
      let nc : scan.lists.columns ≡ length h.lists.columns = ap (λ (x : HeaderScan). x.lists.columns) m.is in
      rw m.was (λ t. record { verdict = Ok tt; checksum = sum; fields = nf t; columns = nc t; parents = i t; flags = j t; column_rows = l t })

-- a refused header hands nothing on but its fault
pub schema_refused : (sum : ℕ) {x : Step Header} {g : Fault} {p₀ p f₀ f r₀ r c a₀ a : List ℕ} → x ≡ refused g → Settled x p₀ p f₀ f r₀ r (replicate (column_width * most_columns) 0) c a₀ a
    → ◌≡◌ {A = Schema} (record { verdict = Err g; checksum = 0; fields = 0; columns = 0; parents = p; flags = f; column_rows = c }) (schema_of sum x)
unfolding schema_of no_schema kept
schema_refused sum {g = g} {p = p} {f = f} {c = c} e k =
    let i : p ≡ replicate most_fields 0 = rw e at k.parents_are in
    let j : f ≡ replicate most_fields 0 = rw e at k.flags_are in
    let l : c ≡ replicate (column_width * most_columns) 0 = (rw e at k.columns_are) ∙ ap (λ (n : ℕ). replicate n 0) (length-replicate {A = ℕ} (column_width * most_columns) 0) in
    rw e (λ t. record { verdict = Err g; checksum = 0; fields = 0; columns = 0; parents = i t; flags = j t; column_rows = l t })
