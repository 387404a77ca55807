-- The parts of a payload, each after the step before it, and what they read together.
use Prim.Native.Nat.{ℕ}
use mathlib.Core.Path.{◌≡◌, refl, sym, ap, ◌∙◌}
use mathlib.Core.Bool.{Bool}
use mathlib.Core.List.{List}
use lib.ListN.{length, take, length-map}
use lib.Seq.{take_at}
use Rattle.wire.specs.Reading.{Step, found, refused, counted, mapped}
use Rattle.frames.specs.Frames.{closed}
use Rattle.frames.proofs.Laws.{mapped_closed}
use Rattle.envelope.specs.Envelope.{whole}
use Rattle.rows.specs.declared.FieldRow.{FieldRow}
use Rattle.rows.specs.declared.ColumnRow.{ColumnRow}
use Rattle.rows.specs.declared.AliasRow.{AliasRow}
use Rattle.records.specs.Records.{texts}
use Rattle.records.specs.declared.HeaderTexts.{HeaderTexts}
use Rattle.header.specs.Header.{payload, field_list, column_list, alias_list, flags_of}
use Rattle.header.proofs.ListLaws.{fields_refused, columns_refused, aliases_refused, lists_found}
use Rattle.header.proofs.PayloadLaws.{texts_refused, lists_refused, payload_found}
use Rattle.header_lists.specs.Next.{fields_next, columns_next, aliases_next}
use Rattle.header_payload.specs.Answers.{gathered, scan_of}
use Rattle.header_lists.specs.Kept.{Kept, lay_flags}

-- the flags of the fields that were found
pub some_flags : (fields : List FieldRow) (f₀ : List ℕ) {f : List ℕ} → f ≡ lay_flags fields f₀ → take (length fields) f ≡ flags_of fields
some_flags fields f₀ e = ap (take (length fields)) e ∙ take_at (flags_of fields) _ (length fields) (length-map fields (λ (r : FieldRow). r.head.flags))

module _ (strict : Bool) (s : List ℕ) {f₀ f : List ℕ} where
  -- the texts and the counts, gathered, are the scan of the payload
  gathered_is : (tx : Step HeaderTexts) → texts s 4 ≡ tx → Kept lay_flags (fields_next strict s tx) f₀ f
      → gathered tx (counted (fields_next strict s tx)) (counted (columns_next strict s (counted (fields_next strict s tx))))
      (counted (aliases_next strict s f (counted (fields_next strict s tx)) (counted (columns_next strict s (counted (fields_next strict s tx))))))
      ≡ mapped scan_of (payload strict s 4)
  gathered_is (refused g) te k = sym (ap (mapped scan_of) (texts_refused strict s 4 te))
  gathered_is (found t la) te k = fields (field_list strict s la) refl k
    where
      aliases : (fl : List FieldRow) (ca : ℕ) → field_list strict s la ≡ found fl ca → (cl : List ColumnRow) (aa : ℕ) → column_list strict (length fl) s ca ≡ found cl aa → take (length fl) f ≡ flags_of fl
          → (z : Step (List AliasRow)) → alias_list strict (flags_of fl) (length cl) s aa ≡ z
          → gathered (found t la) (found (length fl) ca) (found (length cl) aa) (counted z) ≡ mapped scan_of (payload strict s 4)
      aliases fl ca fe cl aa ce fs (found al p) ae = sym (ap (mapped scan_of) (payload_found strict s 4 te (lists_found strict s la fe refl ce refl ae)))
      aliases fl ca fe cl aa ce fs (refused g) ae = sym (ap (mapped scan_of) (lists_refused strict s 4 te (aliases_refused strict s la fe refl ce refl ae)))

      columns : (fl : List FieldRow) (ca : ℕ) → field_list strict s la ≡ found fl ca → take (length fl) f ≡ flags_of fl → (z : Step (List ColumnRow)) → column_list strict (length fl) s ca ≡ z
          → gathered (found t la) (found (length fl) ca) (counted z) (counted (aliases_next strict s f (found (length fl) ca) (counted z))) ≡ mapped scan_of (payload strict s 4)
      columns fl ca fe fs (found cl aa) ce =
          ap (λ (v : List ℕ). gathered (found t la) (found (length fl) ca) (found (length cl) aa) (counted (alias_list strict v (length cl) s aa))) fs
          ∙ aliases fl ca fe cl aa ce fs (alias_list strict (flags_of fl) (length cl) s aa) refl
      columns fl ca fe fs (refused g) ce = sym (ap (mapped scan_of) (lists_refused strict s 4 te (columns_refused strict s la fe refl ce)))

      fields : (y : Step (List FieldRow)) → field_list strict s la ≡ y → Kept lay_flags y f₀ f
          → gathered (found t la) (counted y) (counted (columns_next strict s (counted y))) (counted (aliases_next strict s f (counted y) (counted (columns_next strict s (counted y)))))
          ≡ mapped scan_of (payload strict s 4)
      fields (found fl ca) fe j = columns fl ca fe (some_flags fl f₀ (j.holds fl ca refl)) (column_list strict (length fl) s ca) refl
      fields (refused g) fe j = sym (ap (mapped scan_of) (lists_refused strict s 4 te (fields_refused strict s la fe)))

  pub scan_is : {tx : Step HeaderTexts} {fx cx ax : Step ℕ} → tx ≡ texts s 4 → fx ≡ counted (fields_next strict s tx) → Kept lay_flags (fields_next strict s tx) f₀ f
      → cx ≡ counted (columns_next strict s fx) → ax ≡ counted (aliases_next strict s f fx cx)
      → closed strict (length s) (gathered tx fx cx ax) ≡ mapped scan_of (whole strict (payload strict) s 4)
  scan_is {tx} {fx} {cx} {ax} te fe k ce ae =
      let g : gathered tx fx cx ax ≡ mapped scan_of (payload strict s 4) = rw (ae, ce, fe) (gathered_is tx (sym te) k) in
      ap (closed strict (length s)) g ∙ sym (mapped_closed scan_of (λ g. g) strict (length s) (payload strict s 4))
