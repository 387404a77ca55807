-- What the scan of a payload leaves in the tables that it is lent.
use Prim.Native.Nat.{ℕ}
use mathlib.Core.Path.{◌≡◌, sym, ap, ◌∙◌}
use mathlib.Core.Bool.{Bool}
use mathlib.Core.List.{List}
use lib.ListN.{length, replicate}
use Rattle.wire.specs.declared.Fault.{Fault}
use Rattle.wire.specs.Reading.{Step, found, refused, counted}
use Rattle.wire.proofs.Laws.{never}
use Rattle.frames.proofs.Laws.{closed_found}
use Rattle.envelope.specs.Envelope.{whole}
use Rattle.rows.specs.Words.{most_fields}
use Rattle.records.specs.Records.{texts}
use Rattle.records.specs.declared.HeaderTexts.{HeaderTexts}
use Rattle.header.specs.Header.{Header, payload, alias_list}
use Rattle.header.proofs.ListLaws.{lists_parts}
use Rattle.header.proofs.PayloadLaws.{texts_refused, payload_lists}
use Rattle.header_lists.specs.Next.{fields_next, columns_next, aliases_next}
use Rattle.header_lists.specs.Kept.{Kept, lay_parents, lay_flags, lay_fields, lay_columns, lay_aliases}
use Rattle.header_payload.specs.Settled.{kept, Settled}
use Rattle.header_payload.proofs.ListLaws.{some_flags}

module _ (strict : Bool) (s : List ℕ) {p₀ p f₀ f r₀ r c₀ c a₀ a : List ℕ} where
  pub settled_found : {tx : Step HeaderTexts} {fx cx : Step ℕ} {h : Header} {q : ℕ} → tx ≡ texts s 4 → fx ≡ counted (fields_next strict s tx) → cx ≡ counted (columns_next strict s fx)
      → Kept lay_parents (fields_next strict s tx) p₀ p → Kept lay_flags (fields_next strict s tx) f₀ f → Kept lay_fields (fields_next strict s tx) r₀ r
      → Kept lay_columns (columns_next strict s fx) c₀ c → Kept lay_aliases (aliases_next strict s f fx cx) a₀ a
      → whole strict (payload strict) s 4 ≡ found h q → Settled (whole strict (payload strict) s 4) p₀ p f₀ f r₀ r c₀ c a₀ a
  unfolding kept
  settled_found {tx} {fx} {cx} {h} {q} te fe ce kp kf kr kc ka w =
      let z = closed_found (λ g. g) strict (length s) (payload strict s 4) w in
      by tx te fe kp kf kr z.was
    where
      by : (tx : Step HeaderTexts) → tx ≡ texts s 4 → fx ≡ counted (fields_next strict s tx) → Kept lay_parents (fields_next strict s tx) p₀ p → Kept lay_flags (fields_next strict s tx) f₀ f
          → Kept lay_fields (fields_next strict s tx) r₀ r → {e : ℕ} → payload strict s 4 ≡ found h e → Settled (whole strict (payload strict) s 4) p₀ p f₀ f r₀ r c₀ c a₀ a
      by (refused g) te fe kp kf kr g' = never (sym (texts_refused strict s 4 (sym te)) ∙ g')
      by (found t la) te fe kp kf kr g' =
          let t = lists_parts strict s la (payload_lists strict s 4 (sym te) g') in
          let fields = h.lists.fields in
          let columns = h.lists.columns in
          let aliases = h.lists.aliases in
          let fk : fx ≡ found (length fields) h.lists.columns_at = fe ∙ ap counted t.fields_are in
          let cn : columns_next strict s fx ≡ found columns h.lists.aliases_at = ap (columns_next strict s) fk ∙ t.columns_are in
          let ck : cx ≡ found (length columns) h.lists.aliases_at = ce ∙ ap counted cn in
          let flags = kf.holds fields _ t.fields_are in
          let an =
          ap (λ (x : Step ℕ). aliases_next strict s f x cx) fk ∙ ap (aliases_next strict s f (found (length fields) h.lists.columns_at)) ck
          ∙ ap (λ (v : List ℕ). alias_list strict v (length columns) s h.lists.aliases_at) (some_flags fields f₀ flags) ∙ t.aliases_are in
          record {
            parents_are = rw w (kp.holds fields _ t.fields_are);
            flags_are = rw w flags;
            fields_are = rw w (kr.holds fields _ t.fields_are);
            columns_are = rw w (kc.holds columns _ cn);
            aliases_are = rw w (ka.holds aliases _ an);
          }

-- a refused payload leaves zeros
pub settled_refused : {p₀ p f₀ f r₀ r c₀ c a₀ a : List ℕ} {x : Step Header} {g : Fault} → x ≡ refused g → p ≡ replicate most_fields 0 → f ≡ replicate most_fields 0 → r ≡ replicate (length r₀) 0
    → c ≡ replicate (length c₀) 0 → a ≡ replicate (length a₀) 0 → Settled x p₀ p f₀ f r₀ r c₀ c a₀ a
unfolding kept
settled_refused e ep ef er ec ea = record { parents_are = rw e ep; flags_are = rw e ef; fields_are = rw e er; columns_are = rw e ec; aliases_are = rw e ea }
