-- A page list beside a header that was accepted: what the verdict on it tells of its reading.
use Prim.Native.Nat.{ℕ}
use mathlib.Core.Path.{◌≡◌, subst, ap, ◌∙◌}
use mathlib.Core.List.{List}
use lib.ListN.{take}
use Rattle.wire.specs.declared.Fault.{Fault}
use Rattle.wire.specs.Reading.{found}
use Rattle.envelope.specs.Envelope.{envelope, checksum_of}
use Rattle.header.specs.Header.{Header}
use Rattle.header.specs.Tables.{header_of}
use Rattle.header.specs.Beside.{Beside, read, refusal, in_envelope}
use Rattle.header_schema.specs.Schema.{schema_of}
use Rattle.header_schema.specs.declared.Schema.{Schema}
use Rattle.std.specs.Prelude.{Result, Ok, Err}
use Rattle.header_schema.proofs.SchemaLaws.{header_accepted}
use Rattle.records.proofs.Bounds.{Bytes}
use Rattle.rows.specs.Words.{most_fields}
use Rattle.rows.specs.Tables.{columns_in}
use Rattle.rows.specs.declared.PageRow.{PageRow}
use Rattle.column_pages.specs.ColumnPages.{bits_of, payload}
use Rattle.column_pages.specs.Answers.{bits_in}
use Rattle.page_list.specs.PageList.{summed}
use Rattle.page_list.specs.Tables.{page_list_beside}
use Rattle.page_list.specs.Judged.{summed_by, Stands, Judges}
use Rattle.page_list.specs.declared.Judged.{Judged}
use Rattle.page_list.proofs.SchemaLaws.{beside_found, schema_of_lem}
use Rattle.page_list.proofs.JudgeLaws.{summed_same}
use Rattle.page_list.proofs.AnswerLaws.{refuses, agrees}

pub record RefusedBeside (x : Beside (List (List PageRow))) (k : ℕ) : Type 0 where
  pub fault : Fault
  pub was : x ≡ refusal 3 fault
  pub number : k ≡ fault.number

pub record ReadBeside (x : Beside (List (List PageRow))) (file : ℕ) (bits list : List ℕ) (j : Judged) : Type 0 where
  pub value : List (List PageRow)
  pub was : x ≡ read value
  pub stands : Stands file bits list j value

module _ (header list : List ℕ) (entries file : ℕ) {r : Schema} (is : r ≡ schema_of (checksum_of header) (header_of header)) (a : r.verdict ≡ Ok tt) (bytes : Bytes header) (v : Result Judged Fault)
    (judged : Judges file (bits_in r.column_rows r.columns) list (summed_by entries (columns_in r.column_rows r.columns) (take most_fields (take r.fields r.parents)) (take r.fields r.flags) (envelope 1 (payload file (bits_in r.column_rows r.columns)) list)) v) where
  w : (h : Header) × (p : ℕ) × (header_of header ≡ found h p)
  w = header_accepted header is a

  verdict : Judges file (bits_in r.column_rows r.columns) list (summed entries w.0.lists (envelope 1 (payload file (bits_of w.0.lists.columns)) list)) v
  verdict = rw (← summed_same entries file w.0.lists _ _ _ _ list (schema_of_lem header is w.2 bytes)) judged

  pub refused_beside : {g : Fault} → v ≡ Err g → RefusedBeside (page_list_beside header list entries file) g.number
  refused_beside {g} e =
      let f = refuses file (bits_in r.column_rows r.columns) list _ g (subst (Judges file (bits_in r.column_rows r.columns) list _) e verdict) in
      record { fault = f.fault; was = beside_found header list entries file w.2 ∙ ap (in_envelope 3) f.was; number = f.number }

  pub read_beside_lem : {j : Judged} → v ≡ Ok j → ReadBeside (page_list_beside header list entries file) file (bits_in r.column_rows r.columns) list j
  read_beside_lem e =
      let f = agrees file (bits_in r.column_rows r.columns) list _ (subst (Judges file (bits_in r.column_rows r.columns) list _) e verdict) in
      record { value = f.value; was = beside_found header list entries file w.2 ∙ ap (in_envelope 3) f.was; stands = f.stands }
