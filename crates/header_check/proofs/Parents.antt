-- From fields of which nothing is refused to their parents in an array, and the verdict on the chains.
use Prim.Native.Nat.{ℕ, ◌+◌, ◌/◌, ◌≤◌, ◌<◌, ◌^◌}
use mathlib.Core.List.{List, [], ◌∷◌, ◌++◌}
use mathlib.Core.Path.{◌≡◌, refl, sym, ap, subst, ◌∙◌}
use native.Mathlib.Omega.{arith}
use native.Mathlib.Numerals.{add-one}
use borrow.Author.Tests.{ltb-true, leb-true}
use lib.Dec.{ltb, leb}
use lib.ListN.{length, get_or, set, take, replicate, length-map, length-replicate}
use lib.Seq.{take_at}
use Rattle.numbers.specs.Lists.{Each}
use Rattle.numbers.specs.Rows.{over}
use Rattle.wire.specs.Reading.{below, listed}
use Rattle.frames.specs.Frames.{at_most}
use Rattle.rows.specs.Words.{field_width, most_fields}
use Rattle.rows.specs.Tables.{row_words, field_row, first_rows}
use Rattle.rows.proofs.TableLaws.{Holds, holds_none, holds_set, flat_one}
use Rattle.rows.proofs.FirstRows.{rows_length}
use Rattle.rows.specs.declared.FieldHead.{FieldHead}
use Rattle.rows.specs.declared.FieldNumber.{FieldNumber}
use Rattle.rows.specs.declared.FieldRow.{FieldRow}
use Rattle.records.specs.declared.HeaderTexts.{HeaderTexts}
use Rattle.parents.specs.Parents.{chains_of}
use Rattle.std.specs.Prelude.{Some, None}
use Rattle.header.specs.Header.{flags_of}
use Rattle.header.specs.Tables.{parents_of}
use Rattle.header.proofs.BoundLaws.{map_below}
use Rattle.header_scan.proofs.RowLaws.{rows_end, rows_endless}
use Rattle.tree.specs.Shape.{NoVerdict}
use Rattle.writing.proofs.Sure.{first_none, unless_none}
use Rattle.writing.specs.Piece.{Piece, put, nothing, ◌&◌, in_order, pieces}
use Rattle.writing.specs.Rows.{all_rows, HeaderRows}
use Rattle.writing.specs.Header.{repetition_piece, field_head_piece, field_texts_piece, field_piece, field_item, texts_piece, field_list_piece, column_list_piece, alias_list_piece, lists_piece, payload_piece, chains}
use Rattle.header_check.specs.Parented.{Parented}
use Rattle.header_check.proofs.Words.{count, parent_word}

-- where neither of two is refused
none_of : (x y : Piece) → (x & y).number ≡ 0 → (x.number ≡ 0) × (y.number ≡ 0)
none_of x y e = first_none x.number y.number e

-- fields of which nothing is refused have parents among them

parent_below : (n : ℕ) (h : FieldHead) → (field_head_piece n h).number ≡ 0 → h.parent.0 < n
unfolding field_head_piece
parent_below n h e =
    let p = h.parent.0 in
    let parent : Piece = put 4 32 (below n) p in
    let last : Piece = in_order (put 2 16 (listed 4) h.role ∷ put 2 16 (listed 3) h.flags ∷ repetition_piece h.flags h.repetition ∷ []) in
    let third = (none_of (put 4 32 NoVerdict h.type_version) (parent & last) (none_of (put 4 32 NoVerdict h.field_version) (put 4 32 NoVerdict h.type_version & (parent & last)) e).1).1 in
    let fits = (unless_none (ltb p (2 ^ 32)) 24 (below n p) (none_of parent last third).0).1 in
    ltb-true p n (unless_none (ltb p n) 13 0 fits).0

module _ (strings : List ℕ) where
  each_below : (n : ℕ) (done rows : List FieldRow) → (pieces (field_item strings n) done rows).number ≡ 0 → Each (λ (r : FieldRow). r.head.parent.0 < n) rows
  unfolding pieces field_piece
  each_below n done [] e = tt
  each_below n done (r ∷ rest) e =
      let both = none_of (field_item strings n done r) (pieces (field_item strings n) (done ++ (r ∷ [])) rest) e in
      (parent_below n r.head (none_of (field_head_piece n r.head) (in_order (field_texts_piece strings r.texts ∷ [])) both.0).0, each_below n (done ++ (r ∷ [])) rest both.1)

  fields_parented : (rows : List FieldRow) → (field_list_piece strings rows).number ≡ 0 → Parented rows
  fields_parented rows e =
      let both = first_none (at_most most_fields (length rows)) (pieces (field_item strings (length rows)) [] rows).number e in
      let few = (unless_none (leb (length rows) most_fields) 9 0 both.0).0 in
      record {
        few = leb-true (length rows) most_fields few;
        inside = map_below (λ (r : FieldRow). r.head.parent.0) (length rows) rows (each_below (length rows) [] rows both.1);
      }

  pub payload_parented : (named : HeaderTexts) (t : HeaderRows) → (payload_piece strings named t).number ≡ 0 → Parented t.fields
  unfolding payload_piece lists_piece
  payload_parented named t e =
      let lists = (none_of (lists_piece strings t) nothing (none_of (texts_piece strings named) (lists_piece strings t & nothing) e).1).0 in
      let others : Piece = in_order (column_list_piece (length t.fields) t.columns ∷ alias_list_piece (flags_of t.fields) (length t.columns) t.aliases ∷ []) in
      fields_parented t.fields (none_of (field_list_piece strings t.fields) others lists).0

-- the array of their parents
module _ (table : List ℕ) (p : Parented (all_rows field_row field_width table)) where
  pub few_rows : length table / field_width ≤ most_fields
  few_rows = omega (arith, p.few, count table)

  pub parent_small : (i : ℕ) → i < length table / field_width → get_or (row_words field_width table i) 2 0 < most_fields
  parent_small i h = omega (arith, p.inside i (omega (arith, h, count table)), parent_word table i, p.few)

  -- and the verdict on their chains
  module _ (all : List ℕ) (same : take (length table / field_width) all ≡ parents_of (all_rows field_row field_width table)) where
    inside : (f : ℕ) → f < length table / field_width → get_or (parents_of (all_rows field_row field_width table)) f 0 < length table / field_width
    inside f h = omega (arith, p.inside f (omega (arith, h, count table)), count table)

    pub chains_end : chains_of all (length table / field_width) ≡ None → 0 ≡ chains (all_rows field_row field_width table)
    chains_end e = rw (rows_end (all_rows field_row field_width table) all (length table / field_width) (count table) same few_rows inside e)

    pub chain_endless : (f : FieldNumber) → chains_of all (length table / field_width) ≡ Some f → 15 ≡ chains (all_rows field_row field_width table)
    chain_endless f e = rw (rows_endless (all_rows field_row field_width table) all (length table / field_width) (count table) same few_rows inside f e)

-- a loop has filled in the parents of i rows
abbrev pub Filled : List ℕ → ℕ → List ℕ → Type 0
Filled table i all = Holds (λ _ (r : FieldRow). r.head.parent.0 ∷ []) (first_rows field_row table i) (replicate most_fields 0) all

pub filled_none : (table : List ℕ) → Filled table 0 (replicate most_fields 0)
unfolding first_rows
filled_none table = holds_none

pub filled_long : (table : List ℕ) (i : ℕ) {all : List ℕ} → Filled table i all → length all ≡ most_fields
filled_long table i m = m.long ∙ length-replicate {A = ℕ} most_fields 0

pub filled_more : (table : List ℕ) {i v : ℕ} {all : List ℕ} → Filled table i all → i < length all → v ≡ get_or (row_words field_width table i) 2 0 → Filled table (i + 1) (set all i v)
unfolding first_rows
filled_more table {i} {v} {all} m inside e =
    subst (λ (k : ℕ). Filled table k (set all i v)) (sym (add-one i))
    (holds_set (field_row table i) (λ _ _. refl) (ap (λ (u : ℕ). u ∷ []) (sym e)) m (rows_length field_row table i) inside)

pub filled_all : (table : List ℕ) {n i : ℕ} {all : List ℕ} → Filled table i all → i ≡ n → take n all ≡ parents_of (first_rows field_row table n)
filled_all table {n} {i} {all} m e =
    let parent : FieldRow → ℕ = λ r. r.head.parent.0 in
    let rows = first_rows field_row table i in
    let held : all ≡ over (parents_of rows) (replicate most_fields 0) = m.rows ∙ ap (λ (w : List ℕ). over w (replicate most_fields 0)) (flat_one parent 0 rows) in
    ap (take n) held ∙ take_at (parents_of rows) _ n (length-map rows parent ∙ rows_length field_row table i ∙ e) ∙ ap (λ (k : ℕ). parents_of (first_rows field_row table k)) e
