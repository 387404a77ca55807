-- The bytes of a header that is written are the standard spelling of what its tables say.
use Prim.Native.Nat.{ℕ}
use mathlib.Core.List.{List, [], ◌∷◌, ◌++◌, append-nil, map}
use mathlib.Core.Bool.{Bool, true, false}
use mathlib.Core.Path.{◌≡◌, refl, sym, ap, ◌∙◌}
use lib.ListN.{length, length-map}
use Rattle.numbers.specs.Choice.{pick}
use Rattle.frames.specs.Frames.{at_most}
use Rattle.records.specs.Records.{repetitive}
use Rattle.rows.specs.Words.{most_fields, most_columns, most_aliases}
use Rattle.rows.specs.declared.FieldRow.{FieldRow}
use Rattle.rows.specs.declared.ColumnRow.{ColumnRow}
use Rattle.rows.specs.declared.AliasRow.{AliasRow}
use Rattle.header.specs.Header.{flags_of}
use Rattle.tree.specs.Bytes.{spelled}
use Rattle.tree.specs.Shape.{Shape, Framed, bare, framed, record_shape, record_bytes, list_shape, list_bytes, render_all, NoVerdict}
use Rattle.tree.specs.EnvelopeTree.{unsummed, sealed}
use Rattle.tree.specs.HeaderTree.{repetition_shape, head_shape, strings_shape, field_shape, column_shape, alias_shape, feature_words, texts_shape, lists_shape, payload_shape}
use Rattle.tree.specs.Spelling.{plain_frames, standard}
use Rattle.writing.specs.Piece.{Piece, put, text, nothing, record_piece, pieces, list_piece}
use Rattle.writing.specs.Header.{repetition_piece, field_head_piece, field_texts_piece, field_piece, column_piece, alias_piece, texts_piece, lists_piece, payload_piece, header_piece, field_says, header_says}
use Rattle.writing.specs.Promises.{HeaderSpelled}
use Rattle.writing.proofs.HeaderBack.{map_self}

abbrev plain : {D : Type 0} → D → Framed D
plain d = record { inside = d; spare = [] }

module _ {C D : Type 0} (S : Shape D D) (g : C → Piece) (says : C → D) (same : (r : C) → S.render (says r) ≡ (g r).bytes) where
  items_spelled : (rows : List C) (done : List D) (before : List C)
      → render_all (λ (t : Framed D). t.inside) (λ (_ : List D) (t : Framed D). (record_shape S).render t) done (map plain (map says rows)) ≡ (pieces (λ _ r. record_piece (g r)) before rows).bytes
  unfolding pieces
  items_spelled [] done before = refl
  items_spelled (r ∷ rows) done before =
      let first : record_bytes (S.render (says r) ++ []) ≡ record_bytes (g r).bytes = ap record_bytes (append-nil (S.render (says r)) ∙ same r) in
      λ i. first i ++ items_spelled rows (done ++ (says r ∷ [])) (before ++ (r ∷ [])) i

frames_spelled : {C D : Type 0} (verdict verdict' : ℕ → ℕ) (S : ℕ → Shape D D) (g : C → Piece) (says : C → D) → ((n : ℕ) (r : C) → (S n).render (says r) ≡ (g r).bytes)
    → (rows : List C) → (list_shape (framed bare) verdict (λ n _. record_shape (S n))).render (plain_frames (map says rows)) ≡ (list_piece verdict' (λ _ r. record_piece (g r)) rows).bytes
frames_spelled verdict verdict' S g says same rows =
    let inside = map plain (map says rows) in
    let n = length inside in
    let count : n ≡ length rows = length-map (map says rows) plain ∙ length-map rows says in
    let items = items_spelled (S n) g says (same n) rows [] [] in
    ap (list_bytes n) (append-nil (render_all (λ (t : Framed _). t.inside) (λ (_ : List _) (t : Framed _). (record_shape (S n)).render t) [] inside) ∙ items)
    ∙ ap (λ (k : ℕ). list_bytes k (pieces (λ _ r. record_piece (g r)) [] rows).bytes) count

repetition_spelled : (flags n : ℕ) → (repetition_shape (repetitive flags)).render (pick (repetitive flags) n 0) ≡ (repetition_piece flags n).bytes
unfolding repetition_piece
repetition_spelled flags n = by (repetitive flags)
  where
    by : (b : Bool) → (repetition_shape b).render (pick b n 0) ≡ (pick b (put 8 64 NoVerdict n) nothing).bytes
    by true = refl
    by false = refl

field_spelled : (strings : List ℕ) (k n : ℕ) (r : FieldRow) → (field_shape n).render (field_says strings r) ≡ (field_piece strings k r).bytes
unfolding field_shape head_shape strings_shape field_piece field_head_piece field_texts_piece text
field_spelled strings k n r =
    let h = r.head in
    ap (λ (b : List ℕ). (spelled 4 h.field_version ++ (spelled 4 h.type_version ++ (spelled 4 h.parent.0 ++ (spelled 2 h.role ++ (spelled 2 h.flags ++ (b ++ [])))))) ++ ((field_texts_piece strings r.texts).bytes ++ []))
    (repetition_spelled h.flags h.repetition)

column_spelled : (k n : ℕ) (c : ColumnRow) → (column_shape n).render c ≡ (column_piece k c).bytes
unfolding column_shape column_piece
column_spelled k n c = refl

alias_spelled : (flags flags' : List ℕ) (k n : ℕ) (a : AliasRow) → (alias_shape flags n).render a ≡ (alias_piece flags' k a).bytes
unfolding alias_shape alias_piece
alias_spelled flags flags' k n a = refl

pub header_spelled : HeaderSpelled
unfolding HeaderSpelled header_piece payload_piece texts_piece lists_piece text standard payload_shape texts_shape lists_shape feature_words header_says unsummed column_shape alias_shape
header_spelled strings named t =
    let n = length t.fields in
    let m = length t.columns in
    let flags = flags_of t.fields in
    let fields = sym (frames_spelled (at_most most_fields) (at_most most_fields) field_shape (λ r. field_piece strings n r) (field_says strings) (λ k r. field_spelled strings n k r) t.fields) in
    let columns = sym (ap (λ (cs : List ColumnRow). (list_shape (framed bare) (at_most most_columns) (λ _ _. record_shape (column_shape 0))).render (plain_frames cs)) (sym (map_self t.columns))
    ∙ frames_spelled (at_most most_columns) (at_most most_columns) (λ _. column_shape 0) (λ c. column_piece n c) (λ c. c) (λ k c. column_spelled n 0 c) t.columns) in
    let aliases = sym (ap (λ (cs : List AliasRow). (list_shape (framed bare) (at_most most_aliases) (λ _ _. record_shape (alias_shape [] 0))).render (plain_frames cs)) (sym (map_self t.aliases))
    ∙ frames_spelled (at_most most_aliases) (at_most most_aliases) (λ _. alias_shape [] 0) (λ a. alias_piece flags m a) (λ a. a) (λ k a. alias_spelled [] flags m 0 a) t.aliases) in
    let front = (texts_piece strings named).bytes in
    ap (λ (b : List ℕ). sealed (spelled 2 1 ++ (spelled 2 1 ++ b))) ((λ i. front ++ ((fields i ++ (columns i ++ (aliases i ++ []))) ++ [])) ∙ sym (append-nil _))
