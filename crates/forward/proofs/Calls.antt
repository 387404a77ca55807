-- Tables of headers that say the same.
use Prim.Native.Nat.{ℕ, zero, suc, ◌+◌, ◌*◌, ◌<◌}
use mathlib.Core.List.{List, [], ◌∷◌, ◌++◌, map, append-nil, append_assoc}
use mathlib.Core.Bool.{Bool, true}
use mathlib.Core.Path.{◌≡◌, refl, sym, ap, ◌∙◌}
use native.Mathlib.Omega.{arith}
use lib.ListN.{length, drop, length-map}
use lib.Seq.{drop-drop}
use Rattle.numbers.specs.Rows.{flat, flat_by, over}
use Rattle.header.specs.Header.{Lists, Header}
use Rattle.header.specs.Tables.{parents_of, field_table, column_table, alias_table, room_for}
use Rattle.parents.specs.Dark.{dark}
use Rattle.rows.specs.Words.{bit, field_words, column_words, alias_words}
use Rattle.rows.specs.declared.FieldRow.{FieldRow}
use Rattle.tree.specs.HeaderTree.{FieldContent, HeaderContent, field_content, header_content, parents_in}
use Rattle.tree.proofs.HeaderLaws.{parents_same}
use Rattle.tree.proofs.HeaderCalls.{answer_of}
use Rattle.forward.specs.SameTables.{FieldSays, field_says, field_row, SameTables}

-- rows of fields

abbrev says : ℕ → FieldContent → FieldSays
says d c =
    record {
      field_version = c.head.field_version;
      type_version = c.head.type_version;
      parent = c.head.parent.0;
      role = c.head.role;
      flags = c.head.flags;
      repetition = c.head.repetition;
      name = c.texts.name;
      type_name = c.texts.type_name;
      type_alias = c.texts.type_alias;
      description = c.texts.description;
      dark = d;
    }

row_says : (e : List ℕ) (d : ℕ) (r : FieldRow) (rest : List ℕ) → field_says e (drop (15 * 0) (field_words d r ++ rest)) ≡ says d (field_content e r)
unfolding field_words
row_says e d r rest = refl

row_past : (d k : ℕ) (r : FieldRow) (rest : List ℕ) → drop (15 * suc k) (field_words d r ++ rest) ≡ drop (15 * k) rest
unfolding field_words
row_past d k r rest =
    let more : 15 * suc k ≡ 15 + 15 * k = omega arith in
    ap (λ (n : ℕ). drop n (field_words d r ++ rest)) more ∙ sym (drop-drop (15 * k) 15 (field_words d r ++ rest))

abbrev rows_from : (ℕ → ℕ) → ℕ → List FieldRow → List ℕ
rows_from d n rows = flat_by (λ i. field_words (d i)) n rows

-- earlier rows of the same contents and marks say the same, whatever rows follow
rows_say : (e e' : List ℕ) (d d' : ℕ → ℕ) (rest rest' : List ℕ) (extra : List FieldContent) (rows rows' : List FieldRow) (n k : ℕ)
    → map (field_content e') rows' ≡ map (field_content e) rows ++ extra → ((i : ℕ) → i < n + length rows → d' i ≡ d i) → k < length rows
    → field_says e' (drop (15 * k) (rows_from d' n rows' ++ rest')) ≡ field_says e (drop (15 * k) (rows_from d n rows ++ rest))
unfolding flat_by
rows_say e e' d d' rest rest' extra [] rows' n k same marks less = absurd (omega arith)
rows_say e e' d d' rest rest' extra (r ∷ rs) [] n k same marks less = let z : ◌≡◌ {A = ℕ} 0 1 = cc in absurd (omega arith)
rows_say e e' d d' rest rest' extra (r ∷ rs) (r' ∷ rs') n zero same marks less =
    let first : field_content e' r' ≡ field_content e r = cc in
    let mark : d' n ≡ d n = marks n (omega arith) in
    let w = field_words (d n) r in
    let w' = field_words (d' n) r' in
    let x = rows_from d (suc n) rs in
    let x' = rows_from d' (suc n) rs' in
    ap (λ (l : List ℕ). field_says e' (drop (15 * 0) l)) (append_assoc w' x' rest') ∙ row_says e' (d' n) r' (x' ++ rest')
    ∙ (λ i. says (mark i) (first i))
    ∙ sym (ap (λ (l : List ℕ). field_says e (drop (15 * 0) l)) (append_assoc w x rest) ∙ row_says e (d n) r (x ++ rest))
rows_say e e' d d' rest rest' extra (r ∷ rs) (r' ∷ rs') n (suc k) same marks less =
    let later : map (field_content e') rs' ≡ map (field_content e) rs ++ extra = cc in
    let w = field_words (d n) r in
    let w' = field_words (d' n) r' in
    let x = rows_from d (suc n) rs in
    let x' = rows_from d' (suc n) rs' in
    ap (λ (l : List ℕ). field_says e' (drop (15 * suc k) l)) (append_assoc w' x' rest') ∙ ap (field_says e') (row_past (d' n) k r' (x' ++ rest'))
    ∙ rows_say e e' d d' rest rest' extra rs rs' (suc n) k later (λ i l. marks i (omega arith)) (omega arith)
    ∙ sym (ap (λ (l : List ℕ). field_says e (drop (15 * suc k) l)) (append_assoc w x rest) ∙ ap (field_says e) (row_past (d n) k r (x ++ rest)))

-- the dark mark of field i
abbrev pub mark : Lists → ℕ → Bool
mark l i = dark (parents_of l.fields) l.columns i

-- the rows of l in e are the first of l' in e'
pub fields_say : (e e' f₀ f₀' : List ℕ) (l l' : Lists) (extra : List FieldContent) → map (field_content e') l'.fields ≡ map (field_content e) l.fields ++ extra
    → ((i : ℕ) → i < length l.fields → mark l' i ≡ mark l i) → (i : ℕ) → i < length l.fields
    → field_says e' (field_row (over (field_table l') f₀') i) ≡ field_says e (field_row (over (field_table l) f₀) i)
fields_say e e' f₀ f₀' l l' extra same marks i less =
    rows_say e e' (λ j. bit (mark l j)) (λ j. bit (mark l' j)) (drop (length (field_table l)) f₀) (drop (length (field_table l')) f₀') extra l.fields l'.fields 0 i same
    (λ j h. ap bit (marks j (omega arith))) less

-- the mark hangs on the contents alone

pub mark_content : (e : List ℕ) (h : Header) (i : ℕ) → mark h.lists i ≡ dark (parents_in (header_content e h).fields) (header_content e h).columns i
unfolding header_content
mark_content e h i = ap (λ (l : List ℕ). dark l h.lists.columns i) (parents_same e h.lists.fields)

pub mark_same : (e e' : List ℕ) (h h' : Header) → header_content e' h' ≡ header_content e h → (i : ℕ) → mark h'.lists i ≡ mark h.lists i
mark_same e e' h h' same i = mark_content e' h' i ∙ ap (λ (c : HeaderContent). dark (parents_in c.fields) c.columns i) same ∙ sym (mark_content e h i)

pub field_counts : (e e' : List ℕ) (h h' : Header) → header_content e' h' ≡ header_content e h → length h'.lists.fields ≡ length h.lists.fields
unfolding header_content
field_counts e e' h h' same =
    sym (length-map h'.lists.fields (field_content e')) ∙ ap (λ (t : HeaderContent). length t.fields) same ∙ length-map h.lists.fields (field_content e)

-- equal contents: rows have the same room, and the tables are the same

pub same_room : (e e' : List ℕ) (h h' : Header) (f c a : ℕ) → header_content e' h' ≡ header_content e h → room_for f c a h.lists ≡ true
    → room_for f c a h'.lists ≡ true
unfolding header_content
same_room e e' h h' f c a same room =
    let fields = field_counts e e' h h' same in
    let columns : length h'.lists.columns ≡ length h.lists.columns = ap (λ (t : HeaderContent). length t.columns) same in
    let aliases : length h'.lists.aliases ≡ length h.lists.aliases = ap (λ (t : HeaderContent). length t.aliases) same in
    rw (fields, columns, aliases) room

pub same_tables : (e e' f₀ c₀ a₀ : List ℕ) (h h' : Header) → header_content e' h' ≡ header_content e h
    → SameTables e (over (field_table h.lists) f₀) (over (column_table h.lists) c₀) (over (alias_table h.lists) a₀) (answer_of h) e' (over (field_table h'.lists) f₀) (over (column_table h'.lists) c₀) (over (alias_table h'.lists) a₀) (answer_of h')
unfolding header_content
same_tables e e' f₀ c₀ a₀ h h' same =
    record {
      field_count = field_counts e e' h h' same;
      column_count = ap (λ (t : HeaderContent). length t.columns) same;
      alias_count = ap (λ (t : HeaderContent). length t.aliases) same;
      name = ap (λ (t : HeaderContent). t.name) same;
      description = ap (λ (t : HeaderContent). t.description) same;
      fields = fields_say e e' f₀ f₀ h.lists h'.lists [] (ap (λ (t : HeaderContent). t.fields) same ∙ sym (append-nil (map (field_content e) h.lists.fields))) (λ i _. mark_same e e' h h' same i);
      columns = ap (λ (t : HeaderContent). over (flat column_words t.columns) c₀) same;
      aliases = ap (λ (t : HeaderContent). over (flat alias_words t.aliases) a₀) same;
    }
