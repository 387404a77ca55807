-- Demand 3's second half: appended fields and columns leave a header accepted, with its earlier rows.
use Prim.Native.Nat.{ℕ, zero, suc, ◌+◌, ◌*◌, ◌-◌, ◌≤◌, ◌<◌, ◌/◌}
use mathlib.Core.List.{List, [], ◌∷◌, ◌++◌, map, map-append, append_assoc, append-nil}
use mathlib.Core.Bool.{Bool, true, false, not}
use mathlib.Core.Path.{◌≡◌, refl, sym, ap, ◌∙◌, subst}
use native.Mathlib.Omega.{arith}
use native.Mathlib.Nat.{add-zero}
use lib.Seq.{get_or-append-add, take-append_seam}
use lib.Dec.{leb, ltb}
use borrow.Author.Tests.{ltb-true, lt-ltb, le-leb}
use lib.ListN.{length, get_or, take, drop, length-append, length-map, get_or-append}
use Rattle.numbers.specs.Lists.{Each}
use Rattle.numbers.specs.Choice.{both}
use Rattle.wire.specs.Reading.{unless, found}
use Rattle.wire.proofs.Laws.{passed}
use Rattle.numbers.specs.Rows.{flat, over}
use Rattle.column_type.specs.Types.{known}
use Rattle.header.specs.Header.{Header}
use Rattle.records.specs.Records.{aliased}
use Rattle.parents.specs.Parents.{Inside, all_reach}
use Rattle.chain_moves.specs.Moves.{all_moves}
use Rattle.header.specs.Tables.{header_of, room_for}
use Rattle.parents.specs.Dark.{dark}
use Rattle.rows.proofs.TableLaws.{flat_is, flat_length, flat_join}
use Rattle.rows.specs.Words.{column_width, alias_width, field_width, column_words, alias_words, most_fields, most_columns}
use Rattle.rows.specs.declared.FieldHead.{FieldHead}
use Rattle.rows.specs.declared.ColumnRow.{ColumnRow}
use Rattle.rows.specs.declared.AliasRow.{AliasRow}
use Rattle.header.specs.declared.HeaderTables.{HeaderTables}
use Rattle.tree.specs.Shape.{chars, Shape, Framed, ValidItems, record_shape}
use Rattle.tree.specs.HeaderTree.{FieldContent, HeaderContent, PayloadContent, head_shape, field_shape, column_shape, alias_shape, flags_in, parents_in, field_content, header_content, lists_shape, payload_shape, header_carrier, HeaderTree, render_header, tables_of, RightHeader}
use Rattle.numbers.proofs.Choice.{both_true, both_false}
use Rattle.numbers.proofs.Lists.{each_append, each_weaken, each_map, each_at}
use Rattle.tree.proofs.HeaderLaws.{header_complete, tables_known}
use Rattle.forward.specs.SameTables.{field_says, field_row}
use Rattle.forward.specs.HeaderAppend.{appended, SelfParented, field_count, Appendix, HeaderAppend}
use Rattle.forward.specs.ListingForward.{darkened, appended_lines}
use Rattle.tree.proofs.HeaderCalls.{answer_of, accepted_call, roomy_call}
use Rattle.forward.proofs.Calls.{mark, mark_content, fields_say}
use Rattle.forward.proofs.HeaderForward.{the_header}
use Rattle.forward.proofs.Chains.{Tops, reach_appended, above_appended, above_new, not_above, never_above, moves_appended}
use Rattle.forward.proofs.Lines.{listed, lines_appended}

-- verdicts

passes : (b : Bool) (k : ℕ) → b ≡ true → unless b k 0 ≡ 0
passes b k e = rw e refl

-- items whose shape does not hang on those before are valid when each is

items_each : {T C : Type 0} (S : Shape T C) (done cs : List C) → ValidItems (λ _. S) done cs → Each S.Valid cs
items_each S done [] v = tt
items_each S done (c ∷ cs) v = (v.0, items_each S (done ++ (c ∷ [])) cs v.1)

each_item : {T C : Type 0} (S : Shape T C) (done cs : List C) → Each S.Valid cs → ValidItems (λ _. S) done cs
each_item S done [] v = tt
each_item S done (c ∷ cs) v = (v.0, each_item S (done ++ (c ∷ [])) cs v.1)

-- rows stay valid under greater counts

head_valid : (n m : ℕ) → n ≤ m → (c : FieldHead) → (head_shape n).Valid c → (head_shape m).Valid c
unfolding head_shape
head_valid n m le c v =
    let less : c.parent.0 < n = ltb-true c.parent.0 n (passed (ltb c.parent.0 n) 13 0 v.1.1.0.1).0 in
    (v.0, (v.1.0, ((v.1.1.0.0, passes (ltb c.parent.0 m) 14 (lt-ltb c.parent.0 m (omega arith))), v.1.1.1)))

field_valid : (n m : ℕ) → n ≤ m → (c : FieldContent) → (field_shape n).Valid c → (field_shape m).Valid c
unfolding field_shape
field_valid n m le c v = (head_valid n m le c.head v.0, v.1)

head_parent : (n : ℕ) (c : FieldHead) → (head_shape n).Valid c → c.parent.0 < n
unfolding head_shape
head_parent n c v = ltb-true c.parent.0 n (passed (ltb c.parent.0 n) 13 0 v.1.1.0.1).0

field_parent : (n : ℕ) (c : FieldContent) → (field_shape n).Valid c → c.head.parent.0 < n
unfolding field_shape
field_parent n c v = head_parent n c.head v.0

column_field : (n : ℕ) (c : ColumnRow) → (column_shape n).Valid c → c.field.0 < n
unfolding column_shape
column_field n c v = ltb-true c.field.0 n (passed (ltb c.field.0 n) 13 0 v.1.1.0.1).0

column_valid : (n m : ℕ) → n ≤ m → (c : ColumnRow) → (column_shape n).Valid c → (column_shape m).Valid c
unfolding column_shape
column_valid n m le c v =
    let less : c.field.0 < n = ltb-true c.field.0 n (passed (ltb c.field.0 n) 13 0 v.1.1.0.1).0 in
    (v.0, (v.1.0, ((v.1.1.0.0, passes (ltb c.field.0 m) 14 (lt-ltb c.field.0 m (omega arith))), v.1.1.1)))

alias_valid : (flags new : List ℕ) (n m : ℕ) → n ≤ m → (c : AliasRow) → (alias_shape flags n).Valid c → (alias_shape (flags ++ new) m).Valid c
unfolding alias_shape
alias_valid flags new n m le c v =
    let f = c.field.0 in
    let less : c.column.0 < n = ltb-true c.column.0 n (passed (ltb c.column.0 n) 13 0 v.0.1).0 in
    let (below, flag) = both_true (ltb f (length flags)) (aliased (get_or flags f 0)) (passed (both (ltb f (length flags)) (aliased (get_or flags f 0))) 13 0 v.1.0.1).0 in
    let below' : f < length flags = ltb-true f (length flags) below in
    let below'' : ltb f (length (flags ++ new)) ≡ true = lt-ltb f (length (flags ++ new)) (omega (arith, length-append flags new)) in
    let same : get_or (flags ++ new) f 0 ≡ get_or flags f 0 = get_or-append flags new 0 f below' in
    ((v.0.0, passes (ltb c.column.0 m) 14 (lt-ltb c.column.0 m (omega arith))), ((v.1.0.0, rw (below'', same, flag) refl), v.1.1))

-- contents with rows appended
abbrev with_rows : PayloadContent → List FieldContent → List ColumnRow → PayloadContent
with_rows c ns ks =
    record {
      words = c.words;
      tables = record {
        name = c.tables.name;
        description = c.tables.description;
        fields = c.tables.fields ++ ns;
        columns = c.tables.columns ++ ks;
        aliases = c.tables.aliases;
      };
    }

appended_valid : (c : PayloadContent) (ns : List FieldContent) (ks : List ColumnRow) → payload_shape.Valid c
    → Each (field_shape (length c.tables.fields + length ns)).Valid ns → Each (column_shape (length c.tables.fields + length ns)).Valid ks
    → length c.tables.fields + length ns ≤ most_fields → length c.tables.columns + length ks ≤ most_columns → payload_shape.Valid (with_rows c ns ks)
unfolding payload_shape lists_shape
appended_valid c ns ks v vn vk few few' =
    let fs = c.tables.fields in
    let cs = c.tables.columns in
    let as' = c.tables.aliases in
    let lists = v.1.0 in
    let n = length fs in
    let m = length fs + length ns in
    let long : length (fs ++ ns) ≡ m = length-append fs ns in
    let long' : length (cs ++ ks) ≡ length cs + length ks = length-append cs ks in
    let flags : flags_in (fs ++ ns) ≡ flags_in fs ++ flags_in ns = map-append (λ (x : FieldContent). x.head.flags) fs ns in
    let vf = items_each (record_shape (field_shape n)) [] fs lists.0.2 in
    let vc = items_each (record_shape (column_shape n)) [] cs lists.1.0.2 in
    let va = items_each (record_shape (alias_shape (flags_in fs) (length cs))) [] as' lists.1.1.0.2 in
    let fields = each_item (record_shape (field_shape m)) [] (fs ++ ns) (each_append (field_shape m).Valid fs ns (each_weaken (field_valid n m (omega arith)) fs vf) vn) in
    let columns = each_item (record_shape (column_shape m)) [] (cs ++ ks) (each_append (column_shape m).Valid cs ks (each_weaken (column_valid n m (omega arith)) cs vc) vk) in
    let aliases = each_item (record_shape (alias_shape (flags_in fs ++ flags_in ns) (length (cs ++ ks)))) [] as' (each_weaken (alias_valid (flags_in fs) (flags_in ns) (length cs) (length (cs ++ ks)) (omega arith)) as' va) in
    (v.0, ((rw long (omega arith, passes (leb m most_fields) 10 (le-leb m most_fields few), fields), (rw (long, long') (omega arith, passes (leb (length cs + length ks) most_columns) 10 (le-leb (length cs + length ks) most_columns few'), columns), (rw flags (lists.1.1.0.0, lists.1.1.0.1, aliases), tt))), tt))

-- parents

parent_at : (n : ℕ) (fs : List FieldContent) → Each (λ (c : FieldContent). c.head.parent.0 < n) fs → (f : ℕ) → f < length fs → get_or (parents_in fs) f 0 < n
parent_at n fs a f h =
    let parent : FieldContent → ℕ = λ c. c.head.parent.0 in
    each_at (λ (p : ℕ). p < n) (parents_in fs) 0 f (each_map (λ (p : ℕ). p < n) parent fs a) (omega (arith, h, length-map fs parent))

own_parents : (n : ℕ) (fields : List (Framed FieldContent)) → SelfParented n fields → (i : ℕ) → i < length fields
    → get_or (parents_in (map (λ (f : Framed FieldContent). f.inside) fields)) i 0 ≡ n + i
own_parents n [] s i h = absurd (omega arith)
own_parents n (f ∷ fs) s zero h = s.0 ∙ sym (add-zero n)
own_parents n (f ∷ fs) s (suc i) h = own_parents (suc n) fs s.1 i (omega arith) ∙ omega arith

abbrev inner : {C : Type 0} → Framed C → C
inner f = f.inside

-- dark marks

-- an appended field is dark by the appended columns on it alone
module _ (old new : List ℕ) (closed : Inside old (length old)) (reach : all_reach old (length old) ≡ true) (tops : Tops (old ++ new) (length old)) (i : ℕ) (after : length old ≤ i) where
  own_dark : (cs : List ColumnRow) (columns : List (Framed ColumnRow)) → Each (λ (c : ColumnRow). c.field.0 < length old) cs
      → Each (λ (c : ColumnRow). length old ≤ c.field.0) (map inner columns) → Each (λ (c : ColumnRow). c.field.0 < length (old ++ new)) (map inner columns)
      → dark (old ++ new) (cs ++ map inner columns) i ≡ darkened columns i
  unfolding dark darkened
  own_dark [] [] a b c = refl
  own_dark [] (k ∷ ks) a b c = rw (above_new old new closed reach tops i k.inside.field.0 b.0 c.0, own_dark [] ks tt b.1 c.1) refl
  own_dark (x ∷ cs) ks a b c = rw (never_above old new closed reach tops i x.field.0 a.0 after, both_false (not (known x.column_type)), own_dark cs ks a.1 b c) refl

-- an earlier field is dark as before
module _ (old new : List ℕ) (closed : Inside old (length old)) (reach : all_reach old (length old) ≡ true) (tops : Tops (old ++ new) (length old)) (i : ℕ) (before : i < length old) where
  new_dark : (ks : List ColumnRow) → Each (λ (c : ColumnRow). length old ≤ c.field.0) ks
      → Each (λ (c : ColumnRow). c.field.0 < length (old ++ new)) ks → dark (old ++ new) ks i ≡ false
  unfolding dark
  new_dark [] a b = refl
  new_dark (k ∷ ks) a b = rw (not_above old new closed reach tops i k.field.0 before a.0 b.0, both_false (not (known k.column_type)), new_dark ks a.1 b.1) refl

  dark_appended : (cs ks : List ColumnRow) → Each (λ (c : ColumnRow). c.field.0 < length old) cs
      → Each (λ (c : ColumnRow). length old ≤ c.field.0) ks → Each (λ (c : ColumnRow). c.field.0 < length (old ++ new)) ks
      → dark (old ++ new) (cs ++ ks) i ≡ dark old cs i
  unfolding dark
  dark_appended [] ks a b c = new_dark ks b c
  dark_appended (x ∷ cs) ks a b c = rw (above_appended old new closed reach tops i x.field.0 a.0, dark_appended cs ks a.1 b c) refl

module _ (t : HeaderTree) (right : RightHeader t) (fields : List (Framed FieldContent)) (columns : List (Framed ColumnRow)) (a : Appendix t fields columns) where
  abbrev content : PayloadContent
  content = header_carrier.content t.inside

  abbrev fs : List FieldContent
  fs = map inner t.inside.fields.inside

  abbrev cs : List ColumnRow
  cs = map inner t.inside.columns.inside

  abbrev ns : List FieldContent
  ns = map inner fields

  abbrev ks : List ColumnRow
  ks = map inner columns

  new_content : header_carrier.content (appended t fields columns).inside ≡ with_rows content ns ks
  new_content =
      λ i. record {
        words = content.words;
        tables = record {
          name = content.tables.name;
          description = content.tables.description;
          fields = map-append inner t.inside.fields.inside fields i;
          columns = map-append inner t.inside.columns.inside columns i;
          aliases = content.tables.aliases;
        };
      }

  counts : length fs + length ns ≡ length t.inside.fields.inside + length fields
  counts = rw (length-map t.inside.fields.inside inner, length-map fields inner) refl

  counts' : length cs + length ks ≡ length t.inside.columns.inside + length columns
  counts' = rw (length-map t.inside.columns.inside inner, length-map columns inner) refl

  valid_fields : Each (field_shape (length fs + length ns)).Valid ns
  valid_fields = rw counts (each_map (field_shape (length t.inside.fields.inside + length fields)).Valid inner fields a.valid_fields)

  valid_columns : Each (column_shape (length fs + length ns)).Valid ks
  valid_columns = rw counts (each_map (column_shape (length t.inside.fields.inside + length fields)).Valid inner columns a.valid_columns)

  new_valid : payload_shape.Valid (with_rows content ns ks)
  new_valid = appended_valid content ns ks right.envelope.valid valid_fields valid_columns (omega (arith, a.few_fields, counts)) (omega (arith, a.few_columns, counts'))

  old_valid : Each (field_shape (length fs)).Valid fs
  unfolding payload_shape lists_shape
  old_valid = items_each (record_shape (field_shape (length fs))) [] fs right.envelope.valid.1.0.0.2

  old_valid' : Each (column_shape (length fs)).Valid cs
  unfolding payload_shape lists_shape
  old_valid' = items_each (record_shape (column_shape (length fs))) [] cs right.envelope.valid.1.0.1.0.2

  long : length (parents_in fs) ≡ length fs
  long = length-map fs (λ (c : FieldContent). c.head.parent.0)

  closed : Inside (parents_in fs) (length (parents_in fs))
  closed f h = rw long (parent_at (length fs) fs (each_weaken (field_parent (length fs)) fs old_valid) f (omega (arith, long)))

  tops : Tops (parents_in fs ++ parents_in ns) (length (parents_in fs))
  tops f l h =
      let k = f - length (parents_in fs) in
      let f_is : f ≡ length (parents_in fs) + k = omega arith in
      let bound : k < length fields = omega (arith, length-append (parents_in fs) (parents_in ns), length-map ns (λ (c : FieldContent). c.head.parent.0), length-map fields inner) in
      let start : length (parents_in fs) ≡ length t.inside.fields.inside = long ∙ length-map t.inside.fields.inside inner in
      ap (λ (x : ℕ). get_or (parents_in fs ++ parents_in ns) x 0) f_is ∙ get_or-append-add (parents_in fs) (parents_in ns) k 0 ∙ own_parents (length t.inside.fields.inside) fields a.self_parented k bound ∙ omega arith

  parents_appended : parents_in (fs ++ ns) ≡ parents_in fs ++ parents_in ns
  parents_appended = map-append (λ (c : FieldContent). c.head.parent.0) fs ns

  reach : all_reach (parents_in fs) (length (parents_in fs)) ≡ true
  reach = rw long right.chains

  size : length fs + length ns ≡ length (parents_in fs ++ parents_in ns)
  size = omega (arith, length-append (parents_in fs) (parents_in ns), long, length-map ns (λ (c : FieldContent). c.head.parent.0))

  new_chains : all_reach (parents_in (fs ++ ns)) (length (fs ++ ns)) ≡ true
  new_chains = rw (parents_appended, length-append fs ns ∙ size) (reach_appended (parents_in fs) (parents_in ns) closed reach tops)

  pub appended_right : RightHeader (appended t fields columns)
  appended_right =
      let r = right.envelope in
      record {
        envelope = record {
          version_fits = r.version_fits;
          least = r.least;
          order = r.order;
          read = r.read;
          valid = subst payload_shape.Valid (sym new_content) new_valid;
          plain = λ e.
              let (p, spare) = r.plain e in
              let l = p.1.0 in
              let plain_fields = each_append (λ (f : Framed FieldContent). Unit {0} × (f.spare ≡ [])) t.inside.fields.inside fields l.0.0 (each_weaken (λ f s. (tt, s)) fields (a.plain_fields e)) in
              let plain_columns = each_append (λ (f : Framed ColumnRow). Unit {0} × (f.spare ≡ [])) t.inside.columns.inside columns l.1.0.0 (each_weaken (λ f s. (tt, s)) columns (a.plain_columns e)) in
              ((p.0, (((plain_fields, l.0.1), ((plain_columns, l.1.0.1), l.1.1)), p.1.1)), spare);
        };
        small = a.small;
        chains = subst (λ (c : PayloadContent). all_reach (parents_in c.tables.fields) (length c.tables.fields) ≡ true) (sym new_content) new_chains;
      }

  -- earlier columns hang on earlier fields, and appended columns on appended ones

  old_on : Each (λ (c : ColumnRow). c.field.0 < length (parents_in fs)) cs
  old_on = rw long (each_weaken (column_field (length fs)) cs old_valid')

  new_on : Each (λ (c : ColumnRow). length (parents_in fs) ≤ c.field.0) ks
  new_on = rw (long, length-map t.inside.fields.inside inner) (each_map (λ (c : ColumnRow). length t.inside.fields.inside ≤ c.field.0) inner columns a.on_them)

  new_below : Each (λ (c : ColumnRow). c.field.0 < length (parents_in fs ++ parents_in ns)) ks
  new_below = rw (← size) (each_weaken (column_field (length fs + length ns)) ks valid_columns)

  marks : (i : ℕ) → i < length fs → dark (parents_in (fs ++ ns)) (cs ++ ks) i ≡ dark (parents_in fs) cs i
  marks i h = rw parents_appended (dark_appended (parents_in fs) (parents_in ns) closed reach tops i (omega (arith, long)) cs ks old_on new_on new_below)

  own_marks : (i : ℕ) → length fs ≤ i → dark (parents_in (fs ++ ns)) (cs ++ ks) i ≡ darkened columns i
  own_marks i h = rw parents_appended (own_dark (parents_in fs) (parents_in ns) closed reach tops i (omega (arith, long)) cs columns old_on new_on new_below)

  lines : listed (with_rows content ns ks).tables ≡ listed content.tables ++ appended_lines (length t.inside.fields.inside) fields columns
  lines =
      lines_appended fs fields (dark (parents_in fs) cs) (dark (parents_in (fs ++ ns)) (cs ++ ks)) (darkened columns) (record { fields = closed; ends = reach }) tops marks own_marks
      ∙ ap (λ (n : ℕ). listed content.tables ++ appended_lines n fields columns) (length-map t.inside.fields.inside inner)

  sum : all_moves (parents_in (fs ++ ns)) ≡ all_moves (parents_in fs)
  sum = ap all_moves parents_appended ∙ moves_appended (parents_in fs) (parents_in ns) closed reach tops

-- the tables of a header with fields and columns appended

count_content : (e : List ℕ) (h : Header) → length h.lists.fields ≡ length (header_content e h).fields
unfolding header_content
count_content e h = sym (length-map h.lists.fields (field_content e))

-- e' is accepted, with the tables of h in e and these rows after its own, from number n on
pub record ReadMore (e : List ℕ) (h : Header) (e' : List ℕ) (n : ℕ) (fields : List (Framed FieldContent)) (columns : List (Framed ColumnRow)) : Type 0 where
  pub header : Header
  pub place : ℕ
  pub reads : header_of e' ≡ found header place
  pub name : (header_content e' header).name ≡ (header_content e h).name
  pub description : (header_content e' header).description ≡ (header_content e h).description
  pub fields_are : (header_content e' header).fields ≡ (header_content e h).fields ++ map inner fields
  pub columns_are : (header_content e' header).columns ≡ (header_content e h).columns ++ map inner columns
  pub aliases_are : (header_content e' header).aliases ≡ (header_content e h).aliases
  pub marks_are_lem : (i : ℕ) → i < length h.lists.fields → mark header.lists i ≡ mark h.lists i
  pub moves_are : all_moves (parents_in (header_content e' header).fields) ≡ all_moves (parents_in (header_content e h).fields)
  pub lines_are : listed (header_content e' header) ≡ listed (header_content e h) ++ appended_lines n fields columns

pub read_more : (e : List ℕ) (h : Header) (q : ℕ) → header_of e ≡ found h q → (t : HeaderTree) → RightHeader t → render_header t ≡ e
    → (fields : List (Framed FieldContent)) (columns : List (Framed ColumnRow)) → Appendix t fields columns
    → ReadMore e h (render_header (appended t fields columns)) (field_count t) fields columns
read_more e h q reads t right is fields columns a =
    let means : header_content e h ≡ tables_of t = tables_known t right e h q is reads in
    let t' = appended t fields columns in
    let e' = render_header t' in
    let new = header_complete t' (appended_right t right fields columns a) in
    let means' : header_content e' new.header ≡ (with_rows (header_carrier.content t.inside) (map inner fields) (map inner columns)).tables = new.means ∙ ap (λ (c : PayloadContent). c.tables) (new_content t right fields columns a) in
    let count : length h.lists.fields ≡ length (tables_of t).fields = count_content e h ∙ ap (λ (c : HeaderContent). length c.fields) means in
    record {
      header = new.header;
      place = _;
      reads = new.reads;
      name = ap (λ (c : HeaderContent). c.name) means' ∙ sym (ap (λ (c : HeaderContent). c.name) means);
      description = ap (λ (c : HeaderContent). c.description) means' ∙ sym (ap (λ (c : HeaderContent). c.description) means);
      fields_are = ap (λ (c : HeaderContent). c.fields) means' ∙ sym (ap (λ (c : HeaderContent). c.fields ++ map inner fields) means);
      columns_are = ap (λ (c : HeaderContent). c.columns) means' ∙ sym (ap (λ (c : HeaderContent). c.columns ++ map inner columns) means);
      aliases_are = ap (λ (c : HeaderContent). c.aliases) means' ∙ sym (ap (λ (c : HeaderContent). c.aliases) means);
      marks_are_lem = λ i l.
          mark_content e' new.header i ∙ ap (λ (c : HeaderContent). dark (parents_in c.fields) c.columns i) means'
          ∙ marks t right fields columns a i (omega (arith, count))
          ∙ sym (ap (λ (c : HeaderContent). dark (parents_in c.fields) c.columns i) means) ∙ sym (mark_content e h i);
      moves_are = ap (λ (c : HeaderContent). all_moves (parents_in c.fields)) means' ∙ sum t right fields columns a ∙ sym (ap (λ (c : HeaderContent). all_moves (parents_in c.fields)) means);
      lines_are = ap listed means' ∙ lines t right fields columns a ∙ sym (ap (λ (c : HeaderContent). listed c ++ appended_lines (field_count t) fields columns) means);
    }

-- words of rows

long_rows_lem : {A : Type 0} (w : A → List ℕ) (width : ℕ) → ((x : A) → length (w x) ≡ width) → (xs : List A) → length (flat w xs) ≡ width * length xs
long_rows_lem w width each xs = ap length (sym (flat_is w 0 xs)) ∙ flat_length (λ _. w) width (λ _. each) 0 xs

-- the first rows of a table, whatever rows follow and whatever stood there before
rows_in_front : {A : Type 0} (w : A → List ℕ) (width : ℕ) → ((x : A) → length (w x) ≡ width) → (all xs ys : List A) → all ≡ xs ++ ys → (old : List ℕ)
    → take (width * length xs) (over (flat w all) old) ≡ flat w xs
rows_in_front w width each all xs ys is old =
    let x = flat w xs in
    let r = drop (length (flat w all)) old in
    ap (λ (n : ℕ). take n (flat w all ++ r)) (sym (long_rows_lem w width each xs)) ∙ ap (λ (l : List _). take (length x) (flat w l ++ r)) is
    ∙ ap (λ (l : List ℕ). take (length x) (l ++ r)) (flat_join w xs ys) ∙ ap (take (length x)) (append_assoc x (flat w ys) r) ∙ take-append_seam x (flat w ys ++ r)

-- two tables that start with the same n rows
same_front : {A : Type 0} (w : A → List ℕ) (width : ℕ) → ((x : A) → length (w x) ≡ width) → (all xs ys : List A) → all ≡ xs ++ ys
    → (old old' : List ℕ) {table table' : List ℕ} → table ≡ over (flat w xs) old → table' ≡ over (flat w all) old' → {n : ℕ} → n ≡ length xs
    → take (width * n) table' ≡ take (width * n) table
same_front w width each all xs ys is old old' t t' count =
    rw (t, t', count) (rows_in_front w width each all xs ys is old' ∙ sym (rows_in_front w width each xs xs [] (sym (append-nil xs)) old))

column_long : (c : ColumnRow) → length (column_words c) ≡ column_width
unfolding column_words
column_long c = refl

alias_long : (a : AliasRow) → length (alias_words a) ≡ alias_width
unfolding alias_words
alias_long a = refl

-- demand 3, second half
pub header_append : HeaderAppend
unfolding header_content
header_append e f₀ f c₀ c a₀ a x bytes read =
    let call = accepted_call e f₀ f c₀ c a₀ a x read in
    let h = call.header in
    let the = the_header e h call.place bytes call.reads in
    let answers = call.answers in
    record {
      header = the;
      append = λ fields columns ap' f₁ f' c₁ c' a₁ a' r roomy roomy' roomy'' read'.
          let e' = render_header (appended the.tree fields columns) in
          let more = read_more e h call.place call.reads the.tree the.right the.bytes fields columns ap' in
          let h' = more.header in
          let l = h.lists in
          let l' = h'.lists in
          let n : length l'.fields ≡ length l.fields + length fields = sym (length-map l'.fields (field_content e')) ∙ ap length more.fields_are ∙ length-append (map (field_content e) l.fields) (map inner fields) ∙ (λ i. length-map l.fields (field_content e) i + length-map fields inner i) in
          let k : length l'.columns ≡ length l.columns + length columns = ap length more.columns_are ∙ length-append l.columns (map inner columns) ∙ ap (λ (j : ℕ). length l.columns + j) (length-map columns inner) in
          let m : length l'.aliases ≡ length l.aliases = ap length more.aliases_are in
          let fields_x : x.fields ≡ length l.fields = ap (λ (y : HeaderTables). y.fields) answers in
          let columns_x : x.columns ≡ length l.columns = ap (λ (y : HeaderTables). y.columns) answers in
          let aliases_x : x.aliases ≡ length l.aliases = ap (λ (y : HeaderTables). y.aliases) answers in
          let room : room_for (length f₁) (length c₁) (length a₁) l' ≡ true = rw (le-leb (length l'.fields) (length f₁ / field_width) (omega (arith, roomy, fields_x, n)), le-leb (length l'.columns) (length c₁ / column_width) (omega (arith, roomy', columns_x, k)), le-leb (length l'.aliases) (length a₁ / alias_width) (omega (arith, roomy'', aliases_x, m))) refl in
          let (accepts, f_is, c_is, a_is) = roomy_call e' f₁ f' c₁ c' a₁ a' r h' more.place more.reads room read' in
          record {
            answer = answer_of h';
            accepts = accepts;
            more_fields = n ∙ ap (λ (j : ℕ). j + length fields) (sym fields_x);
            more_columns = k ∙ ap (λ (j : ℕ). j + length columns) (sym columns_x);
            same_aliases = m ∙ sym aliases_x;
            name = more.name ∙ sym (ap (λ (y : HeaderTables). chars e y.texts.name) answers);
            description = more.description ∙ sym (ap (λ (y : HeaderTables). chars e y.texts.description) answers);
            field_rows = λ i less.
                ap (λ (w : List ℕ). field_says e' (field_row w i)) f_is ∙ fields_say e e' f₀ f₁ l l' (map inner fields) more.fields_are more.marks_are_lem i (omega (arith, fields_x))
                ∙ sym (ap (λ (w : List ℕ). field_says e (field_row w i)) call.fields);
            column_rows = same_front column_words column_width column_long l'.columns l.columns (map inner columns) more.columns_are c₀ c₁ call.columns c_is columns_x;
            alias_rows = same_front alias_words alias_width alias_long l'.aliases l.aliases [] (more.aliases_are ∙ sym (append-nil l.aliases)) a₀ a₁ call.aliases a_is aliases_x;
          };
    }
