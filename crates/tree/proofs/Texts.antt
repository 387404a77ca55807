-- Each string of an accepted header is text.
use Prim.Native.Nat.{ℕ, ◌<◌}
use mathlib.Core.List.{List, [], ◌∷◌}
use mathlib.Core.Bool.{true}
use mathlib.Core.Path.{◌≡◌, sym, ap, ◌∙◌, subst}
use native.Mathlib.Omega.{arith}
use lib.ListN.{length, drop, get_or}
use Rattle.numbers.specs.Lists.{Each}
use Rattle.numbers.proofs.Lists.{each_back, each_at}
use Rattle.utf8.specs.WellFormed.{well_formed}
use Rattle.utf8.specs.Scalars.{Text}
use Rattle.utf8.proofs.Exactly.{well_formed_exactly}
use Rattle.rows.specs.Words.{bit}
use Rattle.rows.specs.Tables.{field_row}
use Rattle.rows.specs.declared.FieldRow.{FieldRow}
use Rattle.rows.proofs.RowLaws.{fields_back}
use Rattle.parents.specs.Dark.{dark}
use Rattle.header.specs.Tables.{field_table, parents_of}
use Rattle.header.specs.declared.HeaderTables.{HeaderTables}
use Rattle.tree.specs.Shape.{ValidItems, chars, record_shape}
use Rattle.tree.specs.HeaderTree.{FieldContent, HeaderContent, field_content, header_content, tables_of, field_shape, strings_shape, texts_shape, lists_shape, payload_shape}
use Rattle.tree.specs.Texts.{FieldText, StringsAreText}
use Rattle.tree.proofs.HeaderLaws.{header_sound}
use Rattle.tree.proofs.HeaderCalls.{accepted_call}

text_of_lem : (s : List ℕ) → well_formed s ≡ true → Text s
text_of_lem s good = (well_formed_exactly.encodes s).0 good

-- by what the trees say of a field's strings

abbrev Spelled : FieldContent → Type 0
Spelled c = strings_shape.Valid c.texts

fields_spelled : (n : ℕ) (done fs : List FieldContent) → ValidItems (λ _. record_shape (field_shape n)) done fs → Each Spelled fs
unfolding field_shape
fields_spelled n done [] v = tt
fields_spelled n done (f ∷ fs) v = (v.0.1.0, fields_spelled n _ fs v.1)

row_text_lem : (e : List ℕ) (r : FieldRow) → Spelled (field_content e r) → FieldText e r.texts
unfolding strings_shape
row_text_lem e r v = record { name = text_of_lem _ v.0; type_name = text_of_lem _ v.1.0; type_alias = text_of_lem _ v.1.1.0; description = text_of_lem _ v.1.1.1.0 }

pub strings_are_text : StringsAreText
unfolding StringsAreText header_content payload_shape texts_shape lists_shape
strings_are_text e f₀ f c₀ c a₀ a x bytes call =
    let k = accepted_call e f₀ f c₀ c a₀ a x call in
    let h = k.header in
    let w = header_sound e h k.place bytes k.reads in
    let v = w.right.envelope.valid in
    let t = tables_of w.tree in
    let good-name = text_of_lem t.name v.0.1.0 in
    let good-description = text_of_lem t.description v.0.1.1.0 in
    let good-fields = fields_spelled (length t.fields) [] t.fields v.1.0.0.2 in
    let all : Each (λ r. Spelled (field_content e r)) h.lists.fields = each_back Spelled (field_content e) h.lists.fields (subst (λ (y : HeaderContent). Each Spelled y.fields) (sym w.means) good-fields) in
    let l = h.lists in
    let mark : ℕ → ℕ = λ i. bit (dark (parents_of l.fields) l.columns i) in
    let count : x.fields ≡ length l.fields = ap (λ (y : HeaderTables). y.fields) k.answers in
    let row : (i : ℕ) → i < length l.fields → field_row f i ≡ get_or l.fields i (field_row f i) = λ i inside. ap (λ (t : List ℕ). field_row t i) k.fields ∙ (fields_back.each mark l.fields (drop (length (field_table l)) f₀) (field_row f i) i inside).0 in
    record {
      name = subst (λ (y : HeaderTables). Text (chars e y.texts.name)) (sym k.answers) (subst (λ (y : HeaderContent). Text y.name) (sym w.means) good-name);
      description = subst (λ (y : HeaderTables). Text (chars e y.texts.description)) (sym k.answers) (subst (λ (y : HeaderContent). Text y.description) (sym w.means) good-description);
      fields = λ i below.
          let inside : i < length l.fields = omega arith in
          subst (λ (r : FieldRow). FieldText e r.texts) (sym (row i inside)) (row_text_lem e (get_or l.fields i (field_row f i)) (each_at (λ r. Spelled (field_content e r)) l.fields (field_row f i) i all inside));
    }
