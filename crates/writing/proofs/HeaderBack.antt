-- How the reader takes a header that is written.
use Prim.Native.Nat.{ℕ, ◌+◌, ◌-◌, ◌^◌, ◌≤◌, ◌<◌}
use mathlib.Core.List.{List, [], ◌∷◌, ◌++◌, map, map-append}
use mathlib.Core.Bool.{Bool, true, false}
use mathlib.Core.Path.{◌≡◌, refl, sym, ap, ◌∙◌, subst}
use native.Mathlib.Omega.{arith}
use lib.ListN.{length, take, length-map}
use Rattle.numbers.specs.Choice.{pick}
use Rattle.wire.specs.Reading.{found, give, number, below, listed, unless}
use Rattle.frames.specs.Frames.{record_of, at_most}
use Rattle.envelope.specs.Features.{feature_bits, features}
use Rattle.envelope.specs.Envelope.{ceiling}
use Rattle.records.specs.Records.{repetitive, repetition, field_head, field_texts, field, sized, column, aliasable, alias, texts}
use Rattle.rows.specs.Words.{most_fields, most_columns, most_aliases}
use Rattle.rows.specs.declared.FieldHead.{FieldHead}
use Rattle.rows.specs.declared.FieldTexts.{FieldTexts}
use Rattle.rows.specs.declared.FieldRow.{FieldRow}
use Rattle.rows.specs.declared.ColumnRow.{ColumnRow}
use Rattle.rows.specs.declared.AliasRow.{AliasRow}
use Rattle.records.specs.declared.HeaderTexts.{HeaderTexts}
use Rattle.header.specs.Header.{Header, Lists, flags_of, field_list, column_list, alias_list, columns_after, aliases_after, lists, payload}
use Rattle.parents.specs.Parents.{all_reach}
use Rattle.header.specs.Tables.{parents_of, endless_fault, header_of, chained}
use Rattle.tree.specs.Shape.{NoVerdict, chars, Means, none, more}
use Rattle.tree.specs.HeaderTree.{texts_content, field_content, header_content, feature_words, flags_in, parents_in}
use Rattle.tree.proofs.Features.{features_law}
use Rattle.tree.proofs.HeaderLaws.{parents_same}
use Rattle.writing.specs.Piece.{Piece, put, nothing, record_piece, list_piece}
use Rattle.writing.specs.Rows.{HeaderRows}
use Rattle.writing.specs.Header.{feature_word, repetition_piece, field_head_piece, field_texts_piece, field_piece, column_piece, alias_piece, texts_piece, field_list_piece, column_list_piece, alias_list_piece, lists_piece, payload_piece, chains, header_piece, field_says, header_says}
use Rattle.writing.specs.Promises.{HeaderPromised}
use Rattle.writing.proofs.Sure.{Sure, put_sure, text_sure, nothing_sure, and_sure, record_sure, list_sure, unless_none}
use Rattle.writing.proofs.ReadBack.{RefusedBy, Reads, number_reads, judged_reads, plain_reads, string_reads, meant_reads, give_reads, here_reads, next_reads}
use Rattle.writing.proofs.FramesBack.{record_reads, list_reads}
use Rattle.writing.proofs.EnvelopeBack.{rows_long, first_version, envelope_takes, last_takes, promised}

-- every piece of a header is sure

repetition_sure : (flags n : ℕ) → Sure (repetition_piece flags n)
unfolding repetition_piece
repetition_sure flags n = by (repetitive flags)
  where
    by : (b : Bool) → Sure (pick b (put 8 64 NoVerdict n) nothing)
    by true = put_sure 8 64 NoVerdict n
    by false = nothing_sure

field_sure : (strings : List ℕ) (n : ℕ) (r : FieldRow) → Sure (field_piece strings n r)
unfolding field_piece field_head_piece field_texts_piece
field_sure strings n r =
    and_sure
    (and_sure (put_sure 4 32 NoVerdict _) (and_sure (put_sure 4 32 NoVerdict _) (and_sure (put_sure 4 32 (below n) _) (and_sure (put_sure 2 16 (listed 4) _) (and_sure (put_sure 2 16 (listed 3) _) (and_sure (repetition_sure _ _) nothing_sure))))))
    (and_sure
    (and_sure (text_sure strings _) (and_sure (text_sure strings _) (and_sure (text_sure strings _) (and_sure (text_sure strings _) nothing_sure))))
    nothing_sure)

column_sure : (n : ℕ) (c : ColumnRow) → Sure (column_piece n c)
unfolding column_piece
column_sure n c =
    and_sure (put_sure 2 16 NoVerdict _) (and_sure (put_sure 2 16 (sized _) _) (and_sure (put_sure 4 32 (below n) _) (and_sure (put_sure 4 32 (listed 7) _) nothing_sure)))

alias_sure : (flags : List ℕ) (columns : ℕ) (a : AliasRow) → Sure (alias_piece flags columns a)
unfolding alias_piece
alias_sure flags columns a = and_sure (put_sure 4 32 (below columns) _) (and_sure (put_sure 4 32 (aliasable flags) _) nothing_sure)

pub payload_sure : (strings : List ℕ) (named : HeaderTexts) (t : HeaderRows) → Sure (payload_piece strings named t)
unfolding payload_piece texts_piece lists_piece
payload_sure strings named t =
    and_sure
    (and_sure (put_sure 8 64 feature_bits 0) (and_sure (text_sure strings _) (and_sure (text_sure strings _) nothing_sure)))
    (and_sure
    (and_sure (list_sure (at_most most_fields) _ (λ _ r. record_sure (field_sure strings (length t.fields) r)) t.fields)
    (and_sure (list_sure (at_most most_columns) _ (λ _ c. record_sure (column_sure (length t.fields) c)) t.columns)
    (and_sure (list_sure (at_most most_aliases) _ (λ _ a. record_sure (alias_sure (flags_of t.fields) (length t.columns) a)) t.aliases) nothing_sure)))
    nothing_sure)

-- there are few rows

few_rows : {A : Type 0} (verdict : ℕ → ℕ) (f : List A → A → Piece) (rows : List A) → (list_piece verdict (λ d a. record_piece (f d a)) rows).long ≤ ceiling
    → length rows < 2 ^ 28
few_rows verdict f rows small = omega (arith, rows_long (λ d a. record_piece (f d a)) (λ d a. omega arith) rows [])

-- items that say what they should, each by itself
means_map : {A B C : Type 0} {f : A → B} {g : C → B} {cs : List C} {xs : List A} → Means (λ done c a. f a ≡ g c) cs xs → map f xs ≡ map g cs
means_map none = refl
means_map {f = f} {g = g} (more {cs = cs} {xs = xs} {c = c} {x = x} m e) =
    map-append f xs (x ∷ []) ∙ ap (λ (l : List _). l ++ (f x ∷ [])) (means_map m) ∙ ap (λ y. map g cs ++ (y ∷ [])) e ∙ sym (map-append g cs (c ∷ []))

pub map_self : {A : Type 0} (xs : List A) → map (λ x. x) xs ≡ xs
map_self [] = refl
map_self (x ∷ xs) = ap (λ (l : List _). x ∷ l) (map_self xs)

pub means_rows : {A B : Type 0} {f : B → A} {cs : List B} {xs : List A} → Means (λ done c a. a ≡ f c) cs xs → xs ≡ map f cs
means_rows {f = f} {xs = xs} m = sym (map_self xs) ∙ means_map {f = λ x. x} {g = f} m

pub means_same : {C : Type 0} {cs xs : List C} → Means (λ done c a. a ≡ c) cs xs → xs ≡ cs
means_same {cs = cs} m = means_rows {f = λ x. x} m ∙ map_self cs

flags_back : (s strings : List ℕ) (xs rows : List FieldRow) → map (field_content s) xs ≡ map (field_says strings) rows → flags_of xs ≡ flags_of rows
flags_back s strings xs rows same = sym (of_map s xs) ∙ ap flags_in same ∙ of_says rows
  where
    of_map : (s' : List ℕ) (ys : List FieldRow) → flags_in (map (field_content s') ys) ≡ flags_of ys
    of_map s' [] = refl
    of_map s' (y ∷ ys) = ap (λ (l : List ℕ). y.head.flags ∷ l) (of_map s' ys)

    of_says : (ys : List FieldRow) → flags_in (map (field_says strings) ys) ≡ flags_of ys
    of_says [] = refl
    of_says (y ∷ ys) = ap (λ (l : List ℕ). y.head.flags ∷ l) (of_says ys)

parents_back : (s strings : List ℕ) (xs rows : List FieldRow) → map (field_content s) xs ≡ map (field_says strings) rows → parents_of xs ≡ parents_of rows
parents_back s strings xs rows same = parents_same s xs ∙ ap parents_in same ∙ of_says rows
  where
    of_says : (ys : List FieldRow) → parents_in (map (field_says strings) ys) ≡ parents_of ys
    of_says [] = refl
    of_says (y ∷ ys) = ap (λ (l : List ℕ). y.head.parent.0 ∷ l) (of_says ys)

length_back : (s strings : List ℕ) (xs rows : List FieldRow) → map (field_content s) xs ≡ map (field_says strings) rows → length xs ≡ length rows
length_back s strings xs rows same = sym (length-map xs (field_content s)) ∙ ap length same ∙ length-map rows (field_says strings)

module _ (s : List ℕ) where
  repetition_reads : (flags n : ℕ) → Reads s (repetition flags) (repetition_piece flags n) (λ a. a ≡ pick (repetitive flags) n 0)
  unfolding repetition repetition_piece
  repetition_reads flags n = by (repetitive flags)
    where
      by : (b : Bool) → Reads s (pick b (number 8) (give 0)) (pick b (put 8 64 NoVerdict n) nothing) (λ a. a ≡ pick b n 0)
      by true = plain_reads s 8 64 n (omega arith)
      by false = give_reads s 0 _ refl

  repetition_after : (flags read n : ℕ) → read ≡ flags → Reads s (repetition read) (repetition_piece flags n) (λ a. a ≡ pick (repetitive flags) n 0)
  repetition_after flags read n e = subst (λ (v : ℕ). Reads s (repetition v) (repetition_piece flags n) (λ a. a ≡ pick (repetitive flags) n 0)) (sym e) (repetition_reads flags n)

  -- the numbers of a field as they are read back
  abbrev head_back : FieldHead → FieldHead
  head_back h =
      record { field_version = h.field_version; type_version = h.type_version; parent = h.parent; role = h.role; flags = h.flags; repetition = pick (repetitive h.flags) h.repetition 0 }

  head_reads : (n : ℕ) (h : FieldHead) → Reads s (field_head n) (field_head_piece n h) (λ a. a ≡ head_back h)
  unfolding field_head field_head_piece
  head_reads n h =
      next_reads s (plain_reads s 4 32 h.field_version (omega arith)) λ a₁ e₁.
      next_reads s (plain_reads s 4 32 h.type_version (omega arith)) λ a₂ e₂.
      next_reads s (number_reads s 4 32 (below n) h.parent.0 (omega arith)) λ a₃ e₃.
      next_reads s (number_reads s 2 16 (listed 4) h.role (omega arith)) λ a₄ e₄.
      next_reads s (number_reads s 2 16 (listed 3) h.flags (omega arith)) λ a₅ e₅.
      next_reads s (repetition_after h.flags a₅ h.repetition e₅) λ a₆ e₆.
      give_reads s _ _ (λ i. record { field_version = e₁ i; type_version = e₂ i; parent = record { 0 = e₃ i }; role = e₄ i; flags = e₅ i; repetition = e₆ i })

  strings_read : length s < 2 ^ 31 → (strings : List ℕ) (t : FieldTexts) → Reads s field_texts (field_texts_piece strings t) (λ a. texts_content s a ≡ texts_content strings t)
  unfolding field_texts field_texts_piece
  strings_read small strings t =
      next_reads s (string_reads s small strings t.name) λ a₁ e₁.
      next_reads s (string_reads s small strings t.type_name) λ a₂ e₂.
      next_reads s (string_reads s small strings t.type_alias) λ a₃ e₃.
      next_reads s (string_reads s small strings t.description) λ a₄ e₄.
      give_reads s _ _ (λ i. record { name = e₁ i; type_name = e₂ i; type_alias = e₃ i; description = e₄ i })

  field_reads : length s < 2 ^ 31 → (strings : List ℕ) (n : ℕ) (r : FieldRow) → Reads s (field n) (field_piece strings n r) (λ a. field_content s a ≡ field_says strings r)
  unfolding field field_piece
  field_reads small strings n r =
      next_reads s (head_reads n r.head) λ a₁ e₁.
      next_reads s (strings_read small strings r.texts) λ a₂ e₂.
      give_reads s _ _ (λ i. record { head = e₁ i; texts = e₂ i })

  column_reads : (n : ℕ) (c : ColumnRow) → Reads s (column n) (column_piece n c) (λ a. a ≡ c)
  unfolding column column_piece
  column_reads n c =
      next_reads s (plain_reads s 2 16 c.column_type (omega arith)) λ a₁ e₁.
      next_reads s (judged_reads s 2 16 (sized a₁) (sized c.column_type) c.bits (omega arith) (ap (λ (v : ℕ). sized v c.bits) e₁)) λ a₂ e₂.
      next_reads s (number_reads s 4 32 (below n) c.field.0 (omega arith)) λ a₃ e₃.
      next_reads s (number_reads s 4 32 (listed 7) c.flags (omega arith)) λ a₄ e₄.
      give_reads s _ _ (λ i. record { column_type = e₁ i; bits = e₂ i; field = record { 0 = e₃ i }; flags = e₄ i })

  alias_reads : (flags : List ℕ) (columns : ℕ) (c : AliasRow) → Reads s (alias flags columns) (alias_piece flags columns c) (λ a. a ≡ c)
  unfolding alias alias_piece
  alias_reads flags columns c =
      next_reads s (number_reads s 4 32 (below columns) c.column.0 (omega arith)) λ a₁ e₁.
      next_reads s (number_reads s 4 32 (aliasable flags) c.field.0 (omega arith)) λ a₂ e₂.
      give_reads s _ _ (λ i. record { column = record { 0 = e₁ i }; field = record { 0 = e₂ i } })

  -- the word in front

  pub features_read : Reads s (λ c. features (length c) c) feature_word (λ u. Unit {0})
  unfolding feature_words
  features_read =
      record {
        finds = λ end p at good.
            let r = (features_law s true).complete end p 0 at.inside tt (λ _. tt) at.stands at.room in
            record { value = r.value; is = r.reads; means = tt };
        refuses = λ end p at fits bad. absurd (bad refl);
      }

  abbrev TextsBack : List ℕ → HeaderTexts → HeaderTexts → Type 0
  TextsBack strings t a = (chars s a.name ≡ chars strings t.name) × (chars s a.description ≡ chars strings t.description)

  texts_read : length s < 2 ^ 31 → (strings : List ℕ) (t : HeaderTexts) → Reads s texts (texts_piece strings t) (TextsBack strings t)
  unfolding texts texts_piece
  texts_read small strings t =
      let law : Reads s _ (texts_piece strings t) (TextsBack strings t) =
      next_reads s features_read λ _ _.
      next_reads s (string_reads s small strings t.name) λ a₁ e₁.
      next_reads s (string_reads s small strings t.description) λ a₂ e₂.
      give_reads s (record { name = a₁; description = a₂ }) _ (e₁, e₂) in
      record { finds = law.finds; refuses = law.refuses }

-- the lists, and the payload

-- tables of few rows
record Few (t : HeaderRows) : Type 0 where
  fields : length t.fields < 2 ^ 28
  columns : length t.columns < 2 ^ 28
  aliases : length t.aliases < 2 ^ 28

module _ (s : List ℕ) (strict : Bool) (small : length s < 2 ^ 31) (strings : List ℕ) (t : HeaderRows) (few : Few t) where
  abbrev FieldsBack : List FieldRow → Type 0
  FieldsBack xs = map (field_content s) xs ≡ map (field_says strings) t.fields

  fields_read : Reads s (field_list strict) (field_list_piece strings t.fields) FieldsBack
  fields_read =
      meant_reads s (λ xs m. means_map m)
      (list_reads s strict (at_most most_fields) (λ n _. record_of strict (field n)) (λ _ r. record_piece (field_piece strings (length t.fields) r)) (λ done c a. field_content s a ≡ field_says strings c) t.fields small few.fields
      (λ done before m c. record_reads strict small (field_reads s small strings (length t.fields) c)))

  columns_read : (xs : List FieldRow) → FieldsBack xs → Reads s (column_list strict (length xs)) (column_list_piece (length t.fields) t.columns) (λ cs. cs ≡ t.columns)
  columns_read xs same =
      rw (length_back s strings xs t.fields same)
      (meant_reads s (λ cs m. means_same m)
      (list_reads s strict (at_most most_columns) (λ _ _. record_of strict (column (length t.fields))) (λ _ c. record_piece (column_piece (length t.fields) c)) (λ done c a. a ≡ c) t.columns small few.columns
      (λ done before m c. record_reads strict small (column_reads s (length t.fields) c))))

  aliases_read : (xs : List FieldRow) → FieldsBack xs → (cs : List ColumnRow) → cs ≡ t.columns
      → Reads s (alias_list strict (flags_of xs) (length cs)) (alias_list_piece (flags_of t.fields) (length t.columns) t.aliases) (λ ys. ys ≡ t.aliases)
  aliases_read xs same cs same' =
      rw (flags_back s strings xs t.fields same, same')
      (meant_reads s (λ ys m. means_same m)
      (list_reads s strict (at_most most_aliases) (λ _ _. record_of strict (alias (flags_of t.fields) (length t.columns))) (λ _ a. record_piece (alias_piece (flags_of t.fields) (length t.columns) a)) (λ done c a. a ≡ c) t.aliases small few.aliases
      (λ done before m c. record_reads strict small (alias_reads s (flags_of t.fields) (length t.columns) c))))

  abbrev ListsBack : Lists → Type 0
  ListsBack l = FieldsBack l.fields × (l.columns ≡ t.columns) × (l.aliases ≡ t.aliases)

  lists_read : Reads s (lists strict) (lists_piece strings t) ListsBack
  unfolding lists columns_after aliases_after lists_piece
  lists_read =
      here_reads s λ at₁.
      next_reads s fields_read λ a₁ e₁.
      here_reads s λ at₂.
      next_reads s (columns_read a₁ e₁) λ a₂ e₂.
      here_reads s λ at₃.
      next_reads s (aliases_read a₁ e₁ a₂ e₂) λ a₃ e₃.
      give_reads s (record { fields_at = at₁; fields = a₁; columns_at = at₂; columns = a₂; aliases_at = at₃; aliases = a₃ }) _ (e₁, e₂, e₃)

  payload_reads : (named : HeaderTexts) → Reads s (payload strict) (payload_piece strings named t) (λ h. header_content s h ≡ header_says strings named t)
  unfolding payload payload_piece header_content header_says
  payload_reads named =
      next_reads s (texts_read s small strings named) λ a₁ e₁.
      next_reads s lists_read λ a₂ e₂.
      give_reads s (record { texts = a₁; lists = a₂ }) _ (λ i. record { name = e₁.0 i; description = e₁.1 i; fields = e₂.0 i; columns = e₂.1 i; aliases = e₂.2 i })

-- the whole header

few_in : (strings : List ℕ) (named : HeaderTexts) (t : HeaderRows) → 8 + (payload_piece strings named t).long ≤ ceiling → Few t
unfolding payload_piece texts_piece lists_piece
few_in strings named t small =
    record {
      fields = few_rows (at_most most_fields) (λ _ r. field_piece strings (length t.fields) r) t.fields (omega arith);
      columns = few_rows (at_most most_columns) (λ _ c. column_piece (length t.fields) c) t.columns (omega arith);
      aliases = few_rows (at_most most_aliases) (λ _ a. alias_piece (flags_of t.fields) (length t.columns) a) t.aliases (omega arith);
    }

-- the test of the parent chains is that of the rows

reach_back : (s strings : List ℕ) (named : HeaderTexts) (t : HeaderRows) (h : Header) → header_content s h ≡ header_says strings named t
    → all_reach (parents_of h.lists.fields) (length h.lists.fields) ≡ all_reach (parents_of t.fields) (length t.fields)
unfolding header_content header_says
reach_back s strings named t h same =
    let fields : map (field_content s) h.lists.fields ≡ map (field_says strings) t.fields = ap (λ c. c.fields) same in
    λ i. all_reach (parents_back s strings h.lists.fields t.fields fields i) (length_back s strings h.lists.fields t.fields fields i)

chained_good : (s : List ℕ) (b : Bool) (h : Header) (q : ℕ) → all_reach (parents_of h.lists.fields) (length h.lists.fields) ≡ b → unless b 15 0 ≡ 0
    → chained s (found h q) ≡ found h q
unfolding chained
chained_good s b h q e z = let (good, _) = unless_none b 14 0 z in rw (e ∙ good) refl

chained_bad : (s : List ℕ) (b : Bool) (h : Header) (q : ℕ) → all_reach (parents_of h.lists.fields) (length h.lists.fields) ≡ b → (unless b 15 0 ≡ 0 → ⊥)
    → RefusedBy (chained s (found h q)) (unless b 15 0)
unfolding chained
chained_bad s true h q e bad = absurd (bad refl)
chained_bad s false h q e bad = record { by = endless_fault s h.lists; is = rw e refl; number = refl }

pub header_promised : HeaderPromised
unfolding HeaderPromised header_of header_piece chained
header_promised strings named t =
    let x = payload_piece strings named t in
    let bytes = (header_piece strings named t).bytes in
    let inside = take (length bytes - 4) bytes in
    let M : Header → Type 0 = λ h. header_content bytes h ≡ header_says strings named t in
    let taken = envelope_takes 1 (λ v. payload v.strict) 1 1 x M first_version (payload_sure strings named t)
    (λ short size. payload_reads bytes true (omega arith) strings t (few_in strings named t short) named) in
    let reach = all_reach (parents_of t.fields) (length t.fields) in
    promised
    (last_takes (chained inside) (chains t.fields) taken (λ f. refl)
    (λ h q m z. chained_good inside reach h q (reach_back bytes strings named t h m) z)
    (λ h q m bad. chained_bad inside reach h q (reach_back bytes strings named t h m) bad))
