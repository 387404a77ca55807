-- The theorems over calls.
use Prim.Native.Nat.{ℕ, ◌/◌, ◌≤◌}
use mathlib.Core.List.{List, [], ◌∷◌, ◌++◌, map, map-append, flatten}
use mathlib.Core.Bool.{Bool, true, false}
use mathlib.Core.Path.{◌≡◌, refl, sym, ap, ◌∙◌, subst}
use native.Mathlib.Omega.{arith}
use lib.Dec.{leb}
use borrow.Author.Tests.{le-leb}
use lib.ListN.{length, take, length-map}
use Rattle.numbers.specs.Rows.{flat, over}
use Rattle.wire.specs.Reading.{found, unless}
use Rattle.envelope.specs.Envelope.{ceiling, checksum_of}
use Rattle.rows.specs.Words.{field_width, column_width, alias_width, cluster_width, link_width, page_width, page_words}
use Rattle.rows.specs.Tables.{rows_in, field_row, column_row, alias_row, cluster_row, link_row, page_row, first_rows}
use Rattle.rows.specs.declared.PageRow.{PageRow}
use Rattle.rows.proofs.FirstRows.{rows_length}
use Rattle.rows.proofs.RowLaws.{columns_back, aliases_back, links_back, clusters_back, page_lists_back, fields_back}
use Rattle.records.specs.declared.HeaderTexts.{HeaderTexts}
use Rattle.header.specs.Header.{Header}
use Rattle.header.specs.Beside.{Beside, read}
use Rattle.header.specs.Tables.{header_of}
use Rattle.header.proofs.Besides.{both_read_is}
use Rattle.footer.specs.Footer.{Footer, footer_of}
use Rattle.footer.specs.Tables.{beside_by_build}
use Rattle.column_pages.specs.ColumnPages.{pages_of}
use Rattle.page_list.specs.PageList.{page_list_of}
use Rattle.page_list.specs.Tables.{page_list_beside, answer, written, Answered as PageListRead}
use Rattle.page_list.specs.Answer.{PageListAnswer}
use Rattle.tree.specs.Shape.{chars}
use Rattle.tree.specs.HeaderTree.{HeaderContent, field_content, header_content}
use Rattle.tree.proofs.HeaderCalls.{answer_of, roomy_call}
use Rattle.tree.proofs.FooterCalls.{footer_left}
use Rattle.tree.proofs.Ranges.{flat_long}
use Rattle.writing.specs.Rows.{HeaderRows, all_rows, page_words_at, header_rows, footer_rows, page_rows_in}
use Rattle.writing.specs.Header.{header_piece, field_says, header_says}
use Rattle.writing.specs.Footer.{footer_piece}
use Rattle.writing.specs.PageList.{by_column, in_column_order, page_says, pages_say, page_list_piece}
use Rattle.writing.specs.declared.PageWords.{PageWords}
use Rattle.writing.specs.Promises.{HeaderPromised, FooterPromised, PageListPromised, InOrderOfColumns, OutOfOrder}
use Rattle.writing.proofs.HeaderBack.{header_promised}
use Rattle.writing.proofs.FooterBack.{footer_promised}
use Rattle.writing.proofs.ColumnOrder.{in_order_of_columns}
use Rattle.writing.proofs.PageListBack.{page_list_promised, out_of_order}
use Rattle.read_back.specs.Calls.{HeaderReadBack, FooterReadBack, PageListReadBack}
use Rattle.read_back.proofs.Written.{is_written_lem, beside_header_lem}
use Rattle.std.specs.Prelude.{Ok}

all_count : {A : Type 0} (row : List ℕ → ℕ → A) (width : ℕ) (table : List ℕ) → length (all_rows row width table) ≡ rows_in width table
all_count row width table = rows_length row table (rows_in width table)

-- as many rows as these fit
fitting : (width k : ℕ) (table₀ : List ℕ) (n : ℕ) → k ≡ n → n ≤ rows_in width table₀ → leb k (length table₀ / width) ≡ true
fitting width k table₀ n e room = le-leb k (length table₀ / width) (subst (λ (j : ℕ). j ≤ length table₀ / width) (sym e) room)

pub footer_read_back : FooterReadBack
unfolding FooterReadBack FooterPromised beside_by_build
footer_read_back header file clusters metadata out₀ out n call c₀ c m₀ m r reading roomC roomM =
    let f = footer_rows clusters metadata in
    let x = footer_piece (checksum_of header) file f in
    let b = beside_header_lem (λ _. x) (header_of header) 2 n out₀ out call in
    let p = footer_promised (checksum_of header) file f in
    let w = is_written_lem 2 n x out₀ out p.long b.call in
    let (g, q, finds, same) = p.accepts w.good in
    let reads : footer_of (checksum_of header) file (take n out) ≡ found f q = ap (footer_of (checksum_of header) file) w.bytes ∙ finds ∙ ap (λ (y : Footer). found y q) same in
    let whole = both_read_is 2 (λ _. footer_of (checksum_of header) file (take n out)) (header_of header) f b.header b.place q b.reads reads in
    let count_c = all_count cluster_row cluster_width clusters in
    let countM = all_count link_row link_width metadata in
    let fitsC = fitting cluster_width (length f.clusters) c₀ (rows_in cluster_width clusters) count_c roomC in
    let fits_m = fitting link_width (length f.metadata) m₀ (rows_in link_width metadata) countM roomM in
    let left = footer_left _ f c₀ c m₀ m r whole (rw (fitsC, fits_m) refl) reading in
    record {
      accepts = left.answers ∙ (λ i. Ok (record { clusters = count_c i; metadata = countM i }));
      clusters_are = (λ i. first_rows cluster_row (left.clusters i) (sym count_c i)) ∙ clusters_back.all f.clusters _;
      metadata_are = (λ i. first_rows link_row (left.metadata i) (sym countM i)) ∙ links_back.all f.metadata _;
    }

-- how many rows a header has that says what the tables say

module _ (e strings : List ℕ) (texts : HeaderTexts) (t : HeaderRows) (h : Header) (same : header_content e h ≡ header_says strings texts t) where
  same_fields_lem : map (field_content e) h.lists.fields ≡ map (field_says strings) t.fields
  unfolding header_content header_says
  same_fields_lem = ap (λ (c : HeaderContent). c.fields) same

  same_columns : h.lists.columns ≡ t.columns
  unfolding header_content header_says
  same_columns = ap (λ (c : HeaderContent). c.columns) same

  same_aliases_lem : h.lists.aliases ≡ t.aliases
  unfolding header_content header_says
  same_aliases_lem = ap (λ (c : HeaderContent). c.aliases) same

  same_name : chars e h.texts.name ≡ chars strings texts.name
  unfolding header_content header_says
  same_name = ap (λ (c : HeaderContent). c.name) same

  same_description : chars e h.texts.description ≡ chars strings texts.description
  unfolding header_content header_says
  same_description = ap (λ (c : HeaderContent). c.description) same

  fields_count : length h.lists.fields ≡ length t.fields
  fields_count = sym (length-map h.lists.fields (field_content e)) ∙ ap length same_fields_lem ∙ length-map t.fields (field_says strings)

pub header_read_back : HeaderReadBack
unfolding HeaderReadBack HeaderPromised
header_read_back strings texts fields columns aliases out₀ out n call f₀ f c₀ c a₀ a r reading roomF roomC roomA =
    let t = header_rows fields columns aliases in
    let x = header_piece strings texts t in
    let e = take n out in
    let p = header_promised strings texts t in
    let w = is_written_lem 1 n x out₀ out p.long call in
    let (h, q, finds, says) = p.accepts w.good in
    let reads : header_of e ≡ found h q = ap header_of w.bytes ∙ finds in
    let same : header_content e h ≡ header_says strings texts t = ap (λ (b : List ℕ). header_content b h) w.bytes ∙ says in
    let count_f : length h.lists.fields ≡ rows_in field_width fields = fields_count e strings texts t h same ∙ all_count field_row field_width fields in
    let count_c : length h.lists.columns ≡ rows_in column_width columns = ap length (same_columns e strings texts t h same) ∙ all_count column_row column_width columns in
    let count_a : length h.lists.aliases ≡ rows_in alias_width aliases = ap length (same_aliases_lem e strings texts t h same) ∙ all_count alias_row alias_width aliases in
    let fitsF = fitting field_width (length h.lists.fields) f₀ (rows_in field_width fields) count_f roomF in
    let fitsC = fitting column_width (length h.lists.columns) c₀ (rows_in column_width columns) count_c roomC in
    let fitsA = fitting alias_width (length h.lists.aliases) a₀ (rows_in alias_width aliases) count_a roomA in
    let (r_is, f_is, c_is, a_is) = roomy_call e f₀ f c₀ c a₀ a r h q reads (rw (fitsF, fitsC, fitsA) refl) reading in
    record {
      tables = answer_of h;
      accepts = r_is;
      field_count = count_f;
      column_count = count_c;
      alias_count = count_a;
      name = same_name e strings texts t h same;
      description = same_description e strings texts t h same;
      fields_are = ap (map (field_content e)) (ap (λ (l : List ℕ). first_rows field_row l (length h.lists.fields)) f_is ∙ fields_back.all _ h.lists.fields _) ∙ same_fields_lem e strings texts t h same;
      columns_are = ap (λ (l : List ℕ). first_rows column_row l (length h.lists.columns)) c_is ∙ columns_back.all h.lists.columns _ ∙ same_columns e strings texts t h same;
      aliases_are = ap (λ (l : List ℕ). first_rows alias_row l (length h.lists.aliases)) a_is ∙ aliases_back.all h.lists.aliases _ ∙ same_aliases_lem e strings texts t h same;
    }

-- page lists

flatten_map : {A B : Type 0} (f : A → B) (xss : List (List A)) → flatten (map (map f) xss) ≡ map f (flatten xss)
unfolding flatten
flatten_map f [] = refl
flatten_map f (xs ∷ xss) = ap (λ (l : List _). map f xs ++ l) (flatten_map f xss) ∙ sym (map-append f xs (flatten xss))

-- what a reader's call leaves where there is room
pages_left : (x : Beside (List (List PageRow))) (pss : List (List PageRow)) (p₀ p : List ℕ) (r : PageListAnswer) → x ≡ read pss → leb (pages_of pss) (length p₀ / page_width) ≡ true
    → PageListRead x p₀ p r → (r ≡ Ok (pages_of pss)) × (p ≡ over (flat (flat page_words) pss) p₀)
unfolding answer written
pages_left x pss p₀ p r is room call =
    (call.answers ∙ ap (answer (length p₀)) is ∙ rw room refl, call.pages_are ∙ ap (written (length p₀) p₀) is ∙ rw room refl)

-- what is written stands in the order of its columns
ordered : (h : Header) (entries file : ℕ) (rows : List PageWords) → (page_list_piece h entries file rows).number ≡ 0 → in_column_order (length h.lists.columns) 0 rows ≡ true
unfolding OutOfOrder
ordered h entries file rows good = by (in_column_order (length h.lists.columns) 0 rows) refl
  where
    other : (b : Bool) → unless b 1 14 ≡ 0 → ⊥
    other true e = absurd (omega (arith, e))
    other false e = absurd (omega (arith, e))

    by : (b : Bool) → in_column_order (length h.lists.columns) 0 rows ≡ b → b ≡ true
    by true e = refl
    by false e = absurd (other (leb (page_list_piece h entries file rows).long ceiling) (sym (out_of_order h entries file rows e) ∙ good))

pub page_list_read_back : PageListReadBack
unfolding PageListReadBack PageListPromised InOrderOfColumns page_list_beside pages_say
page_list_read_back header entries file pages out₀ out n call p₀ p r reading room =
    let rows = page_rows_in pages in
    let b = beside_header_lem (λ h. page_list_piece h entries file rows) (header_of header) 3 n out₀ out call in
    let h = b.header in
    let k = length h.lists.columns in
    let x = page_list_piece h entries file rows in
    let promise = page_list_promised h entries file rows in
    let w = is_written_lem 3 n x out₀ out promise.long b.call in
    let (pss, q, finds, same) = promise.accepts w.good in
    let all : flatten pss ≡ map page_says rows = ap flatten same ∙ flatten_map page_says (by_column 0 k rows) ∙ ap (map page_says) (in_order_of_columns k rows (ordered h entries file rows w.good)) in
    let count : length (flatten pss) ≡ rows_in page_width pages = ap length all ∙ length-map rows page_says ∙ all_count page_words_at page_width pages in
    let reads : page_list_of h entries file (take n out) ≡ found pss q = ap (page_list_of h entries file) w.bytes ∙ finds in
    let whole = both_read_is 3 (λ g. page_list_of g entries file (take n out)) (header_of header) pss h b.place q b.reads reads in
    let (r_is, p-is) = pages_left _ pss p₀ p r whole (fitting page_width (pages_of pss) p₀ (rows_in page_width pages) (sym (flat_long pss) ∙ count) room) reading in
    record {
      accepts = r_is ∙ ap Ok (sym (flat_long pss) ∙ count);
      pages_are = (λ i. first_rows page_row (p-is i) (sym count i)) ∙ page_lists_back.all pss _ ∙ all;
    }
