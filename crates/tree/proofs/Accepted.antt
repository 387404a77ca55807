-- Which calls are accepted: exactly those for the renderings of right trees that have room.
use Prim.Native.Nat.{ℕ, ◌/◌, ◌≤◌}
use mathlib.Core.List.{List, [], ◌∷◌, map}
use mathlib.Core.Bool.{Bool, true, false}
use mathlib.Core.Path.{◌≡◌, refl, sym, ap, ◌∙◌, subst}
use native.Mathlib.Omega.{arith}
use lib.Dec.{leb}
use borrow.Author.Tests.{eqb-true, leb-true, le-leb}
use lib.ListN.{length, length-map}
use Rattle.numbers.specs.Choice.{pick}
use Rattle.wire.specs.Reading.{found}
use Rattle.outcome.specs.Outcome.{accepted_with, is_accepted}
use Rattle.rows.specs.Words.{field_width, column_width, alias_width, cluster_width, link_width, page_width}
use Rattle.rows.specs.declared.FieldRow.{FieldRow}
use Rattle.rows.specs.declared.ColumnRow.{ColumnRow}
use Rattle.rows.specs.declared.PageRow.{PageRow}
use Rattle.envelope.specs.Envelope.{ceiling, checksum_of}
use Rattle.header.specs.Header.{Header, flags_of}
use Rattle.header.specs.Beside.{Beside, read, refusal}
use Rattle.header.specs.Tables.{header_of, outcome_of, room_for, Answered, parents_of}
use Rattle.header.specs.Answer.{HeaderAnswer}
use Rattle.footer.specs.Footer.{Footer, footer_of}
use Rattle.footer.specs.Tables.{beside_by_build, footer_beside, answer as footerAnswer, outcome_of as footerOutcome, room_for as footerRoom, Answered as AnsweredFooter}
use Rattle.footer.specs.Answer.{FooterAnswer}
use Rattle.column_pages.specs.ColumnPages.{bits_of, pages_of}
use Rattle.pages.specs.Pages.{elements_of}
use Rattle.totals.specs.Totals.{totals}
use Rattle.std.specs.Prelude.{None}
use Rattle.page_list.specs.PageList.{totals_of, page_list_of}
use Rattle.page_list.specs.Tables.{page_list_beside, answer as pagesAnswer, outcome_of as pageListOutcome, room_for as pagesRoom, Answered as AnsweredPages}
use Rattle.page_list.specs.Answer.{PageListAnswer}
use Rattle.tree.specs.Bytes.{Bytes}
use Rattle.tree.specs.HeaderTree.{FieldContent, HeaderContent, field_content, header_content, tables_of}
use Rattle.tree.specs.FooterTree.{cluster_row, link_row, footer_tables, render_footer}
use Rattle.tree.specs.PageListTree.{page_list_carrier, pages_in, page_rows, render_page_list, RightPageList}
use Rattle.tree.specs.Accepted.{HeaderWritten, HeaderFits, HeaderAccepted, said_by, FooterFits, FooterAccepted, totals_in, PageListFits, PageListAccepted}
use Rattle.numbers.proofs.Choice.{clash, both_true}
use Rattle.tree.proofs.HeaderLaws.{header_complete, header_sound, tables_known}
use Rattle.tree.proofs.HeaderCalls.{accepted_call, roomy_call}
use Rattle.header.proofs.Besides.{Both, both_read, both_read_is, beside_names}
use Rattle.tree.proofs.PageListLaws.{rows_pages}
use Rattle.tree.proofs.Exactly.{footer_exactly, page_list_exactly}
use Rattle.std.specs.Prelude.{Ok, Err}

-- headers

-- how many rows the tables have, by the tree's
counts_same : (e : List ℕ) (h : Header) (c : HeaderContent) → header_content e h ≡ c
    → (length h.lists.fields ≡ length c.fields) × (length h.lists.columns ≡ length c.columns) × (length h.lists.aliases ≡ length c.aliases)
unfolding header_content
counts_same e h c same =
    (sym (length-map h.lists.fields (field_content e)) ∙ ap (λ (x : HeaderContent). length x.fields) same, ap (λ (x : HeaderContent). length x.columns) same, ap (λ (x : HeaderContent). length x.aliases) same)

-- a right tree's rendering is read
pub record TreeRead {e : List ℕ} (w : HeaderWritten e) : Type 0 where
  pub header : Header
  pub place : ℕ
  pub reads : header_of e ≡ found header place
  pub means : header_content e header ≡ tables_of w.tree

tree_read : {e : List ℕ} (w : HeaderWritten e) → TreeRead w
tree_read {e} w =
    let r = header_complete w.tree w.right in
    let reads = ap header_of (sym w.bytes) ∙ r.reads in
    record { header = r.header; place = _; reads = reads; means = tables_known w.tree w.right e r.header _ w.bytes reads }

-- the tree of a header that is read
written_header : (e : List ℕ) (h : Header) (q : ℕ) → Bytes e → header_of e ≡ found h q → (w : HeaderWritten e) × (header_content e h ≡ tables_of w.tree)
written_header e h q bytes reads =
    let w = header_sound e h q bytes reads in
    (record { tree = w.tree; right = w.right; bytes = w.bytes }, w.means)

header_fits : (e f₀ f c₀ c a₀ a : List ℕ) (r : HeaderAnswer) → Bytes e → Answered (header_of e) f₀ f c₀ c a₀ a r → is_accepted (outcome_of r) ≡ true
    → HeaderFits e (length f₀) (length c₀) (length a₀)
header_fits e f₀ f c₀ c a₀ a (Ok x) bytes call h =
    let k = accepted_call e f₀ f c₀ c a₀ a x call in
    let (w, means) = written_header e k.header k.place bytes k.reads in
    let (fields, columns, aliases) = counts_same e k.header (tables_of w.tree) means in
    let l = k.header.lists in
    let (roomy, later) = both_true (leb (length l.fields) (length f₀ / field_width)) _ k.room in
    let (roomy', roomy'') = both_true (leb (length l.columns) (length c₀ / column_width)) _ later in
    record {
      header = w;
      fields_fit = omega (arith, leb-true (length l.fields) (length f₀ / field_width) roomy, fields);
      columns_fit = omega (arith, leb-true (length l.columns) (length c₀ / column_width) roomy', columns);
      aliases_fit = omega (arith, leb-true (length l.aliases) (length a₀ / alias_width) roomy'', aliases);
    }
header_fits e f₀ f c₀ c a₀ a (Err n) bytes call h = clash h refl

pub header_accepted : HeaderAccepted
unfolding HeaderAccepted
header_accepted e f₀ f c₀ c a₀ a r bytes call =
    record {
      only = header_fits e f₀ f c₀ c a₀ a r bytes call;
      always = λ g.
          let t = tree_read g.header in
          let h = t.header in
          let (fields, columns, aliases) = counts_same e h (tables_of g.header.tree) t.means in
          let room : room_for (length f₀) (length c₀) (length a₀) h.lists ≡ true = rw (le-leb (length h.lists.fields) (length f₀ / field_width) (omega (arith, g.fields_fit, fields)), le-leb (length h.lists.columns) (length c₀ / column_width) (omega (arith, g.columns_fit, columns)), le-leb (length h.lists.aliases) (length a₀ / alias_width) (omega (arith, g.aliases_fit, aliases))) refl in
          let (answers, _, _, _) = roomy_call e f₀ f c₀ c a₀ a r h t.place t.reads room call in
          ap outcome_of answers ∙ (λ i. accepted_with (fields i ∷ columns i ∷ aliases i ∷ []));
    }

-- footers

-- an accepting call read a footer that has room
pub record FooterRead (e g : List ℕ) (file c m : ℕ) : Type 0 where
  pub footer : Footer
  pub is : footer_beside e g file ≡ read footer
  pub room : footerRoom c m footer ≡ true
  pub both : Both (λ _. footer_of (checksum_of e) file g) (header_of e) footer

pub footer_read_lem : (e g : List ℕ) (file c m : ℕ) → is_accepted (footerOutcome (footerAnswer c m (footer_beside e g file))) ≡ true → FooterRead e g file c m
unfolding beside_by_build footerAnswer
footer_read_lem e g file c m h = by (footer_beside e g file) refl h
  where
    roomy : (f : Footer) → footer_beside e g file ≡ read f → (b : Bool) → footerRoom c m f ≡ b
        → is_accepted (footerOutcome (pick b (Ok (record { clusters = length f.clusters; metadata = length f.metadata })) (Err (record { envelope = 2; number = 20 })))) ≡ true → FooterRead e g file c m
    roomy f is true room h =
        record { footer = f; is = is; room = room; both = both_read 2 (λ _. footer_of (checksum_of e) file g) (header_of e) f is }
    roomy f is false room h = clash h refl

    by : (y : Beside Footer) → footer_beside e g file ≡ y → is_accepted (footerOutcome (footerAnswer c m y)) ≡ true → FooterRead e g file c m
    by (read f) is h = roomy f is (footerRoom c m f) refl h
    by (refusal k f) is h = absurd (omega (arith, eqb-true k 0 h, beside_names 1 (λ _. footer_of (checksum_of e) file g) (header_of e) is))

footer_fits : (e g : List ℕ) (file : ℕ) (c₀ c m₀ m : List ℕ) (r : FooterAnswer) → Bytes e → Bytes g → AnsweredFooter (footer_beside e g file) c₀ c m₀ m r
    → is_accepted (footerOutcome r) ≡ true → FooterFits e g file (length c₀) (length m₀)
footer_fits e g file c₀ c m₀ m r bytes bytes' call accepts =
    let k = footer_read_lem e g file (length c₀) (length m₀) (sym (ap (λ (y : FooterAnswer). is_accepted (footerOutcome y)) call.answers) ∙ accepts) in
    let b = k.both in
    let foot = k.footer in
    let w = footer_exactly.sound (checksum_of e) file g foot b.stop bytes' b.inner in
    let said = said_by w.tree in
    let many : length foot.clusters ≡ length said.clusters = ap (λ (x : Footer). length x.clusters) w.means ∙ length-map said.clusters cluster_row in
    let many' : length foot.metadata ≡ length said.metadata = ap (λ (x : Footer). length x.metadata) w.means ∙ length-map said.metadata link_row in
    let (roomy, roomy') = both_true (leb (length foot.clusters) (length c₀ / cluster_width)) _ k.room in
    record {
      header = (written_header e b.header b.place bytes b.reads).0;
      tree = w.tree;
      right = w.right;
      bytes = w.bytes;
      small = omega (arith, w.small);
      clusters_fit = omega (arith, leb-true (length foot.clusters) (length c₀ / cluster_width) roomy, many);
      metadata_fit = omega (arith, leb-true (length foot.metadata) (length m₀ / link_width) roomy', many');
    }

pub footer_accepted : FooterAccepted
unfolding FooterAccepted beside_by_build footerAnswer
footer_accepted e g file c₀ c m₀ m r bytes bytes' call =
    record {
      only = footer_fits e g file c₀ c m₀ m r bytes bytes' call;
      always = λ f.
          let t = tree_read f.header in
          let said = said_by f.tree in
          let small : length (render_footer f.tree) ≤ ceiling = omega (arith, f.small, ap length f.bytes) in
          let (q, there) = footer_exactly.complete (checksum_of e) file f.tree f.right small in
          let reads : footer_of (checksum_of e) file g ≡ found (footer_tables said) q = ap (footer_of (checksum_of e) file) (sym f.bytes) ∙ there in
          let is = both_read_is 2 (λ _. footer_of (checksum_of e) file g) (header_of e) (footer_tables said) t.header t.place q t.reads reads in
          let many = length-map said.clusters cluster_row in
          let many' = length-map said.metadata link_row in
          let room : footerRoom (length c₀) (length m₀) (footer_tables said) ≡ true = rw (many, many', le-leb (length said.clusters) (length c₀ / cluster_width) f.clusters_fit, le-leb (length said.metadata) (length m₀ / link_width) f.metadata_fit) refl in
          let answers : r ≡ Ok (record { clusters = length (map cluster_row said.clusters); metadata = length (map link_row said.metadata) }) = call.answers ∙ ap (footerAnswer (length c₀) (length m₀)) is ∙ rw room refl in
          ap footerOutcome answers ∙ (λ i. accepted_with (many i ∷ many' i ∷ []));
    }

-- page lists

-- an accepting call read a page list that has room
pub record PagesRead (e l : List ℕ) (entries file n : ℕ) : Type 0 where
  pub pages : List (List PageRow)
  pub is : page_list_beside e l entries file ≡ read pages
  pub room : pagesRoom n pages ≡ true
  pub both : Both (λ h. page_list_of h entries file l) (header_of e) pages

pub pages_read_lem : (e l : List ℕ) (entries file n : ℕ) → is_accepted (pageListOutcome (pagesAnswer n (page_list_beside e l entries file))) ≡ true → PagesRead e l entries file n
unfolding page_list_beside pagesAnswer
pages_read_lem e l entries file n h = by (page_list_beside e l entries file) refl h
  where
    roomy : (pss : List (List PageRow)) → page_list_beside e l entries file ≡ read pss → (b : Bool) → pagesRoom n pss ≡ b
        → is_accepted (pageListOutcome (pick b (Ok (pages_of pss)) (Err (record { envelope = 3; number = 20 })))) ≡ true → PagesRead e l entries file n
    roomy pss is true room h =
        record { pages = pss; is = is; room = room; both = both_read 3 (λ h. page_list_of h entries file l) (header_of e) pss is }
    roomy pss is false room h = clash h refl

    by : (y : Beside (List (List PageRow))) → page_list_beside e l entries file ≡ y → is_accepted (pageListOutcome (pagesAnswer n y)) ≡ true → PagesRead e l entries file n
    by (read pss) is h = roomy pss is (pagesRoom n pss) refl h
    by (refusal k f) is h = absurd (omega (arith, eqb-true k 0 h, beside_names 2 (λ h. page_list_of h entries file l) (header_of e) is))

-- totals look only at numbers

parents_in_lem : (s : List ℕ) (rows : List FieldRow) → parents_of rows ≡ map (λ (c : FieldContent). c.head.parent.0) (map (field_content s) rows)
parents_in_lem s [] = refl
parents_in_lem s (r ∷ rows) = ap (λ (l : List ℕ). r.head.parent.0 ∷ l) (parents_in_lem s rows)

flags_in_lem : (s : List ℕ) (rows : List FieldRow) → flags_of rows ≡ map (λ (c : FieldContent). c.head.flags) (map (field_content s) rows)
flags_in_lem s [] = refl
flags_in_lem s (r ∷ rows) = ap (λ (l : List ℕ). r.head.flags ∷ l) (flags_in_lem s rows)

-- totals by what a header says
pub totals_by : (e : List ℕ) (h : Header) (t : HeaderContent) → header_content e h ≡ t → (entries : ℕ) (pss : List (List PageRow))
    → totals_of entries h.lists pss ≡ totals_in entries pss t
unfolding header_content
totals_by e h t same entries pss =
    (λ j. totals entries h.lists.columns (map elements_of pss) 0 (parents_in_lem e h.lists.fields j) (flags_in_lem e h.lists.fields j))
    ∙ ap (totals_in entries pss) same

totals_agree : (e : List ℕ) (h : Header) (t : HeaderContent) → header_content e h ≡ t → (entries : ℕ) {pss pss' : List (List PageRow)} → pss ≡ pss'
    → totals_of entries h.lists pss ≡ None → totals_in entries pss' t ≡ None
totals_agree e h t same entries {pss} rows total = rw (← rows) (sym (totals_by e h t same entries pss) ∙ total)

columns_of : (e : List ℕ) (h : Header) (t : HeaderContent) → header_content e h ≡ t → h.lists.columns ≡ t.columns
unfolding header_content
columns_of e h t same = ap (λ (c : HeaderContent). c.columns) same

page_list_fits : (e l : List ℕ) (entries file : ℕ) (p₀ p : List ℕ) (r : PageListAnswer) → Bytes e → Bytes l → AnsweredPages (page_list_beside e l entries file) p₀ p r
    → is_accepted (pageListOutcome r) ≡ true → PageListFits e l entries file (length p₀)
page_list_fits e l entries file p₀ p r bytes bytes' call accepts =
    let k = pages_read_lem e l entries file (length p₀) (sym (ap (λ (y : PageListAnswer). is_accepted (pageListOutcome y)) call.answers) ∙ accepts) in
    let b = k.both in
    let pages = k.pages in
    let h = b.header in
    let (header, means) = written_header e h b.place bytes b.reads in
    let (w, total) = page_list_exactly.sound h entries file l pages b.stop bytes' b.inner in
    let columns = columns_of e h (tables_of header.tree) means in
    let said = page_list_carrier.content w.tree.inside in
    let many : pages_of pages ≡ pages_in said = ap pages_of w.means ∙ rows_pages 0 said in
    record {
      header = header;
      tree = w.tree;
      right = subst (λ (cs : List ColumnRow). RightPageList file (bits_of cs) w.tree) columns w.right;
      bytes = w.bytes;
      small = w.small;
      agree = totals_agree e h (tables_of header.tree) means entries w.means total;
      pages_fit = omega (arith, leb-true (pages_of pages) (length p₀ / page_width) k.room, many);
    }

pub page_list_accepted : PageListAccepted
unfolding PageListAccepted page_list_beside pagesAnswer
page_list_accepted e l entries file p₀ p r bytes bytes' call =
    record {
      only = page_list_fits e l entries file p₀ p r bytes bytes' call;
      always = λ g.
          let t = tree_read g.header in
          let h = t.header in
          let columns = columns_of e h (tables_of g.header.tree) t.means in
          let said = page_list_carrier.content g.tree.inside in
          let right = subst (λ (cs : List ColumnRow). RightPageList file (bits_of cs) g.tree) (sym columns) g.right in
          let small : length (render_page_list g.tree) ≤ ceiling = rw g.bytes g.small in
          let total = totals_by e h (tables_of g.header.tree) t.means entries (page_rows 0 said) ∙ g.agree in
          let (q, there) = page_list_exactly.complete h entries file g.tree right small total in
          let reads : page_list_of h entries file l ≡ found (page_rows 0 said) q = ap (page_list_of h entries file) (sym g.bytes) ∙ there in
          let is = both_read_is 3 (λ x. page_list_of x entries file l) (header_of e) (page_rows 0 said) h t.place q t.reads reads in
          let many = rows_pages 0 said in
          let room : pagesRoom (length p₀) (page_rows 0 said) ≡ true = rw (many, le-leb (pages_in said) (length p₀ / page_width) g.pages_fit) refl in
          let answers : r ≡ Ok (pages_of (page_rows 0 said)) = call.answers ∙ ap (pagesAnswer (length p₀)) is ∙ rw room refl in
          ap pageListOutcome answers ∙ (λ i. accepted_with (many i ∷ []));
    }
