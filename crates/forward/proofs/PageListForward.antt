-- Demand 3 for the page-list reader, and for a report over page lists.
use Prim.Native.Nat.{ℕ, ◌≤◌}
use mathlib.Core.List.{List, map}
use mathlib.Core.Path.{◌≡◌, refl, sym, ap, ◌∙◌, subst}
use lib.ListN.{length}
use Rattle.wire.specs.Reading.{found}
use Rattle.outcome.specs.Outcome.{is_accepted}
use Rattle.envelope.specs.Envelope.{ceiling, envelope}
use Rattle.header.specs.Header.{Header}
use Rattle.header.specs.Tables.{header_of}
use Rattle.header.specs.Beside.{Beside, read}
use Rattle.rows.specs.declared.ColumnRow.{ColumnRow}
use Rattle.column_pages.specs.ColumnPages.{bits_of, payload}
use Rattle.std.specs.Prelude.{None}
use Rattle.page_list.specs.PageList.{totals_of, summed, page_list_of}
use Rattle.page_list.specs.Tables.{page_list_beside, answer, outcome_of, written}
use Rattle.rows.specs.declared.PageRow.{PageRow}
use Rattle.page_list.specs.Answer.{PageListAnswer}
use Rattle.figure_rules.specs.Report.{reported}
use Rattle.tree.specs.Bytes.{Bytes}
use Rattle.tree.specs.EnvelopeTree.{unsummed}
use Rattle.tree.specs.HeaderTree.{HeaderContent, HeaderTree, header_content, render_header, tables_of}
use Rattle.tree.specs.PageListTree.{PageContent, PageListPayload, page_list_carrier, page_list_shape, page_rows, PageListTree, render_page_list}
use Rattle.tree.proofs.PageListLaws.{summed_found, page_list_render, page_list_complete, page_list_sound, page_list_known}
use Rattle.tree.proofs.HeaderLaws.{tables_known}
use Rattle.tree.proofs.TreeUnique.{page_list_unique}
use Rattle.forward.specs.Extension.{GrownList, GrownFrame}
use Rattle.forward.specs.HeaderForward.{ChosenHeader, TheHeader}
use Rattle.forward.specs.ReadersForward.{ChosenPageList, ThePageList, PageListForward}
use Rattle.forward.specs.ReportForward.{ReportForward}
use Rattle.forward.proofs.Extending.{grown_each, grown_right}
use Rattle.forward.proofs.HeaderForward.{the_header, still_read}
use Rattle.header.proofs.Besides.{both_read, both_read_is}
use Rattle.tree.proofs.Accepted.{pages_read_lem, totals_by}

grown_page_list : (old new : PageListPayload) → GrownList GrownFrame old new → page_list_carrier.content old ≡ page_list_carrier.content new
grown_page_list old new g = grown_each (map (λ (p : PageContent). p)) old.inside new.inside g.inside

-- totals look only at numbers
totals_tables : (e e' : List ℕ) (h h' : Header) (entries : ℕ) (pss : List (List PageRow)) → header_content e' h' ≡ header_content e h
    → totals_of entries h'.lists pss ≡ totals_of entries h.lists pss
totals_tables e e' h h' entries pss same = totals_by e' h' _ same entries pss ∙ sym (totals_by e h _ refl entries pss)

same_columns : (e e' : List ℕ) (h h' : Header) → header_content e' h' ≡ header_content e h → h'.lists.columns ≡ h.lists.columns
unfolding header_content
same_columns e e' h h' same = ap (λ (c : HeaderContent). c.columns) same

-- the tree of an envelope that lists pages
the_page_list : (file : ℕ) (bits l : List ℕ) (pages : List (List PageRow)) (p : ℕ) → Bytes l → envelope 1 (payload file bits) l ≡ found pages p
    → ThePageList file bits l
the_page_list file bits l pages p bytes reads =
    let w = page_list_sound file bits l pages p bytes reads in
    record {
      tree = w.tree;
      right = w.right;
      bytes = w.bytes;
      only = λ t right is.
          page_list_unique file bits t w.tree (rw (page_list_render file bits t, is) w.small) right w.right (page_list_render file bits t ∙ is ∙ sym w.bytes ∙ sym (page_list_render file bits w.tree));
    }

-- a page list that is kept or extended is read, and says the same
still_listed : (file : ℕ) (bits l : List ℕ) (pages : List (List PageRow)) (p : ℕ) → envelope 1 (payload file bits) l ≡ found pages p
    → (the : ThePageList file bits l) (u : PageListTree) → ChosenPageList the.tree u → length (render_page_list u) ≤ ceiling
    → envelope 1 (payload file bits) (render_page_list u) ≡ found pages (length (unsummed (λ _. page_list_shape file bits) u))
still_listed file bits l pages p reads the u ch small =
    let known = page_list_known file bits the.tree the.right l the.bytes pages p reads in
    let (right, same) = grown_right 1 page_list_carrier (λ _. page_list_shape file bits) (GrownList GrownFrame) grown_page_list (λ _ _ c v. v) the.tree u the.right ch in
    page_list_complete file bits u right small ∙ ap (λ (x : List (List PageRow)). found x (length (unsummed (λ _. page_list_shape file bits) u))) (sym (ap (page_rows 0) same) ∙ sym known)

-- beside a header with the same tables
listed_beside : (e e' : List ℕ) (h h' : Header) (entries file : ℕ) (l : List ℕ) (pages : List (List PageRow)) (p : ℕ) → header_content e' h' ≡ header_content e h
    → totals_of entries h.lists pages ≡ None → envelope 1 (payload file (bits_of h.lists.columns)) l ≡ found pages p
    → page_list_of h' entries file l ≡ found pages p
unfolding page_list_of summed
listed_beside e e' h h' entries file l pages p same total reads =
    let columns = same_columns e e' h h' same in
    let reads' : envelope 1 (payload file (bits_of h'.lists.columns)) l ≡ found pages p = ap (λ (c : List ColumnRow). envelope 1 (payload file (bits_of c)) l) columns ∙ reads in
    let total' : totals_of entries h'.lists pages ≡ None = totals_tables e e' h h' entries pages same ∙ total in
    ap (summed entries h'.lists) reads' ∙ rw total' refl

-- extensions of a header and a page list that were read beside each other read the same
pub record SamePages (e l : List ℕ) (entries file : ℕ) : Type 0 where
  pub header : TheHeader e
  pub page_list : ThePageList file (bits_of (tables_of header.tree).columns) l
  pub same : (t : HeaderTree) (u : PageListTree) → ChosenHeader header.tree t → ChosenPageList page_list.tree u
      → length (render_header t) ≤ ceiling → length (render_page_list u) ≤ ceiling
      → page_list_beside (render_header t) (render_page_list u) entries file ≡ page_list_beside e l entries file

pub same_pages : (e l : List ℕ) (entries file : ℕ) (pages : List (List PageRow)) → Bytes e → Bytes l → page_list_beside e l entries file ≡ read pages → SamePages e l entries file
unfolding page_list_beside page_list_of header_content
same_pages e l entries file pages bytes bytes' is =
    let b = both_read 3 (λ h. page_list_of h entries file l) (header_of e) pages is in
    let h = b.header in
    let header = the_header e h b.place bytes b.reads in
    let columns : h.lists.columns ≡ (tables_of header.tree).columns = ap (λ (c : HeaderContent). c.columns) (tables_known header.tree header.right e h b.place header.bytes b.reads) in
    let (inner, total) = summed_found entries h.lists (envelope 1 (payload file (bits_of h.lists.columns)) l) pages b.stop b.inner in
    let list = the_page_list file (bits_of h.lists.columns) l pages b.stop bytes' inner in
    record {
      header = header;
      page_list = subst (λ (c : List ColumnRow). ThePageList file (bits_of c) l) columns list;
      same = λ t u ch ch' small small'.
          let e' = render_header t in
          let l' = render_page_list u in
          let still = still_read e h b.place b.reads header t ch small in
          let inner' = ap (λ (c : List ColumnRow). envelope 1 (payload file (bits_of c)) l) (sym columns) ∙ inner in
          let again = still_listed file (bits_of (tables_of header.tree).columns) l pages b.stop inner' (subst (λ (c : List ColumnRow). ThePageList file (bits_of c) l) columns list) u ch' small' in
          let n = length (unsummed (λ _. page_list_shape file (bits_of (tables_of header.tree).columns)) u) in
          let listed : page_list_of still.header entries file l' ≡ found pages n = listed_beside e e' h still.header entries file l' pages n still.contents total (ap (λ (c : List ColumnRow). envelope 1 (payload file (bits_of c)) l') columns ∙ again) in
          both_read_is 3 (λ x. page_list_of x entries file l') (header_of e') pages still.header still.place n still.reads listed ∙ sym is;
    }

-- demand 3 for the page-list reader
pub page_list_forward : PageListForward
page_list_forward e l entries file p₀ p count bytes bytes' call =
    let k = pages_read_lem e l entries file (length p₀) (sym (ap (λ (y : PageListAnswer). is_accepted (outcome_of y)) call.answers)) in
    let s = same_pages e l entries file k.pages bytes bytes' k.is in
    record {
      header = s.header;
      page_list = s.page_list;
      forward = λ t u ch ch' small small' p' r' call'.
          let same = s.same t u ch ch' small small' in
          (call'.answers ∙ ap (answer (length p₀)) same ∙ sym call.answers, call'.pages_are ∙ ap (written (length p₀) p₀) same ∙ sym call.pages_are);
    }

-- and for a report, in which only what was read counts
pub report_forward : ReportForward
report_forward e l entries file pages bytes bytes' is =
    let s = same_pages e l entries file pages bytes bytes' is in
    record {
      header = s.header;
      page_list = s.page_list;
      forward = λ t u ch ch' small small' counts old. ap (λ (x : Beside (List (List PageRow))). reported x counts old) (s.same t u ch ch' small small');
    }
