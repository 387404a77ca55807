-- Demand 3 applied to calls for the examples, in all its parts: its hypotheses can be met, and the calls that it speaks of are there. The part for
-- the call that lists fields is in AppliedListing.
use Prim.Native.Nat.{ℕ}
use mathlib.Core.List.{List, [], ◌∷◌, ◌++◌}
use mathlib.Core.Path.{◌≡◌, refl, sym, subst}
use native.Mathlib.Omega.{arith}
use lib.ListN.{replicate}
use Rattle.numbers.specs.Choice.{pick}
use Rattle.numbers.specs.Numbers.{little}
use Rattle.numbers.specs.Rows.{flat, flat_by}
use Rattle.checksum.specs.Crc.{shifted, bits, byte, fold, crc32}
use Rattle.utf8.specs.WellFormed.{due, goes_on, well_formed}
use Rattle.envelope.specs.Envelope.{checksum_of}
use Rattle.column_type.specs.Types.{known, width_of, widths}
use Rattle.rows.specs.declared.PageRow.{PageRow}
use Rattle.rows.specs.Words.{no_checksum, field_words, column_words, alias_words}
use Rattle.parents.specs.Parents.{meets, all_reach}
use Rattle.parents.specs.Dark.{dark}
use Rattle.header.specs.Tables.{header_of, answer, written, Answered}
use Rattle.header.specs.declared.HeaderTables.{HeaderTables}
use Rattle.header.specs.Beside.{Beside}
use Rattle.chain_moves.specs.Moves.{moves, total_moves, all_moves}
use Rattle.moves.specs.Moves.{answer as moves-answer, Answered as AnsweredMoves}
use Rattle.moves.specs.Answer.{MovesAnswer}
use Rattle.footer.specs.Tables.{footer_beside, answer as footer-answer, written as footer_written, Answered as AnsweredFooter}
use Rattle.footer.specs.Answer.{FooterAnswer}
use Rattle.column_pages.specs.ColumnPages.{bits_of, pages_of}
use Rattle.page_list.specs.Tables.{page_list_beside, answer as pages-answer, written as pages-written, Answered as AnsweredPages}
use Rattle.page_list.specs.Answer.{PageListAnswer}
use Rattle.pairing.specs.Paired.{paired_beside}
use Rattle.pairing.proofs.Pairs.{pairs}
use Rattle.tree.specs.Bytes.{spelled, Bytes}
use Rattle.tree.specs.EnvelopeTree.{unsummed, sealed}
use Rattle.tree.specs.HeaderTree.{feature_words, texts_shape, lists_shape, payload_shape, head_shape, strings_shape, field_shape, column_shape, alias_shape, HeaderTree, render_header, tables_of, RightHeader}
use Rattle.tree.specs.FooterTree.{footer_shape, cluster_shape, link_shape, FooterTree, render_footer, RightFooter}
use Rattle.tree.specs.PageListTree.{page_list_shape, pages_shape, page_shape, PageListTree, render_page_list, RightPageList}
use Rattle.tree.proofs.Place.{bytes_tested}
use Rattle.forward_examples.specs.Example.{texts_at, plain_header, newer_header, appended_fields, appended_columns, appended_header, list_checksum, plain_footer, newer_footer, plain_page_list, newer_page_list, plain_read}
use Rattle.forward.specs.SameTables.{SameAnswer}
use Rattle.forward.specs.HeaderForward.{HeaderKept, TheHeader, ChosenHeader}
use Rattle.forward.specs.HeaderAppend.{appended, Appendix, KeepsRows, Appends, AppendKept}
use Rattle.forward.specs.ReadersForward.{raised, with_checksums, FooterKept, ChosenFooter, ThePageList, PageListKept, ChosenPageList}
use Rattle.forward.specs.PairingForward.{put_right, PairingKept}
use Rattle.forward.specs.MovesForward.{MovesKept}
use Rattle.forward.proofs.Demand3.{demand_3}
use Rattle.forward_examples.proofs.Extensible.{extensible, appendable}
use Rattle.std.specs.Prelude.{Ok}

-- the trees of the plain envelopes keep the rules

plain_right : RightHeader plain_header
unfolding payload_shape texts_shape lists_shape field_shape head_shape strings_shape column_shape alias_shape well_formed goes_on due known width_of widths all_reach meets
plain_right =
    record {
      envelope = record {
        version_fits = omega arith;
        least = omega arith;
        order = omega arith;
        read = omega arith;
        valid = (
          (tt, (refl, (refl, tt))),
          (
            (
              (
                omega arith,
                refl,
                (
                  (((omega arith, refl), ((omega arith, refl), ((omega arith, refl), ((omega arith, refl), ((omega arith, refl), (refl, tt)))))), ((refl, (refl, (refl, (refl, tt)))), tt)),
                  ((((omega arith, refl), ((omega arith, refl), ((omega arith, refl), ((omega arith, refl), ((omega arith, refl), (refl, tt)))))), ((refl, (refl, (refl, (refl, tt)))), tt)), tt),
                ),
              ),
              (
                (
                  omega arith,
                  refl,
                  (
                    ((omega arith, refl), ((omega arith, refl), ((omega arith, refl), ((omega arith, refl), tt)))),
                    (((omega arith, refl), ((omega arith, refl), ((omega arith, refl), ((omega arith, refl), tt)))), tt),
                  ),
                ),
                ((omega arith, refl, (((omega arith, refl), ((omega arith, refl), tt)), tt)), tt),
              ),
            ),
            tt,
          ),
        );
        plain = λ _. ((tt, (((((tt, refl), ((tt, refl), tt)), refl), ((((tt, refl), ((tt, refl), tt)), refl), ((((tt, refl), tt), refl), tt))), tt)), refl);
      };
      small = omega (arith, extensible.header_bytes);
      chains = refl;
    }

plain_footer_right : RightFooter (checksum_of (render_header plain_header)) 140 plain_footer
unfolding footer_shape cluster_shape link_shape
plain_footer_right =
    record {
      version_fits = omega arith;
      least = omega arith;
      order = omega arith;
      read = omega arith;
      valid = (tt, ((omega arith, rw extensible.header_sum refl), ((omega arith, refl, tt), ((omega arith, refl, tt), ((omega arith, refl, (((omega arith, refl), ((omega arith, refl), (((omega arith, refl), ((omega arith, refl), ((omega arith, refl), tt))), (refl, tt)))), tt)), ((omega arith, refl, (((omega arith, refl), ((omega arith, refl), ((omega arith, refl), tt))), tt)), tt))))));
      plain = λ _. ((tt, (tt, ((tt, refl), ((tt, refl), ((((tt, refl), tt), refl), (((tt, tt), refl), tt)))))), refl);
    }

plain_page_list_right : RightPageList 80 (bits_of (tables_of plain_header).columns) plain_page_list
unfolding page_list_shape pages_shape page_shape
plain_page_list_right =
    record {
      version_fits = omega arith;
      least = omega arith;
      order = omega arith;
      read = omega arith;
      valid = (omega arith, refl, ((omega arith, refl, (((omega arith, refl), ((omega arith, refl), ((omega arith, refl), tt))), tt)), ((omega arith, refl, (((omega arith, refl), ((omega arith, refl), ((omega arith, refl), tt))), tt)), tt)));
      plain = λ _. (((((tt, tt), refl), (((tt, tt), refl), tt)), refl), refl);
    }

-- their bytes

pub plain_bytes : Bytes (render_header plain_header)
unfolding sealed unsummed payload_shape texts_shape lists_shape feature_words spelled field_shape head_shape strings_shape column_shape alias_shape crc32 fold byte bits shifted
plain_bytes = bytes_tested (render_header plain_header) refl

plain_footer_bytes : Bytes (render_footer plain_footer)
unfolding sealed unsummed feature_words spelled footer_shape cluster_shape link_shape crc32 fold byte bits shifted
plain_footer_bytes = bytes_tested (render_footer plain_footer) refl

plain_page_list_bytes : Bytes (render_page_list plain_page_list)
unfolding sealed unsummed page_list_shape pages_shape page_shape spelled crc32 fold byte bits shifted
plain_page_list_bytes = bytes_tested (render_page_list plain_page_list) refl

-- Calls of the header reader: the tables that are lent, and what the calls leave in them. A word more than the rows stays.

abbrev lent_fields : List ℕ
lent_fields = replicate 31 9

-- the row of such a field whose record stands at a place
abbrev field_row_lem : ℕ → ℕ → ℕ → ℕ → List ℕ
field_row_lem p parent flags mark =
    let t = texts_at p in
    1 ∷ 2 ∷ parent ∷ 0 ∷ flags ∷ 0 ∷ t.name.place ∷ 1 ∷ t.type_name.place ∷ 0 ∷ t.type_alias.place ∷ 0 ∷ t.description.place ∷ 0 ∷ mark ∷ []

-- both fields are dark: the column of an unknown type hangs on the second, below the first
abbrev left_fields : ℕ → List ℕ
left_fields p = field_row_lem 30 0 0 1 ++ field_row_lem p 0 2 1 ++ (9 ∷ [])

abbrev lent_columns : List ℕ
lent_columns = replicate 9 9

abbrev left_columns : List ℕ
left_columns = 1 ∷ 64 ∷ 0 ∷ 0 ∷ 99 ∷ 5 ∷ 1 ∷ 0 ∷ 9 ∷ []

abbrev lent_aliases : List ℕ
lent_aliases = replicate 3 9

abbrev left_aliases : List ℕ
left_aliases = 0 ∷ 1 ∷ 9 ∷ []

-- the answer in so many fields and columns
abbrev counted : ℕ → ℕ → HeaderTables
counted fields columns = record { texts = plain_read.texts; fields = fields; columns = columns; aliases = 1 }

plain_call : Answered (header_of (render_header plain_header)) lent_fields (left_fields 67) lent_columns left_columns lent_aliases left_aliases (Ok (counted 2 2))
unfolding answer written field_words column_words alias_words flat flat_by dark known meets
plain_call = rw extensible.header_reads (record { answers = refl; reports = refl; reports_texts = refl; fields_are = refl; columns_are = refl; aliases_are = refl })

pub newer_call : Answered (header_of (render_header newer_header)) lent_fields (left_fields 69) lent_columns left_columns lent_aliases left_aliases (Ok (counted 2 2))
unfolding answer written field_words column_words alias_words flat flat_by dark known meets
newer_call = rw extensible.newer_header_reads (record { answers = refl; reports = refl; reports_texts = refl; fields_are = refl; columns_are = refl; aliases_are = refl })

-- the call for the header with more rows has tables of its own, with room for them

abbrev more_fields_lem : List ℕ
more_fields_lem = field_row_lem 30 0 0 1 ++ field_row_lem 67 0 2 1 ++ field_row_lem 104 2 0 0 ++ (5 ∷ 5 ∷ [])

abbrev more_columns_lem : List ℕ
more_columns_lem = 1 ∷ 64 ∷ 0 ∷ 0 ∷ 99 ∷ 5 ∷ 1 ∷ 0 ∷ 1 ∷ 64 ∷ 2 ∷ 0 ∷ []

pub appended_call : Answered (header_of (render_header appended_header)) (replicate 47 5) more_fields_lem (replicate 12 5) more_columns_lem (replicate 2 5) (0 ∷ 1 ∷ []) (Ok (counted 3 3))
unfolding answer written field_words column_words alias_words flat flat_by dark known meets
appended_call = rw appendable.appended_reads (record { answers = refl; reports = refl; reports_texts = refl; fields_are = refl; columns_are = refl; aliases_are = refl })

-- the header that these calls speak of is the example, which may be extended

pub the_plain : (h : TheHeader (render_header plain_header)) → plain_header ≡ h.tree
the_plain h = h.only plain_header plain_right refl

pub chosen_header : (h : TheHeader (render_header plain_header)) → ChosenHeader h.tree newer_header
chosen_header h = subst (λ (t : HeaderTree). ChosenHeader t newer_header) (the_plain h) extensible.header

-- added bytes: the newer header's call leaves tables that say the same

header_kept : HeaderKept (render_header plain_header) lent_fields (left_fields 67) lent_columns left_columns lent_aliases left_aliases (counted 2 2)
header_kept = demand_3.header (render_header plain_header) lent_fields (left_fields 67) lent_columns left_columns lent_aliases left_aliases (counted 2 2) plain_bytes plain_call

pub newer_kept : SameAnswer (render_header plain_header) (left_fields 67) left_columns left_aliases (counted 2 2) (render_header newer_header) (left_fields 69) left_columns left_aliases (Ok (counted 2 2))
newer_kept =
    header_kept.forward newer_header (chosen_header header_kept.header) (omega (arith, extensible.newer_header_bytes)) (left_fields 69) left_columns left_aliases (Ok (counted 2 2)) newer_call

-- an appended field with its column: the call keeps the earlier rows

append_kept : AppendKept (render_header plain_header) (left_fields 67) left_columns left_aliases (counted 2 2)
append_kept = demand_3.append (render_header plain_header) lent_fields (left_fields 67) lent_columns left_columns lent_aliases left_aliases (counted 2 2) plain_bytes plain_call

pub appended_kept : KeepsRows (render_header plain_header) (left_fields 67) left_columns left_aliases (counted 2 2) 1 1 (render_header appended_header) more_fields_lem more_columns_lem (0 ∷ 1 ∷ []) (Ok (counted 3 3))
appended_kept =
    let appends = subst (λ (t : HeaderTree). Appends (render_header plain_header) (left_fields 67) left_columns left_aliases (counted 2 2) t) (sym (the_plain append_kept.header)) append_kept.append in
    appends appended_fields appended_columns appendable.appendix (replicate 47 5) _ (replicate 12 5) _ (replicate 2 5) _ (Ok (counted 3 3)) (omega arith) (omega arith) (omega arith) appended_call

-- the moves: "b" is one below "a", and a call for any of the three headers counts this one

plain_moves_call : AnsweredMoves (header_of (render_header plain_header)) (Ok 1)
unfolding moves-answer all_moves total_moves moves
plain_moves_call = rw extensible.header_reads (record { answers = refl; reports = refl })

pub newer_moves_call : AnsweredMoves (header_of (render_header newer_header)) (Ok 1)
unfolding moves-answer all_moves total_moves moves
newer_moves_call = rw extensible.newer_header_reads (record { answers = refl; reports = refl })

pub appended_moves_call : AnsweredMoves (header_of (render_header appended_header)) (Ok 1)
unfolding moves-answer all_moves total_moves moves
appended_moves_call = rw appendable.appended_reads (record { answers = refl; reports = refl })

moves_kept : MovesKept (render_header plain_header) 1
moves_kept = demand_3.moves (render_header plain_header) 1 plain_bytes plain_moves_call

pub newer_moves_kept : (r : MovesAnswer) → AnsweredMoves (header_of (render_header newer_header)) r → r ≡ Ok 1
newer_moves_kept = moves_kept.forward newer_header (chosen_header moves_kept.header) (omega (arith, extensible.newer_header_bytes))

pub appended_moves_kept : (r : MovesAnswer) → AnsweredMoves (header_of (render_header appended_header)) r → r ≡ Ok 1
appended_moves_kept =
    let appends = subst (λ (t : HeaderTree). Appendix t appended_fields appended_columns → (r : MovesAnswer) → AnsweredMoves (header_of (render_header (appended t appended_fields appended_columns))) r → r ≡ Ok 1) (sym (the_plain moves_kept.header)) (moves_kept.append appended_fields appended_columns) in
    appends appendable.appendix

-- footers: there is a call for the newer header and the newer footer, and each gives the same answer and leaves the same tables, but for the checksum
-- that the footer got

abbrev lent_clusters : List ℕ
lent_clusters = replicate 6 9

abbrev left_clusters : ℕ → List ℕ
left_clusters checksum = 0 ∷ 3 ∷ 40 ∷ 100 ∷ checksum ∷ 9 ∷ []

abbrev lent_links : List ℕ
lent_links = replicate 3 9

abbrev left_links : List ℕ
left_links = 7 ∷ 0 ∷ 9 ∷ []

plain_footer_call : AnsweredFooter (footer_beside (render_header plain_header) (render_footer plain_footer) 140) lent_clusters (left_clusters no_checksum) lent_links left_links (Ok (record { clusters = 1; metadata = 1 }))
unfolding footer-answer footer_written flat
plain_footer_call = rw extensible.footer_reads (record { answers = refl; reports = refl; clusters_are = refl; metadata_are = refl })

pub newer_footer_call : AnsweredFooter (footer_beside (render_header newer_header) (render_footer newer_footer) 140) lent_clusters (left_clusters list_checksum) lent_links left_links (Ok (record { clusters = 1; metadata = 1 }))
unfolding footer-answer footer_written flat
newer_footer_call = rw extensible.newer_footer_reads (record { answers = refl; reports = refl; clusters_are = refl; metadata_are = refl })

footer_kept : FooterKept (render_header plain_header) (render_footer plain_footer) 140 lent_clusters (left_clusters no_checksum) lent_links left_links (Ok (record { clusters = 1; metadata = 1 }))
footer_kept =
    demand_3.footer (render_header plain_header) (render_footer plain_footer) 140 lent_clusters (left_clusters no_checksum) lent_links left_links 1 1 plain_bytes plain_footer_bytes plain_footer_call

pub newer_footer_kept : (c m : List ℕ) (r : FooterAnswer) → AnsweredFooter (footer_beside (render_header newer_header) (render_footer newer_footer) 140) lent_clusters c lent_links m r
    → (r ≡ Ok (record { clusters = 1; metadata = 1 })) × (c ≡ left_clusters list_checksum) × (m ≡ left_links)
unfolding with_checksums
newer_footer_kept c m r call =
    let tree = footer_kept.footer.only plain_footer plain_footer_right refl in
    let chosen = subst (λ (u : FooterTree). ChosenFooter (checksum_of (render_header newer_header)) u newer_footer) tree extensible.footer in
    let (answers, clusters, links) = footer_kept.forward newer_header newer_footer (chosen_header footer_kept.header) chosen (omega (arith, extensible.newer_header_bytes)) (omega (arith, extensible.newer_footer_bytes)) c m r call in
    let old = left_clusters no_checksum in
    (answers, subst (λ (u : FooterTree). c ≡ pick (raised u.version 2) (with_checksums (list_checksum ∷ []) old) old) (sym tree) clusters, links)

-- page lists: the same

abbrev lent_pages : List ℕ
lent_pages = replicate 11 9

abbrev left_pages : List ℕ
left_pages = 0 ∷ 3 ∷ 0 ∷ 24 ∷ 50 ∷ 1 ∷ 3 ∷ 1 ∷ 2 ∷ 74 ∷ 9 ∷ []

plain_page_list_call : AnsweredPages (page_list_beside (render_header plain_header) (render_page_list plain_page_list) 3 80) lent_pages left_pages (Ok 2)
unfolding pages-answer pages-written flat pages_of
plain_page_list_call = rw extensible.page_list_reads (record { answers = refl; reports = refl; pages_are = refl })

pub newer_page_list_call : AnsweredPages (page_list_beside (render_header newer_header) (render_page_list newer_page_list) 3 80) lent_pages left_pages (Ok 2)
unfolding pages-answer pages-written flat pages_of
newer_page_list_call = rw extensible.newer_page_list_reads (record { answers = refl; reports = refl; pages_are = refl })

page_list_kept : PageListKept (render_header plain_header) (render_page_list plain_page_list) 3 80 lent_pages left_pages (Ok 2)
page_list_kept =
    demand_3.page_list (render_header plain_header) (render_page_list plain_page_list) 3 80 lent_pages left_pages 2 plain_bytes plain_page_list_bytes plain_page_list_call

-- the page list that these calls speak of is the example, which may be extended
chosen_list : (h : TheHeader (render_header plain_header)) (l : ThePageList 80 (bits_of (tables_of h.tree).columns) (render_page_list plain_page_list)) → ChosenPageList l.tree newer_page_list
chosen_list h l =
    let right = subst (λ (t : HeaderTree). RightPageList 80 (bits_of (tables_of t).columns) plain_page_list) (the_plain h) plain_page_list_right in
    subst (λ (u : PageListTree). ChosenPageList u newer_page_list) (l.only plain_page_list right refl) extensible.page_list

pub newer_page_list_kept : (p : List ℕ) (r : PageListAnswer) → AnsweredPages (page_list_beside (render_header newer_header) (render_page_list newer_page_list) 3 80) lent_pages p r
    → (r ≡ Ok 2) × (p ≡ left_pages)
newer_page_list_kept =
    page_list_kept.forward newer_header newer_page_list (chosen_header page_list_kept.header) (chosen_list page_list_kept.header page_list_kept.page_list) (omega (arith, extensible.newer_header_bytes)) (omega (arith, extensible.newer_page_list_bytes))

-- for a row: it has the checksum of the plain page list, and its copy is put right for the newer one

abbrev plain_checksum_lem : ℕ
plain_checksum_lem = checksum_of (render_page_list plain_page_list)

plain_pairing_call : AnsweredPages (paired_beside (render_header plain_header) (render_page_list plain_page_list) 3 plain_checksum_lem 80) lent_pages left_pages (Ok 2)
plain_pairing_call =
    let same = pairs.its (render_header plain_header) (render_page_list plain_page_list) 3 80 in
    subst (λ (x : Beside (List (List PageRow))). AnsweredPages x lent_pages left_pages (Ok 2)) (sym same) plain_page_list_call

pairing_kept : PairingKept (render_header plain_header) (render_page_list plain_page_list) 3 plain_checksum_lem 80 lent_pages left_pages (Ok 2)
pairing_kept =
    demand_3.pairing (render_header plain_header) (render_page_list plain_page_list) 3 plain_checksum_lem 80 lent_pages left_pages 2 plain_bytes plain_page_list_bytes plain_pairing_call

put_right_lem : put_right plain_checksum_lem (render_page_list newer_page_list) ≡ list_checksum
unfolding little sealed unsummed page_list_shape pages_shape page_shape spelled crc32 fold byte bits shifted
put_right_lem = refl

pub newer_pairing_kept : (p : List ℕ) (r : PageListAnswer) → AnsweredPages (paired_beside (render_header newer_header) (render_page_list newer_page_list) 3 list_checksum 80) lent_pages p r
    → (r ≡ Ok 2) × (p ≡ left_pages)
newer_pairing_kept p r call =
    let copied = subst (λ (n : ℕ). AnsweredPages (paired_beside (render_header newer_header) (render_page_list newer_page_list) 3 n 80) lent_pages p r) (sym put_right_lem) call in
    pairing_kept.forward newer_header newer_page_list (chosen_header pairing_kept.header) (chosen_list pairing_kept.header pairing_kept.page_list) (omega (arith, extensible.newer_header_bytes)) (omega (arith, extensible.newer_page_list_bytes)) p r copied
