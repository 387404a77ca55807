-- The numbers that each envelope can be refused with where it is to be written.
use Prim.Native.Nat.{ℕ, ◌+◌, ◌/◌, ◌%◌, ◌^◌}
use mathlib.Core.List.{List}
use mathlib.Core.Bool.{Bool, true, false}
use mathlib.Core.Path.{◌≡◌, refl}
use native.Mathlib.Omega.{arith}
use lib.Dec.{ltb, leb, eqb}
use borrow.Author.Tests.{ltb-true, eq-eqb}
use lib.ListN.{length, get_or}
use Rattle.numbers.specs.Choice.{pick, both}
use Rattle.numbers.specs.Numbers.{bytes_for, trailer}
use Rattle.wire.specs.Reading.{below, listed}
use Rattle.frames.specs.Frames.{at_most}
use Rattle.utf8.specs.WellFormed.{well_formed}
use Rattle.envelope.specs.Features.{feature_bits}
use Rattle.locator.specs.Locator.{stored_as, in_file}
use Rattle.records.specs.Records.{repetitive, sized, aliased, aliasable}
use Rattle.column_type.specs.Types.{known, width_of}
use Rattle.records.specs.declared.HeaderTexts.{HeaderTexts}
use Rattle.rows.specs.Words.{most_fields, most_columns, most_aliases, most_clusters, most_links, most_pages}
use Rattle.rows.specs.declared.Text.{Text}
use Rattle.rows.specs.declared.FieldRow.{FieldRow}
use Rattle.rows.specs.declared.ColumnRow.{ColumnRow}
use Rattle.rows.specs.declared.AliasRow.{AliasRow}
use Rattle.rows.specs.declared.Link.{Link}
use Rattle.rows.specs.declared.ClusterRow.{ClusterRow}
use Rattle.parents.specs.Parents.{all_reach}
use Rattle.header.specs.Header.{Header, flags_of}
use Rattle.header.specs.Tables.{parents_of}
use Rattle.clusters.specs.Clusters.{starts_at, entry_count, entries_of}
use Rattle.footer.specs.Footer.{Footer, names}
use Rattle.pages.specs.Pages.{running_total}
use Rattle.column_pages.specs.ColumnPages.{bits_of, per_column}
use Rattle.std.specs.Prelude.{Option, Some, None}
use Rattle.rows.specs.declared.FieldNumber.{FieldNumber}
use Rattle.page_list.specs.PageList.{totals_of}
use Rattle.tree.specs.Shape.{NoVerdict, chars}
use Rattle.tree.specs.Spelling.{footer_version}
use Rattle.refusals.specs.Refusals.{among}
use Rattle.writing.specs.Piece.{put, lies, text, nothing, pieces}
use Rattle.writing.specs.Rows.{HeaderRows}
use Rattle.writing.specs.Header.{repetition_piece, field_head_piece, field_texts_piece, field_piece, column_piece, alias_piece, texts_piece, lists_piece, payload_piece, chains, header_piece}
use Rattle.writing.specs.Footer.{link_piece, checksum_piece, cluster_piece, empty_piece, footer_payload_piece, carries_for, all_as_carried, footer_piece}
use Rattle.writing.specs.PageList.{page_word_piece, page_piece, by_column, in_column_order, pages_in, column_pages_item, page_list_payload_piece, pages_say, totals_number, page_list_piece}
use Rattle.writing.specs.declared.PageWords.{PageWords}
use Rattle.writer_refusals.specs.WriterRefusals.{to_write_header, to_write_footer, to_write_page_list}
use Rattle.writer_refusals.proofs.Giving.{Allowed, Gives, unless_allowed, test_allowed, nothing_gives, put_gives, and_gives, record_gives, list_gives, envelope_gives, last_gives, tested_gives}

-- headers

abbrev H : List ℕ
H = to_write_header

text_gives : (strings : List ℕ) (t : Text) → Gives H (text strings t)
unfolding text among
text_gives strings t = record { number = unless_allowed H (lies strings t) 7 _ refl (test_allowed H (well_formed (chars strings t)) 9 refl) }

-- a number with no verdict, and one with a verdict of one number

free_gives : {ns : List ℕ} (k bits n : ℕ) → Allowed ns 25 → Gives ns (put k bits NoVerdict n)
unfolding among
free_gives k bits n wide = put_gives k bits NoVerdict n wide (λ _. refl)

below_gives : (limit n : ℕ) → Gives H (put 4 32 (below limit) n)
unfolding among
below_gives limit n = put_gives 4 32 (below limit) n refl (λ _. test_allowed H (ltb n limit) 14 refl)

listed_gives : (k bits most n : ℕ) → Gives H (put k bits (listed most) n)
unfolding among
listed_gives k bits most n = put_gives k bits (listed most) n refl (λ _. test_allowed H (leb n most) 12 refl)

repetition_gives : (flags n : ℕ) → Gives H (repetition_piece flags n)
unfolding repetition_piece among
repetition_gives flags n = by (repetitive flags)
  where
    by : (b : Bool) → Gives H (pick b (put 8 64 NoVerdict n) nothing)
    by true = free_gives 8 64 n refl
    by false = nothing_gives

field_gives : (strings : List ℕ) (n : ℕ) (r : FieldRow) → Gives H (field_piece strings n r)
unfolding field_piece field_head_piece field_texts_piece among
field_gives strings n r =
    and_gives
    (and_gives (free_gives 4 32 _ refl) (and_gives (free_gives 4 32 _ refl) (and_gives (below_gives n _) (and_gives (listed_gives 2 16 4 _) (and_gives (listed_gives 2 16 3 _) (and_gives (repetition_gives _ _) nothing_gives))))))
    (and_gives
    (and_gives (text_gives strings _) (and_gives (text_gives strings _) (and_gives (text_gives strings _) (and_gives (text_gives strings _) nothing_gives))))
    nothing_gives)

column_gives : (n : ℕ) (c : ColumnRow) → Gives H (column_piece n c)
unfolding column_piece among
column_gives n c =
    let t = c.column_type in
    and_gives (free_gives 2 16 t refl)
    (and_gives (put_gives 2 16 (sized t) c.bits refl (λ _. test_allowed H (pick (known t) (eqb c.bits (width_of t)) true) 13 refl))
    (and_gives (below_gives n _) (and_gives (listed_gives 4 32 7 _) nothing_gives)))

alias_gives : (flags : List ℕ) (columns : ℕ) (a : AliasRow) → Gives H (alias_piece flags columns a)
unfolding alias_piece among
alias_gives flags columns a =
    let f = a.field.0 in
    and_gives (below_gives columns _) (and_gives (put_gives 4 32 (aliasable flags) f refl (λ _. test_allowed H (both (ltb f (length flags)) (aliased (get_or flags f 0))) 14 refl)) nothing_gives)

-- how many rows there may be, wherever 10 is given
most_allowed : (ns : List ℕ) → Allowed ns 10 → (most n : ℕ) → Allowed ns (at_most most n)
most_allowed ns ten most n = test_allowed ns (leb n most) 10 ten

pub header_gives : (strings : List ℕ) (named : HeaderTexts) (t : HeaderRows) → Gives H (header_piece strings named t)
unfolding header_piece payload_piece texts_piece lists_piece among
header_gives strings named t =
    last_gives (chains t.fields)
    (envelope_gives 1 1 refl
    (and_gives
    (and_gives (put_gives 8 64 feature_bits 0 refl (λ _. refl)) (and_gives (text_gives strings named.name) (and_gives (text_gives strings named.description) nothing_gives)))
    (and_gives
    (and_gives (list_gives (at_most most_fields) _ (most_allowed H refl most_fields) (λ _ r. record_gives (field_gives strings (length t.fields) r)) t.fields)
    (and_gives (list_gives (at_most most_columns) _ (most_allowed H refl most_columns) (λ _ c. record_gives (column_gives (length t.fields) c)) t.columns)
    (and_gives (list_gives (at_most most_aliases) _ (most_allowed H refl most_aliases) (λ _ a. record_gives (alias_gives (flags_of t.fields) (length t.columns) a)) t.aliases) nothing_gives)))
    nothing_gives)))
    (test_allowed H (all_reach (parents_of t.fields) (length t.fields)) 15 refl)

-- footers

abbrev F : List ℕ
F = to_write_footer

inside_gives : {ns : List ℕ} (file size behind o : ℕ) → Allowed ns 25 → Allowed ns 18 → Gives ns (put 8 64 (in_file file size behind) o)
inside_gives {ns} file size behind o wide out = put_gives 8 64 (in_file file size behind) o wide (λ _. test_allowed ns (leb (o + size + behind) file) 18 out)

-- a size that fits is the one that is stored
stored_gives : (size : ℕ) → Gives F (put 4 31 (stored_as size) size)
unfolding among
stored_gives size = put_gives 4 31 (stored_as size) size refl (λ fits. rw (fits, eq-eqb size size refl) refl)

link_gives : (file : ℕ) (l : Link) → Gives F (link_piece file l)
unfolding link_piece among
link_gives file l = and_gives (free_gives 4 32 l.size refl) (and_gives (stored_gives l.size) (and_gives (inside_gives file l.size 0 l.offset refl refl) nothing_gives))

checksum_gives : (carried : Bool) (n : ℕ) → Gives F (checksum_piece carried n)
unfolding checksum_piece among
checksum_gives true n = free_gives 4 32 n refl
checksum_gives false n = nothing_gives

-- an entry count that fits has no flag above it
entries_gives : (sum n : ℕ) → Gives F (put 8 60 (entry_count sum) n)
unfolding among
entries_gives sum n =
    put_gives 8 60 (entry_count sum) n refl
    (λ fits.
    let none : eqb (n / 2 ^ 60 % 2) 0 ≡ true = eq-eqb (n / 2 ^ 60 % 2) 0 (omega (arith, ltb-true n (2 ^ 60) fits)) in
    rw (none, fits) (test_allowed F (ltb (sum + n) (2 ^ 60)) 19 refl))

cluster_gives : (carried : Bool) (file sum : ℕ) (c : ClusterRow) → Gives F (cluster_piece carried file sum c)
unfolding cluster_piece among
cluster_gives carried file sum c =
    and_gives (put_gives 8 64 (starts_at sum) c.first_entry refl (λ _. test_allowed F (eqb c.first_entry sum) 19 refl))
    (and_gives (entries_gives sum c.entries) (and_gives (link_gives file c.page_list) (and_gives (checksum_gives carried c.checksum) nothing_gives)))

empty_gives : Gives F empty_piece
unfolding pieces among
empty_gives = record { number = refl }

pub footer_gives : (checksum file : ℕ) (f : Footer) → Gives F (footer_piece checksum file f)
unfolding footer_piece footer_payload_piece among
footer_gives checksum file f =
    let carried = carries_for f.clusters in
    tested_gives (all_as_carried carried f.clusters) 19 refl
    (envelope_gives (footer_version f.clusters) 1 refl
    (and_gives (put_gives 8 64 feature_bits 0 refl (λ _. refl))
    (and_gives (put_gives 4 32 (names checksum) checksum refl (λ _. rw (eq-eqb checksum checksum refl) refl))
    (and_gives empty_gives
    (and_gives empty_gives
    (and_gives (list_gives (at_most most_clusters) _ (most_allowed F refl most_clusters) (λ before c. record_gives (cluster_gives carried file (entries_of before) c)) f.clusters)
    (and_gives (list_gives (at_most most_links) _ (most_allowed F refl most_links) (λ _ l. link_gives file l) f.metadata) nothing_gives)))))))

-- page lists

abbrev P : List ℕ
P = to_write_page_list

page_word_gives : (p : PageWords) → Gives P (page_word_piece p)
unfolding page_word_piece among
page_word_gives p = record { number = test_allowed P (both (ltb p.elements (2 ^ 30)) (ltb p.bit 2)) 25 refl }

page_gives : (file bits : ℕ) (p : PageWords) → Gives P (page_piece file bits p)
unfolding page_piece among
page_gives file bits p =
    and_gives (page_word_gives p)
    (and_gives (put_gives 4 31 (stored_as (bytes_for p.elements bits)) p.size refl (λ _. unless_allowed P (ltb p.size (2 ^ 31)) 17 _ refl (test_allowed P (eqb p.size (bytes_for p.elements bits)) 17 refl)))
    (and_gives (inside_gives file p.size (trailer (eqb p.bit 1)) p.offset refl refl) nothing_gives))

totals_allowed : (t : Option FieldNumber) → Allowed P (totals_number t)
unfolding among
totals_allowed None = refl
totals_allowed (Some f) = refl

pub page_list_gives : (h : Header) (entries file : ℕ) (rows : List PageWords) → Gives P (page_list_piece h entries file rows)
unfolding page_list_piece page_list_payload_piece among
page_list_gives h entries file rows =
    let n = length h.lists.columns in
    let bits = bits_of h.lists.columns in
    last_gives (totals_number (totals_of entries h.lists (pages_say n rows)))
    (envelope_gives 1 1 refl
    (tested_gives (in_column_order n 0 rows) 14 refl
    (record {
      number = (list_gives (per_column (length bits)) (column_pages_item file bits)
          (λ k. unless_allowed P (leb k most_columns) 10 _ refl (test_allowed P (eqb k (length bits)) 19 refl))
          (λ before ps. list_gives (running_total (pages_in before)) _ (λ k. test_allowed P (leb (pages_in before + k) most_pages) 10 refl) (λ _ p. page_gives file (get_or bits (length before) 0) p) ps)
          (by_column 0 n rows)).number;
    })))
    (totals_allowed (totals_of entries h.lists (pages_say n rows)))
