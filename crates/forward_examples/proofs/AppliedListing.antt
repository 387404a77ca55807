-- Demand 3 applied to calls that list the fields of the example headers: what is listed, before and after.
use Prim.Native.Nat.{ℕ}
use mathlib.Core.List.{List, [], ◌∷◌, ◌++◌}
use mathlib.Core.Path.{◌≡◌, refl, sym, subst}
use native.Mathlib.Omega.{arith}
use lib.ListN.{length, replicate}
use Rattle.numbers.specs.Rows.{flat, flat_by}
use Rattle.decimals.specs.Decimal.{text, decimal_by}
use Rattle.column_type.specs.Types.{known}
use Rattle.wire.specs.Reading.{found}
use Rattle.parents.specs.Parents.{meets}
use Rattle.parents.specs.Dark.{dark}
use Rattle.reader.specs.Text.{text_of}
use Rattle.header.specs.Header.{Header}
use Rattle.header.specs.Tables.{header_of}
use Rattle.listing.specs.Order.{joined, below, order}
use Rattle.listing.specs.Lines.{line, entry_line, listing}
use Rattle.listing.specs.Answers.{fitted, placed, answer, left, Answered}
use Rattle.listing.specs.Answer.{ListAnswer}
use Rattle.tree.specs.Bytes.{spelled}
use Rattle.tree.specs.EnvelopeTree.{unsummed, sealed}
use Rattle.tree.specs.HeaderTree.{feature_words, texts_shape, lists_shape, payload_shape, head_shape, strings_shape, field_shape, column_shape, alias_shape, HeaderTree, render_header}
use Rattle.forward.specs.HeaderAppend.{appended, field_count, Appendix}
use Rattle.forward.specs.ListingForward.{darkened, appended_lines, ListsBytes, ListingKept}
use Rattle.forward.proofs.Demand3.{demand_3}
use Rattle.forward_examples.specs.Example.{plain_header, newer_header, appended_fields, appended_columns, appended_header, plain_lines, more_lines, Listable}
use Rattle.forward_examples.proofs.Extensible.{extensible, appendable}
use Rattle.forward_examples.proofs.Applied.{plain_bytes, the_plain, chosen_header}
use Rattle.std.specs.Prelude.{Ok, Err}

-- what is listed

pub listable : Listable
unfolding listing order below joined flat entry_line line decimal_by text_of dark known meets sealed unsummed payload_shape texts_shape lists_shape feature_words spelled field_shape head_shape strings_shape column_shape alias_shape
listable = record { plain = refl; newer = refl; more = refl }

-- Calls that list: a byte more than the lines stays.

-- the call for a header with these lines, which is lent these bytes
list_call : {e : List ℕ} {h : Header} {p : ℕ} (lines lent : List ℕ) → header_of e ≡ found h p → listing e h.lists ≡ lines
    → Answered e lent (placed lent lines) (fitted (length lent) lines)
unfolding answer left
list_call lines lent reads are = record { answers = rw (reads, are); reports = rw (reads, are); bytes_are = rw (reads, are) }

abbrev lent_bytes : List ℕ
lent_bytes = replicate 23 9

plain_list_call : Answered (render_header plain_header) lent_bytes (plain_lines ++ (9 ∷ [])) (Ok 22)
unfolding fitted placed
plain_list_call = list_call plain_lines lent_bytes extensible.header_reads listable.plain

pub newer_list_call : Answered (render_header newer_header) lent_bytes (plain_lines ++ (9 ∷ [])) (Ok 22)
unfolding fitted placed
newer_list_call = list_call plain_lines lent_bytes extensible.newer_header_reads listable.newer

-- the header with one more field has more lines: lent too few bytes for them the call refuses, and leaves these bytes as they were

pub appended_list_call : Answered (render_header appended_header) (replicate 28 5) (more_lines ++ (5 ∷ [])) (Ok 27)
unfolding fitted placed
appended_list_call = list_call more_lines (replicate 28 5) appendable.appended_reads listable.more

pub appended_few_call : Answered (render_header appended_header) lent_bytes lent_bytes (Err 20)
unfolding fitted placed
appended_few_call = list_call more_lines lent_bytes appendable.appended_reads listable.more

-- the theorem for the plain header's call: whatever a call for one of the others is lent, it lists these lines

listing_kept : ListingKept (render_header plain_header) plain_lines 22
listing_kept = demand_3.listing (render_header plain_header) lent_bytes (plain_lines ++ (9 ∷ [])) 22 plain_bytes plain_list_call

pub newer_listing_kept : (out₀ out : List ℕ) (r : ListAnswer) → Answered (render_header newer_header) out₀ out r → ListsBytes plain_lines out₀ out r
newer_listing_kept = listing_kept.forward newer_header (chosen_header listing_kept.header) (omega (arith, extensible.newer_header_bytes))

-- the line of the appended field
appended_line : appended_lines 2 appended_fields appended_columns ≡ text "2 c \n"
unfolding flat_by line decimal_by darkened known
appended_line = refl

pub appended_listing_kept : (out₀ out : List ℕ) (r : ListAnswer) → Answered (render_header appended_header) out₀ out r → ListsBytes more_lines out₀ out r
appended_listing_kept out₀ out r call =
    let appends = subst (λ (t : HeaderTree). Appendix t appended_fields appended_columns → (out₀ out : List ℕ) (r : ListAnswer) → Answered (render_header (appended t appended_fields appended_columns)) out₀ out r → ListsBytes (plain_lines ++ appended_lines (field_count t) appended_fields appended_columns) out₀ out r) (sym (the_plain listing_kept.header)) (listing_kept.append appended_fields appended_columns) in
    subst (λ (lines : List ℕ). ListsBytes (plain_lines ++ lines) out₀ out r) appended_line (appends appendable.appendix out₀ out r call)
