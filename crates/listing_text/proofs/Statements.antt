-- Lines, listings and the bytes that calls write are text.
use Prim.Native.Nat.{ℕ, zero, suc, ◌*◌}
use mathlib.Core.Path.{sym, subst}
use mathlib.Core.Bool.{Bool, true, false}
use mathlib.Core.List.{List}
use native.Mathlib.Omega.{arith}
use lib.ListN.{replicate}
use Rattle.numbers.proofs.Lists.{each_weaken}
use Rattle.decimals.specs.Decimal.{text, decimal}
use Rattle.decimals.proofs.DigitLaws.{decimal_digits}
use Rattle.utf8.specs.Scalars.{Text}
use Rattle.utf8.proofs.Exactly.{well_formed_exactly}
use Rattle.header.specs.Tables.{parents_of}
use Rattle.listing.specs.Order.{order}
use Rattle.listing.specs.Lines.{dark_word, line, entry_line, row_in, dark_in, listing}
use Rattle.listing.proofs.CallLaws.{call_listed}
use Rattle.listing_text.specs.Statements.{ListingIsText, ListingWellFormed, WrittenIsText}
use Rattle.listing_text.proofs.TextLaws.{text_none, text_append, text_flat, text_one, text_ascii}
use Rattle.listing_text.proofs.ShownLaws.{shown_text}
use Rattle.listing_text.proofs.NameLaws.{read_text, row_named}

spaces_text : (k : ℕ) → Text (replicate k 32)
spaces_text zero = text_none
spaces_text (suc k) = text_append (text_one 32 (omega arith)) (spaces_text k)

decimal_text : (n : ℕ) → Text (decimal n)
decimal_text n = text_ascii (decimal n) (each_weaken (λ b w. let l = w.1 in omega arith) (decimal n) (decimal_digits n n (omega arith)))

dark_text : (d : Bool) → Text (dark_word d)
dark_text true = text_ascii (text " dark") (omega arith, (omega arith, (omega arith, (omega arith, (omega arith, tt)))))
dark_text false = text_none

line_text : (level field : ℕ) {name type : List ℕ} (d : Bool) → Text name → Text type → Text (line level field name type d)
unfolding line
line_text level field d name type =
    let space = text_one 32 (omega arith) in
    let start = text_append (text_append (spaces_text (2 * level)) (decimal_text field)) space in
    text_append (shown_text (text_append (text_append (text_append (text_append start name) space) type) (dark_text d))) (text_one 10 (omega arith))

pub listing_is_text : ListingIsText
unfolding listing entry_line
listing_is_text e h p reads =
    let row = row_named e reads in
    text_flat (entry_line e (row_in h.lists) (dark_in h.lists))
    (λ x. line_text x.level x.field (dark_in h.lists x.field) (read_text e _ (row x.field).name) (read_text e _ (row x.field).type_name))
    (order (parents_of h.lists.fields))

pub listing_well_formed : ListingWellFormed
listing_well_formed e h p reads = (well_formed_exactly.encodes (listing e h.lists)).1 (listing_is_text e h p reads)

pub written_is_text : WrittenIsText
written_is_text e out out' n call =
    let c = call_listed e out out' n call in
    subst Text (sym c.front) (listing_is_text e c.header c.place c.reads)
