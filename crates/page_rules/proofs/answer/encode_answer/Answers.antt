-- `page_rules::answer::encode_answer` meets its contract, test by test. Assumes nothing.
use Rattle.page_rules.proofs.Widths.{read_width_lem, read_most}
use Rattle.numbers.proofs.Numbers.{trailer_most}
use Rattle.page_rules.proofs.Encoding.{Asked, refused_23, refused_10, refused_words, refused_room, refused_25, accepted, part_is}
use Rattle.column_type.specs.Types.{width_of}
use Rattle.numbers.specs.Numbers.{bytes_for, trailer}
use Rattle.page_rules.specs.Page.{readable, size_of, chosen, accept}
use Rattle.coding.specs.Layout.{fit}
use mathlib.Core.Path.{◌≡◌, sym, ap, ap₂, ◌∙◌}
use Prim.Native.Nat.{ℕ, ◌+◌}
use native.Mathlib.Omega.{arith}
use Rattle.page_rules.proofs.answer.encode_answer.Goals.{After-is_readable, After-has_room, After-trailer_size, After-all_fit}
use Rattle.page_rules.proofs.answer.encode_answer.Goals as goal

readable_is : (c : After-is_readable) → readable c.args.column_type ≡ c.is_readable.result
readable_is c = let w = c.width_of-width in sym (c.is_readable.ensures ∙ read_width_lem c.args.column_type w.result w.ensures)

asked : (c : After-has_room) → Asked c.args.column_type c.args.n
asked c = let w = c.width_of-width in record {
  is_readable_lem = sym (c.is_readable.ensures ∙ read_width_lem c.args.column_type w.result w.ensures) ∙ c.if-not-is_readable.false;
  few = c.if-n-gt-MOST_ELEMENTS.false;
}

size_is : (c : After-trailer_size) → c.page_size.result + c.trailer_size.result ≡ size_of c.args.column_type c.args.n + trailer c.args.checksum
size_is c = ap₂ (λ (x y : ℕ). x + y) (c.page_size.ensures.0 ∙ ap (bytes_for c.args.n) c.width_of-width.ensures) c.trailer_size.ensures

fit_is : (c : After-all_fit) → c.all_fit.result ≡ fit (width_of c.args.column_type) (chosen c.args.n c.args.words.now c.args.start)
fit_is c = let a = c.args in c.all_fit.ensures ∙ ap₂ fit c.width_of-width.ensures (part_is a.n a.start a.words.now)

pub returns-then-not-is_readable : goal.returns-then-not-is_readable
returns-then-not-is_readable c = let a = c.args in
    refused_23 a.column_type a.n a.checksum a.words.now a.start a.room (readable_is (goal.at.returns-then-not-is_readable c).After-is_readable ∙ c.if-not-is_readable.true)

pub returns-then-n-gt-MOST_ELEMENTS : goal.returns-then-n-gt-MOST_ELEMENTS
returns-then-n-gt-MOST_ELEMENTS c = let a = c.args in
    refused_10 a.column_type a.n a.checksum a.words.now a.start a.room
    (readable_is (goal.at.returns-then-n-gt-MOST_ELEMENTS c).After-is_readable ∙ c.if-not-is_readable.false) c.if-n-gt-MOST_ELEMENTS.true

pub returns-then-not-has_room : goal.returns-then-not-has_room
returns-then-not-has_room c = let a = c.args in
    refused_words a.column_type a.n a.checksum a.words.now a.start a.room
    (asked (goal.at.returns-then-not-has_room c).After-has_room) (sym c.has_room.ensures ∙ c.if-not-has_room.true)

pub page_size-requires : goal.page_size-requires
page_size-requires c = (sym c.is_readable.ensures ∙ c.if-not-is_readable.false, c.if-n-gt-MOST_ELEMENTS.false)

pub overflow_add-size : goal.overflow_add-size
overflow_add-size c = let t = trailer_most c.args.checksum in
    omega (arith, c.page_size.ensures.1, c.trailer_size.ensures)

pub returns-then-room-size : goal.returns-then-room-size
returns-then-room-size c = let a = c.args in
    let g = goal.at.returns-then-room-size c in
    refused_room a.column_type a.n a.checksum a.words.now a.start a.room (asked g.After-has_room) (sym c.has_room.ensures ∙ c.if-not-has_room.false)
    (rw (size_is g.After-trailer_size) at c.if-room-size.true)

pub all_fit-requires : goal.all_fit-requires
all_fit-requires c = read_most c.width_of-width.result (sym c.is_readable.ensures ∙ c.if-not-is_readable.false)

pub returns-then-all_fit : goal.returns-then-all_fit
returns-then-all_fit c = let a = c.args in
    let g = goal.at.returns-then-all_fit c in
    let e = size_is g.After-trailer_size in
    ap accept e
    ∙ accepted a.column_type a.n a.checksum a.words.now a.start a.room (asked g.After-has_room) (sym c.has_room.ensures ∙ c.if-not-has_room.false)
    (rw e at c.if-room-size.false) (sym (fit_is g.After-all_fit) ∙ c.if-all_fit.true)

pub returns-else-all_fit : goal.returns-else-all_fit
returns-else-all_fit c = let a = c.args in
    let g = goal.at.returns-else-all_fit c in
    refused_25 a.column_type a.n a.checksum a.words.now a.start a.room (asked g.After-has_room) (sym c.has_room.ensures ∙ c.if-not-has_room.false)
    (rw (size_is g.After-trailer_size) at c.if-room-size.false) (sym (fit_is g.After-all_fit) ∙ c.if-all_fit.false)
