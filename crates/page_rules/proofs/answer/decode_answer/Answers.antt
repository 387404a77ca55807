-- `page_rules::answer::decode_answer` meets its contract, test by test. Assumes nothing.
use mathlib.Core.Path.{◌≡◌, sym, ap, ap₂, ◌∙◌}
use mathlib.Core.Bool.{Bool, true, false≢true}
use Prim.Native.Nat.{ℕ, ◌+◌}
use native.Mathlib.Omega.{arith}
use borrow.Author.Tests.{leb-true}
use Rattle.numbers.specs.Numbers.{bytes_for, trailer}
use Rattle.column_type.specs.Types.{width_of}
use Rattle.page_rules.specs.Page.{readable, size_of, checksum_right}
use Rattle.page_rules.specs.Widths.{read_width}
use Rattle.numbers.proofs.Numbers.{trailer_most}
use Rattle.page_rules.proofs.Widths.{read_width_lem}
use Rattle.page_rules.proofs.Decoding.{Sized, refused_23, refused_10, refused_21, refused_22, refused_24, refused_20, accepted}
use Rattle.page_rules.proofs.answer.decode_answer.Goals.{After-checksum_right}
use Rattle.page_rules.proofs.answer.decode_answer.Goals as goal

-- what the code found of the width, by the type
readable_by : (w t : ℕ) (r : Bool) → w ≡ width_of t → r ≡ read_width w → r ≡ true → readable t ≡ true
readable_by w t r e is h = sym (read_width_lem t w e) ∙ sym is ∙ h

-- the size of the page with its checksum, by the type
size_by : (w t n size behind : ℕ) (checksum : Bool) → w ≡ width_of t → size ≡ bytes_for n w → behind ≡ trailer checksum → size + behind ≡ size_of t n + trailer checksum
size_by w t n size behind checksum e s b = ap₂ (λ (x y : ℕ). x + y) (s ∙ ap (bytes_for n) e) b

sized : (c : After-checksum_right) → (t : ℕ) → c.args.width ≡ width_of t → Sized t c.args.n c.args.checksum c.args.page.now
sized c t e = let a = c.args in record {
  is_readable_lem = readable_by a.width t _ e c.is_readable.ensures c.if-not-is_readable.false;
  few = c.if-n-gt-MOST_ELEMENTS.false;
  long = c.if-page-size.false ∙ size_by a.width t a.n _ _ a.checksum e c.page_size-size.ensures.0 c.trailer_size.ensures;
}

checksum_is : (c : After-checksum_right) → (t : ℕ) → c.args.width ≡ width_of t → checksum_right c.args.checksum (size_of t c.args.n) c.args.page.now ≡ c.checksum_right.result
checksum_is c t e = let a = c.args in
    sym (c.checksum_right.ensures ∙ ap (λ (z : ℕ). checksum_right a.checksum z a.page.now) (c.page_size-size.ensures.0 ∙ ap (bytes_for a.n) e))

pub returns-then-not-is_readable : goal.returns-then-not-is_readable
returns-then-not-is_readable c = let a = c.args in
    record { answers = λ t e. refused_23 t a.n a.checksum a.page.now a.words a.start (sym (read_width_lem t a.width e) ∙ sym c.is_readable.ensures ∙ c.if-not-is_readable.true); fits = λ a. absurd (false≢true a) }

pub returns-then-n-gt-MOST_ELEMENTS : goal.returns-then-n-gt-MOST_ELEMENTS
returns-then-n-gt-MOST_ELEMENTS c = let a = c.args in
    record { answers = λ t e. refused_10 t a.n a.checksum a.page.now a.words a.start (readable_by a.width t _ e c.is_readable.ensures c.if-not-is_readable.false) c.if-n-gt-MOST_ELEMENTS.true; fits = λ a. absurd (false≢true a) }

pub page_size-size-requires : goal.page_size-size-requires
page_size-size-requires c = (sym c.is_readable.ensures ∙ c.if-not-is_readable.false, c.if-n-gt-MOST_ELEMENTS.false)

pub overflow_add-size : goal.overflow_add-size
overflow_add-size c = let t = trailer_most c.args.checksum in
    omega (arith, c.page_size-size.ensures.1, c.trailer_size.ensures)

pub returns-then-page-size : goal.returns-then-page-size
returns-then-page-size c = let a = c.args in record {
  answers = λ t e. refused_21 t a.n a.checksum a.page.now a.words a.start (readable_by a.width t _ e c.is_readable.ensures c.if-not-is_readable.false) c.if-n-gt-MOST_ELEMENTS.false
      (λ l. c.if-page-size.true (l ∙ sym (size_by a.width t a.n _ _ a.checksum e c.page_size-size.ensures.0 c.trailer_size.ensures)));
  fits = λ a. absurd (false≢true a);
}

pub returns-then-not-checksum_right : goal.returns-then-not-checksum_right
returns-then-not-checksum_right c = let a = c.args in
    let k = (goal.at.returns-then-not-checksum_right c).After-checksum_right in
    record { answers = λ t e. refused_22 t a.n a.checksum a.page.now a.words a.start (sized k t e) (checksum_is k t e ∙ c.if-not-checksum_right.true); fits = λ a. absurd (false≢true a) }

pub unused_clear-requires : goal.unused_clear-requires
unused_clear-requires c = omega (arith, c.page_size-size.ensures.0)

pub returns-then-not-unused_clear : goal.returns-then-not-unused_clear
returns-then-not-unused_clear c = let a = c.args in
    let k = (goal.at.returns-then-not-unused_clear c).After-checksum_right in record {
      answers = λ t e. refused_24 t a.n a.checksum a.page.now a.words a.start (sized k t e) (checksum_is k t e ∙ c.if-not-checksum_right.false)
          (sym (c.unused_clear.ensures t e) ∙ c.if-not-unused_clear.true);
      fits = λ a. absurd (false≢true a);
    }

pub returns-then-has_room : goal.returns-then-has_room
returns-then-has_room c = let a = c.args in
    let k = (goal.at.returns-then-has_room c).After-checksum_right in record {
      answers = λ t e. accepted t a.n a.checksum a.page.now a.words a.start (sized k t e) (checksum_is k t e ∙ c.if-not-checksum_right.false)
          (sym (c.unused_clear.ensures t e) ∙ c.if-not-unused_clear.false) (sym c.has_room.ensures ∙ c.if-has_room.true);
      fits = λ _. record {
        is_read = sym c.is_readable.ensures ∙ c.if-not-is_readable.false;
        there = omega (arith, c.page_size-size.ensures.0);
        room = leb-true (a.start + a.n) a.words (sym c.has_room.ensures ∙ c.if-has_room.true);
      };
    }

pub returns-else-has_room : goal.returns-else-has_room
returns-else-has_room c = let a = c.args in
    let k = (goal.at.returns-else-has_room c).After-checksum_right in record {
      answers = λ t e. refused_20 t a.n a.checksum a.page.now a.words a.start (sized k t e) (checksum_is k t e ∙ c.if-not-checksum_right.false)
          (sym (c.unused_clear.ensures t e) ∙ c.if-not-unused_clear.false) (sym c.has_room.ensures ∙ c.if-has_room.false);
      fits = λ a. absurd (false≢true a);
    }
