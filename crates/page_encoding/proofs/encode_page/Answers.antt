-- `page_encoding::encode_page` meets its contract. Assumes nothing.
use lib.Seq.{length-take-le}
use lib.ListN.{length-drop, length, drop}
use Rattle.outcome.specs.Outcome.{is_accepted}
use Rattle.page_rules.proofs.Encoding.{Encodes, encodes, counted, encoded_accepted, encoded_refused, part_is}
use Rattle.numbers.specs.Rows.{over}
use Rattle.page_rules.specs.Page.{chosen, bytes, checked_page, accept, outcome_of, encode_outcome}
use mathlib.Core.Path.{◌≡◌, sym, ap, ◌∙◌}
use mathlib.Core.Bool.{Bool}
use mathlib.Core.List.{List}
use Prim.Native.Nat.{ℕ}
use native.Mathlib.Omega.{arith}
use Rattle.page_encoding.proofs.encode_page.Goals as goal

-- what was accepted has all that the encoding asks
passed : (t n : ℕ) (checksum : Bool) (words : List ℕ) (start room size : ℕ) → encode_outcome t n checksum words start room ≡ accept size → Encodes t n checksum words start room
passed t n checksum words start room size e = encodes t n checksum words start room (ap is_accepted e)

pub overflow_add-end : goal.overflow_add-end
overflow_add-end c = omega (arith, (passed _ _ _ _ _ _ _ (sym c.encode_answer.ensures ∙ ap outcome_of c.in_ok-size.was)).there)

pub offset_bounds-words-start : goal.offset_bounds-words-start
offset_bounds-words-start c = omega (arith, (passed _ _ _ _ _ _ _ (sym c.encode_answer.ensures ∙ ap outcome_of c.in_ok-size.was)).there)

pub slice_bounds-write_checked-end : goal.slice_bounds-write_checked-end
slice_bounds-write_checked-end c = omega (arith, (passed _ _ _ _ _ _ _ (sym c.encode_answer.ensures ∙ ap outcome_of c.in_ok-size.was)).there)

pub write_checked-requires : goal.write_checked-requires
write_checked-requires c = let a = c.args in
    let is = sym c.encode_answer.ensures ∙ ap outcome_of c.in_ok-size.was in
    let p = passed _ _ _ _ _ _ _ is in
    let z = counted a.column_type a.elements a.checksum a.words.now a.start (length a.page.now) c.in_ok-size.size is in
    let e = part_is a.elements a.start a.words.now in
    let n : length (chosen a.elements a.words.now a.start) ≡ a.elements =
    length-take-le a.elements (drop a.start a.words.now) (omega (arith, length-drop a.start a.words.now, p.there)) in
    (p.is_readable_lem, rw (e, n) p.few, rw e p.fits, rw (e, n) z, omega (arith, z, p.enough))

pub returns-clause-leaves : goal.returns-clause-leaves
returns-clause-leaves c = let a = c.args in
    c.write_checked.ensures
    ∙ ap (λ (l : List ℕ). over (checked_page a.checksum (bytes a.column_type l)) a.page.now) (part_is a.elements a.start a.words.now)
    ∙ encoded_accepted a.column_type a.elements a.checksum a.words.now a.page.now a.start (ap is_accepted (sym c.encode_answer.ensures ∙ ap outcome_of c.in_ok-size.was))

pub returns-in_err-size-clause-leaves : goal.returns-in_err-size-clause-leaves
returns-in_err-size-clause-leaves c = let a = c.args in
    encoded_refused a.column_type a.elements a.checksum a.words.now a.page.now a.start (ap is_accepted (sym c.encode_answer.ensures ∙ ap outcome_of c.in_err-size.was))
