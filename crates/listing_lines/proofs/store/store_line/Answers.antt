-- `listing_lines::store::store_line` meets its contract. Assumes nothing.
use native.Mathlib.Omega.{arith}
use Rattle.stores.proofs.Storing.{stored_then, stored_as_lem}
use Rattle.listing_lines.specs.Line.{line_bytes}
use Rattle.listing_lines.proofs.LineLaws.{line_pieces}
use Rattle.listing_lines.proofs.store.store_line.Goals as goal

pub shape_of-out : goal.shape_of-out
shape_of-out c = omega (arith, c.store_indent-indented.auto, c.store_shown-numbered.auto, c.store_shown-before_name.auto, c.store_shown-named.auto, c.store_shown-before_type.auto, c.store_shown-typed.auto, c.store_end.auto)

pub returns : goal.returns
unfolding line_bytes
returns c = stored_as_lem (line_pieces _ _ _ _ _) (stored_then (stored_then (stored_then (stored_then (stored_then (stored_then c.store_indent-indented.ensures (rw c.digits_of-digits.ensures.is at c.store_shown-numbered.ensures)) c.store_shown-before_name.ensures) (rw c.text_of.ensures at c.store_shown-named.ensures)) c.store_shown-before_type.ensures) (rw c.text_of-2.ensures at c.store_shown-typed.ensures)) c.store_end.ensures)
