use mathlib.Core.Path.{◌≡◌}
use native.Mathlib.Omega.{arith}
use lib.Dec.{ltb}
use Rattle.wire.specs.Reading.{unless, listed}
use Rattle.writing.specs.Header.{field_head_piece, repetition_piece}
use Rattle.writing.proofs.Items.{first_alone}
use Rattle.field_check.proofs.Lengths.{repetition_good}
use Rattle.field_check.proofs.number.head_number.Goals as goal

pub returns : goal.returns
unfolding field_head_piece
returns c = let h = c.args.head in
    let fits : (repetition_piece h.flags h.repetition).number ≡ 0 = repetition_good h.flags h.repetition (omega (arith, c.well_formed)) in
    rw (fits, first_alone (unless (ltb h.flags 65536) 25 (listed 3 h.flags)), ← c.narrow-version.ensures, ← c.narrow-type_version.ensures, ← c.below.ensures, ← c.narrow-up.ensures, ← c.listed.ensures, ← c.narrow-role.ensures, ← c.listed-2.ensures, ← c.narrow-flags.ensures, ← c.first.ensures, ← c.first-last.ensures, ← c.first-2.ensures) c.first-3.ensures
