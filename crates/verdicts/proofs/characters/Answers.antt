use native.Mathlib.Omega.{arith}
use Rattle.verdicts.proofs.Parts.{part_past, part_to_end, part_of}
use borrow.Author.Rules.{rules}
use Rattle.verdicts.proofs.characters.Goals as goal

pub returns-then-strings-place : goal.returns-then-strings-place
returns-then-strings-place c = part_past c.args.strings.now c.args.string.place c.args.string.len (omega arith)

pub returns-then-strings-place-2 : goal.returns-then-strings-place-2
returns-then-strings-place-2 c = part_to_end c.args.strings.now c.args.string.place c.args.string.len (omega arith)

pub returns : goal.returns
returns c = part_of c.args.strings.now c.args.string.place c.args.string.len
