use native.Mathlib.Omega.{arith}
use Rattle.crc_register.proofs.Shifts.{xors, lefts, rights}
use Rattle.crc_register.proofs.Quotient.{raised, lowered, reduced}
use Rattle.crc_register.proofs.reduce.Goals as goal

pub returns : goal.returns
unfolding raised lowered lefts rights xors
returns c = reduced c.args.x (omega arith)
