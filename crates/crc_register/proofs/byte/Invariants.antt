-- The loop's invariant: the bits that are left take the register to where all eight take it.
use Prim.Native.Nat.{◌-◌}
use mathlib.Core.Path.{◌≡◌}
use Rattle.crc_register.specs.Register.{bits, byte}
use Rattle.crc_register.proofs.byte.Given as goal

abbrev pub invariant-loop : goal.invariant-loop
invariant-loop l = bits (8 - l.counter) l.x ≡ byte l.c l.b
