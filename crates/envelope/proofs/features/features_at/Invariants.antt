use Prim.Native.Nat.{◌-◌}
use Rattle.wire.specs.Reading.{refused}
use borrow.Author.Rules.{rules}
use mathlib.Core.Path.{◌≡◌, refl, sym, ap, ◌∙◌}
use native.Mathlib.Omega.{arith}
use lib.ListN.{length}
use Rattle.envelope.specs.Features.{features}
use Rattle.envelope.proofs.FeatureLaws.{features_last, features_more, features_refused, features_none}
use Rattle.envelope.proofs.features.features_at.Given as goal

abbrev pub invariant-loop-done : goal.invariant-loop-done
invariant-loop-done l = features (length l.s) l.s l.start ≡ features (length l.s - l.done) l.s l.at
