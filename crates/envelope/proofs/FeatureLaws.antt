-- The loop over the feature words, one word at a time.
use Prim.Native.Nat.{ℕ, suc, ◌-◌, ◌<◌}
use mathlib.Core.Path.{◌≡◌, refl, ap, ◌∙◌}
use mathlib.Core.List.{List}
use native.Mathlib.Omega.{arith}
use borrow.Author.Tests.{ne_eqb}
use Rattle.wire.specs.declared.Fault.{Fault}
use Rattle.wire.specs.Reading.{found, refused, fault, tested}
use Rattle.wire.specs.declared.Kind.TheVariants.{Number}
use Rattle.envelope.specs.Features.{features, feature_bits}

module _ (most : ℕ) (s : List ℕ) (at : ℕ) (more : 0 < most) where
  one : features most s at ≡ features (suc (most - 1)) s at
  one = ap (λ n. features n s at) (omega arith)

  pub features_last : {w p : ℕ} → w ≡ 0 → tested 8 feature_bits s at ≡ found w p → features most s at ≡ found tt p
  unfolding features
  features_last z e = one ∙ rw (e, z)

  pub features_more : {w p : ℕ} → (w ≡ 0 → ⊥) → tested 8 feature_bits s at ≡ found w p → features most s at ≡ features (most - 1) s p
  unfolding features
  features_more n e = one ∙ rw (e, ne_eqb _ _ n)

  pub features_refused : {f : Fault} → tested 8 feature_bits s at ≡ refused f → features most s at ≡ refused f
  unfolding features
  features_refused e = one ∙ rw e

pub features_none : (s : List ℕ) (at : ℕ) → features 0 s at ≡ refused (fault 7 Number at)
unfolding features
features_none s at = refl
