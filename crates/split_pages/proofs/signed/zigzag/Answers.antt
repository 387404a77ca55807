-- `split_pages::signed::zigzag` meets its contract. Assumes nothing.
use Rattle.std.proofs.Common.{◌≡◌, ℕ, ◌%◌, ◌^◌, ◌<◌, ap, ◌∙◌, mod-lt, pow_pos, to_z-of_z, w64}
use mathlib.Core.Path.{subst⁻¹}
use lib.Bits.{bit_and, and_mask}
use Rattle.coding.specs.Signed.{to_zigzag, from_bits}
use Rattle.page_rules.proofs.Laid.{largest_is}
use Rattle.page_rules.proofs.Types.{split_most}
use Rattle.coding.specs.Layout.{SplitWidth, largest, zigzagged}
use Rattle.split_pages.proofs.signed.zigzag.Goals as goal

-- what the mask leaves
masked : (w m x : ℕ) → SplitWidth w → m ≡ largest w → bit_and x m ≡ x % 2 ^ w
masked w m x s e = ap (bit_and x) (e ∙ largest_is w (split_most s)) ∙ and_mask x w

pub from_bits-requires : goal.from_bits-requires
from_bits-requires c = let a = c.args in
    (c.requires, subst⁻¹ (λ (y : ℕ). y < 2 ^ a.width) (masked a.width _ a.x c.requires c.most.ensures) (mod-lt a.x (pow_pos a.width)))

pub returns : goal.returns
unfolding zigzagged
returns c = let a = c.args in
    c.to_zigzag.ensures ∙ ap to_zigzag (to_z-of_z {w = w64} (record { sfits = c.from_bits.type_inv }) ∙ c.from_bits.ensures)
    ∙ ap (λ (y : ℕ). to_zigzag (from_bits a.width y)) (masked a.width _ a.x c.requires c.most.ensures)
