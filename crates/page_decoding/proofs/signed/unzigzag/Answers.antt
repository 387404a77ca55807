-- `page_decoding::signed::unzigzag` meets its contract. Assumes nothing.
use Rattle.std.proofs.Common.{◌≡◌, ap, ◌∙◌, to_z-of_z, w64}
use mathlib.Core.Path.{subst⁻¹}
use Rattle.coding.specs.Signed.{to_bits, from_zigzag, Reaches}
use Rattle.coding.specs.Layout.{unzigzagged}
use Rattle.coding.proofs.Signs.{read, zigzag_reaches}
use Rattle.page_decoding.proofs.signed.unzigzag.Goals as goal

pub to_bits-requires : goal.to_bits-requires
to_bits-requires c = let a = c.args in
    let element : read c.from_zigzag.result ≡ from_zigzag a.z = to_z-of_z {w = w64} (record { sfits = c.from_zigzag.type_inv }) ∙ c.from_zigzag.ensures in
    (c.requires.0, subst⁻¹ (Reaches a.width) element (zigzag_reaches a.width a.z c.requires.1))

pub returns : goal.returns
unfolding unzigzagged
returns c = c.to_bits.ensures ∙ ap (to_bits c.args.width) (to_z-of_z {w = w64} (record { sfits = c.from_zigzag.type_inv }) ∙ c.from_zigzag.ensures)
