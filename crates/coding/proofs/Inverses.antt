-- Each encoding and its inverse.
-- Assumes nothing.
use lib.Pow.{pow_pos}
use Rattle.coding.specs.Inverses.{DeltaInverse, ZigzagInverse, SplitInverse, PlainInverse, BitsInverse}
use Rattle.coding.proofs.Delta.{sums_deltas, deltas_sums}
use Rattle.coding.proofs.Zigzag.{unzigzag_zigzag, zigzag_unzigzag}
use Rattle.coding.proofs.Planes.{unplanes_planes, planes_unplanes}
use Rattle.coding.proofs.Plain.{unplain_plain, plain_unplain}
use Rattle.coding.proofs.Bits.{unpacked_packed, packed_unpacked}

pub delta_inverse : DeltaInverse
unfolding DeltaInverse
delta_inverse w xs h = (sums_deltas w 0 xs (pow_pos w) h, deltas_sums w 0 xs (pow_pos w) h)

pub zigzag_inverse : ZigzagInverse
unfolding ZigzagInverse
zigzag_inverse w l x h = (unzigzag_zigzag w l x h, zigzag_unzigzag w l x h)

pub split_inverse : SplitInverse
unfolding SplitInverse
split_inverse k = (unplanes_planes k, planes_unplanes k)

pub plain_inverse : PlainInverse
unfolding PlainInverse
plain_inverse k = (unplain_plain k, plain_unplain k)

pub bits_inverse : BitsInverse
unfolding BitsInverse
bits_inverse m = (unpacked_packed m, λ n bs. packed_unpacked n m bs)
