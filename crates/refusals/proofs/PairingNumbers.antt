-- The numbers that a page list can be refused with that is read for a cluster's row.
use mathlib.Core.Path.{refl}
use Rattle.numbers.specs.Choice.{both}
use Rattle.pairing.specs.Paired.{intact, differs, unpaired_fault, paired_of}
use Rattle.refusals.specs.Refusals.{among, in_page_list, in_pairing, PageListNumbers, PairingNumbers}
use Rattle.refusals.proofs.Naming.{among_more, named_refused, named_pick}
use Rattle.refusals.proofs.PageListNumbers.{page_list_numbers}

pub pairing_numbers : PairingNumbers
unfolding PairingNumbers PageListNumbers paired_of among
pairing_numbers h entries checksum file l =
    (named_pick {ns = in_pairing} (both (intact l) (differs checksum l)) (named_refused {g = unpaired_fault} refl)
    (record { number = λ f e. among_more 26 in_page_list f.number (page_list_numbers h entries file l f e) })).number
