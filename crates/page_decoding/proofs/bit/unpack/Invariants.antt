-- `page_decoding::bit::unpack` meets its contract. The invariant: the words of the first m bytes are their bits. Assumes nothing.
use Rattle.std.proofs.Common.{ℕ, ◌*◌, List}
use Rattle.coding.specs.Layout.{unpacked}
use Rattle.page_decoding.proofs.Blocks.{Laid}
use Rattle.page_decoding.proofs.bit.unpack.Given as goal

-- the first k words are the first k bits of the page, and the others as they were
abbrev pub Unpacked : List ℕ → List ℕ → ℕ → List ℕ → Type 0
Unpacked page out₀ k out = Laid (unpacked k 0 page) out₀ out

abbrev pub invariant-loop-m : goal.invariant-loop-m
invariant-loop-m l = Unpacked l.page l.initial.out (8 * l.m) l.out
