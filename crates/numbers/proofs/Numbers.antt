-- Laws of little-endian numbers: by their halves, and where there is room for them.
use mathlib.Core.Path.{◌≡◌, refl, sym}
use mathlib.Core.Bool.{Bool, true, false}
use mathlib.Core.List.{List}
use Prim.Native.Nat.{ℕ, ◌+◌, ◌*◌, ◌≤◌, ◌<◌}
use lib.ListN.{length}
use lib.Dec.{leb}
use borrow.Author.Tests.{lt-leb, le-leb}
use native.Mathlib.Nat.{add_assoc}
use native.Mathlib.Omega.{arith}
use Rattle.numbers.specs.Numbers.{little, little_in, Little, Room, trailer}
use Rattle.numbers.proofs.Choice.{clash}

pub little_four : (s : List ℕ) (i : ℕ) → little 4 s i ≡ little 2 s i + 65536 * little 2 s (i + 2)
unfolding little
little_four s i = simp add_assoc (omega arith)

pub little_eight : (s : List ℕ) (i : ℕ) → little 8 s i ≡ little 4 s i + 4294967296 * little 4 s (i + 4)
unfolding little
little_eight s i = simp add_assoc (omega arith)

-- a number that was read, and one that is not there
pub little_read : (k : ℕ) {s : List ℕ} {at r : ℕ} → leb (at + k) (length s) ≡ true → r ≡ little k s at → Little k s at r
unfolding little_in
little_read k h e = record { is = rw h e; there = λ _. e }

pub little_missing : (k : ℕ) {s : List ℕ} {at : ℕ} → leb (at + k) (length s) ≡ false → Little k s at 0
unfolding little_in
little_missing k {s} {at} h = record { is = rw h; there = λ fits. clash (le-leb (at + k) (length s) fits) h }

pub false_room : (s : List ℕ) (at len : ℕ) → length s < at + len → Room s at len false
false_room s at len h =
    record { is = sym (lt-leb (at + len) (length s) h); fits = λ t. clash t refl }

pub trailer_most : (b : Bool) → trailer b ≤ 4
trailer_most true = omega arith
trailer_most false = omega arith
