-- What is answered and left, by the room that the bytes leave.
use Prim.Native.Nat.{ℕ}
use mathlib.Core.Path.{◌≡◌, refl, ap}
use mathlib.Core.List.{List}
use borrow.Author.Tests.{leb-true}
use lib.ListN.{length}
use Rattle.stores.specs.Stored.{Stored}
use Rattle.stores.proofs.Storing.{stored_front}
use Rattle.listing.specs.Answers.{fitted, placed}
use Rattle.listing_lines.specs.Room.{Taken}
use Rattle.std.specs.Prelude.{Some, None, Ok, Err}
use Rattle.listing_lines.proofs.RoomLaws.{taken_left, taken_full}

module _ (old bytes : List ℕ) where
  pub listed : {left end : ℕ} {new : List ℕ} → Taken (Some (length old)) (length bytes) (Some left) → Stored old 0 bytes new end
      → (Ok end ≡ fitted (length old) bytes) × (new ≡ placed old bytes)
  unfolding fitted placed
  listed t s =
      let fits = taken_left t in
      let (stands, stop) = stored_front s (leb-true (length bytes) (length old) fits) in
      rw fits (ap Ok stop, stands)

  pub unlisted : Taken (Some (length old)) (length bytes) None → (Err 20 ≡ fitted (length old) bytes) × (old ≡ placed old bytes)
  unfolding fitted placed
  unlisted t = rw (taken_full t) (refl, refl)
