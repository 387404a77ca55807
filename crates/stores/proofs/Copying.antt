-- Bytes stored by a loop, one at a time, where there is room for all of them. Assumes nothing.
use Prim.Native.Nat.{ℕ, ◌+◌, ◌≤◌, ◌<◌}
use mathlib.Core.List.{List}
use mathlib.Core.Path.{◌≡◌, refl, sym, ap, ◌∙◌}
use native.Mathlib.Numerals.{add-one}
use native.Mathlib.Omega.{arith}
use lib.ListN.{length, get_or, set, length-set}
use lib.Seq.{paste, paste-zero, paste-suc}
use Rattle.stores.specs.Stored.{Stored}
use Rattle.stores.proofs.Storing.{pasted, stored_all}

-- the first i of them stand there
pub record Copying (old : List ℕ) (at : ℕ) (bytes : List ℕ) (i : ℕ) (out : List ℕ) : Type 0 where
  pub most : i ≤ length bytes
  pub room : at + length bytes ≤ length old
  pub long : length out ≡ length old
  pub is : out ≡ paste old at bytes i

pub copy_none : (old : List ℕ) (at : ℕ) (bytes : List ℕ) → at + length bytes ≤ length old → Copying old at bytes 0 old
copy_none old at bytes room = record { most = omega arith; room = room; long = refl; is = paste-zero old at bytes }

pub copy_more : {old : List ℕ} {at : ℕ} {bytes : List ℕ} {i : ℕ} {out : List ℕ} (byte : ℕ) → Copying old at bytes i out → i < length bytes → byte ≡ get_or bytes i 0
    → Copying old at bytes (i + 1) (set out (at + i) byte)
copy_more {old} {at} {bytes} {i} {out} byte c less e =
    record {
      most = omega arith;
      room = c.room;
      long = length-set out (at + i) byte ∙ c.long;
      is = (λ j. set (c.is j) (at + i) (e j)) ∙ paste-suc old at bytes i 0 (omega (arith, c.room)) less ∙ ap (paste old at bytes) (sym (add-one i));
    }

pub copy_all : {old : List ℕ} {at : ℕ} {bytes : List ℕ} {i : ℕ} {out : List ℕ} → Copying old at bytes i out → length bytes ≤ i → Stored old at bytes out (at + i)
copy_all {old} {at} {bytes} {i} c end =
    let all : i ≡ length bytes = omega (arith, c.most) in
    stored_all (c.is ∙ pasted old at bytes i all c.room) all
