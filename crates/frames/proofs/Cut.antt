-- A frame reads the same whatever stands after it: what is found in bytes that are cut off is found in the whole.
use Prim.Native.Nat.{ℕ, zero, suc, ◌+◌, ◌≤◌}
use mathlib.Core.Path.{◌≡◌, refl}
use mathlib.Core.Bool.{Bool, true, false}
use mathlib.Core.List.{List}
use native.Mathlib.Omega.{arith}
use borrow.Author.Tests.{leb-true, le-leb}
use lib.Dec.{leb}
use lib.ListN.{length, take}
use lib.Seq.{get_or-take, take-take}
use Rattle.numbers.specs.Choice.{pick}
use Rattle.numbers.specs.Numbers.{little}
use Rattle.frames.specs.declared.FrameSize.{FrameSize}
use Rattle.frames.specs.declared.FrameSize.TheVariants.{RecordSize, ListSize}
use Rattle.wire.specs.declared.Kind.TheVariants.{Frame}
use Rattle.wire.specs.Reading.{Step, found, refused, Rule, fault}
use Rattle.frames.specs.Frames.{frame_size, frame_end, record_end, record_head, record_body, record_of}
use Rattle.wire.proofs.Laws.{never}
use Rattle.numbers.proofs.Parts.{cut_length}

little_cut : (k : ℕ) (s : List ℕ) (stop at : ℕ) → at + k ≤ stop → little k (take stop s) at ≡ little k s at
unfolding little
little_cut zero s stop at h = refl
little_cut (suc k) s stop at h = rw (get_or-take stop s at 0 (omega arith), little_cut k s stop (at + 1) (omega arith))

module _ (s : List ℕ) (stop at : ℕ) where
  -- a record's head, which stops inside
  head_cut : {start q : ℕ} → record_head (take stop s) at ≡ found start q → (record_head s at ≡ found start q) × (q ≤ stop)
  unfolding record_head
  head_cut {start} {q} e = by (leb (at + 4) (length (take stop s))) refl e
    where
      ended : (n : ℕ) (b c : Bool) → leb 4 n ≡ b → leb (at + n) (length (take stop s)) ≡ c
          → pick {A = Step ℕ} b (pick c (found (at + 4) (at + n)) (refused (fault 7 Frame at))) (refused (fault 8 Frame at)) ≡ found start q → (frame_end 4 s at n ≡ found start q) × (q ≤ stop)
      ended n true true g w h =
          let l = cut_length stop s in
          let m = leb-true (at + n) (length (take stop s)) w in
          let same : at + n ≡ q = cc in
          (rw (g, le-leb (at + n) (length s) (omega arith)) h, omega arith)
      ended n true false g w h = never h
      ended n false c g w h = never h

      sized : (z : FrameSize) → record_end (take stop s) at z ≡ found start q → (record_end s at z ≡ found start q) × (q ≤ stop)
      sized (RecordSize n) w = ended n (leb 4 n) (leb (at + n) (length (take stop s))) refl refl w
      sized (ListSize n) w = never w

      by : (b : Bool) → leb (at + 4) (length (take stop s)) ≡ b → pick {A = Step ℕ} b (record_end (take stop s) at (frame_size (little 4 (take stop s) at))) (refused (fault 7 Frame at)) ≡ found start q
          → (record_head s at ≡ found start q) × (q ≤ stop)
      by true g w =
          let l = cut_length stop s in
          let h = leb-true (at + 4) (length (take stop s)) g in
          let c = little_cut 4 s stop at (omega arith) in
          rw (le-leb (at + 4) (length s) (omega arith)) (sized (frame_size (little 4 s at)) (rw c at w))
      by false g w = never w

  -- a record, with any content: its bytes are the same
  pub record_cut : {A : Type 0} (strict : Bool) (r : Rule A) {a : A} {p : ℕ} → record_of strict r (take stop s) at ≡ found a p → record_of strict r s at ≡ found a p
  unfolding record_of
  record_cut {A} strict r {a} {p} e = by (record_head (take stop s) at) refl e
    where
      by : (h : Step ℕ) → record_head (take stop s) at ≡ h → record_body strict r (take stop s) h ≡ found a p → record_of strict r s at ≡ found a p
      by (found start q) g w = let k = head_cut g in rw k.0 (rw (take-take q stop s k.1) at w)
      by (refused f) g w = never w
