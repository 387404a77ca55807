-- Bytes added to a line.
use Prim.Native.Nat.{ℕ, ◌+◌, ◌≤◌}
use mathlib.Core.Path.{◌≡◌, ap, ◌∙◌}
use mathlib.Core.List.{List, [], ◌++◌}
use native.Mathlib.Omega.{arith}
use borrow.Author.Tests.{le-leb}
use lib.ListN.{length, length-append}
use lib.Seq.{take-append_seam, drop-append-add, drop-drop}
use Rattle.io.specs.Counts.{IsPrefixLen}
use Rattle.report.specs.declared.Line.{Line}
use Rattle.report.specs.Line.{room, line_of, added}

line_more : (front t : List ℕ) → length front + length t ≤ room → added (line_of front) t ≡ line_of (front ++ t)
unfolding added
line_more front t h =
    rw (le-leb (length front + length t) room h, take-append_seam, drop-append-add, drop-drop, length-append front t)

-- a line is of these bytes, and there are at most so many
pub record Says (line : Line) (bytes : List ℕ) (most : ℕ) : Type 0 where
  pub is : line ≡ line_of bytes
  pub few : length bytes ≤ most

pub says_nothing : {line : Line} → line ≡ line_of [] → Says line [] 0
says_nothing e = record { is = e; few = omega arith }

pub says_more : {line next : Line} {front : List ℕ} {most : ℕ} → Says line front most → (t : List ℕ) (k : ℕ) → length t ≤ k → most + k ≤ room → next ≡ added line t → Says next (front ++ t) (most + k)
says_more {line} {next} {front} s t k h fits e =
    let f = s.few in
    record { is = e ∙ ap (λ (l : Line). added l t) s.is ∙ line_more front t (omega arith); few = simp length-append (omega arith) }

-- a line's length counts bytes that it has
pub line_counts : {line : Line} (bytes : List ℕ) → line ≡ line_of bytes → IsPrefixLen line.len line.bytes
line_counts bytes e = rw e (simp length-append (omega arith), rw take-append_seam)
