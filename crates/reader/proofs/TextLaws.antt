-- A string that was read lies in the envelope, and its characters are the bytes that stand there.
use Prim.Native.Nat.{ℕ, ◌+◌, ◌≤◌}
use mathlib.Core.Path.{◌≡◌, refl, subst}
use mathlib.Core.Bool.{Bool, true, false}
use mathlib.Core.List.{List}
use native.Mathlib.Omega.{arith}
use lib.Dec.{leb}
use lib.ListN.{length, take, drop}
use borrow.Author.Tests.{leb-true, le-leb}
use Rattle.numbers.specs.Choice.{pick}
use Rattle.numbers.specs.Numbers.{little}
use Rattle.wire.specs.declared.Kind.TheVariants.{Text as TextKind}
use Rattle.rows.specs.declared.Text.{Text}
use Rattle.wire.specs.Reading.{Step, found, refused, fault}
use Rattle.text.specs.Strings.{string_of}
use Rattle.numbers.proofs.Parts.{cut_length}
use Rattle.reader.specs.Text.{text_of, TextInside, StringInside}

pub text_inside : TextInside
unfolding text_of
text_inside e place len h = simp (le-leb (place + len) (length e) h)

-- a string that is found lies in its container
abbrev Lies : List ℕ → Step Text → Type 0
Lies s (found t next) = t.place + t.len ≤ length s
Lies s (refused f) = Unit {0}

string_lies : (good : List ℕ → Bool) (s : List ℕ) (at : ℕ) → Lies s (string_of good s at)
unfolding string_of
string_lies good s at = sized (leb (at + 4) (length s)) (leb (at + 4 + little 4 s at) (length s)) refl (good (take (little 4 s at) (drop (at + 4) s)))
  where
    sized : (a b : Bool) → leb (at + 4 + little 4 s at) (length s) ≡ b → (c : Bool)
        → Lies s (pick a (pick b (pick c (found (record { place = at + 4; len = little 4 s at }) (at + 4 + little 4 s at)) (refused (fault 9 TextKind at))) (refused (fault 7 TextKind at))) (refused (fault 7 TextKind at)))
    sized true true e true = leb-true _ _ e
    sized true true e false = tt
    sized true false e c = tt
    sized false b e c = tt

pub string_inside : StringInside
string_inside e stop at t next h =
    let within : t.place + t.len ≤ length (take stop e) = subst (Lies (take stop e)) h (string_lies _ (take stop e) at) in
    let cut = cut_length stop e in
    omega arith
