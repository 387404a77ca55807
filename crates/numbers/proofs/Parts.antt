-- The front of a list, a lent part from a place to the end, and the slice with such a part put back.
-- Assumes nothing.
use mathlib.Core.Path.{◌≡◌, ap, ◌∙◌}
use mathlib.Core.List.{List, [], ◌∷◌, ◌++◌, append_assoc, append-nil}
use Prim.Native.Nat.{ℕ, zero, suc, ◌+◌, ◌-◌, ◌≤◌}
use native.Mathlib.Nat.{le_of_eq}
use native.Mathlib.Omega.{arith}
use lib.ListN.{length, take, drop, length-append, length-drop, drop_of_length-le}
use lib.Seq.{take_all, length-take-le, drop-drop}
use borrow.Author.Tests.{le-leb}
use borrow.Rule.Slice.PartMut.{put_mid}
use Rattle.numbers.specs.Rows.{put, over}

pub cut_length : (stop : ℕ) (s : List ℕ) → (length (take stop s) ≤ stop) × (length (take stop s) ≤ length s)
cut_length zero s = (omega arith, omega arith)
cut_length (suc n) [] = (omega arith, omega arith)
cut_length (suc n) (x ∷ xs) = let r = cut_length n xs in (omega arith, omega arith)

-- a table that holds words in front is as long as it was
pub over_length : (words old : List ℕ) → length words ≤ length old → length (over words old) ≡ length old
over_length words old h = omega (arith, length-append words (drop (length words) old), length-drop (length words) old)

pub rest_of : (start : ℕ) (old : List ℕ) → take (length old - start) (drop start old) ≡ drop start old
rest_of start old = take_all (length old - start) (drop start old) (le_of_eq (length-drop start old))

pub put_rest : (start : ℕ) (old new : List ℕ) → put_mid start (length old - start) old new ≡ take start old ++ new
put_rest start old new =
    ap (λ (l : List ℕ). take start old ++ (new ++ l)) (drop_of_length-le (drop start old) (le_of_eq (length-drop start old)))
    ∙ ap (λ (l : List ℕ). take start old ++ l) (append-nil new)

-- words put into a part that has just their number, and the part put back
pub put_part : (old : List ℕ) (at n : ℕ) (words : List ℕ) → length words ≡ n → at + n ≤ length old
    → put_mid at n old (put (take n (drop at old)) 0 words) ≡ put old at words
unfolding put
put_part old at n words many h =
    let part = take n (drop at old) in
    let long : length part ≡ n = length-take-le n (drop at old) (omega (arith, length-drop at old)) in
    let all : length part ≤ 0 + n = omega arith in
    rw (many, le-leb (0 + n) (length part) (omega arith), le-leb (at + n) (length old) h, drop_of_length-le part all, append-nil words, drop-drop n at old, append_assoc)
