-- What bytes the lines of a listing have.
use Prim.Native.Nat.{ℕ, zero, suc, ◌*◌, ◌≤◌, ◌<◌}
use mathlib.Core.Path.{◌≡◌, refl, ap, subst, ◌∙◌}
use mathlib.Core.Logic.{◌⊎◌, inl, inr}
use mathlib.Core.Bool.{Bool, true, false}
use mathlib.Core.List.{List, [], ◌∷◌, ◌++◌, append_assoc, map-append}
use native.Mathlib.Omega.{arith}
use borrow.Author.Tests.{ltb-false, eqb-false, le-ltb, ne_eqb}
use lib.Dec.{eqb, ltb}
use lib.ListN.{length, replicate}
use Rattle.numbers.specs.Choice.{pick}
use Rattle.numbers.specs.Rows.{flat}
use Rattle.decimals.specs.Decimal.{text, decimal}
use Rattle.decimals.proofs.DigitLaws.{decimal_digits}
use Rattle.rows.specs.declared.FieldRow.{FieldRow}
use Rattle.header.specs.Tables.{parents_of}
use Rattle.moves.proofs.Laws.{field_count_lem, header_rooted}
use Rattle.listing.specs.Order.{Entry, order}
use Rattle.listing.specs.Listed.{fields_in, times}
use Rattle.numbers.specs.Lists.{Each}
use Rattle.numbers.proofs.Lists.{each_append, each_weaken}
use Rattle.listing.specs.Lines.{shown_byte, shown, dark_word, line, entry_line, row_in, dark_in, listing}
use Rattle.listing.specs.Statements.{OneLineEach, Printable, BytesKept}
use Rattle.listing.proofs.TimesLaws.{times_append, times_never}
use Rattle.listing.proofs.RankLaws.{as_many, order_within}

-- a byte that prints as it is
abbrev pub Plain : ℕ → Type 0
Plain b = (32 ≤ b) × (b ≡ 127 → ⊥)

pub bytes_kept : BytesKept
bytes_kept b l n = rw (le-ltb b 32 l, ne_eqb b 127 n)

byte_plain : (b : ℕ) (low last : Bool) → ltb b 32 ≡ low → eqb b 127 ≡ last → Plain (pick low 63 (pick last 63 b))
byte_plain b true last e f = (omega arith, λ z. omega arith)
byte_plain b false true e f = (omega arith, λ z. omega arith)
byte_plain b false false e f = (ltb-false b 32 e, eqb-false b 127 f)

shown_plain : (l : List ℕ) → Each Plain (shown l)
shown_plain [] = tt
shown_plain (b ∷ l) = (byte_plain b (ltb b 32) (eqb b 127) refl refl, shown_plain l)

-- what is shown of bytes that print is they themselves

pub kept : (l : List ℕ) → Each Plain l → shown l ≡ l
kept [] w = refl
kept (b ∷ l) w = λ i. bytes_kept b w.0.0 w.0.1 i ∷ kept l w.1 i

pub spaces_plain : (k : ℕ) → Each Plain (replicate k 32)
spaces_plain zero = tt
spaces_plain (suc k) = ((omega arith, λ e. omega arith), spaces_plain k)

digits_plain : (n : ℕ) → Each Plain (decimal n)
digits_plain n = each_weaken (λ b w. let l = w.0 in let m = w.1 in (omega arith, λ e. omega arith)) (decimal n) (decimal_digits n n (omega arith))

kept_front : (a l : List ℕ) → Each Plain a → shown (a ++ l) ≡ a ++ shown l
kept_front a l w = map-append shown_byte a l ∙ ap (λ (r : List ℕ). r ++ shown l) (kept a w)

-- how a line starts
abbrev pub front : Entry → List ℕ → List ℕ
front x rest = replicate (2 * x.level) 32 ++ (decimal x.field ++ (32 ∷ rest))

-- a line starts so, and has one end
pub record Starts (w : List ℕ) (x : Entry) : Type 0 where
  pub rest : List ℕ
  pub plain : Each Plain (front x rest)
  pub whole : w ≡ front x rest ++ (10 ∷ [])

line_starts : (level field : ℕ) (name type : List ℕ) (d : Bool) → Starts (line level field name type d) (record { field = field; level = level })
unfolding line
line_starts level field name type d =
    let rest = name ++ text " " ++ type ++ dark_word d in
    let whole = replicate (2 * level) 32 ++ decimal field ++ text " " ++ name ++ text " " ++ type ++ dark_word d in
    let parts : whole ≡ replicate (2 * level) 32 ++ (decimal field ++ (32 ∷ rest)) = simp append_assoc in
    let same : shown whole ≡ replicate (2 * level) 32 ++ (decimal field ++ (32 ∷ shown rest))
    = ap shown parts
    ∙ kept_front (replicate (2 * level) 32) (decimal field ++ (32 ∷ rest)) (spaces_plain (2 * level))
    ∙ ap (λ (r : List ℕ). replicate (2 * level) 32 ++ r) (kept_front (decimal field) (32 ∷ rest) (digits_plain field)) in
    record { rest = shown rest; plain = subst (Each Plain) same (shown_plain whole); whole = ap (λ (r : List ℕ). r ++ (10 ∷ [])) same }

pub entry_starts : (e : List ℕ) (row : ℕ → FieldRow) (d : ℕ → Bool) (x : Entry) → Starts (entry_line e row d x) x
unfolding entry_line
entry_starts e row d x = line_starts x.level x.field _ _ _

-- bytes that print, and a line's end

ended_once : (l : List ℕ) → Each Plain l → times 10 (l ++ (10 ∷ [])) ≡ 1
unfolding times
ended_once l w = let r = times_never 10 l (each_weaken (λ b p e. let m = p.0 in omega arith) l w) in times_append 10 l (10 ∷ []) ∙ rw r

abbrev Byte : ℕ → Type 0
Byte b = (b ≡ 10) ⊎ Plain b

ended_plain : (l : List ℕ) → Each Plain l → Each Byte (l ++ (10 ∷ []))
ended_plain l w = each_append Byte l (10 ∷ []) (each_weaken {P = Plain} {Q = Byte} (λ b p. inr p) l w) (inl refl, tt)

module _ {A : Type 0} (w : A → List ℕ) where
  flat_times : (f : ℕ) → ((x : A) → times f (w x) ≡ 1) → (l : List A) → times f (flat w l) ≡ length l
  unfolding flat times
  flat_times f h [] = refl
  flat_times f h (x ∷ l) = let r = flat_times f h l in let s = h x in times_append f (w x) (flat w l) ∙ omega arith

  each_in_flat : (such : ℕ → Type 0) → ((x : A) → Each such (w x)) → (l : List A) → Each such (flat w l)
  unfolding flat
  each_in_flat such h [] = tt
  each_in_flat such h (x ∷ l) = each_append such (w x) (flat w l) (h x) (each_in_flat such h l)

-- lines that are the same for each field
pub lines_same : (w v : Entry → List ℕ) (parents : List ℕ) → ((x : Entry) → x.field < length parents → w x ≡ v x) → flat w (order parents) ≡ flat v (order parents)
unfolding flat
lines_same w v parents e = go (order parents) (order_within parents)
  where
    go : (l : List Entry) → Each (λ k. k < length parents) (fields_in l) → flat w l ≡ flat v l
    go [] all = refl
    go (x ∷ l) all = λ i. e x all.0 i ++ go l all.1 i

pub one_line_each : OneLineEach
unfolding listing
one_line_each e h p w =
    let starts = entry_starts e (row_in h.lists) (dark_in h.lists) in
    flat_times (entry_line e (row_in h.lists) (dark_in h.lists)) 10 (λ x. rw (starts x).whole (ended_once (front x (starts x).rest) (starts x).plain))
    (order (parents_of h.lists.fields))
    ∙ as_many (parents_of h.lists.fields) (header_rooted e w)
    ∙ field_count_lem h.lists.fields

pub printable : Printable
unfolding listing
printable e l =
    let starts = entry_starts e (row_in l) (dark_in l) in
    each_in_flat (entry_line e (row_in l) (dark_in l)) Byte (λ x. rw (starts x).whole (ended_plain (front x (starts x).rest) (starts x).plain))
    (order (parents_of l.fields))
