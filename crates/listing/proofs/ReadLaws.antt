-- The bytes of a listing tell the field and the level of each line.
use Prim.Native.Nat.{ℕ, zero, suc, ◌*◌, ◌≤◌}
use mathlib.Core.Path.{◌≡◌, refl, sym, ap, ◌∙◌}
use mathlib.Core.List.{List, [], ◌∷◌, ◌++◌, append_assoc}
use native.Mathlib.Omega.{arith}
use lib.ListN.{length, replicate, length-append}
use Rattle.numbers.specs.Rows.{flat}
use Rattle.decimals.specs.Decimal.{decimal}
use Rattle.decimals.proofs.DigitLaws.{decimal_some, decimal_digits, decimal_same}
use Rattle.header.specs.Tables.{parents_of}
use Rattle.moves.proofs.Laws.{header_rooted}
use Rattle.listing.specs.Order.{Entry, order}
use Rattle.numbers.specs.Lists.{Each}
use Rattle.numbers.proofs.Lists.{each_weaken}
use Rattle.listing.specs.Lines.{entry_line, row_in, dark_in, listing}
use Rattle.listing.specs.Statements.{ListingTells}
use Rattle.listing.proofs.LineLaws.{front, Starts, entry_starts}
use Rattle.listing.proofs.TellingLaws.{order_tells}

-- two lists of bytes in front of a byte that is in neither
split : (sep : ℕ) (a a' b b' : List ℕ) → Each (λ x. x ≡ sep → ⊥) a → Each (λ x. x ≡ sep → ⊥) a' → a ++ (sep ∷ b) ≡ a' ++ (sep ∷ b') → (a ≡ a') × (b ≡ b')
split sep [] [] b b' u v e = (refl, (cc))
split sep [] (x ∷ a') b b' u v e = absurd (v.0 (cc))
split sep (x ∷ a) [] b b' u v e = absurd (u.0 (cc))
split sep (x ∷ a) (x' ∷ a') b b' u v e =
    let here : x ≡ x' = cc in
    let rest : a ++ (sep ∷ b) ≡ a' ++ (sep ∷ b') = cc in
    let r = split sep a a' b b' u.1 v.1 rest in
    (λ i. here i ∷ r.0 i, r.1)

-- two runs of one byte in front of others
runs : (k j j' : ℕ) (d d' b b' : List ℕ) → 1 ≤ length d → 1 ≤ length d' → Each (λ x. x ≡ k → ⊥) d → Each (λ x. x ≡ k → ⊥) d'
    → replicate j k ++ (d ++ b) ≡ replicate j' k ++ (d' ++ b') → (j ≡ j') × (d ++ b ≡ d' ++ b')
runs k j j' [] d' b b' l m u v e = absurd (omega arith)
runs k j j' (x ∷ d) [] b b' l m u v e = absurd (omega arith)
runs k zero zero (x ∷ d) (x' ∷ d') b b' l m u v e = (refl, e)
runs k zero (suc j') (x ∷ d) (x' ∷ d') b b' l m u v e = absurd (u.0 (cc))
runs k (suc j) zero (x ∷ d) (x' ∷ d') b b' l m u v e = absurd (v.0 (cc))
runs k (suc j) (suc j') (x ∷ d) (x' ∷ d') b b' l m u v e =
    let rest : replicate j k ++ ((x ∷ d) ++ b) ≡ replicate j' k ++ ((x' ∷ d') ++ b') = cc in
    let r = runs k j j' (x ∷ d) (x' ∷ d') b b' l m u v rest in
    (ap suc r.0, r.1)

front_same : (x x' : Entry) (r r' : List ℕ) → front x r ≡ front x' r' → x ≡ x'
front_same x x' r r' e =
    let digits : (n : ℕ) → Each (λ b. b ≡ 32 → ⊥) (decimal n) = λ n. each_weaken (λ b w e. let l = w.0 in omega arith) (decimal n) (decimal_digits n n (omega arith)) in
    let f = x.field in
    let g = x'.field in
    let a = runs 32 (2 * x.level) (2 * x'.level) (decimal f) (decimal g) (32 ∷ r) (32 ∷ r') (decimal_some f f) (decimal_some g g) (digits f) (digits g) e in
    let b = split 32 (decimal f) (decimal g) r r' (digits f) (digits g) a.1 in
    let level : x.level ≡ x'.level = let c = a.0 in omega arith in
    let field = decimal_same f g b.0 in
    λ i. record { field = field i; level = level i }

-- a line and what follows it: something, and the line's end in its place

module _ {w : List ℕ} {x : Entry} (s : Starts w x) (after : List ℕ) where
  some : length (w ++ after) ≡ 0 → ⊥
  some e =
      let a = length-append w after in
      let b = ap length s.whole in
      let c = length-append (front x s.rest) (10 ∷ []) in
      omega arith

  first : w ++ after ≡ front x s.rest ++ (10 ∷ after)
  first = ap (λ (r : List ℕ). r ++ after) s.whole ∙ append_assoc (front x s.rest) (10 ∷ []) after

  unended : Each (λ b. b ≡ 10 → ⊥) (front x s.rest)
  unended = each_weaken (λ b p e. let l = p.0 in omega arith) (front x s.rest) s.plain

-- so lines tell their fields and levels
lines_tell : (w w' : Entry → List ℕ) → ((x : Entry) → Starts (w x) x) → ((x : Entry) → Starts (w' x) x) → (l l' : List Entry) → flat w l ≡ flat w' l' → l ≡ l'
unfolding flat
lines_tell w w' s s' [] [] e = refl
lines_tell w w' s s' [] (x ∷ l') e = absurd (some (s' x) (flat w' l') (ap length (sym e)))
lines_tell w w' s s' (x ∷ l) [] e = absurd (some (s x) (flat w l) (ap length e))
lines_tell w w' s s' (x ∷ l) (x' ∷ l') e =
    let r = split 10 _ _ (flat w l) (flat w' l') (unended (s x) (flat w l)) (unended (s' x') (flat w' l')) (sym (first (s x) (flat w l)) ∙ e ∙ first (s' x') (flat w' l')) in
    let same = front_same x x' (s x).rest (s' x').rest r.0 in
    let others = lines_tell w w' s s' l l' r.1 in
    λ i. same i ∷ others i

pub listing_tells : ListingTells
unfolding listing
listing_tells e e' h h' p p' r r' same =
    order_tells (parents_of h.lists.fields) (parents_of h'.lists.fields) (header_rooted e r) (header_rooted e' r')
    (lines_tell (entry_line e (row_in h.lists) (dark_in h.lists)) (entry_line e' (row_in h'.lists) (dark_in h'.lists))
    (entry_starts e (row_in h.lists) (dark_in h.lists)) (entry_starts e' (row_in h'.lists) (dark_in h'.lists))
    (order (parents_of h.lists.fields)) (order (parents_of h'.lists.fields)) same)
