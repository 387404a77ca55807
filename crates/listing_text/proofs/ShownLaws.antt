-- What is shown of text is text: every byte of a character of two to four bytes is at least 128, and such a byte stands as it is.
use Prim.Native.Nat.{ℕ, ◌+◌, ◌/◌, ◌%◌, ◌≤◌, ◌<◌}
use mathlib.Core.Path.{◌≡◌, refl, sym, ap, ap₂, ◌∙◌}
use mathlib.Core.Bool.{Bool, true, false}
use mathlib.Core.List.{List, [], ◌∷◌, ◌++◌, map, map-append}
use native.Mathlib.Omega.{arith}
use lib.Dec.{eqb, ltb}
use Rattle.numbers.specs.Choice.{pick}
use Rattle.numbers.specs.Rows.{flat}
use Rattle.numbers.proofs.Choice.{both_true}
use Rattle.utf8.specs.Scalars.{scalar, scalars, encoded, Text}
use Rattle.utf8.proofs.Bits.{encoded_one, encoded_two, encoded_three, encoded_four, by_size}
use Rattle.listing.specs.Lines.{shown_byte, shown}
use Rattle.listing.proofs.LineLaws.{bytes_kept}
use Rattle.listing_text.specs.Statements.{ShownByCharacter}

-- one byte, or one character

high_kept : (b : ℕ) → 128 ≤ b → shown_byte b ≡ b
high_kept b h = bytes_kept b (omega arith) (omega arith)

low_shown : (b : ℕ) → b < 128 → shown_byte b < 128
low_shown b h = by (ltb b 32) (eqb b 127)
  where
    by : (low last : Bool) → pick low 63 (pick last 63 b) < 128
    by true last = omega arith
    by false true = omega arith
    by false false = h

character_shown : (c : ℕ) → shown (encoded c) ≡ encoded (shown_byte c)
character_shown c =
    by_size c (λ s. shown s ≡ encoded (shown_byte c))
    (λ h. sym (encoded_one (shown_byte c) (low_shown c h)))
    (λ h g. rw (high_kept c (omega arith), encoded_two c h g, high_kept (0xC0 + c / 64) (omega arith), high_kept (0x80 + c % 64) (omega arith)))
    (λ h g. rw (high_kept c (omega arith), encoded_three c h g, high_kept (0xE0 + c / 4096) (omega arith), high_kept (0x80 + c / 64 % 64) (omega arith), high_kept (0x80 + c % 64) (omega arith)))
    (λ h. rw (high_kept c (omega arith), encoded_four c h, high_kept (0xF0 + c / 262144) (omega arith), high_kept (0x80 + c / 4096 % 64) (omega arith), high_kept (0x80 + c / 64 % 64) (omega arith), high_kept (0x80 + c % 64) (omega arith)))

pub shown_by_character : ShownByCharacter
unfolding flat
shown_by_character [] = refl
shown_by_character (c ∷ cs) = map-append shown_byte (encoded c) (flat encoded cs) ∙ ap₂ (λ (x y : List ℕ). x ++ y) (character_shown c) (shown_by_character cs)

-- what is shown of a scalar value is one

scalar_shown : (c : ℕ) → scalar c ≡ true → scalar (shown_byte c) ≡ true
scalar_shown c good = by (ltb c 32) (eqb c 127)
  where
    by : (low last : Bool) → scalar (pick low 63 (pick last 63 c)) ≡ true
    by true last = refl
    by false true = refl
    by false false = good

scalars_shown : (cs : List ℕ) → scalars cs ≡ true → scalars (map shown_byte cs) ≡ true
unfolding scalars
scalars_shown [] good = refl
scalars_shown (c ∷ cs) good = let (first, rest) = both_true (scalar c) (scalars cs) good in rw (scalar_shown c first) (scalars_shown cs rest)

pub shown_text : {s : List ℕ} → Text s → Text (shown s)
shown_text t =
    record { values = map shown_byte t.values; good = scalars_shown t.values t.good; is = sym (shown_by_character t.values) ∙ ap shown t.is }
