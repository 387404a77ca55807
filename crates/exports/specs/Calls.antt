-- What the calls answer that have bytes alone.
use Rattle.std.specs.Prelude.{ℕ, List, ◌≡◌}
use Rattle.rows.specs.Words.{bit}
use Rattle.utf8.specs.WellFormed.{well_formed}

-- the answer is a number of the bytes
abbrev pub BytesCall : (List ℕ → ℕ) → List ℕ → ℕ → Type 0
BytesCall of bytes r = r ≡ of bytes

-- 1 for yes, 0 for no
abbrev pub is_utf8 : List ℕ → ℕ
is_utf8 bytes = bit (well_formed bytes)
