-- The room that is left.
use Rattle.std.specs.Prelude.{ℕ, ◌-◌, ◌≡◌, leb, Option, Some, None}
use Rattle.numbers.specs.Choice.{pick}

-- after so many bytes more: none where they do not fit
unfoldable pub room_after : Option ℕ → ℕ → Option ℕ
room_after (Some n) len = pick (leb len n) (Some (n - len)) None
room_after None len = None

-- what a call leaves of some room that takes so many bytes of it
pub record Taken (room : Option ℕ) (len : ℕ) (left : Option ℕ) : Type 0 where
  pub is : left ≡ room_after room len
