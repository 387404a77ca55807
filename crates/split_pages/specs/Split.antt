-- A split page, of elements that need not fit: each is taken modulo 2 to the width where delta or zigzag asks for it, and its bytes above the planes are not stored.
use Rattle.std.specs.Prelude.{ℕ, ◌+◌, ◌-◌, ◌*◌, ◌/◌, ◌%◌, ◌^◌, Bool, true, not, List, [], ◌∷◌, length, ◌==◌, nat_le}
use Rattle.numbers.specs.Choice.{pick, both}
use Rattle.numbers.specs.Rows.{over}
use Rattle.coding.specs.Layout.{zigzagged, planes}

-- the number that is stored for an element: its difference from the one before, its zigzag form, or itself
abbrev pub element_code : Bool → Bool → ℕ → ℕ → ℕ → ℕ
element_code is_delta is_zigzag w before x =
    pick is_delta ((x % 2 ^ w + 2 ^ w - before % 2 ^ w) % 2 ^ w) (pick is_zigzag (zigzagged w (x % 2 ^ w)) x)

unfoldable pub codes : Bool → Bool → ℕ → ℕ → List ℕ → List ℕ
codes is_delta is_zigzag w before [] = []
codes is_delta is_zigzag w before (x ∷ xs) = element_code is_delta is_zigzag w before x ∷ codes is_delta is_zigzag w x xs

-- whether elements of a width are split: of 16 bits without delta, of 32 and 64
abbrev pub splits : Bool → ℕ → Bool
splits is_delta w = pick (w == 16) (not is_delta) (pick (w == 32) true (w == 64))

-- the planes over lent bytes, where they have room
unfoldable pub split_into : Bool → Bool → ℕ → List ℕ → List ℕ → List ℕ
split_into is_delta is_zigzag w xs old =
    pick (both (splits is_delta w) (nat_le (length xs * (w / 8)) (length old))) (over (planes (w / 8) (codes is_delta is_zigzag w 0 xs)) old) old
