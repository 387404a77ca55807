-- Rows of words in a lent table.
use Rattle.std.specs.Prelude.{ℕ, suc, ◌+◌, List, [], ◌∷◌, ◌++◌, length, take, drop, leb}
use Rattle.numbers.specs.Choice.{pick}

-- words written into a table from a place on, where there is room
unfoldable pub put : List ℕ → ℕ → List ℕ → List ℕ
put table at words =
    pick (leb (at + length words) (length table)) (take at table ++ words ++ drop (at + length words) table) table

-- all rows, one after the other
unfoldable pub flat : {A : Type 0} → (A → List ℕ) → List A → List ℕ
flat w [] = []
flat w (a ∷ rest) = w a ++ flat w rest

-- the same where the words of a row depend on its number, from number i on
unfoldable pub flat_by : {A : Type 0} → (ℕ → A → List ℕ) → ℕ → List A → List ℕ
flat_by w i [] = []
flat_by w i (a ∷ rest) = w i a ++ flat_by w (suc i) rest

-- a lent table that holds these words in front, and beyond them what it held
abbrev pub over : List ℕ → List ℕ → List ℕ
over words old = words ++ drop (length words) old
