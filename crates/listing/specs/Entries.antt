-- Entries as rows of a table of words.
use Rattle.std.specs.Prelude.{ℕ, List, [], ◌∷◌, get_or}
use Rattle.rows.specs.Tables.{rows_in, row_words, first_rows}
use Rattle.rows.specs.Statements.{GivesBack}
use Rattle.listing.specs.Order.{Entry}

-- how many words a row has: the field, and its level
abbrev pub entry_width : ℕ
entry_width = 2

abbrev pub entry_words : Entry → List ℕ
entry_words x = x.field ∷ x.level ∷ []

-- the entry that some words are, and row i of a table, zeros where it has no such row whole

abbrev pub entry_is : List ℕ → Entry
entry_is ws = record { field = get_or ws 0 0; level = get_or ws 1 0 }

abbrev pub entry_row : List ℕ → ℕ → Entry
entry_row table i = entry_is (row_words entry_width table i)

-- all rows of a table
abbrev pub entries_in : List ℕ → List Entry
entries_in table = first_rows entry_row table (rows_in entry_width table)

-- a table that starts with the words of some entries gives these back
abbrev pub EntriesBack : Type 0
EntriesBack = GivesBack entry_words entry_row
