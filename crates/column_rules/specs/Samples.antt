-- Worked calls on a column of Bit pages in a small part of a file. All of them compute.
use Rattle.std.specs.Prelude.{ℕ, ◌-◌, ◌^◌, List, [], ◌∷◌, ◌++◌, map, ◌≡◌, replicate}
use Rattle.column_rules.specs.Column.{accept_all, refuse_at, Decoding, index_of, whole_column}
use Rattle.column_rules.specs.Statements.{in_column}

-- nine bits at place 3 with their checksum behind them, and four bits at place 10, its last byte
abbrev pub sample_file : List ℕ
sample_file = 255 ∷ 255 ∷ 255 ∷ 1 ∷ 1 ∷ 40 ∷ 19 ∷ 197 ∷ 47 ∷ 238 ∷ 11 ∷ []

abbrev pub nine_bits : List ℕ
nine_bits = 3 ∷ 2 ∷ 9 ∷ 7 ∷ []

abbrev pub four_bits : List ℕ
four_bits = 10 ∷ 1 ∷ 4 ∷ 0 ∷ []

abbrev pub nine_words : List ℕ
nine_words = 1 ∷ 0 ∷ 0 ∷ 0 ∷ 0 ∷ 0 ∷ 0 ∷ 0 ∷ 1 ∷ []

-- what a call on this file part leaves for a type and a table, in so many words that were 77
abbrev pub sample_column : ℕ → List ℕ → ℕ → Decoding
sample_column t table room = whole_column t sample_file table (replicate room 77)

pub record Samples : Type 0 where
  -- page after page, without gaps, and no word after them
  pub both_pages : sample_column 6 (nine_bits ++ four_bits) 14 ≡ record { outcome = accept_all 2; words = nine_words ++ (1 ∷ 1 ∷ 0 ∷ 1 ∷ 77 ∷ []) }
  -- in the order of the table, not of the file part
  pub other_order : sample_column 6 (four_bits ++ nine_bits) 14 ≡ record { outcome = accept_all 2; words = (1 ∷ 1 ∷ 0 ∷ 1 ∷ nine_words) ++ (77 ∷ []) }
  -- no room for the second: the first stays decoded
  pub room_for_one : sample_column 6 (nine_bits ++ four_bits) 12 ≡ record { outcome = refuse_at 20 1; words = nine_words ++ (77 ∷ 77 ∷ 77 ∷ []) }
  -- the second is refused, and the third, which is the first once more, is not decoded
  pub third_unseen : sample_column 6 (nine_bits ++ (11 ∷ 1 ∷ 4 ∷ 0 ∷ []) ++ nine_bits) 20 ≡ record { outcome = refuse_at 18 1; words = nine_words ++ replicate 11 77 }
  -- four bits one byte further on: outside the file part
  pub one_byte_further : sample_column 6 (11 ∷ 1 ∷ 4 ∷ 0 ∷ []) 4 ≡ record { outcome = refuse_at 18 0; words = replicate 4 77 }
  -- four bits with a checksum behind them: its bytes are outside
  pub check_bytes_outside : sample_column 6 (10 ∷ 1 ∷ 4 ∷ 1 ∷ []) 4 ≡ record { outcome = refuse_at 18 0; words = replicate 4 77 }
  -- the greatest offset: nothing wraps
  pub greatest_offset : sample_column 6 ((2 ^ 64 - 1) ∷ 1 ∷ 4 ∷ 0 ∷ []) 4 ≡ record { outcome = refuse_at 18 0; words = replicate 4 77 }
  -- Switch, and too many elements, before a page is outside
  pub type_first : sample_column 3 (11 ∷ 1 ∷ 4 ∷ 0 ∷ []) 4 ≡ record { outcome = refuse_at 23 0; words = replicate 4 77 }
  pub count_first : sample_column 6 (11 ∷ 1 ∷ 131073 ∷ 0 ∷ []) 4 ≡ record { outcome = refuse_at 10 0; words = replicate 4 77 }
  -- no pages of a type that is not known; three words are no row
  pub no_pages : sample_column 99 (11 ∷ 1 ∷ 4 ∷ []) 4 ≡ record { outcome = accept_all 0; words = replicate 4 77 }

-- the numbers of `inColumn` are no more than there are: a call that is refused by each of them, in order

pub record SampleCall : Type 0 where
  pub column_type : ℕ
  pub table : List ℕ
  pub room : ℕ

abbrev pub sample_call : SampleCall → Decoding
sample_call c = sample_column c.column_type c.table c.room

abbrev pub sample_calls : List SampleCall
sample_calls =
    -- 23: Switch
    record { column_type = 3; table = nine_bits ++ four_bits; room = 14 }
    -- 10: 131,073 elements
    ∷ record { column_type = 6; table = nine_bits ++ (10 ∷ 1 ∷ 131073 ∷ 0 ∷ []); room = 14 }
    -- 18: one byte past the file part
    ∷ record { column_type = 6; table = nine_bits ++ (10 ∷ 2 ∷ 4 ∷ 0 ∷ []); room = 14 }
    -- 21: two bytes for eight bits
    ∷ record { column_type = 6; table = (3 ∷ 2 ∷ 8 ∷ 0 ∷ []) ++ four_bits; room = 14 }
    -- 22: the checksum read one byte too early
    ∷ record { column_type = 6; table = nine_bits ++ (2 ∷ 2 ∷ 9 ∷ 1 ∷ []); room = 18 }
    -- 24: four bits in a byte that has eight
    ∷ record { column_type = 6; table = nine_bits ++ (2 ∷ 1 ∷ 4 ∷ 0 ∷ []); room = 14 }
    -- 20: room for twelve of thirteen
    ∷ record { column_type = 6; table = nine_bits ++ four_bits; room = 12 } ∷ []

pub record EachGiven : Type 0 where
  pub numbers : map (λ (c : SampleCall). (sample_call c).outcome.number) sample_calls ≡ in_column
  pub indexes : map (λ (c : SampleCall). index_of (sample_call c)) sample_calls ≡ 0 ∷ 1 ∷ 1 ∷ 0 ∷ 1 ∷ 1 ∷ 1 ∷ []
