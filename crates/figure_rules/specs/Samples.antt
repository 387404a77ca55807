-- Worked calls on a report, with a page list of two columns. All of them compute.
use Rattle.std.specs.Prelude.{ℕ, ◌-◌, ◌^◌, List, [], ◌∷◌, ◌++◌, Bool, true, false, ◌≡◌, replicate}
use Rattle.wire.specs.declared.Kind.TheVariants.{Number, Total}
use Rattle.header.specs.Beside.{Beside, read, refusal}
use Rattle.rows.specs.declared.PageRow.{PageRow}
use Rattle.figure_rules.specs.declared.ListCounts.{ListCounts}
use Rattle.figure_rules.specs.Answer.{ReportAnswer}
use Rattle.figure_rules.specs.Report.{Report, list_figures, reported}
use Rattle.std.specs.Prelude.{Ok, Err}

abbrev pub sample_page : ℕ → ℕ → Bool → ℕ → PageRow
sample_page c elements checksum size = record { column = record { 0 = c }; elements = elements; checksum = checksum; size = size; offset = 64 }

-- two pages of the first column, of which one has a checksum, and a page of the second
abbrev pub sample_list : List (List PageRow)
sample_list = (sample_page 0 5 true 20 ∷ sample_page 0 3 false 12 ∷ []) ∷ (sample_page 1 9 true 2 ∷ []) ∷ []

-- pages, elements, stored sizes without check bytes, pages with a checksum
abbrev pub sample_figures : List ℕ
sample_figures = 2 ∷ 8 ∷ 32 ∷ 1 ∷ 1 ∷ 9 ∷ 2 ∷ 1 ∷ []

-- a list that its reader refuses 19, and one whose header is refused 7
abbrev pub sample_refusal : Beside (List (List PageRow))
sample_refusal = refusal 3 (record { number = 19; place = 0; kind = Total; list = 0; item = 0 })

abbrev pub header_refusal : Beside (List (List PageRow))
header_refusal = refusal 1 (record { number = 7; place = 4; kind = Number; list = 0; item = 0 })

abbrev pub counts : ℕ → ℕ → ListCounts
counts accepted refused = record { accepted = accepted; refused = refused }

abbrev pub leaves : ReportAnswer → List ℕ → Report
leaves answer words = record { answer = answer; words = words }

-- a report of two rows at zeros whose third word alone is another, with a word left over
abbrev pub third_word : ℕ → List ℕ
third_word n = 0 ∷ 0 ∷ n ∷ 0 ∷ 0 ∷ 0 ∷ 0 ∷ 0 ∷ 77 ∷ []

pub record Samples : Type 0 where
  pub figures : list_figures sample_list ≡ sample_figures
  -- at zeros, with a word left over, which stays
  pub first : reported (read sample_list) (counts 0 0) (third_word 0) ≡ leaves (Ok (counts 1 0)) (sample_figures ++ (77 ∷ []))
  -- added to what is there; a third row stays
  pub second : reported (read sample_list) (counts 1 4) (sample_figures ++ (5 ∷ 6 ∷ 7 ∷ 8 ∷ []))
      ≡ leaves (Ok (counts 2 4)) (4 ∷ 16 ∷ 64 ∷ 2 ∷ 2 ∷ 18 ∷ 4 ∷ 2 ∷ 5 ∷ 6 ∷ 7 ∷ 8 ∷ [])
  -- a refused list adds nothing and is counted apart
  pub refused_list : reported sample_refusal (counts 1 4) (third_word 3) ≡ leaves (Err (record { envelope = 3; number = 19; lists = counts 1 5 })) (third_word 3)
  pub refused_header : reported header_refusal (counts 1 4) (third_word 3) ≡ leaves (Err (record { envelope = 1; number = 7; lists = counts 1 5 })) (third_word 3)
  -- seven words are one row: too few for two columns, whatever their figures
  pub too_few_rows : reported (read sample_list) (counts 1 4) (replicate 7 (2 ^ 64 - 1)) ≡ leaves (Err (record { envelope = 3; number = 20; lists = counts 1 4 })) (replicate 7 (2 ^ 64 - 1))
  -- the reader's refusal comes before the rows
  pub refusal_first : reported sample_refusal (counts 1 4) [] ≡ leaves (Err (record { envelope = 3; number = 19; lists = counts 1 5 })) []
  -- sizes up to the greatest number of 64 bits
  pub greatest_figure : reported (read sample_list) (counts 1 4) (third_word (2 ^ 64 - 33))
      ≡ leaves (Ok (counts 2 4)) (2 ∷ 8 ∷ (2 ^ 64 - 1) ∷ 1 ∷ 1 ∷ 9 ∷ 2 ∷ 1 ∷ 77 ∷ [])
  -- and one past it: no word is added
  pub figure_past : reported (read sample_list) (counts 1 4) (third_word (2 ^ 64 - 32)) ≡ leaves (Err (record { envelope = 3; number = 10; lists = counts 1 4 })) (third_word (2 ^ 64 - 32))
  -- the last of 1,024 lists
  pub last_list : reported (read sample_list) (counts 1000 23) (third_word 0) ≡ leaves (Ok (counts 1001 23)) (sample_figures ++ (77 ∷ []))
  pub last_refused : reported sample_refusal (counts 1000 23) [] ≡ leaves (Err (record { envelope = 3; number = 19; lists = counts 1000 24 })) []
  -- one list more: before its reader's refusal and before the rows
  pub list_too_many : reported sample_refusal (counts 1000 24) [] ≡ leaves (Err (record { envelope = 3; number = 10; lists = counts 1000 24 })) []
  pub rows_later : reported (read sample_list) (counts 0 1024) [] ≡ leaves (Err (record { envelope = 3; number = 10; lists = counts 0 1024 })) []
  -- the greatest counts: their sum does not wrap
  pub greatest_counts : reported (read sample_list) (counts (2 ^ 64 - 1) 1) (third_word 0) ≡ leaves (Err (record { envelope = 3; number = 10; lists = counts (2 ^ 64 - 1) 1 })) (third_word 0)
  -- a header without columns needs no row
  pub no_columns : reported (read []) (counts 0 0) [] ≡ leaves (Ok (counts 1 0)) []
