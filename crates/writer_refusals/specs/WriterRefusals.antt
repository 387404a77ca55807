-- Which refusals each writer can give, by envelope and number; and that the one number of a call tells them.
use Rattle.std.specs.Prelude.{ℕ, List, [], ◌∷◌}
use Rattle.records.specs.declared.HeaderTexts.{HeaderTexts}
use Rattle.refusals.specs.Refusals.{with_room, of_first, of_beside, Told}
use Rattle.writing.specs.Answers.{header_to_write, footer_to_write, page_list_to_write, outcome_of, Answered}
use Rattle.writing.specs.Answer.{WriteAnswer}

-- A number too wide for its place is 25. Feature words, frames, sizes and checksums are written as they are due, and nothing is spare.

abbrev pub to_write_header : List ℕ
to_write_header = 1 ∷ 7 ∷ 9 ∷ 10 ∷ 12 ∷ 13 ∷ 14 ∷ 15 ∷ 25 ∷ []

abbrev pub to_write_footer : List ℕ
to_write_footer = 1 ∷ 10 ∷ 18 ∷ 19 ∷ 25 ∷ []

abbrev pub to_write_page_list : List ℕ
to_write_page_list = 1 ∷ 10 ∷ 14 ∷ 17 ∷ 18 ∷ 19 ∷ 25 ∷ []

-- every call of each writer

unfoldable pub HeaderWriterRefusals : Type 0
HeaderWriterRefusals =
    (strings : List ℕ) (texts : HeaderTexts) (fields columns aliases out₀ out : List ℕ) (r : WriteAnswer) → Answered 1 (header_to_write strings texts fields columns aliases) out₀ out r
    → Told (of_first (with_room to_write_header)) (outcome_of r)

unfoldable pub FooterWriterRefusals : Type 0
FooterWriterRefusals =
    (header : List ℕ) (file : ℕ) (clusters metadata out₀ out : List ℕ) (r : WriteAnswer) → Answered 2 (footer_to_write header file clusters metadata) out₀ out r
    → Told (of_beside 2 to_write_footer) (outcome_of r)

unfoldable pub PageListWriterRefusals : Type 0
PageListWriterRefusals =
    (header : List ℕ) (entries file : ℕ) (pages out₀ out : List ℕ) (r : WriteAnswer) → Answered 3 (page_list_to_write header entries file pages) out₀ out r
    → Told (of_beside 3 to_write_page_list) (outcome_of r)
