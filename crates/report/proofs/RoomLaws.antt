-- Full tables have room for every header that is accepted, so that 20 is never answered.
use Prim.Native.Nat.{ℕ, ◌≤◌}
use mathlib.Core.Path.{◌≡◌, refl, sym, ◌∙◌}
use mathlib.Core.Bool.{true, false}
use mathlib.Core.List.{List}
use native.Mathlib.Omega.{arith}
use borrow.Author.Tests.{le-leb}
use lib.ListN.{length}
use Rattle.wire.specs.declared.Fault.{Fault}
use Rattle.wire.specs.Reading.{Step, found, refused}
use Rattle.header.specs.Header.{Header}
use Rattle.header.specs.Tables.{header_of, answer}
use Rattle.header.specs.Answer.{HeaderAnswer}
use Rattle.header.proofs.HeaderLaws.{full_room}
use Rattle.rows.specs.Words.{full_fields, full_columns, full_aliases}
use Rattle.refusals.specs.Refusals.{among, in_header, HeaderNumbers}
use Rattle.refusals.proofs.HeaderNumbers.{header_numbers}
use Rattle.report.specs.declared.Line.{Line}
use Rattle.report.specs.Line.{header_line, line_of}
use Rattle.report.specs.Program.{most_bytes, verdict, printed}
use Rattle.report.specs.Printed.{full_answer, FullTablesSuffice, NeverTwenty}
use Rattle.std.specs.Prelude.{Err}

pub full_tables_suffice : FullTablesSuffice
unfolding answer verdict
full_tables_suffice e = by (header_of e) refl
  where
    by : (x : Step Header) → header_of e ≡ x → answer full_fields full_columns full_aliases x ≡ verdict x
    by (found h p) w = rw (full_room e w)
    by (refused f) w = refl

-- 20 is none of the numbers that a header can be refused with
pub never_twenty : NeverTwenty
unfolding verdict HeaderNumbers among
never_twenty e w = by (header_of e) (header_numbers e) (sym (full_tables_suffice e) ∙ w)
  where
    by : (x : Step Header) → ((f : Fault) → x ≡ refused f → among in_header f.number ≡ true) → verdict x ≡ Err 20 → ⊥
    by (found h p) numbers u = let z : ◌≡◌ {A = ℕ} 0 1 = cc in omega arith
    by (refused f) numbers u =
        let same : f.number ≡ 20 = cc in
        let listed : false ≡ true = rw same at (numbers f refl) in
        let z : ◌≡◌ {A = ℕ} 0 1 = cc in
        omega arith

-- the line for what the reader answers with full tables is the one that is printed
pub header_printed : (input : List ℕ) {a : HeaderAnswer} {line : Line} → length input ≤ most_bytes → a ≡ full_answer (header_of input) → line ≡ line_of (header_line a) → line ≡ line_of (printed input)
unfolding printed
header_printed input h e w = rw (le-leb (length input) most_bytes h, ← full_tables_suffice input, ← e) w
