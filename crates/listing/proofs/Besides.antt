-- A listing beside a call of the header's reader.
use Prim.Native.Nat.{ℕ}
use mathlib.Core.Path.{◌≡◌, refl, sym, ◌∙◌}
use mathlib.Core.Logic.{⊎_elim}
use mathlib.Core.Bool.{Bool, true, false}
use mathlib.Core.List.{List}
use native.Mathlib.Omega.{arith}
use lib.ListN.{length}
use Rattle.numbers.specs.Choice.{pick}
use Rattle.wire.specs.Reading.{Step, found, refused}
use Rattle.header.specs.Header.{Header}
use Rattle.header.specs.Tables.{header_of, room_for, tables_of, answer as headerAnswer}
use Rattle.header.specs.declared.HeaderTables.{HeaderTables}
use Rattle.listing.specs.Lines.{listing}
use Rattle.listing.specs.Answers.{fitted, answer}
use Rattle.listing.specs.Statements.{BesideReader, ListBesideReader}
use Rattle.listing.proofs.CallLaws.{fitted_is, not_both, refused_same}
use Rattle.std.specs.Prelude.{Ok, Err}

-- a refusal by room alone is 20

room_refused : (fits : Bool) (t : HeaderTables) (k : ℕ) → pick fits (Ok t) (Err 20) ≡ Err k → k ≡ 20
room_refused true t k e = absurd (let z : ◌≡◌ {A = ℕ} 0 1 = cc in omega arith)
room_refused false t k e = cc

fitted_refused : (room : ℕ) (bytes : List ℕ) (k : ℕ) → fitted room bytes ≡ Err k → k ≡ 20
fitted_refused room bytes k e = ⊎_elim (λ r. absurd (not_both r.1 e)) (λ r. refused_same (sym e ∙ r.1)) (fitted_is room bytes)

by_step : (e : List ℕ) (room f c a : ℕ) (x : Step Header) → header_of e ≡ x → BesideReader e room (headerAnswer f c a x) (answer room e x)
unfolding headerAnswer answer
by_step e room f c a (found h p) w =
    record {
      accepts = λ t q. (h, p, w, fitted_is room (listing e h.lists));
      refuses = λ k q other. absurd (other (room_refused (room_for f c a h.lists) (tables_of h) k q));
      refused = λ k q other. absurd (other (fitted_refused room (listing e h.lists) k q));
    }
by_step e room f c a (refused g) w =
    record {
      accepts = λ t q. absurd (let z : ◌≡◌ {A = ℕ} 0 1 = cc in omega arith);
      refuses = λ k q _. cc;
      refused = λ k q _. cc;
    }

pub list_beside_reader : ListBesideReader
list_beside_reader e f f' c c' a a' out out' r s reads call =
    rw (reads.answers, call.answers) (by_step e (length out) (length f) (length c) (length a) (header_of e) refl)
