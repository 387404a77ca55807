-- What the sum of the moves is, with no bound on them, how large it can be, and when there is none.
use Prim.Native.Nat.{ℕ, ◌*◌, ◌-◌, ◌≤◌}
use mathlib.Core.Path.{◌≡◌, refl, sym, ap, ◌∙◌}
use mathlib.Core.Bool.{Bool, true, false}
use native.Mathlib.Nat.{mul-le-mul_left}
use native.Mathlib.Omega.{arith}
use lib.ListN.{length}
use Rattle.numbers.specs.Choice.{pick}
use Rattle.wire.specs.Reading.{Step, found, refused}
use Rattle.chain_moves.specs.Moves.{all_moves}
use Rattle.chain_moves.specs.Distances.{most_moves}
use Rattle.chain_moves.proofs.Distances.{all_moves_as_defined, all_moves_capped, chains_reach_cap}
use Rattle.header.specs.Header.{Header}
use Rattle.header.specs.Tables.{header_of, parents_of, room_for, tables_of}
use Rattle.header.specs.Tables.{answer as headerAnswer}
use Rattle.header.specs.Answer.{HeaderAnswer}
use Rattle.header.proofs.HeaderLaws.{fields_few}
use Rattle.moves.specs.Moves.{answer}
use Rattle.moves.specs.Statements.{MovesAsDefined, MovesCapped, ChainMoves, BesideReader, MovesBesideReader}
use Rattle.moves.proofs.Laws.{told, field_count_lem, header_rooted, answer_found}
use Rattle.std.specs.Prelude.{Ok, Err}

abbrev number_in : HeaderAnswer → ℕ
number_in (Ok t) = 0
number_in (Err k) = k

number_same : {j k : ℕ} → ◌≡◌ {A = HeaderAnswer} (Err j) (Err k) → j ≡ k
number_same e = ap number_in e

pub moves_as_defined : MovesAsDefined
moves_as_defined e h p r w call total =
    let is : r ≡ Ok (all_moves (parents_of h.lists.fields)) = call.answers ∙ answer_found w in
    let sum = all_moves_as_defined (parents_of h.lists.fields) (header_rooted e w) total in
    (λ q. sum.0 (ap told (sym is ∙ q)), λ s. is ∙ ap Ok (sum.1 s))

-- as many as 512 fields can have
most_moves_lem : (n : ℕ) → n ≤ 512 → most_moves n ≤ 130816
most_moves_lem n few =
    let a : n * (n - 1) ≤ n * 511 = mul-le-mul_left n (omega arith) in
    omega arith

pub moves_capped : MovesCapped
moves_capped e h p total w call =
    let is : total ≡ all_moves (parents_of h.lists.fields) = ap told (call.answers ∙ answer_found w) in
    let cap = all_moves_capped (parents_of h.lists.fields) (header_rooted e w) in
    let same = ap most_moves (field_count_lem h.lists.fields) in
    let most = most_moves_lem (length h.lists.fields) (fields_few e w) in
    (omega arith, omega arith)

pub chain_moves : ChainMoves
chain_moves e h p r w call chain =
    call.answers ∙ answer_found w ∙ ap Ok (ap all_moves chain ∙ (chains_reach_cap (length h.lists.fields)).reached)

-- beside a call of the header's reader
by_room : (x : Step Header) (f c a : ℕ) → BesideReader (headerAnswer f c a x) (answer x)
unfolding headerAnswer answer
by_room (found h p) f c a = by (room_for f c a h.lists)
  where
    by : (b : Bool) → BesideReader (pick b (Ok (tables_of h)) (Err 20)) (Ok (all_moves (parents_of h.lists.fields)))
    by true = record { accepts = λ t e. (_, refl); refuses = λ k e other. absurd (let z : ◌≡◌ {A = ℕ} 0 1 = cc in omega arith); refused = λ k e. absurd (let z : ◌≡◌ {A = ℕ} 0 1 = cc in omega arith) }
    by false = record { accepts = λ t e. (_, refl); refuses = λ k e other. absurd (other (sym (number_same e))); refused = λ k e. absurd (let z : ◌≡◌ {A = ℕ} 0 1 = cc in omega arith) }
by_room (refused g) f c a =
    record {
      accepts = λ t e. absurd (let z : ◌≡◌ {A = ℕ} 0 1 = cc in omega arith);
      refuses = λ k e _. ap Err (number_same e);
      refused = λ k e. ap Err (ap told e);
    }

pub moves_beside_reader : MovesBesideReader
moves_beside_reader e f f' c c' a a' r s reads call =
    coe 0 1 (i. BesideReader (sym reads.answers i) (sym call.answers i)) (by_room (header_of e) (length f) (length c) (length a))
