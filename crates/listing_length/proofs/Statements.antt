-- The listing of an accepted header has at most as many bytes as its envelope, and two more for each move.
use Prim.Native.Nat.{ℕ, zero, suc, ◌+◌, ◌*◌, ◌≤◌, ◌<◌}
use mathlib.Core.Path.{◌≡◌, refl, sym, ◌∙◌}
use mathlib.Core.List.{List, [], ◌∷◌}
use native.Mathlib.Omega.{arith}
use lib.ListN.{length, length-append}
use Rattle.numbers.specs.Rows.{flat}
use Rattle.chain_moves.specs.Moves.{moves, total_moves, all_moves}
use Rattle.chain_moves.specs.Distances.{sum_below}
use Rattle.header.specs.Tables.{header_of, parents_of}
use Rattle.header.proofs.HeaderLaws.{fields_few}
use Rattle.moves.proofs.Laws.{field_count_lem, header_rooted, answer_sum}
use Rattle.listing.specs.Order.{Entry, order}
use Rattle.numbers.specs.Lists.{Each}
use Rattle.listing.specs.Listed.{fields_in}
use Rattle.listing.specs.Lines.{characters, entry_line, row_in, dark_in, listing}
use Rattle.listing.proofs.CallLaws.{fits_listed, call_answers}
use Rattle.listing.proofs.TimesLaws.{sum_over}
use Rattle.listing.proofs.RankLaws.{order_within}
use Rattle.listing.proofs.Statements.{order_levels}
use Rattle.listing_length.specs.Statements.{ListingLength, RoomEnough}
use Rattle.listing_length.proofs.Sums.{order_sum}
use Rattle.listing_length.proofs.Records.{least, fields_inside}
use Rattle.listing_length.proofs.Lines.{line_most, characters_length}

-- lines that are each no longer than a number for its field
lines_length : (w : Entry → List ℕ) (most level : ℕ → ℕ) (n : ℕ) → ((x : Entry) → x.field < n → x.level ≡ level x.field → length (w x) ≤ most x.field)
    → (l : List Entry) → Each (λ k. k < n) (fields_in l) → Each (λ x. x.level ≡ level x.field) l → length (flat w l) ≤ sum_over most (fields_in l)
unfolding flat sum_over
lines_length w most level n each [] a b = omega arith
lines_length w most level n each (x ∷ l) a b =
    let r = lines_length w most level n each l a.1 b.1 in
    let s = each x a.0 b.0 in
    omega (arith, length-append (w x) (flat w l))

-- two for each move, and the rest apart
moves_apart : (parents : List ℕ) (n : ℕ) (rest : ℕ → ℕ) (m : ℕ) → sum_below (λ k. 2 * moves parents n k + rest k) m ≡ 2 * total_moves parents n m + sum_below rest m
unfolding sum_below total_moves
moves_apart parents n rest zero = refl
moves_apart parents n rest (suc m) = let r = moves_apart parents n rest m in omega arith

pub listing_length : ListingLength
unfolding listing entry_line all_moves
listing_length e h p w =
    let l = h.lists in
    let parents = parents_of l.fields in
    let n = length parents in
    let rooted = header_rooted e w in
    let count = field_count_lem l.fields in
    let few = fields_few e w in
    let most : ℕ → ℕ = λ k. 2 * moves parents n k + least (row_in l k) in
    let lines = lines_length (entry_line e (row_in l) (dark_in l)) most (moves parents n) n
    (λ x k is.
    let name = (row_in l x.field).texts.name in
    let type = (row_in l x.field).texts.type_name in
    let a = line_most x.level x.field (characters e name) (characters e type) (dark_in l x.field) (omega arith) in
    let b = characters_length e name in
    let c = characters_length e type in
    omega arith)
    (order parents) (order_within parents) (order_levels parents rooted) in
    let sum = order_sum most parents rooted in
    let apart = moves_apart parents n (λ k. least (row_in l k)) n in
    let inside = rw (← count) at (fields_inside e w) in
    omega arith

pub room_enough : RoomEnough
room_enough e out out' total r counts call room =
    let (h, p, reads, sum) = answer_sum (header_of e) (sym counts.answers) in
    let most = listing_length e h p reads in
    let bytes = listing e h.lists in
    (length bytes, call_answers reads call ∙ fits_listed (length out) bytes (omega arith))
