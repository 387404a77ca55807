-- How long the listing of an accepted header can be.
use Rattle.std.specs.Prelude.{ℕ, ◌+◌, ◌*◌, ◌≤◌, List, ◌≡◌, length}
use Rattle.wire.specs.Reading.{found}
use Rattle.chain_moves.specs.Moves.{all_moves}
use Rattle.header.specs.Header.{Header}
use Rattle.header.specs.Tables.{header_of, parents_of}
use Rattle.moves.specs.Moves.{Answered as MovesAnswered}
use Rattle.listing.specs.Lines.{listing}
use Rattle.listing.specs.Answers.{Answered}
use Rattle.listing.specs.Answer.{ListAnswer}
use Rattle.std.specs.Prelude.{Ok}

-- It has at most as many bytes as the envelope, and two more for each move from a field to its parent, over all fields.
abbrev pub ListingLength : Type 0
ListingLength =
    (e : List ℕ) (h : Header) (p : ℕ) → header_of e ≡ found h p
    → length (listing e h.lists) ≤ length e + 2 * all_moves (parents_of h.lists.fields)

-- So that much room is enough, by what the call that counts moves answers: the header is listed, and not refused 20.
abbrev pub RoomEnough : Type 0
RoomEnough =
    (e out out' : List ℕ) (total : ℕ) (r : ListAnswer) → MovesAnswered (header_of e) (Ok total) → Answered e out out' r
    → length e + 2 * total ≤ length out → (n : ℕ) × (r ≡ Ok n)
