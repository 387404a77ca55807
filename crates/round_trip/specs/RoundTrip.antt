-- What one page call leaves, the other reads back, for every type, with a checksum and without.
use Rattle.std.specs.Prelude.{ℕ, ◌+◌, ◌≤◌, ◌≡◌, List, ◌++◌, Bool, true, length, take, drop}
use Rattle.numbers.specs.Rows.{over}
use Rattle.outcome.specs.Outcome.{is_accepted}
use Rattle.coding.specs.Inverses.{Below}
use Rattle.page_rules.specs.Page.{accept, decode_outcome, decoded, chosen, encode_outcome, encoded}

-- the page that an accepted encoding leaves, its first bytes by its count, is accepted by decoding wherever there is room, and gives back the elements there
unfoldable pub EncodeDecode : Type 0
EncodeDecode =
    (t n : ℕ) (checksum : Bool) (words : List ℕ) (start : ℕ) (room : List ℕ) (m : ℕ) → encode_outcome t n checksum words start (length room) ≡ accept m
    → (out : List ℕ) (at : ℕ) → at + n ≤ length out
    → let page : List ℕ = take m (encoded t n checksum words start room) in
    (decode_outcome t n checksum page (length out) at ≡ accept n)
    × (decoded t n checksum page out at ≡ take at out ++ over (chosen n words start) (drop at out))

-- the elements that an accepted decoding leaves, wherever they then stand in whatever words, are accepted by encoding where there is room, and give back the page
unfoldable pub DecodeEncode : Type 0
DecodeEncode =
    (t n : ℕ) (checksum : Bool) (page out : List ℕ) (start : ℕ) → Below 256 page → is_accepted (decode_outcome t n checksum page (length out) start) ≡ true
    → (words : List ℕ) (from : ℕ) → from + n ≤ length words → chosen n words from ≡ chosen n (decoded t n checksum page out start) start
    → (room : List ℕ) → length page ≤ length room
    → (encode_outcome t n checksum words from (length room) ≡ accept (length page))
    × (encoded t n checksum words from room ≡ over page room)

-- so are the words that it left, where it left them
unfoldable pub DecodeEncodeInPlace : Type 0
DecodeEncodeInPlace =
    (t n : ℕ) (checksum : Bool) (page out : List ℕ) (start : ℕ) → Below 256 page → is_accepted (decode_outcome t n checksum page (length out) start) ≡ true
    → (room : List ℕ) → length page ≤ length room
    → let words : List ℕ = decoded t n checksum page out start in
    (encode_outcome t n checksum words start (length room) ≡ accept (length page))
    × (encoded t n checksum words start room ≡ over page room)
