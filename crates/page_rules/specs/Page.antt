-- What a page call answers, and what it leaves in the lent words and bytes.
use Rattle.std.specs.Prelude.{ℕ, ◌+◌, ◌/◌, ◌%◌, ◌^◌, List, [], ◌∷◌, ◌++◌, map, ◌≡◌, ◌⊎◌, Bool, true, not, length, take, drop, ltb, leb, eqb, Ok, Err}
use Rattle.numbers.specs.Choice.{pick, both}
use Rattle.numbers.specs.Numbers.{little, bytes_for, trailer}
use Rattle.numbers.specs.Rows.{over}
use Rattle.outcome.specs.Outcome.{Outcome, accepted_with, refused_in, is_accepted}
use Rattle.checksum.specs.Crc.{crc32}
use Rattle.column_type.specs.Types.{known, width_of, split, delta, zigzag}
use Rattle.coding.specs.Layout.{sums, unzigzagged, bytes_of, unplain, unplanes, packed, unpacked, coded_by, laid_out, fit}
use Rattle.page_rules.specs.Answer.{PageAnswer}

-- a page call has one count, and a page is envelope 4

abbrev pub accept : ℕ → Outcome
accept m = accepted_with (m ∷ [])

abbrev pub refuse : ℕ → Outcome
refuse k = refused_in 4 k 1

abbrev pub outcome_of : PageAnswer → Outcome
outcome_of (Ok m) = accept m
outcome_of (Err k) = refuse k

-- an answer is told by what it says
unfoldable pub OutcomeTells : Type 0
OutcomeTells = (a b : PageAnswer) → outcome_of a ≡ outcome_of b → a ≡ b

-- a test: where it does not hold, the number of its refusal is the answer
abbrev pub unless : Bool → ℕ → Outcome → Outcome
unless good k rest = pick good rest (refuse k)

-- a refusal by one of these numbers
abbrev pub RefusedBy : List ℕ → Outcome → Type 0
RefusedBy [] o = ⊥
RefusedBy (k ∷ ks) o = (o ≡ refuse k) ⊎ RefusedBy ks o

-- a type whose pages are read: known, and not Switch
abbrev pub readable : ℕ → Bool
readable t = both (known t) (not (eqb t 3))

-- any number other than 0 asks for a checksum
abbrev pub asks : ℕ → Bool
asks n = not (eqb n 0)

-- the most elements in one page call
abbrev pub most_elements : ℕ
most_elements = 131072

-- the first tests of both calls
abbrev pub asked : ℕ → ℕ → Outcome → Outcome
asked t n rest =
    unless (readable t) 23
    (unless (leb n most_elements) 10
    rest)

-- the bytes of a page of n elements of type t, without its checksum
abbrev pub size_of : ℕ → ℕ → ℕ
size_of t n = bytes_for n (width_of t)

-- the elements of a page: as their own bits, zeros above, a signed one as its two's complement at its width

unfoldable pub laid : ℕ → ℕ → List ℕ → List ℕ
laid t n bs =
    pick (eqb t 6) (unpacked n 0 bs)
    (pick (split t) (unplanes (width_of t / 8) n bs) (unplain (width_of t / 8) n bs))

unfoldable pub elements : ℕ → ℕ → List ℕ → List ℕ
elements t n bs =
    pick (delta t) (sums (width_of t) 0 (laid t n bs))
    (pick (zigzag t) (map (unzigzagged (width_of t)) (laid t n bs)) (laid t n bs))

-- the bytes of elements: delta or zigzag first, then split or plain

unfoldable pub bytes : ℕ → List ℕ → List ℕ
bytes t xs =
    pick (eqb t 6) (packed ((length xs + 7) / 8) xs)
    (laid_out (split t) (width_of t / 8) (coded_by (delta t) (zigzag t) (width_of t) xs))

-- decoding

-- the checksum behind a page of so many bytes, if one follows, is that of the page
unfoldable pub checksum_right : Bool → ℕ → List ℕ → Bool
checksum_right checksum size page = pick checksum (eqb (crc32 (take size page)) (little 4 page size)) true

-- the unused bits of a Bit page's last byte are zero
unfoldable pub unused_clear : ℕ → ℕ → List ℕ → Bool
unused_clear t n page = pick (both (eqb t 6) (not (eqb (n % 8) 0))) (ltb (little 1 page (n / 8)) (2 ^ (n % 8))) true

-- a page of n elements of type t, decoded to so many lent words from `start` on
unfoldable pub decode_outcome : ℕ → ℕ → Bool → List ℕ → ℕ → ℕ → Outcome
decode_outcome t n checksum page words start =
    asked t n
    (unless (eqb (length page) (size_of t n + trailer checksum)) 21
    (unless (checksum_right checksum (size_of t n) page) 22
    (unless (unused_clear t n page) 24
    (unless (leb (start + n) words) 20
    (accept n)))))

-- it accepts as many elements as are asked for, or refuses by one of its numbers
unfoldable pub DecodeNumbers : Type 0
DecodeNumbers =
    (t n : ℕ) (checksum : Bool) (page : List ℕ) (words start : ℕ)
    → (decode_outcome t n checksum page words start ≡ accept n)
    ⊎ RefusedBy (23 ∷ 10 ∷ 21 ∷ 22 ∷ 24 ∷ 20 ∷ []) (decode_outcome t n checksum page words start)

-- the lent words afterwards: the page's elements from `start` on where it is accepted, and all other words as they were
unfoldable pub decoded : ℕ → ℕ → Bool → List ℕ → List ℕ → ℕ → List ℕ
decoded t n checksum page old start =
    pick (is_accepted (decode_outcome t n checksum page (length old) start)) (take start old ++ over (elements t n page) (drop start old)) old

-- encoding

-- the elements that are encoded: n words from `start` on
abbrev pub chosen : ℕ → List ℕ → ℕ → List ℕ
chosen n words start = take n (drop start words)

-- n words from `start` on, encoded to so many lent bytes
unfoldable pub encode_outcome : ℕ → ℕ → Bool → List ℕ → ℕ → ℕ → Outcome
encode_outcome t n checksum words start room =
    asked t n
    (unless (both (leb (start + n) (length words)) (leb (size_of t n + trailer checksum) room)) 20
    (unless (fit (width_of t) (chosen n words start)) 25
    (accept (size_of t n + trailer checksum))))

-- it accepts as many bytes as the page has, or refuses by one of its numbers
unfoldable pub EncodeNumbers : Type 0
EncodeNumbers =
    (t n : ℕ) (checksum : Bool) (words : List ℕ) (start room : ℕ)
    → (encode_outcome t n checksum words start room ≡ accept (size_of t n + trailer checksum))
    ⊎ RefusedBy (23 ∷ 10 ∷ 20 ∷ 25 ∷ []) (encode_outcome t n checksum words start room)

-- a page with its checksum, if one follows
unfoldable pub checked_page : Bool → List ℕ → List ℕ
checked_page checksum bs = bs ++ pick checksum (bytes_of 4 (crc32 bs)) []

-- the lent bytes afterwards: the page over the first of them where it is accepted, and no byte after it
unfoldable pub encoded : ℕ → ℕ → Bool → List ℕ → ℕ → List ℕ → List ℕ
encoded t n checksum words start old =
    pick (is_accepted (encode_outcome t n checksum words start (length old))) (over (checked_page checksum (bytes t (chosen n words start))) old) old
