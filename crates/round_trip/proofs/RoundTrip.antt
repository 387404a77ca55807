-- The round trip, both ways, for every type: what encoding accepts decodes to the same elements, and the elements of an accepted page
-- encode to its bytes.
-- Assumes nothing.
use mathlib.Core.Path.{◌≡◌, refl, sym, ap, ap₂, ◌∙◌, subst, subst⁻¹}
use mathlib.Core.Bool.{Bool, true, false}
use mathlib.Core.List.{List, [], ◌∷◌, ◌++◌, map, append-nil}
use Prim.Native.Nat.{ℕ, zero, suc, ◌+◌, ◌*◌, ◌/◌, ◌%◌, ◌^◌, ◌<◌, ◌≤◌}
use native.Mathlib.Nat.{mul_comm, pow-succ'}
use native.Mathlib.Omega.{arith}
use lib.Dec.{ltb, eqb, lit<}
use lib.Pow.{pow_pos}
use lib.ListN.{length, take, drop, get_or, length-append, length-drop, get_or-append, take-append-drop}
use lib.Seq.{take_at, take_all, drop_at, length-take-le}
use borrow.Author.Tests.{eqb-true, eqb-false, eq-eqb, ltb-true, lt-ltb, le-leb}
use Rattle.numbers.specs.Choice.{pick}
use Rattle.numbers.specs.Numbers.{little, trailer}
use Rattle.checksum.specs.Crc.{crc32}
use Rattle.column_type.specs.Types.{width_of, split, delta, zigzag}
use Rattle.coding.specs.Layout.{sums, zigzagged, unzigzagged, bytes_of, unplain, unplanes, bits_byte, packed, unpacked, fit, coded_by, laid_out}
use Rattle.page_rules.specs.Page.{readable, size_of, chosen, laid, elements, bytes, checked_page, checksum_right, unused_clear, accept, encode_outcome, encoded, decode_outcome, decoded}
use Rattle.round_trip.specs.RoundTrip.{EncodeDecode, DecodeEncode, DecodeEncodeInPlace}
use Rattle.outcome.specs.Outcome.{is_accepted}
use Rattle.coding.specs.Inverses.{Below}
use Rattle.numbers.specs.Rows.{over}
use Rattle.coding.proofs.Below.{below_map, below_drop, fit_below, below_fit}
use Rattle.coding.proofs.Delta.{sums_deltas, deltas_sums, below_deltas, below_sums}
use Rattle.coding.proofs.Zigzag.{zigzagged_below, unzigzagged_below, unzigzag_zigzags, zigzag_unzigzags}
use Rattle.coding.proofs.Planes.{unplanes_planes, planes_unplanes}
use Rattle.coding.proofs.Plain.{unplain_plain, plain_unplain, length_bytes_of, little_bytes_of, little_drop, bytes_of_little}
use Rattle.coding.proofs.Bits.{unpacked_packed, packed_unpacked, length_packed, get_or_packed, length_unpacked, below_unpacked}
use Rattle.page_rules.proofs.Types.{OfBytes, of_bytes, of_zigzag, width_pos, bit_width, bit_size}
use Rattle.page_rules.proofs.Laid.{take_over, power_of, size_of_lem, below_laid, laid_split, laid_plain, elements_bit, elements_delta, elements_zigzag, elements_laid, length_elements, chosen_left, length_left}
use Rattle.coding.proofs.Places.{length_coded}
use Rattle.page_rules.proofs.Encoding.{bytes_bit, bytes_whole, length_bytes, Encodes, encodes, counted, encoded_accepted, accepted as encoding-accepted}
use Rattle.page_rules.proofs.Decoding.{Decodes, decodes, decoded_accepted, clear_other, clear_whole, clear_byte, accepted}

-- elements of whole bytes

module _ (t : ℕ) (o : OfBytes t) (b : eqb t 6 ≡ false) where
  abbrev w : ℕ
  w = width_of t

  abbrev k : ℕ
  k = width_of t / 8

  -- the numbers that are stored are below 2 to the width
  below_coded : (xs : List ℕ) → Below (2 ^ w) xs → (d z : Bool) → zigzag t ≡ z → Below (2 ^ w) (coded_by d z w xs)
  below_coded xs h true z e = below_deltas w 0 xs
  below_coded xs h false true e = below_map (2 ^ w) (2 ^ w) (zigzagged w) xs (zigzagged_below w (width_pos (of_zigzag t o e))) h
  below_coded xs h false false e = h

  -- delta and zigzag undone
  uncoded : (xs : List ℕ) (n : ℕ) (bs : List ℕ) → Below (2 ^ w) xs → laid t n bs ≡ coded_by (delta t) (zigzag t) w xs → (d z : Bool) → delta t ≡ d → zigzag t ≡ z → elements t n bs ≡ xs
  uncoded xs n bs h e true z p q =
      elements_delta t n bs p ∙ ap (sums w 0) (e ∙ ap (λ (c : Bool). coded_by c (zigzag t) w xs) p) ∙ sums_deltas w 0 xs (pow_pos w) h
  uncoded xs n bs h e false true p q =
      elements_zigzag t n bs p q ∙ ap (map (unzigzagged w)) (e ∙ ap₂ (λ (c y : Bool). coded_by c y w xs) p q)
      ∙ unzigzag_zigzags w (width_pos (of_zigzag t o q)) xs h
  uncoded xs n bs h e false false p q = elements_laid t n bs p q ∙ e ∙ ap₂ (λ (c y : Bool). coded_by c y w xs) p q

  -- laid out and read again
  relaid : (c rest : List ℕ) (n : ℕ) → length c ≡ n → Below (256 ^ k) c → (s : Bool) → split t ≡ s → laid t n (laid_out (split t) k c ++ rest) ≡ c
  relaid c rest n f h true s =
      laid_split t n (laid_out (split t) k c ++ rest) b s
      ∙ ap₂ (λ (m : ℕ) (y : Bool). unplanes k m (laid_out y k c ++ rest)) (sym f) s ∙ unplanes_planes k c rest h
  relaid c rest n f h false s =
      laid_plain t n (laid_out (split t) k c ++ rest) b s
      ∙ ap₂ (λ (m : ℕ) (y : Bool). unplain k m (laid_out y k c ++ rest)) (sym f) s ∙ unplain_plain k c rest h

  whole_there : (xs rest : List ℕ) → Below (2 ^ w) xs → elements t (length xs) (bytes t xs ++ rest) ≡ xs
  whole_there xs rest h =
      let c : List ℕ = coded_by (delta t) (zigzag t) w xs in
      let g : Below (256 ^ k) c = subst (λ (m : ℕ). Below m c) (sym (power_of t o)) (below_coded xs h (delta t) (zigzag t) refl) in
      ap (λ (l : List ℕ). elements t (length xs) (l ++ rest)) (sym (bytes_whole t xs b))
      ∙ uncoded xs (length xs) (laid_out (split t) k c ++ rest) h (relaid c rest (length xs) (length_coded (delta t) (zigzag t) w xs) g (split t) refl) (delta t) (zigzag t) refl refl

  -- the other way

  recoded : (n : ℕ) (bs : List ℕ) → Below (2 ^ w) (laid t n bs) → (d z : Bool) → delta t ≡ d → zigzag t ≡ z → coded_by (delta t) (zigzag t) w (elements t n bs) ≡ laid t n bs
  recoded n bs h true z p q =
      ap₂ (λ (c : Bool) (l : List ℕ). coded_by c (zigzag t) w l) p (elements_delta t n bs p) ∙ deltas_sums w 0 (laid t n bs) (pow_pos w) h
  recoded n bs h false true p q =
      ap₂ (λ (c y : Bool). coded_by c y w (elements t n bs)) p q ∙ ap (map (zigzagged w)) (elements_zigzag t n bs p q)
      ∙ zigzag_unzigzags w (width_pos (of_zigzag t o q)) (laid t n bs) h
  recoded n bs h false false p q = ap₂ (λ (c y : Bool). coded_by c y w (elements t n bs)) p q ∙ elements_laid t n bs p q

  unlaid : (n : ℕ) (bs : List ℕ) → n * k ≤ length bs → Below 256 bs → (s : Bool) → split t ≡ s → laid_out (split t) k (laid t n bs) ≡ take (n * k) bs
  unlaid n bs h g true s =
      ap₂ (λ (y : Bool) (l : List ℕ). laid_out y k l) s (laid_split t n bs b s)
      ∙ planes_unplanes k n bs (subst (λ (m : ℕ). m ≤ length bs) (mul_comm n k) h) g ∙ ap (λ (m : ℕ). take m bs) (mul_comm k n)
  unlaid n bs h g false s = ap₂ (λ (y : Bool) (l : List ℕ). laid_out y k l) s (laid_plain t n bs b s) ∙ plain_unplain k n bs h g

  whole_back : (n : ℕ) (bs : List ℕ) → size_of t n ≤ length bs → Below 256 bs → bytes t (elements t n bs) ≡ take (size_of t n) bs
  whole_back n bs h g =
      let z = size_of_lem t n o in
      sym (bytes_whole t (elements t n bs) b)
      ∙ ap (laid_out (split t) k) (recoded n bs (below_laid t n bs o b h g) (delta t) (zigzag t) refl refl)
      ∙ unlaid n bs (subst (λ (m : ℕ). m ≤ length bs) z h) g (split t) refl
      ∙ ap (λ (m : ℕ). take m bs) (sym z)

  below_elements : (n : ℕ) (bs : List ℕ) → Below (2 ^ w) (laid t n bs) → (d z : Bool) → delta t ≡ d → zigzag t ≡ z → Below (2 ^ w) (elements t n bs)
  below_elements n bs h true z p q = subst⁻¹ (Below (2 ^ w)) (elements_delta t n bs p) (below_sums w 0 (laid t n bs))
  below_elements n bs h false true p q =
      subst⁻¹ (Below (2 ^ w)) (elements_zigzag t n bs p q)
      (below_map (2 ^ w) (2 ^ w) (unzigzagged w) (laid t n bs) (unzigzagged_below w (width_pos (of_zigzag t o q))) h)
  below_elements n bs h false false p q = subst⁻¹ (Below (2 ^ w)) (elements_laid t n bs p q) h

-- Bit

bit_there : (t : ℕ) (xs rest : List ℕ) → t ≡ 6 → Below 2 xs → elements t (length xs) (bytes t xs ++ rest) ≡ xs
bit_there t xs rest e h =
    let m : ℕ = (length xs + 7) / 8 in
    elements_bit t (length xs) (bytes t xs ++ rest) e ∙ ap (λ (l : List ℕ). unpacked (length xs) 0 (l ++ rest)) (sym (bytes_bit t xs e))
    ∙ unpacked_packed m xs rest (omega arith) h

clear_last : (t n : ℕ) (bs : List ℕ) → t ≡ 6 → unused_clear t n bs ≡ true → (n % 8 ≡ 0 → ⊥) → get_or bs (n / 8) 0 < 2 ^ (n % 8)
clear_last t n bs e u h = ltb-true (get_or bs (n / 8) 0) (2 ^ (n % 8)) (clear_byte t n bs e h ∙ u)

bit_back : (t n : ℕ) (bs : List ℕ) → t ≡ 6 → size_of t n ≤ length bs → Below 256 bs → unused_clear t n bs ≡ true → bytes t (elements t n bs) ≡ take (size_of t n) bs
bit_back t n bs e h g u =
    let m : ℕ = (n + 7) / 8 in
    let z = bit_size t n e in
    sym (bytes_bit t (elements t n bs) e)
    ∙ ap (λ (l : List ℕ). packed ((length l + 7) / 8) l) (elements_bit t n bs e)
    ∙ ap (λ (i : ℕ). packed ((i + 7) / 8) (unpacked n 0 bs)) (length_unpacked n 0 bs)
    ∙ packed_unpacked n m bs refl (subst (λ (i : ℕ). i ≤ length bs) z h) g (clear_last t n bs e u)
    ∙ ap (λ (i : ℕ). take i bs) (sym z)

-- few bits make a small byte
few_bits : (j : ℕ) (ys : List ℕ) → Below 2 ys → bits_byte j ys < 2 ^ length ys
unfolding bits_byte
few_bits zero ys h = pow_pos (length ys)
few_bits (suc j) [] h = lit< tt
few_bits (suc j) (y ∷ ys) h =
    let hy : y < 2 = h.0 in
    omega (arith, pow-succ' 2 (length ys), few_bits j ys h.1)

-- an encoded page's unused bits are zero
clear_encoded : (t : ℕ) (xs rest : List ℕ) → Below (2 ^ width_of t) xs → unused_clear t (length xs) (bytes t xs ++ rest) ≡ true
clear_encoded t xs rest h = go (eqb t 6) refl (eqb (length xs % 8) 0) refl
  where
    n : ℕ
    n = length xs

    m : ℕ
    m = (length xs + 7) / 8

    go : (a : Bool) → eqb t 6 ≡ a → (r : Bool) → eqb (length xs % 8) 0 ≡ r → unused_clear t (length xs) (bytes t xs ++ rest) ≡ true
    go false e r f = sym (clear_other t n (bytes t xs ++ rest) (eqb-false t 6 e))
    go true e true f = sym (clear_whole t n (bytes t xs ++ rest) (eqb-true t 6 e) (eqb-true (length xs % 8) 0 f))
    go true e false f =
        let six = eqb-true t 6 e in
        let some = eqb-false (length xs % 8) 0 f in
        let g : Below 2 xs = subst (λ (v : ℕ). Below (2 ^ v) xs) (bit_width t six) h in
        let lm : n / 8 < m = omega arith in
        let d : length (drop (8 * (n / 8)) xs) ≡ n % 8 = length-drop (8 * (n / 8)) xs ∙ omega arith in
        let last : get_or (bytes t xs ++ rest) (n / 8) 0 ≡ bits_byte 8 (drop (8 * (n / 8)) xs) =
        ap (λ (l : List ℕ). get_or (l ++ rest) (n / 8) 0) (sym (bytes_bit t xs six))
        ∙ get_or-append (packed m xs) rest 0 (n / 8) (subst (λ (i : ℕ). n / 8 < i) (sym (length_packed m xs)) lm)
        ∙ get_or_packed m xs (n / 8) lm in
        sym (clear_byte t n (bytes t xs ++ rest) six some)
        ∙ ap (λ (x : ℕ). ltb x (2 ^ (n % 8))) last
        ∙ lt-ltb (bits_byte 8 (drop (8 * (n / 8)) xs)) (2 ^ (n % 8))
        (subst (λ (i : ℕ). bits_byte 8 (drop (8 * (n / 8)) xs) < 2 ^ i) d (few_bits 8 (drop (8 * (n / 8)) xs) (below_drop 2 (8 * (n / 8)) xs g)))

-- all types

pub decode_bytes : (t : ℕ) (xs rest : List ℕ) → readable t ≡ true → fit (width_of t) xs ≡ true → elements t (length xs) (bytes t xs ++ rest) ≡ xs
decode_bytes t xs rest r f = go (eqb t 6) refl
  where
    go : (a : Bool) → eqb t 6 ≡ a → elements t (length xs) (bytes t xs ++ rest) ≡ xs
    go true e =
        let six = eqb-true t 6 e in
        bit_there t xs rest six (subst (λ (v : ℕ). Below (2 ^ v) xs) (bit_width t six) (fit_below (width_of t) xs f))
    go false e = whole_there t (of_bytes t r e) e xs rest (fit_below (width_of t) xs f)

pub encode_elements : (t n : ℕ) (bs : List ℕ) → readable t ≡ true → size_of t n ≤ length bs → Below 256 bs → unused_clear t n bs ≡ true → bytes t (elements t n bs) ≡ take (size_of t n) bs
encode_elements t n bs r h g u = go (eqb t 6) refl
  where
    go : (a : Bool) → eqb t 6 ≡ a → bytes t (elements t n bs) ≡ take (size_of t n) bs
    go true e = bit_back t n bs (eqb-true t 6 e) h g u
    go false e = whole_back t (of_bytes t r e) e n bs h g

-- the elements of a page fit their width, and are as many as asked for
pub fitting_elements : (t n : ℕ) (bs : List ℕ) → readable t ≡ true → size_of t n ≤ length bs → Below 256 bs → (fit (width_of t) (elements t n bs) ≡ true) × (length (elements t n bs) ≡ n)
fitting_elements t n bs r h g = go (eqb t 6) refl
  where
    go : (a : Bool) → eqb t 6 ≡ a → (fit (width_of t) (elements t n bs) ≡ true) × (length (elements t n bs) ≡ n)
    go true e =
        let six = eqb-true t 6 e in (
          ap₂ fit (bit_width t six) (elements_bit t n bs six) ∙ below_fit 1 (unpacked n 0 bs) (below_unpacked n 0 bs),
          length_elements t n bs r h,
        )
    go false e =
        let o = of_bytes t r e in (
          below_fit (width_of t) (elements t n bs) (below_elements t o e n bs (below_laid t n bs o e h g) (delta t) (zigzag t) refl refl),
          length_elements t n bs r h,
        )

-- the checksum behind a page

crc_below : (bs : List ℕ) → crc32 bs < 256 ^ 4
unfolding crc32
crc_below bs = omega arith

pub length_checked : (checksum : Bool) (bs : List ℕ) → length (checked_page checksum bs) ≡ length bs + trailer checksum
unfolding checked_page
length_checked true bs = length-append bs (bytes_of 4 (crc32 bs)) ∙ ap (λ (m : ℕ). length bs + m) (length_bytes_of 4 (crc32 bs))
length_checked false bs = length-append bs []

checksum_there : (checksum : Bool) (bs : List ℕ) (size : ℕ) → length bs ≡ size → checksum_right checksum size (checked_page checksum bs) ≡ true
unfolding checksum_right checked_page
checksum_there true bs size e =
    let c : List ℕ = bytes_of 4 (crc32 bs) in
    let f : little 4 (bs ++ c) size ≡ crc32 bs =
    ap (little 4 (bs ++ c)) (sym (native.Mathlib.Nat.add-zero size)) ∙ sym (little_drop 4 0 size (bs ++ c))
    ∙ ap (λ (l : List ℕ). little 4 l 0) (lib.Seq.drop_at bs c size e ∙ sym (append-nil c)) ∙ little_bytes_of 4 (crc32 bs) [] (crc_below bs) in
    eq-eqb (crc32 (take size (bs ++ c))) (little 4 (bs ++ c) size) (ap crc32 (take_at bs c size e) ∙ sym f)
checksum_there false bs size e = refl

checksum_back : (checksum : Bool) (page : List ℕ) (size : ℕ) → length page ≡ size + trailer checksum → Below 256 page → checksum_right checksum size page ≡ true → checked_page checksum (take size page) ≡ page
unfolding checksum_right checked_page
checksum_back true page size l g c =
    let tail : List ℕ = drop size page in
    let n : length tail ≡ 4 = length-drop size page ∙ omega arith in
    let e : crc32 (take size page) ≡ little 4 tail 0 =
    eqb-true (crc32 (take size page)) (little 4 page size) c ∙ ap (little 4 page) (sym (native.Mathlib.Nat.add-zero size)) ∙ sym (little_drop 4 0 size page) in
    let f : bytes_of 4 (crc32 (take size page)) ≡ tail =
    ap (bytes_of 4) e ∙ bytes_of_little 4 tail (omega arith) (below_drop 256 size page g) ∙ take_all 4 tail (omega arith) in
    ap (λ (t : List ℕ). take size page ++ t) f ∙ take-append-drop size page
checksum_back false page size l g c = append-nil (take size page) ∙ take_all size page (omega arith)

page_elements_lem : (t : ℕ) (xs : List ℕ) (checksum : Bool) → readable t ≡ true → fit (width_of t) xs ≡ true → elements t (length xs) (checked_page checksum (bytes t xs)) ≡ xs
unfolding checked_page
page_elements_lem t xs checksum r f = decode_bytes t xs (pick checksum (bytes_of 4 (crc32 (bytes t xs))) []) r f

page_clear : (t : ℕ) (xs : List ℕ) (checksum : Bool) → fit (width_of t) xs ≡ true → unused_clear t (length xs) (checked_page checksum (bytes t xs)) ≡ true
unfolding checked_page
page_clear t xs checksum f = clear_encoded t xs (pick checksum (bytes_of 4 (crc32 (bytes t xs))) []) (fit_below (width_of t) xs f)

-- what encoding accepts: its page has the elements, and decoding accepts it

record Decoded (t n : ℕ) (checksum : Bool) (xs page : List ℕ) : Type 0 where
  same : elements t n page ≡ xs
  decoding : (lent at : ℕ) → at + n ≤ lent → decode_outcome t n checksum page lent at ≡ accept n

there_and_back : (t n : ℕ) (checksum : Bool) (words : List ℕ) (start room : ℕ) → Encodes t n checksum words start room
    → Decoded t n checksum (chosen n words start) (checked_page checksum (bytes t (chosen n words start)))
there_and_back t n checksum words start room p =
    let xs : List ℕ = chosen n words start in
    let bs : List ℕ = bytes t xs in
    let many : length xs ≡ n = length-take-le n (drop start words) (omega (arith, length-drop start words, p.there)) in
    let size : length bs ≡ size_of t n = length_bytes t xs p.is_readable_lem ∙ ap (size_of t) many in
    record {
      same = ap (λ (i : ℕ). elements t i (checked_page checksum bs)) (sym many) ∙ page_elements_lem t xs checksum p.is_readable_lem p.fits;
      decoding = λ lent at h. sym (accepted t n checksum (checked_page checksum bs) lent at
          (record { is_readable_lem = p.is_readable_lem; few = p.few; long = length_checked checksum bs ∙ ap (λ (i : ℕ). i + trailer checksum) size })
          (checksum_there checksum bs (size_of t n) size)
          (ap (λ (i : ℕ). unused_clear t i (checked_page checksum bs)) (sym many) ∙ page_clear t xs checksum p.fits)
          (le-leb (at + n) lent h));
    }

-- the page that such a call leaves
page_left : (t n : ℕ) (checksum : Bool) (words : List ℕ) (start : ℕ) (room : List ℕ) (m : ℕ) → encode_outcome t n checksum words start (length room) ≡ accept m
    → take m (encoded t n checksum words start room) ≡ checked_page checksum (bytes t (chosen n words start))
page_left t n checksum words start room m e =
    let p = encodes t n checksum words start (length room) (ap is_accepted e) in
    let xs : List ℕ = chosen n words start in
    let many : length xs ≡ n = length-take-le n (drop start words) (omega (arith, length-drop start words, p.there)) in
    let size : length (checked_page checksum (bytes t xs)) ≡ size_of t n + trailer checksum =
    length_checked checksum (bytes t xs) ∙ ap (λ (i : ℕ). i + trailer checksum) (length_bytes t xs p.is_readable_lem ∙ ap (size_of t) many) in
    ap (take m) (sym (encoded_accepted t n checksum words room start (ap is_accepted e)))
    ∙ take_over (checked_page checksum (bytes t xs)) room m (size ∙ sym (counted t n checksum words start (length room) m e))

pub encode_decode : EncodeDecode
unfolding EncodeDecode
encode_decode t n checksum words start room m e out at h =
    let d = there_and_back t n checksum words start (length room) (encodes t n checksum words start (length room) (ap is_accepted e)) in
    let page : List ℕ = checked_page checksum (bytes t (chosen n words start)) in
    let left = page_left t n checksum words start room m e in
    let ok = d.decoding (length out) at h in (
      ap (λ (l : List ℕ). decode_outcome t n checksum l (length out) at) left ∙ ok,
      ap (λ (l : List ℕ). decoded t n checksum l out at) left
          ∙ sym (decoded_accepted t n checksum page out at (ap is_accepted ok))
          ∙ ap (λ (l : List ℕ). take at out ++ over l (drop at out)) d.same,
    )

-- what decoding accepts: its elements encode to the page, and encoding accepts them

record Encoded (t n : ℕ) (checksum : Bool) (xs page : List ℕ) : Type 0 where
  same : checked_page checksum (bytes t xs) ≡ page
  many : length xs ≡ n
  encoding : (words : List ℕ) (start room : ℕ) → chosen n words start ≡ xs → start + n ≤ length words → length page ≤ room
      → encode_outcome t n checksum words start room ≡ accept (length page)

back_and_there : (t n : ℕ) (checksum : Bool) (page : List ℕ) (lent at : ℕ) → Decodes t n checksum page lent at → Below 256 page → Encoded t n checksum (elements t n page) page
back_and_there t n checksum page lent at p g =
    let long = p.sized.long in
    let room : size_of t n ≤ length page = omega arith in
    let f = fitting_elements t n page p.sized.is_readable_lem room g in
    record {
      same = ap (checked_page checksum) (encode_elements t n page p.sized.is_readable_lem room g p.clear) ∙ checksum_back checksum page (size_of t n) long g p.right;
      many = f.1;
      encoding = λ words start lent c h r. sym (ap accept long
          ∙ encoding-accepted t n checksum words start lent (record { is_readable_lem = p.sized.is_readable_lem; few = p.sized.few })
          (le-leb (start + n) (length words) h) (omega arith) (ap (fit (width_of t)) c ∙ f.0));
    }

-- an accepted decoding leaves its elements from `start` on, and room for them
module _ (t n : ℕ) (checksum : Bool) (page out : List ℕ) (start : ℕ) (g : Below 256 page) (e : is_accepted (decode_outcome t n checksum page (length out) start) ≡ true) where
  passed : Decodes t n checksum page (length out) start
  passed = decodes t n checksum page (length out) start e

  back : Encoded t n checksum (elements t n page) page
  back = back_and_there t n checksum page (length out) start passed g

  left_is : take start out ++ over (elements t n page) (drop start out) ≡ decoded t n checksum page out start
  left_is = decoded_accepted t n checksum page out start e

  elements_left : chosen n (decoded t n checksum page out start) start ≡ elements t n page
  elements_left = ap (λ (l : List ℕ). chosen n l start) (sym left_is) ∙ chosen_left out (elements t n page) start n back.many passed.room

  room_left : start + n ≤ length (decoded t n checksum page out start)
  room_left = omega (arith, passed.room, ap length (sym left_is) ∙ length_left out (elements t n page) start n back.many passed.room)

pub decode_encode : DecodeEncode
unfolding DecodeEncode
decode_encode t n checksum page out start g e words from there same room h =
    let r = back t n checksum page out start g e in
    let c : chosen n words from ≡ elements t n page = same ∙ elements_left t n checksum page out start g e in
    let ok = r.encoding words from (length room) c there h in (
      ok,
      sym (encoded_accepted t n checksum words room from (ap is_accepted ok))
          ∙ ap (λ (m : List ℕ). over (checked_page checksum (bytes t m)) room) c ∙ ap (λ (m : List ℕ). over m room) r.same,
    )

pub decode_encode_in_place : DecodeEncodeInPlace
unfolding DecodeEncodeInPlace DecodeEncode
decode_encode_in_place t n checksum page out start g e room h =
    decode_encode t n checksum page out start g e (decoded t n checksum page out start) start (room_left t n checksum page out start g e) refl room h
