-- A header whose fields are one chain is accepted, and reaches the cap.
use Prim.Native.Nat.{ℕ, zero, suc, ◌+◌, ◌*◌, ◌-◌, ◌≤◌, ◌<◌}
use mathlib.Core.List.{List, [], ◌∷◌, ◌++◌, map}
use mathlib.Core.Path.{◌≡◌, refl, ap, ◌∙◌}
use native.Mathlib.Omega.{arith}
use lib.ListN.{length, length-append, length-map}
use borrow.Author.Tests.{lt-ltb, le-leb}
use Rattle.checksum.specs.Crc.{crc32}
use Rattle.numbers.specs.Lists.{Each}
use Rattle.numbers.proofs.Lists.{each_append}
use Rattle.utf8.specs.WellFormed.{well_formed, goes_on}
use Rattle.rows.specs.Words.{most_fields}
use Rattle.chain_moves.specs.Moves.{all_moves}
use Rattle.chain_moves.specs.Distances.{chain_of}
use Rattle.chain_moves.proofs.Distances.{chains_reach_cap}
use Rattle.header.specs.Tables.{parents_of}
use Rattle.moves.proofs.Laws.{answer_found}
use Rattle.tree.specs.Bytes.{spelled}
use Rattle.tree.specs.EnvelopeTree.{unsummed, sealed}
use Rattle.tree.specs.Shape.{Framed, framed, bare, ValidItems, record_shape, render_items, record_bytes, list_bytes}
use Rattle.tree.specs.HeaderTree.{FieldContent, HeaderContent, PayloadContent, header_content, head_shape, strings_shape, field_shape, texts_shape, lists_shape, payload_shape, feature_words, parents_in, RightHeader}
use Rattle.tree.specs.Spelling.{standard}
use Rattle.tree.proofs.Place.{length_spelled}
use Rattle.tree.proofs.Writing.{list_long, one_word, standard_content, standard_keeps}
use Rattle.tree.proofs.HeaderLaws.{header_complete, parents_same}
use Rattle.chain_headers.specs.Chain.{plain_field, chain_content, chain_header, CapReached}
use Rattle.std.specs.Prelude.{Ok}

-- the parents of plain fields
plain_parents : (ps : List ℕ) → parents_in (map plain_field ps) ≡ ps
plain_parents [] = refl
plain_parents (p ∷ ps) = ap (λ (l : List ℕ). p ∷ l) (plain_parents ps)

-- a plain field keeps the rules, and takes 36 bytes

plain_valid : (n p : ℕ) → p < n → n ≤ most_fields → (field_shape n).Valid (plain_field p)
unfolding field_shape head_shape strings_shape well_formed goes_on
plain_valid n p l few =
    (((omega arith, refl), ((omega arith, refl), ((omega arith, rw (lt-ltb p n l)), ((omega arith, refl), ((omega arith, refl), (refl, tt)))))), ((refl, (refl, (refl, (refl, tt)))), tt))

plain_long : (n p : ℕ) → length (record_bytes ((field_shape n).render (plain_field p) ++ [])) ≡ 36
unfolding field_shape head_shape strings_shape spelled
plain_long n p = refl

abbrev plain : FieldContent → Framed FieldContent
plain c = record { inside = c; spare = [] }

module _ (n : ℕ) where
  items_valid : n ≤ most_fields → (ps : List ℕ) (done : List FieldContent) → Each (λ p. p < n) ps → ValidItems (λ _. record_shape (field_shape n)) done (map plain_field ps)
  items_valid few [] done each = tt
  items_valid few (p ∷ ps) done each = (plain_valid n p each.0 few, items_valid few ps (done ++ (plain_field p ∷ [])) each.1)

  items_long : (ps : List ℕ) (done : List FieldContent) → length (render_items (framed bare) (λ _. record_shape (field_shape n)) done (map plain (map plain_field ps))) ≡ 36 * length ps
  items_long [] done = refl
  items_long (p ∷ ps) done =
      let a = record_bytes ((field_shape n).render (plain_field p) ++ []) in
      let rest = render_items (framed bare) (λ _. record_shape (field_shape n)) (done ++ (plain_field p ∷ [])) (map plain (map plain_field ps)) in
      omega (arith, length-append a rest, plain_long n p, items_long ps (done ++ (plain_field p ∷ [])))

-- every parent in a chain is a field of it
chain_below : (n k : ℕ) → n ≤ k → Each (λ p. p < k) (chain_of n)
unfolding chain_of
chain_below zero k l = tt
chain_below (suc n) k l = each_append (λ p. p < k) (chain_of n) ((n - 1) ∷ []) (chain_below n k (omega arith)) (omega arith, tt)

chain_count : (n : ℕ) → length (chain_content n).fields ≡ n
chain_count n = length-map (chain_of n) plain_field ∙ (chains_reach_cap n).long

chain_valid : (n : ℕ) → n ≤ most_fields → payload_shape.Valid (one_word (chain_content n))
unfolding payload_shape texts_shape lists_shape well_formed goes_on
chain_valid n few =
    let items = items_valid n few (chain_of n) [] (chain_below n n (omega arith)) in
    ((tt, (refl, (refl, tt))), ((rw (chain_count n) (omega arith, rw (le-leb n most_fields few), items), ((omega arith, refl, tt), ((omega arith, refl, tt), tt))), tt))

-- a header with these bytes for its list of fields, no name, no description, no columns and no aliases

abbrev last_lists : List ℕ
last_lists = list_bytes 0 [] ++ (list_bytes 0 [] ++ [])

abbrev empty_texts : List ℕ
empty_texts = feature_words 0 ++ ((spelled 4 0 ++ []) ++ ((spelled 4 0 ++ []) ++ []))

texts_long : length empty_texts ≡ 16
unfolding spelled feature_words
texts_long = refl

lists_long : length last_lists ≡ 16
unfolding spelled
lists_long = refl

abbrev with_fields : List ℕ → List ℕ
with_fields fields = spelled 2 1 ++ (spelled 2 1 ++ ((empty_texts ++ ((fields ++ last_lists) ++ [])) ++ []))

with_fields_long : (fields : List ℕ) → length (sealed (with_fields fields)) ≡ 40 + length fields
unfolding sealed
with_fields_long fields =
    let u = with_fields fields in
    let rest = (empty_texts ++ ((fields ++ last_lists) ++ [])) ++ [] in
    omega (
      arith,
      length-append u (spelled 4 (crc32 u)),
      length_spelled 4 (crc32 u),
      length-append (spelled 2 1) (spelled 2 1 ++ rest),
      length-append (spelled 2 1) rest,
      length_spelled 2 1,
      length-append (empty_texts ++ ((fields ++ last_lists) ++ [])) [],
      length-append empty_texts ((fields ++ last_lists) ++ []),
      length-append (fields ++ last_lists) [],
      length-append fields last_lists,
      texts_long,
      lists_long,
    )

-- 48 bytes and 36 for each field
chain_long : (n : ℕ) → length (chain_header n) ≡ 48 + 36 * n
unfolding unsummed standard payload_shape texts_shape lists_shape
chain_long n =
    let k = length (map plain (chain_content n).fields) in
    let items = render_items (framed bare) (λ _. record_shape (field_shape k)) [] (map plain (chain_content n).fields) in
    with_fields_long (list_bytes k (items ++ []))
    ∙ omega (arith, list_long k (items ++ []), length-append items [], items_long k (chain_of n) [], (chains_reach_cap n).long)

chain_right : (n : ℕ) → n ≤ most_fields → RightHeader (standard (chain_content n))
chain_right n few =
    let c = chains_reach_cap n in
    let count : length (chain_content n).fields ≡ length (chain_of n) = length-map (chain_of n) plain_field in
    standard_keeps (chain_content n) (chain_valid n few) (omega (arith, chain_long n)) (rw (plain_parents (chain_of n), count) c.rooted.ends)

pub cap_reached : CapReached
unfolding header_content
cap_reached n few r call =
    let h = header_complete (standard (chain_content n)) (chain_right n few) in
    let parents : parents_of h.header.lists.fields ≡ chain_of n
    = parents_same (chain_header n) h.header.lists.fields ∙ ap (λ (c : HeaderContent). parents_in c.fields) h.means
    ∙ ap (λ (c : PayloadContent). parents_in c.tables.fields) (standard_content (chain_content n)) ∙ plain_parents (chain_of n) in
    call.answers ∙ answer_found h.reads ∙ ap Ok (ap all_moves parents ∙ (chains_reach_cap n).reached)
