-- The listing of a header, by what its tables say: their strings by their characters.
use Prim.Native.Nat.{ℕ, suc, ◌+◌, ◌≤◌, ◌<◌}
use mathlib.Core.List.{List, [], ◌∷◌, ◌++◌, map, map-append, append-nil}
use mathlib.Core.Bool.{Bool}
use mathlib.Core.Path.{◌≡◌, refl, sym, ap, ap₂, ◌∙◌}
use native.Mathlib.Omega.{arith}
use lib.ListN.{length, get_or, length-map, get_or-map, get_or-append}
use lib.Seq.{get_or-append-add}
use Rattle.numbers.specs.Rows.{flat, flat_by}
use Rattle.rows.proofs.TableLaws.{flat_join}
use Rattle.rows.specs.Words.{field_of}
use Rattle.wire.specs.Reading.{found}
use Rattle.parents.specs.Dark.{dark}
use Rattle.chain_moves.specs.Distances.{Rooted}
use Rattle.header.specs.Header.{Header}
use Rattle.header.specs.Tables.{header_of, parents_of}
use Rattle.moves.proofs.Laws.{field_count_lem}
use Rattle.listing.specs.Order.{Entry, joined, order}
use Rattle.listing.specs.Lines.{line, entry_line, row_in, dark_in, listing}
use Rattle.listing.proofs.OrderLaws.{joined_each}
use Rattle.listing.proofs.LineLaws.{lines_same}
use Rattle.listing_text.proofs.NameLaws.{name_stands, type_stands}
use Rattle.listing.proofs.AppendLaws.{at_top, joined_by_lem, order_appended}
use Rattle.tree.specs.Shape.{Framed}
use Rattle.tree.specs.HeaderTree.{FieldContent, HeaderContent, field_content, header_content, parents_in}
use Rattle.tree.proofs.HeaderLaws.{parents_same}
use Rattle.forward.proofs.Calls.{mark_content}
use Rattle.forward.proofs.Chains.{Tops}

-- what a row of zeros says
abbrev no_field : FieldContent
no_field = field_content [] (field_of [])

-- the line of a field with this content, and of an entry
abbrev content_line : ℕ → ℕ → FieldContent → Bool → List ℕ
content_line level k c d = line level k c.texts.name c.texts.type_name d

abbrev entry_line_lem : List FieldContent → (ℕ → Bool) → Entry → List ℕ
entry_line_lem fs d x = content_line x.level x.field (get_or fs x.field no_field) (d x.field)

abbrev pub listed : HeaderContent → List ℕ
listed c = flat (entry_line_lem c.fields (dark (parents_in c.fields) c.columns)) (order (parents_in c.fields))

pub listing_content : (e : List ℕ) {h : Header} {p : ℕ} → header_of e ≡ found h p → listing e h.lists ≡ listed (header_content e h)
unfolding listing entry_line header_content
listing_content e {h} reads =
    let l = h.lists in
    let fs = map (field_content e) l.fields in
    lines_same (entry_line e (row_in l) (dark_in l)) (entry_line_lem fs (dark (parents_in fs) l.columns)) (parents_of l.fields)
    (λ x less.
    let k = x.field in
    let n = field_count_lem l.fields in
    let row : get_or fs k no_field ≡ field_content e (row_in l k) = get_or-map (field_content e) l.fields k (field_of []) in
    let name = name_stands e reads k ∙ sym (ap (λ (c : FieldContent). c.texts.name) row) in
    let type = type_stands e reads k ∙ sym (ap (λ (c : FieldContent). c.texts.type_name) row) in
    let mark = mark_content e h k in
    λ i. line x.level k (name i) (type i) (mark i))
    ∙ ap (λ (parents : List ℕ). flat (entry_line_lem fs (dark (parents_in fs) l.columns)) (order parents)) (parents_same e l.fields)

flat_map : {A B : Type 0} (f : A → B) (v : ℕ → B → List ℕ) (n : ℕ) (xs : List A) → flat_by v n (map f xs) ≡ flat_by (λ i x. v i (f x)) n xs
unfolding flat_by
flat_map f v n [] = refl
flat_map f v n (x ∷ xs) = ap (λ (r : List ℕ). v n (f x) ++ r) (flat_map f v (suc n) xs)

-- fields that are appended, each its own parent: the earlier ones keep their dark marks, and theirs are these
module _ (fs : List FieldContent) (new : List (Framed FieldContent)) (d all own : ℕ → Bool) where
  abbrev ns : List FieldContent
  ns = map (λ (f : Framed FieldContent). f.inside) new

  pub lines_appended : Rooted (parents_in fs) → Tops (parents_in fs ++ parents_in ns) (length (parents_in fs)) → ((k : ℕ) → k < length fs → all k ≡ d k) → ((k : ℕ) → length fs ≤ k → all k ≡ own k)
      → flat (entry_line_lem (fs ++ ns) all) (order (parents_in (fs ++ ns)))
      ≡ flat (entry_line_lem fs d) (order (parents_in fs)) ++ flat_by (λ k f. content_line 0 k f.inside (own k)) (length fs) new
  unfolding flat
  lines_appended rooted tops same marks =
      let parent : FieldContent → ℕ = λ c. c.head.parent.0 in
      let old = parents_in fs in
      let w = entry_line_lem (fs ++ ns) all in
      let long : length old ≡ length fs = length-map fs parent in
      let top : ℕ → List Entry = λ j. at_top (length old + j) ∷ [] in
      let lines : ℕ → List ℕ = λ j. flat w (top j) in
      ap (λ (parents : List ℕ). flat w (order parents)) (map-append parent fs ns)
      ∙ ap (flat w) (order_appended old (parents_in ns) rooted tops)
      ∙ flat_join w (order old) (joined top (length (parents_in ns)))
      ∙ ap₂ ◌++◌
      (lines_same w (entry_line_lem fs d) old
      (λ x less.
      let k = x.field in
      let row = get_or-append fs ns no_field k (omega arith) in
      let mark = same k (omega arith) in
      λ i. content_line x.level k (row i) (mark i)))
      (joined_each (flat w) refl (flat_join w) top (length (parents_in ns))
      ∙ ap (joined lines) (length-map ns parent)
      ∙ joined_by_lem lines (λ k c. content_line 0 k c (own k)) no_field (length fs) ns
      (λ j less.
      let row = get_or-append-add fs ns j no_field in
      let mark = marks (length fs + j) (omega arith) in
      append-nil (w (at_top (length old + j))) ∙ ap (λ (n : ℕ). w (at_top (n + j))) long ∙ (λ i. content_line 0 (length fs + j) (row i) (mark i)))
      ∙ flat_map (λ (f : Framed FieldContent). f.inside) (λ k c. content_line 0 k c (own k)) (length fs) new)
