-- Trees without spare bytes are their contents, so that standard headers with equal tables have equal bytes.
use Prim.Native.Nat.{ℕ, zero, suc, ◌^◌}
use mathlib.Core.List.{List, [], ◌∷◌, map}
use mathlib.Core.Path.{◌≡◌, refl, sym, ap, ◌∙◌, subst}
use native.Mathlib.Omega.{arith}
use borrow.Author.Tests.{eq-eqb}
use Rattle.numbers.specs.Lists.{Each}
use Rattle.numbers.specs.Numbers.{little}
use Rattle.wire.specs.Reading.{found}
use Rattle.header.specs.Tables.{header_of}
use Rattle.tree.specs.Bytes.{spelled, Stands}
use Rattle.tree.specs.Shape.{Carrier, bare, framed, list_carrier, ◌▷◌, dressed}
use Rattle.tree.specs.HeaderTree.{header_carrier, texts_shape, payload_shape, header_content, frames, feature_words, lists_carrier, payload_tuple, tuple_payload, content_tuple, tuple_content, HeaderTree, render_header, tables_of, RightHeader}
use Rattle.tree.specs.EnvelopeTree.{unsummed}
use Rattle.tree.specs.Spelling.{Standard, OneSpelling}
use Rattle.tree.proofs.Place.{little_spelled, stands_left}
use Rattle.tree.proofs.Envelope.{parts, sealed_parts}
use Rattle.tree.proofs.HeaderLaws.{header_sound}

-- a plain tree is determined by its content
abbrev pub Determined : {T C : Type 0} → Carrier T C → Type 0
Determined K = (t u : _) → K.Plain t → K.Plain u → K.content t ≡ K.content u → t ≡ u

pub bare_determined : {T : Type 0} → Determined (bare {T = T})
bare_determined t u p q e = e

pub then_determined : {T C U D : Type 0} (K : Carrier T C) (L : Carrier U D) → Determined K → Determined L → Determined (K ▷ L)
then_determined K L k l t u p q e = λ i. (k t.0 u.0 p.0 q.0 (ap (λ c. c.0) e) i, l t.1 u.1 p.1 q.1 (ap (λ c. c.1) e) i)

pub framed_determined : {T C : Type 0} (K : Carrier T C) → Determined K → Determined (framed K)
framed_determined K k t u p q e = λ i. record { inside = k t.inside u.inside p.0 q.0 e i; spare = (p.1 ∙ sym q.1) i }

each_determined : {T C : Type 0} (K : Carrier T C) → Determined K → (ts us : List T) → Each K.Plain ts → Each K.Plain us
    → map K.content ts ≡ map K.content us → ts ≡ us
each_determined K k [] [] p q e = refl
each_determined K k [] (u ∷ us) p q e = let z : ◌≡◌ {A = ℕ} 0 1 = cc in absurd (omega arith)
each_determined K k (t ∷ ts) [] p q e = let z : ◌≡◌ {A = ℕ} 0 1 = cc in absurd (omega arith)
each_determined K k (t ∷ ts) (u ∷ us) p q e =
    let head : K.content t ≡ K.content u = cc in
    let tail : map K.content ts ≡ map K.content us = cc in
    λ i. k t u p.0 q.0 head i ∷ each_determined K k ts us p.1 q.1 tail i

pub list_determined : {T C : Type 0} (K : Carrier T C) → Determined K → Determined (list_carrier K)
list_determined K k t u p q e = λ i. record { inside = each_determined K k t.inside u.inside p.0 q.0 e i; spare = (p.1 ∙ sym q.1) i }

frames_determined : {C : Type 0} → Determined (frames {C = C})
frames_determined = list_determined (framed bare) (framed_determined bare bare_determined)

-- in another dress
pub dressed_determined : {T U C D : Type 0} (to : T → U) (from : U → T) (into : C → D) (back : D → C) (K : Carrier U D) → ((t : T) → from (to t) ≡ t)
    → ((d : D) → into (back d) ≡ d) → Determined K → Determined (dressed to back K)
dressed_determined to from into back K there again k t u p q e =
    let content : K.content (to t) ≡ K.content (to u) = sym (again (K.content (to t))) ∙ ap into e ∙ again (K.content (to u)) in
    sym (there t) ∙ ap from (k (to t) (to u) p q content) ∙ there u

lists_determined : Determined lists_carrier
lists_determined =
    then_determined frames _ frames_determined
    (then_determined frames _ frames_determined
    (then_determined frames bare frames_determined bare_determined))

header_determined : Determined header_carrier
header_determined =
    dressed_determined payload_tuple tuple_payload content_tuple tuple_content (bare ▷ lists_carrier ▷ bare) (λ t. refl) (λ d. refl)
    (then_determined bare _ bare_determined
    (then_determined lists_carrier bare lists_determined bare_determined))

-- what the bytes of a standard header say of its tree
record Known (t : HeaderTree) : Type 0 where
  version : t.version ≡ 1
  minimum : t.minimum ≡ 1
  words : t.inside.words ≡ 0

no_words : (s : List ℕ) (k : ℕ) → Stands s 4 (feature_words k) → little 8 s 4 ≡ 0 → k ≡ 0
unfolding feature_words
no_words s zero st z = refl
no_words s (suc k) st z = absurd (omega (arith, little_spelled 8 (2 ^ 63) (omega arith) (stands_left (spelled 8 (2 ^ 63)) (feature_words k) st)))

known : (t : HeaderTree) → RightHeader t → Standard (render_header t) → Known t
unfolding payload_shape texts_shape
known t right std =
    let r = right.envelope in
    let p = parts (λ _. payload_shape) t (render_header t) r.version_fits (omega (arith, r.version_fits, r.order)) (sealed_parts (unsummed (λ _. payload_shape) t)).stands in
    let all = stands_left (payload_shape.render t.inside) t.spare p.payload in
    let front = stands_left (texts_shape.render (payload_tuple t.inside).0) _ all in
    record {
      version = sym p.version ∙ std.version;
      minimum = sym p.minimum ∙ std.minimum;
      words = no_words (render_header t) t.inside.words (stands_left (feature_words t.inside.words) _ front) std.single;
    }

plain_tree : (t : HeaderTree) → RightHeader t → Known t → header_carrier.Plain t.inside × (t.spare ≡ [])
plain_tree t right k = right.envelope.plain (eq-eqb t.version t.minimum (k.version ∙ sym k.minimum))

-- standard trees with the same tables are the same
same_tree : (t u : HeaderTree) → Known t → Known u → header_carrier.Plain t.inside × (t.spare ≡ [])
    → header_carrier.Plain u.inside × (u.spare ≡ []) → tables_of t ≡ tables_of u → t ≡ u
same_tree t u k l p q same =
    let content : header_carrier.content t.inside ≡ header_carrier.content u.inside = λ i. record { words = (k.words ∙ sym l.words) i; tables = same i } in
    λ i. record {
      version = (k.version ∙ sym l.version) i;
      minimum = (k.minimum ∙ sym l.minimum) i;
      inside = header_determined t.inside u.inside p.0 q.0 content i;
      spare = (p.1 ∙ sym q.1) i;
    }

pub one_spelling : OneSpelling
one_spelling e e' h h' q q' bytes bytes' reads reads' std std' =
    let w = header_sound e h q bytes reads in
    let w' = header_sound e' h' q' bytes' reads' in
    let k = known w.tree w.right (subst Standard (sym w.bytes) std) in
    let k' = known w'.tree w'.right (subst Standard (sym w'.bytes) std') in
    let p = plain_tree w.tree w.right k in
    let p' = plain_tree w'.tree w'.right k' in (
      λ same. sym w.bytes ∙ ap render_header (same_tree w.tree w'.tree k k' p p' (sym w.means ∙ same ∙ w'.means)) ∙ w'.bytes,
      λ same.
          let again : header_of e ≡ found h' q' = ap header_of same ∙ reads' in
          let header : h ≡ h' = cc (reads, again) in
          λ i. header_content (same i) (header i),
    )
