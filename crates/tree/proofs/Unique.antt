-- A rendering has one tree: what stands at a place is the rendering of at most one valid tree.
use Prim.Native.Nat.{ℕ, ◌+◌, ◌-◌, ◌^◌, ◌≤◌, ◌<◌}
use mathlib.Core.List.{List, [], ◌∷◌, ◌++◌, map}
use mathlib.Core.Path.{◌≡◌, refl, sym, ap, ◌∙◌, subst}
use native.Mathlib.Omega.{arith}
use lib.ListN.{length, take, drop, length-append, length-drop, length-map}
use lib.Seq.{drop-append_seam}
use Rattle.numbers.specs.Numbers.{little}
use Rattle.tree.specs.Bytes.{spelled, Stands}
use Rattle.tree.specs.Shape.{Carrier, Shape, bare, number_shape, string_shape, nothing_shape, then_shape, seen_shape, dressed, dressed_shape, ◌▷◌, Framed, framed, record_shape, render_items, ValidItems, list_carrier, list_shape}
use Rattle.tree.proofs.Place.{length_spelled, stands_left, stands_right, part_stands, little_spelled}

-- valid trees that stand at one place are one
pub record Free {T C : Type 0} (K : Carrier T C) (S : Shape T C) : Type 0 where
  pub one : (s : List ℕ) (p : ℕ) (t u : T) → length s < 2 ^ 31 → S.Valid (K.content t) → S.Valid (K.content u) → Stands s p (S.render t)
      → Stands s p (S.render u) → t ≡ u

-- what stands in s is no longer than s
stands_short : {s : List ℕ} {p : ℕ} {bs : List ℕ} → Stands s p bs → length bs ≤ length s
stands_short {s} {p} {bs} h = omega (arith, ap length h.at, length-drop p s, length-append bs h.rest)

-- two parts of one length at one place are the same
pub stands_same : {s : List ℕ} {p : ℕ} {a b : List ℕ} → Stands s p a → Stands s p b → length a ≡ length b → a ≡ b
stands_same {s} {p} {a} {b} h k e = sym (part_stands h) ∙ ap (λ (n : ℕ). take n (drop p s)) e ∙ part_stands k

-- two tails behind the same front
pub tails : (a b x y : List ℕ) → a ≡ b → a ++ x ≡ b ++ y → x ≡ y
tails a b x y e f = sym (drop-append_seam a x) ∙ ap (drop (length a)) f ∙ ap (λ (l : List ℕ). drop (length l) (b ++ y)) e ∙ drop-append_seam b y

pub number_free : (k : ℕ) (verdict : ℕ → ℕ) → Free bare (number_shape k verdict)
number_free k verdict = record { one = λ s p t u small v w st su. sym (little_spelled k t v.0 st) ∙ little_spelled k u w.0 su }

pub nothing_free : Free bare nothing_shape
nothing_free = record { one = λ s p t u small v w st su. refl }

string_one : (s : List ℕ) (p : ℕ) (t u : List ℕ) → length s < 2 ^ 31 → Stands s p (string_shape.render t) → Stands s p (string_shape.render u)
    → t ≡ u
string_one s p t u small st su =
    let a = spelled 4 (length t) in
    let b = spelled 4 (length u) in
    let l₁ = length_spelled 4 (length t) in
    let l₂ = length_spelled 4 (length u) in
    let s₁ = stands_short st in
    let s₂ = stands_short su in
    let m₁ : little 4 s p ≡ length t = little_spelled 4 (length t) (omega (arith, length-append a t)) (stands_left a t st) in
    let m₂ : little 4 s p ≡ length u = little_spelled 4 (length u) (omega (arith, length-append b u)) (stands_left b u su) in
    let r₁ : Stands s (p + 4) t = rw l₁ at (stands_right a t st) in
    let r₂ : Stands s (p + 4) u = rw l₂ at (stands_right b u su) in
    stands_same r₁ r₂ (sym m₁ ∙ m₂)

pub string_free : Free bare string_shape
string_free = record { one = λ s p t u small v w st su. string_one s p t u small st su }

then_one : {T C U D : Type 0} (K : Carrier T C) (L : Carrier U D) (S : Shape T C) (G : C → Shape U D) → Free K S → ((c : C) → Free L (G c))
    → (s : List ℕ) (p : ℕ) (t u : T × U) → length s < 2 ^ 31 → (then_shape K S G).Valid ((K ▷ L).content t)
    → (then_shape K S G).Valid ((K ▷ L).content u) → Stands s p ((then_shape K S G).render t) → Stands s p ((then_shape K S G).render u) → t ≡ u
then_one {T} K L S G first second s p t u small v w st su =
    let e : t.0 ≡ u.0 = first.one s p t.0 u.0 small v.0 w.0 (stands_left (S.render t.0) ((G (K.content t.0)).render t.1) st) (stands_left (S.render u.0) ((G (K.content u.0)).render u.1) su) in
    let st' = stands_right (S.render t.0) ((G (K.content t.0)).render t.1) st in
    let su' = subst (λ (x : T). Stands s (p + length (S.render x)) ((G (K.content x)).render u.1)) (sym e) (stands_right (S.render u.0) ((G (K.content u.0)).render u.1) su) in
    let w' = subst (λ (x : T). (G (K.content x)).Valid (L.content u.1)) (sym e) w.1 in
    let f = (second (K.content t.0)).one s (p + length (S.render t.0)) t.1 u.1 small v.1 w' st' su' in
    λ i. (e i, f i)

pub then_free : {T C U D : Type 0} {K : Carrier T C} {L : Carrier U D} {S : Shape T C} {G : C → Shape U D} → Free K S → ((c : C) → Free L (G c))
    → Free (K ▷ L) (then_shape K S G)
then_free {K = K} {L = L} {S = S} {G = G} first second = record { one = then_one K L S G first second }

-- leaves, one after the other
pub next_free : {T U : Type 0} {S : Shape T T} {G : T → Shape U U} → Free bare S → ((c : T) → Free bare (G c)) → Free bare (then_shape bare S G)
next_free {S = S} {G = G} first second = record { one = then_one bare bare S G first second }

pub seen_free : {T C : Type 0} {S : Shape T T} (to : C → T) (from : T → C) → ((c : C) → from (to c) ≡ c) → Free bare S → Free bare (seen_shape to S)
seen_free to from back free = record { one = λ s p t u small v w st su. sym (back t) ∙ ap from (free.one s p (to t) (to u) small v w st su) ∙ back u }

-- trees with frames in another dress
pub dressed_free : {T U C D : Type 0} {K : Carrier U D} {S : Shape U D} (to : T → U) (from : U → T) (into : C → D) (back : D → C)
    → ((t : T) → from (to t) ≡ t) → ((d : D) → into (back d) ≡ d) → Free K S → Free (dressed to back K) (dressed_shape to into S)
dressed_free {K = K} {S = S} to from into back there again free =
    record {
      one = λ s p t u small v w st su.
          let v' = subst S.Valid (again (K.content (to t))) v in
          let w' = subst S.Valid (again (K.content (to u))) w in
          sym (there t) ∙ ap from (free.one s p (to t) (to u) small v' w' st su) ∙ there u;
    }

record_one : {T C : Type 0} (K : Carrier T C) (S : Shape T C) → Free K S → (s : List ℕ) (p : ℕ) (t u : Framed T) → length s < 2 ^ 31
    → S.Valid (K.content t.inside) → S.Valid (K.content u.inside) → Stands s p ((record_shape S).render t)
    → Stands s p ((record_shape S).render u) → t ≡ u
record_one K S free s p t u small v w st su =
    let x = S.render t.inside in
    let y = S.render u.inside in
    let bx = x ++ t.spare in
    let by = y ++ u.spare in
    let a = spelled 4 (4 + length bx) in
    let b = spelled 4 (4 + length by) in
    let l₁ = length_spelled 4 (4 + length bx) in
    let l₂ = length_spelled 4 (4 + length by) in
    let s₁ = stands_short st in
    let s₂ = stands_short su in
    let m₁ : little 4 s p ≡ 4 + length bx = little_spelled 4 (4 + length bx) (omega (arith, length-append a bx)) (stands_left a bx st) in
    let m₂ : little 4 s p ≡ 4 + length by = little_spelled 4 (4 + length by) (omega (arith, length-append b by)) (stands_left b by su) in
    let r₁ : Stands s (p + 4) bx = rw l₁ at (stands_right a bx st) in
    let r₂ : Stands s (p + 4) by = rw l₂ at (stands_right b by su) in
    let bodies : bx ≡ by = stands_same r₁ r₂ (omega arith) in
    let inner : t.inside ≡ u.inside = free.one s (p + 4) t.inside u.inside small v w (stands_left x t.spare r₁) (stands_left y u.spare r₂) in
    let spares : t.spare ≡ u.spare = tails x y t.spare u.spare (ap S.render inner) bodies in
    λ i. record { inside = inner i; spare = spares i }

pub record_free : {T C : Type 0} {K : Carrier T C} {S : Shape T C} → Free K S → Free (framed K) (record_shape S)
record_free {K = K} {S = S} free = record { one = record_one K S free }

-- items

each_free : {T C : Type 0} (K : Carrier T C) (G : List C → Shape T C) → ((done : List C) → Free K (G done)) → (s : List ℕ) → length s < 2 ^ 31
    → (ts us : List T) (done : List C) (p : ℕ) → length ts ≡ length us → ValidItems G done (map K.content ts)
    → ValidItems G done (map K.content us) → Stands s p (render_items K G done ts) → Stands s p (render_items K G done us) → ts ≡ us
each_free K G free s small [] [] done p long v w st su = refl
each_free K G free s small [] (u ∷ us) done p long v w st su = absurd (omega arith)
each_free K G free s small (t ∷ ts) [] done p long v w st su = absurd (omega arith)
each_free {T} K G free s small (t ∷ ts) (u ∷ us) done p long v w st su =
    let a = render_items K G (done ++ (K.content t ∷ [])) ts in
    let b = render_items K G (done ++ (K.content u ∷ [])) us in
    let e : t ≡ u = (free done).one s p t u small v.0 w.0 (stands_left ((G done).render t) a st) (stands_left ((G done).render u) b su) in
    let st' = stands_right ((G done).render t) a st in
    let su' = subst (λ (x : T). Stands s (p + length ((G done).render x)) (render_items K G (done ++ (K.content x ∷ [])) us)) (sym e) (stands_right ((G done).render u) b su) in
    let w' = subst (λ (x : T). ValidItems G (done ++ (K.content x ∷ [])) (map K.content us)) (sym e) w.1 in
    let f = each_free K G free s small ts us (done ++ (K.content t ∷ [])) (p + length ((G done).render t)) (omega arith) v.1 w' st' su' in
    λ i. e i ∷ f i

list_one : {T C : Type 0} (K : Carrier T C) (verdict : ℕ → ℕ) (G : ℕ → List C → Shape T C) → ((n : ℕ) (done : List C) → Free K (G n done))
    → (s : List ℕ) (p : ℕ) (t u : Framed (List T)) → length s < 2 ^ 31 → (list_shape K verdict G).Valid ((list_carrier K).content t)
    → (list_shape K verdict G).Valid ((list_carrier K).content u) → Stands s p ((list_shape K verdict G).render t)
    → Stands s p ((list_shape K verdict G).render u) → t ≡ u
list_one {T} K verdict G free s p t u small v w st su =
    let ts = t.inside in
    let us = u.inside in
    let n = length ts in
    let m = length us in
    let (few, _, each) = rw (length-map ts K.content) at v in
    let (few', _, each') = rw (length-map us K.content) at w in
    let x = render_items K (G n) [] ts in
    let y = render_items K (G m) [] us in
    let bx = x ++ t.spare in
    let by = y ++ u.spare in
    let a = spelled 4 (2 ^ 32 - (8 + length bx)) in
    let b = spelled 4 (2 ^ 32 - (8 + length by)) in
    let c = spelled 4 n in
    let d = spelled 4 m in
    let l₁ = length_spelled 4 (2 ^ 32 - (8 + length bx)) in
    let l₂ = length_spelled 4 (2 ^ 32 - (8 + length by)) in
    let l₃ = length_spelled 4 n in
    let l₄ = length_spelled 4 m in
    let s₁ = stands_short st in
    let s₂ = stands_short su in
    let k₁ = length-append a (c ++ bx) in
    let k₂ = length-append b (d ++ by) in
    let k₃ = length-append c bx in
    let k₄ = length-append d by in
    let m₁ : little 4 s p ≡ 2 ^ 32 - (8 + length bx) = little_spelled 4 (2 ^ 32 - (8 + length bx)) (omega arith) (stands_left a (c ++ bx) st) in
    let m₂ : little 4 s p ≡ 2 ^ 32 - (8 + length by) = little_spelled 4 (2 ^ 32 - (8 + length by)) (omega arith) (stands_left b (d ++ by) su) in
    let r₁ : Stands s (p + 4) (c ++ bx) = rw l₁ at (stands_right a (c ++ bx) st) in
    let r₂ : Stands s (p + 4) (d ++ by) = rw l₂ at (stands_right b (d ++ by) su) in
    let m₃ : little 4 s (p + 4) ≡ n = little_spelled 4 n (omega arith) (stands_left c bx r₁) in
    let m₄ : little 4 s (p + 4) ≡ m = little_spelled 4 m (omega arith) (stands_left d by r₂) in
    let q₁ : Stands s (p + 4 + 4) bx = rw l₃ at (stands_right c bx r₁) in
    let q₂ : Stands s (p + 4 + 4) by = rw l₄ at (stands_right d by r₂) in
    let bodies : bx ≡ by = stands_same q₁ q₂ (omega arith) in
    let count : m ≡ n = sym m₄ ∙ m₃ in
    let z₁ : Stands s (p + 4 + 4) x = stands_left x t.spare q₁ in
    let z₂ : Stands s (p + 4 + 4) (render_items K (G n) [] us) = subst (λ (k : ℕ). Stands s (p + 4 + 4) (render_items K (G k) [] us)) count (stands_left y u.spare q₂) in
    let w' : ValidItems (G n) [] (map K.content us) = subst (λ (k : ℕ). ValidItems (G k) [] (map K.content us)) count each' in
    let inner : ts ≡ us = each_free K (G n) (free n) s small ts us [] (p + 4 + 4) (sym count) each w' z₁ z₂ in
    let spares : t.spare ≡ u.spare = tails x y t.spare u.spare (ap (λ (xs : List T). render_items K (G (length xs)) [] xs) inner) bodies in
    λ i. record { inside = inner i; spare = spares i }

pub list_free : {T C : Type 0} {K : Carrier T C} (verdict : ℕ → ℕ) {G : ℕ → List C → Shape T C} → ((n : ℕ) (done : List C) → Free K (G n done))
    → Free (list_carrier K) (list_shape K verdict G)
list_free {K = K} verdict {G = G} free = record { one = list_one K verdict G free }
