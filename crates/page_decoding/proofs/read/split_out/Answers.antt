use Rattle.std.proofs.Common.{◌≡◌, ℕ, ◌+◌, ◌*◌, ◌^◌, List, ◌++◌, drop, sym, refl, ap, ◌∙◌, ap₂, add-one, arith, rules}
use Rattle.planes.specs.Plane.{placed}
use Rattle.page_decoding.specs.Passes.{placed_below, PlanesInTurn}
use Rattle.coding.proofs.Below.{below_all}
use Rattle.page_rules.proofs.Encoding.{part_is}
use Rattle.page_decoding.proofs.Passes.{start_is, planes_in_turn}
use Rattle.page_decoding.proofs.read.split_out.Goals as goal

pub loop-p-init : goal.loop-p-init
unfolding placed_below
loop-p-init c = (refl, refl)

pub loop-p-preserved : goal.loop-p-preserved
unfolding placed_below
loop-p-preserved c = let a = c.args in
    let l = c.loop-p in
    let n : ℕ = a.n in
    let page : List ℕ = a.page.now in
    let first : List ℕ = c.clear_above.new.out ++ drop n a.out.now in
    let d = c.place_plane in
    let e : d.new.out ≡ placed_below (l.p + 1) n page first =
    d.ensures ∙ ap₂ (placed 8 l.p) (part_is n (l.p * n) page) l.invariant.0 ∙ ap (λ (q : ℕ). placed_below q n page first) (sym (add-one l.p)) in
    (e, search rules)

pub returns : goal.returns
unfolding PlanesInTurn
returns c = let a = c.args in
    let l = c.loop-p in
    let page : List ℕ = a.page.now in
    let old : List ℕ = a.out.now in
    let f = c.clear_above in
    let e : l.p ≡ a.k = omega (arith, c.loop-p-test.false) in
    l.invariant.0 ∙ ap₂ (λ (q : ℕ) (ws : List ℕ). placed_below q a.n page ws) e (start_is a.k a.n old f.new.out c.requires.1 f.ensures)
    ∙ planes_in_turn a.k a.n page old c.requires.0 c.requires.2 c.requires.1
    (below_all 256 page (λ i h. omega (arith, c.type_inv.page i))) (below_all (256 ^ 8) old (λ i h. search rules))
