-- `planes::pass::place_all` meets its contract: most of the plane, then the rest. Assumes nothing.
use mathlib.Core.Path.{◌≡◌, ap, ap₂, ◌∙◌}
use mathlib.Core.List.{List, ◌++◌}
use Prim.Native.Nat.{ℕ, ◌*◌, ◌%◌, ◌^◌, ◌≤◌, ◌<◌}
use native.Mathlib.Omega.{arith}
use lib.ListN.{length, take, drop, length-drop}
use Rattle.planes.specs.Plane.{joined_by, with_byte}
use Rattle.planes.specs.Join.{others, joins}
use Rattle.numbers.proofs.Parts.{rest_of, put_rest}
use Rattle.planes.proofs.Joined.{joined_rest, joined_same}
use Rattle.planes.proofs.Words.{unit_is, unit_fits, joins_with_byte}
use borrow.Author.Rules.{rules}
use Rattle.planes.proofs.pass.place_all.Goals as goal

-- how the code joins a byte to a word, by the unit
abbrev join_by : ℕ → ℕ → ℕ → ℕ
join_by u = joins u (others u)

-- the unit as the code has it
shift_fits : (p : ℕ) → p < 8 → 256 * (1 * 2 ^ (8 * p) % 2 ^ 64) ≤ 2 ^ 64
shift_fits p h = rw (unit_is p h) (unit_fits p h)

pub overflow_mul-keep : goal.overflow_mul-keep
overflow_mul-keep c = omega (arith, shift_fits c.args.p c.requires.0)

pub overflow_sub-keep : goal.overflow_sub-keep
overflow_sub-keep c = omega (arith, shift_fits c.args.p c.requires.0)

pub place_each-requires : goal.place_each-requires
place_each-requires c = let a = c.args in
    let m = c.place_most-done in
    let long : length m.new.out ≡ length a.out.now = search rules in
    (shift_fits a.p c.requires.0, rw (rest_of m.result a.plane.now, rest_of m.result m.new.out) (omega (arith, length-drop m.result a.plane.now, length-drop m.result m.new.out)))

pub returns : goal.returns
returns c = let unit-at : 1 * 2 ^ (8 * c.args.p) % 2 ^ 64 ≡ 256 ^ c.args.p = unit_is c.args.p c.requires.0 in
    let a = c.args in
    let m = c.place_most-done in
    let d : ℕ = m.result in
    let mid : List ℕ = m.new.out in
    let plane : List ℕ = a.plane.now in
    let old : List ℕ = a.out.now in
    let u : ℕ = 256 ^ a.p in
    let first : mid ≡ joined_by (join_by u) (take d plane) old = m.ensures.1 ∙ ap (λ (v : ℕ). joined_by (joins u (others v)) (take d plane) old) (unit-at) in
    put_rest d mid _
    ∙ ap (λ (l : List ℕ). take d mid ++ l)
    (c.place_each.ensures
    ∙ ap₂ (joined_by (join_by (1 * 2 ^ (8 * a.p) % 2 ^ 64))) (rest_of d plane) (rest_of d mid))
    ∙ ap₂ (λ (l : List ℕ) (v : ℕ). take d l ++ joined_by (join_by v) (drop d plane) (drop d l)) first (unit-at)
    ∙ joined_rest (join_by u) d plane old m.ensures.0 c.requires.1
    ∙ joined_same (join_by u) (with_byte 8 a.p) plane old
    (λ i h l. joins_with_byte a.p _ _ c.requires.0 (omega (arith, c.type_inv.plane i)) (search rules))
