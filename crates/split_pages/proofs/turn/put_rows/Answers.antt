-- `split_pages::turn::put_rows` meets its contract. Assumes nothing.
use Rattle.std.proofs.Common.{◌≡◌, ℕ, ◌+◌, ◌*◌, ◌/◌, ◌≤◌, List, length, ap, ◌∙◌, subst, arith}
use Rattle.split_pages.specs.Turn.{eight_of, four_rows, eight_rows, Turned}
use Rattle.page_rules.proofs.Types.{sixty_four_left}
use Rattle.split_pages.proofs.Turning.{turned_two, turned_four, turned_eight}
use Rattle.split_pages.proofs.turn.put_rows.Goals as goal

-- there is room for the planes of a known width
room : (width w n : ℕ) (old : List ℕ) → n * (width / 8) ≤ length old → width ≡ w → n * (w / 8) ≤ length old
room width w n old h e = subst (λ (v : ℕ). n * (v / 8) ≤ length old) e h

-- what is turned at a known width
turned_by : (width w n at : ℕ) (f : ℕ → ℕ) (old l out : List ℕ) → width ≡ w → out ≡ l → Turned (w / 8) n at f old l → Turned (width / 8) n at f old out
turned_by width w n at f old l out e g t = rw (e, g) t

pub returns-then-width-eq16 : goal.returns-then-width-eq16
returns-then-width-eq16 c = let a = c.args in
    let e = c.if-width-eq16.true in
    turned_by a.width 16 a.n a.at _ a.out.now _ _ e c.put_two_rows.ensures
    (turned_two a.n a.at (eight_of a.a a.b a.c a.d a.e a.f a.g a.i) a.out.now c.requires.1 (omega (arith, room a.width 16 a.n a.out.now c.requires.2 e)))

pub returns-then-width-eq32 : goal.returns-then-width-eq32
returns-then-width-eq32 c = let a = c.args in
    let e = c.if-width-eq32.true in
    turned_by a.width 32 a.n a.at _ a.out.now _ _ e c.put_four_rows.ensures
    (turned_four a.n a.at (eight_of a.a a.b a.c a.d a.e a.f a.g a.i) a.out.now c.requires.1 (omega (arith, room a.width 32 a.n a.out.now c.requires.2 e)))

pub returns-else-width-eq32 : goal.returns-else-width-eq32
unfolding eight_rows
returns-else-width-eq32 c = let a = c.args in
    let e = sixty_four_left a.width c.requires.0 c.if-width-eq16.false c.if-width-eq32.false in
    turned_by a.width 64 a.n a.at _ a.out.now _ _ e
    (c.put_four_rows-else-width-eq32-2.ensures
    ∙ ap (four_rows a.a a.b a.c a.d a.e a.f a.g a.i 4294967296 (a.at + 4 * a.n) a.n) c.put_four_rows-else-width-eq32.ensures)
    (turned_eight a.n a.at (eight_of a.a a.b a.c a.d a.e a.f a.g a.i) a.out.now c.requires.1 (omega (arith, room a.width 64 a.n a.out.now c.requires.2 e)))
