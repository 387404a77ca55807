use mathlib.Core.Bool.{false}
use borrow.Author.Tests.{leb-true}
use Rattle.wire.specs.Reading.{found, accepted}
use Rattle.frames.specs.Frames.{list_of, list_head, at_most}
use Rattle.frames.proofs.Loops.{list_accepted, list_rows, list_count_lem}
use Rattle.rows.specs.Words.{most_links}
use Rattle.links.specs.Links.{link, link_list}
use mathlib.Core.Path.{◌≡◌, sym, ◌∙◌}
use native.Mathlib.Omega.{arith}
use borrow.Author.Rules.{rules}
use Rattle.footer.proofs.fill.fill_link_list.Goals as goal

pub fill_links-requires : goal.fill_links-requires
fill_links-requires c = let a = c.args in
    let head : list_head (at_most most_links) a.s.now a.at ≡ found c.in-Ok.head c.in-Ok.stop = simp (← c.list_head_at_most.ensures, c.in-Ok.is) in
    let p = c.requires.at_value in
    let count = list_count_lem a.strict (at_most most_links) (λ _ _. link a.file) a.s.now a.at head p in
    record { file_value = rw c.up_to.ensures (list_accepted a.strict (at_most most_links) (λ _ _. link a.file) a.s.now a.at head p); count_in_bounds = omega arith }

pub returns-in-Ok : goal.returns-in-Ok
returns-in-Ok c = let a = c.args in
    let head : list_head (at_most most_links) a.s.now a.at ≡ found c.in-Ok.head c.in-Ok.stop = simp (← c.list_head_at_most.ensures, c.in-Ok.is) in
    rw (list_rows a.strict (at_most most_links) (λ _ _. link a.file) a.s.now a.at head c.requires.at_value, ← c.up_to.ensures) c.fill_links.ensures

pub returns-in-Err : goal.returns-in-Err
unfolding list_of
returns-in-Err c = let a = c.args in
    let e : accepted (link_list a.strict a.file a.s.now a.at) ≡ false = simp (← c.list_head_at_most.ensures, c.in-Err.is) in
    absurd (omega (arith, leb-true 1 0 (sym e ∙ c.requires.at_value)))
