use Rattle.std.proofs.Common.{ℕ, ◌≡◌, refl, arith, add-one, sym, subst}
use denote.Ref.{at_last}
use Rattle.stores.specs.Rowed.{Rowed}
use Rattle.stores.proofs.framed.store_rows.Goals as goal

pub loop-i-init : goal.loop-i-init
unfolding Rowed
loop-i-init g c = (refl, refl)

pub loop-i-preserved : goal.loop-i-preserved
unfolding Rowed
loop-i-preserved g c =
    subst (λ (k : ℕ). Rowed (λ i place before end after. g.R.StoreRow.leaves c.args.rows.now i place before.now end after.now) c.args.out.now c.args.at k c.store_row-next.new.out c.store_row-next.result) (sym (add-one c.loop-i.i))
    (record { place = c.loop-i.next; before = at_last c.args.out c.loop-i.out; after = at_last c.args.out c.store_row-next.new.out; rows = c.loop-i.invariant; row = c.store_row-next.ensures; left = refl })

pub returns : goal.returns
returns g c =
    let all : c.loop-i.i ≡ c.args.n = omega arith in
    subst (λ (k : ℕ). Rowed (λ i place before end after. g.R.StoreRow.leaves c.args.rows.now i place before.now end after.now) c.args.out.now c.args.at k c.loop-i.out c.loop-i.next) all c.loop-i.invariant
