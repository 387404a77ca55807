-- `true_count::count_true` meets its contract: the refusal is that of decoding, and the ones of an accepted page's bytes are counted. Assumes nothing.
use mathlib.Core.Path.{◌≡◌, refl, sym, ap, ◌∙◌}
use native.Mathlib.Omega.{arith}
use lib.ListN.{length-take}
use Rattle.std.proofs.lemmas.Result.{err_from_is_err_and}
use Rattle.page_rules.specs.Page.{outcome_of, accept}
use Rattle.page_rules.proofs.Types.{bit_width}
use Rattle.true_count.proofs.Counting.{answer, Accepts, accepts, refused_so, counted_so, trues_counted}
use Rattle.true_count.proofs.count_true.Goals.{In_ok-decode_answer}
use Rattle.true_count.proofs.count_true.Goals as goal

said : (c : In_ok-decode_answer) → accept c.in_ok-decode_answer.field-0 ≡ answer c.args.elements c.args.checksum c.args.page.now
said c = sym (ap outcome_of c.in_ok-decode_answer.was) ∙ c.decode_answer.ensures.answers 6 (sym (bit_width 6 refl))

accepted : (c : In_ok-decode_answer) → Accepts c.args.elements c.args.checksum c.args.page.now
accepted c = accepts c.args.elements c.args.checksum c.args.page.now _ (said c)

pub returns-in_err-decode_answer : goal.returns-in_err-decode_answer
returns-in_err-decode_answer c =
    let a = c.args in
    let p = err_from_is_err_and c.from_residual.result c.from_residual.ensures.1 in
    rw (p.1, p.2)
    (refused_so a.elements a.checksum a.page.now _ (sym (ap outcome_of c.in_err-decode_answer.was) ∙ c.decode_answer.ensures.answers 6 (sym (bit_width 6 refl))))

pub overflow_add-size : goal.overflow_add-size
overflow_add-size c = omega (arith, (accepted (goal.at.overflow_add-size c).In_ok-decode_answer).sized.few)

pub count_all-requires : goal.count_all-requires
count_all-requires c =
    simp length-take (omega (arith, (accepted (goal.at.count_all-requires c).In_ok-decode_answer).sized.few))

pub returns : goal.returns
returns c =
    let a = c.args in
    let i = (goal.at.returns c).In_ok-decode_answer in
    ap accept (c.count_all.ensures ∙ trues_counted a.elements a.checksum a.page.now (λ j. omega (arith, c.type_inv.page j)) (accepted i))
    ∙ counted_so a.elements a.checksum a.page.now _ (said i)
