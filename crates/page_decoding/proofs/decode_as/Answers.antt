-- `page_decoding::decode_as` meets its contract: where the answer accepts, the lent part from `start` on is filled. Assumes nothing.
use Rattle.std.proofs.Common.{ℕ, List, ◌++◌, take, sym, ap, ◌∙◌}
use Rattle.numbers.specs.Rows.{over}
use Rattle.outcome.specs.Outcome.{is_accepted}
use Rattle.page_rules.specs.Page.{elements, outcome_of}
use Rattle.page_rules.proofs.Decoding.{decoded_accepted, decoded_refused}
use Rattle.numbers.proofs.Parts.{rest_of, put_rest}
use Rattle.page_decoding.proofs.decode_as.Goals as goal

pub returns-clause-leaves : goal.returns-clause-leaves
returns-clause-leaves c = λ t e m. let a = c.args in
    let old : List ℕ = a.out.now in
    put_rest a.start old c.fill.new.out
    ∙ ap (λ (l : List ℕ). take a.start old ++ l) (c.fill.ensures t e m ∙ ap (over (elements t a.elements a.page.now)) (rest_of a.start old))
    ∙ decoded_accepted t a.elements a.checksum a.page.now old a.start (ap is_accepted (sym (c.decode_answer.ensures.answers t e) ∙ ap outcome_of c.in_ok-count.was))

pub returns-in_err-count-clause-leaves : goal.returns-in_err-count-clause-leaves
returns-in_err-count-clause-leaves c = λ t e m. let a = c.args in
    decoded_refused t a.elements a.checksum a.page.now a.out.now a.start (ap is_accepted (sym (c.decode_answer.ensures.answers t e) ∙ ap outcome_of c.in_err-count.was))
