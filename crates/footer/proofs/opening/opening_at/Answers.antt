use Rattle.wire.proofs.Laws.{place_passed_on, counted_found, counted_refused}
use Rattle.footer.specs.Footer.{empty}
use mathlib.Core.Path.{sym, ap, ◌∙◌}
use borrow.Author.Rules.{rules}
use Rattle.footer.proofs.opening.opening_at.Goals as goal
use Rattle.wire.specs.Answers.{as_step}

pub returns : goal.returns
returns c = rw (← c.features_at.ensures, c.in_ok-checksum_at.was, ← c.header_checksum_at.ensures, c.in_ok-extensions_at.was, (counted_found (empty c.args.strict c.args.s.now _) (sym c.empty_list_at.ensures ∙ ap as_step c.in_ok-groups_at.was)).0, (counted_found (empty c.args.strict c.args.s.now _) (sym c.empty_list_at-2.ensures ∙ ap as_step c.in_ok-next.was)).0)

pub returns-in_err-next : goal.returns-in_err-next
returns-in_err-next c = rw (place_passed_on c.from_residual-in_err-next.result _ c.from_residual-in_err-next.ensures.1, ← c.features_at.ensures, c.in_ok-checksum_at.was, ← c.header_checksum_at.ensures, c.in_ok-extensions_at.was, (counted_found (empty c.args.strict c.args.s.now _) (sym c.empty_list_at.ensures ∙ ap as_step c.in_ok-groups_at.was)).0, counted_refused (empty c.args.strict c.args.s.now _) (sym c.empty_list_at-2.ensures ∙ ap as_step c.in_err-next.was))

pub returns-in_err-groups_at : goal.returns-in_err-groups_at
returns-in_err-groups_at c = rw (place_passed_on c.from_residual-in_err-groups_at.result _ c.from_residual-in_err-groups_at.ensures.1, ← c.features_at.ensures, c.in_ok-checksum_at.was, ← c.header_checksum_at.ensures, c.in_ok-extensions_at.was, counted_refused (empty c.args.strict c.args.s.now _) (sym c.empty_list_at.ensures ∙ ap as_step c.in_err-groups_at.was))

pub returns-in_err-extensions_at : goal.returns-in_err-extensions_at
returns-in_err-extensions_at c = rw (place_passed_on c.from_residual-in_err-extensions_at.result _ c.from_residual-in_err-extensions_at.ensures.1, ← c.features_at.ensures, c.in_ok-checksum_at.was, ← c.header_checksum_at.ensures, c.in_err-extensions_at.was)

pub returns-in_err-checksum_at : goal.returns-in_err-checksum_at
returns-in_err-checksum_at c = rw (place_passed_on c.from_residual.result _ c.from_residual.ensures.1, ← c.features_at.ensures, c.in_err-checksum_at.was)
