-- What a footer's reader answers: how many clusters and links there are, or a refusal.
use Rattle.std.specs.Prelude.{Result}
use Rattle.header.specs.declared.Refusal.{Refusal}
use Rattle.footer.specs.declared.FooterCounts.{FooterCounts}

abbrev pub FooterAnswer : Type 0
FooterAnswer = Result FooterCounts Refusal
