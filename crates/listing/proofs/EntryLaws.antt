-- A table that starts with the words of entries gives them back.
use mathlib.Core.Path.{refl}
use native.Mathlib.Omega.{arith}
use Rattle.rows.proofs.RowLaws.{gives_back}
use Rattle.listing.specs.Entries.{EntriesBack, entry_width, entry_words, entry_is}

pub entries_back : EntriesBack
entries_back = gives_back entry_words entry_is entry_width (λ _. refl) (omega arith) (λ _. refl)
