-- What the answers of the scan say, as steps of a rule.
use Rattle.std.specs.Prelude.{ℕ, length}
use Rattle.wire.specs.Reading.{Step, found, refused, mapped}
use Rattle.records.specs.declared.HeaderTexts.{HeaderTexts}
use Rattle.header.specs.Header.{Lists, Header}
use Rattle.header_lists.specs.Next.{number_in}
use Rattle.header_payload.specs.declared.HeaderLists.{HeaderLists}
use Rattle.header_payload.specs.declared.HeaderScan.{HeaderScan}

-- where the list of fields stands, and how many rows each list has
abbrev pub summary : Lists → HeaderLists
summary l = record { fields_at = l.fields_at; fields = length l.fields; columns = length l.columns; aliases = length l.aliases }

abbrev pub scan_of : Header → HeaderScan
scan_of h = record { texts = h.texts; lists = summary h.lists }

-- the scan that the texts and the three counts are
abbrev pub gathered : Step HeaderTexts → Step ℕ → Step ℕ → Step ℕ → Step HeaderScan
gathered (found t at) fields columns aliases =
    mapped (λ l. record { texts = t; lists = record { fields_at = at; fields = number_in fields; columns = number_in columns; aliases = l } }) aliases
gathered (refused f) fields columns aliases = refused f
