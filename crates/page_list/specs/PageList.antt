-- The page list beside a header: its payload, and then the totals.
use Rattle.std.specs.Prelude.{ℕ, List, map}
use Rattle.wire.specs.Reading.{Step, found, refused}
use Rattle.wire.specs.declared.Fault.{Fault}
use Rattle.wire.specs.declared.Kind.TheVariants.{Total}
use Rattle.envelope.specs.Envelope.{envelope}
use Rattle.header.specs.Header.{Lists, Header, flags_of}
use Rattle.header.specs.Tables.{parents_of}
use Rattle.rows.specs.declared.PageRow.{PageRow}
use Rattle.pages.specs.Pages.{elements_of}
use Rattle.column_pages.specs.ColumnPages.{bits_of, payload}
use Rattle.totals.specs.Totals.{totals}
use Rattle.std.specs.Prelude.{Option, Some, None}
use Rattle.rows.specs.declared.FieldNumber.{FieldNumber}

-- what is refused where the totals of field f do not agree
abbrev pub total_fault : ℕ → Fault
total_fault f = record { number = 19; place = 0; kind = Total; list = 0; item = f }

-- whether the totals of pages agree beside a header's lists; if not, the lowest field at fault
abbrev pub totals_of : ℕ → Lists → List (List PageRow) → Option FieldNumber
totals_of entries l pss = totals entries l.columns (map elements_of pss) 0 (parents_of l.fields) (flags_of l.fields)

-- after the totals
abbrev pub agreed : {A : Type 0} → Option FieldNumber → Step A → Step A
agreed None x = x
agreed (Some f) x = refused (total_fault f.0)

-- after the payload: the totals agree with the cluster's entry count
unfoldable pub summed : ℕ → Lists → Step (List (List PageRow)) → Step (List (List PageRow))
summed entries l (found pss p) = agreed (totals_of entries l pss) (found pss p)
summed entries l (refused f) = refused f

-- the pages of each column that an envelope lists beside a header, or its refusal; room is not asked for here
unfoldable pub page_list_of : Header → ℕ → ℕ → List ℕ → Step (List (List PageRow))
page_list_of h entries file e = summed entries h.lists (envelope 1 (payload file (bits_of h.lists.columns)) e)
