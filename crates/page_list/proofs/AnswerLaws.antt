-- From the verdict on a page list to the answer, and to the lent table.
use Prim.Native.Nat.{ℕ, ◌*◌, ◌/◌, ◌≤◌, ◌<◌}
use mathlib.Core.Path.{◌≡◌, refl, sym, ap, ◌∙◌}
use mathlib.Core.Bool.{Bool, true}
use mathlib.Core.List.{List, [], ◌∷◌}
use native.Mathlib.Omega.{arith}
use borrow.Author.Tests.{le-leb, lt-leb}
use lib.ListN.{length, take}
use Rattle.numbers.specs.Rows.{over}
use Rattle.wire.specs.declared.Fault.{Fault}
use Rattle.wire.specs.Reading.{Step, found, refused, accepted, rows_of}
use Rattle.outcome.specs.Outcome.{accepted_with}
use Rattle.header.specs.Beside.{Beside, read, refusal, in_envelope}
use Rattle.rows.specs.Words.{page_width}
use Rattle.rows.specs.declared.PageRow.{PageRow}
use Rattle.column_pages.specs.ColumnPages.{pages_of, payload}
use Rattle.page_list.specs.Tables.{page_table, answer, written, Answered}
use Rattle.page_list.specs.Judged.{listed, Stands, Judges}
use Rattle.page_list.specs.declared.Judged.{Judged}
use Rattle.std.specs.Prelude.{Ok, Err}

-- a refusal changes no table
pub beside_refused : {x : Beside (List (List PageRow))} {k : ℕ} {f : Fault} (p : List ℕ) → x ≡ refusal k f → Answered x p p (Err (record { envelope = k; number = f.number }))
unfolding answer written
beside_refused p e = record { answers = rw e; reports = rw e; pages_are = rw e }

-- what a verdict tells

pub record Refuses (x : Step (List (List PageRow))) (k : ℕ) : Type 0 where
  pub fault : Fault
  pub was : x ≡ refused fault
  pub number : k ≡ fault.number

pub refuses : (file : ℕ) (bits e : List ℕ) (x : Step (List (List PageRow))) (g : Fault) → Judges file bits e x (Err g) → Refuses x g.number
unfolding Judges
refuses file bits e (found pss p) g j = absurd j
refuses file bits e (refused f) g j = record { fault = f; was = refl; number = ap (λ (y : Fault). y.number) j }

pub record Agrees (file : ℕ) (bits e : List ℕ) (x : Step (List (List PageRow))) (j : Judged) : Type 0 where
  pub value : List (List PageRow)
  pub place : ℕ
  pub was : x ≡ found value place
  pub stands : Stands file bits e j value

pub agrees : (file : ℕ) (bits e : List ℕ) (x : Step (List (List PageRow))) {j : Judged} → Judges file bits e x (Ok j) → Agrees file bits e x j
unfolding Judges
agrees file bits e (found pss p) t = record { value = pss; place = p; was = refl; stands = t }
agrees file bits e (refused f) t = absurd t

-- a table with too little room, and one with room

pub read_short : (pss : List (List PageRow)) (p : List ℕ) {k : ℕ} → k ≡ pages_of pss → length p / page_width < k → Answered (read pss) p p (Err (record { envelope = 3; number = 20 }))
unfolding answer written
read_short pss p c h =
    let short = lt-leb (pages_of pss) (length p / page_width) (omega arith) in
    record { answers = rw short; reports = rw short; pages_are = rw short }

pub read_all : (pss : List (List PageRow)) (p p' : List ℕ) {k : ℕ} → k ≡ pages_of pss → k ≤ length p / page_width → p' ≡ over (page_table pss) p → Answered (read pss) p p' (Ok k)
unfolding answer written
read_all pss p p' c h stored =
    let room = le-leb (pages_of pss) (length p / page_width) (omega arith) in
    record { answers = rw room (ap Ok c); reports = rw room (ap (λ (x : ℕ). accepted_with (x ∷ [])) c); pages_are = rw room stored }

-- what is accepted can be written to a table with room
pub fill_ready : (file : ℕ) (bits e s : List ℕ) (j : Judged) {words : ℕ} → s ≡ take j.stop e → accepted (listed file bits e j) ≡ true → j.pages ≡ pages_of (rows_of (listed file bits e j)) → j.pages ≤ words / page_width
    → (accepted (payload file bits j.strict s 4) ≡ true) × (page_width * pages_of (rows_of (payload file bits j.strict s 4)) ≤ words)
fill_ready file bits e s j cut a c h = rw cut (a, omega arith)
