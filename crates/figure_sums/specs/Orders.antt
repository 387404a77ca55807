-- A report that is begun at zeros and gets up to 1,024 lists: it has the exact sums, the same in any order of the lists.
use Rattle.std.specs.Prelude.{ℕ, ◌+◌, ◌*◌, ◌^◌, ◌≤◌, ◌<◌, List, [], ◌∷◌, true, ◌≡◌, length, get_or, replicate}
use Rattle.numbers.specs.Choice.{pick}
use Rattle.header.specs.Beside.{Beside, read, refusal}
use Rattle.rows.specs.declared.PageRow.{PageRow}
use Rattle.page_list.specs.Tables.{page_list_beside}
use Rattle.figure_rules.specs.declared.ListCounts.{ListCounts}
use Rattle.figure_rules.specs.Answer.{ReportAnswer}
use Rattle.figure_rules.specs.Report.{Report, list_figures, rows_for, sums_fit, most_lists, reported}
use Rattle.std.specs.Prelude.{Ok, Err}

-- a page list that is handed in, with what its reader gets besides the header
pub record Given : Type 0 where
  pub list : List ℕ
  pub entries : ℕ
  pub file : ℕ

abbrev pub read_beside : List ℕ → Given → Beside (List (List PageRow))
read_beside header g = page_list_beside header g.list g.entries g.file

-- lists accepted and refused so far, and the report
pub record State : Type 0 where
  pub counts : ListCounts
  pub words : List ℕ

-- a report of n words starts at zeros
abbrev pub fresh : ℕ → State
fresh n = record { counts = record { accepted = 0; refused = 0 }; words = replicate n 0 }

-- the counts that an answer hands over
abbrev pub counts_in : ReportAnswer → ListCounts
counts_in (Ok c) = c
counts_in (Err why) = why.lists

-- one list more, by the definition that the call keeps; its counts go into the next call
abbrev pub after : List ℕ → Given → State → State
after header g st =
    let r : Report = reported (read_beside header g) st.counts st.words in
    record { counts = counts_in r.answer; words = r.words }

-- lists one after the other
unfoldable pub in_order : List ℕ → List Given → State → State
in_order header [] st = st
in_order header (g ∷ gs) st = in_order header gs (after header g st)

-- what a list adds to a report of n words: its figures where it is accepted and there are rows enough, else nothing
unfoldable pub share_of : ℕ → Beside (List (List PageRow)) → List ℕ
share_of n (read pss) = pick (rows_for n (length pss)) (list_figures pss) []
share_of n (refusal k f) = []

-- how many lists it adds to those accepted, and to those refused

unfoldable pub accepted_by : ℕ → Beside (List (List PageRow)) → ℕ
accepted_by n (read pss) = pick (rows_for n (length pss)) 1 0
accepted_by n (refusal k f) = 0

unfoldable pub refused_by : Beside (List (List PageRow)) → ℕ
refused_by (read pss) = 0
refused_by (refusal k f) = 1

-- a number of each list, summed over all of them
unfoldable pub total : (Given → ℕ) → List Given → ℕ
total f [] = 0
total f (g ∷ gs) = f g + total f gs

-- exact sums: each word of the report over all lists, and the lists
pub record Sums (header : List ℕ) (n : ℕ) (gs : List Given) (st : State) : Type 0 where
  pub long : length st.words ≡ n
  pub figures : (k : ℕ) → k < n → get_or st.words k 0 ≡ total (λ g. get_or (share_of n (read_beside header g)) k 0) gs
  pub accepted_are : st.counts.accepted ≡ total (λ g. accepted_by n (read_beside header g)) gs
  pub refused_are : st.counts.refused ≡ total (λ g. refused_by (read_beside header g)) gs

unfoldable pub ExactSums : Type 0
ExactSums = (header : List ℕ) (n : ℕ) (gs : List Given) → length gs ≤ most_lists → Sums header n gs (in_order header gs (fresh n))

-- a permutation: the same lists in another order
pub data Permutation : List Given → List Given → Type 0 where
  empty : Permutation [] []
  skip : {g : Given} {gs hs : List Given} → Permutation gs hs → Permutation (g ∷ gs) (g ∷ hs)
  swap : {g h : Given} {gs : List Given} → Permutation (g ∷ h ∷ gs) (h ∷ g ∷ gs)
  trans : {gs hs is : List Given} → Permutation gs hs → Permutation hs is → Permutation gs is

unfoldable pub AnyOrder : Type 0
AnyOrder =
    (header : List ℕ) (n : ℕ) (gs hs : List Given) → length gs ≤ most_lists → Permutation gs hs
    → in_order header gs (fresh n) ≡ in_order header hs (fresh n)

-- No figure passes 64 bits: each list adds at most 2 to the 45 to a word, so 1,024 lists at most 2 to the 55, and the figures of any list that was read fit.
pub record Within (header : List ℕ) (n : ℕ) (gs : List Given) : Type 0 where
  pub small : (k : ℕ) → get_or (in_order header gs (fresh n)).words k 0 ≤ length gs * 2 ^ 45
  pub fits : (g : Given) (pss : List (List PageRow)) → read_beside header g ≡ read pss → sums_fit (list_figures pss) (in_order header gs (fresh n)).words ≡ true

unfoldable pub NonePasses : Type 0
NonePasses = (header : List ℕ) (n : ℕ) (gs : List Given) → length gs ≤ most_lists → Within header n gs
