-- A cluster that a rule found is read again by the places of its numbers.
use Prim.Native.Nat.{ℕ, ◌+◌, ◌≤◌}
use mathlib.Core.Path.{◌≡◌, refl, sym, ap, ◌∙◌}
use mathlib.Core.Bool.{Bool, true, false}
use mathlib.Core.List.{List}
use native.Mathlib.Omega.{arith}
use lib.Dec.{leb}
use lib.ListN.{length, take}
use Rattle.numbers.specs.Choice.{pick}
use Rattle.numbers.specs.Numbers.{little, little_in}
use Rattle.numbers.proofs.Choice.{clash}
use Rattle.wire.specs.declared.Kind.TheVariants.{Number, Spare}
use Rattle.wire.specs.Reading.{Step, found, refused, ◌>>=◌, give, fault, number, tested, accepted}
use Rattle.wire.proofs.Laws.{pick_found, bound, judged_found}
use Rattle.frames.proofs.Laws.{head_found, record_content}
use Rattle.frames.specs.Frames.{closed, spare, record_head, record_of}
use Rattle.locator.specs.Locator.{stored_as, in_file}
use Rattle.links.specs.Links.{link}
use Rattle.rows.specs.declared.Link.{Link}
use Rattle.rows.specs.declared.ClusterRow.{ClusterRow}
use Rattle.clusters.specs.Clusters.{starts_at, entry_count, list_checksum, cluster}
use Rattle.clusters.specs.Answers.{checksum_at, cluster_at}

-- a number that was found is what its bytes spell, and ends behind them

number_found : (k : ℕ) (s : List ℕ) (at : ℕ) {v p : ℕ} → number k s at ≡ found v p → (v ≡ little_in k s at) × (p ≡ at + k)
unfolding number little_in
number_found k s at {v} {p} e =
    let (room, was) = pick_found (leb (at + k) (length s)) (found (little k s at) (at + k)) (fault 7 Number at) v p e in
    rw room (cc, cc)

tested_found : (k : ℕ) (verdict : ℕ → ℕ) (s : List ℕ) (at : ℕ) {v p : ℕ} → tested k verdict s at ≡ found v p → (v ≡ little_in k s at) × (p ≡ at + k)
tested_found k verdict s at e = number_found k s at (judged_found verdict at (number k s at) e).0

-- links and checksums

link_found : (file : ℕ) (s : List ℕ) (at : ℕ) {l : Link} {p : ℕ} → link file s at ≡ found l p
    → (l ≡ record { size = little_in 4 s (at + 4); offset = little_in 8 s (at + 8) }) × (p ≡ at + 16)
unfolding link
link_found file s at {l} {p} =
    bound P (number 4) (λ size. tested 4 (stored_as size) >>= (λ stored. tested 8 (in_file file stored 0) >>= (λ offset. give (row stored offset)))) s at (λ size p₁ e₁.
    bound P (tested 4 (stored_as size)) (λ stored. tested 8 (in_file file stored 0) >>= (λ offset. give (row stored offset))) s p₁ (λ stored p₂ e₂.
    bound P (tested 8 (in_file file stored 0)) (λ offset. give (row stored offset)) s p₂ (λ offset p₃ e₃ g.
    let (_, a₁) = number_found 4 s at e₁ in
    let (is₂, a₂) = tested_found 4 (stored_as size) s p₁ e₂ in
    let (is₃, a₃) = tested_found 8 (in_file file stored 0) s p₂ e₃ in
    let same : row stored offset ≡ l = cc in
    let end : p₃ ≡ p = cc in
    let from₃ : p₂ ≡ at + 8 = omega (arith, a₁, a₂) in
    (sym same ∙ (λ i. row ((is₂ ∙ ap (little_in 4 s) a₁) i) ((is₃ ∙ ap (little_in 8 s) from₃) i)), omega (arith, end, a₃, from₃)))))
  where
    row : ℕ → ℕ → Link
    row stored offset = record { size = stored; offset = offset }

    P : Link → ℕ → Type 0
    P l p = (l ≡ row (little_in 4 s (at + 4)) (little_in 8 s (at + 8))) × (p ≡ at + 16)

checksum_found : (carried : Bool) (s : List ℕ) (at : ℕ) {c p : ℕ} → list_checksum carried s at ≡ found c p → c ≡ checksum_at carried s at
unfolding list_checksum checksum_at
checksum_found true s at e = (number_found 4 s at e).0
checksum_found false s at e = cc

-- a cluster that was found
cluster_found : (carried : Bool) (file sum : ℕ) (s : List ℕ) (at : ℕ) {x : ClusterRow} {q : ℕ} → cluster carried file sum s at ≡ found x q → x ≡ cluster_at carried s at
unfolding cluster cluster_at
cluster_found carried file sum s at {x} {q} =
    bound P (tested 8 (starts_at sum)) (λ f. tested 8 (entry_count sum) >>= (λ w. link file >>= (λ l. list_checksum carried >>= (λ c. give (row f w l c))))) s at (λ f p₁ e₁.
    bound P (tested 8 (entry_count sum)) (λ w. link file >>= (λ l. list_checksum carried >>= (λ c. give (row f w l c)))) s p₁ (λ w p₂ e₂.
    bound P (link file) (λ l. list_checksum carried >>= (λ c. give (row f w l c))) s p₂ (λ l p₃ e₃.
    bound P (list_checksum carried) (λ c. give (row f w l c)) s p₃ (λ c p₄ e₄ g.
    let (is₁, a₁) = tested_found 8 (starts_at sum) s at e₁ in
    let (is₂, a₂) = tested_found 8 (entry_count sum) s p₁ e₂ in
    let (is₃, a₃) = link_found file s p₂ e₃ in
    let is₄ = checksum_found carried s p₃ e₄ in
    let same : row f w l c ≡ x = cc in
    let size_at : p₂ + 4 ≡ at + 20 = omega (arith, a₁, a₂) in
    let offset_at : p₂ + 8 ≡ at + 24 = omega (arith, a₁, a₂) in
    let from₄ : p₃ ≡ at + 32 = omega (arith, a₁, a₂, a₃) in
    let link_is : l ≡ record { size = little_in 4 s (at + 20); offset = little_in 8 s (at + 24) } = is₃ ∙ (λ i. record { size = little_in 4 s (size_at i); offset = little_in 8 s (offset_at i) }) in
    sym same ∙ (λ i. row (is₁ i) ((is₂ ∙ ap (little_in 8 s) a₁) i) (link_is i) ((is₄ ∙ ap (checksum_at carried s) from₄) i))))))
  where
    row : ℕ → ℕ → Link → ℕ → ClusterRow
    row f w l c = record { first_entry = f; entries = w; page_list = l; checksum = c }

    P : ClusterRow → ℕ → Type 0
    P x _ = x ≡ cluster_at carried s at

-- a content whose container was closed stops there
closed_there : {A : Type 0} (strict : Bool) (stop : ℕ) (x : Step A) → accepted (closed strict stop x) ≡ true → (a : A) × (p : ℕ) × (x ≡ found a p) × (closed strict stop x ≡ found a stop)
closed_there {A} strict stop (found a p) e = by (spare strict p stop) e
  where
    by : (b : Bool) → accepted (pick {A = Step A} b (refused (fault 11 Spare p)) (found a stop)) ≡ true
        → (a' : A) × (p' : ℕ) × (found a p ≡ found a' p') × (pick b (refused (fault 11 Spare p)) (found a stop) ≡ found a' stop)
    by true g = clash g refl
    by false g = (a, p, refl, refl)
closed_there strict stop (refused f) e = clash e refl

-- an accepted cluster record whose head was read
pub record_there : (carried strict : Bool) (file sum : ℕ) (s : List ℕ) (at : ℕ) {start stop : ℕ} → record_head s at ≡ found start stop
    → accepted (record_of strict (cluster carried file sum) s at) ≡ true → record_of strict (cluster carried file sum) s at ≡ found (cluster_at carried (take stop s) start) stop
record_there carried strict file sum s at {start} {stop} head there =
    let content = record_content strict (cluster carried file sum) s at head refl in
    let (x, p, was, is) = closed_there strict stop (cluster carried file sum (take stop s) start) (sym (ap accepted content) ∙ there) in
    content ∙ is ∙ ap (λ (r : ClusterRow). found r stop) (cluster_found carried file sum (take stop s) start was)

-- the content of a record starts inside the bytes
pub starts_inside : (s : List ℕ) (at : ℕ) {start stop : ℕ} → record_head s at ≡ found start stop → start ≤ length s
starts_inside s at e = let (room, starts, _) = head_found s at e in omega (arith, room, starts)
