-- The loop over clusters: the items that are read, and the sum of their entries.
use Prim.Native.Nat.{ℕ, ◌+◌, ◌/◌, ◌%◌, ◌^◌, ◌<◌}
use mathlib.Core.Path.{◌≡◌, refl, sym, ap, subst, ◌∙◌}
use mathlib.Core.Bool.{Bool}
use mathlib.Core.List.{List, [], ◌∷◌, ◌++◌}
use native.Mathlib.Omega.{arith}
use borrow.Author.Tests.{ltb-true}
use lib.Dec.{ltb, eqb}
use Rattle.wire.specs.Reading.{Step, found, ◌>>=◌, give, unless, number, tested}
use Rattle.frames.specs.Frames.{record_of}
use Rattle.wire.proofs.Laws.{passed, bound, judged_found}
use Rattle.frames.proofs.Loops.{Reached, reached_none, reached_more, record_found}
use Rattle.links.specs.Links.{link}
use Rattle.clusters.specs.Clusters.{entries_of, starts_at, entry_count, list_checksum, cluster}
use Rattle.rows.specs.declared.Link.{Link}
use Rattle.rows.specs.declared.ClusterRow.{ClusterRow}

pub entries_snoc : (done : List ClusterRow) (x : ClusterRow) → entries_of (done ++ (x ∷ [])) ≡ entries_of done + x.entries
unfolding entries_of
entries_snoc [] x = omega arith
entries_snoc (c ∷ cs) x = let e = entries_snoc cs x in omega arith

-- an entry count that has passed its verdict keeps the sum below 2^60
pub count_fits : (sum w : ℕ) → entry_count sum w ≡ 0 → sum + w < 2 ^ 60
count_fits sum w e =
    let (_, later) = passed (eqb (w / 2 ^ 60 % 2) 0) 16 (unless (ltb w (2 ^ 60)) 12 (unless (ltb (sum + w) (2 ^ 60)) 19 0)) e in
    let (_, last) = passed (ltb w (2 ^ 60)) 11 (unless (ltb (sum + w) (2 ^ 60)) 19 0) later in
    ltb-true (sum + w) (2 ^ 60) (passed (ltb (sum + w) (2 ^ 60)) 18 0 last).0

cluster_fits : (carried : Bool) (file sum : ℕ) (s : List ℕ) (at : ℕ) {r : ClusterRow} {p : ℕ} → cluster carried file sum s at ≡ found r p
    → sum + r.entries < 2 ^ 60
unfolding cluster
cluster_fits carried file sum s at {r} {p} =
    bound Fits (tested 8 (starts_at sum)) (λ f. tested 8 (entry_count sum) >>= (λ w. link file >>= (λ l. list_checksum carried >>= (λ c. give (row f w l c))))) s at (λ f q _.
    bound Fits (tested 8 (entry_count sum)) (λ w. link file >>= (λ l. list_checksum carried >>= (λ c. give (row f w l c)))) s q (λ w q₂ e.
    bound Fits (link file) (λ l. list_checksum carried >>= (λ c. give (row f w l c))) s q₂ (λ l q₃ _.
    bound Fits (list_checksum carried) (λ c. give (row f w l c)) s q₃ (λ c q₄ _ g.
    let same : row f w l c ≡ r = cc in
    rw (← same) (count_fits sum w (judged_found (entry_count sum) q (number 8 s q) e).1)))))
  where
    Fits : ClusterRow → ℕ → Type 0
    Fits r _ = sum + r.entries < 2 ^ 60

    row : ℕ → ℕ → Link → ℕ → ClusterRow
    row f w l c = record { first_entry = f; entries = w; page_list = l; checksum = c }

pub record_fits : (carried strict : Bool) (file sum : ℕ) (s : List ℕ) (at : ℕ) {r : ClusterRow} {p : ℕ} → record_of strict (cluster carried file sum) s at ≡ found r p → sum + r.entries < 2 ^ 60
record_fits carried strict file sum s at = record_found (λ x. sum + x.entries < 2 ^ 60) strict (cluster carried file sum) s at (λ stop from q. cluster_fits carried file sum _ from)

-- i clusters of the n of a list have been read, and have `sum` entries
pub record Summed (carried strict : Bool) (file list n : ℕ) (s : List ℕ) (start i at sum : ℕ) : Type 0 where
  pub reached : Reached list (λ done. record_of strict (cluster carried file (entries_of done))) n s start i at
  pub sums : sum ≡ entries_of reached.done

module _ {carried strict : Bool} {file list n : ℕ} {s : List ℕ} {start : ℕ} where
  unfoldable pub summed_none : Summed carried strict file list n s start 0 start 0
  unfolding entries_of reached_none
  summed_none = record { reached = reached_none; sums = refl }

  module _ {i at sum : ℕ} (m : Summed carried strict file list n s start i at sum) where
    -- the rule of the next item, by the sum
    pub summed_rule : {x : Step ClusterRow} → record_of strict (cluster carried file sum) s at ≡ x → record_of strict (cluster carried file (entries_of m.reached.done)) s at ≡ x
    summed_rule {x} e = subst (λ (b : ℕ). record_of strict (cluster carried file b) s at ≡ x) m.sums e

    unfoldable pub summed_more : {x : ClusterRow} {p : ℕ} → i < n → record_of strict (cluster carried file sum) s at ≡ found x p → Summed carried strict file list n s start (i + 1) p (sum + x.entries)
    unfolding reached_more
    summed_more {x} h e =
        record { reached = reached_more m.reached h (summed_rule e); sums = ap (λ b. b + x.entries) m.sums ∙ sym (entries_snoc m.reached.done x) }
