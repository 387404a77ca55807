-- The loop that writes the rows of clusters that were accepted, read again by the places of their numbers.
use Prim.Native.Nat.{ℕ, ◌+◌, ◌*◌, ◌≤◌, ◌<◌}
use mathlib.Core.Path.{◌≡◌, refl, sym, ap, ◌∙◌}
use mathlib.Core.Bool.{Bool, true}
use mathlib.Core.List.{List, []}
use lib.ListN.{length, take}
use Rattle.numbers.specs.Rows.{put}
use Rattle.wire.specs.declared.Fault.{Fault}
use Rattle.wire.specs.Reading.{Step, found, refused, accepted}
use Rattle.frames.specs.Frames.{record_head, record_of, items}
use Rattle.frames.proofs.Laws.{record_refused}
use Rattle.frames.proofs.Loops.{Filled, filled_more, reached_accepted}
use Rattle.rows.specs.Words.{cluster_width, cluster_words}
use Rattle.rows.specs.declared.ClusterRow.{ClusterRow}
use Rattle.clusters.specs.Clusters.{entries_of, cluster}
use Rattle.clusters.specs.Answers.{cluster_at}
use Rattle.clusters.proofs.PlaceLaws.{record_there}

-- the rule of a cluster record, after those before it
abbrev pub item : Bool → Bool → ℕ → List ClusterRow → List ℕ → ℕ → Step ClusterRow
item carried strict file done = record_of strict (cluster carried file (entries_of done))

module _ (carried strict : Bool) (file : ℕ) {list n : ℕ} {s : List ℕ} {start i at : ℕ} {old table : List ℕ}
    (m : Filled (λ _. cluster_words) list (item carried strict file) n s start i at old table)
    (all : accepted (items list (item carried strict file) n [] s start) ≡ true) (h : i < n) where
  -- a head that is refused
  pub filled_never : {f : Fault} → record_head s at ≡ refused f → ⊥
  filled_never e = reached_accepted m.reached all h (sym (record_refused strict (cluster carried file (entries_of m.reached.done)) s at e))

  there : accepted (item carried strict file m.reached.done s at) ≡ true
  there = by (item carried strict file m.reached.done s at) refl
    where
      by : (x : Step ClusterRow) → item carried strict file m.reached.done s at ≡ x → accepted x ≡ true
      by (found x p) e = refl
      by (refused f) e = absurd (reached_accepted m.reached all h e)

  -- one whose content is read in the bytes up to its end
  pub filled_next : {from stop : ℕ} {inner next : List ℕ} {row : ClusterRow} → record_head s at ≡ found from stop → inner ≡ take stop s → row ≡ cluster_at carried inner from
      → cluster_width * i + cluster_width ≤ length table → next ≡ put table (cluster_width * i) (cluster_words row) → length next ≡ length table
      → Filled (λ _. cluster_words) list (item carried strict file) n s start (i + 1) stop old next
  filled_next {from} {stop} {inner} {next} {row} head cut is =
      let same : cluster_at carried (take stop s) from ≡ row = sym (is ∙ ap (λ (t : List ℕ). cluster_at carried t from) cut) in
      filled_more m cluster_width (λ _ _. refl) h (record_there carried strict file (entries_of m.reached.done) s at head there ∙ ap (λ (r : ClusterRow). found r stop) same)
