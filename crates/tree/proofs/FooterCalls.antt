-- What a call of the footer reader leaves where there is room.
use mathlib.Core.List.{List}
use mathlib.Core.Bool.{true}
use mathlib.Core.Path.{◌≡◌, refl, ap, ◌∙◌}
use Prim.Native.Nat.{ℕ}
use lib.ListN.{length}
use Rattle.numbers.specs.Rows.{over}
use Rattle.header.specs.Beside.{Beside, read}
use Rattle.footer.specs.Footer.{Footer}
use Rattle.footer.specs.Tables.{room_for, answer, cluster_table, metadata_table, written, Answered}
use Rattle.footer.specs.Answer.{FooterAnswer}
use Rattle.std.specs.Prelude.{Ok}

pub record FooterLeft (f : Footer) (c₀ c m₀ m : List ℕ) (r : FooterAnswer) : Type 0 where
  pub answers : r ≡ Ok (record { clusters = length f.clusters; metadata = length f.metadata })
  pub clusters : c ≡ over (cluster_table f) c₀
  pub metadata : m ≡ over (metadata_table f) m₀

pub footer_left : (x : Beside Footer) (f : Footer) (c₀ c m₀ m : List ℕ) (r : FooterAnswer) → x ≡ read f → room_for (length c₀) (length m₀) f ≡ true
    → Answered x c₀ c m₀ m r → FooterLeft f c₀ c m₀ m r
unfolding answer written
footer_left x f c₀ c m₀ m r is room call =
    record {
      answers = call.answers ∙ ap (answer (length c₀) (length m₀)) is ∙ rw room refl;
      clusters = call.clusters_are ∙ ap (written cluster_table (length c₀) (length m₀) c₀) is ∙ rw room refl;
      metadata = call.metadata_are ∙ ap (written metadata_table (length c₀) (length m₀) m₀) is ∙ rw room refl;
    }
