use Prim.Native.Nat.{◌/◌}
use mathlib.Core.Path.{refl}
use borrow.Author.Tests.{eq-eqb}
use lib.ListN.{length}
use Rattle.rows.specs.Tables.{cluster_row, link_row}
use Rattle.rows.proofs.FirstRows.{rows_length}
use Rattle.writing.specs.Piece.{pieces}
use Rattle.writing.specs.Footer.{footer_payload_piece}
use Rattle.writing.proofs.Items.{first_alone}
use Rattle.footer_check.proofs.payload_number.Goals as goal

pub returns : goal.returns
unfolding footer_payload_piece pieces
returns c = let a = c.args in rw (eq-eqb a.checksum a.checksum refl, first_alone, rows_length cluster_row a.clusters.now (length a.clusters.now / 5), rows_length link_row a.metadata.now (length a.metadata.now / 2), ← c.narrow-named.ensures, ← c.at_most-cluster_count.ensures, ← c.clusters_number.ensures, ← c.first-cluster_list.ensures, ← c.at_most-link_count.ensures, ← c.links_number.ensures, ← c.first-link_list.ensures, ← c.first.ensures) c.first-2.ensures
