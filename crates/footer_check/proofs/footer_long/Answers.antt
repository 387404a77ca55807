use Rattle.footer_check.proofs.Whole.{footer_counted}
use Rattle.footer_check.proofs.footer_long.Goals as goal

pub returns : goal.returns
returns c = λ checksum file. footer_counted checksum file c.args.clusters.now c.args.metadata.now c.carries_checksums.ensures c.record_size-size.ensures c.with_rows-long.ensures c.with_rows.ensures
