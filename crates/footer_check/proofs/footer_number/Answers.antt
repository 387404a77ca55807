use Rattle.footer_check.proofs.Whole.{number_mixed, number_long, number_short}
use Rattle.footer_check.proofs.footer_number.Goals as goal

pub returns-then-footer_long-le-CEILING : goal.returns-then-footer_long-le-CEILING
returns-then-footer_long-le-CEILING c = let a = c.args in number_short a.checksum a.file a.clusters.now a.metadata.now c.carries_checksums-carried.ensures c.all_as_carried.ensures c.if-all_as_carried.true (c.footer_long.ensures a.checksum a.file) c.if-footer_long-le-CEILING.true c.payload_number.ensures

pub returns-then-all_as_carried : goal.returns-then-all_as_carried
returns-then-all_as_carried c = let a = c.args in number_long a.checksum a.file a.clusters.now a.metadata.now c.carries_checksums-carried.ensures c.all_as_carried.ensures c.if-all_as_carried.true (c.footer_long.ensures a.checksum a.file) c.if-footer_long-le-CEILING.false

pub returns : goal.returns
returns c = let a = c.args in number_mixed a.checksum a.file a.clusters.now a.metadata.now c.carries_checksums-carried.ensures c.all_as_carried.ensures c.if-all_as_carried.false
