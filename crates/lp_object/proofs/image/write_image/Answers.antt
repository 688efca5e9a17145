use Rattle.lp_bytes.proofs.Lengthened.{all_written, too_many}
use Rattle.lp_object.proofs.Writes.{behind_so}
use Rattle.lp_object.proofs.image.write_image.Goals as goal

pub returns-in-Ok-clause-spelled : goal.returns-in-Ok-clause-spelled
returns-in-Ok-clause-spelled c = all_written _ _ c.in-Ok.bytes.items (behind_so _ _ _ _ c.new-writer.ensures c.in_ok-write_all.ensures) c.in-Ok.ensures.bytes

pub returns-in-Err-clause-many : goal.returns-in-Err-clause-many
returns-in-Err-clause-many c = rw c.in-Err.ensures.many.0 (too_many _ _ (behind_so _ _ _ _ c.new-writer.ensures c.in_ok-write_all.ensures) c.in-Err.ensures.many.1)
