use Rattle.std.proofs.Common.{sym}
use Rattle.std.proofs.lemmas.List.{length-map}
use Rattle.lp_bytes.specs.Numbers.{spelled_four}
use Rattle.lp_bytes.proofs.Lengthened.{more_last}
use Rattle.lp_object.specs.Plain.{plain_record}
use Rattle.lp_object.specs.Spelling.{spelled_records}
use Rattle.lp_object.proofs.Writes.{counted_so}
use Rattle.lp_object.proofs.records.write_records.Goals as goal

pub returns : goal.returns
unfolding spelled_records
returns c = more_last c.write_each_record.result _ _ _ _ _ (counted_so (λ n. spelled_four n) _ _ _ _ (sym (length-map c.args.records.now plain_record)) c.in_ok-low_four.ensures) (c.write_each_record.ensures)
