use Rattle.std.proofs.Common.{sym}
use Rattle.std.proofs.lemmas.List.{length-map}
use Rattle.lp_bytes.specs.Numbers.{spelled_two}
use Rattle.lp_bytes.proofs.Lengthened.{more_last}
use Rattle.lp_object.specs.Plain.{plain_object_kind}
use Rattle.lp_object.specs.Files.{spelled_object_kinds}
use Rattle.lp_object.proofs.Writes.{counted_so}
use Rattle.lp_object.proofs.object.write_kinds.Goals as goal

pub returns : goal.returns
unfolding spelled_object_kinds
returns c = more_last c.write_each_kind.result _ _ _ _ _ (counted_so (λ n. spelled_two n) _ _ _ _ (sym (length-map c.args.kinds.now plain_object_kind)) c.in_ok-low_two.ensures) (c.write_each_kind.ensures)
