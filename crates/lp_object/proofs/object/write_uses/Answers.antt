use Rattle.std.proofs.Common.{sym}
use Rattle.std.proofs.lemmas.List.{length-map}
use Rattle.lp_bytes.specs.Numbers.{spelled_two}
use Rattle.lp_bytes.proofs.Lengthened.{more_last}
use Rattle.lp_object.specs.Files.{spelled_uses}
use Rattle.lp_object.proofs.Writes.{counted_so}
use Rattle.lp_object.proofs.object.write_uses.Goals as goal

pub returns : goal.returns
unfolding spelled_uses
returns c = more_last c.write_each_use.result _ _ _ _ _ (counted_so (λ n. spelled_two n) _ _ _ _ (sym (length-map c.args.uses.now (λ u. u.items))) c.in_ok-low_two.ensures) (c.write_each_use.ensures)
