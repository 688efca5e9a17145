use Rattle.std.proofs.Common.{sym}
use Rattle.std.proofs.lemmas.List.{length-map}
use Rattle.lp_bytes.specs.Numbers.{spelled_four}
use Rattle.lp_bytes.proofs.Lengthened.{more_last}
use Rattle.lp_object.specs.Plain.{plain_image_constant}
use Rattle.lp_object.specs.Files.{spelled_image_constants}
use Rattle.lp_object.proofs.Writes.{counted_so}
use Rattle.lp_object.proofs.image.write_constants.Goals as goal

pub returns : goal.returns
unfolding spelled_image_constants
returns c = more_last c.write_each_constant.result _ _ _ _ _ (counted_so (λ n. spelled_four n) _ _ _ _ (sym (length-map c.args.constants.now (plain_image_constant c.args.bank.now))) c.in_ok-low_four.ensures) (c.write_each_constant.ensures)
