use Rattle.std.proofs.Common.{◌≡◌, map, take}
use Rattle.std.specs.List.{flat_map}
use Rattle.lp_bytes.specs.Writing.{text_of, more}
use Rattle.lp_object.specs.declared.width.Width.TheVariants.{Four}
use Rattle.lp_object.specs.Plain.{plain_image_constant}
use Rattle.lp_object.specs.Files.{spelled_image_constant}
use Rattle.lp_object.proofs.image.write_each_constant.Given as goal

abbrev pub invariant-loop-constant : goal.invariant-loop-constant
invariant-loop-constant l = text_of l.writer ≡ more (text_of l.fn.writer) (flat_map (spelled_image_constant Four) (map (plain_image_constant l.bank) (take l.constant-index l.constants)))
