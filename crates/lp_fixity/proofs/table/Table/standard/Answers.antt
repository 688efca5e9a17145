use Rattle.std.proofs.Common.{◌≡◌, ◌-◌, suc, ◌++◌, sym, ◌∙◌, arith}
use Rattle.std.proofs.lemmas.Option.{slice_get-get_or}
use Rattle.lp_standard.specs.Constants.{language, reserved}
use Rattle.lp_standard.specs.declared.constant.Constant.TheVariants.{And}
use Rattle.lp_fixity.specs.Table.{entry_of}
use Rattle.lp_fixity.proofs.StandardTable.{one_more}
use Rattle.lp_fixity.proofs.table.Table.standard.Goals as goal

pub constants-preserved-in-Continue-1 : goal.constants-preserved-in-Continue-1
constants-preserved-in-Continue-1 c =
    let left = c.constants.left in
    let some = c.constants-test.true in
    let bound = c.constants.invariant.0 in
    let l : left ≡ suc (left - 1) = omega (arith, some) in
    (omega (arith, bound), one_more (entry_of c.constants.table) (entry_of c.put_constant.new.self) left (left - 1) c.in-Some.constant l (omega (arith, some, bound)) (sym c.from_number.ensures ∙ c.in-Some.is) c.constants.invariant.1 c.in_ok-put_constant.ensures)

pub constants-preserved : goal.constants-preserved
constants-preserved c =
    let some = c.constants-test.true in
    let bound = c.constants.invariant.0 in
    absurd (c.in_default.not-Some _ (c.from_number.ensures ∙ slice_get-get_or (language ++ reserved) (c.constants.left - 1) And (omega (arith, some, bound))))
