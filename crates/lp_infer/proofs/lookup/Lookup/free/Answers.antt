use Rattle.std.proofs.Common.{◌∙◌, ◌++◌, map, sym, ap, Some, None}
use Rattle.std.proofs.lemmas.Result.{IfOk-weaker}
use Rattle.lp_sig.specs.Pieces.{spelled, begins_variable}
use Rattle.lp_sig.specs.Rows.{found, number_row}
use Rattle.lp_sig.specs.Standard.{standard_constants}
use Rattle.lp_infer.specs.Texts.{constant_scheme, read_constant, read_variable}
use Rattle.lp_infer.specs.Firsts.{number_in}
use Rattle.lp_infer.proofs.Leaves.{leaf_as, leaf_read_as, free_variable, free_constant}
use Rattle.lp_infer.proofs.lookup.Lookup.free.Goals as goal

pub returns-then-is_variable : goal.returns-then-is_variable
returns-then-is_variable c = λ names H F.
    let before = c.args.self.now.variables.places.items in
    let is = c.spelled_at-name.ensures in
    leaf_as c.args.signature.now c.args.source.now (λ count. read_variable count names c.args.spot c.number-number.result before) _ c.args.self.now c.variable.new.self
    (λ count.
    free_variable c.args.signature.now c.args.source.now count names c.args.spot before c.number-number.result (ap begins_variable (sym is) ∙ sym c.is_variable.ensures ∙ c.if-is_variable.true)
    (c.number-number.ensures ∙ ap (number_in c.args.self.now.variables) is ∙ F (spelled c.args.source.now c.args.spot)))
    (c.in_ok-variable.ensures names H c.args.signature.now)

pub returns-in_default : goal.returns-in_default
returns-in_default c = λ names H F count.
    let is = c.spelled_at-name.ensures in
    free_constant c.args.signature.now c.args.source.now count names c.args.spot c.args.self.now.variables.places.items None (ap begins_variable (sym is) ∙ sym c.is_variable.ensures ∙ c.if-is_variable.false)
    (sym c.in_default.is ∙ c.constant.ensures ∙ ap (λ w. found w (standard_constants ++ map number_row c.args.signature.now.constants.items)) is)

pub returns : goal.returns
returns c =
    IfOk-weaker c.constant-2.result _ _ (λ ok h names H F.
    let before = c.args.self.now.variables.places.items in
    let is = c.spelled_at-name.ensures in
    leaf_read_as c.args.signature.now c.args.source.now (λ count. read_constant c.in-Some.number (constant_scheme c.args.signature.now c.spelled_at-name.result.now c.in-Some.number) before) _ c.args.self.now c.constant-2.new.self ok
    (λ count.
    free_constant c.args.signature.now c.args.source.now count names c.args.spot before (Some c.in-Some.number) (ap begins_variable (sym is) ∙ sym c.is_variable.ensures ∙ c.if-is_variable.false)
    (sym c.in-Some.is ∙ c.constant.ensures ∙ ap (λ w. found w (standard_constants ++ map number_row c.args.signature.now.constants.items)) is) ∙
    ap (λ w. read_constant c.in-Some.number (constant_scheme c.args.signature.now w c.in-Some.number) before) (sym is))
    (h c.args.source.now)) c.constant-2.ensures
