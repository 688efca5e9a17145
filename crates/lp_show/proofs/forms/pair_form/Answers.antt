use Rattle.std.proofs.Common.{◌∷◌, [], sym, subst, arith}
use Rattle.lp_term.specs.Nodes.{tree}
use Rattle.lp_term.proofs.Trees.{extends-trans}
use Rattle.lp_show.specs.Forms.{IsDeep, IsShownForm}
use Rattle.lp_show.proofs.Formings.{can_later, first_deep, later_deep}
use Rattle.lp_show.proofs.forms.pair_form.Goals as goal

pub form_of-requires-2 : goal.form_of-requires-2
form_of-requires-2 c = can_later c.args.bank.now c.form_of.new.bank c.args.pair.right c.form_of.ensures.kept c.requires.1

pub returns-in-Err : goal.returns-in-Err
returns-in-Err c = record {
  kept = c.form_of.ensures.kept;
  within = tt;
  left = tt;
  right = tt;
  refused = first_deep (tree c.args.bank.now c.args.pair.left.0) (tree c.args.bank.now c.args.pair.right.0 ∷ []) c.in-Err.refusal c.in-Err.ensures.refused;
}

pub returns-in-Err-form_of-clause-refused : goal.returns-in-Err-form_of-clause-refused
returns-in-Err-form_of-clause-refused c =
    let u = tree c.args.bank.now c.args.pair.right.0 in
    let e = c.in-Err-form_of.refusal in
    later_deep (tree c.args.bank.now c.args.pair.left.0) _ (u ∷ []) e c.in-Ok.ensures.form
    (first_deep u [] e (subst (λ v. IsDeep v e) (c.form_of.ensures.kept.same_terms c.args.pair.right.0 c.requires.1.0) c.in-Err-form_of.ensures.refused))

pub returns : goal.returns
returns c =
    let b0 = c.args.bank.now in
    let b1 = c.form_of.new.bank in
    let b2 = c.form_of-2.new.bank in
    let x = c.form_of.ensures.kept in
    let y = c.form_of-2.ensures.kept in
    record {
      kept = extends-trans b0 b1 b2 x y;
      within = (omega (arith, c.in-Ok.ensures.within, y.more_terms), c.in-Ok-form_of.ensures.within);
      left = subst (IsShownForm (tree b0 c.args.pair.left.0)) (sym (y.same_terms c.in-Ok.form.0 c.in-Ok.ensures.within)) c.in-Ok.ensures.form;
      right = subst (λ u. IsShownForm u (tree b2 c.in-Ok-form_of.form.0)) (x.same_terms c.args.pair.right.0 c.requires.1.0) c.in-Ok-form_of.ensures.form;
      refused = tt;
    }
