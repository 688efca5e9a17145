use Rattle.std.proofs.Common.{map, ap, is_ok, ◌∙◌, ◌++◌, ◌∷◌, []}
use Rattle.std.proofs.ResultArms.{chosen}
use Rattle.lp_lemmas.proofs.Lists.{map_pushed}
use Rattle.lp_sig.specs.Pieces.{spelled}
use Rattle.lp_solve.proofs.Naming.{names_more, names_end}
use Rattle.lp_solve.proofs.shown.names_of.Goals as goal

pub returns : goal.returns
returns c =
    names_end c.args.text.now c.as_slice-vars.result.now c.names.at _ c.names-test.false c.names.invariant ∙ ap (λ z. map (spelled c.args.text.now) (map (λ v. v.0) z)) c.as_slice-vars.ensures.value

pub names-preserved : goal.names-preserved
names-preserved c =
    names_more c.args.text.now c.as_slice-vars.result.now c.names.at _ _ _ c.names-test.true c.names.invariant
    (map_pushed (λ n. n.items) c.names.names.items _ c.in_ok-name.name (chosen _ _ _ _ c.push.ensures.items (ap is_ok c.in_ok-push.was))
    ∙ ap (λ x. map (λ n. n.items) c.names.names.items ++ x ∷ []) (c.in_ok-name.ensures.items_if_clones_equal (λ x y h. h) ∙ c.spelled_at.ensures))
