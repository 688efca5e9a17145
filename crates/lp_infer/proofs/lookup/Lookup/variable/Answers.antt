use Rattle.std.proofs.Common.{refl, sym, subst, Some}
use Rattle.std.proofs.lemmas.Result.{on_ok_weaker}
use Rattle.lp_infer.specs.Texts.{variable_index, read_variable}
use Rattle.lp_infer.specs.Visits.{IsLeafRead}
use Rattle.lp_infer.proofs.Leaves.{leaf_as, leaf_from, new_variable}
use Rattle.lp_infer.proofs.lookup.Lookup.variable.Goals as goal

pub returns-in-Some : goal.returns-in-Some
returns-in-Some c =
    on_ok_weaker c.push_variable.result (λ h names H sig.
    subst (λ o. IsLeafRead sig c.args.source.now (λ count. read_variable count names c.args.spot o c.args.self.now.variables.places.items) c.args.self.now c.push_variable.new.self) (sym c.in-Some.is) (h names H sig c.args.source.now)) c.push_variable.ensures

pub returns-in_ok-new-in-None : goal.returns-in_ok-new-in-None
returns-in_ok-new-in-None c =
    on_ok_weaker c.push_variable-in-None.result (λ h names H sig.
    subst (λ o. IsLeafRead sig c.args.source.now (λ count. read_variable count names c.args.spot o c.args.self.now.variables.places.items) c.args.self.now c.push_variable-in-None.new.self) (sym c.in-None.is)
    (leaf_from sig c.args.source.now _ c.args.self.now _ c.push_variable-in-None.new.self refl refl refl refl c.in_ok-new-in-None.ensures.firsts
    (leaf_as sig c.args.source.now (λ count. Some (variable_index count names c.in_ok-new-in-None.new, c.add.new.self.places.items)) _ _ c.push_variable-in-None.new.self
    (λ count. new_variable names c.args.spot c.args.self.now.variables.places.items c.add.new.self.places.items c.in_ok-new-in-None.new count c.in_ok-new-in-None.ensures.number c.in_ok-new-in-None.ensures.places) (h names H sig c.args.source.now)))) c.push_variable-in-None.ensures
