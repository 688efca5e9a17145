use Rattle.std.proofs.Common.{refl, sym, subst}
use Rattle.lp_term.proofs.Walking.{on_ok}
use Rattle.lp_plain.specs.declared.free.Walk.{Walk}
use Rattle.lp_plain.specs.inner.Collecting.{piece, IsOpened}
use Rattle.lp_plain.proofs.Sightings.{put_opens}
use Rattle.lp_plain.proofs.free.Walk.open.Goals as goal

pub returns-in-Goals : goal.returns-in-Goals
returns-in-Goals c =
    let b = c.args.bank.now in
    let w = c.args.self.now in
    let new : Walk = record { left = c.push_goals.new.left; terms = w.terms; types = w.types; variables = w.variables; type_variables = w.type_variables } in
    on_ok c.push_goals.result _ _ (λ f. subst (λ p. IsOpened b w new (piece b p)) (sym c.in-Goals.is) (put_opens b w new _ refl refl refl refl (f b))) c.push_goals.ensures

pub returns-in-Clauses : goal.returns-in-Clauses
returns-in-Clauses c =
    let b = c.args.bank.now in
    let w = c.args.self.now in
    let new : Walk = record { left = c.push_clauses.new.left; terms = w.terms; types = w.types; variables = w.variables; type_variables = w.type_variables } in
    on_ok c.push_clauses.result _ _ (λ f. subst (λ p. IsOpened b w new (piece b p)) (sym c.in-Clauses.is) (put_opens b w new _ refl refl refl refl (f b))) c.push_clauses.ensures

pub returns-in-Term : goal.returns-in-Term
returns-in-Term c = on_ok c.open_term.result _ _ (λ f. subst (λ p. IsOpened c.args.bank.now c.args.self.now c.open_term.new.self (piece c.args.bank.now p)) (sym c.in-Term.is) f) c.open_term.ensures

pub returns-in-Type : goal.returns-in-Type
returns-in-Type c = on_ok c.open_type.result _ _ (λ f. subst (λ p. IsOpened c.args.bank.now c.args.self.now c.open_type.new.self (piece c.args.bank.now p)) (sym c.in-Type.is) f) c.open_type.ensures
