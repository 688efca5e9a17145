use Rattle.std.proofs.Common.{subst, sym, ◌≡◌, nat_eq, true, refl}
use Rattle.std.specs.Prelude.{◌⊎◌}
use Rattle.indexmap.specs.IndexSet.{contains}
use Rattle.lp_plain.specs.contracts.below.BelowPartialEq.TheImpl as compared
use Rattle.lp_plain.specs.inner.Collecting.{piece, place, is_marked}
use Rattle.lp_plain.proofs.Looks.{was_marked}
use Rattle.lp_plain.proofs.Sightings.{same_found, term_marked, type_marked}
use Rattle.lp_plain.proofs.free.Walk.mark.Goals as goal

pub returns-in_ok-new-in-Term-clause-found : goal.returns-in_ok-new-in-Term-clause-found
returns-in_ok-new-in-Term-clause-found c = λ x. same_found c.args.self.now (record { left = c.args.self.now.left; terms = c.insert.new.self; types = c.args.self.now.types; variables = c.args.self.now.variables; type_variables = c.args.self.now.type_variables }) refl refl x

pub returns-in_ok-new-in-Term-clause-met : goal.returns-in_ok-new-in-Term-clause-met
returns-in_ok-new-in-Term-clause-met c = λ e b.
    subst (λ p. is_marked c.args.self.now (piece b p) ≡ true) (sym c.in-Term.is) (was_marked (contains (compared.ghosts).eq c.args.self.now.terms (place c.in-Term.depth c.in-Term.term.0)) _ c.in_ok-new-in-Term.ensures.added e)

pub returns-in_ok-new-in-Term-clause-marks : goal.returns-in_ok-new-in-Term-clause-marks
returns-in_ok-new-in-Term-clause-marks c = λ b i m.
    subst (λ p. (i ≡ piece b p) ⊎ (is_marked c.args.self.now i ≡ true)) (sym c.in-Term.is)
    (term_marked c.args.self.now (record {
      left = c.args.self.now.left;
      terms = c.insert.new.self;
      types = c.args.self.now.types;
      variables = c.args.self.now.variables;
      type_variables = c.args.self.now.type_variables;
    }) c.in-Term.term.0 c.in-Term.depth
    c.in_ok-new-in-Term.ensures.updates.0 refl i m)

pub returns-in_ok-new-in-Type-clause-found : goal.returns-in_ok-new-in-Type-clause-found
returns-in_ok-new-in-Type-clause-found c = λ x. same_found c.args.self.now (record { left = c.args.self.now.left; terms = c.args.self.now.terms; types = c.insert-in-Type.new.self; variables = c.args.self.now.variables; type_variables = c.args.self.now.type_variables }) refl refl x

pub returns-in_ok-new-in-Type-clause-met : goal.returns-in_ok-new-in-Type-clause-met
returns-in_ok-new-in-Type-clause-met c = λ e b.
    subst (λ p. is_marked c.args.self.now (piece b p) ≡ true) (sym c.in-Type.is) (was_marked (contains nat_eq c.args.self.now.types c.in-Type.of.0) _ c.in_ok-new-in-Type.ensures.added e)

pub returns-in_ok-new-in-Type-clause-marks : goal.returns-in_ok-new-in-Type-clause-marks
returns-in_ok-new-in-Type-clause-marks c = λ b i m.
    subst (λ p. (i ≡ piece b p) ⊎ (is_marked c.args.self.now i ≡ true)) (sym c.in-Type.is)
    (type_marked c.args.self.now (record {
      left = c.args.self.now.left;
      terms = c.args.self.now.terms;
      types = c.insert-in-Type.new.self;
      variables = c.args.self.now.variables;
      type_variables = c.args.self.now.type_variables;
    }) c.in-Type.of.0 c.in_ok-new-in-Type.ensures.updates.0
    refl i m)
