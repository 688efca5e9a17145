use Rattle.lp_unify.proofs.binding.bind_to.Goals as goal

pub returns-clause-types : goal.returns-clause-types
returns-clause-types c = λ v S r. record { types = c.in_ok-bind.ensures.types v S r; terms = c.in_ok-bind.ensures.types_of_terms v S r }
