-- What is put into terms that reduce to pattern terms: values for variables, types, and indices for eigenconstants.
use Rattle.std.proofs.Common.{ℕ, List, [], ◌∷◌, Bool, true, false, nat_eq, if◌then◌else◌}
use Rattle.std.specs.Prelude.{◌&&◌}
use Rattle.lp_calculus.specs.Types.{Ty}
use Rattle.lp_calculus.specs.Term.{Term, Atom, atom, constant, integer, text, eigen, logic, param}
use Rattle.lp_calculus.specs.Convert.{ReducesTo, done}
use Rattle.lp_calculus.specs.Fill.{Binding, Within, abstracted, at_variables, indexed, one, put}
use Rattle.lp_calculus.specs.Instance.{instance_term}
use Rattle.lp_calculus.proofs.BetaEta.{many_on}
use Rattle.lp_calculus.proofs.Steps.{within_reduces}
use Rattle.lp_lemmas.specs.Each.{EachOf}
use Rattle.lp_unify_laws.specs.Levels.{IsPairAtom}
use Rattle.lp_unify_laws.proofs.NewInstances.{reduces_instance}
use Rattle.lp_pattern_laws.specs.Patterns.{IsPattern}
use Rattle.lp_pattern_laws.proofs.Comes.{reduces_abs, reduces_fill, reduces_fills}
use Rattle.lp_pattern_laws.proofs.Filled as filled

-- values that reduce to pattern terms
abbrev pub HavePatterns : List Binding → Type 0
HavePatterns bs = EachOf (λ b. IsPattern b.value) bs

pub record IsPatternBinding (next : ℕ) (b : Binding) : Type 0 where
  pub pattern : IsPattern b.value
  pub scoped : Within (IsPairAtom next b.level) 0 b.value

-- the value in the form to which it reduces
abbrev formed : (b : Binding) → IsPattern b.value → Binding
formed b p = record { id = b.id; level = b.level; value = p.form }

put_leads : (b : Binding) (p : IsPattern b.value) (a : Atom) → ReducesTo (at_variables (one b) a) (at_variables (one (formed b p)) a)
put_leads b p (logic x l) = by (nat_eq x b.id && nat_eq l b.level)
  where
    by : (t : Bool) → ReducesTo (if t then b.value else atom (logic x l)) (if t then p.form else atom (logic x l))
    by true = p.reduces
    by false = done (atom (logic x l))
put_leads b p (constant c ts) = done (atom (constant c ts))
put_leads b p (integer z) = done (atom (integer z))
put_leads b p (text s) = done (atom (text s))
put_leads b p (eigen k) = done (atom (eigen k))
put_leads b p (param k T) = done (atom (param k T))

pub pattern_put : (next : ℕ) (b : Binding) → IsPatternBinding next b → (t : Term) → IsPattern t → IsPattern (put b t)
pattern_put next b h t p = record {
  form = put (formed b h.pattern) p.form;
  reduces = many_on (reduces_fill (at_variables (one b)) p.reduces) (reduces_fills (at_variables (one b)) (at_variables (one (formed b h.pattern))) (put_leads b h.pattern) p.form);
  pattern = filled.pattern_put next (formed b h.pattern) (record { pattern = h.pattern.pattern; scoped = within_reduces (IsPairAtom next b.level) 0 h.pattern.reduces h.scoped }) p.form p.pattern;
}

pub pattern_instance : (θ : ℕ → Ty) {t : Term} → IsPattern t → IsPattern (instance_term θ t)
pattern_instance θ p = record { form = instance_term θ p.form; reduces = reduces_instance θ p.reduces; pattern = filled.pattern_instance θ p.pattern }

reduces_abstracted : (cs : List ℕ) {t s : Term} → ReducesTo t s → ReducesTo (abstracted cs t) (abstracted cs s)
reduces_abstracted [] r = r
reduces_abstracted (c ∷ cs) r = reduces_abs (reduces_fill (indexed c) (reduces_abstracted cs r))

pub pattern_abstracted : (P : Atom → Type 0) (cs : List ℕ) (t : Term) → IsPattern t → Within P 0 t → IsPattern (abstracted cs t)
pattern_abstracted P cs t p w = record {
  form = abstracted cs p.form;
  reduces = reduces_abstracted cs p.reduces;
  pattern = (filled.pattern_abstracted P cs p.form p.pattern (within_reduces P 0 p.reduces w)).0;
}
