-- A candidate's clause as the definition tries it: its head and its goals are those of the written clause as the bindings read them, with the values around it.
use Rattle.std.proofs.Common.{◌≡◌, ℕ, zero, ◌+◌, ◌≤◌, List, [], ◌∷◌, map, length, refl, sym, ap, ◌∙◌, subst, arith, nat_lt, if◌then◌else◌, false, Option, None, Some}
use Rattle.std.proofs.lemmas.Bool.Decides.{nat_tests}
use mathlib.Core.Path.{fun_ext}
use Rattle.lp_calculus.specs.Types.{Ty, var, instance}
use Rattle.lp_calculus.specs.Term.{Term}
use Rattle.lp_calculus.specs.Instance.{instance_term}
use Rattle.lp_term.specs.declared.node.TermId.{TermId}
use Rattle.lp_model.specs.Flat.{Goals, Clause, clause, map_goals, same_type, type_goals, under_all}
use Rattle.lp_model.specs.Index.{lifted, instantiate}
use Rattle.lp_model.specs.Pair.{Closing, closed}
use Rattle.lp_model.specs.Search.{renewed}
use Rattle.lp_pattern.specs.Stripping.{IsShut}
use Rattle.lp_plain.specs.declared.candidates.Candidate.{Candidate}
use Rattle.lp_plain.specs.declared.instance.Values.{Values}
use Rattle.lp_plain.specs.declared.machine.Machine.{Machine}
use Rattle.lp_plain.specs.declared.scope.Block.{Block}
use Rattle.lp_plain.specs.declared.types.Renewal.{Renewal}
use Rattle.lp_plain.specs.Followed.{HasOwnTypes, HaveOwnTys, HaveRoom, body_read, clause_read}
use Rattle.lp_plain.specs.Renewal.{renewing}
use Rattle.lp_plain.specs.Resuming.{AllOfGoals, TysOfGoals}
use Rattle.lp_plain.specs.Scopes.{Holds, outermost, inside}
use Rattle.lp_plain.specs.Trials.{IsTrialOf, read_in}
use Rattle.lp_plain.specs.Written.{IsTypeBelow, IsWritten}
use Rattle.lp_plain.proofs.Become.{own_kept}
use Rattle.lp_plain.proofs.Instances.{term_same}
use Rattle.lp_plain.proofs.KnownGoals.{as_many}
use Rattle.lp_plain.proofs.Mapped.{goals_typed}
use Rattle.lp_plain.proofs.ProgramBodies.{goals_stay}
use Rattle.lp_plain.proofs.ProgramHeads.{program_head}
use Rattle.lp_plain.proofs.RenewedTypes.{renewing_fits}

-- only how many variables there are counts
under_same : (f : Ty → Ty) (vs : List Ty) (σ : ℕ → Term) → under_all lifted (map f vs) σ ≡ under_all lifted vs σ
under_same f [] σ = refl
under_same f (v ∷ vs) σ = ap lifted (under_same f vs σ)

under_none : (vs : List Ty) (e : ℕ) → under_all (λ u. u) vs e ≡ e
under_none [] e = refl
under_none (v ∷ vs) e = under_none vs e

-- no type variables of its own
none_renewed : (next i : ℕ) → renewed 0 next i ≡ var i
none_renewed next i = let e : nat_lt i 0 ≡ false = grind (arith, nat_tests) in ap (λ b. if b then var (next + i) else var i) e

-- outside of all scopes there is no value
pub no_values : (values : List TermId) (bs : List Block) (o : Option ℕ) (vs : List TermId) → o ≡ None → Holds values bs o vs → vs ≡ []
no_values values bs o vs n (outermost e z) = z
no_values values bs o vs n (inside i k us e g l h z) = absurd (let q : None ≡ Some i = sym n ∙ e in cc)

-- with new type variables it has this head and these goals, and as many variables
pub record IsClauseRead (z : Closing) (τ : ℕ → Term) (θ : ℕ → Ty) (k next : ℕ) (vs : List Ty) (h : Term) (b : Goals) (c : Clause) : Type 0 where
  pub vars : List Ty
  pub head : Term
  pub body : Goals
  pub is : c ≡ clause k vars head body
  pub many : length vars ≡ length vs
  pub head_is : instance_term (renewed k next) head ≡ read_in z τ θ h
  pub body_is : type_goals (renewed k next) body ≡ body_read z τ θ b

assumed_read : (i : ℕ) (z : Closing) (σ : ℕ → Term) (r : Renewal) (k next : ℕ) (vs : List Ty) (h : Term) (b : Goals) → k ≡ 0 →
    IsClauseRead z (under_all lifted vs σ) (renewing r) k next vs h b (clause_read z σ r (Candidate.Assumed i) (clause k vs h b))
assumed_read i z σ r k next vs h b alone =
    let θ = renewing r in
    let us = map (instance θ) vs in
    let head' = closed z (instantiate (under_all lifted us σ) (instance_term θ h)) in
    let typed = map_goals (λ u. u) (λ u t. instance_term θ t) (instance θ) (under_all (λ u. u) vs zero) b in
    let body' = map_goals (λ u. u) (λ u t. closed z t) (instance z.types) (under_all (λ u. u) (map same_type us) zero) (map_goals lifted instantiate same_type (under_all lifted us σ) typed) in
    record {
      vars = map (instance z.types) (map same_type us);
      head = head';
      body = body';
      is = refl;
      many = as_many (instance z.types) (map same_type us) ∙ as_many same_type us ∙ as_many (instance θ) vs;
      head_is = subst (λ j. instance_term (renewed j next) head' ≡ read_in z (under_all lifted vs σ) θ h) (sym alone)
          (term_same (renewed 0 next) (none_renewed next) head' ∙ ap (λ ρ. read_in z ρ θ h) (under_same (instance θ) vs σ));
      body_is = subst (λ j. type_goals (renewed j next) body' ≡ body_read z (under_all lifted vs σ) θ b) (sym alone)
          (goals_typed (renewed 0 next) (none_renewed next) body' ∙
          (λ j. map_goals (λ u. u) (λ u t. closed z t) (instance z.types) (under_none (map same_type us) zero j) (map_goals lifted instantiate same_type (under_same (instance θ) vs σ j)
          (map_goals (λ u. u) (λ u t. instance_term θ t) (instance θ) (under_none vs zero j) b))));
    }

module _ (m : Machine) (z : Closing) (shut : IsShut z) (free : (x : ℕ) → m.branch.next_type ≤ x → z.types x ≡ var x) (vs : List Ty) (h : Term) (values : Values) (σ : ℕ → Term) where
  program_read : (i : ℕ) (T : IsTrialOf m (Candidate.Program i) vs h values σ) → HasOwnTypes (Candidate.Program i) T.type_vars T.types → HaveRoom (Candidate.Program i) values.types →
      AllOfGoals (IsWritten T.arity T.types) (length vs + length T.outer) T.body → TysOfGoals (IsTypeBelow T.types) T.body →
      IsClauseRead z (under_all lifted vs σ) (renewing values.types) T.type_vars m.branch.next_type vs h T.body (clause_read z σ values.types (Candidate.Program i) (clause T.type_vars vs h T.body))
  program_read i T own room w y =
      let none : T.outer ≡ [] = no_values m.scopes.values.items m.scopes.blocks.items values.scope T.outer T.around.1 T.scope in
      let long : length vs + length T.outer ≡ length vs = (let q : length T.outer ≡ 0 = ap length none in omega (arith, q)) in
      let renewal : renewing values.types ≡ renewed T.type_vars m.branch.next_type = fun_ext (renewing_fits values.types room) ∙ (λ j. renewed (T.around.2 j) (T.around.3 j)) in
      let wh : IsWritten T.arity T.type_vars (length vs) h = subst (λ n. IsWritten T.arity n (length vs) h) own (subst (λ n. IsWritten T.arity T.types n h) long T.written) in
      let wb : AllOfGoals (IsWritten T.arity T.type_vars) (length vs) T.body = subst (λ n. AllOfGoals (IsWritten T.arity n) (length vs) T.body) own (subst (λ n. AllOfGoals (IsWritten T.arity T.types) n T.body) long w) in
      let yb : TysOfGoals (IsTypeBelow T.type_vars) T.body = subst (λ n. TysOfGoals (IsTypeBelow n) T.body) own y in
      record {
        vars = vs;
        head = h;
        body = T.body;
        is = refl;
        many = refl;
        head_is = sym (program_head z shut T.type_vars m.branch.next_type free values.types room T.around.2 T.around.3 T.arity vs σ T.shut h wh);
        body_is = sym (ap (λ θ. body_read z (under_all lifted vs σ) θ T.body) renewal ∙ goals_stay z shut T.type_vars m.branch.next_type free T.arity (length vs) zero zero zero (under_all lifted vs σ) (own_kept vs σ T.shut).own T.body wb yb);
      }

  pub clause_is : (candidate : Candidate) (T : IsTrialOf m candidate vs h values σ) → HasOwnTypes candidate T.type_vars T.types → HaveRoom candidate values.types →
      AllOfGoals (IsWritten T.arity T.types) (length vs + length T.outer) T.body → HaveOwnTys candidate T.types T.body →
      IsClauseRead z (under_all lifted vs σ) (renewing values.types) T.type_vars m.branch.next_type vs h T.body (clause_read z σ values.types candidate (clause T.type_vars vs h T.body))
  clause_is (Candidate.Assumed i) T own room w y = assumed_read i z σ values.types T.type_vars m.branch.next_type vs h T.body own
  clause_is (Candidate.Program i) T own room w y = program_read i T own room w y
