-- A clause serves for the goal of a try exactly where some closing of the try's branch solves the types of the heads and the pairs of the arguments.
use Rattle.std.proofs.Common.{◌≡◌, ℕ, zero, suc, ◌+◌, ◌-◌, ◌<◌, List, [], ◌∷◌, map, length, ◌∙◌, refl, sym, ap, subst as transport, arith, Bool, true, false, nat_lt, if◌then◌else◌, inl, inr}
use Rattle.std.specs.Prelude.{◌⊎◌}
use Rattle.std.proofs.lemmas.Bool.Decides.{nat_tests}
use Rattle.lp_unify_laws.specs.TypesBelow.{AreTypesBelow}
use Rattle.lp_calculus.specs.Types.{Ty, var, instance}
use Rattle.lp_calculus.specs.Term.{Term}
use Rattle.lp_calculus.specs.Convert.{Converts}
use Rattle.lp_calculus.specs.Fill.{close}
use Rattle.lp_calculus.specs.Instance.{instance_term}
use Rattle.lp_calculus.specs.Typing.{type_at}
use Rattle.lp_calculus.specs.Closed.{IsClosedType, AreClosed}
use Rattle.lp_calculus.proofs.TypeLaws.{instance-instance}
use Rattle.lp_model.specs.Index.{instantiate, at}
use Rattle.lp_model.specs.Pair.{Closing, closed}
use Rattle.lp_model.specs.Search.{renewed}
use Rattle.lp_model.specs.Flatten.{ClauseFormula}
use Rattle.lp_model.specs.Proofs.{Declared, Leaves, ProvableBy}
use Rattle.lp_model.specs.Flat.{Goals, type_goals, formula_of_goals}
use Rattle.lp_unify_laws.proofs.Identities.{both_types, term_twice, map_twice}
use Rattle.lp_search_laws.specs.Branches.{IsPlainTerm, AreGoals}
use Rattle.lp_search_laws.specs.Clauses.{AreWitnessesAt, with_own, Applies}
use Rattle.lp_search_laws.proofs.Formulas.{goals_inside, types_inside}
use Rattle.lp_search_laws.proofs.PlainTypes.{agree_list, agree_term, IsBelow, plain_below, goals_below}

-- the closing with types for the clause's own type variables, from j on
abbrev pub with_types : (j : ℕ) → List Ty → Closing → Closing
with_types j ts c = record { types = λ i. if nat_lt i j then c.types i else type_at ts (i - j); terms = c.terms }

pub with_old : (j : ℕ) (ts : List Ty) (c : Closing) (i : ℕ) → i < j → (with_types j ts c).types i ≡ c.types i
with_old j ts c i h = let e : nat_lt i j ≡ true = grind (arith, nat_tests, h) in ap (λ b. if b then c.types i else type_at ts (i - j)) e

pub with_new : (j : ℕ) (ts : List Ty) (c : Closing) (i : ℕ) → (with_types j ts c).types (j + i) ≡ type_at ts i
with_new j ts c i =
    let e : nat_lt (j + i) j ≡ false = grind (arith, nat_tests) in
    let r : j + i - j ≡ i = omega arith in
    ap (λ b. if b then c.types (j + i) else type_at ts (j + i - j)) e ∙ ap (type_at ts) r

closed_at : (ts : List Ty) → AreClosed ts → (i : ℕ) → IsClosedType (type_at ts i)
closed_at [] h i = tt
closed_at (t ∷ ts) h zero = h.0
closed_at (t ∷ ts) h (suc i) = closed_at ts h.1 i

pub with_closed : (j : ℕ) (ts : List Ty) (c : Closing) → AreClosed ts → ((i : ℕ) → IsClosedType (c.types i)) → (i : ℕ) → IsClosedType ((with_types j ts c).types i)
with_closed j ts c h g i = go (nat_lt i j)
  where
    go : (b : Bool) → IsClosedType (if b then c.types i else type_at ts (i - j))
    go true = g i
    go false = closed_at ts h (i - j)

-- the types that a closing gives to k type variables from j on
unfoldable pub types_given : (k : ℕ) → (ℕ → Ty) → List Ty
types_given zero f = []
types_given (suc k) f = f zero ∷ types_given k (λ i. f (suc i))

pub given_long : (k : ℕ) (f : ℕ → Ty) → length (types_given k f) ≡ k
unfolding types_given
given_long zero f = refl
given_long (suc k) f = ap suc (given_long k (λ i. f (suc i)))

pub given_closed : (k : ℕ) (f : ℕ → Ty) → ((i : ℕ) → IsClosedType (f i)) → AreClosed (types_given k f)
unfolding types_given
given_closed zero f h = tt
given_closed (suc k) f h = (h zero, given_closed k (λ i. f (suc i)) (λ i. h (suc i)))

pub given_type : (k : ℕ) (f : ℕ → Ty) (i : ℕ) → i < k → type_at (types_given k f) i ≡ f i
unfolding types_given
given_type zero f i h = absurd (omega (arith, h))
given_type (suc k) f zero h = refl
given_type (suc k) f (suc i) h = given_type k (λ l. f (suc l)) i (omega (arith, h))

-- a clause of the program has its own type variables alone, an assumed one has none of its own
abbrev pub MayHave : (k j i : ℕ) → Type 0
MayHave k j i = (i < k) ⊎ ((k ≡ 0) × (i < j))

-- with the types a for the renewed variables, a clause's type variables have the types that belong to it
pub renewed_types : (k j : ℕ) (a : ℕ → Ty) (ts : List Ty) (c : Closing) → ((i : ℕ) → i < k → a (j + i) ≡ type_at ts i) → ((i : ℕ) → i < j → a i ≡ c.types i) → (i : ℕ) → MayHave k j i → instance a (renewed k j i) ≡ (with_own k ts c).types i
renewed_types k j a ts c f g i (inl h) =
    let e : nat_lt i k ≡ true = grind (arith, nat_tests, h) in
    ap (λ b. instance a (if b then var (j + i) else var i)) e ∙ f i h ∙ ap (λ b. if b then type_at ts i else c.types i) (sym e)
renewed_types k j a ts c f g i (inr h) =
    let l : (i < k) → ⊥ = λ x. let z : k ≡ 0 = h.0 in omega (arith, x, z) in
    let e : nat_lt i k ≡ false = grind (arith, nat_tests, l) in
    ap (λ b. instance a (if b then var (j + i) else var i)) e ∙ g i h.1 ∙ ap (λ b. if b then type_at ts i else c.types i) (sym e)

-- so the renewed clause applies exactly where the clause does
pub record SameClause (a o : Closing) (ρ : ℕ → Ty) (vs : List Ty) (h : Term) (g : Goals) : Type 0 where
  pub vars : map (instance a.types) (map (instance ρ) vs) ≡ map (instance o.types) vs
  pub head : closed a (instance_term ρ h) ≡ closed o h
  pub goals : closed a (formula_of_goals (type_goals ρ g)) ≡ closed o (formula_of_goals g)

pub same_clause : (M : ℕ) (a o : Closing) (ρ : ℕ → Ty) (vs : List Ty) (h : Term) (g : Goals) (B : List Bool) → o.terms ≡ a.terms → ((i : ℕ) → i < M → instance a.types (ρ i) ≡ o.types i) → AreTypesBelow M vs → IsPlainTerm M h → AreGoals M B g → SameClause a o ρ vs h g
same_clause M a o ρ vs h g B e f v p q =
    let term = λ (t : Term) (w : IsBelow M t). ap (close a.terms) (term_twice a.types ρ t ∙ agree_term M (both_types a.types ρ) o.types f t w) ∙ ap (λ τ. close τ (instance_term o.types t)) (sym e) in
    record {
      vars = map_twice (instance ρ) (instance a.types) (instance (both_types a.types ρ)) (instance-instance ρ a.types) vs ∙ agree_list M (both_types a.types ρ) o.types f vs v;
      head = term h (plain_below M h p);
      goals = ap (closed a) (goals_inside (instance_term ρ) (instance ρ) (types_inside ρ) zero g) ∙ term (formula_of_goals g) (goals_below M B g q);
    }

pub applies_on : {L : Leaves} (d : Declared) (F : List Ty) (R : List ClauseFormula) (a o : Closing) (ρ : ℕ → Ty) (vs : List Ty) (h : Term) (g : Goals)
    (A A' : Term) → SameClause a o ρ vs h g → A ≡ A' → Applies L d F R o vs h g A → Applies L d F R a (map (instance ρ) vs) (instance_term ρ h)
    (type_goals ρ g) A'
applies_on {L} d F R a o ρ vs h g A A' s e w = record {
  values = w.values;
  witnesses = transport (AreWitnessesAt d F w.values) (sym s.vars) w.witnesses;
  head = transport (λ x. Converts (instantiate (at w.values) x) A') (sym s.head) (transport (λ x. Converts (instantiate (at w.values) (closed o h)) x) e w.head);
  goals = transport (λ x. ProvableBy L d F R (instantiate (at w.values) x)) (sym s.goals) w.goals;
}

pub applies_back : {L : Leaves} (d : Declared) (F : List Ty) (R : List ClauseFormula) (a o : Closing) (ρ : ℕ → Ty) (vs : List Ty) (h : Term) (g : Goals) (A : Term) → SameClause a o ρ vs h g → Applies L d F R a (map (instance ρ) vs) (instance_term ρ h) (type_goals ρ g) A → Applies L d F R o vs h g A
applies_back {L} d F R a o ρ vs h g A s w = record {
  values = w.values;
  witnesses = transport (AreWitnessesAt d F w.values) s.vars w.witnesses;
  head = transport (λ x. Converts (instantiate (at w.values) x) A) s.head w.head;
  goals = transport (λ x. ProvableBy L d F R (instantiate (at w.values) x)) s.goals w.goals;
}
