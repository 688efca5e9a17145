-- What is written in negated goals and assumed clauses keeps standing in them under what is put into goals and clauses.
use Rattle.std.proofs.Common.{◌≡◌, ℕ, zero, suc, List, [], ◌∷◌, ◌++◌, map, refl, sym, ap, subst as transport, inl, inr, ◌∙◌, append_assoc}
use Rattle.lp_calculus.specs.Types.{Ty, instance}
use Rattle.lp_calculus.specs.Term.{Term, shift}
use Rattle.lp_calculus.specs.Fill.{Binding, at_variables, one, put}
use Rattle.lp_calculus.specs.Instance.{instance_term}
use Rattle.std.proofs.lemmas.List.{map-append}
use Rattle.lp_calculus.specs.Closed.{AllAtoms}
use Rattle.lp_proof_laws.specs.Terms.{AreTermsOf, AreClausesOf}
use Rattle.lp_proof_laws.specs.Filled.{IsSourceAtom, filled_goals, filled_clauses}
use Rattle.lp_proof_laws.proofs.Flattened.Filled.{put_filled_goals, put_filled_clauses, type_filled_goals, type_filled_clauses, instantiate_filled_goals, instantiate_filled_clauses, raise_filled_goals, raise_filled_clauses}
use Rattle.lp_lemmas.specs.Each.{EachOf, AnyOf}
use Rattle.lp_lemmas.proofs.Each.{any_front, any_back, each_append, each_map}
use Rattle.lp_model.specs.Index.{instantiate, lifted}
use Rattle.lp_model.specs.Flat.{Goal, Atomic, Cut, Either, Exists, Forall, Assume, Not, Written, under_all, map_goal, map_goals, map_clause, map_clauses, Goals, no_goals, goals, goal_list, clause_list, Clause, clause, Clauses, no_clauses, clauses, same_type, map_written, raise_goals, instantiate_goals, type_goals, formula_of_goals, formula_of_clause, loose_in, type_variables_in, collect_goals, collect_clauses}
use Rattle.lp_model.specs.Branch.{entries, both_written}
use Rattle.lp_proof_laws.proofs.Flattened.FlatGoals.{goals_raise, clause_raise}
use Rattle.lp_search_laws.specs.Written.{IsOrigin, IsClauseOrigin, HasOrigin, StandsIn, StandsInOne, IsWrittenGoal, AreWrittenGoals, IsWrittenClause, AreWrittenClauses, IsWrittenPlace, IsWrittenEntry}
use Rattle.lp_search_laws.proofs.Formulas.{goals_inside, clause_inside, put_inside, types_inside}
use Rattle.lp_search_laws.proofs.Opened.{goals_instantiate, clause_instantiate}
use Rattle.lp_search_laws.proofs.Stands.{part_instantiate, part_fill, part_instance, part_shift}

-- lists
pub both_mapped : {A B C : Type 0} (f : B → C) (g : A → B) (xs : List A) → map f (map g xs) ≡ map (λ x. f (g x)) xs
both_mapped f g [] = refl
both_mapped f g (x ∷ xs) = ap (λ z. f (g x) ∷ z) (both_mapped f g xs)

three_mapped : {A B : Type 0} (f : A → B) (xs ys zs : List A) → map f (xs ++ (ys ++ zs)) ≡ map f xs ++ (map f ys ++ map f zs)
three_mapped f xs ys zs = map-append f xs (ys ++ zs) ∙ ap (λ z. map f xs ++ z) (map-append f ys zs)

any_image : {A B : Type 0} (f : A → B) (c : A) (xs : List A) → AnyOf (λ x. x ≡ c) xs → AnyOf (λ x. x ≡ f c) (map f xs)
any_image f c [] h = h
any_image f c (x ∷ xs) h = elim h [ inl e ↦ inl (ap f e) | inr r ↦ inr (any_image f c xs r) ]

later_among : {A : Type 0} (x : A) (ys zs : List A) → EachOf (λ c. AnyOf (λ w. w ≡ c) ys) zs → EachOf (λ c. AnyOf (λ w. w ≡ c) (x ∷ ys)) zs
later_among x ys [] h = tt
later_among x ys (z ∷ zs) h = (inr h.0, later_among x ys zs h.1)

each_among : {A : Type 0} (xs : List A) → EachOf (λ c. AnyOf (λ w. w ≡ c) xs) xs
each_among [] = tt
each_among (x ∷ xs) = (inl refl, later_among x xs xs (each_among xs))

-- what is put into goals and clauses: `term` keeps parts, and goes into the formulas
pub record Goes {E : Type 0} (under : E → E) (term : E → Term → Term) (ty : Ty → Ty) : Type 0 where
  pub parts : (e : E) (t u : Term) → StandsIn t u → StandsIn (term e t) (term e u)
  pub in_goals : (e : E) (gs : Goals) → formula_of_goals (map_goals under term ty e gs) ≡ term e (formula_of_goals gs)
  pub in_clause : (e : E) (c : Clause) → formula_of_clause (map_clause under term ty e c) ≡ term e (formula_of_clause c)
  pub origin : (e : E) (w : Written) (gs : Goals) → IsOrigin w gs → IsOrigin (map_written (term e) ty w) (map_goals under term ty e gs)
  pub clause_origin : (e : E) (w : Written) (cs : Clauses) → IsClauseOrigin w cs → IsClauseOrigin (map_written (term e) ty w) (map_clauses under term ty e cs)

-- what goes into filled goals and leaves their source as it is
module _ {E : Type 0} (under : E → E) (term : E → Term → Term) (ty : Ty → Ty) (e : E) where
  origin_filled : ((θ : ℕ → Ty) (σ : ℕ → Term) (gs : Goals) → AreTermsOf (λ t. AllAtoms IsSourceAtom t) gs → map_goals under term ty e
      (filled_goals θ σ gs) ≡ filled_goals (λ i. ty (θ i)) (λ i. term e (σ i)) gs) → (w : Written) (gs : Goals) → IsOrigin w gs → IsOrigin
      (map_written (term e) ty w) (map_goals under term ty e gs)
  origin_filled filled w gs o = record {
    types = λ i. ty (o.types i);
    terms = λ i. term e (o.terms i);
    flat = o.flat;
    source = o.source;
    is = ap (map_goals under term ty e) o.is ∙ filled o.types o.terms o.flat o.source;
    terms_written = ap (map (term e)) o.terms_written ∙ both_mapped (term e) o.terms (collect_goals loose_in 0 o.flat);
    types_written = ap (map ty) o.types_written ∙ both_mapped ty o.types (collect_goals (λ d t. type_variables_in t) 0 o.flat);
  }

  clause_origin_filled : ((θ : ℕ → Ty) (σ : ℕ → Term) (cs : Clauses) → AreClausesOf (λ t. AllAtoms IsSourceAtom t) cs → map_clauses under term ty e
      (filled_clauses θ σ cs) ≡ filled_clauses (λ i. ty (θ i)) (λ i. term e (σ i)) cs) → (w : Written) (cs : Clauses) → IsClauseOrigin w cs →
      IsClauseOrigin (map_written (term e) ty w) (map_clauses under term ty e cs)
  clause_origin_filled filled w cs o = record {
    types = λ i. ty (o.types i);
    terms = λ i. term e (o.terms i);
    flat = o.flat;
    source = o.source;
    is = ap (map_clauses under term ty e) o.is ∙ filled o.types o.terms o.flat o.source;
    terms_written = ap (map (term e)) o.terms_written ∙ both_mapped (term e) o.terms (collect_clauses loose_in 0 o.flat);
    types_written = ap (map ty) o.types_written ∙ both_mapped ty o.types (collect_clauses (λ d t. type_variables_in t) 0 o.flat);
  }

module _ {E : Type 0} (under : E → E) (term : E → Term → Term) (ty : Ty → Ty) (go : Goes under term ty) where
  one_mapped : (e : E) (t : Term) (cs : List Clause) → StandsInOne cs t → StandsInOne (map (map_clause under term ty e) cs) (term e t)
  one_mapped e t [] h = h
  one_mapped e t (c ∷ cs) h = elim h [ inl s ↦ inl (transport (StandsIn (term e t)) (sym (go.in_clause e c)) (go.parts e t (formula_of_clause c) s)) | inr s ↦ inr (one_mapped e t cs s) ]

  listed : (e : E) (cs : Clauses) → map (map_clause under term ty e) (clause_list cs) ≡ clause_list (map_clauses under term ty e cs)
  listed e no_clauses = refl
  listed e (clauses c cs) = ap (λ z. map_clause under term ty e c ∷ z) (listed e cs)

  terms_mapped : (e : E) (gs : Goals) (ts : List Term) → EachOf (λ t. StandsIn t (formula_of_goals gs)) ts → EachOf (λ t. StandsIn t (formula_of_goals (map_goals under term ty e gs))) (map (term e) ts)
  terms_mapped e gs ts h = each_map (λ t. StandsIn t (formula_of_goals gs)) (λ t. StandsIn t (formula_of_goals (map_goals under term ty e gs))) (term e) (λ t s. transport (StandsIn (term e t)) (sym (go.in_goals e gs)) (go.parts e t (formula_of_goals gs) s)) ts h

  ones_mapped : (e : E) (cs : List Clause) (ts : List Term) → EachOf (StandsInOne cs) ts → EachOf (StandsInOne (map (map_clause under term ty e) cs)) (map (term e) ts)
  ones_mapped e cs ts h = each_map (StandsInOne cs) (StandsInOne (map (map_clause under term ty e) cs)) (term e) (λ t s. one_mapped e t cs s) ts h

  has_origin_mapped : (e : E) (w : Written) (c : Clause) → HasOrigin c w → HasOrigin (map_clause under term ty e c) (map_written (term e) ty w)
  has_origin_mapped e w c o = record {
    group = map_clauses under term ty e o.group;
    written = map_written (term e) ty o.written;
    origin = go.clause_origin e o.written o.group o.origin;
    among = transport (AnyOf (λ x. x ≡ map_clause under term ty e c)) (listed e o.group) (any_image (map_clause under term ty e) c (clause_list o.group) o.among);
    terms_before = map (term e) o.terms_before;
    terms_behind = map (term e) o.terms_behind;
    terms = ap (map (term e)) o.terms ∙ three_mapped (term e) o.terms_before o.written.terms o.terms_behind;
    types_before = map ty o.types_before;
    types_behind = map ty o.types_behind;
    types = ap (map ty) o.types ∙ three_mapped ty o.types_before o.written.types o.types_behind;
  }

  mutual
    pub goal_mapped : (e : E) (g : Goal) → IsWrittenGoal g → IsWrittenGoal (map_goal under term ty e g)
    goal_mapped e (Atomic t) h = tt
    goal_mapped e Cut h = tt
    goal_mapped e (Either l r) h = (goals_mapped e l h.0, goals_mapped e r h.1)
    goal_mapped e (Exists T gs) h = goals_mapped (under e) gs h
    goal_mapped e (Forall T gs) h = goals_mapped (under e) gs h
    goal_mapped e (Assume w cs gs) h = (transport (λ z. EachOf (StandsInOne z) (map (term e) w.terms)) (listed e cs) (ones_mapped e (clause_list cs) w.terms h.0), clauses_mapped e cs h.1, goals_mapped e gs h.2, go.clause_origin e w cs h.3)
    goal_mapped e (Not w gs) h = (terms_mapped e gs w.terms h.0, goals_mapped e gs h.1, go.origin e w gs h.2)

    goals_mapped : (e : E) (gs : Goals) → AreWrittenGoals gs → AreWrittenGoals (map_goals under term ty e gs)
    goals_mapped e no_goals h = tt
    goals_mapped e (goals g gs) h = (goal_mapped e g h.0, goals_mapped e gs h.1)

    clause_mapped : (e : E) (c : Clause) → IsWrittenClause c → IsWrittenClause (map_clause under term ty e c)
    clause_mapped e (clause n vs h b) w = goals_mapped (under_all under vs e) b w

    clauses_mapped : (e : E) (cs : Clauses) → AreWrittenClauses cs → AreWrittenClauses (map_clauses under term ty e cs)
    clauses_mapped e no_clauses h = tt
    clauses_mapped e (clauses c cs) h = (clause_mapped e c h.0, clauses_mapped e cs h.1)

  pub place_mapped : (e : E) (A : List Clause) (w : Written) → IsWrittenPlace A w → IsWrittenPlace (map (map_clause under term ty e) A) (map_written (term e) ty w)
  place_mapped e A w h = record {
    clauses = each_map IsWrittenClause IsWrittenClause (map_clause under term ty e) (λ c k. clause_mapped e c k) A
        h.clauses;
    terms = ones_mapped e A w.terms h.terms;
    origins = each_map (λ c. HasOrigin c w) (λ c. HasOrigin c (map_written (term e) ty w))
        (map_clause under term ty e) (λ c o. has_origin_mapped e w c o) A h.origins;
  }

-- a binding whose value has no loose index
pub put_goes : (b : Binding) → shift 0 1 b.value ≡ b.value → Goes (λ (u : ℕ). u) (λ u t. put b t) same_type
put_goes b shut = record {
  parts = λ e t u s. part_fill (at_variables (one b)) t u s;
  in_goals = λ e gs. goals_inside (put b) same_type
      (put_inside b shut) e gs;
  in_clause = λ e c. clause_inside (put b) same_type (put_inside b shut) e c;
  origin = λ e. origin_filled (λ (u : ℕ). u)
      (λ u t. put b t) same_type e (put_filled_goals b shut e);
  clause_origin = λ e. clause_origin_filled (λ (u : ℕ). u) (λ u t. put b t) same_type e
      (put_filled_clauses b shut e);
}

pub type_goes : (θ : ℕ → Ty) → Goes (λ (u : ℕ). u) (λ u t. instance_term θ t) (instance θ)
type_goes θ = record {
  parts = λ e t u s. part_instance θ t u s;
  in_goals = λ e gs. goals_inside (instance_term θ) (instance θ) (types_inside θ) e gs;
  in_clause = λ e c. clause_inside (instance_term θ) (instance θ) (types_inside θ) e c;
  origin = λ e. origin_filled (λ (u : ℕ). u)
      (λ u t. instance_term θ t) (instance θ) e (λ κ σ gs h. type_filled_goals θ e κ σ gs);
  clause_origin = λ e. clause_origin_filled (λ (u : ℕ). u)
      (λ u t. instance_term θ t) (instance θ) e (λ κ σ cs h. type_filled_clauses θ e κ σ cs);
}

instantiate_goes : Goes lifted instantiate same_type
instantiate_goes = record {
  parts = λ σ t u s. part_instantiate σ t u s;
  in_goals = λ σ gs. goals_instantiate σ gs;
  in_clause = λ σ c.
      clause_instantiate σ c;
  origin = λ γ. origin_filled lifted instantiate same_type γ (λ θ σ gs h. instantiate_filled_goals γ θ σ gs);
  clause_origin = λ γ. clause_origin_filled lifted instantiate same_type γ (λ θ σ cs h. instantiate_filled_clauses γ θ σ cs);
}

raise_goes : Goes suc (λ d t. shift d 1 t) same_type
raise_goes = record {
  parts = λ d t u s. part_shift d t u s;
  in_goals = λ d gs. goals_raise d gs;
  in_clause = λ d c. clause_raise d c;
  origin = λ d.
      origin_filled suc (λ d t. shift d 1 t) same_type d (λ θ σ gs h. raise_filled_goals d θ σ gs);
  clause_origin = λ d. clause_origin_filled suc
      (λ d t. shift d 1 t) same_type d (λ θ σ cs h. raise_filled_clauses d θ σ cs);
}

pub typed_goals : (θ : ℕ → Ty) (gs : Goals) → AreWrittenGoals gs → AreWrittenGoals (type_goals θ gs)
typed_goals θ gs h = goals_mapped _ _ _ (type_goes θ) zero gs h

pub instantiated_goals : (σ : ℕ → Term) (gs : Goals) → AreWrittenGoals gs → AreWrittenGoals (instantiate_goals σ gs)
instantiated_goals σ gs h = goals_mapped _ _ _ instantiate_goes σ gs h

pub raised_goals : (gs : Goals) → AreWrittenGoals gs → AreWrittenGoals (raise_goals 0 gs)
raised_goals gs h = goals_mapped _ _ _ raise_goes 0 gs h

-- lists of them
pub goals_each : (gs : Goals) → AreWrittenGoals gs → EachOf IsWrittenGoal (goal_list gs)
goals_each no_goals h = tt
goals_each (goals g gs) h = (h.0, goals_each gs h.1)

pub clauses_each : (cs : Clauses) → AreWrittenClauses cs → EachOf IsWrittenClause (clause_list cs)
clauses_each no_clauses h = tt
clauses_each (clauses c cs) h = (h.0, clauses_each cs h.1)

pub list_entries : (gs : List Goal) (A : List Clause) (w : Written) (l m : ℕ) → EachOf IsWrittenGoal gs → IsWrittenPlace A w → EachOf IsWrittenEntry (entries gs A w l m)
list_entries [] A w l m h k = tt
list_entries (g ∷ gs) A w l m h k = (record { goal = h.0; place = k }, list_entries gs A w l m h.1 k)

-- a place where more is assumed
pub each_same : {A : Type 0} (P Q : A → Type 0) → ((x : A) → P x → Q x) → (xs : List A) → EachOf P xs → EachOf Q xs
each_same P Q f [] h = tt
each_same P Q f (x ∷ xs) h = (f x h.0, each_same P Q f xs h.1)

pub written_more : {A : List Clause} {w : Written} → IsWrittenPlace A w → (v : Written) (cs : Clauses) → EachOf (StandsInOne (clause_list cs)) v.terms → AreWrittenClauses cs → IsClauseOrigin v cs → IsWrittenPlace (clause_list cs ++ A) (both_written v w)
written_more {A} {w} p v cs s k o = record {
  origins = each_append (λ c. HasOrigin c (both_written v w)) (clause_list cs) A
      (each_same (λ c. AnyOf (λ x. x ≡ c) (clause_list cs)) (λ c. HasOrigin c (both_written v w))
      (λ c i. record {
        group = cs;
        written = v;
        origin = o;
        among = i;
        terms_before = [];
        terms_behind = w.terms;
        terms = refl;
        types_before = [];
        types_behind = w.types;
        types = refl;
      }) (clause_list cs) (each_among (clause_list cs)))
      (each_same (λ c. HasOrigin c w) (λ c. HasOrigin c (both_written v w)) (λ c h. more_behind c h) A p.origins);
  clauses = each_append IsWrittenClause (clause_list cs) A (clauses_each cs k) p.clauses;
  terms = each_append (StandsInOne (clause_list cs ++ A)) v.terms w.terms
      (each_same (StandsInOne (clause_list cs)) (StandsInOne (clause_list cs ++ A)) (λ t x. any_front (λ c. StandsIn t (formula_of_clause c)) (clause_list cs) A x) v.terms s)
      (each_same (StandsInOne A) (StandsInOne (clause_list cs ++ A)) (λ t x. any_back (λ c. StandsIn t (formula_of_clause c)) (clause_list cs) A x) w.terms p.terms);
}
  where
    more_behind : (c : Clause) → HasOrigin c w → HasOrigin c (both_written v w)
    more_behind c h = record {
      group = h.group;
      written = h.written;
      origin = h.origin;
      among = h.among;
      terms_before = v.terms ++ h.terms_before;
      terms_behind = h.terms_behind;
      terms = ap (λ z. v.terms ++ z) h.terms ∙ sym (append_assoc v.terms h.terms_before (h.written.terms ++ h.terms_behind));
      types_before = v.types ++ h.types_before;
      types_behind = h.types_behind;
      types = ap (λ z. v.types ++ z) h.types ∙ sym (append_assoc v.types h.types_before (h.written.types ++ h.types_behind));
    }
