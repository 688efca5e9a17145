-- Terms and types that are put into flattened goals: what changes no term changes no goal, and terms put after terms are put at once.
use Rattle.std.proofs.Common.{◌≡◌, ℕ, zero, suc, List, [], ◌∷◌, map, refl, sym, ap, ◌∙◌}
use mathlib.Core.Path.{fun_ext}
use Rattle.lp_calculus.specs.Types.{Ty, var, instance}
use Rattle.lp_calculus.specs.Term.{Term, index, atom, abs, app, shift}
use Rattle.lp_calculus.specs.Instance.{instance_term}
use Rattle.lp_calculus.proofs.Sigma.{subst, up, subst-rename, subst-index}
use Rattle.lp_calculus.proofs.BetaEta.{shift_one}
use Rattle.lp_calculus.proofs.Fills.{up_suc}
use Rattle.lp_model.specs.Index.{lifted, instantiate}
use Rattle.lp_model.specs.Flat.{Written, Goal, Atomic, Cut, Either, Exists, Forall, Assume, Not, Goals, no_goals, goals, Clause, clause, Clauses, no_clauses, clauses, goal_list, under_all, map_written, same_type, map_goal, map_goals, map_clause, map_clauses, instantiate_goals, type_goals}
use Rattle.lp_model.specs.Search.{opened}
use Rattle.lp_plain.specs.declared.types.Renewal.{Renewal}
use Rattle.lp_plain.specs.Entries.{in_scope}
use Rattle.lp_plain.specs.Opening.{cons}
use Rattle.lp_plain.specs.Renewal.{renewing}
use Rattle.lp_plain.proofs.Instances.{term_same}
use Rattle.lp_plain.proofs.RenewedTypes.{instance_same}

pub goals_same : {g h : Goal} {gs hs : Goals} → g ≡ h → gs ≡ hs → goals g gs ≡ goals h hs
goals_same p q = cc

pub clauses_same : {c d : Clause} {cs ds : Clauses} → c ≡ d → cs ≡ ds → clauses c cs ≡ clauses d ds
clauses_same p q = cc

pub either_same : {gs hs ks ls : Goals} → gs ≡ hs → ks ≡ ls → Either gs ks ≡ Either hs ls
either_same p q = cc

pub assume_same : {v w : Written} {cs ds : Clauses} {gs hs : Goals} → v ≡ w → cs ≡ ds → gs ≡ hs → Assume v cs gs ≡ Assume w ds hs
assume_same o p q = cc

pub not_same : {v w : Written} {gs hs : Goals} → v ≡ w → gs ≡ hs → Not v gs ≡ Not w hs
not_same o p = cc

pub clause_same : {vs ws : List Ty} {h i : Term} {gs hs : Goals} (n : ℕ) → vs ≡ ws → h ≡ i → gs ≡ hs → clause n vs h gs ≡ clause n ws i hs
clause_same n o p q = cc

-- a change that changes nothing
module _ {E : Type 0} (under : E → E) (term : E → Term → Term) (ty : Ty → Ty) (same : (e : E) (t : Term) → term e t ≡ t) (same_ty : (T : Ty) → ty T ≡ T) where
  terms_stay : (e : E) (ts : List Term) → map (term e) ts ≡ ts
  terms_stay e [] = refl
  terms_stay e (t ∷ ts) = let p = same e t in let q = terms_stay e ts in λ i. p i ∷ q i

  types_stay : (Ts : List Ty) → map ty Ts ≡ Ts
  types_stay [] = refl
  types_stay (T ∷ Ts) = let p = same_ty T in let q = types_stay Ts in λ i. p i ∷ q i

  pub written_stays : (e : E) (w : Written) → map_written (term e) ty w ≡ w
  written_stays e w = let p = terms_stay e w.terms in let q = types_stay w.types in λ i. record { terms = p i; types = q i }

  mutual
    pub goal_stays : (e : E) (g : Goal) → map_goal under term ty e g ≡ g
    goal_stays e (Atomic t) = ap Atomic (same e t)
    goal_stays e Cut = refl
    goal_stays e (Either gs hs) = either_same (goals_stay e gs) (goals_stay e hs)
    goal_stays e (Exists T gs) = let p = same_ty T in let q = goals_stay (under e) gs in λ i. Exists (p i) (q i)
    goal_stays e (Forall T gs) = let p = same_ty T in let q = goals_stay (under e) gs in λ i. Forall (p i) (q i)
    goal_stays e (Assume w cs gs) = assume_same (written_stays e w) (clauses_stay e cs) (goals_stay e gs)
    goal_stays e (Not w gs) = not_same (written_stays e w) (goals_stay e gs)

    pub goals_stay : (e : E) (gs : Goals) → map_goals under term ty e gs ≡ gs
    goals_stay e no_goals = refl
    goals_stay e (goals g gs) = goals_same (goal_stays e g) (goals_stay e gs)

    pub clause_stays : (e : E) (c : Clause) → map_clause under term ty e c ≡ c
    clause_stays e (clause n vs h b) = clause_same n (types_stay vs) (same (under_all under vs e) h) (goals_stay (under_all under vs e) b)

    clauses_stay : (e : E) (cs : Clauses) → map_clauses under term ty e cs ≡ cs
    clauses_stay e no_clauses = refl
    clauses_stay e (clauses c cs) = clauses_same (clause_stays e c) (clauses_stay e cs)

-- type variables that stay
pub goals_typed : (θ : ℕ → Ty) → ((i : ℕ) → θ i ≡ var i) → (gs : Goals) → type_goals θ gs ≡ gs
goals_typed θ h gs = goals_stay (λ u. u) (λ u t. instance_term θ t) (instance θ) (λ e t. term_same θ h t) (instance_same θ h) zero gs

-- instances as substitutions

lifted_up : (σ : ℕ → Term) (i : ℕ) → lifted σ i ≡ up σ i
lifted_up σ zero = refl
lifted_up σ (suc i) = shift_one (σ i)

instantiate_subst : (σ : ℕ → Term) (t : Term) → instantiate σ t ≡ subst σ t
instantiate_subst σ (index i) = refl
instantiate_subst σ (atom a) = refl
instantiate_subst σ (abs b) = ap abs (instantiate_subst (lifted σ) b ∙ ap (λ τ. subst τ b) (fun_ext (lifted_up σ)))
instantiate_subst σ (app t u) = let e = instantiate_subst σ t in let f = instantiate_subst σ u in cc

pub lifted_past : (σ : ℕ → Term) (t : Term) → instantiate (lifted σ) (shift 0 1 t) ≡ shift 0 1 (instantiate σ t)
lifted_past σ t =
    instantiate_subst (lifted σ) (shift 0 1 t) ∙ ap (λ f. subst f (shift 0 1 t)) (fun_ext (lifted_up σ)) ∙ ap (subst (up σ)) (shift_one t) ∙ sym (up_suc σ t) ∙ sym (shift_one (subst σ t)) ∙ ap (shift 0 1) (sym (instantiate_subst σ t))

-- one more value
past_shift : (u : Term) (σ : ℕ → Term) (t : Term) → instantiate (cons u σ) (shift 0 1 t) ≡ instantiate σ t
past_shift u σ t = instantiate_subst (cons u σ) (shift 0 1 t) ∙ ap (subst (cons u σ)) (shift_one t) ∙ subst-rename suc (cons u σ) t ∙ sym (instantiate_subst σ t)

instantiate_index : (t : Term) → instantiate index t ≡ t
instantiate_index t = instantiate_subst index t ∙ subst-index t

-- values in which values are put give these
abbrev Gives : (σ τ ρ : ℕ → Term) → Type 0
Gives σ τ ρ = (i : ℕ) → instantiate τ (σ i) ≡ ρ i

lifted_gives : (σ τ ρ : ℕ → Term) → Gives σ τ ρ → Gives (lifted σ) (lifted τ) (lifted ρ)
lifted_gives σ τ ρ h zero = refl
lifted_gives σ τ ρ h (suc i) = lifted_past τ (σ i) ∙ ap (shift 0 1) (h i)

term_fused : (σ τ ρ : ℕ → Term) → Gives σ τ ρ → (t : Term) → instantiate τ (instantiate σ t) ≡ instantiate ρ t
term_fused σ τ ρ h (index i) = h i
term_fused σ τ ρ h (atom a) = refl
term_fused σ τ ρ h (abs b) = ap abs (term_fused (lifted σ) (lifted τ) (lifted ρ) (lifted_gives σ τ ρ h) b)
term_fused σ τ ρ h (app t u) = let e = term_fused σ τ ρ h t in let f = term_fused σ τ ρ h u in cc

terms_fused : (σ τ ρ : ℕ → Term) → Gives σ τ ρ → (ts : List Term) → map (instantiate τ) (map (instantiate σ) ts) ≡ map (instantiate ρ) ts
terms_fused σ τ ρ h [] = refl
terms_fused σ τ ρ h (t ∷ ts) = let e = term_fused σ τ ρ h t in let f = terms_fused σ τ ρ h ts in λ i. e i ∷ f i

types_fused : (Ts : List Ty) → map same_type (map same_type Ts) ≡ map same_type Ts
types_fused [] = refl
types_fused (T ∷ Ts) = ap (λ l. T ∷ l) (types_fused Ts)

written_fused : (σ τ ρ : ℕ → Term) → Gives σ τ ρ → (w : Written) → map_written (instantiate τ) same_type (map_written (instantiate σ) same_type w) ≡ map_written (instantiate ρ) same_type w
written_fused σ τ ρ h w = let p = terms_fused σ τ ρ h w.terms in let q = types_fused w.types in λ i. record { terms = p i; types = q i }

below : (vs : List Ty) (σ τ ρ : ℕ → Term) → Gives σ τ ρ → Gives (under_all lifted vs σ) (under_all lifted (map same_type vs) τ) (under_all lifted vs ρ)
below [] σ τ ρ h = h
below (v ∷ vs) σ τ ρ h = lifted_gives (under_all lifted vs σ) (under_all lifted (map same_type vs) τ) (under_all lifted vs ρ) (below vs σ τ ρ h)

mutual
  goal_fused : (σ τ ρ : ℕ → Term) → Gives σ τ ρ → (g : Goal) → map_goal lifted instantiate same_type τ (map_goal lifted instantiate same_type σ g) ≡ map_goal lifted instantiate same_type ρ g
  goal_fused σ τ ρ h (Atomic t) = ap Atomic (term_fused σ τ ρ h t)
  goal_fused σ τ ρ h Cut = refl
  goal_fused σ τ ρ h (Either gs hs) = either_same (goals_fused σ τ ρ h gs) (goals_fused σ τ ρ h hs)
  goal_fused σ τ ρ h (Exists T gs) = ap (Exists T) (goals_fused (lifted σ) (lifted τ) (lifted ρ) (lifted_gives σ τ ρ h) gs)
  goal_fused σ τ ρ h (Forall T gs) = ap (Forall T) (goals_fused (lifted σ) (lifted τ) (lifted ρ) (lifted_gives σ τ ρ h) gs)
  goal_fused σ τ ρ h (Assume w cs gs) = assume_same (written_fused σ τ ρ h w) (clauses_fused σ τ ρ h cs) (goals_fused σ τ ρ h gs)
  goal_fused σ τ ρ h (Not w gs) = not_same (written_fused σ τ ρ h w) (goals_fused σ τ ρ h gs)

  pub goals_fused : (σ τ ρ : ℕ → Term) → Gives σ τ ρ → (gs : Goals) → instantiate_goals τ (instantiate_goals σ gs) ≡ instantiate_goals ρ gs
  goals_fused σ τ ρ h no_goals = refl
  goals_fused σ τ ρ h (goals g gs) = goals_same (goal_fused σ τ ρ h g) (goals_fused σ τ ρ h gs)

  clause_fused : (σ τ ρ : ℕ → Term) → Gives σ τ ρ → (c : Clause) → map_clause lifted instantiate same_type τ (map_clause lifted instantiate same_type σ c) ≡ map_clause lifted instantiate same_type ρ c
  clause_fused σ τ ρ h (clause n vs t b) =
      let r = below vs σ τ ρ h in
      clause_same n (types_fused vs) (term_fused (under_all lifted vs σ) (under_all lifted (map same_type vs) τ) (under_all lifted vs ρ) r t) (goals_fused (under_all lifted vs σ) (under_all lifted (map same_type vs) τ) (under_all lifted vs ρ) r b)

  clauses_fused : (σ τ ρ : ℕ → Term) → Gives σ τ ρ → (cs : Clauses) → map_clauses lifted instantiate same_type τ (map_clauses lifted instantiate same_type σ cs) ≡ map_clauses lifted instantiate same_type ρ cs
  clauses_fused σ τ ρ h no_clauses = refl
  clauses_fused σ τ ρ h (clauses c cs) = clauses_same (clause_fused σ τ ρ h c) (clauses_fused σ τ ρ h cs)

-- goals that are opened with a term have it as one more value
pub opened_more : (u : Term) (σ : ℕ → Term) (r : Renewal) (gs : Goals) → opened u (in_scope (lifted σ) r gs) ≡ goal_list (in_scope (cons u σ) r gs)
opened_more u σ r gs = ap goal_list (goals_fused (lifted σ) _ (cons u σ) given (type_goals (renewing r) gs))
  where
    given : (i : ℕ) → instantiate (cons u index) (lifted σ i) ≡ cons u σ i
    given zero = refl
    given (suc i) = past_shift u index (σ i) ∙ instantiate_index (σ i)
