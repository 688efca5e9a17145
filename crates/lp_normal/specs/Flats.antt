-- Flattening as a relation: what the definition gives over some table of constants and at some depth.
use Rattle.std.specs.Prelude.{◌≡◌, List, [], ◌∷◌, ◌++◌, map}
use Rattle.lp_calculus.specs.Types.{Ty}
use Rattle.lp_calculus.specs.Term.{Term, shift}
use Rattle.lp_standard.specs.Connectives.{connective_of}
use Rattle.lp_standard.specs.Connectives as connective
use Rattle.lp_model.specs.Flat.{Atomic, Cut, Either, Exists, Forall, Goals, no_goals, goals, clause, Clauses, no_clauses, clauses, add_clauses, raise_goals, assuming, denied}

mutual
  -- the goals are those of the formula, with these behind them
  pub data IsFlatGoal : Term → (rest gs : Goals) → Type 0 where
    truth : {t : Term} → {rest gs : Goals} → connective_of t ≡ connective.True → gs ≡ rest → IsFlatGoal t rest gs
    cutting : {t : Term} → {rest gs : Goals} → connective_of t ≡ connective.Cut → gs ≡ goals Cut rest → IsFlatGoal t rest gs
    both : {t : Term} → {rest gs : Goals} → (a b : Term) → (between : Goals) → connective_of t ≡ connective.And a b → IsFlatGoal b rest between → IsFlatGoal a between gs → IsFlatGoal t rest gs
    one_of : {t : Term} → {rest gs : Goals} → (a b : Term) → (l r : Goals) → connective_of t ≡ connective.Or a b → IsFlatGoal a no_goals l → IsFlatGoal b no_goals r → gs ≡ goals (Either l r) rest → IsFlatGoal t rest gs
    implies : {t : Term} → {rest gs : Goals} → (c g : Term) → (cs : Clauses) → (hs : Goals) → connective_of t ≡ connective.Implies c g → IsFlatClause c [] [] cs → IsFlatGoal g no_goals hs → gs ≡ goals (assuming cs hs) rest → IsFlatGoal t rest gs
    every : {t : Term} → {rest gs : Goals} → (T : Ty) → (b : Term) → (hs : Goals) → connective_of t ≡ connective.ForAll T b → IsFlatGoal b no_goals hs → gs ≡ goals (Forall T hs) rest → IsFlatGoal t rest gs
    exist : {t : Term} → {rest gs : Goals} → (T : Ty) → (b : Term) → (hs : Goals) → connective_of t ≡ connective.Exists T b → IsFlatGoal b (raise_goals 0 rest) hs → gs ≡ goals (Exists T hs) no_goals → IsFlatGoal t rest gs
    negated : {t : Term} → {rest gs : Goals} → (g : Term) → (hs : Goals) → connective_of t ≡ connective.Not g → IsFlatGoal g no_goals hs → gs ≡ goals (denied hs) rest → IsFlatGoal t rest gs
    plain : {t : Term} → {rest gs : Goals} → connective_of t ≡ connective.Atomic → gs ≡ goals (Atomic t) rest → IsFlatGoal t rest gs

  -- those of the formulas, one behind the other
  pub data IsFlatList : List Term → (gs : Goals) → Type 0 where
    no_more : {ts : List Term} → {gs : Goals} → ts ≡ [] → gs ≡ no_goals → IsFlatList ts gs
    one_more : {ts : List Term} → {gs : Goals} → (t : Term) → (us : List Term) → (rest : Goals) → ts ≡ t ∷ us → IsFlatList us rest → IsFlatGoal t rest gs → IsFlatList ts gs

  -- the clauses are those of the formula below these variables, with these formulas before their bodies
  pub data IsFlatClause : Term → (vars : List Ty) → (body : List Term) → (cs : Clauses) → Type 0 where
    both_clauses : {t : Term} → {vars : List Ty} → {body : List Term} → {cs : Clauses} → (a b : Term) → (l r : Clauses) → connective_of t ≡ connective.And a b → IsFlatClause a vars body l → IsFlatClause b vars body r → cs ≡ add_clauses l r → IsFlatClause t vars body cs
    implied : {t : Term} → {vars : List Ty} → {body : List Term} → {cs : Clauses} → (g c : Term) → connective_of t ≡ connective.Implies g c → IsFlatClause c vars (body ++ g ∷ []) cs → IsFlatClause t vars body cs
    for_every : {t : Term} → {vars : List Ty} → {body : List Term} → {cs : Clauses} → (T : Ty) → (b : Term) → connective_of t ≡ connective.ForAll T b → IsFlatClause b (T ∷ vars) (map (shift 0 1) body) cs → IsFlatClause t vars body cs
    head : {t : Term} → {vars : List Ty} → {body : List Term} → {cs : Clauses} → (gs : Goals) → connective_of t ≡ connective.Atomic → IsFlatList body gs → cs ≡ clauses (clause 0 vars t gs) no_clauses → IsFlatClause t vars body cs
