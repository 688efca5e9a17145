-- Beta and eta, conversion, and the two reductions, each with its count of beta steps.
use Rattle.std.specs.Prelude.{ℕ, zero, suc, List, [], ◌∷◌, Option, Some, None, IsNone}
use Rattle.lp_calculus.specs.Term.{Term, index, atom, abs, app, shift, substitute}

-- one step of a rule, anywhere in a term
pub data Anywhere (R : Term → Term → Type 0) : Term → Term → Type 0 where
  here : {t s : Term} → R t s → Anywhere R t s
  in_abs : {b c : Term} → Anywhere R b c → Anywhere R (abs b) (abs c)
  in_head : {t s : Term} → (u : Term) → Anywhere R t s → Anywhere R (app t u) (app s u)
  in_argument : (t : Term) → {u v : Term} → Anywhere R u v → Anywhere R (app t u) (app t v)

pub data Beta : Term → Term → Type 0 where
  beta : (b u : Term) → Beta (app (abs b) u) (substitute u b)

-- a beta step or an eta step
pub data BetaEta : Term → Term → Type 0 where
  by_beta : (b u : Term) → BetaEta (app (abs b) u) (substitute u b)
  by_eta : (t : Term) → BetaEta (abs (app (shift 0 1 t) (index 0))) t

-- a list of steps
pub data Many (R : Term → Term → Type 0) : Term → Term → Type 0 where
  done : (t : Term) → Many R t t
  then_step : {t s r : Term} → R t s → Many R s r → Many R t r

-- a finite list of terms leads from one to the other, neighbours one step apart in either direction
pub data Between (R : Term → Term → Type 0) : Term → Term → Type 0 where
  same : (t : Term) → Between R t t
  forth : {t s r : Term} → R t s → Between R s r → Between R t r
  back : {t s r : Term} → R s t → Between R s r → Between R t r

abbrev pub BetaStep : Term → Term → Type 0
BetaStep = Anywhere Beta

abbrev pub Reduces : Term → Term → Type 0
Reduces = Many BetaStep

abbrev pub BetaConverts : Term → Term → Type 0
BetaConverts = Between BetaStep

abbrev pub Converts : Term → Term → Type 0
Converts = Between (Anywhere BetaEta)

-- the terms of two lists convert one by one
pub data ConvertAll : List Term → List Term → Type 0 where
  convert_none : ConvertAll [] []
  convert_more : {t u : Term} {ts us : List Term} → Converts t u → ConvertAll ts us → ConvertAll (t ∷ ts) (u ∷ us)

abbrev pub option_term : (Term → Term) → Option Term → Option Term
option_term f None = None
option_term f (Some t) = Some (f t)

abbrev pub or_else : Option Term → Option Term → Option Term
or_else None o = o
or_else (Some t) o = Some t

-- the step of leftmost head reduction, where the term is not head-normal
abbrev pub head_step : Term → Option Term
head_step (index i) = None
head_step (atom a) = None
head_step (abs b) = option_term abs (head_step b)
head_step (app (abs b) u) = Some (substitute u b)
head_step (app (index i) u) = None
head_step (app (atom a) u) = None
head_step (app (app t v) u) = option_term (λ s. app s u) (head_step (app t v))

abbrev pub IsHeadNormal : Term → Type 0
IsHeadNormal t = IsNone (head_step t)

-- the step of leftmost reduction, where the term is not beta-normal
abbrev pub leftmost_step : Term → Option Term
leftmost_step (index i) = None
leftmost_step (atom a) = None
leftmost_step (abs b) = option_term abs (leftmost_step b)
leftmost_step (app (abs b) u) = Some (substitute u b)
leftmost_step (app (index i) u) = option_term (app (index i)) (leftmost_step u)
leftmost_step (app (atom a) u) = option_term (app (atom a)) (leftmost_step u)
leftmost_step (app (app t v) u) =
    or_else (option_term (λ s. app s u) (leftmost_step (app t v))) (option_term (app (app t v)) (leftmost_step u))

-- where n steps lead, if there are as many
abbrev pub steps : (Term → Option Term) → ℕ → Term → Option Term
steps f zero t = Some t
steps f (suc n) t = elim (f t) [ None ↦ None | Some s ↦ steps f n s ]

abbrev pub ReducesTo : Term → Term → Type 0
ReducesTo = Many (Anywhere BetaEta)
