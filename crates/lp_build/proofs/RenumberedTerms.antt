-- Kinds and constants renumbered, those of the language kept: reduction and the looks at a formula go through.
use Rattle.std.proofs.Common.{◌≡◌, ◌∙◌, ◌<◌, ◌+◌, ℕ, zero, suc, List, [], ◌∷◌, map, Bool, true, false, if◌then◌else◌, Option, None, Some, nat_eq, refl, sym, ap, arith}
use Rattle.std.specs.Prelude.{◌&&◌, ◌||◌, not, nat_lt, option_map, option_and_then}
use Rattle.lp_calculus.specs.Types.{Ty, var}
use Rattle.lp_calculus.specs.Term.{Term, index, atom, abs, app, shift, substitute, Atom, constant, integer, text, eigen, logic, param}
use Rattle.lp_calculus.specs.Convert.{leftmost_step, option_term, or_else}
use Rattle.lp_calculus.specs.Fill.{fill}
use Rattle.lp_calculus.specs.Spine.{head_of, arguments, arguments_and}
use Rattle.lp_calculus.proofs.Fills.{fill-substitute}
use Rattle.lp_calculus.proofs.Eta.{app_same}
use Rattle.lp_standard.specs.Numbers as number
use Rattle.lp_standard.specs.Connectives.{Connective, body_of, connective_of, connective_of_constant}
use Rattle.lp_standard.specs.Connectives as connective
use Rattle.lp_standard.specs.Positive.{is_positive, are_positive}
use Rattle.lp_term.specs.Mapped.{Map, mapped, mapped_type}
use Rattle.lp_model.specs.Eigens.{beta_normal}
use Rattle.lp_model.specs.Flatten.{is_goal_head}

-- options
pub bind_to : {A B C D : Type 0} (f : A → B) (g : C → D) (o : Option A) (p : Option B) (h : A → Option C) (k : B → Option D) → p ≡ option_map f o
    → ((x : A) → k (f x) ≡ option_map g (h x)) → option_and_then k p ≡ option_map g (option_and_then h o)
bind_to f g None p h k e s = ap (option_and_then k) e
bind_to f g (Some x) p h k e s = ap (option_and_then k) e ∙ s x

pub map_to : {A B C D : Type 0} (f : A → B) (g : C → D) (o : Option A) (p : Option B) (h : A → C) (k : B → D) → p ≡ option_map f o
    → ((x : A) → k (f x) ≡ g (h x)) → option_map k p ≡ option_map g (option_map h o)
map_to f g None p h k e s = ap (option_map k) e
map_to f g (Some x) p h k e s = ap (option_map k) e ∙ ap (λ z. Some z) (s x)

term_to : (f g h k : Term → Term) (o p : Option Term) → p ≡ option_term f o → ((t : Term) → g (f t) ≡ h (k t)) → option_term g p ≡ option_term h (option_term k o)
term_to f g h k None p e q = ap (option_term g) e
term_to f g h k (Some t) p e q = ap (option_term g) e ∙ ap (λ z. Some z) (q t)

or_to : (f : Term → Term) (o p o' p' : Option Term) → o' ≡ option_term f o → p' ≡ option_term f p → or_else o' p' ≡ option_term f (or_else o p)
or_to f None p o' p' e q = ap (λ z. or_else z p') e ∙ q
or_to f (Some t) p o' p' e q = ap (λ z. or_else z p') e

if_to : {A B : Type 0} (f : A → B) (b : Bool) (x y : A) → (if b then f x else f y) ≡ f (if b then x else y)
if_to f true x y = refl
if_to f false x y = refl

-- kinds and constants have other numbers, and the variables of a record, of which clauses have none, go with it
abbrev pub moving : (kinds constants : ℕ → ℕ) → (first : ℕ) → Map
moving κ γ n = record { kinds = κ; constants = γ; types = var; terms = λ x k. atom (logic x (k + n)) }

-- atoms with other numbers
abbrev pub atom_to : (κ γ : ℕ → ℕ) → (n : ℕ) → Atom → Atom
atom_to κ γ n (constant c ts) = constant (γ c) (map (mapped_type (moving κ γ n)) ts)
atom_to κ γ n (integer z) = integer z
atom_to κ γ n (text s) = text s
atom_to κ γ n (eigen k) = eigen k
atom_to κ γ n (logic x l) = logic x (l + n)
atom_to κ γ n (param k T) = param k (mapped_type (moving κ γ n) T)

-- the constants of the language keep their numbers, and no other gets one of them
abbrev pub KeepsLanguage : (ℕ → ℕ) → Type 0
KeepsLanguage γ = (c n : ℕ) → n < 32 → nat_eq (γ c) n ≡ nat_eq c n

module _ (κ γ : ℕ → ℕ) (n : ℕ) where
  abbrev pub to : Term → Term
  to t = mapped (moving κ γ n) t

  abbrev pub ty : Ty → Ty
  ty T = mapped_type (moving κ γ n) T

  at_atom : (a : Atom) → to (atom a) ≡ atom (atom_to κ γ n a)
  at_atom (constant c ts) = refl
  at_atom (integer z) = refl
  at_atom (text s) = refl
  at_atom (eigen k) = refl
  at_atom (logic x l) = refl
  at_atom (param k T) = refl

  as_fill : (t : Term) → to t ≡ fill (λ a. atom (atom_to κ γ n a)) t
  as_fill (index i) = refl
  as_fill (atom a) = at_atom a
  as_fill (abs b) = ap abs (as_fill b)
  as_fill (app t u) = app_same (as_fill t) (as_fill u)

  pub to_substitute : (u b : Term) → to (substitute u b) ≡ substitute (to u) (to b)
  to_substitute u b = as_fill (substitute u b) ∙ fill-substitute (λ a. atom (atom_to κ γ n a)) u b ∙ (λ i. substitute (sym (as_fill u) i) (sym (as_fill b) i))

  pub to_shift : (from by : ℕ) (t : Term) → to (shift from by t) ≡ shift from by (to t)
  to_shift from by (index i) = sym (if_to to (nat_lt i from) (index i) (index (i + by)))
  to_shift from by (atom a) = at_atom a ∙ ap (shift from by) (sym (at_atom a))
  to_shift from by (abs b) = ap abs (to_shift (suc from) by b)
  to_shift from by (app t u) = app_same (to_shift from by t) (to_shift from by u)

  -- an application, whose head is an atom
  leftmost_at : (a : Atom) (u : Term) → leftmost_step (app (to (atom a)) u) ≡ option_term (app (to (atom a))) (leftmost_step u)
  leftmost_at (constant c ts) u = refl
  leftmost_at (integer z) u = refl
  leftmost_at (text s) u = refl
  leftmost_at (eigen k) u = refl
  leftmost_at (logic x l) u = refl
  leftmost_at (param k T) u = refl

  leftmost_none : (a : Atom) → leftmost_step (to (atom a)) ≡ None
  leftmost_none (constant c ts) = refl
  leftmost_none (integer z) = refl
  leftmost_none (text s) = refl
  leftmost_none (eigen k) = refl
  leftmost_none (logic x l) = refl
  leftmost_none (param k T) = refl

  pub to_leftmost : (t : Term) → leftmost_step (to t) ≡ option_term to (leftmost_step t)
  to_leftmost (index i) = refl
  to_leftmost (atom a) = leftmost_none a
  to_leftmost (abs b) = term_to to abs to abs (leftmost_step b) (leftmost_step (to b)) (to_leftmost b) (λ t. refl)
  to_leftmost (app (abs b) u) = ap (λ z. Some z) (sym (to_substitute u b))
  to_leftmost (app (index i) u) = term_to to (app (index i)) to (app (index i)) (leftmost_step u) (leftmost_step (to u)) (to_leftmost u) (λ s. refl)
  to_leftmost (app (atom a) u) = leftmost_at a (to u) ∙ term_to to (app (to (atom a))) to (app (atom a)) (leftmost_step u) (leftmost_step (to u)) (to_leftmost u) (λ s. refl)
  to_leftmost (app (app t v) u) =
      or_to to (option_term (λ s. app s u) (leftmost_step (app t v))) (option_term (app (app t v)) (leftmost_step u))
      (option_term (λ s. app s (to u)) (leftmost_step (to (app t v)))) (option_term (app (to (app t v))) (leftmost_step (to u)))
      (term_to to (λ s. app s (to u)) to (λ s. app s u) (leftmost_step (app t v)) (leftmost_step (to (app t v))) (to_leftmost (app t v)) (λ s. refl))
      (term_to to (app (to (app t v))) to (app (app t v)) (leftmost_step u) (leftmost_step (to u)) (to_leftmost u) (λ s. refl))

  next_to : (f : Term → Option Term) (t : Term) → ((s : Term) → f (to s) ≡ option_map to (f s)) → (o o' : Option Term) → o' ≡ option_term to o
      → (elim o' [ None ↦ Some (to t) | Some s ↦ f s ]) ≡ option_map to (elim o [ None ↦ Some t | Some s ↦ f s ])
  next_to f t h None o' e = ap (λ (z : Option Term). elim z as (λ y. Option Term) [ None ↦ Some (to t) | Some s ↦ f s ]) e
  next_to f t h (Some s) o' e = ap (λ (z : Option Term). elim z as (λ y. Option Term) [ None ↦ Some (to t) | Some r ↦ f r ]) e ∙ h s

  pub to_normal : (k : ℕ) (t : Term) → beta_normal k (to t) ≡ option_map to (beta_normal k t)
  to_normal zero t = refl
  to_normal (suc k) t = next_to (beta_normal k) t (to_normal k) (leftmost_step t) (leftmost_step (to t)) (to_leftmost t)

  -- the head and the arguments
  head_at : (a : Atom) → head_of (to (atom a)) ≡ to (atom a)
  head_at (constant c ts) = refl
  head_at (integer z) = refl
  head_at (text s) = refl
  head_at (eigen k) = refl
  head_at (logic x l) = refl
  head_at (param k T) = refl

  pub to_head : (t : Term) → head_of (to t) ≡ to (head_of t)
  to_head (index i) = refl
  to_head (atom a) = head_at a
  to_head (abs b) = refl
  to_head (app t u) = to_head t

  arguments_at : (a : Atom) (us : List Term) → arguments_and (to (atom a)) us ≡ us
  arguments_at (constant c ts) us = refl
  arguments_at (integer z) us = refl
  arguments_at (text s) us = refl
  arguments_at (eigen k) us = refl
  arguments_at (logic x l) us = refl
  arguments_at (param k T) us = refl

  to_arguments_and : (t : Term) (us : List Term) → arguments_and (to t) (map to us) ≡ map to (arguments_and t us)
  to_arguments_and (index i) us = refl
  to_arguments_and (atom a) us = arguments_at a (map to us)
  to_arguments_and (abs b) us = refl
  to_arguments_and (app t u) us = to_arguments_and t (u ∷ us)

  pub to_arguments : (t : Term) → arguments (to t) ≡ map to (arguments t)
  to_arguments t = to_arguments_and t []

  pub to_goal_head : (t : Term) → is_goal_head (to t) ≡ is_goal_head t
  to_goal_head (index i) = refl
  to_goal_head (atom (constant c ts)) = refl
  to_goal_head (atom (integer z)) = refl
  to_goal_head (atom (text s)) = refl
  to_goal_head (atom (eigen k)) = refl
  to_goal_head (atom (logic x l)) = refl
  to_goal_head (atom (param k T)) = refl
  to_goal_head (abs b) = refl
  to_goal_head (app t u) = refl

  -- the body of a quantifier
  pub to_body : (t : Term) → body_of (to t) ≡ to (body_of t)
  to_body (index i) = app_same (sym (to_shift 0 1 (index i))) refl
  to_body (atom a) = at a
    where
      at : (a : Atom) → body_of (to (atom a)) ≡ to (body_of (atom a))
      at (constant c ts) = refl
      at (integer z) = refl
      at (text s) = refl
      at (eigen k) = refl
      at (logic x l) = refl
      at (param k T) = refl
  to_body (abs b) = refl
  to_body (app t u) = app_same (sym (to_shift 0 1 (app t u))) refl

  abbrev pub connective_to : Connective → Connective
  connective_to connective.True = connective.True
  connective_to connective.Cut = connective.Cut
  connective_to (connective.And a b) = connective.And (to a) (to b)
  connective_to (connective.Or a b) = connective.Or (to a) (to b)
  connective_to (connective.Implies a b) = connective.Implies (to a) (to b)
  connective_to (connective.ForAll T b) = connective.ForAll (ty T) (to b)
  connective_to (connective.Exists T b) = connective.Exists (ty T) (to b)
  connective_to (connective.Not a) = connective.Not (to a)
  connective_to connective.Atomic = connective.Atomic

  module _ (keeps : KeepsLanguage γ) where
    constant_to : (c : ℕ) (ts : List Ty) (us : List Term) → connective_of_constant (γ c) (map ty ts) (map to us) ≡ connective_to (connective_of_constant c ts us)
    constant_to c ts [] =
        (λ i. if keeps c number.True (omega arith) i then connective.True else (if keeps c number.Cut (omega arith) i then connective.Cut else connective.Atomic))
        ∙ ap (λ z. if nat_eq c number.True then connective.True else z) (if_to connective_to (nat_eq c number.Cut) connective.Cut connective.Atomic)
        ∙ if_to connective_to (nat_eq c number.True) connective.True (if nat_eq c number.Cut then connective.Cut else connective.Atomic)
    constant_to c (T ∷ []) (a ∷ []) =
        (λ i. if keeps c number.ForAll (omega arith) i then connective.ForAll (ty T) (to_body a i) else
        (if keeps c number.Exists (omega arith) i then connective.Exists (ty T) (to_body a i) else connective.Atomic))
        ∙ ap (λ z. if nat_eq c number.ForAll then connective.ForAll (ty T) (to (body_of a)) else z) (if_to connective_to (nat_eq c number.Exists) (connective.Exists T (body_of a)) connective.Atomic)
        ∙ if_to connective_to (nat_eq c number.ForAll) (connective.ForAll T (body_of a)) (if nat_eq c number.Exists then connective.Exists T (body_of a) else connective.Atomic)
    constant_to c [] (a ∷ []) =
        (λ i. if keeps c number.Not (omega arith) i then connective.Not (to a) else connective.Atomic) ∙ if_to connective_to (nat_eq c number.Not) (connective.Not a) connective.Atomic
    constant_to c [] (a ∷ b ∷ []) =
        (λ i. if keeps c number.And (omega arith) i then connective.And (to a) (to b)
        else (if keeps c number.Or (omega arith) i then connective.Or (to a) (to b)
        else (if keeps c number.Implies (omega arith) i then connective.Implies (to a) (to b) else
        (if keeps c number.If (omega arith) i then connective.Implies (to b) (to a) else connective.Atomic))))
        ∙ ap (λ z. if nat_eq c number.And then connective.And (to a) (to b) else (if nat_eq c number.Or then connective.Or (to a) (to b) else
        (if nat_eq c number.Implies then connective.Implies (to a) (to b) else z)))
        (if_to connective_to (nat_eq c number.If) (connective.Implies b a) connective.Atomic)
        ∙ ap (λ z. if nat_eq c number.And then connective.And (to a) (to b) else (if nat_eq c number.Or then connective.Or (to a) (to b) else z))
        (if_to connective_to (nat_eq c number.Implies) (connective.Implies a b) (if nat_eq c number.If then connective.Implies b a else connective.Atomic))
        ∙ ap (λ z. if nat_eq c number.And then connective.And (to a) (to b) else z)
        (if_to connective_to (nat_eq c number.Or) (connective.Or a b) (if nat_eq c number.Implies then connective.Implies a b else
        (if nat_eq c number.If then connective.Implies b a else connective.Atomic)))
        ∙ if_to connective_to (nat_eq c number.And) (connective.And a b)
        (if nat_eq c number.Or then connective.Or a b else (if nat_eq c number.Implies then connective.Implies a b else (if nat_eq c number.If then connective.Implies b a else connective.Atomic)))
    constant_to c [] (a ∷ b ∷ d ∷ us) = refl
    constant_to c (T ∷ []) (a ∷ b ∷ us) = refl
    constant_to c (T ∷ U ∷ ts) (a ∷ us) = refl

    connective_at_to : (h : Term) (us : List Term) → connective.connective_at (to h) (map to us) ≡ connective_to (connective.connective_at h us)
    connective_at_to (index i) us = refl
    connective_at_to (atom (constant c ts)) us = constant_to c ts us
    connective_at_to (atom (integer z)) us = refl
    connective_at_to (atom (text s)) us = refl
    connective_at_to (atom (eigen k)) us = refl
    connective_at_to (atom (logic x l)) us = refl
    connective_at_to (atom (param k T)) us = refl
    connective_at_to (abs b) us = refl
    connective_at_to (app t u) us = refl

    pub to_connective : (t : Term) → connective_of (to t) ≡ connective_to (connective_of t)
    to_connective t = (λ i. connective.connective_at (to_head t i) (to_arguments t i)) ∙ connective_at_to (head_of t) (arguments t)

    pub to_positive : (t : Term) → is_positive (to t) ≡ is_positive t
    to_positive (index i) = refl
    to_positive (atom (constant c ts)) =
        λ i. not (keeps c number.Implies (omega arith) i || keeps c number.If (omega arith) i || keeps c number.Cut (omega arith) i || keeps c number.Not (omega arith) i)
    to_positive (atom (integer z)) = refl
    to_positive (atom (text s)) = refl
    to_positive (atom (eigen k)) = refl
    to_positive (atom (logic x l)) = refl
    to_positive (atom (param k T)) = refl
    to_positive (abs b) = to_positive b
    to_positive (app t u) = λ i. to_positive t i && to_positive u i

    pub to_all_positive : (ts : List Term) → are_positive (map to ts) ≡ are_positive ts
    to_all_positive [] = refl
    to_all_positive (t ∷ ts) = λ i. to_positive t i && to_all_positive ts i
