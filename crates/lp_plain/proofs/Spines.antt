-- A term that is a head on arguments has that head and those arguments.
use Rattle.std.proofs.Common.{◌≡◌, ◌≢◌, ℕ, List, [], ◌∷◌, ◌++◌, map, refl, sym, ap, ◌∙◌, append-nil}
use Rattle.lp_calculus.specs.Term.{Term, index, atom, abs, app, apply}
use Rattle.lp_calculus.specs.Spine.{head_of, arguments_and, arguments}
use Rattle.lp_term.specs.Nodes.{Nodes, tree}
use Rattle.lp_term.specs.Spine.{IsNoApplication, head}

pub head_applied : (ts : List Term) (f : Term) → head_of (apply f ts) ≡ head_of f
head_applied [] f = refl
head_applied (t ∷ ts) f = head_applied ts (app f t)

pub arguments_applied : (ts : List Term) (f : Term) (more : List Term) → arguments_and (apply f ts) more ≡ arguments_and f (ts ++ more)
arguments_applied [] f more = refl
arguments_applied (t ∷ ts) f more = arguments_applied ts (app f t) more

own_head : (h : Term) → IsNoApplication h → head_of h ≡ h
own_head (index i) n = refl
own_head (atom a) n = refl
own_head (abs b) n = refl
own_head (app f a) n = absurd n

no_arguments : (h : Term) (more : List Term) → IsNoApplication h → arguments_and h more ≡ more
no_arguments (index i) more n = refl
no_arguments (atom a) more n = refl
no_arguments (abs b) more n = refl
no_arguments (app f a) more n = absurd n

pub spine_head : (h t : Term) (us : List Term) → IsNoApplication h → apply h us ≡ t → h ≡ head_of t
spine_head h t us n e = sym (own_head h n) ∙ sym (head_applied us h) ∙ ap head_of e

pub spine_arguments : (h t : Term) (us : List Term) → IsNoApplication h → apply h us ≡ t → us ≡ arguments t
spine_arguments h t us n e = sym (append-nil us) ∙ sym (no_arguments h (us ++ []) n) ∙ sym (arguments_applied us h []) ∙ ap arguments e

-- a head is no application

pub head_alone : (t : Term) → IsNoApplication (head t)
head_alone (index i) = tt
head_alone (atom a) = tt
head_alone (abs b) = tt
head_alone (app t u) = head_alone t

applied : (t u : Term) (ts : List Term) → IsNoApplication (apply (app t u) ts) → ⊥
applied t u [] n = n
applied t u (a ∷ ts) n = applied (app t u) a ts n

pub applied_ids : (b : Nodes) (f : Term) (ids : List ℕ) → ids ≢ [] → IsNoApplication (apply f (map (tree b) ids)) → ⊥
applied_ids b f [] e n = e refl
applied_ids b f (i ∷ ids) e n = applied f (tree b i) (map (tree b) ids) n
