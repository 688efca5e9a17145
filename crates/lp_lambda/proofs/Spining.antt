-- What a head on arguments is taken apart into.
use Rattle.std.proofs.Common.{◌≡◌, List, [], ◌∷◌, ◌++◌, refl, sym, ap, ◌∙◌, subst, Bool}
use Rattle.lp_calculus.specs.Term.{Term, index, atom, abs, app, apply}
use Rattle.lp_calculus.specs.Spine.{head_of, arguments_and, arguments}
use Rattle.lp_term.specs.Nodes.{Nodes}
use Rattle.lp_term.specs.Spine.{IsNoApplication}
use Rattle.lp_lambda.specs.Pattern.{inside_parts, parts_at}
use Rattle.lp_lambda.specs.declared.walk.Position.TheVariants.{Inside}
use Rattle.lp_lambda.specs.declared.walk.Binder.{Binder}
use Rattle.lp_lambda.specs.declared.walk.Walk.{Walk}
use Rattle.lp_lambda.specs.inner.Walking.{scope_of, IsTaken}

head_applied : (us : List Term) (h : Term) → head_of (apply h us) ≡ head_of h
head_applied [] h = refl
head_applied (u ∷ us) h = head_applied us (app h u)

arguments_applied : (us : List Term) (h : Term) (more : List Term) → arguments_and (apply h us) more ≡ arguments_and h (us ++ more)
arguments_applied [] h more = refl
arguments_applied (u ∷ us) h more = arguments_applied us (app h u) more

own_head : (h : Term) → IsNoApplication h → head_of h ≡ h
own_head (index i) n = refl
own_head (atom a) n = refl
own_head (abs b) n = refl
own_head (app t u) n = absurd n

no_arguments : (h : Term) (more : List Term) → IsNoApplication h → arguments_and h more ≡ more
no_arguments (index i) more n = refl
no_arguments (atom a) more n = refl
no_arguments (abs b) more n = refl
no_arguments (app t u) more n = absurd n

append_nothing : (us : List Term) → us ++ [] ≡ us
append_nothing [] = refl
append_nothing (u ∷ us) = ap (λ z. u ∷ z) (append_nothing us)

-- a term by its spine
pub by_spine : (bs : List Binder) (t h : Term) (us : List Term) → IsNoApplication h → apply h us ≡ t → inside_parts bs h us ≡ parts_at Inside bs t
by_spine bs t h us n e =
    subst (λ z. inside_parts bs h us ≡ inside_parts bs (head_of z) (arguments z)) e
    (ap (λ z. inside_parts bs z us) (sym (head_applied us h ∙ own_head h n)) ∙
    ap (inside_parts bs (head_of (apply h us))) (sym (arguments_applied us h [] ∙ no_arguments h (us ++ []) n ∙ append_nothing us)))

pub taken_by_spine : (b c : Nodes) (old new : Walk) (f : Bool) (t h : Term) (us : List Term) → IsNoApplication h → apply h us ≡ t → IsTaken b c (inside_parts (scope_of old) h us) old new f → IsTaken b c (parts_at Inside (scope_of old) t) old new f
taken_by_spine b c old new f t h us n e k = subst (λ z. IsTaken b c z old new f) (by_spine (scope_of old) t h us n e) k
