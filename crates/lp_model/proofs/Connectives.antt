-- Terms taken apart by their nodes, and the connectives that their heads make.
use Rattle.std.proofs.Common.{◌≡◌, ◌≢◌, ℕ, zero, suc, ◌+◌, ◌<◌, ◌≤◌, List, [], ◌∷◌, ◌++◌, Option, Some, None, Bool, true, false, length, map, refl, sym, ap, ◌∙◌, subst, arith, Bor}
use Rattle.std.specs.Prelude.{All, slice_get, slice_index_or, nat_eq, if◌then◌else◌}
use Rattle.std.proofs.lemmas.Bool.{ne_eqb}
use Rattle.std.proofs.lemmas.List.Elements.{All-head, All-tail}
use Rattle.std.proofs.lemmas.Option.{slice_get-get_or}
use Rattle.lp_calculus.specs.Types.{Ty}
use Rattle.lp_calculus.specs.Term.{Term, index, atom, abs, app, apply, constant, integer, text, eigen, logic, param}
use Rattle.lp_calculus.specs.Spine.{head_of, arguments_and}
use Rattle.lp_standard.specs.Connectives.{body_of, connective_of_constant, connective_at, connective_of}
use Rattle.lp_standard.specs.Connectives as connective
use Rattle.lp_standard.specs.Constants.{number, numbered, language, reserved}
use Rattle.lp_standard.specs.declared.constant.Constant.{Constant}
use Rattle.lp_standard.specs.declared.constant.Constant.TheVariants as fixed
use Rattle.lp_term.specs.Node.{TermBelow}
use Rattle.lp_term.specs.Nodes.{Nodes, tree, type_tree, node_tree}
use Rattle.lp_term.specs.Shapes.{term_shape}
use Rattle.lp_term.specs.Spine.{IsNoApplication}
use Rattle.lp_term.specs.declared.node.TermId.{TermId}
use Rattle.lp_term.specs.declared.node.TypeId.{TypeId}
use Rattle.lp_term.specs.declared.node.TermNode.{TermNode}
use Rattle.lp_model.proofs.Numbers.{number_back}
use Rattle.lp_model.specs.Connected.{connective_in, IsConnectiveIn}
use Rattle.lp_model.specs.inner.Connected.{alone_by, negated_by, quantified_by, joined_by, IsApplication}

-- the trees of arguments
abbrev pub on : Nodes → List TermId → List Term
on b ids = map (tree b) (map (λ t. t.0) ids)

pub nth_within : (n m i : ℕ) (ts : List TermId) → All (λ t. t < n) (map (λ t. t.0) ts) → i < length ts → n ≤ m → (slice_index_or ts i (record { 0 = 0 })).0 < m
nth_within n m i [] a l h = absurd (omega arith)
nth_within n m zero (t ∷ ts) a l h = omega (arith, All-head (λ t. t < n) t.0 (map (λ t. t.0) ts) a)
nth_within n m (suc i) (t ∷ ts) a l h = nth_within n m i ts (All-tail (λ t. t < n) t.0 (map (λ t. t.0) ts) a) (omega arith) h

applied : (h x : Term) (xs : List Term) → IsApplication (apply (app h x) xs)
applied h x [] = tt
applied h x (y ∷ ys) = applied (app h x) y ys

pub is_applied : (b : Nodes) (t h : Term) (ids : List TermId) → map (λ t. t.0) ids ≢ [] → apply h (on b ids) ≡ t → IsApplication t
is_applied b t h [] n e = absurd (n refl)
is_applied b t h (i ∷ ids) n e = subst IsApplication e (applied h (tree b i.0) (on b ids))

plain_applied : (t : Term) → IsApplication t → (us : List Term) → connective_at t us ≡ connective.Atomic
plain_applied (index i) a us = absurd a
plain_applied (atom x) a us = absurd a
plain_applied (abs b) a us = absurd a
plain_applied (app t u) a us = refl

-- where a node is no constant
pub no_constant : (b : Nodes) (n m : ℕ) (node : TermNode) (t : Term) (us : List Term) → TermBelow n m (term_shape node) → node_tree b (term_shape node) ≡ t → ((c : ℕ) (ts : Bor (List TypeId)) → node ≡ TermNode.Const c ts → ⊥) → connective_at t us ≡ connective.Atomic
no_constant b n m (TermNode.Index i) t us o e h = subst (λ z. connective_at z us ≡ connective.Atomic) e refl
no_constant b n m (TermNode.Const c ts) t us o e h = absurd (h c ts refl)
no_constant b n m (TermNode.Int z) t us o e h = subst (λ z. connective_at z us ≡ connective.Atomic) e refl
no_constant b n m (TermNode.Text s) t us o e h = subst (λ z. connective_at z us ≡ connective.Atomic) e refl
no_constant b n m (TermNode.Eigen k) t us o e h = subst (λ z. connective_at z us ≡ connective.Atomic) e refl
no_constant b n m (TermNode.Logic id level) t us o e h = subst (λ z. connective_at z us ≡ connective.Atomic) e refl
no_constant b n m (TermNode.Param k x) t us o e h = subst (λ z. connective_at z us ≡ connective.Atomic) e refl
no_constant b n m (TermNode.Abs x) t us o e h = subst (λ z. connective_at z us ≡ connective.Atomic) e refl
no_constant b n m (TermNode.App f ids) t us o e h = plain_applied t (is_applied b t (tree b f.0) ids.now o.2 e) us

-- more than two arguments

plain_constant : (c : ℕ) (ts : List Ty) (x y z : Term) (ws : List Term) → connective_of_constant c ts (x ∷ y ∷ z ∷ ws) ≡ connective.Atomic
plain_constant c [] x y z ws = refl
plain_constant c (T ∷ []) x y z ws = refl
plain_constant c (T ∷ U ∷ ts) x y z ws = refl

plain_long : (t x y z : Term) (ws : List Term) → connective_at (head_of t) (arguments_and t (x ∷ y ∷ z ∷ ws)) ≡ connective.Atomic
plain_long (index i) x y z ws = refl
plain_long (atom (constant c ts)) x y z ws = plain_constant c ts x y z ws
plain_long (atom (integer k)) x y z ws = refl
plain_long (atom (text s)) x y z ws = refl
plain_long (atom (eigen k)) x y z ws = refl
plain_long (atom (logic k l)) x y z ws = refl
plain_long (atom (param k T)) x y z ws = refl
plain_long (abs b) x y z ws = refl
plain_long (app f u) x y z ws = plain_long f u x y (z ∷ ws)

form_apply : (h : Term) (xs us : List Term) → connective_at (head_of (apply h xs)) (arguments_and (apply h xs) us) ≡ connective_at (head_of h) (arguments_and h (xs ++ us))
form_apply h [] us = refl
form_apply h (x ∷ xs) us = form_apply (app h x) xs us

head_form : (h : Term) → IsNoApplication h → (us : List Term) → connective_at (head_of h) (arguments_and h us) ≡ connective_at h us
head_form (index i) n us = refl
head_form (atom a) n us = refl
head_form (abs b) n us = refl
head_form (app f u) n us = absurd n

long_two : (h x y l : Term) (xs : List Term) → connective_at (head_of h) (arguments_and h (x ∷ y ∷ (xs ++ l ∷ []))) ≡ connective.Atomic
long_two h x y l [] = plain_long h x y l []
long_two h x y l (z ∷ zs) = plain_long h x y z (zs ++ l ∷ [])

applied_one : (h x y : Term) → IsApplication h → connective_at (head_of h) (arguments_and h (x ∷ y ∷ [])) ≡ connective.Atomic
applied_one (index i) x y a = absurd a
applied_one (atom k) x y a = absurd a
applied_one (abs b) x y a = absurd a
applied_one (app f u) x y a = plain_long f u x y []

-- a head on arguments, on one argument more
pub more_before : (b : Nodes) (t h l : Term) (ids : List TermId) → map (λ t. t.0) ids ≢ [] → apply h (on b ids) ≡ t → (length ids ≡ 1 → ⊥) → connective_of (app t l) ≡ connective.Atomic
more_before b t h l [] n e k = absurd (n refl)
more_before b t h l (i ∷ []) n e k = absurd (k refl)
more_before b t h l (i ∷ j ∷ ids) n e k =
    subst (λ z. connective_of (app z l) ≡ connective.Atomic) e (form_apply h (on b (i ∷ j ∷ ids)) (l ∷ []) ∙ long_two h (tree b i.0) (tree b j.0) l (on b ids))

pub applied_before : (b : Nodes) (t h l : Term) (ids : List TermId) → length ids ≡ 1 → apply h (on b ids) ≡ t → IsApplication h → connective_of (app t l) ≡ connective.Atomic
applied_before b t h l [] k e a = absurd (omega arith)
applied_before b t h l (i ∷ []) k e a = subst (λ z. connective_of (app z l) ≡ connective.Atomic) e (applied_one h (tree b i.0) l a)
applied_before b t h l (i ∷ j ∷ ids) k e a = absurd (omega arith)

pub two_before : (b : Nodes) (t h l : Term) (ids : List TermId) → length ids ≡ 1 → apply h (on b ids) ≡ t → IsNoApplication h → connective_of (app t l) ≡ connective_at h (tree b (slice_index_or ids 0 (record { 0 = 0 })).0 ∷ l ∷ [])
two_before b t h l [] k e a = absurd (omega arith)
two_before b t h l (i ∷ []) k e a = subst (λ z. connective_of (app z l) ≡ connective_at h (tree b i.0 ∷ l ∷ [])) e (head_form h a (tree b i.0 ∷ l ∷ []))
two_before b t h l (i ∷ j ∷ ids) k e a = absurd (omega arith)

pub one_before : (t l : Term) → IsNoApplication t → connective_of (app t l) ≡ connective_at t (l ∷ [])
one_before t l a = head_form t a (l ∷ [])

pub form_alone : (t : Term) → IsNoApplication t → connective_of t ≡ connective_at t []
form_alone t a = head_form t a []

-- a head on arguments
pub more_arguments : (b : Nodes) (t h : Term) (ids : List TermId) → map (λ t. t.0) ids ≢ [] → apply h (on b ids) ≡ t → (length ids ≡ 1 → ⊥) → (length ids ≡ 2 → ⊥) → connective_of t ≡ connective.Atomic
more_arguments b t h [] n e k m = absurd (n refl)
more_arguments b t h (i ∷ []) n e k m = absurd (k refl)
more_arguments b t h (i ∷ j ∷ []) n e k m = absurd (m refl)
more_arguments b t h (i ∷ j ∷ x ∷ ids) n e k m =
    subst (λ z. connective_of z ≡ connective.Atomic) e (form_apply h (on b (i ∷ j ∷ x ∷ ids)) [] ∙ plain_long h (tree b i.0) (tree b j.0) (tree b x.0) (on b ids ++ []))

pub applied_two : (b : Nodes) (t h : Term) (ids : List TermId) → length ids ≡ 2 → apply h (on b ids) ≡ t → IsApplication h → connective_of t ≡ connective.Atomic
applied_two b t h [] k e a = absurd (omega arith)
applied_two b t h (i ∷ []) k e a = absurd (omega arith)
applied_two b t h (i ∷ j ∷ []) k e a = subst (λ z. connective_of z ≡ connective.Atomic) e (applied_one h (tree b i.0) (tree b j.0) a)
applied_two b t h (i ∷ j ∷ x ∷ ids) k e a = absurd (omega arith)

-- where a node is no application
pub no_application : (b : Nodes) (node : TermNode) (t : Term) → node_tree b (term_shape node) ≡ t → ((f : TermId) (ids : Bor (List TermId)) → node ≡ TermNode.App f ids → ⊥) → IsNoApplication t
no_application b (TermNode.Index i) t e h = subst IsNoApplication e tt
no_application b (TermNode.Const c ts) t e h = subst IsNoApplication e tt
no_application b (TermNode.Int z) t e h = subst IsNoApplication e tt
no_application b (TermNode.Text s) t e h = subst IsNoApplication e tt
no_application b (TermNode.Eigen k) t e h = subst IsNoApplication e tt
no_application b (TermNode.Logic id level) t e h = subst IsNoApplication e tt
no_application b (TermNode.Param k x) t e h = subst IsNoApplication e tt
no_application b (TermNode.Abs x) t e h = subst IsNoApplication e tt
no_application b (TermNode.App f ids) t e h = absurd (h f ids refl)

-- what fixed constants make of their arguments

any_alone : (b : Nodes) (k : Constant) (ts : List Ty) → connective_of_constant (number k) ts [] ≡ connective_in b (alone_by k)
any_alone b fixed.True ts = refl
any_alone b fixed.Cut ts = refl
any_alone b _ ts = refl

any_negated : (b : Nodes) (k : Constant) (a : TermId) → connective_of_constant (number k) [] (tree b a.0 ∷ []) ≡ connective_in b (negated_by k a)
any_negated b fixed.Not a = refl
any_negated b _ a = refl

any_quantified : (b : Nodes) (k : Constant) (T : TypeId) (a : TermId) → connective_of_constant (number k) (type_tree b T.0 ∷ []) (tree b a.0 ∷ []) ≡ connective_in b (quantified_by k T a)
any_quantified b fixed.ForAll T a = refl
any_quantified b fixed.Exists T a = refl
any_quantified b _ T a = refl

any_joined : (b : Nodes) (k : Constant) (l r : TermId) → connective_of_constant (number k) [] (tree b l.0 ∷ tree b r.0 ∷ []) ≡ connective_in b (joined_by k l r)
any_joined b fixed.And l r = refl
any_joined b fixed.Or l r = refl
any_joined b fixed.Implies l r = refl
any_joined b fixed.If l r = refl
any_joined b _ l r = refl

-- the other constants are none of them

not_fixed : (c : ℕ) → numbered c ≡ None → (n : ℕ) → n < 26 → nat_eq c n ≡ false
not_fixed c e n l = ne_eqb c n (λ q. some c e (subst (λ z. z < 26) (sym q) l))
  where
    some : (m : ℕ) → numbered m ≡ None → m < 26 → ⊥
    some m f h = let g : Some _ ≡ None = sym (slice_get-get_or (language ++ reserved) m fixed.And h) ∙ f in absurd (cc)

if_false : {X : Type 0} (t : Bool) (x y : X) → t ≡ false → (if t then x else y) ≡ y
if_false t x y e = ap (λ z. if z then x else y) e

other_constant : (c : ℕ) → numbered c ≡ None → (ts : List Ty) (us : List Term) → connective_of_constant c ts us ≡ connective.Atomic
other_constant c e ts [] = if_false _ _ _ (not_fixed c e 6 (omega arith)) ∙ if_false _ _ _ (not_fixed c e 7 (omega arith))
other_constant c e [] (a ∷ []) = if_false _ _ _ (not_fixed c e 24 (omega arith))
other_constant c e (T ∷ []) (a ∷ []) = if_false _ _ _ (not_fixed c e 4 (omega arith)) ∙ if_false _ _ _ (not_fixed c e 5 (omega arith))
other_constant c e (T ∷ U ∷ ts) (a ∷ []) = refl
other_constant c e [] (a ∷ b ∷ []) =
    if_false _ _ _ (not_fixed c e 0 (omega arith)) ∙ if_false _ _ _ (not_fixed c e 1 (omega arith)) ∙ if_false _ _ _ (not_fixed c e 2 (omega arith)) ∙ if_false _ _ _ (not_fixed c e 3 (omega arith))
other_constant c e (T ∷ []) (a ∷ b ∷ []) = refl
other_constant c e (T ∷ U ∷ ts) (a ∷ b ∷ []) = refl
other_constant c e [] (a ∷ b ∷ x ∷ us) = refl
other_constant c e (T ∷ []) (a ∷ b ∷ x ∷ us) = refl
other_constant c e (T ∷ U ∷ ts) (a ∷ b ∷ x ∷ us) = refl

-- a head that is a constant

pub told_other : (h : Term) (c : ℕ) (ts : List Ty) (us : List Term) → atom (constant c ts) ≡ h → numbered c ≡ None → connective_at h us ≡ connective.Atomic
told_other h c ts us e n = subst (λ z. connective_at z us ≡ connective.Atomic) e (other_constant c n ts us)

pub told_alone : (b : Nodes) (h : Term) (c : ℕ) (ts : List Ty) (k : Constant) → atom (constant c ts) ≡ h → numbered c ≡ Some k → connective_at h [] ≡ connective_in b (alone_by k)
told_alone b h c ts k e n = subst (λ z. connective_at z [] ≡ connective_in b (alone_by k)) e (ap (λ m. connective_of_constant m ts []) (number_back c k n) ∙ any_alone b k ts)

abbrev types_of : Nodes → List TypeId → List Ty
types_of b ids = map (type_tree b) (map (λ t. t.0) ids)

pub told_negated : (b : Nodes) (h : Term) (c : ℕ) (ids : List TypeId) (k : Constant) (a : TermId) → atom (constant c (types_of b ids)) ≡ h → numbered c ≡ Some k → length ids < 1 → connective_at h (tree b a.0 ∷ []) ≡ connective_in b (negated_by k a)
told_negated b h c [] k a e n l = subst (λ z. connective_at z (tree b a.0 ∷ []) ≡ connective_in b (negated_by k a)) e (ap (λ m. connective_of_constant m [] (tree b a.0 ∷ [])) (number_back c k n) ∙ any_negated b k a)
told_negated b h c (t ∷ ids) k a e n l = absurd (omega (arith, l))

pub first_within : (n : ℕ) (ts : List TypeId) → All (λ t. t < n) (map (λ t. t.0) ts) → 1 ≤ length ts → (slice_index_or ts 0 (record { 0 = 0 })).0 < n
first_within n [] a e = absurd (omega (arith, e))
first_within n (t ∷ ts) a e = All-head (λ t. t < n) t.0 (map (λ t. t.0) ts) a

pub told_quantified : (b : Nodes) (h : Term) (c : ℕ) (ids : List TypeId) (k : Constant) (a : TermId) → atom (constant c (types_of b ids)) ≡ h → numbered c ≡ Some k → 1 ≤ length ids → length ids < 2 →
    connective_at h (tree b a.0 ∷ []) ≡ connective_in b (quantified_by k (slice_index_or ids 0 (record { 0 = 0 })) a)
told_quantified b h c [] k a e n l m = absurd (omega (arith, l))
told_quantified b h c (t ∷ []) k a e n l m =
    subst (λ z. connective_at z (tree b a.0 ∷ []) ≡ connective_in b (quantified_by k t a)) e (ap (λ j. connective_of_constant j (type_tree b t.0 ∷ []) (tree b a.0 ∷ [])) (number_back c k n) ∙ any_quantified b k t a)
told_quantified b h c (t ∷ u ∷ ids) k a e n l m = absurd (omega (arith, m))

pub told_many : (b : Nodes) (h : Term) (c : ℕ) (ids : List TypeId) (a : Term) → atom (constant c (types_of b ids)) ≡ h → 2 ≤ length ids → connective_at h (a ∷ []) ≡ connective.Atomic
told_many b h c [] a e l = absurd (omega (arith, l))
told_many b h c (t ∷ []) a e l = absurd (omega (arith, l))
told_many b h c (t ∷ u ∷ ids) a e l = subst (λ z. connective_at z (a ∷ []) ≡ connective.Atomic) e refl

pub told_joined : (b : Nodes) (h : Term) (c : ℕ) (ids : List TypeId) (k : Constant) (x y : TermId) → atom (constant c (types_of b ids)) ≡ h → numbered c ≡ Some k → length ids ≡ 0 →
    connective_at h (tree b x.0 ∷ tree b y.0 ∷ []) ≡ connective_in b (joined_by k x y)
told_joined b h c [] k x y e n l =
    subst (λ z. connective_at z (tree b x.0 ∷ tree b y.0 ∷ []) ≡ connective_in b (joined_by k x y)) e (ap (λ m. connective_of_constant m [] (tree b x.0 ∷ tree b y.0 ∷ [])) (number_back c k n) ∙ any_joined b k x y)
told_joined b h c (t ∷ ids) k x y e n l = absurd (omega (arith, l))

-- what a quantifier is made of stands in the bank
pub quantified_within : (b : Nodes) (k : Constant) (T : TypeId) (a : TermId) → T.0 < length b.types → a.0 < length b.terms → IsConnectiveIn b (quantified_by k T a)
quantified_within b fixed.ForAll T a t u = (t, u)
quantified_within b fixed.Exists T a t u = (t, u)
quantified_within b _ T a t u = tt
