-- What eta makes of an abstraction over an application.
use Rattle.std.proofs.Common.{◌≡◌, ℕ, zero, suc, ◌<◌, ◌≢◌, List, [], ◌∷◌, ◌++◌, length, map, refl, sym, ap, ◌∙◌, subst as transport, arith, Bool, true, false, if◌then◌else◌, inr, Option, Some, None}
use Rattle.std.specs.Prelude.{All, IfSome}
use Rattle.std.proofs.lemmas.List.Elements.{All-nil, All-head, All-tail, All-cons}
use Rattle.lp_calculus.specs.Term.{Term, index, atom, abs, app, apply, substitute}
use Rattle.lp_calculus.specs.Normal.{contracted, eta_normal, is_absent, nodes, IsFormOf}
use Rattle.lp_term.specs.Node.{TermBelow}
use Rattle.lp_term.specs.Nodes.{Nodes, tree, node_tree}
use Rattle.lp_term.specs.Walk.{Everywhere}
use Rattle.lp_term.specs.Raise.{FitsPut}
use Rattle.lp_term.specs.Frame.{in_order, IsBetaForm}
use Rattle.lp_term.specs.Opened.{IsDeepForm}
use Rattle.lp_term.specs.Shapes.{term_shape}
use Rattle.lp_term.specs.declared.node.TermId.{TermId}
use Rattle.lp_term.specs.declared.node.TermNode.{TermNode}
use Rattle.lp_term.specs.declared.node.TermNode.TheVariants.{Index, Const, Int, Text, Eigen, Logic, Param, Abs, App}
use Rattle.lp_term.specs.declared.reduce.TermRefusal.TheVariants.{Deep}
use Rattle.lp_term.proofs.Knowing.{apply_last}
use Rattle.lp_term.proofs.Walks.{map_map, All-back}
use Rattle.lp_term.proofs.Ways.{in_order_last}
use Rattle.lp_term.proofs.Absences.{absent_fits}
use Rattle.lp_term.proofs.EtaForms.{form_is}

-- a node that is no index
apply_index : (h x : Term) (xs : List Term) → apply (app h x) xs ≡ index 0 → ⊥
apply_index h x [] e = cc
apply_index h x (y ∷ ys) e = apply_index (app h x) y ys e

some_index : (f : ℕ → Term) (h : Term) (ids : List ℕ) → ids ≢ [] → apply h (map f ids) ≡ index 0 → ⊥
some_index f h [] n e = n refl
some_index f h (i ∷ ids) n e = apply_index h (f i) (map f ids) e

pub no_index : (b : Nodes) (n m : ℕ) (s : TermNode) → ((x : ℕ) → s ≡ Index x → ⊥) → TermBelow n m (term_shape s) → node_tree b (term_shape s) ≡ index 0 → ⊥
no_index b n m (Index x) h l e = h x refl
no_index b n m (Const c ids) h l e = cc
no_index b n m (Int z) h l e = cc
no_index b n m (Text s) h l e = cc
no_index b n m (Eigen k) h l e = cc
no_index b n m (Logic i k) h l e = cc
no_index b n m (Param k t) h l e = cc
no_index b n m (Abs x) h l e = cc
no_index b n m (App f ids) h l e = some_index (tree b) (tree b f.0) (map (λ t. t.0) ids.now) l.2 e

-- the last argument decides
other_argument : (t u : Term) → (u ≡ index 0 → ⊥) → contracted (app t u) ≡ abs (app t u)
other_argument t (index zero) h = absurd (h refl)
other_argument t (index (suc n)) h = refl
other_argument t (atom a) h = refl
other_argument t (abs b) h = refl
other_argument t (app u v) h = refl

pub with_last : (b : Nodes) (h : Term) (args front : List TermId) (last : TermId) → args ≡ front ++ last ∷ [] → apply h (in_order b args) ≡ app (apply h (in_order b front)) (tree b last.0)
with_last b h args front last q = ap (λ l. apply h (in_order b l)) q ∙ ap (apply h) (in_order_last b front last) ∙ apply_last h (in_order b front) (tree b last.0)

pub other_last : (b : Nodes) (h : Term) (args front : List TermId) (last : TermId) → args ≡ front ++ last ∷ [] → (tree b last.0 ≡ index 0 → ⊥) → contracted (apply h (in_order b args)) ≡ abs (apply h (in_order b args))
other_last b h args front last q n =
    let e = with_last b h args front last q in
    ap contracted e ∙ other_argument (apply h (in_order b front)) (tree b last.0) n ∙ ap abs (sym e)

pub occurs : (b : Nodes) (h : Term) (args front : List TermId) (last : TermId) (gone : Bool) → args ≡ front ++ last ∷ [] → tree b last.0 ≡ index 0 → gone ≡ false → gone ≡ is_absent 0 (apply h (in_order b front)) →
    contracted (apply h (in_order b args)) ≡ abs (apply h (in_order b args))
occurs b h args front last gone q z n a =
    let t = apply h (in_order b front) in
    let e : apply h (in_order b args) ≡ app t (index 0) = with_last b h args front last q ∙ ap (app t) z in
    let k : is_absent 0 t ≡ false = sym a ∙ n in
    ap contracted e ∙ ap (λ c. if c then substitute (index 0) t else abs (app t (index 0))) k ∙ ap abs (sym e)

pub contracts : (b : Nodes) (h r v w : Term) (args front : List TermId) (last : TermId) (gone : Bool) → args ≡ front ++ last ∷ [] → tree b last.0 ≡ index 0 → gone ≡ true → gone ≡ is_absent 0 (apply h (in_order b front)) →
    w ≡ apply h (in_order b front) → v ≡ tree b last.0 → r ≡ substitute v w → r ≡ contracted (apply h (in_order b args))
contracts b h r v w args front last gone q z n a i j k =
    let t = apply h (in_order b front) in
    let e : apply h (in_order b args) ≡ app t (index 0) = with_last b h args front last q ∙ ap (app t) z in
    let l : is_absent 0 t ≡ true = sym a ∙ n in
    k ∙ (λ y. substitute ((j ∙ z) y) (i y)) ∙ sym (ap contracted e ∙ ap (λ c. if c then substitute (index 0) t else abs (app t (index 0))) l)

pub value_fits : (b : Nodes) (h v w : Term) (front : List TermId) (gone : Bool) → gone ≡ true → gone ≡ is_absent 0 (apply h (in_order b front)) → w ≡ apply h (in_order b front) → Everywhere (FitsPut v) 0 w
value_fits b h v w front gone n a i = absent_fits v 0 w (ap (is_absent 0) i ∙ sym a ∙ n)

each_within : (n m : ℕ) (ts : List TermId) → n < m → All (λ i. i < n) (map (λ t. t.0) ts) → All (λ t. t.0 < m) ts
each_within n m [] l a = All-nil (λ t. t.0 < m)
each_within n m (t ∷ ts) l a =
    let k : t.0 < n = All-head (λ i. i < n) t.0 (map (λ t. t.0) ts) a in
    All-cons (λ t. t.0 < m) t ts (omega arith) (each_within n m ts l (All-tail (λ i. i < n) t.0 (map (λ t. t.0) ts) a))

pub args_within : (n m : ℕ) (ids now : List TermId) → ids ≡ now → n < m → All (λ i. i < n) (map (λ t. t.0) now) → All (λ t. t.0 < m) ids
args_within n m ids now q l a = transport (All (λ t. t.0 < m)) (sym q) (each_within n m now l a)

pub whole_application : (b : Nodes) (h t : Term) (args now : List TermId) → args ≡ now → apply h (map (tree b) (map (λ x. x.0) now)) ≡ t → apply h (in_order b args) ≡ t
whole_application b h t args now q e = ap (λ l. apply h (in_order b l)) q ∙ ap (apply h) (sym (map_map (tree b) (λ x. x.0) now)) ∙ e

pub none_for : (t s : Term) → t ≡ s → (found : Option TermId) → (found ≡ None → contracted t ≡ abs t) → found ≡ None → contracted s ≡ abs s
none_for t s e found h n = ap contracted (sym e) ∙ h n ∙ ap abs e

pub made_for : (c : Nodes) (t s : Term) → t ≡ s → (found : Option TermId) → IfSome found (λ made. (made.0 < length c.terms) × (tree c made.0 ≡ contracted t)) → IfSome found (λ made. (made.0 < length c.terms) × (tree c made.0 ≡ contracted s))
made_for c t s e None h = tt
made_for c t s e (Some made) h = (h.0, h.1 ∙ ap contracted e)

pub last_below : (n : ℕ) (args front : List TermId) (last : TermId) → args ≡ front ++ last ∷ [] → All (λ t. t.0 < n) args → last.0 < n
last_below n args front last q a = All-head (λ t. t.0 < n) last [] (All-back (λ t. t.0 < n) front (last ∷ []) (transport (All (λ t. t.0 < n)) q a))

-- the whole
pub is_form : (m : ℕ) (t r s : Term) → IsBetaForm m t r → s ≡ eta_normal r → IsFormOf t s
is_form m t r s f e = transport (IsFormOf t) (sym e) (form_is f.0 t r f.2)

pub too_large : (m n : ℕ) (t r s : Term) → IsBetaForm m t r → s ≡ eta_normal r → n < nodes s → IsDeepForm m n t (Deep n)
too_large m n t r s f e l = inr (refl, (s, (r, f, e), is_form m t r s f e, l))
