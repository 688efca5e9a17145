-- What is compared is equal only where its parts are.
use Rattle.std.proofs.Common.{◌≡◌, ℕ, suc, ◌<◌, ◌≤◌, List, [], ◌∷◌, ◌++◌, length, map, reverse, refl, sym, ap, subst, ◌∙◌, arith, Bool, true, false, inl, inr, ◌⊎◌}
use Rattle.std.specs.Prelude.{Result, Ok, Err, IfOk, OnOk, All}
use Rattle.std.proofs.lemmas.List.Elements.{All-tail, All-head, All-push, All-weaker}
use Rattle.std.proofs.lemmas.List.{reverse-append}
use Rattle.lp_lemmas.proofs.Elements.{All_push_parts}
use Rattle.lp_lemmas.proofs.Lists.{cons_tail, map_pushed}
use Rattle.lp_base.specs.declared.memory.Memory.{Memory}
use Rattle.lp_base.specs.declared.limits.TheConstants.{RUN_LIMIT}
use Rattle.lp_calculus.specs.Types.{Ty, var, instance}
use Rattle.lp_calculus.specs.Term.{Term, Atom, index, atom, abs, app, apply, constant, param}
use Rattle.lp_calculus.specs.Closed.{AllAtoms, AreClosed, IsClosedType}
use Rattle.lp_calculus.specs.Convert.{Converts}
use Rattle.lp_calculus.specs.Fill.{Within}
use Rattle.lp_calculus.specs.Normal.{IsFormOf}
use Rattle.lp_calculus.specs.Spine.{arguments_and, head_of}
use Rattle.lp_calculus.proofs.BetaEta.{normal_same}
use Rattle.lp_calculus.proofs.Steps.{converts_on, converts_sym, converts_is, converts_reduces, within_reduces}
use Rattle.lp_term.specs.Nodes.{Nodes, Extends, tree, type_tree}
use Rattle.lp_term.specs.Opened.{IsDeepForm}
use Rattle.lp_term.specs.Spine.{IsNoApplication, LooseBelow}
use Rattle.lp_term.specs.declared.node.TermId.{TermId}
use Rattle.lp_term.specs.declared.node.TypeId.{TypeId}
use Rattle.lp_term.specs.declared.reduce.TermRefusal.TheVariants as refusal
use Rattle.lp_type_laws.specs.Equations.{Equation, AllHold, Holds, HaveNoSolution}
use Rattle.lp_type_unify.specs.Reading.{IsPair, read_pair, read_pairs}
use Rattle.lp_type_unify.specs.declared.bindings.Pair.{Pair}
use Rattle.lp_cert.specs.Facts.{is_closed_type}
use Rattle.lp_cert.specs.Run.{HasLargeForm, OneIsLarge}
use Rattle.lp_cert.specs.Same.{AreEqual, AreOne, AreClosedPairs, Follows, IsFormed, TermsFollow, TypesFollow, terms_in, types_in}
use Rattle.lp_cert.specs.inner.Named.{HasClosedTypes}
use Rattle.lp_cert.specs.inner.Turned.{ArePlain, IsReady}
use Rattle.lp_cert.specs.declared.form.Comparing.{Comparing}
use Rattle.lp_cert.specs.declared.form.Compared.{Compared}
use Rattle.lp_cert.specs.declared.form.Compared.TheVariants.{Deep, Differ}
use Rattle.lp_cert.specs.declared.form.Formed.{Formed}
use Rattle.lp_cert.specs.declared.form.Formed.TheVariants as formed
use Rattle.std.proofs.Math.Path.{transport}
use Rattle.lp_term.proofs.Trees.{extends-trans}
use Rattle.lp_cert.proofs.Closing.{closed_is, type_is_closed}
use Rattle.lp_cert.proofs.Later.{closed_type_inside}
use Rattle.lp_cert.proofs.Ready.{apply_atoms, atoms_of, loose_of, ready_later}

-- lists by their last elements
no_end : {A : Type 0} (zs : List A) (y : A) → [] ≡ zs ++ y ∷ [] → ⊥
no_end [] y e = absurd (cc)
no_end (w ∷ ws) y e = absurd (cc)

pub last_same : {A : Type 0} (xs ys : List A) (x y : A) → xs ++ x ∷ [] ≡ ys ++ y ∷ [] → (xs ≡ ys) × (x ≡ y)
last_same [] [] x y e = (refl, cc)
last_same [] (z ∷ zs) x y e = absurd (no_end zs y (cons_tail x z [] (zs ++ y ∷ []) e))
last_same (w ∷ ws) [] x y e = absurd (no_end ws x (sym (cons_tail w y (ws ++ x ∷ []) [] e)))
last_same (w ∷ ws) (z ∷ zs) x y e = let q : w ≡ z = cc in let r = last_same ws zs x y (cons_tail w z (ws ++ x ∷ []) (zs ++ y ∷ []) e) in ((λ j. q j ∷ r.0 j), r.1)

-- the head and the arguments of a term are one
head_applied : (h : Term) (xs : List Term) → head_of (apply h xs) ≡ head_of h
head_applied h [] = refl
head_applied h (x ∷ xs) = head_applied (app h x) xs

arguments_applied : (h : Term) (xs more : List Term) → arguments_and (apply h xs) more ≡ arguments_and h (xs ++ more)
arguments_applied h [] more = refl
arguments_applied h (x ∷ xs) more = arguments_applied (app h x) xs more

bare_head : (h : Term) → IsNoApplication h → head_of h ≡ h
bare_head (index i) n = refl
bare_head (atom a) n = refl
bare_head (abs b) n = refl
bare_head (app t u) n = absurd n

bare_arguments : (h : Term) (more : List Term) → IsNoApplication h → arguments_and h more ≡ more
bare_arguments (index i) more n = refl
bare_arguments (atom a) more n = refl
bare_arguments (abs b) more n = refl
bare_arguments (app t u) more n = absurd n

nothing_more : {A : Type 0} (xs : List A) → xs ++ [] ≡ xs
nothing_more [] = refl
nothing_more (x ∷ xs) = ap (λ ys. x ∷ ys) (nothing_more xs)

spine_once : (h k : Term) (xs ys : List Term) → IsNoApplication h → IsNoApplication k → apply h xs ≡ apply k ys → (h ≡ k) × (xs ≡ ys)
spine_once h k xs ys n m e = (
  sym (bare_head h n) ∙ sym (head_applied h xs) ∙ ap head_of e ∙ head_applied k ys ∙ bare_head k m,
  sym (nothing_more xs) ∙ sym (bare_arguments h (xs ++ []) n) ∙ sym (arguments_applied h xs []) ∙ ap (λ t. arguments_and t []) e ∙ arguments_applied k ys [] ∙ bare_arguments k (ys ++ []) m ∙ nothing_more ys,
)

-- a test that leaves all as it was
pub test_follows : (b : Nodes) (w : Comparing) (t u : Term) (r : Bool) → (r ≡ true → t ≡ u) → (r ≡ false → t ≡ u → ⊥) → Follows b w w t u r
test_follows b w t u true y n = λ a o e. (a, o)
test_follows b w t u false y n = n refl

pub follows_from : (b : Nodes) (old new : Comparing) (t s u : Term) (r : Result Bool Memory) → t ≡ s → IfOk r (λ y. AllAtoms HasClosedTypes t → Follows b old new t u y) → IfOk r (λ y. AllAtoms HasClosedTypes s → Follows b old new s u y)
follows_from b old new t s u r e h = subst (λ x. IfOk r (λ y. AllAtoms HasClosedTypes x → Follows b old new x u y)) e h

pub plain_from : (b : Nodes) (old new : List (TermId × TermId)) (t s : Term) (r : Result Bool Memory) → t ≡ s → OnOk r (ArePlain b old → AllAtoms HasClosedTypes t → ArePlain b new) → OnOk r (ArePlain b old → AllAtoms HasClosedTypes s → ArePlain b new)
plain_from b old new t s r e h = subst (λ x. OnOk r (ArePlain b old → AllAtoms HasClosedTypes x → ArePlain b new)) e h

-- where nothing is put on the list of terms
pub plain_still : (b : Nodes) (old new : List (TermId × TermId)) (A : Type 0) (r : Result Bool Memory) → OnOk r (new ≡ old) → OnOk r (ArePlain b old → A → ArePlain b new)
plain_still b old new A (Ok y) e = λ h a. subst (ArePlain b) (sym e) h
plain_still b old new A (Err x) e = tt

constants_same : (n m : ℕ) (ts us : List Ty) → atom (constant n ts) ≡ atom (constant m us) → (n ≡ m) × (ts ≡ us)
constants_same n m ts us e = (cc, cc)

pub constant_follows : (b : Nodes) (old new : Comparing) (n m : ℕ) (ts us : List Ty) (t : Term) (r : Result Bool Memory) → IfOk r (λ y. AreClosed ts → TypesFollow b old new ts us y) → OnOk r (new.terms.items ≡ old.terms.items) → atom (constant m us) ≡ t →
    IfOk r (λ y. AllAtoms HasClosedTypes (atom (constant n ts)) → Follows b old new (atom (constant n ts)) t y)
constant_follows b old new n m ts us t (Ok true) f terms is = λ c a o e. (subst (AreEqual b) (sym terms) a, f c o (constants_same n m ts us (e ∙ sym is)).1)
constant_follows b old new n m ts us t (Ok false) f terms is = λ c e. f c (constants_same n m ts us (e ∙ sym is)).1
constant_follows b old new n m ts us t (Err x) f terms is = tt

pub constants_differ : (n m : ℕ) (ts us : List Ty) (t : Term) → (n ≡ m → ⊥) → atom (constant m us) ≡ t → atom (constant n ts) ≡ t → ⊥
constants_differ n m ts us t d is e = d (constants_same n m ts us (e ∙ sym is)).0

params_same : (n m : ℕ) (T U : Ty) → atom (param n T) ≡ atom (param m U) → (n ≡ m) × (T ≡ U)
params_same n m T U e = (cc, cc)

pub parameter_follows : (b : Nodes) (old new : Comparing) (n m : ℕ) (T U : Ty) (t : Term) (r : Result Bool Memory) → IfOk r (λ y. IsClosedType T → TypesFollow b old new (T ∷ []) (U ∷ []) y) → OnOk r (new.terms.items ≡ old.terms.items) → atom (param m U) ≡ t →
    IfOk r (λ y. AllAtoms HasClosedTypes (atom (param n T)) → Follows b old new (atom (param n T)) t y)
parameter_follows b old new n m T U t (Ok true) f terms is = λ c a o e. (subst (AreEqual b) (sym terms) a, f c o (ap (λ x. x ∷ []) (params_same n m T U (e ∙ sym is)).1))
parameter_follows b old new n m T U t (Ok false) f terms is = λ c e. f c (ap (λ x. x ∷ []) (params_same n m T U (e ∙ sym is)).1)
parameter_follows b old new n m T U t (Err x) f terms is = tt

pub parameters_differ : (n m : ℕ) (T U : Ty) (t : Term) → (n ≡ m → ⊥) → atom (param m U) ≡ t → atom (param n T) ≡ t → ⊥
parameters_differ n m T U t d is e = d (params_same n m T U (e ∙ sym is)).0

-- the bodies of two abstractions
pub bodies_follow : (b : Nodes) (old new : List (TermId × TermId)) (x y : TermId) (t : Term) → new ≡ old ++ (x, y) ∷ [] → abs (tree b y.0) ≡ t → AreEqual b old → abs (tree b x.0) ≡ t → AreEqual b new
bodies_follow b old new x y t p f h e = subst (AreEqual b) (sym p) (All-push (λ (p : TermId × TermId). tree b p.0.0 ≡ tree b p.1.0) old (x, y) h (let q = e ∙ sym f in cc))

pub plain_push : (b : Nodes) (old new : List (TermId × TermId)) (x y : TermId) → new ≡ old ++ (x, y) ∷ [] → ArePlain b old → AllAtoms HasClosedTypes (tree b x.0) → ArePlain b new
plain_push b old new x y e h a = subst (ArePlain b) (sym e) (All-push (λ (p : TermId × TermId). AllAtoms HasClosedTypes (tree b p.0.0)) old (x, y) h a)

-- one more pair of types
pub types_push : (b : Nodes) (old new : List Pair) (l r : TypeId) → new ≡ old ++ (record { left = l; right = r }) ∷ [] → AreOne b old → type_tree b l.0 ∷ [] ≡ type_tree b r.0 ∷ [] → AreOne b new
types_push b old new l r e h q = subst (AreOne b) (sym e) (All-push (λ (p : Pair). type_tree b p.left.0 ≡ type_tree b p.right.0) old (record { left = l; right = r }) h (let p = q in cc))

pub open_differs : (b : Nodes) (l r : TypeId) (y : Bool) → y ≡ is_closed_type (type_tree b r.0) → y ≡ false → IsClosedType (type_tree b l.0) → type_tree b l.0 ∷ [] ≡ type_tree b r.0 ∷ [] → ⊥
open_differs b l r y e f c q = absurd (let k = closed_is (type_tree b r.0) (subst IsClosedType (let p = q in cc) c) in cc)

pub open_is : (T : Ty) (y : Bool) → y ≡ is_closed_type T → y ≡ false → IsClosedType T → ⊥
open_is T y e f c = absurd (let k = closed_is T c in cc)

closed_last : (ts : List Ty) (T : Ty) → AreClosed (ts ++ T ∷ []) → AreClosed ts × IsClosedType T
closed_last [] T h = (tt, h.0)
closed_last (t ∷ ts) T h = let r = closed_last ts T h.1 in ((h.0, r.0), r.1)

-- the last types of two lists
pub types_last : (b : Nodes) (ls left rs right : List TypeId) (x y : TypeId) → ls ≡ left ++ x ∷ [] → rs ≡ right ++ y ∷ [] → AreClosed (types_in b ls) → types_in b ls ≡ types_in b rs →
    AreClosed (types_in b left) × IsClosedType (type_tree b x.0) × (types_in b left ≡ types_in b right) × (type_tree b x.0 ∷ [] ≡ type_tree b y.0 ∷ [])
types_last b ls left rs right x y e f c q =
    let m = map_pushed (λ t. type_tree b t.0) left ls x e in
    let n = map_pushed (λ t. type_tree b t.0) right rs y f in
    let k = closed_last (types_in b left) (type_tree b x.0) (subst AreClosed m c) in
    let s = last_same (types_in b left) (types_in b right) (type_tree b x.0) (type_tree b y.0) (sym m ∙ q ∙ n) in
    (k.0, k.1, s.0, ap (λ t. t ∷ []) s.1)

pub types_none : (b : Nodes) (ls left rs : List TypeId) (x : TypeId) → ls ≡ left ++ x ∷ [] → rs ≡ [] → types_in b ls ≡ types_in b rs → ⊥
types_none b ls left rs x e f q = no_end (types_in b left) (type_tree b x.0) (sym (ap (types_in b) f) ∙ sym q ∙ map_pushed (λ t. type_tree b t.0) left ls x e)

-- the last terms of two lists
pub terms_last : (b : Nodes) (ls left rs right : List TermId) (x y : TermId) → ls ≡ left ++ x ∷ [] → rs ≡ right ++ y ∷ [] → terms_in b ls ≡ terms_in b rs → (terms_in b left ≡ terms_in b right) × (tree b x.0 ≡ tree b y.0)
terms_last b ls left rs right x y e f q = last_same (terms_in b left) (terms_in b right) (tree b x.0) (tree b y.0) (sym (map_pushed (λ t. tree b t.0) left ls x e) ∙ q ∙ map_pushed (λ t. tree b t.0) right rs y f)

pub terms_none : (b : Nodes) (ls left rs : List TermId) (x : TermId) → ls ≡ left ++ x ∷ [] → rs ≡ [] → terms_in b ls ≡ terms_in b rs → ⊥
terms_none b ls left rs x e f q = no_end (terms_in b left) (tree b x.0) (sym (ap (terms_in b) f) ∙ sym q ∙ map_pushed (λ t. tree b t.0) left ls x e)

pub equal_grows : (b : Nodes) (old new : List (TermId × TermId)) (x y : TermId) → new ≡ old ++ (x, y) ∷ [] → AreEqual b old → tree b x.0 ≡ tree b y.0 → AreEqual b new
equal_grows b old new x y e h q = subst (AreEqual b) (sym e) (All-push (λ (p : TermId × TermId). tree b p.0.0 ≡ tree b p.1.0) old (x, y) h q)

pub atoms_last : (b : Nodes) (ls left : List TermId) (x : TermId) → ls ≡ left ++ x ∷ [] → All (AllAtoms HasClosedTypes) (terms_in b ls) → All (AllAtoms HasClosedTypes) (terms_in b left) × AllAtoms HasClosedTypes (tree b x.0)
atoms_last b ls left x e h = All_push_parts (AllAtoms HasClosedTypes) (terms_in b left) (tree b x.0) (subst (All (AllAtoms HasClosedTypes)) (map_pushed (λ t. tree b t.0) left ls x e) h)

-- two terms, by their heads and arguments
pub take_differs : (b : Nodes) (old mid : Comparing) (h k t u : Term) (xs ys : List Term) → apply h xs ≡ t → apply k ys ≡ u → IsNoApplication h → IsNoApplication k → TermsFollow b old mid xs ys false → t ≡ u → ⊥
take_differs b old mid h k t u xs ys eh ek n m f e = f (spine_once h k xs ys n m (eh ∙ e ∙ sym ek)).1

pub take_follows : (b : Nodes) (old mid new : Comparing) (h k t u : Term) (xs ys : List Term) (r : Result Bool Memory) → apply h xs ≡ t → apply k ys ≡ u → IsNoApplication h → IsNoApplication k → TermsFollow b old mid xs ys true → mid.types.items ≡ old.types.items →
    IfOk r (λ y. IsNoApplication h → AllAtoms HasClosedTypes h → Follows b mid new h k y) → IfOk r (λ y. AllAtoms HasClosedTypes t → Follows b old new t u y)
take_follows b old mid new h k t u xs ys (Err x) eh ek n m g types f = tt
take_follows b old mid new h k t u xs ys (Ok true) eh ek n m g types f = λ c a o e.
    let q = spine_once h k xs ys n m (eh ∙ e ∙ sym ek) in
    f n (apply_atoms HasClosedTypes h xs (subst (AllAtoms HasClosedTypes) (sym eh) c)).0 (g a q.1) (subst (AreOne b) (sym types) o) q.0
take_follows b old mid new h k t u xs ys (Ok false) eh ek n m g types f = λ c e.
    f n (apply_atoms HasClosedTypes h xs (subst (AllAtoms HasClosedTypes) (sym eh) c)).0 (spine_once h k xs ys n m (eh ∙ e ∙ sym ek)).0

pub take_plain : (b : Nodes) (old mid new : List (TermId × TermId)) (h t : Term) (xs : List Term) (r : Result Bool Memory) → apply h xs ≡ t → (ArePlain b old → All (AllAtoms HasClosedTypes) xs → ArePlain b mid) → OnOk r (ArePlain b mid → AllAtoms HasClosedTypes h → ArePlain b new) →
    OnOk r (ArePlain b old → AllAtoms HasClosedTypes t → ArePlain b new)
take_plain b old mid new h t xs (Err x) eh g f = tt
take_plain b old mid new h t xs (Ok y) eh g f = λ p c. let q = apply_atoms HasClosedTypes h xs (subst (AllAtoms HasClosedTypes) (sym eh) c) in f (g p q.1) q.0

-- equal pairs of types have a solution
hold_join : (θ : ℕ → Ty) (es fs : List Equation) → AllHold θ es → AllHold θ fs → AllHold θ (es ++ fs)
hold_join θ [] fs h k = k
hold_join θ (e ∷ es) fs h k = (h.0, hold_join θ es fs h.1 k)

hold_reverse : (θ : ℕ → Ty) (es : List Equation) → AllHold θ es → AllHold θ (reverse es)
hold_reverse θ [] h = tt
hold_reverse θ (e ∷ es) h = subst (AllHold θ) (sym (reverse-append (e ∷ []) es)) (hold_join θ (reverse es) (e ∷ []) (hold_reverse θ es h.1) (h.0, tt))

ones_hold : (b : Nodes) (θ : ℕ → Ty) (ps : List Pair) → AreOne b ps → AllHold θ (map (read_pair (type_tree b) var) ps)
ones_hold b θ [] h = tt
ones_hold b θ (p ∷ ps) h =
    (ap (λ T. instance θ (instance var T)) (All-head (λ (p : Pair). type_tree b p.left.0 ≡ type_tree b p.right.0) p ps h), ones_hold b θ ps (All-tail (λ (p : Pair). type_tree b p.left.0 ≡ type_tree b p.right.0) p ps h))

pairs_inside : (b : Nodes) (ps : List Pair) → AreClosedPairs b ps → All (IsPair (length b.types)) ps
pairs_inside b ps h = All-weaker (λ (p : Pair). (is_closed_type (type_tree b p.left.0) ≡ true) × (is_closed_type (type_tree b p.right.0) ≡ true))
    (IsPair (length b.types)) (λ p k. (
      closed_type_inside b p.left.0 (type_is_closed (type_tree b p.left.0) k.0),
      closed_type_inside b p.right.0
          (type_is_closed (type_tree b p.right.0) k.1),
    )) ps h

pub ones_solved : (b : Nodes) (ps : List Pair) → AreOne b ps → HaveNoSolution (read_pairs (type_tree b) var ps) → ⊥
ones_solved b ps h n = n var (hold_reverse var (map (read_pair (type_tree b) var) ps) (ones_hold b var ps h))

-- a normal form that is not there
pub deep_is_large : (t : Term) (b : Nodes) → IsFormed t b formed.Deep → HasLargeForm t
deep_is_large t b h = elim h.1 [ inl q ↦ inl q.1 | inr q ↦ inr (q.1.0, q.1.2, q.1.3) ]

-- terms that convert have one normal form
pub forms_meet : (t u s r : Term) → IsFormOf t s → IsFormOf u r → Converts t u → s ≡ r
forms_meet t u s r f g c = normal_same s r f.1 g.1 (converts_on (converts_sym (converts_reduces f.0)) (converts_on c (converts_reduces g.0)))

pub form_plain : (t s : Term) → Within HasClosedTypes 0 t → IsFormOf t s → AllAtoms HasClosedTypes s
form_plain t s h f = atoms_of HasClosedTypes 0 s (within_reduces HasClosedTypes 0 f.0 h)

-- normal forms of two terms that differ: a, b and c are the bank before, behind the first, and behind the second
pub forms_differ : (a b c : Nodes) (left right one other : TermId) (r : Result Compared Memory) → Extends a b → Extends b c → right.0 < length a.terms → (one.0 < length b.terms) × IsFormOf (tree a left.0) (tree b one.0) → (other.0 < length c.terms) × IsFormOf (tree b right.0) (tree c other.0) →
    IfOk r (λ x. x ≡ Differ → AllAtoms HasClosedTypes (tree c one.0) → tree c one.0 ≡ tree c other.0 → ⊥) → IfOk r (λ x. x ≡ Differ → IsReady a left → IsReady a right → Converts (tree a left.0) (tree a right.0) → ⊥)
forms_differ a b c left right one other (Err x) e g l f h k = tt
forms_differ a b c left right one other (Ok x) e g l f h k = λ q w v n.
    let same : tree c one.0 ≡ tree b one.0 = g.same_terms one.0 f.0 in
    k q (subst (AllAtoms HasClosedTypes) (sym same) (form_plain (tree a left.0) (tree b one.0) w.1 f.1))
    (same ∙ forms_meet (tree a left.0) (tree a right.0) (tree b one.0) (tree c other.0) f.1 (subst (λ t. IsFormOf t (tree c other.0)) (e.same_terms right.0 l) h.1) n)

-- a term without loose indices has a normal form, or a large one
pub ready_loose : (a b : Nodes) (t : TermId) → Extends a b → IsReady a t → LooseBelow 0 0 (tree b t.0)
ready_loose a b t g r = loose_of HasClosedTypes 0 0 (tree b t.0) (ready_later a b t g r).1

pub loose_widens : (n m d : ℕ) (t : Term) → n ≤ m → LooseBelow n d t → LooseBelow m d t
loose_widens n m d (index i) l h = omega (arith, l, h)
loose_widens n m d (atom a) l h = tt
loose_widens n m d (abs b) l h = loose_widens n m (suc d) b l h
loose_widens n m d (app t u) l h = (loose_widens n m d t l h.0, loose_widens n m d u l h.1)

-- two terms of which one has no normal form
pub no_form_is : (x y : Formed) → (x ≡ formed.Open → ⊥) → (y ≡ formed.Open → ⊥) → ((s q : TermId) → x ≡ formed.Is s → y ≡ formed.Is q → ⊥) → (x ≡ formed.Deep → ⊥) × (y ≡ formed.Deep → ⊥) → ⊥
no_form_is formed.Deep y ox oy h d = d.0 refl
no_form_is formed.Open y ox oy h d = ox refl
no_form_is (formed.Is s) formed.Deep ox oy h d = d.1 refl
no_form_is (formed.Is s) formed.Open ox oy h d = oy refl
no_form_is (formed.Is s) (formed.Is q) ox oy h d = h s q refl refl

pub one_is_large : (t u : Term) (m n : Nodes) (x y : Formed) → IsFormed t m x → IsFormed u n y → (x ≡ formed.Deep) ⊎ (y ≡ formed.Deep) → OneIsLarge t u
one_is_large t u m n x y f g (inl e) = inl (deep_is_large t m (subst (IsFormed t m) e f))
one_is_large t u m n x y f g (inr e) = inr (deep_is_large u n (subst (IsFormed u n) e g))

-- a comparison of terms that are there, in a later bank
pub differ_later : (r : Result Compared Memory) (a now : Nodes) (left right : TermId) → Extends a now → IfOk r (λ c. c ≡ Differ → IsReady a left → IsReady a right → Converts (tree a left.0) (tree a right.0) → ⊥) →
    IfOk r (λ c. c ≡ Differ → IsReady a left → IsReady a right → (b : Nodes) → Extends now b → Converts (tree b left.0) (tree b right.0) → ⊥)
differ_later (Err x) a now left right g k = tt
differ_later (Ok c) a now left right g k = λ e r s b h q. let long = extends-trans a now b g h in k e r s (transport (λ j. Converts (long.same_terms left.0 r.0 j) (long.same_terms right.0 s.0 j)) q)

pub deep_later : (r : Result Compared Memory) (a now : Nodes) (left right : TermId) → Extends a now → IfOk r (λ c. c ≡ Deep → left.0 < length a.terms → right.0 < length a.terms → OneIsLarge (tree a left.0) (tree a right.0)) →
    IfOk r (λ c. c ≡ Deep → IsReady a left → IsReady a right → (b : Nodes) → Extends now b → OneIsLarge (tree b left.0) (tree b right.0))
deep_later (Err x) a now left right g k = tt
deep_later (Ok c) a now left right g k = λ e r s b h. let long = extends-trans a now b g h in transport (λ j. OneIsLarge (sym (long.same_terms left.0 r.0) j) (sym (long.same_terms right.0 s.0) j)) (k e r.0 s.0)

pub never_deep : (r : Result Compared Memory) (P : Type 0) → IfOk r (λ c. c ≡ Deep → ⊥) → IfOk r (λ c. c ≡ Deep → P)
never_deep (Err x) P h = tt
never_deep (Ok c) P h = λ e. absurd (h e)

-- a comparison that went to its end
pub found_equal : (b : Nodes) (ps qs : List Pair) (n : ℕ) (r : Result Bool Memory) (A B : Type 0) → qs ≡ ps → AreClosedPairs b ps →
    (A → B → AreOne b ps) → IfOk r (λ y. y ≡ false → All (IsPair (length b.types)) qs → HaveNoSolution (read_pairs (type_tree b) var qs)) → IfOk r
    (λ y. y ≡ false → A → B → ⊥)
found_equal b ps qs n (Err x) A B e c f h = tt
found_equal b ps qs n (Ok y) A B e c f h = λ q a k. ones_solved b ps (f a k) (subst (λ xs. HaveNoSolution (read_pairs (type_tree b) var xs)) e (h q (subst (All (IsPair (length b.types))) (sym e) (pairs_inside b ps c))))

pub differs_at : (b : Nodes) (w v : Comparing) (all ts : List (TermId × TermId)) (x y : TermId) (r : Bool) → all ≡ ts ++ (x, y) ∷ [] → r ≡ false → AreEqual b all → ArePlain b all → (AllAtoms HasClosedTypes (tree b x.0) → Follows b w v (tree b x.0) (tree b y.0) r) → ⊥
differs_at b w v all ts x y r e n a p f =
    let q = All_push_parts (λ (p : TermId × TermId). tree b p.0.0 ≡ tree b p.1.0) ts (x, y) (subst (AreEqual b) e a) in
    let k = All_push_parts (λ (p : TermId × TermId). AllAtoms HasClosedTypes (tree b p.0.0)) ts (x, y) (subst (ArePlain b) e p) in
    subst (Follows b w v (tree b x.0) (tree b y.0)) n (f k.1) q.1

pub follows_at : (b : Nodes) (w v : Comparing) (all ts : List (TermId × TermId)) (x y : TermId) (r : Bool) → all ≡ ts ++ (x, y) ∷ [] → w.terms.items ≡
    ts → r ≡ true → AreEqual b all → AreOne b w.types.items → ArePlain b all → (AllAtoms HasClosedTypes (tree b x.0) → Follows b w v (tree b x.0)
    (tree b y.0) r) → AreEqual b v.terms.items × AreOne b v.types.items
follows_at b w v all ts x y r e s n a o p f =
    let q = All_push_parts (λ (p : TermId × TermId). tree b p.0.0 ≡ tree b p.1.0) ts (x, y) (subst (AreEqual b) e a) in
    let k = All_push_parts (λ (p : TermId × TermId). AllAtoms HasClosedTypes (tree b p.0.0)) ts (x, y) (subst (ArePlain b) e p) in
    subst (Follows b w v (tree b x.0) (tree b y.0)) n (f k.1) (subst (AreEqual b) (sym s) q.0) o q.1

pub plain_at : (b : Nodes) (all ts : List (TermId × TermId)) (x y : TermId) → all ≡ ts ++ (x, y) ∷ [] → ArePlain b all → ArePlain b ts × AllAtoms HasClosedTypes (tree b x.0)
plain_at b all ts x y e p = All_push_parts (λ (p : TermId × TermId). AllAtoms HasClosedTypes (tree b p.0.0)) ts (x, y) (subst (ArePlain b) e p)

pub without_application : (r : Result Bool Memory) (N : Type 0) (P : Bool → Type 0) → IfOk r P → IfOk r (λ y. N → P y)
without_application (Err x) N P h = tt
without_application (Ok y) N P h = λ n. h

pub types_follow_at : (b : Nodes) (old new : Comparing) (ts us : List Ty) (y : Bool) → y ≡ true → TypesFollow b old new ts us y → AreOne b old.types.items → ts ≡ us → AreOne b new.types.items
types_follow_at b old new ts us y e f = subst (TypesFollow b old new ts us) e f

pub types_differ_at : (b : Nodes) (old new : Comparing) (ts us : List Ty) (y : Bool) → y ≡ false → TypesFollow b old new ts us y → ts ≡ us → ⊥
types_differ_at b old new ts us y e f = subst (TypesFollow b old new ts us) e f
