-- Pairs that are left to compare, and forms that are equal.
use Rattle.std.proofs.Common.{◌≡◌, ℕ, ◌<◌, List, [], ◌∷◌, ◌++◌, length, map, reverse, refl, sym, ap, subst, ◌∙◌, arith, Bool, true}
use Rattle.std.specs.Prelude.{Result, Ok, Err, IfOk, OnOk, Option, Some, None, MatchOption}
use Rattle.lp_base.specs.declared.memory.Memory.{Memory}
use Rattle.std.proofs.lemmas.List.Elements.{All-nil, All-cons, All-tail, All-head, All-push}
use Rattle.std.proofs.lemmas.List.{reverse-append}
use Rattle.lp_lemmas.proofs.Elements.{All_push_parts, All_empty}
use Rattle.lp_lemmas.proofs.Lists.{map_pushed}
use Rattle.lp_calculus.specs.Types.{Ty, var, instance}
use Rattle.lp_calculus.specs.Term.{Term, atom, abs, apply, constant}
use Rattle.lp_calculus.specs.Convert.{Converts}
use Rattle.lp_calculus.specs.Normal.{IsFormOf}
use Rattle.lp_calculus.proofs.Steps.{converts_on, converts_sym, converts_is, converts_reduces}
use Rattle.lp_term.specs.Nodes.{Nodes, Extends, tree, type_tree}
use Rattle.lp_term.specs.declared.node.TermId.{TermId}
use Rattle.lp_term.specs.declared.node.TypeId.{TypeId}
use Rattle.lp_type_laws.specs.Equations.{Equation, AllHold, Holds, HaveNoSolution, IsMostGeneral}
use Rattle.lp_type_unify.specs.Reading.{read_pair, read_pairs, reads}
use Rattle.lp_type_unify.specs.declared.bindings.Bindings.{Bindings}
use Rattle.lp_type_unify.specs.declared.bindings.Pair.{Pair}
use Rattle.lp_cert.specs.Facts.{is_closed_type}
use Rattle.lp_cert.specs.Same.{AreEqual, AreOne, AreClosedPairs, Leads, terms_in, types_in}
use Rattle.lp_cert.specs.declared.form.Comparing.{Comparing}
use Rattle.lp_cert.specs.declared.form.Compared.{Compared}
use Rattle.lp_cert.specs.declared.form.Compared.TheVariants.{Same}
use Rattle.lp_cert.proofs.Closing.{type_is_closed, closed_stays}

-- one more pair of terms, taken off the ends of two lists
pub equal_push : (b : Nodes) (ts more : List (TermId × TermId)) (ls left rs right : List TermId) (x y : TermId) → more ≡ ts ++ (x, y) ∷ [] → ls ≡ left ++ x ∷ [] → rs ≡ right ++ y ∷ [] → AreEqual b more → terms_in b left ≡ terms_in b right →
    AreEqual b ts × (terms_in b ls ≡ terms_in b rs)
equal_push b ts more ls left rs right x y e f g h q =
    let p = All_push_parts (λ (p : TermId × TermId). tree b p.0.0 ≡ tree b p.1.0) ts (x, y) (subst (AreEqual b) e h) in
    (p.0, map_pushed (λ t. tree b t.0) left ls x f ∙ (λ j. q j ++ p.1 j ∷ []) ∙ sym (map_pushed (λ t. tree b t.0) right rs y g))

-- the bodies of two abstractions
pub abs_push : (b : Nodes) (ts more : List (TermId × TermId)) (x y : TermId) (t : Term) → more ≡ ts ++ (x, y) ∷ [] → abs (tree b y.0) ≡ t → AreEqual b more → AreEqual b ts × (abs (tree b x.0) ≡ t)
abs_push b ts more x y t e f h =
    let p = All_push_parts (λ (p : TermId × TermId). tree b p.0.0 ≡ tree b p.1.0) ts (x, y) (subst (AreEqual b) e h) in
    (p.0, ap abs p.1 ∙ f)

pub types_equal_push : (b : Nodes) (ls left rs right : List TypeId) (x y : TypeId) → ls ≡ left ++ x ∷ [] → rs ≡ right ++ y ∷ [] → type_tree b x.0 ≡ type_tree b y.0 → types_in b left ≡ types_in b right → types_in b ls ≡ types_in b rs
types_equal_push b ls left rs right x y f g p q = map_pushed (λ t. type_tree b t.0) left ls x f ∙ (λ j. q j ++ p j ∷ []) ∙ sym (map_pushed (λ t. type_tree b t.0) right rs y g)

-- one more pair of types
pub one_push : (b : Nodes) (ps more : List Pair) (x : Pair) → more ≡ ps ++ x ∷ [] → AreOne b more → AreOne b ps × (type_tree b x.left.0 ≡ type_tree b x.right.0)
one_push b ps more x e h = All_push_parts (λ (p : Pair). type_tree b p.left.0 ≡ type_tree b p.right.0) ps x (subst (AreOne b) e h)

pub closed_push : (b : Nodes) (ps more : List Pair) (x : Pair) → more ≡ ps ++ x ∷ [] → is_closed_type (type_tree b x.left.0) ≡ true → is_closed_type (type_tree b x.right.0) ≡ true → AreClosedPairs b ps → AreClosedPairs b more
closed_push b ps more x e l r h = subst (AreClosedPairs b) (sym e) (All-push (λ (p : Pair). (is_closed_type (type_tree b p.left.0) ≡ true) × (is_closed_type (type_tree b p.right.0) ≡ true)) ps x h (l, r))

-- equal heads on equal arguments
pub applied_equal : (h k t u : Term) (xs ys : List Term) → apply h xs ≡ t → apply k ys ≡ u → xs ≡ ys → h ≡ k → t ≡ u
applied_equal h k t u xs ys e f q p = sym e ∙ (λ j. apply (p j) (q j)) ∙ f

-- closed types that one solution makes equal are equal
hold_append : (θ : ℕ → Ty) (es fs : List Equation) → AllHold θ (es ++ fs) → AllHold θ es × AllHold θ fs
hold_append θ [] fs h = (tt, h)
hold_append θ (e ∷ es) fs h = let r = hold_append θ es fs h.1 in ((h.0, r.0), r.1)

pub hold_reversed : (θ : ℕ → Ty) (es : List Equation) → AllHold θ (reverse es) → AllHold θ es
hold_reversed θ [] h = tt
hold_reversed θ (e ∷ es) h = let r = hold_append θ (reverse es) (e ∷ []) (subst (AllHold θ) (reverse-append (e ∷ []) es) h) in (r.1.0, hold_reversed θ es r.0)

pair_one : (b : Nodes) (θ : ℕ → Ty) (p : Pair) → is_closed_type (type_tree b p.left.0) ≡ true → is_closed_type (type_tree b p.right.0) ≡ true → Holds θ (read_pair (type_tree b) var p) → type_tree b p.left.0 ≡ type_tree b p.right.0
pair_one b θ p l r h =
    let twice : (T : Ty) → is_closed_type T ≡ true → instance θ (instance var T) ≡ T = λ T c. ap (instance θ) (closed_stays var T (type_is_closed T c)) ∙ closed_stays θ T (type_is_closed T c) in
    sym (twice (type_tree b p.left.0) l) ∙ h ∙ twice (type_tree b p.right.0) r

pairs_one : (b : Nodes) (θ : ℕ → Ty) (ps : List Pair) → AreClosedPairs b ps → AllHold θ (map (read_pair (type_tree b) var) ps) → AreOne b ps
pairs_one b θ [] c h = All-nil (λ (p : Pair). type_tree b p.left.0 ≡ type_tree b p.right.0)
pairs_one b θ (p ∷ ps) c h =
    let here = All-head (λ (p : Pair). (is_closed_type (type_tree b p.left.0) ≡ true) × (is_closed_type (type_tree b p.right.0) ≡ true)) p ps c in
    All-cons (λ (p : Pair). type_tree b p.left.0 ≡ type_tree b p.right.0) p ps (pair_one b θ p here.0 here.1 h.0)
    (pairs_one b θ ps (All-tail (λ (p : Pair). (is_closed_type (type_tree b p.left.0) ≡ true) × (is_closed_type (type_tree b p.right.0) ≡ true)) p ps c) h.1)

pub solved_one : (b : Nodes) (ps : List Pair) → AreClosedPairs b ps → (θ : ℕ → Ty) × AllHold θ (read_pairs (type_tree b) var ps) → AreOne b ps
solved_one b ps c s = pairs_one b s.0 ps c (hold_reversed s.0 (map (read_pair (type_tree b) var) ps) s.1)

-- terms with one normal form convert
pub forms_convert : (t u s r : Term) → IsFormOf t s → IsFormOf u r → s ≡ r → Converts t u
forms_convert t u s r f g e = converts_on (converts_reduces f.0) (converts_on (converts_is e) (converts_sym (converts_reduces g.0)))

pub nothing : {A : Type 0} (xs : List A) → length xs ≡ 0 → xs ≡ []
nothing [] e = refl
nothing (x ∷ xs) e = absurd (omega (arith, e))

pub twice : {A : Type 0} (f : ℕ → A) (ids : List TypeId) → map f (map (λ t. t.0) ids) ≡ map (λ t. f t.0) ids
twice f [] = refl
twice f (x ∷ xs) = ap (λ l. f x.0 ∷ l) (twice f xs)

-- equal constants at equal types
pub constant_leads : (b : Nodes) (old new : Comparing) (n m : ℕ) (ts us : List Ty) (t : Term) (r : Result Bool Memory) → IfOk r (λ y. y ≡ true → AreOne b new.types.items → AreOne b old.types.items × (ts ≡ us)) → OnOk r (new.terms.items ≡ old.terms.items) → n ≡ m → atom (constant m us) ≡ t →
    IfOk r (λ y. y ≡ true → Leads b old new (atom (constant n ts)) t)
constant_leads b old new n m ts us t (Ok y) one terms same is = λ e h o.
    let p = one e o in
    (subst (AreEqual b) terms h, p.0, (λ j. atom (constant (same j) (p.1 j))) ∙ is)
constant_leads b old new n m ts us t (Err x) one terms same is = tt

pub leads_from : (b : Nodes) (old new : Comparing) (t s u : Term) (r : Result Bool Memory) → t ≡ s → IfOk r (λ y. y ≡ true → Leads b old new t u) → IfOk r (λ y. y ≡ true → Leads b old new s u)
leads_from b old new t s u (Ok y) e f = λ q h o. let l = f q h o in (l.0, l.1, sym e ∙ l.2)
leads_from b old new t s u (Err x) e f = tt

pub take_leads : (b : Nodes) (old mid new : Comparing) (h k t u : Term) (xs ys : List Term) (r : Result Bool Memory) → apply h xs ≡ t → apply k ys ≡ u → (AreEqual b mid.terms.items → AreEqual b old.terms.items × (xs ≡ ys)) → mid.types.items ≡ old.types.items →
    IfOk r (λ y. y ≡ true → Leads b mid new h k) → IfOk r (λ y. y ≡ true → Leads b old new t u)
take_leads b old mid new h k t u xs ys (Ok y) eh ek terms types f = λ e p o.
    let l = f e p o in
    let q = terms l.0 in
    (q.0, subst (AreOne b) types l.1, applied_equal h k t u xs ys eh ek q.1 l.2)
take_leads b old mid new h k t u xs ys (Err x) eh ek terms types f = tt

pub pair_back : (b : Nodes) (all ts : List (TermId × TermId)) (x y : TermId) → all ≡ ts ++ (x, y) ∷ [] → AreEqual b ts → tree b x.0 ≡ tree b y.0 → AreEqual b all
pair_back b all ts x y e h q = subst (AreEqual b) (sym e) (All-push (λ (p : TermId × TermId). tree b p.0.0 ≡ tree b p.1.0) ts (x, y) h q)

-- nothing is left but pairs of types, and they have a solution
pub same_solved : (b : Nodes) (ps qs : List Pair) (ts : List (TermId × TermId)) (t u : Term) (r : Result Bool Memory) → qs ≡ ps → ts ≡ [] → AreClosedPairs b ps → (AreEqual b ts → AreOne b ps → t ≡ u) → IfOk r (λ y. y ≡ true → (θ : ℕ → Ty) × AllHold θ (read_pairs (type_tree b) var qs)) →
    IfOk r (λ y. y ≡ true → t ≡ u)
same_solved b ps qs ts t u (Ok y) e none c f s = λ q. f (All_empty (λ (p : TermId × TermId). tree b p.0.0 ≡ tree b p.1.0) ts none) (solved_one b ps c (subst (λ xs. (θ : ℕ → Ty) × AllHold θ (read_pairs (type_tree b) var xs)) e (s q)))
same_solved b ps qs ts t u (Err x) e none c f s = tt

-- equal forms of two terms, found one after the other
pub compare_same : (a b c : Nodes) (left right one other : TermId) (r : Result Compared Memory) → Extends a b → Extends b c → right.0 < length a.terms → (one.0 < length b.terms) × IsFormOf (tree a left.0) (tree b one.0) → (other.0 < length c.terms) × IsFormOf (tree b right.0) (tree c other.0) →
    IfOk r (λ x. x ≡ Same → tree c one.0 ≡ tree c other.0) → IfOk r (λ x. x ≡ Same → Converts (tree a left.0) (tree a right.0))
compare_same a b c left right one other (Ok x) e g l f h same = λ q.
    forms_convert (tree a left.0) (tree a right.0) (tree b one.0) (tree c other.0) f.1 (subst (λ t. IsFormOf t (tree c other.0)) (e.same_terms right.0 l) h.1) (sym (g.same_terms one.0 f.0) ∙ same q)
compare_same a b c left right one other (Err x) e g l f h same = tt

-- a solution that was found
pub solved_is : (b : Nodes) (ps : List Pair) (o : Option Bindings) (x : Bindings) → o ≡ Some x → MatchOption o (HaveNoSolution (read_pairs (type_tree b) var ps)) (λ y. IsMostGeneral (read_pairs (type_tree b) var ps) (reads b y.made)) →
    (θ : ℕ → Ty) × AllHold θ (read_pairs (type_tree b) var ps)
solved_is b ps o x e h =
    let m : IsMostGeneral (read_pairs (type_tree b) var ps) (reads b x.made) = subst (λ z. MatchOption z (HaveNoSolution (read_pairs (type_tree b) var ps)) (λ y. IsMostGeneral (read_pairs (type_tree b) var ps) (reads b y.made))) e h in
    (reads b x.made, m.solves)

-- none was found
pub solved_none : (b : Nodes) (ps : List Pair) (o : Option Bindings) → o ≡ None → MatchOption o (HaveNoSolution (read_pairs (type_tree b) var ps)) (λ y. IsMostGeneral (read_pairs (type_tree b) var ps) (reads b y.made)) → HaveNoSolution (read_pairs (type_tree b) var ps)
solved_none b ps o e h = subst (λ z. MatchOption z (HaveNoSolution (read_pairs (type_tree b) var ps)) (λ y. IsMostGeneral (read_pairs (type_tree b) var ps) (reads b y.made))) e h
