-- What is refused as an instance of a query is none, and the goal of an instance is closed.
use Rattle.std.proofs.Common.{◌≡◌, ℕ, zero, suc, ◌+◌, ◌-◌, ◌<◌, List, [], ◌∷◌, map, length, refl, sym, ap, subst, ◌∙◌, arith, Bool, true, false, get_or}
use Rattle.std.proofs.Math.Path.{transport}
use Rattle.std.specs.Prelude.{All, Option, Some, None, nat_lt, if◌then◌else◌, Result, Ok, Err, IfOk, IfSome}
use Rattle.std.proofs.lemmas.List.{length-map, get_or-map}
use Rattle.std.proofs.lemmas.List.Elements.{All-nil, All-cons, All-head, All-tail, All-get_or, All-map}
use Rattle.lp_lemmas.proofs.Lists.{map_composed}
use Rattle.lp_base.specs.declared.memory.Memory.{Memory}
use Rattle.lp_calculus.specs.Types.{Ty, instance}
use Rattle.lp_calculus.specs.Term.{Term, index, atom, abs, app, raised, replace}
use Rattle.lp_calculus.specs.Typing.{type_at}
use Rattle.lp_calculus.specs.Closed.{AllAtoms, AreClosed, IsClosedAt, IsClosedAtom}
use Rattle.lp_calculus.specs.Fill.{Within}
use Rattle.lp_calculus.specs.Instance.{instance_term}
use Rattle.lp_term.specs.Nodes.{Nodes, Extends, tree, type_tree}
use Rattle.lp_term.specs.Spine.{LooseBelow}
use Rattle.lp_term.specs.declared.node.TypeId.{TypeId}
use Rattle.lp_term.specs.declared.node.TermId.{TermId}
use Rattle.lp_term.proofs.Trees.{extends-trans}
use Rattle.lp_model.specs.Index.{at, lifted, instantiate}
use Rattle.lp_model.specs.Answers.{AreWitnesses}
use Rattle.lp_model.specs.Proofs.{Declared, IsWitness}
use Rattle.lp_model.specs.Readings.{declared_by}
use Rattle.lp_model.specs.declared.program.Declared as code
use Rattle.lp_model.specs.declared.program.Typed.{Typed}
use Rattle.lp_cert.specs.Certified.{query_of}
use Rattle.lp_cert.specs.Facts.{AreInside, are_closed}
use Rattle.lp_cert.specs.Inside.{AreTermsInside, IsQueryInside}
use Rattle.lp_cert.specs.Same.{terms_in, types_in}
use Rattle.lp_cert.specs.declared.work.Work.{Work}
use Rattle.lp_cert.specs.inner.Named.{HasClosedTypes, IsWitnessIn, HaveNoWitnesses, AreUnnamed, variable_types}
use Rattle.lp_cert.proofs.Closing.{closed_are, loose_below, within_facts}
use Rattle.lp_cert.proofs.ClosedTypes.{closed_has, instance_has, instantiate_has}
use Rattle.lp_cert.proofs.Comparisons.{twice}
use Rattle.lp_cert.proofs.Later.{inside_later}
use Rattle.lp_cert.proofs.Settled.{terms_later}
use Rattle.lp_cert.proofs.Witnesses.{type_of_variable}

-- a closed value, found in a bank that grew
pub value_ready : (a b : Nodes) (vs : List TermId) (j : ℕ) (d : TermId) → Extends a b → j < length vs → All (λ v. (v.0 < length a.terms) × LooseBelow 0 0 (tree a v.0)) vs → ((get_or vs j d).0 < length b.terms) × LooseBelow 0 0 (tree b (get_or vs j d).0)
value_ready a b vs j d g l h =
    let k = All-get_or (λ (v : TermId). (v.0 < length a.terms) × LooseBelow 0 0 (tree a v.0)) vs j d l h in
    let m = g.more_terms in
    let i = k.0 in
    (omega (arith, i, m), subst (LooseBelow 0 0) (sym (g.same_terms (get_or vs j d).0 k.0)) k.1)

closed_loose : (n d : ℕ) (t : Term) → Within (IsClosedAtom n) d t → LooseBelow 0 d t
closed_loose n d t h = let f = (within_facts n d t h).1 in loose_below 0 d t (omega (arith, f))

-- witnesses by their places
witness_at : (d : Declared) (ts : List Term) (Ts : List Ty) (i : ℕ) (x : Term) (X : Ty) → AreWitnesses d ts Ts → i < length ts → IsWitness d [] (get_or ts i x) (get_or Ts i X)
witness_at d [] Ts i x X h l = absurd (omega (arith, l))
witness_at d (t ∷ ts) [] i x X h l = absurd h
witness_at d (t ∷ ts) (T ∷ Ts) zero x X h l = h.0
witness_at d (t ∷ ts) (T ∷ Ts) (suc i) x X h l = witness_at d ts Ts i x X h.1 (omega (arith, l))

witnesses_long : (d : Declared) (ts : List Term) (Ts : List Ty) → AreWitnesses d ts Ts → length ts ≡ length Ts
witnesses_long d [] [] h = refl
witnesses_long d [] (T ∷ Ts) h = absurd h
witnesses_long d (t ∷ ts) [] h = absurd h
witnesses_long d (t ∷ ts) (T ∷ Ts) h = ap suc (witnesses_long d ts Ts h.1)

pub values_differ : (now : Nodes) (cs : List code.Declared) (types : List TypeId) (vs : List TermId) (ofs : List TypeId) → (length vs ≡ length ofs → ⊥) → HaveNoWitnesses now cs types vs ofs
values_differ now cs types vs ofs h = λ b g w.
    let l = witnesses_long (declared_by b cs) (terms_in b vs) (map (instance (type_at (types_in b types))) (types_in b ofs)) w in
    let n = length-map vs (λ t. tree b t.0) in
    let m = length-map (types_in b ofs) (instance (type_at (types_in b types))) in
    let k = length-map ofs (λ t. type_tree b t.0) in
    h (omega (arith, l, n, m, k))

-- the value at a place is none for its variable; w is the work then, v as it was, and made the number of the type
pub value_fails : (now : Nodes) (w v : Work) (types : List TypeId) (vs : List TermId) (ofs : List TypeId) (i : ℕ) (value : TermId) (of made : TypeId)
    → i < length vs → i < length ofs → value ≡ get_or vs i value → of ≡ get_or ofs i of → w.theory ≡ v.theory → w.eigens ≡ v.eigens → v.eigens.items ≡
    [] →
    ((b : Nodes) → Extends now b → type_tree b made.0 ≡ instance (type_at (types_in b types)) (type_tree b of.0)) → ((b : Nodes) → Extends now b → IsWitnessIn b w value made → ⊥) → HaveNoWitnesses now v.theory.constants.now types vs ofs
value_fails now w v types vs ofs i value of made l k ev eo et ee none is never = λ b g h.
    let f : Ty → Ty = instance (type_at (types_in b types)) in
    let n = length-map vs (λ t. tree b t.0) in
    let m = length-map ofs (λ t. type_tree b t.0) in
    let here = witness_at (declared_by b v.theory.constants.now) (terms_in b vs) (map f (types_in b ofs)) i (tree b value.0) (f (type_tree b of.0)) h (omega (arith, l, n)) in
    let value_is : get_or (terms_in b vs) i (tree b value.0) ≡ tree b value.0 = get_or-map (λ t. tree b t.0) vs i value (tree b value.0) l ∙ ap (λ t. tree b t.0) (sym ev) in
    let type_is : get_or (map f (types_in b ofs)) i (f (type_tree b of.0)) ≡ f (type_tree b of.0) =
    get_or-map f (types_in b ofs) i (type_tree b of.0) (f (type_tree b of.0)) (omega (arith, k, m)) ∙ ap f (get_or-map (λ t. type_tree b t.0) ofs i of (type_tree b of.0) k ∙ ap (λ t. type_tree b t.0) (sym eo)) in
    never b g
    (transport (λ j. IsWitness (declared_by b (sym et j).constants.now) (types_in b (sym (ap (λ x. x.items) ee ∙ none) j)) (value_is j) ((type_is ∙ sym (is b g)) j)) here)

-- the types of a query's variables
variables_are : (b : Nodes) (q : Typed) → (query_of b q).vars ≡ types_in b (variable_types q)
variables_are b q = sym (map_composed (λ v. v.1) (λ t. type_tree b t.0) (λ v. type_tree b v.1.0) (λ v. refl) q.vars.items)

pub query_variables : (b : Nodes) (q : Typed) → IsQueryInside b q → AreInside (length b.types) (variable_types q)
query_variables b q h = All-map (λ (t : TypeId). t.0 < length b.types) (λ v. v.1) q.vars.items h.vars

-- the type of a variable stands in the bank
pub variable_inside : {A : Type 0} (f : A → TypeId) (n : ℕ) (xs : List A) (i : ℕ) (x : A) → i < length xs → x ≡ get_or xs i x → AreInside n (map f xs) → (f x).0 < n
variable_inside f n xs i x l e h =
    let m = length-map xs f in
    subst (λ t. t.0 < n) (sym (type_of_variable f xs i x l e)) (All-get_or (λ (t : TypeId). t.0 < n) (map f xs) i (f x) (omega (arith, l, m)) h)

-- not as many types
pub count_unnamed : (now : Nodes) (cs : List code.Declared) (q : Typed) (types : List TypeId) (vs : List TermId) → (length types ≡ q.type_vars → ⊥) → AreUnnamed now cs q types vs
count_unnamed now cs q types vs h = λ b g ns n. let l = length-map types (λ t. type_tree b t.0) in let m = n.types in h (omega (arith, l, m))

-- a type that is not closed
pub open_unnamed : (a now : Nodes) (cs : List code.Declared) (q : Typed) (types : List TypeId) (vs : List TermId) → Extends a now → AreInside (length a.types) types → are_closed (map (type_tree a) (map (λ t. t.0) types)) ≡ false → AreUnnamed now cs q types vs
open_unnamed a now cs q types vs g i e = λ b k ns n.
    let same = inside_later a b types (extends-trans a now b g k) i in
    let c = closed_are (types_in a types) (subst AreClosed same n.types_closed) in
    let f : are_closed (types_in a types) ≡ false = ap are_closed (sym (twice (type_tree a) types)) ∙ e in
    absurd (cc)

pub values_unnamed : (now : Nodes) (cs : List code.Declared) (q : Typed) (types : List TypeId) (vs : List TermId) → HaveNoWitnesses now cs types vs (variable_types q) → AreUnnamed now cs q types vs
values_unnamed now cs q types vs h = λ b g ns n. h b g (subst (λ Ts. AreWitnesses (declared_by b cs) (terms_in b vs) (map (instance (type_at (types_in b types))) Ts)) (variables_are b q) n.values)

-- what values that are named are like
values_closed : (d : Declared) (ts : List Term) (Ts : List Ty) → AreWitnesses d ts Ts → All (IsClosedAt 0) ts
values_closed d [] Ts h = All-nil (IsClosedAt 0)
values_closed d (t ∷ ts) [] h = absurd h
values_closed d (t ∷ ts) (T ∷ Ts) h = All-cons (IsClosedAt 0) t ts h.0.closed (values_closed d ts Ts h.1)

values_here : (a b : Nodes) (vs : List TermId) → Extends a b → AreTermsInside (length a.terms) vs → All (IsClosedAt 0) (terms_in b vs) → All (λ v. (v.0 < length a.terms) × LooseBelow 0 0 (tree a v.0)) vs
values_here a b [] g i h = All-nil (λ (v : TermId). (v.0 < length a.terms) × LooseBelow 0 0 (tree a v.0))
values_here a b (v ∷ vs) g i h =
    let l = All-head (λ (t : TermId). t.0 < length a.terms) v vs i in
    All-cons (λ (v : TermId). (v.0 < length a.terms) × LooseBelow 0 0 (tree a v.0)) v vs (l, subst (LooseBelow 0 0) (g.same_terms v.0 l) (closed_loose 0 0 (tree b v.0) (All-head (IsClosedAt 0) (tree b v.0) (terms_in b vs) h)))
    (values_here a b vs g (All-tail (λ (t : TermId). t.0 < length a.terms) v vs i) (All-tail (IsClosedAt 0) (tree b v.0) (terms_in b vs) h))

-- values that were not put are no values; a is the bank where they were put
pub put_unnamed : (a now : Nodes) (cs : List code.Declared) (q : Typed) (types : List TypeId) (vs : List TermId) → Extends a now → AreTermsInside (length a.terms) vs → (All (λ v. (v.0 < length a.terms) × LooseBelow 0 0 (tree a v.0)) vs → ⊥) → AreUnnamed now cs q types vs
put_unnamed a now cs q types vs g i h = λ b k ns n. h (values_here a b vs (extends-trans a now b g k) i (values_closed (declared_by b cs) (terms_in b vs) (map (instance (type_at (types_in b types))) (query_of b q).vars) n.values))

pub put_result : (o a now : Nodes) (cs : List code.Declared) (q : Typed) (types : List TypeId) (vs : List TermId) (formula : TermId) (r : Result (Option TermId) Memory) (P Q R S : Type 0) → Extends o a → Extends a now → formula.0 < length a.terms →
    IfOk r (λ found. found ≡ None → formula.0 < length a.terms → All (λ v. (v.0 < length a.terms) × LooseBelow 0 0 (tree a v.0)) vs → ⊥) → IfOk r (λ found. found ≡ None → P → Q → R → S → AreTermsInside (length o.terms) vs → AreUnnamed now cs q types vs)
put_result o a now cs q types vs formula (Err x) P Q R S g k l h = tt
put_result o a now cs q types vs formula (Ok found) P Q R S g k l h = λ e p u v w i. put_unnamed a now cs q types vs k (terms_later o a vs g i) (h e l)

instance_loose : (n d : ℕ) (θ : ℕ → Ty) (t : Term) → LooseBelow n d t → LooseBelow n d (instance_term θ t)
instance_loose n d θ (index i) h = h
instance_loose n d θ (atom a) h = tt
instance_loose n d θ (abs b) h = instance_loose n (suc d) θ b h
instance_loose n d θ (app t u) h = (instance_loose n d θ t h.0, instance_loose n d θ u h.1)

-- a loose index past the variables; a is the bank where it was seen, made the formula with the types
pub loose_unnamed : (o a now : Nodes) (cs : List code.Declared) (q : Typed) (types : List TypeId) (vs : List TermId) (made : TermId) → Extends o a →
    IsQueryInside o q → tree a made.0 ≡ instance_term (type_at (types_in a types)) (tree a q.formula.0) →
    (LooseBelow (length vs) 0 (tree a made.0) → ⊥) → AreUnnamed now cs q types vs
loose_unnamed o a now cs q types vs made g i e h = λ b m ns n.
    let w = witnesses_long (declared_by b cs) (terms_in b vs) (map (instance (type_at (types_in b types))) (query_of b q).vars) n.values in
    let x = length-map vs (λ t. tree b t.0) in
    let y = length-map (query_of b q).vars (instance (type_at (types_in b types))) in
    let z = length-map q.vars.items (λ v. type_tree b v.1.0) in
    let l : length q.vars.items ≡ length vs = omega (arith, w, x, y, z) in
    h (transport (λ j. LooseBelow (l j) 0 (sym e j)) (instance_loose (length q.vars.items) 0 (type_at (types_in a types)) (tree a q.formula.0) (subst (LooseBelow (length q.vars.items) 0) (sym (g.same_terms q.formula.0 i.formula)) i.indices)))

raised_loose : (c d i : ℕ) → i < d + 0 → (t : Bool) → LooseBelow 0 (suc d) (if t then index i else index (i + 1))
raised_loose c d i l true = omega (arith, l)
raised_loose c d i l false = omega (arith, l)

shift_loose : (c d : ℕ) (t : Term) → LooseBelow 0 d t → LooseBelow 0 (suc d) (replace (raised 1) c t)
shift_loose c d (index i) h = raised_loose c d i h (nat_lt i c)
shift_loose c d (atom a) h = tt
shift_loose c d (abs b) h = shift_loose (suc c) (suc d) b h
shift_loose c d (app t u) h = (shift_loose c d t h.0, shift_loose c d u h.1)

lifted_loose : (n m d : ℕ) (f : ℕ → Term) → m ≡ d + n → ((i : ℕ) → i < m → LooseBelow 0 d (f i)) → (i : ℕ) → i < suc m → LooseBelow 0 (suc d) (lifted f i)
lifted_loose n m d f e h zero l = omega arith
lifted_loose n m d f e h (suc i) l = shift_loose 0 d (f i) (h i (omega (arith, l)))

instantiate_loose : (n m d : ℕ) (f : ℕ → Term) (t : Term) → m ≡ d + n → ((i : ℕ) → i < m → LooseBelow 0 d (f i)) → LooseBelow n d t → LooseBelow 0 d (instantiate f t)
instantiate_loose n m d f (index i) e h l = h i (omega (arith, e, l))
instantiate_loose n m d f (atom a) e h l = tt
instantiate_loose n m d f (abs b) e h l = instantiate_loose n (suc m) (suc d) (lifted f) b (omega (arith, e)) (lifted_loose n m d f e h) l
instantiate_loose n m d f (app t u) e h l = (instantiate_loose n m d f t e h l.0, instantiate_loose n m d f u e h l.1)

value_has : (ts : List Term) → All (IsClosedAt 0) ts → (i : ℕ) → AllAtoms HasClosedTypes (at ts i)
value_has [] h i = tt
value_has (t ∷ ts) h zero = closed_has 0 t (All-head (IsClosedAt 0) t ts h)
value_has (t ∷ ts) h (suc i) = value_has ts (All-tail (IsClosedAt 0) t ts h) i

value_tight : (ts : List Term) → All (IsClosedAt 0) ts → (i : ℕ) → i < length ts → LooseBelow 0 0 (at ts i)
value_tight [] h i l = absurd (omega (arith, l))
value_tight (t ∷ ts) h zero l = closed_loose 0 0 t (All-head (IsClosedAt 0) t ts h)
value_tight (t ∷ ts) h (suc i) l = value_tight ts (All-tail (IsClosedAt 0) t ts h) i (omega (arith, l))

-- the goal with the values: a is the bank where they were put, formula what they were put in
module _ (a now : Nodes) (cs : List code.Declared) (types : List TypeId) (vs : List TermId) (ofs : List TypeId) (formula : TermId)
    (r : Result (Option TermId) Memory) (E : Type 0) (g : Extends a now) (same : Extends now now) (l : formula.0 < length a.terms)
    (tight : LooseBelow (length vs) 0 (tree a formula.0))
    (named : E → (b : Nodes) → Extends now b → AreWitnesses (declared_by b cs) (terms_in b vs) (map (instance (type_at (types_in b types))) (types_in b ofs)))
    (put : IfOk r (λ found. IfSome found (λ made. (b : Nodes) → Extends now b → LooseBelow (length vs) 0 (tree b formula.0) → tree b made.0 ≡ instantiate (λ k. at (terms_in b vs) (length (terms_in b vs) - suc k)) (tree b formula.0)))) where
  closed : E → All (IsClosedAt 0) (terms_in now vs)
  closed e = values_closed (declared_by now cs) (terms_in now vs) (map (instance (type_at (types_in now types))) (types_in now ofs)) (named e now same)

  here : tree now formula.0 ≡ tree a formula.0
  here = g.same_terms formula.0 l

  tight_now : LooseBelow (length vs) 0 (tree now formula.0)
  tight_now = subst (LooseBelow (length vs) 0) (sym here) tight

  goal_is : (made : TermId) → ((b : Nodes) → Extends now b → LooseBelow (length vs) 0 (tree b formula.0) → tree b made.0 ≡ instantiate (λ k. at (terms_in b vs) (length (terms_in b vs) - suc k)) (tree b formula.0)) →
      tree now made.0 ≡ instantiate (λ k. at (terms_in now vs) (length (terms_in now vs) - suc k)) (tree now formula.0)
  goal_is made p = p now same tight_now

  has_one : (o : Option TermId) → AllAtoms HasClosedTypes (tree a formula.0) →
      IfSome o (λ made. (b : Nodes) → Extends now b → LooseBelow (length vs) 0 (tree b formula.0) → tree b made.0 ≡ instantiate (λ k. at (terms_in b vs) (length (terms_in b vs) - suc k)) (tree b formula.0)) → IfSome o (λ goal. E → AllAtoms HasClosedTypes (tree now goal.0))
  has_one None k p = tt
  has_one (Some made) k p = λ e.
      subst (AllAtoms HasClosedTypes) (sym (goal_is made p))
      (instantiate_has (λ k. at (terms_in now vs) (length (terms_in now vs) - suc k)) (tree now formula.0) (λ i. value_has (terms_in now vs) (closed e) (length (terms_in now vs) - suc i)) (subst (AllAtoms HasClosedTypes) (sym here) k))

  tight_one : (o : Option TermId) → IfSome o (λ made. (b : Nodes) → Extends now b → LooseBelow (length vs) 0 (tree b formula.0) → tree b made.0 ≡ instantiate (λ k. at (terms_in b vs) (length (terms_in b vs) - suc k)) (tree b formula.0)) → IfSome o (λ goal. E → LooseBelow 0 0 (tree now goal.0))
  tight_one None p = tt
  tight_one (Some made) p = λ e.
      let n = length-map vs (λ t. tree now t.0) in
      subst (LooseBelow 0 0) (sym (goal_is made p))
      (instantiate_loose (length vs) (length vs) 0 (λ k. at (terms_in now vs) (length (terms_in now vs) - suc k)) (tree now formula.0) (omega arith) (λ i m. value_tight (terms_in now vs) (closed e) (length (terms_in now vs) - suc i) (omega (arith, m, n))) tight_now)

pub goal_has : (a now : Nodes) (cs : List code.Declared) (types : List TypeId) (vs : List TermId) (ofs : List TypeId) (formula : TermId) (r : Result (Option TermId) Memory) (E : Type 0) → Extends a now → Extends now now → formula.0 < length a.terms → LooseBelow (length vs) 0 (tree a formula.0) →
    (E → (b : Nodes) → Extends now b → AreWitnesses (declared_by b cs) (terms_in b vs) (map (instance (type_at (types_in b types))) (types_in b ofs))) →
    IfOk r (λ found. IfSome found (λ made. (b : Nodes) → Extends now b → LooseBelow (length vs) 0 (tree b formula.0) → tree b made.0 ≡ instantiate (λ k. at (terms_in b vs) (length (terms_in b vs) - suc k)) (tree b formula.0))) →
    AllAtoms HasClosedTypes (tree a formula.0) → IfOk r (λ found. IfSome found (λ goal. E → AllAtoms HasClosedTypes (tree now goal.0)))
goal_has a now cs types vs ofs formula (Err x) E g same l tight named put k = tt
goal_has a now cs types vs ofs formula (Ok o) E g same l tight named put k = has_one a now cs types vs ofs formula (Ok o) E g same l tight named put o k put

pub goal_tight : (a now : Nodes) (cs : List code.Declared) (types : List TypeId) (vs : List TermId) (ofs : List TypeId) (formula : TermId) (r : Result (Option TermId) Memory) (E : Type 0) → Extends a now → Extends now now → formula.0 < length a.terms → LooseBelow (length vs) 0 (tree a formula.0) →
    (E → (b : Nodes) → Extends now b → AreWitnesses (declared_by b cs) (terms_in b vs) (map (instance (type_at (types_in b types))) (types_in b ofs))) →
    IfOk r (λ found. IfSome found (λ made. (b : Nodes) → Extends now b → LooseBelow (length vs) 0 (tree b formula.0) → tree b made.0 ≡ instantiate (λ k. at (terms_in b vs) (length (terms_in b vs) - suc k)) (tree b formula.0))) →
    IfOk r (λ found. IfSome found (λ goal. E → LooseBelow 0 0 (tree now goal.0)))
goal_tight a now cs types vs ofs formula (Err x) E g same l tight named put = tt
goal_tight a now cs types vs ofs formula (Ok o) E g same l tight named put = tight_one a now cs types vs ofs formula (Ok o) E g same l tight named put o put

-- the formula with closed types
pub formula_has : (a : Nodes) (types : List TypeId) (formula made : TermId) → tree a made.0 ≡ instance_term (type_at (types_in a types)) (tree a formula.0) → AreClosed (types_in a types) → AllAtoms HasClosedTypes (tree a made.0)
formula_has a types formula made e c = subst (AllAtoms HasClosedTypes) (sym e) (instance_has (types_in a types) (tree a formula.0) c)

-- where values are found, they stand in the bank
pub found_within : (now : Nodes) (r : Result (Option TermId) Memory) (P : Type 0) → P → IfOk r (λ found. IfSome found (λ made. P → made.0 < length now.terms)) → IfOk r (λ found. IfSome found (λ made. made.0 < length now.terms))
found_within now (Err x) P p h = tt
found_within now (Ok None) P p h = tt
found_within now (Ok (Some made)) P p h = h p
