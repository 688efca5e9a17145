-- What is collected of goals, clauses and nodes is what is collected of their parts.
use Rattle.std.proofs.Common.{◌≡◌, ℕ, ℤ, suc, ◌+◌, ◌<◌, List, [], ◌∷◌, ◌++◌, map, length, refl, sym, ap, ◌∙◌, subst, arith, add-one, append-nil, append_assoc, Bool, false, Bor}
use Rattle.std.specs.Prelude.{◌||◌, ◌≢◌, nat_eq}
use Rattle.std.specs.List.{list_any}
use Rattle.std.proofs.lemmas.List.{map-append}
use Rattle.std.proofs.lemmas.List.Folds.{list_any-append}
use Rattle.lp_lemmas.proofs.Booleans.{or_assoc}
use Rattle.lp_calculus.specs.Types.{Ty, var, con, arrow, tys}
use Rattle.lp_calculus.specs.Types as type
use Rattle.lp_calculus.specs.Term.{Term, atom, abs, app, apply, constant, integer, text, eigen, logic}
use Rattle.lp_calculus.specs.Term as term
use Rattle.lp_term.specs.Nodes.{Nodes, type_tree, tree}
use Rattle.lp_term.specs.inner.Walking.{term_size}
use Rattle.lp_term.specs.declared.node.TypeId.{TypeId}
use Rattle.lp_term.specs.declared.node.TermId.{TermId}
use Rattle.lp_model.specs.declared.clause.Goal.{Goal as CodeGoal}
use Rattle.lp_model.specs.declared.clause.Clause.{Clause as CodeClause}
use Rattle.lp_model.specs.Flat.{Goal, Atomic, Cut, Either, Exists, Forall, Assume, Not, Written, Clause, clause, Clauses, clauses, under_all, of_each, loose_in, type_variables, types_variables, collect_goal, collect_goals, collect_clauses}
use Rattle.lp_model.specs.Flattened.{goal_of, goals_of, clause_of, clauses_of}
use Rattle.lp_plain.specs.Collected.{is_in}
use Rattle.lp_plain.specs.declared.free.Part.{Part}
use Rattle.lp_plain.specs.inner.Looking.{weight_of_all, type_weight, term_weight}
use Rattle.lp_plain.specs.inner.Collecting.{Sought, Variable, TypeVariable, in_goals, in_clauses, in_term, in_type, piece, number_of, told_of, told_in, collect_clause, stands, goal_passes, clause_passes, goal_weight, clause_weight, piece_weight, IsSplit, IsPutFor}
use Rattle.lp_plain.proofs.Looks.{weight_append, put_all}
use Rattle.lp_plain.proofs.OpenNodes.{or_none, type_weighs, term_weighs, con_lighter, arrow_lighter, constant_lighter, abs_lighter, app_lighter}

-- parts that are put

pub none_split : (b : Nodes) (old : List Part) (w : ℕ) (P : Sought → Bool) → 0 < w → ((x : Sought) → P x ≡ false) → IsSplit b old old w P
none_split b old w P l h = record { parts = []; more = sym (append-nil old); lighter = l; passes = h }

pub one_split : (b : Nodes) (old new : List Part) (p : Part) (w : ℕ) (P : Sought → Bool) → new ≡ old ++ p ∷ [] → piece_weight b (piece b p) < w → ((x : Sought) → P x ≡ stands b x (piece b p)) → IsSplit b old new w P
one_split b old new p w P e l h = record {
  parts = p ∷ [];
  more = e;
  lighter = (let z : weight_of_all (piece_weight b) (map (piece b) (p ∷ [])) ≡ piece_weight b (piece b p) + 0 = refl in omega (arith, l, z));
  passes = λ x. h x ∙ sym (or_none (stands b x (piece b p)));
}

pub two_split : (b : Nodes) (old mid new : List Part) (p q : Part) (w : ℕ) (P : Sought → Bool) → mid ≡ old ++ p ∷ [] → new ≡ mid ++ q ∷ [] → piece_weight b (piece b p) + piece_weight b (piece b q) < w →
    ((x : Sought) → P x ≡ (stands b x (piece b p) || stands b x (piece b q))) → IsSplit b old new w P
two_split b old mid new p q w P m e l h = record {
  parts = p ∷ q ∷ [];
  more = put_all old mid new p (q ∷ []) m e;
  lighter = (let z : weight_of_all (piece_weight b) (map (piece b) (p ∷ q ∷ [])) ≡ piece_weight b (piece b p) + (piece_weight b (piece b q) + 0) = refl in omega (arith, l, z));
  passes = λ x. h x ∙ ap (λ y. stands b x (piece b p) || y) (sym (or_none (stands b x (piece b q))));
}

-- one part more behind what is put
pub behind_split : (b : Nodes) (old mid new : List Part) (q : Part) (w v : ℕ) (P Q : Sought → Bool) → IsSplit b old mid w P → new ≡ mid ++ q ∷ [] → v ≡ w + piece_weight b (piece b q) → ((x : Sought) → Q x ≡ (P x || stands b x (piece b q))) → IsSplit b old new v Q
behind_split b old mid new q w v P Q s e d h = record {
  parts = s.parts ++ q ∷ [];
  more = e ∙ ap (λ l. l ++ q ∷ []) s.more ∙ append_assoc old s.parts (q ∷ []);
  lighter =
      (let z : weight_of_all (piece_weight b) (map (piece b) (q ∷ [])) ≡ piece_weight b (piece b q) + 0 = refl in
      let k = ap (weight_of_all (piece_weight b)) (map-append (piece b) s.parts (q ∷ [])) ∙ weight_append (piece_weight b) (map (piece b) s.parts) (map (piece b) (q ∷ [])) in
      let l = s.lighter in
      omega (arith, d, z, k, l));
  passes = λ x. h x ∙ ap (λ y. y || stands b x (piece b q)) (s.passes x) ∙ ap (λ y. list_any (stands b x) (map (piece b) s.parts) || y) (sym (or_none (stands b x (piece b q)))) ∙
      sym (ap (list_any (stands b x)) (map-append (piece b) s.parts (q ∷ [])) ∙ list_any-append (stands b x) (map (piece b) s.parts) (map (piece b) (q ∷ [])));
}

in_both : (n : ℕ) (xs ys : List ℕ) → is_in n (xs ++ ys) ≡ (is_in n xs || is_in n ys)
in_both n xs ys = list_any-append (nat_eq n) xs ys

-- goals

module _ (b : Nodes) (d : ℕ) (g : Goal) where
  abbrev Splits : (old new : List Part) → Goal → Type 0
  Splits old new h = IsSplit b old new (goal_weight h) (goal_passes d h)

  pub atom_split : (old new : List Part) (t : TermId) → g ≡ Atomic (tree b t.0) → new ≡ old ++ Part.Term t d ∷ [] → Splits old new g
  atom_split old new t e m = subst (Splits old new) (sym e) (one_split b old new (Part.Term t d) (goal_weight (Atomic (tree b t.0))) (goal_passes d (Atomic (tree b t.0))) m (omega arith) (λ x. refl))

  pub cut_split : (old : List Part) → g ≡ Cut → Splits old old g
  cut_split old e = subst (Splits old old) (sym e) (none_split b old (goal_weight Cut) (goal_passes d Cut) (omega arith) (λ x. refl))

  pub either_split : (old mid new : List Part) (l r : Bor (List CodeGoal)) → g ≡ Either (goals_of b l.now) (goals_of b r.now) → mid ≡ old ++ Part.Goals l d ∷ [] → new ≡ mid ++ Part.Goals r d ∷ [] → Splits old new g
  either_split old mid new l r e m n =
      let h : Goal = Either (goals_of b l.now) (goals_of b r.now) in
      subst (Splits old new) (sym e) (two_split b old mid new (Part.Goals l d) (Part.Goals r d) (goal_weight h) (goal_passes d h) m n (omega arith)
      (λ x. in_both (number_of x) (collect_goals (told_of x) d (goals_of b l.now)) (collect_goals (told_of x) d (goals_of b r.now))))

  pub some_split : (old new : List Part) (T : Ty) (l : Bor (List CodeGoal)) (inner : ℕ) → g ≡ Exists T (goals_of b l.now) → inner ≡ d + 1 → new ≡ old ++ Part.Goals l inner ∷ [] → Splits old new g
  some_split old new T l inner e q n =
      let h : Goal = Exists T (goals_of b l.now) in
      subst (Splits old new) (sym e) (one_split b old new (Part.Goals l inner) (goal_weight h) (goal_passes d h) n (omega arith)
      (λ x. ap (λ k. is_in (number_of x) (collect_goals (told_of x) k (goals_of b l.now))) (sym (q ∙ add-one d))))

  pub all_split : (old new : List Part) (T : Ty) (l : Bor (List CodeGoal)) (inner : ℕ) → g ≡ Forall T (goals_of b l.now) → inner ≡ d + 1 → new ≡ old ++ Part.Goals l inner ∷ [] → Splits old new g
  all_split old new T l inner e q n =
      let h : Goal = Forall T (goals_of b l.now) in
      subst (Splits old new) (sym e) (one_split b old new (Part.Goals l inner) (goal_weight h) (goal_passes d h) n (omega arith)
      (λ x. ap (λ k. is_in (number_of x) (collect_goals (told_of x) k (goals_of b l.now))) (sym (q ∙ add-one d))))

  pub assume_split : (old mid new : List Part) (w : Written) (cs : Bor (List CodeClause)) (l : Bor (List CodeGoal)) → g ≡ Assume w (clauses_of b cs.now) (goals_of b l.now) → mid ≡ old ++ Part.Clauses cs d ∷ [] → new ≡ mid ++ Part.Goals l d ∷ [] → Splits old new g
  assume_split old mid new w cs l e m n =
      let h : Goal = Assume w (clauses_of b cs.now) (goals_of b l.now) in
      subst (Splits old new) (sym e) (two_split b old mid new (Part.Clauses cs d) (Part.Goals l d) (goal_weight h) (goal_passes d h) m n (omega arith)
      (λ x. in_both (number_of x) (collect_clauses (told_of x) d (clauses_of b cs.now)) (collect_goals (told_of x) d (goals_of b l.now))))

  pub not_split : (old new : List Part) (w : Written) (l : Bor (List CodeGoal)) → g ≡ Not w (goals_of b l.now) → new ≡ old ++ Part.Goals l d ∷ [] → Splits old new g
  not_split old new w l e n =
      let h : Goal = Not w (goals_of b l.now) in
      subst (Splits old new) (sym e) (one_split b old new (Part.Goals l d) (goal_weight h) (goal_passes d h) n (omega arith) (λ x. refl))

pub no_goals_split : (b : Nodes) (d : ℕ) (old : List Part) (gs : List CodeGoal) → gs ≡ [] → IsPutFor b old old (in_goals d (goals_of b gs))
no_goals_split b d old gs e = subst (λ l. IsPutFor b old old (in_goals d (goals_of b l))) (sym e) (none_split b old 1 (λ x. false) (omega arith) (λ x. refl))

pub goals_split : (b : Nodes) (d : ℕ) (old mid new : List Part) (gs : List CodeGoal) (g : CodeGoal) (rest : Bor (List CodeGoal)) → gs ≡ g ∷ rest.now → IsSplit b old mid (goal_weight (goal_of b g)) (goal_passes d (goal_of b g)) →
    new ≡ mid ++ Part.Goals rest d ∷ [] → IsPutFor b old new (in_goals d (goals_of b gs))
goals_split b d old mid new gs g rest e s n =
    subst (λ l. IsPutFor b old new (in_goals d (goals_of b l))) (sym e) (behind_split b old mid new (Part.Goals rest d) (goal_weight (goal_of b g)) (piece_weight b (in_goals d (goals_of b (g ∷ rest.now))))
    (goal_passes d (goal_of b g)) (λ x. stands b x (in_goals d (goals_of b (g ∷ rest.now)))) s n refl
    (λ x. in_both (number_of x) (collect_goal (told_of x) d (goal_of b g)) (collect_goals (told_of x) d (goals_of b rest.now))))

-- clauses

under_length : (vs : List Ty) (d : ℕ) → under_all suc vs d ≡ d + length vs
under_length [] d = omega arith
under_length (v ∷ vs) d = let e = under_length vs d in omega (arith, e)

pub clause_split : (b : Nodes) (d inner n : ℕ) (c : Clause) (old mid new : List Part) (vs : List Ty) (h : TermId) (body : Bor (List CodeGoal)) → c ≡ clause n vs (tree b h.0) (goals_of b body.now) → inner ≡ d + length vs →
    mid ≡ old ++ Part.Term h inner ∷ [] → new ≡ mid ++ Part.Goals body inner ∷ [] → IsSplit b old new (clause_weight c) (clause_passes d c)
clause_split b d inner n c old mid new vs h body e q m k =
    let x : Clause = clause n vs (tree b h.0) (goals_of b body.now) in
    subst (λ c. IsSplit b old new (clause_weight c) (clause_passes d c)) (sym e) (two_split b old mid new (Part.Term h inner) (Part.Goals body inner) (clause_weight x) (clause_passes d x) m k (omega arith)
    (λ s. ap (λ i. is_in (number_of s) (told_of s i (tree b h.0) ++ collect_goals (told_of s) i (goals_of b body.now))) (under_length vs d ∙ sym q) ∙
    in_both (number_of s) (told_of s inner (tree b h.0)) (collect_goals (told_of s) inner (goals_of b body.now))))

pub no_clauses_split : (b : Nodes) (d : ℕ) (old : List Part) (cs : List CodeClause) → cs ≡ [] → IsPutFor b old old (in_clauses d (clauses_of b cs))
no_clauses_split b d old cs e = subst (λ l. IsPutFor b old old (in_clauses d (clauses_of b l))) (sym e) (none_split b old 1 (λ x. false) (omega arith) (λ x. refl))

first_clause : (f : ℕ → Term → List ℕ) (d : ℕ) (c : Clause) (cs : Clauses) → collect_clauses f d (clauses c cs) ≡ collect_clause f d c ++ collect_clauses f d cs
first_clause f d (clause n vs h b) cs = refl

pub clauses_split : (b : Nodes) (d : ℕ) (old mid new : List Part) (cs : List CodeClause) (c : CodeClause) (rest : Bor (List CodeClause)) → cs ≡ c ∷ rest.now → IsSplit b old mid (clause_weight (clause_of b c)) (clause_passes d (clause_of b c)) →
    new ≡ mid ++ Part.Clauses rest d ∷ [] → IsPutFor b old new (in_clauses d (clauses_of b cs))
clauses_split b d old mid new cs c rest e s n =
    subst (λ l. IsPutFor b old new (in_clauses d (clauses_of b l))) (sym e) (behind_split b old mid new (Part.Clauses rest d) (clause_weight (clause_of b c)) (piece_weight b (in_clauses d (clauses_of b (c ∷ rest.now))))
    (clause_passes d (clause_of b c)) (λ x. stands b x (in_clauses d (clauses_of b (c ∷ rest.now)))) s n refl
    (λ x. ap (is_in (number_of x)) (first_clause (told_of x) d (clause_of b c) (clauses_of b rest.now)) ∙
    in_both (number_of x) (collect_clause (told_of x) d (clause_of b c)) (collect_clauses (told_of x) d (clauses_of b rest.now))))

-- nodes

no_number : {I : Type 0} (n : ℕ) (is : List I) → false ≡ list_any (λ i. is_in n []) is
no_number n [] = refl
no_number n (i ∷ is) = no_number n is

told_both : (x : Sought) (d : ℕ) (t u : Term) → is_in (number_of x) (told_of x d (app t u)) ≡ (is_in (number_of x) (told_of x d t) || is_in (number_of x) (told_of x d u))
told_both (Variable n) d t u = in_both n (loose_in d t) (loose_in d u)
told_both (TypeVariable n) d t u = in_both n (told_of (TypeVariable n) d t) (told_of (TypeVariable n) d u)

told_under : (x : Sought) (d : ℕ) (t : Term) → told_of x d (abs t) ≡ told_of x (suc d) t
told_under (Variable n) d t = refl
told_under (TypeVariable n) d t = refl

told_applied : (x : Sought) (d : ℕ) (τ : ℕ → Term) (h : Term) (is : List ℕ) →
    is_in (number_of x) (told_of x d (apply h (map τ is))) ≡ (is_in (number_of x) (told_of x d h) || list_any (λ i. is_in (number_of x) (told_of x d (τ i))) is)
told_applied x d τ h [] = sym (or_none (is_in (number_of x) (told_of x d h)))
told_applied x d τ h (i ∷ is) =
    let P : Term → Bool = λ t. is_in (number_of x) (told_of x d t) in
    told_applied x d τ (app h (τ i)) is ∙ ap (λ y. y || list_any (λ i. P (τ i)) is) (told_both x d h (τ i)) ∙ or_assoc (P h) (P (τ i)) (list_any (λ i. P (τ i)) is)

each_types : (n : ℕ) (θ : ℕ → Ty) (is : List ℕ) → is_in n (of_each type_variables (map θ is)) ≡ list_any (λ i. is_in n (type_variables (θ i))) is
each_types n θ [] = refl
each_types n θ (i ∷ is) = in_both n (type_variables (θ i)) (of_each type_variables (map θ is)) ∙ ap (λ y. is_in n (type_variables (θ i)) || y) (each_types n θ is)

told_constant : (x : Sought) (d c : ℕ) (θ : ℕ → Ty) (is : List ℕ) → is_in (number_of x) (told_of x d (atom (constant c (map θ is)))) ≡ list_any (λ i. is_in (number_of x) (told_in x (θ i))) is
told_constant (Variable n) d c θ is = no_number n is
told_constant (TypeVariable n) d c θ is = each_types n θ is

told_typed_param : (x : Sought) (d k : ℕ) (T : Ty) → is_in (number_of x) (told_of x d (atom (term.param k T))) ≡ is_in (number_of x) (told_in x T)
told_typed_param (Variable n) d k T = refl
told_typed_param (TypeVariable n) d k T = refl

parts_types : (n : ℕ) (θ : ℕ → Ty) (is : List ℕ) → is_in n (types_variables (tys (map θ is))) ≡ list_any (λ i. is_in n (type_variables (θ i))) is
parts_types n θ [] = refl
parts_types n θ (i ∷ is) = in_both n (type_variables (θ i)) (types_variables (tys (map θ is))) ∙ ap (λ y. is_in n (type_variables (θ i)) || y) (parts_types n θ is)

told_con : (x : Sought) (c : ℕ) (θ : ℕ → Ty) (is : List ℕ) → is_in (number_of x) (told_in x (con c (tys (map θ is)))) ≡ list_any (λ i. is_in (number_of x) (told_in x (θ i))) is
told_con (Variable n) c θ is = no_number n is
told_con (TypeVariable n) c θ is = parts_types n θ is

told_arrow : (x : Sought) (S T : Ty) → is_in (number_of x) (told_in x (arrow S T)) ≡ (is_in (number_of x) (told_in x S) || is_in (number_of x) (told_in x T))
told_arrow (Variable n) S T = refl
told_arrow (TypeVariable n) S T = in_both n (type_variables S) (type_variables T)

terms_any : (b : Nodes) (x : Sought) (d : ℕ) (ts : List TermId) → list_any (λ i. is_in (number_of x) (told_of x d (tree b i))) (map (λ t. t.0) ts) ≡ list_any (stands b x) (map (piece b) (map (λ t. Part.Term t d) ts))
terms_any b x d [] = refl
terms_any b x d (t ∷ ts) = ap (λ y. stands b x (in_term d t.0) || y) (terms_any b x d ts)

types_any : (b : Nodes) (x : Sought) (ts : List TypeId) → list_any (λ i. is_in (number_of x) (told_in x (type_tree b i))) (map (λ t. t.0) ts) ≡ list_any (stands b x) (map (piece b) (map (λ t. Part.Type t) ts))
types_any b x [] = refl
types_any b x (t ∷ ts) = ap (λ y. stands b x (in_type t.0) || y) (types_any b x ts)

terms_weigh : (b : Nodes) (d : ℕ) (ts : List TermId) → weight_of_all (piece_weight b) (map (piece b) (map (λ t. Part.Term t d) ts)) ≡ weight_of_all (term_weight b) (map (λ t. t.0) ts)
terms_weigh b d [] = refl
terms_weigh b d (t ∷ ts) = ap (λ n. term_weight b t.0 + n) (terms_weigh b d ts)

types_weigh : (b : Nodes) (ts : List TypeId) → weight_of_all (piece_weight b) (map (piece b) (map (λ t. Part.Type t) ts)) ≡ weight_of_all (type_weight b) (map (λ t. t.0) ts)
types_weigh b [] = refl
types_weigh b (t ∷ ts) = ap (λ n. type_weight b t.0 + n) (types_weigh b ts)

pub constant_split : (b : Nodes) (d i c : ℕ) (old new : List Part) (ts : List TypeId) → atom (constant c (map (type_tree b) (map (λ t. t.0) ts))) ≡ tree b i → new ≡ old ++ map (λ t. Part.Type t) ts → IsPutFor b old new (in_term d i)
constant_split b d i c old new ts e m = record {
  parts = map (λ t. Part.Type t) ts;
  more = m;
  lighter = (let l = constant_lighter b i c (map (λ t. t.0) ts) e in let w = types_weigh b ts in omega (arith, l, w));
  passes = λ x. ap (λ t. is_in (number_of x) (told_of x d t)) (sym e) ∙ told_constant x d c (type_tree b) (map (λ t. t.0) ts) ∙ types_any b x ts;
}

pub abs_split : (b : Nodes) (d inner i : ℕ) (old new : List Part) (t : TermId) → abs (tree b t.0) ≡ tree b i → inner ≡ d + 1 → new ≡ old ++ Part.Term t inner ∷ [] → IsPutFor b old new (in_term d i)
abs_split b d inner i old new t e q m =
    let l = abs_lighter b i t.0 e in
    let z : weight_of_all (term_weight b) (t.0 ∷ []) ≡ term_weight b t.0 + 0 = refl in
    one_split b old new (Part.Term t inner) (piece_weight b (in_term d i)) (λ x. stands b x (in_term d i)) m (omega (arith, l, z))
    (λ x. ap (λ u. is_in (number_of x) (told_of x d u)) (sym e) ∙ ap (is_in (number_of x)) (told_under x d (tree b t.0)) ∙ ap (λ k. is_in (number_of x) (told_of x k (tree b t.0))) (sym (q ∙ add-one d)))

pub app_split : (b : Nodes) (d i : ℕ) (old mid new : List Part) (h : TermId) (ts : List TermId) → apply (tree b h.0) (map (tree b) (map (λ t. t.0) ts)) ≡ tree b i → map (λ t. t.0) ts ≢ [] →
    mid ≡ old ++ Part.Term h d ∷ [] → new ≡ mid ++ map (λ t. Part.Term t d) ts → IsPutFor b old new (in_term d i)
app_split b d i old mid new h ts e n m k = record {
  parts = Part.Term h d ∷ map (λ t. Part.Term t d) ts;
  more = put_all old mid new (Part.Term h d) (map (λ t. Part.Term t d) ts) m k;
  lighter = (let l = app_lighter b i h.0 (map (λ t. t.0) ts) e n in let w = terms_weigh b d ts in omega (arith, l, w));
  passes = λ x. ap (λ u. is_in (number_of x) (told_of x d u)) (sym e) ∙ told_applied x d (tree b) (tree b h.0) (map (λ t. t.0) ts) ∙ ap (λ y. stands b x (in_term d h.0) || y) (terms_any b x d ts);
}

pub typed_param_split : (b : Nodes) (d i k : ℕ) (old new : List Part) (t : TypeId) → atom (term.param k (type_tree b t.0)) ≡ tree b i → new ≡ old ++ Part.Type t ∷ [] → IsPutFor b old new (in_term d i)
typed_param_split b d i k old new t e m =
    let q = ap term_size (sym e) in
    one_split b old new (Part.Type t) (piece_weight b (in_term d i)) (λ x. stands b x (in_term d i)) m (omega (arith, q))
    (λ x. ap (λ u. is_in (number_of x) (told_of x d u)) (sym e) ∙ told_typed_param x d k (type_tree b t.0))

pub con_split : (b : Nodes) (i c : ℕ) (old new : List Part) (ts : List TypeId) → con c (tys (map (type_tree b) (map (λ t. t.0) ts))) ≡ type_tree b i → new ≡ old ++ map (λ t. Part.Type t) ts → IsPutFor b old new (in_type i)
con_split b i c old new ts e m = record {
  parts = map (λ t. Part.Type t) ts;
  more = m;
  lighter = (let l = con_lighter b i c (map (λ t. t.0) ts) e in let w = types_weigh b ts in omega (arith, l, w));
  passes = λ x. ap (λ t. is_in (number_of x) (told_in x t)) (sym e) ∙ told_con x c (type_tree b) (map (λ t. t.0) ts) ∙ types_any b x ts;
}

pub arrow_split : (b : Nodes) (i : ℕ) (old mid new : List Part) (s t : TypeId) → arrow (type_tree b s.0) (type_tree b t.0) ≡ type_tree b i → mid ≡ old ++ Part.Type s ∷ [] → new ≡ mid ++ Part.Type t ∷ [] → IsPutFor b old new (in_type i)
arrow_split b i old mid new s t e m n =
    let l = arrow_lighter b i s.0 t.0 e in
    let z : weight_of_all (type_weight b) (s.0 ∷ t.0 ∷ []) ≡ type_weight b s.0 + (type_weight b t.0 + 0) = refl in
    two_split b old mid new (Part.Type s) (Part.Type t) (piece_weight b (in_type i)) (λ x. stands b x (in_type i)) m n (omega (arith, l, z))
    (λ x. ap (λ u. is_in (number_of x) (told_in x u)) (sym e) ∙ told_arrow x (type_tree b s.0) (type_tree b t.0))

-- nodes without parts

leaf_split : (b : Nodes) (d i : ℕ) (old : List Part) (t : Term) → t ≡ tree b i → ((x : Sought) → told_of x d t ≡ []) → IsPutFor b old old (in_term d i)
leaf_split b d i old t e h = none_split b old (piece_weight b (in_term d i)) (λ x. stands b x (in_term d i)) (term_weighs (tree b i)) (λ x. ap (λ u. is_in (number_of x) (told_of x d u)) (sym e) ∙ ap (is_in (number_of x)) (h x))

pub integer_split : (b : Nodes) (d i : ℕ) (old : List Part) (z : ℤ) → atom (integer z) ≡ tree b i → IsPutFor b old old (in_term d i)
integer_split b d i old z e = leaf_split b d i old (atom (integer z)) e by
  where
    by : (x : Sought) → told_of x d (atom (integer z)) ≡ []
    by (Variable n) = refl
    by (TypeVariable n) = refl

pub text_split : (b : Nodes) (d i : ℕ) (old : List Part) (s : List ℕ) → atom (text s) ≡ tree b i → IsPutFor b old old (in_term d i)
text_split b d i old s e = leaf_split b d i old (atom (text s)) e by
  where
    by : (x : Sought) → told_of x d (atom (text s)) ≡ []
    by (Variable n) = refl
    by (TypeVariable n) = refl

pub eigen_split : (b : Nodes) (d i : ℕ) (old : List Part) (k : ℕ) → atom (eigen k) ≡ tree b i → IsPutFor b old old (in_term d i)
eigen_split b d i old k e = leaf_split b d i old (atom (eigen k)) e by
  where
    by : (x : Sought) → told_of x d (atom (eigen k)) ≡ []
    by (Variable n) = refl
    by (TypeVariable n) = refl

pub logic_split : (b : Nodes) (d i : ℕ) (old : List Part) (y l : ℕ) → atom (logic y l) ≡ tree b i → IsPutFor b old old (in_term d i)
logic_split b d i old y l e = leaf_split b d i old (atom (logic y l)) e by
  where
    by : (x : Sought) → told_of x d (atom (logic y l)) ≡ []
    by (Variable n) = refl
    by (TypeVariable n) = refl

pub param_split : (b : Nodes) (i : ℕ) (old : List Part) (k : ℕ) → type.param k ≡ type_tree b i → IsPutFor b old old (in_type i)
param_split b i old k e = none_split b old (piece_weight b (in_type i)) (λ x. stands b x (in_type i)) (type_weighs (type_tree b i)) (λ x. ap (λ u. is_in (number_of x) (told_in x u)) (sym e) ∙ by x)
  where
    by : (x : Sought) → is_in (number_of x) (told_in x (type.param k)) ≡ false
    by (Variable n) = refl
    by (TypeVariable n) = refl
