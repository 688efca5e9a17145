-- What an atom at the front of a branch leaves, by its head.
use Rattle.lp_proof_laws.proofs.Uniform.Settings.{IsSetting}
use Rattle.std.proofs.Common.{◌≡◌, ℕ, zero, suc, ◌≤◌, List, [], ◌∷◌, map, Option, Some, None, ◌∙◌, refl, sym, ap, subst as transport, arith, inl, inr, Bool, true, false, nat_eq, if◌then◌else◌}
use Rattle.std.specs.Prelude.{nat_le, ◌&&◌}
use Rattle.std.proofs.lemmas.Bool.Decides.{nat_tests}
use Rattle.lp_calculus.specs.Types.{Ty, instance, arrow}
use Rattle.lp_calculus.specs.Term.{Term, Atom, abs, index, atom, app, apply, constant, integer, text, eigen, logic, param}
use Rattle.lp_calculus.specs.Convert.{head_step, option_term}
use Rattle.lp_calculus.specs.Typing.{HasType, HaveTypes, Typed, o_type, atom_type}
use Rattle.lp_calculus.proofs.Typings.{typed_parts}
use Rattle.lp_model.specs.Unify.{unit_limit}
use Rattle.lp_model.specs.declared.ending.Ending.TheVariants.{Flexible}
use Rattle.lp_model.specs.Look.{head_normal}
use Rattle.lp_calculus.specs.Spine.{head_of, arguments}
use Rattle.lp_model.specs.Pair.{Closing, closed}
use Rattle.lp_standard.specs.Connectives.{two, connective_of, connective_at, connective_of_constant}
use Rattle.lp_standard.specs.Connectives as connective
use Rattle.lp_model.specs.Flat.{Atomic, Clause}
use Rattle.lp_model.specs.Flatten.{ClauseFormula}
use Rattle.lp_model.specs.Branch.{Entry, Branch, Task}
use Rattle.lp_model.specs.Values.{evaluate}
use Rattle.lp_model.specs.Answers.{Query, AnswerTyping, Closes, over}
use Rattle.lp_model.specs.Proofs.{by_failure, Declared, IsFormula, IsAtomHead, RootedBy, trivially, both_sides, left_side, right_side, at_witness, for_all, under_assumption, equally, by_arithmetic, by_clause, Leaves, ProvableBy}
use Rattle.lp_model.specs.Search.{with_goals, look_atom, look_constant, tries, goal_looked, equated, assigned, compared}
use Rattle.lp_proof_laws.proofs.Uniform.Forms.{apply_arguments}
use Rattle.lp_proof_laws.proofs.Uniform.Roots.{rooted_by, head_apply}
use Rattle.lp_search_laws.specs.Holds.{Holds}
use Rattle.lp_search_laws.specs.Clauses.{clauses_at}
use Rattle.lp_search_laws.specs.Branches.{going}
use Rattle.lp_search_laws.specs.Views.{StandFor, IsRightView}
use Rattle.lp_search_laws.proofs.Formed.{formula_at}
use Rattle.lp_search_laws.proofs.Standing.{stopped}
use Rattle.lp_search_laws.proofs.Fronts.{Typings, Typed as IsTypedHere}
use Rattle.lp_search_laws.proofs.FormViews.{form_typed, by_form}
use Rattle.lp_search_laws.proofs.AtomKinds.{AtomKind, declared, equality, assignment, order, atom_kind}

-- head-normal forms
abbrev Ended : (o : Option Term) → ℕ → Term → Option Term
Ended o n t = elim o [ None ↦ Some t | Some s ↦ head_normal n s ]

pub head_ended : (n : ℕ) (t u : Term) → head_normal n t ≡ Some u → head_step u ≡ None
head_ended zero t u e = absurd (cc)
head_ended (suc n) t u e = go (λ s h. head_ended n s u h) (head_step t) refl e
  where
    go : ((s : Term) → head_normal n s ≡ Some u → head_step u ≡ None) → (o : Option Term) → head_step t ≡ o → Ended o n t ≡ Some u → head_step u ≡ None
    go f None i h = let g : t ≡ u = cc in transport (λ z. head_step z ≡ None) g i
    go f (Some s) i h = f s h

no_redex : (us : List Term) (t u s : Term) → head_step (app t u) ≡ Some s → head_step (apply (app t u) us) ≡ None → ⊥
no_redex [] t u s e h = absurd (cc)
no_redex (x ∷ us) t u s e h = no_redex us (app t u) x (app s x) (ap (option_term (λ z. app z x)) e) h

no_app : (u f a : Term) → head_of u ≡ app f a → ⊥
no_app (index i) f a e = cc
no_app (atom x) f a e = cc
no_app (abs b) f a e = cc
no_app (app t v) f a e = no_app t f a e

-- an atom that is no constant and no eigenconstant is provable by no rule
abbrev IsNoHead : Atom → Type 0
IsNoHead (constant c ts) = ⊥
IsNoHead (eigen k) = ⊥
IsNoHead (integer z) = Unit {0}
IsNoHead (text s) = Unit {0}
IsNoHead (logic x l) = Unit {0}
IsNoHead (param k T) = Unit {0}

no_constant : (a : Atom) (c : ℕ) (ts : List Ty) → IsNoHead a → atom a ≡ atom (constant c ts) → ⊥
no_constant a c ts n e = let g : a ≡ constant c ts = cc in transport IsNoHead g n

no_atom_head : (a : Atom) → IsNoHead a → IsAtomHead (atom a) → ⊥
no_atom_head (constant c ts) n h = n
no_atom_head (eigen k) n h = n
no_atom_head (integer z) n h = h
no_atom_head (text s) n h = h
no_atom_head (logic x l) n h = h
no_atom_head (param k T) n h = h

no_root : {L : Leaves} (d : Declared) (E : List Ty) (R : List ClauseFormula) (G : Term) (a : Atom) → head_of G ≡ atom a → IsNoHead a → RootedBy L d E R G → ⊥
no_root {L} d E R G a e n (trivially (inl x)) = no_constant a 6 [] n (sym e ∙ ap head_of x)
no_root {L} d E R G a e n (trivially (inr x)) = no_constant a 7 [] n (sym e ∙ ap head_of x)
no_root {L} d E R G a e n (both_sides A B x p r) = no_constant a 0 [] n (sym e ∙ ap head_of x)
no_root {L} d E R G a e n (left_side A B x p) = no_constant a 1 [] n (sym e ∙ ap head_of x)
no_root {L} d E R G a e n (right_side A B x p) = no_constant a 1 [] n (sym e ∙ ap head_of x)
no_root {L} d E R G a e n (at_witness T s t x w p) = no_constant a 5 (T ∷ []) n (sym e ∙ ap head_of x)
no_root {L} d E R G a e n (for_all T s x p) = no_constant a 4 (T ∷ []) n (sym e ∙ ap head_of x)
no_root {L} d E R G a e n (under_assumption D A (inl x) p) = no_constant a 2 [] n (sym e ∙ ap head_of x)
no_root {L} d E R G a e n (under_assumption D A (inr x) p) = no_constant a 3 [] n (sym e ∙ ap head_of x)
no_root {L} d E R G a e n (equally T t u x p) = no_constant a 8 (T ∷ []) n (sym e ∙ ap head_of x)
no_root {L} d E R G a e n (by_arithmetic (inl x)) = no_constant a 9 (x.0 ∷ []) n (sym e ∙ ap head_of x.4)
no_root {L} d E R G a e n (by_arithmetic (inr x)) = no_constant a x.0 [] n (sym e ∙ ap head_of x.7)
no_root {L} d E R G a e n (by_failure K x f h) = no_constant a 24 [] n (sym e ∙ ap head_of x)
no_root {L} d E R G a e n (by_clause i D ts x l k h r) = no_atom_head a n (transport IsAtomHead e h)

module _ {L : Leaves} (n : ℕ) (d : Declared) (std : IsSetting L d) (P : List Clause) (q : Query) (z : AnswerTyping) (b : Branch) (E : List Ty) (Es : List (List Ty)) (e : Entry) (es : List Entry) (h : IsTypedHere n d P q z b E Es e es)
    (t u : Term) (i : e.goal ≡ Atomic t) (r : head_normal n t ≡ Some u) (plain : connective_of u ≡ connective.Atomic) where
  abbrev Stands : List Task → Type 0
  Stands ts = StandFor L n d P q (going (Typings n d P q z b E Es e es (E ∷ Es)) (with_goals b (e ∷ es))) ts

  -- the goal on the head and the arguments
  spine : apply (head_of u) (arguments u) ≡ u
  spine = apply_arguments u []

  on_head : (t' : Term) → head_of u ≡ t' → apply t' (arguments u) ≡ u
  on_head t' x = transport (λ y. apply y (arguments u) ≡ u) x spine

  parts : (t' : Term) → head_of u ≡ t' → (A : Ty) × HasType (atom_type (over d E z.variables)) [] t' A × HaveTypes (atom_type (over d E z.variables)) [] A (arguments u) o_type
  parts t' x = typed_parts (atom_type (over d E z.variables)) [] t' (arguments u) o_type (transport (λ y. Typed (over d E z.variables) [] y o_type) (sym (on_head t' x)) (form_typed n d std P q z b E Es e es h t u i r).typed)

  -- nothing makes it provable
  nothing_stands : ((c : Closing) → Closes d z.variables c → Holds L d (map (instance c.types) E) (clauses_at P e.assumed c) c u → ⊥) → Stands []
  nothing_stands f = record {
    typed = [];
    is = refl;
    ok = tt;
    given = tt;
    keeps = λ j s. absurd (f s.answer.closing s.answer.closes ((by_form n d std P q z b E Es e es h t u i r s.answer.closing s.answer.closes).0 s.proved.0));
    gives = λ j s. absurd s;
  }

  head_closed : (c : Closing) (x : Term) (k : ℕ) (T : Ty) → head_of x ≡ atom (param k T) → head_of (closed c x) ≡ atom (param k (instance c.types T))
  head_closed c (index j) k T e' = absurd (cc)
  head_closed c (abs x) k T e' = absurd (cc)
  head_closed c (app x y) k T e' = head_closed c x k T e'
  head_closed c (atom (constant m ts)) k T e' = absurd (cc)
  head_closed c (atom (integer m)) k T e' = absurd (cc)
  head_closed c (atom (text m)) k T e' = absurd (cc)
  head_closed c (atom (eigen m)) k T e' = absurd (cc)
  head_closed c (atom (logic m l)) k T e' = absurd (cc)
  head_closed c (atom (param m U)) k T e' = let g : m ≡ k = cc in let g' : U ≡ T = cc in λ j. atom (param (g j) (instance c.types (g' j)))

  parameter : (k : ℕ) (T : Ty) → head_of u ≡ atom (param k T) → (c : Closing) → Closes d z.variables c → Holds L d (map (instance c.types) E) (clauses_at P e.assumed c) c u → ⊥
  parameter k T x c l p =
      let E' = map (instance c.types) E in
      let R = clauses_at P e.assumed c in
      let y = head_closed c u k T x in
      let s : apply (atom (param k (instance c.types T))) (arguments (closed c u)) ≡ closed c u = transport (λ w. apply w (arguments (closed c u)) ≡ closed c u) y (apply_arguments (closed c u) []) in
      let f = transport (IsFormula d E') (sym s) (formula_at d z.variables c l E u (form_typed n d std P q z b E Es e es h t u i r)) in
      let p' = transport (ProvableBy L d E' R) (sym s) p in
      no_root d E' R _ (param k (instance c.types T)) (head_apply (atom (param k (instance c.types T))) (arguments (closed c u))) tt (rooted_by L d std.standard E' R (param k (instance c.types T)) (arguments (closed c u)) f (std.converting R) p')

  -- a head of a basic type takes no argument and is no atom
  no_basic : (A : Ty) → ((B D : Ty) → A ≡ arrow B D → ⊥) → (A ≡ o_type → ⊥) → (us : List Term) → HaveTypes (atom_type (over d E z.variables)) [] A us o_type → ⊥
  no_basic A x y [] w = y w
  no_basic A x y (v ∷ us) w = x w.0 w.1 w.2

  ended_abs : (x : Term) (us : List Term) → head_step (apply (abs x) us) ≡ None → Typed (over d E z.variables) [] (apply (abs x) us) o_type → ⊥
  ended_abs x [] f w = let g = w.2 in cc
  ended_abs x (y ∷ us) f w = no_redex us (abs x) y _ refl f

  -- what is owed for the atoms that are called
  module _ (height : ℕ)
      (tried : IsAtomHead (head_of u) → Stands (tries P e (with_goals b es) height (goal_looked n u)))
      (equal : (T : Ty) (l w : Term) → u ≡ two 8 (T ∷ []) l w → Stands (equated unit_limit n e.level l w (with_goals b es)))
      (assign : (T : Ty) (l w : Term) → u ≡ two 9 (T ∷ []) l w → Stands (assigned unit_limit n e.level l (with_goals b es) (evaluate n w)))
      (compare : (c : ℕ) (l w : Term) → 10 ≤ c → c ≤ 13 → u ≡ two c [] l w → Stands (compared c (with_goals b es) (evaluate n l) (evaluate n w))) where
    abbrev Called : ℕ → List Term → List Task
    Called c us = look_constant unit_limit n P height e (with_goals b es) u c us

    by_kind : (c : ℕ) (ts : List Ty) → head_of u ≡ atom (constant c ts) → AtomKind c ts (arguments u) → Stands (look_constant unit_limit n P height e (with_goals b es) u c (arguments u))
    by_kind c ts x (declared l) = transport Stands (sym (go (arguments u))) (tried (transport IsAtomHead (sym x) l))
      where
        ifs : (p q' r' : Bool) (A B C D : List Task) → p ≡ false → q' ≡ false → r' ≡ false → (if p then A else (if q' then B else (if r' then C else D))) ≡ D
        ifs p q' r' A B C D e1 e2 e3 = ap (λ v. if v then A else (if q' then B else (if r' then C else D))) e1 ∙ ap (λ v. if v then B else (if r' then C else D)) e2 ∙ ap (λ v. if v then C else D) e3

        go : (us : List Term) → look_constant unit_limit n P height e (with_goals b es) u c us ≡ tries P e (with_goals b es) height (goal_looked n u)
        go [] = refl
        go (v ∷ []) = refl
        go (v ∷ w ∷ []) =
            let e1 : nat_eq c 8 ≡ false = grind (arith, nat_tests) in
            let e2 : nat_eq c 9 ≡ false = grind (arith, nat_tests) in
            let e3 : (nat_le 10 c && nat_le c 13) ≡ false = grind (arith, nat_tests) in
            ifs _ _ _ _ _ _ _ e1 e2 e3
        go (v ∷ w ∷ y ∷ us) = refl
    by_kind c ts x (equality T l w y j k) =
        let s : two 8 (T ∷ []) l w ≡ u = transport (λ m. two m (T ∷ []) l w ≡ u) y (transport (λ m. two c m l w ≡ u) j (transport (λ us. apply (atom (constant c ts)) us ≡ u) k (on_head (atom (constant c ts)) x))) in
        transport (λ us. Stands (Called c us)) (sym k) (transport (λ m. Stands (Called m (l ∷ w ∷ []))) (sym y) (equal T l w (sym s)))
    by_kind c ts x (assignment T l w y j k) =
        let s : two 9 (T ∷ []) l w ≡ u = transport (λ m. two m (T ∷ []) l w ≡ u) y (transport (λ m. two c m l w ≡ u) j (transport (λ us. apply (atom (constant c ts)) us ≡ u) k (on_head (atom (constant c ts)) x))) in
        transport (λ us. Stands (Called c us)) (sym k) (transport (λ m. Stands (Called m (l ∷ w ∷ []))) (sym y) (assign T l w (sym s)))
    by_kind c ts x (order l w y y' j k) =
        let s : two c [] l w ≡ u = transport (λ m. two c m l w ≡ u) j (transport (λ us. apply (atom (constant c ts)) us ≡ u) k (on_head (atom (constant c ts)) x)) in
        transport (λ us. Stands (Called c us)) (sym k) (transport Stands (sym called) (compare c l w y y' (sym s)))
      where
        ifs : (p q' r' : Bool) (A B C D : List Task) → p ≡ false → q' ≡ false → r' ≡ true → (if p then A else (if q' then B else (if r' then C else D))) ≡ C
        ifs p q' r' A B C D e1 e2 e3 = ap (λ v. if v then A else (if q' then B else (if r' then C else D))) e1 ∙ ap (λ v. if v then B else (if r' then C else D)) e2 ∙ ap (λ v. if v then C else D) e3

        called : Called c (l ∷ w ∷ []) ≡ compared c (with_goals b es) (evaluate n l) (evaluate n w)
        called =
            let e1 : nat_eq c 8 ≡ false = grind (arith, nat_tests) in
            let e2 : nat_eq c 9 ≡ false = grind (arith, nat_tests) in
            let e3 : (nat_le 10 c && nat_le c 13) ≡ true = grind (arith, nat_tests) in
            ifs _ _ _ _ _ _ _ e1 e2 e3

    by_head : (t' : Term) → head_of u ≡ t' → IsRightView L n d P q (going (Typings n d P q z b E Es e es (E ∷ Es)) (with_goals b (e ∷ es))) (look_atom unit_limit n P height e (with_goals b es) u t')
    by_head (atom (constant c ts)) x =
        let p = parts (atom (constant c ts)) x in
        let f : connective_of_constant c ts (arguments u) ≡ connective.Atomic = transport (λ y. connective_at y (arguments u) ≡ connective.Atomic) x plain in
        by_kind c ts x (atom_kind (atom_type (over d E z.variables)) d std.standard c ts (arguments u) p.0 p.1 p.2 f)
    by_head (atom (eigen k)) x = tried (transport IsAtomHead (sym x) tt)
    by_head (atom (logic y l)) x = stopped n d P q _ Flexible (λ w. absurd (cc))
    by_head (atom (integer m)) x = nothing_stands (λ c l p. let w = parts (atom (integer m)) x in no_basic w.0 (λ B D y. let g = sym w.1 in absurd (cc)) (λ y. let g = w.1 in absurd (cc)) (arguments u) w.2)
    by_head (atom (text s)) x = nothing_stands (λ c l p. let w = parts (atom (text s)) x in no_basic w.0 (λ B D y. let g = w.1 in absurd (cc)) (λ y. let g = w.1 in absurd (cc)) (arguments u) w.2)
    by_head (atom (param k T)) x = nothing_stands (parameter k T x)
    by_head (index j) x = nothing_stands (λ c l p. let w = parts (index j) x in (let g = w.1 in absurd (cc)))
    by_head (abs y) x = nothing_stands (λ c l p. ended_abs y (arguments u) (transport (λ w. head_step w ≡ None) (sym (on_head (abs y) x))
        (head_ended n t u r)) (transport (λ w. Typed (over d E z.variables) [] w o_type) (sym (on_head (abs y) x))
        (form_typed n d std P q z b E Es e es h t u i r).typed))
    by_head (app f a) x = absurd (no_app u f a x)

    pub atom_view : IsRightView L n d P q (going (Typings n d P q z b E Es e es (E ∷ Es)) (with_goals b (e ∷ es))) (look_atom unit_limit n P height e (with_goals b es) u (head_of u))
    atom_view = by_head (head_of u) refl
