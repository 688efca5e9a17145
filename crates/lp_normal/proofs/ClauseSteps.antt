-- Each move on a list of clauses leaves what all come to.
use Rattle.std.proofs.Common.{◌≡◌, ℕ, List, [], ◌∷◌, ◌++◌, length, map, reverse, refl, sym, ap, ◌∙◌, subst, None}
use Rattle.std.specs.Prelude.{All}
use Rattle.std.proofs.lemmas.List.{reverse-append}
use Rattle.lp_calculus.specs.Term.{Term}
use Rattle.lp_term.specs.Nodes.{Nodes, Extends, tree, type_tree}
use Rattle.lp_term.specs.declared.node.TermId.{TermId}
use Rattle.lp_term.specs.declared.node.TypeId.{TypeId}
use Rattle.lp_model.specs.declared.clause.Clause.{Clause}
use Rattle.lp_standard.specs.Connectives.{connective_of}
use Rattle.lp_standard.specs.Connectives as connective
use Rattle.lp_model.specs.Flat.{Clause as FlatClause, Goals, no_goals, clause, Clauses, no_clauses, clauses, add_clauses}
use Rattle.lp_model.specs.Flatten.{with_type_vars}
use Rattle.lp_model.specs.Flattened.{clause_of, clauses_of}
use Rattle.lp_normal.specs.Flats.{IsFlatClause, IsFlatList}
use Rattle.lp_normal.specs.declared.goals.GoalList.{GoalList}
use Rattle.lp_normal.specs.declared.clauses.Link.{Link}
use Rattle.lp_normal.specs.declared.clauses.Part.{Part}
use Rattle.lp_normal.specs.declared.clauses.ClauseList.{ClauseList}
use Rattle.lp_normal.specs.declared.clauses.Scope.{Scope}
use Rattle.lp_normal.specs.declared.frame.Frame.{Frame}
use Rattle.lp_normal.specs.declared.frame.Inner.{Inner}
use Rattle.lp_normal.specs.Making.{ReadsClauses, Flatten, Closes, vars_in, body_in, PartsFlatten, Flat, these_goals, AssumedComesTo, ClausesComeTo, PartComesTo, AllTurn, InnerComesTo}
use Rattle.lp_normal.specs.Within.{IsWaitingIn, IsOpenedIn, IsGoalListIn, IsScopeIn}
use Rattle.lp_normal.proofs.Bounds.{reverse_push, All-empty, no_goals_in}
use Rattle.lp_normal.proofs.Inversions.{clauses_by}
use Rattle.lp_normal.proofs.Steps.{empty_reads, add_clauses_assoc}

-- what a list reads

pub no_clauses_read : (b : Nodes) (l : List Clause) → l ≡ [] → ReadsClauses b l no_clauses
no_clauses_read b l e = λ later x. ap (clauses_of later) e

pub clauses_of_push : (b : Nodes) (l : List Clause) (c : Clause) → clauses_of b (l ++ c ∷ []) ≡ add_clauses (clauses_of b l) (clauses (clause_of b c) no_clauses)
clauses_of_push b [] c = refl
clauses_of_push b (d ∷ l) c = ap (clauses (clause_of b d)) (clauses_of_push b l c)

-- a clause that is done
pub with_clause_comes : (b : Nodes) (l m : ClauseList) (c : Clause) (C : FlatClause) (out : Flat) → m.type_vars ≡ l.type_vars → m.assumed ≡ l.assumed → m.done.items ≡ l.done.items ++ c ∷ [] → m.waiting ≡ l.waiting → m.around ≡ l.around →
    ((later : Nodes) → Extends b later → clause_of later c ≡ C) → ClausesComeTo b l (clauses C no_clauses) out → ClausesComeTo b m no_clauses out
with_clause_comes b l m c C out y a d w r k h = record {
  done = add_clauses h.done (clauses C no_clauses);
  rest = h.rest;
  reads = λ later x.
      ap (clauses_of later) d ∙ clauses_of_push later l.done.items c ∙ ap (λ z. add_clauses z (clauses (clause_of later c) no_clauses)) (h.reads later x) ∙
      ap (λ z. add_clauses h.done (clauses z no_clauses)) (k later x);
  flatten = subst (λ z. PartsFlatten b (reverse z.items) (reverse m.around.items) h.rest) (sym w) (subst (λ z. PartsFlatten b (reverse l.waiting.items) (reverse z.items) h.rest) (sym r) h.flatten);
  ends = subst (λ z. AssumedComesTo b z (add_clauses (add_clauses h.done (clauses C no_clauses)) (with_type_vars m.type_vars h.rest)) out) (sym a)
      (subst (λ n. AssumedComesTo b l.assumed (add_clauses (add_clauses h.done (clauses C no_clauses)) (with_type_vars n h.rest)) out) (sym y)
      (subst (λ z. AssumedComesTo b l.assumed z out) (sym (add_clauses_assoc h.done (clauses C no_clauses) (with_type_vars l.type_vars h.rest))) h.ends));
}

-- a list of one formula
pub one_part : (b : Nodes) (m : ClauseList) (t : TermId) (n : ℕ) (cs : Clauses) (out : Flat) → m.type_vars ≡ n → m.assumed ≡ None → m.done.items ≡ []
    → m.waiting.items ≡ Part.Visit t ∷ [] → m.around.items ≡ [] → IsFlatClause (tree b t.0) [] [] cs → AssumedComesTo b None
    (with_type_vars n (add_clauses cs no_clauses)) out → ClausesComeTo b m no_clauses out
one_part b m t n cs out y a d w r p e = record {
  done = no_clauses;
  rest = add_clauses cs no_clauses;
  reads = no_clauses_read b m.done.items d;
  flatten = subst (λ z. PartsFlatten b (reverse z) (reverse m.around.items) (add_clauses cs no_clauses)) (sym w)
      (subst (λ z. PartsFlatten b (Part.Visit t ∷ []) (reverse z) (add_clauses cs no_clauses)) (sym r) (cs, no_clauses, p, refl, refl));
  ends = subst (λ z. AssumedComesTo b z (with_type_vars m.type_vars (add_clauses cs no_clauses)) out) (sym a) (subst (λ k. AssumedComesTo b None (with_type_vars k (add_clauses cs no_clauses)) out) (sym y) e);
}

module _ (b : Nodes) (l : ClauseList) (t : ℕ) (out : Flat) where
  -- the parts stay as the list changes
  ends_in : (m : ClauseList) (cs ds : Clauses) → m.type_vars ≡ l.type_vars → m.assumed ≡ l.assumed → (done : Clauses) → cs ≡ ds → AssumedComesTo b l.assumed (add_clauses done (with_type_vars l.type_vars cs)) out → AssumedComesTo b m.assumed (add_clauses done (with_type_vars m.type_vars ds)) out
  ends_in m cs ds y a done e h =
      subst (λ z. AssumedComesTo b z (add_clauses done (with_type_vars m.type_vars ds)) out) (sym a)
      (subst (λ n. AssumedComesTo b l.assumed (add_clauses done (with_type_vars n ds)) out) (sym y) (subst (λ z. AssumedComesTo b l.assumed (add_clauses done (with_type_vars l.type_vars z)) out) e h))

  pub both_parts : (m : ClauseList) (left right : TermId) → m.type_vars ≡ l.type_vars → m.assumed ≡ l.assumed → m.done ≡ l.done → m.waiting.items ≡ (l.waiting.items ++ Part.Visit right ∷ []) ++ Part.Visit left ∷ [] → m.around ≡ l.around →
      connective_of (tree b t) ≡ connective.And (tree b left.0) (tree b right.0) → PartComesTo b l t out → ClausesComeTo b m no_clauses out
  both_parts m left right y a d w r f h =
      let ls = reverse l.around.items in
      let k = clauses_by (tree b t) (connective.And (tree b left.0) (tree b right.0)) (vars_in b ls) (body_in b ls) h.first f h.clause in
      let q : reverse m.waiting.items ≡ Part.Visit left ∷ Part.Visit right ∷ reverse l.waiting.items =
      reverse_push m.waiting.items (l.waiting.items ++ Part.Visit right ∷ []) (Part.Visit left) w ∙ ap (λ z. Part.Visit left ∷ z) (reverse-append l.waiting.items (Part.Visit right ∷ [])) in
      let rest = add_clauses k.0 (add_clauses k.1 h.rest) in
      record {
        done = h.done;
        rest = add_clauses k.0 (add_clauses k.1 h.rest);
        reads = subst (λ z. ReadsClauses b z.items h.done) (sym d) h.reads;
        flatten = subst (λ z. PartsFlatten b (reverse m.waiting.items) (reverse z.items) rest) (sym r)
            (subst (λ z. PartsFlatten b z ls rest) (sym q) (k.0, add_clauses k.1 h.rest, k.2, (k.1, h.rest, k.3, h.flatten, refl), refl));
        ends = ends_in m (add_clauses h.first h.rest) rest y a h.done (ap (λ z. add_clauses z h.rest) k.4 ∙ add_clauses_assoc k.0 k.1 h.rest) h.ends;
      }

  enter_comes : (m : ClauseList) (k : Link) (part : TermId) → m.type_vars ≡ l.type_vars → m.assumed ≡ l.assumed → m.done ≡ l.done → m.waiting.items ≡ (l.waiting.items ++ Part.Leave ∷ []) ++ Part.Visit part ∷ [] → m.around.items ≡ l.around.items ++ k ∷ [] →
      (h : PartComesTo b l t out) → IsFlatClause (tree b part.0) (vars_in b (k ∷ reverse l.around.items)) (body_in b (k ∷ reverse l.around.items)) h.first → ClausesComeTo b m no_clauses out
  enter_comes m k part y a d w r h p =
      let q : reverse m.waiting.items ≡ Part.Visit part ∷ Part.Leave ∷ reverse l.waiting.items =
      reverse_push m.waiting.items (l.waiting.items ++ Part.Leave ∷ []) (Part.Visit part) w ∙ ap (λ z. Part.Visit part ∷ z) (reverse-append l.waiting.items (Part.Leave ∷ [])) in
      let rest = add_clauses h.first h.rest in
      record {
        done = h.done;
        rest = add_clauses h.first h.rest;
        reads = subst (λ z. ReadsClauses b z.items h.done) (sym d) h.reads;
        flatten = subst (λ z. PartsFlatten b (reverse m.waiting.items) z rest) (sym (reverse_push m.around.items l.around.items k r))
            (subst (λ z. PartsFlatten b z (k ∷ reverse l.around.items) rest) (sym q) (h.first, h.rest, p, h.flatten, refl));
        ends = ends_in m rest rest y a h.done refl h.ends;
      }

  pub guard_comes : (m : ClauseList) (g part : TermId) → m.type_vars ≡ l.type_vars → m.assumed ≡ l.assumed → m.done ≡ l.done → m.waiting.items ≡ (l.waiting.items ++ Part.Leave ∷ []) ++ Part.Visit part ∷ [] → m.around.items ≡ l.around.items ++ Link.Guard g ∷ [] →
      connective_of (tree b t) ≡ connective.Implies (tree b g.0) (tree b part.0) → PartComesTo b l t out → ClausesComeTo b m no_clauses out
  guard_comes m g part y a d w r f h =
      let ls = reverse l.around.items in
      enter_comes m (Link.Guard g) part y a d w r h (clauses_by (tree b t) (connective.Implies (tree b g.0) (tree b part.0)) (vars_in b ls) (body_in b ls) h.first f h.clause)

  pub variable_comes : (m : ClauseList) (T : TypeId) (part : TermId) (u : Term) → m.type_vars ≡ l.type_vars → m.assumed ≡ l.assumed → m.done ≡ l.done → m.waiting.items ≡ (l.waiting.items ++ Part.Leave ∷ []) ++ Part.Visit part ∷ [] → m.around.items ≡ l.around.items ++ Link.Variable T ∷ [] →
      connective_of (tree b t) ≡ connective.ForAll (type_tree b T.0) u → tree b part.0 ≡ u → PartComesTo b l t out → ClausesComeTo b m no_clauses out
  variable_comes m T part u y a d w r f e h =
      let ls = reverse l.around.items in
      let p = clauses_by (tree b t) (connective.ForAll (type_tree b T.0) u) (vars_in b ls) (body_in b ls) h.first f h.clause in
      enter_comes m (Link.Variable T) part y a d w r h (subst (λ z. IsFlatClause z (vars_in b (Link.Variable T ∷ ls)) (body_in b (Link.Variable T ∷ ls)) h.first) (sym e) p)

  -- an atom: the goals of its body are flattened next
  pub head_comes : (whole : Flat) (m : GoalList) (s : Scope) (head : TermId) (n : ℕ) (fs gs : List Frame) → head.0 ≡ t → n ≡ length s.vars.items → m.opened.items ≡ [] → m.done.items ≡ [] → m.waiting ≡ s.body → m.level ≡ n →
      map (λ T. type_tree b T.0) s.vars.items ≡ vars_in b (reverse l.around.items) → ((hs : Goals) → IsFlatList (body_in b (reverse l.around.items)) hs → Flatten b (length s.vars.items) (reverse s.body.items) hs) →
      gs ≡ fs ++ Frame.Body l s.vars head ∷ [] → connective_of (tree b t) ≡ connective.Atomic → PartComesTo b l t out → AllTurn b (reverse fs) out whole → InnerComesTo b (Inner.Goals m) gs whole
  head_comes whole m s head n fs gs q e o d w v vs bs g f h u =
      let ls = reverse l.around.items in
      let k = clauses_by (tree b t) connective.Atomic (vars_in b ls) (body_in b ls) h.first f h.clause in
      let c : clause 0 (vars_in b ls) (tree b t) k.0 ≡ clause 0 (map (λ T. type_tree b T.0) s.vars.items) (tree b head.0) k.0 =
      ap (λ z. clause 0 z (tree b t) k.0) (sym vs) ∙ ap (λ z. clause 0 (map (λ T. type_tree b T.0) s.vars.items) (tree b z) k.0) (sym q) in (
        k.0,
        record {
          done = no_goals;
          rest = k.0;
          reads = empty_reads b m.done.items d;
          flatten = subst (λ z. Flatten b z (reverse m.waiting.items) k.0) (sym (v ∙ e)) (subst (λ z. Flatten b (length s.vars.items) (reverse z.items) k.0) (sym w) (bs k.0 k.1));
          closes = subst (λ z. Closes b (reverse z) k.0 k.0) (sym o) refl;
        },
        subst (λ z. AllTurn b z (these_goals k.0) whole) (sym (reverse_push gs fs (Frame.Body l s.vars head) g)) (
          k.0,
          out,
          refl,
          record {
            done = h.done;
            rest = h.rest;
            reads = h.reads;
            flatten = h.flatten;
            ends = subst (λ z. AssumedComesTo b l.assumed (add_clauses h.done (with_type_vars l.type_vars (add_clauses z h.rest))) out) (k.2 ∙ ap (λ z. clauses z no_clauses) c) h.ends;
          },
          u,
        ),
      )

-- the list of the goals of a body
pub scope_list : (b : Nodes) (m : GoalList) (s : Scope) (n : ℕ) → m.opened.items ≡ [] → m.done.items ≡ [] → m.waiting ≡ s.body → m.level ≡ n → n ≡ length s.vars.items → IsScopeIn b s → IsGoalListIn b m
scope_list b m s n o d w v e i = record {
  opened = All-empty (IsOpenedIn b) m.opened.items o;
  done = no_goals_in b m.done.items d;
  waiting = subst (λ k. All (IsWaitingIn b k) m.waiting.items) (sym (v ∙ e)) (subst (λ z. All (IsWaitingIn b (length s.vars.items)) z.items) (sym w) i.body);
}
