-- What a node does to work: each is a step of Stepping, read in a bank.
use Rattle.std.proofs.Common.{◌≡◌, ℕ, zero, suc, ◌+◌, ◌<◌, ◌≤◌, List, [], ◌∷◌, ◌++◌, map, length, refl, sym, ap, subst, ◌∙◌, arith}
use Rattle.std.specs.Prelude.{slice_get, Some, Result, Ok, Err, IfOk, OnOk, ◌⊎◌}
use Rattle.std.proofs.Common.{inl, inr}
use Rattle.std.proofs.lemmas.List.{length-map}
use Rattle.lp_lemmas.proofs.Lists.{map_pushed}
use Rattle.lp_base.specs.declared.memory.Memory.{Memory}
use Rattle.lp_calculus.specs.Types.{Ty}
use Rattle.lp_calculus.specs.Term.{Term, index, atom, abs, app, constant, eigen}
use Rattle.lp_calculus.specs.Convert.{Converts}
use Rattle.lp_calculus.specs.Closed.{AreClosed}
use Rattle.lp_calculus.specs.Spine.{head_of}
use Rattle.lp_calculus.specs.Typing.{o_type, type_at}
use Rattle.lp_calculus.specs.Typing as typing
use Rattle.lp_calculus.specs.Instance.{instance_term}
use Rattle.lp_standard.specs.Connectives.{truth, cut, two, pi_of, sigma_of}
use Rattle.lp_standard.specs.Numbers as number
use Rattle.lp_term.specs.Spine.{head}
use Rattle.lp_term.specs.Nodes.{Nodes, Extends, tree, type_tree}
use Rattle.lp_term.specs.declared.node.TermId.{TermId}
use Rattle.lp_term.specs.declared.node.TypeId.{TypeId}
use Rattle.lp_term.proofs.Trees.{extends-trans}
use Rattle.lp_model.specs.Proofs.{IsFormula, IsArith, IsImplication, IsAtomHead, assumed, under}
use Rattle.lp_model.specs.Readings.{declared_by, formula_of}
use Rattle.lp_cert.specs.Shape.{IsEquation}
use Rattle.lp_cert.specs.Same.{terms_in, types_in}
use Rattle.lp_cert.specs.Written.{Node, converted, trivial, pair, left_side, right_side, witness, general, assuming, equated, counted, back_to, focus_converted, focus_witness, side, premise, hit}
use Rattle.lp_cert.specs.Run.{proving, focusing, leaving_eigen, leaving_assumed}
use Rattle.lp_cert.specs.inner.Left.{Ends, Left, LeftWith, Stays, IsClauseIn, IsDeclared, jobs_of, ground_in}
use Rattle.lp_cert.specs.inner.Named.{IsOf, IsWitnessIn}
use Rattle.lp_cert.specs.declared.form.Compared.{Compared}
use Rattle.lp_cert.specs.declared.form.Compared.TheVariants.{Same}
use Rattle.lp_cert.specs.declared.work.Task.{Task}
use Rattle.lp_cert.specs.declared.work.Task.TheVariants as task
use Rattle.lp_cert.specs.declared.work.Turn.{Turn}
use Rattle.lp_cert.specs.declared.work.Turn.TheVariants.{On}
use Rattle.lp_cert.specs.declared.work.Work.{Work}
use Rattle.lp_cert.proofs.Stepping.{job_pushed, stays_trans, by_conv, by_truth, by_both, by_left, by_right, by_witness, by_all, by_assumption, by_equation, by_arithmetic, by_clause, on_conv, on_all, on_left, on_right, on_premise, on_hit}

pub formula_in : (b : Nodes) (w : Work) (t : TermId) (of : TypeId) → type_tree b of.0 ≡ o_type → IsOf b w t of → IsFormula (declared_by b w.theory.constants.now) (types_in b w.eigens.items) (tree b t.0)
formula_in b w t of e it = record { typed = subst (λ T. typing.Typed (under (declared_by b w.theory.constants.now) (types_in b w.eigens.items)) [] (tree b t.0) T) e it.typed; closed = it.closed }

-- a type that was put is the same later
pub type_later : (a c : Nodes) (of : TypeId) (T : Ty) → Extends a c → of.0 < length a.types → type_tree a of.0 ≡ T → type_tree c of.0 ≡ T
type_later a c of T g l e = g.same_types of.0 l ∙ e

module _ (b : Nodes) (w : Work) (ns : List Node) where
  pub conv_goes : (G H : Term) → IsFormula (declared_by b w.theory.constants.now) (types_in b w.eigens.items) H → Converts H G → LeftWith b w (proving H) ns → LeftWith b w (proving G) (converted H ∷ ns)
  conv_goes G H f c h = by_conv (ground_in b w.theory) (types_in b w.eigens.items) (terms_in b w.assumed.items) (jobs_of b w.tasks.items) ns G H f c h

  pub truth_goes : (G : Term) → (G ≡ truth) ⊎ (G ≡ cut) → Left b w ns → LeftWith b w (proving G) (trivial ∷ ns)
  truth_goes G t h = by_truth (ground_in b w.theory) (types_in b w.eigens.items) (terms_in b w.assumed.items) (jobs_of b w.tasks.items) ns G t h

  pub both_goes : (all : List Task) (G A : Term) (right : TermId) → all ≡ w.tasks.items ++ task.Prove right ∷ [] → G ≡ two number.And [] A (tree b right.0) →
      Ends (ground_in b w.theory) (types_in b w.eigens.items) (terms_in b w.assumed.items) (proving A ∷ jobs_of b all) ns → LeftWith b w (proving G) (pair ∷ ns)
  both_goes all G A right p e h =
      by_both (ground_in b w.theory) (types_in b w.eigens.items) (terms_in b w.assumed.items) (jobs_of b w.tasks.items) ns G A (tree b right.0) e
      (subst (λ js. Ends (ground_in b w.theory) (types_in b w.eigens.items) (terms_in b w.assumed.items) (proving A ∷ js) ns) (job_pushed b all w.tasks.items (task.Prove right) p) h)

  pub left_goes : (G A B : Term) → G ≡ two number.Or [] A B → LeftWith b w (proving A) ns → LeftWith b w (proving G) (left_side ∷ ns)
  left_goes G A B e h = by_left (ground_in b w.theory) (types_in b w.eigens.items) (terms_in b w.assumed.items) (jobs_of b w.tasks.items) ns G A B e h

  pub right_goes : (G A B : Term) → G ≡ two number.Or [] A B → LeftWith b w (proving B) ns → LeftWith b w (proving G) (right_side ∷ ns)
  right_goes G A B e h = by_right (ground_in b w.theory) (types_in b w.eigens.items) (terms_in b w.assumed.items) (jobs_of b w.tasks.items) ns G A B e h

  pub witness_goes : (G s X : Term) (of : TypeId) (t : TermId) → G ≡ sigma_of (type_tree b of.0) s → IsWitnessIn b w t of → X ≡ app s (tree b t.0) → LeftWith b w (proving X) ns → LeftWith b w (proving G) (witness (tree b t.0) ∷ ns)
  witness_goes G s X of t e y x h =
      by_witness (ground_in b w.theory) (types_in b w.eigens.items) (terms_in b w.assumed.items) (jobs_of b w.tasks.items) ns G (type_tree b of.0) s (tree b t.0) e y (subst (λ u. LeftWith b w (proving u) ns) x h)

  pub all_goes : (es : List TypeId) (all : List Task) (G s X : Term) (of : TypeId) (level : ℕ) → es ≡ w.eigens.items ++ of ∷ [] → all ≡ w.tasks.items ++ task.LeaveEigen ∷ [] → G ≡ pi_of (type_tree b of.0) s →
      level ≡ suc (length w.eigens.items) → X ≡ app s (atom (eigen level)) → Ends (ground_in b w.theory) (types_in b es) (terms_in b w.assumed.items) (proving X ∷ jobs_of b all) ns → LeftWith b w (proving G) (general ∷ ns)
  all_goes es all G s X of level e p q l x h =
      let n : level ≡ suc (length (types_in b w.eigens.items)) = l ∙ ap suc (sym (length-map w.eigens.items (λ t. type_tree b t.0))) in
      by_all (ground_in b w.theory) (types_in b w.eigens.items) (terms_in b w.assumed.items) (jobs_of b w.tasks.items) ns G (type_tree b of.0) s q
      (subst (λ u. Ends (ground_in b w.theory) (types_in b w.eigens.items ++ type_tree b of.0 ∷ []) (terms_in b w.assumed.items) (proving u ∷ leaving_eigen ∷ jobs_of b w.tasks.items) ns) (x ∙ ap (λ k. app s (atom (eigen k))) n)
      (subst (λ E. Ends (ground_in b w.theory) E (terms_in b w.assumed.items) (proving X ∷ leaving_eigen ∷ jobs_of b w.tasks.items) ns) (map_pushed (λ t. type_tree b t.0) w.eigens.items es of e)
      (subst (λ js. Ends (ground_in b w.theory) (types_in b es) (terms_in b w.assumed.items) (proving X ∷ js) ns) (job_pushed b all w.tasks.items task.LeaveEigen p) h)))

  pub assume_goes : (later : List TermId) (all : List Task) (G A : Term) (clause : TermId) → later ≡ w.assumed.items ++ clause ∷ [] → all ≡ w.tasks.items ++ task.LeaveAssumed ∷ [] → IsImplication G (tree b clause.0) A →
      Ends (ground_in b w.theory) (types_in b w.eigens.items) (terms_in b later) (proving A ∷ jobs_of b all) ns → LeftWith b w (proving G) (assuming ∷ ns)
  assume_goes later all G A clause e p i h =
      by_assumption (ground_in b w.theory) (types_in b w.eigens.items) (terms_in b w.assumed.items) (jobs_of b w.tasks.items) ns G (tree b clause.0) A i
      (subst (λ As. Ends (ground_in b w.theory) (types_in b w.eigens.items) As (proving A ∷ leaving_assumed ∷ jobs_of b w.tasks.items) ns) (map_pushed (λ t. tree b t.0) w.assumed.items later clause e)
      (subst (λ js. Ends (ground_in b w.theory) (types_in b w.eigens.items) (terms_in b later) (proving A ∷ js) ns) (job_pushed b all w.tasks.items task.LeaveAssumed p) h))

  pub equated_goes : (G : Term) → IsEquation G → Left b w ns → LeftWith b w (proving G) (equated ∷ ns)
  equated_goes G e h = by_equation (ground_in b w.theory) (types_in b w.eigens.items) (terms_in b w.assumed.items) (jobs_of b w.tasks.items) ns G e h

  pub counted_goes : (G : Term) → IsArith G → Left b w ns → LeftWith b w (proving G) (counted ∷ ns)
  counted_goes G a h = by_arithmetic (ground_in b w.theory) (types_in b w.eigens.items) (terms_in b w.assumed.items) (jobs_of b w.tasks.items) ns G a h

  pub clause_goes : (G X : Term) (i : ℕ) (ts : List Ty) → IsClauseIn b w.theory w.assumed.items i ts X → AreClosed ts → IsAtomHead (head_of G) → LeftWith b w (focusing X G) ns → LeftWith b w (proving G) (back_to i ts ∷ ns)
  clause_goes G X i ts it c a h =
      by_clause (ground_in b w.theory) (types_in b w.eigens.items) (terms_in b w.assumed.items) (jobs_of b w.tasks.items) ns G i ts it.clause it.at it.count c a (subst (λ u. LeftWith b w (focusing u G) ns) it.is h)

  pub focus_conv_goes : (D H G : Term) → IsFormula (declared_by b w.theory.constants.now) (types_in b w.eigens.items) H → Converts H D → LeftWith b w (focusing H G) ns → LeftWith b w (focusing D G) (focus_converted H ∷ ns)
  focus_conv_goes D H G f c h = on_conv (ground_in b w.theory) (types_in b w.eigens.items) (terms_in b w.assumed.items) (jobs_of b w.tasks.items) ns D H G f c h

  pub focus_all_goes : (D G s X : Term) (of : TypeId) (t : TermId) → D ≡ pi_of (type_tree b of.0) s → IsWitnessIn b w t of → X ≡ app s (tree b t.0) → LeftWith b w (focusing X G) ns → LeftWith b w (focusing D G) (focus_witness (tree b t.0) ∷ ns)
  focus_all_goes D G s X of t e y x h =
      on_all (ground_in b w.theory) (types_in b w.eigens.items) (terms_in b w.assumed.items) (jobs_of b w.tasks.items) ns D G (type_tree b of.0) s (tree b t.0) e y (subst (λ u. LeftWith b w (focusing u G) ns) x h)

  pub take_goes : (D G : Term) (which : ℕ) (left right part : TermId) → D ≡ two number.And [] (tree b left.0) (tree b right.0) → ((which ≡ 0) × (part ≡ left)) ⊎ ((which ≡ 1) × (part ≡ right)) →
      LeftWith b w (focusing (tree b part.0) G) ns → LeftWith b w (focusing D G) (side which ∷ ns)
  take_goes D G which left right part e (inl q) h =
      subst (λ k. LeftWith b w (focusing D G) (side k ∷ ns)) (sym q.0)
      (on_left (ground_in b w.theory) (types_in b w.eigens.items) (terms_in b w.assumed.items) (jobs_of b w.tasks.items) ns D G (tree b left.0) (tree b right.0) e (subst (λ t. LeftWith b w (focusing (tree b t.0) G) ns) q.1 h))
  take_goes D G which left right part e (inr q) h =
      subst (λ k. LeftWith b w (focusing D G) (side k ∷ ns)) (sym q.0)
      (on_right (ground_in b w.theory) (types_in b w.eigens.items) (terms_in b w.assumed.items) (jobs_of b w.tasks.items) ns D G (tree b left.0) (tree b right.0) e (subst (λ t. LeftWith b w (focusing (tree b t.0) G) ns) q.1 h))

  pub need_goes : (mid all : List Task) (D : Term) (goal rest target : TermId) → mid ≡ w.tasks.items ++ task.Focus rest target ∷ [] → all ≡ mid ++ task.Prove goal ∷ [] → IsImplication D (tree b goal.0) (tree b rest.0) →
      Ends (ground_in b w.theory) (types_in b w.eigens.items) (terms_in b w.assumed.items) (jobs_of b all) ns → LeftWith b w (focusing D (tree b target.0)) (premise ∷ ns)
  need_goes mid all D goal rest target p q i h =
      on_premise (ground_in b w.theory) (types_in b w.eigens.items) (terms_in b w.assumed.items) (jobs_of b w.tasks.items) ns D (tree b target.0) (tree b goal.0) (tree b rest.0) i
      (subst (λ js. Ends (ground_in b w.theory) (types_in b w.eigens.items) (terms_in b w.assumed.items) js ns) (job_pushed b all mid (task.Prove goal) q ∙ ap (λ js. proving (tree b goal.0) ∷ js) (job_pushed b mid w.tasks.items (task.Focus rest target) p)) h)

  pub hit_goes : (D G : Term) → Converts D G → Left b w ns → LeftWith b w (focusing D G) (hit ∷ ns)
  hit_goes D G c h = on_hit (ground_in b w.theory) (types_in b w.eigens.items) (terms_in b w.assumed.items) (jobs_of b w.tasks.items) ns D G c h

-- what holds where the last call goes on
pub goes_beside : (r : Result Turn Memory) (P Q R : Type 0) → OnOk r P → IfOk r (λ turn. turn ≡ On → Q) → (P → Q → R) → IfOk r (λ turn. turn ≡ On → R)
goes_beside (Err x) P Q R p q f = tt
goes_beside (Ok t) P Q R p q f = λ e. f p (q e)

pub side_known : (which : ℕ) (left right part : TermId) → ((which ≡ 0) × (part ≡ left)) ⊎ ((which ≡ 1) × (part ≡ right)) → which ≤ 1
side_known which left right part (inl q) = let e = q.0 in omega (arith, e)
side_known which left right part (inr q) = let e = q.0 in omega (arith, e)

-- clauses by number: the program's, then what is assumed

clause_front : {A B : Type 0} (f : A → B) (xs : List A) (ys : List B) (i : ℕ) (x : A) → slice_get xs i ≡ Some x → slice_get (map f xs ++ ys) i ≡ Some (f x)
clause_front f [] ys i x e = absurd (cc)
clause_front f (z ∷ xs) ys zero x e = let q : z ≡ x = cc in ap (λ y. Some (f y)) q
clause_front f (z ∷ xs) ys (suc i) x e = clause_front f xs ys i x e

held : {C B : Type 0} (g : C → B) (ys : List C) (j : ℕ) (y : C) → slice_get ys j ≡ Some y → slice_get (map g ys) j ≡ Some (g y)
held g [] j y h = absurd (cc)
held g (z ∷ ys) zero y h = let q : z ≡ y = cc in ap (λ x. Some (g x)) q
held g (z ∷ ys) (suc j) y h = held g ys j y h

clause_behind : {A B C : Type 0} (f : A → B) (g : C → B) (xs : List A) (ys : List C) (i j : ℕ) (y : C) → i ≡ length xs + j → slice_get ys j ≡ Some y → slice_get (map f xs ++ map g ys) i ≡ Some (g y)
clause_behind f g [] ys i j y e h = ap (slice_get (map g ys)) (let z : i ≡ j = omega (arith, e) in z) ∙ held g ys j y h
clause_behind f g (z ∷ xs) ys zero j y e h = absurd (omega (arith, e))
clause_behind f g (z ∷ xs) ys (suc i) j y e h = clause_behind f g xs ys i j y (omega (arith, e)) h

pub program_clause : (b : Nodes) (w : Work) (i : ℕ) (types : List TypeId) (t : Term) → IsDeclared b w.theory.clauses.now i types t → IsClauseIn b w.theory w.assumed.items i (types_in b types) t
program_clause b w i types t h = record {
  clause = formula_of b h.0;
  at = clause_front (formula_of b) w.theory.clauses.now (map assumed (terms_in b w.assumed.items)) i h.0 h.1;
  count = length-map types (λ x. type_tree b x.0) ∙ h.2;
  is = h.3;
}

pub assumed_clause : (b : Nodes) (w : Work) (i j : ℕ) (types : List TypeId) (c : TermId) (t : Term) → i ≡ length w.theory.clauses.now + j → slice_get w.assumed.items j ≡ Some c → length types ≡ 0 →
    t ≡ instance_term (type_at (types_in b types)) (tree b c.0) → IsClauseIn b w.theory w.assumed.items i (types_in b types) t
assumed_clause b w i j types c t e h n q = record {
  clause = assumed (tree b c.0);
  at = clause_behind (formula_of b) assumed w.theory.clauses.now (terms_in b w.assumed.items) i j (tree b c.0) e (held (λ x. tree b x.0) w.assumed.items j c h);
  count = length-map types (λ x. type_tree b x.0) ∙ n;
  is = q;
}

-- heads

pub heads_agree : (t : Term) → head t ≡ head_of t
heads_agree (index i) = refl
heads_agree (atom a) = refl
heads_agree (abs t) = refl
heads_agree (app t u) = heads_agree t

pub head_later : (a b : Nodes) (goal found : TermId) → Extends a b → goal.0 < length a.terms → found.0 < length a.terms → tree a found.0 ≡ head (tree a goal.0) → tree b found.0 ≡ head_of (tree b goal.0)
head_later a b goal found g l m e = g.same_terms found.0 m ∙ e ∙ heads_agree (tree a goal.0) ∙ ap head_of (sym (g.same_terms goal.0 l))

pub trivial_seen : (b : Nodes) (t : Term) (n : ℕ) (ids : List TypeId) → atom (constant n (map (type_tree b) (map (λ x. x.0) ids))) ≡ t → length ids ≡ 0 → (n ≡ number.True) ⊎ (n ≡ number.Cut) → (t ≡ truth) ⊎ (t ≡ cut)
trivial_seen b t n [] e l (inl q) = inl (sym e ∙ ap (λ k. atom (constant k [])) q)
trivial_seen b t n [] e l (inr q) = inr (sym e ∙ ap (λ k. atom (constant k [])) q)
trivial_seen b t n (x ∷ xs) e l q = absurd (omega (arith, l))

-- what converts does so in each later bank
pub converts_later : (a b : Nodes) (left right : TermId) → Extends a b → left.0 < length a.terms → right.0 < length a.terms → Converts (tree a left.0) (tree a right.0) → Converts (tree b left.0) (tree b right.0)
converts_later a b left right g l m c = subst (λ t. Converts t (tree b right.0)) (sym (g.same_terms left.0 l)) (subst (λ t. Converts (tree a left.0) t) (sym (g.same_terms right.0 m)) c)

pub converts_where : (r : Result Compared Memory) (a now : Nodes) (left right : TermId) → Extends a now → IfOk r (λ x. x ≡ Same → Converts (tree a left.0) (tree a right.0)) → IfOk r (λ x. x ≡ Same → (left.0 < length a.terms) × (right.0 < length a.terms)) →
    IfOk r (λ x. x ≡ Same → (b : Nodes) → Extends now b → Converts (tree b left.0) (tree b right.0))
converts_where (Err x) a now left right g c l = tt
converts_where (Ok x) a now left right g c l = λ e b h. converts_later a b left right (extends-trans a now b g h) (l e).0 (l e).1 (c e)

-- all but what is known stays
pub stays_where : {T : Type 0} (r : Result T Memory) (old new : Work) → Stays old new → OnOk r (Stays old new)
stays_where (Err x) old new s = tt
stays_where (Ok x) old new s = s

pub stays_on : {T : Type 0} (r : Result T Memory) (old mid new : Work) → Stays old mid → OnOk r (Stays mid new) → OnOk r (Stays old new)
stays_on (Err x) old mid new s t = tt
stays_on (Ok x) old mid new s t = stays_trans old mid new s t
