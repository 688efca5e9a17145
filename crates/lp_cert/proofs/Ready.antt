-- Terms without loose indices and type variables: parts of them, what is put together of them, and work of them.
use Rattle.std.proofs.Common.{◌≡◌, ℕ, zero, suc, ◌+◌, ◌<◌, ◌≤◌, List, [], ◌∷◌, ◌++◌, map, length, refl, sym, ap, subst, ◌∙◌, arith}
use Rattle.std.specs.Prelude.{All}
use Rattle.std.proofs.lemmas.List.Elements.{All-nil, All-cons, All-weaker, All-push}
use Rattle.lp_calculus.specs.Types.{Ty}
use Rattle.lp_calculus.specs.Term.{Term, Atom, index, atom, abs, app, apply, constant, eigen}
use Rattle.lp_calculus.specs.Closed.{AllAtoms, AreClosed, IsClosedAtom, IsClosedAt, IsClosedType}
use Rattle.lp_calculus.specs.Fill.{Within}
use Rattle.lp_calculus.specs.Instance.{instance_term}
use Rattle.lp_calculus.specs.Typing.{type_at}
use Rattle.lp_calculus.proofs.Fills.{within_more}
use Rattle.lp_standard.specs.Connectives.{two, pi_of}
use Rattle.lp_term.specs.Nodes.{Nodes, Extends, tree, type_tree}
use Rattle.lp_term.specs.Spine.{LooseBelow}
use Rattle.lp_term.specs.declared.node.TermId.{TermId}
use Rattle.lp_model.specs.declared.program.ClauseFormula as code
use Rattle.lp_cert.specs.Same.{types_in}
use Rattle.lp_cert.specs.Standing.{IsClauseInside}
use Rattle.lp_cert.specs.inner.Left.{Stays}
use Rattle.lp_cert.specs.inner.Named.{HasClosedTypes, IsSettled}
use Rattle.lp_cert.specs.inner.Turned.{IsReady, IsReadyWork, IsTaskReady, Pushes}
use Rattle.lp_cert.specs.declared.work.Task.{Task}
use Rattle.lp_cert.specs.declared.work.Task.TheVariants as task
use Rattle.lp_cert.specs.declared.work.Work.{Work}
use Rattle.lp_cert.proofs.ClosedTypes.{closed_has, instance_has}
use Rattle.lp_cert.proofs.Settled.{settled_later, settled_same}

pub within_of : (P : Atom → Type 0) (d : ℕ) (t : Term) → AllAtoms P t → LooseBelow 0 d t → Within P d t
within_of P d (index i) h l = omega (arith, l)
within_of P d (atom a) h l = h
within_of P d (abs b) h l = within_of P (suc d) b h l
within_of P d (app t u) h l = (within_of P d t h.0 l.0, within_of P d u h.1 l.1)

pub atoms_of : (P : Atom → Type 0) (d : ℕ) (t : Term) → Within P d t → AllAtoms P t
atoms_of P d (index i) h = tt
atoms_of P d (atom a) h = h
atoms_of P d (abs b) h = atoms_of P (suc d) b h
atoms_of P d (app t u) h = (atoms_of P d t h.0, atoms_of P d u h.1)

pub loose_of : (P : Atom → Type 0) (d n : ℕ) (t : Term) → Within P d t → LooseBelow n d t
loose_of P d n (index i) h = omega (arith, h)
loose_of P d n (atom a) h = tt
loose_of P d n (abs b) h = loose_of P (suc d) n b h
loose_of P d n (app t u) h = (loose_of P d n t h.0, loose_of P d n u h.1)

pub closed_within : (n : ℕ) (t : Term) → IsClosedAt n t → Within HasClosedTypes 0 t
closed_within n t h = within_more (IsClosedAtom n) HasClosedTypes 0 0 (λ a k. closed_has n (atom a) k) (omega arith) t h

-- types put for type variables leave indices as they are
pub instance_loose : (θ : ℕ → Ty) (n d : ℕ) (t : Term) → LooseBelow n d t → LooseBelow n d (instance_term θ t)
instance_loose θ n d (index i) h = h
instance_loose θ n d (atom a) h = tt
instance_loose θ n d (abs b) h = instance_loose θ n (suc d) b h
instance_loose θ n d (app t u) h = (instance_loose θ n d t h.0, instance_loose θ n d u h.1)

pub instance_within : (ts : List Ty) (t : Term) → AreClosed ts → LooseBelow 0 0 t → Within HasClosedTypes 0 (instance_term (type_at ts) t)
instance_within ts t c l = within_of HasClosedTypes 0 (instance_term (type_at ts) t) (instance_has ts t c) (instance_loose (type_at ts) 0 0 t l)

-- later banks

pub ready_later : (a b : Nodes) (t : TermId) → Extends a b → IsReady a t → IsReady b t
ready_later a b t g r = (let l = r.0 in let m = g.more_terms in omega (arith, l, m), subst (Within HasClosedTypes 0) (sym (g.same_terms t.0 r.0)) r.1)

pub task_later : (a b : Nodes) (t : Task) → Extends a b → IsTaskReady a t → IsTaskReady b t
task_later a b (task.Prove goal) g r = ready_later a b goal g r
task_later a b (task.Focus clause goal) g r = (ready_later a b clause g r.0, ready_later a b goal g r.1)
task_later a b task.LeaveEigen g r = tt
task_later a b task.LeaveAssumed g r = tt

pub clause_later : (a b : Nodes) (c : code.ClauseFormula) → Extends a b → IsClauseInside a c → IsClauseInside b c
clause_later a b c g r = (let l = r.0 in let m = g.more_terms in omega (arith, l, m), subst (LooseBelow 0 0) (sym (g.same_terms c.formula.0 r.0)) r.1)

pub work_later : (a b : Nodes) (w : Work) → Extends a b → IsReadyWork a w → IsReadyWork b w
work_later a b w g r = record {
  settled = settled_later a b w g r.settled;
  clauses = All-weaker (IsClauseInside a) (IsClauseInside b) (λ c h. clause_later a b c g h) w.theory.clauses.now r.clauses;
  assumed = All-weaker (IsReady a) (IsReady b) (λ t h. ready_later a b t g h) w.assumed.items r.assumed;
  tasks = All-weaker (IsTaskReady a) (IsTaskReady b) (λ t h. task_later a b t g h) w.tasks.items r.tasks;
}

pub work_stays : (b : Nodes) (old new : Work) → Stays old new → IsReadyWork b old → IsReadyWork b new
work_stays b old new s r = record {
  settled = settled_same b old new s.theory s.eigens r.settled;
  clauses = subst (λ x. All (IsClauseInside b) x.clauses.now) (sym s.theory) r.clauses;
  assumed = subst (λ x. All (IsReady b) x.items) (sym s.assumed) r.assumed;
  tasks = subst (λ x. All (IsTaskReady b) x.items) (sym s.tasks) r.tasks;
}

pub work_pushed : (b : Nodes) (old new : Work) (t : Task) → Pushes old new t → IsTaskReady b t → IsReadyWork b old → IsReadyWork b new
work_pushed b old new t p k r = record {
  settled = settled_same b old new p.theory p.eigens r.settled;
  clauses = subst (λ x. All (IsClauseInside b) x.clauses.now) (sym p.theory) r.clauses;
  assumed = subst (λ x. All (IsReady b) x.items) (sym p.assumed) r.assumed;
  tasks = subst (All (IsTaskReady b)) (sym p.tasks) (All-push (IsTaskReady b) old.tasks.items t r.tasks k);
}

-- the parts of a formula

pub on_two : (b : Nodes) (t left right : TermId) (c : ℕ) (ts : List Ty) → tree b t.0 ≡ two c ts (tree b left.0) (tree b right.0) → IsReady b t → left.0 < length b.terms → right.0 < length b.terms → IsReady b left × IsReady b right
on_two b t left right c ts e r l m = let w = subst (Within HasClosedTypes 0) e r.1 in ((l, w.0.1), (m, w.1))

pub on_one : (b : Nodes) (t on : TermId) (c : ℕ) (ts : List Ty) → tree b t.0 ≡ app (atom (constant c ts)) (tree b on.0) → IsReady b t → on.0 < length b.terms → IsReady b on × AreClosed ts
on_one b t on c ts e r l = let w = subst (Within HasClosedTypes 0) e r.1 in ((l, w.1), w.0)

-- one term on another
pub applied_ready : (b : Nodes) (t head arg : TermId) → tree b t.0 ≡ app (tree b head.0) (tree b arg.0) → t.0 < length b.terms → IsReady b head → IsReady b arg → IsReady b t
applied_ready b t head arg e l h a = (l, subst (Within HasClosedTypes 0) (sym e) (h.1, a.1))

-- the arguments of a head
pub apply_atoms : (P : Atom → Type 0) (h : Term) (ts : List Term) → AllAtoms P (apply h ts) → AllAtoms P h × All (AllAtoms P) ts
apply_atoms P h [] a = (a, All-nil (AllAtoms P))
apply_atoms P h (t ∷ ts) a = let r = apply_atoms P (app h t) ts a in (r.0.0, All-cons (AllAtoms P) t ts r.0.1 r.1)
