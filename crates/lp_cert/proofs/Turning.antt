-- What a node makes of the work: each is a step of a run, read in a bank.
use Rattle.std.proofs.Common.{◌≡◌, ℕ, zero, suc, ◌<◌, ◌≤◌, List, [], ◌∷◌, ◌++◌, map, length, refl, sym, ap, subst, ◌∙◌, arith, inl, inr, ◌⊎◌, Bool, true, false}
use Rattle.std.specs.Prelude.{Result, Ok, Err, IfOk, OnOk, All}
use Rattle.std.proofs.Math.Path.{transport}
use Rattle.std.proofs.lemmas.List.{length-map}
use Rattle.std.proofs.lemmas.List.Elements.{All-push}
use Rattle.lp_lemmas.proofs.Lists.{map_pushed}
use Rattle.lp_base.specs.declared.memory.Memory.{Memory}
use Rattle.lp_calculus.specs.Types.{Ty}
use Rattle.lp_calculus.specs.Term.{Term, atom, app, eigen}
use Rattle.lp_calculus.specs.Closed.{AreClosed, IsClosedType}
use Rattle.lp_calculus.specs.Fill.{Within}
use Rattle.lp_term.specs.Nodes.{Nodes, Extends, tree, type_tree}
use Rattle.lp_term.specs.declared.node.TermId.{TermId}
use Rattle.lp_term.specs.declared.node.TypeId.{TypeId}
use Rattle.lp_term.proofs.Trees.{extends-trans}
use Rattle.lp_model.specs.Proofs.{IsArith}
use Rattle.lp_model.specs.declared.certificate.ProofNode.{ProofNode}
use Rattle.lp_cert.specs.Run.{ArithNeeds, Claim, Job, Needs, StepsOn, focusing, leaving_assumed, leaving_eigen, proving, without_last}
use Rattle.lp_cert.specs.Inside.{AreDeclaredInside}
use Rattle.lp_cert.specs.Same.{terms_in, types_in}
use Rattle.lp_cert.specs.Standing.{IsClauseInside, IsNodeInside}
use Rattle.lp_cert.specs.Written.{Node, counted, node_of}
use Rattle.lp_cert.specs.inner.Left.{Stays, ground_in, job_of, jobs_of}
use Rattle.lp_cert.specs.inner.Named.{HasClosedTypes, IsSettled}
use Rattle.lp_cert.specs.inner.Turned.{Always, At, IsComputed, IsReady, IsReadyWork, IsSteppedFrom, IsStepped, IsTaskReady, IsTurned, Pushes, Rest, rest_in, rest_of, rest_with}
use Rattle.lp_cert.specs.Certified.{Ground}
use Rattle.lp_cert.specs.declared.form.Compared.{Compared}
use Rattle.lp_cert.specs.declared.form.Compared.TheVariants as compared
use Rattle.lp_cert.specs.declared.work.Task.{Task}
use Rattle.lp_cert.specs.declared.work.Task.TheVariants as task
use Rattle.lp_cert.specs.declared.work.Turn.{Turn}
use Rattle.lp_cert.specs.declared.work.Turn.TheVariants as turn
use Rattle.lp_cert.specs.declared.work.Work.{Work}
use Rattle.lp_cert.proofs.Ready.{ready_later, work_later, work_pushed, work_stays}
use Rattle.lp_cert.proofs.Settled.{settled_same}
use Rattle.lp_cert.proofs.Stepping.{job_pushed}

-- what holds where the last call goes on
pub pushed_turned : (r : Result Turn Memory) (P : Type 0) (Q : Turn → Type 0) → IfOk r (λ t. (t ≡ turn.On) × P) → (P → Q turn.On) → IfOk r Q
pushed_turned (Err x) P Q h f = tt
pushed_turned (Ok t) P Q h f = subst Q (sym h.0) (f h.1)

pub as_it_is : (w : Work) → Stays w w
as_it_is w = record { theory = refl; eigens = refl; assumed = refl; tasks = refl }

-- what is left after a push, and after two
pub at_pushed : (b : Nodes) (old mid new : Work) (t : Task) → Stays old mid → Pushes mid new t → At b new (types_in b old.eigens.items) (terms_in b old.assumed.items) (job_of b t ∷ jobs_of b old.tasks.items)
at_pushed b old mid new t s p = (
  ap (λ x. types_in b x.items) (sym (p.eigens ∙ s.eigens)),
  ap (λ x. terms_in b x.items) (sym (p.assumed ∙ s.assumed)),
  ap (λ x. job_of b t ∷ jobs_of b x.items) (sym s.tasks) ∙ sym (job_pushed b new.tasks.items mid.tasks.items t p.tasks),
)

pub at_pushed_twice : (b : Nodes) (old mid new : Work) (s t : Task) → Pushes old mid s → Pushes mid new t → At b new (types_in b old.eigens.items) (terms_in b old.assumed.items) (job_of b t ∷ job_of b s ∷ jobs_of b old.tasks.items)
at_pushed_twice b old mid new s t p q = (
  ap (λ x. types_in b x.items) (sym (q.eigens ∙ p.eigens)),
  ap (λ x. terms_in b x.items) (sym (q.assumed ∙ p.assumed)),
  ap (λ l. job_of b t ∷ l) (sym (job_pushed b mid.tasks.items old.tasks.items s p.tasks)) ∙ sym (job_pushed b new.tasks.items mid.tasks.items t q.tasks),
)

-- what is left where the node was the last of its job
pub at_done : (b : Nodes) (old new : Work) → Stays old new → At b new (types_in b old.eigens.items) (terms_in b old.assumed.items) (jobs_of b old.tasks.items)
at_done b old new s = (ap (λ x. types_in b x.items) (sym s.eigens), ap (λ x. terms_in b x.items) (sym s.assumed), ap (λ x. jobs_of b x.items) (sym s.tasks))

-- a goal in another bank
module _ (a now : Nodes) (old mid new : Work) (j : Nodes → Job) (n : Nodes → Node) (g : Extends a now) (s : Stays old mid) where
  pub goes_to : (t : Task) → Pushes mid new t → IsReadyWork a old → IsTaskReady now t →
      ((b : Nodes) → Extends now b → At b new (types_in b old.eigens.items) (terms_in b old.assumed.items) (job_of b t ∷ jobs_of b old.tasks.items) →
      StepsOn (ground_in b old.theory) (At b new) (types_in b old.eigens.items) (terms_in b old.assumed.items) (j b ∷ jobs_of b old.tasks.items) (n b)) → IsTurned now old new j n turn.On
  goes_to t p w r f = (p.theory ∙ s.theory, work_pushed now mid new t p r (work_stays now old mid s (work_later a now old g w)), λ b h. f b h (at_pushed b old mid new t s p))

  pub is_done : new ≡ mid → IsReadyWork a old →
      ((b : Nodes) → Extends now b → At b new (types_in b old.eigens.items) (terms_in b old.assumed.items) (jobs_of b old.tasks.items) →
      StepsOn (ground_in b old.theory) (At b new) (types_in b old.eigens.items) (terms_in b old.assumed.items) (j b ∷ jobs_of b old.tasks.items) (n b)) → IsTurned now old new j n turn.On
  is_done e w f =
      let q : Stays old new = subst (Stays old) (sym e) s in
      (q.theory, work_stays now old new q (work_later a now old g w), λ b h. f b h (at_done b old new q))

pub goes_to_both : (a now : Nodes) (old mid new : Work) (j : Nodes → Job) (n : Nodes → Node) (s t : Task) → Extends a now → Pushes old mid s → Pushes mid new t → IsReadyWork a old → IsTaskReady now s → IsTaskReady now t →
    ((b : Nodes) → Extends now b → At b new (types_in b old.eigens.items) (terms_in b old.assumed.items) (job_of b t ∷ job_of b s ∷ jobs_of b old.tasks.items) →
    StepsOn (ground_in b old.theory) (At b new) (types_in b old.eigens.items) (terms_in b old.assumed.items) (j b ∷ jobs_of b old.tasks.items) (n b)) → IsTurned now old new j n turn.On
goes_to_both a now old mid new j n s t g p q w r k f = (q.theory ∙ p.theory, work_pushed now mid new t q k (work_pushed now old mid s p r (work_later a now old g w)), λ b h. f b h (at_pushed_twice b old mid new s t p q))

-- one more eigenconstant, or assumption, to be left behind the goal
pub record PushesEigen (old new : Work) (of : TypeId) : Type 0 where
  pub theory : new.theory ≡ old.theory
  pub eigens : new.eigens.items ≡ old.eigens.items ++ of ∷ []
  pub assumed : new.assumed ≡ old.assumed
  pub tasks : new.tasks.items ≡ old.tasks.items ++ task.LeaveEigen ∷ []

pub record PushesAssumed (old new : Work) (clause : TermId) : Type 0 where
  pub theory : new.theory ≡ old.theory
  pub eigens : new.eigens ≡ old.eigens
  pub assumed : new.assumed.items ≡ old.assumed.items ++ clause ∷ []
  pub tasks : new.tasks.items ≡ old.tasks.items ++ task.LeaveAssumed ∷ []

closed_pushed : (ts : List Ty) (T : Ty) → AreClosed ts → IsClosedType T → AreClosed (ts ++ T ∷ [])
closed_pushed [] T h c = (c, tt)
closed_pushed (t ∷ ts) T h c = (h.0, closed_pushed ts T h.1 c)

pub under_eigen : (b : Nodes) (old new : Work) (of : TypeId) → PushesEigen old new of → IsClosedType (type_tree b of.0) → IsReadyWork b old → IsReadyWork b new
under_eigen b old new of p c w = record {
  settled = record {
    eigens = subst AreClosed (sym (map_pushed (λ t. type_tree b t.0) old.eigens.items new.eigens.items of p.eigens)) (closed_pushed (types_in b old.eigens.items) (type_tree b of.0) w.settled.eigens c);
    constants = subst (λ x. AreDeclaredInside (length b.types) x.constants.now) (sym p.theory) w.settled.constants;
  };
  clauses = subst (λ x. All (IsClauseInside b) x.clauses.now) (sym p.theory) w.clauses;
  assumed = subst (λ x. All (IsReady b) x.items) (sym p.assumed) w.assumed;
  tasks = subst (All (IsTaskReady b)) (sym p.tasks) (All-push (IsTaskReady b) old.tasks.items task.LeaveEigen w.tasks tt);
}

pub under_assumed : (b : Nodes) (old new : Work) (clause : TermId) → PushesAssumed old new clause → IsReady b clause → IsReadyWork b old → IsReadyWork b new
under_assumed b old new clause p c w = record {
  settled = settled_same b old new p.theory p.eigens w.settled;
  clauses = subst (λ x. All (IsClauseInside b) x.clauses.now) (sym p.theory) w.clauses;
  assumed = subst (All (IsReady b)) (sym p.assumed) (All-push (IsReady b) old.assumed.items clause w.assumed c);
  tasks = subst (All (IsTaskReady b)) (sym p.tasks) (All-push (IsTaskReady b) old.tasks.items task.LeaveAssumed w.tasks tt);
}

pub goes_under_eigen : (a now : Nodes) (old mid new : Work) (j : Nodes → Job) (n : Nodes → Node) (of : TypeId) (t : Task) → Extends a now → PushesEigen old mid of → Pushes mid new t → IsReadyWork a old → IsClosedType (type_tree now of.0) → IsTaskReady now t →
    ((b : Nodes) → Extends now b → At b new (types_in b old.eigens.items ++ type_tree b of.0 ∷ []) (terms_in b old.assumed.items) (job_of b t ∷ leaving_eigen ∷ jobs_of b old.tasks.items) →
    StepsOn (ground_in b old.theory) (At b new) (types_in b old.eigens.items) (terms_in b old.assumed.items) (j b ∷ jobs_of b old.tasks.items) (n b)) → IsTurned now old new j n turn.On
goes_under_eigen a now old mid new j n of t g p q w c k f = (
  q.theory ∙ p.theory,
  work_pushed now mid new t q k (under_eigen now old mid of p c (work_later a now old g w)),
  λ b h. f b h (
    sym (ap (λ x. types_in b x.items) q.eigens ∙ map_pushed (λ t. type_tree b t.0) old.eigens.items mid.eigens.items of p.eigens),
    sym (ap (λ x. terms_in b x.items) (q.assumed ∙ p.assumed)),
    ap (λ l. job_of b t ∷ l) (sym (job_pushed b mid.tasks.items old.tasks.items task.LeaveEigen p.tasks)) ∙ sym (job_pushed b new.tasks.items mid.tasks.items t q.tasks),
  ),
)

pub goes_under_assumed : (a now : Nodes) (old mid new : Work) (j : Nodes → Job) (n : Nodes → Node) (clause : TermId) (t : Task) → Extends a now → PushesAssumed old mid clause → Pushes mid new t → IsReadyWork a old → IsReady now clause → IsTaskReady now t →
    ((b : Nodes) → Extends now b → At b new (types_in b old.eigens.items) (terms_in b old.assumed.items ++ tree b clause.0 ∷ []) (job_of b t ∷ leaving_assumed ∷ jobs_of b old.tasks.items) →
    StepsOn (ground_in b old.theory) (At b new) (types_in b old.eigens.items) (terms_in b old.assumed.items) (j b ∷ jobs_of b old.tasks.items) (n b)) → IsTurned now old new j n turn.On
goes_under_assumed a now old mid new j n clause t g p q w c k f = (
  q.theory ∙ p.theory,
  work_pushed now mid new t q k (under_assumed now old mid clause p c (work_later a now old g w)),
  λ b h. f b h (
    sym (ap (λ x. types_in b x.items) (q.eigens ∙ p.eigens)),
    sym (ap (λ x. terms_in b x.items) q.assumed ∙ map_pushed (λ t. tree b t.0) old.assumed.items mid.assumed.items clause p.assumed),
    ap (λ l. job_of b t ∷ l) (sym (job_pushed b mid.tasks.items old.tasks.items task.LeaveAssumed p.tasks)) ∙ sym (job_pushed b new.tasks.items mid.tasks.items t q.tasks),
  ),
)

-- what comes of a test, and of a comparison
pub where_turned : (Q : Turn → Type 0) (t : Turn) (holds : Bool) → (t ≡ turn.On → holds ≡ true) → (t ≡ turn.No → holds ≡ false) → (t ≡ turn.Deep → ⊥) → (holds ≡ true → Q turn.On) → (holds ≡ false → Q turn.No) → Q t
where_turned Q turn.On holds a b c f g = f (a refl)
where_turned Q turn.No holds a b c f g = g (b refl)
where_turned Q turn.Deep holds a b c f g = absurd (c refl)

pub compared_turned : (Q : Turn → Type 0) (t : Turn) (x : Compared) → (t ≡ turn.On → x ≡ compared.Same) → (t ≡ turn.No → x ≡ compared.Differ) → (t ≡ turn.Deep → x ≡ compared.Deep) → (x ≡ compared.Same → Q turn.On) → (x ≡ compared.Differ → Q turn.No) → (x ≡ compared.Deep → Q turn.Deep) → Q t
compared_turned Q turn.On x a b c f g h = f (a refl)
compared_turned Q turn.No x a b c f g h = g (b refl)
compared_turned Q turn.Deep x a b c f g h = h (c refl)

-- a node that was looked at
module _ (r : Result Turn Memory) (b now : Nodes) (old new : Work) (j : Nodes → Job) (n m : ProofNode) (is : n ≡ m) where
  pub turned_as : (W R : Type 0) → IfOk r (λ turn. W → R → IsNodeInside b m → IsTurned now old new j (λ b. node_of b m) turn) → IfOk r (λ turn. W → R → IsNodeInside b n → IsTurned now old new j (λ b. node_of b n) turn)
  turned_as W R h = subst (λ x. IfOk r (λ turn. W → R → IsNodeInside b x → IsTurned now old new j (λ b. node_of b x) turn)) (sym is) h

  pub focused_as : (W R S : Type 0) → IfOk r (λ turn. W → R → S → IsNodeInside b m → IsTurned now old new j (λ b. node_of b m) turn) → IfOk r (λ turn. W → R → S → IsNodeInside b n → IsTurned now old new j (λ b. node_of b n) turn)
  focused_as W R S h = subst (λ x. IfOk r (λ turn. W → R → S → IsNodeInside b x → IsTurned now old new j (λ b. node_of b x) turn)) (sym is) h

-- a node without numbers
pub plainly : (r : Result Turn Memory) (Q : Turn → Type 0) (W R : Type 0) → IfOk r (λ turn. W → R → Q turn) → IfOk r (λ turn. W → R → Unit {0} → Q turn)
plainly (Err x) Q W R h = tt
plainly (Ok t) Q W R h = λ w r u. h w r

pub plainly_focused : (r : Result Turn Memory) (Q : Turn → Type 0) (W R S : Type 0) → IfOk r (λ turn. W → R → S → Q turn) → IfOk r (λ turn. W → R → S → Unit {0} → Q turn)
plainly_focused (Err x) Q W R S h = tt
plainly_focused (Ok t) Q W R S h = λ w r s u. h w r s

pub turned_where : (r : Result Turn Memory) (P Q : Turn → Type 0) → ((t : Turn) → P t → Q t) → IfOk r P → IfOk r Q
turned_where (Err x) P Q f h = tt
turned_where (Ok t) P Q f h = f t h

-- behind what is to be left before the next goal or focus

skips_to : (g : Ground) (K : Claim) (n : Node) (E : List Ty) (As : List Term) (js : List Job) → StepsOn g K (rest_of E As js).eigens (rest_of E As js).assumed (rest_of E As js).jobs n → StepsOn g K E As js n
skips_to g K n E As [] h = h
skips_to g K n E As (proving G ∷ js) h = h
skips_to g K n E As (focusing D G ∷ js) h = h
skips_to g K n E As (leaving_eigen ∷ js) h = skips_to g K n (without_last E) As js h
skips_to g K n E As (leaving_assumed ∷ js) h = skips_to g K n E (without_last As) js h

pub skips_from : (g : Ground) (K : Claim) (n : Node) (E : List Ty) (As : List Term) (js : List Job) → StepsOn g K E As js n → StepsOn g K (rest_of E As js).eigens (rest_of E As js).assumed (rest_of E As js).jobs n
skips_from g K n E As [] h = h
skips_from g K n E As (proving G ∷ js) h = h
skips_from g K n E As (focusing D G ∷ js) h = h
skips_from g K n E As (leaving_eigen ∷ js) h = skips_from g K n (without_last E) As js h
skips_from g K n E As (leaving_assumed ∷ js) h = skips_from g K n E (without_last As) js h

needs_to : (g : Ground) (n : Node) (E : List Ty) (As : List Term) (js : List Job) → Needs g n (rest_of E As js).eigens (rest_of E As js).assumed (rest_of E As js).jobs → Needs g n E As js
needs_to g n E As [] h = h
needs_to g n E As (proving G ∷ js) h = h
needs_to g n E As (focusing D G ∷ js) h = h
needs_to g n E As (leaving_eigen ∷ js) h = needs_to g n (without_last E) As js h
needs_to g n E As (leaving_assumed ∷ js) h = needs_to g n E (without_last As) js h

-- a step of the next job is one of the work
pub step_turned : (now : Nodes) (old mid new : Work) (t : Task) (n : Nodes → Node) → mid.theory ≡ old.theory → ((b : Nodes) → rest_in b old ≡ rest_with b mid (job_of b t ∷ [])) → (u : Turn) → IsTurned now mid new (λ b. job_of b t) n u → IsStepped now old new n u
step_turned now old mid new t n e s turn.On h = (
  h.0 ∙ e,
  h.1,
  λ b g.
      skips_to (ground_in b old.theory) (At b new) (n b) (types_in b old.eigens.items) (terms_in b old.assumed.items) (jobs_of b old.tasks.items)
      (transport (λ i. StepsOn (ground_in b (e i)) (At b new) (sym (s b) i).eigens (sym (s b) i).assumed (sym (s b) i).jobs (n b)) (h.2 b g)),
)
step_turned now old mid new t n e s turn.No h = λ b g k. h b g
    (transport (λ i. StepsOn (ground_in b (sym e i)) (Always (Unit {0})) (s b i).eigens (s b i).assumed (s b i).jobs (n b)) (skips_from (ground_in b old.theory) (Always (Unit {0})) (n b) (types_in b old.eigens.items) (terms_in b old.assumed.items) (jobs_of b old.tasks.items) k))
step_turned now old mid new t n e s turn.Deep h = λ b g.
    needs_to (ground_in b old.theory) (n b) (types_in b old.eigens.items) (terms_in b old.assumed.items) (jobs_of b old.tasks.items)
    (transport (λ i. Needs (ground_in b (e i)) (n b) (sym (s b) i).eigens (sym (s b) i).assumed (sym (s b) i).jobs) (h b g))

-- what comes of arithmetic
pub computed_turned : (r : Result Turn Memory) (a now : Nodes) (old new : Work) (goal : TermId) → Extends a now → Stays old new → IfOk r (λ turn. IsReady a goal → IsComputed (tree a goal.0) turn) →
    IfOk r (λ turn. IsReadyWork a old → IsReady a goal → Unit {0} → IsTurned now old new (λ b. proving (tree b goal.0)) (λ b. counted) turn)
computed_turned (Err x) a now old new goal g s k = tt
computed_turned (Ok turn.On) a now old new goal g s k = λ w r u. is_done a now old new new (λ b. proving (tree b goal.0)) (λ b. counted) g s refl w (λ b h at. (subst IsArith (sym ((extends-trans a now b g h).same_terms goal.0 r.0)) (k r), at))
computed_turned (Ok turn.No) a now old new goal g s k = λ w r u b h q. k r (subst IsArith ((extends-trans a now b g h).same_terms goal.0 r.0) q.0)
computed_turned (Ok turn.Deep) a now old new goal g s k = λ w r u b h. subst ArithNeeds (sym ((extends-trans a now b g h).same_terms goal.0 r.0)) (k r)
