-- What a run over the nodes of a certificate says of it.
use Rattle.std.proofs.Common.{◌≡◌, ℕ, zero, suc, ◌-◌, ◌<◌, ◌≤◌, List, [], ◌∷◌, ◌++◌, map, length, take, drop, refl, sym, ap, subst, ◌∙◌, arith, true, false, get_or}
use Rattle.std.proofs.Common.{Global, Vec}
use Rattle.std.specs.Prelude.{Result, Ok, Err, IfOk, All, Some, slice_get, min}
use Rattle.std.proofs.Math.Path.{transport}
use Rattle.std.proofs.lemmas.List.{append_assoc}
use Rattle.std.proofs.lemmas.List.Elements.{All-nil, All-cons, All-get_or, All-head, All-tail, All-weaker}
use Rattle.lp_lemmas.proofs.Lists.{map_pushed}
use Rattle.lp_base.specs.declared.memory.Memory.{Memory}
use Rattle.lp_calculus.specs.Types.{Ty}
use Rattle.lp_calculus.specs.Term.{Term}
use Rattle.lp_calculus.specs.Closed.{AreClosed}
use Rattle.lp_term.specs.Nodes.{Nodes, Extends, tree, type_tree}
use Rattle.lp_term.specs.declared.node.TermId.{TermId}
use Rattle.lp_term.specs.declared.node.TypeId.{TypeId}
use Rattle.lp_model.specs.Proofs.{Proof, Focus, Conv, True, And, Left, Right, Witness, All as AllProof, Assume, Equal, Arith, Back, Fails, FConv, FAll, FTake, FNeed, FHit, proves_by, no_leaf}
use Rattle.lp_model.specs.declared.certificate.ProofNode.{ProofNode}
use Rattle.lp_model.specs.declared.certificate.ProofNode.TheVariants as code
use Rattle.lp_cert.specs.Certified.{Ground}
use Rattle.lp_cert.specs.Run.{Claim, Job, Needs, RunsIntoLarge, RunsTo, StepsOn, focusing, leaving_assumed, leaving_eigen, proving, without_last}
use Rattle.lp_cert.specs.Same.{terms_in, types_in}
use Rattle.lp_cert.specs.Standing.{IsNodeInside}
use Rattle.lp_cert.specs.Written.{Node, node_of, IsWritten, IsFocusWritten}
use Rattle.lp_cert.specs.inner.Left.{Ends, IsIdle, Proves, ground_in, job_of, jobs_of}
use Rattle.lp_cert.specs.inner.Turned.{Always, At, IsReady, IsReadyWork, IsStepped, IsTaskReady, IsTurned, Pushes, Rest, rest_in, rest_of, rest_with}
use Rattle.lp_cert.specs.declared.work.Task.{Task}
use Rattle.lp_cert.specs.declared.work.Task.TheVariants as task
use Rattle.lp_cert.specs.declared.work.Turn.{Turn}
use Rattle.lp_cert.specs.declared.work.Turn.TheVariants as turn
use Rattle.lp_cert.specs.declared.work.Theory.{Theory}
use Rattle.lp_cert.specs.declared.work.Work.{Work}
use Rattle.lp_term.proofs.Knowing.{take_whole}
use Rattle.lp_cert.proofs.Later.{inside_more}
use Rattle.lp_cert.proofs.Nodewise.{further}
use Rattle.lp_cert.proofs.Witnesses.{taken_next}
use Rattle.lp_cert.proofs.Running.{ends_step, run_ends, run_map, run_then, step_map}
use Rattle.lp_cert.proofs.Stepping.{job_pushed, popped_rest}
use Rattle.lp_cert.proofs.Turning.{skips_from, step_turned}

-- no proof is written by nothing
nothing_written : (p : Proof) (more : List Node) → IsWritten p [] more → ⊥
nothing_written (Conv t p) more w = absurd (let e = w.1 in cc)
nothing_written True more w = absurd (cc)
nothing_written (And p q) more w = absurd (let e = w.2 in cc)
nothing_written (Left p) more w = absurd (let e = w.1 in cc)
nothing_written (Right p) more w = absurd (let e = w.1 in cc)
nothing_written (Witness t p) more w = absurd (let e = w.1 in cc)
nothing_written (AllProof p) more w = absurd (let e = w.1 in cc)
nothing_written (Assume p) more w = absurd (let e = w.1 in cc)
nothing_written Equal more w = absurd (cc)
nothing_written Arith more w = absurd (cc)
nothing_written (Back i ts f) more w = absurd (let e = w.1 in cc)
nothing_written (Fails s) more w = absurd w

no_focus_written : (f : Focus) (more : List Node) → IsFocusWritten f [] more → ⊥
no_focus_written (FConv t f) more w = absurd (let e = w.1 in cc)
no_focus_written (FAll t f) more w = absurd (let e = w.1 in cc)
no_focus_written (FTake true f) more w = absurd (let e = w.1 in cc)
no_focus_written (FTake false f) more w = absurd (let e = w.1 in cc)
no_focus_written (FNeed p f) more w = absurd (let e = w.2 in cc)
no_focus_written FHit more w = absurd (cc)

-- where something is left to be proved, it takes a node
more_wanted : (g : Ground) (E : List Ty) (As : List Term) (js : List Job) (j : Job) (ks : List Job) → (rest_of E As js).jobs ≡ j ∷ ks → Ends g E As js [] → ⊥
more_wanted g E As [] j ks e h = absurd (cc)
more_wanted g E As (proving G ∷ js) j ks e h = nothing_written h.0 h.1 h.2
more_wanted g E As (focusing D G ∷ js) j ks e h = no_focus_written h.0 h.1 h.2
more_wanted g E As (leaving_eigen ∷ js) j ks e h = more_wanted g (without_last E) As js j ks e h
more_wanted g E As (leaving_assumed ∷ js) j ks e h = more_wanted g E (without_last As) js j ks e h

nothing_more : {A : Type 0} (xs : List A) → xs ++ [] ≡ xs
nothing_more [] = refl
nothing_more (x ∷ xs) = ap (λ ys. x ∷ ys) (nothing_more xs)

-- a proof ends what is left at the beginning
pub proof_ends : (g : Ground) (G : Term) (ns : List Node) → Proves g G ns → Ends g [] [] (proving G ∷ []) ns
proof_ends g G ns h = (h.0, [], h.1, subst (λ P. proves_by no_leaf g.declared [] P G h.0) (sym (nothing_more g.clauses)) h.2, refl)

-- the run so far
abbrev pub RunsFrom : Ground → Term → Claim → List Node → Type 0
RunsFrom g G K ns = RunsTo g K [] [] (proving G ∷ []) ns

module _ (b : Nodes) (w : Work) (g : Ground) (G : Term) (ms : List Node) (runs : RunsFrom g G (At b w) ms) where
  -- a node that leaves nothing
  pub node_refutes : (n : Node) (rest : List Node) → (StepsOn g (Always (Unit {0})) (types_in b w.eigens.items) (terms_in b w.assumed.items) (jobs_of b w.tasks.items) n → ⊥) → Proves g G (ms ++ n ∷ rest) → ⊥
  node_refutes n rest never p = run_ends g (At b w) ⊥ (n ∷ rest) (λ F Bs ks at e.
      never (transport (λ i. StepsOn g (Always (Unit {0})) (at.0 i) (at.1 i) (at.2 i) n) (step_map g (λ E As js. Ends g E As js rest) (Always (Unit {0})) (λ E As js h. tt) F Bs ks n (ends_step g F Bs ks n rest e))))
      [] [] (proving G ∷ []) ms runs (proof_ends g G (ms ++ n ∷ rest) p)

  -- something that is left
  pub left_refutes : (j : Job) (ks : List Job) → (rest_in b w).jobs ≡ j ∷ ks → Proves g G (ms ++ []) → ⊥
  left_refutes j ks e p = run_ends g (At b w) ⊥ [] (λ F Bs ls at h.
      more_wanted g (types_in b w.eigens.items) (terms_in b w.assumed.items) (jobs_of b w.tasks.items) j ks e (transport (λ i. Ends g (at.0 i) (at.1 i) (at.2 i) []) h))
      [] [] (proving G ∷ []) ms runs (proof_ends g G (ms ++ []) p)

  -- one more node
  pub runs_next : (v : Work) (n : Node) → StepsOn g (At b v) (types_in b w.eigens.items) (terms_in b w.assumed.items) (jobs_of b w.tasks.items) n → RunsFrom g G (At b v) (ms ++ n ∷ [])
  runs_next v n s = run_then g (At b w) (At b v) n (λ F Bs ks at. transport (λ i. StepsOn g (At b v) (sym at.0 i) (sym at.1 i) (sym at.2 i) n) s) [] [] (proving G ∷ []) ms runs

  -- a node that needs a large normal form
  pub runs_into : (n : Node) (rest ns : List Node) → ns ≡ ms ++ n ∷ rest → Needs g n (types_in b w.eigens.items) (terms_in b w.assumed.items) (jobs_of b w.tasks.items) → RunsIntoLarge g G ns
  runs_into n rest ns e h = record {
    before = ms;
    node = n;
    behind = rest;
    nodes = e;
    needs = run_map g (At b w) (Needs g n) (λ F Bs ks at. transport (λ i. Needs g n (sym at.0 i) (sym at.1 i) (sym at.2 i)) h) [] [] (proving G ∷ []) ms runs;
  }

-- nothing to be left stands before what is next
pub eigen_not_next : (E : List Ty) (As : List Term) (js ks : List Job) → (rest_of E As js).jobs ≡ leaving_eigen ∷ ks → ⊥
eigen_not_next E As [] ks e = absurd (cc)
eigen_not_next E As (proving G ∷ js) ks e = absurd (cc)
eigen_not_next E As (focusing D G ∷ js) ks e = absurd (cc)
eigen_not_next E As (leaving_eigen ∷ js) ks e = eigen_not_next (without_last E) As js ks e
eigen_not_next E As (leaving_assumed ∷ js) ks e = eigen_not_next E (without_last As) js ks e

pub assumed_not_next : (E : List Ty) (As : List Term) (js ks : List Job) → (rest_of E As js).jobs ≡ leaving_assumed ∷ ks → ⊥
assumed_not_next E As [] ks e = absurd (cc)
assumed_not_next E As (proving G ∷ js) ks e = absurd (cc)
assumed_not_next E As (focusing D G ∷ js) ks e = absurd (cc)
assumed_not_next E As (leaving_eigen ∷ js) ks e = assumed_not_next (without_last E) As js ks e
assumed_not_next E As (leaving_assumed ∷ js) ks e = assumed_not_next E (without_last As) js ks e

-- where nothing is left, no node is right
pub nothing_steps : (b : Nodes) (w : Work) (g : Ground) (K : Claim) (n : Node) → (rest_in b w).jobs ≡ [] → StepsOn g K (types_in b w.eigens.items) (terms_in b w.assumed.items) (jobs_of b w.tasks.items) n → ⊥
nothing_steps b w g K n e h = subst (λ js. StepsOn g K (rest_in b w).eigens (rest_in b w).assumed js n) e (skips_from g K n (types_in b w.eigens.items) (terms_in b w.assumed.items) (jobs_of b w.tasks.items) h)

-- the tasks, the next one last

pub rest_at : (b : Nodes) (w : Work) (rest : List Task) (t u : Task) → t ≡ u → w.tasks.items ≡ rest ++ t ∷ [] → rest_in b w ≡ rest_of (types_in b w.eigens.items) (terms_in b w.assumed.items) (job_of b u ∷ jobs_of b rest)
rest_at b w rest t u q e = ap (rest_of (types_in b w.eigens.items) (terms_in b w.assumed.items)) (job_pushed b w.tasks.items rest u (e ∙ ap (λ x. rest ++ x ∷ []) q))

pub rest_eigen : (b : Nodes) (w : Work) (rest : List Task) (t : Task) (es : List TypeId) (n : ℕ) → t ≡ task.LeaveEigen → w.tasks.items ≡ rest ++ t ∷ [] → n ≡ length w.eigens.items → es ≡ take (n - 1) w.eigens.items → rest_in b w ≡ rest_of (types_in b es) (terms_in b w.assumed.items) (jobs_of b rest)
rest_eigen b w rest t es n q e l f = rest_at b w rest t task.LeaveEigen q e ∙ ap (λ E. rest_of E (terms_in b w.assumed.items) (jobs_of b rest)) (sym (popped_rest (λ x. type_tree b x.0) w.eigens.items es n l f))

pub rest_assumed : (b : Nodes) (w : Work) (rest : List Task) (t : Task) (later : List TermId) (n : ℕ) → t ≡ task.LeaveAssumed → w.tasks.items ≡ rest
    ++ t ∷ [] → n ≡ length w.assumed.items → later ≡ take (n - 1) w.assumed.items → rest_in b w ≡ rest_of (types_in b w.eigens.items)
    (terms_in b later) (jobs_of b rest)
rest_assumed b w rest t later n q e l f = rest_at b w rest t task.LeaveAssumed q e ∙ ap (λ As. rest_of (types_in b w.eigens.items) As (jobs_of b rest)) (sym (popped_rest (λ x. tree b x.0) w.assumed.items later n l f))

-- the first ones of a list
all_first : {A : Type 0} (P : A → Type 0) (n : ℕ) (xs : List A) → All P xs → All P (take n xs)
all_first P zero xs h = All-nil P
all_first P (suc n) [] h = All-nil P
all_first P (suc n) (x ∷ xs) h = All-cons P x (take n xs) (All-head P x xs h) (all_first P n xs (All-tail P x xs h))

closed_first : (n : ℕ) (ts : List Ty) → AreClosed ts → AreClosed (take n ts)
closed_first zero ts h = tt
closed_first (suc n) [] h = tt
closed_first (suc n) (t ∷ ts) h = (h.0, closed_first n ts h.1)

pub closed_popped : (b : Nodes) (all es : List TypeId) (n : ℕ) → n ≡ length all → es ≡ take (n - 1) all → AreClosed (types_in b all) → AreClosed (types_in b es)
closed_popped b all es n l f h = subst AreClosed (sym (popped_rest (λ x. type_tree b x.0) all es n l f)) (closed_first (length (types_in b all) - 1) (types_in b all) h)

pub all_popped : {A : Type 0} (P : A → Type 0) (all rest : List A) (n : ℕ) → rest ≡ take (n - 1) all → All P all → All P rest
all_popped P all rest n e h = subst (All P) (sym e) (all_first P (n - 1) all h)

-- a node for the next task
pub stepped_by : (r : Result Turn Memory) (a now : Nodes) (old mid new : Work) (t : Task) (goal : TermId) (n : ProofNode) → t ≡ task.Prove goal →
    (mid.theory ≡ old.theory) × ((b : Nodes) → rest_in b old ≡ rest_with b mid (job_of b t ∷ [])) →
    ((b : Nodes) → IsReadyWork b old → IsReadyWork b mid × IsTaskReady b t) →
    IfOk r (λ turn. IsReadyWork a mid → IsReady a goal → IsNodeInside a n → IsTurned now mid new (λ b. proving (tree b goal.0)) (λ b. node_of b n) turn) → IfOk r (λ turn. IsReadyWork a old → IsNodeInside a n → IsStepped now old new (λ b. node_of b n) turn)
stepped_by (Err x) a now old mid new t goal n e s q k = tt
stepped_by (Ok u) a now old mid new t goal n e s q k = λ w i.
    let r = q a w in
    step_turned now old mid new (task.Prove goal) (λ b. node_of b n) s.0 (λ b. s.1 b ∙ ap (λ x. rest_with b mid (job_of b x ∷ [])) e) u (k r.0 (subst (IsTaskReady a) e r.1) i)

pub focused_by : (r : Result Turn Memory) (a now : Nodes) (old mid new : Work) (t : Task) (clause atom : TermId) (n : ProofNode) → t ≡ task.Focus
    clause atom → (mid.theory ≡ old.theory) × ((b : Nodes) → rest_in b old ≡ rest_with b mid (job_of b t ∷ [])) →
    ((b : Nodes) → IsReadyWork b old → IsReadyWork b mid × IsTaskReady b t) →
    IfOk r (λ turn. IsReadyWork a mid → IsReady a clause → IsReady a atom → IsNodeInside a n → IsTurned now mid new (λ b. focusing (tree b clause.0) (tree b atom.0)) (λ b. node_of b n) turn) → IfOk r (λ turn. IsReadyWork a old → IsNodeInside a n → IsStepped now old new (λ b. node_of b n) turn)
focused_by (Err x) a now old mid new t clause atom n e s q k = tt
focused_by (Ok u) a now old mid new t clause atom n e s q k = λ w i.
    let r = q a w in
    let z = subst (IsTaskReady a) e r.1 in
    step_turned now old mid new (task.Focus clause atom) (λ b. node_of b n) s.0 (λ b. s.1 b ∙ ap (λ x. rest_with b mid (job_of b x ∷ [])) e) u (k r.0 z.0 z.1 i)

-- what a step says, by its turn
module _ (now : Nodes) (old new : Work) (n : Nodes → Node) (t : Turn) where
  pub on_stepped : t ≡ turn.On → IsStepped now old new n t → IsStepped now old new n turn.On
  on_stepped e h = subst (IsStepped now old new n) e h

  pub no_stepped : t ≡ turn.No → IsStepped now old new n t → IsStepped now old new n turn.No
  no_stepped e h = subst (IsStepped now old new n) e h

  pub deep_stepped : t ≡ turn.Deep → IsStepped now old new n t → IsStepped now old new n turn.Deep
  deep_stepped e h = subst (IsStepped now old new n) e h

node_later : (a b : Nodes) (n : ProofNode) → Extends a b → IsNodeInside a n → IsNodeInside b n
node_later a b (code.Conv t) g l = further a b t g l
node_later a b code.True g l = tt
node_later a b code.And g l = tt
node_later a b code.Left g l = tt
node_later a b code.Right g l = tt
node_later a b (code.Some t) g l = further a b t g l
node_later a b code.All g l = tt
node_later a b code.Assume g l = tt
node_later a b code.Equal g l = tt
node_later a b code.Arith g l = tt
node_later a b (code.Back i ts) g l = inside_more a b ts.items g l
node_later a b (code.FocusConv t) g l = further a b t g l
node_later a b (code.FocusAll t) g l = further a b t g l
node_later a b (code.Take s) g l = tt
node_later a b code.Need g l = tt
node_later a b code.Hit g l = tt

pub nodes_later : (a b : Nodes) (ns : List ProofNode) → Extends a b → All (IsNodeInside a) ns → All (IsNodeInside b) ns
nodes_later a b ns g h = All-weaker (IsNodeInside a) (IsNodeInside b) (λ n l. node_later a b n g l) ns h

-- the node at a place
pub node_inside : (a b : Nodes) (nodes : List ProofNode) (i : ℕ) (x : ProofNode) → Extends a b → i < length nodes → x ≡ get_or nodes i x → All (IsNodeInside a) nodes → IsNodeInside b x
node_inside a b nodes i x g l e h = node_later a b x g (subst (IsNodeInside a) (sym e) (All-get_or (IsNodeInside a) nodes i x l h))

-- the work with other tasks
abbrev pub pushed_to : Work → Vec Task Global → Work
pushed_to w ts = record { alloc = w.alloc; theory = w.theory; known = w.known; eigens = w.eigens; assumed = w.assumed; tasks = ts }

-- at the beginning
pub idle_pushed : (b : Nodes) (old new : Work) (goal : TermId) → IsIdle old → Pushes old new (task.Prove goal) → At b new [] [] (proving (tree b goal.0) ∷ [])
idle_pushed b old new goal i p = (
  ap (types_in b) (sym (ap (λ v. v.items) p.eigens ∙ i.eigens)),
  ap (terms_in b) (sym (ap (λ v. v.items) p.assumed ∙ i.assumed)),
  ap (λ ts. proving (tree b goal.0) ∷ jobs_of b ts) (sym i.tasks) ∙ sym (job_pushed b new.tasks.items old.tasks.items (task.Prove goal) p.tasks),
)

-- the nodes up to one, the one, and those behind it
split_at : (b : Nodes) (nodes : List ProofNode) (i : ℕ) (x : ProofNode) → i < length nodes → x ≡ get_or nodes i x → map (node_of b) nodes ≡ map (node_of b) (take i nodes) ++ node_of b x ∷ map (node_of b) (drop (suc i) nodes)
split_at b [] i x l e = absurd (omega (arith, l))
split_at b (y ∷ ys) zero x l e = λ j. node_of b (sym e j) ∷ map (node_of b) ys
split_at b (y ∷ ys) (suc i) x l e = ap (λ ns. node_of b y ∷ ns) (split_at b ys i x (omega (arith, l)) e)

module _ (b : Nodes) (w : Work) (theory : Theory) (G : Term) (nodes : List ProofNode) (i : ℕ) where
  next_run : (v : Work) (n : ℕ) (x : ProofNode) → n ≡ suc i → i < length nodes → x ≡ get_or nodes i x → w.theory ≡ theory → RunsFrom (ground_in b theory) G (At b w) (map (node_of b) (take i nodes)) →
      StepsOn (ground_in b w.theory) (At b v) (types_in b w.eigens.items) (terms_in b w.assumed.items) (jobs_of b w.tasks.items) (node_of b x) → RunsFrom (ground_in b theory) G (At b v) (map (node_of b) (take n nodes))
  next_run v n x m l e q runs s =
      subst (RunsFrom (ground_in b theory) G (At b v)) (sym (map_pushed (node_of b) (take i nodes) (take n nodes) x (taken_next nodes i n x m l e)))
      (runs_next b w (ground_in b theory) G (map (node_of b) (take i nodes)) runs v (node_of b x) (subst (λ z. StepsOn (ground_in b z) (At b v) (types_in b w.eigens.items) (terms_in b w.assumed.items) (jobs_of b w.tasks.items) (node_of b x)) q s))

  pub refuted_at : (x : ProofNode) → i < length nodes → x ≡ get_or nodes i x → w.theory ≡ theory → RunsFrom (ground_in b theory) G (At b w) (map (node_of b) (take i nodes)) →
      (StepsOn (ground_in b w.theory) (Always (Unit {0})) (types_in b w.eigens.items) (terms_in b w.assumed.items) (jobs_of b w.tasks.items) (node_of b x) → ⊥) → Proves (ground_in b theory) G (map (node_of b) nodes) → ⊥
  refuted_at x l e q runs s p =
      node_refutes b w (ground_in b theory) G (map (node_of b) (take i nodes)) runs (node_of b x) (map (node_of b) (drop (suc i) nodes))
      (λ k. s (subst (λ z. StepsOn (ground_in b z) (Always (Unit {0})) (types_in b w.eigens.items) (terms_in b w.assumed.items) (jobs_of b w.tasks.items) (node_of b x)) (sym q) k))
      (subst (Proves (ground_in b theory) G) (split_at b nodes i x l e) p)

  pub large_at : (x : ProofNode) → i < length nodes → x ≡ get_or nodes i x → w.theory ≡ theory → RunsFrom (ground_in b theory) G (At b w) (map (node_of b) (take i nodes)) →
      Needs (ground_in b w.theory) (node_of b x) (types_in b w.eigens.items) (terms_in b w.assumed.items) (jobs_of b w.tasks.items) → RunsIntoLarge (ground_in b theory) G (map (node_of b) nodes)
  large_at x l e q runs s =
      runs_into b w (ground_in b theory) G (map (node_of b) (take i nodes)) runs (node_of b x) (map (node_of b) (drop (suc i) nodes)) (map (node_of b) nodes) (split_at b nodes i x l e)
      (subst (λ z. Needs (ground_in b z) (node_of b x) (types_in b w.eigens.items) (terms_in b w.assumed.items) (jobs_of b w.tasks.items)) q s)

  pub unfinished : (j : Job) (ks : List Job) → length nodes ≤ i → w.theory ≡ theory → RunsFrom (ground_in b theory) G (At b w) (map (node_of b) (take i nodes)) → (rest_in b w).jobs ≡ j ∷ ks → Proves (ground_in b theory) G (map (node_of b) nodes) → ⊥
  unfinished j ks l q runs e p =
      left_refutes b w (ground_in b theory) G (map (node_of b) (take i nodes)) runs j ks e
      (subst (Proves (ground_in b theory) G) (sym (nothing_more (map (node_of b) (take i nodes)) ∙ ap (map (node_of b)) (take_whole nodes i l))) p)

pub run_on : (b : Nodes) (w v : Work) (theory : Theory) (G : Term) (nodes : List ProofNode) (i n : ℕ) (x : ProofNode) → n ≡ suc i → i < length nodes → x ≡ get_or nodes i x → w.theory ≡ theory → RunsFrom (ground_in b theory) G (At b w) (map (node_of b) (take i nodes)) →
    StepsOn (ground_in b w.theory) (At b v) (types_in b w.eigens.items) (terms_in b w.assumed.items) (jobs_of b w.tasks.items) (node_of b x) → RunsFrom (ground_in b theory) G (At b v) (map (node_of b) (take n nodes))
run_on b w v theory G nodes i n x = next_run b w theory G nodes i v n x
