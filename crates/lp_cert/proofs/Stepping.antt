-- Each node of a proof takes the job at the top to those below it.
use Rattle.std.proofs.Common.{◌≡◌, ℕ, suc, ◌-◌, List, [], ◌∷◌, ◌++◌, map, length, take, refl, sym, ap, subst, ◌∙◌, arith, true, false}
use Rattle.std.specs.Prelude.{slice_get, Some, Result, Ok, Err, IfOk, OnOk, ◌⊎◌}
use Rattle.std.proofs.Math.Path.{transport}
use Rattle.lp_term.specs.Nodes.{Extends}
use Rattle.std.proofs.lemmas.List.{append_assoc, length-map, map-append, take-map}
use Rattle.std.proofs.Math.Seq.{take-append_seam}
use Rattle.lp_lemmas.proofs.Lists.{length_push_suc, map_pushed, reverse_pushed}
use Rattle.lp_calculus.specs.Types.{Ty}
use Rattle.lp_calculus.specs.Term.{Term, atom, app, eigen}
use Rattle.lp_calculus.specs.Convert.{Converts}
use Rattle.lp_calculus.specs.Spine.{head_of}
use Rattle.lp_calculus.specs.Closed.{AreClosed}
use Rattle.lp_calculus.specs.Typing.{type_at}
use Rattle.lp_calculus.specs.Instance.{instance_term}
use Rattle.lp_standard.specs.Connectives.{truth, cut, two, pi_of, sigma_of}
use Rattle.lp_standard.specs.Numbers as number
use Rattle.lp_term.specs.Nodes.{Nodes, tree, type_tree}
use Rattle.lp_term.specs.declared.node.TermId.{TermId}
use Rattle.lp_term.specs.declared.node.TypeId.{TypeId}
use Rattle.lp_model.specs.Flatten.{ClauseFormula}
use Rattle.lp_model.specs.Proofs.{IsFormula, IsWitness, IsArith, IsImplication, IsAtomHead, assumed, no_leaf, proves_by, Conv, True, And, Left as LeftProof, Right, Witness, All, Assume, Equal, Arith, Back, FConv, FAll, FTake, FNeed, FHit}
use Rattle.lp_cert.specs.Certified.{Ground}
use Rattle.lp_cert.specs.Shape.{IsEquation}
use Rattle.lp_cert.specs.Same.{terms_in, types_in}
use Rattle.lp_cert.specs.Written.{Node, node_of, converted, trivial, pair, left_side, right_side, witness, general, assuming, equated, counted, back_to, focus_converted, focus_witness, side, premise, hit}
use Rattle.lp_cert.specs.Run.{Job, proving, focusing, leaving_eigen, leaving_assumed, without_last}
use Rattle.lp_cert.specs.inner.Left.{Ends, Left, LeftWith, Goes, Stays, job_of, jobs_of, ground_in}
use Rattle.lp_cert.specs.declared.work.Task.{Task}
use Rattle.lp_cert.specs.declared.work.Task.TheVariants as task
use Rattle.lp_cert.specs.declared.work.Turn.{Turn}
use Rattle.lp_cert.specs.declared.work.Turn.TheVariants.{On}
use Rattle.lp_cert.specs.declared.work.Work.{Work}
use Rattle.lp_model.specs.declared.certificate.ProofNode.{ProofNode}
use Rattle.lp_base.specs.declared.memory.Memory.{Memory}

pub without_pushed : {A : Type 0} (xs : List A) (x : A) → without_last (xs ++ x ∷ []) ≡ xs
without_pushed xs x = ap (λ n. take n (xs ++ x ∷ [])) (let l = length_push_suc xs x in omega (arith, l)) ∙ take-append_seam xs (x ∷ [])

-- one more task is one more job before the others
pub job_pushed : (b : Nodes) (all ts : List Task) (t : Task) → all ≡ ts ++ t ∷ [] → jobs_of b all ≡ job_of b t ∷ jobs_of b ts
job_pushed b all ts t e = reverse_pushed (map (job_of b) all) (map (job_of b) ts) (job_of b t) (map_pushed (job_of b) ts all t e)

pub assumed_pushed : (P : List ClauseFormula) (As : List Term) (D : Term) → P ++ map assumed (As ++ D ∷ []) ≡ (P ++ map assumed As) ++ assumed D ∷ []
assumed_pushed P As D = ap (λ l. P ++ l) (map-append assumed As (D ∷ [])) ∙ sym (append_assoc P (map assumed As) (assumed D ∷ []))

module _ (g : Ground) (E : List Ty) (As : List Term) (js : List Job) (ns : List Node) where
  pub by_conv : (G H : Term) → IsFormula g.declared E H → Converts H G → Ends g E As (proving H ∷ js) ns → Ends g E As (proving G ∷ js) (converted H ∷ ns)
  by_conv G H f c h = (Conv H h.0, h.1, (ns, refl, h.2), (f, c, h.3), h.4)

  pub by_truth : (G : Term) → (G ≡ truth) ⊎ (G ≡ cut) → Ends g E As js ns → Ends g E As (proving G ∷ js) (trivial ∷ ns)
  by_truth G t h = (True, ns, refl, t, h)

  pub by_both : (G A B : Term) → G ≡ two number.And [] A B → Ends g E As (proving A ∷ proving B ∷ js) ns → Ends g E As (proving G ∷ js) (pair ∷ ns)
  by_both G A B e h = (And h.0 h.4.0, h.4.1, (ns, h.1, refl, h.2, h.4.2), (A, B, e, h.3, h.4.3), h.4.4)

  pub by_left : (G A B : Term) → G ≡ two number.Or [] A B → Ends g E As (proving A ∷ js) ns → Ends g E As (proving G ∷ js) (left_side ∷ ns)
  by_left G A B e h = (LeftProof h.0, h.1, (ns, refl, h.2), (A, B, e, h.3), h.4)

  pub by_right : (G A B : Term) → G ≡ two number.Or [] A B → Ends g E As (proving B ∷ js) ns → Ends g E As (proving G ∷ js) (right_side ∷ ns)
  by_right G A B e h = (Right h.0, h.1, (ns, refl, h.2), (A, B, e, h.3), h.4)

  pub by_witness : (G : Term) (T : Ty) (s t : Term) → G ≡ sigma_of T s → IsWitness g.declared E t T → Ends g E As (proving (app s t) ∷ js) ns → Ends g E As (proving G ∷ js) (witness t ∷ ns)
  by_witness G T s t e w h = (Witness t h.0, h.1, (ns, refl, h.2), (T, s, e, w, h.3), h.4)

  pub by_all : (G : Term) (T : Ty) (s : Term) → G ≡ pi_of T s → Ends g (E ++ T ∷ []) As (proving (app s (atom (eigen (suc (length E))))) ∷ leaving_eigen ∷ js) ns → Ends g E As (proving G ∷ js) (general ∷ ns)
  by_all G T s e h = (All h.0, h.1, (ns, refl, h.2), (T, s, e, h.3), subst (λ F. Ends g F As js h.1) (without_pushed E T) h.4)

  pub by_assumption : (G D A : Term) → IsImplication G D A → Ends g E (As ++ D ∷ []) (proving A ∷ leaving_assumed ∷ js) ns → Ends g E As (proving G ∷ js) (assuming ∷ ns)
  by_assumption G D A e h = (
    Assume h.0,
    h.1,
    (ns, refl, h.2),
    (D, A, e, subst (λ P. proves_by no_leaf g.declared E P A h.0) (assumed_pushed g.clauses As D) h.3),
    subst (λ Bs. Ends g E Bs js h.1) (without_pushed As D) h.4,
  )

  pub by_equation : (G : Term) → IsEquation G → Ends g E As js ns → Ends g E As (proving G ∷ js) (equated ∷ ns)
  by_equation G e h = (Equal, ns, refl, e, h)

  pub by_arithmetic : (G : Term) → IsArith G → Ends g E As js ns → Ends g E As (proving G ∷ js) (counted ∷ ns)
  by_arithmetic G a h = (Arith, ns, refl, a, h)

  pub by_clause : (G : Term) (i : ℕ) (ts : List Ty) (D : ClauseFormula) → slice_get (g.clauses ++ map assumed As) i ≡ Some D → length ts ≡ D.type_vars → AreClosed ts → IsAtomHead (head_of G) →
      Ends g E As (focusing (instance_term (type_at ts) D.formula) G ∷ js) ns → Ends g E As (proving G ∷ js) (back_to i ts ∷ ns)
  by_clause G i ts D at l c a h = (Back i ts h.0, h.1, (ns, refl, h.2), (D, at, l, c, a, h.3), h.4)

  pub on_conv : (D H G : Term) → IsFormula g.declared E H → Converts H D → Ends g E As (focusing H G ∷ js) ns → Ends g E As (focusing D G ∷ js) (focus_converted H ∷ ns)
  on_conv D H G f c h = (FConv H h.0, h.1, (ns, refl, h.2), (f, c, h.3), h.4)

  pub on_all : (D G : Term) (T : Ty) (s t : Term) → D ≡ pi_of T s → IsWitness g.declared E t T → Ends g E As (focusing (app s t) G ∷ js) ns → Ends g E As (focusing D G ∷ js) (focus_witness t ∷ ns)
  on_all D G T s t e w h = (FAll t h.0, h.1, (ns, refl, h.2), (T, s, e, w, h.3), h.4)

  pub on_left : (D G B C : Term) → D ≡ two number.And [] B C → Ends g E As (focusing B G ∷ js) ns → Ends g E As (focusing D G ∷ js) (side 0 ∷ ns)
  on_left D G B C e h = (FTake false h.0, h.1, (ns, refl, h.2), (B, C, e, h.3), h.4)

  pub on_right : (D G B C : Term) → D ≡ two number.And [] B C → Ends g E As (focusing C G ∷ js) ns → Ends g E As (focusing D G ∷ js) (side 1 ∷ ns)
  on_right D G B C e h = (FTake true h.0, h.1, (ns, refl, h.2), (B, C, e, h.3), h.4)

  pub on_premise : (D G A B : Term) → IsImplication D A B → Ends g E As (proving A ∷ focusing B G ∷ js) ns → Ends g E As (focusing D G ∷ js) (premise ∷ ns)
  on_premise D G A B e h = (FNeed h.0 h.4.0, h.4.1, (ns, h.1, refl, h.2, h.4.2), (A, B, e, h.3, h.4.3), h.4.4)

  pub on_hit : (D G : Term) → Converts D G → Ends g E As js ns → Ends g E As (focusing D G ∷ js) (hit ∷ ns)
  on_hit D G c h = (FHit, ns, refl, c, h)

-- the same of work

pub task_pushed : (b : Nodes) (w : Work) (all : List Task) (t : Task) (ns : List Node) → all ≡ w.tasks.items ++ t ∷ [] →
    Ends (ground_in b w.theory) (types_in b w.eigens.items) (terms_in b w.assumed.items) (jobs_of b all) ns → LeftWith b w (job_of b t) ns
task_pushed b w all t ns e h = subst (λ js. Ends (ground_in b w.theory) (types_in b w.eigens.items) (terms_in b w.assumed.items) js ns) (job_pushed b all w.tasks.items t e) h

pub task_popped : (b : Nodes) (w : Work) (rest : List Task) (t u : Task) (ns : List Node) → t ≡ u → w.tasks.items ≡ rest ++ t ∷ [] →
    Ends (ground_in b w.theory) (types_in b w.eigens.items) (terms_in b w.assumed.items) (job_of b u ∷ jobs_of b rest) ns → Left b w ns
task_popped b w rest t u ns q e h = subst (λ js. Ends (ground_in b w.theory) (types_in b w.eigens.items) (terms_in b w.assumed.items) js ns) (sym (job_pushed b w.tasks.items rest u (e ∙ ap (λ x. rest ++ x ∷ []) q))) h

pub nothing_ends : (b : Nodes) (w : Work) → w.tasks.items ≡ [] → Left b w []
nothing_ends b w e = subst (λ ts. Ends (ground_in b w.theory) (types_in b w.eigens.items) (terms_in b w.assumed.items) (jobs_of b ts) []) (sym e) refl

-- without the newest one, where there is one
pub popped_rest : {A B : Type 0} (f : A → B) (all rest : List A) (n : ℕ) → n ≡ length all → rest ≡ take (n - 1) all → map f rest ≡ without_last (map f all)
popped_rest f all rest n l e = ap (map f) e ∙ sym (take-map f (n - 1) all) ∙ ap (λ k. take (k - 1) (map f all)) (l ∙ sym (length-map all f))

pub eigen_left : (b : Nodes) (w : Work) (rest : List Task) (t : Task) (es : List TypeId) (n : ℕ) (ns : List Node) → t ≡ task.LeaveEigen → w.tasks.items ≡ rest ++ t ∷ [] → n ≡ length w.eigens.items → es ≡ take (n - 1) w.eigens.items →
    Ends (ground_in b w.theory) (types_in b es) (terms_in b w.assumed.items) (jobs_of b rest) ns → Left b w ns
eigen_left b w rest t es n ns q e l f h =
    task_popped b w rest t task.LeaveEigen ns q e (subst (λ E. Ends (ground_in b w.theory) E (terms_in b w.assumed.items) (jobs_of b rest) ns) (popped_rest (λ x. type_tree b x.0) w.eigens.items es n l f) h)

pub assumed_left : (b : Nodes) (w : Work) (rest : List Task) (t : Task) (later : List TermId) (n : ℕ) (ns : List Node) → t ≡ task.LeaveAssumed → w.tasks.items ≡ rest ++ t ∷ [] → n ≡ length w.assumed.items → later ≡ take (n - 1) w.assumed.items →
    Ends (ground_in b w.theory) (types_in b w.eigens.items) (terms_in b later) (jobs_of b rest) ns → Left b w ns
assumed_left b w rest t later n ns q e l f h =
    task_popped b w rest t task.LeaveAssumed ns q e (subst (λ As. Ends (ground_in b w.theory) (types_in b w.eigens.items) As (jobs_of b rest) ns) (popped_rest (λ x. tree b x.0) w.assumed.items later n l f) h)

-- what is only known has changed
pub stays_left : (b : Nodes) (old new : Work) (ns : List Node) → Stays old new → Left b new ns → Left b old ns
stays_left b old new ns s h = transport (λ j. Ends (ground_in b (s.theory j)) (types_in b (s.eigens j).items) (terms_in b (s.assumed j).items) (jobs_of b (s.tasks j).items) ns) h

pub stays_with : (b : Nodes) (old new : Work) (j : Job) (ns : List Node) → Stays old new → LeftWith b new j ns → LeftWith b old j ns
stays_with b old new j ns s h = transport (λ i. Ends (ground_in b (s.theory i)) (types_in b (s.eigens i).items) (terms_in b (s.assumed i).items) (j ∷ jobs_of b (s.tasks i).items) ns) h

pub stays_trans : (a b c : Work) → Stays a b → Stays b c → Stays a c
stays_trans a b c s t = record { theory = t.theory ∙ s.theory; eigens = t.eigens ∙ s.eigens; assumed = t.assumed ∙ s.assumed; tasks = t.tasks ∙ s.tasks }

-- what holds where the last call goes on
pub goes_on : (r : Result Turn Memory) (P Q : Type 0) → OnOk r P → (P → Q) → IfOk r (λ turn. turn ≡ On → Q)
goes_on (Err x) P Q p f = tt
goes_on (Ok t) P Q p f = λ e. f p

pub goes_where : (r : Result Turn Memory) (P Q : Type 0) → IfOk r (λ turn. turn ≡ On → P) → (P → Q) → IfOk r (λ turn. turn ≡ On → Q)
goes_where (Err x) P Q p f = tt
goes_where (Ok t) P Q p f = λ e. f (p e)

-- a node that was looked at
pub goes_as : (r : Result Turn Memory) (now : Nodes) (old new : Work) (j : Nodes → Job) (n m : ProofNode) → n ≡ m → IfOk r (λ turn. turn ≡ On → (b : Nodes) → Extends now b → Goes b old new (j b) (node_of b m)) →
    IfOk r (λ turn. turn ≡ On → (b : Nodes) → Extends now b → Goes b old new (j b) (node_of b n))
goes_as r now old new j n m e h = subst (λ x. IfOk r (λ turn. turn ≡ On → (b : Nodes) → Extends now b → Goes b old new (j b) (node_of b x))) (sym e) h
