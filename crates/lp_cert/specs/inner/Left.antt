-- What is left to do of a judging, and the nodes that end it.
use Rattle.std.specs.Prelude.{◌≡◌, ℕ, ◌-◌, Some, slice_get, List, [], ◌∷◌, ◌++◌, map, length, take, reverse}
use Rattle.lp_calculus.specs.Types.{Ty}
use Rattle.lp_calculus.specs.Term.{Term}
use Rattle.lp_calculus.specs.Typing.{type_at}
use Rattle.lp_calculus.specs.Instance.{instance_term}
use Rattle.lp_model.specs.Flatten.{ClauseFormula}
use Rattle.lp_term.specs.Nodes.{Nodes, Extends, tree}
use Rattle.lp_term.specs.declared.node.TermId.{TermId}
use Rattle.lp_term.specs.declared.node.TypeId.{TypeId}
use Rattle.lp_model.specs.Proofs.{Proof, Focus, proves_by, focuses_by, no_leaf, assumed}
use Rattle.lp_model.specs.Readings.{declared_by, formula_of}
use Rattle.lp_model.specs.Answers.{filled}
use Rattle.lp_model.specs.declared.certificate.Certificate.{Certificate}
use Rattle.lp_model.specs.declared.program.ClauseFormula as code
use Rattle.lp_model.specs.declared.program.Declared.{Declared}
use Rattle.lp_model.specs.declared.program.Typed.{Typed}
use Rattle.lp_cert.specs.Certified.{Ground, Certifies, certificate_of, query_of}
use Rattle.lp_cert.specs.Written.{Node, IsWritten, IsFocusWritten}
use Rattle.lp_cert.specs.Run.{Job, proving, focusing, leaving_eigen, leaving_assumed, without_last}
use Rattle.lp_cert.specs.Same.{terms_in, types_in}
use Rattle.lp_cert.specs.declared.work.Task.{Task}
use Rattle.lp_cert.specs.declared.work.Task.TheVariants as task
use Rattle.lp_cert.specs.declared.work.Theory.{Theory}
use Rattle.lp_cert.specs.declared.work.Work.{Work}

-- under these eigenconstants and assumptions the nodes prove all that is to be proved, in order
abbrev pub Ends : Ground → (E : List Ty) → (As : List Term) → List Job → List Node → Type 0
Ends g E As [] ns = ns ≡ []
Ends g E As (proving G ∷ js) ns = (p : Proof) × (more : List Node) × IsWritten p ns more × proves_by no_leaf g.declared E (g.clauses ++ map assumed As) G p × Ends g E As js more
Ends g E As (focusing D G ∷ js) ns = (f : Focus) × (more : List Node) × IsFocusWritten f ns more × focuses_by no_leaf g.declared E (g.clauses ++ map assumed As) D G f × Ends g E As js more
Ends g E As (leaving_eigen ∷ js) ns = Ends g (without_last E) As js ns
Ends g E As (leaving_assumed ∷ js) ns = Ends g E (without_last As) js ns

abbrev pub ground_over : Nodes → List Declared → List code.ClauseFormula → Ground
ground_over b cs ds = record { declared = declared_by b cs; clauses = map (formula_of b) ds }

abbrev pub ground_in : Nodes → Theory → Ground
ground_in b t = ground_over b t.constants.now t.clauses.now

abbrev pub job_of : Nodes → Task → Job
job_of b (task.Prove goal) = proving (tree b goal.0)
job_of b (task.Focus clause goal) = focusing (tree b clause.0) (tree b goal.0)
job_of b task.LeaveEigen = leaving_eigen
job_of b task.LeaveAssumed = leaving_assumed

-- the next one first
abbrev pub jobs_of : Nodes → List Task → List Job
jobs_of b ts = reverse (map (job_of b) ts)

-- the nodes end what is left, read in a bank
abbrev pub Left : Nodes → Work → List Node → Type 0
Left b w ns = Ends (ground_in b w.theory) (types_in b w.eigens.items) (terms_in b w.assumed.items) (jobs_of b w.tasks.items) ns

-- they end this job, and then what is left
abbrev pub LeftWith : Nodes → Work → Job → List Node → Type 0
LeftWith b w j ns = Ends (ground_in b w.theory) (types_in b w.eigens.items) (terms_in b w.assumed.items) (j ∷ jobs_of b w.tasks.items) ns

-- what ends the work as it is now, behind this node ends the job and the work as it was
abbrev pub Goes : Nodes → (old new : Work) → Job → Node → Type 0
Goes b old new j n = (ns : List Node) → Left b new ns → LeftWith b old j (n ∷ ns)

-- all but what is known is as it was
pub record Stays (old new : Work) : Type 0 where
  pub theory : new.theory ≡ old.theory
  pub eigens : new.eigens ≡ old.eigens
  pub assumed : new.assumed ≡ old.assumed
  pub tasks : new.tasks ≡ old.tasks

-- the formula is the clause of this number with types for its type variables, of which it has as many
pub record IsClauseIn (b : Nodes) (theory : Theory) (more : List TermId) (i : ℕ) (ts : List Ty) (t : Term) : Type 0 where
  pub clause : ClauseFormula
  pub at : slice_get ((ground_in b theory).clauses ++ map assumed (terms_in b more)) i ≡ Some clause
  pub count : length ts ≡ clause.type_vars
  pub is : t ≡ instance_term (type_at ts) clause.formula

-- the formula is that of a clause of the list, at this place, with the types for its type variables, of which it has as many
abbrev pub IsDeclared : Nodes → List code.ClauseFormula → ℕ → List TypeId → Term → Type 0
IsDeclared b cs i ts t = (c : code.ClauseFormula) × (slice_get cs i ≡ Some c) × (length ts ≡ c.type_vars) × (t ≡ instance_term (type_at (types_in b ts)) (tree b c.formula.0))

pub record IsIdle (w : Work) : Type 0 where
  pub eigens : w.eigens.items ≡ []
  pub assumed : w.assumed.items ≡ []
  pub tasks : w.tasks.items ≡ []

-- the nodes are a proof of the goal from the clauses
abbrev pub Proves : Ground → Term → List Node → Type 0
Proves g G ns = (p : Proof) × IsWritten p ns [] × proves_by no_leaf g.declared [] g.clauses G p

-- the goal is the query with these types and values
abbrev pub IsFilledIn : Nodes → Typed → List TypeId → List TermId → TermId → Type 0
IsFilledIn b q ts vs goal = tree b goal.0 ≡ filled (query_of b q) (record { types = types_in b ts; values = terms_in b vs })

-- the certificate is right in each bank that this one grows to
abbrev pub CertifiesIn : Nodes → List Declared → List code.ClauseFormula → Typed → Certificate → Type 0
CertifiesIn now cs ds q c = (b : Nodes) → Extends now b → Certifies (ground_over b cs ds) (query_of b q) (certificate_of b c)
