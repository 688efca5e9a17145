-- Nodes that end what is left are a proof, and with an instance a certificate.
use Rattle.std.proofs.Common.{◌≡◌, ℕ, suc, ◌<◌, ◌≤◌, List, [], ◌∷◌, ◌++◌, map, length, take, refl, sym, ap, subst, ◌∙◌, get_or}
use Rattle.std.specs.Prelude.{Result, Ok, Err, IfOk}
use Rattle.std.proofs.Math.Path.{transport}
use Rattle.std.proofs.lemmas.List.{append_assoc}
use Rattle.lp_lemmas.proofs.Lists.{map_pushed}
use Rattle.lp_base.specs.declared.memory.Memory.{Memory}
use Rattle.lp_calculus.specs.Term.{Term}
use Rattle.lp_term.specs.Nodes.{Nodes, Extends, tree}
use Rattle.lp_term.specs.declared.node.TypeId.{TypeId}
use Rattle.lp_term.specs.declared.node.TermId.{TermId}
use Rattle.lp_term.proofs.Knowing.{take_whole}
use Rattle.lp_term.proofs.Trees.{extends-trans}
use Rattle.lp_model.specs.Answers.{filled}
use Rattle.lp_model.specs.Proofs.{proves_by, no_leaf}
use Rattle.lp_model.specs.declared.certificate.Certificate.{Certificate}
use Rattle.lp_model.specs.declared.certificate.ProofNode.{ProofNode}
use Rattle.lp_model.specs.declared.program.Typed.{Typed}
use Rattle.lp_cert.specs.Certified.{query_of}
use Rattle.lp_cert.specs.Same.{terms_in, types_in}
use Rattle.lp_cert.specs.Written.{Node, node_of, IsWritten}
use Rattle.lp_cert.specs.Run.{proving}
use Rattle.lp_cert.specs.inner.Left.{CertifiesIn, Ends, Goes, IsFilledIn, IsIdle, Left, LeftWith, Proves, Stays, ground_in, job_of, jobs_of}
use Rattle.lp_cert.specs.inner.Named.{IsNamedIn}
use Rattle.lp_cert.specs.declared.work.Task.{Task}
use Rattle.lp_cert.specs.declared.work.Turn.{Turn}
use Rattle.lp_cert.specs.declared.work.Turn.TheVariants.{On}
use Rattle.lp_cert.specs.declared.work.Work.{Work}
use Rattle.lp_cert.proofs.Naming.{names_in}
use Rattle.lp_cert.proofs.Witnesses.{taken_next}

-- a node that is for the next task
pub step_goes : (r : Result Turn Memory) (now : Nodes) (old mid new : Work) (t u : Task) (n : ProofNode) → t ≡ u → ((b : Nodes) → (ns : List Node) → LeftWith b mid (job_of b t) ns → Left b old ns) →
    IfOk r (λ turn. turn ≡ On → (b : Nodes) → Extends now b → Goes b mid new (job_of b u) (node_of b n)) → IfOk r (λ turn. turn ≡ On → (b : Nodes) → Extends now b → (ns : List Node) → Left b new ns → Left b old (node_of b n ∷ ns))
step_goes (Err x) now old mid new t u n e s k = tt
step_goes (Ok x) now old mid new t u n e s k = λ y b g ns h. s b (node_of b n ∷ ns) (subst (λ z. LeftWith b mid (job_of b z) (node_of b n ∷ ns)) (sym e) (k y b g ns h))

-- one more node
pub nodes_next : (b : Nodes) (w : Work) (G : Term) (nodes : List ProofNode) (i n : ℕ) (x : ProofNode) (ns : List Node) → n ≡ suc i → i < length nodes → x ≡ get_or nodes i x → LeftWith b w (proving G) (map (node_of b) (take i nodes) ++ (node_of b x ∷ ns)) →
    LeftWith b w (proving G) (map (node_of b) (take n nodes) ++ ns)
nodes_next b w G nodes i n x ns m l e h =
    subst (LeftWith b w (proving G)) (sym (ap (λ ys. ys ++ ns) (map_pushed (node_of b) (take i nodes) (take n nodes) x (taken_next nodes i n x m l e)) ∙ append_assoc (map (node_of b) (take i nodes)) (node_of b x ∷ []) ns)) h

nothing_more : {A : Type 0} (xs : List A) → xs ++ [] ≡ xs
nothing_more [] = refl
nothing_more (x ∷ xs) = ap (λ ys. x ∷ ys) (nothing_more xs)

pub nodes_prove : (b : Nodes) (w : Work) (G : Term) (nodes : List ProofNode) (i : ℕ) → IsIdle w → length nodes ≤ i → LeftWith b w (proving G) (map (node_of b) (take i nodes) ++ []) → Proves (ground_in b w.theory) G (map (node_of b) nodes)
nodes_prove b w G nodes i idle l h =
    let g = ground_in b w.theory in
    let k = transport (λ j. Ends g (types_in b (idle.eigens j)) (terms_in b (idle.assumed j)) (proving G ∷ jobs_of b (idle.tasks j)) ((nothing_more (map (node_of b) (take i nodes)) ∙ ap (map (node_of b)) (take_whole nodes i l)) j)) h in
    (k.0, subst (IsWritten k.0 (map (node_of b) nodes)) k.4 k.2, subst (λ P. proves_by no_leaf g.declared [] P G k.0) (nothing_more g.clauses) k.3)

pub idle_on : (old mid : Work) → Stays old mid → IsIdle old → IsIdle mid
idle_on old mid s i = record { eigens = ap (λ v. v.items) s.eigens ∙ i.eigens; assumed = ap (λ v. v.items) s.assumed ∙ i.assumed; tasks = ap (λ v. v.items) s.tasks ∙ i.tasks }

-- an instance with its proof
pub certifies_where : (r : Result Turn Memory) (a now : Nodes) (old mid : Work) (q : Typed) (c : Certificate) (types : List TypeId) (values : List TermId) (nodes : List ProofNode) (goal : TermId) → Extends a now → types ≡ c.types.items → values ≡ c.values.items → nodes ≡ c.proof.items →
    Stays old mid → (IsIdle old → IsNamedIn a old.theory.constants.now q types values) → ((b : Nodes) → Extends a b → IsFilledIn b q types values goal) →
    IfOk r (λ turn. turn ≡ On → IsIdle mid → (b : Nodes) → Extends now b → Proves (ground_in b mid.theory) (tree b goal.0) (map (node_of b) nodes)) →
    IfOk r (λ turn. turn ≡ On → IsIdle old → CertifiesIn now old.theory.constants.now old.theory.clauses.now q c)
certifies_where (Err x) a now old mid q c types values nodes goal g et ev en s n f k = tt
certifies_where (Ok x) a now old mid q c types values nodes goal g et ev en s n f k = λ e idle b h.
    let p = k e (idle_on old mid s idle) b h in
    let is = f b (extends-trans a now b g h) ∙ (λ j. filled (query_of b q) (record { types = types_in b (et j); values = terms_in b (ev j) })) in
    record {
      names = names_in a now old.theory.constants.now q c types values g et ev (n idle) b h;
      proof = p.0;
      written = subst (λ ms. IsWritten p.0 (map (node_of b) ms) []) en p.1;
      proved = transport (λ j. proves_by no_leaf (ground_in b (s.theory j)).declared [] (ground_in b (s.theory j)).clauses (is j) p.0) p.2;
    }
