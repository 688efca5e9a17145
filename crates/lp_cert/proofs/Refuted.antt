-- Certificates that are refused, or need a large normal form.
use Rattle.std.proofs.Common.{◌≡◌, ℕ, suc, ◌+◌, ◌<◌, ◌≤◌, List, [], ◌∷◌, ◌++◌, map, length, take, refl, sym, ap, subst, ◌∙◌, arith, get_or, min}
use Rattle.std.specs.Prelude.{Result, Ok, Err, IfOk, All, Some, slice_get}
use Rattle.std.proofs.Math.Path.{transport}
use Rattle.std.proofs.lemmas.Option.{slice_get-get_or}
use Rattle.std.proofs.lemmas.List.Elements.{All-get_or, All-nil, All-weaker}
use Rattle.lp_lemmas.proofs.Elements.{All_empty}
use Rattle.lp_base.specs.declared.memory.Memory.{Memory}
use Rattle.lp_calculus.specs.Closed.{AllAtoms, AreClosed}
use Rattle.lp_calculus.specs.Term.{Term}
use Rattle.lp_term.specs.Nodes.{Nodes, Extends, tree}
use Rattle.lp_term.specs.Spine.{LooseBelow}
use Rattle.lp_term.specs.declared.node.TermId.{TermId}
use Rattle.lp_term.specs.declared.node.TypeId.{TypeId}
use Rattle.lp_term.proofs.Trees.{extends-trans, extends_same}
use Rattle.lp_model.specs.Answers.{filled}
use Rattle.lp_model.specs.Readings.{declared_by}
use Rattle.lp_model.specs.Proofs.{proves_by, no_leaf}
use Rattle.lp_model.specs.declared.certificate.Certificate.{Certificate}
use Rattle.lp_model.specs.declared.certificate.ProofNode.{ProofNode}
use Rattle.lp_model.specs.declared.program.ClauseFormula as code
use Rattle.lp_model.specs.declared.program.Declared.{Declared}
use Rattle.lp_model.specs.declared.program.Typed.{Typed}
use Rattle.lp_cert.specs.Certified.{Certifies, certificate_of, query_of}
use Rattle.lp_cert.specs.Inside.{AreDeclaredInside, IsQueryInside}
use Rattle.lp_cert.specs.Run.{NeedsLargeForm, RunsIntoLarge, StopsAt}
use Rattle.lp_cert.specs.Same.{terms_in, types_in}
use Rattle.lp_cert.specs.Standing.{AreNumbersInside, IsCertificateInside, IsClauseInside, IsNodeInside}
use Rattle.lp_cert.specs.Written.{Node, node_of, IsWritten}
use Rattle.lp_cert.specs.inner.Left.{CertifiesIn, IsFilledIn, IsIdle, Proves, Stays, ground_in, ground_over}
use Rattle.lp_cert.specs.inner.Named.{AreUnnamed, HasClosedTypes, IsNamedIn, IsSettled}
use Rattle.lp_cert.specs.inner.Turned.{IsReady, IsReadyWork, IsTaskReady}
use Rattle.lp_model.specs.declared.program.Program.{Program}
use Rattle.lp_cert.specs.declared.judging.CheckVerdict.{CheckVerdict}
use Rattle.lp_cert.specs.declared.judging.CheckVerdict.TheVariants as verdict
use Rattle.lp_cert.specs.declared.work.Turn.{Turn}
use Rattle.lp_cert.specs.declared.work.Work.{Work}
use Rattle.lp_cert.proofs.Judged.{nodes_later}
use Rattle.lp_cert.proofs.Naming.{certified_on, names_in}
use Rattle.lp_cert.proofs.Nodewise.{at_element}
use Rattle.lp_cert.proofs.Proving.{idle_on}
use Rattle.lp_cert.proofs.Ready.{clause_later, within_of, work_later, work_stays}
use Rattle.lp_cert.proofs.Later.{inside_more}
use Rattle.lp_cert.proofs.Settled.{declared_later, terms_later}

-- the conditions under which a certificate is judged
abbrev pub Judged : Nodes → Work → Typed → Certificate → Type 0
Judged a w q c = IsIdle w × IsReadyWork a w × IsQueryInside a q × IsCertificateInside a c

-- what the nodes come to, with the instance
module _ (start a now : Nodes) (old mid : Work) (q : Typed) (c : Certificate) (types : List TypeId) (values : List TermId) (nodes : List ProofNode) (goal : TermId) (before : Extends start a) (g : Extends a now) (et : types ≡ c.types.items) (ev : values ≡ c.values.items) (en : nodes ≡ c.proof.items)
    (s : Stays old mid) (named : IsIdle old → IsNamedIn a old.theory.constants.now q types values) (is_filled : (b : Nodes) → Extends a b → IsFilledIn b q types values goal)
    (inside : goal.0 < length a.terms) (closed : IsIdle old → AllAtoms HasClosedTypes (tree a goal.0)) (tight : IsIdle old → LooseBelow 0 0 (tree a goal.0)) where
  goal_is : (b : Nodes) → Extends now b → tree b goal.0 ≡ filled (query_of b q) (certificate_of b c).instance
  goal_is b h = is_filled b (extends-trans a now b g h) ∙ (λ j. filled (query_of b q) (record { types = types_in b (et j); values = terms_in b (ev j) }))

  nodes_inside : IsCertificateInside start c → All (IsNodeInside a) nodes
  nodes_inside k = nodes_later start a nodes before (subst (All (IsNodeInside start)) (sym en) k.proof)

  goal_ready : IsIdle old → IsReady a goal
  goal_ready idle = (inside, within_of HasClosedTypes 0 (tree a goal.0) (closed idle) (tight idle))

  pub refused_where : (r : Result Turn Memory) (t : Turn) → IfOk r (λ turn. turn ≡ t → IsIdle mid → IsReadyWork a mid → IsReady a goal → All (IsNodeInside a) nodes → (b : Nodes) → Extends now b → Proves (ground_in b mid.theory) (tree b goal.0) (map (node_of b) nodes) → ⊥) →
      IfOk r (λ turn. turn ≡ t → IsIdle old → IsReadyWork start old → IsQueryInside start q → IsCertificateInside start c → (b : Nodes) → Extends now b → Certifies (ground_over b old.theory.constants.now old.theory.clauses.now) (query_of b q) (certificate_of b c) → ⊥)
  refused_where (Err x) t k = tt
  refused_where (Ok u) t k = λ e idle w i l b h z.
      k e (idle_on old mid s idle) (work_stays a old mid s (work_later start a old before w)) (goal_ready idle) (nodes_inside l) b h
      (z.proof, subst (λ ms. IsWritten z.proof (map (node_of b) ms) []) (sym en) z.written, transport (λ j. proves_by no_leaf (ground_in b (sym s.theory j)).declared [] (ground_in b (sym s.theory j)).clauses (sym (goal_is b h) j) z.proof) z.proved)

  pub large_where : (r : Result Turn Memory) (t : Turn) → IfOk r (λ turn. turn ≡ t → IsIdle mid → IsReadyWork a mid → IsReady a goal → All (IsNodeInside a) nodes → (b : Nodes) → Extends now b → RunsIntoLarge (ground_in b mid.theory) (tree b goal.0) (map (node_of b) nodes)) →
      IfOk r (λ turn. turn ≡ t → IsIdle old → IsReadyWork start old → IsQueryInside start q → IsCertificateInside start c → (b : Nodes) → Extends now b → NeedsLargeForm (ground_over b old.theory.constants.now old.theory.clauses.now) (query_of b q) (certificate_of b c))
  large_where (Err x) t k = tt
  large_where (Ok u) t k = λ e idle w i l b h. record {
    names = names_in a now old.theory.constants.now q c types values g et ev (named idle) b h;
    runs = transport (λ j. RunsIntoLarge (ground_in b (s.theory j)) (goal_is b h j) (map (node_of b) (en j))) (k e (idle_on old mid s idle) (work_stays a old mid s (work_later start a old before w)) (goal_ready idle) (nodes_inside l) b h);
  }

-- no instance
pub unnamed_refused : (now b : Nodes) (cs : List Declared) (ds : List code.ClauseFormula) (q : Typed) (c : Certificate) (types : List TypeId) (values : List TermId) → Extends now b → types ≡ c.types.items → values ≡ c.values.items → AreUnnamed now cs q types values →
    Certifies (ground_over b cs ds) (query_of b q) (certificate_of b c) → ⊥
unnamed_refused now b cs ds q c types values h et ev u z = transport (λ j. AreUnnamed now cs q (et j) (ev j)) u b h (map (node_of b) c.proof.items) z.names

-- work at its beginning
pub begins_ready : (a b : Nodes) (w : Work) → Extends a b → IsIdle w → AreDeclaredInside (length a.types) w.theory.constants.now → All (IsClauseInside a) w.theory.clauses.now → IsReadyWork b w
begins_ready a b w g i cs ds = record {
  settled = record { eigens = subst (λ es. AreClosed (types_in b es)) (sym i.eigens) tt; constants = declared_later a b w.theory.constants.now g cs };
  clauses = All-weaker (IsClauseInside a) (IsClauseInside b) (λ c h. clause_later a b c g h) w.theory.clauses.now ds;
  assumed = All_empty (IsReady b) w.assumed.items i.assumed;
  tasks = All_empty (IsTaskReady b) w.tasks.items i.tasks;
}

-- the first certificate that does not pass
pub stops_at : {A : Type 0} (P Q : A → Type 0) (xs : List A) (i n : ℕ) (x : A) → i < length xs → x ≡ get_or xs i x → n ≡ min (suc i) 4294967295 → All P (take i xs) → Q x → StopsAt P Q xs n
stops_at P Q xs i n x l e m h q = record { place = i; counted = m; before = h; element = x; at = slice_get-get_or xs i x l ∙ ap Some (sym e); stops = q }

pub stops_with : {A : Type 0} (P R Q S : A → Type 0) (xs : List A) (n : ℕ) → ((x : A) → P x → R x) → ((x : A) → Q x → S x) → StopsAt P Q xs n → StopsAt R S xs n
stops_with P R Q S xs n f g h = record { place = h.place; counted = h.counted; before = All-weaker P R f (take h.place xs) h.before; element = h.element; at = h.at; stops = g h.element h.stops }

-- the query and a certificate, later
pub query_later : (a b : Nodes) (q : Typed) → Extends a b → IsQueryInside a q → IsQueryInside b q
query_later a b q g h = record {
  vars = All-weaker (λ v. v.1.0 < length a.types) (λ v. v.1.0 < length b.types) (λ v l. let m = g.more_types in omega (arith, l, m)) q.vars.items h.vars;
  formula = (let l = h.formula in let m = g.more_terms in omega (arith, l, m));
  indices = subst (LooseBelow (length q.vars.items) 0) (sym (g.same_terms q.formula.0 h.formula)) h.indices;
}

pub certificate_inside : (a b : Nodes) (cs : List Certificate) (i : ℕ) (c : Certificate) → Extends a b → i < length cs → c ≡ get_or cs i c → All (IsCertificateInside a) cs → IsCertificateInside b c
certificate_inside a b cs i c g l e h =
    let k = subst (IsCertificateInside a) (sym e) (All-get_or (IsCertificateInside a) cs i c l h) in
    record { types = inside_more a b c.types.items g k.types; values = terms_later a b c.values.items g k.values; proof = nodes_later a b c.proof.items g k.proof }

-- over the program of the work
pub refused_by : (b : Nodes) (w : Work) (q : Typed) (c : Certificate) (cs : List Declared) (ds : List code.ClauseFormula) → w.theory.constants.now ≡
    cs → w.theory.clauses.now ≡ ds → (Certifies (ground_over b w.theory.constants.now w.theory.clauses.now) (query_of b q) (certificate_of b c) → ⊥) →
    Certifies (ground_over b cs ds) (query_of b q) (certificate_of b c) → ⊥
refused_by b w q c cs ds e f h = transport (λ j. Certifies (ground_over b (e j) (f j)) (query_of b q) (certificate_of b c) → ⊥) h

pub large_by : (b : Nodes) (w : Work) (q : Typed) (c : Certificate) (cs : List Declared) (ds : List code.ClauseFormula) → w.theory.constants.now ≡ cs
    → w.theory.clauses.now ≡ ds → NeedsLargeForm (ground_over b w.theory.constants.now w.theory.clauses.now) (query_of b q) (certificate_of b c) →
    NeedsLargeForm (ground_over b cs ds) (query_of b q) (certificate_of b c)
large_by b w q c cs ds e f h = transport (λ j. NeedsLargeForm (ground_over b (e j) (f j)) (query_of b q) (certificate_of b c)) h

-- the verdict, in the bank at the end
module _ (a b : Nodes) (cs : List Declared) (ds : List code.ClauseFormula) (q : Typed) (xs : List Certificate) (certifies : Certificate → Type 0) (is : (c : Certificate) → CertifiesIn b cs ds q c → certifies c) where
  pub stops_now : (r : Result CheckVerdict Memory) (v : ℕ → CheckVerdict) (Q : Nodes → Certificate → Type 0) → IfOk r
      (λ x. (i : ℕ) → x ≡ v i → AreDeclaredInside (length a.types) cs → All (IsClauseInside a) ds → IsQueryInside a q → All (IsCertificateInside a) xs
      → StopsAt (CertifiesIn b cs ds q) (λ c. (d : Nodes) → Extends b d → Q d c) xs i) →
      (P : Program) → P.bank ≡ a → P.constants.items ≡ cs → P.clauses.items ≡ ds → IfOk r (λ x. (i : ℕ) → x ≡ v i → AreNumbersInside P q xs → StopsAt certifies (Q b) xs i)
  stops_now (Err x) v Q k P eb ec ed = tt
  stops_now (Ok x) v Q k P eb ec ed = λ i e n.
      stops_with (CertifiesIn b cs ds q) certifies (λ c. (d : Nodes) → Extends b d → Q d c) (Q b) xs i is (λ c f. f b (extends_same b))
      (k i e (transport (λ j. AreDeclaredInside (length (eb j).types) (ec j)) n.constants) (transport (λ j. All (IsClauseInside (eb j)) (ed j)) n.clauses) (subst (λ z. IsQueryInside z q) eb n.query) (subst (λ z. All (IsCertificateInside z) xs) eb n.certificates))

pub rejected_number : (m n : ℕ) → verdict.Rejected m ≡ verdict.Rejected n → m ≡ n
rejected_number m n e = cc

pub deep_number : (m n : ℕ) → verdict.Deep m ≡ verdict.Deep n → m ≡ n
deep_number m n e = cc

-- where none needs a large normal form, all that are right are accepted
pub exact_of : {A : Type 0} (P L : A → Type 0) (xs : List A) (N : Type 0) (r : Result CheckVerdict Memory) → IfOk r (λ v. (i : ℕ) → v ≡ verdict.Rejected i → N → StopsAt P (λ x. P x → ⊥) xs i) → IfOk r (λ v. (i : ℕ) → v ≡ verdict.Deep i → N → StopsAt P L xs i) →
    IfOk r (λ v. N → All (λ x. L x → ⊥) xs → All P xs → v ≡ verdict.Accepted)
exact_of P L xs N (Err x) f g = tt
exact_of P L xs N (Ok verdict.Accepted) f g = λ n h k. refl
exact_of P L xs N (Ok (verdict.Rejected i)) f g = λ n h k. let s = f i refl n in absurd (s.stops (at_element P xs s.place s.element s.at k))
exact_of P L xs N (Ok (verdict.Deep i)) f g = λ n h k. let s = g i refl n in absurd (at_element (λ x. L x → ⊥) xs s.place s.element s.at h s.stops)
