-- Values and instances stay what they are in the banks that one grows to.
use Rattle.std.proofs.Common.{◌≡◌, ℕ, suc, ◌<◌, ◌≤◌, List, [], ◌∷◌, length, map, take, refl, sym, ap, subst, ◌∙◌, true, get_or, Bool}
use Rattle.std.proofs.Math.Path.{transport}
use Rattle.std.specs.Prelude.{All, Option, Some, None, IfSome, Result, Ok, Err, IfOk}
use Rattle.std.proofs.lemmas.List.Elements.{All-nil, All-cons, All-head, All-tail, All-push}
use Rattle.std.proofs.lemmas.List.{length-map}
use Rattle.std.proofs.lemmas.Option.{slice_get_read}
use Rattle.lp_lemmas.proofs.Lists.{take_suc, map_composed}
use Rattle.lp_base.specs.declared.memory.Memory.{Memory}
use Rattle.lp_calculus.specs.Types.{Ty, instance}
use Rattle.lp_calculus.specs.Closed.{IsClosedType, IsClosedAt, AreClosed}
use Rattle.lp_calculus.specs.Typing as typing
use Rattle.lp_standard.specs.Positive.{IsPositive, is_positive}
use Rattle.lp_term.specs.Nodes.{Nodes, Extends, tree, type_tree}
use Rattle.lp_term.specs.declared.node.TypeId.{TypeId}
use Rattle.lp_term.specs.declared.node.TermId.{TermId}
use Rattle.lp_term.proofs.Trees.{extends-trans, extends_same}
use Rattle.lp_term.proofs.Knowing.{take_whole}
use Rattle.lp_model.specs.Answers.{AreWitnesses}
use Rattle.lp_model.specs.Proofs.{IsWitness, under}
use Rattle.lp_model.specs.Readings.{declared_by}
use Rattle.lp_model.specs.declared.certificate.Certificate.{Certificate}
use Rattle.lp_model.specs.declared.program.Declared.{Declared}
use Rattle.lp_model.specs.declared.program.Typed.{Typed}
use Rattle.lp_model.specs.declared.program.ClauseFormula as code
use Rattle.lp_cert.specs.Certified.{Certifies, certificate_of, query_of}
use Rattle.lp_cert.specs.inner.Left.{CertifiesIn, ground_over}
use Rattle.lp_cert.specs.Facts.{are_closed, AreInside}
use Rattle.lp_cert.specs.Same.{types_in, terms_in}
use Rattle.lp_cert.specs.declared.work.Work.{Work}
use Rattle.lp_cert.specs.declared.judging.CheckVerdict.{CheckVerdict}
use Rattle.lp_cert.specs.declared.judging.CheckVerdict.TheVariants.{Accepted}
use Rattle.lp_cert.specs.inner.Named.{IsOf, IsWitnessIn, AreWitnessesIn, IsNamedIn, NamesIn, variable_types}
use Rattle.lp_cert.proofs.Closing.{types_are_closed, term_is_positive}
use Rattle.lp_cert.proofs.Comparisons.{twice}
use Rattle.lp_cert.proofs.Later.{closed_inside, closed_type_inside, closed_types_inside, inside_later}
use Rattle.lp_cert.proofs.Witnesses.{witnesses_on}

-- a closed term that has the closed type
pub of_closed : (a now : Nodes) (w : Work) (eigens : List TypeId) (n : ℕ) (term : TermId) (of : TypeId) (r : Result Bool Memory) → eigens ≡ w.eigens.items → n ≡ length w.eigens.items → Extends a now → IsClosedAt n (tree a term.0) → IsClosedType (type_tree a of.0) →
    IfOk r (λ yes. yes ≡ true → IsClosedType (type_tree a of.0) → (b : Nodes) → Extends now b → typing.Typed (under (declared_by b w.theory.constants.now) (types_in b eigens)) [] (tree b term.0) (type_tree b of.0)) → IfOk r (λ yes. yes ≡ true → (b : Nodes) → Extends now b → IsOf b w term of)
of_closed a now w eigens n term of (Err x) e m g c k t = tt
of_closed a now w eigens n term of (Ok x) e m g c k t = λ y b h.
    let long = extends-trans a now b g h in
    record {
      typed = subst (λ ids. typing.Typed (under (declared_by b w.theory.constants.now) (types_in b ids)) [] (tree b term.0) (type_tree b of.0)) e (t y k b h);
      closed = transport (λ j. IsClosedAt ((m ∙ sym (length-map w.eigens.items (λ t. type_tree b t.0))) j) (sym (long.same_terms term.0 (closed_inside a n term.0 c)) j)) c;
      type_closed = subst IsClosedType (sym (long.same_types of.0 (closed_type_inside a of.0 k))) k;
    }

pub of_positive : (a now : Nodes) (w : Work) (n : ℕ) (term : TermId) (of : TypeId) (r : Result Bool Memory) → Extends a now → is_positive (tree a term.0) ≡ true → IfOk r (λ yes. yes ≡ true → IsClosedAt n (tree a term.0)) → IfOk r (λ yes. yes ≡ true → (b : Nodes) → Extends now b → IsOf b w term of) →
    IfOk r (λ yes. yes ≡ true → (b : Nodes) → Extends now b → IsWitnessIn b w term of)
of_positive a now w n term of (Err x) g p c o = tt
of_positive a now w n term of (Ok x) g p c o = λ y b h.
    let it = o y b h in
    let long = extends-trans a now b g h in
    record {
      typed = it.typed;
      closed = it.closed;
      positive = subst IsPositive (sym (long.same_terms term.0 (closed_inside a n term.0 (c y)))) (term_is_positive (tree a term.0) p);
      type_closed = it.type_closed;
    }

-- a value where there is no eigenconstant, at what its type is
pub witness_here : (d : Nodes) (w v : Work) (t : TermId) (of : TypeId) (T : Ty) → w.theory ≡ v.theory → w.eigens ≡ v.eigens → v.eigens.items ≡ [] → type_tree d of.0 ≡ T → IsWitnessIn d w t of → IsWitness (declared_by d v.theory.constants.now) [] (tree d t.0) T
witness_here d w v t of T et ee none e h = transport (λ j. IsWitness (declared_by d (et j).constants.now) (types_in d ((ap (λ x. x.items) ee ∙ none) j)) (tree d t.0) (e j)) h

pub closed_types_later : (b c : Nodes) (ids : List TypeId) → Extends b c → AreClosed (types_in b ids) → AreClosed (types_in c ids)
closed_types_later b c ids g h = subst AreClosed (sym (inside_later b c ids g (closed_types_inside b ids h))) h

pub types_found : (a : Nodes) (ids : List TypeId) → are_closed (map (type_tree a) (map (λ t. t.0) ids)) ≡ true → AreClosed (types_in a ids)
types_found a ids e = types_are_closed (types_in a ids) (ap are_closed (sym (twice (type_tree a) ids)) ∙ e)

pub types_inside : (a : Nodes) (ids : List TypeId) → are_closed (map (type_tree a) (map (λ t. t.0) ids)) ≡ true → AreInside (length a.types) ids
types_inside a ids e = closed_types_inside a ids (types_found a ids e)

-- an instance that is found: a is the bank where the types were looked at, b where the values were, and c the bank at the end
pub named_in : (a b c : Nodes) (cs : List Declared) (q : Typed) (types : List TypeId) (terms : List TermId) → Extends a c → Extends b c → length types ≡ q.type_vars → are_closed (map (type_tree a) (map (λ t. t.0) types)) ≡ true → AreWitnessesIn b cs types terms (variable_types q) →
    IsNamedIn c cs q types terms
named_in a b c cs q types terms g h n closed v = record {
  count = n;
  closed = λ d k. closed_types_later a d types (extends-trans a c d g k) (types_found a types closed);
  witnesses = witnesses_on b c cs types terms (variable_types q) h v;
}

pub found_always : (r : Result (Option TermId) Memory) (P : Type 0) → P → IfOk r (λ found. IfSome found (λ goal. P))
found_always (Err x) P p = tt
found_always (Ok None) P p = tt
found_always (Ok (Some g)) P p = p

-- the instance of a certificate
pub names_in : (a b : Nodes) (cs : List Declared) (q : Typed) (c : Certificate) (types : List TypeId) (terms : List TermId) → Extends a b → types ≡ c.types.items → terms ≡ c.values.items → IsNamedIn a cs q types terms → NamesIn b cs q c
names_in a b cs q c types terms g e f n = λ d h.
    let now : IsNamedIn a cs q c.types.items c.values.items = subst (λ vs. IsNamedIn a cs q c.types.items vs) f (subst (λ ts. IsNamedIn a cs q ts terms) e n) in
    let long = extends-trans a b d g h in
    record {
      types = length-map c.types.items (λ t. type_tree d t.0) ∙ now.count;
      types_closed = now.closed d long;
      values = subst (λ Ts. AreWitnesses (declared_by d cs) (terms_in d c.values.items) (map (instance (typing.type_at (types_in d c.types.items))) Ts)) (map_composed (λ v. v.1) (λ t. type_tree d t.0) (λ v. type_tree d v.1.0) (λ v. refl) q.vars.items) (now.witnesses d long);
    }

pub certified_on : (a b : Nodes) (cs : List Declared) (ds : List code.ClauseFormula) (q : Typed) (xs : List Certificate) → Extends a b → All (CertifiesIn a cs ds q) xs → All (CertifiesIn b cs ds q) xs
certified_on a b cs ds q [] g h = All-nil (CertifiesIn b cs ds q)
certified_on a b cs ds q (c ∷ xs) g h =
    All-cons (CertifiesIn b cs ds q) c xs (λ d k. All-head (CertifiesIn a cs ds q) c xs h d (extends-trans a b d g k)) (certified_on a b cs ds q xs g (All-tail (CertifiesIn a cs ds q) c xs h))

-- one more certificate
pub certified_next : (a b : Nodes) (cs : List Declared) (ds : List code.ClauseFormula) (q : Typed) (xs : List Certificate) (i n : ℕ) (c : Certificate) → n ≡ suc i → Extends a b → i < length xs → c ≡ get_or xs i c → All (CertifiesIn a cs ds q) (take i xs) → CertifiesIn b cs ds q c →
    All (CertifiesIn b cs ds q) (take n xs)
certified_next a b cs ds q xs i n c m g l e h k =
    subst (λ j. All (CertifiesIn b cs ds q) (take j xs)) (sym m)
    (subst (All (CertifiesIn b cs ds q)) (sym (take_suc xs i c (slice_get_read xs (length xs) i c refl l e))) (All-push (CertifiesIn b cs ds q) (take i xs) c (certified_on a b cs ds q (take i xs) g h) k))

pub certified_whole : (b : Nodes) (cs : List Declared) (ds : List code.ClauseFormula) (q : Typed) (xs : List Certificate) (i : ℕ) → length xs ≤ i → All (CertifiesIn b cs ds q) (take i xs) → All (CertifiesIn b cs ds q) xs
certified_whole b cs ds q xs i l h = subst (All (CertifiesIn b cs ds q)) (take_whole xs i l) h

certified_now : (b : Nodes) (cs : List Declared) (ds : List code.ClauseFormula) (q : Typed) (xs : List Certificate) → All (CertifiesIn b cs ds q) xs → All (λ c. Certifies (ground_over b cs ds) (query_of b q) (certificate_of b c)) xs
certified_now b cs ds q [] h = All-nil (λ (c : Certificate). Certifies (ground_over b cs ds) (query_of b q) (certificate_of b c))
certified_now b cs ds q (c ∷ xs) h =
    All-cons (λ (c : Certificate). Certifies (ground_over b cs ds) (query_of b q) (certificate_of b c)) c xs (All-head (CertifiesIn b cs ds q) c xs h b (extends_same b)) (certified_now b cs ds q xs (All-tail (CertifiesIn b cs ds q) c xs h))

pub variables_long : (q : Typed) → length (variable_types q) ≡ length q.vars.items
variables_long q = length-map q.vars.items (λ v. v.1)

pub verdict_certifies : (b : Nodes) (cs : List Declared) (ds : List code.ClauseFormula) (q : Typed) (xs : List Certificate) (r : Result CheckVerdict Memory) → IfOk r (λ v. v ≡ Accepted → All (CertifiesIn b cs ds q) xs) →
    IfOk r (λ v. v ≡ Accepted → All (λ c. Certifies (ground_over b cs ds) (query_of b q) (certificate_of b c)) xs)
verdict_certifies b cs ds q xs (Err x) h = tt
verdict_certifies b cs ds q xs (Ok v) h = λ e. certified_now b cs ds q xs (h e)

-- what is found of an option within a result
pub found_where : {T : Type 0} (r : Result (Option T) Memory) (P Q : T → Type 0) → IfOk r (λ found. IfSome found P) → ((x : T) → P x → Q x) → IfOk r (λ found. IfSome found Q)
found_where (Err x) P Q p f = tt
found_where (Ok None) P Q p f = tt
found_where (Ok (Some x)) P Q p f = f x p
