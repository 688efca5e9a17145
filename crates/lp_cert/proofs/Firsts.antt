-- A type or a term is the first one that its tops make.
use Rattle.std.proofs.Common.{◌≡◌, ℕ, ◌-◌, ◌<◌, ◌≤◌, List, [], ◌∷◌, ◌++◌, length, map, drop, reverse, get_or, Result, Ok, Err, refl, sym, ap, subst, ◌∙◌, arith}
use Rattle.std.proofs.lemmas.List.{drop_all, drop-map, length-map}
use Rattle.lp_lemmas.proofs.Lists.{reverse_pushed, cons_head}
use Rattle.lp_calculus.specs.Types.{Ty}
use Rattle.lp_calculus.specs.Term.{Term}
use Rattle.lp_term.specs.declared.node.TypeId.{TypeId}
use Rattle.lp_term.specs.declared.node.TermId.{TermId}
use Rattle.lp_term.specs.Nodes.{Nodes, Extends, tree, type_tree}
use Rattle.lp_term.proofs.Trees.{extends_same, extends-trans}
use Rattle.lp_bytes.specs.declared.fault.Fault.{Fault}
use Rattle.lp_bytes.specs.declared.fault.Fault.TheVariants.{BadField}
use Rattle.lp_bytes.specs.declared.fault.ReadError.{ReadError}
use Rattle.lp_bytes.specs.declared.fault.ReadError.TheVariants as errors
use Rattle.lp_bytes.specs.Reading.{Left, Read, ◌>>=◌, Fails, four_at}
use Rattle.lp_bytes.proofs.Taking.{ok_is}
use Rattle.lp_cert.specs.Arities.{Counts}
use Rattle.lp_cert.specs.Same.{types_in, terms_in}
use Rattle.lp_cert.specs.Reading.{first_of, TypeTop, type_tops_at, types_made, type_at, types_at, TermTop, term_tops_at, terms_made, term_at, terms_at, proof_at, certificate_at}
use Rattle.lp_cert.specs.declared.terms.Part as term_part
use Rattle.lp_cert.specs.inner.Parts.{types_stacked, terms_stacked, term_top_of, term_tops_of}
use Rattle.lp_cert.specs.Written.{Node}
use Rattle.lp_cert.proofs.CertificatesFound.{made}
use Rattle.lp_cert.proofs.Stacked.{part_before}

pub first_type : (d : Counts) (s t : Left) (tops : List TypeTop) (b : Nodes) (stack rest : List TypeId) (made : TypeId) → type_tops_at d s ≡ Ok (tops, t) → stack ≡ rest ++ made ∷ [] → types_stacked b stack ≡ types_made tops → type_at d s ≡ Ok (type_tree b made.0, t)
unfolding type_at
first_type d s t tops b stack rest made e f h =
    ap (λ r. r >>= λ ts. first_of s.at (types_made ts.0) ts.1) e ∙ ap (λ ts. first_of s.at ts t) (sym h ∙ ap (types_in b) (reverse_pushed stack rest made f))

pub no_type : (d : Counts) (s t : Left) (tops : List TypeTop) (b : Nodes) (stack : List TypeId) → type_tops_at d s ≡ Ok (tops, t) → stack ≡ [] → types_stacked b stack ≡ types_made tops → type_at d s ≡ Err (BadField s.at)
unfolding type_at
no_type d s t tops b stack e f h =
    ap (λ r. r >>= λ ts. first_of s.at (types_made ts.0) ts.1) e ∙ ap (λ ts. first_of s.at ts t) (sym h ∙ ap (types_stacked b) f)

pub first_term : (d : Counts) (s t : Left) (tops : List TermTop) (b : Nodes) (stack rest : List TermId) (made : TermId) → term_tops_at d s ≡ Ok (tops, t) → stack ≡ rest ++ made ∷ [] → terms_stacked b stack ≡ terms_made tops → term_at d s ≡ Ok (tree b made.0, t)
unfolding term_at
first_term d s t tops b stack rest made e f h =
    ap (λ r. r >>= λ ts. first_of s.at (terms_made ts.0) ts.1) e ∙ ap (λ ts. first_of s.at ts t) (sym h ∙ ap (terms_in b) (reverse_pushed stack rest made f))

pub no_term : (d : Counts) (s t : Left) (tops : List TermTop) (b : Nodes) (stack : List TermId) → term_tops_at d s ≡ Ok (tops, t) → stack ≡ [] → terms_stacked b stack ≡ terms_made tops → term_at d s ≡ Err (BadField s.at)
unfolding term_at
no_term d s t tops b stack e f h =
    ap (λ r. r >>= λ ts. first_of s.at (terms_made ts.0) ts.1) e ∙ ap (λ ts. first_of s.at ts t) (sym h ∙ ap (terms_stacked b) f)

-- a refusal at the offset of the field
pub refused_at : {A : Type 0} (e : ReadError) (at : ℕ) (s : Left) (read : Result A Fault) → e ≡ errors.Fault (BadField at) → at ≡ s.at → read ≡ Err (BadField s.at) → Fails e read
refused_at e at s read is here h = subst (λ f. Fails f read) (sym is) (h ∙ ap (λ n. Err (BadField n)) (sym here))

-- the parts of a certificate are read one behind the other
pub certificate_read : (d : Counts) (s a b f g t : Left) (m n : ℕ) (ts : List Ty) (vs : List Term) (ns : List Node) → four_at s ≡ Ok (m, a) → types_at d m a ≡ Ok (ts, b) → four_at b ≡ Ok (n, f) → terms_at d n f ≡ Ok (vs, g) → proof_at d g ≡ Ok (ns, t)
    → certificate_at d s ≡ Ok (made ts vs ns, t)
unfolding certificate_at
certificate_read d s a b f g t m n ts vs ns h i j k l =
    ap (λ r. r >>= λ m. types_at d m.0 m.1 >>= λ ts. four_at ts.1 >>= λ n. terms_at d n.0 n.1 >>= λ vs. proof_at d vs.1 >>= λ ns. Ok (made ts.0 vs.0 ns.0, ns.1)) h
    ∙ ap (λ r. r >>= λ ts. four_at ts.1 >>= λ n. terms_at d n.0 n.1 >>= λ vs. proof_at d vs.1 >>= λ ns. Ok (made ts.0 vs.0 ns.0, ns.1)) i
    ∙ ap (λ r. r >>= λ n. terms_at d n.0 n.1 >>= λ vs. proof_at d vs.1 >>= λ ns. Ok (made ts vs.0 ns.0, ns.1)) j
    ∙ ap (λ r. r >>= λ vs. proof_at d vs.1 >>= λ ns. Ok (made ts vs.0 ns.0, ns.1)) k ∙ ap (λ r. r >>= λ ns. Ok (made ts vs ns.0, ns.1)) l

-- what is read has the same tops in each later bank
pub same_tops : (d : Counts) (a : Nodes) (s t : Left) (parts : List term_part.Part) → ((b : Nodes) → Extends a b → term_tops_at d s ≡ Ok (term_tops_of b parts, t)) → (c : Nodes) → Extends a c → (b : Nodes) → Extends a b → term_tops_of b parts ≡ term_tops_of c parts
same_tops d a s t parts h c y b x = ap (λ (p : List TermTop × Left). p.0) (ok_is (term_tops_of b parts, t) (term_tops_of c parts, t) (sym (h b x) ∙ h c y))

-- the top of a part, and those behind it
pub term_part_before : (a : Nodes) (parts : List term_part.Part) (tops : List TermTop) (l n : ℕ) (x d : term_part.Part) → 0 < l → l ≤ length parts → n ≡ l - 1 → x ≡ get_or parts n d → ((b : Nodes) → Extends a b → term_tops_of b parts ≡ tops)
    → (top : TermTop) × (drop n tops ≡ top ∷ drop l tops) × ((b : Nodes) → Extends a b → term_top_of b x ≡ top)
term_part_before a parts tops l n x d some le e is same =
    let step : (b : Nodes) → Extends a b → drop n tops ≡ term_top_of b x ∷ drop l tops = λ b y.
    ap (drop n) (sym (same b y)) ∙ drop-map (term_top_of b) n parts ∙ part_before (term_top_of b) parts l n x d some le e is ∙ ap (λ ts. term_top_of b x ∷ ts) (sym (drop-map (term_top_of b) l parts) ∙ ap (drop l) (same b y)) in
    (term_top_of a x, step a (extends_same a), λ b y. cons_head (term_top_of b x) (term_top_of a x) (drop l tops) (drop l tops) (sym (step b y) ∙ step a (extends_same a)))

pub none_behind : (a : Nodes) (parts : List term_part.Part) (tops : List TermTop) (l : ℕ) → l ≡ length parts → ((b : Nodes) → Extends a b → term_tops_of b parts ≡ tops) → drop l tops ≡ []
none_behind a parts tops l e same =
    let count : length tops ≡ length parts = sym (ap length (same a (extends_same a))) ∙ length-map parts (term_top_of a) in
    drop_all l tops (omega (arith, count, e))
