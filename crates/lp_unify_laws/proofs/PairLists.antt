-- Lists of pairs: typed, solved, with bindings put in them and with types put in them.
use Rattle.std.proofs.Common.{◌≡◌, ℕ, ◌<◌, List, [], ◌∷◌, ◌++◌, map, length, ◌∙◌, refl, sym, ap, subst as transport}
use Rattle.lp_calculus.specs.Types.{Ty, instance}
use Rattle.lp_calculus.specs.Term.{Term}
use Rattle.lp_calculus.specs.Convert.{Converts}
use Rattle.lp_calculus.specs.Fill.{Within, Binding, put, put_all}
use Rattle.lp_calculus.specs.Instance.{instance_term}
use Rattle.lp_calculus.proofs.Steps.{converts_on, converts_sym, converts_is}
use Rattle.lp_model.specs.Types.{TypeBinding}
use Rattle.lp_model.specs.Pair.{Pair, put_pair, type_pair}
use Rattle.lp_model.specs.Unify.{put_pairs, type_pairs_in}
use Rattle.lp_model.specs.Proofs.{Declared}
use Rattle.lp_model.specs.Answers.{Variable, PairTyping, IsTypedPair, AreTypedPairs}
use Rattle.lp_unify_laws.specs.Levels.{IsPair, IsPairAtom, SolvedBy, AllSolvedBy}
use Rattle.lp_unify_laws.specs.Right.{through}
use Rattle.lp_unify_laws.specs.TypeSolutions.{Satisfies}
use Rattle.lp_unify_laws.proofs.Throughs.{through_close, gives_term}
use Rattle.lp_unify_laws.proofs.Scopes.{IsMore}
use Rattle.lp_unify_laws.proofs.TypedBindings.{IsTypedTerm, term_pair, term_more, AreTypedBindings, put_all_typed}
use Rattle.lp_unify_laws.proofs.Instances.{instance_binding, put_instance}
pub use Rattle.lp_unify_laws.specs.Solutions.{at_types}
use Rattle.lp_unify_laws.proofs.RuleInstances.{instance_pair}
use Rattle.lp_unify_laws.proofs.Decomposing.{term_satisfied}

abbrev pub EachPair : (Pair → Type 0) → List Pair → Type 0
EachPair P [] = Unit {0}
EachPair P (p ∷ ps) = P p × EachPair P ps

abbrev pub HasTyping : Declared → List Variable → Pair → Type 0
HasTyping d V p = (q : PairTyping) × IsTypedPair d V q p

abbrev pub EachTyped : Declared → List Variable → List Pair → Type 0
EachTyped d V ps = EachPair (HasTyping d V) ps

pub each_typed : (d : Declared) (V : List Variable) (qs : List PairTyping) (ps : List Pair) → AreTypedPairs d V qs ps → EachTyped d V ps
each_typed d V [] [] h = tt
each_typed d V [] (p ∷ ps) h = absurd h
each_typed d V (q ∷ qs) [] h = absurd h
each_typed d V (q ∷ qs) (p ∷ ps) h = ((q, h.0), each_typed d V qs ps h.1)

pub typings_of : (d : Declared) (V : List Variable) (ps : List Pair) → EachTyped d V ps → (qs : List PairTyping) × AreTypedPairs d V qs ps
typings_of d V [] h = ([], tt)
typings_of d V (p ∷ ps) h = let r = typings_of d V ps h.1 in (h.0.0 ∷ r.0, (h.0.1, r.1))

pub each_append : (P : Pair → Type 0) (ps qs : List Pair) → EachPair P ps → EachPair P qs → EachPair P (ps ++ qs)
each_append P [] qs h k = k
each_append P (p ∷ ps) qs h k = (h.0, each_append P ps qs h.1 k)

pub each_map : (P Q : Pair → Type 0) → ((p : Pair) → P p → Q p) → (ps : List Pair) → EachPair P ps → EachPair Q ps
each_map P Q f [] h = tt
each_map P Q f (p ∷ ps) h = (f p h.0, each_map P Q f ps h.1)

pub each_two : (P Q : Pair → Type 0) (ps : List Pair) → EachPair P ps → EachPair Q ps → EachPair (λ p. P p × Q p) ps
each_two P Q [] h k = tt
each_two P Q (p ∷ ps) h k = ((h.0, k.0), each_two P Q ps h.1 k.1)

pub solves_append : (σ : ℕ → ℕ → Term) (ps qs : List Pair) → AllSolvedBy σ ps → AllSolvedBy σ qs → AllSolvedBy σ (ps ++ qs)
solves_append σ [] qs h k = k
solves_append σ (p ∷ ps) qs h k = (h.0, solves_append σ ps qs h.1 k)

pub solves_split : (σ : ℕ → ℕ → Term) (ps qs : List Pair) → AllSolvedBy σ (ps ++ qs) → AllSolvedBy σ ps × AllSolvedBy σ qs
solves_split σ [] qs h = (tt, h)
solves_split σ (p ∷ ps) qs h = let r = solves_split σ ps qs h.1 in ((h.0, r.0), r.1)

pub each_solved : (σ : ℕ → ℕ → Term) (ps : List Pair) → AllSolvedBy σ ps → EachPair (SolvedBy σ) ps
each_solved σ [] h = tt
each_solved σ (p ∷ ps) h = (h.0, each_solved σ ps h.1)

pub all_solved : (σ : ℕ → ℕ → Term) (ps : List Pair) → EachPair (SolvedBy σ) ps → AllSolvedBy σ ps
all_solved σ [] h = tt
all_solved σ (p ∷ ps) h = (h.0, all_solved σ ps h.1)

-- bindings on a pair
abbrev pub bound_pair : List Binding → Pair → Pair
bound_pair [] p = p
bound_pair (b ∷ bs) p = bound_pair bs (put_pair b p)

put_pairs_cons : (bs : List Binding) (p : Pair) (ps : List Pair) → put_pairs bs (p ∷ ps) ≡ bound_pair bs p ∷ put_pairs bs ps
put_pairs_cons [] p ps = refl
put_pairs_cons (b ∷ bs) p ps = put_pairs_cons bs (put_pair b p) (map (put_pair b) ps)

put_pairs_none : (bs : List Binding) → put_pairs bs [] ≡ []
put_pairs_none [] = refl
put_pairs_none (b ∷ bs) = put_pairs_none bs

bound_is : (bs : List Binding) (p : Pair) → bound_pair bs p ≡ record { left = put_all bs p.left; right = put_all bs p.right; level = p.level }
bound_is [] p = refl
bound_is (b ∷ bs) p = bound_is bs (put_pair b p)

pub each_bound : (P Q : Pair → Type 0) (bs : List Binding) → ((p : Pair) → P p → Q (bound_pair bs p)) → (ps : List Pair) → EachPair P ps → EachPair Q (put_pairs bs ps)
each_bound P Q bs f [] h = transport (EachPair Q) (sym (put_pairs_none bs)) tt
each_bound P Q bs f (p ∷ ps) h = transport (EachPair Q) (sym (put_pairs_cons bs p ps)) (f p h.0, each_bound P Q bs f ps h.1)

pub each_back : (P Q : Pair → Type 0) (bs : List Binding) → ((p : Pair) → Q (bound_pair bs p) → P p) → (ps : List Pair) → EachPair Q (put_pairs bs ps) → EachPair P ps
each_back P Q bs f [] h = tt
each_back P Q bs f (p ∷ ps) h = let r = transport (EachPair Q) (put_pairs_cons bs p ps) h in (f p r.0, each_back P Q bs f ps r.1)

-- typed pairs
pub left_term : (d : Declared) (V : List Variable) (q : PairTyping) (p : Pair) → IsTypedPair d V q p → IsTypedTerm d q.eigens V p.left q.type
left_term d V q p h = record { typed = h.left; scoped = h.left_scoped }

pub right_term : (d : Declared) (V : List Variable) (q : PairTyping) (p : Pair) → IsTypedPair d V q p → IsTypedTerm d q.eigens V p.right q.type
right_term d V q p h = record { typed = h.right; scoped = h.right_scoped }

pub pair_of : (d : Declared) (V : List Variable) (q : PairTyping) (l r : Term) (n : ℕ) → length q.eigens ≡ n → IsTypedTerm d q.eigens V l q.type → IsTypedTerm d q.eigens V r q.type → IsTypedPair d V q (record { left = l; right = r; level = n })
pair_of d V q l r n e x y = record { level = e; left = x.typed; right = y.typed; left_scoped = x.scoped; right_scoped = y.scoped }

pub pair_more : (d : Declared) (V W : List Variable) → IsMore V W → (p : Pair) → HasTyping d V p → HasTyping d W p
pair_more d V W m p h = (h.0, pair_of d W h.0 p.left p.right p.level h.1.level (term_more d h.0.eigens V W m p.left h.0.type (left_term d V h.0 p h.1)) (term_more d h.0.eigens V W m p.right h.0.type (right_term d V h.0 p h.1)))

pub pair_bound : (d : Declared) (V : List Variable) (bs : List Binding) → AreTypedBindings d V bs → (p : Pair) → HasTyping d V p → HasTyping d V (bound_pair bs p)
pair_bound d V bs b p h = transport (HasTyping d V) (sym (bound_is bs p))
    (h.0, pair_of d V h.0 (put_all bs p.left) (put_all bs p.right) p.level h.1.level (put_all_typed d h.0.eigens V bs b p.left h.0.type (left_term d V h.0 p h.1)) (put_all_typed d h.0.eigens V bs b p.right h.0.type (right_term d V h.0 p h.1)))

pub pair_within : (d : Declared) (V : List Variable) (next : ℕ) → length V ≡ next → (p : Pair) → HasTyping d V p → IsPair next p
pair_within d V next e p h = (one_side p.left (left_term d V h.0 p h.1), one_side p.right (right_term d V h.0 p h.1))
  where
    one_side : (t : Term) → IsTypedTerm d h.0.eigens V t h.0.type → Within (IsPairAtom next p.level) 0 t
    one_side t k = transport (λ z. Within (IsPairAtom next z) 0 t) h.1.level (transport (λ z. Within (IsPairAtom z (length h.0.eigens)) 0 t) e (term_pair d h.0.eigens V t h.0.type k))

-- solved pairs
pub solved_bound : (σ τ : ℕ → ℕ → Term) (bs : List Binding) (next : ℕ) → ((x l : ℕ) → x < next → Converts (σ x l) (through bs τ x l)) → (p : Pair) → IsPair next p × SolvedBy σ p → SolvedBy τ (bound_pair bs p)
solved_bound σ τ bs next f p h = transport (SolvedBy τ) (sym (bound_is bs p))
    (converts_on (converts_sym (gives_term σ τ bs next p.level f p.left h.0.0)) (converts_on h.1 (gives_term σ τ bs next p.level f p.right h.0.1)))

pub solved_back : (τ : ℕ → ℕ → Term) (bs : List Binding) (p : Pair) → SolvedBy τ (bound_pair bs p) → SolvedBy (through bs τ) p
solved_back τ bs p h = let s = transport (SolvedBy τ) (bound_is bs p) h in
    converts_on (converts_is (sym (through_close bs τ p.left))) (converts_on s (converts_is (through_close bs τ p.right)))

-- with types for type variables
pub types_append : (θ : ℕ → Ty) (ps qs : List Pair) → at_types θ (ps ++ qs) ≡ at_types θ ps ++ at_types θ qs
types_append θ [] qs = refl
types_append θ (p ∷ ps) qs = ap (λ z. instance_pair θ p ∷ z) (types_append θ ps qs)

pair_satisfied : (θ : ℕ → Ty) (b : TypeBinding) → θ b.id ≡ instance θ b.value → (p : Pair) → instance_pair θ (type_pair b p) ≡ instance_pair θ p
pair_satisfied θ b h p = λ i. record { left = term_satisfied θ b h p.left i; right = term_satisfied θ b h p.right i; level = p.level }

pairs_satisfied : (θ : ℕ → Ty) (b : TypeBinding) → θ b.id ≡ instance θ b.value → (ps : List Pair) → at_types θ (map (type_pair b) ps) ≡ at_types θ ps
pairs_satisfied θ b h [] = refl
pairs_satisfied θ b h (p ∷ ps) = λ i. pair_satisfied θ b h p i ∷ pairs_satisfied θ b h ps i

pub types_satisfied : (θ : ℕ → Ty) (bs : List TypeBinding) → Satisfies θ bs → (ps : List Pair) → at_types θ (type_pairs_in bs ps) ≡ at_types θ ps
types_satisfied θ [] h ps = refl
types_satisfied θ (b ∷ bs) h ps = types_satisfied θ bs h.1 (map (type_pair b) ps) ∙ pairs_satisfied θ b h.0 ps

put_pair_instance : (θ : ℕ → Ty) (b : Binding) (ps : List Pair) → at_types θ (map (put_pair b) ps) ≡ map (put_pair (instance_binding θ b)) (at_types θ ps)
put_pair_instance θ b [] = refl
put_pair_instance θ b (p ∷ ps) = λ i. record { left = sym (put_instance θ b p.left) i; right = sym (put_instance θ b p.right) i; level = p.level } ∷ put_pair_instance θ b ps i

pub put_pairs_instance : (θ : ℕ → Ty) (bs : List Binding) (ps : List Pair) → at_types θ (put_pairs bs ps) ≡ put_pairs (map (instance_binding θ) bs) (at_types θ ps)
put_pairs_instance θ [] ps = refl
put_pairs_instance θ (b ∷ bs) ps = put_pairs_instance θ bs (map (put_pair b) ps) ∙ ap (put_pairs (map (instance_binding θ) bs)) (put_pair_instance θ b ps)

pub put_all_instance : (θ : ℕ → Ty) (bs : List Binding) (t : Term) → put_all (map (instance_binding θ) bs) (instance_term θ t) ≡ instance_term θ (put_all bs t)
put_all_instance θ [] t = refl
put_all_instance θ (b ∷ bs) t = ap (put_all (map (instance_binding θ) bs)) (put_instance θ b t) ∙ put_all_instance θ bs (put b t)
