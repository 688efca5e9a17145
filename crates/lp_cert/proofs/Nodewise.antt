-- Each node that does not stand, or that goes on: what the answers of its function share.
use Rattle.std.proofs.Common.{◌≡◌, ℕ, zero, suc, ◌+◌, ◌<◌, ◌≤◌, List, [], ◌∷◌, ◌++◌, map, length, refl, sym, ap, subst, ◌∙◌, arith, Bool, true, false, inl, inr, ◌⊎◌}
use Rattle.std.specs.Prelude.{Result, Ok, Err, IfOk, IfSome, OnOk, Option, Some, None, All, slice_get}
use Rattle.std.proofs.lemmas.List.{length-map}
use Rattle.std.proofs.lemmas.List.Elements.{All-head, All-tail}
use Rattle.lp_base.specs.declared.memory.Memory.{Memory}
use Rattle.lp_calculus.specs.Types.{Ty, con, no_types}
use Rattle.lp_calculus.specs.Term.{Term, atom, app, constant, eigen}
use Rattle.lp_calculus.specs.Closed.{AreClosed, IsClosedAt, IsClosedType}
use Rattle.lp_calculus.specs.Fill.{Within}
use Rattle.lp_calculus.specs.Instance.{instance_term}
use Rattle.lp_calculus.specs.Spine.{head_of}
use Rattle.lp_calculus.specs.Typing.{o_type, type_at}
use Rattle.lp_calculus.specs.Typing as typing
use Rattle.lp_standard.specs.Connectives.{cut, truth, two}
use Rattle.lp_standard.specs.Numbers as number
use Rattle.lp_term.specs.Nodes.{Nodes, Extends, tree, type_tree}
use Rattle.lp_term.specs.Spine.{LooseBelow, head}
use Rattle.lp_term.proofs.Trees.{tree-past}
use Rattle.lp_term.specs.declared.node.TermId.{TermId}
use Rattle.lp_term.specs.declared.node.TypeId.{TypeId}
use Rattle.lp_model.specs.Flatten.{ClauseFormula}
use Rattle.lp_model.specs.Proofs.{IsAtomHead, IsFormula, IsImplication, IsWitness, assumed, under}
use Rattle.lp_model.specs.Readings.{declared_by, formula_of}
use Rattle.lp_model.specs.declared.program.ClauseFormula as code
use Rattle.lp_cert.specs.Facts.{AreInside, are_closed}
use Rattle.lp_cert.specs.Same.{terms_in, types_in}
use Rattle.lp_cert.specs.Standing.{IsClauseInside}
use Rattle.lp_cert.specs.inner.Left.{IsClauseIn, IsDeclared, ground_in}
use Rattle.lp_cert.specs.inner.Named.{HasClosedTypes, IsOf, IsWitnessIn}
use Rattle.lp_cert.specs.Run.{Job, focusing}
use Rattle.lp_cert.specs.inner.Turned.{At, IsReady, IsReadyWork}
use Rattle.lp_cert.specs.declared.work.Theory.{Theory}
use Rattle.lp_cert.specs.declared.work.Work.{Work}
use Rattle.lp_cert.proofs.Closing.{closed_are}
use Rattle.lp_cert.proofs.Comparisons.{twice}
use Rattle.lp_cert.proofs.Going.{heads_agree}
use Rattle.lp_cert.proofs.Later.{closed_type_inside, closed_types_inside, inside_later}
use Rattle.lp_cert.proofs.Ready.{clause_later, closed_within, instance_within, loose_of, on_one, on_two, ready_later}
use Rattle.lp_cert.proofs.Running.{binder_once}

-- a closed term that was tested
pub other_ready : (p q : Nodes) (t : TermId) (n : ℕ) → Extends p q → t.0 < length p.terms → IsClosedAt n (tree p t.0) → IsReady q t
other_ready p q t n g l c = ready_later p q t g (l, closed_within n (tree p t.0) c)

pub further : (a b : Nodes) (t : TermId) → Extends a b → t.0 < length a.terms → t.0 < length b.terms
further a b t g l = let m = g.more_terms in omega (arith, l, m)

-- the type of a quantifier that stands in the bank
pub binder_type : (b : Nodes) (t on : TermId) (of : TypeId) (c : ℕ) → tree b t.0 ≡ app (atom (constant c (type_tree b of.0 ∷ []))) (tree b on.0) → IsReady b t → on.0 < length b.terms → IsReady b on × IsClosedType (type_tree b of.0)
binder_type b t on of c e r l = let q = on_one b t on c (type_tree b of.0 ∷ []) e r l in (q.0, q.1.0)

-- a witness for the type that the goal says is one for the type that was read
pub witness_read : (b : Nodes) (w : Work) (G s r : Term) (T : Ty) (c : ℕ) (t : TermId) (of : TypeId) → G ≡ app (atom (constant c (T ∷ []))) s → G ≡
    app (atom (constant c (type_tree b of.0 ∷ []))) r → IsWitness (declared_by b w.theory.constants.now) (types_in b w.eigens.items) (tree b t.0) T →
    IsWitnessIn b w t of
witness_read b w G s r T c t of e f h = subst (λ U. IsWitness (declared_by b w.theory.constants.now) (types_in b w.eigens.items) (tree b t.0) U) (binder_once c T (type_tree b of.0) s r (sym e ∙ f)).0 h

-- closed types that were found open
pub types_open : (a b : Nodes) (ids : List TypeId) (y : Bool) → Extends a b → AreInside (length a.types) ids → y ≡ are_closed (map (type_tree a) (map (λ t. t.0) ids)) → y ≡ false → AreClosed (types_in b ids) → ⊥
types_open a b ids y g i e f c = absurd (let k = closed_are (types_in b ids) c in let q = ap are_closed (twice (type_tree a) ids ∙ sym (inside_later a b ids g i)) in cc)

-- the clauses by number

pub at_element : {A : Type 0} (P : A → Type 0) (xs : List A) (i : ℕ) (x : A) → slice_get xs i ≡ Some x → All P xs → P x
at_element P [] i x e h = absurd (cc)
at_element P (y ∷ ys) zero x e h = subst P (let q : y ≡ x = cc in q) (All-head P y ys h)
at_element P (y ∷ ys) (suc i) x e h = at_element P ys i x e (All-tail P y ys h)

front_back : {A B : Type 0} (f : A → B) (xs : List A) (ys : List B) (i : ℕ) (z : B) → i < length xs → slice_get (map f xs ++ ys) i ≡ Some z → (x : A) × (slice_get xs i ≡ Some x) × (f x ≡ z)
front_back f [] ys i z l e = absurd (omega (arith, l))
front_back f (x ∷ xs) ys zero z l e = (x, refl, cc)
front_back f (x ∷ xs) ys (suc i) z l e = front_back f xs ys i z (omega (arith, l)) e

mapped_back : {C B : Type 0} (g : C → B) (ys : List C) (j : ℕ) (z : B) → slice_get (map g ys) j ≡ Some z → (y : C) × (slice_get ys j ≡ Some y) × (g y ≡ z)
mapped_back g [] j z e = absurd (cc)
mapped_back g (y ∷ ys) zero z e = (y, refl, cc)
mapped_back g (y ∷ ys) (suc j) z e = mapped_back g ys j z e

behind_back : {A B C : Type 0} (f : A → B) (g : C → B) (xs : List A) (ys : List C) (i j : ℕ) (z : B) → i ≡ length xs + j → slice_get (map f xs ++ map g ys) i ≡ Some z → (y : C) × (slice_get ys j ≡ Some y) × (g y ≡ z)
behind_back f g [] ys i j z e h = mapped_back g ys j z (subst (λ n. slice_get (map g ys) n ≡ Some z) (let q : i ≡ j = omega (arith, e) in q) h)
behind_back f g (x ∷ xs) ys zero j z e h = absurd (omega (arith, e))
behind_back f g (x ∷ xs) ys (suc i) j z e h = behind_back f g xs ys i j z (omega (arith, e)) h

-- a clause of the program
pub program_back : (b : Nodes) (theory : Theory) (more : List TermId) (i : ℕ) (types : List TypeId) (t : Term) → i < length theory.clauses.now → IsClauseIn b theory more i (types_in b types) t → (c : code.ClauseFormula) × (slice_get theory.clauses.now i ≡ Some c) × (length types ≡ c.type_vars)
program_back b theory more i types t l h =
    let q = front_back (formula_of b) theory.clauses.now (map assumed (terms_in b more)) i h.clause l h.at in
    (q.0, q.1, sym (length-map types (λ x. type_tree b x.0)) ∙ h.count ∙ sym (ap (λ (x : ClauseFormula). x.type_vars) q.2))

-- an assumption
pub assumed_back : (b : Nodes) (theory : Theory) (more : List TermId) (i j : ℕ) (types : List TypeId) (t : Term) → i ≡ length theory.clauses.now + j → IsClauseIn b theory more i (types_in b types) t → (c : TermId) × (slice_get more j ≡ Some c) × (length types ≡ 0)
assumed_back b theory more i j types t e h =
    let q = behind_back (formula_of b) assumed theory.clauses.now (terms_in b more) i j h.clause e h.at in
    let r = mapped_back (λ (x : TermId). tree b x.0) more j q.0 q.1 in
    (r.0, r.1, sym (length-map types (λ x. type_tree b x.0)) ∙ h.count ∙ sym (ap (λ (x : ClauseFormula). x.type_vars) q.2))

-- an instance of a clause, and of an assumption
pub declared_ready : (a b : Nodes) (cs : List code.ClauseFormula) (i : ℕ) (types : List TypeId) (made : TermId) → Extends a b → All (IsClauseInside a) cs → AreClosed (types_in a types) → made.0 < length b.terms →
    (AreInside (length a.types) types → (c : Nodes) → Extends b c → IsDeclared c cs i types (tree c made.0)) → Extends b b → IsReady b made
declared_ready a b cs i types made g h k l f s =
    let inside = closed_types_inside a types k in
    let q = f inside b s in
    let r = clause_later a b q.0 g (at_element (IsClauseInside a) cs i q.0 q.1 h) in
    (l, subst (Within HasClosedTypes 0) (sym q.3) (instance_within (types_in b types) (tree b q.0.formula.0) (subst AreClosed (sym (inside_later a b types g inside)) k) r.1))

pub assumed_ready : (a b : Nodes) (more : List TermId) (j : ℕ) (c made : TermId) (types : List TypeId) → Extends a b → All (IsReady a) more → slice_get more j ≡ Some c → AreClosed (types_in a types) → made.0 < length b.terms →
    (AreInside (length a.types) types → (d : Nodes) → Extends b d → tree d made.0 ≡ instance_term (type_at (types_in d types)) (tree d c.0)) → Extends b b → IsReady b made
assumed_ready a b more j c made types g h e k l f s =
    let inside = closed_types_inside a types k in
    let r = ready_later a b c g (at_element (IsReady a) more j c e h) in
    (l, subst (Within HasClosedTypes 0) (sym (f inside b s)) (instance_within (types_in b types) (tree b c.0) (subst AreClosed (sym (inside_later a b types g inside)) k) (loose_of HasClosedTypes 0 0 (tree b c.0) r.1)))

pub found_with : (r : Result (Option TermId) Memory) (P Q R : TermId → Type 0) → IfOk r (λ found. IfSome found P) → IfOk r (λ found. IfSome found Q) → ((t : TermId) → P t → Q t → R t) → IfOk r (λ found. IfSome found R)
found_with (Err x) P Q R p q f = tt
found_with (Ok None) P Q R p q f = tt
found_with (Ok (Some t)) P Q R p q f = f t p q

pub none_where : (r : Result (Option TermId) Memory) (P Q : Type 0) → IfOk r (λ found. found ≡ None → P) → (P → Q) → IfOk r (λ found. found ≡ None → Q)
none_where (Err x) P Q p f = tt
none_where (Ok o) P Q p f = λ e. f (p e)

-- the newest eigenconstant
pub level_counted : (b : Nodes) (es : List TypeId) (level : ℕ) → level ≡ suc (length es) → level ≡ suc (length (types_in b es))
level_counted b es level e = e ∙ ap suc (sym (length-map es (λ t. type_tree b t.0)))

pub eigen_ready : (b : Nodes) (t : TermId) (level : ℕ) → t.0 < length b.terms → tree b t.0 ≡ atom (eigen level) → IsReady b t
eigen_ready b t level l e = (l, subst (Within HasClosedTypes 0) (sym e) tt)

-- the sides of an implication
pub implied_ready : (b : Nodes) (t clause rest : TermId) → IsImplication (tree b t.0) (tree b clause.0) (tree b rest.0) → IsReady b t → clause.0 < length b.terms → rest.0 < length b.terms → IsReady b clause × IsReady b rest
implied_ready b t clause rest (inl e) r l m = on_two b t clause rest number.Implies [] e r l m
implied_ready b t clause rest (inr e) r l m = let q = on_two b t rest clause number.If [] e r m l in (q.1, q.0)

-- the sides of a formula at one type
pub typed_ready : (b : Nodes) (t left right : TermId) (c : ℕ) → (of : Ty) × (tree b t.0 ≡ two c (of ∷ []) (tree b left.0) (tree b right.0)) → IsReady b t → left.0 < length b.terms → right.0 < length b.terms → IsReady b left × IsReady b right
typed_ready b t left right c e r l m = on_two b t left right c (e.0 ∷ []) e.1 r l m

-- `true` and `!` have no types
trivial_parts : (b : Nodes) (t : Term) (n : ℕ) (ids : List TypeId) (k : ℕ) → atom (constant n (map (type_tree b) (map (λ t. t.0) ids))) ≡ t → t ≡ atom (constant k []) → (n ≡ k) × (map (type_tree b) (map (λ t. t.0) ids) ≡ [])
trivial_parts b t n ids k e f = (cc, cc)

no_ids : (b : Nodes) (ids : List TypeId) → map (type_tree b) (map (λ t. t.0) ids) ≡ [] → length ids ≡ 0
no_ids b [] e = refl
no_ids b (x ∷ xs) e = absurd (cc)

pub trivial_typed : (b : Nodes) (t : Term) (n : ℕ) (ids : List TypeId) → (length ids ≡ 0 → ⊥) → atom (constant n (map (type_tree b) (map (λ t. t.0) ids))) ≡ t → (t ≡ truth) ⊎ (t ≡ cut) → ⊥
trivial_typed b t n ids l e (inl q) = l (no_ids b ids (trivial_parts b t n ids number.True e q).1)
trivial_typed b t n ids l e (inr q) = l (no_ids b ids (trivial_parts b t n ids number.Cut e q).1)

pub trivial_number : (b : Nodes) (t : Term) (n : ℕ) (ids : List TypeId) → atom (constant n (map (type_tree b) (map (λ t. t.0) ids))) ≡ t → (t ≡ truth) ⊎ (t ≡ cut) → (n ≡ number.True) ⊎ (n ≡ number.Cut)
trivial_number b t n ids e (inl q) = inl (trivial_parts b t n ids number.True e q).0
trivial_number b t n ids e (inr q) = inr (trivial_parts b t n ids number.Cut e q).0

-- the head of a goal that stands in the bank
pub not_atom_head : (b : Nodes) (t found : TermId) → tree b found.0 ≡ head (tree b t.0) → (IsAtomHead (tree b found.0) → ⊥) → IsAtomHead (head_of (tree b t.0)) → ⊥
not_atom_head b t found e h k = h (subst IsAtomHead (sym (e ∙ heads_agree (tree b t.0))) k)

pub head_outside : (b : Nodes) (t : TermId) → length b.terms ≤ t.0 → IsAtomHead (head_of (tree b t.0)) → ⊥
head_outside b t l k = subst (λ x. IsAtomHead (head_of x)) (tree-past b t.0 l) k

-- the side that a number names
pub side_ready : (b : Nodes) (t left right part : TermId) (which : ℕ) → tree b t.0 ≡ two number.And [] (tree b left.0) (tree b right.0) → ((which ≡ 0) × (part ≡ left)) ⊎ ((which ≡ 1) × (part ≡ right)) → IsReady b t → left.0 < length b.terms → right.0 < length b.terms → IsReady b part
side_ready b t left right part which e (inl q) r l m = subst (IsReady b) (sym q.1) (on_two b t left right number.And [] e r l m).0
side_ready b t left right part which e (inr q) r l m = subst (IsReady b) (sym q.1) (on_two b t left right number.And [] e r l m).1

pub side_steps : (b : Nodes) (new : Work) (E : List Ty) (As : List Term) (js : List Job) (G : Term) (left right part : TermId) (which : ℕ) → ((which ≡ 0) × (part ≡ left)) ⊎ ((which ≡ 1) × (part ≡ right)) → At b new E As (focusing (tree b part.0) G ∷ js) →
    ((which ≡ 0) × At b new E As (focusing (tree b left.0) G ∷ js)) ⊎ ((which ≡ 1) × At b new E As (focusing (tree b right.0) G ∷ js))
side_steps b new E As js G left right part which (inl q) at = inl (q.0, subst (λ t. At b new E As (focusing (tree b t.0) G ∷ js)) q.1 at)
side_steps b new E As js G left right part which (inr q) at = inr (q.0, subst (λ t. At b new E As (focusing (tree b t.0) G ∷ js)) q.1 at)

pub side_none : (which : ℕ) (A B : Type 0) → ((which ≡ 0) × A) ⊎ ((which ≡ 1) × B) → (which ≡ 0) ⊎ (which ≡ 1)
side_none which A B (inl q) = inl q.0
side_none which A B (inr q) = inr q.0

pub clause_found : (c d : code.ClauseFormula) (o : Option code.ClauseFormula) → o ≡ Some c → o ≡ Some d → c ≡ d
clause_found c d o e f = cc

pub get_inside : {A : Type 0} (xs : List A) (i : ℕ) (x : A) → slice_get xs i ≡ Some x → i < length xs
get_inside [] i x e = absurd (cc)
get_inside (y ∷ ys) zero x e = omega arith
get_inside (y ∷ ys) (suc i) x e = let k = get_inside ys i x e in omega (arith, k)
