-- A reading of the bindings becomes one of the bindings behind new types and behind a new term.
use Rattle.std.proofs.Common.{◌≡◌, ℕ, ◌<◌, List, [], ◌∷◌, ◌++◌, map, length, ◌∙◌, refl, sym, ap, subst as transport, arith, Bool, true, false, Option, Some, None, nat_eq, if◌then◌else◌}
use Rattle.std.specs.Prelude.{◌&&◌}
use mathlib.Core.Path.{fun_ext}
use Rattle.indexmap.specs.IndexMap.{get}
use Rattle.std.specs.Map.{lookup}
use Rattle.lp_calculus.specs.Types.{Ty, instance}
use Rattle.lp_calculus.specs.Term.{Term, Atom, atom, shift, constant, integer, text, eigen, logic, param}
use Rattle.lp_calculus.specs.Fill.{fill, raise, at_variables, close, one, put, Within}
use Rattle.lp_calculus.specs.Instance.{instance_atom, instance_term}
use Rattle.lp_calculus.proofs.Commutations.{instance_fill, fill_shift}
use Rattle.lp_calculus.proofs.Fills.{fill-fill, fill_same}
use Rattle.lp_calculus.proofs.TypeLaws.{instance-instance}
use Rattle.lp_term.specs.Nodes.{Nodes, Extends, tree}
use Rattle.lp_term.specs.declared.node.TermId.{TermId}
use Rattle.lp_term.specs.declared.node.TypeId.{TypeId}
use Rattle.lp_model.specs.Types.{TypeBinding, one_type, put_type, put_types, TypeOutcome, solve_types}
use Rattle.lp_model.specs.Pair.{Closing, closed, put_type_in, put_types_in}
use Rattle.lp_pattern.specs.declared.bindings.Bindings.{Bindings}
use Rattle.lp_pattern.specs.Behind.{with_types, at_number, with_value, HasLevel, IsReadBehind}
use Rattle.lp_pattern.specs.Filling.{AreSolved}
use Rattle.lp_pattern.specs.Stripping.{IsShut}
use Rattle.lp_pattern.specs.Under.{ValueIs, TypeIs, AreTypes, IsReading}
use Rattle.lp_pattern.specs.Reading.{type_pairs_of}
use Rattle.lp_pattern.proofs.TypesFirm.{firm_behind}
use Rattle.lp_pattern.proofs.TypesSolved.{lookup_past, lookup_at}
use Rattle.lp_pattern.proofs.Walking.{types_kept}

-- types put in
with_type : TypeBinding → Closing → Closing
with_type b c = record { types = λ x. put_type b (c.types x); terms = λ x l. put_type_in b (c.terms x l) }

types_twice : (θ κ : ℕ → Ty) (ts : List Ty) → map (instance (λ x. instance κ (θ x))) ts ≡ map (instance κ) (map (instance θ) ts)
types_twice θ κ [] = refl
types_twice θ κ (t ∷ ts) = λ i. sym (instance-instance θ κ t) i ∷ types_twice θ κ ts i

abbrev typed : (ℕ → Ty) → Atom → Term
typed κ a = atom (instance_atom κ a)

typed_before : (b : TypeBinding) (c : Closing) (a : Atom) → fill (typed (one_type b)) (at_variables c.terms (instance_atom c.types a)) ≡ at_variables (λ x l. put_type_in b (c.terms x l)) (instance_atom (λ x. put_type b (c.types x)) a)
typed_before b c (constant j us) = ap (λ l. atom (constant j l)) (sym (types_twice c.types (one_type b) us))
typed_before b c (integer z) = refl
typed_before b c (text s) = refl
typed_before b c (eigen k) = refl
typed_before b c (logic x l) = sym (instance_fill (one_type b) (c.terms x l))
typed_before b c (param k t) = ap (λ u. atom (param k u)) (instance-instance c.types (one_type b) t)

closed_fill : (σ : ℕ → ℕ → Term) (θ : ℕ → Ty) (t : Term) → fill (at_variables σ) (instance_term θ t) ≡ fill (λ a. at_variables σ (instance_atom θ a)) t
closed_fill σ θ t = ap (fill (at_variables σ)) (instance_fill θ t) ∙ fill-fill (at_variables σ) (typed θ) (λ a. at_variables σ (instance_atom θ a)) (λ a. refl) t

mutual
  unfolding with_type

  one_closed : (b : TypeBinding) (c : Closing) (t : Term) → closed (with_type b c) t ≡ put_type_in b (closed c t)
  one_closed b c t =
      closed_fill (λ x l. put_type_in b (c.terms x l)) (λ x. put_type b (c.types x)) t ∙
      sym (instance_fill (one_type b) (closed c t) ∙ ap (fill (typed (one_type b))) (closed_fill c.terms c.types t) ∙
      fill-fill (typed (one_type b)) (λ a. at_variables c.terms (instance_atom c.types a)) (λ a. at_variables (λ x l. put_type_in b (c.terms x l)) (instance_atom (λ x. put_type b (c.types x)) a))
      (typed_before b c) t)

mutual
  unfolding with_type

  pub closed_typed : (bs : List TypeBinding) (c : Closing) (t : Term) → closed (with_types bs c) t ≡ put_types_in bs (closed c t)
  closed_typed [] c t = refl
  closed_typed (b ∷ bs) c t = closed_typed bs (with_type b c) t ∙ ap (put_types_in bs) (one_closed b c t)

shut_type : (b : TypeBinding) (t : Term) → shift 0 1 t ≡ t → shift 0 1 (put_type_in b t) ≡ put_type_in b t
shut_type b t e =
    ap (shift 0 1) (instance_fill (one_type b) t) ∙ sym (fill_shift (typed (one_type b)) 0 1 t) ∙ ap (fill (typed (one_type b))) e ∙ sym (instance_fill (one_type b) t)

shut_types : (bs : List TypeBinding) (t : Term) → shift 0 1 t ≡ t → shift 0 1 (put_types_in bs t) ≡ put_types_in bs t
shut_types [] t e = e
shut_types (b ∷ bs) t e = shut_types bs (put_type_in b t) (shut_type b t e)

pub shut_typed : (bs : List TypeBinding) (c : Closing) → IsShut c → IsShut (with_types bs c)
shut_typed bs c h x l = shut_types bs (c.terms x l) (h x l)

variable_typed : (bs : List TypeBinding) (x l : ℕ) → put_types_in bs (atom (logic x l)) ≡ atom (logic x l)
variable_typed [] x l = refl
variable_typed (b ∷ bs) x l = variable_typed bs x l

value_typed : (b d : Nodes) (c : Closing) (bs : List TypeBinding) (x : ℕ) (o : Option TermId) → Extends b d → ValueIs b c x o → ValueIs d (with_types bs c) x o
value_typed b d c bs x None e h = λ l. ap (put_types_in bs) (h l) ∙ variable_typed bs x l
value_typed b d c bs x (Some t) e h = (
  omega (arith, h.0, e.more_terms),
  λ l. ap (put_types_in bs) (h.1 l) ∙ sym (closed_typed bs c (tree b t.0)) ∙ ap (closed (with_types bs c)) (sym (e.same_terms t.0 h.0)),
)

pub reading_typed : (b d : Nodes) (s s' : Bindings) (c : Closing) (bs : List TypeBinding) → Extends b d → s'.terms ≡ s.terms → AreTypes d s' (λ x. put_types bs (c.types x)) → IsReading b s c → IsReading d s' (with_types bs c)
reading_typed b d s s' c bs e q a h = record { terms = λ x. value_typed b d c bs x (get nat_eq s'.terms x) e (transport (λ m. ValueIs b c x (get nat_eq m x)) (sym q) (h.terms x)); types = a }

-- behind type equations that were solved
pub read_behind : (b d : Nodes) (s s' : Bindings) (c : Closing) (old new n : ℕ) (ps : List (TypeId × TypeId)) (r : TypeOutcome) → Extends b d → s'.terms ≡ s.terms → IsReading b s c → IsShut c →
    solve_types n (type_pairs_of b c.types ps) [] 0 ≡ Some r → AreSolved s d s' c.types old new r → IsReadBehind s d s' c r
read_behind b d s s' c old new n ps r e q h k x w = record {
  bindings = w.bindings;
  used = w.used;
  is = w.is;
  reading = reading_typed b d s s' c w.bindings e q w.types h;
  shut = shut_typed w.bindings c k;
  still = w.still;
  terms = closed_typed w.bindings c;
  firm = λ us firm t. ap (put_types_in (us ++ w.bindings)) (closed_typed w.bindings c t) ∙ firm_behind us c firm b ps n w.bindings w.used (x ∙ ap Some w.is) t ∙ sym (closed_typed w.bindings c t);
  count = w.count;
}

-- a term put in
value_before : (x : ℕ) (v : Term) (σ : ℕ → ℕ → Term) (a : Atom) → fill (at_variables (at_number x v)) (at_variables σ a) ≡ at_variables (λ y l. close (at_number x v) (σ y l)) a
value_before x v σ (constant j us) = refl
value_before x v σ (integer z) = refl
value_before x v σ (text s) = refl
value_before x v σ (eigen k) = refl
value_before x v σ (logic y l) = refl
value_before x v σ (param k t) = refl

pub closed_valued : (x : ℕ) (v : Term) (c : Closing) (t : Term) → closed (with_value x v c) t ≡ close (at_number x v) (closed c t)
closed_valued x v c t =
    sym (fill-fill (at_variables (at_number x v)) (at_variables c.terms) (at_variables (λ y l. close (at_number x v) (c.terms y l))) (value_before x v c.terms) (instance_term c.types t))

shut_choice : (v : Term) (y l : ℕ) (b : Bool) → shift 0 1 v ≡ v → shift 0 1 (if b then v else atom (logic y l)) ≡ (if b then v else atom (logic y l))
shut_choice v y l true e = e
shut_choice v y l false e = refl

shut_atom : (x : ℕ) (v : Term) → shift 0 1 v ≡ v → (a : Atom) → raise (at_variables (at_number x v)) a ≡ at_variables (at_number x v) a
shut_atom x v e (constant j us) = refl
shut_atom x v e (integer z) = refl
shut_atom x v e (text s) = refl
shut_atom x v e (eigen k) = refl
shut_atom x v e (logic y l) = shut_choice v y l (nat_eq y x) e
shut_atom x v e (param k t) = refl

pub shut_valued : (x : ℕ) (v : Term) (c : Closing) → shift 0 1 v ≡ v → IsShut c → IsShut (with_value x v c)
shut_valued x v c e h y l =
    sym (fill_shift (at_variables (at_number x v)) 0 1 (c.terms y l)) ∙
    (λ i. fill (fun_ext (shut_atom x v e) i) (h y l i))

chosen_value : (v : Term) (y l : ℕ) (b : Bool) → b ≡ true → (if b then v else atom (logic y l)) ≡ v
chosen_value v y l true e = refl
chosen_value v y l false e = absurd (cc)

chosen_variable : (v : Term) (y l : ℕ) (b : Bool) → b ≡ false → (if b then v else atom (logic y l)) ≡ atom (logic y l)
chosen_variable v y l true e = absurd (cc)
chosen_variable v y l false e = refl

module _ (b d : Nodes) (c : Closing) (x : ℕ) (t : TermId) (v : Term) (e : Extends b d) (known : t.0 < length d.terms) (is : closed c (tree d t.0) ≡ v) (absent : close (at_number x v) v ≡ v) where
  at_old : (y : ℕ) (u : TermId) → ValueIs b c y (Some u) → ValueIs d (with_value x v c) y (Some u)
  at_old y u h = (
    omega (arith, h.0, e.more_terms),
    λ l. ap (close (at_number x v)) (h.1 l) ∙ sym (closed_valued x v c (tree b u.0)) ∙ ap (closed (with_value x v c)) (sym (e.same_terms u.0 h.0)),
  )

  at_new : (y : ℕ) → nat_eq y x ≡ true → ValueIs b c y None → ValueIs d (with_value x v c) y (Some t)
  at_new y q h = (
    known,
    λ l. ap (close (at_number x v)) (h l) ∙ chosen_value v y l (nat_eq y x) q ∙ sym (closed_valued x v c (tree d t.0) ∙ ap (close (at_number x v)) is ∙ absent),
  )

  at_none : (y : ℕ) → nat_eq y x ≡ false → ValueIs b c y None → ValueIs d (with_value x v c) y None
  at_none y q h = λ l. ap (close (at_number x v)) (h l) ∙ chosen_variable v y l (nat_eq y x) q

  at_more : (y : ℕ) (f : Bool) → nat_eq y x ≡ f → ValueIs b c y None → ValueIs d (with_value x v c) y (if f then Some t else None)
  at_more y true q h = at_new y q h
  at_more y false q h = at_none y q h

  values_at : (y : ℕ) (old : List (ℕ × TermId)) (o : Option TermId) → lookup (nat_eq y) old ≡ o → ValueIs b c y o → ValueIs d (with_value x v c) y (lookup (nat_eq y) (old ++ (x, t) ∷ []))
  values_at y old None q h = transport (ValueIs d (with_value x v c) y) (sym (lookup_past (nat_eq y) old ((x, t) ∷ []) q)) (at_more y (nat_eq y x) refl h)
  values_at y old (Some u) q h = transport (ValueIs d (with_value x v c) y) (sym (lookup_at (nat_eq y) old ((x, t) ∷ []) u q)) (at_old y u h)

  pub reading_valued : (s s' : Bindings) → s'.terms.entries ≡ s.terms.entries ++ (x, t) ∷ [] → s'.types ≡ s.types → IsReading b s c → IsReading d s' (with_value x v c)
  reading_valued s s' q p h = record {
    terms = λ y. transport (λ l. ValueIs d (with_value x v c) y (lookup (nat_eq y) l)) (sym q) (values_at y s.terms.entries (get nat_eq s.terms y) refl (h.terms y));
    types = types_kept b d s' c.types e (transport (λ m. (y : ℕ) → TypeIs b c.types y (get nat_eq m y)) (sym p) h.types);
  }

-- the binding of the definition
one_is : (x l : ℕ) (v : Term) (a : Atom) → HasLevel x l a → at_variables (one (record { id = x; level = l; value = v })) a ≡ at_variables (at_number x v) a
one_is x l v (constant j us) h = refl
one_is x l v (integer z) h = refl
one_is x l v (text s) h = refl
one_is x l v (eigen k) h = refl
one_is x l v (logic y m) h = go (nat_eq y x) h
  where
    go : (b : Bool) → (b ≡ true → nat_eq m l ≡ true) → (if b && nat_eq m l then v else atom (logic y m)) ≡ (if b then v else atom (logic y m))
    go true f = chosen_value v y m (nat_eq m l) (f refl)
    go false f = refl
one_is x l v (param k t) h = refl

pub put_valued : (x l : ℕ) (v : Term) (d : ℕ) (t : Term) → Within (HasLevel x l) d t → put (record { id = x; level = l; value = v }) t ≡ close (at_number x v) t
put_valued x l v d t h = fill_same (HasLevel x l) (at_variables (one (record { id = x; level = l; value = v }))) (at_variables (at_number x v)) (one_is x l v) d t h
