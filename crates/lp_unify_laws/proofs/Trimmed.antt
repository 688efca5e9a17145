-- A closing of lp_model speaks of its variables alone: with any closed term for the others it is a closing at all levels, and gives the same
-- to typed pairs.
use Rattle.std.proofs.Common.{◌≡◌, ℕ, zero, suc, List, [], ◌∷◌, map, length, ◌∙◌, refl, sym, ap, subst as transport, arith, true, false, nat_eq, if◌then◌else◌, Option, Some, None}
use Rattle.std.specs.Prelude.{slice_get}
use Rattle.lp_calculus.specs.Types.{Ty, instance}
use Rattle.lp_calculus.specs.Term.{Term, Atom, atom, constant, integer, text, eigen, logic, param}
use Rattle.lp_calculus.specs.Closed.{IsClosedAtom}
use Rattle.lp_calculus.specs.Fill.{Within, close, at_variables}
use Rattle.lp_calculus.proofs.Fills.{fill_same, within_more}
use Rattle.lp_calculus.proofs.Steps.{converts_on, converts_is}
use Rattle.lp_model.specs.Pair.{Pair, Closing}
use Rattle.lp_model.specs.Proofs.{Declared, IsWitness}
use Rattle.lp_model.specs.Answers.{Variable, Closes}
use Rattle.lp_model.specs.Types.{TypePair}
use Rattle.lp_model.specs.Unify.{State, Fail, Solution, solve}
use Rattle.lp_unify_laws.specs.Levels.{IsLevelAtom, IsClosing, AllSolvedBy}
use Rattle.lp_unify_laws.specs.Solutions.{instance_variable, at_types, IsTypedClosing, IsTypedInput, IsSolution, IsClosedSolution, closed_variables, KeepsSolution}
use Rattle.lp_unify_laws.proofs.Sames.{same_number, number_same}
use Rattle.lp_unify_laws.proofs.Scopes.{variable_of}
use Rattle.lp_unify_laws.proofs.TypedBindings.{IsAtomOf, IsTypedTerm, term_atoms}
use Rattle.lp_unify_laws.proofs.PairLists.{EachTyped, each_typed, left_term, right_term}
use Rattle.lp_unify_laws.proofs.TypedInstances.{length_variables}
use Rattle.lp_unify_laws.proofs.Laws.{solved_by, by_solved, failures_have_no_solution, solutions_are_kept}

abbrev pub other : Term
other = atom (text [])

abbrev pub trimmed_to : Option Variable → (l : ℕ) → Term → Term
trimmed_to None l t = other
trimmed_to (Some v) l t = if nat_eq l (length v.scope) then t else other

abbrev pub trimmed : List Variable → (ℕ → ℕ → Term) → ℕ → ℕ → Term
trimmed V σ x l = trimmed_to (slice_get V x) l (σ x l)

pub trimmed_at : (V : List Variable) (σ : ℕ → ℕ → Term) (x : ℕ) (v : Variable) → slice_get V x ≡ Some v → trimmed V σ x (length v.scope) ≡ σ x (length v.scope)
trimmed_at V σ x v e = ap (λ o. trimmed_to o (length v.scope) (σ x (length v.scope))) e ∙ ap (λ b. if b then σ x (length v.scope) else other) (number_same (length v.scope))

-- levels
level_of : (n : ℕ) (a : Atom) → IsClosedAtom n a → IsLevelAtom n a
level_of n (constant c ts) h = tt
level_of n (integer z) h = tt
level_of n (text s) h = tt
level_of n (eigen k) h = h
level_of n (logic x l) h = h
level_of n (param k T) h = tt

pub trimmed_closing : (d : Declared) (V : List Variable) (σ : ℕ → ℕ → Term) → IsTypedClosing d V σ → IsClosing (trimmed V σ)
trimmed_closing d V σ g = record {
  closed = λ x l. elim (slice_get V x) as (λ o. slice_get V x ≡ o → Within (IsLevelAtom l) 0 (trimmed_to o l (σ x l))) [
    | None ↦ λ e. tt
    | Some v ↦ λ e. elim (nat_eq l (length v.scope)) as (λ b. nat_eq l (length v.scope) ≡ b → Within (IsLevelAtom l) 0 (if b then σ x l else other)) [
      | true ↦ λ i.
          let n = same_number l (length v.scope) i in
          transport (λ z. Within (IsLevelAtom z) 0 (σ x z)) (sym n) (within_more (IsClosedAtom (length v.scope)) (IsLevelAtom (length v.scope)) 0 0 (level_of (length v.scope)) (omega arith) (σ x (length v.scope)) (g x v e).closed)
      | false ↦ λ i. tt
    ] refl
  ] refl;
}

pub trimmed_typed : (d : Declared) (V : List Variable) (σ : ℕ → ℕ → Term) → IsTypedClosing d V σ → IsTypedClosing d V (trimmed V σ)
trimmed_typed d V σ g x v e = transport (λ z. IsWitness d v.scope z v.type) (sym (trimmed_at V σ x v e)) (g x v e)

-- typed pairs
trimmed_atom : (d : Declared) (E : List Ty) (V : List Variable) (σ : ℕ → ℕ → Term) (a : Atom) → IsAtomOf d E V a → at_variables (trimmed V σ) a ≡ at_variables σ a
trimmed_atom d E V σ (logic x l) h =
    let v = variable_of V x l h.1.0 h.1.1 in
    transport (λ z. trimmed V σ x z ≡ σ x z) (sym v.level) (trimmed_at V σ x v.variable v.is)
trimmed_atom d E V σ (constant c ts) h = refl
trimmed_atom d E V σ (integer z) h = refl
trimmed_atom d E V σ (text s) h = refl
trimmed_atom d E V σ (eigen k) h = refl
trimmed_atom d E V σ (param k T) h = refl

pub trimmed_term : (d : Declared) (E : List Ty) (V : List Variable) (σ : ℕ → ℕ → Term) (t : Term) (T : Ty) → IsTypedTerm d E V t T → close (trimmed V σ) t ≡ close σ t
trimmed_term d E V σ t T h = fill_same (IsAtomOf d E V) (at_variables (trimmed V σ)) (at_variables σ) (trimmed_atom d E V σ) 0 t (term_atoms d E V t T h)

pub trimmed_solves : (d : Declared) (V : List Variable) (σ : ℕ → ℕ → Term) (ps : List Pair) → EachTyped d V ps → AllSolvedBy σ ps → AllSolvedBy (trimmed V σ) ps
trimmed_solves d V σ [] h k = tt
trimmed_solves d V σ (p ∷ ps) h k = (
  converts_on (converts_is (trimmed_term d h.0.0.eigens V σ p.left h.0.0.type (left_term d V h.0.0 p h.0.1)))
      (converts_on k.0 (converts_is (sym (trimmed_term d h.0.0.eigens V σ p.right h.0.0.type (right_term d V h.0.0 p h.0.1))))),
  trimmed_solves d V σ ps h.1 k.1,
)

-- the variables with the closing's types
get_variable : (f : Variable → Variable) (V : List Variable) (x : ℕ) (w : Variable) → slice_get (map f V) x ≡ Some w → (v : Variable) × (slice_get V x ≡ Some v) × (w ≡ f v)
get_variable f [] x w e = absurd (cc)
get_variable f (v ∷ V) zero w e = let q : w ≡ f v = cc in (v, refl, q)
get_variable f (v ∷ V) (suc x) w e = get_variable f V x w e

length_scope : (f : Ty → Ty) (ts : List Ty) → length (map f ts) ≡ length ts
length_scope f [] = refl
length_scope f (t ∷ ts) = ap suc (length_scope f ts)

pub closes_typed : (d : Declared) (V : List Variable) (c : Closing) → Closes d V c → IsTypedClosing d (closed_variables c V) c.terms
closes_typed d V c h x w e =
    let r = get_variable (instance_variable c.types) V x w e in
    let v = r.0 in
    transport (λ z. IsWitness d z.scope (c.terms x (length z.scope)) z.type) (sym r.2)
    (transport (λ n. IsWitness d (map (instance c.types) v.scope) (c.terms x n) (instance c.types v.type)) (sym (length_scope (instance c.types) v.scope)) (h.terms x v r.1))

abbrev trim : List Variable → Closing → Closing
trim V c = record { types = c.types; terms = trimmed (closed_variables c V) c.terms }

trimmed_solution : (d : Declared) (V : List Variable) (c : Closing) (eqs : List TypePair) (ps ds : List Pair) → IsTypedInput c.types d (closed_variables c V) eqs ps ds → IsClosedSolution d V c eqs ps ds → IsSolution d (closed_variables c V) (trim V c) eqs ps ds
trimmed_solution d V c eqs ps ds i h =
    let W = closed_variables c V in
    let g = closes_typed d V c h.closes in
    let t = i h.types in
    record {
      levels = trimmed_closing d W c.terms g;
      typed = trimmed_typed d W c.terms g;
      types = h.types;
      pairs = by_solved (trim V c) ps (trimmed_solves d W c.terms (at_types c.types ps) (each_typed d W t.0.0 (at_types c.types ps) t.0.1) (solved_by c ps h.pairs));
      delayed = by_solved (trim V c) ds (trimmed_solves d W c.terms (at_types c.types ds) (each_typed d W t.1.0 (at_types c.types ds) t.1.1) (solved_by c ds h.delayed));
    }

pub closings_have_none : (d : Declared) (V : List Variable) (n limit : ℕ) (eqs : List TypePair) (ps ds : List Pair) (c : Closing) → IsTypedInput c.types d (closed_variables c V) eqs ps ds → solve n limit eqs ps ds (length V) ≡ Some Fail → IsClosedSolution d V c eqs ps ds → ⊥
closings_have_none d V n limit eqs ps ds c i e h =
    failures_have_no_solution d (closed_variables c V) n limit eqs ps ds (trim V c) i (transport (λ z. solve n limit eqs ps ds z ≡ Some Fail) (sym (length_variables c.types V)) e) (trimmed_solution d V c eqs ps ds i h)

pub closings_are_kept : (d : Declared) (V : List Variable) (n limit : ℕ) (eqs : List TypePair) (ps ds : List Pair) (s : State) (c : Closing) →
    IsTypedInput c.types d (closed_variables c V) eqs ps ds → solve n limit eqs ps ds (length V) ≡ Some (Solution s) → IsClosedSolution d V c eqs ps
    ds → KeepsSolution d (closed_variables c V) c s
closings_are_kept d V n limit eqs ps ds s c i e h =
    let W = closed_variables c V in
    let k = solutions_are_kept d W n limit eqs ps ds s (trim V c) i (transport (λ z. solve n limit eqs ps ds z ≡ Some (Solution s)) (sym (length_variables c.types V)) e) (trimmed_solution d V c eqs ps ds i h) in
    record {
      typings = k.typings;
      closing = k.closing;
      types = k.types;
      solves = k.solves;
      gives = λ x v q. converts_on (converts_is (sym (trimmed_at W c.terms x v q))) (k.gives x v q);
    }
