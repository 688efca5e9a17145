-- A typed branch stays one with further eigenconstants among those that are there.
use Rattle.std.proofs.Common.{◌≡◌, ℕ, zero, List, [], ◌∷◌, map, length, ◌∙◌, refl, sym, ap, subst as transport, arith, Bool, nat_eq, if◌then◌else◌, Option, Some, None}
use Rattle.std.specs.Prelude.{slice_get, option_map}
use Rattle.lp_lemmas.specs.Each.{EachOf}
use Rattle.lp_lemmas.proofs.Each.{each_map}
use Rattle.lp_lemmas.proofs.Lists.{get_from_map}
use Rattle.lp_calculus.specs.Types.{Ty, Tys, var, param as type_param, con, arrow, no_types, types, instance}
use Rattle.lp_calculus.specs.Term.{Term, Atom, index, atom, abs, app, constant, integer, text, eigen, logic, param}
use Rattle.lp_calculus.specs.Typing.{atom_type, o_type}
use Rattle.lp_calculus.specs.Closed.{IsClosedType, AreClosedTypes}
use Rattle.lp_calculus.specs.Spine.{head_of}
use Rattle.lp_calculus.proofs.Fills.{within_fill}
use Rattle.lp_calculus.proofs.Subject.{typed_fill}
use Rattle.lp_unify_laws.specs.TypesBelow.{IsTypeBelow, AreTypesBelow, AreTysBelow}
use Rattle.lp_unify_laws.proofs.TypedInstances.{get_map}
use Rattle.lp_model.specs.Flat.{Goal, Clause, formula_of_goal, formula_of_clause, same_type}
use Rattle.lp_model.specs.Variables.{Variable, type_of, over, IsPrefix, IsScopedAtom}
use Rattle.lp_model.specs.Branch.{Entry}
use Rattle.lp_model.specs.Proofs.{Declared}
use Rattle.lp_search_laws.specs.Holds.{IsTyped}
use Rattle.lp_search_laws.specs.Branches.{IsPlainAtom, IsClauseHead, IsAssumable, IsTypedEntry, AreTypedEntries, ArePlainEntries, IsPlainVariable}
use Rattle.lp_search_laws.specs.Widened.{Additions, widened, wider, HaveClosedTypes}
use Rattle.lp_search_laws.proofs.Begins.{type_stays}
use Rattle.lp_search_laws.proofs.Formulas.{GoesInside, goal_inside, clause_inside}
use Rattle.lp_search_laws.proofs.PlainTypes.{KeepsPlain, goal_kept, assumable_kept, fill_plain}
use Rattle.lp_search_laws.proofs.Moved.Terms.{Moving, moved, moved_atom, moved_by}
use Rattle.lp_search_laws.proofs.Moved.Goals.{moved_goal, moved_clause, moved_entry, moved_entries}
use Rattle.lp_search_laws.proofs.Moved.Candidates.{same_types}
use Rattle.lp_search_laws.proofs.Moved.Places.{moving, widened_length, widened_eigen, widened_level, widened_prefix}

-- closed types have no type variable
mutual
  pub closed_below : (n : ℕ) (T : Ty) → IsClosedType T → IsTypeBelow n T
  closed_below n (var i) h = absurd h
  closed_below n (type_param k) h = tt
  closed_below n (con c ts) h = closed_all n ts h
  closed_below n (arrow a b) h = (closed_below n a h.0, closed_below n b h.1)

  closed_all : (n : ℕ) (ts : Tys) → AreClosedTypes ts → AreTysBelow n ts
  closed_all n no_types h = tt
  closed_all n (types t ts) h = (closed_below n t h.0, closed_all n ts h.1)

closed_stays : (θ : ℕ → Ty) (T : Ty) → IsClosedType T → instance θ T ≡ T
closed_stays θ T h = type_stays θ 0 (λ i l. absurd (omega (arith, l))) T (closed_below 0 T h)

pub widened_instance : (θ : ℕ → Ty) (ads : Additions) → HaveClosedTypes ads → (E : List Ty) → map (instance θ) (widened ads E) ≡ widened ads (map (instance θ) E)
widened_instance θ [] h E = refl
widened_instance θ (Some T ∷ ads) h E = λ i. closed_stays θ T h.0 i ∷ widened_instance θ ads h.1 E i
widened_instance θ (None ∷ ads) h [] = refl
widened_instance θ (None ∷ ads) h (U ∷ E) = ap (λ z. instance θ U ∷ z) (widened_instance θ ads h E)

widened_below : (k : ℕ) (ads : Additions) → HaveClosedTypes ads → (E : List Ty) → AreTypesBelow k E → AreTypesBelow k (widened ads E)
widened_below k [] h E w = w
widened_below k (Some T ∷ ads) h E w = (closed_below k T h.0, widened_below k ads h.1 E w)
widened_below k (None ∷ ads) h [] w = tt
widened_below k (None ∷ ads) h (U ∷ E) w = (w.0, widened_below k ads h E w.1)

module _ (ads : Additions) where
  abbrev pub widened_variable : Variable → Variable
  widened_variable v = record { type = v.type; scope = widened ads v.scope }

  abbrev pub widened_variables : List Variable → List Variable
  widened_variables V = map widened_variable V

  type_widened : (o : Option Variable) (l : ℕ) → type_of (option_map widened_variable o) (wider ads l) ≡ type_of o l
  type_widened None l = refl
  type_widened (Some v) l = ap (λ b. if b then Some v.type else None) (ap (nat_eq (wider ads l)) (widened_length ads v.scope) ∙ (moving ads).same_levels l (length v.scope))

  atom_widened : (d : Declared) (E : List Ty) (V : List Variable) (a : Atom) (T : Ty) → atom_type (over d E V) a ≡ Some T → atom_type (over d (widened ads E) (widened_variables V)) (moved_atom (moving ads) a) ≡ Some T
  atom_widened d E V (constant c ts) T e = e
  atom_widened d E V (integer z) T e = e
  atom_widened d E V (text s) T e = e
  atom_widened d E V (eigen k) T e = widened_eigen ads E k T e
  atom_widened d E V (logic x l) T e = ap (λ o. type_of o (wider ads l)) (get_map widened_variable V x) ∙ type_widened (slice_get V x) l ∙ e
  atom_widened d E V (param k U) T e = e

  scoped_widened : (E : List Ty) (V : List Variable) (a : Atom) → IsScopedAtom V E a → IsScopedAtom (widened_variables V) (widened ads E) (moved_atom (moving ads) a)
  scoped_widened E V (constant c ts) h = tt
  scoped_widened E V (integer z) h = tt
  scoped_widened E V (text s) h = tt
  scoped_widened E V (eigen k) h = widened_level ads E k h
  scoped_widened E V (logic x l) h = λ w e. let g = get_from_map widened_variable V x w e in transport (λ z. IsPrefix z.scope (widened ads E)) (sym g.2) (widened_prefix ads g.0.scope E (h g.0 g.1))
  scoped_widened E V (param k U) h = tt

  pub typed_widened : (d : Declared) (E : List Ty) (V : List Variable) (t : Term) (T : Ty) → IsTyped d E V t T → IsTyped d (widened ads E) (widened_variables V) (moved (moving ads) t) T
  typed_widened d E V t T w = record {
    typed = typed_fill (atom_type (over d E V)) (atom_type (over d (widened ads E) (widened_variables V))) [] (moved_by (moving ads)) (λ a A e. atom_widened d E V a A e) t T w.typed;
    scoped = within_fill (IsScopedAtom V E) (IsScopedAtom (widened_variables V) (widened ads E)) (moved_by (moving ads)) 0 (scoped_widened E V) t w.scoped;
  }

  pub variables_widened : (k : ℕ) → HaveClosedTypes ads → (V : List Variable) → EachOf (IsPlainVariable k) V → EachOf (IsPlainVariable k) (widened_variables V)
  variables_widened k h V w = each_map (IsPlainVariable k) (IsPlainVariable k) widened_variable (λ v p. record { type = p.type; scope = widened_below k ads h v.scope p.scope }) V w

-- formulas
pub moves_inside : (m : Moving) → GoesInside (moved m) same_type
moves_inside m = record { apps = λ t u. refl; abss = λ t. refl; constants = λ c ts. ap (λ z. atom (constant c z)) (sym (same_types ts)) }

pub goal_formula : (m : Moving) (g : Goal) → formula_of_goal (moved_goal m g) ≡ moved m (formula_of_goal g)
goal_formula m g = goal_inside (moved m) same_type (moves_inside m) zero g

pub clause_formula : (m : Moving) (c : Clause) → formula_of_clause (moved_clause m c) ≡ moved m (formula_of_clause c)
clause_formula m c = clause_inside (moved m) same_type (moves_inside m) zero c

-- what is plain
plain_atom : (m : Moving) (k : ℕ) (a : Atom) → IsPlainAtom k a → IsPlainAtom k (moved_atom m a)
plain_atom m k (constant c ts) w = w
plain_atom m k (integer z) w = tt
plain_atom m k (text s) w = tt
plain_atom m k (eigen n) w = tt
plain_atom m k (logic x l) w = tt
plain_atom m k (param n T) w = w

clause_head : (m : Moving) (B : List Bool) (t : Term) → IsClauseHead B (head_of t) → IsClauseHead B (head_of (moved m t))
clause_head m B (index i) w = w
clause_head m B (atom (constant c ts)) w = w
clause_head m B (atom (eigen k)) w = tt
clause_head m B (atom (integer z)) w = absurd w
clause_head m B (atom (text s)) w = absurd w
clause_head m B (atom (logic x l)) w = absurd w
clause_head m B (atom (param k T)) w = absurd w
clause_head m B (abs b) w = absurd w
clause_head m B (app f a) w = clause_head m B f w

keeps_plain : (m : Moving) (k : ℕ) → KeepsPlain k (moved m) same_type
keeps_plain m k = record { terms = λ t w. fill_plain (IsPlainAtom k) (IsPlainAtom k) (moved_by m) (plain_atom m k) t w; types = λ T w. w; heads = clause_head m }

-- entries
module _ (ads : Additions) where
  entry_typed : (d : Declared) (V : List Variable) (E : List Ty) (e : Entry) → IsTypedEntry d V E e → IsTypedEntry d (widened_variables ads V) (widened ads E) (moved_entry (moving ads) e)
  entry_typed d V E e w = record {
    level = widened_length ads E ∙ ap (wider ads) w.level;
    goal = transport (λ z. IsTyped d (widened ads E) (widened_variables ads V) z o_type) (sym (goal_formula (moving ads) e.goal)) (typed_widened ads d E V (formula_of_goal e.goal) o_type w.goal);
    assumed = each_map (λ c. IsTyped d E V (formula_of_clause c) o_type) (λ c. IsTyped d (widened ads E) (widened_variables ads V) (formula_of_clause c) o_type) (moved_clause (moving ads))
        (λ c t. transport (λ z. IsTyped d (widened ads E) (widened_variables ads V) z o_type) (sym (clause_formula (moving ads) c)) (typed_widened ads d E V (formula_of_clause c) o_type t)) e.assumed w.assumed;
  }

  pub entries_typed : (d : Declared) (V : List Variable) (Es : List (List Ty)) (es : List Entry) → AreTypedEntries d V Es es → AreTypedEntries d (widened_variables ads V) (map (widened ads) Es) (moved_entries (moving ads) es)
  entries_typed d V [] [] w = tt
  entries_typed d V (E ∷ Es) (e ∷ es) w = (entry_typed d V E e w.0, entries_typed d V Es es w.1)
  entries_typed d V [] (e ∷ es) w = absurd w
  entries_typed d V (E ∷ Es) [] w = absurd w

  pub entries_plain : (k : ℕ) → HaveClosedTypes ads → (Es : List (List Ty)) (es : List Entry) → ArePlainEntries k Es es → ArePlainEntries k (map (widened ads) Es) (moved_entries (moving ads) es)
  entries_plain k h [] [] w = tt
  entries_plain k h (E ∷ Es) (e ∷ es) w = (
    record {
      eigens = widened_below k ads h E w.0.eigens;
      goal = goal_kept k (moved (moving ads)) same_type (keeps_plain (moving ads) k) zero [] e.goal w.0.goal;
      assumed = each_map (IsAssumable k) (IsAssumable k) (moved_clause (moving ads)) (assumable_kept k (moved (moving ads)) same_type (keeps_plain (moving ads) k)) e.assumed w.0.assumed;
    },
    entries_plain k h Es es w.1,
  )
  entries_plain k h [] (e ∷ es) w = absurd w
  entries_plain k h (E ∷ Es) [] w = absurd w
