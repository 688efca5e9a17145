-- Terms and goals with other numbers: raising, filling and the binding of a record's variables go along.
use Rattle.std.proofs.Common.{◌≡◌, ◌∙◌, ◌+◌, ℕ, suc, List, [], ◌∷◌, map, Bool, true, false, Option, Some, None, ap, refl, sym, arith}
use Rattle.std.specs.Prelude.{nat_eq, nat_lt, if◌then◌else◌}
use Rattle.std.proofs.lemmas.Bool.{eqb-true, eqb-false, ne_eqb, eq-eqb}
use Rattle.lp_calculus.specs.Types.{Ty}
use Rattle.lp_calculus.specs.Term.{Term, Atom, index, atom, abs, app, shift, raised, replace, constant, integer, text, eigen, logic, param}
use Rattle.lp_calculus.specs.Fill.{fill, raise, at_variables}
use Rattle.lp_term.specs.Mapped.{Map, mapped, mapped_atom, mapped_type}
use Rattle.lp_model.specs.Flat.{Goal, Goals, Clause, Clauses, Written, Atomic, Cut, Either, Exists, Forall, Assume, Not, no_goals, goals, clause, no_clauses, clauses, under_all, map_goal, map_goals, map_clause, map_clauses, map_written, same_type}
use Rattle.lp_code.specs.States.{placed, index_or, bound_at, bind_term}
use Rattle.lp_link.specs.Renumbering.{moving}
use Rattle.lp_link.specs.inner.Renumbering.{moved_term, same_depth, moved_goals, moved_clauses}

module _ (f g : ℕ → ℕ) (n : ℕ) where
  abbrev m : Map
  m = moving f g n

  -- an atom stays one
  atom_raised : (a : Atom) (h : ℕ → ℕ → Term) (d : ℕ) → replace h d (mapped_atom m a) ≡ mapped_atom m a
  atom_raised (constant c ts) h d = refl
  atom_raised (integer z) h d = refl
  atom_raised (text s) h d = refl
  atom_raised (eigen k) h d = refl
  atom_raised (logic x l) h d = refl
  atom_raised (param k T) h d = refl

  index_raised : (by d i : ℕ) → mapped m (raised by d i) ≡ raised by d i
  index_raised by d i = go (nat_lt i d)
    where
      go : (b : Bool) → mapped m (if b then index i else index (i + by)) ≡ (if b then index i else index (i + by))
      go true = refl
      go false = refl

  shift_moved : (by d : ℕ) (t : Term) → mapped m (replace (raised by) d t) ≡ replace (raised by) d (mapped m t)
  shift_moved by d (index i) = index_raised by d i
  shift_moved by d (atom a) = sym (atom_raised a (raised by) d)
  shift_moved by d (abs b) = ap abs (shift_moved by (suc d) b)
  shift_moved by d (app t u) = λ j. app (shift_moved by d t j) (shift_moved by d u j)

  -- what is put for the atoms
  atom_filled : (a : Atom) (h : Atom → Term) → fill (raise h) (mapped_atom m a) ≡ shift 0 1 (fill h (mapped_atom m a))
  atom_filled (constant c ts) h = refl
  atom_filled (integer z) h = refl
  atom_filled (text s) h = refl
  atom_filled (eigen k) h = refl
  atom_filled (logic x l) h = refl
  atom_filled (param k T) h = refl

  fill_moved : (h k : Atom → Term) → ((a : Atom) → mapped m (h a) ≡ fill k (mapped_atom m a)) → (t : Term) → mapped m (fill h t) ≡ fill k (mapped m t)
  fill_moved h k e (index i) = refl
  fill_moved h k e (atom a) = e a
  fill_moved h k e (abs b) = ap abs (fill_moved (raise h) (raise k) (λ a. shift_moved 1 0 (h a) ∙ ap (shift 0 1) (e a) ∙ sym (atom_filled a k)) b)
  fill_moved h k e (app t u) = λ j. app (fill_moved h k e t j) (fill_moved h k e u j)

  -- the variables of a record, which goes up
  pub same_home : (h k : ℕ) → nat_eq (h + n) (k + n) ≡ nat_eq h k
  same_home h k = go (nat_eq h k) refl
    where
      go : (b : Bool) → nat_eq h k ≡ b → nat_eq (h + n) (k + n) ≡ b
      go true e = let z = eqb-true h k e in eq-eqb (h + n) (k + n) (omega (arith, z))
      go false e = ne_eqb (h + n) (k + n) (λ z. eqb-false h k e (omega (arith, z)))

  bound_moved : (rs : List ℕ) (home d r h : ℕ) → mapped m (bound_at rs home d r h) ≡ bound_at rs (home + n) d r (h + n)
  bound_moved rs home d r h = go (if nat_eq h home then placed rs d r else None) ∙ ap (λ b. index_or (if b then placed rs d r else None) (atom (logic r (h + n)))) (sym (same_home h home))
    where
      go : (o : Option ℕ) → mapped m (index_or o (atom (logic r h))) ≡ index_or o (atom (logic r (h + n)))
      go None = refl
      go (Some i) = refl

  pub bind_moved : (rs : List ℕ) (home d : ℕ) (t : Term) → mapped m (bind_term rs home d t) ≡ bind_term rs (home + n) d (mapped m t)
  bind_moved rs home d t = fill_moved (at_variables (bound_at rs home d)) (at_variables (bound_at rs (home + n) d)) atoms t
    where
      atoms : (a : Atom) → mapped m (at_variables (bound_at rs home d) a) ≡ fill (at_variables (bound_at rs (home + n) d)) (mapped_atom m a)
      atoms (constant c ts) = refl
      atoms (integer z) = refl
      atoms (text s) = refl
      atoms (eigen k) = refl
      atoms (logic r h) = bound_moved rs home d r h
      atoms (param k T) = refl

  -- the same in goals
  types_moved : (Ts : List Ty) → map (mapped_type m) (map same_type Ts) ≡ map same_type (map (mapped_type m) Ts)
  types_moved [] = refl
  types_moved (T ∷ Ts) = ap (λ l. mapped_type m T ∷ l) (types_moved Ts)

  under_mapped : {A B : Type 0} (up : ℕ → ℕ) (h : A → B) (xs : List A) (e : ℕ) → under_all up (map h xs) e ≡ under_all up xs e
  under_mapped up h [] e = refl
  under_mapped up h (x ∷ xs) e = ap up (under_mapped up h xs e)

  module _ (rs : List ℕ) (home : ℕ) where
    terms_moved : (d : ℕ) (ts : List Term) → map (mapped m) (map (bind_term rs home d) ts) ≡ map (bind_term rs (home + n) d) (map (mapped m) ts)
    terms_moved d [] = refl
    terms_moved d (t ∷ ts) = λ j. bind_moved rs home d t j ∷ terms_moved d ts j

    written_moved : (d : ℕ) (w : Written) → map_written (mapped m) (mapped_type m) (map_written (bind_term rs home d) same_type w) ≡ map_written
        (bind_term rs (home + n) d) same_type (map_written (mapped m) (mapped_type m) w)
    written_moved d w = λ j. record { terms = terms_moved d w.terms j; types = types_moved w.types j }

    mutual
      goal_bound : (d e : ℕ) (x : Goal) → map_goal same_depth (moved_term m) (mapped_type m) e (map_goal suc (bind_term rs home) same_type d x) ≡
          map_goal suc (bind_term rs (home + n)) same_type d (map_goal same_depth (moved_term m) (mapped_type m) e x)
      goal_bound d e (Atomic t) = ap Atomic (bind_moved rs home d t)
      goal_bound d e Cut = refl
      goal_bound d e (Either gs hs) = λ j. Either (goals_bound d e gs j) (goals_bound d e hs j)
      goal_bound d e (Exists T gs) = ap (Exists (mapped_type m T)) (goals_bound (suc d) e gs)
      goal_bound d e (Forall T gs) = ap (Forall (mapped_type m T)) (goals_bound (suc d) e gs)
      goal_bound d e (Assume w cs gs) = λ j. Assume (written_moved d w j) (clauses_bound d e cs j) (goals_bound d e gs j)
      goal_bound d e (Not w gs) = λ j. Not (written_moved d w j) (goals_bound d e gs j)

      pub goals_bound : (d e : ℕ) (gs : Goals) → moved_goals m e (map_goals suc (bind_term rs home) same_type d gs) ≡ map_goals suc (bind_term rs (home + n)) same_type d (moved_goals m e gs)
      goals_bound d e no_goals = refl
      goals_bound d e (goals x gs) = λ j. goals (goal_bound d e x j) (goals_bound d e gs j)

      clause_bound : (d e : ℕ) (c : Clause) → map_clause same_depth (moved_term m) (mapped_type m) e
          (map_clause suc (bind_term rs home) same_type d c) ≡ map_clause suc (bind_term rs (home + n)) same_type d
          (map_clause same_depth (moved_term m) (mapped_type m) e c)
      clause_bound d e (clause k vs h b) =
          let deep = under_all suc vs d in
          let inside = under_mapped same_depth same_type vs e in
          let outside = under_mapped suc (mapped_type m) vs d in
          λ j. clause k (types_moved vs j) ((bind_moved rs home deep h ∙ ap (λ x. bind_term rs (home + n) x (mapped m h)) (sym outside)) j)
          ((ap (λ x. moved_goals m x (map_goals suc (bind_term rs home) same_type deep b)) inside ∙ goals_bound deep (under_all same_depth vs e) b ∙
          ap (λ x. map_goals suc (bind_term rs (home + n)) same_type x (moved_goals m (under_all same_depth vs e) b)) (sym outside)) j)

      clauses_bound : (d e : ℕ) (cs : Clauses) → moved_clauses m e (map_clauses suc (bind_term rs home) same_type d cs) ≡ map_clauses suc (bind_term rs (home + n)) same_type d (moved_clauses m e cs)
      clauses_bound d e no_clauses = refl
      clauses_bound d e (clauses c cs) = λ j. clauses (clause_bound d e c j) (clauses_bound d e cs j)
