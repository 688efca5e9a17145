-- What instructions make and take, with other numbers.
use Rattle.std.proofs.Common.{◌≡◌, ◌∙◌, ◌+◌, ℕ, zero, suc, List, [], ◌∷◌, ◌++◌, map, replicate, true, false, Option, Some, None, ap, refl, sym}
use Rattle.std.specs.Prelude.{option_map, unwrap_or, is_some}
use Rattle.lp_lemmas.proofs.Booleans.{and_true_left}
use Rattle.lp_calculus.specs.Types.{Ty, var, param, con, arrow, no_types, types, tys}
use Rattle.lp_calculus.specs.Term.{Term, abs, apply, atom, constant}
use Rattle.lp_calculus.specs.Typing.{o_type, scheme_type}
use Rattle.lp_term.specs.Mapped.{Map, mapped, mapped_type, mapped_types}
use Rattle.lp_model.specs.Flat.{Goals, Atomic}
use Rattle.lp_code.specs.Symbolic.{Tables, Built, whole, plain_terms, joined, all_joined, applied_type, argument_type, bound_index, abstraction_of, application_of}
use Rattle.lp_code.specs.Rules.{built_types, applies}
use Rattle.lp_code.specs.Symbolic.{all_agree}
use Rattle.lp_code.specs.States.{Block, Frame, State, Ended, end_variables}
use Rattle.lp_code.specs.Steps.{constant_type, constant_of, with_argument, with_atom, put_type, put_term, opens, turn_from, turn}
use Rattle.lp_link.specs.Renumbering.{moving, AreMoved}
use Rattle.lp_link.specs.inner.Renumbering.{moved_loose, moved_built, moved_goals, moved_block, moved_frame, moved_state}
use Rattle.lp_link.proofs.MovedTerms.{applied_moved, apply_moved, joined_moved, outer_moved, scheme_moved}
use Rattle.lp_link.proofs.MovedStates.{set_type_moved, set_term_moved, plain_moved, with_goal_moved, ended_moved}

module _ (f g : ℕ → ℕ) (n : ℕ) (proposition : f 0 ≡ 0) where
  abbrev m : Map
  m = moving f g n

  abbrev at_rest : State → State
  at_rest s = moved_state m n s

  pub same_o : mapped_type m o_type ≡ o_type
  same_o = ap (λ k. con k no_types) proposition

  -- types
  pub tys_moved : (Ts : List Ty) → tys (map (mapped_type m) Ts) ≡ mapped_types m (tys Ts)
  tys_moved [] = refl
  tys_moved (T ∷ Ts) = ap (types (mapped_type m T)) (tys_moved Ts)

  unwrapped : (o : Option Ty) → unwrap_or (option_map (mapped_type m) o) o_type ≡ mapped_type m (unwrap_or o o_type)
  unwrapped None = sym same_o
  unwrapped (Some T) = refl

  -- a constant on types
  pub constant_moved : (t u : Tables) → AreMoved m t u → (c : ℕ) (Ts : List Ty) → constant_of u (g c) (map (mapped_type m) Ts) ≡ moved_built m (constant_of t c Ts)
  constant_moved t u a c Ts =
      let of : constant_type u (g c) (map (mapped_type m) Ts) ≡ mapped_type m (constant_type t c Ts) =
      ap (λ o. unwrap_or (scheme_type (map (mapped_type m) Ts) o) o_type) (a.constants c) ∙ ap (λ o. unwrap_or o o_type)
      (scheme_moved m (λ i. refl) proposition Ts (t.constants c)) ∙ unwrapped (scheme_type Ts (t.constants c)) in
      λ j. whole (atom (constant (g c) (map (mapped_type m) Ts))) (of j)

  -- a bound index, an abstraction, an application
  index_loose : (i : ℕ) (T : Ty) → moved_loose m (replicate i None ++ Some T ∷ []) ≡ replicate i None ++ Some (mapped_type m T) ∷ []
  index_loose zero T = refl
  index_loose (suc i) T = ap (λ l. None ∷ l) (index_loose i T)

  pub index_moved : (i : ℕ) (T : Ty) → bound_index i (mapped_type m T) ≡ moved_built m (bound_index i T)
  index_moved i T = λ j. record (bound_index i (mapped_type m T)) { loose = sym (index_loose i T) j }

  pub abstraction_moved : (b : Built) (T : Ty) → abstraction_of (moved_built m b) (mapped_type m T) ≡ moved_built m (abstraction_of b T)
  abstraction_moved b T = λ j. record { term = abs (mapped m b.term); type = arrow (mapped_type m T) (mapped_type m b.type); loose = outer_moved m b.loose j }

  types_moved : (bs : List Built) → map (λ (b : Built). b.type) (map (moved_built m) bs) ≡ map (mapped_type m) (map (λ (b : Built). b.type) bs)
  types_moved [] = refl
  types_moved (b ∷ bs) = ap (λ l. mapped_type m b.type ∷ l) (types_moved bs)

  all_moved : (ts : List (Option Ty)) (bs : List Built) → all_joined (moved_loose m ts) (map (moved_built m) bs) ≡ moved_loose m (all_joined ts bs)
  all_moved ts [] = refl
  all_moved ts (b ∷ bs) = ap (λ l. all_joined l (map (moved_built m) bs)) (joined_moved m ts b.loose) ∙ all_moved (joined ts b.loose) bs

  typed_moved : (T : Ty) (Us : List Ty) → is_some (applied_type T Us) ≡ true → unwrap_or (applied_type (mapped_type m T) (map (mapped_type m) Us))
      o_type ≡ mapped_type m (unwrap_or (applied_type T Us) o_type)
  typed_moved T Us e = by (applied_type T Us) refl e
    where
      by : (o : Option Ty) → applied_type T Us ≡ o → is_some o ≡ true → unwrap_or (applied_type (mapped_type m T) (map (mapped_type m) Us)) o_type ≡ mapped_type m (unwrap_or o o_type)
      by None h e = absurd (let z : false ≡ true = e in cc)
      by (Some R) h e = ap (λ o. unwrap_or o o_type) (applied_moved m T Us R h)

  applied_there : (x : Built) (bs : List Built) → applies x bs ≡ true → is_some (applied_type x.type (built_types bs)) ≡ true
  applied_there x [] e = absurd (let z : false ≡ true = e in cc)
  applied_there x (b ∷ bs) e = and_true_left (is_some (applied_type x.type (built_types (b ∷ bs)))) (all_agree x.loose (b ∷ bs)) e

  pub application_moved : (x : Built) (bs : List Built) → applies x bs ≡ true → application_of (moved_built m x) (map (moved_built m) bs) ≡ moved_built m (application_of x bs)
  application_moved x bs e =
      let term = ap (apply (mapped m x.term)) (plain_moved f g n proposition bs) ∙ sym (apply_moved m x.term (plain_terms bs)) in
      let type = ap (λ l. unwrap_or (applied_type (mapped_type m x.type) l) o_type) (types_moved bs) ∙ typed_moved x.type (built_types bs) (applied_there x bs e) in
      λ j. record { term = term j; type = type j; loose = all_moved x.loose bs j }

  -- parts of a state
  pub put_type_moved : (s : State) (d : ℕ) (T : Ty) → put_type (at_rest s) d (mapped_type m T) ≡ at_rest (put_type s d T)
  put_type_moved s d T = ap (λ r. record (at_rest s) { now = r }) (set_type_moved f g n proposition s.now d T)

  pub put_term_moved : (s : State) (d : ℕ) (b : Built) → put_term (at_rest s) d (moved_built m b) ≡ at_rest (put_term s d b)
  put_term_moved s d b = ap (λ r. record (at_rest s) { now = r }) (set_term_moved f g n proposition s.now d b)

  pushed : {A B : Type 0} (h : A → B) (xs : List A) (x : A) → map h xs ++ h x ∷ [] ≡ map h (xs ++ x ∷ [])
  pushed h [] x = refl
  pushed h (y ∷ ys) x = ap (λ l. h y ∷ l) (pushed h ys x)

  pub argument_taken : (s : State) (b : Built) → with_argument (at_rest s) (moved_built m b) ≡ at_rest (with_argument s b)
  argument_taken s b = ap (λ l. record (at_rest s) { head_arguments = l }) (pushed (moved_built m) s.head_arguments b)

  pub type_taken : (s : State) (T : Ty) → record (at_rest s) { head_types = map (mapped_type m) s.head_types ++ mapped_type m T ∷ [] } ≡ at_rest (record s { head_types = s.head_types ++ T ∷ [] })
  type_taken s T = ap (λ l. record (at_rest s) { head_types = l }) (pushed (mapped_type m) s.head_types T)

  pub atom_said : (s : State) (t : Term) → with_atom (at_rest s) (mapped m t) ≡ at_rest (with_atom s t)
  atom_said s t = ap (λ gs. record (at_rest s) { goals = gs }) (with_goal_moved f g n proposition s.goals (Atomic t))

  pub block_opened : (s : State) (b : Block) → opens (at_rest s) (moved_block m b) ≡ at_rest (opens s b)
  block_opened s b = refl

  turned_from : (s : State) (k : ℕ) (gs : Goals) (fs : List Frame) → turn_from (at_rest s) k (moved_goals m 0 gs) (map (moved_frame m) fs) ≡ at_rest (turn_from s k gs fs)
  turned_from s k gs [] = refl
  turned_from s k gs (x ∷ fs) = refl

  pub side_turned : (home : ℕ) (s : State) (k : ℕ) → turn (home + n) (at_rest s) k ≡ at_rest (turn home s k)
  side_turned home s k =
      let e = ended_moved f g n proposition home s.goals s.frames in
      ap (λ (x : Ended). turn_from (at_rest s) k x.goals x.frames) e ∙ turned_from s k (end_variables home s.goals s.frames).goals (end_variables home s.goals s.frames).frames

  -- the type of an argument of the head
  pub argument_left : (T : Ty) (i : ℕ) → argument_type (mapped_type m T) i ≡ option_map (mapped_type m) (argument_type T i)
  argument_left (arrow a b) zero = refl
  argument_left (arrow a b) (suc i) = argument_left b i
  argument_left (var x) i = refl
  argument_left (param x) i = refl
  argument_left (con c ts) i = refl

  pub argument_at_moved : (T : Ty) (i : ℕ) → unwrap_or (argument_type (mapped_type m T) i) o_type ≡ mapped_type m (unwrap_or (argument_type T i) o_type)
  argument_at_moved T i = ap (λ o. unwrap_or o o_type) (argument_left T i) ∙ unwrapped (argument_type T i)
