-- A typed try is a clause against a goal with the same head; so unification in it comes to an outcome.
use Rattle.std.proofs.Common.{◌≡◌, ℕ, ◌+◌, List, [], ◌∷◌, ◌++◌, map, length, ◌∙◌, refl, sym, ap, subst as transport, arith, inl, inr, true, false, nat_eq, if◌then◌else◌, Option, Some, length-append}
use Rattle.std.specs.Prelude.{nat_lt}
use Rattle.std.proofs.lemmas.Bool.Decides.{nat_tests}
use mathlib.Core.Path.{fun_ext}
use Rattle.lp_calculus.specs.Types.{Ty, var, instance, arrow}
use Rattle.lp_calculus.specs.Term.{Term, Atom, index, atom, abs, app, constant, integer, text, eigen, logic, param}
use Rattle.lp_calculus.specs.Fill.{Within}
use Rattle.lp_calculus.specs.Instance.{instance_term}
use Rattle.lp_calculus.specs.Typing.{Typed, Context, scheme_type, o_type}
use Rattle.lp_calculus.specs.Closed.{AllAtoms}
use Rattle.lp_standard.specs.Positive.{IsPositive, IsPositiveAtom}
use Rattle.lp_lemmas.specs.Each.{AnyOf, EachOf}
use Rattle.lp_standard.specs.Connectives.{two, pi_of}
use Rattle.lp_standard.specs.Schemes.{IsStandard}
use Rattle.lp_model.specs.Same.{same_name}
use Rattle.lp_calculus.specs.Spine.{head_of, arguments}
use Rattle.lp_model.specs.Rule.{type_pairs}
use Rattle.lp_model.specs.Unify.{Unified, solve, unit_limit}
use Rattle.lp_model.specs.Search.{renewed, slots_of, slotted, pairs_of}
use Rattle.lp_model.specs.Flat.{Goals, no_goals, goals, Clause, clause, all_of, type_goals, formula_of_goals, formula_of_clause}
use Rattle.lp_model.specs.Branch.{Entry, Branch, Try}
use Rattle.lp_model.specs.Proofs.{Declared, IsAtomHead}
use Rattle.lp_model.specs.Answers.{Query, Variable, over, IsScopedAtom}
use Rattle.lp_proof_laws.proofs.Uniform.Roots.{connective, pi_type}
use Rattle.lp_proof_laws.proofs.Flattened.TypedForms.{head_typed}
use Rattle.lp_proof_laws.proofs.Flattened.TypedFlat.{goals_formula}
use Rattle.lp_unify_laws.specs.Solutions.{instance_typing, IsMore}
use Rattle.lp_unify_laws.proofs.Sames.{both, same_number}
use Rattle.lp_unify_laws.proofs.Scopes.{none_more}
use Rattle.lp_unify_laws.proofs.TypedInstances.{side_instance, scoped_instance, length_map, pairs_have_instances}
use Rattle.lp_unify_laws.proofs.PairLists.{HasTyping, each_typed, typings_of, each_map, pair_more}
use Rattle.lp_unify_laws.proofs.Termination.Runs.{solve_comes}
use Rattle.lp_unify_laws.proofs.Termination.Pruning.{prunes_typed}
use Rattle.lp_search_laws.specs.Holds.{IsTyped}
use Rattle.lp_search_laws.specs.Branches.{AreTypedEntries, ArePlainEntries, IsPlainAtom, IsProgramTyped, IsAssumable, IsTypedTry, BranchTyping, with_atom}
use Rattle.lp_search_laws.specs.Tries.{new_variables, tried_values, HeadsMatch, both_constants, both_eigens, IsMatch}
use Rattle.lp_search_laws.specs.Enough.{HasEnough}
use Rattle.lp_search_laws.proofs.ClosedClauses.{under_goals, under_clause, all_within, all_instance}
use Rattle.lp_search_laws.proofs.RunsKeep.{instance_itself}
use Rattle.lp_search_laws.proofs.TypedParts.{typed_wider}
use Rattle.lp_search_laws.proofs.MatchTyped.{match_typed}

-- heads with the same name
heads_match : (ρ : ℕ → Ty) (x y : Term) → IsAtomHead y → same_name x y ≡ true → HeadsMatch (instance_term ρ x) y
heads_match ρ (atom (constant c ts)) (atom (constant k us)) i e =
    let p = both (nat_eq c k) (nat_eq (length ts) (length us)) e in
    both_constants k (map (instance ρ) ts) us (length_map (instance ρ) ts ∙ same_number (length ts) (length us) p.1) (ap (λ n. atom (constant n (map (instance ρ) ts))) (same_number c k p.0)) refl
heads_match ρ (atom (eigen n)) (atom (eigen j)) i e = both_eigens j (ap (λ x. atom (eigen x)) (same_number n j e)) refl
heads_match ρ (atom (integer z)) (atom (constant k us)) i e = absurd (cc)
heads_match ρ (atom (text s)) (atom (constant k us)) i e = absurd (cc)
heads_match ρ (atom (eigen n)) (atom (constant k us)) i e = absurd (cc)
heads_match ρ (atom (logic x l)) (atom (constant k us)) i e = absurd (cc)
heads_match ρ (atom (param n T)) (atom (constant k us)) i e = absurd (cc)
heads_match ρ (index n) (atom (constant k us)) i e = absurd (cc)
heads_match ρ (abs x) (atom (constant k us)) i e = absurd (cc)
heads_match ρ (app x y) (atom (constant k us)) i e = absurd (cc)
heads_match ρ (atom (constant c ts)) (atom (eigen j)) i e = absurd (cc)
heads_match ρ (atom (integer z)) (atom (eigen j)) i e = absurd (cc)
heads_match ρ (atom (text s)) (atom (eigen j)) i e = absurd (cc)
heads_match ρ (atom (logic x l)) (atom (eigen j)) i e = absurd (cc)
heads_match ρ (atom (param n T)) (atom (eigen j)) i e = absurd (cc)
heads_match ρ (index n) (atom (eigen j)) i e = absurd (cc)
heads_match ρ (abs x) (atom (eigen j)) i e = absurd (cc)
heads_match ρ (app x y) (atom (eigen j)) i e = absurd (cc)
heads_match ρ x (atom (integer z)) i e = absurd i
heads_match ρ x (atom (text s)) i e = absurd i
heads_match ρ x (atom (logic z l)) i e = absurd i
heads_match ρ x (atom (param n T)) i e = absurd i
heads_match ρ x (index n) i e = absurd i
heads_match ρ x (abs y) i e = absurd i
heads_match ρ x (app y z) i e = absurd i

-- positive goals
positive_atom : (k : ℕ) (a : Atom) → IsPlainAtom k a → IsPositiveAtom a
positive_atom k (constant c ts) h = h.0
positive_atom k (integer z) h = tt
positive_atom k (text s) h = tt
positive_atom k (eigen n) h = tt
positive_atom k (logic x l) h = tt
positive_atom k (param n T) h = tt

positive_term : (k : ℕ) (t : Term) → AllAtoms (IsPlainAtom k) t → IsPositive t
positive_term k (index i) h = tt
positive_term k (atom a) h = positive_atom k a h
positive_term k (abs b) h = positive_term k b h
positive_term k (app t u) h = (positive_term k t h.0, positive_term k u h.1)

-- the parts of a typed clause
two_types : (o : Option Ty) (X Y : Ty) → o ≡ Some (arrow o_type (arrow o_type o_type)) → o ≡ Some (arrow Y (arrow X o_type)) → (Y ≡ o_type) × (X ≡ o_type)
two_types o X Y e f =
    let g : Some (arrow o_type (arrow o_type o_type)) ≡ Some (arrow Y (arrow X o_type)) = sym e ∙ f in
    let h : Y ≡ o_type = cc in
    let k : X ≡ o_type = cc in
    (h, k)

one_type_of : (o : Option Ty) (T X : Ty) → o ≡ Some (arrow (arrow T o_type) o_type) → o ≡ Some (arrow X o_type) → X ≡ arrow T o_type
one_type_of o T X e f = let g : Some (arrow (arrow T o_type) o_type) ≡ Some (arrow X o_type) = sym e ∙ f in cc

module _ (d : Declared) (std : IsStandard d) (E : List Ty) (V : List Variable) where
  abbrev K : Context
  K = over d E V

  under_binder : (C : List Ty) (T : Ty) (x : Term) → Typed (over d E V) C (pi_of T (abs x)) o_type → Typed (over d E V) (T ∷ C) x o_type
  under_binder C T x w =
      let q : w.0 ≡ arrow T o_type = one_type_of (scheme_type (T ∷ []) (d 4)) T w.0 (pi_type d std T) w.1 in
      let v = w.2 in
      let e : v.0 ≡ T = (let r = sym v.2 ∙ q in cc) in
      let f : v.1 ≡ o_type = (let r = sym v.2 ∙ q in cc) in
      transport (λ A. Typed (over d E V) (A ∷ C) x o_type) e (transport (Typed (over d E V) (v.0 ∷ C) x) f v.3)

  all_open : (vs : List Ty) (x : Term) → Typed (over d E V) [] (all_of vs x) o_type → Typed (over d E V) vs x o_type
  all_open [] x w = w
  all_open (T ∷ vs) x w = under_binder vs T x (all_open vs (pi_of T (abs x)) w)

  record Parts (vs : List Ty) (G h : Term) : Type 0 where
    head : Typed (over d E V) vs h o_type
    head_scoped : Within (IsScopedAtom V E) (length vs) h
    body : Typed (over d E V) vs G o_type
    body_scoped : Within (IsScopedAtom V E) (length vs) G

  parts : (ρ : ℕ → Ty) (g : Goals) (vs : List Ty) (h : Term) → Typed (over d E V) vs (under_goals g (formula_of_goals (type_goals ρ g)) h) o_type → Within (IsScopedAtom V E) (length vs) (under_goals g (formula_of_goals (type_goals ρ g)) h) → Parts vs (formula_of_goals (type_goals ρ g)) h
  parts ρ no_goals vs h w s = record { head = w; head_scoped = s; body = ap (scheme_type []) (std.at 6 (omega arith)); body_scoped = tt }
  parts ρ (goals g gs) vs h w s =
      let G = formula_of_goals (type_goals ρ (goals g gs)) in
      let e = two_types (scheme_type [] (d 2)) w.0 w.1.0 (connective d std 2 (omega arith)) w.1.1 in
      record { head = transport (Typed (over d E V) vs h) e.1 w.2; head_scoped = s.1; body = transport (Typed (over d E V) vs G) e.0 w.1.2; body_scoped = s.0.1 }

  under_instance : (ρ : ℕ → Ty) (g : Goals) (h : Term) → instance_term ρ (under_goals g (formula_of_goals g) h) ≡ under_goals g (formula_of_goals (type_goals ρ g)) (instance_term ρ h)
  under_instance ρ no_goals h = refl
  under_instance ρ (goals g gs) h = ap (λ z. two 2 [] z (instance_term ρ h)) (sym (goals_formula ρ (goals g gs)))

  clause_parts : (ρ : ℕ → Ty) (k : ℕ) (vs : List Ty) (h : Term) (g : Goals) → IsTyped d E V (instance_term ρ (formula_of_clause (clause k vs h g))) o_type → Parts (map (instance ρ) vs) (formula_of_goals (type_goals ρ g)) (instance_term ρ h)
  clause_parts ρ k vs h g w =
      let us = map (instance ρ) vs in
      let x = under_goals g (formula_of_goals (type_goals ρ g)) (instance_term ρ h) in
      let e : instance_term ρ (formula_of_clause (clause k vs h g)) ≡ all_of us x = ap (instance_term ρ) (under_clause k vs h g) ∙ all_instance ρ vs (under_goals g (formula_of_goals g) h) ∙ ap (all_of us) (under_instance ρ g h) in
      parts ρ g us (instance_term ρ h) (all_open us x (transport (λ z. Typed (over d E V) [] z o_type) e w.typed)) (all_within (IsScopedAtom V E) us x (transport (Within (IsScopedAtom V E) 0) e w.scoped))

-- where the clause stands
pub any_each : {X : Type 0} (Q : X → Type 0) (x : X) (xs : List X) → AnyOf (λ y. y ≡ x) xs → EachOf Q xs → Q x
any_each Q x [] i h = absurd i
any_each Q x (y ∷ xs) i h = elim i [ inl e ↦ transport Q e h.0 | inr j ↦ any_each Q x xs j h.1 ]

pub none_renewed : (k n : ℕ) → k ≡ 0 → (i : ℕ) → renewed k n i ≡ var i
none_renewed k n e i = let q : nat_lt i k ≡ false = grind (arith, nat_tests, e) in ap (λ b. if b then var (n + i) else var i) q

module _ (n : ℕ) (d : Declared) (std : IsStandard d) (P : List Clause) (program : EachOf (IsProgramTyped d) P) (q : Query) (y : BranchTyping) (k : ℕ)
    (vs : List Ty) (h : Term) (g : Goals) (t : Term) (e : Entry) (b : Branch) (w : IsTypedTry n d P q y (clause k vs h g) t e b) (E : List Ty)
    (Es : List (List Ty)) (is : y.eigens ≡ E ∷ Es) where
  abbrev V : List Variable
  V = y.answer.variables

  abbrev ρ : ℕ → Ty
  ρ = renewed k b.next_type

  abbrev c : Clause
  c = clause k vs h g

  pub entries : AreTypedEntries d V (E ∷ Es) (with_atom e t ∷ b.goals)
  entries = transport (λ Fs. AreTypedEntries d V Fs (with_atom e t ∷ b.goals)) is w.branch.entries

  pub plain : ArePlainEntries b.next_type (E ∷ Es) (with_atom e t ∷ b.goals)
  plain = transport (λ Fs. ArePlainEntries b.next_type Fs (with_atom e t ∷ b.goals)) is w.branch.goals

  clause_typed : IsTyped d E V (instance_term ρ (formula_of_clause c)) o_type
  clause_typed = elim w.stands [
    | inl i ↦
        let p = (any_each (IsProgramTyped d) c P i program).typed in
        typed_wider d [] E [] V (record { rest = E; is = refl }) (none_more V) (instance_term ρ (formula_of_clause c)) o_type (record {
          typed = side_instance ρ d [] [] (formula_of_clause c) o_type p.typed;
          scoped = scoped_instance ρ [] [] 0 (formula_of_clause c) p.scoped;
        })
    | inr i ↦
        let p = any_each (λ x. IsTyped d E V (formula_of_clause x) o_type) c e.assumed i entries.0.assumed in
        let o = any_each (IsAssumable b.next_type) c e.assumed i plain.0.assumed in
        transport (λ z. IsTyped d E V z o_type) (sym (ap (λ f. instance_term f (formula_of_clause c)) (fun_ext (none_renewed k b.next_type o.0)) ∙ instance_itself (formula_of_clause c))) p
  ]

  pub try_matches : IsMatch d E y.answer.variables (map (instance (renewed k b.next_type)) vs) (instance_term (renewed k b.next_type) h) (formula_of_goals (type_goals (renewed k b.next_type) g)) t
  try_matches =
      let p = clause_parts d std E V ρ k vs h g clause_typed in
      record {
        head = p.head;
        head_scoped = p.head_scoped;
        body = p.body;
        body_scoped = p.body_scoped;
        goal = entries.0.goal;
        positive = positive_term b.next_type t plain.0.goal;
        heads = transport (λ z. HeadsMatch z (head_of t)) (sym (head_typed ρ h)) (heads_match ρ (head_of h) (head_of t) w.atomic w.named);
      }

  -- the variables of the clause behind those of the branch
  pub long : length (V ++ new_variables E (map (instance ρ) vs)) ≡ b.next + length vs
  long =
      let x = length-append V (new_variables E (map (instance ρ) vs)) in
      let z = length_map {B = Variable} (λ T. record { type = T; scope = E }) (map (instance ρ) vs) in
      let u = length_map (instance ρ) vs in
      let v = w.branch.answer.variables in
      omega (arith, x, z, u, v)

  pub try_comes : (m : ℕ) × (u : Unified) × (solve m unit_limit (type_pairs (head_of t) (head_of (instance_term ρ h)))
      (pairs_of (slotted (slots_of [] (arguments (instance_term ρ h)) (arguments t)) b.next e.level) e.level [] (arguments (instance_term ρ h))
      (arguments t)) b.pairs (b.next + length vs) ≡ Some u)
  try_comes =
      let us = map (instance ρ) vs in
      let h' = instance_term ρ h in
      let W = V ++ new_variables E us in
      let m : IsMore V W = record { more = new_variables E us; is = refl } in
      let old = typings_of d W b.pairs (each_map (HasTyping d V) (HasTyping d W) (pair_more d V W m) b.pairs (each_typed d V y.answer.pairs b.pairs w.branch.answer.pairs)) in
      let eqs = type_pairs (head_of t) (head_of h') in
      let s = solve_comes d (prunes_typed d) W eqs (pairs_of (tried_values V e.level h' t) e.level [] (arguments h') (arguments t)) b.pairs
      (λ θ u. (match_typed d E V e.level entries.0.level us h' (formula_of_goals (type_goals ρ g)) t try_matches θ u, (map (instance_typing θ) old.0, pairs_have_instances θ d W old.0 b.pairs old.1))) unit_limit in (
        s.0,
        s.1,
        transport (λ x. solve s.0 unit_limit eqs (pairs_of (slotted (slots_of [] (arguments h') (arguments t)) b.next e.level) e.level [] (arguments h') (arguments t)) b.pairs x ≡ Some s.1) long
            (transport (λ x. solve s.0 unit_limit eqs (pairs_of (slotted (slots_of [] (arguments h') (arguments t)) x e.level) e.level [] (arguments h') (arguments t)) b.pairs (length W) ≡ Some s.1) w.branch.answer.variables s.2),
      )

pub tries_have_enough : (n : ℕ) (d : Declared) → IsStandard d → (P : List Clause) → EachOf (IsProgramTyped d) P → (q : Query) (y : BranchTyping) (c : Clause) (t : Term) (e : Entry) (b : Branch) (mark : ℕ) → IsTypedTry n d P q y c t e b → (m : ℕ) × HasEnough m (Try c t e b mark)
tries_have_enough n d std P program q y (clause k vs h g) t e b mark w = go y.eigens refl w.branch.entries
  where
    go : (Fs : List (List Ty)) → y.eigens ≡ Fs → AreTypedEntries d y.answer.variables Fs (with_atom e t ∷ b.goals) → (m : ℕ) × HasEnough m (Try (clause k vs h g) t e b mark)
    go [] i z = absurd z
    go (E ∷ Es) i z = let r = try_comes n d std P program q y k vs h g t e b w E Es i in (r.0, (r.1, r.2))
