-- What the law of bodies (proofs/BodySaid) asks of goals and of what stands around them.
use Rattle.std.specs.Prelude.{◌≡◌, ℕ, zero, suc, ◌<◌, ◌≤◌, Bool, true, false, All, List, [], ◌∷◌, ◌++◌, map, Some, None, slice_get, slice_index_or}
use Rattle.lp_calculus.specs.Types.{Ty}
use Rattle.lp_calculus.specs.Term.{Term}
use Rattle.lp_calculus.specs.Typing.{o_type, HasType}
use Rattle.lp_calculus.specs.Convert.{leftmost_step}
use Rattle.lp_calculus.specs.Spine.{head_of, arguments}
use Rattle.lp_standard.specs.Connectives.{connective_of}
use Rattle.lp_standard.specs.Connectives as connective
use Rattle.lp_standard.specs.Positive.{are_positive}
use Rattle.lp_standard.specs.Schemes.{IsStandard}
use Rattle.lp_model.specs.Flat.{Goal, Goals, Clauses, Atomic, Cut, Either, Exists, Forall, Assume, Not, no_goals, goals, clause, no_clauses, clauses}
use Rattle.lp_model.specs.Flatten.{is_goal_head, is_clause_head}
use Rattle.lp_code.specs.declared.instruction.Instr.{Instr}
use Rattle.lp_code.specs.Symbolic.{Built, variable, whole}
use Rattle.lp_code.specs.States.{Captured, State, Home, member, bind_term}
use Rattle.lp_code.specs.Rules.{named_before, is_assumed_record}
use Rattle.lp_code.specs.Denote.{is_all_variable, is_set_by_all, sets_by_all}
use Rattle.lp_gen.specs.Sources.{types_by, IsKnownType}
use Rattle.lp_gen.specs.inner.Running.{TypesStand, TermsStand}
use Rattle.lp_gen.specs.Steps.{Seen, Around, at_level, level_in}
use Rattle.lp_gen.specs.inner.TermLaw.{Standing, KnownAtoms, AllLoose, IsSeen, AreSet}
use Rattle.lp_gen.specs.inner.Written.{AreAsked}
use Rattle.lp_gen.specs.inner.Bodies.{IsShort}
use Rattle.lp_gen.specs.inner.OpenGoals.{EndsGoals}

-- an atom as a goal, where indices that pass Q are those of variables
pub record AtomFits (h : Home) (vars : ℕ) (Γ : List Ty) (Q : ℕ → Type 0) (t : Term) : Type 0 where
  pub typed : HasType (types_by h.tables) Γ t o_type
  pub normal : leftmost_step t ≡ None
  pub known : KnownAtoms h.tables.kinds vars t
  pub positive : are_positive (arguments t) ≡ true
  pub atomic : connective_of t ≡ connective.Atomic
  pub headed : is_goal_head (head_of t) ≡ true
  pub loose : AllLoose Q 0 t

abbrev pub one_more : (ℕ → Type 0) → ℕ → Type 0
one_more Q zero = Unit {0}
one_more Q (suc i) = Q i

abbrev pub more_of : List Ty → (ℕ → Type 0) → ℕ → Type 0
more_of [] Q = Q
more_of (T ∷ Ts) Q = one_more (more_of Ts Q)

-- an atom as the head of an assumed clause, where B says of each index whether it is a variable of a `pi`
pub record HeadFits (h : Home) (vars : ℕ) (Γ : List Ty) (B : List Bool) (Q : ℕ → Type 0) (t : Term) : Type 0 where
  pub typed : HasType (types_by h.tables) Γ t o_type
  pub normal : leftmost_step t ≡ None
  pub known : KnownAtoms h.tables.kinds vars t
  pub positive : are_positive (arguments t) ≡ true
  pub headed : is_clause_head h.tables.constants B (head_of t) ≡ true
  pub loose : AllLoose Q 0 t

abbrev mutual
  pub GoalFits : Home → (vars : ℕ) → List Ty → List Bool → (ℕ → Type 0) → Goal → Type 0
  GoalFits h v Γ B Q (Atomic t) = AtomFits h v Γ Q t
  GoalFits h v Γ B Q Cut = Unit {0}
  GoalFits h v Γ B Q (Either gs hs) = GoalsFit h v Γ B Q gs × GoalsFit h v Γ B Q hs
  GoalFits h v Γ B Q (Exists T gs) = IsKnownType h.tables.kinds v T × GoalsFit h v (T ∷ Γ) (false ∷ B) (one_more Q) gs
  GoalFits h v Γ B Q (Forall T gs) = IsKnownType h.tables.kinds v T × GoalsFit h v (T ∷ Γ) (true ∷ B) (one_more Q) gs
  GoalFits h v Γ B Q (Assume w cs gs) = ClausesFit h v Γ B Q cs × GoalsFit h v Γ B Q gs
  GoalFits h v Γ B Q (Not w gs) = GoalsFit h v Γ B Q gs

  pub GoalsFit : Home → (vars : ℕ) → List Ty → List Bool → (ℕ → Type 0) → Goals → Type 0
  GoalsFit h v Γ B Q no_goals = Unit {0}
  GoalsFit h v Γ B Q (goals g gs) = GoalFits h v Γ B Q g × GoalsFit h v Γ B Q gs

  -- an assumed clause has no type variables of its own
  pub ClausesFit : Home → (vars : ℕ) → List Ty → List Bool → (ℕ → Type 0) → Clauses → Type 0
  ClausesFit h v Γ B Q no_clauses = Unit {0}
  ClausesFit h v Γ B Q (clauses (clause n vs t gs) cs) =
      (n ≡ 0) × All (IsKnownType h.tables.kinds v) vs × HeadFits h v (vs ++ Γ) (map (λ T. false) vs ++ B) (more_of vs Q) t × GoalsFit h v (vs ++ Γ) (map (λ T. false) vs ++ B) (more_of vs Q) gs
      × EndsGoals gs × ClausesFit h v Γ B Q cs

-- the records that were assumed by those before, and by this one so far, are those below a number
abbrev pub AreBelow : ℕ → Home → List (ℕ × Captured) → Type 0
AreBelow q h l = (m : ℕ) → member m (named_before h.number h.records ++ map (λ (a : ℕ × Captured). a.0) l) ≡ true → m < q

-- variables of a `pi` are those that an ALL of some record makes
abbrev pub AreAlls : Home → (ℕ → Term) → Around → List Bool → Type 0
AreAlls h σ a B = (i l : ℕ) → slice_index_or B i false ≡ true → level_in a i ≡ Some l → is_all_variable h.records (σ l) ≡ true

-- variables are those of this record and of earlier ones
abbrev pub AreOuter : Home → (ℕ → Term) → Around → Type 0
AreOuter h σ a = (i l : ℕ) → level_in a i ≡ Some l → (r : ℕ) × (k : ℕ) × (σ l ≡ variable r k) × (k ≤ h.number)

-- what stands around goals of a body
pub record IsAround (h : Home) (K : ℕ → List Ty → Ty) (vars types terms next : ℕ) (σ : ℕ → Term) (Γ : List Ty) (B : List Bool) (a : Around) (Q : ℕ → Type 0) (s : State) : Type 0 where
  pub std : IsStandard h.tables.constants
  pub asked : AreAsked h K
  pub types_stand : TypesStand h vars types s
  pub terms_stand : TermsStand h terms s
  pub body : s.in_body ≡ true
  pub standing : Standing h vars terms s.in_body σ a s.now.terms
  pub set : AreSet a
  pub short : IsShort a
  pub known : (i : ℕ) (U : Ty) → slice_get Γ i ≡ Some U → IsKnownType h.tables.kinds vars U
  pub seen : (i : ℕ) → Q i → IsSeen a Γ i
  -- the variables are not those that the record makes from here on
  pub free : (i l x d : ℕ) → terms ≤ x → level_in a i ≡ Some l → bind_term (x ∷ []) h.number d (σ l) ≡ σ l
  pub below : AreBelow next h s.assumed
  pub alls : AreAlls h σ a B
  pub outer : AreOuter h σ a

-- what an assumed record starts with
abbrev pub StartWith : (σ : ℕ → Term) → Around → (levels : List ℕ) → List Built → Type 0
StartWith σ a [] [] = Unit {0}
StartWith σ a [] (b ∷ bs) = ⊥
StartWith σ a (l ∷ ls) [] = ⊥
StartWith σ a (l ∷ ls) (b ∷ bs) = (v : Seen) × (at_level a l ≡ Some v) × (b ≡ whole (σ l) v.of) × StartWith σ a ls bs

-- records that an assumption may name, with so many types and terms to start with
abbrev pub AreLater : Home → (types terms : ℕ) → List ℕ → Type 0
AreLater h v k ns = All (λ n. (h.number < n) × (is_assumed_record (slice_get h.records n) v k ≡ true)) ns

-- that code sets variables of `pi` is told by the record
abbrev pub IsInside : Home → List Instr → Type 0
IsInside h is = (r : ℕ) → is_set_by_all is r ≡ true → sets_by_all (slice_get h.records h.number) r ≡ true
