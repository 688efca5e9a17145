-- Instructions that make what is asked for and then say a goal or a part of the head.
use Rattle.std.specs.Prelude.{◌≡◌, ℕ, ◌+◌, ◌≤◌, ◌<◌, true, List, [], ◌∷◌, ◌++◌, sum_by, None, Some}
use Rattle.lp_calculus.specs.Types.{Ty}
use Rattle.lp_calculus.specs.Term.{Term}
use Rattle.lp_calculus.specs.Typing.{o_type, HasType}
use Rattle.lp_calculus.specs.Convert.{leftmost_step}
use Rattle.lp_calculus.specs.Spine.{head_of, arguments}
use Rattle.lp_standard.specs.Connectives.{connective_of}
use Rattle.lp_standard.specs.Connectives as connective
use Rattle.lp_standard.specs.Positive.{are_positive}
use Rattle.lp_standard.specs.Schemes.{IsStandard}
use Rattle.lp_model.specs.Flat.{Goals, Atomic}
use Rattle.lp_model.specs.Flatten.{is_goal_head}
use Rattle.lp_code.specs.declared.instruction.Instr.{Instr}
use Rattle.lp_code.specs.Length.{length_of}
use Rattle.lp_code.specs.Symbolic.{Built, held}
use Rattle.lp_code.specs.States.{Captured, State, Home, with_goal, depth}
use Rattle.lp_code.specs.Steps.{Later, settled}
use Rattle.lp_code.specs.Denote.{run}
use Rattle.lp_gen.specs.declared.emitter.Emitter.{Emitter}
use Rattle.lp_gen.specs.Sources.{types_by, IsKnownType}
use Rattle.lp_gen.specs.inner.Running.{TypesStand, TermsStand, MayEnd}
use Rattle.lp_gen.specs.Steps.{Around}
use Rattle.lp_gen.specs.inner.TermLaw.{Standing, KnownAtoms, AllLoose, IsSeen, with_variables, SameAround, AreSet}
use Rattle.lp_gen.specs.inner.Owned.{makes_types, AreStarted}
use Rattle.lp_gen.specs.inner.Written.{CodeOwns, AreAsked}

-- instructions lead from one state to another with these goals and this head so far, in which what was set stays
pub record Does (h : Home) (later : Later) (vars types types' terms terms' : ℕ) (s : State) (is : List Instr) (gs : Goals) (Ts : List Ty) (bs : List Built) (t : State) : Type 0 where
  pub runs : (rest : List Instr) → run h later s (is ++ rest) ≡ run h later t rest
  pub place_is : t.place ≡ s.place + sum_by length_of is
  pub goals_are : t.goals ≡ gs
  pub head_types_are : t.head_types ≡ Ts
  pub arguments_are : t.head_arguments ≡ bs
  pub in_body_stays : t.in_body ≡ s.in_body
  pub frames_stay : t.frames ≡ s.frames
  pub assumed_stay : t.assumed ≡ s.assumed
  pub types_kept : (r : ℕ) → r < types → held t.now.types r ≡ held s.now.types r
  pub terms_keep : (r : ℕ) (b : Built) → r < terms → held s.now.terms r ≡ Some b → held t.now.terms r ≡ Some b
  pub types_stand : TypesStand h vars types' t
  pub terms_stand : TermsStand h terms' t

-- the same for goals, behind which more code stands: right sides that end there are left, and records may be assumed
pub record Says (h : Home) (later : Later) (vars types types' terms terms' : ℕ) (s : State) (is : List Instr) (gs : Goals) (more : List (ℕ × Captured)) (t : State) : Type 0 where
  pub runs : (i : Instr) (rest : List Instr) → run h later s (is ++ i ∷ rest) ≡ run h later (settled h.number (depth t.frames) t) (i ∷ rest)
  pub place_is : t.place ≡ s.place + sum_by length_of is
  pub goals_are : t.goals ≡ gs
  pub head_types_stay : t.head_types ≡ s.head_types
  pub arguments_stay : t.head_arguments ≡ s.head_arguments
  pub in_body_stays : t.in_body ≡ s.in_body
  pub frames_stay : t.frames ≡ s.frames
  pub assumed_are : t.assumed ≡ s.assumed ++ more
  pub types_kept : (r : ℕ) → r < types → held t.now.types r ≡ held s.now.types r
  pub terms_keep : (r : ℕ) (b : Built) → r < terms → held s.now.terms r ≡ Some b → held t.now.terms r ≡ Some b
  pub types_stand : TypesStand h vars types' t
  pub terms_stand : TermsStand h terms' t

-- an atom of which there is code as a goal
pub record IsGoalAtom (h : Home) (vars : ℕ) (Γ : List Ty) (a : Around) (t : Term) : Type 0 where
  pub typed : HasType (types_by h.tables) Γ t o_type
  pub normal : leftmost_step t ≡ None
  pub known : KnownAtoms h.tables.kinds vars t
  pub positive : are_positive (arguments t) ≡ true
  pub atomic : connective_of t ≡ connective.Atomic
  pub headed : is_goal_head (head_of t) ≡ true
  pub indices : (k : ℕ) (U : Ty) → Rattle.std.specs.Prelude.slice_get Γ k ≡ Some U → IsKnownType h.tables.kinds vars U
  pub seen : AllLoose (IsSeen a Γ) 0 t

-- more code, which says the atom as a goal, behind the head
pub record AtomWritten (K : ℕ → List Ty → Ty) (old new : Emitter) (a a' : Around) (t : Term) : Type 0 where
  pub more : List Instr
  pub code_is : new.code.items ≡ old.code.items ++ more
  pub types_grow : old.types ≤ new.types
  pub terms_grow : old.registers ≤ new.registers
  -- where all variables are set, none is made
  pub calm : AreSet a → a' ≡ a
  pub some : 0 < sum_by length_of more
  pub owns : AreStarted a → CodeOwns a a' more
  pub no_types : makes_types more ≡ []
  pub denotes : (h : Home) (later : Later) (vars : ℕ) (s : State) (σ : ℕ → Term) (Γ : List Ty) → IsStandard h.tables.constants → AreAsked h K → TypesStand h vars old.types s →
      TermsStand h old.registers s → new.types ≤ h.self.types → new.registers ≤ h.self.registers → s.in_body ≡ true → Standing h vars old.registers s.in_body σ a s.now.terms →
      IsGoalAtom h vars Γ a t → MayEnd s (s.place + sum_by length_of more) →
      (u : State) × Says h later vars old.types new.types old.registers new.registers s more (with_goal s.goals (Atomic (with_variables σ a 0 t))) [] u
      × Standing h vars new.registers s.in_body σ a' u.now.terms × SameAround a a'
