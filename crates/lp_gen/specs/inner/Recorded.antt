-- A record as it is written: what it starts with, its head, its body, and what is known before it is run.
use Rattle.std.specs.Prelude.{◌≡◌, ℕ, ◌+◌, ◌-◌, ◌^◌, ◌<◌, ◌≤◌, Bool, true, false, if◌then◌else◌, is_none, List, [], ◌∷◌, map, reverse, length, Option, Some, None, slice_get}
use Rattle.indexmap.specs.IndexMap.{IndexMap, index_map_len}
use Rattle.lp_calculus.specs.Types.{Ty}
use Rattle.lp_calculus.specs.Term.{Term, Atom, index, atom, abs, app, constant, integer, text, eigen, logic, param}
use Rattle.lp_calculus.specs.Spine.{head_of, arguments}
use Rattle.lp_code.specs.declared.record.Key.{Key}
use Rattle.lp_code.specs.declared.record.Key.TheVariants as key
use Rattle.lp_code.specs.Denote.{key_is}
use Rattle.lp_standard.specs.Schemes.{IsStandard}
use Rattle.lp_model.specs.Flat.{no_goals}
use Rattle.lp_term.specs.Nodes.{Nodes, tree}
use Rattle.lp_code.specs.declared.record.Record.{Record}
use Rattle.lp_code.specs.declared.record.RecordHead.{RecordHead}
use Rattle.lp_code.specs.States.{State, Home, bind_term}
use Rattle.lp_gen.specs.Sources.{IsKnownType}
use Rattle.lp_gen.specs.Registers.{Amount, nothing, both, Passes, own_types_take, variables_take, head_takes, behind_head, unset_take, with_unset, in_body, started}
use Rattle.lp_gen.specs.inner.Alike.{IsAlike}
use Rattle.lp_gen.specs.declared.emitter.Emitter.{Emitter}
use Rattle.lp_gen.specs.declared.environment.Environment.{Environment}
use Rattle.lp_gen.specs.declared.environment.Variable.{Variable}
use Rattle.lp_gen.specs.declared.plan.Part.{Part}
use Rattle.lp_gen.specs.declared.plan.Origin.{Origin}
use Rattle.lp_gen.specs.declared.plan.Origin.TheVariants as origin
use Rattle.lp_gen.specs.declared.tables.Tables.{Tables}
use Rattle.lp_gen.specs.inner.Running.{TypesStand, TermsStand}
use Rattle.lp_gen.specs.Steps.{Seen, Around, at_level, level_in}
use Rattle.lp_gen.specs.inner.Listing.{around_of}
use Rattle.lp_gen.specs.inner.TermLaw.{Standing, IsSeen}
use Rattle.lp_gen.specs.inner.Owned.{AreStarted}
use Rattle.lp_gen.specs.inner.Written.{AreAsked}
use Rattle.lp_gen.specs.inner.Bodies.{IsShort, new_level}
use Rattle.lp_gen.specs.inner.Heading.{AreOwn, HeadMatched}
use Rattle.lp_gen.specs.inner.Beginning.{OwnMade}
use Rattle.lp_gen.specs.inner.Entering.{behind, clause_own, query_own, types_at, Entered, TypesMade}
use Rattle.lp_gen.specs.inner.BodyLaw.{AreBelow, AreAlls, AreOuter}
use Rattle.lp_gen.specs.inner.BodyCode.{started_at, AreAllSet, BodyWritten}
use Rattle.lp_gen.specs.inner.BodyUsing.{body_code_takes}

-- before the head of a record
pub record MayRun (h : Home) (K : ℕ → List Ty → Ty) (vars types terms next : ℕ) (σ : ℕ → Term) (Γ : List Ty) (B : List Bool) (a : Around) (Q : ℕ → Type 0) (s : State) : Type 0 where
  pub std : IsStandard h.tables.constants
  pub asked : AreAsked h K
  pub types_stand : TypesStand h vars types s
  pub terms_stand : TermsStand h terms s
  pub before : s.in_body ≡ false
  pub no_types : s.head_types ≡ []
  pub no_arguments : s.head_arguments ≡ []
  pub nothing_said : s.goals ≡ no_goals
  pub closed : s.frames ≡ []
  pub standing : Standing h vars terms false σ a s.now.terms
  pub started : AreStarted a
  pub unmade : (l : ℕ) (v : Seen) → at_level a l ≡ Some v → a.base ≤ l → v.is_set ≡ false
  pub own : AreOwn h σ a
  pub short : IsShort a
  pub known : (i : ℕ) (U : Ty) → slice_get Γ i ≡ Some U → IsKnownType h.tables.kinds vars U
  pub seen : (i : ℕ) → Q i → IsSeen a Γ i
  pub free : (i l x d : ℕ) → terms ≤ x → level_in a i ≡ Some l → bind_term (x ∷ []) h.number d (σ l) ≡ σ l
  pub below : AreBelow next h s.assumed
  pub alls : AreAlls h σ a B
  pub outer : AreOuter h σ a

-- the code of a head, if there is one
abbrev pub HeadWritten : (K : ℕ → List Ty → Ty) → (e e' : Emitter) → (a a' : Around) → Option RecordHead → Option Term → Type 0
HeadWritten K e e' a a' None None = (e'.code.items ≡ e.code.items) × (e'.types ≡ e.types) × (e'.registers ≡ e.registers) × (a' ≡ a)
HeadWritten K e e' a a' None (Some t) = ⊥
HeadWritten K e e' a a' (Some p) None = ⊥
HeadWritten K e e' a a' (Some p) (Some t) = HeadMatched K e e' a a' p t

-- what a record is the code of: its variables in registers from one on, how many they are, and its head
abbrev pub own_of : Nodes → Origin → (first : ℕ) → List Seen
own_of b (origin.Clause c) r = clause_own r (types_at b c.now.vars.items)
own_of b (origin.Query q gs) r = query_own r (types_at b (map (λ v. v.1) q.now.vars.items))

-- their types by index
abbrev pub index_types : Nodes → Origin → List Ty
index_types b (origin.Clause c) = types_at b c.now.vars.items
index_types b (origin.Query q gs) = reverse (types_at b (map (λ v. v.1) q.now.vars.items))

abbrev pub own_count : Origin → ℕ
own_count (origin.Clause c) = length c.now.vars.items
own_count (origin.Query q gs) = length q.now.vars.items

abbrev pub head_in : Nodes → Origin → Option Term
head_in b (origin.Clause c) = Some (tree b c.now.head.0)
head_in b (origin.Query q gs) = None

-- what stands around behind a head, if there is one
abbrev pub front_behind : (K : ℕ → List Ty → Ty) → Around → Option Term → Around
front_behind K a None = a
front_behind K a (Some t) = behind_head K a t

-- the code up to NECK
pub record FrontWritten (b : Nodes) (K : ℕ → List Ty → Ty) (e e' : Emitter) (env env' : Environment) (o : Origin) (p : Option RecordHead) : Type 0 where
  pub begun : Emitter
  pub matched : Emitter
  pub begun_env : Environment
  pub matched_env : Environment
  pub entered : Entered e begun env begun_env (own_count o) (λ n. own_of n o e.registers)
  pub head : HeadWritten K begun matched (around_of b begun_env) (around_of b matched_env) p (head_in b o)
  pub behind : around_of b matched_env ≡ front_behind K (around_of b begun_env) (head_in b o)
  pub made : OwnMade matched e' (around_of b matched_env) (around_of b env')

-- the type variables that a clause of a program makes
abbrev pub TypesWritten : (program : Bool) → (e e' : Emitter) → ℕ → Type 0
TypesWritten true e e' n = TypesMade e e' n
TypesWritten false e e' n = (e'.code.items ≡ e.code.items) × (e'.types ≡ e.types) × (e'.registers ≡ e.registers)

-- the key of a term is that of its head

abbrev pub atom_key : Atom → Option Atom
atom_key (constant c ts) = Some (constant c [])
atom_key (integer z) = Some (integer z)
atom_key (text s) = Some (text s)
atom_key (eigen k) = None
atom_key (logic x l) = None
atom_key (param k T) = None

abbrev pub head_key : Term → Option Atom
head_key (index i) = None
head_key (atom a) = atom_key a
head_key (abs b) = None
head_key (app t u) = None

abbrev pub key_in : Term → Option Atom
key_in t = head_key (head_of t)

abbrev pub first_key_of : List Term → Option Atom
first_key_of [] = None
first_key_of (t ∷ ts) = key_in t

-- the key of a record: that of the first argument of a clause of a program
abbrev pub HasKey : Nodes → Origin → (program : Bool) → Key → Type 0
HasKey b (origin.Clause c) true k = key_is k (first_key_of (arguments (tree b c.now.head.0))) ≡ true
HasKey b (origin.Clause c) false k = k ≡ key.None
HasKey b (origin.Query q gs) p k = k ≡ key.None

-- what a record takes

-- the type variables that a record of the program makes
abbrev pub types_taken : (program : Bool) → (type_vars : ℕ) → Amount
types_taken p v = if p then own_types_take v else nothing

-- all up to NECK: the variables, the head, and what is made behind it

abbrev pub head_part : (K : ℕ → List Ty → Ty) → Around → Option Term → Amount
head_part K a None = nothing
head_part K a (Some t) = head_takes K a t

abbrev pub front_takes : (K : ℕ → List Ty → Ty) → Around → (count : ℕ) → Option Term → Amount
front_takes K a n t = both (variables_take n) (both (head_part K a t) (unset_take (front_behind K a t).own))

-- the variables around the head as the code has them
abbrev pub front_around : Nodes → Environment → (first : ℕ) → Origin → Around
front_around b env r o = behind (around_of b env) (own_of b o r)

-- what a record starts with has registers that are set, and levels count its variables
abbrev pub StartsWell : Nodes → Environment → Origin → Type 0
StartsWell b env o = AreStarted (around_of b env) × (new_level (around_of b env) + own_count o < 2 ^ 64 - 1)

-- the variables that it starts with
abbrev pub start_around : {S : Type 0} → Nodes → IndexMap ℕ Variable S → (base : ℕ) → Around
start_around b m n = record { own = []; base = n; captured = started_at b m }

-- what stands around the head, and around the body, but for registers
abbrev pub own_around : Nodes → (start : Around) → Origin → Around
own_around b s o = with_unset s (index_types b o)

abbrev pub body_around : (K : ℕ → List Ty → Ty) → Nodes → (start : Around) → Origin → Around
body_around K b s o = in_body (front_behind K (own_around b s o) (head_in b o))

abbrev pub record_takes : Tables → (K : ℕ → List Ty → Ty) → Part → (start : Around) → (around : Around) → Amount
record_takes t K p s a =
    both (types_taken (is_none p.within) t.type_vars) (both (front_takes K (own_around t.bank.now s p.origin) (own_count p.origin) (head_in t.bank.now p.origin)) (body_code_takes
    t.bank.now t.type_vars t.assumptions.now K a p.steps.items))

-- so it is of what the record takes with what it starts with, whatever the registers of its variables are
abbrev pub RecordTakes : (P : Amount → Type 0) → Tables → (K : ℕ → List Ty → Ty) → Part → (start : Around) → (count : ℕ) → Type 0
RecordTakes P t K p s k = (a : Around) × IsAlike a (body_around K t.bank.now s p.origin) × P (both (started (if is_none p.within then 0 else t.type_vars) k) (record_takes t K p s a))

-- a record as a whole
pub record RecordWritten {S : Type 0} (t : Tables) (K : ℕ → List Ty → Ty) (part : Part) (captured : IndexMap ℕ Variable S) (xs xs' : List (IndexMap ℕ Variable S)) (r : Record) : Type 0 where
  pub begun : Emitter
  pub typed : Emitter
  pub fronted : Emitter
  pub ended : Emitter
  pub begun_env : Environment
  pub fronted_env : Environment
  pub ended_env : Environment
  pub empty : begun.code.items ≡ []
  pub first_types : begun.types ≡ (if is_none part.within then 0 else t.type_vars)
  pub first_registers : begun.registers ≡ index_map_len captured
  pub no_own : begun_env.own.items ≡ []
  pub base : begun_env.base ≡ part.base
  pub starts_are : (b : Nodes) (l : ℕ) → (around_of b begun_env).captured l ≡ started_at b captured l
  pub made : TypesWritten (is_none part.within) begun typed t.type_vars
  pub front : FrontWritten t.bank.now K typed fronted begun_env fronted_env part.origin r.head
  pub body : BodyWritten t K fronted ended fronted_env ended_env xs xs' part.steps.items
  pub key_is : HasKey t.bank.now part.origin (is_none part.within) r.key
  pub code_is : r.code.items ≡ ended.code.items
  pub types_are : r.types ≡ ended.types
  pub registers_are : r.registers ≡ ended.registers
  pub is_program : r.program ≡ is_none part.within
  pub captured_types : r.captured_types ≡ (if is_none part.within then 0 else t.type_vars)
  pub captured_are : r.captured ≡ index_map_len captured
  pub fits : AreAllSet t.bank.now captured → part.base + own_count part.origin ≤ 4294967295 → RecordTakes (λ m. Passes m → ⊥) t K part (start_around t.bank.now captured part.base) (index_map_len captured)
