-- A held search of a negated goal that was tested binds none of the type variables that its branch began with: carried along, they are there in its answer.
use Rattle.std.proofs.Common.{◌≡◌, ◌≤◌, ◌<◌, ◌+◌, ℕ, zero, suc, List, [], ◌∷◌, map, length, Some, true, refl, sym, ap, ◌∙◌, subst as transport, arith}
use Rattle.std.specs.Prelude.{false}
use Rattle.lp_calculus.specs.Types.{Ty}
use Rattle.lp_lemmas.specs.Each.{EachOf}
use Rattle.lp_standard.specs.Connectives.{truth}
use Rattle.lp_model.specs.Types.{TypeBinding, put_types}
use Rattle.lp_model.specs.Unify.{unit_limit}
use Rattle.lp_model.specs.Skeleton.{View, Gives, Opens, Parts, Takes, Cuts, Denies, Halts, Lacks, Told, Note, Held, starts_within, inner, run}
use Rattle.lp_model.specs.Flat.{Goals, Clause, Written, goal_list}
use Rattle.lp_model.specs.Branch.{Branch, Answer, Task, Go, entries, both_written}
use Rattle.lp_model.specs.Search.{look, has_no_pairs, has_variables, types_from}
use Rattle.lp_model.specs.Answers.{Query, Variable}
use Rattle.lp_model.specs.Proofs.{Declared}
use Rattle.lp_search_laws.specs.Denials.{denied_branch, denied_task}
use Rattle.lp_search_laws.specs.Written.{IsOrigin, IsWrittenPlace}
use Rattle.lp_search_laws.specs.Branches.{no_query, denied_typing, ArePlainEntries, IsTypedBranch}
use Rattle.lp_search_laws.proofs.Begins.{from_count, from_below}
use Rattle.lp_search_laws.proofs.ComesOver.{ComesOver, over_family}
use Rattle.lp_search_laws.proofs.KeptLooks.{IsKeptView, kept_look}
use Rattle.lp_search_laws.proofs.KeptStarts.{entries_kept}
use Rattle.lp_search_laws.proofs.KeptTasks.{IsKeptProgram, IsKeptTask}
use Rattle.lp_search_laws.proofs.Stack.AllFine.{LeavesFine, all_fine}
use Rattle.lp_search_laws.proofs.Stack.InnerRuns.{held_gives, held_steps}
use Rattle.lp_search_laws.proofs.TestedGoals.{tested_goals, tested_clauses}
use Rattle.lp_search_laws.proofs.Typeless.{typeless_answer, run_same}
use Rattle.lp_search_laws.proofs.TypesOver.{AreSolved, IsBoundOver, IsFree, Not, free_stays}

-- a query with type variables alone
abbrev pub typed_query : ℕ → Query
typed_query m = record { type_vars = m; vars = []; formula = truth }

-- the branch, with its type variables carried along
abbrev pub carrying : (next m : ℕ) → Goals → List Clause → Written → (level : ℕ) → Branch
carrying next m gs A w l = record { next = next; next_type = m; goals = entries (goal_list gs) A w l 0; types = types_from m 0; values = []; pairs = [] }

pub carrying_typed : (n : ℕ) (d : Declared) (V : List Variable) (m : ℕ) (E : List Ty) (gs : Goals) (A : List Clause) (w : Written) → IsTypedBranch n d
    no_query (denied_typing V E gs) (denied_branch (length V) m gs A w (length E)) → IsTypedBranch n d (typed_query m) (denied_typing V E gs)
    (carrying (length V) m gs A w (length E))
carrying_typed n d V m E gs A w h = record {
  answer = record { variables = h.answer.variables; types = from_count m 0; values = tt; pairs = h.answer.pairs };
  entries = h.entries;
  variables = h.variables;
  types = from_below m 0 m (omega arith);
  values = tt;
  pairs = tt;
  goals = h.goals;
  written = h.written;
  stuck = h.stuck;
}

-- type variables from m on do not change those below
module _ (m : ℕ) where
  none_free : (i : ℕ) → i < m → (bs : List TypeBinding) → EachOf (IsBoundOver (λ j. m ≤ j)) bs → IsFree bs i
  none_free i l [] h = tt
  none_free i l (b ∷ bs) h = (other, none_free i l bs h.1)
    where
      other : Not b.id i
      other e = let x : m ≤ i = transport (λ j. m ≤ j) (sym e) h.0.0 in omega (arith, x, l)

  from_fixed : (bs : List TypeBinding) → EachOf (IsBoundOver (λ j. m ≤ j)) bs → (k i : ℕ) → i + k ≤ m → map (put_types bs) (types_from k i) ≡ types_from k i
  from_fixed bs h zero i l = refl
  from_fixed bs h (suc k) i l =
      let a : i < m = omega (arith, l) in
      let b : suc i + k ≤ m = omega (arith, l) in
      let e = free_stays bs i (none_free i a bs h) in
      let g = from_fixed bs h k (suc i) b in
      λ x. e x ∷ g x

  pub these_stay : (bs : List TypeBinding) → AreSolved (λ j. m ≤ j) bs → (ts : List Ty) → ts ≡ types_from m 0 → map (put_types bs) ts ≡ types_from m 0
  these_stay bs h ts e = ap (map (put_types bs)) e ∙ from_fixed bs h.over m 0 (omega arith)

first_of : (xs : List Answer) (a : Answer) (more : List Answer) → map typeless_answer xs ≡ a ∷ more → (b : Answer) × (bs : List Answer) × (xs ≡ b ∷ bs) × (typeless_answer b ≡ a)
first_of [] a more e = cc
first_of (x ∷ xs) a more e = let q : typeless_answer x ≡ a = cc in (x, xs, refl, q)

-- the run of it
pub record HeldRun (n j : ℕ) (P : List Clause) (next m : ℕ) (gs : Goals) (A : List Clause) (w : Written) (l steps rows c : ℕ) : Type 0 where
  pub first : Answer
  pub more : List Answer
  pub answers : (run (look unit_limit n P) j j (starts_within rows (Go (carrying next m gs A w l)) steps 1)).answers ≡ first ∷ more
  pub final : has_no_pairs first ≡ true
  pub taken : (run (look unit_limit n P) j j (starts_within rows (Go (carrying next m gs A w l)) steps 1)).steps ≡ c

pub held_run : (n j : ℕ) (P : List Clause) (next m : ℕ) (gs : Goals) (A : List Clause) (w : Written) (l steps rows c row : ℕ) (ns : List Note) → inner
    (look unit_limit n P) j has_no_pairs (starts_within rows (denied_task next m gs A w l) steps 1) ≡ Held c ns row → HeldRun n j P next m gs A w l
    steps rows c
held_run n j P next m gs A w l steps rows c row ns e =
    let s = starts_within rows (denied_task next m gs A w l) steps 1 in
    let t = starts_within rows (Go (carrying next m gs A w l)) steps 1 in
    let a = held_gives (look unit_limit n P) has_no_pairs j s c row ns e in
    let r = run_same unit_limit n P j j t in
    let x = first_of (run (look unit_limit n P) j j t).answers a.0 a.1 (sym (ap (λ (z : Told Answer). z.answers) r) ∙ a.3) in
    record {
      first = x.0;
      more = x.1;
      answers = x.2;
      final = ap has_no_pairs x.3 ∙ a.2;
      taken = sym (ap (λ (z : Told Answer). z.steps) r) ∙ held_steps (look unit_limit n P) has_no_pairs j s c row ns refl e;
    }

view_fine : (Q : ℕ → Type 0) (Ts : List Ty → Type 0) (puts : (bs : List TypeBinding) → AreSolved Q bs → (ts : List Ty) → Ts ts → Ts (map (put_types bs) ts)) (v : View Task Answer) → IsKeptView ComesOver over_family Q Ts puts v → LeavesFine (IsKeptTask ComesOver over_family Q Ts) (λ a. Ts a.types) v
view_fine Q Ts puts (Gives a) h = h
view_fine Q Ts puts (Opens ts) h = h
view_fine Q Ts puts (Parts ts) h = h
view_fine Q Ts puts (Takes name ts) h = h
view_fine Q Ts puts (Cuts m ts) h = h
view_fine Q Ts puts (Denies t f ts) h = h.1
view_fine Q Ts puts (Halts e) h = tt
view_fine Q Ts puts Lacks h = tt

-- its answers have the type variables still
pub held_types : (n j : ℕ) (P : List Clause) → EachOf (IsKeptProgram ComesOver over_family) P → (next m : ℕ) (E : List Ty) (gs : Goals)
    (A : List Clause) (own w : Written) (l steps rows : ℕ) → IsOrigin own gs → IsWrittenPlace A w → has_variables n (both_written own w) ≡ Some false
    → ArePlainEntries m (map (λ g. E) (goal_list gs)) (entries (goal_list gs) A w l 0) →
    EachOf (λ a. a.types ≡ types_from m 0) (run (look unit_limit n P) j j (starts_within rows (Go (carrying next m gs A w l)) steps 1)).answers
held_types n j P program next m E gs A own w l steps rows o place tested plain =
    let Q = λ (i : ℕ). m ≤ i in
    let Ts = λ (ts : List Ty). ts ≡ types_from m 0 in
    all_fine (look unit_limit n P) j (IsKeptTask ComesOver over_family Q Ts) (λ a. a.types ≡ types_from m 0)
    (λ height T k. view_fine Q Ts (these_stay m) (look unit_limit n P height T) (kept_look ComesOver over_family Q Ts (these_stay m) unit_limit n P program height T k)) j
    (starts_within rows (Go (carrying next m gs A w l)) steps 1) (
      record {
        entries = entries_kept Q m E A w l 0 (tested_clauses Q m n own w A place.origins tested) gs (tested_goals Q m n own w gs o tested) plain;
        pairs = tt;
        fresh = λ i k. k;
        types = refl;
      },
      tt,
    )
