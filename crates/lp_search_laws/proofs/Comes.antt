-- The search of a typed query comes to a value: typed tasks have enough steps, and so the run ends.
use Rattle.std.proofs.Common.{◌≡◌, ℕ, ◌+◌, ◌≤◌, List, [], ◌∷◌, map, length, Some, Bool, true, false, if◌then◌else◌, refl, sym, ap, ◌∙◌, subst as transport, arith}
use Rattle.lp_model.specs.Unify.{unit_limit}
use Rattle.lp_model.specs.Pair.{Pair}
use Rattle.lp_model.specs.Skeleton.{View, Gives, Opens, Parts, Takes, Cuts, Denies, Halts, Lacks, State, Told, run}
use Rattle.lp_model.specs.Faithful.{IsLack, Leaves, Suffices, OpensLighter}
use Rattle.lp_lemmas.specs.Each.{EachOf}
use Rattle.lp_model.specs.Flat.{Goals, Clause}
use Rattle.lp_model.specs.Flatten.{ClauseFormula, flatten_query}
use Rattle.lp_model.specs.Branch.{Answer, Task, Go, Try, Stop, Lack}
use Rattle.lp_model.specs.Search.{look, start, ComesTo}
use Rattle.lp_model.specs.Proofs.{Declared, AreFlattened, no_leaf}
use Rattle.lp_model.specs.Answers.{Query}
use Rattle.lp_standard.specs.Schemes.{IsStandard}
use Rattle.lp_unify_laws.specs.Solutions.{IsStuck, AreStuck}
use Rattle.lp_unify_laws.proofs.MoreSteps.Rules.{rule_more}
use Rattle.lp_proof_laws.proofs.Uniform.Settings.{without_leaves}
use Rattle.lp_search_laws.specs.Enough.{HasEnough}
use Rattle.lp_search_laws.specs.Started.{IsTypedQuery, IsTypedSentence}
use Rattle.lp_search_laws.specs.Branches.{IsProgramTyped, IsTypedBranch, no_query, TypedTask, going, trying, stopping, lacking, task_of, IsOk, denied_typing}
use Rattle.lp_search_laws.specs.Views.{IsRightView}
use Rattle.lp_search_laws.specs.Denials.{denied_branch}
use Rattle.lp_search_laws.proofs.Stack.MoreLooks.{Fewer, same_look, lacks, opens_dead, takes_dead, run_same}
use Rattle.lp_search_laws.proofs.Stack.Ends.{ends}
use Rattle.lp_search_laws.proofs.MoreSteps.{look_more, IsLacking, more_steps_same}
use Rattle.lp_search_laws.proofs.SearchEnds.{weight, falls}
use Rattle.lp_search_laws.proofs.EnoughSteps.{branches_have_enough}
use Rattle.lp_search_laws.proofs.TryMatches.{tries_have_enough}
use Rattle.lp_search_laws.proofs.FullViews.{have_lack, strict, full}
use Rattle.lp_search_laws.proofs.LooksRight.{each_look}
use Rattle.lp_search_laws.proofs.Begins.{start_typed, program_typed}

-- more steps find the same pairs stuck
pair_stuck : (n m : ℕ) → n ≤ m → (p : Pair) → IsStuck n p → IsStuck m p
pair_stuck n m l p h = record { next = h.next; ruled = h.ruled; is = rule_more n m l h.next p h.ruled h.is; delays = h.delays }

pairs_stuck : (n m : ℕ) → n ≤ m → (ps : List Pair) → AreStuck n ps → AreStuck m ps
pairs_stuck n m l [] h = tt
pairs_stuck n m l (p ∷ ps) h = (pair_stuck n m l p h.0, pairs_stuck n m l ps h.1)

-- looks at nothing that lacks
strict_more : (v w : View Task Answer) → Fewer IsLacking v w → (IsLack (strict v) → ⊥) → strict w ≡ strict v
strict_more v w (same_look e) h = ap strict (sym e)
strict_more v w (lacks e) h = absurd (h (transport (λ z. IsLack (strict z)) (sym e) tt))
strict_more v w (opens_dead t ts d e) h = absurd (h (transport (λ z. IsLack (strict z)) (sym e) (transport (λ u. IsLack (strict (Opens (u ∷ ts)))) (sym d) tt)))
strict_more v w (takes_dead name t ts us d e e') h = absurd (h (transport (λ z. IsLack (strict z)) (sym e) (transport (λ u. IsLack (strict (Takes name (u ∷ ts)))) (sym d) tt)))

-- a strict look is the look, or lacks steps
strict_fewer : (v : View Task Answer) → Fewer (λ (t : Task). ⊥) (strict v) v
strict_fewer (Gives a) = same_look refl
strict_fewer (Opens ts) = go (have_lack ts)
  where
    go : (p : Bool) → Fewer {T = Task} {A = Answer} (λ (t : Task). ⊥) (if p then Lacks else Opens ts) (Opens ts)
    go true = lacks refl
    go false = same_look refl
strict_fewer (Parts ts) = go (have_lack ts)
  where
    go : (p : Bool) → Fewer {T = Task} {A = Answer} (λ (t : Task). ⊥) (if p then Lacks else Parts ts) (Parts ts)
    go true = lacks refl
    go false = same_look refl
strict_fewer (Takes name ts) = go (have_lack ts)
  where
    go : (p : Bool) → Fewer {T = Task} {A = Answer} (λ (t : Task). ⊥) (if p then Lacks else Takes name ts) (Takes name ts)
    go true = lacks refl
    go false = same_look refl
strict_fewer (Cuts m ts) = go (have_lack ts)
  where
    go : (p : Bool) → Fewer {T = Task} {A = Answer} (λ (t : Task). ⊥) (if p then Lacks else Cuts m ts) (Cuts m ts)
    go true = lacks refl
    go false = same_look refl
strict_fewer (Denies t is_final ts) = same_look refl
strict_fewer (Halts e) = same_look refl
strict_fewer Lacks = same_look refl

strict_lighter : (k : ℕ) (v : View Task Answer) → OpensLighter weight k v → OpensLighter weight k (strict v)
strict_lighter k (Gives a) h = tt
strict_lighter k (Opens ts) h = go (have_lack ts)
  where
    go : (p : Bool) → OpensLighter {Task = Task} {Answer = Answer} weight k (if p then Lacks else Opens ts)
    go true = tt
    go false = h
strict_lighter k (Parts ts) h = go (have_lack ts)
  where
    go : (p : Bool) → OpensLighter {Task = Task} {Answer = Answer} weight k (if p then Lacks else Parts ts)
    go true = tt
    go false = tt
strict_lighter k (Takes name ts) h = go (have_lack ts)
  where
    go : (p : Bool) → OpensLighter {Task = Task} {Answer = Answer} weight k (if p then Lacks else Takes name ts)
    go true = tt
    go false = tt
strict_lighter k (Cuts m ts) h = go (have_lack ts)
  where
    go : (p : Bool) → OpensLighter {Task = Task} {Answer = Answer} weight k (if p then Lacks else Cuts m ts)
    go true = tt
    go false = tt
strict_lighter k (Denies t is_final ts) h = tt
strict_lighter k (Halts e) h = tt
strict_lighter k Lacks h = tt

module _ (d : Declared) (std : IsStandard d) (P : List Clause) (program : EachOf (IsProgramTyped d) P) where
  -- a typed task that does not lack steps itself
  pub record Kept (t : Task) : Type 0 where
    pub query : Query
    pub steps : ℕ
    pub task : TypedTask
    pub ok : IsOk steps d P query task
    pub is : task_of task ≡ t
    pub some : t ≡ Lack → ⊥

  ok_more : (q : Query) (n m : ℕ) → n ≤ m → (T : TypedTask) → IsOk n d P q T → IsOk m d P q T
  ok_more q n m l (going y b) h = branch_more h
    where
      branch_more : IsTypedBranch n d q y b → IsTypedBranch m d q y b
      branch_more h = record { answer = h.answer; entries = h.entries; variables = h.variables; types = h.types; values = h.values; pairs = h.pairs; goals = h.goals; written = h.written; stuck = pairs_stuck n m l b.pairs h.stuck }
  ok_more q n m l (trying y c t e b mark) h =
      let z = h.branch in
      record {
        branch = record { answer = z.answer; entries = z.entries; variables = z.variables; types = z.types; values = z.values; pairs = z.pairs; goals = z.goals; written = z.written; stuck = pairs_stuck n m l b.pairs z.stuck };
        atomic = h.atomic;
        named = h.named;
        stands = h.stands;
      }
  ok_more q n m l (stopping e T) h = h
  ok_more q n m l (lacking T) h = tt

  has_enough : (t : Task) → Kept t → (n : ℕ) × HasEnough n t
  has_enough t k = go k.task k.ok k.is
    where
      go : (T : TypedTask) → IsOk k.steps d P k.query T → task_of T ≡ t → (n : ℕ) × HasEnough n t
      go (going y b) o e = let r = branches_have_enough k.steps d std k.query y b o in (r.0, transport (HasEnough r.0) e r.1)
      go (trying y c u x b mark) o e = let r = tries_have_enough k.steps d std P program k.query y c u x b mark o in (r.0, transport (HasEnough r.0) e r.1)
      go (stopping x T) o e = (0, transport (HasEnough 0) e tt)
      go (lacking T) o e = absurd (k.some (sym e))

  -- what is left of a typed task
  all_kept : (q : Query) (n : ℕ) (Ts : List TypedTask) → EachOf (IsOk n d P q) Ts → (ts : List Task) → map task_of Ts ≡ ts → have_lack ts ≡ false → EachOf Kept ts
  all_kept q n [] h [] e f = tt
  all_kept q n [] h (t ∷ ts) e f = absurd (cc)
  all_kept q n (T ∷ Ts) h [] e f = absurd (cc)
  all_kept q n (T ∷ Ts) h (t ∷ ts) e f =
      let x : task_of T ≡ t = cc in
      let xs : map task_of Ts ≡ ts = cc in
      (record { query = q; steps = n; task = T; ok = h.0; is = x; some = first t f }, all_kept q n Ts h.1 ts xs (rest t f))
    where
      first : (t : Task) → have_lack (t ∷ ts) ≡ false → t ≡ Lack → ⊥
      first (Go b) f e = cc
      first (Try c u x b mark) f e = cc
      first (Stop x) f e = cc
      first Lack f e = cc

      rest : (t : Task) → have_lack (t ∷ ts) ≡ false → have_lack ts ≡ false
      rest (Go b) f = f
      rest (Try c u x b mark) f = f
      rest (Stop x) f = f
      rest Lack f = absurd (cc)

  view_leaves : (q : Query) (n : ℕ) (T : TypedTask) (v : View Task Answer) → IsRightView no_leaf n d P q T v → Leaves Kept (strict v)
  view_leaves q n T (Gives a) r = tt
  view_leaves q n T (Opens ts) r = go (have_lack ts) refl
    where
      go : (p : Bool) → have_lack ts ≡ p → Leaves {Task = Task} {Answer = Answer} Kept (if p then Lacks else Opens ts)
      go true e = tt
      go false e = all_kept q n r.typed r.ok ts r.is e
  view_leaves q n T (Parts ts) r = go (have_lack ts) refl
    where
      go : (p : Bool) → have_lack ts ≡ p → Leaves {Task = Task} {Answer = Answer} Kept (if p then Lacks else Parts ts)
      go true e = tt
      go false e = all_kept q n r.typed r.ok ts r.is e
  view_leaves q n T (Takes name ts) r = go (have_lack ts) refl
    where
      go : (p : Bool) → have_lack ts ≡ p → Leaves {Task = Task} {Answer = Answer} Kept (if p then Lacks else Takes name ts)
      go true e = tt
      go false e = all_kept q n r.typed r.ok ts r.is e
  view_leaves q n T (Cuts m ts) r = go (have_lack ts) refl
    where
      go : (p : Bool) → have_lack ts ≡ p → Leaves {Task = Task} {Answer = Answer} Kept (if p then Lacks else Cuts m ts)
      go true e = tt
      go false e = all_kept q n r.typed r.ok ts r.is e
  view_leaves q n T (Denies t is_final ts) r = (
    transport Kept (sym r.is) (record { query = no_query; steps = n; task = going (denied_typing r.variables r.eigens r.goals) (denied_branch (length r.variables) r.next_type r.goals r.assumed r.written (length r.eigens)); ok = r.begins; is = refl; some = λ e. cc }),
    transport (EachOf Kept) (sym r.goes_on) (record { query = q; steps = n; task = going r.rest_typing r.rest; ok = r.after; is = refl; some = λ e. cc }, tt),
  )
  view_leaves q n T (Halts e) r = tt
  view_leaves q n T Lacks r = tt

  fewer_leaves : (v w : View Task Answer) → Fewer IsLacking v w → Leaves Kept (strict w) → Leaves Kept (strict v)
  fewer_leaves v w (same_look e) h = transport (λ z. Leaves Kept (strict z)) (sym e) h
  fewer_leaves v w (lacks e) h = transport (λ z. Leaves Kept (strict z)) (sym e) tt
  fewer_leaves v w (opens_dead t ts x e) h = transport (λ z. Leaves Kept (strict z)) (sym e) (transport (λ u. Leaves Kept (strict (Opens (u ∷ ts)))) (sym x) tt)
  fewer_leaves v w (takes_dead name t ts us x e e') h = transport (λ z. Leaves Kept (strict z)) (sym e) (transport (λ u. Leaves Kept (strict (Takes name (u ∷ ts)))) (sym x) tt)

  leaves : (n height : ℕ) (t : Task) → Kept t → Leaves Kept (strict (look unit_limit n P height t))
  leaves n height t k =
      let m = n + k.steps in
      let a : n ≤ n + k.steps = omega arith in
      let b : k.steps ≤ n + k.steps = omega arith in
      let r = each_look m d (without_leaves d std) P program k.query height k.task (ok_more k.query k.steps m b k.task k.ok) in
      let w = transport (λ z. Leaves Kept (strict (look unit_limit m P height z))) k.is (view_leaves k.query m k.task (look unit_limit m P height (task_of k.task)) r) in
      fewer_leaves (look unit_limit n P height t) (look unit_limit m P height t) (look_more unit_limit n m a P height t) w

  suffices : Suffices (λ n height t. strict (look unit_limit n P height t)) Kept
  suffices = record {
    more = λ n m l height t h. strict_more (look unit_limit n P height t) (look unit_limit m P height t) (look_more unit_limit n m l P height t) h;
    enough = λ height t k. let r = has_enough t k in (r.0, full r.0 P height t k.some r.1);
    leaves = λ n height t k. leaves n height t k;
  }

  pub comes : (s : State Task) → EachOf Kept s.stack → (t : Told Answer) × ComesTo P s t
  comes s h =
      let r = ends (λ n height t. strict (look unit_limit n P height t)) weight (λ n height t. strict_lighter (weight t) (look unit_limit n P height t) (falls n P height t)) Kept suffices s h in
      let l : r.0 ≤ r.0 = omega arith in
      let e = r.1 r.0 r.0 r.0 l l l in
      let same = run_same (λ height t. strict (look unit_limit r.0 P height t)) (look unit_limit r.0 P) (λ t. ⊥) (λ height t x. absurd x) (λ height t. strict_fewer (look unit_limit r.0 P height t)) r.0 r.0 s e.0 e.1 in
      (run (look unit_limit r.0 P) r.0 r.0 s, record { enough = r.0; tells = refl; ending = e.0; ends = ap (λ (t : Told Answer). t.ending) same ∙ e.1 })

pub search_comes : (d : Declared) → IsStandard d → (l : ℕ) (F : List ClauseFormula) (P : List Clause) → EachOf (IsTypedSentence d) F → AreFlattened d F P → (q : Query) (gs : Goals) → IsTypedQuery d q → flatten_query l d q.formula ≡ Some gs →
    (steps answers : ℕ) → (t : Told Answer) × ComesTo P (start q.type_vars (length q.vars) gs steps answers) t
search_comes d std l F P s x q gs t e steps answers =
    let z = start_typed d std l q gs t e 0 steps answers in
    comes d std P (program_typed d std F P s x) (start q.type_vars (length q.vars) gs steps answers) (record { query = q; steps = 0; task = going _ _; ok = z.1; is = refl; some = λ y. cc }, tt)

-- it is one value
pub one_value : (P : List Clause) (s : State Task) (t u : Told Answer) → ComesTo P s t → ComesTo P s u → t ≡ u
one_value P s t u a b =
    let m = a.enough + b.enough in
    let l : a.enough ≤ a.enough + b.enough = omega arith in
    let r : b.enough ≤ a.enough + b.enough = omega arith in
    let x = more_steps_same unit_limit a.enough m l P a.enough m a.enough m l l s a.ending (ap (λ (z : Told Answer). z.ending) a.tells ∙ a.ends) in
    let y = more_steps_same unit_limit b.enough m r P b.enough m b.enough m r r s b.ending (ap (λ (z : Told Answer). z.ending) b.tells ∙ b.ends) in
    sym a.tells ∙ sym x ∙ y ∙ b.tells
