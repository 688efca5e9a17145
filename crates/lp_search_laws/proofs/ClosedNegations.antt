-- The query `not G`, where G has no variables, and the search of G is right: it is answered only where G has no proof, and it ends with no more and no answer only where
-- G has one.
use Rattle.std.proofs.Common.{◌≡◌, ℕ, zero, suc, ◌-◌, List, [], ◌∷◌, map, length, Option, Some, None, Bool, true, false, refl, sym, ap, ◌∙◌, subst as transport}
use Rattle.lp_calculus.specs.Types.{instance}
use Rattle.lp_calculus.specs.Term.{Term, atom, logic}
use Rattle.lp_calculus.specs.Typing.{type_at}
use Rattle.lp_lemmas.specs.Each.{AnyOf, EachOf}
use Rattle.lp_standard.specs.Schemes.{IsStandard}
use Rattle.lp_model.specs.declared.ending.Ending.TheVariants.{NoMore, OpenNot}
use Rattle.lp_model.specs.Unify.{unit_limit}
use Rattle.lp_model.specs.Pair.{SolvesAll, closed}
use Rattle.lp_model.specs.Skeleton.{State, Told, View, Note, Inner, Refuted, Held, Broke, Lasts, row_limit, starts, move_denied, move_view, inner, told_after, run}
use Rattle.lp_model.specs.Flat.{Written, Not, map_written, same_type, written_in_goals, Goals, no_goals, goals, Clause, denied, goal_list, instantiate_goals}
use Rattle.lp_model.specs.Index.{instantiate}
use Rattle.lp_model.specs.Flatten.{ClauseFormula, flatten_query}
use Rattle.lp_model.specs.Branch.{Entry, Branch, Answer, Task, Go, Stop, entries, nothing_written, both_written}
use Rattle.lp_model.specs.Search.{look, look_not, look_branch, start, has_no_pairs, has_variables}
use Rattle.lp_model.specs.Answers.{Query, Instance, AreTypedValues, IsClosedInstance, IsInstance, IsProvable, IsWellFormed, TypedAnswer}
use Rattle.lp_model.specs.Proofs.{Declared, AreFlattened}
use Rattle.lp_search_laws.specs.Started.{IsPlainQuery, IsPlainSentence, IsProvableBy, IsTypedQuery, IsTypedSentence}
use Rattle.lp_search_laws.specs.Failed.{InAny, IsFailedSearch}
use Rattle.lp_search_laws.proofs.Exhausted.{right_by_failing}
use Rattle.lp_search_laws.proofs.Judged.{no_answers, no_values, some_closing, some_closes, none, no_pairs, no_typed_values}
use Rattle.lp_search_laws.proofs.Stack.InnerRuns.{refuted_fails, held_gives}
use Rattle.lp_search_laws.proofs.Stack.Inners.{inner_rightly, BreaksRightly}
use Rattle.lp_search_laws.proofs.WholeRight.{search_is_right}

module _ (n : ℕ) (P : List Clause) where
  L : ℕ → Task → View Task Answer
  L = look unit_limit n P

  -- a task that stops gives no answer, and does not end with no more
  stopped_gives : (j m k g u p w : ℕ) (a : Answer) (more : List Answer) → (run L j m (record { steps = w; answers = suc k; given = g; rows = u; row = p; lost = false; stack = Stop OpenNot ∷ [] })).answers ≡ a ∷ more → ⊥
  unfolding L
  stopped_gives j zero k g u p w a more e = cc
  stopped_gives j (suc m) k g u p w a more e = cc

  stopped_ends : (j m k g u p w : ℕ) → (run L j m (record { steps = w; answers = suc k; given = g; rows = u; row = p; lost = false; stack = Stop OpenNot ∷ [] })).ending ≡ Some NoMore → ⊥
  unfolding L
  stopped_ends j zero k g u p w e = cc
  stopped_ends j (suc m) k g u p w e = cc

  -- nothing is left, so nothing is given
  empty_gives : (j m k g u p w : ℕ) (a : Answer) (more : List Answer) → (run L j m (record { steps = w; answers = suc k; given = g; rows = u; row = p; lost = false; stack = [] })).answers ≡ a ∷ more → ⊥
  unfolding L
  empty_gives j zero k g u p w a more e = cc
  empty_gives j (suc m) k g u p w a more e = cc

  -- a branch without goals gives an answer
  proved_gives : (j m k g u p w : ℕ) (b : Branch) → b.goals ≡ [] → (run L j m (record
      { steps = w; answers = suc k; given = g; rows = u; row = p; lost = false; stack = Go b ∷ [] })).ending ≡ Some NoMore →
      (run L j m (record { steps = w; answers = suc k; given = g; rows = u; row = p; lost = false; stack = Go b ∷ [] })).answers ≡ [] → ⊥
  unfolding L
  proved_gives j zero k g u p w b i e f = cc
  proved_gives j (suc m) k g u p w b i e f = go b.goals i f
    where
      go : (es : List Entry) → es ≡ [] → (told_after (run (look unit_limit n P) j m) (move_view (inner (look unit_limit n P) j) w k g u p false [] (look_branch unit_limit n P 0 b es))).answers ≡ [] → ⊥
      go [] i f = cc
      go (x ∷ es) i f = cc

  module _ (j m k w : ℕ) (e : Entry) (b : Branch) (gs : Goals) (empty : b.goals ≡ []) where
    abbrev first : Task
    first = Go (record { next = b.next; next_type = b.next_type; goals = entries (goal_list gs) e.assumed e.written e.level 0; types = []; values = []; pairs = [] })

    module _ (X : Type 0) where
      given_denied : (v : ℕ) (r : Inner) → ((c p : ℕ) (ns : List Note) → r ≡ Refuted c ns p → X) → (a : Answer) (more : List Answer) → (told_after (run L j m) (move_denied v k 0 row_limit false (Go b ∷ []) [] r)).answers ≡ a ∷ more → X
      given_denied v (Refuted c ns p) f a more i = f c p ns refl
      given_denied v (Held c ns p) f a more i = absurd (empty_gives j m k 0 row_limit p (v - c) a more i)
      given_denied v (Broke c ns x) f a more i = absurd (cc)
      given_denied v (Lasts c ns) f a more i = absurd (cc)

      given_view : (w : ℕ) (o : Option Bool) → ((v c p : ℕ) (ns : List Note) → inner L j has_no_pairs (starts first v 1) ≡ Refuted c ns p → X) →
          (a : Answer) (more : List Answer) → (told_after (run L j m) (move_view (inner L j) w k 0 row_limit row_limit false []
          (look_not e b gs o))).answers ≡ a ∷ more → X
      given_view w None f a more i = absurd (cc)
      given_view zero (Some true) f a more i = absurd (cc)
      given_view (suc w) (Some true) f a more i = absurd (stopped_gives j m k 0 row_limit row_limit w a more i)
      given_view zero (Some false) f a more i = absurd (cc)
      given_view (suc w) (Some false) f a more i = given_denied w (inner L j has_no_pairs (starts first w 1)) (λ c p ns r. f w c p ns r) a more i

      ended_denied : (v : ℕ) (r : Inner) → BreaksRightly r → ((c p : ℕ) (ns : List Note) → r ≡ Held c ns p → X) →
          (told_after (run L j m) (move_denied v k 0 row_limit false (Go b ∷ []) [] r)).ending ≡ Some NoMore →
          (told_after (run L j m) (move_denied v k 0 row_limit false (Go b ∷ []) [] r)).answers ≡ [] → X
      ended_denied v (Refuted c ns p) h f i l = absurd (proved_gives j m k 0 row_limit p (v - c) b empty i l)
      ended_denied v (Held c ns p) h f i l = f c p ns refl
      ended_denied v (Broke c ns x) h f i l = let q : x ≡ NoMore = cc in absurd (h q)
      ended_denied v (Lasts c ns) h f i l = absurd (cc)

      ended_view : (w : ℕ) (o : Option Bool) → ((v c p : ℕ) (ns : List Note) → inner L j has_no_pairs (starts first v 1) ≡ Held c ns p → X) →
          (told_after (run L j m) (move_view (inner L j) w k 0 row_limit row_limit false [] (look_not e b gs o))).ending ≡ Some NoMore →
          (told_after (run L j m) (move_view (inner L j) w k 0 row_limit row_limit false [] (look_not e b gs o))).answers ≡ [] → X
      ended_view w None f i l = absurd (cc)
      ended_view zero (Some true) f i l = absurd (cc)
      ended_view (suc w) (Some true) f i l = absurd (stopped_ends j m k 0 row_limit row_limit w i)
      ended_view zero (Some false) f i l = absurd (cc)
      ended_view (suc w) (Some false) f i l = ended_denied w (inner L j has_no_pairs (starts first w 1)) (inner_rightly L j has_no_pairs (starts first w 1)) (λ c p ns r. f w c p ns r) i l

closed_instance : (d : Declared) (q : Query) (x : TypedAnswer) → q.vars ≡ [] → q.type_vars ≡ 0 → IsWellFormed d q x.typing x.answer → has_no_pairs x.answer ≡ true → IsClosedInstance d x.typing x.answer no_values
closed_instance d q x v t w f =
    let c = some_closing x.typing.variables in
    let ps = none x.answer.pairs (no_pairs (length x.answer.pairs) f) in
    let ts = none x.answer.types (w.types ∙ t) in
    let us = ap (map (instance (type_at x.answer.types))) v in
    let vs = no_typed_values d x.typing.variables x.answer.values (transport (AreTypedValues d x.typing.variables x.answer.values) us w.values) in
    record {
      closing = c;
      closes = some_closes d x.typing.variables;
      solves = transport (SolvesAll c) (sym ps) tt;
      types = ap (map (instance c.types)) ts;
      values = ap (map (closed c)) vs;
    }

-- what is told of a query is right of what is provable
pub record IsRightOn (Pr : Instance → Type 0) (d : Declared) (q : Query) (t : Told Answer) : Type 0 where
  pub typed : List TypedAnswer
  pub is : map (λ a. a.answer) typed ≡ t.answers
  pub well_formed : EachOf (λ a. IsWellFormed d q a.typing a.answer) typed
  pub sound : EachOf (λ a. (i : Instance) → IsClosedInstance d a.typing a.answer i → Pr i) typed
  pub exhausts : t.ending ≡ Some NoMore → (i : Instance) → Pr i → AnyOf (λ a. IsInstance d a.typing a.answer i) typed

module _ (d : Declared) (P : List Clause) (G : Term) (gs : Goals) (Pr : Instance → Type 0) (n j : ℕ) (right : (m steps : ℕ) → IsRightOn Pr d (record { type_vars = 0; vars = []; formula = G }) (run (look unit_limit n P) j m (start 0 0 gs steps 1))) where
  first_sound : (a : Answer) (more : List Answer) (xs : List TypedAnswer) → map (λ x. x.answer) xs ≡ a ∷ more → has_no_pairs a ≡ true → EachOf
      (λ x. IsWellFormed d (record { type_vars = 0; vars = []; formula = G }) x.typing x.answer) xs → EachOf
      (λ x. (i : Instance) → IsClosedInstance d x.typing x.answer i → Pr i) xs → Pr no_values
  first_sound a more [] e f w s = absurd (cc)
  first_sound a more (x ∷ xs) e f w s = let r : x.answer ≡ a = cc in s.0 no_values (closed_instance d (record { type_vars = 0; vars = []; formula = G }) x refl refl w.0 (ap has_no_pairs r ∙ f))

  refuted : (v c p : ℕ) (ns : List Note) → inner (look unit_limit n P) j has_no_pairs (start 0 0 gs v 1) ≡ Refuted c ns p → Pr no_values → ⊥
  refuted v c p ns r h =
      let f = refuted_fails (look unit_limit n P) has_no_pairs j (start 0 0 gs v 1) c p ns r in
      let y = right j v in
      no_answers d y.typed (y.is ∙ f.1) (y.exhausts f.0 no_values h)

  held : (v c p : ℕ) (ns : List Note) → inner (look unit_limit n P) j has_no_pairs (start 0 0 gs v 1) ≡ Held c ns p → Pr no_values
  held v c p ns r =
      let f = held_gives (look unit_limit n P) has_no_pairs j (start 0 0 gs v 1) c p ns r in
      let y = right j v in
      first_sound f.0 f.1 y.typed (y.is ∙ f.3) f.2 y.well_formed y.sound

  abbrev σ : ℕ → Term
  σ i = atom (logic (0 - suc i) 0)

  abbrev w0 : Written
  w0 = map_written (instantiate σ) same_type (written_in_goals gs)

  abbrev e0 : Entry
  e0 = record { goal = Not w0 (instantiate_goals σ gs); assumed = []; written = nothing_written; level = 0; mark = 0 }

  abbrev b0 : Branch
  b0 = record { next = 0; next_type = 0; goals = []; types = []; values = []; pairs = [] }

  abbrev asked : (steps answers : ℕ) → State Task
  asked steps answers = start 0 0 (goals (denied gs) no_goals) steps answers

  pub answered : (m steps answers : ℕ) (a : Answer) (more : List Answer) → (run (look unit_limit n P) j m (asked steps answers)).answers ≡ a ∷ more → Pr no_values → ⊥
  unfolding L
  answered zero steps answers a more e = absurd (cc)
  answered (suc m) steps zero a more e = absurd (cc)
  answered (suc m) steps (suc k) a more e = given_view n P j m k steps e0 b0 (instantiate_goals σ gs) refl (Pr no_values → ⊥) steps (has_variables n (both_written w0 nothing_written)) (λ v c p ns r. refuted v c p ns r) a more e

  pub ended : (m steps answers : ℕ) → (run (look unit_limit n P) j m (asked steps answers)).ending ≡ Some NoMore → (run (look unit_limit n P) j m (asked steps answers)).answers ≡ [] → Pr no_values
  unfolding L
  ended zero steps answers e f = absurd (cc)
  ended (suc m) steps zero e f = absurd (cc)
  ended (suc m) steps (suc k) e f = ended_view n P j m k steps e0 b0 (instantiate_goals σ gs) refl (Pr no_values) steps (has_variables n (both_written w0 nothing_written)) (λ v c p ns r. held v c p ns r) e f

-- without negation in G and in the program
module _ (d : Declared) (std : IsStandard d) (l : ℕ) (F : List ClauseFormula) (P : List Clause) (s : EachOf (IsPlainSentence d) F)
    (x : AreFlattened d F P) (G : Term) (gs : Goals) (t : IsPlainQuery d (record { type_vars = 0; vars = []; formula = G }))
    (flat : flatten_query l d G ≡ Some gs) (n j : ℕ) where
  pub plainly : (m steps : ℕ) → IsRightOn (IsProvable d F (record { type_vars = 0; vars = []; formula = G })) d (record { type_vars = 0; vars = []; formula = G }) (run (look unit_limit n P) j m (start 0 0 gs steps 1))
  plainly m steps = let r = search_is_right d std l F P s x (record { type_vars = 0; vars = []; formula = G }) gs t flat n j m steps 1 in record { typed = r.typed; is = r.is; well_formed = r.well_formed; sound = r.sound; exhausts = r.exhausts }

-- with negations
module _ (d : Declared) (std : IsStandard d) (l : ℕ) (F : List ClauseFormula) (P : List Clause) (s : EachOf (IsTypedSentence d) F)
    (x : AreFlattened d F P) (G : Term) (gs : Goals) (t : IsTypedQuery d (record { type_vars = 0; vars = []; formula = G }))
    (flat : flatten_query l d G ≡ Some gs) (n j : ℕ) where
  pub with_leaves : (m steps : ℕ) → IsRightOn (IsProvableBy (IsFailedSearch InAny d P) d F (record { type_vars = 0; vars = []; formula = G })) d (record { type_vars = 0; vars = []; formula = G }) (run (look unit_limit n P) j m (start 0 0 gs steps 1))
  with_leaves m steps = let r = right_by_failing d std l F P s x (record { type_vars = 0; vars = []; formula = G }) gs t flat n j m steps 1 in record { typed = r.typed; is = r.is; well_formed = r.well_formed; sound = r.sound; exhausts = r.exhausts }
