-- What the functions of a body's code do, as steps.
use Rattle.std.proofs.Common.{◌≡◌, ◌∙◌, ◌≤◌, ◌<◌, ℕ, ◌+◌, ◌-◌, ◌^◌, List, [], ◌∷◌, ◌++◌, append_assoc, map, length, Option, Some, None, ap, refl, sym, subst, arith, ⊎_elim}
use Rattle.std.specs.Prelude.{sum_by, slice_get, option_and_then}
use Rattle.std.proofs.lemmas.List.{append-nil, length-append, map-append}
use Rattle.std.proofs.lemmas.List.Elements.{All-nil, All-append}
use Rattle.std.proofs.lemmas.List.Sums.{sum_by-append}
use Rattle.indexmap.specs.IndexMap.{IndexMap, index_map_len}
use Rattle.lp_calculus.specs.Types.{Ty}
use Rattle.lp_model.specs.Flat.{Goals, Clauses, no_goals}
use Rattle.lp_term.specs.Nodes.{Nodes}
use Rattle.lp_code.specs.declared.instruction.Instr.{Instr}
use Rattle.lp_code.specs.declared.instruction.Instr.TheVariants as on
use Rattle.lp_code.specs.Length.{length_of}
use Rattle.lp_gen.specs.declared.emitter.Emitter.{Emitter}
use Rattle.lp_gen.specs.declared.environment.Environment.{Environment}
use Rattle.lp_gen.specs.declared.environment.Variable.{Variable}
use Rattle.lp_gen.specs.declared.body.Block.{Block}
use Rattle.lp_gen.specs.declared.plan.Step.{Step}
use Rattle.lp_gen.specs.declared.plan.Step.TheVariants as step
use Rattle.lp_gen.specs.declared.tables.Tables.{Tables}
use Rattle.lp_gen.specs.Steps.{Seen, Around}
use Rattle.lp_gen.specs.inner.Listing.{around_of, seen}
use Rattle.lp_gen.specs.inner.TermLaw.{AreSet}
use Rattle.lp_gen.specs.inner.Bodies.{new_level}
use Rattle.lp_gen.specs.inner.OpenGoals.{OpenBlock, block, in_left, in_right, in_some, in_all, in_assumption, in_denial, Walked, walked, closed, BodyStep, either, turn, end_either, some, all, end_all, end_assume, deny, end_deny}
use Rattle.lp_gen.specs.inner.OpenGoals.{turned, right_ended, all_ended, assumption_ended, denial_ended, ended, advance, advance_all, Mark, mark, Start, Stands, Closes}
use Rattle.lp_gen.specs.inner.BodyCode.{Suppositions, AreStarts, started_at, AreAllSet, HoldStarts, count_starts, StartsGrow, starts_all, AllStartsGrow, mark_of, marks, levels_found, AssumedBy, StandsAt, StepTaken, Takes, step_of, steps_of, count_named, next_of, next_all, IsNext, AreNext, IsTaken, AssumptionMade, SomeOpened, AllOpened, BlockOpened, BlockEnded, start_at, StepsWritten}
use Rattle.lp_gen.proofs.TypeWorks.{map_length}
use Rattle.lp_gen.proofs.StepsTaken.{block_closes}
use Rattle.lp_gen.proofs.BlocksTaken.{all_leaves, assumption_leaves, denial_leaves, turn_taken, right_leaves}
use Rattle.lp_gen.proofs.BodySteps.{some_walked, no_walked, assume_step, either_step, not_step, some_step, all_step, end_all_step, end_assume_step, end_not_step}

no_marks : (m : Mark) (ms : List Mark) → [] ≡ m ∷ ms → ⊥
no_marks m ms e = cc

-- no block is open: there is none to end
none_ended : (P : Around → (records levels : List ℕ) → Clauses → Type 0) (K : ℕ → List Ty → Ty) (e e' : Emitter) (a a' : Around) (bs bs' : List Block)
    (f : Goals → List OpenBlock → Option Walked) (s : BodyStep) → ((w : Walked) → advance s w ≡ ended f w) →
    ((v : ℕ) (z : Start) (q : ℕ) (gs : Goals) (os : List OpenBlock) (w' : Walked) → Closes P K v z (walked gs os) a e.types e.registers q e.code.items (marks bs) → f gs os ≡ Some w' →
    (m : Mark) × (ms : List Mark) × (marks bs ≡ m ∷ ms)) → bs ≡ [] → StepTaken P K e e' a a' bs bs' s
none_ended P K e e' a a' bs bs' f s is some_mark none = λ v z w w' q x set short adv.
    let c = block_closes P K v z w a e.types e.registers q e.code.items (marks bs) x in
    let y = some_mark v z q (closed w.said w.opened).said (closed w.said w.opened).opened w' c (sym (is w) ∙ adv) in
    absurd (no_marks y.0 y.1 (sym (ap marks none) ∙ y.2))

module _ (P : Around → (records levels : List ℕ) → Clauses → Type 0) (K : ℕ → List Ty → Ty) (e : Emitter) (a : Around) (bs : List Block) where
  turn_mark : (v : ℕ) (z : Start) (q : ℕ) (gs : Goals) (os : List OpenBlock) (w' : Walked) → Closes P K v z (walked gs os) a e.types e.registers q e.code.items (marks bs) → turned gs os ≡ Some w' →
      (m : Mark) × (ms : List Mark) × (marks bs ≡ m ∷ ms)
  turn_mark v z q gs [] w' c adv = absurd (no_walked w' adv)
  turn_mark v z q gs (block in_left hs ∷ os) w' c adv =
      let t = turn_taken P K v z gs hs os a e.types e.registers q e.code.items (marks bs) c in (mark t.around (length t.lead) t.from, t.outer, t.marks_are)
  turn_mark v z q gs (block (in_right l) hs ∷ os) w' c adv = absurd (no_walked w' adv)
  turn_mark v z q gs (block (in_some T) hs ∷ os) w' c adv = absurd (no_walked w' adv)
  turn_mark v z q gs (block (in_all T) hs ∷ os) w' c adv = absurd (no_walked w' adv)
  turn_mark v z q gs (block (in_assumption cs) hs ∷ os) w' c adv = absurd (no_walked w' adv)
  turn_mark v z q gs (block in_denial hs ∷ os) w' c adv = absurd (no_walked w' adv)

  right_mark : (v : ℕ) (z : Start) (q : ℕ) (gs : Goals) (os : List OpenBlock) (w' : Walked) → Closes P K v z (walked gs os) a e.types e.registers q
      e.code.items (marks bs) → right_ended gs os ≡ Some w' →
      (m : Mark) × (ms : List Mark) × (marks bs ≡ m ∷ ms)
  right_mark v z q gs [] w' c adv = absurd (no_walked w' adv)
  right_mark v z q gs (block in_left hs ∷ os) w' c adv = absurd (no_walked w' adv)
  right_mark v z q gs (block (in_right l) hs ∷ os) w' c adv =
      let t = right_leaves P K v z l gs hs os a e.types e.registers q e.code.items (marks bs) c in (mark t.around (length t.lead) t.from, t.outer, t.marks_are)
  right_mark v z q gs (block (in_some T) hs ∷ os) w' c adv = absurd (no_walked w' adv)
  right_mark v z q gs (block (in_all T) hs ∷ os) w' c adv = absurd (no_walked w' adv)
  right_mark v z q gs (block (in_assumption cs) hs ∷ os) w' c adv = absurd (no_walked w' adv)
  right_mark v z q gs (block in_denial hs ∷ os) w' c adv = absurd (no_walked w' adv)

  all_mark : (v : ℕ) (z : Start) (q : ℕ) (gs : Goals) (os : List OpenBlock) (w' : Walked) → Closes P K v z (walked gs os) a e.types e.registers q e.code.items (marks bs) → all_ended gs os ≡ Some w' →
      (m : Mark) × (ms : List Mark) × (marks bs ≡ m ∷ ms)
  all_mark v z q gs [] w' c adv = absurd (no_walked w' adv)
  all_mark v z q gs (block in_left hs ∷ os) w' c adv = absurd (no_walked w' adv)
  all_mark v z q gs (block (in_right l) hs ∷ os) w' c adv = absurd (no_walked w' adv)
  all_mark v z q gs (block (in_some T) hs ∷ os) w' c adv = absurd (no_walked w' adv)
  all_mark v z q gs (block (in_all T) hs ∷ os) w' c adv =
      let t = all_leaves P K v z T gs hs os a e.types e.registers q e.code.items (marks bs) c in (mark t.around t.at t.from, t.outer, t.marks_are)
  all_mark v z q gs (block (in_assumption cs) hs ∷ os) w' c adv = absurd (no_walked w' adv)
  all_mark v z q gs (block in_denial hs ∷ os) w' c adv = absurd (no_walked w' adv)

  assumption_mark : (v : ℕ) (z : Start) (q : ℕ) (gs : Goals) (os : List OpenBlock) (w' : Walked) → Closes P K v z (walked gs os) a e.types e.registers
      q e.code.items (marks bs) → assumption_ended gs os ≡ Some w' →
      (m : Mark) × (ms : List Mark) × (marks bs ≡ m ∷ ms)
  assumption_mark v z q gs [] w' c adv = absurd (no_walked w' adv)
  assumption_mark v z q gs (block in_left hs ∷ os) w' c adv = absurd (no_walked w' adv)
  assumption_mark v z q gs (block (in_right l) hs ∷ os) w' c adv = absurd (no_walked w' adv)
  assumption_mark v z q gs (block (in_some T) hs ∷ os) w' c adv = absurd (no_walked w' adv)
  assumption_mark v z q gs (block (in_all T) hs ∷ os) w' c adv = absurd (no_walked w' adv)
  assumption_mark v z q gs (block (in_assumption cs) hs ∷ os) w' c adv =
      let t = assumption_leaves P K v z cs gs hs os a e.types e.registers q e.code.items (marks bs) c in (mark t.around t.at t.from, t.outer, t.marks_are)
  assumption_mark v z q gs (block in_denial hs ∷ os) w' c adv = absurd (no_walked w' adv)

  denial_mark : (v : ℕ) (z : Start) (q : ℕ) (gs : Goals) (os : List OpenBlock) (w' : Walked) → Closes P K v z (walked gs os) a e.types e.registers q
      e.code.items (marks bs) → denial_ended gs os ≡ Some w' →
      (m : Mark) × (ms : List Mark) × (marks bs ≡ m ∷ ms)
  denial_mark v z q gs [] w' c adv = absurd (no_walked w' adv)
  denial_mark v z q gs (block in_left hs ∷ os) w' c adv = absurd (no_walked w' adv)
  denial_mark v z q gs (block (in_right l) hs ∷ os) w' c adv = absurd (no_walked w' adv)
  denial_mark v z q gs (block (in_some T) hs ∷ os) w' c adv = absurd (no_walked w' adv)
  denial_mark v z q gs (block (in_all T) hs ∷ os) w' c adv = absurd (no_walked w' adv)
  denial_mark v z q gs (block (in_assumption cs) hs ∷ os) w' c adv = absurd (no_walked w' adv)
  denial_mark v z q gs (block in_denial hs ∷ os) w' c adv =
      let t = denial_leaves P K v z gs hs os a e.types e.registers q e.code.items (marks bs) c in (mark t.around t.at t.from, t.outer, t.marks_are)

pub no_turn : (e e' : Emitter) (env env' : Environment) (bs bs' : List Block) → bs ≡ [] → Takes e e' env env' bs bs' turn
no_turn e e' env env' bs bs' none t cl b K = none_ended (AssumedBy t cl) K e e' (around_of b env) (around_of b env') bs bs' turned turn (λ w. refl)
    (turn_mark (AssumedBy t cl) K e (around_of b env) bs) none

pub no_right : (e e' : Emitter) (env env' : Environment) (bs bs' : List Block) → bs ≡ [] → Takes e e' env env' bs bs' end_either
no_right e e' env env' bs bs' none t cl b K = none_ended (AssumedBy t cl) K e e' (around_of b env) (around_of b env') bs bs' right_ended end_either
    (λ w. refl) (right_mark (AssumedBy t cl) K e (around_of b env) bs) none

pub all_ends : (e e' : Emitter) (env env' : Environment) (bs bs' : List Block) → BlockEnded e e' env env' bs bs' on.EndAll → Takes e e' env env' bs bs' end_all
all_ends e e' env env' bs bs' x t cl b K =
    ⊎_elim (λ none. none_ended (AssumedBy t cl) K e e' (around_of b env) (around_of b env') bs bs' all_ended end_all (λ w. refl) (all_mark (AssumedBy t cl) K e (around_of b env) bs) none)
    (λ y. end_all_step (AssumedBy t cl) K e e' (around_of b env) (around_of b env') bs bs' y.0 (y.1, y.2 b, y.3, y.4, y.5)) x

pub assumption_ends : (e e' : Emitter) (env env' : Environment) (bs bs' : List Block) → BlockEnded e e' env env' bs bs' on.EndAssume → Takes e e' env env' bs bs' end_assume
assumption_ends e e' env env' bs bs' x t cl b K =
    ⊎_elim (λ none. none_ended (AssumedBy t cl) K e e' (around_of b env) (around_of b env') bs bs' assumption_ended end_assume (λ w. refl)
    (assumption_mark (AssumedBy t cl) K e (around_of b env) bs) none)
    (λ y. end_assume_step (AssumedBy t cl) K e e' (around_of b env) (around_of b env') bs bs' y.0 (y.1, y.2 b, y.3, y.4, y.5)) x

pub denial_ends : (e e' : Emitter) (env env' : Environment) (bs bs' : List Block) → BlockEnded e e' env env' bs bs' on.EndNot → Takes e e' env env' bs bs' end_deny
denial_ends e e' env env' bs bs' x t cl b K =
    ⊎_elim (λ none. none_ended (AssumedBy t cl) K e e' (around_of b env) (around_of b env') bs bs' denial_ended end_deny (λ w. refl) (denial_mark (AssumedBy t cl) K e (around_of b env) bs) none)
    (λ y. end_not_step (AssumedBy t cl) K e e' (around_of b env) (around_of b env') bs bs' y.0 (y.1, y.2 b, y.3, y.4, y.5)) x

-- a mark is that of what is around
pub mark_is : (b : Nodes) (env : Environment) (l : Block) (at from : ℕ) → l.variables ≡ length env.own.items → l.at ≡ at → l.from ≡ from → mark_of l ≡ mark (around_of b env) at from
mark_is b env l at from variables ea ef =
    let many : l.variables ≡ length (map (seen b) env.own.items) = variables ∙ sym (map_length (seen b) env.own.items) in
    λ i. record { variables = many i; at = ea i; from = ef i }

pub either_opens : (P : Around → (records levels : List ℕ) → Clauses → Type 0) (b : Nodes) (K : ℕ → List Ty → Ty) (e e' : Emitter) (env : Environment)
    (bs bs' : List Block) → BlockOpened e e' env bs bs' (on.Either 0) →
    StepTaken P K e e' (around_of b env) (around_of b env) bs bs' either
either_opens P b K e e' env bs bs' (l, blocks, variables, at, from, code, types, registers) =
    either_step P K e e' (around_of b env) bs bs' l blocks (mark_is b env l (length e.code.items) (sum_by length_of e.code.items) variables at from) code types registers

pub not_opens : (P : Around → (records levels : List ℕ) → Clauses → Type 0) (b : Nodes) (K : ℕ → List Ty → Ty) (e e' : Emitter) (env : Environment)
    (bs bs' : List Block) → BlockOpened e e' env bs bs' on.Not →
    StepTaken P K e e' (around_of b env) (around_of b env) bs bs' deny
not_opens P b K e e' env bs bs' (l, blocks, variables, at, from, code, types, registers) =
    not_step P K e e' (around_of b env) bs bs' l blocks (mark_is b env l (length e.code.items) (sum_by length_of e.code.items) variables at from) code types registers

pub some_opens : (P : Around → (records levels : List ℕ) → Clauses → Type 0) (K : ℕ → List Ty → Ty) (e e' : Emitter) (a a' : Around) (bs : List Block)
    (T : Ty) → SomeOpened e e' a a' T → StepTaken P K e e' a a' bs bs (some T)
some_opens P K e e' a a' bs T (mid, k, put, code, types, registers, around) = some_step P K e mid e' a a' bs k T put code types registers around

pub all_opens : (P : Around → (records levels : List ℕ) → Clauses → Type 0) (K : ℕ → List Ty → Ty) (e e' : Emitter) (a a' : Around)
    (bs bs' : List Block) (T : Ty) → AllOpened e e' a a' bs bs' T → StepTaken P K e e' a a' bs bs' (all T)
all_opens P K e e' a a' bs bs' T (mid, k, l, put, code, types, registers, around, blocks, variables) = all_step P K e mid e' a a' bs bs' l k T put code types registers around blocks variables

-- the step that it is
pub taken : {S : Type 0} (t : Tables) (cl : Suppositions) (K : ℕ → List Ty → Ty) (e e' : Emitter) (env env' : Environment) (bs bs' : List Block)
    (xs : List (IndexMap ℕ Variable S)) (s : Step) → ((q : ℕ) → next_of t q s ≡ q) →
    StepTaken (AssumedBy t cl) K e e' (around_of t.bank.now env) (around_of t.bank.now env') bs bs' (step_of t.bank.now cl s) → IsTaken t cl K e e' env env' bs bs' xs xs s
taken t cl K e e' env env' bs bs' xs s stays x q f z w w' held next stands set short adv =
    let y = x t.type_vars z w w' q stands set short adv in
    (subst (λ r. StandsAt (AssumedBy t cl) K t.type_vars z w' (around_of t.bank.now env') e' r bs') (sym (stays q)) y.0, y.1, y.2)

-- the last of a list
at_end : {X : Type 0} (xs : List X) (x : X) → slice_get (xs ++ x ∷ []) (length xs) ≡ Some x
at_end [] x = refl
at_end (y ∷ ys) x = at_end ys x

starts_as : (a : Around) (ls : List ℕ) (f g : ℕ → Option Seen) (m n : ℕ) → ((l : ℕ) → g l ≡ f l) → n ≡ m → AreStarts a ls f m → AreStarts a ls g n
starts_as a ls f g m n e many x = record {
  count_is = many ∙ x.count_is;
  given = λ i l at. let w = x.given i l at in (w.0, w.1, e l ∙ w.2);
  only = λ l v at. x.only l v (sym (e l) ∙ at);
}

pub assumption_taken : {S : Type 0} (t : Tables) (cl : Suppositions) (K : ℕ → List Ty → Ty) (e e' : Emitter) (env : Environment) (bs bs' : List Block)
    (xs xs' : List (IndexMap ℕ Variable S)) (n : ℕ) (i : Instr) →
    AssumptionMade t env n xs xs' i → BlockOpened e e' env bs bs' i → IsTaken t cl K e e' env env bs bs' xs xs' (step.Assume n)
assumption_taken t cl K e e' env bs bs' xs xs' n i made (l, blocks, variables, at, from, code, types, registers) q f z w w' kept (x, found, first, few, number) stands set short adv =
    let b = t.bank.now in
    let a = around_of b env in
    let m = made b x found (omega (arith, first, few)) in
    let here = kept (length xs) m.3 (ap (λ l. slice_get l (length xs)) m.8 ∙ at_end xs m.3) in
    let starts = starts_as a (levels_found a x.captured.keys) (started_at b m.3) (cl.starts n) (index_map_len m.3) (cl.counts n)
    (λ l. ap (λ k. cl.starts k l) number ∙ here.0 l) (ap cl.counts number ∙ here.1) m.9 in
    let many : l.variables ≡ length (map (seen b) env.own.items) = variables ∙ sym (map_length (seen b) env.own.items) in
    let y = assume_step (AssumedBy t cl) K t.type_vars e e' a bs bs' l (cl.clauses n) (t.first + x.first) x.count m.0 m.1 m.2
    (levels_found a x.captured.keys) (n, x, found, refl, m.5, refl, starts) m.7 m.6 m.5 blocks many
    (code ∙ ap (λ j. e.code.items ++ j ∷ []) m.4) types registers z w w' (subst (λ r. StandsAt (AssumedBy t cl) K t.type_vars z w a e r bs) (sym first) stands) set short adv in
    let last : t.first + x.first + x.count ≡ q + count_named (slice_get t.assumptions.now n) = (let c = ap count_named found in omega (arith, first, c)) in
    (subst (λ r. StandsAt (AssumedBy t cl) K t.type_vars z w' a e' r bs') last y.0, y.1, y.2)

-- all steps

-- steps so far
abbrev pub SoFar : {S : Type 0} → Tables → (K : ℕ → List Ty → Ty) → (e e' : Emitter) → (env env' : Environment) → (bs : List Block) → (xs xs' : List (IndexMap ℕ Variable S)) → List Step → Type 0
SoFar t K e e' env env' bs xs xs' steps =
    (cl : Suppositions) (q f : ℕ) (w : Walked) → HoldStarts t.bank.now xs' f cl → AreNext t q (f + length xs) steps → AreSet (around_of t.bank.now env) →
    new_level (around_of t.bank.now env) + length steps < 2 ^ 64 - 1 → advance_all (steps_of t.bank.now cl steps) (walked no_goals []) ≡ Some w →
    StandsAt (AssumedBy t cl) K t.type_vars (start_at (around_of t.bank.now env) e q) w (around_of t.bank.now env') e' (next_all t q steps) bs × AreSet (around_of t.bank.now env')
    × (new_level (around_of t.bank.now env') ≤ new_level (around_of t.bank.now env) + length steps)

pub no_steps_yet : {S : Type 0} (t : Tables) (K : ℕ → List Ty → Ty) (e : Emitter) (env : Environment) (bs : List Block)
    (xs : List (IndexMap ℕ Variable S)) → bs ≡ [] → SoFar t K e e env env bs xs xs []
no_steps_yet t K e env bs xs none cl q f w kept next set short adv =
    let a = around_of t.bank.now env in (
      subst (λ y. Stands (AssumedBy t cl) K t.type_vars (start_at a e q) y a e.types e.registers q e.code.items (marks bs)) (some_walked (walked no_goals []) w adv) (record {
        types = e.types;
        terms = e.registers;
        next = q;
        front = e.code.items;
        last = [];
        opens = (refl, refl, refl, refl, refl, ap marks none);
        goals_are = (refl, refl, refl, refl);
        no_sigma = tt;
        code_is = sym (append-nil e.code.items);
      }),
      set,
      omega arith,
    )

-- the last step apart

pub starts_cons : (t : Tables) (s : Step) (ss : List Step) → starts_all t (s ∷ ss) ≡ count_starts t s + starts_all t ss
starts_cons t s ss =
    let both = sum_by-append (count_starts t) (s ∷ []) ss in
    let one : sum_by (count_starts t) (s ∷ []) ≡ 0 + count_starts t s = refl in
    let z : starts_all t (s ∷ ss) ≡ count_starts t s + starts_all t ss = omega (arith, both, one) in
    z

next_last : (t : Tables) (q m : ℕ) (ss : List Step) (s : Step) → AreNext t q m (ss ++ s ∷ []) →
    AreNext t q m ss × IsNext t (next_all t q ss) (m + starts_all t ss) s × (next_all t q (ss ++ s ∷ []) ≡ next_of t (next_all t q ss) s)
next_last t q m [] s x = (tt, subst (λ k. IsNext t q k s) (let z : m ≡ m + sum_by (count_starts t) [] = (let y : sum_by (count_starts t) [] ≡ 0 = refl in omega (arith, y)) in z) x.0, refl)
next_last t q m (u ∷ us) s x =
    let y = next_last t (next_of t q u) (m + count_starts t u) us s x.1 in (
      (x.0, y.0),
      subst (λ k. IsNext t (next_all t (next_of t q u) us) k s) (let z : m + count_starts t u + starts_all t us ≡ m + starts_all t
          (u ∷ us) = (let c = starts_cons t u us in omega (arith, c)) in z) y.1,
      y.2,
    )

-- what is kept up to a step
held_before : {S : Type 0} (t : Tables) (xs xs' : List (IndexMap ℕ Variable S)) (f : ℕ) (s : Step) (cl : Suppositions) → StartsGrow t xs xs' s →
    HoldStarts t.bank.now xs' f cl → HoldStarts t.bank.now xs f cl
held_before t xs xs' f s cl (more, e, many, set) x i m at = x i m (ap (λ l. slice_get l i) e ∙ in_front xs more i m at)
  where
    in_front : {X : Type 0} (xs ys : List X) (i : ℕ) (x : X) → slice_get xs i ≡ Some x → slice_get (xs ++ ys) i ≡ Some x
    in_front [] ys i x at = absurd (cc)
    in_front (z ∷ zs) ys ℕ.zero x at = at
    in_front (z ∷ zs) ys (ℕ.suc i) x at = in_front zs ys i x at

pub starts_stay : {S : Type 0} (t : Tables) (xs : List (IndexMap ℕ Variable S)) (s : Step) → count_starts t s ≡ 0 → StartsGrow t xs xs s
starts_stay t xs s none = ([], sym (append-nil xs), sym none, All-nil (AreAllSet t.bank.now))

pub starts_none : {S : Type 0} (t : Tables) (xs : List (IndexMap ℕ Variable S)) → AllStartsGrow t xs xs []
starts_none t xs = ([], sym (append-nil xs), refl, All-nil (AreAllSet t.bank.now))

pub starts_more : {S : Type 0} (t : Tables) (xs ys zs : List (IndexMap ℕ Variable S)) (ss : List Step) (s : Step) → AllStartsGrow t xs ys ss →
    StartsGrow t ys zs s → AllStartsGrow t xs zs (ss ++ s ∷ [])
starts_more t xs ys zs ss s (more, e, m, set) (last, f, n, set2) =
    let z = sum_by-append (count_starts t) ss (s ∷ []) in
    let y = length-append more last in
    let one : sum_by (count_starts t) (s ∷ []) ≡ 0 + count_starts t s = refl in (
      more ++ last,
      f ∙ ap (λ l. l ++ last) e ∙ append_assoc xs more last,
      let q : length (more ++ last) ≡ starts_all t (ss ++ s ∷ []) = omega
          (arith, m, n, z, y, one) in q,
      All-append (AreAllSet t.bank.now) more last set set2,
    )

-- where it comes to before the last one
last_walked : (xs : List BodyStep) (x : BodyStep) (u w : Walked) → advance_all (xs ++ x ∷ []) u ≡ Some w → (y : Walked) × (advance_all xs u ≡ Some y) × (advance x y ≡ Some w)
last_walked [] x u w e = (u, refl, one (advance x u) e)
  where
    one : (o : Option Walked) → option_and_then (advance_all []) o ≡ Some w → o ≡ Some w
    one None q = q
    one (Some y) q = q
last_walked (s ∷ ss) x u w e = go (advance s u) refl (λ y f. last_walked ss x y w f)
  where
    go : (o : Option Walked) → advance s u ≡ o → ((y : Walked) → advance_all (ss ++ x ∷ []) y ≡ Some w → (k : Walked) × (advance_all ss y ≡ Some k) × (advance x k ≡ Some w)) →
        (y : Walked) × (advance_all (s ∷ ss) u ≡ Some y) × (advance x y ≡ Some w)
    go None f rec = absurd (no_walked w (sym (ap (option_and_then (advance_all (ss ++ x ∷ []))) f) ∙ e))
    go (Some y) f rec =
        let r = rec y (sym (ap (option_and_then (advance_all (ss ++ x ∷ []))) f) ∙ e) in
        (r.0, ap (option_and_then (advance_all ss)) f ∙ r.1, r.2)

pub step_more : {S : Type 0} (t : Tables) (K : ℕ → List Ty → Ty) (e mid e' : Emitter) (env here env' : Environment) (bs bs' : List Block)
    (xs ys zs : List (IndexMap ℕ Variable S)) (ss : List Step) (s : Step) →
    SoFar t K e mid env here bs xs ys ss × AllStartsGrow t xs ys ss → ((cl : Suppositions) → IsTaken t cl K mid e' here env' bs bs' ys zs s) → StartsGrow t ys zs s →
    SoFar t K e e' env env' bs' xs zs (ss ++ s ∷ []) × AllStartsGrow t xs zs (ss ++ s ∷ [])
step_more {S} t K e mid e' env here env' bs bs' xs ys zs ss s x y grown = (both, starts_more t xs ys zs ss s x.1 grown)
  where
    both : SoFar t K e e' env env' bs' xs zs (ss ++ s ∷ [])
    both cl q f w kept next set short adv =
        let b = t.bank.now in
        let l = next_last t q (f + length xs) ss s next in
        let many = length-append ss (s ∷ []) in
        let one : length (s ∷ []) ≡ 1 = refl in
        let r = last_walked (steps_of b cl ss) (step_of b cl s) (walked no_goals []) w (sym (ap (λ z. advance_all z (walked no_goals [])) (map-append (step_of b cl) ss (s ∷ []))) ∙ adv) in
        let front = held_before t ys zs f s cl grown kept in
        let before = x.0 cl q f r.0 front l.0 set (omega (arith, short, many)) r.1 in
        let low = before.2 in
        let longer = x.1.2 in
        let size : length ys ≡ length xs + length x.1.0 = ap length x.1.1 ∙ length-append xs x.1.0 in
        let number : f + length xs + starts_all t ss ≡ f + length ys = omega (arith, longer, size) in
        let after = y cl (next_all t q ss) f (start_at (around_of b env) e q) r.0 w kept (subst (λ k. IsNext t (next_all t q ss) k s) number l.1)
        before.0 before.1 (omega (arith, low, short, many, one)) r.2 in
        let high = after.2 in
        (subst (λ n. StandsAt (AssumedBy t cl) K t.type_vars (start_at (around_of b env) e q) w (around_of b env') e' n bs') (sym l.2) after.0, after.1, omega (arith, low, high, many, one))

pub steps_end : {S : Type 0} (t : Tables) (K : ℕ → List Ty → Ty) (e e' : Emitter) (env env' : Environment) (bs : List Block)
    (xs xs' : List (IndexMap ℕ Variable S)) (ss : List Step) → SoFar t K e e' env env' bs xs xs' ss →
    StepsWritten t K e e' env env' xs xs' ss
steps_end t K e e' env env' bs xs xs' ss x cl q f w kept next set short adv = (marks bs, (x cl q f w kept next set short adv).0)
