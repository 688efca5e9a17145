-- No alternative of a negated goal's search is left: the search that waited goes on behind the goal, or the goal is open, where a cut removed an alternative.
use Rattle.std.specs.Global.{Global}
use Rattle.std.proofs.Common.{◌≡◌, ℕ, suc, ◌+◌, ◌≤◌, List, [], ◌∷◌, ◌++◌, length, take, drop, inl, inr, refl, sym, ap, ◌∙◌, subst, arith, Bool, true, false, Option, None, Some}
use Rattle.std.specs.Prelude.{Vec, slice_get}
use Rattle.std.proofs.lemmas.List.{length-append}
use Rattle.lp_lemmas.proofs.Lists.{get_push}
use Rattle.lp_lemmas.proofs.Numbers.{equal_or_above}
use Rattle.lp_model.specs.Branch.{Answer, Go, Task}
use Rattle.lp_model.specs.Flat.{Clause}
use Rattle.lp_model.specs.Search.{look}
use Rattle.lp_model.specs.Skeleton.{Inner, State, Stops, move, move_at}
use Rattle.lp_model.specs.Unify.{unit_limit}
use Rattle.lp_model.specs.declared.ending.Ending.TheVariants.{OpenNot}
use Rattle.lp_pattern.proofs.Keeps.{goes_on_same}
use Rattle.lp_plain.specs.declared.choice.Choice.{Choice}
use Rattle.lp_plain.specs.declared.choice.Denial.{Denial}
use Rattle.lp_plain.specs.declared.choice.Untried.{Untried}
use Rattle.lp_plain.specs.declared.machine.Machine.{Machine}
use Rattle.lp_plain.specs.declared.outcome.Turn.{Turn}
use Rattle.lp_plain.specs.Denials.{IsRefutedBy, IsRefutedTurn, goes_around, waiting_query, woken}
use Rattle.lp_plain.specs.Moving.{AreAlternatives, IsBack, IsOuter, IsState, Query, Waiting, mark_in, way_back}
use Rattle.lp_plain.specs.Restoring.{IsTaken}
use Rattle.lp_plain.specs.Searching.{StandForAll, StandsFor, a_side, last_ending, some_tries}
use Rattle.lp_plain.specs.Stacks.{base_of, stack_of}
use Rattle.lp_plain.proofs.BackMoves.{no_tasks, side_state}
use Rattle.lp_plain.proofs.Backwards.{stops_so}
use Rattle.lp_plain.proofs.Bounds.{split_newest}
use Rattle.lp_plain.proofs.Elsewhere.{waiting_alternatives}
use Rattle.lp_plain.proofs.HeldMoves.{IsWithin, within_of}
use Rattle.lp_plain.proofs.QuietMoves.{drop_push}
use Rattle.lp_plain.proofs.Restored.{goes_back}
use Rattle.lp_plain.specs.Entries.{KeepsGoals}
use Rattle.lp_plain.specs.Assuming.{KeepsAssumed}

drop_past : {X : Type 0} (xs : List X) (x : X) → drop (suc (length xs)) (xs ++ x ∷ []) ≡ []
drop_past [] x = refl
drop_past (y ∷ xs) x = drop_past xs x

take_past : {X : Type 0} (xs : List X) (x : X) → take (length xs) (xs ++ x ∷ []) ≡ xs
take_past [] x = refl
take_past (y ∷ xs) x = ap (λ l. y ∷ l) (take_past xs x)

-- a vector with as many other items
abbrev with_items : (v : Vec Choice Global) (xs : List Choice) → length v.items ≡ length xs → Vec Choice Global
with_items v xs e = record { ptr = v.ptr; len = v.len; cap = v.cap; alloc = v.alloc; items = xs; ok = (v.ok.0 ∙ e, v.ok.1); small = v.small }

base_some : (o : Option ℕ) (n : ℕ) → base_of o ≡ suc n → o ≡ Some n
base_some None n e = absurd (omega (arith, e))
base_some (Some k) n e = ap Some (let q : k ≡ n = omega (arith, e) in q)

module _ (qv : Query) (m : Machine) (s : State Task) (h : IsBack qv m s) (rest : List Choice) (last : Choice) (e : m.choices.items ≡ rest ++ last ∷ []) where
  -- an alternative of the search at work is none of a negated goal
  denied_last : (d : Denial) → last.untried ≡ Untried.Denied d → base_of m.denied ≤ length rest → ⊥
  denied_last d u l =
      let base = base_of m.denied in
      let f = mark_in base h.above.raws in
      let whole : drop base m.choices.items ≡ drop base rest ++ last ∷ [] = ap (drop base) e ∙ drop_push base rest last l in
      let sp = split_newest qv m h.around f base base (drop base rest) last 0 h.above.raws h.above.others (subst (λ z. StandForAll m h.around z 0 h.above.raws) whole h.above.done.alternatives)
      (subst (λ z. AreAlternatives qv m f base base z h.above.raws h.above.others) whole h.above.are) in
      go sp.last
    where
      go : {n : ℕ} {ts : List Task} → StandsFor m h.around last n ts → ⊥
      go (a_side b x y w) = let j = y.left in cc
      go (some_tries t x b y cs kp at w) = let j = at.left in cc

  last_base : base_of m.denied ≤ suc (length rest)
  last_base = let l = h.above.done.base in let c : length m.choices.items ≡ length rest + 1 = ap length e ∙ length-append rest (last ∷ []) in omega (arith, l, c)

  pub inside_last : (d : Denial) → last.untried ≡ Untried.Denied d → m.denied ≡ Some (length rest)
  inside_last d u = elim (equal_or_above (base_of m.denied) (suc (length rest)) last_base) [
    | inl q ↦ base_some m.denied (length rest) (sym q)
    | inr l ↦ absurd (denied_last d u (omega (arith, l)))
  ]

  -- and where the newest alternative is none of a negated goal, it is one of the search at work
  pub last_above : ((d : Denial) → last.untried ≡ Untried.Denied d → ⊥) → base_of m.denied ≤ length rest
  last_above f = elim (equal_or_above (base_of m.denied) (suc (length rest)) last_base) [
    | inl q ↦
        (let w = within_of qv.arity m h.around m.denied (length rest) qv.outer (base_some m.denied (length rest) (sym q)) h.above.inside.outer in
        let same : w.is.choice ≡ last = (let p : Some w.is.choice ≡ Some last = sym w.is.there ∙ ap (λ z. slice_get z (length rest)) e ∙ get_push rest last in cc) in
        absurd (f w.denial (ap (λ z. z.untried) (sym same) ∙ w.is.denied)))
    | inr l ↦ omega (arith, l)
  ]

  module _ (inside : m.denied ≡ Some (length rest)) where
    none : drop (base_of m.denied) m.choices.items ≡ []
    none = (λ i. drop (base_of (inside i)) (e i)) ∙ drop_past rest last

    stack_none : s.stack ≡ []
    stack_none =
        let b = base_of m.denied in
        h.above.is ∙ ap stack_of (no_tasks qv m (mark_in b h.above.raws) b b (drop b m.choices.items) h.above.raws h.above.others none h.above.are)

    stops_at : (lost : Bool) → m.counts.lost ≡ lost → (k : ℕ) → s.answers ≡ suc k → (go : (Answer → Bool) → State Task → Inner) (enough : ℕ)
        (P : List Clause) → move go (look unit_limit enough P) s ≡ Stops (last_ending lost)
    stops_at lost l k ea go enough P =
        (λ i. move_at go (look unit_limit enough P) s.steps (ea i) s.given s.rows s.row ((h.counted.lost ∙ l) i) (stack_none i)) ∙ stops_so go
        (look unit_limit enough P) s.steps k s.given s.rows s.row lost

    within : IsWithin qv.arity m h.around (length rest) qv.outer
    within = within_of qv.arity m h.around m.denied (length rest) qv.outer inside h.above.inside.outer

    abbrev w : Waiting
    w = within.waiting

    by_lost : (turn : Turn) (n : Machine) (lost : Bool) → m.counts.lost ≡ lost → IsRefutedTurn lost turn n qv.arity s within.waiting within.others → IsRefutedBy qv turn n s
    by_lost turn n lost l c = record { waiting = within.waiting; others = within.others; outer = within.outer; lost = lost; stops = stops_at lost l; comes = c }

    -- a cut removed one
    pub refuted_open : (n : Machine) → m.counts.lost ≡ true → IsRefutedBy qv (Turn.Ended OpenNot) n s
    refuted_open n l = by_lost (Turn.Ended OpenNot) n true l tt

    -- none was removed: the search that waited goes back to the goals behind
    module _ (t : Machine) (taken : IsTaken m t last rest) where
      abbrev o : IsOuter qv.arity m h.around (length rest) within.denial within.waiting within.others
      o = within.is

      abbrev d : Denial
      d = within.denial

      same_last : within.is.choice ≡ last
      same_last = let p : Some within.is.choice ≡ Some last = sym within.is.there ∙ ap (λ z. slice_get z (length rest)) e ∙ get_push rest last in cc

      abbrev led : Choice
      led = way_back within.is.choice within.denial

      older : take (length rest) m.choices.items ≡ rest
      older = ap (take (length rest)) e ∙ take_past rest last

      count : length m.choices.items ≡ length (take (length rest) m.choices.items ++ led ∷ [])
      count =
          let x = ap length e ∙ length-append rest (last ∷ []) in
          let y = length-append (take (length rest) m.choices.items) (led ∷ []) in
          let z = ap length older in
          omega (arith, x, y, z)

      -- the search that waits, with the alternative that leads back as one of its own
      abbrev x : Machine
      x = record m { choices = with_items m.choices (take (length rest) m.choices.items ++ led ∷ []) count; denied = within.denial.around; counts = record m.counts { lost = within.denial.lost } }

      waiting_back : IsBack (waiting_query qv.arity w within.others) x (woken w s.steps s.row (Go w.branch ∷ w.rest))
      waiting_back = record {
        around = h.around;
        above = waiting_alternatives qv m x h.around s.stack h.above (length rest) within.denial w within.others within.is within.more refl refl;
        counted = record { steps = h.counted.steps; rows = refl; row = h.counted.row; lost = within.is.lost };
      }

      -- back at it
      abbrev back : Machine
      back = record t { denied = within.denial.around; counts = record m.counts { lost = within.denial.lost } }

      led_taken : IsTaken x back led rest
      led_taken = subst (λ c. IsTaken x back (way_back c within.denial) rest) (sym same_last) (record {
        frames = taken.frames;
        blocks = taken.blocks;
        values = taken.values;
        assumptions = taken.assumptions;
        newest = taken.newest;
        standings = taken.standings;
        bound_terms = taken.bound_terms;
        bound_types = taken.bound_types;
        bank = taken.bank;
        table = taken.table;
        index = taken.index;
        next = taken.next;
        next_type = taken.next_type;
        pairs = taken.pairs;
        choices = taken.choices;
        counts = refl;
        denied = refl;
      })

      abbrev here : Machine
      here = record back { branch = record t.branch { goals = within.denial.behind } }

      keeps : KeepsGoals back here
      keeps = record { known = record { bank = refl; bindings = refl; scopes = refl; table = refl; standings = refl; index = refl }; frames = goes_on_same t.frames.items }

      assumes : KeepsAssumed back here
      assumes = record { assumptions = refl; newest = refl }

      state : IsState (waiting_query qv.arity w within.others) here (woken w s.steps s.row (Go w.branch ∷ w.rest))
      state =
          side_state (waiting_query qv.arity w within.others) x back here led rest within.denial.behind (ap (λ l. l ++ led ∷ []) older) refl (let l = within.is.low in l) led_taken
          (goes_back x back here led rest within.denial.behind refl led_taken keeps refl refl refl refl refl refl) keeps assumes refl refl (woken w s.steps s.row (Go w.branch ∷ w.rest)) waiting_back

      pub refuted_goes : (n : Machine) (v : Denial) → last.untried ≡ Untried.Denied v → n ≡ goes_around t v → m.counts.lost ≡ false → IsRefutedBy qv Turn.On n s
      refuted_goes n v u q l =
          let same : v ≡ within.denial = (let p : Untried.Denied v ≡ Untried.Denied within.denial = sym u ∙ ap (λ z. z.untried) (sym same_last) ∙ within.is.denied in cc) in
          let k : here ≡ goes_around t within.denial = ap (λ z. record t {
            denied = within.denial.around;
            counts = record z
                { lost = within.denial.lost };
            branch = record t.branch { goals = within.denial.behind };
          }) (sym taken.counts) in
          by_lost Turn.On n false l (subst (λ z. IsState (waiting_query qv.arity w within.others) z (woken w s.steps s.row (Go w.branch ∷ w.rest))) (k ∙ ap (goes_around t) (sym same) ∙ sym q) state)

-- by whether a cut had removed an alternative
pub by_end : (qv : Query) (m : Machine) (s : State Task) (h : IsBack qv m s) (last : Choice) (rest : List Choice)
    (e : m.choices.items ≡ rest ++ last ∷ []) (t : Machine) → IsTaken m t last rest → (n : Machine) (d : Denial) →
    last.untried ≡ Untried.Denied d → n ≡ goes_around t d → (turn : Turn) (lost : Bool) → t.counts.lost ≡ lost → m.counts.lost ≡ t.counts.lost →
    (t.counts.lost ≡ true → turn ≡ Turn.Ended OpenNot) → (t.counts.lost ≡ false → turn ≡ Turn.On) → IsRefutedBy qv turn n s
by_end qv m s h last rest e t tk n d u only turn true l q cut holds =
    subst (λ x. IsRefutedBy qv x n s) (sym (cut l)) (refuted_open qv m s h rest last e (inside_last qv m s h rest last e d u) n (q ∙ l))
by_end qv m s h last rest e t tk n d u only turn false l q cut holds =
    subst (λ x. IsRefutedBy qv x n s) (sym (holds l)) (refuted_goes qv m s h rest last e (inside_last qv m s h rest last e d u) t tk n d u only (q ∙ l))
