-- A unification in front of the goals behind an atom, as moves of the definition.
use Rattle.std.proofs.Common.{◌≡◌, ◌≤◌, ℕ, suc, List, [], ◌∷◌, ◌++◌, length, refl, sym, ap, ◌∙◌, subst, arith, Option, None, Some, Bool}
use Rattle.lp_calculus.specs.Fill.{Within}
use Rattle.lp_calculus.specs.Types.{var}
use Rattle.lp_model.specs.Branch.{Answer, Branch, Go, Task, resume}
use Rattle.lp_model.specs.Flat.{Clause}
use Rattle.lp_model.specs.Pair.{Closing, closed}
use Rattle.lp_model.specs.Search.{follow, look, types_from, vars_from}
use Rattle.lp_model.specs.Skeleton.{GoalName, GoalNote, Inner, State, Takes, View}
use Rattle.lp_model.specs.Types.{put_types}
use Rattle.lp_model.specs.Unify.{State as Solved, Unified as Outcome, Fail, Solution, Spent, unit_limit}
use Rattle.lp_model.specs.declared.ending.Ending.TheVariants.{Deep}
use Rattle.lp_pattern.specs.Growing.{GoesOn}
use Rattle.lp_pattern.specs.Putting.{Known}
use Rattle.lp_pattern.specs.Turning.{IsOpenReading}
use Rattle.lp_pattern.specs.Unifying.{IsFound}
use Rattle.lp_plain.specs.declared.frame.Place.{Place}
use Rattle.lp_plain.specs.declared.machine.Machine.{Machine}
use Rattle.lp_plain.specs.declared.outcome.Turn.{Turn}
use Rattle.lp_plain.specs.declared.unified.Unified.{Unified}
use Rattle.lp_plain.specs.Assuming.{GrowsAt, IsPlaceAt, lists_of}
use Rattle.lp_plain.specs.Entries.{Around, GrowsGoals, Reads}
use Rattle.lp_plain.specs.Moving.{AreEntriesUnder, AreFew, HasAlternatives, IsGoingOn, IsBranchUnder, IsCounted, IsState, Leads, Query, mark_in, taking, turn_for}
use Rattle.lp_plain.specs.Resuming.{AllTerms, AreKnownEntries}
use Rattle.lp_plain.specs.Stacks.{base_of}
use Rattle.lp_plain.specs.Unifying.{IsBoundIn, IsUnifiedAs, StandPairs}
use Rattle.lp_pattern.proofs.Keeps.{goes_on_same}
use Rattle.lp_plain.proofs.AboveUnder.{still_all, still_done, still_turn}
use Rattle.lp_plain.proofs.Grown.{grown_on, grown_still, placed_on, same_around}
use Rattle.lp_plain.proofs.Growing.{reads_later}
use Rattle.lp_plain.proofs.Inside.{inside_still}
use Rattle.lp_plain.proofs.Opening.{bank_stands}
use Rattle.lp_plain.proofs.Resumed.{variable_behind}
use Rattle.lp_plain.proofs.ResumedUnder.{known_behind, resumed_under, terms_known, types_behind, values_behind}
use Rattle.lp_plain.proofs.TaskMoves.{fails, goes, lacks, stops}
use Rattle.lp_plain.proofs.TryGrows.{bound_more}

module _ (qv : Query) (m n : Machine) (a : Around) (raw rest : Branch) (below : List Task) (h : IsGoingOn qv m a raw rest below) (p : Place)
    (pl : IsPlaceAt (lists_of m) a p) (b : IsBoundIn m n) (residual : StandPairs m → StandPairs n) where
  grows : GrowsGoals m n
  grows =
      let g = bound_more m n b in
      record { bank = g.bank; table = g.table; frames = subst (λ v. GoesOn m.frames.items v.items) (sym b.frames) (goes_on_same m.frames.items); blocks = g.blocks; values = g.values }

  grown : GrowsAt m n p
  grown = grown_still m n p grows b.frames (record { assumptions = b.assumptions; newest = b.newest }) b.standings b.index b.denied

  abbrev above : HasAlternatives qv n a below
  above =
      let st = h.above.done.stands in
      let sn = bank_stands m n b.bank b.table b.frames b.scopes st in
      let gr = grown_on m n p grown in
      let lt = same_around (length m.newest.items) (length m.standings.items) a in
      let ch = ap (λ v. v.items) b.choices in
      record {
        raws = h.above.raws;
        others = h.above.others;
        done = still_done qv m n a a st sn gr lt b.bindings below h.above ch;
        numbers = h.above.numbers;
        are = still_all qv m n a a st sn gr lt b.bindings below h.above ch;
        in_turn = still_turn qv m n a a st sn gr lt b.bindings below h.above ch;
        is = h.above.is;
        inside = inside_still qv m n a a st gr lt b.bindings h.above.inside h.above.done.base ch;
      }

  -- behind a solution no type variable is bound that is still to come
  abbrev pub StaysFree : Solved → Type 0
  StaysFree st = (c : Closing) → ((x : ℕ) → c.types x ≡ put_types st.types (h.closing.types x)) → (x : ℕ) → n.branch.next_type ≤ x → c.types x ≡ var x

  -- a solution
  module _ (st : Solved) (z : Closing) (reading : IsOpenReading n.bank n.bindings n.branch.next z) (found : IsFound h.levels m.branch.next h.closing n.bank n.branch.next n.branch.pairs.items z st)
      (free : (x : ℕ) → n.branch.next_type ≤ x → z.types x ≡ var x) where
    abbrev base : ℕ
    base = base_of m.denied

    abbrev f : ℕ → ℕ
    f = mark_in base h.above.raws

    abbrev now : Branch
    now = record { next = n.branch.next; next_type = n.branch.next_type; goals = raw.goals; types = raw.types; values = raw.values; pairs = raw.pairs }

    known : AreKnownEntries h.levels m.branch.next h.closing raw.goals
    known = subst (λ i. AreKnownEntries h.levels i h.closing raw.goals) (sym h.next) h.under.known.goals

    values_known : AllTerms (λ d t. Within (Known h.levels m.branch.next) d (closed h.closing t)) 0 (vars_from qv.vars 0)
    values_known = subst (λ i. AllTerms (λ d t. Within (Known h.levels i) d (closed h.closing t)) 0 (vars_from qv.vars 0)) (sym h.next) h.under.known.values

    under : IsBranchUnder qv found.levels' n.bank z f base (length n.choices.items) n.branch.pairs.items now (resume rest st)
    under = record {
      goals = subst (λ c. AreEntriesUnder z f base (length c.items) raw.goals (resume rest st).goals) (sym b.choices)
          (resumed_under h.levels m.branch.next h.closing n.bank n.branch.next n.branch.pairs.items z st found f base (length m.choices.items) raw.goals rest.goals known h.under.goals);
      next = sym found.last;
      next_type = h.under.next_type ∙ sym h.next_type ∙ sym b.next_type;
      types = types_behind h.levels m.branch.next h.closing n.bank n.branch.next n.branch.pairs.items z st found (types_from qv.types 0) rest.types h.under.types;
      values = values_behind h.levels m.branch.next h.closing n.bank n.branch.next n.branch.pairs.items z st found (vars_from qv.vars 0) rest.values values_known h.under.values;
      pairs = found.left;
      known = record {
        goals = known_behind h.levels m.branch.next h.closing n.bank n.branch.next n.branch.pairs.items z st found raw.goals known;
        values = terms_known h.levels m.branch.next h.closing n.bank n.branch.next n.branch.pairs.items z st found (vars_from qv.vars 0) values_known;
        pairs = found.known;
        free = free;
      };
    }

    goes_on : (t : State Task) → t.stack ≡ Go (resume rest st) ∷ below → IsCounted n t → IsState qv n t
    goes_on t et ct = record {
      around = a;
      raw = now;
      goals = subst (λ o. Reads n a o raw.goals) (sym b.goals) (reads_later m n h.above.done.stands grows a m.branch.goals raw.goals h.goals);
      running = record {
        at_work = resume rest st;
        rest = below;
        stack = et;
        above = above;
        placed = placed_on m n a p grown h.above.done.stands h.placed pl;
        next = refl;
        next_type = refl;
        closing = z;
        reading = reading;
        left = residual h.left;
        levels = found.levels';
        under = subst (λ d. IsBranchUnder qv found.levels' n.bank z (mark_in (base_of d) h.above.raws) (base_of d) (length n.choices.items)
            n.branch.pairs.items now (resume rest st)) (sym b.denied) under;
        counted = ct;
      };
    }

  -- the atom takes a step
  module _ (s : State Task) (w j : ℕ) (ea : s.answers ≡ suc w) (es : s.steps ≡ suc j) (go : (Answer → Bool) → State Task → Inner) (enough : ℕ)
      (P : List Clause) (name : GoalName) (task : Task) (tasks : List Task)
      (stack : s.stack ≡ task ∷ below) (seen : look unit_limit enough P (length below) task ≡ Takes name tasks) where
    abbrev see : ℕ → Task → View Task Answer
    see = look unit_limit enough P

    abbrev after : List Task → State Task
    after ts = record { steps = j; answers = suc w; given = s.given; rows = s.rows; row = s.rows; lost = s.lost; stack = ts ++ below }

    module _ (counted : (ts : List Task) → IsCounted n (after ts)) where
      pub none_left : tasks ≡ [] → Leads 1 (taking (GoalNote name)) qv Turn.Back n go see s
      none_left e = fails qv n below s w j ea es go enough P name task tasks stack seen e (record { around = a; above = above; counted = counted [] })

      by_outcome : (u : Unified) (x : Option Outcome) → AreFew (turn_for u) enough → tasks ≡ follow rest x →
          ((y : Outcome) → x ≡ Some y → IsUnifiedAs u h.levels m.branch.next h.closing n enough y) →
          ((st : Solved) → x ≡ Some (Solution st) → StaysFree st) →
          Leads 1 (taking (GoalNote name)) qv (turn_for u) n go see s
      by_outcome u None few e k free = lacks qv n below s w j ea es go enough P name task tasks stack seen e (turn_for u)
      by_outcome Unified.Fits (Some Fail) few e k free = absurd (let z = k Fail refl in z)
      by_outcome Unified.Fits (Some Spent) few e k free = absurd (let z = k Spent refl in z)
      by_outcome Unified.Fits (Some (Solution st)) few e k free =
          let y = k (Solution st) refl in
          goes qv n below s w j ea es go enough P name task tasks stack seen (resume rest st) e
          (goes_on st y.0 y.1 y.2 (free st refl y.0 (variable_behind h.levels m.branch.next h.closing n.bank n.branch.next n.branch.pairs.items
          y.0 st y.2)) (after (Go (resume rest st) ∷ [])) refl (counted (Go (resume rest st) ∷ [])))
      by_outcome Unified.Fails (Some y) few e k free = none_left (e ∙ ap (λ q. follow rest (Some q)) (k y refl))
      by_outcome Unified.Deep (Some y) few e k free = stops qv n below s w j ea es go enough P name task tasks stack seen Deep
          (e ∙ ap (λ q. follow rest (Some q)) (k y refl (let l = few refl in omega (arith, l))))

      pub unified_leads : (u : Unified) → AreFew (turn_for u) enough → (o : Option Outcome) → tasks ≡ follow rest o →
          ((y : Outcome) → o ≡ Some y → IsUnifiedAs u h.levels m.branch.next h.closing n enough y) →
          ((st : Solved) → o ≡ Some (Solution st) → StaysFree st) →
          Leads 1 (taking (GoalNote name)) qv (turn_for u) n go see s
      unified_leads u few o e k free = by_outcome u o few e k free
