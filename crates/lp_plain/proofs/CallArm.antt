-- The turn of a call: its step, and then its first candidate.
use Rattle.std.proofs.Common.{◌≡◌, ℕ, suc, ◌<◌, ◌≤◌, List, [], ◌∷◌, ◌++◌, map, length, refl, sym, ap, inl, inr, ◌∙◌, subst, arith, Bool, false, Option, Some, nat_eq}
use Rattle.std.specs.Prelude.{if◌then◌else◌, ◌&&◌, nat_le, true}
use Rattle.std.proofs.lemmas.List.{length-map}
use Rattle.std.proofs.lemmas.Bool.{ne_eqb}
use Rattle.std.proofs.lemmas.Bool.Decides.{nat_tests}
use Rattle.std.specs.HashMap.{get}
use Rattle.lp_calculus.specs.Fill.{Within}
use Rattle.lp_calculus.specs.Term.{Term, index, atom, abs, app, constant, integer, text, eigen, logic, param}
use Rattle.lp_calculus.specs.Types.{instance}
use Rattle.lp_calculus.specs.Spine.{arguments, head_of}
use Rattle.lp_lemmas.specs.Each.{EachOf}
use Rattle.lp_standard.specs.Connectives.{connective_of}
use Rattle.lp_standard.specs.Connectives as connective
use Rattle.lp_standard.specs.Constants.{IsOrder, is_order}
use Rattle.lp_standard.specs.Numbers as number
use Rattle.lp_term.specs.Nodes.{Nodes, Extends, tree}
use Rattle.lp_term.specs.declared.node.TermId.{TermId}
use Rattle.lp_term.proofs.Trees.{extends_same, extends-trans}
use Rattle.lp_model.specs.Branch.{Answer, Branch, Entry, Go, Task}
use Rattle.lp_model.specs.Flat.{Clause, Clauses, clause}
use Rattle.lp_model.specs.Look.{head_normal}
use Rattle.lp_model.specs.Pair.{Closing, closed}
use Rattle.lp_model.specs.Search.{assigned, compared, equated, goal_looked, look, look_atom, look_constant, look_form, tries, with_goals}
use Rattle.lp_model.specs.Values.{evaluate}
use Rattle.lp_model.specs.Skeleton.{GoalName, GoalNote, Goes, Inner, Note, State, Takes, View, back, eigenconstant, move, move_at, move_view, named}
use Rattle.lp_model.specs.Unify.{unit_limit}
use Rattle.lp_pattern.specs.Putting.{Known}
use Rattle.lp_plain.specs.declared.form.Form.TheVariants as form
use Rattle.lp_plain.specs.declared.frame.Place.{Place}
use Rattle.lp_plain.specs.declared.head.Head.{Head}
use Rattle.lp_plain.specs.declared.head.Head.TheVariants as head
use Rattle.lp_plain.specs.declared.machine.Machine.{Machine}
use Rattle.lp_plain.specs.declared.outcome.Turn.{Turn}
use Rattle.lp_plain.specs.AtRunTime.{IsAtLooked, IsAtomForm}
use Rattle.lp_plain.specs.Assuming.{HasHead, head_term}
use Rattle.lp_plain.specs.Calling.{AreFewAt, CallLeads, HaveHeads, IsAtCall, IsProgramIn, LeadsOf, LeadsOver, LeadsWith, LeavesTries, WrittenBehind, no_tries, some_tries}
use Rattle.lp_plain.specs.Candidates.{IsIndex, numbers}
use Rattle.lp_plain.specs.Entries.{Around}
use Rattle.lp_plain.specs.Cuts.{one_step}
use Rattle.lp_plain.specs.Forms.{IsCall, IsFirst}
use Rattle.lp_plain.specs.Moving.{IsGoingOn, IsRunning, KeepsSearch, Leads, LeadsTo, Query, Tally, quiet, taking}
use Rattle.lp_plain.specs.Hearing.{form_name}
use Rattle.lp_plain.specs.Resuming.{clause_with}
use Rattle.lp_plain.specs.Starts.{AreProgramOf}
use Rattle.lp_plain.specs.Trials.{IsCallHead}
use Rattle.lp_plain.specs.Trying.{AreApplied, HasArity, all_clauses}
use Rattle.lp_plain.specs.TypedStates.{IsTypedOver}
use Rattle.lp_plain.specs.WrittenSearch.{IsWrittenSearch}
use Rattle.lp_plain.proofs.AtomMoves.{behind, by_seen, called_same, f, looked, same_or_abs}
use Rattle.lp_plain.proofs.AtomTurns.{left, place_stepped, stepped, steps_are}
use Rattle.lp_plain.proofs.FrontGoals.{IsFront, front_waits}
use Rattle.lp_plain.proofs.GoingOn.{step_counted}
use Rattle.lp_plain.proofs.Growing.{grows_kept}
use Rattle.lp_plain.proofs.KnownForms.{normal_within}
use Rattle.lp_plain.proofs.QuietMoves.{by_lost}
use Rattle.lp_plain.proofs.SeenGoals.{IsAbs}
use Rattle.lp_plain.proofs.TypedCalls.{front_applied, front_arity}
use Rattle.lp_plain.proofs.TypedMoves.{IsMoveTyped, typed_move}
use Rattle.lp_plain.proofs.WrittenSearches.{search_same}

at_least : (a b : ℕ) → nat_le a b ≡ true → a ≤ b
at_least a b e = grind (arith, nat_tests, e)

no_order : (c : ℕ) → (IsOrder c → ⊥) → is_order c ≡ false
no_order c h = go (nat_le number.Less c) (nat_le c number.AtLeast) refl refl
  where
    go : (x y : Bool) → nat_le number.Less c ≡ x → nat_le c number.AtLeast ≡ y → (x && y) ≡ false
    go false y p q = refl
    go true false p q = refl
    go true true p q = absurd (h (at_least number.Less c p, at_least c number.AtLeast q))

-- a call is none of the constants that are looked at by themselves
tried : (u n : ℕ) (P : List Clause) (height : ℕ) (e : Entry) (b : Branch) (t : Term) (c : ℕ) (ts : List Term) → IsCall c ts → look_constant u n P
    height e b t c ts ≡ tries P e b height (goal_looked n t)
tried u n P height e b t c [] h = refl
tried u n P height e b t c (l ∷ []) h = refl
tried u n P height e b t c (l ∷ r ∷ []) h =
    let x = equated u n e.level l r b in
    let y = assigned u n e.level l b (evaluate n r) in
    let v = compared c b (evaluate n l) (evaluate n r) in
    let w = tries P e b height (goal_looked n t) in
    ap (λ q. if q then x else (if nat_eq c number.Is then y else (if is_order c then v else w))) (ne_eqb c number.Equal h.0) ∙ ap
    (λ q. if q then y else (if is_order c then v else w)) (ne_eqb c number.Is h.1) ∙ ap (λ q. if q then v else w) (no_order c h.2)
tried u n P height e b t c (l ∷ r ∷ s ∷ ts) h = refl

-- the program stands while the bank grows
pub program_later : (m n : Machine) → Extends m.bank n.bank → n.table ≡ m.table → n.index ≡ m.index → (ar : ℕ → ℕ) (css : List Clauses) → IsProgramIn m ar css → IsProgramIn n ar css
program_later m n x et ei ar css r = record {
  has = λ b y.
      let p = r.has b (extends-trans m.bank n.bank b x y) in
      record {
        spans = p.spans;
        clauses = subst (λ t. AreProgramOf b t p.spans css) (sym et) p.clauses;
        index = subst (λ q. IsIndex b n.table.rules.items (λ j. get nat_eq q j) (numbers p.spans)) (sym ei)
            (subst (λ t. IsIndex b t.rules.items (λ j. get nat_eq m.index j) (numbers p.spans)) (sym et) p.index);
      };
  heads = r.heads;
  written = r.written;
  known = r.known;
}

-- what one move leads to two lead to, and W holds behind it
with_left : (W : Type 0) → W → (x : Tally) (qv : Query) (turn : Turn) (n : Machine) (go : (Answer → Bool) → State Task → Inner)
    (see : ℕ → Task → View Task Answer) (s : State Task) → Leads 0 x qv turn n go see s → LeadsWith W 0 x qv turn n go see s
with_left W w x qv turn n go see s (inl h) = inl (h, w)
with_left W w x qv turn n go see s (inr h) = inr h

pub leads_with : (W : Type 0) → W → (x : Tally) (qv : Query) (turn : Turn) (n : Machine) (go : (Answer → Bool) → State Task → Inner)
    (see : ℕ → Task → View Task Answer) (s : State Task) → Leads 1 x qv turn n go see s → LeadsWith W 1 x qv turn n go see s
leads_with W w x qv turn n go see s (inl h) = inl (h, w)
leads_with W w x qv turn n go see s (inr (inl h)) = inr (inl h)
leads_with W w x qv turn n go see s (inr (inr (y, z, t, q, e, a, g, h))) = inr (inr (y, z, t, q, e, a, g, with_left W w z qv turn n go see t h))

more_left : (W : Type 0) (x : Tally) (qv : Query) (turn : Turn) (n : Machine) (go : (Answer → Bool) → State Task → Inner) (see : ℕ → Task → View Task Answer)
    (s : State Task) → LeadsWith W 0 x qv turn n go see s → LeadsWith W 1 x qv turn n go see s
more_left W x qv turn n go see s (inl h) = inl h
more_left W x qv turn n go see s (inr h) = inr (inl h)

pub leads_more : (W : Type 0) (x : Tally) (qv : Query) (turn : Turn) (n : Machine) (go : (Answer → Bool) → State Task → Inner) (see : ℕ → Task → View Task Answer)
    (s : State Task) → LeadsWith W 1 x qv turn n go see s → LeadsWith W 2 x qv turn n go see s
leads_more W x qv turn n go see s (inl h) = inl h
leads_more W x qv turn n go see s (inr (inl h)) = inr (inl h)
leads_more W x qv turn n go see s (inr (inr (y, z, t, q, e, a, g, h))) = inr (inr (y, z, t, q, e, a, g, more_left W z qv turn n go see t h))

pub written_behind : (turn : Turn) (n : Machine) (ar : ℕ → ℕ) → IsWrittenSearch n ar → WrittenBehind turn n ar
written_behind Turn.On n ar w = w
written_behind Turn.Back n ar w = w
written_behind Turn.Answered n ar w = w
written_behind (Turn.Ended e) n ar w = tt

-- over one program, where all in the search is written behind it
pub over_next : (x : Tally) (qv : Query) (turn : Turn) (n : Machine) (s : State Task) (P : List Clause) → WrittenBehind turn n qv.arity →
    ((k : ℕ) → s.answers ≡ suc k → (go : (Answer → Bool) → State Task → Inner) (enough : ℕ) → AreFewAt turn enough s.stack → IsTypedOver qv.arity
    enough P s → Leads 1 x qv turn n go (look unit_limit enough P) s) → LeadsOver 2 x qv turn n s P
over_next x qv turn n s P wr l =
    λ w ea go enough few ty. leads_more (WrittenBehind turn n qv.arity) x qv turn n go (look unit_limit enough P) s
    (leads_with (WrittenBehind turn n qv.arity) wr x qv turn n go (look unit_limit enough P) s (l w ea go enough few ty))

pub over_one : (x : Tally) (qv : Query) (turn : Turn) (n : Machine) (s : State Task) → LeadsTo 1 x qv turn n s → WrittenBehind turn n qv.arity → (P : List Clause) → LeadsOver 2 x qv turn n s P
over_one x qv turn n s l wr P = over_next x qv turn n s P wr (λ w ea go enough few ty. l w ea go enough (λ e. (few e).0) P ty)

-- a move leads from a typed state to a typed one
typed_after : (ar : ℕ → ℕ) (enough : ℕ) (P : List Clause) (go : (Answer → Bool) → State Task → Inner) (s t : State Task) (k : ℕ) (ns : List Note) →
    move go (look unit_limit enough P) s ≡ Goes k ns t → IsTypedOver ar enough P s → IsTypedOver ar enough P t
typed_after ar enough P go s t k ns e ty = record {
  declared = ty.declared;
  takes = ty.takes;
  standard = ty.standard;
  program = ty.program;
  query = ty.query;
  typed = subst (IsMoveTyped enough ty.declared P ty.query) e (typed_move enough ty.declared P ty.query ty.standard ty.program go s ty.typed);
}

-- two moves, the first of which is the step: it leaves tries, or the search is to go back
step_then : (qv : Query) (turn : Turn) (n : Machine) (go : (Answer → Bool) → State Task → Inner) (see : ℕ → Task → View Task Answer)
    (s t : State Task) (note : Note) (ts rest : List Task) → t.stack ≡ ts ++ rest → move go see s ≡ Goes 1 (note ∷ back ts rest) t → t.answers ≡ s.answers → t.given ≡ s.given →
    LeavesTries qv turn n go see t ts → LeadsWith (WrittenBehind turn n qv.arity) 2 (taking note) qv turn n go see s
step_then qv turn n go see s t note [] rest st e a g (some_tries b bs q h) = absurd (cc)
step_then qv turn n go see s t note (b ∷ bs) rest st e a g (some_tries c cs q h) = inr (inr (taking note, quiet, t, refl, e, a, g, h))
step_then qv turn n go see s t note [] rest st e a g (no_tries q i h w) =
    subst (λ x. LeadsWith (WrittenBehind x n qv.arity) 2 (taking note) qv x n go see s) (sym i) (inl ((t, e ∙ ap (λ l. Goes 1 (note ∷ back [] l) t) (sym st), h, a, g), w))
step_then qv turn n go see s t note (b ∷ bs) rest st e a g (no_tries q i h w) = absurd (cc)

-- a call is one as the bindings read it
call_mapped : (g : Term → Term) (c : ℕ) (us : List Term) → IsCall c us → IsCall c (map g us)
call_mapped g c [] i = tt
call_mapped g c (a ∷ []) i = tt
call_mapped g c (a ∷ b ∷ []) i = i
call_mapped g c (a ∷ b ∷ d ∷ us) i = tt

-- the clauses that are assumed, as they stand in the bank: their heads name their clauses, and have as many types as they take
heads_named : (cs : List Clause) → EachOf HasHead cs → HaveHeads cs
heads_named [] h = tt
heads_named (clause n vs x b ∷ cs) h = (called (head_of x) h.0.0 h.0.1, heads_named cs h.1)
  where
    called : (t : Term) (hd : Head) → head_term t ≡ Some hd → IsCallHead t
    called (index i) hd e = absurd (cc)
    called (atom (constant c ts)) hd e = tt
    called (atom (integer z)) hd e = absurd (cc)
    called (atom (text s)) hd e = absurd (cc)
    called (atom (eigen k)) hd e = tt
    called (atom (logic x l)) hd e = absurd (cc)
    called (atom (param k t)) hd e = absurd (cc)
    called (abs b) hd e = absurd (cc)
    called (app f u) hd e = absurd (cc)

head_applied_in : (ar : ℕ → ℕ) (z : Closing) (t : Term) → IsCallHead (head_of t) → HasArity ar (head_of (closed z t)) → HasArity ar (head_of t)
head_applied_in ar z (index i) n h = tt
head_applied_in ar z (atom (constant c ts)) n h = sym (length-map ts (instance z.types)) ∙ h
head_applied_in ar z (atom (integer j)) n h = tt
head_applied_in ar z (atom (text s)) n h = tt
head_applied_in ar z (atom (eigen k)) n h = tt
head_applied_in ar z (atom (logic x l)) n h = tt
head_applied_in ar z (atom (param k t)) n h = tt
head_applied_in ar z (abs b) n h = tt
head_applied_in ar z (app f u) n h = head_applied_in ar z f n h

clauses_applied : (ar : ℕ → ℕ) (z : Closing) (cs : List Clause) → HaveHeads cs → AreApplied ar (map (clause_with (closed z) (instance z.types)) cs) → AreApplied ar cs
clauses_applied ar z [] n h = tt
clauses_applied ar z (clause k vs x b ∷ cs) n h = (head_applied_in ar z x n.0 h.0, clauses_applied ar z cs n.1 h.1)

module _ (qv : Query) (m c : Machine) (a : Around) (raw : Branch) (s : State Task) (h : IsRunning qv m a raw s) (p : Place) (u : TermId)
    (o : Option ℕ) (at : IsAtLooked m h.closing a p u o raw) (k : KeepsSearch m c o) (ch : c.choices ≡ m.choices)
    (ct : c.counts ≡ one_step m.counts) (there : m.counts.steps < m.counts.limit) (hd : Head) (first : Option TermId) (i : IsAtomForm m.bank (tree m.bank u.0) (form.Call hd first)) where
  abbrev F : IsFront qv m a raw s h p at.value at.rest
  F = f qv m a raw s h p u o at

  -- what the definition sees: the tries of the call
  module _ (enough : ℕ) (P : List Clause) (t : Term) (q : head_normal enough F.goal ≡ Some t) where
    pub record IsSeenCall : Type 0 where
      pub name : GoalName
      pub named : name ≡ form_name (form.Call hd first)
      pub view : look unit_limit enough P (length h.rest) (Go h.at_work) ≡ Takes name (tries P F.first (behind qv m a raw s h p u o at) (length h.rest) (goal_looked enough t))
      pub same : t ≡ closed h.closing (tree m.bank u.0)
      pub arity_is : HasArity qv.arity (head_of t) → HasArity qv.arity (head_of (tree m.bank u.0))

    no_abs_call : (x : Term) → head_of (tree m.bank u.0) ≡ x → IsCallHead x → IsAbs (tree m.bank u.0) → ⊥
    no_abs_call x e w j = subst IsCallHead (sym e ∙ ap head_of j.1) w

    same_term : (x : Term) → head_of (tree m.bank u.0) ≡ x → IsCallHead x → t ≡ closed h.closing (tree m.bank u.0)
    same_term x e w = elim (same_or_abs qv m a raw s h p u o at enough P t q) [
      | inl y ↦ y.0
      | inr y ↦ absurd (no_abs_call x e w y.0)
    ]

    form_view : (x : Term) → connective_of t ≡ connective.Atomic → head_of t ≡ x → look unit_limit enough P (length h.rest) (Go h.at_work) ≡ look_atom
        unit_limit enough P (length h.rest) F.first (behind qv m a raw s h p u o at) t x
    form_view x e w =
        looked qv m a raw s h p u o at enough P t q ∙ ap (look_form unit_limit enough P (length h.rest) F.first (behind qv m a raw s h p u o at) t) e ∙
        ap (look_atom unit_limit enough P (length h.rest) F.first (behind qv m a raw s h p u o at) t) w

    pub call_seen : IsSeenCall
    call_seen = by hd refl i
      where
        by : (v : Head) → v ≡ hd → IsAtomForm m.bank (tree m.bank u.0) (form.Call v first) → IsSeenCall
        by (head.Constant c) e (inl k) =
            let g = called_same qv m a raw s h p u o at enough P t q (atom (constant c k.1.0)) k.0 k.1.1 tt in
            record {
              name = named c;
              named = ap (λ v. form_name (form.Call v first)) e;
              view = form_view (closed h.closing (atom (constant c k.1.0))) g.0 g.1 ∙
                  ap (Takes (named c)) (tried unit_limit enough P (length h.rest) F.first (behind qv m a raw s h p u o at) t c (arguments t)
                  (subst (IsCall c) (sym g.2) (call_mapped (closed h.closing) c (arguments (tree m.bank u.0)) k.1.2)));
              same = same_term (atom (constant c k.1.0)) k.1.1 tt;
              arity_is = λ y. subst (HasArity qv.arity) (sym k.1.1) (sym (length-map k.1.0 (instance h.closing.types)) ∙ subst (HasArity qv.arity) g.1 y);
            }
        by (head.Eigen j) e (inl k) =
            let g = called_same qv m a raw s h p u o at enough P t q (atom (eigen j)) k.0 k.1.0 tt in
            record {
              name = eigenconstant j;
              named = ap (λ v. form_name (form.Call v first)) e;
              view = form_view (atom (eigen j)) g.0 g.1;
              same = same_term (atom (eigen j)) k.1.0 tt;
              arity_is = λ y. subst (HasArity qv.arity) (sym k.1.0) tt;
            }
        by (head.Constant c) e (inr k) = absurd (let z = k.1 in cc)
        by (head.Eigen j) e (inr k) = absurd (let z = k.1 in cc)

  -- the call behind its step
  abbrev OfBank : Nodes → Type 0
  OfBank b =
      (u.0 < length b.terms) × (head_term (head_of (tree b u.0)) ≡ Some hd) × IsCallHead (head_of (tree b u.0)) × HasArity qv.arity
      (head_of (tree b u.0)) × IsFirst b (arguments (tree b u.0)) first × ((v : TermId) → first ≡ Some v → v.0 < length b.terms) ×
      Within (Known h.levels raw.next) 0 (closed h.closing (tree b u.0))

  headed : (head_term (head_of (tree m.bank u.0)) ≡ Some hd) × IsCallHead (head_of (tree m.bank u.0)) × IsFirst m.bank (arguments (tree m.bank u.0)) first
  headed = by hd i
    where
      by : (hd : Head) → IsAtomForm m.bank (tree m.bank u.0) (form.Call hd first) → (head_term (head_of (tree m.bank u.0)) ≡ Some hd) × IsCallHead
          (head_of (tree m.bank u.0)) × IsFirst m.bank (arguments (tree m.bank u.0)) first
      by (head.Constant j) (inl y) = (ap head_term y.1.1, subst IsCallHead (sym y.1.1) tt, y.1.3)
      by (head.Eigen j) (inl y) = (ap head_term y.1.0, subst IsCallHead (sym y.1.0) tt, y.1.1)
      by (head.Constant j) (inr y) = absurd (let z = y.1 in cc)
      by (head.Eigen j) (inr y) = absurd (let z = y.1 in cc)

  heads : HaveHeads (a.assumed p.assumed)
  heads = heads_named (a.assumed p.assumed) at.place.assumed.0

  module _ (inside : (v : TermId) → first ≡ Some v → v.0 < length m.bank.terms) where
    abbrev g : IsGoingOn qv c a (with_goals raw at.rest) (behind qv m a raw s h p u o at) h.rest
    g = stepped qv m c a raw s h p u o at k ch ct there

    at_call : AreApplied qv.arity (a.assumed p.assumed) → HasArity qv.arity (head_of (tree m.bank u.0)) → Within (Known h.levels raw.next) 0
        (closed h.closing (tree m.bank u.0)) → IsAtCall qv c a p u hd first h.closing h.levels raw.next F.first
    at_call applied arity known =
        let w = subst OfBank (sym k.goals.known.bank) (at.within, headed.0, headed.1, arity, headed.2, inside, known) in
        record {
          place = place_stepped qv m c a raw s h p u o at k ch ct there;
          at_place = record { assumed = F.entry.place.assumed; written = F.entry.place.written; level = F.entry.place.level };
          within = w.0;
          head_is = w.1;
          called = w.2;
          arity = w.3;
          first_is = w.4;
          first_within = w.5;
          known = w.6;
          assumed_known = F.known.0.1;
          written_known = F.known.0.2;
          heads = heads;
          applied = applied;
        }

    -- the turn of the call, over the program of the search
    pub call_leads : (n : Machine) (turn : Turn) → CallLeads c n p u hd first o turn → c.branch.goals ≡ o → LeadsOf (taking (GoalNote (form_name (form.Call hd first)))) m n qv turn s
    call_leads n turn leads front css r sw = λ w ea go enough few ty.
        let P = all_clauses css in
        let see = look unit_limit enough P in
        let work = behind qv m a raw s h p u o at in
        let l = left qv m c a raw s h p u o at k ch ct there in
        by_seen qv m a raw s h p u o at enough P (LeadsWith (WrittenBehind turn n qv.arity) 2 (taking (GoalNote (form_name (form.Call hd first)))) qv turn n go see s)
        (λ e. inr (inl (front_waits qv m a raw s h p at.value at.rest F enough P w ea go e))) (λ t q.
        let seen = call_seen enough P t q in
        let x = tree m.bank u.0 in
        let known = subst (Within (Known h.levels raw.next) 0) seen.same (normal_within (Known h.levels raw.next) 0 enough F.goal t q F.goal_known) in
        let applied = clauses_applied qv.arity h.closing (a.assumed p.assumed) heads
        (subst (AreApplied qv.arity) F.entry.place.assumed (front_applied qv.arity enough P s ty h.at_work h.rest h.stack F.first F.rest F.whole))
        in
        let ts = tries P F.first work (length h.rest) (goal_looked enough t) in
        let after : State Task = record { steps = l; answers = suc w; given = s.given; rows = s.rows; row = s.rows; lost = s.lost; stack = ts ++ h.rest } in
        let first_move : move go see s ≡ Goes 1 (GoalNote seen.name ∷ back ts h.rest) after =
        (λ i. move_at go see (steps_are qv m c a raw s h p u o at k ch ct there i) (ea i) s.given s.rows s.row s.lost (h.stack i)) ∙ by_lost go see
        (suc l) w s.given s.rows s.row s.lost (Go h.at_work) h.rest ∙
        ap (move_view go (suc l) w s.given s.rows s.row s.lost h.rest) seen.view in
        let moved : closed h.closing x ≡ closed h.closing (tree c.bank u.0) = ap (λ b. closed h.closing (tree b u.0)) (sym k.goals.known.bank) in
        step_then qv turn n go see s after (GoalNote (form_name (form.Call hd first))) ts h.rest refl (first_move ∙ ap (λ v. Goes 1 (GoalNote v ∷ back ts h.rest) after) seen.named) (sym ea) refl
        (leads front qv a (with_goals raw at.rest) work h.rest g F.first (at_call applied
        (seen.arity_is (front_arity qv.arity enough P s ty h.at_work h.rest h.stack F.first F.rest F.whole F.goal t enough F.is q)) known) css
        (program_later m c (subst (Extends m.bank) (sym k.goals.known.bank) (extends_same m.bank)) k.goals.known.table k.goals.known.index
        qv.arity css r)
        (search_same m c h.above.done.stands (grows_kept m c k.goals) k.frames k.assumed (ap (λ v. v.items) ch) qv.arity sw) after w refl
        (step_counted qv m c a raw s h ct (suc w) (ts ++ h.rest)) go enough (λ d. (few d).0)
        (typed_after qv.arity enough P go s after 1 (GoalNote seen.name ∷ back ts h.rest) first_move ty)
        ts (ap (λ y. tries P F.first work (length h.rest) (goal_looked enough y)) (seen.same ∙ moved)) refl))
