-- A turn that is some moves of the definition: what is told next comes of the state behind it.
use Rattle.std.proofs.Common.{◌≡◌, ◌⊎◌, ℕ, zero, suc, ◌+◌, ◌-◌, ◌≤◌, List, [], ◌∷◌, ◌++◌, refl, sym, ap, inl, inr, ◌∙◌, subst, arith, Option, Some}
use Rattle.std.proofs.lemmas.List.{append_assoc}
use Rattle.std.specs.Prelude.{Bool}
use Rattle.lp_model.specs.declared.ending.Ending.{Ending}
use Rattle.lp_model.specs.declared.ending.Ending.TheVariants.{NoMore, NoMoreCut, Enough, Steps, Flexible, Arithmetic, OpenNot, Deep}
use Rattle.lp_model.specs.Branch.{Answer, Go, Task}
use Rattle.lp_model.specs.Events.{Event, Gave, Over, first, first_after}
use Rattle.lp_model.specs.Answers.{Query as Proved}
use Rattle.lp_model.specs.Flat.{Clause}
use Rattle.lp_model.specs.Proofs.{Declared}
use Rattle.lp_model.specs.Search.{has_no_pairs, look}
use Rattle.lp_model.specs.Skeleton.{AnswerNote, Broke, Breaks, back, back_for_more, Goes, Held, Inner, Lasts, Move, Note, Refuted, State, Stops, Tells, View, Waits, inner, inner_after, inner_end, later, move}
use Rattle.lp_model.specs.Unify.{unit_limit}
use Rattle.lp_search_laws.proofs.Stack.Inners.{IsMade, move_more}
use Rattle.lp_plain.specs.declared.machine.Machine.{Machine}
use Rattle.lp_plain.specs.declared.outcome.Turn.{Turn}
use Rattle.lp_plain.specs.Between.{HasClauses}
use Rattle.lp_plain.specs.Calling.{AreFewAt, LeadsOver, LeadsWith, WrittenBehind}
use Rattle.lp_plain.specs.Moving.{IsAnswered, IsMoved, IsWaiting, MovesTo, Query, Tally, Waiting, both, quiet}
use Rattle.lp_plain.specs.Reached.{at_once, behind_move}
use Rattle.lp_plain.specs.Turns.{EndsAll, IsNoEnd}
use Rattle.lp_plain.specs.TypedStates.{IsTypedOver, IsTypedState}
use Rattle.lp_plain.specs.WrittenSearch.{IsWrittenSearch}
use Rattle.lp_plain.specs.inner.Following.{AreFewOn, Comes, ComesOf, Course, IsOfQuery, Kept, Leaves, goes_on, seen_in, until}
use Rattle.lp_plain.specs.Hearing.{back_in}
use Rattle.lp_plain.specs.Stepping.{notes_after, notes_until, steps_after, steps_until}
use Rattle.lp_plain.proofs.ChoicesBack.{back_same}
use Rattle.lp_plain.proofs.StepsLeft.{LeavesSteps, move_leaves}
use Rattle.lp_plain.proofs.TypedMoves.{IsMoveTyped, typed_move}

pub pair_left : (x y : Event Answer) (s t : State Task) → ◌≡◌ {A = Option (Event Answer × State Task)} (Some (x, s)) (Some (y, t)) → (x ≡ y) × (s ≡ t)
pair_left x y s t h =
    let e : ◌≡◌ {A = Event Answer × State Task} (x, s) (y, t) = cc in
    (ap (λ (z : Event Answer × State Task). z.0) e, ap (λ (z : Event Answer × State Task). z.1) e)

-- what is told adds up
pub tally_is : (a b : ℕ) (ms ns : List Note) → a ≡ b → ms ≡ ns → ◌≡◌ {A = Tally} (record { steps = a; notes = ms }) (record { steps = b; notes = ns })
tally_is a b ms ns e f = λ i. record { steps = e i; notes = f i }

pub both_more : (x y z : Tally) → both (both x y) z ≡ both x (both y z)
both_more x y z = tally_is (x.steps + y.steps + z.steps) (x.steps + (y.steps + z.steps)) ((x.notes ++ y.notes) ++ z.notes)
    (x.notes ++ (y.notes ++ z.notes)) (omega arith) (append_assoc x.notes y.notes z.notes)

pub none_both : (z : Tally) → both (record { steps = 0; notes = [] }) z ≡ z
none_both z = tally_is (0 + z.steps) z.steps z.notes z.notes (omega arith) refl

-- with the way back
abbrev pub with_back : Tally → List Note → Tally
with_back x ms = record { steps = x.steps; notes = x.notes ++ ms }

pub back_more : (x z : Tally) (ms : List Note) → both (with_back x ms) z ≡ both x (both (record { steps = 0; notes = ms }) z)
back_more x z ms = tally_is (x.steps + z.steps) (x.steps + (0 + z.steps)) ((x.notes ++ ms) ++ z.notes) (x.notes ++ (ms ++ z.notes)) (omega arith) (append_assoc x.notes ms z.notes)

-- what came of a search after some steps and notes, with those counted
pub later_comes : (c : Course) (behind : Tally → State Task → Type 0) (w : Waiting) (n m j : ℕ) (ns : List Note) (x : Tally) (r : Inner) → n ≡ j + m → ComesOf c behind w n x (later j ns r) →
    (y : Tally) × (x ≡ both (record { steps = j; notes = ns }) y) × ComesOf c behind w m y r
later_comes c behind w n m j ns x (Refuted k ms p) e h =
    let q : n - (j + k) ≡ m - k = omega (arith, e) in
    let first : Tally = record { steps = j; notes = ns } in
    let second : Tally = record { steps = k; notes = ms } in
    (both second h.0, h.1 ∙ both_more first second h.0, (h.0, refl, subst (λ i. behind h.0 (goes_on w i p (Go w.branch ∷ w.rest))) q h.2))
later_comes c behind w n m j ns x (Held k ms p) e h =
    let q : n - (j + k) ≡ m - k = omega (arith, e) in
    let first : Tally = record { steps = j; notes = ns } in
    let second : Tally = record { steps = k; notes = ms ++ back [] w.rest } in (
      both second h.0,
      h.1 ∙ ap (λ l. both (record { steps = j + k; notes = l }) h.0) (append_assoc ns ms (back [] w.rest)) ∙ both_more first second h.0,
      (h.0, refl, subst (λ i. behind h.0 (goes_on w i p w.rest)) q h.2),
    )
later_comes c behind w n m j ns x (Broke k ms f) e h = (record { steps = k; notes = ms }, h.1, (h.0, refl))
later_comes c behind w n m j ns x (Lasts k ms) e h = absurd h

end_comes : (c : Course) (behind : Tally → State Task → Type 0) (w : Waiting) (n p : ℕ) (x : Tally) (e : Ending) → EndsAll e → ComesOf c behind w n x (inner_end p e) → (c.event ≡ Over e) × (x ≡ quiet)
end_comes c behind w n p y NoMore h x = absurd h
end_comes c behind w n p y NoMoreCut h x = absurd h
end_comes c behind w n p y Enough h x = x
end_comes c behind w n p y Steps h x = x
end_comes c behind w n p y Flexible h x = x
end_comes c behind w n p y (Arithmetic f) h x = x
end_comes c behind w n p y OpenNot h x = x
end_comes c behind w n p y Deep h x = x

-- a turn does not answer, and ends with no such end, where a search waits
abbrev pub IsInnerTurn : List Waiting → Turn → Type 0
IsInnerTurn [] turn = Unit {0}
IsInnerTurn (w ∷ ws) Turn.On = Unit {0}
IsInnerTurn (w ∷ ws) Turn.Back = Unit {0}
IsInnerTurn (w ∷ ws) Turn.Answered = ⊥
IsInnerTurn (w ∷ ws) (Turn.Ended e) = EndsAll e

-- the next state is typed
pub typed_on : (ar : ℕ → ℕ) (n : ℕ) (P : List Clause) (go : (Answer → Bool) → State Task → Inner) (s t : State Task) → (v : Move Task Answer) →
    ((d : Declared) (q : Proved) → IsMoveTyped n d P q v → IsTypedState n d P q t) →
    move go (look unit_limit n P) s ≡ v → IsTypedOver ar n P s → IsTypedOver ar n P t
typed_on ar n P go s t v f e ty = record {
  declared = ty.declared;
  takes = ty.takes;
  standard = ty.standard;
  program = ty.program;
  query = ty.query;
  typed = f ty.declared ty.query (subst (IsMoveTyped n ty.declared P ty.query) e (typed_move n ty.declared P ty.query ty.standard ty.program go s ty.typed));
}

-- what each state has, the next one has
pub kept_on : (c : Course) (j k : ℕ) (ns : List Note) (s t : State Task) → move (inner (seen_in c) j) (seen_in c) s ≡ Goes k ns t → Kept c s → Kept c t
kept_on c j k ns s t e h =
    let go = inner (seen_in c) j in (
      λ u r. h.0 u (behind_move j k ns t e r),
      typed_on c.query.arity c.enough c.program go s t (Goes k ns t) (λ d q w. w) e h.1,
    )

typed_behind : (c : Course) (j : ℕ) (a : Answer) (ns : List Note) (s t : State Task) → move (inner (seen_in c) j) (seen_in c) s ≡ Tells a ns t → Kept
    c s → IsTypedOver c.query.arity c.enough c.program t
typed_behind c j a ns s t e h = typed_on c.query.arity c.enough c.program (inner (seen_in c) j) s t (Tells a ns t) (λ d q w. w) e h.1

-- behind a move with so much told
leaves_more : (c : Course) (x x' y u v : Tally) (turn : Turn) (n : Machine) → x ≡ both u x' → y ≡ both u v → Leaves c x' v turn n → Leaves c x y turn n
leaves_more c x x' y u v Turn.On n e f h = (h.0, e ∙ ap (both u) h.1 ∙ sym (both_more u v h.0) ∙ ap (λ z. both z h.0) (sym f), h.2)
leaves_more c x x' y u v Turn.Back n e f h =
    let b = both (record { steps = 0; notes = back_in n }) h.0 in
    (h.0, e ∙ ap (both u) h.1 ∙ sym (both_more u v b) ∙ ap (λ z. both z b) (sym f), h.2)
leaves_more c x x' y u v Turn.Answered n e f h = (h.0, e ∙ ap (both u) h.1 ∙ sym (both_more u v h.0) ∙ ap (λ z. both z h.0) (sym f), h.2)
leaves_more c x x' y u v (Turn.Ended o) n e f h = λ few. let r = h few in (r.0, e ∙ ap (both u) r.1 ∙ sym f)

-- what is told behind a move
module _ (c : Course) (j : ℕ) where
  abbrev seeing : ℕ → Task → View Task Answer
  seeing = seen_in c

  -- the event comes in so many moves, with this told until then
  abbrev pub Arrives : ℕ → Tally → State Task → Type 0
  Arrives i x s = (first seeing j i s ≡ Some (c.event, c.after)) × (x ≡ until seeing j i s)

  -- what the move tells, and then the others
  pub tally_after : (i : ℕ) (s : State Task) (x : Tally) (v : Move Task Answer) → move (inner seeing j) seeing s ≡ v → Arrives (suc i) x s →
      x ≡ record { steps = steps_after (steps_until seeing j i) v; notes = notes_after (notes_until seeing j i) v }
  tally_after i s x v q e = e.1 ∙ (λ o. record { steps = steps_after (steps_until seeing j i) (q o); notes = notes_after (notes_until seeing j i) (q o) })

  pub event_after : (i : ℕ) (s : State Task) (x : Tally) (v : Move Task Answer) → move (inner seeing j) seeing s ≡ v → Arrives (suc i) x s →
      first_after s (first seeing j i) v ≡ Some (c.event, c.after)
  event_after i s x v q e = sym (ap (first_after s (first seeing j i)) q) ∙ e.0

  pub behind_goes : (x : Tally) (k i : ℕ) (ns : List Note) (s t : State Task) → move (inner seeing j) seeing s ≡ Goes k ns t → Arrives (suc i) x s →
      (z : Tally) × (x ≡ both (record { steps = k; notes = ns }) z) × Arrives i z t
  behind_goes x k i ns s t q e = (until seeing j i t, tally_after i s x (Goes k ns t) q e, (event_after i s x (Goes k ns t) q e, refl))

module _ (c : Course) (qv : Query) (n : Machine) (within : IsOfQuery c.query qv) (W : Turn → Type 0) (serves : (turn : Turn) → IsNoEnd turn → W turn → HasClauses c.program c.query.arity n) where
  abbrev see : ℕ → Task → View Task Answer
  see = seen_in c

  -- in the outermost search
  module _ (none : qv.outer ≡ []) (j : ℕ) where
    here : (s : State Task) (x : Tally) → s.answers ≡ suc c.left → s.given ≡ c.given → Kept c s → (i : ℕ) → Arrives c j i x s → Comes c qv.outer x s
    here s x a g v i e = subst (λ ws. Comes c ws x s) (sym none) (a, g, v, record { inner_moves = j; moves = i; gives = e.0 }, e.1)

    first_moved : (turn : Turn) (y : Tally) (i : ℕ) (s : State Task) (x : Tally) → s.answers ≡ suc c.left → s.given ≡ c.given → Kept c s → IsMoved y qv turn n
        (move (inner see j) see s) s → W turn → Arrives c j (suc i) x s → Leaves c x y turn n
    first_moved Turn.On y i s x a g v h w e =
        let b = behind_goes c j x y.steps i y.notes s h.0 h.1 e in
        (b.0, b.1, (qv, h.0, within, h.2, here h.0 b.0 (h.3 ∙ a) (h.4 ∙ g) (kept_on c j y.steps y.notes s h.0 h.1 v) i b.2, serves Turn.On tt w))
    first_moved Turn.Back y i s x a g v h w e =
        let ns = y.notes ++ back [] h.0.stack in
        let b = behind_goes c j x y.steps i ns s h.0 h.1 e in (
          b.0,
          b.1 ∙ back_more y b.0 (back [] h.0.stack) ∙ ap (λ l. both y (both (record { steps = 0; notes = l }) b.0)) (sym (back_same qv n h.0 h.2)),
          (qv, h.0, within, h.2, here h.0 b.0 (h.3 ∙ a) (h.4 ∙ g) (kept_on c j y.steps ns s h.0 h.1 v) i b.2, serves Turn.Back tt w),
        )
    first_moved Turn.Answered y i s x a g v h w e =
        let ns = AnswerNote (suc s.given) ∷ back_for_more h.2.answers h.2.stack in
        let told = tally_after c j i s x (Tells h.1 ns h.2) h.3 e in
        let q = pair_left (Gave h.1) c.event h.2 c.after (event_after c j i s x (Tells h.1 ns h.2) h.3 e) in
        let left : h.2.answers ≡ c.left = (let z : suc h.2.answers ≡ suc c.left = sym h.6 ∙ a in omega (arith, z)) in (
          x,
          sym (ap (λ z. both z x) h.0 ∙ none_both x),
          (
            qv,
            h.1,
            told ∙ (λ o. record { steps = 0; notes = AnswerNote (suc (g o)) ∷ [] }),
            within,
            none,
            sym q.0,
            h.4,
            subst (IsAnswered qv n) q.1 h.5,
            subst (λ (t : State Task). t.answers ≡ c.left) q.1 left,
            subst (λ (t : State Task). t.given ≡ suc c.given) q.1 (h.7 ∙ ap suc g),
            subst (IsTypedOver c.query.arity c.enough c.program) q.1 (typed_behind c j h.1 ns s h.2 h.3 v),
            serves Turn.Answered tt w,
          ),
        )
    first_moved (Turn.Ended f) y i s x a g v h w e = λ few.
        (sym (pair_left (Over f) c.event s c.after (event_after c j i s x (Stops f) h.1 e)).0, tally_after c j i s x (Stops f) h.1 e ∙ sym h.0)

    first_waits : (i : ℕ) (s : State Task) (x : Tally) → IsWaiting (move (inner see j) see s) → Arrives c j (suc i) x s → ⊥
    first_waits i s x h e = let q = event_after c j i s x (Waits h.0 h.1) h.2 e in absurd (cc)

    first_leads : (k : ℕ) (turn : Turn) (y : Tally) (i : ℕ) (s : State Task) (x : Tally) → s.answers ≡ suc c.left → s.given ≡ c.given → Kept c s → LeadsWith (W turn) k y qv
        turn n (inner see j) see s → Arrives c j i x s → Leaves c x y turn n
    first_leads k turn y zero s x a g v h e = absurd (let q = e.0 in cc)
    first_leads zero turn y (suc i) s x a g v (inl h) e = first_moved turn y i s x a g v h.0 h.1 e
    first_leads zero turn y (suc i) s x a g v (inr h) e = absurd (first_waits i s x h e)
    first_leads (suc k) turn y (suc i) s x a g v (inl h) e = first_moved turn y i s x a g v h.0 h.1 e
    first_leads (suc k) turn y (suc i) s x a g v (inr (inl h)) e = absurd (first_waits i s x h e)
    first_leads (suc k) turn y (suc i) s x a g v (inr (inr h)) e =
        let b = behind_goes c j x h.0.steps i h.0.notes s h.2 h.4 e in
        leaves_more c x b.0 y h.0 h.1 turn n b.1 h.3 (first_leads k turn h.1 i h.2 b.0 (h.5 ∙ a) (h.6 ∙ g) (kept_on c j h.0.steps h.0.notes s h.2 h.4 v) h.7 b.2)

  -- in that of a negated goal
  module _ (w : Waiting) (ws : List Waiting) (some : qv.outer ≡ w ∷ ws) (m : ℕ) where
    abbrev of : ℕ → Tally → Inner → Type 0
    of k x r = ComesOf c (λ y t. Comes c ws y t) w k x r

    inside : (s : State Task) (x : Tally) → s.answers ≡ 1 → Kept c s → (i : ℕ) → of s.steps x (inner see i has_no_pairs s) → Comes c qv.outer x s
    inside s x a v i h = subst (λ vs. Comes c vs x s) (sym some) (a, v, i, h)

    -- what the move is with the moves that are left to this search, or it waits
    module _ (i : ℕ) (l : i ≤ m) (s : State Task) (x : Tally) where
      abbrev after : Move Task Answer → Inner
      after v = inner_after (inner see i has_no_pairs) has_no_pairs s.row v

      same_or_waits : (v : Move Task Answer) → move (inner see m) see s ≡ v → (z : Move Task Answer) → move (inner see i) see s ≡ z → (z ≡ v) ⊎ IsWaiting z
      unfolding IsMade
      same_or_waits v e (Goes k ns t) q = inl (sym q ∙ sym (move_more see i m l s (subst IsMade (sym q) tt)) ∙ e)
      same_or_waits v e (Tells a ns t) q = inl (sym q ∙ sym (move_more see i m l s (subst IsMade (sym q) tt)) ∙ e)
      same_or_waits v e (Stops f) q = inl (sym q ∙ sym (move_more see i m l s (subst IsMade (sym q) tt)) ∙ e)
      same_or_waits v e (Breaks k ns f) q = inl (sym q ∙ sym (move_more see i m l s (subst IsMade (sym q) tt)) ∙ e)
      same_or_waits v e (Waits k ns) q = inr (k, ns, refl)

      waits_comes : (z : Move Task Answer) → IsWaiting z → of s.steps x (after z) → ⊥
      waits_comes z h o = subst (λ y. of s.steps x (after y)) h.2 o

      by_move : (v : Move Task Answer) → move (inner see m) see s ≡ v → of s.steps x (inner see (suc i) has_no_pairs s) → of s.steps x (after v) × LeavesSteps s.steps v
      by_move v e h = elim (same_or_waits v e (move (inner see i) see s) refl) [
        | inl q ↦ (subst (λ y. of s.steps x (after y)) q h, subst (LeavesSteps s.steps) q (move_leaves see i s))
        | inr q ↦ absurd (waits_comes (move (inner see i) see s) q h)
      ]

      on_goes : (k : ℕ) (ns : List Note) (t : State Task) → move (inner see m) see s ≡ Goes k ns t → of s.steps x (inner see (suc i) has_no_pairs s) →
          (z : Tally) × (x ≡ both (record { steps = k; notes = ns }) z) × of t.steps z (inner see i has_no_pairs t)
      on_goes k ns t e h = let r = by_move (Goes k ns t) e h in later_comes c (λ y t. Comes c ws y t) w s.steps t.steps k ns x (inner see i has_no_pairs t) r.1 r.0

      inner_moved : (turn : Turn) (y : Tally) → IsInnerTurn (w ∷ ws) turn → s.answers ≡ 1 → Kept c s → IsMoved y qv turn n (move (inner see m) see s) s → W turn →
          of s.steps x (inner see (suc i) has_no_pairs s) → Leaves c x y turn n
      inner_moved Turn.On y p a v h u o =
          let b = on_goes y.steps y.notes h.0 h.1 o in
          (b.0, b.1, (qv, h.0, within, h.2, inside h.0 b.0 (h.3 ∙ a) (kept_on c m y.steps y.notes s h.0 h.1 v) i b.2, serves Turn.On tt u))
      inner_moved Turn.Back y p a v h u o =
          let ns = y.notes ++ back [] h.0.stack in
          let b = on_goes y.steps ns h.0 h.1 o in (
            b.0,
            b.1 ∙ back_more y b.0 (back [] h.0.stack) ∙ ap (λ l. both y (both (record { steps = 0; notes = l }) b.0)) (sym (back_same qv n h.0 h.2)),
            (qv, h.0, within, h.2, inside h.0 b.0 (h.3 ∙ a) (kept_on c m y.steps ns s h.0 h.1 v) i b.2, serves Turn.Back tt u),
          )
      inner_moved Turn.Answered y p a v h u o = absurd p
      inner_moved (Turn.Ended f) y p a v h u o = λ few. let r = end_comes c (λ y t. Comes c ws y t) w s.steps s.row x f p (by_move (Stops f) h.1 o).0 in (r.0, r.1 ∙ sym h.0)

      inner_waits : IsWaiting (move (inner see m) see s) → of s.steps x (inner see (suc i) has_no_pairs s) → ⊥
      inner_waits h o = (by_move (Waits h.0 h.1) h.2 o).0

    inner_leads : (k : ℕ) (turn : Turn) (y : Tally) → IsInnerTurn (w ∷ ws) turn → (i : ℕ) → i ≤ suc m → (s : State Task) (x : Tally) → s.answers ≡ 1 → Kept c s → LeadsWith
        (W turn) k y qv turn n (inner see m) see s → of s.steps x (inner see i has_no_pairs s) → Leaves c x y turn n
    inner_leads k turn y p zero l s x a v h o = absurd o
    inner_leads zero turn y p (suc i) l s x a v (inl h) o = inner_moved i (omega (arith, l)) s x turn y p a v h.0 h.1 o
    inner_leads zero turn y p (suc i) l s x a v (inr h) o = absurd (inner_waits i (omega (arith, l)) s x h o)
    inner_leads (suc k) turn y p (suc i) l s x a v (inl h) o = inner_moved i (omega (arith, l)) s x turn y p a v h.0 h.1 o
    inner_leads (suc k) turn y p (suc i) l s x a v (inr (inl h)) o = absurd (inner_waits i (omega (arith, l)) s x h o)
    inner_leads (suc k) turn y p (suc i) l s x a v (inr (inr h)) o =
        let b = on_goes i (omega (arith, l)) s x h.0.steps h.0.notes h.2 h.4 o in
        leaves_more c x b.0 y h.0 h.1 turn n b.1 h.3 (inner_leads k turn h.1 p i (omega (arith, l)) h.2 b.0 (h.5 ∙ a) (kept_on c m h.0.steps h.0.notes s h.2 h.4 v) h.7 b.2)

  -- a turn that leads there
  pub leads_stands : (k : ℕ) (turn : Turn) (y : Tally) (s : State Task) (x : Tally) → IsInnerTurn qv.outer turn →
      ((j : ℕ) → LeadsWith (W turn) k y qv turn n (inner see j) see s) → Comes c qv.outer x s → Leaves c x y turn n
  leads_stands k turn y s x p h o = go qv.outer refl p o
    where
      go : (ws : List Waiting) → qv.outer ≡ ws → IsInnerTurn ws turn → Comes c ws x s → Leaves c x y turn n
      go [] e p o = first_leads e o.3.inner_moves k turn y o.3.moves s x o.0 o.1 o.2 (h o.3.inner_moves) (o.3.gives, o.4)
      go (w ∷ ws) e p o = inner_leads w ws e o.2 k turn y p o.2 (omega arith) s x o.0 o.1 (h o.2) o.3

-- answers are wanted
pub wanted : (c : Course) (ws : List Waiting) (x : Tally) (s : State Task) → Comes c ws x s → (k : ℕ) × (s.answers ≡ suc k)
wanted c [] x s h = (c.left, h.0)
wanted c (w ∷ ws) x s h = (0, h.0)

pub kept_of : (c : Course) (ws : List Waiting) (x : Tally) (s : State Task) → Comes c ws x s → Kept c s
kept_of c [] x s h = h.2
kept_of c (w ∷ ws) x s h = h.1

pub moved_stands : (c : Course) (qv : Query) (n : Machine) → IsOfQuery c.query qv → (turn : Turn) (y : Tally) →
    (IsNoEnd turn → HasClauses c.program c.query.arity n) → (s : State Task) (x : Tally) → IsInnerTurn qv.outer turn → MovesTo y qv turn n s → Comes c qv.outer x s →
    Leaves c x y turn n
moved_stands c qv n q turn y cl s x p h o =
    let w = wanted c qv.outer x s o in
    leads_stands c qv n q (λ t. IsNoEnd t → HasClauses c.program c.query.arity n) (λ t k f. f k) 0 turn y s x p (λ j. inl (h w.0 w.1 (inner (seen_in c) j) c.enough c.program, cl)) o

-- so is one that leads there, over the program
few_at : (c : Course) (qv : Query) (x : Tally) (s : State Task) → Comes c qv.outer x s → (e : Ending) → AreFewOn c (Turn.Ended e) → AreFewAt (Turn.Ended e) c.enough s.stack
few_at c qv x s o e few = λ q. let f = few q in (f.0, f.1 s ((kept_of c qv.outer x s o).0 s (at_once refl)))

pub led_over : (c : Course) (qv : Query) (n : Machine) → IsOfQuery c.query qv → (IsWrittenSearch n qv.arity → HasClauses c.program c.query.arity n) →
    (k : ℕ) (turn : Turn) (y : Tally) (s : State Task) (x : Tally) → IsInnerTurn qv.outer turn → LeadsOver k y qv turn n s c.program →
    Comes c qv.outer x s → Leaves c x y turn n
led_over c qv n q cl k turn y s x p h o = go turn p h
  where
    serves : (turn : Turn) → IsNoEnd turn → WrittenBehind turn n qv.arity → HasClauses c.program c.query.arity n
    serves Turn.On k w = cl w
    serves Turn.Back k w = cl w
    serves Turn.Answered k w = cl w
    serves (Turn.Ended e) k w = absurd k

    ty : IsTypedOver qv.arity c.enough c.program s
    ty = subst (λ ar. IsTypedOver ar c.enough c.program s) (sym q.0) (kept_of c qv.outer x s o).1

    by : (turn : Turn) → IsInnerTurn qv.outer turn → LeadsOver k y qv turn n s c.program → AreFewAt turn c.enough s.stack → Leaves c x y turn n
    by turn p h few = let w = wanted c qv.outer x s o in leads_stands c qv n q (λ t. WrittenBehind t n qv.arity) serves k turn y s x p (λ j. h w.0 w.1 (inner (seen_in c) j) c.enough few ty) o

    go : (turn : Turn) → IsInnerTurn qv.outer turn → LeadsOver k y qv turn n s c.program → Leaves c x y turn n
    go Turn.On p h = by Turn.On p h (λ e. cc)
    go Turn.Back p h = by Turn.Back p h (λ e. cc)
    go Turn.Answered p h = by Turn.Answered p h (λ e. cc)
    go (Turn.Ended e) p h = λ few. by (Turn.Ended e) p h (few_at c qv x s o e few) few
