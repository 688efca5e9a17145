-- From one event to the next one.
use Rattle.std.proofs.Common.{◌≡◌, ℕ, suc, ◌-◌, ◌<◌, ◌≤◌, List, [], ◌∷◌, length, refl, sym, ap, ◌∙◌, subst, arith, Some, None}
use Rattle.std.specs.Prelude.{◌^◌, Bool}
use Rattle.lp_term.specs.Nodes.{Nodes, Extends}
use Rattle.lp_model.specs.declared.answer.Answer.{Answer as CodeAnswer}
use Rattle.lp_model.specs.declared.answer.Event.{Event as Told}
use Rattle.lp_model.specs.declared.answer.Event.TheVariants as told
use Rattle.lp_model.specs.declared.ending.Ending.{Ending}
use Rattle.lp_model.specs.declared.ending.Ending.TheVariants.{Enough}
use Rattle.lp_model.specs.Branch.{Answer, Task}
use Rattle.lp_model.specs.Events.{Advances, Event, Over}
use Rattle.lp_model.specs.Flat.{Clause}
use Rattle.lp_model.specs.Search.{look}
use Rattle.lp_model.specs.Skeleton.{AnswerNote, State}
use Rattle.lp_model.specs.Unify.{unit_limit}
use Rattle.lp_plain.specs.declared.machine.Machine.{Machine}
use Rattle.lp_plain.specs.declared.outcome.Turn.{Turn}
use Rattle.lp_plain.specs.declared.search.Search.{Search}
use Rattle.lp_plain.specs.Assuming.{GrowsOn}
use Rattle.lp_plain.specs.HeadLooks.{with_bank}
use Rattle.lp_plain.specs.Between.{AreEnough, HasClauses, HasGiven, HasVariables, IsBetween, answered, begins, goes_on, is_over}
use Rattle.lp_plain.specs.Moving.{HasAlternatives, IsAnswer, IsAnswered, IsBack, IsState, Query, Tally, Waiting, both, quiet}
use Rattle.lp_plain.specs.Hearing.{back_in}
use Rattle.lp_plain.proofs.ChoicesBack.{back_same}
use Rattle.lp_plain.specs.Telling.{IsAnswerOf, IsEventOf}
use Rattle.lp_plain.specs.TypedStates.{IsTypedOver}
use Rattle.lp_plain.specs.Within.{StandsIn}
use Rattle.lp_plain.specs.inner.Between.{IsToTell, rested}
use Rattle.lp_plain.specs.inner.Following.{AreFewOn, Comes, Course, IsInQuery, IsOfQuery, IsTold, Stands, tally_told, until}
use Rattle.lp_pattern.proofs.Keeps.{goes_on_same, grows_same}
use Rattle.lp_plain.proofs.AboveUnder.{still_all, still_done, still_turn}
use Rattle.lp_plain.proofs.CallArm.{program_later}
use Rattle.lp_plain.proofs.EventMoves.{enough_over, enough_told, over_stays, told_first, told_later}
use Rattle.lp_plain.proofs.Grown.{same_around}
use Rattle.lp_plain.proofs.Inside.{inside_still}
use Rattle.lp_plain.proofs.Opening.{bank_grows, bank_stands}
use Rattle.lp_plain.proofs.WrittenSearches.{search_same}

-- no answer is left to give
pub given_enough : (P : List Clause) (n : ℕ) (s u : Search) (t : State Task) → s.ended ≡ None → s.answers ≤ s.given → u.ended ≡ Some Enough →
    IsBetween P n s t → (x : Event Answer) (v : State Task) (d : Advances (look unit_limit n P) t x v) →
    (x ≡ Over Enough) × IsBetween P n u v × (tally_told (look unit_limit n P) d.inner_moves d.moves t ≡ quiet)
given_enough P n s u t e l eu (goes_on qv e' hv g go cl ty) x v d =
    let see = look unit_limit n P in
    let none : t.answers ≡ 0 = (let a = g.left in omega (arith, a, l)) in
    let q = enough_over see t none x v d in
    (q.0, is_over Enough eu (λ y w f. (enough_over see v (ap (λ (z : State Task). z.answers) q.1 ∙ none) y w f).0), enough_told see t none d.inner_moves d.moves)
given_enough P n s u t e l eu (is_over f ef h) x v d = absurd (cc)

-- the search is over, and stays so
pub is_over_still : (P : List Clause) (n : ℕ) (s : Search) (t : State Task) (e : Ending) → s.ended ≡ Some e → IsBetween P n s t → (x : Event Answer)
    (v : State Task) → Advances (look unit_limit n P) t x v → (x ≡ Over e) × IsBetween P n s v
is_over_still P n s t e es (goes_on qv e' hv g go cl ty) x v d = absurd (cc)
is_over_still P n s t e es (is_over f ef h) x v d =
    let same : f ≡ e = (let q : Some f ≡ Some e = sym ef ∙ es in cc) in
    let q : x ≡ Over e = h x v d ∙ ap (λ z. Over z) same in
    (q, is_over e es (λ y w a. over_stays (look unit_limit n P) t v e (subst (λ z. Advances (look unit_limit n P) t z v) q d) y w a))

-- the next event is to be told: what stands at the first turn
module _ (P : List Clause) (n : ℕ) (s : Search) (t : State Task) (x : Event Answer) (v : State Task) (d : Advances (look unit_limit n P) t x v) where
  abbrev pub tally : Tally
  tally = until (look unit_limit n P) d.inner_moves d.moves t

  abbrev pub course : Query → Course
  course qv = record { query = qv; program = P; enough = n; left = s.answers - s.given - 1; given = s.given; begin = t; event = x; after = v }

  module _ (qv : Query) (hv : HasVariables qv s) (g : HasGiven s t) (ty : IsTypedOver qv.arity n P t) (cl : HasClauses P qv.arity s.machine) (more : s.given < s.answers) where
    within : IsOfQuery qv qv
    within = (refl, subst (IsInQuery qv qv.types qv.vars) (sym hv.alone) (refl, refl))

    comes : Comes (course qv) qv.outer tally t
    comes = subst (λ ws. Comes (course qv) ws tally t) (sym hv.alone) ((let a = g.left in omega (arith, a, more)), g.given, (λ u w. w, ty), d, refl)

    pub to_tell : s.answers ≤ 2 ^ 64 - 1 → s.ended ≡ None → IsToTell s (course qv)
    to_tell f e = record { goes_on = e; variables = hv; given = refl; left = (let l = more in omega (arith, l)); fits = f; comes = d }

    pub first_stands : IsState qv s.machine t → Stands (course qv) tally Turn.On s.machine
    first_stands h = (qv, t, within, h, comes, cl)

    pub later_stands : IsBack qv s.machine t → Stands (course qv) tally Turn.Back s.machine
    later_stands h = (qv, t, within, h, comes, cl)

-- behind an answer the search goes back in a new row; the bank may have grown
module _ (qv : Query) (m n : Machine) (b : Nodes) (x : Extends m.bank b) (e : n ≡ with_bank (rested m) b) (s : State Task) (h : IsAnswered qv m s) where
  abbrev r : Machine
  r = with_bank (rested m) b

  grown : GrowsOn m r
  grown = record {
    lists = record {
      bank = x;
      table = refl;
      blocks = goes_on_same m.scopes.blocks.items;
      values = goes_on_same m.scopes.values.items;
      assumptions = goes_on_same m.assumptions.items;
      newest = goes_on_same m.newest.items;
      standings = goes_on_same m.standings.items;
    };
    frames = goes_on_same m.frames.items;
    index = refl;
    denied = refl;
  }

  above : HasAlternatives qv r h.around s.stack
  above =
      let a = h.around in
      let st = h.above.done.stands in
      let sn = bank_stands m r x refl refl refl st in
      let lt = same_around (length m.newest.items) (length m.standings.items) a in
      let gb = grows_same m.bindings in
      record {
        raws = h.above.raws;
        others = h.above.others;
        done = still_done qv m r a a st sn grown lt gb s.stack h.above refl;
        numbers = h.above.numbers;
        are = still_all qv m r a a st sn grown lt gb s.stack h.above refl;
        in_turn = still_turn qv m r a a st sn grown lt gb s.stack h.above refl;
        is = h.above.is;
        inside = inside_still qv m r a a st grown lt gb h.above.inside h.above.done.base refl;
      }

  pub answered_back : IsBack qv n s
  answered_back = subst (λ z. IsBack qv z s) (sym e) (record {
    around = h.around;
    above = above;
    counted = record { steps = h.steps; rows = h.rows; row = (let q = h.row in omega (arith, q)); lost = h.lost };
  })

-- so all in it is written, and the program's clauses stand in it
pub clauses_later : (P : List Clause) (ar : ℕ → ℕ) (m n : Machine) (b : Nodes) → Extends m.bank b → n ≡ with_bank (rested m) b → StandsIn m → HasClauses P ar m → HasClauses P ar n
clauses_later P ar m n b x e st cl = subst (HasClauses P ar) (sym e) (record {
  clauses = cl.clauses;
  are = cl.are;
  program = program_later m (with_bank (rested m) b) x refl refl ar cl.clauses cl.program;
  written = search_same m (with_bank (rested m) b) st (bank_grows m (with_bank (rested m) b) x refl refl refl) refl (record { assumptions = refl; newest = refl }) refl ar cl.written;
})

-- what is told

over_few : (k : Course) (event : Told) (e : Ending) → event ≡ told.Ended e → AreEnough k.program k.enough k.begin event → AreFewOn k (Turn.Ended e)
over_few k event e q h = λ w. h (q ∙ ap (λ z. told.Ended z) (let y = w in cc))

pub over_is : (k : Course) (x y : Tally) (Heard : Tally → Type 0) → Heard y → (s u : Search) (event : Told) (e : Ending) → event ≡ told.Ended e → u.ended ≡ Some e → IsToTell s k →
    IsTold k x y e → AreEnough k.program k.enough k.begin event →
    IsEventOf k.event event × IsBetween k.program k.enough u k.after × Heard x
over_is k x y Heard heard s u event e q eu it st en =
    let o = st (over_few k event e q en) in
    let see = look unit_limit k.enough k.program in (
      subst (λ z. IsEventOf z event) (sym o.0) (subst (IsEventOf (Over e)) (sym q) refl),
      is_over e eu (over_stays see k.begin k.after e (subst (λ z. Advances see k.begin z k.after) o.0 it.comes)),
      subst Heard (sym o.1) heard,
    )

pub answer_rested : (qv : Query) (m : Machine) (x : Answer) → IsAnswer qv m x → IsAnswer qv (rested m) x
answer_rested qv m x a = record { closing = a.closing; reading = a.reading; next = a.next; next_type = a.next_type; types = a.types; values = a.values; pairs = a.pairs; left = a.left; levels = a.levels; known = a.known }

in_query_alone : (q : Query) (j k : ℕ) (ws : List Waiting) → ws ≡ [] → IsInQuery q j k ws → k ≡ q.vars
in_query_alone q j k [] e h = h.1
in_query_alone q j k (w ∷ ws) e h = absurd (cc)

module _ (k : Course) (s u : Search) (m : Machine) (b : Nodes) (z : Tally) (it : IsToTell s k) (st : Stands k z Turn.Answered m) (x : Extends m.bank b)
    (um : u.machine ≡ with_bank (rested m) b) (ug : u.given ≡ suc s.given) (ua : u.answers ≡ s.answers)
    (uv : u.variables ≡ s.variables) (ue : u.ended ≡ s.ended) where
  pub same_count : length s.variables.items ≡ st.0.vars
  same_count = it.variables.are ∙ sym (in_query_alone k.query st.0.types st.0.vars st.0.outer st.4 st.3.1)

  pub answer_between : IsBetween k.program k.enough u k.after
  answer_between =
      let l = it.left in
      let g = it.given in
      let ag = st.9 in
      let al = st.8 in
      goes_on st.0 (ue ∙ it.goes_on) (record { alone = st.4; are = ap (λ v. length v.items) uv ∙ same_count }) (record { given = ag ∙ ap suc g ∙ sym ug; left = omega (arith, al, ug, ua, l) })
      (answered (omega (arith, ug)) (answered_back st.0 m u.machine b x um k.after st.7))
      (subst (λ ar. HasClauses k.program ar u.machine) (sym st.3.0) (clauses_later k.program k.query.arity m u.machine b x um st.7.above.done.stands
      st.11)) (subst (λ ar. IsTypedOver ar k.enough k.program k.after) (sym st.3.0) st.10)

pub answer_told : (k : Course) (z : Tally) (m : Machine) (st : Stands k z Turn.Answered m) (a : CodeAnswer) → IsAnswerOf st.1 a → IsEventOf k.event (told.Answer a)
answer_told k z m st a h = subst (λ e. IsEventOf e (told.Answer a)) (sym st.5) h

-- the note of an answer
pub answer_noted : (k : Course) (s : Search) (m : Machine) (z : Tally) → IsToTell s k → Stands k z Turn.Answered m → z ≡ record { steps = 0; notes = AnswerNote (suc s.given) ∷ [] }
answer_noted k s m z it st = st.2 ∙ ap (λ g. record { steps = 0; notes = AnswerNote (suc g) ∷ [] }) it.given

-- the event that is told at an end
pub over_told : (x : Event Answer) (event : Told) (e : Ending) → x ≡ Over e → event ≡ told.Ended e → IsEventOf x event
over_told x event e p q = subst (λ z. IsEventOf z event) (sym p) (subst (IsEventOf (Over e)) (sym q) refl)

-- the next event, where the search has not begun, or is to go back from an answer, of which is told before
module _ (P : List Clause) (n : ℕ) (s u : Search) (t : State Task) (x : Event Answer) (v : State Task) (d : Advances (look unit_limit n P) t x v) (Heard All : Tally → Type 0)
    (event : Told) (none : s.ended ≡ None) (more : s.given < s.answers) (fits : s.answers ≤ 2 ^ 64 - 1) (en : AreEnough P n t event) where
  abbrev X : Tally
  X = tally P n s t x v d

  abbrev whole : Tally
  whole = tally_told (look unit_limit n P) d.inner_moves d.moves t

  pub first_told : s.given ≡ 0 → ((y : Tally) → Heard y → All y) →
      ((k : Course) (z : Tally) → IsToTell s k → Stands k z Turn.On s.machine → AreEnough k.program k.enough k.begin event → IsEventOf
      k.event event × IsBetween k.program k.enough u k.after × Heard z) → IsBetween P n s t → IsEventOf x event × IsBetween P n u v × All whole
  first_told z h f (goes_on qv e hv g (begins y st) cl ty) =
      let r = f (course P n s t x v d qv) X (to_tell P n s t x v d qv hv g ty cl more fits none) (first_stands P n s t x v d qv hv g ty cl more st) en in
      (r.0, r.1, subst All (sym (told_first (look unit_limit n P) t (g.given ∙ z) d.inner_moves d.moves)) (h X r.2))
  first_told z h f (goes_on qv e hv g (answered y bk) cl ty) = absurd (omega (arith, z, y))
  first_told z h f (is_over e q o) = absurd (cc)

  pub later_told : 0 < s.given → ((y : Tally) → Heard y → All (both (record { steps = 0; notes = back_in s.machine }) y)) →
      ((k : Course) (z : Tally) → IsToTell s k → Stands k z Turn.Back s.machine → AreEnough k.program k.enough k.begin event → IsEventOf
      k.event event × IsBetween k.program k.enough u k.after × Heard z) → IsBetween P n s t → IsEventOf x event × IsBetween P n u v × All whole
  later_told z h f (goes_on qv e hv g (answered y bk) cl ty) =
      let r = f (course P n s t x v d qv) X (to_tell P n s t x v d qv hv g ty cl more fits none) (later_stands P n s t x v d qv hv g ty cl more bk) en in
      let wanted : 0 < t.answers = (let a = g.left in omega (arith, a, more)) in
      let given : 0 < t.given = (let a = g.given in omega (arith, a, z)) in (
        r.0,
        r.1,
        subst All (ap (λ l. both (record { steps = 0; notes = l }) X) (back_same qv s.machine t bk) ∙ told_later (look unit_limit n P) t given wanted d.inner_moves d.moves) (h X r.2),
      )
  later_told z h f (goes_on qv e hv g (begins y st) cl ty) = absurd (omega (arith, z, y))
  later_told z h f (is_over e q o) = absurd (cc)

-- whether memory ran out says nothing of it
pub failed_between : (P : List Clause) (n : ℕ) (s : Search) (b : Bool) (t : State Task) → IsBetween P n s t → IsBetween P n (record s { failed = b }) t
failed_between P n s b t (goes_on qv e hv g (begins y st) cl ty) = goes_on qv e (record { alone = hv.alone; are = hv.are }) (record { given = g.given; left = g.left }) (begins y st) cl ty
failed_between P n s b t (goes_on qv e hv g (answered y bk) cl ty) = goes_on qv e (record { alone = hv.alone; are = hv.are }) (record { given = g.given; left = g.left }) (answered y bk) cl ty
failed_between P n s b t (is_over e q o) = is_over e q o
