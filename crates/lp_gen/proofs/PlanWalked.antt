-- The steps of a part come goal by goal.
use Rattle.std.proofs.Common.{◌≡◌, ◌∙◌, ◌⊎◌, inl, inr, ⊎_elim, ◌≤◌, ◌<◌, ℕ, zero, suc, ◌+◌, ◌-◌, ◌^◌, List, [], ◌∷◌, ◌++◌, append_assoc, length, Option, Some, None, ap, refl, sym, subst, arith}
use Rattle.std.specs.Prelude.{slice_get}
use Rattle.std.proofs.lemmas.List.{append-nil, length-append, map-append}
use Rattle.std.proofs.lemmas.Option.{slice_get_within}
use Rattle.lp_lemmas.proofs.Lists.{get_append}
use Rattle.lp_model.specs.declared.clause.Clause.{Clause}
use Rattle.lp_model.specs.Flat.{Clauses}
use Rattle.lp_model.specs.Flattened.{clauses_of}
use Rattle.lp_term.specs.Nodes.{Nodes}
use Rattle.lp_gen.specs.declared.plan.Assumption.{Assumption}
use Rattle.lp_gen.specs.declared.plan.Due.{Due}
use Rattle.lp_gen.specs.declared.plan.Step.{Step}
use Rattle.lp_gen.specs.declared.plan.Step.TheVariants as on
use Rattle.lp_gen.specs.declared.tables.Tables.{Tables}
use Rattle.lp_gen.specs.inner.OpenGoals.{BodyStep}
use Rattle.lp_gen.specs.inner.BodyCode.{Suppositions, step_of, steps_of, next_of, next_all, IsNext, AreNext, count_starts, starts_all, count_named, one_if}
use Rattle.lp_gen.specs.inner.Planned.{DeepClauses}
use Rattle.lp_gen.proofs.BodyFacts.{starts_cons}
use Rattle.lp_gen.specs.Limits.{clauses_records}
use Rattle.lp_gen.proofs.RecordsCounted.{due_grown}
use Rattle.lp_gen.specs.inner.Planning.{IsDue, AreDue, IsMade, Stays, AreAssumed, IsCapturing, AllCaptured, Extends, Todo, todo_steps, todo_records, TodoHave, TodoWritten, TodoDeep, HoldClauses, AssumptionAt, IsEnd, AllEnds, WalkKept}

-- lists that grow

pub extends_same : {X : Type 0} (xs : List X) → Extends xs xs
extends_same xs = ([], sym (append-nil xs))

pub extends_on : {X : Type 0} (xs ys zs : List X) → Extends xs ys → Extends ys zs → Extends xs zs
extends_on xs ys zs (more, e) (rest, f) = (more ++ rest, f ∙ ap (λ l. l ++ rest) e ∙ append_assoc xs more rest)

pub extends_at : {X : Type 0} (xs ys : List X) (i : ℕ) (x : X) → Extends xs ys → slice_get xs i ≡ Some x → slice_get ys i ≡ Some x
extends_at xs ys i x (more, e) at = ap (λ l. slice_get l i) e ∙ get_append xs more i x at

pub extends_length : {X : Type 0} (xs ys : List X) → Extends xs ys → length xs ≤ length ys
extends_length xs ys (more, e) = let z = ap length e ∙ length-append xs more in omega (arith, z)

pub get_last : {X : Type 0} (xs : List X) (x : X) → slice_get (xs ++ x ∷ []) (length xs) ≡ Some x
get_last [] x = refl
get_last (y ∷ ys) x = get_last ys x

same_some : {X : Type 0} (x y : X) → ◌≡◌ {A = Option X} (Some x) (Some y) → y ≡ x
same_some x y e = cc

no_some : {X : Type 0} (y : X) → ◌≡◌ {A = Option X} None (Some y) → ⊥
no_some y e = cc

no_number : (n : ℕ) → ◌≡◌ {A = Option ℕ} None (Some n) → ⊥
no_number n e = cc

-- an element of a list with one more
pub get_more : {X : Type 0} (xs : List X) (x : X) (i : ℕ) (y : X) → slice_get (xs ++ x ∷ []) i ≡ Some y → (slice_get xs i ≡ Some y) ⊎ ((i ≡ length xs) × (y ≡ x))
get_more [] x zero y e = inr (refl, same_some x y e)
get_more [] x (suc i) y e = absurd (no_some y e)
get_more (z ∷ zs) x zero y e = inl e
get_more (z ∷ zs) x (suc i) y e = ⊎_elim (λ f. inl f) (λ f. inr (ap suc f.0, f.1)) (get_more zs x i y e)

-- an element of two lists
pub get_both : {X : Type 0} (xs ys : List X) (i : ℕ) (y : X) → slice_get (xs ++ ys) i ≡ Some y → (slice_get xs i ≡ Some y) ⊎ ((length xs ≤ i) × (slice_get ys (i - length xs) ≡ Some y))
get_both [] ys i y e = let z : i ≡ i - 0 = omega arith in inr (omega arith, subst (λ k. slice_get ys k ≡ Some y) z e)
get_both (x ∷ xs) ys zero y e = inl e
get_both (x ∷ xs) ys (suc i) y e =
    ⊎_elim (λ f. inl f) (λ f. let le = f.0 in let z : i - length xs ≡ suc i - suc (length xs) = omega arith in inr
    (omega (arith, le), subst (λ k. slice_get ys k ≡ Some y) z f.1)) (get_both xs ys i y e)

pub get_behind : {X : Type 0} (xs ys : List X) (i : ℕ) (y : X) → slice_get ys i ≡ Some y → slice_get (xs ++ ys) (length xs + i) ≡ Some y
get_behind [] ys i y e = let z : i ≡ 0 + i = omega arith in subst (λ k. slice_get ys k ≡ Some y) z e
get_behind (x ∷ xs) ys i y e = let z : suc (length xs + i) ≡ suc (length xs) + i = omega arith in subst (λ k. slice_get (x ∷ (xs ++ ys)) k ≡ Some y) z (get_behind xs ys i y e)

pub hold_less : (b : Nodes) (xs ys : List Assumption) (cl : Suppositions) → Extends xs ys → HoldClauses b ys cl → HoldClauses b xs cl
hold_less b xs ys cl e h n x at = h n x (extends_at xs ys n x e at)

-- steps with one more

steps_more : (b : Nodes) (cl : Suppositions) (ss : List Step) (s : Step) (rest : List BodyStep) → steps_of b cl (ss ++ s ∷ []) ++ rest ≡ steps_of b cl ss ++ step_of b cl s ∷ rest
steps_more b cl ss s rest = ap (λ l. l ++ rest) (map-append (step_of b cl) ss (s ∷ [])) ∙ append_assoc (steps_of b cl ss) (step_of b cl s ∷ []) rest

next_more : (t : Tables) (q m : ℕ) (ss : List Step) (s : Step) → AreNext t q m ss → IsNext t (next_all t q ss) (m + starts_all t ss) s → AreNext t q m (ss ++ s ∷ [])
next_more t q m [] s x y = (let none : starts_all t [] ≡ 0 = refl in let z : m + starts_all t [] ≡ m = omega (arith, none) in subst (λ k. IsNext t q k s) z y, tt)
next_more t q m (u ∷ us) s x y = (
  x.0,
  next_more t (next_of t q u) (m + count_starts t u) us s x.1 (let c = starts_cons t u us in let z : m + starts_all t (u ∷ us) ≡ m +
      count_starts t u + starts_all t us = omega (arith, c) in subst (λ k. IsNext t (next_all t (next_of t q u) us) k s) z y),
)

all_more : (t : Tables) (q : ℕ) (ss : List Step) (s : Step) → next_all t q (ss ++ s ∷ []) ≡ next_of t (next_all t q ss) s
all_more t q [] s = refl
all_more t q (u ∷ us) s = all_more t (next_of t q u) us s

starts_more : (t : Tables) (ss : List Step) (s : Step) → starts_all t (ss ++ s ∷ []) ≡ starts_all t ss + count_starts t s
starts_more t [] s = starts_cons t s [] ∙ (let none : starts_all t [] ≡ 0 = refl in let z : count_starts t s + starts_all t [] ≡ starts_all t [] + count_starts t s = omega arith in z)
starts_more t (u ∷ us) s = let z = starts_more t us s in let c = starts_cons t u (us ++ s ∷ []) in let d = starts_cons t u us in omega (arith, z, c, d)

-- one step that assumes nothing
pub step_put : (us : List Due) (xs : List Assumption) (d d' : ℕ) (ss : List Step) (s : Step) (ts ts' : List Todo) →
    ((b : Nodes) (cl : Suppositions) → todo_steps b cl ts ≡ step_of b cl s ∷ todo_steps b cl ts') →
    ((b : Nodes) (D : ℕ → ℕ → Clauses → Type 0) (q : ℕ) → TodoHave b D q d' ts' → TodoHave b D q d ts) → ((b : Nodes) → TodoWritten b ts' → TodoWritten b ts) →
    ((b : Nodes) → TodoDeep b ts → TodoDeep b ts') → (AllEnds ts → AllEnds ts' × IsEnd s) → ((b : Nodes) → todo_records b ts ≡ todo_records b ts') → WalkKept us us xs xs d d' ss (ss ++ s ∷ []) ts ts'
step_put us xs d d' ss s ts ts' says has written deep ends many us0 xs0 d0 gs w = record {
  kept = w.kept;
  due_grow = w.due_grow;
  grow = w.grow;
  says = λ b cl h. steps_more b cl ss s (todo_steps b cl ts') ∙ ap (λ l. steps_of b cl ss ++ l) (sym (says b cl)) ∙ w.says b cl h;
  next = λ t e few.
      let n = w.next t e few in (
        next_more t (t.first + length us0) (length xs0) ss s n.0 ((ends w.ends).1.0 t (next_all t (t.first + length us0) ss) (length xs0 + starts_all t ss)),
        all_more t (t.first + length us0) ss s ∙ (ends w.ends).1.1 t (next_all t (t.first + length us0) ss) ∙ n.1,
        (let a = n.2 in let z = starts_more t ss s in let y = (ends w.ends).1.2 t in omega (arith, a, z, y)),
      );
  has = λ b f all e x. w.has b f all e (has b (AssumptionAt b all f) (f + length us) x);
  deep = λ b x. let y = w.deep b x in (deep b y.0, y.1);
  written = λ b x. w.written b (written b x);
  ends = (ends w.ends).0;
  total = λ b. let n = w.total b in let m = many b in omega (arith, n, m);
}

-- the same that is still to do, with no step
pub todo_same : (us : List Due) (xs : List Assumption) (d d' : ℕ) (ss : List Step) (ts ts' : List Todo) → ((b : Nodes) (cl : Suppositions) → todo_steps b cl ts ≡ todo_steps b cl ts') →
    ((b : Nodes) (D : ℕ → ℕ → Clauses → Type 0) (q : ℕ) → TodoHave b D q d' ts' → TodoHave b D q d ts) →
    ((b : Nodes) → TodoWritten b ts' → TodoWritten b ts) → ((b : Nodes) → TodoDeep b ts → TodoDeep b ts') →
    (AllEnds ts → AllEnds ts') → ((b : Nodes) → todo_records b ts ≡ todo_records b ts') → WalkKept us us xs xs d d' ss ss ts ts'
todo_same us xs d d' ss ts ts' says has written deep ends many us0 xs0 d0 gs w = record {
  kept = w.kept;
  due_grow = w.due_grow;
  grow = w.grow;
  says = λ b cl h. ap (λ l. steps_of b cl ss ++ l) (sym (says b cl)) ∙ w.says b cl h;
  next = w.next;
  has = λ b f all e x. w.has b f all e (has b (AssumptionAt b all f) (f + length us) x);
  deep = λ b x. let y = w.deep b x in (deep b y.0, y.1);
  written = λ b x. w.written b (written b x);
  ends = ends w.ends;
  total = λ b. let n = w.total b in let m = many b in omega (arith, n, m);
}

-- assumptions with one more

due_at : (n d : ℕ) (cs : List Clause) (us : List Due) (j : ℕ) (c : Clause) → AreDue n d cs us → slice_get cs j ≡ Some c → (u : Due) × (slice_get us j ≡ Some u) × IsDue n d c u
due_at n d [] us j c a e = absurd (no_some c e)
due_at n d (x ∷ xs) [] j c a e = absurd a
due_at n d (x ∷ xs) (u ∷ us) zero c a e = (u, refl, subst (λ y. IsDue n d y u) (sym (same_some x c e)) a.0)
due_at n d (x ∷ xs) (u ∷ us) (suc j) c a e = due_at n d xs us j c a.1 e

due_from : (n d : ℕ) (cs : List Clause) (us : List Due) (j : ℕ) (u : Due) → AreDue n d cs us → slice_get us j ≡ Some u → (j < length cs) × (u.within ≡ Some n) × (u.base ≡ d)
due_from n d [] us j u a e = absurd (no_some u (sym (ap (λ l. slice_get l j) a) ∙ e))
due_from n d (x ∷ xs) [] j u a e = absurd a
due_from n d (x ∷ xs) (v ∷ vs) zero u a e = let s = same_some v u e in (omega arith, ap (λ y. y.within) s ∙ a.0.3, ap (λ y. y.base) s ∙ a.0.4)
due_from n d (x ∷ xs) (v ∷ vs) (suc j) u a e = let r = due_from n d xs vs j u a.1 e in let l = r.0 in (omega (arith, l), r.1, r.2)

due_length : (n d : ℕ) (cs : List Clause) (us : List Due) → AreDue n d cs us → length us ≡ length cs
due_length n d [] us a = ap length a
due_length n d (c ∷ cs) [] a = absurd a
due_length n d (c ∷ cs) (u ∷ us) a = ap suc (due_length n d cs us a.1)

pub due_more : (n d : ℕ) (cs : List Clause) (us : List Due) (c : Clause) (u : Due) → AreDue n d cs us → IsDue n d c u → AreDue n d (cs ++ c ∷ []) (us ++ u ∷ [])
due_more n d [] us c u a x = subst (λ l. AreDue n d (c ∷ []) (l ++ u ∷ [])) (sym a) (x, refl)
due_more n d (y ∷ ys) [] c u a x = absurd a
due_more n d (y ∷ ys) (v ∷ vs) c u a x = (a.0, due_more n d ys vs c u a.1 x)

stays_on : (us us' : List Due) (n : ℕ) (x : Assumption) → Extends us us' → Stays us n x → Stays us' n x
stays_on us us' n x e s = record {
  count = s.count;
  within = let w = s.within in let l = extends_length us us' e in omega (arith, w, l);
  behind = s.behind;
  members = λ j c at. let m = s.members j c at in (m.0, extends_at us us' (x.first + j) m.0 e m.1, m.2);
}

module _ (us us' : List Due) (xs : List Assumption) (cs : List Clause) (d : ℕ) (x : Assumption) (made : IsMade xs us us' cs d x) where
  grown : Extends us us'
  grown = (made.more, made.due_are)

  many : length us' ≡ length us + length cs
  many = ap length made.due_are ∙ length-append us made.more ∙ ap (λ n. length us + n) (due_length (length xs) d cs made.more made.members)

  new_stays : 1 ≤ length us → Stays us' (length xs) x
  new_stays some = record {
    behind = let f = made.first in omega (arith, f, some);
    count = made.count ∙ ap length (sym made.clauses_are);
    within = let f = made.first in let c = made.count in let m = many in omega (arith, f, c, m);
    members = λ j c at.
        let m = due_at (length xs) d cs made.more j c made.members (ap (λ l. slice_get l j) (sym made.clauses_are) ∙ at) in (
          m.0,
          ap (λ l. slice_get l (x.first + j)) made.due_are ∙ ap (λ k. slice_get (us ++ made.more) (k + j)) made.first ∙ get_behind us made.more j m.0 m.1,
          subst (λ k. IsDue (length xs) k c m.0) (sym made.base) m.2,
        );
  }

  pub assumed_more : AreAssumed us xs → AreAssumed us' (xs ++ x ∷ [])
  assumed_more a = record {
    some = let s = a.some in let m = many in omega (arith, s, m);
    each = λ n y at. ⊎_elim (λ e. stays_on us us' n y grown (a.each n y e)) (λ e. subst (λ k. Stays us' k y) (sym e.0)
        (subst (Stays us' (length xs)) (sym e.1) (new_stays a.some))) (get_more xs x n y at);
    ordered = λ n m y z lt at at2. ⊎_elim (λ e. before n m y z lt at e) (λ e. last n m y z lt at e.0 e.1) (get_more xs x m z at2);
    outer = λ i u at within. ⊎_elim (λ e. a.outer i u e within) (λ e. absurd (no_number (length xs)
        (sym within ∙ (due_from (length xs) d cs made.more (i - length us) u made.members e.1).1)))
        (get_both us made.more i u (sym (ap (λ l. slice_get l i) made.due_are) ∙ at));
    known = λ i n u at within. ⊎_elim (λ e. old i n u e within) (λ e. new i n u e.0 e.1 within) (get_both us made.more i u (sym (ap (λ l. slice_get l i) made.due_are) ∙ at));
  }
    where
      found : (n : ℕ) (y : Assumption) → slice_get (xs ++ x ∷ []) n ≡ Some y → n < length xs → slice_get xs n ≡ Some y
      found n y at lt = ⊎_elim (λ e. e) (λ e. let z = e.0 in absurd (omega (arith, lt, z))) (get_more xs x n y at)

      before : (n m : ℕ) (y z : Assumption) → n < m → slice_get (xs ++ x ∷ []) n ≡ Some y → slice_get xs m ≡ Some z → y.first + y.count ≤ z.first
      before n m y z lt at at2 = let w = slice_get_within xs m z at2 in a.ordered n m y z lt (found n y at (omega (arith, lt, w))) at2

      last : (n m : ℕ) (y z : Assumption) → n < m → slice_get (xs ++ x ∷ []) n ≡ Some y → m ≡ length xs → z ≡ x → y.first + y.count ≤ z.first
      last n m y z lt at is same =
          let s = a.each n y (found n y at (omega (arith, lt, is))) in
          let w = s.within in
          let f = made.first in
          let g = ap (λ (v : Assumption). v.first) same in
          omega (arith, w, f, g)

      old : (i n : ℕ) (u : Due) → slice_get us i ≡ Some u → u.within ≡ Some n → (y : Assumption) × (slice_get (xs ++ x ∷ []) n ≡ Some y) × (y.first ≤ i) × (i < y.first + y.count) × (u.base ≡ y.base)
      old i n u e within = let k = a.known i n u e within in (k.0, get_append xs (x ∷ []) n k.0 k.1, k.2, k.3, k.4)

      new : (i n : ℕ) (u : Due) → length us ≤ i → slice_get made.more (i - length us) ≡ Some u → u.within ≡ Some n → (y : Assumption) ×
          (slice_get (xs ++ x ∷ []) n ≡ Some y) × (y.first ≤ i) × (i < y.first + y.count) × (u.base ≡ y.base)
      new i n u le e within =
          let r = due_from (length xs) d cs made.more (i - length us) u made.members e in
          let lt = r.0 in
          let f = made.first in
          let c = made.count in
          let same : n ≡ length xs = same_some (length xs) n (sym r.1 ∙ within) in
          (x, ap (slice_get (xs ++ x ∷ [])) same ∙ get_last xs x, omega (arith, f, le), omega (arith, f, c, lt, le), r.2 ∙ sym made.base)

-- with one more that captures what stands in its clauses
pub captured_more : (b : Nodes) (xs ys : List Assumption) (x : Assumption) → ys ≡ xs ++ x ∷ [] →
    IsCapturing b x → AllCaptured b xs → AllCaptured b ys
captured_more b xs ys x e new old n y at =
    ⊎_elim (λ f. old n y f) (λ f. subst (λ (z : Assumption). IsCapturing b z) (sym f.1) new) (get_more xs x n y (ap (λ l. slice_get l n) (sym e) ∙ at))

-- a step that assumes clauses
pub assume_put : (us us' : List Due) (xs : List Assumption) (cs : List Clause) (d d' : ℕ) (x : Assumption) (ss : List Step) (ts ts' : List Todo) → IsMade xs us us' cs d x →
    ((b : Nodes) (cl : Suppositions) → cl.clauses (length xs) ≡ clauses_of b cs → todo_steps b cl ts ≡ step_of b cl (on.Assume (length xs)) ∷ todo_steps b cl ts') →
    ((b : Nodes) (D : ℕ → ℕ → Clauses → Type 0) (q : ℕ) → D q d (clauses_of b cs) → TodoHave b D (q + length cs) d' ts' → TodoHave b D q d ts) → ((b : Nodes) → TodoWritten b ts' → TodoWritten b ts) →
    ((b : Nodes) → TodoDeep b ts → TodoDeep b ts' × DeepClauses (clauses_of b cs)) → (AllEnds ts → AllEnds ts') →
    ((b : Nodes) → todo_records b ts ≡ clauses_records (clauses_of b cs) + todo_records b ts') → WalkKept us us' xs (xs ++ x ∷ []) d d' ss (ss ++ on.Assume (length xs) ∷ []) ts ts'
assume_put us us' xs cs d d' x ss ts ts' made says has written deep ends count us0 xs0 d0 gs w = record {
  kept = λ a. assumed_more us us' xs cs d x made (w.kept a);
  due_grow = extends_on us0 us us' w.due_grow (grown us us' xs cs d x made);
  grow = extends_on xs0 xs (xs ++ x ∷ []) w.grow (x ∷ [], refl);
  says = λ b cl h.
      steps_more b cl ss (on.Assume (length xs)) (todo_steps b cl ts')
      ∙ ap (λ l. steps_of b cl ss ++ l) (sym (says b cl (h (length xs) x (get_last xs x) ∙ ap (clauses_of b) made.clauses_are))) ∙ w.says b cl (hold_less b xs (xs ++ x ∷ []) cl (x ∷ [], refl) h);
  next = λ t e few. next_of_all t e few;
  has = λ b f all e y.
      let m = many us us' xs cs d x made in
      let first = made.first in
      let at : f + x.first ≡ f + length us = omega (arith, first) in
      let here : AssumptionAt b all f (f + length us) d (clauses_of b cs) = (
        length xs,
        x,
        extends_at (xs ++ x ∷ []) all (length xs) x e
            (get_last xs x),
        ap (clauses_of b) (sym made.clauses_are),
        at,
        made.base,
      ) in
      let z : f + length us' ≡ f + length us + length cs = omega (arith, m) in
      w.has b f all (extends_on xs (xs ++ x ∷ []) all (x ∷ [], refl) e) (has b (AssumptionAt b all f) (f + length us) here (subst (λ q. TodoHave b (AssumptionAt b all f) q d' ts') z y));
  deep = λ b y.
      let v = w.deep b y in
      let u = deep b v.0 in (
        u.0,
        λ n z le at. ⊎_elim (λ e. v.1 n z le e) (λ e. subst (λ k. DeepClauses (clauses_of b k.clauses.now)) (sym e.1)
            (subst (λ k. DeepClauses (clauses_of b k)) (sym made.clauses_are) u.1)) (get_more xs x n z at),
      );
  written = λ b y. w.written b (written b y);
  ends = ends w.ends;
  total = λ b. let n = w.total b in let m = count b in let k = due_grown b us us' xs cs d x made in omega (arith, n, m, k);
}
  where
    next_of_all : (t : Tables) → Extends (xs ++ x ∷ []) t.assumptions.now → t.first + length us' < 2 ^ 32 →
        AreNext t (t.first + length us0) (length xs0) (ss ++ on.Assume (length xs) ∷ []) × (next_all t (t.first + length us0) (ss ++ on.Assume (length xs) ∷ []) ≡ t.first + length us')
        × (length (xs ++ x ∷ []) ≡ length xs0 + starts_all t (ss ++ on.Assume (length xs) ∷ []))
    next_of_all t e few = (
      next_more t (t.first + length us0) (length xs0) ss (on.Assume (length xs)) n.0 (
        x,
        there,
        (let f = made.first in let a = n.1 in let z : t.first + x.first ≡ next_all t (t.first + length us0) ss = omega (arith, f, a) in z),
        (let f = made.first in let c = made.count in let m = many us us' xs cs d x made in let a = n.1 in omega (arith, c, m, a, few)),
        n.2,
      ),
      all_more t (t.first + length us0) ss (on.Assume (length xs)) ∙ ap (λ o. next_all t (t.first + length us0) ss + count_named o) there
          ∙ (let c = made.count in let m = many us us' xs cs d x made in let a = n.1 in let z : next_all t (t.first + length us0) ss + x.count ≡ t.first + length us' = omega (arith, c, m, a) in z),
      (let a = n.2 in let z = starts_more t ss (on.Assume (length xs)) in let y = ap one_if there in let l = length-append xs (x ∷ []) in omega (arith, a, z, y, l)),
    )
      where
        there : slice_get t.assumptions.now (length xs) ≡ Some x
        there = extends_at (xs ++ x ∷ []) t.assumptions.now (length xs) x e (get_last xs x)

        n : AreNext t (t.first + length us0) (length xs0) ss × (next_all t (t.first + length us0) ss ≡ t.first + length us) × (length xs ≡ length xs0 + starts_all t ss)
        n = w.next t (extends_on xs (xs ++ x ∷ []) t.assumptions.now (x ∷ [], refl) e) (let m = many us us' xs cs d x made in omega (arith, m, few))
