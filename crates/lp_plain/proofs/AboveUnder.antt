-- The alternatives of a search as tasks, while the search goes on, is cut, and gets one more.
use Rattle.std.proofs.Common.{◌≡◌, ℕ, zero, suc, ◌+◌, ◌-◌, ◌<◌, ◌≤◌, List, [], ◌∷◌, ◌++◌, length, take, drop, refl, sym, ap, ◌∙◌, subst, arith}
use Rattle.std.specs.Prelude.{All}
use Rattle.std.proofs.lemmas.List.{length-append, take-append-le}
use Rattle.std.proofs.lemmas.List.Elements.{All-nil, All-cons, All-weaker}
use Rattle.lp_model.specs.Branch.{Task}
use Rattle.lp_model.specs.declared.answer.Pair.{Pair as Numbers}
use Rattle.lp_pattern.specs.Growing.{Grows, IsPairOf}
use Rattle.lp_pattern.specs.declared.bindings.Bindings.{Bindings}
use Rattle.lp_pattern.proofs.Walking.{open_kept}
use Rattle.lp_plain.specs.declared.choice.Choice.{Choice}
use Rattle.lp_plain.specs.declared.machine.Machine.{Machine}
use Rattle.lp_plain.specs.Assuming.{GrowsOn, IsLaterAround}
use Rattle.lp_plain.specs.Entries.{Around}
use Rattle.lp_plain.specs.Moving.{Query, AreAlternatives, AreBoundInTurn, AreThoseOf, HasAlternatives, IsAlternative, mark_in}
use Rattle.lp_plain.specs.Searching.{AreNested, IsDone, StandForAll, StandsFor, a_side, some_tries}
use Rattle.lp_plain.specs.Stacks.{base_of, stack_of}
use Rattle.lp_plain.specs.Taking.{IsAbove, IsKept}
use Rattle.lp_plain.specs.Within.{StandsIn}
use Rattle.lp_plain.proofs.Alternatives.{all_stand_on, taken_same}
use Rattle.lp_plain.proofs.Backwards.{take_within}
use Rattle.lp_plain.proofs.Marking.{drop_length}
use Rattle.lp_plain.proofs.QuietMoves.{drop_push, kept_of, nest_push}
use Rattle.lp_plain.proofs.CallsUnder.{tasks_count, tasks_marked, tasks_then}
use Rattle.lp_plain.proofs.Within.{longer_list}

pub pairs_more : (a b : ℕ) (qs : List Numbers) → a ≤ b → All (IsPairOf a) qs → All (IsPairOf b) qs
pairs_more a b qs l h = All-weaker (IsPairOf a) (IsPairOf b) (λ q w. ((let x = w.0 in omega (arith, x, l)), (let y = w.1 in omega (arith, y, l)))) qs h

-- in a search that goes on
module _ (qv : Query) (m n : Machine) (a d : Around) (st : StandsIn m) (g : GrowsOn m n) (lt : IsLaterAround (length m.newest.items) (length m.standings.items) a d) (gb : Grows m.bindings n.bindings) where
  those_back : (c : Choice) (s : Bindings) → c.bindings.terms ≤ length m.bindings.terms.entries → c.bindings.types ≤ length m.bindings.types.entries → AreThoseOf n c s → AreThoseOf m c s
  those_back c s l k h = record {
    terms = h.terms ∙ taken_same c.bindings.terms m.bindings.terms.entries n.bindings.terms.entries gb.terms l;
    types = h.types ∙ taken_same c.bindings.types m.bindings.types.entries n.bindings.types.entries gb.types k;
  }

  pub alternative_on : (f : ℕ → ℕ) (l k : ℕ) (c : Choice) (rs ts : List Task) → IsKept m a c → IsAlternative qv m f l k c rs ts → IsAlternative qv n f l k c rs ts
  alternative_on f l k c rs ts kc h =
      let i = h.bound_terms in
      let j = h.bound_types in
      let wt = longer_list m.bindings.terms.entries n.bindings.terms.entries gb.terms in
      let wy = longer_list m.bindings.types.entries n.bindings.types.entries gb.types in
      record {
        closing = h.closing;
        reading = λ s q. open_kept m.bank n.bank s c.next h.closing g.lists.bank (h.reading s (those_back c s i j q));
        bound_terms = omega (arith, i, wt);
        bound_types = omega (arith, j, wy);
        left = pairs_more (length m.bank.terms) (length n.bank.terms) c.pairs.items g.lists.bank.more_terms h.left;
        tasks = tasks_then qv m n a d st g lt c kc h.left h.closing f l k rs ts h.tasks;
      }

  pub alternatives_on : (f : ℕ → ℕ) (l k below : ℕ) (cs : List Choice) (rss tss : List (List Task)) → StandForAll m a cs below rss → AreAlternatives qv m f l k cs rss tss → AreAlternatives qv n f l k cs rss tss
  alternatives_on f l k below [] [] [] s h = tt
  alternatives_on f l k below [] [] (ts ∷ tss) s h = absurd h
  alternatives_on f l k below [] (rs ∷ rss) tss s h = absurd h
  alternatives_on f l k below (c ∷ cs) [] tss s h = absurd h
  alternatives_on f l k below (c ∷ cs) (rs ∷ rss) [] s h = absurd h
  alternatives_on f l k below (c ∷ cs) (rs ∷ rss) (ts ∷ tss) s h =
      (alternative_on f l k c rs ts (kept_of m a c below s.0) h.0, alternatives_on f l (suc k) (below + length rs) cs rss tss s.1 h.1)

-- marks that agree below the alternatives
module _ (qv : Query) (m : Machine) (f g : ℕ → ℕ) (l : ℕ) where
  pub alternatives_marked : (k : ℕ) (cs : List Choice) (rss tss : List (List Task)) → ((i : ℕ) → l ≤ i → i < k + length cs → g i ≡ f i) → AreAlternatives qv m f l k cs rss tss → AreAlternatives qv m g l k cs rss tss
  alternatives_marked k [] [] [] a h = tt
  alternatives_marked k [] [] (ts ∷ tss) a h = absurd h
  alternatives_marked k [] (rs ∷ rss) tss a h = absurd h
  alternatives_marked k (c ∷ cs) [] tss a h = absurd h
  alternatives_marked k (c ∷ cs) (rs ∷ rss) [] a h = absurd h
  alternatives_marked k (c ∷ cs) (rs ∷ rss) (ts ∷ tss) a h =
      let x = h.0 in (
        record {
          closing = x.closing;
          reading = x.reading;
          bound_terms = x.bound_terms;
          bound_types = x.bound_types;
          left = x.left;
          tasks = tasks_marked qv m c x.closing l k f g (λ i p q. a i p (omega (arith, q))) rs ts x.tasks;
        },
        alternatives_marked (suc k) cs rss tss (λ i p q. a i p (omega (arith, q))) h.1,
      )

-- the oldest of them
module _ (qv : Query) (m : Machine) (f : ℕ → ℕ) (l : ℕ) where
  pub alternatives_taken : (j k : ℕ) (cs : List Choice) (rss tss : List (List Task)) → AreAlternatives qv m f l k cs rss tss → AreAlternatives qv m f l k (take j cs) (take j rss) (take j tss)
  alternatives_taken zero k cs rss tss h = tt
  alternatives_taken (suc j) k [] [] [] h = tt
  alternatives_taken (suc j) k [] [] (ts ∷ tss) h = absurd h
  alternatives_taken (suc j) k [] (rs ∷ rss) tss h = absurd h
  alternatives_taken (suc j) k (c ∷ cs) [] tss h = absurd h
  alternatives_taken (suc j) k (c ∷ cs) (rs ∷ rss) [] h = absurd h
  alternatives_taken (suc j) k (c ∷ cs) (rs ∷ rss) (ts ∷ tss) h = (h.0, alternatives_taken j (suc k) cs rss tss h.1)

  -- one more
  pub alternatives_push : (k : ℕ) (cs : List Choice) (rss tss : List (List Task)) (c : Choice) (rs ts : List Task) → AreAlternatives qv m f l k cs rss tss → IsAlternative qv m f l (k + length cs) c rs ts →
      AreAlternatives qv m f l k (cs ++ c ∷ []) (rss ++ rs ∷ []) (tss ++ ts ∷ [])
  alternatives_push k [] [] [] c rs ts h x = (let e : k + 0 ≡ k = omega arith in subst (λ i. IsAlternative qv m f l i c rs ts) e x, tt)
  alternatives_push k [] [] (us ∷ tss) c rs ts h x = absurd h
  alternatives_push k [] (us ∷ rss) tss c rs ts h x = absurd h
  alternatives_push k (d ∷ cs) [] tss c rs ts h x = absurd h
  alternatives_push k (d ∷ cs) (us ∷ rss) [] c rs ts h x = absurd h
  alternatives_push k (d ∷ cs) (us ∷ rss) (vs ∷ tss) c rs ts h x =
      (h.0, alternatives_push (suc k) cs rss tss c rs ts h.1 (let e : k + suc (length cs) ≡ suc k + length cs = omega arith in subst (λ i. IsAlternative qv m f l i c rs ts) e x))

  -- as many
  pub counts_same : (k : ℕ) (cs : List Choice) (rss tss : List (List Task)) → AreAlternatives qv m f l k cs rss tss → (length rss ≡ length cs) × (length tss ≡ length cs) × (length (stack_of tss) ≡ length (stack_of rss))
  counts_same k [] [] [] h = (refl, refl, refl)
  counts_same k [] [] (ts ∷ tss) h = absurd h
  counts_same k [] (rs ∷ rss) tss h = absurd h
  counts_same k (c ∷ cs) [] tss h = absurd h
  counts_same k (c ∷ cs) (rs ∷ rss) [] h = absurd h
  counts_same k (c ∷ cs) (rs ∷ rss) (ts ∷ tss) h =
      let r = counts_same (suc k) cs rss tss h.1 in
      let e = tasks_count qv m c h.0.closing l k f rs ts h.0.tasks in
      let p = length-append (stack_of tss) ts in
      let q = length-append (stack_of rss) rs in
      let w = r.2 in
      (ap suc r.0, ap suc r.1, omega (arith, e, p, q, w))

  pub have_tasks : (a : Around) (k below : ℕ) (cs : List Choice) (rss tss : List (List Task)) → StandForAll m a cs below rss → AreAlternatives qv m f l k cs rss tss → All (λ ts. 0 < length ts) tss
  have_tasks a k below [] [] [] s h = All-nil (λ (ts : List Task). 0 < length ts)
  have_tasks a k below [] [] (ts ∷ tss) s h = absurd h
  have_tasks a k below [] (rs ∷ rss) tss s h = absurd h
  have_tasks a k below (c ∷ cs) [] tss s h = absurd h
  have_tasks a k below (c ∷ cs) (rs ∷ rss) [] s h = absurd h
  have_tasks a k below (c ∷ cs) (rs ∷ rss) (ts ∷ tss) s h =
      let e = tasks_count qv m c h.0.closing l k f rs ts h.0.tasks in
      let w = some c rs s.0 in
      All-cons (λ (ts : List Task). 0 < length ts) ts tss (omega (arith, e, w)) (have_tasks a (suc k) (below + length rs) cs rss tss s.1 h.1)
    where
      some : {below : ℕ} (c : Choice) (rs : List Task) → StandsFor m a c below rs → 0 < length rs
      some c rs (a_side b k h z) = let e = ap length z in omega (arith, e)
      some c rs (some_tries t y b x cs k h z) = let e = ap length z in omega (arith, e)

-- marks while alternatives come and go
pub marks_fewer : (b j : ℕ) (tss : List (List Task)) (i : ℕ) → i - b ≤ j → mark_in b (take j tss) i ≡ mark_in b tss i
marks_fewer b j tss i l = ap (λ x. length (stack_of x)) (take_within (i - b) j tss l)

pub marks_more : (b : ℕ) (tss : List (List Task)) (ts : List Task) (i : ℕ) → i - b ≤ length tss → mark_in b (tss ++ ts ∷ []) i ≡ mark_in b tss i
marks_more b tss ts i l = ap (λ x. length (stack_of x)) (take-append-le (i - b) tss (ts ∷ []) l)

-- what is bound in turn
pub in_turn_taken : (j : ℕ) (cs : List Choice) → AreBoundInTurn cs → AreBoundInTurn (take j cs)
in_turn_taken zero cs h = tt
in_turn_taken (suc j) [] h = tt
in_turn_taken (suc zero) (c ∷ []) h = tt
in_turn_taken (suc (suc j)) (c ∷ []) h = tt
in_turn_taken (suc zero) (c ∷ d ∷ cs) h = tt
in_turn_taken (suc (suc j)) (c ∷ d ∷ cs) h = (h.0, h.1, in_turn_taken (suc j) (d ∷ cs) h.2)

pub nested_taken : (j : ℕ) (cs : List Choice) → AreNested cs → AreNested (take j cs)
nested_taken zero cs h = tt
nested_taken (suc j) [] h = tt
nested_taken (suc zero) (c ∷ []) h = tt
nested_taken (suc (suc j)) (c ∷ []) h = tt
nested_taken (suc zero) (c ∷ d ∷ cs) h = tt
nested_taken (suc (suc j)) (c ∷ d ∷ cs) h = (h.0, nested_taken (suc j) (d ∷ cs) h.1)

pub stand_taken : (m : Machine) (a : Around) (j : ℕ) (cs : List Choice) (below : ℕ) (tss : List (List Task)) → StandForAll m a cs below tss → StandForAll m a (take j cs) below (take j tss)
stand_taken m a zero cs below tss h = tt
stand_taken m a (suc j) [] below [] h = tt
stand_taken m a (suc j) [] below (ts ∷ tss) h = absurd h
stand_taken m a (suc j) (c ∷ cs) below [] h = absurd h
stand_taken m a (suc j) (c ∷ cs) below (ts ∷ tss) h = (h.0, stand_taken m a j cs (below + length ts) tss h.1)

none_left : {X : Type 0} (i : ℕ) (xs : List X) → xs ≡ [] → take i xs ≡ []
none_left zero xs e = refl
none_left (suc i) [] e = refl
none_left (suc i) (x ∷ xs) e = absurd (cc)

pub drop_taken : {X : Type 0} (b k : ℕ) (xs : List X) → b ≤ k → drop b (take k xs) ≡ take (k - b) (drop b xs)
drop_taken zero k xs l = ap (λ i. take i xs) (let e : k ≡ k - 0 = omega arith in e)
drop_taken (suc b) zero xs l = absurd (omega (arith, l))
drop_taken (suc b) (suc k) [] l = sym (none_left (suc k - suc b) [] refl)
drop_taken (suc b) (suc k) (x ∷ xs) l = drop_taken b k xs (omega (arith, l)) ∙ ap (λ i. take i (drop b xs)) (let e : k - b ≡ suc k - suc b = omega arith in e)

-- one more above as many tasks as the others have
stand_push_at : (m : Machine) (a : Around) (cs : List Choice) (c : Choice) (below : ℕ) (tss : List (List Task)) (ts : List Task) → StandForAll m a cs below tss → StandsFor m a c (below + length (stack_of tss)) ts →
    StandForAll m a (cs ++ c ∷ []) below (tss ++ ts ∷ [])
stand_push_at m a [] c below [] ts h f = (let e : below + 0 ≡ below = omega arith in subst (λ i. StandsFor m a c i ts) e f, tt)
stand_push_at m a [] c below (us ∷ tss) ts h f = absurd h
stand_push_at m a (x ∷ cs) c below [] ts h f = absurd h
stand_push_at m a (x ∷ cs) c below (us ∷ tss) ts h f = (
  h.0,
  stand_push_at m a cs c (below + length us) tss ts h.1
      (let l = length-append (stack_of tss) us in let e : below + length (stack_of tss ++ us) ≡ below + length us + length (stack_of tss) = omega (arith, l) in subst (λ i. StandsFor m a c i ts) e f),
)

-- the oldest of the alternatives of a search that goes on
module _ (qv : Query) (m n : Machine) (a d : Around) (st : StandsIn m) (sn : StandsIn n) (g : GrowsOn m n) (lt : IsLaterAround (length m.newest.items) (length m.standings.items) a d) (gb : Grows m.bindings n.bindings)
    (mark : ℕ) (ch : n.choices.items ≡ take mark m.choices.items) (low : base_of m.denied ≤ mark) (stack : List Task) (h : HasAlternatives qv m a stack) where
  abbrev base : ℕ
  base = base_of m.denied

  abbrev older : List Choice
  older = drop base m.choices.items

  same_base : base_of n.denied ≡ base
  same_base = ap base_of g.denied

  left : drop (base_of n.denied) n.choices.items ≡ take (mark - base) older
  left = (λ i. drop (same_base i) (ch i)) ∙ drop_taken base mark m.choices.items low

  kept_are : AreAlternatives qv n (mark_in base (take (mark - base) h.raws)) base base (take (mark - base) older) (take (mark - base) h.raws) (take (mark - base) h.others)
  kept_are =
      let j = mark - base in
      alternatives_marked qv n (mark_in base h.raws) (mark_in base (take j h.raws)) base base (take j older) (take j h.raws) (take j h.others)
      (λ i p q. marks_fewer base j h.raws i (let w = short j older in omega (arith, p, q, w)))
      (alternatives_taken qv n (mark_in base h.raws) base j base older h.raws h.others (alternatives_on qv m n a d st g lt gb (mark_in base h.raws) base base 0 older h.raws h.others h.done.alternatives h.are))
    where
      short : {X : Type 0} (i : ℕ) (xs : List X) → length (take i xs) ≤ i
      short zero xs = omega arith
      short (suc i) [] = omega arith
      short (suc i) (x ∷ xs) = let r = short i xs in omega (arith, r)

  pub kept_done : IsDone n d (take (mark - base) h.raws)
  kept_done = record {
    stands = sn;
    base = (let e = same_base in let b = h.done.base in let c = ap length ch in let w = enough mark m.choices.items base low b in omega (arith, e, c, w));
    alternatives = subst (λ x. StandForAll n d x 0 (take (mark - base) h.raws)) (sym left)
        (stand_taken n d (mark - base) older 0 h.raws (all_stand_on m n a d st g lt older 0 h.raws h.done.alternatives));
    nested = subst AreNested (sym left) (nested_taken (mark - base) older h.done.nested);
  }
    where
      enough : {X : Type 0} (k : ℕ) (xs : List X) (b : ℕ) → b ≤ k → b ≤ length xs → b ≤ length (take k xs)
      enough zero xs b p q = omega (arith, p)
      enough (suc k) [] b p q = omega (arith, q)
      enough (suc k) (x ∷ xs) zero p q = omega arith
      enough (suc k) (x ∷ xs) (suc b) p q = let r = enough k xs b (omega (arith, p)) (omega (arith, q)) in omega (arith, r)

  pub kept_all : AreAlternatives qv n (mark_in (base_of n.denied) (take (mark - base) h.raws)) (base_of n.denied) (base_of n.denied) (drop (base_of n.denied) n.choices.items) (take (mark - base) h.raws) (take (mark - base) h.others)
  kept_all =
      subst (λ b. AreAlternatives qv n (mark_in b (take (mark - base) h.raws)) b b (drop (base_of n.denied) n.choices.items) (take (mark - base) h.raws) (take (mark - base) h.others)) (sym same_base)
      (subst (λ x. AreAlternatives qv n (mark_in base (take (mark - base) h.raws)) base base x (take (mark - base) h.raws) (take (mark - base) h.others)) (sym left) kept_are)

  pub kept_turn : AreBoundInTurn (drop (base_of n.denied) n.choices.items)
  kept_turn = subst AreBoundInTurn (sym left) (in_turn_taken (mark - base) older h.in_turn)

-- all of them
module _ (qv : Query) (m n : Machine) (a d : Around) (st : StandsIn m) (sn : StandsIn n) (g : GrowsOn m n) (lt : IsLaterAround (length m.newest.items) (length m.standings.items) a d) (gb : Grows m.bindings n.bindings)
    (stack : List Task) (h : HasAlternatives qv m a stack) where
  module _ (ch : n.choices.items ≡ m.choices.items) where
    still_left : drop (base_of n.denied) n.choices.items ≡ drop (base_of m.denied) m.choices.items
    still_left = λ i. drop (base_of (g.denied i)) (ch i)

    still_are : AreAlternatives qv n (mark_in (base_of m.denied) h.raws) (base_of m.denied) (base_of m.denied) (drop (base_of m.denied) m.choices.items) h.raws h.others
    still_are = alternatives_on qv m n a d st g lt gb (mark_in (base_of m.denied) h.raws) (base_of m.denied) (base_of m.denied) 0 (drop (base_of m.denied) m.choices.items) h.raws h.others h.done.alternatives h.are

    pub still_done : IsDone n d h.raws
    still_done = record {
      stands = sn;
      base = (let e = ap base_of g.denied in let b = h.done.base in let c = ap length ch in omega (arith, e, b, c));
      alternatives = subst (λ x. StandForAll n d x 0 h.raws) (sym still_left) (all_stand_on m n a d st g lt (drop (base_of m.denied) m.choices.items) 0 h.raws h.done.alternatives);
      nested = subst AreNested (sym still_left) h.done.nested;
    }

    pub still_all : AreAlternatives qv n (mark_in (base_of n.denied) h.raws) (base_of n.denied) (base_of n.denied) (drop (base_of n.denied) n.choices.items) h.raws h.others
    still_all =
        subst (λ b. AreAlternatives qv n (mark_in b h.raws) b b (drop (base_of n.denied) n.choices.items) h.raws h.others) (sym (ap base_of g.denied))
        (subst (λ x. AreAlternatives qv n (mark_in (base_of m.denied) h.raws) (base_of m.denied) (base_of m.denied) x h.raws h.others) (sym still_left) still_are)

    pub still_turn : AreBoundInTurn (drop (base_of n.denied) n.choices.items)
    still_turn = subst AreBoundInTurn (sym still_left) h.in_turn

  -- one more
  module _ (c : Choice) (ch : n.choices.items ≡ m.choices.items ++ c ∷ []) (rs ts : List Task) (sf : StandsFor n d c (length (stack_of h.raws)) rs) (ab : IsAbove m c)
      (al : IsAlternative qv n (mark_in (base_of m.denied) (h.raws ++ rs ∷ [])) (base_of m.denied) (length m.choices.items) c rs ts) where
    abbrev aged : List Choice
    aged = drop (base_of m.denied) m.choices.items

    more_left : drop (base_of n.denied) n.choices.items ≡ aged ++ c ∷ []
    more_left = (λ i. drop (base_of (g.denied i)) (ch i)) ∙ drop_push (base_of m.denied) m.choices.items c h.done.base

    more_are : AreAlternatives qv n (mark_in (base_of m.denied) (h.raws ++ rs ∷ [])) (base_of m.denied) (base_of m.denied) (aged ++ c ∷ []) (h.raws ++ rs ∷ []) (h.others ++ ts ∷ [])
    more_are =
        let b = base_of m.denied in
        let f = mark_in b h.raws in
        let k = counts_same qv m f b b aged h.raws h.others h.are in
        let e = k.0 in
        alternatives_push qv n (mark_in b (h.raws ++ rs ∷ [])) b b aged h.raws h.others c rs ts
        (alternatives_marked qv n f (mark_in b (h.raws ++ rs ∷ [])) b b aged h.raws h.others (λ i p q. marks_more b h.raws rs i (omega (arith, p, q, e)))
        (alternatives_on qv m n a d st g lt gb f b b 0 aged h.raws h.others h.done.alternatives h.are)) (subst (λ i. IsAlternative qv n (mark_in b (h.raws ++ rs ∷ [])) b i c rs ts) (sym (drop_length b m.choices.items h.done.base)) al)

    pub more_done : IsDone n d (h.raws ++ rs ∷ [])
    more_done = record {
      stands = sn;
      base = (let e = ap base_of g.denied in let b = h.done.base in let k = ap length ch ∙ length-append m.choices.items (c ∷ []) in omega (arith, e, b, k));
      alternatives = subst (λ x. StandForAll n d x 0 (h.raws ++ rs ∷ [])) (sym more_left)
          (stand_push_at n d aged c 0 h.raws rs (all_stand_on m n a d st g lt aged 0 h.raws h.done.alternatives) (let e : length (stack_of h.raws) ≡ 0 + length (stack_of h.raws) = omega arith in subst (λ i. StandsFor n d c i rs) e sf));
      nested = subst AreNested (sym more_left) (nest_push m a aged c 0 h.raws h.done.alternatives ab h.done.nested);
    }

    pub more_all : AreAlternatives qv n (mark_in (base_of n.denied) (h.raws ++ rs ∷ [])) (base_of n.denied) (base_of n.denied) (drop (base_of n.denied) n.choices.items) (h.raws ++ rs ∷ []) (h.others ++ ts ∷ [])
    more_all =
        subst (λ b. AreAlternatives qv n (mark_in b (h.raws ++ rs ∷ [])) b b (drop (base_of n.denied) n.choices.items) (h.raws ++ rs ∷ []) (h.others ++ ts ∷ [])) (sym (ap base_of g.denied))
        (subst (λ x. AreAlternatives qv n (mark_in (base_of m.denied) (h.raws ++ rs ∷ [])) (base_of m.denied) (base_of m.denied) x (h.raws ++ rs ∷ []) (h.others ++ ts ∷ [])) (sym more_left) more_are)

    pub more_turn : AreBoundInTurn (aged ++ c ∷ []) → AreBoundInTurn (drop (base_of n.denied) n.choices.items)
    more_turn w = subst AreBoundInTurn (sym more_left) w
