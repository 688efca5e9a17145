-- A turn in which a goal is taken apart is one move of the definition.
use Rattle.std.proofs.Common.{◌≡◌, ℕ, zero, suc, ◌+◌, ◌-◌, ◌≤◌, List, [], ◌∷◌, ◌++◌, length, drop, refl, sym, ap, ◌∙◌, subst, arith, append-nil, append_assoc, Bool, true, false, None}
use Rattle.std.proofs.lemmas.List.{length-append}
use Rattle.lp_model.specs.Branch.{Answer, Branch, Task, Go, Try, Stop, Lack}
use Rattle.lp_model.specs.Flat.{Clause}
use Rattle.lp_model.specs.Search.{look}
use Rattle.lp_model.specs.Skeleton.{View, Gives, Opens, Parts, Takes, Cuts, Denies, Halts, Lacks, Goes, Inner, State, move, move_at, move_view, row_limit}
use Rattle.lp_plain.specs.declared.choice.Choice.{Choice}
use Rattle.lp_plain.specs.declared.machine.Machine.{Machine}
use Rattle.lp_plain.specs.Assuming.{ArePlaced}
use Rattle.lp_plain.specs.Entries.{Around, IsBranchAt}
use Rattle.lp_plain.specs.Searching.{AreNested, IsQuietMove, IsSearch, IsStateOf, IsWithin, StandsFor, a_side, some_tries, StandForAll}
use Rattle.lp_plain.specs.Stacks.{base_of, stack_of}
use Rattle.lp_plain.specs.Taking.{IsAbove, IsApartFirst, IsKept, TakesBranch, TakesOne}
use Rattle.lp_plain.specs.Within.{StandsIn}
use Rattle.lp_plain.proofs.Alternatives.{all_stand_on}

-- one alternative more

pub stack_push : (tss : List (List Task)) (ts : List Task) → stack_of (tss ++ ts ∷ []) ≡ ts ++ stack_of tss
stack_push [] ts = sym (append-nil ts)
stack_push (us ∷ tss) ts = ap (λ l. l ++ us) (stack_push tss ts) ∙ append_assoc ts (stack_of tss) us

pub stand_push : (m : Machine) (a : Around) (cs : List Choice) (c : Choice) (below : ℕ) (tss : List (List Task)) (ts : List Task) → StandForAll m a cs
    below tss → ((n : ℕ) → StandsFor m a c n ts) → StandForAll m a (cs ++ c ∷ []) below (tss ++ ts ∷ [])
stand_push m a [] c below [] ts h f = (f below, tt)
stand_push m a [] c below (us ∷ tss) ts h f = absurd h
stand_push m a (x ∷ cs) c below [] ts h f = absurd h
stand_push m a (x ∷ cs) c below (us ∷ tss) ts h f = (h.0, stand_push m a cs c (below + length us) tss ts h.1 f)

pub within_new : (m : Machine) (a : Around) (c d : Choice) → IsKept m a c → IsAbove m d → IsWithin c d
within_new m a c d k h =
    let kf = k.frames in
    let kb = k.blocks in
    let kv = k.values in
    let ka = k.assumptions in
    let kn = k.newest in
    let ks = k.standings in
    let hf = h.frames in
    let hb = h.blocks in
    let hv = h.values in
    let ha = h.assumptions in
    let hn = h.newest in
    let hs = h.standings in
    record {
      frames = omega (arith, kf, hf);
      blocks = omega (arith, kb, hb);
      values = omega (arith, kv, hv);
      assumptions = omega (arith, ka, ha);
      newest = omega (arith, kn, hn);
      standings = omega (arith, ks, hs);
    }

pub kept_of : (m : Machine) (a : Around) (c : Choice) (n : ℕ) {ts : List Task} → StandsFor m a c n ts → IsKept m a c
kept_of m a c n (a_side b k h z) = k
kept_of m a c n (some_tries t y b x cs k h z) = k

pub nest_push : (m : Machine) (a : Around) (cs : List Choice) (c : Choice) (below : ℕ) (tss : List (List Task)) → StandForAll m a cs below tss → IsAbove m c → AreNested cs → AreNested (cs ++ c ∷ [])
nest_push m a [] c below tss h u n = tt
nest_push m a (x ∷ cs) c below [] h u n = absurd h
nest_push m a (x ∷ []) c below (ts ∷ tss) h u n = (within_new m a x c (kept_of m a x below h.0) u, tt)
nest_push m a (x ∷ y ∷ cs) c below (ts ∷ tss) h u n = (n.0, nest_push m a (y ∷ cs) c (below + length ts) tss h.1 u n.1)

pub drop_push : {X : Type 0} (n : ℕ) (xs : List X) (x : X) → n ≤ length xs → drop n (xs ++ x ∷ []) ≡ drop n xs ++ x ∷ []
drop_push zero xs x l = refl
drop_push (suc n) [] x l = absurd (omega (arith, l))
drop_push (suc n) (y ∷ xs) x l = drop_push n xs x (omega (arith, l))

-- the definition's move

module _ (go : (Answer → Bool) → State Task → Inner) (see : ℕ → Task → View Task Answer) where
  pub by_lost : (n k g u p : ℕ) (b : Bool) (t : Task) (rest : List Task) → move_at go see n (suc k) g u p b (t ∷ rest) ≡ move_view go n k g u p b rest (see (length rest) t)
  by_lost n k g u p true t rest = refl
  by_lost n k g u p false t rest = refl

  abbrev pub after_parts : State Task → (k p : ℕ) → List Task → State Task
  after_parts s k p stack = record { steps = s.steps; answers = suc k; given = s.given; rows = s.rows; row = p; lost = s.lost; stack = stack }

  pub parts_move : (s : State Task) (k p : ℕ) (t x : Task) (rest ts : List Task) → s.answers ≡ suc k → s.row ≡ suc p → s.stack ≡ t ∷ rest → see
      (length rest) t ≡ Parts (x ∷ ts) → move go see s ≡ Goes 0 [] (after_parts s k p ((x ∷ ts) ++ rest))
  parts_move s k p t x rest ts ea er es e =
      (λ i. move_at go see s.steps (ea i) s.given s.rows (er i) s.lost (es i)) ∙ by_lost s.steps k s.given s.rows (suc p) s.lost t rest ∙ ap
      (move_view go s.steps k s.given s.rows (suc p) s.lost rest) e

module _ (m n : Machine) (a : Around) (s : State Task) (h : IsStateOf m a s) (k : ℕ) (ea : s.answers ≡ suc k) (go : (Answer → Bool) → State Task → Inner) (u z : ℕ) (P : List Clause) where
  abbrev rest : List Task
  rest = stack_of h.others

  abbrev left : ℕ
  left = row_limit - n.counts.row

  module _ (v : View Task Answer) (t : TakesOne m n a v) (e : look u z P (length rest) (Go h.at_work) ≡ v) where
    row_is : s.row ≡ suc left
    row_is =
        let r = h.row in
        let l = t.quiet.row in
        let c : n.counts.row ≡ m.counts.row + 1 = ap (λ x. x.row) t.quiet.counts in
        omega (arith, r, l, c)

    base_same : base_of n.denied ≡ base_of m.denied
    base_same = ap base_of t.quiet.on.denied

    older : StandForAll n t.around (drop (base_of m.denied) m.choices.items) 0 h.others
    older = all_stand_on m n a t.around h.search.stands t.quiet.on t.later (drop (base_of m.denied) m.choices.items) 0 h.others h.search.alternatives

    state : (b : Branch) (others : List (List Task)) (stack : List Task) → IsSearch n t.around b others → stack ≡ Go b ∷ stack_of others → IsStateOf n
        t.around (record { steps = s.steps; answers = suc k; given = s.given; rows = s.rows; row = left; lost = s.lost; stack = stack })
    state b others stack w q = record {
      at_work = b;
      others = others;
      search = w;
      stack = q;
      steps = h.steps ∙ ap (λ x. x.limit - x.steps) (sym t.quiet.counts);
      rows = h.rows;
      row = refl;
      lost = h.lost ∙ ap (λ x. x.lost) (sym t.quiet.counts);
    }

  one_task : (b : Branch) (t : TakesOne m n a (Parts (Go b ∷ []))) → look u z P (length rest) (Go h.at_work) ≡ Parts (Go b ∷ []) → IsQuietMove m n a u z P go s
  one_task b t e =
      let c = t.parts.1 in
      let l = h.search.base in
      let f = base_same (Parts (Go b ∷ [])) t e in
      let w : IsSearch n t.around b h.others =
      record {
        branch = t.parts.0;
        stands = t.stands;
        placed = t.placed;
        base = (let lc = ap length c in omega (arith, l, f, lc));
        alternatives = subst (λ x. StandForAll n t.around x 0 h.others) (λ i. drop (sym f i) (sym c i)) (older (Parts (Go b ∷ [])) t e);
        nested = subst AreNested (λ i. drop (sym f i) (sym c i)) h.search.nested;
      } in (
        t.around,
        record { steps = s.steps; answers = suc k; given = s.given; rows = s.rows; row = left; lost = s.lost; stack = Go b ∷ rest },
        t.later,
        state (Parts (Go b ∷ [])) t e b h.others (Go b ∷ rest) w refl,
        parts_move go (look u z P) s k left (Go h.at_work) (Go b) rest [] ea (row_is (Parts (Go b ∷ [])) t e) h.stack e,
        sym ea,
        refl,
      )

  two_tasks : (b d : Branch) (t : TakesOne m n a (Parts (Go b ∷ Go d ∷ []))) → look u z P (length rest) (Go h.at_work) ≡ Parts (Go b ∷ Go d ∷ []) → IsQuietMove m n a u z P go s
  two_tasks b d t e =
      let c = t.parts.1.0 in
      let q = t.parts.1.1 in
      let l = h.search.base in
      let f = base_same (Parts (Go b ∷ Go d ∷ [])) t e in
      let w : IsSearch n t.around b (h.others ++ (Go d ∷ []) ∷ []) =
      record {
        branch = t.parts.0;
        stands = t.stands;
        placed = t.placed;
        base = (let lc = ap length q ∙ length-append m.choices.items (c ∷ []) in omega (arith, l, f, lc));
        alternatives = subst (λ x. StandForAll n t.around x 0 (h.others ++ (Go d ∷ []) ∷ [])) (sym (drop_push (base_of m.denied) m.choices.items c l) ∙ (λ i. drop (sym f i) (sym q i)))
            (stand_push n t.around (drop (base_of m.denied) m.choices.items) c 0 h.others (Go d ∷ []) (older (Parts (Go b ∷ Go d ∷ [])) t e) (λ j. a_side d (t.kept c q).0 t.parts.1.2 refl));
        nested = subst AreNested (sym (drop_push (base_of m.denied) m.choices.items c l) ∙ (λ i. drop (sym f i) (sym q i)))
            (nest_push m a (drop (base_of m.denied) m.choices.items) c 0 h.others h.search.alternatives (t.kept c q).1 h.search.nested);
      } in (
        t.around,
        record { steps = s.steps; answers = suc k; given = s.given; rows = s.rows; row = left; lost = s.lost; stack = Go b ∷ Go d ∷ rest },
        t.later,
        state (Parts (Go b ∷ Go d ∷ [])) t e b (h.others ++ (Go d ∷ []) ∷ []) (Go b ∷ Go d ∷ rest) w (ap (λ x. Go b ∷ x) (sym (stack_push h.others (Go d ∷ [])))),
        parts_move go (look u z P) s k left (Go h.at_work) (Go b) rest (Go d ∷ []) ea (row_is (Parts (Go b ∷ Go d ∷ [])) t e) h.stack e,
        sym ea,
        refl,
      )

  by_view : (v : View Task Answer) → TakesOne m n a v → look u z P (length rest) (Go h.at_work) ≡ v → IsQuietMove m n a u z P go s
  by_view (Parts (Go b ∷ [])) t e = one_task b t e
  by_view (Parts (Go b ∷ Go d ∷ [])) t e = two_tasks b d t e
  by_view (Parts []) t e = absurd t.parts
  by_view (Parts (Try c x y b j ∷ ts)) t e = absurd t.parts
  by_view (Parts (Stop x ∷ ts)) t e = absurd t.parts
  by_view (Parts (Lack ∷ ts)) t e = absurd t.parts
  by_view (Parts (Go b ∷ Try c x y d j ∷ ts)) t e = absurd t.parts
  by_view (Parts (Go b ∷ Stop x ∷ ts)) t e = absurd t.parts
  by_view (Parts (Go b ∷ Lack ∷ ts)) t e = absurd t.parts
  by_view (Parts (Go b ∷ Go d ∷ x ∷ ts)) t e = absurd t.parts
  by_view (Gives x) t e = absurd t.parts
  by_view (Opens ts) t e = absurd t.parts
  by_view (Takes x ts) t e = absurd t.parts
  by_view (Cuts x ts) t e = absurd t.parts
  by_view (Denies x y ts) t e = absurd t.parts
  by_view (Halts x) t e = absurd t.parts
  by_view Lacks t e = absurd t.parts

  pub quiet_move : TakesBranch m n → IsApartFirst h.at_work.goals → IsQuietMove m n a u z P go s
  quiet_move t f = by_view (look u z P (length rest) (Go h.at_work)) (t a h.at_work h.search.stands h.search.placed h.search.branch f u z (length rest) P) refl

-- the state in which a search begins
pub first_state : (limit : ℕ) (a : Around) (m : Machine) (s : State Task) (b : Branch) → IsBranchAt m a b → m.choices.items ≡ [] → StandsIn m →
    ArePlaced m a → m.denied ≡ None → m.counts ≡ record { limit = limit; steps = 0; row = 0; lost = false } →
    s.stack ≡ Go b ∷ [] → s.steps ≡ limit → s.rows ≡ row_limit → s.row ≡ row_limit → s.lost ≡ false → IsStateOf m a s
first_state limit a m s b w c st pl d k es et er ep el = record {
  at_work = b;
  others = [];
  search = record {
    branch = w;
    stands = st;
    placed = pl;
    base = (let e = ap base_of d in omega (arith, e));
    alternatives = subst (λ x. StandForAll m a x 0 []) (λ i. drop (base_of (sym d i)) (sym c i)) tt;
    nested = subst AreNested (λ i. drop (base_of (sym d i)) (sym c i)) tt;
  };
  stack = es;
  steps = (let e : limit ≡ limit - 0 = omega arith in et ∙ e ∙ ap (λ z. z.limit - z.steps) (sym k));
  rows = er;
  row = ep ∙ ap (λ z. row_limit - z.row) (sym k);
  lost = el ∙ ap (λ z. z.lost) (sym k);
}
