-- A search that goes on from one branch to another, with the same alternatives or with one more, where nothing is bound.
use Rattle.std.proofs.Common.{◌≡◌, ℕ, suc, ◌≤◌, List, [], ◌∷◌, ◌++◌, length, take, drop, refl, sym, ap, ◌∙◌, subst, arith, nat_eq, None}
use Rattle.std.specs.Prelude.{All}
use Rattle.std.specs.Map.{lookup}
use Rattle.std.proofs.lemmas.List.{length-append, take_all}
use Rattle.indexmap.specs.IndexMap.{get}
use Rattle.lp_term.specs.Nodes.{Nodes}
use Rattle.lp_model.specs.Branch.{Branch, Go, Task}
use Rattle.lp_model.specs.Pair.{Closing}
use Rattle.lp_model.specs.Skeleton.{State}
use Rattle.lp_pattern.specs.Growing.{Grows, IsPairOf}
use Rattle.lp_pattern.specs.Turning.{IsOpenReading}
use Rattle.lp_pattern.specs.Under.{IsReading, TypeIs, ValueIs}
use Rattle.lp_pattern.specs.declared.bindings.Bindings.{Bindings}
use Rattle.lp_pattern.proofs.Keeps.{grows_same}
use Rattle.lp_pattern.proofs.Walking.{open_kept}
use Rattle.lp_plain.specs.declared.choice.Choice.{Choice}
use Rattle.lp_plain.specs.declared.machine.Machine.{Machine}
use Rattle.lp_plain.specs.Assuming.{ArePlaced, GrowsOn, IsLaterAround}
use Rattle.lp_plain.specs.Entries.{Around, IsChoiceAt}
use Rattle.lp_plain.specs.Moving.{Query, AreAlternatives, AreBoundInTurn, AreThoseOf, BindsNone, IsAlternative, IsBranchUnder, IsCounted, IsPutWith, IsRunning, mark_in, of_side}
use Rattle.lp_plain.specs.Searching.{a_side}
use Rattle.lp_plain.specs.Stacks.{base_of}
use Rattle.lp_plain.specs.Taking.{IsAbove, IsKept}
use Rattle.lp_plain.specs.Within.{StandsIn}
use Rattle.lp_plain.proofs.AboveUnder.{counts_same, marks_more, more_all, more_done, more_turn, pairs_more, still_all, still_done, still_turn}
use Rattle.lp_plain.proofs.Inside.{inside_more, inside_still}
use Rattle.lp_plain.proofs.Marking.{drop_length}
use Rattle.lp_plain.proofs.QuietMoves.{stack_push}
use Rattle.lp_plain.proofs.Under.{branch_marked, branch_on, branch_wider}

-- the same entries are read so
pub reading_like : (b : Nodes) (s t : Bindings) (next : ℕ) (z : Closing) → t.terms.entries ≡ s.terms.entries → t.types.entries ≡ s.types.entries → IsOpenReading b s next z → IsOpenReading b t next z
reading_like b s t next z e y h = record {
  reading = record {
    terms = λ x. subst (ValueIs b z x) (ap (lookup (nat_eq x)) (sym e)) (h.reading.terms x);
    types = λ x. subst (TypeIs b z.types x) (ap (lookup (nat_eq x)) (sym y)) (h.reading.types x);
  };
  shut = h.shut;
  still = h.still;
  unbound = λ x l. ap (lookup (nat_eq x)) e ∙ h.unbound x l;
}

-- what is bound at each of them is bound now
pub in_turn_push : (qv : Query) (m : Machine) (f : ℕ → ℕ) (l k : ℕ) (cs : List Choice) (rss tss : List (List Task)) (c : Choice) → AreAlternatives qv m f l k cs rss tss → AreBoundInTurn cs →
    length m.bindings.terms.entries ≤ c.bindings.terms → length m.bindings.types.entries ≤ c.bindings.types → AreBoundInTurn (cs ++ c ∷ [])
in_turn_push qv m f l k [] rss tss c h w p q = tt
in_turn_push qv m f l k (d ∷ cs) [] tss c h w p q = absurd h
in_turn_push qv m f l k (d ∷ cs) (rs ∷ rss) [] c h w p q = absurd h
in_turn_push qv m f l k (d ∷ []) (rs ∷ rss) (ts ∷ tss) c h w p q = let i = h.0.bound_terms in let j = h.0.bound_types in (omega (arith, i, p), omega (arith, j, q), tt)
in_turn_push qv m f l k (d ∷ e ∷ cs) (rs ∷ rss) (ts ∷ tss) c h w p q = (w.0, w.1, in_turn_push qv m f l (suc k) (e ∷ cs) rss tss c h.1 w.2 p q)

module _ (qv : Query) (m n : Machine) (a d : Around) (raw : Branch) (s : State Task) (h : IsRunning qv m a raw s) (st : StandsIn n) (pl : ArePlaced n d) (g : GrowsOn m n)
    (lt : IsLaterAround (length m.newest.items) (length m.standings.items) a d) (bn : BindsNone m n) where
  abbrev pub base : ℕ
  base = base_of m.denied

  abbrev pub f : ℕ → ℕ
  f = mark_in base h.above.raws

  pub bound : Grows m.bindings n.bindings
  bound = subst (Grows m.bindings) (sym bn.bindings) (grows_same m.bindings)

  pub reading_on : m.branch.next ≤ n.branch.next → IsOpenReading n.bank n.bindings n.branch.next h.closing
  reading_on l =
      let r = open_kept m.bank n.bank m.bindings m.branch.next h.closing g.lists.bank h.reading in
      record {
        reading = subst (λ b. IsReading n.bank b h.closing) (sym bn.bindings) r.reading;
        shut = r.shut;
        still = r.still;
        unbound = λ x q. subst (λ b. get nat_eq b.terms x ≡ None) (sym bn.bindings) (r.unbound x (omega (arith, l, q)));
      }

  pub left_on : All (IsPairOf (length n.bank.terms)) n.branch.pairs.items
  left_on = subst (λ q. All (IsPairOf (length n.bank.terms)) q.items) (sym bn.pairs) (pairs_more (length m.bank.terms) (length n.bank.terms) m.branch.pairs.items g.lists.bank.more_terms h.left)

  pub under_on : (lv : ℕ → ℕ) (u : ℕ) (b e : Branch) → IsBranchUnder qv lv m.bank h.closing f base u m.branch.pairs.items b e → IsBranchUnder qv lv n.bank h.closing f base u n.branch.pairs.items b e
  under_on lv u b e w =
      subst (λ q. IsBranchUnder qv lv n.bank h.closing f base u q.items b e) (sym bn.pairs) (branch_on qv lv m.bank h.closing base u m.branch.pairs.items n.bank g.lists.bank h.left f b e w)

  unfoldable pub running_still : n.choices.items ≡ m.choices.items → (lv : ℕ → ℕ) (b e : Branch) (t : State Task) → IsBranchUnder qv lv m.bank h.closing f base (length m.choices.items) m.branch.pairs.items b e →
      m.branch.next ≤ n.branch.next → n.branch.next ≡ b.next → n.branch.next_type ≡ b.next_type → t.stack ≡ Go e ∷ h.rest → IsCounted n t → IsRunning qv n d b t
  running_still ch lv b e t w l x y es ct = record {
    levels = lv;
    at_work = e;
    rest = h.rest;
    stack = es;
    above = record {
      raws = h.above.raws;
      others = h.above.others;
      done = still_done qv m n a d h.above.done.stands st g lt bound h.rest h.above ch;
      numbers = λ k. ap (λ x. x k) lt.mark ∙ h.above.numbers k;
      are = still_all qv m n a d h.above.done.stands st g lt bound h.rest h.above ch;
      in_turn = still_turn qv m n a d h.above.done.stands st g lt bound h.rest h.above ch;
      is = h.above.is;
      inside = inside_still qv m n a d h.above.done.stands g lt bound h.above.inside h.above.done.base ch;
    };
    placed = pl;
    next = x;
    next_type = y;
    closing = h.closing;
    reading = reading_on l;
    left = left_on;
    under = subst (λ i. IsBranchUnder qv lv n.bank h.closing (mark_in i h.above.raws) i (length n.choices.items) n.branch.pairs.items b e) (sym (ap base_of g.denied))
        (subst (λ i. IsBranchUnder qv lv n.bank h.closing f base (length i) n.branch.pairs.items b e) (sym ch) (under_on lv (length m.choices.items) b e w));
    counted = ct;
  }

  module _ (lv : ℕ → ℕ) (c : Choice) (ch : n.choices.items ≡ m.choices.items ++ c ∷ []) (b e x y : Branch) (k : IsKept n d c) (ab : IsAbove m c) (at : IsChoiceAt n d c x) (w : IsPutWith m c)
      (one : IsBranchUnder qv lv m.bank h.closing f base (length m.choices.items) m.branch.pairs.items b e) (other : IsBranchUnder qv lv m.bank h.closing f base (length m.choices.items) m.branch.pairs.items x y)
      (same : m.branch.next ≡ x.next) where
    abbrev more : List (List Task)
    more = h.above.raws ++ (Go x ∷ []) ∷ []

    agree : (i : ℕ) → base ≤ i → i ≤ length m.choices.items → mark_in base more i ≡ f i
    agree i p q =
        let r = counts_same qv m f base base (drop base m.choices.items) h.above.raws h.above.others h.above.are in
        let z = r.0 in
        let v = drop_length base m.choices.items h.above.done.base in
        marks_more base h.above.raws (Go x ∷ []) i (omega (arith, p, q, z, v))

    aside : IsBranchUnder qv lv n.bank h.closing (mark_in base more) base (length m.choices.items) c.pairs.items x y
    aside =
        subst (λ q. IsBranchUnder qv lv n.bank h.closing (mark_in base more) base (length m.choices.items) q x y) (sym w.pairs)
        (branch_marked qv lv n.bank h.closing base (length m.choices.items) m.branch.pairs.items f (mark_in base more) agree x y
        (branch_on qv lv m.bank h.closing base (length m.choices.items) m.branch.pairs.items n.bank g.lists.bank h.left f x y other))

    those : (t : Bindings) → AreThoseOf n c t → IsOpenReading n.bank t c.next h.closing
    those t q =
        let et : t.terms.entries ≡ m.bindings.terms.entries = q.terms ∙ (λ i. take (w.terms i) (bn.bindings i).terms.entries) ∙ take_all (length m.bindings.terms.entries) m.bindings.terms.entries (omega arith) in
        let ey : t.types.entries ≡ m.bindings.types.entries = q.types ∙ (λ i. take (w.types i) (bn.bindings i).types.entries) ∙ take_all (length m.bindings.types.entries) m.bindings.types.entries (omega arith) in
        subst (λ i. IsOpenReading n.bank t i h.closing) (same ∙ sym at.next) (reading_like n.bank m.bindings t m.branch.next h.closing et ey
        (open_kept m.bank n.bank m.bindings m.branch.next h.closing g.lists.bank h.reading))

    alternative : IsAlternative qv n (mark_in base more) base (length m.choices.items) c (Go x ∷ []) (Go y ∷ [])
    alternative =
        let et = ap (λ z. length z.terms.entries) bn.bindings in
        let ey = ap (λ z. length z.types.entries) bn.bindings in
        let wt = w.terms in
        let wy = w.types in
        record {
          closing = h.closing;
          reading = those;
          bound_terms = omega (arith, et, wt);
          bound_types = omega (arith, ey, wy);
          left = subst (All (IsPairOf (length n.bank.terms))) (sym w.pairs) (pairs_more (length m.bank.terms) (length n.bank.terms) m.branch.pairs.items g.lists.bank.more_terms h.left);
          tasks = of_side lv x y refl refl aside;
        }

    in_turn : AreBoundInTurn (drop base m.choices.items ++ c ∷ [])
    in_turn =
        let wt = w.terms in
        let wy = w.types in
        in_turn_push qv m f base base (drop base m.choices.items) h.above.raws h.above.others c h.above.are h.above.in_turn (omega (arith, wt)) (omega (arith, wy))

    pub running_more : (t : State Task) → m.branch.next ≤ n.branch.next → n.branch.next ≡ b.next → n.branch.next_type ≡ b.next_type → t.stack ≡ Go e ∷ Go y ∷ h.rest → IsCounted n t → IsRunning qv n d b t
    running_more t l nx ny es ct = record {
      levels = lv;
      at_work = e;
      rest = Go y ∷ h.rest;
      stack = es;
      above = record {
        raws = more;
        others = h.above.others ++ (Go y ∷ []) ∷ [];
        done = more_done qv m n a d h.above.done.stands st g lt bound h.rest h.above c ch (Go x ∷ []) (Go y ∷ []) (a_side x k at refl) ab alternative;
        numbers = λ i. ap (λ x. x i) lt.mark ∙ h.above.numbers i;
        are = more_all qv m n a d h.above.done.stands st g lt bound h.rest h.above c ch (Go x ∷ []) (Go y ∷ []) (a_side x k at refl) ab alternative;
        in_turn = more_turn qv m n a d h.above.done.stands st g lt bound h.rest h.above c ch (Go x ∷ []) (Go y ∷ []) (a_side x k at refl) ab alternative in_turn;
        is = ap (λ l. Go y ∷ l) h.above.is ∙ sym (stack_push h.above.others (Go y ∷ []));
        inside = inside_more qv m n a d h.above.done.stands g lt bound h.above.inside h.above.done.base h.rest h.above c ch ab (let wt = w.terms in omega (arith, wt)) (let wy = w.types in omega (arith, wy));
      };
      placed = pl;
      next = nx;
      next_type = ny;
      closing = h.closing;
      reading = reading_on l;
      left = left_on;
      under = subst (λ i. IsBranchUnder qv lv n.bank h.closing (mark_in i more) i (length n.choices.items) n.branch.pairs.items b e) (sym (ap base_of g.denied))
          (branch_wider qv lv n.bank h.closing base (length m.choices.items) n.branch.pairs.items (mark_in base more) (length n.choices.items) b e
          (let z = ap length ch ∙ length-append m.choices.items (c ∷ []) in omega (arith, z))
          (branch_marked qv lv n.bank h.closing base (length m.choices.items) n.branch.pairs.items f (mark_in base more) agree b e (under_on lv (length m.choices.items) b e one)));
      counted = ct;
    }
