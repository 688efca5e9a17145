-- Back at the right side of a `;` the search is in the definition's state: its task is the one on top, and the older alternatives stand for what they stood for.
use Rattle.std.proofs.Common.{◌≡◌, ℕ, zero, suc, ◌+◌, ◌-◌, ◌<◌, ◌≤◌, List, [], ◌∷◌, ◌++◌, length, take, drop, refl, sym, ap, ◌∙◌, subst, arith, Bool, true, false, Option, Some, nat_eq}
use Rattle.std.specs.Prelude.{All}
use Rattle.std.specs.HashMap.{get}
use Rattle.lp_term.specs.Nodes.{tree}
use Rattle.lp_term.specs.Spine.{LooseBelow}
use Rattle.lp_term.specs.declared.node.TermId.{TermId}
use Rattle.lp_model.specs.Branch.{Answer, Branch, Entry, Go, Task}
use Rattle.lp_model.specs.Flat.{Clause}
use Rattle.lp_model.specs.Skeleton.{Inner, State, Stops, View, move_at}
use Rattle.lp_calculus.specs.Term.{Term}
use Rattle.lp_plain.specs.declared.choice.Choice.{Choice}
use Rattle.lp_plain.specs.declared.choice.Untried.{Untried}
use Rattle.lp_plain.specs.declared.frame.Frame.{Frame}
use Rattle.lp_plain.specs.declared.machine.Machine.{Machine}
use Rattle.lp_plain.specs.declared.outcome.Turn.{Turn}
use Rattle.lp_plain.specs.Assuming.{GrowsOn, IsPlaceAt, KeepsAssumed, lists_of}
use Rattle.lp_plain.specs.Candidates.{first_for}
use Rattle.lp_plain.specs.Entries.{Around, AreEntries, IsChoiceAt, KeepsGoals}
use Rattle.lp_plain.specs.Instances.{AreValues}
use Rattle.lp_plain.specs.Marks.{AreMarked, HasMarks, IsMarked, Marks}
use Rattle.lp_plain.specs.Restoring.{IsTaken, GoesBack}
use Rattle.lp_plain.specs.Searching.{AreNested, EndsSo, IsBackOf, IsStateOf, IsTriesAt, IsWithin, StandsFor, last_ending, a_side, some_tries, StandForAll}
use Rattle.lp_plain.specs.Stacks.{base_of, stack_of}
use Rattle.lp_plain.specs.Tables.{shown}
use Rattle.lp_plain.specs.Taking.{IsKept}
use Rattle.lp_plain.specs.Trying.{AreTries, first_in, lists_at}
use Rattle.lp_plain.specs.Within.{IsKeyIn, IsTableIn, IsTodoIn, StandsIn}
use Rattle.lp_plain.proofs.Alternatives.{all_stand_on}
use Rattle.lp_plain.proofs.Assumed.{lists_noted}
use Rattle.lp_plain.proofs.Grown.{same_around}
use Rattle.lp_plain.proofs.Growing.{all_taken, grows_kept}
use Rattle.lp_plain.proofs.Marking.{drop_length}
use Rattle.lp_plain.proofs.Opening.{same_stands}
use Rattle.lp_plain.proofs.QuietMoves.{drop_push, stack_push}
use Rattle.lp_plain.proofs.Scoped.{length_taken}
use Rattle.lp_plain.proofs.Tries.{lists_back}
use Rattle.lp_pattern.proofs.Keeps.{goes_on_same}
use Rattle.lp_pattern.specs.Growing.{GoesOn}

pub take_within : {X : Type 0} (i j : ℕ) (xs : List X) → i ≤ j → take i (take j xs) ≡ take i xs
take_within zero j xs l = refl
take_within (suc i) zero xs l = absurd (omega (arith, l))
take_within (suc i) (suc j) [] l = refl
take_within (suc i) (suc j) (x ∷ xs) l = ap (λ ys. x ∷ ys) (take_within i j xs (omega (arith, l)))

-- an alternative that is older than the one to which the search went back
module _ (m n : Machine) (a : Around) (c : Choice) (rest : List Choice) (t : IsTaken m n c rest) (kc : IsKept m a c) (x : Choice) (w : IsWithin x c) where
  pub lists_same : lists_at x m ≡ lists_at x n
  lists_same =
      let eb = ap (take x.lengths.scopes.blocks) t.blocks ∙ take_within x.lengths.scopes.blocks c.lengths.scopes.blocks m.scopes.blocks.items w.blocks in
      let ev = ap (take x.lengths.scopes.values) t.values ∙ take_within x.lengths.scopes.values c.lengths.scopes.values m.scopes.values.items w.values in
      let ea = ap (take x.lengths.assumptions) t.assumptions ∙ take_within x.lengths.assumptions c.lengths.assumptions m.assumptions.items w.assumptions in
      let en = ap (take x.lengths.newest) t.newest ∙ take_within x.lengths.newest c.lengths.newest m.newest.items w.newest in
      let es = ap (take x.lengths.standings) t.standings ∙ take_within x.lengths.standings c.lengths.standings m.standings.items w.standings in
      (λ i. record { bank = sym t.bank i; table = sym t.table i; blocks = record { blocks = sym eb i; values = sym ev i }; assumptions = sym ea i; newest = sym en i; standings = sym es i })

  frames_same : take x.lengths.frames m.frames.items ≡ take x.lengths.frames n.frames.items
  frames_same = sym (ap (take x.lengths.frames) t.frames ∙ take_within x.lengths.frames c.lengths.frames m.frames.items w.frames)

  kept_back : IsKept m a x → IsKept n a x
  kept_back k =
      let ef = ap length t.frames ∙ length_taken c.lengths.frames m.frames.items kc.frames in
      let eb = ap length t.blocks ∙ length_taken c.lengths.scopes.blocks m.scopes.blocks.items kc.blocks in
      let ev = ap length t.values ∙ length_taken c.lengths.scopes.values m.scopes.values.items kc.values in
      let ea = ap length t.assumptions ∙ length_taken c.lengths.assumptions m.assumptions.items kc.assumptions in
      let en = ap length t.newest ∙ length_taken c.lengths.newest m.newest.items kc.newest in
      let es = ap length t.standings ∙ length_taken c.lengths.standings m.standings.items kc.standings in
      let wf = w.frames in
      let wb = w.blocks in
      let wv = w.values in
      let wa = w.assumptions in
      let wn = w.newest in
      let ws = w.standings in
      record {
        frames = omega (arith, ef, wf);
        blocks = omega (arith, eb, wb);
        values = omega (arith, ev, wv);
        assumptions = omega (arith, ea, wa);
        newest = omega (arith, en, wn);
        standings = omega (arith, es, ws);
        placed = subst (λ l. All (λ (f : Frame). IsPlaceAt l a f.place) (take x.lengths.frames n.frames.items)) lists_same
            (subst (All (λ (f : Frame). IsPlaceAt (lists_at x m) a f.place)) frames_same k.placed);
      }

  reads_back : (o : Option ℕ) (es : List Entry) → AreEntries (lists_at x m).bank (shown (lists_at x m).table) (lists_at x m).blocks a (take x.lengths.frames m.frames.items) o es →
      AreEntries (lists_at x n).bank (shown (lists_at x n).table) (lists_at x n).blocks a (take x.lengths.frames n.frames.items) o es
  reads_back o es r = subst (λ l. AreEntries l.bank (shown l.table) l.blocks a (take x.lengths.frames n.frames.items) o es) lists_same
      (subst (λ fs. AreEntries (lists_at x m).bank (shown (lists_at x m).table) (lists_at x m).blocks a fs o es) frames_same r)

  side_back : (b : Branch) → IsChoiceAt m a x b → IsChoiceAt n a x b
  side_back b h = record { from = h.from; left = h.left; goals = reads_back h.from b.goals h.goals; next = h.next; next_type = h.next_type }

  tries_back_too : (g : Term) (e : Entry) (b : Branch) (cs : List Clause) → IsTriesAt m a x g e b cs → IsTriesAt n a x g e b cs
  tries_back_too g e b cs h = record {
    call = h.call;
    next_one = h.next_one;
    left = h.left;
    tries = subst (λ l. AreTries l (first_in n h.call.head) h.call.key (Some h.next_one) cs) lists_same
        (subst (λ z. AreTries (lists_at x m) (first_for (λ q. get nat_eq z q) h.call.head) h.call.key (Some h.next_one) cs) (sym t.index) h.tries);
    known_goal = subst (λ b. h.call.goal.0 < length b.terms) (sym t.bank) h.known_goal;
    known_key = subst (λ b. IsKeyIn (length b.terms) h.call.key) (sym t.bank) h.known_key;
    place = subst (λ l. IsPlaceAt l a h.call.place) lists_same h.place;
    goal = ap (λ b. tree b h.call.goal.0) t.bank ∙ h.goal;
    assumed = h.assumed;
    written = h.written;
    level = h.level;
    mark = h.mark;
    behind = reads_back h.call.behind b.goals h.behind;
    next = h.next;
    next_type = h.next_type;
  }

  stands_back : (below : ℕ) {ts : List Task} → StandsFor m a x below ts → StandsFor n a x below ts
  stands_back below (a_side b k h z) = a_side b (kept_back k) (side_back b h) z
  stands_back below (some_tries g e b y cs k h z) = some_tries g e b y cs (kept_back k) (tries_back_too g e b (y ∷ cs) h) z

-- all that are older are within what there was then

abbrev pub AllWithin : Choice → List Choice → Type 0
AllWithin c [] = Unit {0}
AllWithin c (x ∷ xs) = IsWithin x c × AllWithin c xs

within_then : (x y z : Choice) → IsWithin x y → IsWithin y z → IsWithin x z
within_then x y z g h =
    let gf = g.frames in
    let gb = g.blocks in
    let gv = g.values in
    let ga = g.assumptions in
    let gn = g.newest in
    let gs = g.standings in
    let hf = h.frames in
    let hb = h.blocks in
    let hv = h.values in
    let ha = h.assumptions in
    let hn = h.newest in
    let hs = h.standings in
    record {
      frames = omega (arith, gf, hf);
      blocks = omega (arith, gb, hb);
      values = omega (arith, gv, hv);
      assumptions = omega (arith, ga, ha);
      newest = omega (arith, gn, hn);
      standings = omega (arith, gs, hs);
    }

pub nested_last : (xs : List Choice) (c : Choice) → AreNested (xs ++ c ∷ []) → AllWithin c xs × AreNested xs
nested_last [] c n = (tt, tt)
nested_last (x ∷ []) c n = ((n.0, tt), tt)
nested_last (x ∷ y ∷ xs) c n = let r = nested_last (y ∷ xs) c n.1 in ((within_then x y c n.0 r.0.0, r.0), (n.0, r.1))

pub all_back : (m n : Machine) (a : Around) (c : Choice) (rest : List Choice) → IsTaken m n c rest → IsKept m a c → (xs : List Choice) → AllWithin c xs →
    (below : ℕ) (tss : List (List Task)) → StandForAll m a xs below tss → StandForAll n a xs below tss
all_back m n a c rest t kc [] w below [] h = tt
all_back m n a c rest t kc [] w below (ts ∷ tss) h = absurd h
all_back m n a c rest t kc (x ∷ xs) w below [] h = absurd h
all_back m n a c rest t kc (x ∷ xs) w below (ts ∷ tss) h = (stands_back m n a c rest t kc x w.0 below h.0, all_back m n a c rest t kc xs w.1 (below + length ts) tss h.1)

-- the newest one and the others
record IsSplit (m : Machine) (a : Around) (xs : List Choice) (c : Choice) (below : ℕ) (tss : List (List Task)) : Type 0 where
  pub older : List (List Task)
  pub newest : List Task
  pub under : ℕ
  pub whole : tss ≡ older ++ newest ∷ []
  pub stand : StandForAll m a xs below older
  pub last : StandsFor m a c under newest

split_last : (m : Machine) (a : Around) (xs : List Choice) (c : Choice) (below : ℕ) (tss : List (List Task)) → StandForAll m a (xs ++ c ∷ []) below tss → IsSplit m a xs c below tss
split_last m a [] c below [] h = absurd h
split_last m a [] c below (ts ∷ []) h = record { older = []; newest = ts; under = below; whole = refl; stand = tt; last = h.0 }
split_last m a [] c below (ts ∷ us ∷ tss) h = absurd h.1
split_last m a (x ∷ xs) c below [] h = absurd h
split_last m a (x ∷ xs) c below (ts ∷ tss) h =
    let r = split_last m a xs c (below + length ts) tss h.1 in
    record { older = ts ∷ r.older; newest = r.newest; under = r.under; whole = ap (λ l. ts ∷ l) r.whole; stand = (h.0, r.stand); last = r.last }

-- an alternative with goals left is a side of a `;`
pub record IsSide (m : Machine) (a : Around) (c : Choice) (ts : List Task) : Type 0 where
  pub side : Branch
  pub kept : IsKept m a c
  pub at : IsChoiceAt m a c side
  pub is : ts ≡ Go side ∷ []

pub side_of : (m : Machine) (a : Around) (c : Choice) (n : ℕ) (from : Option ℕ) {ts : List Task} → c.untried ≡ Untried.Goals from → StandsFor m a c n ts → IsSide m a c ts
side_of m a c n from e (a_side b k h z) = record { side = b; kept = k; at = h; is = z }
side_of m a c n from e (some_tries g y b x cs k h z) = absurd (let q = h.left in cc)

-- all that is kept stands in the bank
pub stands_then : (m n : Machine) (c : Choice) (rest : List Choice) → IsTaken m n c rest → StandsIn m → StandsIn n
stands_then m n c rest t i = record {
  table = subst (λ b. IsTableIn (length b.terms) n.table) (sym t.bank) (subst (IsTableIn (length m.bank.terms)) (sym t.table) i.table);
  values = subst (λ b. AreValues b n.scopes.values.items) (sym t.bank)
      (subst (AreValues m.bank) (sym t.values) (all_taken (λ (t : TermId). (t.0 < length m.bank.terms) × LooseBelow 0 0 (tree m.bank t.0)) c.lengths.scopes.values m.scopes.values.items i.values));
  frames = subst (λ b. All (λ (f : Frame). IsTodoIn (length b.terms) f.todo) n.frames.items) (sym t.bank)
      (subst (All (λ (f : Frame). IsTodoIn (length m.bank.terms) f.todo)) (sym t.frames) (all_taken (λ (f : Frame). IsTodoIn (length m.bank.terms) f.todo) c.lengths.frames m.frames.items i.frames));
}

pub on_kept : (n q : Machine) → KeepsGoals n q → KeepsAssumed n q → q.denied ≡ n.denied → GrowsOn n q
on_kept n q k ka d =
    let g = grows_kept n q k in
    record {
      lists = record {
        bank = g.bank;
        table = g.table;
        blocks = g.blocks;
        values = g.values;
        assumptions = subst (λ z. GoesOn n.assumptions.items z.items) (sym ka.assumptions) (goes_on_same n.assumptions.items);
        newest = subst (λ z. GoesOn n.newest.items z.items) (sym ka.newest) (goes_on_same n.newest.items);
        standings = subst (λ z. GoesOn n.standings.items z.items) (sym k.known.standings) (goes_on_same n.standings.items);
      };
      frames = k.frames;
      index = k.known.index;
      denied = d;
    }

pub back_state : (m n q : Machine) (c : Choice) (rest : List Choice) (from : Option ℕ) → m.choices.items ≡ rest ++ c ∷ [] → c.untried ≡ Untried.Goals
    from → base_of m.denied ≤ length rest → IsTaken m n c rest → GoesBack m q c rest → KeepsGoals n q → KeepsAssumed n q → q.frames ≡ n.frames →
    q.denied ≡ n.denied →
    (a : Around) (s : State Task) → IsBackOf m a s → IsStateOf q a s
back_state m n q c rest from e u l t g k ka f d a s h =
    let xs = drop (base_of m.denied) rest in
    let whole : drop (base_of m.denied) m.choices.items ≡ xs ++ c ∷ [] = ap (drop (base_of m.denied)) e ∙ drop_push (base_of m.denied) rest c l in
    let sp = split_last m a xs c 0 h.others (subst (λ z. StandForAll m a z 0 h.others) whole h.search.alternatives) in
    let sd = side_of m a c sp.under from u sp.last in
    let nest = nested_last xs c (subst AreNested whole h.search.nested) in
    let st = stands_then m n c rest t h.search.stands in
    let qs : drop (base_of q.denied) q.choices.items ≡ xs = (λ i. drop (base_of (g.denied i)) (g.choices i)) in
    let older = all_stand_on n q a a st (on_kept n q k ka d) (same_around (length n.newest.items) (length n.standings.items) a) xs 0 sp.older
    (all_back m n a c rest t sd.kept xs nest.0 0 sp.older sp.stand) in
    record {
      at_work = sd.side;
      others = sp.older;
      search = record {
        branch = g.branch a sd.side sd.at;
        stands = same_stands n q k f st;
        placed = subst (λ z. All (λ (x : Frame). IsPlaceAt (lists_of q) a x.place) z.items) (sym f)
            (subst (λ z. All (λ (x : Frame). IsPlaceAt z a x.place) n.frames.items) (lists_back m n c rest t ∙ lists_noted n q k ka)
            (subst (All (λ (x : Frame). IsPlaceAt (lists_at c m) a x.place)) (sym t.frames) sd.kept.placed));
        base = (let ed = ap base_of g.denied in let ec = ap length g.choices in omega (arith, l, ed, ec));
        alternatives = subst (λ z. StandForAll q a z 0 sp.older) (sym qs) older;
        nested = subst AreNested (sym qs) nest.1;
      };
      stack = h.stack ∙ ap stack_of sp.whole ∙ stack_push sp.older sp.newest ∙ ap (λ z. z ++ stack_of sp.older) sd.is;
      steps = h.steps ∙ ap (λ z. z.limit - z.steps) (sym g.counts);
      rows = h.rows;
      row = h.row ∙ ap (λ z. 1000000 - z.row) (sym g.counts);
      lost = h.lost ∙ ap (λ z. z.lost) (sym g.counts);
    }

-- no alternative is left
no_tasks : (m : Machine) (a : Around) (cs : List Choice) (below : ℕ) (tss : List (List Task)) → cs ≡ [] → StandForAll m a cs below tss → tss ≡ []
no_tasks m a [] below [] e h = refl
no_tasks m a [] below (ts ∷ tss) e h = absurd h
no_tasks m a (c ∷ cs) below tss e h = absurd (cc)

pub drop_none : {X : Type 0} (n : ℕ) (xs : List X) → xs ≡ [] → drop n xs ≡ []
drop_none zero xs e = e
drop_none (suc n) [] e = refl
drop_none (suc n) (x ∷ xs) e = absurd (cc)

pub stops_so : (go : (Answer → Bool) → State Task → Inner) (see : ℕ → Task → View Task Answer) (n k g u p : ℕ) (b : Bool) → move_at go see n (suc k) g u p b [] ≡ Stops (last_ending b)
stops_so go see n k g u p true = refl
stops_so go see n k g u p false = refl

pub ends_so : (m : Machine) (a : Around) (s : State Task) (b : Bool) → m.choices.items ≡ [] → m.counts.lost ≡ b → IsBackOf m a s → EndsSo (Turn.Ended (last_ending b)) m.counts.lost s
ends_so m a s b e l h =
    let none = no_tasks m a (drop (base_of m.denied) m.choices.items) 0 h.others (drop_none (base_of m.denied) m.choices.items e) h.search.alternatives in
    let st : s.stack ≡ [] = h.stack ∙ ap stack_of none in (
      ap (λ z. Turn.Ended (last_ending z)) (sym l),
      λ k ea go see.
          (λ i. move_at go see s.steps (ea i) s.given s.rows s.row (h.lost i) (st i)) ∙ stops_so go see s.steps k s.given s.rows s.row m.counts.lost,
    )

-- marks

mark_split : (m : Machine) (l k : ℕ) (xs : List Choice) (c : Choice) → AreMarked m l k (xs ++ c ∷ []) → AreMarked m l k xs ×
    ((from : Option ℕ) → c.untried ≡ Untried.Goals from → HasMarks l (k + length xs) (take c.lengths.frames m.frames.items) from)
mark_split m l k [] c h = (tt, λ from e. (let z : k ≡ k + 0 = omega arith in subst (λ i. HasMarks l i (take c.lengths.frames m.frames.items) from) z (h.0 from e)))
mark_split m l k (x ∷ xs) c h =
    let r = mark_split m l (suc k) xs c h.1 in
    ((h.0, r.0), λ from e. (let z : suc k + length xs ≡ k + suc (length xs) = omega arith in subst (λ i. HasMarks l i (take c.lengths.frames m.frames.items) from) z (r.1 from e)))

marks_back : (m q : Machine) (c : Choice) → q.frames.items ≡ take c.lengths.frames m.frames.items → (xs : List Choice) → AllWithin c xs → (l k : ℕ) → AreMarked m l k xs → AreMarked q l k xs
marks_back m q c t [] w l k h = tt
marks_back m q c t (x ∷ xs) w l k h =
    let e = ap (take x.lengths.frames) t ∙ take_within x.lengths.frames c.lengths.frames m.frames.items w.0.frames in
    (λ from u. subst (λ z. HasMarks l k z from) (sym e) (h.0 from u), marks_back m q c t xs w.1 l (suc k) h.1)

pub back_marked : (m q : Machine) (c : Choice) (rest : List Choice) (from : Option ℕ) → m.choices.items ≡ rest ++ c ∷ [] → c.untried ≡ Untried.Goals from → base_of m.denied ≤ length rest →
    q.frames.items ≡ take c.lengths.frames m.frames.items → q.branch.goals ≡ from → q.choices.items ≡ rest → q.denied ≡ m.denied → (a : Around) (s : State Task) → IsBackOf m a s →
    AreMarked m (base_of m.denied) (base_of m.denied) (drop (base_of m.denied) m.choices.items) → IsMarked q
back_marked m q c rest from e u l t qg qc d a s h am =
    let b = base_of m.denied in
    let xs = drop b rest in
    let whole : drop b m.choices.items ≡ xs ++ c ∷ [] = ap (drop b) e ∙ drop_push b rest c l in
    let nest = nested_last xs c (subst AreNested whole h.search.nested) in
    let sp = mark_split m b b xs c (subst (AreMarked m b b) whole am) in
    let x : HasMarks b (length rest) (take c.lengths.frames m.frames.items) from = subst (λ i. HasMarks b i (take c.lengths.frames m.frames.items) from) (drop_length b rest l) (sp.1 from u) in
    let y : HasMarks b (length rest) q.frames.items q.branch.goals = subst (HasMarks b (length rest) q.frames.items) (sym qg) (subst (λ fs. HasMarks b (length rest) fs from) (sym t) x) in
    record {
      here = subst (λ z. Marks (base_of z) (length q.choices.items) q q.branch.goals) (sym d) (subst (λ (z : List Choice). Marks b (length z) q q.branch.goals) (sym qc) y);
      others = subst (λ z. AreMarked q (base_of z) (base_of z) (drop (base_of z) q.choices.items)) (sym d)
          (subst (λ z. AreMarked q b b (drop b z)) (sym qc) (marks_back m q c t xs nest.0 b b sp.0));
    }
