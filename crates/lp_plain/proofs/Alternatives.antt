-- What alternatives stand for stays while the search goes on.
use Rattle.std.proofs.Common.{◌≡◌, ℕ, ◌+◌, ◌<◌, ◌≤◌, List, [], ◌∷◌, ◌++◌, map, length, take, drop, refl, sym, ap, ◌∙◌, subst, arith, Option, None, Some, nat_eq}
use Rattle.std.specs.Prelude.{All, slice_get}
use Rattle.std.specs.HashMap.{get}
use Rattle.std.proofs.lemmas.List.{length-append, take-append-drop, take-append-le}
use Rattle.lp_calculus.specs.Term.{Term}
use Rattle.lp_term.specs.Nodes.{Nodes, Extends, tree}
use Rattle.lp_term.specs.Spine.{LooseBelow}
use Rattle.lp_term.specs.declared.node.TermId.{TermId}
use Rattle.lp_model.specs.Branch.{Branch, Entry, Task}
use Rattle.lp_model.specs.Flat.{Clause}
use Rattle.lp_pattern.specs.Growing.{GoesOn}
use Rattle.lp_pattern.proofs.Keeps.{goes_on_same}
use Rattle.lp_plain.specs.declared.candidates.Candidate.{Candidate}
use Rattle.lp_plain.specs.declared.candidates.Candidate.TheVariants as candidate
use Rattle.lp_plain.specs.declared.choice.Choice.{Choice}
use Rattle.lp_plain.specs.declared.frame.Frame.{Frame}
use Rattle.lp_plain.specs.declared.head.Key.{Key}
use Rattle.lp_plain.specs.declared.head.Key.TheVariants as keys
use Rattle.lp_plain.specs.declared.machine.Machine.{Machine}
use Rattle.lp_plain.specs.declared.table.Rule.{Rule}
use Rattle.lp_plain.specs.Assuming.{Lists, ListsGrow, GrowsOn, IsLaterAround, IsPlaceAt, links}
use Rattle.lp_plain.specs.Candidates.{AreLeft, first_for, in_turn, meets, meets_at, passes, is_text_of}
use Rattle.lp_plain.specs.Entries.{Around, AreEntries, IsChoiceAt}
use Rattle.lp_plain.specs.Instances.{AreValues}
use Rattle.lp_plain.specs.Scopes.{blocks_at}
use Rattle.lp_plain.specs.Searching.{IsTriesAt, StandsFor, a_side, some_tries, StandForAll}
use Rattle.lp_plain.specs.Tables.{shown}
use Rattle.lp_plain.specs.Taking.{IsKept}
use Rattle.lp_plain.specs.Trying.{AreCandidates, AreTries, IsCandidate, first_in, lists_at}
use Rattle.lp_plain.specs.Within.{IsKeyIn, IsRuleIn, IsTableIn, IsTodoIn, StandsIn}
use Rattle.lp_plain.proofs.Assumed.{assumed_on, entries_on, links_on, number_in_more, place_on, places_on, rule_on}
use Rattle.lp_plain.proofs.Growing.{all_taken, entries_later}
use Rattle.lp_plain.proofs.Indexes.{filter_same}
use Rattle.lp_plain.proofs.Within.{all_at, longer_list}

-- the front of a list to which more came
pub taken_same : {X : Type 0} (k : ℕ) (xs ys : List X) → GoesOn xs ys → k ≤ length xs → take k ys ≡ take k xs
taken_same k xs ys g l = ap (take k) g.1 ∙ take-append-le k xs g.0 l

taken_on : {X : Type 0} (k : ℕ) (xs ys : List X) → GoesOn xs ys → k ≤ length xs → GoesOn (take k xs) (take k ys)
taken_on k xs ys g l = subst (GoesOn (take k xs)) (sym (taken_same k xs ys g l)) (goes_on_same (take k xs))

taken_short : {X : Type 0} (k : ℕ) (xs : List X) → length (take k xs) ≤ length xs
taken_short k xs = subst (λ z. length (take k xs) ≤ length z) (take-append-drop k xs) (let e = length-append (take k xs) (drop k xs) in omega (arith, e))

later_fewer : (n m i j : ℕ) (a d : Around) → n ≤ m → i ≤ j → IsLaterAround m j a d → IsLaterAround n i a d
later_fewer n m i j a d l k e = record { assumed = λ o h. e.assumed o (number_in_more n m o l h); written = λ o h. e.written o (number_in_more i j o k h); mark = e.mark }

-- keys meet as they did

pub key_more : (a b : ℕ) (o : Option Key) → a ≤ b → IsKeyIn a o → IsKeyIn b o
key_more a b None l h = tt
key_more a b (Some (keys.Constant c)) l h = tt
key_more a b (Some (keys.Number z)) l h = tt
key_more a b (Some (keys.Text t)) l h = omega (arith, l, h)
key_more a b (Some (keys.Eigen k)) l h = tt

text_later : (b d : Nodes) (x : Extends b d) (i j : ℕ) → i < length b.terms → j < length b.terms → is_text_of (tree d i) (tree d j) ≡ is_text_of (tree b i) (tree b j)
text_later b d x i j l k = λ z. is_text_of (x.same_terms i l z) (x.same_terms j k z)

meets_later : (b d : Nodes) (x : Extends b d) (k l : Option Key) → IsKeyIn (length b.terms) k → IsKeyIn (length b.terms) l → meets d k l ≡ meets b k l
meets_later b d x None l h g = refl
meets_later b d x (Some k) None h g = refl
meets_later b d x (Some (keys.Constant c)) (Some (keys.Constant e)) h g = refl
meets_later b d x (Some (keys.Constant c)) (Some (keys.Number z)) h g = refl
meets_later b d x (Some (keys.Constant c)) (Some (keys.Text t)) h g = refl
meets_later b d x (Some (keys.Constant c)) (Some (keys.Eigen k)) h g = refl
meets_later b d x (Some (keys.Number z)) (Some (keys.Constant c)) h g = refl
meets_later b d x (Some (keys.Number y)) (Some (keys.Number z)) h g = refl
meets_later b d x (Some (keys.Number z)) (Some (keys.Text t)) h g = refl
meets_later b d x (Some (keys.Number z)) (Some (keys.Eigen k)) h g = refl
meets_later b d x (Some (keys.Text t)) (Some (keys.Constant c)) h g = refl
meets_later b d x (Some (keys.Text t)) (Some (keys.Number z)) h g = refl
meets_later b d x (Some (keys.Text s)) (Some (keys.Text t)) h g = text_later b d x s.0 t.0 h g
meets_later b d x (Some (keys.Text t)) (Some (keys.Eigen k)) h g = refl
meets_later b d x (Some (keys.Eigen k)) (Some (keys.Constant c)) h g = refl
meets_later b d x (Some (keys.Eigen k)) (Some (keys.Number z)) h g = refl
meets_later b d x (Some (keys.Eigen k)) (Some (keys.Text t)) h g = refl
meets_later b d x (Some (keys.Eigen k)) (Some (keys.Eigen l)) h g = refl

passes_at : (b d : Nodes) (x : Extends b d) (rules : List Rule) (k : Option Key) → All (IsRuleIn (length b.terms)) rules → IsKeyIn (length b.terms) k
    → (i : ℕ) → passes d rules k i ≡ passes b rules k i
passes_at b d x rules k a h i = go (slice_get rules i) refl
  where
    go : (o : Option Rule) → slice_get rules i ≡ o → passes d rules k i ≡ passes b rules k i
    go None e = ap (meets_at d k) e ∙ sym (ap (meets_at b k) e)
    go (Some r) e = ap (meets_at d k) e ∙ meets_later b d x r.key k (all_at (IsRuleIn (length b.terms)) rules i r e a).key h ∙ sym (ap (meets_at b k) e)

module _ (k l : Lists) (i : IsTableIn (length k.bank.terms) k.table) (v : AreValues k.bank k.blocks.values) (g : ListsGrow k l) (key : Option Key) (known : IsKeyIn (length k.bank.terms) key) where
  passes_on : (n : ℕ) → passes l.bank k.table.rules.items key n ≡ passes k.bank k.table.rules.items key n
  passes_on = passes_at k.bank l.bank g.bank k.table.rules.items key i.rules known

  in_turn_on : (ns ks : List ℕ) → in_turn k.bank k.table.rules.items key ns ks ≡ in_turn l.bank k.table.rules.items key ns ks
  in_turn_on ns ks = ap (λ z. map (λ i. candidate.Assumed i) ns ++ map (λ i. candidate.Program i) z)
      (sym (filter_same (passes l.bank k.table.rules.items key) (passes k.bank k.table.rules.items key) ks passes_on))

  pub left_on : (first : Option ℕ) (found : Option Candidate) (left : List Candidate) → AreLeft k.bank k.table.rules.items (links k.assumptions) first key
      found left → AreLeft l.bank k.table.rules.items (links l.assumptions) first key found left
  left_on first None left h = h
  left_on first (Some (candidate.Assumed n)) left h = (h.0, h.1, links_on k l i v g (Some n) h.0 h.2, h.3, h.4 ∙ in_turn_on h.0 h.1)
  left_on first (Some (candidate.Program n)) left h =
      let w = h.1 in
      (h.0, (w.0, w.1, w.2 ∙ sym (filter_same (passes l.bank k.table.rules.items key) (passes k.bank k.table.rules.items key) w.0 passes_on), passes_on n ∙ w.3), h.2)

  candidate_on : (c : Candidate) (x : Clause) → IsCandidate k c x → IsCandidate l c x
  candidate_on (candidate.Assumed n) x h = assumed_on k l i v g n x h
  candidate_on (candidate.Program n) x h = rule_on k l i v g n x h

  pub candidates_on : (ks : List Candidate) (cs : List Clause) → AreCandidates k ks cs → AreCandidates l ks cs
  candidates_on [] [] h = tt
  candidates_on [] (c ∷ cs) h = absurd h
  candidates_on (x ∷ ks) [] h = absurd h
  candidates_on (x ∷ ks) (c ∷ cs) h = (candidate_on x c h.0, candidates_on ks cs h.1)

  pub tries_on : (first : Option ℕ) (found : Option Candidate) (cs : List Clause) → AreTries k first key found cs → AreTries l first key found cs
  tries_on first found cs t = record {
    left = t.left;
    found_left = subst (λ z. AreLeft l.bank z.rules.items (links l.assumptions) first key found t.left) (sym g.table) (left_on first found t.left t.found_left);
    clauses = candidates_on t.left cs t.clauses;
  }

-- in a search that goes on
module _ (m n : Machine) (a d : Around) (i : StandsIn m) (g : GrowsOn m n) (e : IsLaterAround (length m.newest.items) (length m.standings.items) a d) where
  module _ (c : Choice) (k : IsKept m a c) where
    pub lists_grow : ListsGrow (lists_at c m) (lists_at c n)
    lists_grow = record {
      bank = g.lists.bank;
      table = g.lists.table;
      blocks = taken_on c.lengths.scopes.blocks m.scopes.blocks.items n.scopes.blocks.items g.lists.blocks k.blocks;
      values = taken_on c.lengths.scopes.values m.scopes.values.items n.scopes.values.items g.lists.values k.values;
      assumptions = taken_on c.lengths.assumptions m.assumptions.items n.assumptions.items g.lists.assumptions k.assumptions;
      newest = taken_on c.lengths.newest m.newest.items n.newest.items g.lists.newest k.newest;
      standings = taken_on c.lengths.standings m.standings.items n.standings.items g.lists.standings k.standings;
    }

    pub values_then : AreValues m.bank (take c.lengths.scopes.values m.scopes.values.items)
    values_then = all_taken (λ (t : TermId). (t.0 < length m.bank.terms) × LooseBelow 0 0 (tree m.bank t.0)) c.lengths.scopes.values m.scopes.values.items i.values

    later_then : IsLaterAround (length (take c.lengths.newest m.newest.items)) (length (take c.lengths.standings m.standings.items)) a d
    later_then = later_fewer _ (length m.newest.items) _ (length m.standings.items) a d (taken_short c.lengths.newest m.newest.items) (taken_short c.lengths.standings m.standings.items) e

    frames_then : take c.lengths.frames n.frames.items ≡ take c.lengths.frames m.frames.items
    frames_then = taken_same c.lengths.frames m.frames.items n.frames.items g.frames k.frames

    kept_on : IsKept n d c
    kept_on =
        let kf = k.frames in
        let kb = k.blocks in
        let kv = k.values in
        let ka = k.assumptions in
        let kn = k.newest in
        let ks = k.standings in
        let lf = longer_list m.frames.items n.frames.items g.frames in
        let lb = longer_list m.scopes.blocks.items n.scopes.blocks.items g.lists.blocks in
        let lv = longer_list m.scopes.values.items n.scopes.values.items g.lists.values in
        let la = longer_list m.assumptions.items n.assumptions.items g.lists.assumptions in
        let ln = longer_list m.newest.items n.newest.items g.lists.newest in
        let ls = longer_list m.standings.items n.standings.items g.lists.standings in
        record {
          frames = omega (arith, kf, lf);
          blocks = omega (arith, kb, lb);
          values = omega (arith, kv, lv);
          assumptions = omega (arith, ka, la);
          newest = omega (arith, kn, ln);
          standings = omega (arith, ks, ls);
          placed = subst (All (λ (f : Frame). IsPlaceAt (lists_at c n) d f.place)) (sym frames_then)
              (places_on (lists_at c m) (lists_at c n) i.table values_then lists_grow a d (take c.lengths.frames m.frames.items) later_then k.placed);
        }

    reads_then : (o : Option ℕ) (es : List Entry) → AreEntries m.bank (shown m.table) (blocks_at c.lengths.scopes m.scopes) a (take c.lengths.frames m.frames.items) o es →
        AreEntries n.bank (shown n.table) (blocks_at c.lengths.scopes n.scopes) d (take c.lengths.frames n.frames.items) o es
    reads_then o es r =
        subst (λ t. AreEntries n.bank (shown t) (blocks_at c.lengths.scopes n.scopes) d (take c.lengths.frames n.frames.items) o es) (sym g.lists.table)
        (subst (λ fs. AreEntries n.bank (shown m.table) (blocks_at c.lengths.scopes n.scopes) d fs o es) (sym frames_then)
        (entries_later m.bank n.bank g.lists.bank (blocks_at c.lengths.scopes m.scopes) (blocks_at c.lengths.scopes n.scopes) values_then lists_grow.blocks lists_grow.values m.table i.table d
        (all_taken (λ (f : Frame). IsTodoIn (length m.bank.terms) f.todo) c.lengths.frames m.frames.items i.frames)
        (entries_on (lists_at c m) a d later_then m.bank (shown m.table) (blocks_at c.lengths.scopes m.scopes) k.placed r)))

    side_on : (b : Branch) → IsChoiceAt m a c b → IsChoiceAt n d c b
    side_on b h = record { from = h.from; left = h.left; goals = reads_then h.from b.goals h.goals; next = h.next; next_type = h.next_type }

    tries_then : (t : Term) (y : Entry) (b : Branch) (cs : List Clause) → IsTriesAt m a c t y b cs → IsTriesAt n d c t y b cs
    tries_then t y b cs h =
        let more = g.lists.bank.more_terms in
        let goal = h.known_goal in
        record {
          call = h.call;
          next_one = h.next_one;
          left = h.left;
          tries = subst (λ z. AreTries (lists_at c n) (first_for (λ q. get nat_eq z q) h.call.head) h.call.key (Some h.next_one) cs) (sym g.index)
              (tries_on (lists_at c m) (lists_at c n) i.table values_then lists_grow h.call.key h.known_key (first_in m h.call.head) (Some h.next_one) cs h.tries);
          known_goal = omega (arith, more, goal);
          known_key = key_more (length m.bank.terms) (length n.bank.terms) h.call.key more h.known_key;
          place = place_on (lists_at c m) (lists_at c n) i.table values_then lists_grow a d h.call.place later_then h.place;
          goal = g.lists.bank.same_terms h.call.goal.0 h.known_goal ∙ h.goal;
          assumed = h.assumed ∙ sym (later_then.assumed h.call.place.assumed h.place.tree);
          written = h.written ∙ sym (later_then.written h.call.place.standing h.place.standing);
          level = h.level;
          mark = h.mark ∙ sym (ap (λ z. z h.call.place.mark) e.mark);
          behind = reads_then h.call.behind b.goals h.behind;
          next = h.next;
          next_type = h.next_type;
        }

  stands_on : (c : Choice) (below : ℕ) {ts : List Task} → StandsFor m a c below ts → StandsFor n d c below ts
  stands_on c below (a_side b k h z) = a_side b (kept_on c k) (side_on c k b h) z
  stands_on c below (some_tries t y b x cs k h z) = some_tries t y b x cs (kept_on c k) (tries_then c k t y b (x ∷ cs) h) z

  pub all_stand_on : (cs : List Choice) (below : ℕ) (tss : List (List Task)) → StandForAll m a cs below tss → StandForAll n d cs below tss
  all_stand_on [] below [] h = tt
  all_stand_on [] below (ts ∷ tss) h = absurd h
  all_stand_on (c ∷ cs) below [] h = absurd h
  all_stand_on (c ∷ cs) below (ts ∷ tss) h = (stands_on c below h.0, all_stand_on cs (below + length ts) tss h.1)
