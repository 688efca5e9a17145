-- The searches that wait for that of a negated goal, while the one at work goes on.
use Rattle.std.proofs.Common.{◌≡◌, ℕ, zero, suc, ◌<◌, ◌≤◌, inl, inr, List, [], ◌∷◌, ◌++◌, length, take, drop, refl, sym, ap, ◌∙◌, subst, arith, append-nil, Option, None, Some}
use Rattle.std.specs.Prelude.{slice_get}
use Rattle.std.proofs.lemmas.List.{length-append, take-append-drop, take-append-le}
use Rattle.lp_lemmas.specs.Each.{EachOf}
use Rattle.lp_lemmas.proofs.Each.{each_append, each_drop}
use Rattle.lp_lemmas.proofs.Numbers.{equal_or_above}
use Rattle.lp_model.specs.Branch.{Task}
use Rattle.lp_pattern.specs.Growing.{Grows}
use Rattle.lp_plain.specs.declared.choice.Choice.{Choice}
use Rattle.lp_plain.specs.declared.choice.Denial.{Denial}
use Rattle.lp_plain.specs.declared.machine.Machine.{Machine}
use Rattle.lp_plain.specs.Assuming.{GrowsOn, IsLaterAround}
use Rattle.lp_plain.specs.Entries.{Around}
use Rattle.lp_plain.specs.Moving.{AreAlternatives, AreBoundInTurn, AreOuter, HasAlternatives, IsInside, IsOuter, Query, Waiting, mark_in, outer_choices, way_back}
use Rattle.lp_plain.specs.Restoring.{IsTaken}
use Rattle.lp_plain.specs.Searching.{AreNested, IsWithin, StandForAll}
use Rattle.lp_plain.specs.Stacks.{base_of}
use Rattle.lp_plain.specs.Taking.{IsAbove, IsKept}
use Rattle.lp_plain.specs.Within.{StandsIn}
use Rattle.lp_plain.proofs.AboveUnder.{alternatives_on, in_turn_taken, nested_taken}
use Rattle.lp_plain.proofs.Alternatives.{all_stand_on}
use Rattle.lp_plain.proofs.Backwards.{AllWithin, all_back, nested_last}
use Rattle.lp_plain.proofs.Bounds.{AllBound, all_older_back, bound_last, split_newest}
use Rattle.lp_plain.proofs.QuietMoves.{drop_push, kept_of, within_new}
use Rattle.lp_plain.proofs.Scoped.{get_front}

-- from one list of alternatives to another one with the same oldest ones
module _ (ar : ℕ → ℕ) (m n : Machine) (a d : Around) (xs ys zs : List Choice) (em : m.choices.items ≡ xs ++ ys) (en : n.choices.items ≡ xs ++ zs) (Good : List Choice → Type 0)
    (carry : (qv : Query) (f : ℕ → ℕ) (l k : ℕ) (cs : List Choice) (rss tss : List (List Task)) → Good cs → StandForAll m a cs 0 rss → AreAlternatives qv m f l k cs rss tss → StandForAll n d cs 0 rss × AreAlternatives qv n f l k cs rss tss)
    (good : (i : ℕ) (dn : Denial) (c : Choice) → i < length xs → slice_get m.choices.items i ≡ Some c → Good (outer_choices m i c dn)) where
  same_choices : (i : ℕ) (c : Choice) (dn : Denial) → i ≤ length xs → outer_choices n i c dn ≡ outer_choices m i c dn
  same_choices i c dn l = ap (λ t. drop (base_of dn.around) t ++ way_back c dn ∷ []) (ap (take i) en ∙ take-append-le i xs zs l ∙ sym (take-append-le i xs ys l) ∙ ap (take i) (sym em))

  same_at : (i : ℕ) → i < length xs → slice_get n.choices.items i ≡ slice_get m.choices.items i
  same_at i l = ap (λ t. slice_get t i) en ∙ get_front xs zs i l ∙ sym (get_front xs ys i l) ∙ ap (λ t. slice_get t i) (sym em)

  outer_carried : (i : ℕ) (dn : Denial) (w : Waiting) (ws : List Waiting) → i < length xs → IsOuter ar m a i dn w ws → IsOuter ar n d i dn w ws
  outer_carried i dn w ws l h =
      let b = base_of dn.around in
      let qv : Query = record { types = w.types; vars = w.vars; arity = ar; outer = ws } in
      let r = carry qv (mark_in b h.raws) b b (outer_choices m i h.choice dn) h.raws h.others (good i dn h.choice l h.there) h.stand h.are in
      let e = sym (same_choices i h.choice dn (omega (arith, l))) in
      record {
        choice = h.choice;
        there = same_at i l ∙ h.there;
        denied = h.denied;
        low = h.low;
        raws = h.raws;
        others = h.others;
        stand = subst (λ cs. StandForAll n d cs 0 h.raws) e r.0;
        are = subst (λ cs. AreAlternatives qv n (mark_in b h.raws) b b cs h.raws h.others) e r.1;
        is = h.is;
        lost = h.lost;
      }

  pub all_carried : (o : Option ℕ) (ws : List Waiting) → base_of o ≤ length xs → AreOuter ar m a o ws → AreOuter ar n d o ws
  all_carried None [] l h = tt
  all_carried None (w ∷ ws) l h = absurd h
  all_carried (Some i) [] l h = absurd h
  all_carried (Some i) (w ∷ ws) l h = (h.0, outer_carried i h.0 w ws (omega (arith, l)) h.1, all_carried h.0.around ws (let z = h.1.low in omega (arith, l, z)) h.2)

-- the newest alternative, whichever search it is of
pub record IsBefore (m : Machine) (a : Around) (x : Choice) : Type 0 where
  pub kept : IsKept m a x
  pub terms : x.bindings.terms ≤ length m.bindings.terms.entries
  pub types : x.bindings.types ≤ length m.bindings.types.entries

module _ (qv : Query) (m : Machine) (a : Around) (stack : List Task) (h : HasAlternatives qv m a stack) where
  last_of : (ar : Query) (f : ℕ → ℕ) (l : ℕ) (cs : List Choice) (x : Choice) (rss tss : List (List Task)) → StandForAll m a (cs ++ x ∷ []) 0 rss → AreAlternatives ar m f l l (cs ++ x ∷ []) rss tss → IsBefore m a x
  last_of ar f l cs x rss tss s k =
      let sp = split_newest ar m a f l l cs x 0 rss tss s k in
      record { kept = kept_of m a x sp.under sp.last; terms = sp.is.bound_terms; types = sp.is.bound_types }

  got_last : (xs : List Choice) (x : Choice) → slice_get (xs ++ x ∷ []) (length xs) ≡ Some x
  got_last [] x = refl
  got_last (y ∷ xs) x = got_last xs x

  outer_last : (o : Option ℕ) (ws : List Waiting) (xs : List Choice) (x : Choice) → m.choices.items ≡ xs ++ x ∷ [] → base_of o ≡ suc (length xs) → AreOuter qv.arity m a o ws → IsBefore m a x
  outer_last None ws xs x e b k = absurd (omega (arith, b))
  outer_last (Some i) [] xs x e b k = absurd k
  outer_last (Some i) (w ∷ ws) xs x e b k =
      let o = k.1 in
      let dn = k.0 in
      let at : i ≡ length xs = omega (arith, b) in
      let same : o.choice ≡ x = (let p : Some o.choice ≡ Some x = sym o.there ∙ (λ j. slice_get (e j) (at j)) ∙ got_last xs x in cc) in
      let base = base_of dn.around in
      let r = last_of (record { types = w.types; vars = w.vars; arity = qv.arity; outer = ws }) (mark_in base o.raws) base (drop base (take i m.choices.items)) (way_back o.choice dn) o.raws o.others o.stand o.are in
      let kp = r.kept in
      subst (IsBefore m a) same (record {
        kept = record { frames = kp.frames; blocks = kp.blocks; values = kp.values; assumptions = kp.assumptions; newest = kp.newest; standings = kp.standings; placed = kp.placed };
        terms = r.terms;
        types = r.types;
      })

  pub newest_before : (xs : List Choice) (x : Choice) → m.choices.items ≡ xs ++ x ∷ [] → IsBefore m a x
  newest_before xs x e =
      let b = base_of m.denied in
      elim (equal_or_above b (suc (length xs)) (let z = h.done.base in let y = ap length e ∙ length-append xs (x ∷ []) in omega (arith, z, y))) [
        | inl q ↦ outer_last m.denied qv.outer xs x e (sym q) h.inside.outer
        | inr l ↦
            (let whole : drop b m.choices.items ≡ drop b xs ++ x ∷ [] = ap (drop b) e ∙ drop_push b xs x (omega (arith, l)) in
            last_of qv (mark_in b h.raws) b (drop b xs) x h.raws h.others (subst (λ z. StandForAll m a z 0 h.raws) whole h.done.alternatives)
            (subst (λ z. AreAlternatives qv m (mark_in b h.raws) b b z h.raws h.others) whole h.are))
      ]

  -- one more
  module _ (c : Choice) (u : IsAbove m c) (p : length m.bindings.terms.entries ≤ c.bindings.terms) (q : length m.bindings.types.entries ≤ c.bindings.types) where
    nested_push : (cs : List Choice) → AreNested cs → ((xs : List Choice) (x : Choice) → cs ≡ xs ++ x ∷ [] → IsBefore m a x) → AreNested (cs ++ c ∷ [])
    nested_push [] n f = tt
    nested_push (x ∷ []) n f = (within_new m a x c (f [] x refl).kept u, tt)
    nested_push (x ∷ y ∷ cs) n f = (n.0, nested_push (y ∷ cs) n.1 (λ xs z e. f (x ∷ xs) z (ap (λ l. x ∷ l) e)))

    turn_push : (cs : List Choice) → AreBoundInTurn cs → ((xs : List Choice) (x : Choice) → cs ≡ xs ++ x ∷ [] → IsBefore m a x) → AreBoundInTurn (cs ++ c ∷ [])
    turn_push [] n f = tt
    turn_push (x ∷ []) n f =
        let r = f [] x refl in
        let i = r.terms in
        let j = r.types in
        (omega (arith, i, p), omega (arith, j, q), tt)
    turn_push (x ∷ y ∷ cs) n f = (n.0, n.1, turn_push (y ∷ cs) n.2 (λ xs z e. f (x ∷ xs) z (ap (λ l. x ∷ l) e)))

    pub nested_more : AreNested (m.choices.items ++ c ∷ [])
    nested_more = nested_push m.choices.items h.inside.nested (λ xs x e. newest_before xs x e)

    pub turn_more : AreBoundInTurn (m.choices.items ++ c ∷ [])
    turn_more = turn_push m.choices.items h.inside.in_turn (λ xs x e. newest_before xs x e)

-- the search at work goes on
module _ (qv : Query) (m n : Machine) (a d : Around) (st : StandsIn m) (g : GrowsOn m n) (lt : IsLaterAround (length m.newest.items) (length m.standings.items) a d) (gb : Grows m.bindings n.bindings) (h : IsInside qv m a)
    (low : base_of m.denied ≤ length m.choices.items) where
  carry : (q : Query) (f : ℕ → ℕ) (l k : ℕ) (cs : List Choice) (rss tss : List (List Task)) → Unit {0} → StandForAll m a cs 0 rss → AreAlternatives q m f l k cs rss tss → StandForAll n d cs 0 rss × AreAlternatives q n f l k cs rss tss
  carry q f l k cs rss tss u s x = (all_stand_on m n a d st g lt cs 0 rss s, alternatives_on q m n a d st g lt gb f l k 0 cs rss tss s x)

  outer_on : (xs ys zs : List Choice) → m.choices.items ≡ xs ++ ys → n.choices.items ≡ xs ++ zs → base_of m.denied ≤ length xs → AreOuter qv.arity n d n.denied qv.outer
  outer_on xs ys zs em en l = subst (λ o. AreOuter qv.arity n d o qv.outer) (sym g.denied) (all_carried qv.arity m n a d xs ys zs em en (λ cs. Unit {0}) carry (λ i dn c p e. tt) m.denied qv.outer l h.outer)

  pub inside_still : n.choices.items ≡ m.choices.items → IsInside qv n d
  inside_still e = record {
    outer = outer_on m.choices.items [] [] (sym (append-nil m.choices.items)) (e ∙ sym (append-nil m.choices.items)) low;
    nested = subst AreNested (sym e) h.nested;
    in_turn = subst AreBoundInTurn (sym e) h.in_turn;
  }

  pub inside_more : (stack : List Task) → HasAlternatives qv m a stack → (c : Choice) → n.choices.items ≡ m.choices.items ++ c ∷ [] → IsAbove m c → length m.bindings.terms.entries ≤ c.bindings.terms → length m.bindings.types.entries ≤ c.bindings.types → IsInside qv n d
  inside_more stack k c e u p q = record {
    outer = outer_on m.choices.items [] (c ∷ []) (sym (append-nil m.choices.items)) e low;
    nested = subst AreNested (sym e) (nested_more qv m a stack k c u p q);
    in_turn = subst AreBoundInTurn (sym e) (turn_more qv m a stack k c u p q);
  }

  pub inside_cut : (mark : ℕ) → n.choices.items ≡ take mark m.choices.items → base_of m.denied ≤ mark → IsInside qv n d
  inside_cut mark e small = record {
    outer = outer_on (take mark m.choices.items) (drop mark m.choices.items) [] (sym (take-append-drop mark m.choices.items)) (e ∙ sym (append-nil (take mark m.choices.items)))
        (long (base_of m.denied) mark m.choices.items small low);
    nested = subst AreNested (sym e) (nested_taken mark m.choices.items h.nested);
    in_turn = subst AreBoundInTurn (sym e) (in_turn_taken mark m.choices.items h.in_turn);
  }
    where
      long : {X : Type 0} (b k : ℕ) (xs : List X) → b ≤ k → b ≤ length xs → b ≤ length (take k xs)
      long b zero xs p q = omega (arith, p)
      long b (suc k) [] p q = omega (arith, q)
      long zero (suc k) (x ∷ xs) p q = omega arith
      long (suc b) (suc k) (x ∷ xs) p q = let r = long b k xs (omega (arith, p)) (omega (arith, q)) in omega (arith, r)

-- the search at work goes back to its newest alternative
abbrev IsOlder : Choice → Choice → Type 0
IsOlder c x = IsWithin x c × (x.bindings.terms ≤ c.bindings.terms) × (x.bindings.types ≤ c.bindings.types)

all_older : (c : Choice) (xs : List Choice) → AllWithin c xs → AllBound c xs → EachOf (IsOlder c) xs
all_older c [] v w = tt
all_older c (x ∷ xs) v w = ((v.0, w.0, w.1), all_older c xs v.1 w.2)

older_within : (c : Choice) (xs : List Choice) → EachOf (IsOlder c) xs → AllWithin c xs
older_within c [] h = tt
older_within c (x ∷ xs) h = (h.0.0, older_within c xs h.1)

older_bound : (c : Choice) (xs : List Choice) → EachOf (IsOlder c) xs → AllBound c xs
older_bound c [] h = tt
older_bound c (x ∷ xs) h = (h.0.1, h.0.2, older_bound c xs h.1)

older_taken : (c : Choice) (k : ℕ) (xs : List Choice) → EachOf (IsOlder c) xs → EachOf (IsOlder c) (take k xs)
older_taken c zero xs h = tt
older_taken c (suc k) [] h = tt
older_taken c (suc k) (x ∷ xs) h = (h.0, older_taken c k xs h.1)

older_at : (c : Choice) (xs : List Choice) (i : ℕ) (x : Choice) → slice_get xs i ≡ Some x → EachOf (IsOlder c) xs → IsOlder c x
older_at c [] i x e h = cc
older_at c (y ∷ xs) zero x e h = subst (IsOlder c) (let q : y ≡ x = cc in q) h.0
older_at c (y ∷ xs) (suc i) x e h = older_at c xs i x e h.1

module _ (qv : Query) (m n : Machine) (a : Around) (c : Choice) (rest : List Choice) (e : m.choices.items ≡ rest ++ c ∷ []) (l : base_of m.denied ≤ length rest) (t : IsTaken m n c rest) (kc : IsKept m a c)
    (ct : c.bindings.terms ≤ length m.bindings.terms.entries) (cy : c.bindings.types ≤ length m.bindings.types.entries) (h : IsInside qv m a) where
  older : EachOf (IsOlder c) rest
  older = all_older c rest (nested_last rest c (subst AreNested e h.nested)).0 (bound_last rest c (subst AreBoundInTurn e h.in_turn)).0

  good : (i : ℕ) (dn : Denial) (x : Choice) → i < length rest → slice_get m.choices.items i ≡ Some x → EachOf (IsOlder c) (outer_choices m i x dn)
  good i dn x p q =
      let same : take i m.choices.items ≡ take i rest = ap (take i) e ∙ take-append-le i rest (c ∷ []) (omega (arith, p)) in
      let o = older_at c rest i x (sym (get_front rest (c ∷ []) i p) ∙ ap (λ z. slice_get z i) (sym e) ∙ q) older in
      let w = o.0 in
      each_append (IsOlder c) (drop (base_of dn.around) (take i m.choices.items)) (way_back x dn ∷ [])
      (subst (λ z. EachOf (IsOlder c) (drop (base_of dn.around) z)) (sym same) (each_drop (IsOlder c) (base_of dn.around) (take i rest) (older_taken c i rest older)))
      ((record { frames = w.frames; blocks = w.blocks; values = w.values; assumptions = w.assumptions; newest = w.newest; standings = w.standings }, o.1, o.2), tt)

  pub inside_back : IsInside qv n a
  inside_back = record {
    outer = subst (λ o. AreOuter qv.arity n a o qv.outer) (sym t.denied)
        (all_carried qv.arity m n a a rest (c ∷ []) [] e (t.choices ∙ sym (append-nil rest)) (EachOf (IsOlder c))
        (λ q f k j cs rss tss u s x. (all_back m n a c rest t kc cs (older_within c cs u) 0 rss s, all_older_back q m n a c rest t kc ct cy f k j cs rss tss (older_within c cs u) (older_bound c cs u) x)) good m.denied
        qv.outer l h.outer);
    nested = subst AreNested (sym t.choices) (nested_last rest c (subst AreNested e h.nested)).1;
    in_turn = subst AreBoundInTurn (sym t.choices) (bound_last rest c (subst AreBoundInTurn e h.in_turn)).1;
  }
