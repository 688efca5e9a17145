-- The states of a run: what a verdict on the first pair makes of the code's state and of the definition's.
use Rattle.std.proofs.Common.{◌≡◌, ℕ, ◌+◌, ◌<◌, List, [], ◌∷◌, ◌++◌, reverse, length, ◌∙◌, refl, sym, ap, subst as transport, arith, true}
use Rattle.std.specs.Prelude.{All, ◌||◌}
use Rattle.std.proofs.lemmas.List.{reverse-append, reverse-reverse}
use Rattle.std.proofs.lemmas.List.Elements.{All-tail, All-append, All-push}
use Rattle.lp_calculus.specs.Term.{Term}
use Rattle.lp_calculus.specs.Fill.{Within, Binding, put_all}
use Rattle.lp_term.specs.Nodes.{Nodes, Extends, tree}
use Rattle.lp_term.specs.declared.node.TermId.{TermId}
use Rattle.lp_model.specs.Types.{TypeBinding}
use Rattle.lp_model.specs.Pair.{Pair, Closing, closed, put_types_in}
use Rattle.lp_model.specs.Unify.{State, put_pairs, type_pairs_in, is_some_bound}
use Rattle.lp_model.specs.declared.answer.Pair.{Pair as Numbers}
use Rattle.lp_calculus.proofs.Atoms.{put_all_append}
use Rattle.lp_pattern.proofs.TypesFirm.{puts_behind}
use Rattle.lp_pattern.specs.declared.bindings.Bindings.{Bindings}
use Rattle.lp_pattern.specs.Behind.{with_types}
use Rattle.lp_pattern.specs.Growing.{IsPairOf}
use Rattle.lp_pattern.specs.Pruning.{Known}
use Rattle.lp_pattern.specs.Turning.{IsKnownPair, AreKnownPairs, IsPairFor, ArePairsFor, IsKeptBehind, IsBoundBehind, IsTypedBehind, ArePushed}
use Rattle.lp_pattern.specs.Turns.{Began, IsStateAt}
use Rattle.lp_pattern.specs.Under.{under}
use Rattle.lp_pattern.proofs.PairsThrough.{steps_typed, within_typed_at, types_on_sides, terms_on_sides, all_known, pairs_through, pairs_stay, pairs_behind, known_behind}
use Rattle.lp_pattern.proofs.Stacks.{under_kept, still_pairs}

-- bindings one after the other
-- the first pair, and those behind it
pub record First (b : Nodes) (c : Closing) (lv : ℕ → ℕ) (n : ℕ) (q : Numbers) (qs : List Numbers) (ps : List Pair) : Type 0 where
  pub pair : Pair
  pub rest : List Pair
  pub is : ps ≡ pair ∷ rest
  pub stands : IsPairFor b c q pair
  pub others : ArePairsFor b c qs rest
  pub known : IsKnownPair lv n pair
  pub known_others : AreKnownPairs lv n rest

pub first : (b : Nodes) (c : Closing) (lv : ℕ → ℕ) (n : ℕ) (q : Numbers) (qs : List Numbers) (ps : List Pair) → ArePairsFor b c (q ∷ qs) ps → AreKnownPairs lv n ps → First b c lv n q qs ps
first b c lv n q qs [] r k = absurd r
first b c lv n q qs (p ∷ ps) r k = record { pair = p; rest = ps; is = refl; stands = r.0; others = r.1; known = k.0; known_others = k.1 }

module _ (limit : ℕ) (o : Began) (b d : Nodes) (s s' : Bindings) (next next' units left : ℕ) (q : Numbers) (old waiting : List Numbers) (st : State) (u : ℕ) (e : Extends b d) (k : IsStateAt limit o b s next units (q ∷ reverse old) waiting st)
    (f : First b k.closing k.levels next q (reverse old) st.pairs) (counted : limit ≡ u + left) where
  others_within : All (IsPairOf (length b.terms)) (reverse old)
  others_within = All-tail (IsPairOf (length b.terms)) q (reverse old) k.within

  abbrev pub with_given : (ts : List TypeBinding) (ps : List Pair) → State
  with_given ts ps = record {
    pairs = ps ++ type_pairs_in ts f.rest;
    delayed = type_pairs_in ts st.delayed;
    bindings = st.bindings;
    types = st.types ++ ts;
    changed = st.changed || is_some_bound ts;
    next = st.next;
    units = u;
  }

  -- other pairs took its place, with types for type variables
  module _ (ts : List TypeBinding) (ps : List Pair) (new : List Numbers) (t : IsTypedBehind next k.closing s d s' next' ts) (a : ArePushed k.levels next' d (with_types ts k.closing) old new ps) where
    stacked : reverse new ≡ a.pairs ++ reverse old
    stacked = ap reverse a.on ∙ reverse-append old (reverse a.pairs) ∙ ap (λ l. l ++ reverse old) (reverse-reverse a.pairs)

    typed_at : (t' : TermId) → t'.0 < length b.terms → Within (Known k.levels next) 0 (under b k.closing t') → under d (with_types ts k.closing) t' ≡ put_types_in ts (under b k.closing t')
    typed_at t' l w = t.puts (tree d t'.0) ∙ ap (put_types_in ts) (under_kept b d k.closing t' e l)

    typed_pairs : (qs : List Numbers) (ps' : List Pair) → All (IsPairOf (length b.terms)) qs → AreKnownPairs k.levels next ps' → ArePairsFor b k.closing qs ps' → ArePairsFor d (with_types ts k.closing) qs (type_pairs_in ts ps')
    typed_pairs qs ps' l m r =
        transport (ArePairsFor d (with_types ts k.closing) qs) (sym (types_on_sides ts ps'))
        (pairs_through b d k.closing (with_types ts k.closing) k.levels next (put_types_in ts) (λ t' u' j w x. steps_typed ts j t' u' x) typed_at qs ps' l m r)

    later : (n : ℕ) (t' : Term) → Within (Known k.levels next) n t' → Within (Known k.levels next') n (put_types_in ts t')
    later n t' w = transport (λ m. Within (Known k.levels m) n (put_types_in ts t')) (sym t.last) (within_typed_at k.levels next n ts t' w)

    typed_known : (ps' : List Pair) → AreKnownPairs k.levels next ps' → AreKnownPairs k.levels next' (type_pairs_in ts ps')
    typed_known ps' m = transport (AreKnownPairs k.levels next') (sym (types_on_sides ts ps')) (all_known k.levels k.levels next next' (put_types_in ts) (later 0) ps' m)

    pub given_state : IsStateAt limit o d s' next' left (reverse new) waiting (with_given ts ps)
    given_state = record {
      closing = with_types ts k.closing;
      reading = t.reading;
      levels = k.levels;
      older = k.older;
      more = omega (arith, t.last, k.more);
      last = t.last ∙ k.last;
      counted = counted;
      pairs =
          transport (λ l. ArePairsFor d (with_types ts k.closing) l (ps ++ type_pairs_in ts f.rest)) (sym stacked)
          (pairs_behind d (with_types ts k.closing) a.pairs (reverse old) ps (type_pairs_in ts f.rest) a.are (typed_pairs (reverse old) f.rest others_within f.known_others f.others));
      delayed = typed_pairs waiting st.delayed k.within_delayed k.known_delayed k.delayed;
      within =
          transport (All (IsPairOf (length d.terms))) (sym stacked)
          (All-append (IsPairOf (length d.terms)) a.pairs (reverse old) a.stand (still_pairs b d (reverse old) e others_within));
      within_delayed = still_pairs b d waiting e k.within_delayed;
      known = known_behind k.levels next' ps (type_pairs_in ts f.rest) a.known (typed_known f.rest f.known_others);
      known_delayed = typed_known st.delayed k.known_delayed;
      puts = λ n t' w. t.puts t' ∙ ap (put_types_in ts) (k.puts n t' w) ∙ sym (puts_behind st.types ts (put_all st.bindings (closed o.closing t')));
      knows = λ n t' w. transport (Within (Known k.levels next') n) (sym (puts_behind st.types ts (put_all st.bindings t'))) (later n (put_types_in st.types (put_all st.bindings t')) (k.knows n t' w));
      firm = t.firm st.types k.firm;
    }

  -- variables were bound
  module _ (bs : List Binding) (m : ℕ) (new : List Numbers) (z : next' ≡ m) (t : IsBoundBehind k.levels next k.closing s d s' next' bs) (same : new ≡ old) where
    abbrev pub with_bound : State
    with_bound = record {
      pairs = put_pairs bs f.rest;
      delayed = put_pairs bs st.delayed;
      bindings = st.bindings ++ bs;
      types = st.types;
      changed = true;
      next = m;
      units = u;
    }

    bound_at : (t' : TermId) → t'.0 < length b.terms → Within (Known k.levels next) 0 (under b k.closing t') → under d t.closing t' ≡ put_all bs (under b k.closing t')
    bound_at t' l w =
        t.puts 0 (tree d t'.0) (transport (Within (Known k.levels next) 0) (sym (under_kept b d k.closing t' e l)) w) ∙ ap (put_all bs) (under_kept b d k.closing t' e l)

    bound_pairs : (qs : List Numbers) (ps' : List Pair) → All (IsPairOf (length b.terms)) qs → AreKnownPairs k.levels next ps' → ArePairsFor b k.closing qs ps' → ArePairsFor d t.closing qs (put_pairs bs ps')
    bound_pairs qs ps' l i r =
        transport (ArePairsFor d t.closing qs) (sym (terms_on_sides bs ps'))
        (pairs_through b d k.closing t.closing k.levels next (put_all bs) t.reaches bound_at qs ps' l i r)

    bound_known : (ps' : List Pair) → AreKnownPairs k.levels next ps' → AreKnownPairs t.levels' next' (put_pairs bs ps')
    bound_known ps' i = transport (AreKnownPairs t.levels' next') (sym (terms_on_sides bs ps')) (all_known k.levels t.levels' next next' (put_all bs) (t.knows 0) ps' i)

    -- the bindings behind those of before, and the types behind them
    in_turn : (t' : Term) → put_all bs (put_types_in st.types (put_all st.bindings t')) ≡ put_types_in st.types (put_all (st.bindings ++ bs) t')
    in_turn t' = t.values st.types k.firm (put_all st.bindings t') ∙ ap (put_types_in st.types) (sym (put_all_append st.bindings bs t'))

    known_before : (n : ℕ) (t' : Term) → Within (Known o.levels o.next) n (closed o.closing t') → Within (Known k.levels next) n (closed k.closing t')
    known_before n t' w = transport (Within (Known k.levels next) n) (sym (k.puts n t' w)) (k.knows n (closed o.closing t') w)

    pub bound_state : IsStateAt limit o d s' next' left (reverse new) waiting with_bound
    bound_state = record {
      closing = t.closing;
      reading = t.reading;
      levels = t.levels';
      older = λ x l. t.older x (omega (arith, l, k.more)) ∙ k.older x l;
      more = omega (arith, t.more, k.more);
      last = z;
      counted = counted;
      pairs = transport (λ l. ArePairsFor d t.closing (reverse l) (put_pairs bs f.rest)) (sym same) (bound_pairs (reverse old) f.rest others_within f.known_others f.others);
      delayed = bound_pairs waiting st.delayed k.within_delayed k.known_delayed k.delayed;
      within = transport (λ l. All (IsPairOf (length d.terms)) (reverse l)) (sym same) (still_pairs b d (reverse old) e others_within);
      within_delayed = still_pairs b d waiting e k.within_delayed;
      known = bound_known f.rest f.known_others;
      known_delayed = bound_known st.delayed k.known_delayed;
      puts = λ n t' w. t.puts n t' (known_before n t' w) ∙ ap (put_all bs) (k.puts n t' w) ∙ in_turn (closed o.closing t');
      knows = λ n t' w. transport (Within (Known t.levels' next') n) (in_turn t') (t.knows n (put_types_in st.types (put_all st.bindings t')) (k.knows n t' w));
      firm = t.firm st.types k.firm;
    }

  -- the pair waits
  module _ (r : Numbers) (new : List Numbers) (t : IsKeptBehind next k.closing s d s' next') (same : new ≡ old) (i : IsPairFor d k.closing r f.pair) (j : IsPairOf (length d.terms) r) where
    abbrev pub with_delayed : State
    with_delayed = record st { pairs = f.rest; delayed = st.delayed ++ f.pair ∷ []; units = u }

    at_last : (ps' : List Pair) → AreKnownPairs k.levels next ps' → AreKnownPairs k.levels next' ps'
    at_last ps' h = transport (λ m. AreKnownPairs k.levels m ps') (sym t.last) h

    pub delayed_state : IsStateAt limit o d s' next' left (reverse new) (waiting ++ r ∷ []) with_delayed
    delayed_state = record {
      closing = k.closing;
      reading = t.reading;
      levels = k.levels;
      older = k.older;
      more = omega (arith, t.last, k.more);
      last = t.last ∙ k.last;
      counted = counted;
      pairs = transport (λ l. ArePairsFor d k.closing (reverse l) f.rest) (sym same) (pairs_stay b d k.closing (reverse old) f.rest e others_within f.others);
      delayed = pairs_behind d k.closing waiting (r ∷ []) st.delayed (f.pair ∷ []) (pairs_stay b d k.closing waiting st.delayed e k.within_delayed k.delayed) (i, tt);
      within = transport (λ l. All (IsPairOf (length d.terms)) (reverse l)) (sym same) (still_pairs b d (reverse old) e others_within);
      within_delayed = All-push (IsPairOf (length d.terms)) waiting r (still_pairs b d waiting e k.within_delayed) j;
      known = at_last f.rest f.known_others;
      known_delayed = at_last (st.delayed ++ f.pair ∷ []) (known_behind k.levels next st.delayed (f.pair ∷ []) k.known_delayed (f.known, tt));
      puts = k.puts;
      knows = λ n t' w. transport (λ m. Within (Known k.levels m) n (put_types_in st.types (put_all st.bindings t'))) (sym t.last) (k.knows n t' w);
      firm = k.firm;
    }
