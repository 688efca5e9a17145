-- The pairs that a rule gives, on the stack, and the pair that a rule delays.
use Rattle.std.proofs.Common.{◌≡◌, ℕ, zero, suc, ◌+◌, ◌<◌, ◌≤◌, List, [], ◌∷◌, ◌++◌, map, reverse, length, ◌∙◌, refl, sym, ap, subst as transport, arith, Bool, true, false, Option, Some, None, nat_eq}
use Rattle.std.specs.Prelude.{All, IsSome, OnOk, Result, Ok, Err}
use Rattle.std.proofs.lemmas.List.{append-nil}
use Rattle.std.proofs.lemmas.List.Elements.{All-nil, All-head, All-tail, All-cons}
use Rattle.indexmap.specs.IndexMap.{get}
use Rattle.lp_calculus.specs.Term.{Term, atom, app, apply, eigen}
use Rattle.lp_calculus.specs.Convert.{steps}
use Rattle.lp_calculus.specs.Fill.{Within}
use Rattle.lp_term.specs.Nodes.{Nodes, Extends, tree}
use Rattle.lp_term.specs.declared.node.TermId.{TermId}
use Rattle.lp_term.specs.declared.reduce.TermRefusal.{TermRefusal}
use Rattle.lp_term.proofs.Frames.{some_of}
use Rattle.lp_model.specs.Types.{TypeBinding}
use Rattle.lp_model.specs.Pair.{Pair, Closing, closed, put_types_in}
use Rattle.lp_model.specs.Rule.{Verdict, fails, gives, binds, delays, open_with, opened, argument_pairs}
use Rattle.lp_model.specs.declared.answer.Pair.{Pair as Numbers}
use Rattle.lp_model.specs.Look.{weak_step}
use Rattle.lp_pattern.specs.declared.bindings.Bindings.{Bindings}
use Rattle.lp_pattern.specs.declared.look.Looked.{Looked}
use Rattle.lp_pattern.specs.declared.rules.Verdict.{Verdict as Taken}
use Rattle.lp_pattern.specs.Behind.{with_types, IsGiven}
use Rattle.lp_pattern.specs.Comparing.{pair_under, pairs_of, opened_pair}
use Rattle.lp_pattern.specs.Growing.{IsPairOf}
use Rattle.lp_pattern.specs.Putting.{Known}
use Rattle.lp_pattern.specs.Ruling.{IsSeenPair}
use Rattle.lp_pattern.specs.Seen.{IsLooked, IsDeepWhere}
use Rattle.lp_pattern.specs.Turning.{IsOpenReading, IsKnownPair, AreKnownPairs, IsPairFor, ArePairsFor, IsFirm, IsKeptBehind, IsTypedBehind, IsDoneAs, IsGivenAs, IsTakenAs}
use Rattle.lp_pattern.specs.Under.{under}
use Rattle.lp_pattern.proofs.Judging.{pair_kept}
use Rattle.lp_pattern.proofs.Looking.{steps_on}
use Rattle.lp_term.proofs.Several.{steps_then}
use Rattle.lp_pattern.proofs.PairsThrough.{within_typed, within_reached}
use Rattle.lp_pattern.proofs.Stacks.{under_kept}
use Rattle.lp_pattern.proofs.Walking.{open_kept}

pub on_two : {T E : Type 0} (r : Result T E) (P Q R : Type 0) → (P → Q → R) → OnOk r P → OnOk r Q → OnOk r R
on_two (Ok x) P Q R f h k = f h k
on_two (Err e) P Q R f h k = h

-- a reading in a bank that has grown
-- the variables of arguments are those of the whole
abbrev pub EachKnown : Nodes → Closing → (ℕ → ℕ) → ℕ → List TermId → Type 0
EachKnown b c lv n [] = Unit {0}
EachKnown b c lv n (t ∷ ids) = Within (Known lv n) 0 (under b c t) × EachKnown b c lv n ids

within_arguments : (b : Nodes) (c : Closing) (lv : ℕ → ℕ) (n : ℕ) (ids : List TermId) (h : Term) → Within (Known lv n) 0 (closed c (apply h (map (λ t. tree b t.0) ids))) → Within (Known lv n) 0 (closed c h) × EachKnown b c lv n ids
within_arguments b c lv n [] h w = (w, tt)
within_arguments b c lv n (t ∷ ids) h w = let z = within_arguments b c lv n ids (app h (tree b t.0)) w in (z.0.0, (z.0.1, z.1))

looked_known : (b : Nodes) (s : Bindings) (c : Closing) (lv : ℕ → ℕ) (n j : ℕ) (t : Term) (r : Looked) → IsLooked b s r → steps weak_step j t ≡ Some (under b c r.whole) → Within (Known lv n) 0 t → EachKnown b c lv n r.arguments.items
looked_known b s c lv n j t r k e w =
    (within_arguments b c lv n r.arguments.items (tree b r.top.0) (transport (λ x. Within (Known lv n) 0 (closed c x)) k.made (within_reached lv n j t (under b c r.whole) e w))).1

-- the pairs of arguments, with types put in
known_arguments : (b : Nodes) (c : Closing) (lv : ℕ → ℕ) (n level : ℕ) (ts : List TypeBinding) (ids js : List TermId) → EachKnown b c lv n ids → EachKnown b c lv n js →
    AreKnownPairs lv n (argument_pairs level (map (put_types_in ts) (map (under b c) ids)) (map (put_types_in ts) (map (under b c) js)))
known_arguments b c lv n level ts [] js h k = tt
known_arguments b c lv n level ts (t ∷ ids) [] h k = tt
known_arguments b c lv n level ts (t ∷ ids) (u ∷ js) h k = ((within_typed lv n ts (under b c t) h.0, within_typed lv n ts (under b c u) k.0), known_arguments b c lv n level ts ids js h.1 k.1)

argument_pair : (b d : Nodes) (c : Closing) (ts : List TypeBinding) (t : TermId) → Extends b d → ((x : Term) → closed (with_types ts c) x ≡ put_types_in ts (closed c x)) → t.0 < length b.terms → put_types_in ts (under b c t) ≡ under d (with_types ts c) t
argument_pair b d c ts t e p l = sym (p (tree d t.0) ∙ ap (put_types_in ts) (under_kept b d c t e l))

given_arguments : (b d : Nodes) (c : Closing) (level : ℕ) (ts : List TypeBinding) (ids js : List TermId) → Extends b d → ((x : Term) → closed (with_types ts c) x ≡ put_types_in ts (closed c x)) → All (λ t. t.0 < length b.terms) ids → All (λ t. t.0 < length b.terms) js →
    ArePairsFor d (with_types ts c) (pairs_of level ids js) (argument_pairs level (map (put_types_in ts) (map (under b c) ids)) (map (put_types_in ts) (map (under b c) js)))
given_arguments b d c level ts [] js e p h k = tt
given_arguments b d c level ts (t ∷ ids) [] e p h k = tt
given_arguments b d c level ts (t ∷ ids) (u ∷ js) e p h k = (
  record {
    stands = refl;
    left = (0, ap (λ x. Some x) (argument_pair b d c ts t e p (All-head (λ x. x.0 < length b.terms) t ids h)));
    right = (0, ap (λ x. Some x) (argument_pair b d c ts u e p (All-head (λ x. x.0 < length b.terms) u js k)));
  },
  given_arguments b d c level ts ids js e p (All-tail (λ x. x.0 < length b.terms) t ids h) (All-tail (λ x. x.0 < length b.terms) u js k),
)

within_pairs : (b d : Nodes) (level : ℕ) (ids js : List TermId) → Extends b d → All (λ t. t.0 < length b.terms) ids → All (λ t. t.0 < length b.terms) js → All (IsPairOf (length d.terms)) (pairs_of level ids js)
within_pairs b d level [] js e h k = All-nil (IsPairOf (length d.terms))
within_pairs b d level (t ∷ ids) [] e h k = All-nil (IsPairOf (length d.terms))
within_pairs b d level (t ∷ ids) (u ∷ js) e h k =
    let x = All-head (λ z. z.0 < length b.terms) t ids h in
    let y = All-head (λ z. z.0 < length b.terms) u js k in
    All-cons (IsPairOf (length d.terms)) (record { left = t; right = u; level = level }) (pairs_of level ids js) (omega (arith, x, e.more_terms), omega (arith, y, e.more_terms))
    (within_pairs b d level ids js e (All-tail (λ z. z.0 < length b.terms) t ids h) (All-tail (λ z. z.0 < length b.terms) u js k))

module _ (b d : Nodes) (s : Bindings) (next : ℕ) (c : Closing) (one other : Looked) (i : IsOpenReading b s next c) (k : IsLooked b s one) (m : IsLooked b s other) (level : ℕ) (lv : ℕ → ℕ) (p : Pair) (h : IsSeenPair b c level one other p) (known : IsKnownPair lv next p)
    (e : Extends b d) (old new : List Numbers) where
  -- two rigid heads
  pub arguments_given : (s' : Bindings) (v : Verdict) → s'.terms ≡ s.terms → new ≡ old ++ reverse (pairs_of level one.arguments.items other.arguments.items) →
      IsGiven s d s' c level (map (under b c) one.arguments.items) (map (under b c) other.arguments.items) v → IsGivenAs lv next c s d s' next old new v
  arguments_given s' v same pushed g = transport (IsGivenAs lv next c s d s' next old new) (sym g.is) (
    record {
      reading = record { reading = g.reading; shut = g.shut; still = g.still; unbound = λ x l. ap (λ z. get nat_eq z x) same ∙ i.unbound x l };
      last = refl;
      puts = g.terms;
      firm = g.firm;
      terms = ap (λ z. length z.entries) same;
      types = g.count;
    },
    record {
      pairs = pairs_of level one.arguments.items other.arguments.items;
      on = pushed;
      are = given_arguments b d c level g.bindings one.arguments.items other.arguments.items e g.terms k.arguments m.arguments;
      stand = within_pairs b d level one.arguments.items other.arguments.items e k.arguments m.arguments;
      known = known_arguments b c lv next level g.bindings one.arguments.items other.arguments.items (looked_known b s c lv next h.left.0 p.left one k h.left.1 known.0) (looked_known b s c lv next h.right.0 p.right other m h.right.1 known.1);
    },
  )

  -- nothing was bound
  still_typed : (s' : Bindings) (n' : ℕ) → IsKeptBehind next c s d s' n' → IsTypedBehind next c s d s' n' []
  still_typed s' n' t = record {
    reading = t.reading;
    last = t.last;
    puts = λ x. refl;
    firm = λ us f. transport (λ l. IsFirm l c) (sym (append-nil us)) f;
    terms = t.terms;
    types = t.types ∙ (let z : length s.types.entries ≡ length s.types.entries + 0 = omega arith in z);
  }

  -- a side on the eigenconstant of the level plus one
  opened_side : (q : TermId) (t u : Term) (j : ℕ) → steps weak_step j t ≡ Some u → under d c q ≡ open_with (suc level) u → (x : ℕ) × (steps weak_step x (open_with (suc p.level) t) ≡ Some (under d c q))
  opened_side q t u j f z = (j, ap (λ l. steps weak_step j (open_with (suc l) t)) h.stands ∙ steps_on j t u (atom (eigen (suc level))) f ∙ ap (λ x. Some x) (sym z))

  pub opened_given : (q : Numbers) (v : Verdict) → gives [] (opened p ∷ []) ≡ v → new ≡ old ++ q ∷ [] → IsPairOf (length d.terms) q → pair_under d c q ≡ opened_pair level (under b c one.whole) (under b c other.whole) → IsGivenAs lv next c s d s next old new v
  opened_given q v is pushed l o = transport (IsGivenAs lv next c s d s next old new) is (
    still_typed s next (record { reading = open_kept b d s next c e i; last = refl; terms = refl; types = refl }),
    record {
      pairs = q ∷ [];
      on = pushed;
      are = (
        record {
          stands = ap suc h.stands ∙ sym (ap (λ z. z.level) o);
          left = opened_side q.left p.left (under b c one.whole) h.left.0 h.left.1 (ap (λ z. z.left) o);
          right = opened_side q.right p.right (under b c other.whole) h.right.0 h.right.1 (ap (λ z. z.right) o);
        },
        tt,
      );
      stand = All-cons (IsPairOf (length d.terms)) q [] l (All-nil (IsPairOf (length d.terms)));
      known = (((known.0, tt), (known.1, tt)), tt);
    },
  )

  -- a variable against another term
  pub done_taken : (s' : Bindings) (n' : ℕ) (done : Bool) (v : Verdict) → done ≡ true → new ≡ old → IsDoneAs done lv next c s d s' n' v → IsTakenAs Taken.Gone lv next c s d s' n' old new p v
  done_taken s' n' done v z same t = go v (transport (λ x. IsDoneAs x lv next c s d s' n' v) z t)
    where
      go : (v : Verdict) → IsDoneAs true lv next c s d s' n' v → IsTakenAs Taken.Gone lv next c s d s' n' old new p v
      go fails t = absurd t
      go (gives ts ps) t = transport (λ x. IsTakenAs Taken.Gone lv next c s d s' n' old new p (gives x ps)) (sym t.0) (transport (λ x. IsTakenAs Taken.Gone lv next c s d s' n' old new p (gives [] x)) (sym t.1) (
        still_typed s' n' t.2,
        record { pairs = []; on = same ∙ sym (append-nil old); are = tt; stand = All-nil (IsPairOf (length d.terms)); known = tt },
      ))
      go (binds bs x) t = (t.0, t.1, same)
      go delays t = absurd t

  pub delayed_taken : (s' : Bindings) (n' : ℕ) (done : Bool) (v : Verdict) → done ≡ false → new ≡ old → IsDoneAs done lv next c s d s' n' v →
      IsTakenAs (Taken.Delayed (record { left = one.whole; right = other.whole; level = level })) lv next c s d s' n' old new p v
  delayed_taken s' n' done v z same t =
      let w : IsDoneAs false lv next c s d s' n' v = transport (λ x. IsDoneAs x lv next c s d s' n' v) z t in
      let o = pair_kept b d s c level one other p e k m h in
      (w.0, w.1, same, record { stands = o.stands; left = o.left; right = o.right }, (omega (arith, k.known, e.more_terms), omega (arith, m.known, e.more_terms)))

  -- other pairs in its place
  pub given_taken : (s' : Bindings) (v : Verdict) → IsGivenAs lv next c s d s' next old new v → IsTakenAs Taken.Gone lv next c s d s' next old new p v
  given_taken s' fails t = absurd t
  given_taken s' (gives ts ps) t = t
  given_taken s' (binds bs x) t = absurd t
  given_taken s' delays t = absurd t

-- sides that are some steps before
pub seen_from : (b d : Nodes) (c : Closing) (one other : Looked) (q : Numbers) (p : Pair) → IsPairFor b c q p → IsSeenPair d c q.level one other (pair_under b c q) → IsSeenPair d c q.level one other p
seen_from b d c one other q p r w = record {
  stands = r.stands;
  left = (r.left.0 + w.left.0, steps_then weak_step r.left.0 w.left.0 (r.left.0 + w.left.0) p.left (under b c q.left) (under d c one.whole) refl r.left.1 w.left.1);
  right = (r.right.0 + w.right.0, steps_then weak_step r.right.0 w.right.0 (r.right.0 + w.right.0) p.right (under b c q.right) (under d c other.whole) refl r.right.1 w.right.1);
}

-- a side with more steps than the limit has them from some steps before
steps_less : (f : Term → Option Term) (k m : ℕ) (t s : Term) → k ≤ m → steps f m t ≡ Some s → IsSome (steps f k t)
steps_less f zero m t s l e = refl
steps_less f (suc k) zero t s l e = absurd (omega (arith, l))
steps_less f (suc k) (suc m) t s l e =
    elim (f t) as (λ o. (elim o [ None ↦ None | Some u ↦ steps f m u ]) ≡ Some s → IsSome (elim o as (λ z. Option Term) [ None ↦ None | Some u ↦ steps f k u ])) [
      | None ↦ λ p. absurd (cc)
      | Some u ↦ λ p. steps_less f k m u s (omega (arith, l)) p
    ] e

pub deep_before : (limit j : ℕ) (t u : Term) (e : TermRefusal) → steps weak_step j t ≡ Some u → IsDeepWhere limit u e → IsDeepWhere limit t e
deep_before limit j t u (TermRefusal.Deep n) q d =
    let k = some_of (steps weak_step (suc limit) u) d in steps_less weak_step (suc limit) (j + suc limit) t k.0 (omega arith) (steps_then weak_step j (suc limit) (j + suc limit) t u k.0 refl q k.1)
deep_before limit j t u TermRefusal.Memory q d = tt
