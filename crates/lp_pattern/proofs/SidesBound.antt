-- Behind rule 5 the side's variable is bound to the other side, pruned and settled.
use Rattle.std.proofs.Common.{◌≡◌, ℕ, zero, suc, List, [], ◌∷◌, ◌++◌, ◌∙◌, refl, sym, ap, subst as transport, arith, Bool, true, false, Option, Some, None, nat_eq, if◌then◌else◌, inl}
use Rattle.std.specs.Prelude.{option_map, option_and_then, ◌&&◌, not}
use Rattle.std.proofs.lemmas.Bool.Decides.{nat_tests}
use Rattle.lp_calculus.specs.Term.{Term, Atom, atom, constant, integer, text, eigen, logic, param}
use Rattle.lp_calculus.specs.Convert.{steps, same}
use Rattle.lp_calculus.specs.Fill.{Within, close, at_variables, Binding, one, put, abstracted}
use Rattle.lp_calculus.proofs.Fills.{fill_none, within_more, within_both}
use Rattle.lp_term.specs.Nodes.{Nodes}
use Rattle.lp_term.specs.declared.node.TermId.{TermId}
use Rattle.lp_term.proofs.Trees.{extends_same}
use Rattle.lp_model.specs.Look.{Look, look, weak_step}
use Rattle.lp_model.specs.Pair.{Closing}
use Rattle.lp_model.specs.Rule.{binds, Ruled, ruled, bound, has_head, solve_for}
use Rattle.lp_model.specs.Scan.{Side, is_side, fits, Pattern, Scanned, broken, whole, scan, first_misfit, renewal, Pruned, led_by, prune, settle}
use Rattle.lp_pattern.specs.declared.bindings.Bindings.{Bindings}
use Rattle.lp_pattern.specs.declared.scan.Scanned.{Scanned as Noted}
use Rattle.lp_pattern.specs.Behind.{at_number, with_value}
use Rattle.lp_pattern.specs.Cleaning.{MayStand, IsClean}
use Rattle.lp_pattern.specs.Putting.{Known}
use Rattle.lp_pattern.specs.Scanning.{all_fit}
use Rattle.lp_pattern.specs.Turning.{IsBoundBehind, IsDoneAs}
use Rattle.lp_pattern.specs.Valuing.{IsKnownSide, IsValued, Values}
use Rattle.lp_pattern.specs.Visiting.{IsScanned}
use Rattle.lp_pattern.proofs.BoundOnce.{IsOneBinding, once_put, once_read, once_longer, put_then, bound_of}
use Rattle.lp_pattern.proofs.Compares.{reached_look, from_bind, from_map}
use Rattle.lp_pattern.proofs.Judging.{scan_reached, behind, scanned_to, pruned_to}
use Rattle.lp_unify_laws.proofs.MoreSteps.Scans.{Below, below_none, below_same, below_then}
use Rattle.lp_pattern.proofs.Passings.{steps_fill}
use Rattle.lp_pattern.proofs.PruneSteps.{turn_of}
use Rattle.lp_pattern.proofs.Refits.{Any, scanned_clean}
use Rattle.lp_pattern.proofs.SettledTerms.{settled_within, within_abstracted}
use Rattle.lp_pattern.proofs.TopScans.{scan_of}

to_bind : {A B : Type 0} (f : A → Option B) (o : Option A) (x : A) (r : B) → o ≡ Some x → f x ≡ Some r → option_and_then f o ≡ Some r
to_bind f o x r e q = ap (option_and_then f) e ∙ q

-- a turn of the definition's pruning
abbrev turned : ℕ → Side → (next : ℕ) → Term → Option Pattern → Option Pruned
turned m s next t o = elim o [
  | None ↦ Some (record { bindings = []; next = next; term = t })
  | Some p ↦ option_map (led_by (renewal s next p)) (prune m s (suc next) (put (renewal s next p) t))
]

turn_is : (m : ℕ) (s : Side) (next : ℕ) (t : Term) (u : ℕ) (ps : List Pattern) (r : Pruned) → scan m s false s.pair t ≡ Some (whole u false ps) → turned m s next t (first_misfit s ps) ≡ Some r → prune (suc m) s next t ≡ Some r
turn_is m s next t u ps r e q = to_bind _ (scan m s false s.pair t) (whole u false ps) r e q

-- pruning what steps at the top come to
pub record IsPrunedLater (n : ℕ) (s : Side) (next j : ℕ) (x : Term) (r : Pruned) : Type 0 where
  pub pruned : Pruned
  pub is : prune n s next x ≡ Some pruned
  pub bindings : pruned.bindings ≡ r.bindings
  pub last : pruned.next ≡ r.next
  pub term : steps weak_step j r.term ≡ Some pruned.term

later_turn : (m : ℕ) (s : Side) (next j : ℕ) (t x : Term) (u : ℕ) (ps : List Pattern) (r : Pruned) → steps weak_step j t ≡ Some x → scan m s false s.pair x ≡ Some (whole u false ps) → (o : Option Pattern) → first_misfit s ps ≡ o →
    turned m s next t o ≡ Some r → ((next : ℕ) (t x : Term) (r : Pruned) → steps weak_step j t ≡ Some x → prune m s next t ≡ Some r → IsPrunedLater m s next j x r) → IsPrunedLater (suc m) s next j x r
later_turn m s next j t x u ps r e i None f q ι =
    let z : record { bindings = []; next = next; term = t } ≡ r = cc in
    record {
      pruned = record { bindings = []; next = next; term = x };
      is = turn_is m s next x u ps (record { bindings = []; next = next; term = x }) i (ap (turned m s next x) f);
      bindings = ap (λ y. y.bindings) z;
      last = ap (λ y. y.next) z;
      term = ap (λ y. steps weak_step j y.term) (sym z) ∙ e;
    }
later_turn m s next j t x u ps r e i (Some p) f q ι =
    let y = from_map (led_by (renewal s next p)) (prune m s (suc next) (put (renewal s next p) t)) r q in
    let z = ι (suc next) (put (renewal s next p) t) (put (renewal s next p) x) y.0 (steps_fill (at_variables (one (renewal s next p))) j t x e) y.1 in
    record {
      pruned = led_by (renewal s next p) z.pruned;
      is = turn_is m s next x u ps (led_by (renewal s next p) z.pruned) i (ap (turned m s next x) f ∙ ap (option_map (led_by (renewal s next p))) z.is);
      bindings = ap (λ l. renewal s next p ∷ l) z.bindings ∙ ap (λ a. a.bindings) (sym y.2);
      last = z.last ∙ ap (λ a. a.next) (sym y.2);
      term = ap (λ a. steps weak_step j a.term) y.2 ∙ z.term;
    }

pub pruned_later : (n : ℕ) (s : Side) (next j : ℕ) (t x : Term) (r : Pruned) → steps weak_step j t ≡ Some x → prune n s next t ≡ Some r → IsPrunedLater n s next j x r
pruned_later zero s next j t x r e q = absurd (cc)
pruned_later (suc m) s next j t x r e q =
    let w = turn_of m s next t r q in
    later_turn m s next j t x w.units w.patterns r e (scan_reached m s false s.pair j t x e (whole w.units false w.patterns) w.is) (first_misfit s w.patterns) refl w.behind (λ k y z p a b. pruned_later m s k j y z p a b)

pub settle_reached : (n k j : ℕ) (t w : Term) → steps weak_step j t ≡ Some w → Below (settle n k t) (settle n k w)
settle_reached zero k j t w e = below_none (settle zero k w)
settle_reached (suc n) k j t w e = below_then (look n t) (look n w) _ _ (reached_look j n t w e) (λ v. below_same _)

-- the scan behind pruning: all patterns fit
none_left : (s : Side) (ps : List Pattern) → first_misfit s ps ≡ None → all_fit s ps ≡ true
none_left s [] e = refl
none_left s (p ∷ ps) e = go (fits s p) e (none_left s ps)
  where
    go : (b : Bool) → (if b then first_misfit s ps else Some p) ≡ None → (first_misfit s ps ≡ None → all_fit s ps ≡ true) → (b && all_fit s ps) ≡ true
    go true q f = f q
    go false q f = absurd (cc)

none_out : (s : Side) (ps : List Pattern) → all_fit s ps ≡ true → first_misfit s ps ≡ None
none_out s [] e = refl
none_out s (p ∷ ps) e = go (fits s p) e (none_out s ps)
  where
    go : (b : Bool) → (b && all_fit s ps) ≡ true → (all_fit s ps ≡ true → first_misfit s ps ≡ None) → (if b then first_misfit s ps else Some p) ≡ None
    go true q f = f q
    go false q f = absurd (cc)

record IsFitBehind (s : Side) (t : Term) : Type 0 where
  turns : ℕ
  units : ℕ
  patterns : List Pattern
  is : scan turns s false s.pair t ≡ Some (whole units false patterns)
  fit : first_misfit s patterns ≡ None

fit_turn : (m : ℕ) (s : Side) (next : ℕ) (t : Term) (u : ℕ) (ps : List Pattern) (r : Pruned) → scan m s false s.pair t ≡ Some (whole u false ps) → (o : Option Pattern) → first_misfit s ps ≡ o → turned m s next t o ≡ Some r →
    ((next : ℕ) (t : Term) (r : Pruned) → prune m s next t ≡ Some r → IsFitBehind s r.term) → IsFitBehind s r.term
fit_turn m s next t u ps r i None f q ι =
    let z : record { bindings = []; next = next; term = t } ≡ r = cc in
    record { turns = m; units = u; patterns = ps; is = ap (λ y. scan m s false s.pair y.term) (sym z) ∙ i; fit = f }
fit_turn m s next t u ps r i (Some p) f q ι =
    let y = from_map (led_by (renewal s next p)) (prune m s (suc next) (put (renewal s next p) t)) r q in
    transport (λ a. IsFitBehind s a.term) (sym y.2) (ι (suc next) (put (renewal s next p) t) y.0 y.1)

fit_behind : (n : ℕ) (s : Side) (next : ℕ) (t : Term) (r : Pruned) → prune n s next t ≡ Some r → IsFitBehind s r.term
fit_behind zero s next t r q = absurd (cc)
fit_behind (suc m) s next t r q =
    let w = turn_of m s next t r q in fit_turn m s next t w.units w.patterns r w.is (first_misfit s w.patterns) refl w.behind (λ k y p a. fit_behind m s k y p a)

whole_clean_of : (s : Side) (t : Term) → Within Any 0 t → (m u : ℕ) (ps : List Pattern) → scan m s false s.pair t ≡ Some (whole u false ps) → all_fit s ps ≡ true → IsClean s 0 t
whole_clean_of s t w zero u ps e f = absurd (cc)
whole_clean_of s t w (suc m) u ps e f =
    scanned_clean (suc m) (suc m) s false s.pair t u ps w (scan_of (suc m) (suc m) (omega arith) s false s.pair t t 0 (inl refl) (omega arith) refl (whole u false ps) e) f

pub pruned_clean : (n : ℕ) (s : Side) (next : ℕ) (t : Term) (r : Pruned) → prune n s next t ≡ Some r → Within Any 0 r.term → IsClean s 0 r.term
pruned_clean n s next t r e w = let z = fit_behind n s next t r e in whole_clean_of s r.term w z.turns z.units z.patterns z.is (none_left s z.patterns z.fit)

-- where each pattern fits there is nothing to be pruned
pub unpruned : (n : ℕ) (s : Side) (next u w : ℕ) (t : Term) (f : Noted) (r : Pruned) → ((m : ℕ) (y : Scanned) → scan m s false s.pair t ≡ Some y → IsScanned s u w f y) → prune n s next t ≡ Some r → f.has_misfit ≡ false →
    r ≡ record { bindings = []; next = next; term = t }
unpruned zero s next u w t f r h q e = absurd (cc)
unpruned (suc m) s next u w t f r h q e =
    let x = turn_of m s next t r q in
    let y = h m (whole x.units false x.patterns) x.is in
    let z : not (all_fit s x.patterns) ≡ false = sym (y.2 refl) ∙ e in
    let o = none_out s x.patterns (unnot (all_fit s x.patterns) z) in
    let i : Some (record { bindings = []; next = next; term = t }) ≡ Some r = sym (ap (turned m s next t) o) ∙ x.behind in
    (let k : record { bindings = []; next = next; term = t } ≡ r = cc in sym k)
  where
    unnot : (b : Bool) → not b ≡ false → b ≡ true
    unnot true p = refl
    unnot false p = absurd (cc)

-- another variable than the side's
abbrev Other : Side → Atom → Type 0
Other s (constant c ts) = Unit {0}
Other s (integer z) = Unit {0}
Other s (text b) = Unit {0}
Other s (eigen k) = Unit {0}
Other s (logic x l) = is_side s x l ≡ false
Other s (param k t) = Unit {0}

stands_other : (s : Side) (a : Atom) → MayStand s a → Other s a
stands_other s (constant c ts) h = tt
stands_other s (integer z) h = tt
stands_other s (text b) h = tt
stands_other s (eigen k) h = tt
stands_other s (logic x l) h = h.0
stands_other s (param k t) h = tt

-- another number than the side's
abbrev Elsewhere : (x : ℕ) → Atom → Type 0
Elsewhere x (constant c ts) = Unit {0}
Elsewhere x (integer z) = Unit {0}
Elsewhere x (text b) = Unit {0}
Elsewhere x (eigen k) = Unit {0}
Elsewhere x (logic y l) = nat_eq y x ≡ false
Elsewhere x (param k t) = Unit {0}

elsewhere : (s : Side) (lv : ℕ → ℕ) (n : ℕ) → s.level ≡ lv s.id → (a : Atom) → Known lv n a → Other s a → Elsewhere s.id a
elsewhere s lv n e (constant c ts) h k = tt
elsewhere s lv n e (integer z) h k = tt
elsewhere s lv n e (text b) h k = tt
elsewhere s lv n e (eigen j) h k = tt
elsewhere s lv n e (logic y m) h k = go (nat_eq y s.id) refl
  where
    at_side : nat_eq y s.id ≡ true → nat_eq m s.level ≡ true
    at_side q = let z : y ≡ s.id = grind (arith, nat_tests) in let w : m ≡ s.level = h.1 ∙ ap lv z ∙ sym e in let v : nat_eq m s.level ≡ true = grind (arith, nat_tests) in v

    both : (a b : Bool) → a ≡ true → b ≡ true → (a && b) ≡ true
    both true true i j = refl
    both true false i j = absurd (cc)
    both false b i j = absurd (cc)

    go : (b : Bool) → nat_eq y s.id ≡ b → b ≡ false
    go true q = let z : true ≡ false = sym (both (nat_eq y s.id) (nat_eq m s.level) q (at_side q)) ∙ k in absurd (cc)
    go false q = refl
elsewhere s lv n e (param j t) h k = tt

elsewhere_none : (x : ℕ) (t v : Term) → Within (Elsewhere x) 0 v → close (at_number x t) v ≡ v
elsewhere_none x t v w = fill_none (Elsewhere x) (at_variables (at_number x t)) each 0 v w
  where
    each : (a : Atom) → Elsewhere x a → at_variables (at_number x t) a ≡ atom a
    each (constant c ts) h = refl
    each (integer z) h = refl
    each (text b) h = refl
    each (eigen k) h = refl
    each (logic y m) h = ap (λ b. if b then t else atom (logic y m)) h
    each (param k u) h = refl

-- the side's variable is bound to the value
module _ (s : Side) (levels : ℕ → ℕ) (next n : ℕ) (c : Closing) (old mid new : Bindings) (d : Nodes) (next' : ℕ) (id : TermId) (x t : Term) (r : Pruned) (known : IsKnownSide levels next s) (pruned : prune n s next x ≡ Some r)
    (settled : settle n s.pair r.term ≡ Some t) (v : IsValued s levels next c old d mid next' id r t) (entries : new.terms.entries ≡ mid.terms.entries ++ (s.id, id) ∷ []) (types : new.types ≡ mid.types) where
  abbrev value : Term
  value = abstracted s.arguments t

  clean : IsClean s 0 r.term
  clean = pruned_clean n s next x r pruned (within_more (Known v.levels' next') Any 0 0 (λ a h. tt) (omega arith) r.term v.known)

  value_known : Within (Known v.levels' next') 0 value
  value_known =
      within_abstracted (Known v.levels' next') (λ k. tt) s.arguments t (settled_within (Known v.levels' next') (λ k. tt) n s.pair r.term t r.term settled (same r.term) v.known)

  value_other : Within (Other s) 0 value
  value_other =
      within_abstracted (Other s) (λ k. tt) s.arguments t
      (settled_within (Other s) (λ k. tt) n s.pair r.term t clean.to settled clean.converts (within_more (MayStand s) (Other s) 0 0 (stands_other s) (omega arith) clean.to clean.within))

  level_there : s.level ≡ v.levels' s.id
  level_there = known.level ∙ sym (v.behind.older s.id known.below)

  own_binding : IsOneBinding v.levels' v.levels' next' next' v.closing d d mid new s.id s.level value id
  own_binding = record {
    grown = extends_same d;
    entries = entries;
    types = types;
    there = v.within;
    is = v.is;
    absent = elsewhere_none s.id value value (within_both (Known v.levels' next') (Other s) (Elsewhere s.id) 0 (elsewhere s v.levels' next' level_there) value value_known value_other);
    below = let a = known.below in let b = v.behind.more in omega (arith, a, b);
    level = level_there;
    older = λ y l. refl;
    more = omega arith;
    within = value_known;
  }

  pub side_bound : IsBoundBehind levels next c old d new next' (bound s r.bindings t)
  side_bound =
      let own : Binding = record { id = s.id; level = s.level; value = value } in
      bound_of levels v.levels' next next' c (with_value s.id value v.closing) d old new (r.bindings ++ own ∷ [])
      (once_read v.levels' v.levels' next' next' v.closing d d mid new s.id s.level value id own_binding v.reading)
      (put_then levels v.levels' v.levels' next next' next' c v.closing (with_value s.id value v.closing) old mid new r.bindings (own ∷ []) v.behind
      (once_put v.levels' v.levels' next' next' v.closing d d mid new s.id s.level value id own_binding))
      (let a = v.behind.terms in let b = once_longer v.levels' v.levels' next' next' v.closing d d mid new s.id s.level value id own_binding in omega (arith, a, b))

-- rule 5 behind the scan
pub bound_done : (n next j u w : ℕ) (s : Side) (t x : Term) (v : Look) (f : Noted) (levels : ℕ → ℕ) (c : Closing) (old mid new : Bindings) (d : Nodes) (next' : ℕ) (id : TermId) → steps weak_step j t ≡ Some x → has_head s v ≡ false →
    ((m : ℕ) (y : Scanned) → scan m s false s.pair x ≡ Some y → IsScanned s u w f y) → f.is_delayed ≡ false → IsKnownSide levels next s → Values s levels next c old d mid next' id n f x →
    new.terms.entries ≡ mid.terms.entries ++ (s.id, id) ∷ [] → new.types ≡ mid.types → (r : Ruled) → solve_for n next s t v ≡ Some r → IsDoneAs true levels next c old d new next' r.verdict
bound_done n next j u w s t x v f levels c old mid new d next' id a h i e k g p q r o = let b = behind n next j s t x v r a h o in go b.scanned (i n b.scanned b.is) b.rest
  where
    go : (y : Scanned) → IsScanned s u w f y → scanned_to n next s t y ≡ Some r → IsDoneAs true levels next c old d new next' r.verdict
    go (broken m) l z = absurd l
    go (whole m true ps) l z = absurd (let y : false ≡ true = sym e ∙ l.1 in cc)
    go (whole m false ps) l z =
        let y = from_bind (pruned_to n m s) (prune n s next t) r z in
        let b = from_map (λ t'. ruled m (binds (bound s y.0.bindings t') y.0.next)) (settle n s.pair y.0.term) r y.2 in
        let l = pruned_later n s next j t x y.0 a y.1 in
        let settled = settle_reached n s.pair j y.0.term l.pruned.term l.term b.0 b.1 in
        let m = g l.pruned l.is (unpruned n s next u w x f l.pruned i l.is) b.0 settled in
        transport (λ a. IsDoneAs true levels next c old d new next' a.verdict) (sym b.2) (
          m.last ∙ l.last,
          transport (λ bs. IsBoundBehind levels next c old d new next' (bound s bs b.0)) l.bindings
              (side_bound s levels next n c old mid new d next' id x b.0 l.pruned k l.is settled m p q),
        )
