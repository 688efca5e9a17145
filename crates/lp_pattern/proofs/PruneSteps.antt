-- Steps of pruning by parts against the definition, which scans again after each binding.
use Rattle.std.proofs.Common.{◌≡◌, ℕ, zero, suc, ◌+◌, ◌<◌, List, [], ◌∷◌, ◌++◌, ◌∙◌, refl, sym, ap, subst as transport, arith, Bool, true, false, Option, Some, None, if◌then◌else◌, nat_eq, ◌||◌, inl}
use Rattle.std.specs.Prelude.{option_map, nat_lt, nat_le, min}
use Rattle.std.proofs.lemmas.Bool.Decides.{nat_tests}
use Rattle.std.proofs.lemmas.List.{append-nil}
use Rattle.lp_calculus.specs.Term.{Term, Atom, index, atom, abs, app, apply, constant, integer, text, eigen, logic, param}
use Rattle.lp_calculus.specs.Convert.{steps}
use Rattle.lp_calculus.specs.Fill.{Within, fill, close, at_variables, indexed, abstracted, put}
use Rattle.lp_calculus.specs.Instance.{instance_atom}
use Rattle.lp_calculus.proofs.Commutations.{instance_fill}
use Rattle.lp_calculus.proofs.Fills.{fill-fill, fill_none, within_fill, within_more, within_subst}
use Rattle.lp_calculus.proofs.Plain.{substitute-subst}
use Rattle.lp_calculus.proofs.Sigma.{instead}
use Rattle.lp_calculus.proofs.Steps.{within_reduces}
use Rattle.lp_calculus.specs.Convert.{ReducesTo, done, then_step}
use Rattle.lp_term.specs.Nodes.{Nodes}
use Rattle.lp_term.specs.declared.node.TermId.{TermId}
use Rattle.lp_model.specs.Look.{flexible, pattern_of, weak_step}
use Rattle.lp_model.specs.Pair.{Closing, closed}
use Rattle.lp_model.specs.Patterns.{eigens, chosen}
use Rattle.lp_model.specs.Scan.{Side, Pattern, pattern, pattern_term, fits, allows, is_side, Scanned, broken, whole, above, scanned_pattern, scan, first_misfit, renewal, Pruned, led_by, prune}
use Rattle.lp_pattern.specs.declared.bindings.Bindings.{Bindings}
use Rattle.lp_pattern.specs.declared.scan.Visit.{Visit}
use Rattle.lp_pattern.specs.Behind.{at_number, HasLevel}
use Rattle.lp_pattern.specs.Passing.{outer, outers, Passed, pass_none, pass_steps, pass_abs, pass_rigid, pass_clean, outers_of}
use Rattle.lp_pattern.specs.Pruning.{Start, IsPruning, IsPruned}
use Rattle.lp_pattern.specs.Putting.{Known, IsPutBehind}
use Rattle.lp_pattern.specs.TopLooks.{scan_top, scan_tops}
use Rattle.lp_pattern.specs.Under.{under}
use Rattle.lp_pattern.specs.Visiting.{Part, scan_parts}
use Rattle.lp_pattern.proofs.BetaForms.{weak_leftmost}
use Rattle.lp_pattern.proofs.Compares.{from_bind, from_map}
use Rattle.lp_unify_laws.proofs.Looks.{leftmost_steps}
use Rattle.lp_pattern.proofs.Opening.{SeenAt}
use Rattle.lp_pattern.proofs.Passings.{split_first, Found, passed_scan}
use Rattle.lp_pattern.proofs.TopScans.{scan_of}
use Rattle.lp_pattern.proofs.VisitSteps.{with_first, part_seen}

-- what stands in the parts stands in the term
pub weak_reduces : (j : ℕ) (t s : Term) → steps weak_step j t ≡ Some s → ReducesTo t s
weak_reduces zero t s e = let q : t ≡ s = cc in transport (ReducesTo t) q (done t)
weak_reduces (suc j) t s e = elim (weak_step t) as (λ o. weak_step t ≡ o → (elim o [ None ↦ None | Some r ↦ steps weak_step j r ]) ≡ Some s → ReducesTo t s) [
  | None ↦ λ p q. absurd (cc)
  | Some r ↦ λ p q. then_step (leftmost_steps t r (weak_leftmost t r p)) (weak_reduces j r s q)
] refl e

abbrev pub EachWithin : (Atom → Type 0) → List Part → Type 0
EachWithin P [] = Unit {0}
EachWithin P (p ∷ ps) = Within P 0 p.term × EachWithin P ps

pub within_apply : (P : Atom → Type 0) (ts : List Term) (h : Term) → Within P 0 (apply h ts) → (k : ℕ) → (qs : List Part) → EachWithin P qs → Within P 0 h × EachWithin P (outers k ts ++ qs)
within_apply P [] h w k qs e = (w, e)
within_apply P (t ∷ ts) h w k qs e = let z = within_apply P ts (app h t) w k qs e in (z.0.0, (z.0.1, z.1))

instead_within : (P : Atom → Type 0) (k : ℕ) → P (eigen k) → (i : ℕ) → i < 1 → Within P 0 (instead (atom (eigen k)) i)
instead_within P k h zero l = h
instead_within P k h (suc i) l = absurd (omega (arith, l))

module _ (P : Atom → Type 0) (local : (k : ℕ) → P (eigen k)) (s : Side) where
  pub passed_within : {ps qs : List Part} → Passed s ps qs → EachWithin P ps → EachWithin P qs
  passed_within pass_none e = e
  passed_within (pass_steps k j t x qs p f r) e =
      let z = passed_within p e in transport (EachWithin P) (sym r) (within_reduces P 0 (weak_reduces j t x f) z.0, z.1)
  passed_within (pass_abs k j t b qs p f r) e =
      let z = passed_within p e in
      transport (EachWithin P) (sym r)
      (transport (Within P 0) (sym (substitute-subst (atom (eigen (suc k))) b)) (within_subst P (instead (atom (eigen (suc k)))) 1 0 (instead_within P (suc k) (local (suc k))) b (within_reduces P 0 (weak_reduces j t (abs b) f) z.0)), z.1)
  passed_within (pass_rigid k j t h ts qs p f i r) e =
      let z = passed_within p e in
      transport (EachWithin P) (sym r) (within_apply P ts h (within_reduces P 0 (weak_reduces j t (apply h ts) f) z.0) k qs z.1).1
  passed_within (pass_clean k t p l c) e = (passed_within p e).1

-- the value of a renewal: the new variable alone
abbrev pub Fresh : (n l : ℕ) → Atom → Type 0
Fresh n l (constant c ts) = ⊥
Fresh n l (integer z) = ⊥
Fresh n l (text b) = ⊥
Fresh n l (eigen k) = Unit {0}
Fresh n l (logic x m) = (x ≡ n) × (m ≡ l)
Fresh n l (param k t) = ⊥

fresh_abstraction : (n l c : ℕ) (a : Atom) → Fresh n l a → Within (Fresh n l) 1 (indexed c a)
fresh_abstraction n l c (constant j us) w = absurd w
fresh_abstraction n l c (integer z) w = absurd w
fresh_abstraction n l c (text b) w = absurd w
fresh_abstraction n l c (eigen k) w = go (nat_eq k c)
  where
    go : (b : Bool) → Within (Fresh n l) 1 (if b then index 0 else atom (eigen k))
    go true = omega arith
    go false = tt
fresh_abstraction n l c (logic x m) w = w
fresh_abstraction n l c (param k u) w = absurd w

pub fresh_abstracted : (n l : ℕ) (cs : List ℕ) (t : Term) → Within (Fresh n l) 0 t → Within (Fresh n l) 0 (abstracted cs t)
fresh_abstracted n l [] t w = w
fresh_abstracted n l (c ∷ cs) t w =
    within_fill (Fresh n l) (Fresh n l) (indexed c) 1 (fresh_abstraction n l c) (abstracted cs t) (within_more (Fresh n l) (Fresh n l) 0 1 (λ a p. p) (omega arith) (abstracted cs t) (fresh_abstracted n l cs t w))

pub fresh_pattern : (n l : ℕ) (cs : List ℕ) (h : Term) → Within (Fresh n l) 0 h → Within (Fresh n l) 0 (apply h (eigens cs))
fresh_pattern n l [] h w = w
fresh_pattern n l (c ∷ cs) h w = fresh_pattern n l cs (app h (atom (eigen c))) (w, tt)

pub fresh_renewal : (s : Side) (n : ℕ) (p : Pattern) → Within (Fresh n (min s.level p.level)) 0 (renewal s n p).value
fresh_renewal s n p =
    fresh_abstracted n (min s.level p.level) p.arguments (pattern_term (pattern n (min s.level p.level) (chosen (λ k. nat_le k p.level) s.arguments ++ chosen (allows s) p.arguments)))
    (fresh_pattern n (min s.level p.level) (chosen (λ k. nat_le k p.level) s.arguments ++ chosen (allows s) p.arguments) (atom (logic n (min s.level p.level))) (refl, refl))

pub fresh_closed : (c : Closing) (n l : ℕ) → ((m : ℕ) → c.terms n m ≡ atom (logic n m)) → (v : Term) → Within (Fresh n l) 0 v → closed c v ≡ v
fresh_closed c n l u v w =
    ap (fill (at_variables c.terms)) (instance_fill c.types v) ∙
    fill-fill (at_variables c.terms) (λ a. atom (instance_atom c.types a)) (λ a. at_variables c.terms (instance_atom c.types a)) (λ a. refl) v ∙
    fill_none (Fresh n l) (λ a. at_variables c.terms (instance_atom c.types a)) each 0 v w
  where
    each : (a : Atom) → Fresh n l a → at_variables c.terms (instance_atom c.types a) ≡ atom a
    each (constant j us) h = absurd h
    each (integer z) h = absurd h
    each (text b) h = absurd h
    each (eigen k) h = refl
    each (logic x m) h = ap (λ y. c.terms y m) h.0 ∙ u m ∙ ap (λ y. atom (logic y m)) (sym h.0)
    each (param k t) h = absurd h

pub fresh_absent : (x n l : ℕ) → x < n → (t v : Term) → Within (Fresh n l) 0 v → close (at_number x t) v ≡ v
fresh_absent x n l r t v w = fill_none (Fresh n l) (at_variables (at_number x t)) each 0 v w
  where
    each : (a : Atom) → Fresh n l a → at_variables (at_number x t) a ≡ atom a
    each (constant j us) h = absurd h
    each (integer z) h = absurd h
    each (text b) h = absurd h
    each (eigen k) h = refl
    each (logic y m) h = let z = h.0 in let q : nat_eq y x ≡ false = grind (arith, nat_tests) in ap (λ b. if b then t else atom (logic y m)) q
    each (param k u) h = absurd h

-- the levels behind a renewal
abbrev pub levels_with : (ℕ → ℕ) → (next level : ℕ) → ℕ → ℕ
levels_with lv n l x = if nat_eq x n then l else lv x

pub fresh_known : (lv : ℕ → ℕ) (n l : ℕ) (a : Atom) → Fresh n l a → Known (levels_with lv n l) (suc n) a
fresh_known lv n l (constant j us) h = tt
fresh_known lv n l (integer z) h = tt
fresh_known lv n l (text b) h = tt
fresh_known lv n l (eigen k) h = tt
fresh_known lv n l (logic x m) h = let z = h.0 in let q : nat_eq x n ≡ true = grind (arith, nat_tests) in (omega (arith, z), h.1 ∙ ap (λ b. if b then l else lv x) (sym q))
fresh_known lv n l (param k t) h = tt

pub old_known : (lv : ℕ → ℕ) (n l y : ℕ) (v : Term) → Within (Known (levels_with lv n l) (suc n)) 0 v → (a : Atom) → Known lv n a → Within (Known (levels_with lv n l) (suc n)) 0 (at_variables (at_number y v) a)
old_known lv n l y v w (constant j us) h = tt
old_known lv n l y v w (integer z) h = tt
old_known lv n l y v w (text b) h = tt
old_known lv n l y v w (eigen k) h = tt
old_known lv n l y v w (logic x m) h = go (nat_eq x y)
  where
    go : (b : Bool) → Within (Known (levels_with lv n l) (suc n)) 0 (if b then v else atom (logic x m))
    go true = w
    go false = let z = h.0 in let q : nat_eq x n ≡ false = grind (arith, nat_tests) in (omega (arith, z), h.1 ∙ ap (λ b. if b then l else lv x) (sym q))
old_known lv n l y v w (param k t) h = tt

pub level_known : (lv : ℕ → ℕ) (n x l : ℕ) → l ≡ lv x → (a : Atom) → Known lv n a → HasLevel x l a
level_known lv n x l e (constant j us) h = tt
level_known lv n x l e (integer z) h = tt
level_known lv n x l e (text b) h = tt
level_known lv n x l e (eigen k) h = tt
level_known lv n x l e (logic y m) h = λ q. let z : y ≡ x = grind (arith, nat_tests) in let w : m ≡ l = h.1 ∙ ap lv z ∙ sym e in let v : nat_eq m l ≡ true = grind (arith, nat_tests) in v
level_known lv n x l e (param k t) h = tt

-- the first turn of the definition
pub record Turn (m : ℕ) (s : Side) (next : ℕ) (T : Term) (r : Pruned) : Type 0 where
  pub units : ℕ
  pub patterns : List Pattern
  pub is : scan m s false s.pair T ≡ Some (whole units false patterns)
  pub behind : (elim (first_misfit s patterns) as (λ z. Option Pruned) [
    | None ↦ Some (record { bindings = []; next = next; term = T })
    | Some p ↦ option_map (led_by (renewal s next p)) (prune m s (suc next) (put (renewal s next p) T))
  ]) ≡ Some r

pub turn_of : (m : ℕ) (s : Side) (next : ℕ) (T : Term) (r : Pruned) → prune (suc m) s next T ≡ Some r → Turn m s next T r
turn_of m s next T r e = let w = from_bind _ (scan m s false s.pair T) r e in go w.0 w.1 w.2
  where
    go : (o : Scanned) → scan m s false s.pair T ≡ Some o → (elim o as (λ z. Option Pruned) [
      | broken u ↦ None
      | whole u true ps ↦ None
      | whole u false ps ↦ elim (first_misfit s ps) as (λ z. Option Pruned) [
        | None ↦ Some (record { bindings = []; next = next; term = T })
        | Some p ↦ option_map (led_by (renewal s next p)) (prune m s (suc next) (put (renewal s next p) T))
      ]
    ]) ≡ Some r → Turn m s next T r
    go (broken u) i q = absurd (cc)
    go (whole u true ps) i q = absurd (cc)
    go (whole u false ps) i q = record { units = u; patterns = ps; is = i; behind = q }

-- what the scan finds in what is left
pub found_left : (m : ℕ) (s : Side) (T : Term) (u : ℕ) (ps : List Pattern) (qs : List Part) → scan m s false s.pair T ≡ Some (whole u false ps) → Passed s (outer s.pair T ∷ []) qs → Found m m s qs ps
found_left zero s T u ps qs e p = absurd (cc)
found_left (suc m) s T u ps qs e p =
    let t = scan_of (suc m) (suc m) (omega arith) s false s.pair T T 0 (inl refl) (omega arith) refl (whole u false ps) e in
    let w : scan_parts (suc m) (suc m) s (outer s.pair T ∷ []) ≡ Some (whole (u + 0) false (ps ++ [])) = with_first (suc m) (suc m) s (outer s.pair T) [] (whole u false ps) t in
    let f = passed_scan (suc m) (suc m) s (u + 0) (ps ++ []) p w in
    record { units = f.units; patterns = f.patterns; is = f.is; same = ap (first_misfit s) (sym (append-nil ps)) ∙ f.same }

-- nothing is left
pub pruned_there : (s : Side) (o : Start) (most : ℕ) (b : Nodes) (bs : Bindings) (next : ℕ) (term : TermId) (left : List Visit) (r : Pruned) → left ≡ [] → IsPruning s o most b bs next term left r → IsPruned o b bs next term r
pruned_there s o most b bs next term left r e h = go h.turns h.rest
  where
    go : (n : ℕ) → prune n s next (under b h.closing term) ≡ Some h.now → IsPruned o b bs next term r
    go zero q = absurd (cc)
    go (suc m) q =
        let t = turn_of m s next (under b h.closing term) h.now q in
        let f = found_left m s (under b h.closing term) t.units t.patterns [] t.is (transport (λ l. Passed s (outer s.pair (under b h.closing term) ∷ []) (outers_of b h.closing l)) e h.passed) in
        let z : whole 0 false [] ≡ whole f.units false f.patterns = cc in
        let y : [] ≡ f.patterns = cc in
        let x : first_misfit s t.patterns ≡ None = f.same ∙ ap (first_misfit s) (sym y) in
        let v : Some (record { bindings = []; next = next; term = under b h.closing term }) ≡ Some h.now = sym (ap (λ (o : Option Pattern). elim o as (λ z. Option Pruned) [
          | None ↦ Some (record { bindings = []; next = next; term = under b h.closing term })
          | Some p ↦ option_map (led_by (renewal s next p)) (prune m s (suc next) (put (renewal s next p) (under b h.closing term)))
        ]) x) ∙ t.behind in
        let k : record { bindings = []; next = next; term = under b h.closing term } ≡ h.now = cc in
        let i : under b h.closing term ≡ r.term = ap (λ p. p.term) k ∙ h.same in
        let n : next ≡ r.next = ap (λ p. p.next) k ∙ h.last in
        let all : h.made ≡ r.bindings = sym (h.all ∙ ap (λ p. h.made ++ p.bindings) (sym k) ∙ append-nil h.made) in
        record {
          closing = h.closing;
          levels = h.levels;
          reading = record { reading = h.reading; shut = h.shut; still = h.still; unbound = h.unbound };
          is = i;
          last = n;
          whole = h.whole;
          known = transport (Within (Known h.levels next) 0) i h.known;
          behind = transport (IsPutBehind o.levels h.levels o.next next o.closing h.closing o.bindings bs) all h.behind;
        }

-- a pattern in front of what is left
pub own_pattern : (m n : ℕ) (s : Side) (k j x l u : ℕ) (t t' : Term) (ts : List Term) (ks : List ℕ) (own : List Pattern) → steps weak_step j t ≡ Some t' → SeenAt t' (flexible x l ts) → ((o : Option (List ℕ)) → pattern_of m l ts ≡ Some o → o ≡ Some ks) →
    scan_top m n s false k t ≡ Some (whole u false own) → own ≡ pattern x l ks ∷ []
own_pattern m n s k j x l u t t' ts ks own e h o q =
    let y = part_seen m n s (outer k t) j t' (flexible x l ts) (whole u false own) e h q in
    let w = from_bind _ (pattern_of m l ts) (whole u false own) y.is in
    go w.0 (o w.0 w.1) w.2
  where
    alone : (c : Bool) → (if c then broken 1 else whole 1 false (pattern x l ks ∷ [])) ≡ whole u false own → own ≡ pattern x l ks ∷ []
    alone true z = absurd (cc)
    alone false z = (let i : pattern x l ks ∷ [] ≡ own = cc in sym i)

    go : (p : Option (List ℕ)) → p ≡ Some ks → (elim p as (λ z. Option Scanned) [
      | Some b ↦ Some (scanned_pattern s false x l b)
      | None ↦ option_map (above (is_side s x l || nat_lt s.level l)) (scan_tops m (part_seen m n s (outer k t) j t' (flexible x l ts) (whole u false own) e h q).turns s true k ts)
    ]) ≡ Some (whole u false own) → own ≡ pattern x l ks ∷ []
    go None i z = absurd (cc)
    go (Some b) i z =
        let g : b ≡ ks = cc in
        let f : scanned_pattern s false x l b ≡ whole u false own = cc in
        alone (is_side s x l) (ap (scanned_pattern s false x l) (sym g) ∙ f)

pub first_out : (s : Side) (p : Pattern) (ps : List Pattern) → fits s p ≡ false → first_misfit s (p ∷ ps) ≡ Some p
first_out s p ps e = ap (λ b. if b then first_misfit s ps else Some p) e

-- the binding that the definition makes
pub record Renewed (m : ℕ) (s : Side) (next : ℕ) (T : Term) (p : Pattern) (r : Pruned) : Type 0 where
  pub behind : Pruned
  pub is : prune m s (suc next) (put (renewal s next p) T) ≡ Some behind
  pub led : r ≡ led_by (renewal s next p) behind

pub renewed_there : (m : ℕ) (s : Side) (next k j x l : ℕ) (T t t' : Term) (ts : List Term) (ks : List ℕ) (qs : List Part) (r : Pruned) → prune (suc m) s next T ≡ Some r → Passed s (outer s.pair T ∷ []) (outer k t ∷ qs) →
    steps weak_step j t ≡ Some t' → SeenAt t' (flexible x l ts) → ((o : Option (List ℕ)) → pattern_of m l ts ≡ Some o → o ≡ Some ks) → fits s (pattern x l ks) ≡ false → Renewed m s next T (pattern x l ks) r
renewed_there m s next k j x l T t t' ts ks qs r e p i h o f =
    let w = turn_of m s next T r e in
    let y = found_left m s T w.units w.patterns (outer k t ∷ qs) w.is p in
    let z = split_first m m s (outer k t) qs y.units y.patterns y.is in
    let own = own_pattern m m s k j x l z.units t t' ts ks z.own i h o z.is in
    let q : first_misfit s w.patterns ≡ Some (pattern x l ks) = y.same ∙ ap (first_misfit s) (z.all ∙ ap (λ a. a ++ z.others) own) ∙ first_out s (pattern x l ks) z.others f in
    let g = from_map (led_by (renewal s next (pattern x l ks))) (prune m s (suc next) (put (renewal s next (pattern x l ks)) T)) r
    (sym (ap (λ (o : Option Pattern). elim o as (λ z. Option Pruned) [
      | None ↦ Some (record { bindings = []; next = next; term = T })
      | Some p ↦ option_map (led_by (renewal s next p)) (prune m s (suc next) (put (renewal s next p) T))
    ]) q) ∙ w.behind) in
    record { behind = g.0; is = g.1; led = g.2 }

-- the variable of the pattern at hand
pub pattern_known : (lv : ℕ → ℕ) (next k j x l : ℕ) (s : Side) (T t t' : Term) (ts : List Term) (qs : List Part) → Passed s (outer s.pair T ∷ []) (outer k t ∷ qs) → Within (Known lv next) 0 T → steps weak_step j t ≡ Some t' → t' ≡ apply (atom (logic x l)) ts →
    (x < next) × (l ≡ lv x)
pattern_known lv next k j x l s T t t' ts qs p w e i =
    let z = passed_within (Known lv next) (λ c. tt) s p (w, tt) in
    (within_apply (Known lv next) ts (atom (logic x l)) (transport (Within (Known lv next) 0) i (within_reduces (Known lv next) 0 (weak_reduces j t t' e) z.0)) 0 [] tt).0
