-- What pruning has passed stays passed behind a renewal, and the first pattern that does not fit is the first in what is left.
use Rattle.std.proofs.Common.{◌≡◌, ℕ, zero, suc, ◌+◌, ◌-◌, ◌<◌, List, [], ◌∷◌, ◌++◌, map, reverse, length, ◌∙◌, refl, sym, ap, arith, Bool, true, false, Option, Some, None, if◌then◌else◌, nat_eq}
use Rattle.std.specs.Prelude.{option_map, nat_lt, All, ◌&&◌}
use Rattle.std.proofs.lemmas.List.{map-append}
use Rattle.std.proofs.lemmas.List.Elements.{All-head, All-tail}
use Rattle.lp_calculus.specs.Term.{Term, Atom, index, atom, abs, app, apply, substitute, constant, integer, text, eigen, logic, param}
use Rattle.lp_calculus.specs.Convert.{steps, option_term}
use Rattle.lp_calculus.specs.Fill.{Within, fill, raise, close, at_variables}
use Rattle.lp_calculus.proofs.Fills.{fill-substitute, fill-subst, subst_closed}
use Rattle.lp_calculus.proofs.Sigma.{subst}
use Rattle.lp_term.specs.Nodes.{Nodes, Extends, tree}
use Rattle.lp_term.proofs.Openings.{all_reverse}
use Rattle.lp_model.specs.Look.{an_abs, rigid, looked, weak_step}
use Rattle.lp_model.specs.Pair.{Closing, closed}
use Rattle.lp_model.specs.Scan.{Side, Pattern, fits, Scanned, broken, whole, beside, first_misfit}
use Rattle.lp_pattern.specs.declared.scan.Visit.{Visit}
use Rattle.lp_pattern.specs.Behind.{at_number, with_value}
use Rattle.lp_pattern.specs.Cleaning.{MayStand}
use Rattle.lp_pattern.specs.Passing.{outer, outers, Passed, pass_none, pass_steps, pass_abs, pass_rigid, pass_clean, put_part, outer_of, outers_of}
use Rattle.lp_pattern.specs.Scanning.{all_fit}
use Rattle.lp_pattern.specs.Seen.{IsRigid}
use Rattle.lp_pattern.specs.Stripping.{opens}
use Rattle.lp_pattern.specs.TopLooks.{scan_top}
use Rattle.lp_pattern.specs.Visiting.{Part, scan_parts}
use Rattle.lp_pattern.proofs.Cleans.{clean_fits}
use Rattle.lp_pattern.proofs.Compares.{from_map}
use Rattle.lp_pattern.proofs.Naming.{IsLeaf}
use Rattle.lp_pattern.proofs.Opening.{on_leaf}
use Rattle.lp_pattern.proofs.ReadingsBehind.{closed_valued}
use Rattle.lp_pattern.proofs.Refits.{beside_split, rigid_whole, clean_put}
use Rattle.lp_pattern.proofs.Renewing.{fill_apply}
use Rattle.lp_pattern.proofs.Scannings.{scan_behind}
use Rattle.lp_pattern.proofs.VisitSteps.{first, with_first, part_seen, both_lists}
use Rattle.lp_pattern.proofs.Visits.{top_more, parts_more, tops_parts}

-- the scan of the first part and of the others
pub record Split (limit n : ℕ) (s : Side) (p : Part) (qs : List Part) (ys : List Pattern) : Type 0 where
  pub units : ℕ
  pub own : List Pattern
  pub is : scan_top limit n s p.inside p.last p.term ≡ Some (whole units false own)
  pub left : ℕ
  pub others : List Pattern
  pub rest : scan_parts limit n s qs ≡ Some (whole left false others)
  pub all : ys ≡ own ++ others

pub split_first : (limit n : ℕ) (s : Side) (p : Part) (qs : List Part) (v : ℕ) (ys : List Pattern) → scan_parts limit n s (p ∷ qs) ≡ Some (whole v false ys) → Split limit n s p qs ys
split_first limit n s p qs v ys e = let w = first limit n s p qs (whole v false ys) e in go w.own w.is w.rest
  where
    go : (o : Scanned) → scan_top limit n s p.inside p.last p.term ≡ Some o →
        (elim o as (λ z. Option Scanned) [ broken u ↦ Some (broken u) | whole u d os ↦ option_map (beside u d os) (scan_parts limit n s qs) ]) ≡ Some (whole v false ys) → Split limit n s p qs ys
    go (broken u) i r = absurd (cc)
    go (whole u d os) i r =
        let z = from_map (beside u d os) (scan_parts limit n s qs) (whole v false ys) r in
        let y = beside_split u d os z.0 v ys z.2 in
        record {
          units = u;
          own = os;
          is = i ∙ (λ j. Some (whole u (y.first j) os));
          left = y.rest.units;
          others = y.others;
          rest = z.1 ∙ ap (λ x. Some x) y.rest.is;
          all = y.is;
        }

pub record Found (limit n : ℕ) (s : Side) (qs : List Part) (xs : List Pattern) : Type 0 where
  pub units : ℕ
  pub patterns : List Pattern
  pub is : scan_parts limit n s qs ≡ Some (whole units false patterns)
  pub same : first_misfit s xs ≡ first_misfit s patterns

misfit_past : (s : Side) (os xs : List Pattern) → all_fit s os ≡ true → first_misfit s (os ++ xs) ≡ first_misfit s xs
misfit_past s [] xs e = refl
misfit_past s (o ∷ os) xs e = go (fits s o) e (misfit_past s os xs)
  where
    go : (b : Bool) → (b && all_fit s os) ≡ true → (all_fit s os ≡ true → first_misfit s (os ++ xs) ≡ first_misfit s xs) →
        (if b then first_misfit s (os ++ xs) else Some o) ≡ first_misfit s xs
    go true q f = f q
    go false q f = absurd (cc)

rigid_leaf : (h : Term) → IsRigid h → IsLeaf h
rigid_leaf (index i) k = tt
rigid_leaf (atom a) k = tt
rigid_leaf (abs b) k = absurd k
rigid_leaf (app t u) k = absurd k

rigid_looked : (h : Term) (ts : List Term) → IsRigid h → looked h ts ≡ rigid h ts
rigid_looked (index i) ts k = refl
rigid_looked (atom (constant c us)) ts k = refl
rigid_looked (atom (integer z)) ts k = refl
rigid_looked (atom (text b)) ts k = refl
rigid_looked (atom (eigen j)) ts k = refl
rigid_looked (atom (logic x l)) ts k = absurd k
rigid_looked (atom (param j u)) ts k = refl
rigid_looked (abs b) ts k = absurd k
rigid_looked (app t u) ts k = absurd k

two_lists : (limit n : ℕ) (s : Side) (as' qs : List Part) (u v : ℕ) (os xs : List Pattern) → scan_parts limit n s as' ≡ Some (whole u false os) → scan_parts limit n s qs ≡ Some (whole v false xs) →
    scan_parts limit n s (as' ++ qs) ≡ Some (whole (u + v) false (os ++ xs))
two_lists limit n s as' qs u v os xs e f = both_lists limit n s as' qs (whole u false os) e ∙ ap (option_map (beside u false os)) f

module _ (limit n : ℕ) (s : Side) (w : ℕ) (xs : List Pattern) where
  pub passed_scan : {ps qs : List Part} → Passed s ps qs → scan_parts limit n s ps ≡ Some (whole w false xs) → Found limit n s qs xs
  passed_scan pass_none e = record { units = w; patterns = xs; is = e; same = refl }
  passed_scan (pass_steps k j t x qs p f r) e =
      let h = passed_scan p e in
      let z = split_first limit n s (outer k t) qs h.units h.patterns h.is in
      record {
        units = z.units + z.left;
        patterns = z.own ++ z.others;
        is = ap (scan_parts limit n s) r ∙ with_first limit n s (outer k x) qs (whole z.units false z.own) (scan_behind limit n s false k j t x f (whole z.units false z.own) z.is) ∙ ap (option_map (beside z.units false z.own)) z.rest;
        same = h.same ∙ ap (first_misfit s) z.all;
      }
  passed_scan (pass_abs k j t b qs p f r) e =
      let h = passed_scan p e in
      let z = split_first limit n s (outer k t) qs h.units h.patterns h.is in
      let y = part_seen limit n s (outer k t) j (abs b) (an_abs b) (whole z.units false z.own) f (record { ended = refl; look = refl }) z.is in
      let m = top_more limit y.turns n (omega (arith, y.fewer)) s false (suc k) (substitute (atom (eigen (suc k))) b) (whole z.units false z.own) y.is in
      record {
        units = z.units + z.left;
        patterns = z.own ++ z.others;
        is = ap (scan_parts limit n s) r ∙ with_first limit n s (outer (suc k) (substitute (atom (eigen (suc k))) b)) qs (whole z.units false z.own) m ∙ ap (option_map (beside z.units false z.own)) z.rest;
        same = h.same ∙ ap (first_misfit s) z.all;
      }
  passed_scan (pass_rigid k j t g ts qs p f i r) e =
      let h = passed_scan p e in
      let z = split_first limit n s (outer k t) qs h.units h.patterns h.is in
      let y = part_seen limit n s (outer k t) j (apply g ts) (rigid g ts) (whole z.units false z.own) f (on_leaf (apply g ts) g ts (rigid g ts) refl (rigid_leaf g i) (rigid_looked g ts i)) z.is in
      let x = rigid_whole limit 0 s y.turns false k z.units g ts z.own y.is in
      let a = parts_more limit y.turns n (omega (arith, y.fewer)) s (outers k ts) (whole x.1.0 false z.own) (tops_parts limit y.turns s false k ts (whole x.1.0 false z.own) x.1.1) in
      record {
        units = x.1.0 + z.left;
        patterns = z.own ++ z.others;
        is = ap (scan_parts limit n s) r ∙ two_lists limit n s (outers k ts) qs x.1.0 z.left z.own z.others a z.rest;
        same = h.same ∙ ap (first_misfit s) z.all;
      }
  passed_scan (pass_clean k t p l c) e =
      let h = passed_scan p e in
      let z = split_first limit n s (outer k t) _ h.units h.patterns h.is in
      record { units = z.left; patterns = z.others; is = z.rest; same = h.same ∙ ap (first_misfit s) z.all ∙ misfit_past s z.own z.others (clean_fits limit s n false k t l c (whole z.units false z.own) z.is).1 }

-- a term put for a variable
weak_fill : (f : Atom → Term) (t s : Term) → weak_step t ≡ Some s → weak_step (fill f t) ≡ Some (fill f s)
weak_fill f (index i) s e = absurd (cc)
weak_fill f (atom a) s e = absurd (cc)
weak_fill f (abs b) s e = absurd (cc)
weak_fill f (app (abs b) u) s e = let q : substitute u b ≡ s = cc in ap (λ x. Some x) (sym (fill-substitute f u b) ∙ ap (fill f) q)
weak_fill f (app (index i) u) s e = absurd (cc)
weak_fill f (app (atom a) u) s e = absurd (cc)
weak_fill f (app (app t v) u) s e =
    elim (weak_step (app t v)) as (λ o. weak_step (app t v) ≡ o → option_term (λ y. app y u) o ≡ Some s → weak_step (app (app (fill f t) (fill f v)) (fill f u)) ≡ Some (fill f s)) [
      | None ↦ λ p q. absurd (cc)
      | Some r ↦ λ p q. let z : app r u ≡ s = cc in ap (option_term (λ y. app y (fill f u))) (weak_fill f (app t v) r p) ∙ ap (λ x. Some (fill f x)) z
    ] refl e

pub steps_fill : (f : Atom → Term) (j : ℕ) (t s : Term) → steps weak_step j t ≡ Some s → steps weak_step j (fill f t) ≡ Some (fill f s)
steps_fill f zero t s e = let q : t ≡ s = cc in ap (λ x. Some (fill f x)) q
steps_fill f (suc j) t s e = elim (weak_step t) as (λ o. weak_step t ≡ o → (elim o [ None ↦ None | Some r ↦ steps weak_step j r ]) ≡ Some s → steps weak_step (suc j) (fill f t) ≡ Some (fill f s)) [
  | None ↦ λ p q. absurd (cc)
  | Some r ↦ λ p q. ap (λ (o : Option Term). elim o as (λ z. Option Term) [ None ↦ None | Some x ↦ steps weak_step j x ]) (weak_fill f t r p) ∙ steps_fill f j r s q
] refl e

rigid_put : (y : ℕ) (v h : Term) → IsRigid h → close (at_number y v) h ≡ h
rigid_put y v (index i) k = refl
rigid_put y v (atom (constant c us)) k = refl
rigid_put y v (atom (integer z)) k = refl
rigid_put y v (atom (text b)) k = refl
rigid_put y v (atom (eigen j)) k = refl
rigid_put y v (atom (logic x l)) k = absurd k
rigid_put y v (atom (param j u)) k = refl
rigid_put y v (abs b) k = absurd k
rigid_put y v (app t u) k = absurd k

outers_put : (y : ℕ) (v : Term) (k : ℕ) (ts : List Term) → map (put_part y v) (outers k ts) ≡ outers k (map (close (at_number y v)) ts)
outers_put y v k [] = refl
outers_put y v k (t ∷ ts) = ap (λ l. outer k (close (at_number y v) t) ∷ l) (outers_put y v k ts)

module _ (s : Side) (y : ℕ) (v : Term) (stands : Within (MayStand s) 0 v) where
  pub passed_put : {ps qs : List Part} → Passed s ps qs → Passed s (map (put_part y v) ps) (map (put_part y v) qs)
  passed_put pass_none = pass_none
  passed_put (pass_steps k j t x qs p f r) =
      pass_steps k j (close (at_number y v) t) (close (at_number y v) x) (map (put_part y v) qs) (passed_put p) (steps_fill (at_variables (at_number y v)) j t x f) (ap (map (put_part y v)) r)
  passed_put (pass_abs k j t b qs p f r) =
      pass_abs k j (close (at_number y v) t) (fill (raise (at_variables (at_number y v))) b) (map (put_part y v) qs) (passed_put p) (steps_fill (at_variables (at_number y v)) j t (abs b) f)
      (ap (map (put_part y v)) r ∙ ap (λ x. outer (suc k) x ∷ map (put_part y v) qs) (fill-substitute (at_variables (at_number y v)) (atom (eigen (suc k))) b))
  passed_put (pass_rigid k j t h ts qs p f i r) =
      pass_rigid k j (close (at_number y v) t) h (map (close (at_number y v)) ts) (map (put_part y v) qs) (passed_put p)
      (steps_fill (at_variables (at_number y v)) j t (apply h ts) f ∙
      ap (λ x. Some x) (fill_apply (at_variables (at_number y v)) ts h ∙ ap (λ x. apply x (map (close (at_number y v)) ts)) (rigid_put y v h i)))
      i (ap (map (put_part y v)) r ∙ map-append (put_part y v) (outers k ts) qs ∙ ap (λ l. l ++ map (put_part y v) qs) (outers_put y v k ts))
  passed_put (pass_clean k t p l c) = pass_clean k (close (at_number y v) t) (passed_put p) l (clean_put s y v t stands c)

-- the parts under the bindings behind
put_atom : (l k y : ℕ) (v : Term) (P : Atom → Type 0) → Within P 0 v → (a : Atom) → at_variables (at_number y v) a ≡ subst (opens l k) (at_variables (at_number y v) a)
put_atom l k y v P w (constant c us) = refl
put_atom l k y v P w (integer z) = refl
put_atom l k y v P w (text b) = refl
put_atom l k y v P w (eigen j) = refl
put_atom l k y v P w (logic x m) = go (nat_eq x y)
  where
    go : (b : Bool) → (if b then v else atom (logic x m)) ≡ subst (opens l k) (if b then v else atom (logic x m))
    go true = sym (subst_closed P (opens l k) 0 (λ i q. absurd (omega (arith, q))) v w)
    go false = refl
put_atom l k y v P w (param j u) = refl

put_name : (l k y : ℕ) (v : Term) (i : ℕ) → fill (at_variables (at_number y v)) (opens l k i) ≡ opens l k i
put_name l k y v i = go (nat_lt i k)
  where
    go : (b : Bool) → fill (at_variables (at_number y v)) (if b then atom (eigen (l + (k - i))) else index (i - k)) ≡ (if b then atom (eigen (l + (k - i))) else index (i - k))
    go true = refl
    go false = refl

part_put : (b d : Nodes) (c : Closing) (y : ℕ) (v : Term) (P : Atom → Type 0) (a : Visit) → Extends b d → Within P 0 v → a.term.0 < length b.terms → outer_of d (with_value y v c) a ≡ put_part y v (outer_of b c a)
part_put b d c y v P a e w l =
    ap (outer (a.opened.level + a.opened.depth))
    (ap (subst (opens a.opened.level a.opened.depth)) (closed_valued y v c (tree d a.term.0) ∙ ap (λ t. close (at_number y v) (closed c t)) (e.same_terms a.term.0 l)) ∙
    sym (fill-subst (at_variables (at_number y v)) (at_variables (at_number y v)) (opens a.opened.level a.opened.depth) (opens a.opened.level a.opened.depth) (put_atom a.opened.level a.opened.depth y v P w)
    (put_name a.opened.level a.opened.depth y v) (closed c (tree b a.term.0))))

parts_put : (b d : Nodes) (c : Closing) (y : ℕ) (v : Term) (P : Atom → Type 0) (vs : List Visit) → Extends b d → Within P 0 v → All (λ a. a.term.0 < length b.terms) vs →
    map (outer_of d (with_value y v c)) vs ≡ map (put_part y v) (map (outer_of b c) vs)
parts_put b d c y v P [] e w a = refl
parts_put b d c y v P (x ∷ vs) e w a =
    λ i. part_put b d c y v P x e w (All-head (λ a. a.term.0 < length b.terms) x vs a) i ∷ parts_put b d c y v P vs e w (All-tail (λ a. a.term.0 < length b.terms) x vs a) i

pub left_put : (b d : Nodes) (c : Closing) (y : ℕ) (v : Term) (P : Atom → Type 0) (vs : List Visit) → Extends b d → Within P 0 v → All (λ a. a.term.0 < length b.terms) vs →
    outers_of d (with_value y v c) vs ≡ map (put_part y v) (outers_of b c vs)
left_put b d c y v P vs e w a = parts_put b d c y v P (reverse vs) e w (all_reverse (λ a. a.term.0 < length b.terms) vs a)
