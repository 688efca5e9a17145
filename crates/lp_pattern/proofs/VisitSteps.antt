-- What each kind of part comes to in a scan, and how runs of steps are put together.
use Rattle.std.proofs.Common.{◌≡◌, ℕ, zero, suc, ◌+◌, ◌≤◌, List, [], ◌∷◌, ◌++◌, ◌∙◌, refl, sym, ap, subst as transport, arith, Bool, true, false, Option, Some, None, ◌||◌, if◌then◌else◌}
use Rattle.std.specs.Prelude.{option_map, option_and_then, not, nat_lt, ◌&&◌}
use Rattle.lp_calculus.specs.Term.{Term, atom, eigen, substitute}
use Rattle.lp_calculus.specs.Convert.{steps}
use Rattle.lp_term.specs.declared.reduce.TermRefusal.{TermRefusal}
use Rattle.lp_term.proofs.Frames.{some_of}
use Rattle.lp_model.specs.Look.{Look, an_abs, rigid, flexible, looked, pattern_of, weak_step, top_normal}
use Rattle.lp_model.specs.Scan.{Side, is_side, allows_head, Pattern, Scanned, broken, whole, above, beside, fits, pattern, scanned_pattern}
use Rattle.lp_lemmas.proofs.Booleans.{or_false_left}
use Rattle.lp_pattern.specs.declared.fault.PatternRefusal.{PatternRefusal}
use Rattle.lp_pattern.specs.declared.fault.PatternRefusal.TheVariants.{Deep, Memory}
use Rattle.lp_pattern.specs.declared.fault.PatternRefusal.TheVariants as refusal
use Rattle.lp_pattern.specs.declared.patterns.Arguments.{Arguments}
use Rattle.lp_pattern.specs.declared.scan.Scanned.{Scanned as Noted}
use Rattle.lp_pattern.specs.Refusing.{IsOfTerm}
use Rattle.lp_pattern.specs.Seen.{IsDeepWhere}
use Rattle.lp_pattern.specs.Scanning.{all_fit, Adds, IsBroken}
use Rattle.lp_pattern.specs.Stripping.{IsPattern, HasNoPattern, eigens_of}
use Rattle.lp_pattern.specs.TopLooks.{top_look, scan_top, scan_seen, scan_tops}
use Rattle.lp_pattern.specs.Visiting.{Part, scan_parts, Merged, IsRestOf, IsScanned, Fails, Exceeds, IsStopped}
use Rattle.lp_pattern.proofs.Compares.{from_bind, from_map}
use Rattle.lp_pattern.proofs.TopScans.{top_is}
use Rattle.lp_pattern.proofs.Opening.{SeenAt, top_of}
use Rattle.lp_pattern.proofs.Visits.{top_more, parts_more, args_of, tops_parts}

abbrev behind : ℕ → ℕ → Side → List Part → Scanned → Option Scanned
behind limit n s ps r = elim r [ broken u ↦ Some (broken u) | whole u d qs ↦ option_map (beside u d qs) (scan_parts limit n s ps) ]

-- the scan of the first part, and what is behind it
pub record First (limit n : ℕ) (s : Side) (p : Part) (ps : List Part) (r : Scanned) : Type 0 where
  pub own : Scanned
  pub is : scan_top limit n s p.inside p.last p.term ≡ Some own
  pub rest : behind limit n s ps own ≡ Some r

pub first : (limit n : ℕ) (s : Side) (p : Part) (ps : List Part) (r : Scanned) → scan_parts limit n s (p ∷ ps) ≡ Some r → First limit n s p ps r
first limit n s p ps r e = let w = from_bind (behind limit n s ps) (scan_top limit n s p.inside p.last p.term) r e in record { own = w.0; is = w.1; rest = w.2 }

pub with_first : (limit n : ℕ) (s : Side) (p : Part) (ps : List Part) (x : Scanned) → scan_top limit n s p.inside p.last p.term ≡ Some x → scan_parts limit n s (p ∷ ps) ≡ behind limit n s ps x
with_first limit n s p ps x e = ap (option_and_then (behind limit n s ps)) e

-- what was seen of a part
pub record SeenPart (limit n : ℕ) (s : Side) (p : Part) (v : Look) (r : Scanned) : Type 0 where
  pub turns : ℕ
  pub fewer : n ≡ suc turns
  pub is : scan_seen limit turns s p.inside p.last v ≡ Some r

pub part_seen : (limit n : ℕ) (s : Side) (p : Part) (j : ℕ) (t : Term) (v : Look) (r : Scanned) → steps weak_step j p.term ≡ Some t → SeenAt t v → scan_top limit n s p.inside p.last p.term ≡ Some r → SeenPart limit n s p v r
part_seen limit zero s p j t v r e h q = absurd (cc)
part_seen limit (suc n) s p j t v r e h q =
    let w = from_bind (scan_seen limit n s p.inside p.last) (top_look limit p.term) r (sym (top_is limit n s p.inside p.last p.term) ∙ q) in
    record { turns = n; fewer = refl; is = ap (scan_seen limit n s p.inside p.last) (sym (top_of limit j p.term t w.0 w.1 e h.ended ∙ h.look)) ∙ w.2 }

-- two that are the same
same_merged : (s : Side) (u : ℕ) (f g : Noted) (r : Scanned) → f.is_delayed ≡ g.is_delayed → f.has_misfit ≡ g.has_misfit → Merged s u u f g r r
same_merged s u f g (broken m) d e = refl
same_merged s u f g (whole m x ps) d e = (refl, ap (λ b. b || x) d, λ q. ap (λ b. b || not (all_fit s ps)) e)

-- an abstraction
pub opened_rest : (limit n : ℕ) (s : Side) (u : ℕ) (f g : Noted) (p q : Part) (ps : List Part) (j : ℕ) (t b : Term) → f.is_delayed ≡ g.is_delayed → f.has_misfit ≡ g.has_misfit → steps weak_step j p.term ≡ Some t →
    SeenAt t (an_abs b) → q ≡ record { inside = p.inside; last = suc p.last; term = substitute (atom (eigen (suc p.last))) b } → IsRestOf s u u f g (scan_parts limit n s (p ∷ ps)) (scan_parts limit n s (q ∷ ps))
opened_rest limit n s u f g p q ps j t b d m e h i = λ r x.
    let w = first limit n s p ps r x in
    let v = part_seen limit n s p j t (an_abs b) w.own e h w.is in
    let y : scan_top limit n s q.inside q.last q.term ≡ Some w.own =
    (λ k. scan_top limit n s (i k).inside (i k).last (i k).term) ∙
    top_more limit v.turns n (omega (arith, v.fewer)) s p.inside (suc p.last) (substitute (atom (eigen (suc p.last))) b) w.own v.is in
    (r, with_first limit n s q ps w.own y ∙ w.rest, same_merged s u f g r d m)

-- parts in the place of the first
data Joined (limit n : ℕ) (s : Side) (x : Scanned) (ps : List Part) (r : Scanned) : Type 0 where
  is_broken : (v : ℕ) → x ≡ broken v → r ≡ broken v → Joined limit n s x ps r
  is_whole : (v : ℕ) (d : Bool) (os : List Pattern) (y : Scanned) → x ≡ whole v d os → scan_parts limit n s ps ≡ Some y → r ≡ beside v d os y → Joined limit n s x ps r

joined : (limit n : ℕ) (s : Side) (x : Scanned) (ps : List Part) (r : Scanned) → behind limit n s ps x ≡ Some r → Joined limit n s x ps r
joined limit n s (broken v) ps r e = let q : broken v ≡ r = cc in is_broken v refl (sym q)
joined limit n s (whole v d os) ps r e = let w = from_map (beside v d os) (scan_parts limit n s ps) r e in is_whole v d os w.0 refl w.1 w.2

or_assoc : (a b c : Bool) → (a || (b || c)) ≡ ((a || b) || c)
or_assoc true b c = refl
or_assoc false b c = refl

beside_twice : (v w : ℕ) (d e : Bool) (os qs : List Pattern) (y : Scanned) → beside v d os (beside w e qs y) ≡ beside (v + w) (d || e) (os ++ qs) y
beside_twice v w d e os qs (broken m) = let q : v + (w + m) ≡ v + w + m = omega arith in ap broken q
beside_twice v w d e os qs (whole m f rs) =
    let q : v + (w + m) ≡ v + w + m = omega arith in
    λ i. whole (q i) (or_assoc d e f i) (append_assoc-of os qs rs i)
  where
    append_assoc-of : (xs ys zs : List Pattern) → xs ++ (ys ++ zs) ≡ (xs ++ ys) ++ zs
    append_assoc-of [] ys zs = refl
    append_assoc-of (x ∷ xs) ys zs = ap (λ l. x ∷ l) (append_assoc-of xs ys zs)

none_beside : (y : Scanned) → beside 0 false [] y ≡ y
none_beside (broken m) = let q : 0 + m ≡ m = omega arith in ap broken q
none_beside (whole m d qs) = let q : 0 + m ≡ m = omega arith in ap (λ k. whole k d qs) q

map_none : (o : Option Scanned) → option_map (beside 0 false []) o ≡ o
map_none None = refl
map_none (Some y) = ap (λ x. Some x) (none_beside y)

-- the scan of two lists of parts
pub both_lists : (limit n : ℕ) (s : Side) (as' : List Part) (ps : List Part) (x : Scanned) → scan_parts limit n s as' ≡ Some x → scan_parts limit n s (as' ++ ps) ≡ behind limit n s ps x
both_lists limit n s [] ps x e =
    let q : whole 0 false [] ≡ x = cc in
    sym (map_none (scan_parts limit n s ps)) ∙ ap (behind limit n s ps) q
both_lists limit n s (a ∷ as') ps x e = let w = first limit n s a as' x e in with_first limit n s a (as' ++ ps) w.own w.is ∙ go w.own w.rest (λ y q. both_lists limit n s as' ps y q)
  where
    go : (o : Scanned) → behind limit n s as' o ≡ Some x → ((y : Scanned) → scan_parts limit n s as' ≡ Some y → scan_parts limit n s (as' ++ ps) ≡ behind limit n s ps y) → behind limit n s (as' ++ ps) o ≡ behind limit n s ps x
    go (broken v) q f = let i : broken v ≡ x = cc in ap (behind limit n s ps) i
    go (whole v d os) q f =
        let w = from_map (beside v d os) (scan_parts limit n s as') x q in
        ap (option_map (beside v d os)) (f w.0 w.1) ∙ further w.0 ∙ ap (behind limit n s ps) (sym w.2)
      where
        further : (y : Scanned) → option_map (beside v d os) (behind limit n s ps y) ≡ behind limit n s ps (beside v d os y)
        further (broken m) = refl
        further (whole m e qs) = twice (scan_parts limit n s ps)
          where
            twice : (o : Option Scanned) → option_map (beside v d os) (option_map (beside m e qs) o) ≡ option_map (beside (v + m) (d || e) (os ++ qs)) o
            twice None = refl
            twice (Some y) = ap (λ z. Some z) (beside_twice v m d e os qs y)

above_merged : (s : Side) (u w : ℕ) (f g : Noted) (d : Bool) (r : Scanned) → u ≡ suc w → g.is_delayed ≡ (f.is_delayed || d) → g.has_misfit ≡ f.has_misfit → Merged s u w f g (above d r) r
above_merged s u w f g d (broken m) z p q = omega (arith, z)
above_merged s u w f g d (whole m e ps) z p q = (
  omega (arith, z),
  or_assoc f.is_delayed d e ∙ ap (λ b. b || e) (sym p),
  λ h. ap (λ b. b || not (all_fit s ps)) (sym q),
)

above_beside : (d : Bool) (v : ℕ) (e : Bool) (os : List Pattern) (y : Scanned) → beside (suc v) (d || e) os y ≡ above d (beside v e os y)
above_beside d v e os (broken m) = let q : suc v + m ≡ suc (v + m) = omega arith in ap broken q
above_beside d v e os (whole m f qs) = let q : suc v + m ≡ suc (v + m) = omega arith in λ i. whole (q i) (sym (or_assoc d e f) i) (os ++ qs)

behind_above : (limit n : ℕ) (s : Side) (ps : List Part) (d : Bool) (x r : Scanned) → behind limit n s ps (above d x) ≡ Some r → (q : Scanned) × (behind limit n s ps x ≡ Some q) × (r ≡ above d q)
behind_above limit n s ps d (broken v) r e = let q : broken (suc v) ≡ r = cc in (broken v, refl, sym q)
behind_above limit n s ps d (whole v f os) r e =
    let w = from_map (beside (suc v) (d || f) os) (scan_parts limit n s ps) r e in
    (beside v f os w.0, ap (option_map (beside v f os)) w.1, w.2 ∙ above_beside d v f os w.0)

-- a node, and its parts in its place
pub above_rest : (limit n m : ℕ) (s : Side) (u w : ℕ) (f g : Noted) (p : Part) (inside : Bool) (ts : List Term) (ps : List Part) (d : Bool) (own : Scanned) (r : Scanned) → u ≡ suc w → g.is_delayed ≡ (f.is_delayed || d) →
    g.has_misfit ≡ f.has_misfit → m ≤ n → option_map (above d) (scan_tops limit m s inside p.last ts) ≡ Some own → behind limit n s ps own ≡ Some r →
    (q : Scanned) × (scan_parts limit n s (args_of inside p.last ts ++ ps) ≡ Some q) × Merged s u w f g r q
above_rest limit n m s u w f g p inside ts ps d own r z i j l e h =
    let x = from_map (above d) (scan_tops limit m s inside p.last ts) own e in
    let a = parts_more limit m n l s (args_of inside p.last ts) x.0 (tops_parts limit m s inside p.last ts x.0 x.1) in
    let b = behind_above limit n s ps d x.0 r (ap (behind limit n s ps) (sym x.2) ∙ h) in
    (b.0, both_lists limit n s (args_of inside p.last ts) ps x.0 a ∙ b.1, transport (λ y. Merged s u w f g y b.0) (sym b.2) (above_merged s u w f g d b.0 z i j))

-- a rigid head
abbrev by_allowed : ℕ → ℕ → Side → (inside : Bool) → (k : ℕ) → Bool → List Term → Bool → Option Scanned
by_allowed limit n s inside k a ts b = elim b [ true ↦ option_map (above (not a)) (scan_tops limit n s inside k ts) | false ↦ Some (broken 1) ]

pub rigid_rest : (limit n : ℕ) (s : Side) (u w : ℕ) (f g : Noted) (p : Part) (ps : List Part) (j : ℕ) (t h : Term) (ts : List Term) (a : Bool) → steps weak_step j p.term ≡ Some t → SeenAt t (rigid h ts) → allows_head s h ≡ a →
    (a || p.inside) ≡ true → u ≡ suc w → g.is_delayed ≡ (f.is_delayed || not a) → g.has_misfit ≡ f.has_misfit →
    IsRestOf s u w f g (scan_parts limit n s (p ∷ ps)) (scan_parts limit n s (args_of p.inside p.last ts ++ ps))
rigid_rest limit n s u w f g p ps j t h ts a e v q b z i k = λ r x.
    let o = first limit n s p ps r x in
    let y = part_seen limit n s p j t (rigid h ts) o.own e v o.is in
    let c : option_map (above (not a)) (scan_tops limit y.turns s p.inside p.last ts) ≡ Some o.own =
    ap (by_allowed limit y.turns s p.inside p.last a ts) (sym b) ∙ (λ l. by_allowed limit y.turns s p.inside p.last (sym q l) ts (sym q l || p.inside)) ∙ y.is in
    above_rest limit n y.turns s u w f g p p.inside ts ps (not a) o.own r z i k (omega (arith, y.fewer)) c o.rest

one_broken : (limit n : ℕ) (s : Side) (ps : List Part) (r : Scanned) → behind limit n s ps (broken 1) ≡ Some r → broken 1 ≡ r
one_broken limit n s ps r e = cc

fails_at_one : (u w : ℕ) (r : Scanned) → u ≡ suc w → broken 1 ≡ r → Fails u r
fails_at_one u w r z e = transport (Fails u) e (omega (arith, z))

pub rigid_fails : (limit n : ℕ) (s : Side) (u w : ℕ) (p : Part) (ps : List Part) (j : ℕ) (t h : Term) (ts : List Term) (a : Bool) → steps weak_step j p.term ≡ Some t → SeenAt t (rigid h ts) → allows_head s h ≡ a →
    (a || p.inside) ≡ false → u ≡ suc w → (r : Scanned) → scan_parts limit n s (p ∷ ps) ≡ Some r → Fails u r
rigid_fails limit n s u w p ps j t h ts a e v q b z r x =
    let o = first limit n s p ps r x in
    let y = part_seen limit n s p j t (rigid h ts) o.own e v o.is in
    let c : Some (broken 1) ≡ Some o.own = ap (by_allowed limit y.turns s p.inside p.last a ts) (sym b) ∙ (λ l. by_allowed limit y.turns s p.inside p.last (sym q l) ts (sym q l || p.inside)) ∙ y.is in
    let d : broken 1 ≡ o.own = cc in
    fails_at_one u w r z (one_broken limit n s ps r (ap (behind limit n s ps) d ∙ o.rest))

-- a variable
abbrev by_pattern : ℕ → ℕ → Side → (inside : Bool) → (k y m : ℕ) → List Term → Option (List ℕ) → Option Scanned
by_pattern limit n s inside k y m ts o = elim o [ Some b ↦ Some (scanned_pattern s inside y m b) | None ↦ option_map (above (is_side s y m || nat_lt s.level m)) (scan_tops limit n s true k ts) ]

variable_seen : (limit n : ℕ) (s : Side) (p : Part) (y m : ℕ) (ts : List Term) (a : Option Arguments) (r : Scanned) → IsPattern limit m ts a → scan_seen limit n s p.inside p.last (flexible y m ts) ≡ Some r →
    by_pattern limit n s p.inside p.last y m ts (eigens_of a) ≡ Some r
variable_seen limit n s p y m ts a r h e =
    let w = from_bind (by_pattern limit n s p.inside p.last y m ts) (pattern_of limit m ts) r e in
    ap (by_pattern limit n s p.inside p.last y m ts) (sym (h w.0 w.1)) ∙ w.2

pub open_rest : (limit n : ℕ) (s : Side) (u w : ℕ) (f g : Noted) (p : Part) (ps : List Part) (j : ℕ) (t : Term) (y m : ℕ) (ts : List Term) → steps weak_step j p.term ≡ Some t → SeenAt t (flexible y m ts) → IsPattern limit m ts None →
    u ≡ suc w → g.is_delayed ≡ (f.is_delayed || (is_side s y m || nat_lt s.level m)) → g.has_misfit ≡ f.has_misfit →
    IsRestOf s u w f g (scan_parts limit n s (p ∷ ps)) (scan_parts limit n s (args_of true p.last ts ++ ps))
open_rest limit n s u w f g p ps j t y m ts e v h z i k = λ r x.
    let o = first limit n s p ps r x in
    let q = part_seen limit n s p j t (flexible y m ts) o.own e v o.is in
    above_rest limit n q.turns s u w f g p true ts ps (is_side s y m || nat_lt s.level m) o.own r z i k (omega (arith, q.fewer)) (variable_seen limit q.turns s p y m ts None o.own h q.is) o.rest

fit_append : (s : Side) (xs ys : List Pattern) → all_fit s (xs ++ ys) ≡ (all_fit s xs && all_fit s ys)
fit_append s [] ys = refl
fit_append s (x ∷ xs) ys = ap (λ b. fits s x && b) (fit_append s xs ys) ∙ and_assoc (fits s x) (all_fit s xs) (all_fit s ys)
  where
    and_assoc : (a b c : Bool) → (a && (b && c)) ≡ ((a && b) && c)
    and_assoc true b c = refl
    and_assoc false b c = refl

not_both : (a b c : Bool) → (c || not (a && b)) ≡ ((c || not a) || not b)
not_both true b true = refl
not_both true b false = refl
not_both false b true = refl
not_both false b false = refl

noted_merged : (s : Side) (u w : ℕ) (f g : Noted) (d : Bool) (ps : List Pattern) (y : Scanned) → u ≡ suc w → Adds s f g (whole 1 d ps) → Merged s u w f g (beside 1 d ps y) y
noted_merged s u w f g d ps (broken m) z a = omega (arith, z)
noted_merged s u w f g d ps (whole m e qs) z a = (
  omega (arith, z),
  or_assoc f.is_delayed d e ∙ ap (λ b. b || e) (sym a.0),
  λ h.
      ap (λ b. f.has_misfit || not b) (fit_append s ps qs) ∙ not_both (all_fit s ps) (all_fit s qs) f.has_misfit ∙ ap (λ b. b || not (all_fit s qs)) (sym (a.1 (or_false_left g.is_delayed e h))),
)

-- a pattern is one unit
data OneUnit (r : Scanned) : Type 0 where
  fails_one : r ≡ broken 1 → OneUnit r
  goes_one : (d : Bool) (ps : List Pattern) → r ≡ whole 1 d ps → OneUnit r

one_unit : (s : Side) (inside : Bool) (y m : ℕ) (b : List ℕ) → OneUnit (scanned_pattern s inside y m b)
one_unit s true y m b = goes_one _ (pattern y m b ∷ []) refl
one_unit s false y m b = go (is_side s y m)
  where
    go : (t : Bool) → OneUnit (if t then broken 1 else whole 1 false (pattern y m b ∷ []))
    go true = fails_one refl
    go false = goes_one false (pattern y m b ∷ []) refl

pub pattern_rest : (limit n : ℕ) (s : Side) (u w : ℕ) (f g : Noted) (p : Part) (ps : List Part) (j : ℕ) (t : Term) (y m : ℕ) (ts : List Term) (a : Arguments) → steps weak_step j p.term ≡ Some t → SeenAt t (flexible y m ts) →
    IsPattern limit m ts (Some a) → u ≡ suc w → Adds s f g (scanned_pattern s p.inside y m a.eigens.items) → IsRestOf s u w f g (scan_parts limit n s (p ∷ ps)) (scan_parts limit n s ps)
pattern_rest limit n s u w f g p ps j t y m ts a e v h z i = λ r x.
    let o = first limit n s p ps r x in
    let q = part_seen limit n s p j t (flexible y m ts) o.own e v o.is in
    let c : Some (scanned_pattern s p.inside y m a.eigens.items) ≡ Some o.own = variable_seen limit q.turns s p y m ts (Some a) o.own h q.is in
    let d : scanned_pattern s p.inside y m a.eigens.items ≡ o.own = cc in
    go (one_unit s p.inside y m a.eigens.items) r (ap (behind limit n s ps) d ∙ o.rest)
  where
    go : OneUnit (scanned_pattern s p.inside y m a.eigens.items) → (r : Scanned) → behind limit n s ps (scanned_pattern s p.inside y m a.eigens.items) ≡ Some r → (q : Scanned) × (scan_parts limit n s ps ≡ Some q) × Merged s u w f g r q
    go (fails_one b) r x = absurd (transport (Adds s f g) b i)
    go (goes_one d os b) r x =
        let k = from_map (beside 1 d os) (scan_parts limit n s ps) r (ap (behind limit n s ps) (sym b) ∙ x) in
        (k.0, k.1, transport (λ l. Merged s u w f g l k.0) (sym k.2) (noted_merged s u w f g d os k.0 z (transport (Adds s f g) b i)))

pub pattern_fails : (limit n : ℕ) (s : Side) (u w : ℕ) (p : Part) (ps : List Part) (j : ℕ) (t : Term) (y m : ℕ) (ts : List Term) (a : Arguments) → steps weak_step j p.term ≡ Some t → SeenAt t (flexible y m ts) →
    IsPattern limit m ts (Some a) → u ≡ suc w → IsBroken (scanned_pattern s p.inside y m a.eigens.items) → (r : Scanned) → scan_parts limit n s (p ∷ ps) ≡ Some r → Fails u r
pattern_fails limit n s u w p ps j t y m ts a e v h z i r x =
    let o = first limit n s p ps r x in
    let q = part_seen limit n s p j t (flexible y m ts) o.own e v o.is in
    let c : Some (scanned_pattern s p.inside y m a.eigens.items) ≡ Some o.own = variable_seen limit q.turns s p y m ts (Some a) o.own h q.is in
    let d : scanned_pattern s p.inside y m a.eigens.items ≡ o.own = cc in
    go (one_unit s p.inside y m a.eigens.items) (ap (behind limit n s ps) d ∙ o.rest)
  where
    go : OneUnit (scanned_pattern s p.inside y m a.eigens.items) → behind limit n s ps (scanned_pattern s p.inside y m a.eigens.items) ≡ Some r → Fails u r
    go (fails_one b) x = fails_at_one u w r z (one_broken limit n s ps r (ap (behind limit n s ps) (sym b) ∙ x))
    go (goes_one d os b) x = absurd (transport IsBroken b i)

-- no unit is left for a node
costs_one : (limit n : ℕ) (s : Side) (ps : List Part) (own r : Scanned) → Exceeds 0 own → behind limit n s ps own ≡ Some r → Exceeds 0 r
costs_one limit n s ps (broken m) r h e = let q : broken m ≡ r = cc in transport (Exceeds 0) q h
costs_one limit n s ps (whole m d os) r h e = let w = from_map (beside m d os) (scan_parts limit n s ps) r e in transport (Exceeds 0) (sym w.2) (go w.0)
  where
    go : (y : Scanned) → Exceeds 0 (beside m d os y)
    go (broken k) = omega (arith, h)
    go (whole k e qs) = omega (arith, h)

above_costs : (d : Bool) (x : Scanned) → Exceeds 0 (above d x)
above_costs d (broken m) = omega arith
above_costs d (whole m e ps) = omega arith

map_costs : (d : Bool) (o : Option Scanned) (r : Scanned) → option_map (above d) o ≡ Some r → Exceeds 0 r
map_costs d o r e = let w = from_map (above d) o r e in transport (Exceeds 0) (sym w.2) (above_costs d w.0)

abbrev pub IsNode : Look → Type 0
IsNode (an_abs b) = ⊥
IsNode (rigid h ts) = Unit {0}
IsNode (flexible y m ts) = Unit {0}

pattern_costs : (s : Side) (inside : Bool) (y m : ℕ) (b : List ℕ) → Exceeds 0 (scanned_pattern s inside y m b)
pattern_costs s inside y m b = go (one_unit s inside y m b)
  where
    go : OneUnit (scanned_pattern s inside y m b) → Exceeds 0 (scanned_pattern s inside y m b)
    go (fails_one e) = transport (Exceeds 0) (sym e) (omega arith)
    go (goes_one d ps e) = transport (Exceeds 0) (sym e) (omega arith)

node_costs : (limit n : ℕ) (s : Side) (p : Part) (v : Look) (r : Scanned) → IsNode v → scan_seen limit n s p.inside p.last v ≡ Some r → Exceeds 0 r
node_costs limit n s p (an_abs b) r i e = absurd i
node_costs limit n s p (rigid h ts) r i e = go (allows_head s h) ((allows_head s h) || p.inside) e
  where
    go : (a t : Bool) → by_allowed limit n s p.inside p.last a ts t ≡ Some r → Exceeds 0 r
    go a true q = map_costs (not a) (scan_tops limit n s p.inside p.last ts) r q
    go a false q = let k : broken 1 ≡ r = cc in transport (Exceeds 0) k (omega arith)
node_costs limit n s p (flexible y m ts) r i e =
    let w = from_bind (by_pattern limit n s p.inside p.last y m ts) (pattern_of limit m ts) r e in go w.0 w.2
  where
    go : (o : Option (List ℕ)) → by_pattern limit n s p.inside p.last y m ts o ≡ Some r → Exceeds 0 r
    go None q = map_costs (is_side s y m || nat_lt s.level m) (scan_tops limit n s true p.last ts) r q
    go (Some b) q = let k : scanned_pattern s p.inside y m b ≡ r = cc in transport (Exceeds 0) k (pattern_costs s p.inside y m b)

pub none_left : (limit n : ℕ) (s : Side) (u : ℕ) (e : PatternRefusal) (p : Part) (ps : List Part) (j : ℕ) (t : Term) (v : Look) → u ≡ 0 → e ≡ Deep → steps weak_step j p.term ≡ Some t → SeenAt t v → IsNode v →
    IsStopped limit e u (scan_parts limit n s (p ∷ ps))
none_left limit n s u e p ps j t v z d a h i =
    transport (λ x. IsStopped limit x u (scan_parts limit n s (p ∷ ps))) (sym d)
    (λ l r x.
    let o = first limit n s p ps r x in
    let q = part_seen limit n s p j t v o.own a h o.is in
    transport (λ y. Exceeds y r) (sym z) (costs_one limit n s ps o.own r (node_costs limit q.turns s p v o.own i q.is) o.rest))

-- a head that is too far
pub far_none : (k n : ℕ) (t s : Term) → n ≤ k → steps weak_step k t ≡ Some s → top_normal n t ≡ None
far_none k zero t s l e = refl
far_none zero (suc n) t s l e = absurd (omega (arith, l))
far_none (suc k) (suc n) t s l e = go (weak_step t) refl e (λ u q. far_none k n u s (omega (arith, l)) q)
  where
    go : (o : Option Term) → weak_step t ≡ o → (elim o as (λ z. Option Term) [ None ↦ None | Some u ↦ steps weak_step k u ]) ≡ Some s → ((u : Term) → steps weak_step k u ≡ Some s → top_normal n u ≡ None) →
        (elim o as (λ z. Option Term) [ None ↦ Some t | Some u ↦ top_normal n u ]) ≡ None
    go None q f h = absurd (cc)
    go (Some u) q f h = h u f

pub no_first : (limit n : ℕ) (s : Side) (p : Part) (ps : List Part) → top_look limit p.term ≡ None → scan_parts limit n s (p ∷ ps) ≡ None
no_first limit zero s p ps e = refl
no_first limit (suc n) s p ps e = ap (option_and_then (behind limit (suc n) s ps)) (top_is limit n s p.inside p.last p.term ∙ ap (option_and_then (scan_seen limit n s p.inside p.last)) e)

never : (limit u : ℕ) (o : Option Scanned) → (limit ≤ 1000000 → o ≡ None) → IsStopped limit Deep u o
never limit u o h = λ l r e. absurd (let x : None ≡ Some r = sym (h l) ∙ e in cc)

pub too_far : (limit n : ℕ) (s : Side) (u : ℕ) (e : TermRefusal) (r : PatternRefusal) (p : Part) (ps : List Part) → IsOfTerm e r → IsDeepWhere 1000000 p.term e → IsStopped limit r u (scan_parts limit n s (p ∷ ps))
too_far limit n s u (TermRefusal.Deep k) r p ps i d =
    transport (λ x. IsStopped limit x u (scan_parts limit n s (p ∷ ps))) (sym i)
    (never limit u (scan_parts limit n s (p ∷ ps))
    (λ l.
    let k = some_of (steps weak_step 1000001 p.term) d in
    no_first limit n s p ps (ap (option_map (λ x. looked x [])) (far_none 1000001 limit p.term k.0 (omega (arith, l)) k.1))))
too_far limit n s u TermRefusal.Memory r p ps i d = transport (λ x. IsStopped limit x u (scan_parts limit n s (p ∷ ps))) (sym i) tt

-- an argument that is too far
pub no_pattern : (limit n : ℕ) (s : Side) (p : Part) (ps : List Part) (j : ℕ) (t : Term) (y m : ℕ) (ts : List Term) → steps weak_step j p.term ≡ Some t → SeenAt t (flexible y m ts) → pattern_of limit m ts ≡ None →
    (r : Scanned) → scan_parts limit n s (p ∷ ps) ≡ Some r → ⊥
no_pattern limit n s p ps j t y m ts a h e r x =
    let o = first limit n s p ps r x in
    let q = part_seen limit n s p j t (flexible y m ts) o.own a h o.is in
    let w = from_bind (by_pattern limit q.turns s p.inside p.last y m ts) (pattern_of limit m ts) o.own q.is in
    let z : None ≡ Some w.0 = sym e ∙ w.1 in
    absurd (cc)

pub pattern_too_far : (limit n : ℕ) (s : Side) (u : ℕ) (e : TermRefusal) (r : PatternRefusal) (p : Part) (ps : List Part) (j : ℕ) (t : Term) (y m : ℕ) (ts : List Term) → IsOfTerm e r → steps weak_step j p.term ≡ Some t →
    SeenAt t (flexible y m ts) → (limit ≤ 1000000 → HasNoPattern limit m ts e) → IsStopped limit r u (scan_parts limit n s (p ∷ ps))
pattern_too_far limit n s u (TermRefusal.Deep k) r p ps j t y m ts i a h d =
    transport (λ x. IsStopped limit x u (scan_parts limit n s (p ∷ ps))) (sym i) (λ l q x. absurd (no_pattern limit n s p ps j t y m ts a h (d l) q x))
pattern_too_far limit n s u TermRefusal.Memory r p ps j t y m ts i a h d = transport (λ x. IsStopped limit x u (scan_parts limit n s (p ∷ ps))) (sym i) tt

-- runs of steps
merged_then : (s : Side) (u v w : ℕ) (f g h : Noted) (r q o : Scanned) → Merged s u v f g r q → Merged s v w g h q o → Merged s u w f h r o
merged_then s u v w f g h (broken i) (broken j) (broken k) a b = omega (arith, a, b)
merged_then s u v w f g h (broken i) (broken j) (whole k d ps) a b = absurd b
merged_then s u v w f g h (broken i) (whole j d ps) o a b = absurd a
merged_then s u v w f g h (whole i d ps) (broken j) o a b = absurd a
merged_then s u v w f g h (whole i d ps) (whole j e qs) (broken k) a b = absurd b
merged_then s u v w f g h (whole i d ps) (whole j e qs) (whole k x os) a b = (omega (arith, a.0, b.0), a.1 ∙ b.1, λ y. a.2 (b.1 ∙ y) ∙ b.2 y)

pub rest_then : (s : Side) (u v w : ℕ) (f g h : Noted) (o p q : Option Scanned) → IsRestOf s u v f g o p → IsRestOf s v w g h p q → IsRestOf s u w f h o q
rest_then s u v w f g h o p q a b = λ r e. let x = a r e in let y = b x.0 x.1 in (y.0, y.1, merged_then s u v w f g h r x.0 y.0 x.2 y.2)

merged_fails : (s : Side) (u v : ℕ) (f g : Noted) (r q : Scanned) → Merged s u v f g r q → Fails v q → Fails u r
merged_fails s u v f g (broken i) (broken j) a b = omega (arith, a, b)
merged_fails s u v f g (broken i) (whole j d ps) a b = absurd a
merged_fails s u v f g (whole i d ps) (broken j) a b = absurd a
merged_fails s u v f g (whole i d ps) (whole j e qs) a b = b

merged_exceeds : (s : Side) (u v : ℕ) (f g : Noted) (r q : Scanned) → Merged s u v f g r q → Exceeds v q → Exceeds u r
merged_exceeds s u v f g (broken i) (broken j) a b = omega (arith, a, b)
merged_exceeds s u v f g (broken i) (whole j d ps) a b = absurd a
merged_exceeds s u v f g (whole i d ps) (broken j) a b = absurd a
merged_exceeds s u v f g (whole i d ps) (whole j e qs) a b = omega (arith, a.0, b)

pub rest_stopped : (s : Side) (limit u v : ℕ) (f g : Noted) (e : PatternRefusal) (o p : Option Scanned) → IsRestOf s u v f g o p → IsStopped limit e v p → IsStopped limit e u o
rest_stopped s limit u v f g refusal.Fails o p a b = λ r x. let w = a r x in merged_fails s u v f g r w.0 w.2 (b w.0 w.1)
rest_stopped s limit u v f g Deep o p a b = λ l r x. let w = a r x in merged_exceeds s u v f g r w.0 w.2 (b l w.0 w.1)
rest_stopped s limit u v f g Memory o p a b = tt

-- all is scanned
or_false : (b : Bool) → (b || false) ≡ b
or_false true = refl
or_false false = refl

scanned_at : (s : Side) (u v : ℕ) (f g : Noted) (r : Scanned) → f.is_delayed ≡ false → f.has_misfit ≡ false → Merged s u v f g r (whole 0 false []) → IsScanned s u v g r
scanned_at s u v f g (broken m) d e a = a
scanned_at s u v f g (whole m x ps) d e a = (
  omega (arith, a.0),
  sym (or_false g.is_delayed) ∙ sym a.1 ∙ ap (λ b. b || x) d,
  λ y.
      let z : (g.is_delayed || false) ≡ false = sym a.1 ∙ ap (λ b. b || x) d ∙ y in
      sym (or_false g.has_misfit) ∙ sym (a.2 z) ∙ ap (λ b. b || not (all_fit s ps)) e,
)

pub all_scanned : (s : Side) (limit n u v : ℕ) (f g : Noted) (o : Option Scanned) → f.is_delayed ≡ false → f.has_misfit ≡ false → IsRestOf s u v f g o (scan_parts limit n s []) → (r : Scanned) → o ≡ Some r → IsScanned s u v g r
all_scanned s limit n u v f g o d e a r x =
    let w = a r x in
    let q : whole 0 false [] ≡ w.0 = (let y : Some (whole 0 false []) ≡ Some w.0 = w.1 in cc) in
    scanned_at s u v f g r d e (transport (Merged s u v f g r) (sym q) w.2)
