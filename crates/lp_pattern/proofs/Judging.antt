-- Which rule for a pair of terms that were looked at applies, and its units.
use Rattle.std.proofs.Common.{◌≡◌, ℕ, zero, suc, ◌+◌, ◌<◌, ◌≤◌, List, [], ◌∷◌, map, length, ◌∙◌, refl, sym, ap, subst as transport, arith, Bool, true, false, Option, Some, None, nat_eq}
use Rattle.std.specs.Prelude.{option_map, option_and_then, ◌&&◌, All}
use Rattle.std.proofs.lemmas.Bool.Decides.{nat_tests}
use Rattle.lp_calculus.specs.Term.{Term}
use Rattle.lp_calculus.specs.Convert.{steps}
use Rattle.lp_term.specs.Nodes.{Nodes, Extends, tree}
use Rattle.lp_term.specs.declared.node.TermId.{TermId}
use Rattle.lp_term.specs.declared.reduce.TermRefusal.{TermRefusal}
use Rattle.lp_model.specs.Look.{Look, an_abs, rigid, flexible, look, head_normal, pattern_of, weak_step}
use Rattle.lp_model.specs.Pair.{Pair, Closing}
use Rattle.lp_model.specs.Scan as scan
use Rattle.lp_model.specs.Scan.{Scanned, broken, whole, Pruned, prune, settle}
use Rattle.lp_model.specs.Rule.{Compared, Verdict, fails, gives, binds, delays, Ruled, ruled, joined, bound, has_head, solve_for, side, by_pattern, pattern_side, by_rule_5, by_rule_4, dear, by_looks, compare_all, rule}
use Rattle.lp_unify_laws.proofs.TypedInstances.{length_map}
use Rattle.lp_unify_laws.proofs.Sames.{same_number}
use Rattle.lp_pattern.specs.declared.bindings.Bindings.{Bindings}
use Rattle.lp_pattern.specs.declared.fault.PatternRefusal.{PatternRefusal}
use Rattle.lp_pattern.specs.declared.fault.PatternRefusal.TheVariants.{Deep}
use Rattle.lp_pattern.specs.declared.fault.PatternRefusal.TheVariants as refusal
use Rattle.lp_pattern.specs.declared.look.Head.{Head}
use Rattle.lp_pattern.specs.declared.look.Looked.{Looked}
use Rattle.lp_pattern.specs.declared.patterns.Arguments.{Arguments}
use Rattle.lp_pattern.specs.declared.rules.Verdict.{Verdict as Taken}
use Rattle.lp_pattern.specs.declared.scan.Scanned.{Scanned as Noted}
use Rattle.lp_pattern.specs.declared.side.Side.{Side}
use Rattle.lp_model.specs.declared.answer.Pair.{Pair as Numbers}
use Rattle.lp_pattern.specs.Comparing.{IsComparedTo, IsPassed, pair_under}
use Rattle.lp_pattern.specs.Reading.{side_of}
use Rattle.lp_pattern.specs.Refusing.{IsOfTerm}
use Rattle.lp_pattern.specs.Ruling.{view_of, view, is_one_variable, is_flexible, IsSideOf, IsNoSide, IsSeenPair, IsVerdict, IsJudged, IsRuledOut, IsDone, IsTaken}
use Rattle.lp_pattern.specs.Seen.{IsHead, IsLooked, IsReachedWithin, seen}
use Rattle.lp_pattern.specs.Stripping.{IsPattern, HasNoPattern, eigens_of, read_at}
use Rattle.lp_pattern.specs.Under.{IsReading, under, below}
use Rattle.lp_pattern.specs.Visiting.{IsScanned, IsStopped, Exceeds}
use Rattle.lp_pattern.specs.Visiting as visiting
use Rattle.lp_unify_laws.proofs.MoreSteps.Scans.{Below, below_none, below_same, below_then}
use Rattle.lp_pattern.proofs.Compares.{reached_look, from_bind, from_map}
use Rattle.lp_pattern.proofs.Opening.{read_none}
use Rattle.lp_pattern.proofs.Stacks.{under_kept, unders_kept}
use Rattle.lp_pattern.proofs.Tops.{whole_look}

-- what holds of a later rule holds of an earlier one that comes to it
pub judged_below : (done : Bool) (u w : ℕ) (o o' : Option Ruled) → Below o o' → IsJudged done u w o' → IsJudged done u w o
judged_below done u w o o' b h r e = h r (b r e)

pub out_below : (n u : ℕ) (e : PatternRefusal) (o o' : Option Ruled) → Below o o' → IsRuledOut n e u o' → IsRuledOut n e u o
out_below n u refusal.Fails o o' b h = λ r q. h r (b r q)
out_below n u Deep o o' b h = λ l r q. h l r (b r q)
out_below n u refusal.Memory o o' b h = tt

-- the side that a term is
read_all : (b : Nodes) (c : Closing) (l d : ℕ) (ids : List TermId) → d ≡ 0 → map (read_at b c l d) ids ≡ map (under b c) ids
read_all b c l d [] z = refl
read_all b c l d (t ∷ ids) z = λ i. (ap (λ k. read_at b c l k t) z ∙ read_none b c l t) i ∷ read_all b c l d ids z i

no_variable : (b : Nodes) (c : Closing) (m : ℕ) (p : Pair) (h : Head) (top : TermId) (ids : List TermId) (q : Option scan.Side) → ((x l : ℕ) → h ≡ Head.Variable x l → ⊥) → pattern_side m p (view_of b c h top ids) ≡ Some q → q ≡ None
no_variable b c m p (Head.Abstraction body) top ids q f e = cc
no_variable b c m p (Head.Variable x l) top ids q f e = absurd (f x l refl)
no_variable b c m p Head.Rigid top ids q f e = cc

pub side_none : (b : Nodes) (c : Closing) (m pair : ℕ) (r : Looked) → ((x l : ℕ) → r.head ≡ Head.Variable x l → ⊥) → IsSideOf m (view b c r) pair None
side_none b c m pair r f p l q e = no_variable b c m p r.head r.top r.arguments.items q f e

abbrev pub sides : ℕ → ℕ → Pair → Option (List ℕ) → Option scan.Side
sides x l p o = option_map (λ a. side x l a p) o

as_pattern : (b : Nodes) (c : Closing) (m pair x l : ℕ) (r : Looked) (o : Option Arguments) → r.head ≡ Head.Variable x l → IsPattern m l (map (under b c) r.arguments.items) o → (p : Pair) (q : Option scan.Side) →
    pattern_side m p (view b c r) ≡ Some q → q ≡ sides x l p (eigens_of o)
as_pattern b c m pair x l r o h i p q e =
    let f : option_map (sides x l p) (pattern_of m l (map (under b c) r.arguments.items)) ≡ Some q = ap (λ y. pattern_side m p (view_of b c y r.top r.arguments.items)) (sym h) ∙ e in
    let w = from_map (sides x l p) (pattern_of m l (map (under b c) r.arguments.items)) q f in
    w.2 ∙ ap (sides x l p) (i w.0 w.1)

at_depth : (b : Nodes) (c : Closing) (m l k d : ℕ) (ids : List TermId) (o : Option Arguments) → d ≡ 0 → IsPattern m l (map (read_at b c k d) ids) o → IsPattern m l (map (under b c) ids) o
at_depth b c m l k d ids o z h = transport (λ ts. IsPattern m l ts o) (read_all b c k d ids z) h

pub side_open : (b : Nodes) (c : Closing) (m pair x l k d : ℕ) (r : Looked) → r.head ≡ Head.Variable x l → d ≡ 0 → IsPattern m l (map (read_at b c k d) r.arguments.items) None → IsSideOf m (view b c r) pair None
side_open b c m pair x l k d r h z i p n q e = as_pattern b c m pair x l r None h (at_depth b c m l k d r.arguments.items None z i) p q e

pub side_some : (b : Nodes) (c : Closing) (m pair x l k d : ℕ) (r : Looked) (a : Arguments) (s : Side) → r.head ≡ Head.Variable x l → d ≡ 0 → IsPattern m l (map (read_at b c k d) r.arguments.items) (Some a) → s.id ≡ x → s.level ≡ l →
    s.eigens.items ≡ a.eigens.items → s.pair ≡ pair → IsSideOf m (view b c r) pair (Some s)
side_some b c m pair x l k d r a s h z i f g j o p n q e =
    as_pattern b c m pair x l r (Some a) h (at_depth b c m l k d r.arguments.items (Some a) z i) p q e ∙
    (λ y. Some (record { id = sym f y; level = sym g y; arguments = sym j y; pair = (n ∙ sym o) y }))

pub side_refused : (b : Nodes) (c : Closing) (m pair x l k d : ℕ) (r : Looked) (e : TermRefusal) (y : PatternRefusal) → r.head ≡ Head.Variable x l → d ≡ 0 → IsOfTerm e y →
    (m ≤ 1000000 → HasNoPattern m l (map (read_at b c k d) r.arguments.items) e) → IsNoSide m (view b c r) pair y
side_refused b c m pair x l k d r (TermRefusal.Deep n) y h z i f =
    transport (IsNoSide m (view b c r) pair) (sym i)
    (λ j p q.
    ap (λ v. pattern_side m p (view_of b c v r.top r.arguments.items)) h ∙
    ap (λ ts. option_map (sides x l p) (pattern_of m l ts)) (sym (read_all b c k d r.arguments.items z)) ∙ ap (option_map (sides x l p)) (f j))
side_refused b c m pair x l k d r TermRefusal.Memory y h z i f = transport (IsNoSide m (view b c r) pair) (sym i) tt

-- whether the side's variable is the head
pub head_variable : (b : Nodes) (c : Closing) (s : scan.Side) (r : Looked) (x l : ℕ) → r.head ≡ Head.Variable x l → scan.is_side s x l ≡ has_head s (view b c r)
head_variable b c s r x l h = ap (λ y. has_head s (view_of b c y r.top r.arguments.items)) (sym h)

pub head_abstraction : (b : Nodes) (c : Closing) (s : scan.Side) (r : Looked) (body : TermId) → r.head ≡ Head.Abstraction body → false ≡ has_head s (view b c r)
head_abstraction b c s r body h = ap (λ y. has_head s (view_of b c y r.top r.arguments.items)) (sym h)

pub head_rigid : (b : Nodes) (c : Closing) (s : scan.Side) (r : Looked) → r.head ≡ Head.Rigid → false ≡ has_head s (view b c r)
head_rigid b c s r h = ap (λ y. has_head s (view_of b c y r.top r.arguments.items)) (sym h)

-- a scan of a term that is some steps before
pub scan_reached : (n : ℕ) (s : scan.Side) (inside : Bool) (k j : ℕ) (t w : Term) → steps weak_step j t ≡ Some w → Below (scan.scan n s inside k t) (scan.scan n s inside k w)
scan_reached zero s inside k j t w e = below_none (scan.scan zero s inside k w)
scan_reached (suc n) s inside k j t w e = below_then (look n t) (look n w) _ _ (reached_look j n t w e) (λ v. below_same _)

-- the side's variable against a term
abbrev pub pruned_to : ℕ → (u : ℕ) → scan.Side → Pruned → Option Ruled
pruned_to n u s r = option_map (λ t'. ruled u (binds (bound s r.bindings t') r.next)) (settle n s.pair r.term)

abbrev pub scanned_to : ℕ → (next : ℕ) → scan.Side → Term → Scanned → Option Ruled
scanned_to n next s t r = elim r [
  | broken u ↦ Some (ruled u fails)
  | whole u true ps ↦ Some (ruled u delays)
  | whole u false ps ↦ option_and_then (λ r. option_map (λ t'. ruled u (binds (bound s r.bindings t') r.next)) (settle n s.pair r.term)) (prune n s next t)
]

abbrev by_head : ℕ → (next : ℕ) → scan.Side → Term → Bool → Option Ruled
by_head n next s t b = elim b [ true ↦ Some (ruled 0 delays) | false ↦ option_and_then (scanned_to n next s t) (scan.scan n s false s.pair t) ]

by_head_is : (n next : ℕ) (s : scan.Side) (t : Term) (v : Look) (b : Bool) → has_head s v ≡ b → solve_for n next s t v ≡ by_head n next s t b
by_head_is n next s t v b e = go (has_head s v) ∙ ap (by_head n next s t) e
  where
    same_scan : (o : Option Scanned) → option_and_then (λ r. elim r as (λ z. Option Ruled) [
      | broken u ↦ Some (ruled u fails)
      | whole u true ps ↦ Some (ruled u delays)
      | whole u false ps ↦ option_and_then (λ r. option_map (λ t'. ruled u (binds (bound s r.bindings t') r.next)) (settle n s.pair r.term)) (prune n s next t)
    ]) o ≡ option_and_then (scanned_to n next s t) o
    same_scan None = refl
    same_scan (Some x) = refl

    go : (b : Bool) → (elim b as (λ z. Option Ruled) [
      | true ↦ Some (ruled 0 delays)
      | false ↦ option_and_then (λ r. elim r as (λ z. Option Ruled) [
        | broken u ↦ Some (ruled u fails)
        | whole u true ps ↦ Some (ruled u delays)
        | whole u false ps ↦ option_and_then (λ r. option_map (λ t'. ruled u (binds (bound s r.bindings t') r.next)) (settle n s.pair r.term)) (prune n s next t)
      ]) (scan.scan n s false s.pair t)
    ]) ≡ by_head n next s t b
    go true = refl
    go false = same_scan (scan.scan n s false s.pair t)

pub on_head : (n next u : ℕ) (s : scan.Side) (t : Term) (v : Look) → has_head s v ≡ true → IsJudged false u u (solve_for n next s t v)
on_head n next u s t v h r e =
    let q : Some (ruled 0 delays) ≡ Some r = sym (by_head_is n next s t v true h) ∙ e in
    let i : ruled 0 delays ≡ r = cc in
    transport (λ x. (u ≡ x.units + u) × (x.verdict ≡ delays)) i (let z : u ≡ 0 + u = omega arith in z, refl)

-- what comes behind the scan
pub record Behind (n next : ℕ) (s : scan.Side) (t w : Term) (r : Ruled) : Type 0 where
  pub scanned : Scanned
  pub is : scan.scan n s false s.pair w ≡ Some scanned
  pub rest : scanned_to n next s t scanned ≡ Some r

pub behind : (n next j : ℕ) (s : scan.Side) (t w : Term) (v : Look) (r : Ruled) → steps weak_step j t ≡ Some w → has_head s v ≡ false → solve_for n next s t v ≡ Some r → Behind n next s t w r
behind n next j s t w v r e h q =
    let x = from_bind (scanned_to n next s t) (scan.scan n s false s.pair t) r (sym (by_head_is n next s t v false h) ∙ q) in
    record { scanned = x.0; is = scan_reached n s false s.pair j t w e x.0 x.1; rest = x.2 }

-- the verdict behind a scan, which has its units
bound_units : (n next u : ℕ) (s : scan.Side) (t : Term) (ps : List _) (r : Ruled) → scanned_to n next s t (whole u false ps) ≡ Some r → (r.units ≡ u) × IsVerdict true r.verdict
bound_units n next u s t ps r e =
    let x = from_bind (pruned_to n u s) (prune n s next t) r e in
    let y = from_map (λ t'. ruled u (binds (bound s x.0.bindings t') x.0.next)) (settle n s.pair x.0.term) r x.2 in
    transport (λ z. (z.units ≡ u) × IsVerdict true z.verdict) (sym y.2) (refl, tt)

pub some_same : (x r : Ruled) → Some x ≡ Some r → x ≡ r
some_same x r e = cc

pub on_delayed : (n next j u w : ℕ) (s : scan.Side) (t x : Term) (v : Look) (f : Noted) → steps weak_step j t ≡ Some x → has_head s v ≡ false → ((y : Scanned) → scan.scan n s false s.pair x ≡ Some y → IsScanned s u w f y) → f.is_delayed ≡ true →
    IsJudged false u w (solve_for n next s t v)
on_delayed n next j u w s t x v f a h i d r e = let b = behind n next j s t x v r a h e in go b.scanned (i b.scanned b.is) b.rest
  where
    go : (y : Scanned) → IsScanned s u w f y → scanned_to n next s t y ≡ Some r → (u ≡ r.units + w) × (r.verdict ≡ delays)
    go (broken m) k q = absurd k
    go (whole m true ps) k q = transport (λ z. (u ≡ z.units + w) × (z.verdict ≡ delays)) (some_same (ruled m delays) r q) (k.0, refl)
    go (whole m false ps) k q = absurd (let z : true ≡ false = sym d ∙ k.1 in cc)

pub on_bound : (n next j u w : ℕ) (s : scan.Side) (t x : Term) (v : Look) (f : Noted) → steps weak_step j t ≡ Some x → has_head s v ≡ false → ((y : Scanned) → scan.scan n s false s.pair x ≡ Some y → IsScanned s u w f y) → f.is_delayed ≡ false →
    IsJudged true u w (solve_for n next s t v)
on_bound n next j u w s t x v f a h i d r e = let b = behind n next j s t x v r a h e in go b.scanned (i b.scanned b.is) b.rest
  where
    go : (y : Scanned) → IsScanned s u w f y → scanned_to n next s t y ≡ Some r → (u ≡ r.units + w) × IsVerdict true r.verdict
    go (broken m) k q = absurd k
    go (whole m true ps) k q = absurd (let z : false ≡ true = sym d ∙ k.1 in cc)
    go (whole m false ps) k q = let z = bound_units n next m s t ps r q in (transport (λ y. u ≡ y + w) (sym z.0) k.0, z.1)

-- a refusal of the scan
pub scan_out : (n next j u : ℕ) (s : scan.Side) (t x : Term) (v : Look) (e : PatternRefusal) → steps weak_step j t ≡ Some x → has_head s v ≡ false → IsStopped n e u (scan.scan n s false s.pair x) → IsRuledOut n e u (solve_for n next s t v)
scan_out n next j u s t x v refusal.Fails a h k = λ r q. let b = behind n next j s t x v r a h q in go r b.scanned (k b.scanned b.is) b.rest
  where
    go : (r : Ruled) (y : Scanned) → visiting.Fails u y → scanned_to n next s t y ≡ Some r → (r.verdict ≡ fails) × (r.units ≤ u)
    go r (broken m) l q = transport (λ z. (z.verdict ≡ fails) × (z.units ≤ u)) (some_same (ruled m fails) r q) (refl, l)
    go r (whole m d ps) l q = absurd l
scan_out n next j u s t x v Deep a h k = λ l r q. let b = behind n next j s t x v r a h q in go r b.scanned (k l b.scanned b.is) b.rest
  where
    go : (r : Ruled) (y : Scanned) → Exceeds u y → scanned_to n next s t y ≡ Some r → u < r.units
    go r (broken m) l q = transport (λ z. u < z.units) (some_same (ruled m fails) r q) l
    go r (whole m true ps) l q = transport (λ z. u < z.units) (some_same (ruled m delays) r q) l
    go r (whole m false ps) l q = transport (λ z. u < z) (sym (bound_units n next m s t ps r q).0) l
scan_out n next j u s t x v refusal.Memory a h k = tt

-- the side that is a pattern
abbrev pub by_right : ℕ → (next : ℕ) → Pair → (v w : Look) → Option scan.Side → Option Ruled
by_right n next p v w a = option_and_then (λ b. by_pattern n next p v w a b) (pattern_side n p w)

on_left : (n next : ℕ) (p : Pair) (v w : Look) (s : scan.Side) → Below (by_right n next p v w (Some s)) (solve_for n next s p.right w)
on_left n next p v w s r e = (from_bind (λ b. by_pattern n next p v w (Some s) b) (pattern_side n p w) r e).2

pub left_side : (n next level : ℕ) (p : Pair) (v w : Look) (s : Side) → IsSideOf n v level (Some s) → p.level ≡ level → Below (by_rule_5 n next p v w) (solve_for n next (side_of s) p.right w)
left_side n next level p v w s h l r e =
    let a = from_bind (by_right n next p v w) (pattern_side n p v) r e in
    on_left n next p v w (side_of s) r (ap (by_right n next p v w) (sym (h p l a.0 a.1)) ∙ a.2)

pub right_side : (n next level : ℕ) (p : Pair) (v w : Look) (s : Side) → IsSideOf n v level None → IsSideOf n w level (Some s) → p.level ≡ level → Below (by_rule_5 n next p v w) (solve_for n next (side_of s) p.left v)
right_side n next level p v w s h k l r e =
    let a = from_bind (by_right n next p v w) (pattern_side n p v) r e in
    let b = from_bind (by_pattern n next p v w None) (pattern_side n p w) r (ap (by_right n next p v w) (sym (h p l a.0 a.1)) ∙ a.2) in
    ap (by_pattern n next p v w None) (sym (k p l b.0 b.1)) ∙ b.2

pub no_side : (n next level u : ℕ) (p : Pair) (v w : Look) → IsSideOf n v level None → IsSideOf n w level None → p.level ≡ level → IsJudged false u u (by_rule_5 n next p v w)
no_side n next level u p v w h k l r e =
    let a = from_bind (by_right n next p v w) (pattern_side n p v) r e in
    let b = from_bind (by_pattern n next p v w None) (pattern_side n p w) r (ap (by_right n next p v w) (sym (h p l a.0 a.1)) ∙ a.2) in
    let q : Some (ruled 0 delays) ≡ Some r = ap (by_pattern n next p v w None) (sym (k p l b.0 b.1)) ∙ b.2 in
    transport (λ x. (u ≡ x.units + u) × (x.verdict ≡ delays)) (some_same (ruled 0 delays) r q) (let z : u ≡ 0 + u = omega arith in z, refl)

pub left_out : (n next level u : ℕ) (p : Pair) (v w : Look) (e : PatternRefusal) → IsNoSide n v level e → p.level ≡ level → IsRuledOut n e u (by_rule_5 n next p v w)
left_out n next level u p v w refusal.Fails h l = absurd h
left_out n next level u p v w Deep h l = λ k r q. absurd (let a = from_bind (by_right n next p v w) (pattern_side n p v) r q in let z : None ≡ Some a.0 = sym (h k p l) ∙ a.1 in cc)
left_out n next level u p v w refusal.Memory h l = tt

pub right_out : (n next level u : ℕ) (p : Pair) (v w : Look) (e : PatternRefusal) → IsNoSide n w level e → p.level ≡ level → IsRuledOut n e u (by_rule_5 n next p v w)
right_out n next level u p v w refusal.Fails h l = absurd h
right_out n next level u p v w Deep h l = λ k r q.
    absurd (let a = from_bind (by_right n next p v w) (pattern_side n p v) r q in let b = from_bind (by_pattern n next p v w a.0) (pattern_side n p w) r a.2 in let z : None ≡ Some b.0 = sym (h k p l) ∙ b.1 in cc)
right_out n next level u p v w refusal.Memory h l = tt

-- what was seen, in a bank that has grown
view_stays : (b d : Nodes) (s : Bindings) (c : Closing) (h : Head) (top : TermId) (ids : List TermId) → Extends b d → top.0 < length b.terms → All (λ t. t.0 < length b.terms) ids → IsHead b s h (tree b top.0) ids →
    view_of d c h top ids ≡ view_of b c h top ids
view_stays b d s c (Head.Abstraction body) top ids e l a h = ap (λ t. an_abs (below c t)) (e.same_terms body.0 h.1)
view_stays b d s c (Head.Variable x m) top ids e l a h = ap (flexible x m) (unders_kept b d c ids e a)
view_stays b d s c Head.Rigid top ids e l a h = λ i. rigid (under_kept b d c top e l i) (unders_kept b d c ids e a i)

pub view_kept : (b d : Nodes) (s : Bindings) (c : Closing) (r : Looked) → Extends b d → IsLooked b s r → view d c r ≡ view b c r
view_kept b d s c r e k = view_stays b d s c r.head r.top r.arguments.items e k.top k.arguments k.head

pub pair_kept : (b d : Nodes) (s : Bindings) (c : Closing) (level : ℕ) (one other : Looked) (p : Pair) → Extends b d → IsLooked b s one → IsLooked b s other → IsSeenPair b c level one other p → IsSeenPair d c level one other p
pair_kept b d s c level one other p e k m h = record {
  stands = h.stands;
  left = (h.left.0, h.left.1 ∙ ap (λ x. Some x) (sym (under_kept b d c one.whole e k.known)));
  right = (h.right.0, h.right.1 ∙ ap (λ x. Some x) (sym (under_kept b d c other.whole e m.known)));
}

-- both sides on one variable
abbrev pub same_or : ℕ → (next : ℕ) → Pair → (x l : ℕ) → (ts us : List Term) → Compared → Option Ruled
same_or n next p x l ts us c = elim c.same [ true ↦ Some (ruled c.units (gives [] [])) | false ↦ option_map (dear c.units) (by_rule_4 n next p x l ts us) ]

abbrev compared_to : ℕ → (next : ℕ) → Pair → (x l : ℕ) → (ts us : List Term) → Bool → Option Ruled
compared_to n next p x l ts us b = elim b [ true ↦ option_and_then (same_or n next p x l ts us) (compare_all n p.level ts us) | false ↦ by_rule_5 n next p (flexible x l ts) (flexible x l us) ]

one_variable : (n next : ℕ) (p : Pair) (x l : ℕ) (ts us : List Term) → length ts ≡ length us → by_looks n next p (flexible x l ts) (flexible x l us) ≡ option_and_then (same_or n next p x l ts us) (compare_all n p.level ts us)
one_variable n next p x l ts us e =
    let a : nat_eq x x ≡ true = grind (arith, nat_tests) in
    let b : nat_eq l l ≡ true = grind (arith, nat_tests) in
    let d : nat_eq (length ts) (length us) ≡ true = grind (arith, nat_tests) in
    λ i. compared_to n next p x l ts us (a i && b i && d i)

module _ (n next : ℕ) (p : Pair) (x l : ℕ) (ts us : List Term) (e : length ts ≡ length us) where
  pub behind_compare : (r : Ruled) → by_looks n next p (flexible x l ts) (flexible x l us) ≡ Some r → (d : Compared) × (compare_all n p.level ts us ≡ Some d) × (same_or n next p x l ts us d ≡ Some r)
  behind_compare r q = from_bind (same_or n next p x l ts us) (compare_all n p.level ts us) r (sym (one_variable n next p x l ts us e) ∙ q)

  pub or_at : (d : Compared) (b : Bool) (r : Ruled) → b ≡ d.same → same_or n next p x l ts us d ≡ Some r →
      (elim b as (λ z. Option Ruled) [ true ↦ Some (ruled d.units (gives [] [])) | false ↦ option_map (dear d.units) (by_rule_4 n next p x l ts us) ]) ≡ Some r
  or_at d b r h q = ap (λ y. elim y as (λ z. Option Ruled) [ true ↦ Some (ruled d.units (gives [] [])) | false ↦ option_map (dear d.units) (by_rule_4 n next p x l ts us) ]) h ∙ q

  pub variables_same : (u w : ℕ) → IsComparedTo true u w (compare_all n p.level ts us) → IsJudged true u w (by_looks n next p (flexible x l ts) (flexible x l us))
  variables_same u w h r q =
      let d = behind_compare r q in
      let k = h d.0 d.1 in
      transport (λ z. (u ≡ z.units + w) × IsVerdict true z.verdict) (some_same (ruled d.0.units (gives [] [])) r (or_at d.0 true r k.0 d.2)) (k.1, (refl, refl))

  pub variables_differ : (done : Bool) (u v w : ℕ) → IsComparedTo false u v (compare_all n p.level ts us) → IsJudged done v w (by_rule_4 n next p x l ts us) → IsJudged done u w (by_looks n next p (flexible x l ts) (flexible x l us))
  variables_differ done u v w h j r q =
      let d = behind_compare r q in
      let k = h d.0 d.1 in
      let y = from_map (dear d.0.units) (by_rule_4 n next p x l ts us) r (or_at d.0 false r k.0 d.2) in
      let z = j y.0 y.1 in
      transport (λ o. (u ≡ o.units + w) × IsVerdict done o.verdict) (sym y.2) (omega (arith, k.1, z.0), z.1)

  pub differ_out : (u v : ℕ) (o : PatternRefusal) → IsComparedTo false u v (compare_all n p.level ts us) → IsRuledOut n o v (by_rule_4 n next p x l ts us) → IsRuledOut n o u (by_looks n next p (flexible x l ts) (flexible x l us))
  differ_out u v refusal.Fails h j = λ r q.
      let d = behind_compare r q in
      let k = h d.0 d.1 in
      let y = from_map (dear d.0.units) (by_rule_4 n next p x l ts us) r (or_at d.0 false r k.0 d.2) in
      let z = j y.0 y.1 in
      transport (λ o. (o.verdict ≡ fails) × (o.units ≤ u)) (sym y.2) (z.0, omega (arith, k.1, z.1))
  differ_out u v Deep h j = λ m r q.
      let d = behind_compare r q in
      let k = h d.0 d.1 in
      let y = from_map (dear d.0.units) (by_rule_4 n next p x l ts us) r (or_at d.0 false r k.0 d.2) in
      let z = j m y.0 y.1 in
      transport (λ o. u < o.units) (sym y.2) (omega (arith, k.1, z))
  differ_out u v refusal.Memory h j = tt

  pub compare_out : (u : ℕ) (o : PatternRefusal) → ((m : ℕ) → m ≤ 1000000 → IsPassed o u (compare_all m p.level ts us)) → IsRuledOut n o u (by_looks n next p (flexible x l ts) (flexible x l us))
  compare_out u refusal.Fails h = absurd (h 0 (omega arith))
  compare_out u Deep h = λ m r q. let d = behind_compare r q in go d.0 r d.0.same refl (h n m d.0 d.1) d.2
    where
      go : (d : Compared) (r : Ruled) (b : Bool) → b ≡ d.same → u < d.units → same_or n next p x l ts us d ≡ Some r → u < r.units
      go d r true i less q = transport (λ z. u < z.units) (some_same (ruled d.units (gives [] [])) r (or_at d true r i q)) less
      go d r false i less q =
          let y = from_map (dear d.units) (by_rule_4 n next p x l ts us) r (or_at d false r i q) in
          transport (λ z. u < z.units) (sym y.2) (omega (arith, less))
  compare_out u refusal.Memory h = tt

-- both are patterns, or one is none
module _ (n next : ℕ) (p : Pair) (x l : ℕ) (ts us : List Term) where
  abbrev pub when_both : Option (List ℕ) → Option (List ℕ) → Option Ruled
  when_both a b = elim a [
    | None ↦ by_rule_5 n next p (flexible x l ts) (flexible x l us)
    | Some a ↦ elim b [
      | None ↦ by_rule_5 n next p (flexible x l ts) (flexible x l us)
      | Some b ↦ Some (ruled 0 (joined next x l a b))
    ]
  ]

  pub record Both (r : Ruled) : Type 0 where
    pub one : Option (List ℕ)
    pub other : Option (List ℕ)
    pub left : pattern_of n l ts ≡ Some one
    pub right : pattern_of n l us ≡ Some other
    pub is : when_both one other ≡ Some r

  pub both_of : (r : Ruled) → by_rule_4 n next p x l ts us ≡ Some r → Both r
  both_of r q =
      let a = from_bind (λ a. option_and_then (when_both a) (pattern_of n l us)) (pattern_of n l ts) r q in
      let b = from_bind (when_both a.0) (pattern_of n l us) r a.2 in
      record { one = a.0; other = b.0; left = a.1; right = b.1; is = b.2 }

  none_of : (o : Option (List ℕ)) → sides x l p o ≡ None → o ≡ None
  none_of None q = refl
  none_of (Some a) q = absurd (cc)

  pub some_of : (o : Option (List ℕ)) (s : scan.Side) → sides x l p o ≡ Some s → (a : List ℕ) × (o ≡ Some a)
  some_of None s q = absurd (cc)
  some_of (Some a) s q = (a, refl)

  pub side_at : (ws : List Term) (level : ℕ) (o : Option Side) (a : Option (List ℕ)) → IsSideOf n (flexible x l ws) level o → p.level ≡ level → pattern_of n l ws ≡ Some a → sides x l p a ≡ option_map side_of o
  side_at ws level o a h k q = h p k (sides x l p a) (ap (option_map (sides x l p)) q)

  pub four_open : (level : ℕ) → IsSideOf n (flexible x l ts) level None → p.level ≡ level → Below (by_rule_4 n next p x l ts us) (by_rule_5 n next p (flexible x l ts) (flexible x l us))
  four_open level h k r q = let b = both_of r q in ap (λ o. when_both o b.other) (sym (none_of b.one (side_at ts level None b.one h k b.left))) ∙ b.is

  pub four_half : (level : ℕ) (s : Side) → IsSideOf n (flexible x l ts) level (Some s) → IsSideOf n (flexible x l us) level None → p.level ≡ level →
      Below (by_rule_4 n next p x l ts us) (by_rule_5 n next p (flexible x l ts) (flexible x l us))
  four_half level s h i k r q =
      let b = both_of r q in
      let a = some_of b.one (side_of s) (side_at ts level (Some s) b.one h k b.left) in
      (λ j. when_both (sym a.1 j) (sym (none_of b.other (side_at us level None b.other i k b.right)) j)) ∙ b.is

  pub four_joined : (level u : ℕ) (s t : Side) → IsSideOf n (flexible x l ts) level (Some s) → IsSideOf n (flexible x l us) level (Some t) → p.level ≡ level → IsJudged true u u (by_rule_4 n next p x l ts us)
  four_joined level u s t h i k r q =
      let b = both_of r q in
      let a = some_of b.one (side_of s) (side_at ts level (Some s) b.one h k b.left) in
      let d = some_of b.other (side_of t) (side_at us level (Some t) b.other i k b.right) in
      transport (λ z. (u ≡ z.units + u) × IsVerdict true z.verdict) (some_same (ruled 0 (joined next x l a.0 d.0)) r ((λ j. when_both (sym a.1 j) (sym d.1 j)) ∙ b.is)) (let z : u ≡ 0 + u = omega arith in z, tt)

  no_sides : (ws : List Term) (level : ℕ) (a : Option (List ℕ)) → ((p : Pair) → p.level ≡ level → pattern_side n p (flexible x l ws) ≡ None) → p.level ≡ level → pattern_of n l ws ≡ Some a → ⊥
  no_sides ws level a h k q = let z : Some (sides x l p a) ≡ None = ap (option_map (sides x l p)) (sym q) ∙ h p k in absurd (cc)

  pub four_left_out : (level u : ℕ) (o : PatternRefusal) → IsNoSide n (flexible x l ts) level o → p.level ≡ level → IsRuledOut n o u (by_rule_4 n next p x l ts us)
  four_left_out level u refusal.Fails h k = absurd h
  four_left_out level u Deep h k = λ m r q. let b = both_of r q in absurd (no_sides ts level b.one (h m) k b.left)
  four_left_out level u refusal.Memory h k = tt

  pub four_right_out : (level u : ℕ) (o : PatternRefusal) → IsNoSide n (flexible x l us) level o → p.level ≡ level → IsRuledOut n o u (by_rule_4 n next p x l ts us)
  four_right_out level u refusal.Fails h k = absurd h
  four_right_out level u Deep h k = λ m r q. let b = both_of r q in absurd (no_sides us level b.other (h m) k b.right)
  four_right_out level u refusal.Memory h k = tt

and_both : (a b d : Bool) → (a && b && d) ≡ true → (a ≡ true) × (b ≡ true) × (d ≡ true)
and_both true true true e = (refl, refl, refl)
and_both true true false e = absurd (cc)
and_both true false d e = absurd (cc)
and_both false b d e = absurd (cc)

-- what the test for one variable tells
pub one_of : (h g : Head) (i j : ℕ) → is_one_variable h g i j ≡ true → (x : ℕ) × (l : ℕ) × (h ≡ Head.Variable x l) × (g ≡ Head.Variable x l) × (i ≡ j)
one_of (Head.Variable x l) (Head.Variable y k) i j e =
    let w = and_both (nat_eq x y) (nat_eq l k) (nat_eq i j) e in (x, l, refl, (λ z. Head.Variable (sym (same_number x y w.0) z) (sym (same_number l k w.1) z)), same_number i j w.2)
one_of (Head.Variable x l) (Head.Abstraction b) i j e = absurd (cc)
one_of (Head.Variable x l) Head.Rigid i j e = absurd (cc)
one_of (Head.Abstraction b) g i j e = absurd (cc)
one_of Head.Rigid g i j e = absurd (cc)

pub as_variable : (b : Nodes) (c : Closing) (r : Looked) (x l : ℕ) → r.head ≡ Head.Variable x l → view b c r ≡ flexible x l (map (under b c) r.arguments.items)
as_variable b c r x l h = ap (λ y. view_of b c y r.top r.arguments.items) h

-- a variable against another term
pub five : (n next : ℕ) (p : Pair) (b : Nodes) (c : Closing) (h g : Head) (t u : TermId) (ids js : List TermId) → is_flexible h g ≡ true → is_one_variable h g (length ids) (length js) ≡ false →
    by_looks n next p (view_of b c h t ids) (view_of b c g u js) ≡ by_rule_5 n next p (view_of b c h t ids) (view_of b c g u js)
five n next p b c (Head.Abstraction body) g t u ids js f e = absurd (cc)
five n next p b c Head.Rigid (Head.Abstraction body) t u ids js f e = absurd (cc)
five n next p b c Head.Rigid Head.Rigid t u ids js f e = absurd (cc)
five n next p b c Head.Rigid (Head.Variable y k) t u ids js f e = refl
five n next p b c (Head.Variable x l) (Head.Abstraction body) t u ids js f e = absurd (cc)
five n next p b c (Head.Variable x l) Head.Rigid t u ids js f e = refl
five n next p b c (Head.Variable x l) (Head.Variable y k) t u ids js f e =
    ap (λ z. elim z as (λ z. Option Ruled) [
      | true ↦ option_and_then (same_or n next p x l (map (under b c) ids) (map (under b c) js)) (compare_all n p.level (map (under b c) ids) (map (under b c) js))
      | false ↦ by_rule_5 n next p (flexible x l (map (under b c) ids)) (flexible y k (map (under b c) js))
    ]) ((λ i. nat_eq x y && nat_eq l k && nat_eq (length_map (under b c) ids i) (length_map (under b c) js i)) ∙ e)

-- what the definition sees, and what was seen
pub record IsLookedAt (b : Nodes) (c : Closing) (r : Looked) (n : ℕ) (t : Term) (v : Look) : Type 0 where
  pub turns : ℕ
  pub fewer : n ≡ suc turns
  pub is : seen n b c r.head r.top r.arguments.items ≡ Some v

pub looked_at : (b : Nodes) (s : Bindings) (c : Closing) (r : Looked) (n j : ℕ) (t : Term) (v : Look) → IsReading b s c → IsLooked b s r → steps weak_step j t ≡ Some (under b c r.whole) → look n t ≡ Some v → IsLookedAt b c r n t v
looked_at b s c r zero j t v i k e q = absurd (cc)
looked_at b s c r (suc n) j t v i k e q = record { turns = n; fewer = refl; is = sym (whole_look b s c r i k n) ∙ reached_look j (suc n) t (under b c r.whole) e v q }

pub record Ruling (n next : ℕ) (p : Pair) (r : Ruled) : Type 0 where
  pub one : Look
  pub other : Look
  pub left : look n p.left ≡ Some one
  pub right : look n p.right ≡ Some other
  pub is : by_looks n next p one other ≡ Some r

pub ruling : (n next : ℕ) (p : Pair) (r : Ruled) → rule n next p ≡ Some r → Ruling n next p r
ruling n next p r e =
    let v = from_bind (λ v. option_and_then (λ w. by_looks n next p v w) (look n p.right)) (look n p.left) r e in
    let w = from_bind (λ w. by_looks n next p v.0 w) (look n p.right) r v.2 in
    record { one = v.0; other = w.0; left = v.1; right = w.1; is = w.2 }

abbrev IsBare : Head → Type 0
IsBare (Head.Abstraction body) = ⊥
IsBare (Head.Variable x l) = Unit {0}
IsBare Head.Rigid = Unit {0}

bare_view : (n : ℕ) (b : Nodes) (c : Closing) (h : Head) (t : TermId) (ids : List TermId) (v : Look) → IsBare h → seen n b c h t ids ≡ Some v → view_of b c h t ids ≡ v
bare_view n b c (Head.Abstraction body) t ids v i e = absurd i
bare_view n b c (Head.Variable x l) t ids v i e = cc
bare_view n b c Head.Rigid t ids v i e = cc

bare_left : (h g : Head) → is_flexible h g ≡ true → IsBare h
bare_left (Head.Abstraction body) g e = absurd (cc)
bare_left (Head.Variable x l) g e = tt
bare_left Head.Rigid g e = tt

bare_right : (h g : Head) → is_flexible h g ≡ true → IsBare g
bare_right (Head.Abstraction body) g e = absurd (cc)
bare_right (Head.Variable x l) (Head.Abstraction body) e = absurd (cc)
bare_right (Head.Variable x l) (Head.Variable y k) e = tt
bare_right (Head.Variable x l) Head.Rigid e = tt
bare_right Head.Rigid (Head.Abstraction body) e = absurd (cc)
bare_right Head.Rigid (Head.Variable y k) e = tt
bare_right Head.Rigid Head.Rigid e = absurd (cc)

-- an abstraction is seen as one
pub seen_abs : (n : ℕ) (b : Nodes) (c : Closing) (body t : TermId) (ids : List TermId) (v : Look) → seen n b c (Head.Abstraction body) t ids ≡ Some v → (x : Term) × (v ≡ an_abs x)
seen_abs n b c body t ids v e = let w = from_map an_abs (head_normal n (below c (tree b body.0))) v e in (w.0, w.2)

module _ (b : Nodes) (s : Bindings) (c : Closing) (one other : Looked) (i : IsReading b s c) (k : IsLooked b s one) (m : IsLooked b s other) (n next level : ℕ) (p : Pair) (h : IsSeenPair b c level one other p) (r : Ruled)
    (q : rule n next p ≡ Some r) where
  of : Ruling n next p r
  of = ruling n next p r q

  one_at : IsLookedAt b c one n p.left of.one
  one_at = looked_at b s c one n h.left.0 p.left of.one i k h.left.1 of.left

  other_at : IsLookedAt b c other n p.right of.other
  other_at = looked_at b s c other n h.right.0 p.right of.other i m h.right.1 of.right

  pub by_views : is_flexible one.head other.head ≡ true → by_looks n next p (view b c one) (view b c other) ≡ Some r
  by_views f =
      (λ z. by_looks n next p (bare_view n b c one.head one.top one.arguments.items of.one (bare_left one.head other.head f) one_at.is z)
      (bare_view n b c other.head other.top other.arguments.items of.other (bare_right one.head other.head f) other_at.is z)) ∙ of.is

  pub taken_done : (u w : ℕ) (done : Bool) → is_flexible one.head other.head ≡ true → done ≡ true → IsJudged done u w (by_looks n next p (view b c one) (view b c other)) → IsTaken Taken.Gone u w r
  taken_done u w done f d j = let x = j r (by_views f) in (x.0, is_done r.verdict (transport (λ z. IsVerdict z r.verdict) d x.1))
    where
      is_done : (v : Verdict) → IsVerdict true v → IsDone v
      is_done fails y = y
      is_done (gives ts ps) y = tt
      is_done (binds bs next) y = tt
      is_done delays y = y

  pub taken_delayed : (u w : ℕ) (done : Bool) (left : Numbers) → is_flexible one.head other.head ≡ true → done ≡ false → IsJudged done u w (by_looks n next p (view b c one) (view b c other)) → IsTaken (Taken.Delayed left) u w r
  taken_delayed u w done left f d j = let x = j r (by_views f) in (x.0, transport (λ z. IsVerdict z r.verdict) d x.1)

-- a refusal
pub taken_out : (b : Nodes) (s : Bindings) (c : Closing) (one other : Looked) (n next level u : ℕ) (p : Pair) (o : PatternRefusal) → IsReading b s c → IsLooked b s one → IsLooked b s other → IsSeenPair b c level one other p →
    is_flexible one.head other.head ≡ true → IsRuledOut n o u (by_looks n next p (view b c one) (view b c other)) → IsRuledOut n o u (rule n next p)
taken_out b s c one other n next level u p o i k m h f g = out_below n u o (rule n next p) (by_looks n next p (view b c one) (view b c other)) (λ r q. by_views b s c one other i k m n next level p h r q f) g

-- the sides of a pair that were looked at one after the other
pub seen_pair : (b d e : Nodes) (c : Closing) (limit : ℕ) (p : Numbers) (one other : Looked) → Extends b d → Extends d e → p.right.0 < length b.terms → one.whole.0 < length d.terms →
    IsReachedWithin limit (under b c p.left) (under d c one.whole) → IsReachedWithin limit (under d c p.right) (under e c other.whole) → IsSeenPair e c p.level one other (pair_under b c p)
seen_pair b d e c limit p one other x y l k v w = record {
  stands = refl;
  left = (v.0, v.2 ∙ ap (λ z. Some z) (sym (under_kept d e c one.whole y k)));
  right = (w.0, ap (steps weak_step w.0) (sym (under_kept b d c p.right x l)) ∙ w.2);
}
