-- Runs of turns on equations of types.
use Rattle.std.proofs.Common.{◌≡◌, ℕ, zero, suc, ◌+◌, ◌<◌, ◌≤◌, inl, inr, List, [], ◌∷◌, ◌++◌, length, map, reverse, refl, sym, ap, ◌∙◌, subst, arith, Bool, true, false, nat_eq, if◌then◌else◌, Option, Some, None, append_assoc, append-nil}
use Rattle.std.specs.Prelude.{◌||◌}
use Rattle.lp_lemmas.proofs.Booleans.{or_assoc}
use Rattle.lp_lemmas.proofs.Lists.{reverse_pushed}
use Rattle.lp_calculus.specs.Types.{Ty}
use Rattle.lp_calculus.specs.Term.{Term}
use Rattle.lp_store.specs.declared.cell.CellId.{CellId}
use Rattle.lp_store.specs.Contents.{Contents, cell_at}
use Rattle.lp_store.specs.Reading.{Reads, ReadsType}
use Rattle.lp_model.specs.Types.{TypePair, TypeBinding, put_type, put_types, put_in_pair, visit, TypeVerdict, differ, parts, bound, TypeRuled, plainly, of_parts, bind_type, type_rule, same_top, TypeOutcome, none, solved, solve_types}
use Rattle.lp_model.specs.Pair.{put_type_in, put_types_in}
use Rattle.lp_model.specs.Unify.{is_some_bound}
use Rattle.lp_unify.specs.declared.fault.PatternRefusal.{PatternRefusal}
use Rattle.lp_unify.specs.declared.round.Round.{Round}
use Rattle.lp_unify.specs.TypeEquations.{ReadsPair, ReadPairs, AreTypesPut, AreSolved, units_of, AreRefused}
use Rattle.lp_susp.specs.Route.{RefsTo}
use Rattle.lp_susp.proofs.Routes.{refs_type}
use Rattle.lp_unify.specs.declared.types.Choice.{Choice}
use Rattle.lp_unify.proofs.TypeCells.{made_read, rule_made, dropped, bound_by}
use Rattle.lp_unify.specs.TypeTurns.{IsResolved, IsChosen, IsSplit, IsTurn, IsTurnRefused, IsBoundTo, IsUnboundAs, IsLedOn}

-- types put in, one list behind another
put_more : (bs cs : List TypeBinding) (T : Ty) → put_types (bs ++ cs) T ≡ put_types cs (put_types bs T)
put_more [] cs T = refl
put_more (b ∷ bs) cs T = put_more bs cs (put_type b T)

put_more_in : (bs cs : List TypeBinding) (t : Term) → put_types_in (bs ++ cs) t ≡ put_types_in cs (put_types_in bs t)
put_more_in [] cs t = refl
put_more_in (b ∷ bs) cs t = put_more_in bs cs (put_type_in b t)

pub put_none : (s : Contents) → AreTypesPut [] s s
put_none s = record { types = λ i T r. r; terms = λ i t r. r }

pub put_then : (bs cs : List TypeBinding) (a b c : Contents) → AreTypesPut bs a b → AreTypesPut cs b c → AreTypesPut (bs ++ cs) a c
put_then bs cs a b c p q = record {
  types = λ i T r. subst (ReadsType c i) (sym (put_more bs cs T)) (q.types i (put_types bs T) (p.types i T r));
  terms = λ i t r. subst (Reads c i) (sym (put_more_in bs cs t)) (q.terms i (put_types_in bs t) (p.terms i t r));
}

pub put_in_pairs : (b : TypeBinding) (s z : Contents) (xs : List (CellId × CellId)) (ps : List TypePair) → AreTypesPut (b ∷ []) s z → ReadPairs s xs ps → ReadPairs z xs (map (put_in_pair b) ps)
put_in_pairs b s z [] [] k r = tt
put_in_pairs b s z [] (p ∷ ps) k r = absurd r
put_in_pairs b s z (x ∷ xs) [] k r = absurd r
put_in_pairs b s z (x ∷ xs) (p ∷ ps) k r = (record { left = k.types x.0.0 p.left r.0.left; right = k.types x.1.0 p.right r.0.right }, put_in_pairs b s z xs ps k r.1)

-- one turn
abbrev next : ℕ → List TypePair → List TypeBinding → ℕ → TypeRuled → Option TypeOutcome
next n ps made u r = elim r.verdict [
  | differ ↦ Some (none (suc u + r.units))
  | parts qs ↦ solve_types n (qs ++ ps) made (suc u + r.units)
  | bound b ↦ solve_types n (map (put_in_pair b) ps) (made ++ b ∷ []) (suc u + r.units)
]

turn_is : (n : ℕ) (p : TypePair) (ps : List TypePair) (made : List TypeBinding) (u : ℕ) (r : TypeRuled) → type_rule p.left p.right ≡ r → solve_types (suc n) (p ∷ ps) made u ≡ next n ps made u r
turn_is n p ps made u r e = ap (next n ps made u) e

bind_absent : (x : ℕ) (T : Ty) → (visit x T).found ≡ false → bind_type x T ≡ record { verdict = bound (record { id = x; value = T }); units = (visit x T).units }
bind_absent x T e = ap (λ b. if b then record { verdict = differ; units = (visit x T).units } else record { verdict = bound (record { id = x; value = T }); units = (visit x T).units }) e

bind_present : (x : ℕ) (T : Ty) → (visit x T).found ≡ true → bind_type x T ≡ record { verdict = differ; units = (visit x T).units }
bind_present x T e = ap (λ b. if b then record { verdict = differ; units = (visit x T).units } else record { verdict = bound (record { id = x; value = T }); units = (visit x T).units }) e

bind_units : (x : ℕ) (T : Ty) → (bind_type x T).units ≡ (visit x T).units
bind_units x T = go (visit x T).found refl
  where
    go : (b : Bool) → (visit x T).found ≡ b → (bind_type x T).units ≡ (visit x T).units
    go true e = ap (λ y. y.units) (bind_present x T e)
    go false e = ap (λ y. y.units) (bind_absent x T e)

or_false : (b : Bool) → b ≡ (b || false)
or_false true = refl
or_false false = refl

or_true : (b : Bool) → true ≡ (b || true)
or_true true = refl
or_true false = refl

-- nothing is left of the pair, or its parts
pub turn_parts : (s : Contents) (before after : Round) (p : TypePair) (ps qs : List TypePair) → type_rule p.left p.right ≡ plainly (parts qs) → before.units ≡ suc after.units → after.is_bound ≡ before.is_bound → IsTurn s s before after p ps (qs ++ ps)
turn_parts s before after p ps qs e u k = record {
  bindings = [];
  cost = 0;
  comes = λ n made m. turn_is n p ps made m (plainly (parts qs)) e ∙ ap (λ l. solve_types n (qs ++ ps) l (suc m + 0)) (sym (append-nil made));
  put = put_none s;
  units = omega (arith, u);
  bound = k ∙ or_false before.is_bound;
}

-- a variable is bound
pub turn_bound : (s z : Contents) (before mid after : Round) (p : TypePair) (ps : List TypePair) (x : ℕ) (T : Ty) → type_rule p.left p.right ≡ bind_type x T → before.units ≡ suc mid.units → mid.is_bound ≡ before.is_bound → IsBoundTo s z mid after x T →
    IsTurn s z before after p ps (map (put_in_pair (record { id = x; value = T })) ps)
turn_bound s z before mid after p ps x T e u k h = record {
  bindings = record { id = x; value = T } ∷ [];
  cost = (visit x T).units;
  comes = λ n made m. turn_is n p ps made m (record { verdict = bound (record { id = x; value = T }); units = (visit x T).units }) (e ∙ bind_absent x T h.absent);
  put = h.put;
  units = (let v = h.units in omega (arith, u, v));
  bound = h.bound ∙ or_true before.is_bound;
}

-- it has no solution, or costs too much
pub refused_bound : (e : PatternRefusal) (before mid : ℕ) (p : TypePair) (x : ℕ) (T : Ty) → type_rule p.left p.right ≡ bind_type x T → before ≡ suc mid → IsUnboundAs e mid x T → IsTurnRefused e before p
refused_bound PatternRefusal.Fails before mid p x T r u h =
    let q = r ∙ bind_present x T h.0 in
    let n = ap (λ y. y.units) q in
    let m = h.1 in
    (ap (λ y. y.verdict) q, omega (arith, n, m, u))
refused_bound PatternRefusal.Deep before mid p x T r u h =
    let n = ap (λ y. y.units) r ∙ bind_units x T in
    let g : mid < (visit x T).units = h in
    omega (arith, n, g, u)
refused_bound PatternRefusal.Memory before mid p x T r u h = tt

pub refused_apart : (before mid : ℕ) (p : TypePair) → type_rule p.left p.right ≡ plainly differ → before ≡ suc mid → ((type_rule p.left p.right).verdict ≡ differ) × (suc (type_rule p.left p.right).units ≤ before)
refused_apart before mid p r u = let n = ap (λ y. y.units) r in (ap (λ y. y.verdict) r, omega (arith, n, u))

pub refused_spent : (before : ℕ) (p : TypePair) → before ≡ 0 → before < suc (type_rule p.left p.right).units
refused_spent before p e = omega (arith, e)

-- equations that are partly solved
pub record IsPartlySolved (old new : Contents) (before after : Round) (all : List TypePair) (todo : List (CellId × CellId)) : Type 0 where
  pub left : List TypePair
  pub reads : ReadPairs new todo left
  pub bindings : List TypeBinding
  pub used : ℕ
  pub put : AreTypesPut bindings old new
  pub reaches : (n : ℕ) (o : TypeOutcome) → solve_types n left bindings used ≡ Some o → (m : ℕ) × (solve_types m all [] 0 ≡ Some o)
  pub passes : (m : ℕ) (o : TypeOutcome) → solve_types m all [] 0 ≡ Some o → (n : ℕ) × (solve_types n left bindings used ≡ Some o)
  pub units : before.units ≡ used + after.units
  pub bound : after.is_bound ≡ (before.is_bound || is_some_bound bindings)

pub partly_first : (s : Contents) (before : Round) (all : List TypePair) (todo : List (CellId × CellId)) → ReadPairs s todo all → IsPartlySolved s s before before all todo
partly_first s before all todo r = record {
  left = all;
  reads = r;
  bindings = [];
  used = 0;
  put = put_none s;
  reaches = λ n o e. (n, e);
  passes = λ m o e. (m, e);
  units = omega arith;
  bound = or_false before.is_bound;
}

some_more : (bs cs : List TypeBinding) → is_some_bound (bs ++ cs) ≡ (is_some_bound bs || is_some_bound cs)
some_more [] cs = refl
some_more (b ∷ bs) cs = refl

bound_on : (before between after : Bool) (bs cs : List TypeBinding) → between ≡ (before || is_some_bound bs) → after ≡ (between || is_some_bound cs) → after ≡ (before || is_some_bound (bs ++ cs))
bound_on before between after bs cs p q = q ∙ ap (λ b. b || is_some_bound cs) p ∙ or_assoc before (is_some_bound bs) (is_some_bound cs) ∙ ap (λ b. before || b) (sym (some_more bs cs))

-- the first of the pairs that are left
pub record Firsts (s : Contents) (pair : CellId × CellId) (rest : List (CellId × CellId)) (ps : List TypePair) : Type 0 where
  pub first : TypePair
  pub others : List TypePair
  pub is : ps ≡ first ∷ others
  pub top : ReadsPair s pair first
  pub below : ReadPairs s rest others

pub firsts : (s : Contents) (pair : CellId × CellId) (rest : List (CellId × CellId)) (ps : List TypePair) → ReadPairs s (pair ∷ rest) ps → Firsts s pair rest ps
firsts s pair rest [] r = absurd r
firsts s pair rest (p ∷ ps) r = record { first = p; others = ps; is = refl; top = r.0; below = r.1 }

passes_on : (n : ℕ) (p : TypePair) (ps qs : List TypePair) (made bs : List TypeBinding) (u cost : ℕ) (o : TypeOutcome) → ((k : ℕ) → solve_types (suc k) (p ∷ ps) made u ≡ solve_types k qs (made ++ bs) (suc u + cost)) → solve_types n (p ∷ ps) made u ≡ Some o → (k : ℕ) × (solve_types k qs (made ++ bs) (suc u + cost) ≡ Some o)
passes_on zero p ps qs made bs u cost o f e = absurd (cc)
passes_on (suc k) p ps qs made bs u cost o f e = (k, sym (f k) ∙ e)

reaches_on : (n : ℕ) (left : List TypePair) (p : TypePair) (ps qs : List TypePair) (made bs : List TypeBinding) (u cost : ℕ) (o : TypeOutcome) → left ≡ p ∷ ps → solve_types (suc n) (p ∷ ps) made u ≡ solve_types n qs (made ++ bs) (suc u + cost) →
    solve_types n qs (made ++ bs) (suc u + cost) ≡ Some o → solve_types (suc n) left made u ≡ Some o
reaches_on n left p ps qs made bs u cost o e f q = ap (λ l. solve_types (suc n) l made u) e ∙ f ∙ q

pub partly_on : (old mid new : Contents) (before between after : Round) (all : List TypePair) (all_todo todo new_todo : List (CellId × CellId)) (pair : CellId × CellId) → all_todo ≡ todo ++ pair ∷ [] → IsPartlySolved old mid before between all (reverse all_todo) →
    ((p : TypePair) (ps : List TypePair) → ReadsPair mid pair p → ReadPairs mid (reverse todo) ps → IsLedOn mid new between after p ps new_todo) → IsPartlySolved old new before after all new_todo
partly_on old mid new before between after all all_todo todo new_todo pair e k f =
    let t = firsts mid pair (reverse todo) k.left (subst (λ l. ReadPairs mid l k.left) (reverse_pushed all_todo todo pair e) k.reads) in
    let w = f t.first t.others t.top t.below in
    let h = w.2 in
    let v = k.units in
    let z = h.units in
    record {
      left = w.0;
      reads = w.1;
      bindings = k.bindings ++ h.bindings;
      used = suc k.used + h.cost;
      put = put_then k.bindings h.bindings old mid new k.put h.put;
      reaches = λ n o q. k.reaches (suc n) o (reaches_on n k.left t.first t.others w.0 k.bindings h.bindings k.used h.cost o t.is (h.comes n k.bindings k.used) q);
      passes = λ m o q. (
          let r = k.passes m o q in
          passes_on r.0 t.first t.others w.0 k.bindings h.bindings k.used h.cost o (λ j. h.comes j k.bindings k.used) (ap (λ l. solve_types r.0 l k.bindings k.used) (sym t.is) ∙ r.1)
          );
      units = omega (arith, v, z);
      bound = bound_on before.is_bound between.is_bound after.is_bound k.bindings h.bindings k.bound h.bound;
    }

pub partly_solved : (old new : Contents) (before after : Round) (all : List TypePair) (todo : List (CellId × CellId)) → todo ≡ [] → IsPartlySolved old new before after all (reverse todo) → AreSolved old new before after all
partly_solved old new before after all todo e k =
    let h = empty k.left (subst (λ l. ReadPairs new (reverse l) k.left) e k.reads) in
    let r = k.reaches 1 (solved k.bindings k.used) (ap (λ l. solve_types 1 l k.bindings k.used) h) in
    record { bindings = k.bindings; used = k.used; steps = r.0; comes = r.1; put = k.put; units = k.units; bound = k.bound }
  where
    empty : (ps : List TypePair) → ReadPairs new [] ps → ps ≡ []
    empty [] r = refl
    empty (p ∷ ps) r = absurd r

-- units only grow
some_equal : (a b : TypeOutcome) → Some a ≡ Some b → a ≡ b
some_equal a b e = cc

next_units : (n : ℕ) (ps : List TypePair) (made : List TypeBinding) (u : ℕ) (o : TypeOutcome) → ((qs : List TypePair) (bs : List TypeBinding) (v : ℕ) → solve_types n qs bs v ≡ Some o → v ≤ units_of o) →
    (r : TypeRuled) → next n ps made u r ≡ Some o → suc u + r.units ≤ units_of o
next_units n ps made u o h r e = elim r.verdict as (λ v. (elim v [
  | differ ↦ Some (none (suc u + r.units))
  | parts qs ↦ solve_types n (qs ++ ps) made (suc u + r.units)
  | bound b ↦ solve_types n (map (put_in_pair b) ps) (made ++ b ∷ []) (suc u + r.units)
]) ≡ Some o → suc u + r.units ≤ units_of o) [
  | differ ↦ λ q. (let k : suc u + r.units ≡ units_of o = ap units_of (some_equal (none (suc u + r.units)) o q) in omega (arith, k))
  | parts qs ↦ λ q. h (qs ++ ps) made (suc u + r.units) q
  | bound b ↦ λ q. h (map (put_in_pair b) ps) (made ++ b ∷ []) (suc u + r.units) q
] e

units_grow : (n : ℕ) (ps : List TypePair) (made : List TypeBinding) (u : ℕ) (o : TypeOutcome) → solve_types n ps made u ≡ Some o → u ≤ units_of o
units_grow zero ps made u o e = absurd (cc)
units_grow (suc n) [] made u o e = let k : u ≡ units_of o = ap units_of (some_equal (solved made u) o e) in omega (arith, k)
units_grow (suc n) (p ∷ ps) made u o e = let k = next_units n ps made u o (λ qs bs v q. units_grow n qs bs v o q) (type_rule p.left p.right) e in omega (arith, k)

units_first : (n : ℕ) (p : TypePair) (ps : List TypePair) (made : List TypeBinding) (u : ℕ) (o : TypeOutcome) → solve_types n (p ∷ ps) made u ≡ Some o → suc u + (type_rule p.left p.right).units ≤ units_of o
units_first zero p ps made u o e = absurd (cc)
units_first (suc n) p ps made u o e = next_units n ps made u o (λ qs bs v q. units_grow n qs bs v o q) (type_rule p.left p.right) e

differs : (n : ℕ) (p : TypePair) (ps : List TypePair) (made : List TypeBinding) (u : ℕ) → (type_rule p.left p.right).verdict ≡ differ → solve_types (suc n) (p ∷ ps) made u ≡ Some (none (suc u + (type_rule p.left p.right).units))
differs n p ps made u e = ap (λ v. elim v [
  | differ ↦ Some (none (suc u + (type_rule p.left p.right).units))
  | parts qs ↦ solve_types n (qs ++ ps) made (suc u + (type_rule p.left p.right).units)
  | bound b ↦ solve_types n (map (put_in_pair b) ps) (made ++ b ∷ []) (suc u + (type_rule p.left p.right).units)
]) e

-- a turn that is refused refuses the whole
pub partly_refused : (e : PatternRefusal) (old mid : Contents) (before between : Round) (all : List TypePair) (all_todo todo : List (CellId × CellId)) (pair : CellId × CellId) → all_todo ≡ todo ++ pair ∷ [] → IsPartlySolved old mid before between all (reverse all_todo) →
    ((p : TypePair) → ReadsPair mid pair p → IsTurnRefused e between.units p) → AreRefused e before.units all
partly_refused PatternRefusal.Fails old mid before between all all_todo todo pair e k f =
    let t = firsts mid pair (reverse todo) k.left (subst (λ l. ReadPairs mid l k.left) (reverse_pushed all_todo todo pair e) k.reads) in
    let h = f t.first t.top in
    let used = suc k.used + (type_rule t.first.left t.first.right).units in
    let r = k.reaches 1 (none used) (ap (λ l. solve_types 1 l k.bindings k.used) t.is ∙ differs 0 t.first t.others k.bindings k.used h.0) in
    let v = k.units in
    let z = h.1 in
    (r.0, used, r.1, omega (arith, v, z))
partly_refused PatternRefusal.Deep old mid before between all all_todo todo pair e k f = λ steps o q.
    let t = firsts mid pair (reverse todo) k.left (subst (λ l. ReadPairs mid l k.left) (reverse_pushed all_todo todo pair e) k.reads) in
    let h : between.units < suc (type_rule t.first.left t.first.right).units = f t.first t.top in
    let r = k.passes steps o q in
    let m = units_first r.0 t.first t.others k.bindings k.used o (ap (λ l. solve_types r.0 l k.bindings k.used) (sym t.is) ∙ r.1) in
    let v = k.units in
    omega (arith, h, m, v)
partly_refused PatternRefusal.Memory old mid before between all all_todo todo pair e k f = tt

-- what a turn makes of the choice
pub taken_dropped : (s : Contents) (before after : Round) (one other : CellId) (pair : CellId × CellId) (todo : List (CellId × CellId)) (p : TypePair) (ps : List TypePair) → IsChosen s one other Choice.Drop → RefsTo s pair.0.0 one.0 → RefsTo s pair.1.0 other.0 →
    before.units ≡ suc after.units → after.is_bound ≡ before.is_bound → ReadsPair s pair p → ReadPairs s todo ps → IsLedOn s s before after p ps todo
taken_dropped s before after one other pair todo p ps h f g u k r q = (ps, q, turn_parts s before after p ps [] (dropped s one other p.left p.right h (refs_type f r.left) (refs_type g r.right)).0 u k)

pub taken_bound : (s z : Contents) (before mid after : Round) (one other x to : CellId) (pair : CellId × CellId) (todo : List (CellId × CellId)) (p : TypePair) (ps : List TypePair) → IsChosen s one other (Choice.Bind x to) →
    RefsTo s pair.0.0 one.0 → RefsTo s pair.1.0 other.0 → IsResolved (cell_at s one.0) → IsResolved (cell_at s other.0) → before.units ≡ suc mid.units → mid.is_bound ≡ before.is_bound → ((T : Ty) → ReadsType s to.0 T → IsBoundTo s z mid after x.0 T) →
    ReadsPair s pair p → ReadPairs s todo ps → IsLedOn s z before after p ps todo
taken_bound s z before mid after one other x to pair todo p ps h f g m n u k b r q =
    let w = bound_by s one other x to p.left p.right h m n (refs_type f r.left) (refs_type g r.right) in
    let d = b w.0 w.1 in
    (map (put_in_pair (record { id = x.0; value = w.0 })) ps, put_in_pairs (record { id = x.0; value = w.0 }) s z todo ps d.put q, turn_bound s z before mid after p ps x.0 w.0 w.2 u k d)

pub taken_unbound : (e : PatternRefusal) (s : Contents) (before mid : ℕ) (one other x to : CellId) (pair : CellId × CellId) (p : TypePair) → IsChosen s one other (Choice.Bind x to) →
    RefsTo s pair.0.0 one.0 → RefsTo s pair.1.0 other.0 → IsResolved (cell_at s one.0) → IsResolved (cell_at s other.0) → before ≡ suc mid → ((T : Ty) → ReadsType s to.0 T → IsUnboundAs e mid x.0 T) → ReadsPair s pair p → IsTurnRefused e before p
taken_unbound e s before mid one other x to pair p h f g m n u b r =
    let w = bound_by s one other x to p.left p.right h m n (refs_type f r.left) (refs_type g r.right) in
    refused_bound e before mid p x.0 w.0 w.2 u (b w.0 w.1)

pub taken_split : (s : Contents) (before after : Round) (one other : CellId) (pair : CellId × CellId) (todo new : List (CellId × CellId)) (p : TypePair) (ps : List TypePair) → IsChosen s one other Choice.Split →
    RefsTo s pair.0.0 one.0 → RefsTo s pair.1.0 other.0 → IsResolved (cell_at s one.0) → IsResolved (cell_at s other.0) → before.units ≡ suc after.units → after.is_bound ≡ before.is_bound →
    ((A B : Ty) → ReadsType s one.0 A → ReadsType s other.0 B → IsSplit true s A B todo new) → ReadsPair s pair p → ReadPairs s todo ps → IsLedOn s s before after p ps new
taken_split s before after one other pair todo new p ps h f g m n u k b r q =
    let x = refs_type f r.left in
    let y = refs_type g r.right in
    let w = b p.left p.right x y in
    (w.0 ++ ps, w.2 ps q, turn_parts s before after p ps w.0 (rule_made p.left p.right (made_read s one p.left m h.0 x) (made_read s other p.right n h.1 y) ∙ ap of_parts w.1) u k)

pub taken_apart : (s : Contents) (before mid : ℕ) (one other : CellId) (pair : CellId × CellId) (p : TypePair) → IsChosen s one other Choice.Split →
    RefsTo s pair.0.0 one.0 → RefsTo s pair.1.0 other.0 → IsResolved (cell_at s one.0) → IsResolved (cell_at s other.0) → before ≡ suc mid → ((A B : Ty) → ReadsType s one.0 A → ReadsType s other.0 B → same_top A B ≡ None) → ReadsPair s pair p →
    ((type_rule p.left p.right).verdict ≡ differ) × (suc (type_rule p.left p.right).units ≤ before)
taken_apart s before mid one other pair p h f g m n u b r =
    let x = refs_type f r.left in
    let y = refs_type g r.right in
    refused_apart before mid p (rule_made p.left p.right (made_read s one p.left m h.0 x) (made_read s other p.right n h.1 y) ∙ ap of_parts (b p.left p.right x y)) u
