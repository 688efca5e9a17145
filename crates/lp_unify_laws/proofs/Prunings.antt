-- Pruning and lowering keep each solution and the types of terms; each new variable has a type.
use Rattle.std.proofs.Common.{◌≡◌, ℕ, zero, suc, ◌<◌, ◌≤◌, min, List, [], ◌∷◌, ◌++◌, map, length, ◌∙◌, refl, sym, ap, subst as transport, arith, Bool, true, false, nat_eq, if◌then◌else◌, ◌||◌, Option, Some, None, inr}
use Rattle.std.specs.Prelude.{◌&&◌, nat_le, nat_lt, option_map}
use Rattle.std.proofs.lemmas.Option.{option_and_then_some}
use Rattle.std.proofs.lemmas.Bool.Decides.{nat_tests}
use Rattle.lp_calculus.specs.Term.{Term, atom, apply, Atom, constant, integer, text, eigen, logic, param}
use Rattle.lp_calculus.specs.Convert.{Converts, same, ReducesTo}
use Rattle.lp_calculus.proofs.BetaEta.{conversion_meets}
use Rattle.lp_calculus.specs.Fill.{Within, close, Binding, put, put_all, abstracted}
use Rattle.lp_model.specs.Patterns.{eigens, member, chosen}
use Rattle.lp_unify_laws.specs.Levels.{IsPairAtom, IsClosing, IsLevelAtom}
use Rattle.lp_model.specs.Scan.{Side, is_side, allows, Pattern, fits, first_misfit, renewal, broken, whole, scan, Pruned, led_by, prune}
use Rattle.lp_unify_laws.specs.Right.{AreScoped, Keeps}
use Rattle.lp_calculus.proofs.Fills.{within_more, within_both}
use Rattle.lp_calculus.proofs.Steps.{converts_on, converts_sym, converts_is, converts_reduces, within_reduces}
use Rattle.lp_unify_laws.proofs.Abstractions.{close_pattern}
use Rattle.lp_unify_laws.proofs.Sames.{both, both_on, same_number}
use Rattle.lp_unify_laws.proofs.Closings.{WithinAll, within_apply, apply_within}
use Rattle.lp_unify_laws.proofs.News.{Among, Reach, extended, extended_closing, abstracted_closed, renewed_scoped, renewed_through}
use Rattle.lp_unify_laws.proofs.Scans.{Seen, Scans, ScansAll, scans_abs, scans_rigid, scans_pattern, scans_flexible, scans_none, scans_more, scan_tells}
use Rattle.lp_unify_laws.proofs.Cleans.{Clean, IsClean, clean_like, CleanPattern, EachClean, clean_none, clean_more, clean_patterns, EachFits}
use Rattle.lp_calculus.specs.Types.{Ty, instance}
use Rattle.lp_calculus.specs.Typing.{HasType}
use Rattle.lp_model.specs.Proofs.{Declared}
use Rattle.lp_model.specs.Answers.{Variable, IsPrefix, IsScopedAtom}
use Rattle.lp_unify_laws.proofs.Scopes.{IsMore, more_none, more_on, in_scope, variable_of, prefix_more, prefix_on, append_none, length_last, arrows, types_in, pattern_parts}
use Rattle.lp_unify_laws.proofs.NewVariables.{AreClosedIn, closed_arrows, IsTypedClosing, IsTypedBinding, IsNew, new_variable, with_new, one_more, new_binding, new_closing}
use Rattle.lp_unify_laws.proofs.TypedBindings.{IsTypedTerm, term_more, binding_more, put_typed, AreTypedBindings}
use Rattle.lp_unify_laws.proofs.Placed.{IsScopedVariable, scoped_variable, IsPlaced, ArePlaced, scans_placed, IsTypedSide, side_more, eigens_grow, eigens_chosen, eigens_append, closed_grow, closed_chosen, closed_append, side_closed, shorter}
use Rattle.lp_calculus.specs.Closed.{IsClosedType}
use Rattle.lp_calculus.specs.Instance.{instance_term}
use Rattle.lp_unify_laws.proofs.Instances.{instance_binding, put_instance, renewed_instance}
use Rattle.lp_unify_laws.proofs.TypedInstances.{length_variables}
use Rattle.lp_unify_laws.proofs.NewInstances.{variables_at, scope_at, pair_term, scans_instance, eigens_at, prefix_at, new_at, with_new_at, side_at}
use Rattle.lp_unify_laws.proofs.Throughs.{put_within, pair_next_term, gives_term}

-- membership
member_append : (k : ℕ) (xs ys : List ℕ) → member k (xs ++ ys) ≡ (member k xs || member k ys)
member_append k [] ys = refl
member_append k (x ∷ xs) ys = assoc (nat_eq k x) (member k xs) (member k ys) (member k (xs ++ ys)) (member_append k xs ys)
  where
    assoc : (a b c d : Bool) → d ≡ (b || c) → (a || d) ≡ ((a || b) || c)
    assoc true b c d h = refl
    assoc false b c d h = h

or_false_right : (b c : Bool) → b ≡ false → (b || c) ≡ true → c ≡ true
or_false_right true c e h = absurd (cc)
or_false_right false c e h = h

or_true_left : (b c : Bool) → b ≡ true → (b || c) ≡ true
or_true_left true c h = refl
or_true_left false c h = absurd (cc)

or_true_right : (b c : Bool) → c ≡ true → (b || c) ≡ true
or_true_right true c h = refl
or_true_right false c h = h

member_chosen : (f : ℕ → Bool) (k : ℕ) (xs : List ℕ) → member k xs ≡ true → f k ≡ true → member k (chosen f xs) ≡ true
member_chosen f k [] h e = absurd (cc)
member_chosen f k (x ∷ xs) h e = elim (nat_eq k x) as (λ b. nat_eq k x ≡ b → member k (if f x then x ∷ chosen f xs else chosen f xs) ≡ true) [
  | true ↦ λ p. let q = same_number k x p in
      let g : f x ≡ true = transport (λ z. f z ≡ true) q e in
      transport (λ z. member k (if z then x ∷ chosen f xs else chosen f xs) ≡ true) (sym g) (or_true_left (nat_eq k x) (member k (chosen f xs)) p)
  | false ↦ λ p. let i = member_chosen f k xs (or_false_right (nat_eq k x) (member k xs) p h) e in either (f x) i
] refl
  where
    either : (b : Bool) → member k (chosen f xs) ≡ true → member k (if b then x ∷ chosen f xs else chosen f xs) ≡ true
    either true i = or_true_right (nat_eq k x) (member k (chosen f xs)) i
    either false i = i

-- the new variable's arguments are up to m or in b
reach_append : (m : ℕ) (b xs ys : List ℕ) → Reach m b xs → Reach m b ys → Reach m b (xs ++ ys)
reach_append m b [] ys h k = k
reach_append m b (x ∷ xs) ys h k = (h.0, reach_append m b xs ys h.1 k)

reach_low : (m : ℕ) (b xs : List ℕ) → Reach m b (chosen (λ k. nat_le k m) xs)
reach_low m b [] = tt
reach_low m b (x ∷ xs) = elim (nat_le x m) as (λ z. nat_le x m ≡ z → Reach m b (if z then x ∷ chosen (λ k. nat_le k m) xs else chosen (λ k. nat_le k m) xs)) [
  | true ↦ λ p. (or_true_left (nat_le x m) (member x b) p, reach_low m b xs)
  | false ↦ λ p. reach_low m b xs
] refl

abbrev AllIn : List ℕ → List ℕ → Type 0
AllIn b [] = Unit {0}
AllIn b (x ∷ xs) = (member x b ≡ true) × AllIn b xs

all_in_more : (c : ℕ) (b xs : List ℕ) → AllIn b xs → AllIn (c ∷ b) xs
all_in_more c b [] h = tt
all_in_more c b (x ∷ xs) h = (or_true_right (nat_eq x c) (member x b) h.0, all_in_more c b xs h.1)

all_in : (b : List ℕ) → AllIn b b
all_in [] = tt
all_in (c ∷ b) = let p : nat_eq c c ≡ true = grind (arith, nat_tests) in (or_true_left (nat_eq c c) (member c b) p, all_in_more c b b (all_in b))

reach_in : (m : ℕ) (b : List ℕ) (f : ℕ → Bool) (xs : List ℕ) → AllIn b xs → Reach m b (chosen f xs)
reach_in m b f [] h = tt
reach_in m b f (x ∷ xs) h = elim (f x) as (λ z. Reach m b (if z then x ∷ chosen f xs else chosen f xs)) [
  | true ↦ (or_true_right (nat_le x m) (member x b) h.0, reach_in m b f xs h.1)
  | false ↦ reach_in m b f xs h.1
]

abbrev given : Side → ℕ → List ℕ → List ℕ
given s m b = chosen (λ k. nat_le k m) s.arguments ++ chosen (allows s) b

reach_given : (s : Side) (m : ℕ) (b : List ℕ) → Reach m b (given s m b)
reach_given s m b = reach_append m b (chosen (λ k. nat_le k m) s.arguments) (chosen (allows s) b) (reach_low m b s.arguments) (reach_in m b (allows s) b (all_in b))

-- what is clean, and closed at m but for b, has only what the new variable may have
among_given : (s : Side) (m : ℕ) (b : List ℕ) → m ≤ s.pair → (a : Atom) → Clean s a → Among m b a → Among (min s.level m) (given s m b) a
among_given s m b h (eigen k) c a = elim (member k b) as (λ z. member k b ≡ z → (nat_le k (min s.level m) || member k (given s m b)) ≡ true) [
  | true ↦ λ p. or_true_right (nat_le k (min s.level m)) (member k (given s m b)) (member_append k (chosen (λ j. nat_le j m) s.arguments) (chosen (allows s) b) ∙ or_true_right (member k (chosen (λ j. nat_le j m) s.arguments)) (member k (chosen (allows s) b)) (member_chosen (allows s) k b p c))
  | false ↦ λ p.
      let low : nat_le k m ≡ true = left_of (nat_le k m) (member k b) p a in
      elim (nat_le k s.level) as (λ z. nat_le k s.level ≡ z → (nat_le k (min s.level m) || member k (given s m b)) ≡ true) [
        | true ↦ λ q. let r : nat_le k (min s.level m) ≡ true = grind (arith, nat_tests) in or_true_left (nat_le k (min s.level m)) (member k (given s m b)) r
        | false ↦ λ q.
            let r : nat_lt s.pair k ≡ false = grind (arith, nat_tests) in
            let i : member k s.arguments ≡ true = middle (nat_le k s.level) (member k s.arguments) (nat_lt s.pair k) q r c in
            or_true_right (nat_le k (min s.level m)) (member k (given s m b)) (member_append k (chosen (λ j. nat_le j m) s.arguments)
            (chosen (allows s) b) ∙ or_true_left (member k (chosen (λ j. nat_le j m) s.arguments)) (member k (chosen (allows s) b))
            (member_chosen (λ j. nat_le j m) k s.arguments i low))
      ] refl
] refl
  where
    left_of : (x y : Bool) → y ≡ false → (x || y) ≡ true → x ≡ true
    left_of true y e z = refl
    left_of false y e z = absurd (cc)

    middle : (x y z : Bool) → x ≡ false → z ≡ false → (x || y || z) ≡ true → y ≡ true
    middle true y z e f g = absurd (cc)
    middle false true z e f g = refl
    middle false false z e f g = absurd (cc)
among_given s m b h (logic x l) c a = absurd c
among_given s m b h (constant k ts) c a = tt
among_given s m b h (integer z) c a = tt
among_given s m b h (text t) c a = tt
among_given s m b h (param k t) c a = tt

closed_among : (m : ℕ) (b : List ℕ) (a : Atom) → IsLevelAtom m a → Among m b a
closed_among m b (eigen k) p = let i : k ≤ m = p in let q : nat_le k m ≡ true = grind (arith, nat_tests) in or_true_left (nat_le k m) (member k b) q
closed_among m b (logic x l) p = p
closed_among m b (constant c ts) p = tt
closed_among m b (integer z) p = tt
closed_among m b (text s) p = tt
closed_among m b (param k t) p = tt

eigens_among : (m : ℕ) (b xs : List ℕ) → AllIn b xs → WithinAll (Among m b) (eigens xs)
eigens_among m b [] h = tt
eigens_among m b (x ∷ xs) h = (or_true_right (nat_le x m) (member x b) h.0, eigens_among m b xs h.1)

-- the variable in the place of a pattern
pub record Renews (d : Declared) (E : List Ty) (V : List Variable) (s : Side) (p : Pattern) : Type 0 where
  pub context : List Ty
  pub scope : List Ty
  pub type : Ty
  pub new : IsNew V context scope p.id p.level (min s.level p.level) p.arguments (given s p.level p.arguments) type
  pub closed : (κ : ℕ → Ty) (σ : ℕ → ℕ → Term) → IsTypedClosing d (variables_at κ V) σ → AreClosedIn (scope_at κ context) (given s p.level p.arguments)

pub renews : (d : Declared) (E : List Ty) (V : List Variable) (s : Side) (T : Ty) → IsTypedSide d E V s T → (p : Pattern) → IsPlaced d E V p → Renews d E V s p
renews d E V s T h p i =
    let F = E ++ i.locals in
    let r = pattern_parts d F V p.arguments (atom (logic p.id p.level)) i.type i.typed in
    let v = variable_of V p.id p.level (arrows (types_in F p.arguments) i.type) r.0 in
    let own : IsPrefix v.variable.scope F = prefix_on (i.scoped v.variable v.is) (prefix_more E i.locals) in
    let c = shorter F h.variable.scope v.variable.scope (prefix_on h.scope (prefix_more E i.locals)) own in
    let q : min (length h.variable.scope) (length v.variable.scope) ≡ min s.level p.level = (λ k. min (sym h.level k) (sym v.level k)) in
    let n : IsNew V F c.scope p.id p.level (min s.level p.level) p.arguments (given s p.level p.arguments) i.type = record {
      variable = v.variable;
      is = v.is;
      level = v.level;
      type = v.type;
      arguments = r.1;
      own = own;
      scope = c.prefix;
      inner = c.inner;
      length = c.length_is ∙ q;
      chosen = eigens_append F (chosen (λ k. nat_le k p.level) s.arguments) (chosen (allows s) p.arguments)
          (eigens_chosen F (λ k. nat_le k p.level) s.arguments (eigens_grow E F (prefix_more E i.locals) s.arguments h.arguments))
          (eigens_chosen F (allows s) p.arguments r.1);
      low = omega arith;
      reach = reach_given s p.level p.arguments;
    } in
    record {
      context = F;
      scope = c.scope;
      type = i.type;
      closed = λ κ σ g.
          let x = new_at κ V F c.scope p.id p.level (min s.level p.level) p.arguments (given s p.level p.arguments) i.type n in
          closed_append (scope_at κ F) (chosen (λ k. nat_le k p.level) s.arguments) (chosen (allows s) p.arguments)
          (closed_chosen (scope_at κ F) (λ k. nat_le k p.level) s.arguments (closed_grow (scope_at κ E) (scope_at κ F) (prefix_at κ E F (prefix_more E i.locals)) s.arguments (eigens_at κ E s.arguments h.arguments)
          (side_closed d (scope_at κ E) (variables_at κ V) s (instance κ T) (side_at κ d E V s T h) σ g)))
          (closed_chosen (scope_at κ F) (allows s) p.arguments (closed_arrows (scope_at κ F) p.arguments (instance κ i.type) (transport IsClosedType x.type (g p.id x.variable x.is).type_closed)).0);
      new = n;
    }

abbrev pub renewed_context : (d : Declared) (E : List Ty) (V : List Variable) (s : Side) (p : Pattern) → Renews d E V s p → List Variable
renewed_context d E V s p r = with_new V (new_variable r.context r.scope (given s p.level p.arguments) r.type)

pub renewal_typed : (d : Declared) (E : List Ty) (V : List Variable) (s : Side) (next : ℕ) (p : Pattern) → length V ≡ next → (r : Renews d E V s p) → IsTypedBinding d (renewed_context d E V s p r) (renewal s next p)
renewal_typed d E V s next p e r = transport (λ z. IsTypedBinding d (renewed_context d E V s p r) (renewal s z p)) e
    (new_binding d V r.context r.scope p.id p.level (min s.level p.level) p.arguments (given s p.level p.arguments) r.type r.new)

pub renewal_keeps : (Good : (ℕ → ℕ → Term) → Type 0) (s : Side) (next : ℕ) (p : Pattern) (σ : ℕ → ℕ → Term) → IsClosing σ →
    ((w : Term) → ReducesTo (apply (σ p.id p.level) (eigens p.arguments)) w → Within (Among (min s.level p.level) (given s p.level p.arguments)) 0 w → Good (extended σ next (min s.level p.level) (abstracted (given s p.level p.arguments) w))) →
    CleanPattern s next σ p → Keeps Good next (renewal s next p ∷ []) σ
renewal_keeps Good s next p σ c good h =
    let y = p.id in
    let m = p.level in
    let b = p.arguments in
    let l = min s.level m in
    let cs = given s m b in
    let low : l ≤ m = omega arith in
    let parts = within_apply (Seen next s.pair h.last) (eigens b) (atom (logic y m)) h.other.within in
    let fact : Converts (apply (σ y m) (eigens b)) h.clean.to = converts_on (converts_sym (converts_is (close_pattern σ (atom (logic y m)) b))) h.clean.converts in
    let meet = conversion_meets fact in
    let w = meet.0 in
    let own : Within (Among m b) 0 w = within_reduces (Among m b) 0 meet.1 (apply_within (Among m b) (eigens b) (σ y m) (within_more (IsLevelAtom m) (Among m b) 0 0 (closed_among m b) (omega arith) (σ y m) (c.closed y m)) (eigens_among m b b (all_in b))) in
    let clean : Within (Clean s) 0 w = within_reduces (Clean s) 0 meet.2 h.clean.within in
    let q : Within (Among l cs) 0 w = within_both (Clean s) (Among m b) (Among l cs) 0 (among_given s m b parts.0.1) w clean own in
    record {
      closing = extended σ next l (abstracted cs w);
      is_closing = extended_closing σ next l (abstracted cs w) c (abstracted_closed l cs w q);
      is_good = good w meet.1 q;
      gives = renewed_through σ next y m l b cs w c low h.other.distinct h.other.above (reach_given s m b) q (converts_reduces meet.1);
    }

-- the new variable has a value of its type, under types for type variables
pub renewal_good : (κ : ℕ → Ty) (d : Declared) (E : List Ty) (V : List Variable) (s : Side) (next : ℕ) (p : Pattern) → length V ≡ next → (r : Renews d E V s p) → (σ : ℕ → ℕ → Term) → IsTypedClosing d (variables_at κ V) σ → (w : Term) →
    ReducesTo (apply (σ p.id p.level) (eigens p.arguments)) w → Within (Among (min s.level p.level) (given s p.level p.arguments)) 0 w →
    IsTypedClosing d (variables_at κ (renewed_context d E V s p r)) (extended σ next (min s.level p.level) (abstracted (given s p.level p.arguments) w))
renewal_good κ d E V s next p e r σ g w a q =
    let l = min s.level p.level in
    let cs = given s p.level p.arguments in
    transport (λ W. IsTypedClosing d W (extended σ next l (abstracted cs w))) (sym (with_new_at κ V r.context r.scope cs r.type r.new.chosen))
    (transport (λ z. IsTypedClosing d (with_new (variables_at κ V) (new_variable (scope_at κ r.context) (scope_at κ r.scope) cs (instance κ r.type))) (extended σ z l (abstracted cs w))) (length_variables κ V ∙ e)
    (new_closing d (variables_at κ V) (scope_at κ r.context) (scope_at κ r.scope) p.id p.level l p.arguments cs (instance κ r.type)
    (new_at κ V r.context r.scope p.id p.level l p.arguments cs r.type r.new) σ w g (r.closed κ σ g) a q))

pub renewal_at : (κ : ℕ → Ty) (s : Side) (next : ℕ) (p : Pattern) → instance_binding κ (renewal s next p) ≡ renewal s next p
renewal_at κ s next p = renewed_instance κ next p.id p.level (min s.level p.level) p.arguments (given s p.level p.arguments)

pub renewal_scoped : (s : Side) (next : ℕ) (p : Pattern) → Within (IsPairAtom (suc next) (renewal s next p).level) 0 (renewal s next p).value
renewal_scoped s next p = renewed_scoped next p.id p.level (min s.level p.level) p.arguments (given s p.level p.arguments) (omega arith) (reach_given s p.level p.arguments)

-- the first pattern that does not fit
misfit_clean : (s : Side) (next : ℕ) (σ : ℕ → ℕ → Term) {ps : List Pattern} → EachClean s next σ ps → (p : Pattern) → first_misfit s ps ≡ Some p → CleanPattern s next σ p
misfit_clean s next σ clean_none p e = absurd (cc)
misfit_clean s next σ (clean_more {p = q} {ps = ps} h d) p e = elim (fits s q) as (λ b. (if b then first_misfit s ps else Some q) ≡ Some p → CleanPattern s next σ p) [
  | true ↦ λ i. misfit_clean s next σ d p i
  | false ↦ λ i. let r : q ≡ p = cc in transport (CleanPattern s next σ) r h
] e

no_misfit : (s : Side) (ps : List Pattern) → first_misfit s ps ≡ None → EachFits s ps
no_misfit s [] e = tt
no_misfit s (p ∷ ps) e = elim (fits s p) as (λ b. fits s p ≡ b → (if b then first_misfit s ps else Some p) ≡ None → EachFits s (p ∷ ps)) [
  | true ↦ λ i j. (i, no_misfit s ps j)
  | false ↦ λ i j. absurd (cc)
] refl e

pub pair_seen : (next n : ℕ) (a : Atom) → IsPairAtom next n a → Seen next n n a
pair_seen next n (eigen k) p = p
pair_seen next n (logic x l) p = p
pair_seen next n (constant c ts) p = tt
pair_seen next n (integer z) p = tt
pair_seen next n (text s) p = tt
pair_seen next n (param k t) p = tt

abbrev side_variable : Side → Term
side_variable s = atom (logic s.id s.level)

other_put : (s : Side) (b : Binding) → is_side s b.id b.level ≡ false → put b (side_variable s) ≡ side_variable s
other_put s b h = elim (nat_eq s.id b.id && nat_eq s.level b.level) as (λ z. (nat_eq s.id b.id && nat_eq s.level b.level) ≡ z → (if z then b.value else side_variable s) ≡ side_variable s) [
  | true ↦ λ e.
      let r = both (nat_eq s.id b.id) (nat_eq s.level b.level) e in
      let p = same_number s.id b.id r.0 in
      let q = same_number s.level b.level r.1 in
      let i : nat_eq b.id s.id ≡ true = grind (arith, nat_tests) in
      let j : nat_eq b.level s.level ≡ true = grind (arith, nat_tests) in
      let k : is_side s b.id b.level ≡ true = both_on (nat_eq b.id s.id) (nat_eq b.level s.level) i j in
      absurd (cc)
  | false ↦ λ e. refl
] refl

pub record PruneRight (d : Declared) (E : List Ty) (V : List Variable) (T : Ty) (s : Side) (next : ℕ) (t : Term) (r : Pruned) : Type 0 where
  pub grows : next ≤ r.next
  pub scoped : AreScoped r.next r.bindings
  pub term : put_all r.bindings t ≡ r.term
  pub side : put_all r.bindings (side_variable s) ≡ side_variable s
  pub within : Within (IsPairAtom r.next s.pair) 0 r.term
  pub patterns : List Pattern
  pub scans : Scans s r.next false s.pair r.term patterns
  pub fits : EachFits s patterns
  -- the variables that are there then, and their number
  pub after : List Variable
  pub more : IsMore V after
  pub count : length after ≡ r.next
  pub typed : AreTypedBindings d after r.bindings
  pub term_typed : IsTypedTerm d E after r.term T
  pub keeps : (κ : ℕ → Ty) (σ : ℕ → ℕ → Term) → IsClosing σ → IsTypedClosing d (variables_at κ V) σ → IsClean s (close σ (instance_term κ t)) → Keeps (IsTypedClosing d (variables_at κ after)) next (map (instance_binding κ) r.bindings) σ

-- no pattern is left to change
done_right : (d : Declared) (E : List Ty) (V : List Variable) (T : Ty) (s : Side) (next : ℕ) (t : Term) (ps : List Pattern) → length V ≡ next →
    IsTypedTerm d E V t T → Within (IsPairAtom next s.pair) 0 t → Scans s next false s.pair t ps → EachFits s ps → PruneRight d E V T s next t
    (record { bindings = []; next = next; term = t })
done_right d E V T s next t ps l ty w i f = record {
  grows = omega arith;
  scoped = tt;
  term = refl;
  side = refl;
  within = w;
  patterns = ps;
  scans = i;
  fits = f;
  after = V;
  more = more_none V;
  count = l;
  typed = tt;
  term_typed = ty;
  keeps = λ κ σ c g h. record { closing = σ; is_closing = c; is_good = g; gives = λ x l q. same (σ x l) };
}

step_right : (d : Declared) (E : List Ty) (V : List Variable) (T : Ty) (s : Side) (next : ℕ) (t : Term) (p : Pattern) (ps : List Pattern) (r : Pruned)
    → length V ≡ next → (x : Renews d E V s p) → Within (IsPairAtom next s.pair) 0 t → Scans s next false s.pair t ps → first_misfit s ps ≡ Some p →
    is_side s p.id p.level ≡ false →
    PruneRight d E (renewed_context d E V s p x) T s (suc next) (put (renewal s next p) t) r → PruneRight d E V T s next t (led_by (renewal s next p) r)
step_right d E V T s next t p ps r l x w i e o h =
    let b = renewal s next p in
    let z : suc next ≤ r.next = h.grows in
    record {
      grows = omega arith;
      scoped = (pair_next_term (suc next) r.next b.level h.grows b.value (renewal_scoped s next p), h.scoped);
      term = h.term;
      side = ap (put_all r.bindings) (other_put s b o) ∙ h.side;
      within = h.within;
      patterns = h.patterns;
      scans = h.scans;
      fits = h.fits;
      after = h.after;
      more = more_on (one_more V (new_variable x.context x.scope (given s p.level p.arguments) x.type)) h.more;
      count = h.count;
      typed = (binding_more d (renewed_context d E V s p x) h.after h.more b (renewal_typed d E V s next p l x), h.typed);
      term_typed = h.term_typed;
      keeps = λ κ σ c g k.
          let W = variables_at κ (renewed_context d E V s p x) in
          let first = renewal_keeps (IsTypedClosing d W) s next p σ c (renewal_good κ d E V s next p l x σ g) (misfit_clean s next σ (clean_patterns s next σ c (scans_instance κ s next i) (omega arith) (inr k)) p e) in
          let one : put b (instance_term κ t) ≡ instance_term κ (put b t) = ap (λ z. put z (instance_term κ t)) (sym (renewal_at κ s next p)) ∙ put_instance κ b t in
          let agrees = converts_on (gives_term σ first.closing (b ∷ []) next s.pair first.gives (instance_term κ t) (pair_term next s.pair κ t w)) (converts_is (ap (close first.closing) one)) in
          let rest = h.keeps κ first.closing first.is_closing first.is_good (clean_like (converts_sym agrees) k) in
          transport (λ z. Keeps (IsTypedClosing d (variables_at κ h.after)) next (z ∷ map (instance_binding κ) r.bindings) σ) (sym (renewal_at κ s next p)) (record {
            closing = rest.closing;
            is_closing = rest.is_closing;
            is_good = rest.is_good;
            gives = λ x l q. converts_on (first.gives x l q)
                (gives_term first.closing rest.closing (map (instance_binding κ) r.bindings) (suc next) l rest.gives (put b (atom (logic x l)))
                (put_within (suc next) l b (renewal_scoped s next p) (atom (logic x l)) (older x next q, (let z : l ≤ l = omega arith in z))));
          });
    }
  where
    older : (x n : ℕ) → x < n → x < suc n
    older x n h = omega arith

abbrev EachOther : Side → List Pattern → Type 0
EachOther s [] = Unit {0}
EachOther s (p ∷ ps) = (is_side s p.id p.level ≡ false) × EachOther s ps

other_append : (s : Side) (ps qs : List Pattern) → EachOther s ps → EachOther s qs → EachOther s (ps ++ qs)
other_append s [] qs h k = k
other_append s (p ∷ ps) qs h k = (h.0, other_append s ps qs h.1 k)

mutual
  others : (s : Side) (next : ℕ) {inside : Bool} {k : ℕ} {t : Term} {ps : List Pattern} → Scans s next inside k t ps → EachOther s ps
  others s next (scans_abs u w e d) = others s next d
  others s next (scans_rigid h ts w e r a d) = all_others s next d
  others s next (scans_pattern y m b e o f) = (o.other, tt)
  others s next (scans_flexible y m ts e w o f d) = all_others s next d

  all_others : (s : Side) (next : ℕ) {inside : Bool} {k : ℕ} {ts : List Term} {ps : List Pattern} → ScansAll s next inside k ts ps → EachOther s ps
  all_others s next scans_none = tt
  all_others s next (scans_more ps qs e d ds) = transport (EachOther s) (sym e) (other_append s ps qs (others s next d) (all_others s next ds))

misfit_other : (s : Side) (ps : List Pattern) → EachOther s ps → (p : Pattern) → first_misfit s ps ≡ Some p → is_side s p.id p.level ≡ false
misfit_other s [] h p e = absurd (cc)
misfit_other s (q ∷ ps) h p e = elim (fits s q) as (λ b. (if b then first_misfit s ps else Some q) ≡ Some p → is_side s p.id p.level ≡ false) [
  | true ↦ λ i. misfit_other s ps h.1 p i
  | false ↦ λ i. let r : q ≡ p = cc in transport (λ z. is_side s z.id z.level ≡ false) r h.0
] e

map_led : (b : Binding) (o : Option Pruned) (r : Pruned) → option_map (led_by b) o ≡ Some r → (q : Pruned) × (o ≡ Some q) × (led_by b q ≡ r)
map_led b None r e = absurd (cc)
map_led b (Some q) r e = let z : led_by b q ≡ r = cc in (q, refl, z)

misfit_placed : (d : Declared) (E : List Ty) (V : List Variable) (s : Side) (ps : List Pattern) → ArePlaced d E V ps → (p : Pattern) → first_misfit s ps ≡ Some p → IsPlaced d E V p
misfit_placed d E V s [] h p e = absurd (cc)
misfit_placed d E V s (q ∷ ps) h p e = elim (fits s q) as (λ b. (if b then first_misfit s ps else Some q) ≡ Some p → IsPlaced d E V p) [
  | true ↦ λ i. misfit_placed d E V s ps h.1 p i
  | false ↦ λ i. let r : q ≡ p = cc in transport (IsPlaced d E V) r h.0
] e

abbrev Prunes : Declared → List Ty → Ty → ℕ → Type 0
Prunes d E T n = (S : Ty) (V : List Variable) (s : Side) (next : ℕ) (t : Term) (r : Pruned) → length V ≡ next → IsTypedSide d E V s S → IsTypedTerm d E V t T → Within (IsPairAtom next s.pair) 0 t → prune n s next t ≡ Some r → PruneRight d E V T s next t r

after_scan : (d : Declared) (E : List Ty) (T : Ty) (n : ℕ) → Prunes d E T n → (S : Ty) (V : List Variable) (s : Side) (next : ℕ) (t : Term)
    (r : Pruned) → length V ≡ next → IsTypedSide d E V s S → IsTypedTerm d E V t T → Within (IsPairAtom next s.pair) 0 t → (ps : List Pattern) → Scans
    s next false s.pair t ps → (elim (first_misfit s ps) [
      | None ↦ Some (record { bindings = []; next = next; term = t })
      | Some p ↦ option_map (led_by (renewal s next p)) (prune n s (suc next) (put (renewal s next p) t))
    ]) ≡ Some r → PruneRight d E V T s next t r
after_scan d E T n ih S V s next t r l side ty w ps i e = elim (first_misfit s ps) as (λ o. first_misfit s ps ≡ o → (elim o [
  | None ↦ Some (record { bindings = []; next = next; term = t })
  | Some p ↦ option_map (led_by (renewal s next p)) (prune n s (suc next) (put (renewal s next p) t))
]) ≡ Some r → PruneRight d E V T s next t r) [
  | None ↦ λ p q. let z : record { bindings = []; next = next; term = t } ≡ r = cc in transport (PruneRight d E V T s next t) z (done_right d E V T s next t ps l ty w i (no_misfit s ps p))
  | Some p ↦ λ j q.
      let z = map_led (renewal s next p) (prune n s (suc next) (put (renewal s next p) t)) r q in
      let b = renewal s next p in
      let v = put_within (suc next) s.pair b (renewal_scoped s next p) t (pair_next_term next (suc next) s.pair (omega arith) t w) in
      let at : length (E ++ []) ≡ s.pair = ap length (sym (append_none E)) ∙ side.pair in
      let placed = scans_placed s next d E V i [] T at (transport (λ z. HasType (in_scope d z V) [] t T) (append_none E) ty.typed) (within_more (IsScopedAtom V E) (IsScopedVariable V E) 0 0 (scoped_variable V E) (omega arith) t ty.scoped) in
      let x = renews d E V s S side p (misfit_placed d E V s ps placed p j) in
      let m = one_more V (new_variable x.context x.scope (given s p.level p.arguments) x.type) in
      let W = renewed_context d E V s p x in
      let k : length W ≡ suc next = length_last V (new_variable x.context x.scope (given s p.level p.arguments) x.type) ∙ ap suc l in
      transport (PruneRight d E V T s next t) z.2 (step_right d E V T s next t p ps z.0 l x w i j (misfit_other s ps (others s next i) p j)
      (ih S W s (suc next) (put b t) z.0 k (side_more d E V W s S m side) (put_typed d E W b (renewal_typed d E V s next p l x) t T (term_more d E V W m t T ty)) v z.1))
] refl e

pub prune_right : (d : Declared) (E : List Ty) (T : Ty) (n : ℕ) → Prunes d E T n
prune_right d E T zero S V s next t r l side ty w e = absurd (cc)
prune_right d E T (suc n) S V s next t r l side ty w e = option_and_then_some _ (scan n s false s.pair t) r e λ z p q.
    elim z as (λ z. scan n s false s.pair t ≡ Some z → (elim z [
      | broken u ↦ None
      | whole u true ps ↦ None
      | whole u false ps ↦ elim (first_misfit s ps) [
        | None ↦ Some (record { bindings = []; next = next; term = t })
        | Some p ↦ option_map (led_by (renewal s next p)) (prune n s (suc next) (put (renewal s next p) t))
      ]
    ]) ≡ Some r → PruneRight d E V T s next t r) [
      | broken u ↦ λ i j. absurd (cc)
      | whole u true ps ↦ λ i j. absurd (cc)
      | whole u false ps ↦ λ i j. after_scan d E T n (prune_right d E T n) S V s next t r l side ty w ps
          (scan_tells n s next false s.pair t u ps (within_more (IsPairAtom next s.pair) (Seen next s.pair s.pair) 0 0 (pair_seen next s.pair) (omega arith) t w) i) j
    ] p q
