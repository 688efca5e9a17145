-- The query's variables, their place, and the branch that a search begins with.
use Rattle.std.proofs.Common.{◌≡◌, ℕ, zero, suc, ◌+◌, ◌-◌, ◌<◌, List, [], ◌∷◌, ◌++◌, map, reverse, length, refl, sym, ap, ◌∙◌, subst, arith, append-nil, inl, inr, None, Some, nat_lt, Bool, false, if◌then◌else◌}
use Rattle.std.specs.Prelude.{◌⊎◌, All, slice_get, min, ◌^◌}
use Rattle.std.proofs.lemmas.Bool.Decides.{nat_tests}
use Rattle.std.proofs.lemmas.List.{map-append}
use Rattle.std.proofs.lemmas.List.Elements.{All-nil, All-cons, All-weaker, All-push}
use Rattle.lp_lemmas.proofs.Elements.{All_empty, All_pushed, All_reverse, All_unmap}
use Rattle.lp_lemmas.proofs.Lists.{get_map, map_agree_on, map_reverse, reverse_pushed}
use Rattle.lp_calculus.specs.Types.{var}
use Rattle.lp_calculus.specs.Term.{Term, atom, logic}
use Rattle.lp_term.specs.Nodes.{Nodes, Extends, tree}
use Rattle.lp_term.specs.Spine.{LooseBelow}
use Rattle.lp_term.specs.Within.{AreTermsOf, IsTermOf}
use Rattle.lp_term.specs.declared.node.TermId.{TermId}
use Rattle.lp_model.specs.Branch.{entries, nothing_written}
use Rattle.lp_model.specs.Flat.{Goals, goal_list, instantiate_goals}
use Rattle.lp_model.specs.Search.{vars_from}
use Rattle.lp_plain.specs.declared.frame.Frame.{Frame}
use Rattle.lp_plain.specs.declared.frame.Place.{Place}
use Rattle.lp_plain.specs.declared.types.Renewal.{Renewal}
use Rattle.lp_plain.specs.Assuming.{Lists, HasAssumed, IsNumberIn, IsPlaceAt, no_standing}
use Rattle.lp_plain.specs.Newest.{nothing}
use Rattle.lp_plain.specs.Entries.{Around, AreAt, in_scope, placed}
use Rattle.lp_plain.specs.Instances.{AreValues}
use Rattle.lp_plain.specs.Renewal.{renewing}
use Rattle.lp_plain.specs.Starts.{IsOutermost, IsOutside, query_values}
use Rattle.lp_plain.proofs.Mapped.{goals_typed}

-- the query's variables in order

vars_more : (k i : ℕ) → vars_from (suc k) i ≡ vars_from k i ++ atom (logic (i + k) 0) ∷ []
vars_more zero i = let e : i ≡ i + 0 = omega arith in ap (λ n. atom (logic n 0) ∷ []) e
vars_more (suc k) i =
    let e : suc i + k ≡ i + suc k = omega arith in
    ap (λ l. atom (logic i 0) ∷ l) (vars_more k (suc i) ∙ ap (λ n. vars_from k (suc i) ++ atom (logic n 0) ∷ []) e)

vars_next : (k : ℕ) → vars_from (suc k) 0 ≡ vars_from k 0 ++ atom (logic k 0) ∷ []
vars_next k = let e : 0 + k ≡ k = omega arith in vars_more k 0 ∙ ap (λ n. vars_from k 0 ++ atom (logic n 0) ∷ []) e

trees_kept : (b d : Nodes) (ts : List TermId) → Extends b d → AreTermsOf b ts → map (λ t. tree d t.0) ts ≡ map (λ t. tree b t.0) ts
trees_kept b d ts x a = map_agree_on (IsTermOf b) (λ (t : TermId). tree d t.0) (λ (t : TermId). tree b t.0) (λ t h. x.same_terms t.0 h) ts a

pub terms_kept : (b d : Nodes) (ts : List TermId) → Extends b d → AreTermsOf b ts → AreTermsOf d ts
terms_kept b d ts x a = All-weaker (IsTermOf b) (IsTermOf d) (λ t h. let m = x.more_terms in omega (arith, h, m)) ts a

pub variables_within : (b d : Nodes) (old new : List TermId) (t : TermId) → Extends b d → new ≡ old ++ t ∷ [] → AreTermsOf b old → t.0 < length d.terms → AreTermsOf d new
variables_within b d old new t x e a l = subst (AreTermsOf d) (sym e) (All-push (IsTermOf d) old t (terms_kept b d old x a) l)

pub variables_more : (b d : Nodes) (old new : List TermId) (t : TermId) (k k' : ℕ) → Extends b d → new ≡ old ++ t ∷ [] → AreTermsOf b old → map
    (λ t. tree b t.0) old ≡ vars_from k 0 → tree d t.0 ≡ atom (logic k 0) → k' ≡ suc k →
    map (λ t. tree d t.0) new ≡ vars_from k' 0
variables_more b d old new t k k' x e a m h n =
    ap (map (λ (t : TermId). tree d t.0)) e ∙ map-append (λ (t : TermId). tree d t.0) old (t ∷ []) ∙ ap (λ l. l ++ tree d t.0 ∷ [])
    (trees_kept b d old x a ∙ m) ∙ ap (λ u. vars_from k 0 ++ u ∷ []) h ∙ sym (ap (λ j. vars_from j 0) n ∙ vars_next k)

-- the first variable is the outermost index

last_first : (k i : ℕ) (u : Term) → slice_get (reverse (vars_from k 0)) i ≡ Some u → u ≡ query_values k i
last_first zero i u e = absurd (cc)
last_first (suc k) i u e = go (last_first k) i (subst (λ l. slice_get l i ≡ Some u) (reverse_pushed (vars_from (suc k) 0) (vars_from k 0) (atom (logic k 0)) (vars_next k)) e)
  where
    go : ((j : ℕ) (v : Term) → slice_get (reverse (vars_from k 0)) j ≡ Some v → v ≡ query_values k j) → (i : ℕ) → slice_get
        (atom (logic k 0) ∷ reverse (vars_from k 0)) i ≡ Some u → u ≡ query_values (suc k) i
    go f zero h =
        let q : atom (logic k 0) ≡ u = cc in
        let n : k ≡ suc k - 1 = omega arith in
        sym q ∙ ap (λ n. atom (logic n 0)) n
    go f (suc j) h =
        let n : k - suc j ≡ suc k - suc (suc j) = omega arith in
        f j u h ∙ ap (λ n. atom (logic n 0)) n

pub query_values_are : (b : Nodes) (ts : List TermId) (k : ℕ) → map (λ t. tree b t.0) ts ≡ vars_from k 0 → AreAt b (reverse ts) (query_values k)
query_values_are b ts k e i v h =
    last_first k i (tree b v.0) (subst (λ l. slice_get l i ≡ Some (tree b v.0)) (map_reverse (λ (t : TermId). tree b t.0) ts ∙ ap reverse e) (get_map (λ (t : TermId). tree b t.0) (reverse ts) i v h))

-- they are values

vars_closed : (k i : ℕ) → All (LooseBelow 0 0) (vars_from k i)
vars_closed zero i = All-nil (LooseBelow 0 0)
vars_closed (suc k) i = All-cons (LooseBelow 0 0) (atom (logic i 0)) (vars_from k (suc i)) tt (vars_closed k (suc i))

variables_closed : (b : Nodes) (ts : List TermId) (k : ℕ) → map (λ t. tree b t.0) ts ≡ vars_from k 0 → All (λ t. LooseBelow 0 0 (tree b t.0)) ts
variables_closed b ts k e = All_unmap (LooseBelow 0 0) (λ (t : TermId). tree b t.0) ts (subst (All (LooseBelow 0 0)) (sym e) (vars_closed k 0))

pub variables_are_values : (b : Nodes) (ts vs : List TermId) (k : ℕ) → AreTermsOf b ts → map (λ t. tree b t.0) ts ≡ vars_from k 0 → vs ≡ reverse ts → AreValues b vs
variables_are_values b ts vs k a e h =
    let z = variables_closed b ts k e in
    subst (AreValues b) (sym h) (All_reverse (λ (t : TermId). (t.0 < length b.terms) × LooseBelow 0 0 (tree b t.0)) ts (λ j d l. (a j d l, z j d l)))

-- the query keeps its type variables

stays_var : (r : Renewal) → r.count ≡ 0 → (i : ℕ) → renewing r i ≡ var i
stays_var r e i =
    let q : nat_lt i r.count ≡ false = subst (λ n. nat_lt i n ≡ false) (sym e) (grind (arith, nat_tests)) in
    ap var (ap (λ (b : Bool). if b then min (r.first + i) (2 ^ 64 - 1) else i) q)

outside_goals : (r : Renewal) (σ : ℕ → Term) (gs : Goals) → r.count ≡ 0 → in_scope σ r gs ≡ instantiate_goals σ gs
outside_goals r σ gs e = ap (instantiate_goals σ) (goals_typed (renewing r) (stays_var r e) gs)

pub outside_entries : (a : Around) (p : Place) (σ : ℕ → Term) (gs : Goals) → IsOutermost a → IsOutside p → placed a p
    (goal_list (in_scope σ p.values.types gs)) ++ [] ≡ entries (goal_list (instantiate_goals σ gs)) [] nothing_written 0 0
outside_entries a p σ gs h o =
    append-nil (placed a p (goal_list (in_scope σ p.values.types gs))) ∙ ap (λ hs. entries (goal_list hs) (a.assumed p.assumed) (a.written p.standing)
    p.level (a.mark p.mark)) (outside_goals p.values.types σ gs o.types) ∙
    ap (λ A. entries (goal_list (instantiate_goals σ gs)) A (a.written p.standing) p.level (a.mark p.mark)) (ap a.assumed o.assumed ∙ h.assumed) ∙
    ap (λ w. entries (goal_list (instantiate_goals σ gs)) [] w p.level (a.mark p.mark)) (ap a.written o.standing ∙ h.written) ∙
    ap (λ l. entries (goal_list (instantiate_goals σ gs)) [] nothing_written l (a.mark p.mark)) o.level ∙ ap
    (entries (goal_list (instantiate_goals σ gs)) [] nothing_written 0) (ap a.mark o.mark ∙ h.mark)

-- nothing is assumed outside of all goals
no_clauses_found : (l : Lists) → HasAssumed l None []
no_clauses_found l = (tt, λ h. record { newest = None; numbers = []; found = nothing refl refl; chain = refl; clauses = tt })

outside_place : (l : Lists) (a : Around) (p : Place) → IsOutermost a → IsOutside p → IsPlaceAt l a p
outside_place l a p i o = record {
  tree = subst (IsNumberIn (length l.newest)) (sym o.assumed) tt;
  standing = subst (IsNumberIn (length l.standings)) (sym o.standing) tt;
  assumed = subst (λ x. HasAssumed l x (a.assumed x)) (sym o.assumed) (subst (HasAssumed l None) (sym i.assumed) (no_clauses_found l));
  written = no_standing o.standing (ap a.written o.standing ∙ i.written);
}

pub outermost_placed : (l : Lists) (a : Around) (p : Place) (old new : List Frame) → old ≡ [] → (new ≡ old) ⊎
    ((f : Frame) × (f.place ≡ p) × (new ≡ old ++ f ∷ [])) → IsOutermost a → IsOutside p → All (λ (f : Frame). IsPlaceAt l a f.place) new
outermost_placed l a p old new e h i o =
    let none = All_empty (λ (f : Frame). IsPlaceAt l a f.place) old e in
    elim h [
      | inl q ↦ subst (All (λ (f : Frame). IsPlaceAt l a f.place)) (sym q) none
      | inr x ↦ All_pushed (λ (f : Frame). IsPlaceAt l a f.place) new old x.0 x.2 none (subst (IsPlaceAt l a) (sym x.1) (outside_place l a p i o))
    ]
