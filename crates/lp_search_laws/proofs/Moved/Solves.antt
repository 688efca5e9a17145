-- Unification goes through with other eigenconstants and other levels, where the pairs stand at levels from which what comes next stays what comes next.
use Rattle.std.proofs.Common.{◌≡◌, ℕ, zero, suc, ◌+◌, ◌≤◌, List, [], ◌∷◌, ◌++◌, map, length, ◌∙◌, refl, sym, ap, Bool, true, false, nat_eq, ◌||◌, Option, Some, None}
use Rattle.std.specs.Prelude.{◌&&◌, nat_lt, option_map, option_and_then}
use Rattle.std.proofs.lemmas.List.{map-append}
use Rattle.lp_lemmas.specs.Each.{EachOf}
use Rattle.lp_lemmas.proofs.Each.{each_append, each_map}
use Rattle.lp_calculus.specs.Term.{Term}
use Rattle.lp_calculus.specs.Fill.{Binding}
use Rattle.lp_model.specs.Same.{same_name}
use Rattle.lp_model.specs.Types.{TypeBinding, TypePair, TypeOutcome, none, solved, solve_types}
use Rattle.lp_model.specs.Look.{Look, an_abs, rigid, flexible, look, pattern_of}
use Rattle.lp_model.specs.Pair.{Pair, put_types_in, put_pair, type_pair}
use Rattle.lp_model.specs.Scan.{Side, Scanned, broken, whole, scan, prune, settle}
use Rattle.lp_model.specs.Rule.{Compared, type_pairs, compare_all, Verdict, fails, gives, binds, delays, Ruled, argument_pairs, with_types, has_head, by_pattern, pattern_side, by_rule_5, by_rule_4, dear, by_looks, rule}
use Rattle.lp_model.specs.Unify.{State, Turn, Goes, Fails, Solved, put_pairs, type_pairs_in, is_some_bound, judged, turn_on, turn, Unified, Fail, Solution, Spent, limited, unify, begun, go_on, solve}
use Rattle.lp_unify_laws.proofs.Instances.{map_map}
use Rattle.lp_search_laws.proofs.Moved.Terms.{Moving, moved_binding, put_moved}
use Rattle.lp_search_laws.proofs.Moved.Scans.{up_one}
use Rattle.lp_search_laws.proofs.Moved.Rules.{moved_pair, moved_verdict, moved_ruled, type_pair_moved, rule_moved, settled, scanned, by_head, both_patterns, at_names, at_variables}

-- pairs at a level or above
abbrev pub AreAbove : ℕ → List Pair → Type 0
AreAbove n ps = EachOf (λ p. n ≤ p.level) ps

abbrev IsFine : ℕ → Verdict → Type 0
IsFine n fails = Unit {0}
IsFine n (gives ts ps) = AreAbove n ps
IsFine n (binds bs next) = Unit {0}
IsFine n delays = Unit {0}

abbrev AllFine : ℕ → Option Ruled → Type 0
AllFine n None = Unit {0}
AllFine n (Some r) = IsFine n r.verdict

bind_fine : {A : Type 0} (n : ℕ) (g : A → Option Ruled) (o : Option A) → ((a : A) → AllFine n (g a)) → AllFine n (option_and_then g o)
bind_fine n g None h = tt
bind_fine n g (Some a) h = h a

map_fine : {A : Type 0} (n : ℕ) (g : A → Ruled) (o : Option A) → ((a : A) → IsFine n (g a).verdict) → AllFine n (option_map g o)
map_fine n g None h = tt
map_fine n g (Some a) h = h a

scanned_fine : (l n next : ℕ) (s : Side) (t : Term) (r : Scanned) → AllFine l (scanned n next s t r)
scanned_fine l n next s t (broken u) = tt
scanned_fine l n next s t (whole u true ps) = tt
scanned_fine l n next s t (whole u false ps) = bind_fine l (settled n s u) (prune n s next t) (λ q. map_fine l _ (settle n s.pair q.term) (λ a. tt))

head_fine : (l n next : ℕ) (s : Side) (t : Term) (b : Bool) → AllFine l (by_head n next s t b)
head_fine l n next s t true = tt
head_fine l n next s t false = bind_fine l (scanned n next s t) (scan n s false s.pair t) (scanned_fine l n next s t)

pattern_fine : (l n next : ℕ) (p : Pair) (v w : Look) (a b : Option Side) → AllFine l (by_pattern n next p v w a b)
pattern_fine l n next p v w (Some s) b = head_fine l n next s p.right (has_head s w)
pattern_fine l n next p v w None (Some s) = head_fine l n next s p.left (has_head s v)
pattern_fine l n next p v w None None = tt

rule_5_fine : (l n next : ℕ) (p : Pair) (v w : Look) → AllFine l (by_rule_5 n next p v w)
rule_5_fine l n next p v w = bind_fine l (λ a. option_and_then (λ b. by_pattern n next p v w a b) (pattern_side n p w)) (pattern_side n p v) (λ a. bind_fine l (λ b. by_pattern n next p v w a b) (pattern_side n p w) (pattern_fine l n next p v w a))

both_fine : (h n next : ℕ) (p : Pair) (x l : ℕ) (ts us : List Term) (a b : Option (List ℕ)) → AllFine h (both_patterns n next p x l ts us a b)
both_fine h n next p x l ts us None b = rule_5_fine h n next p (flexible x l ts) (flexible x l us)
both_fine h n next p x l ts us (Some a) None = rule_5_fine h n next p (flexible x l ts) (flexible x l us)
both_fine h n next p x l ts us (Some a) (Some b) = tt

rule_4_fine : (h n next : ℕ) (p : Pair) (x l : ℕ) (ts us : List Term) → AllFine h (by_rule_4 n next p x l ts us)
rule_4_fine h n next p x l ts us = bind_fine h (λ a. option_and_then (λ b. both_patterns n next p x l ts us a b) (pattern_of n l us)) (pattern_of n l ts) (λ a. bind_fine h (λ b. both_patterns n next p x l ts us a b) (pattern_of n l us) (both_fine h n next p x l ts us a))

arguments_above : (n l : ℕ) → n ≤ l → (ts us : List Term) → AreAbove n (argument_pairs l ts us)
arguments_above n l h [] us = tt
arguments_above n l h (t ∷ ts) [] = tt
arguments_above n l h (t ∷ ts) (u ∷ us) = (h, arguments_above n l h ts us)

with_types_fine : (n l : ℕ) → n ≤ l → (ts us : List Term) (o : TypeOutcome) → IsFine n (with_types l ts us o).verdict
with_types_fine n l h ts us (none u) = tt
with_types_fine n l h ts us (solved made u) = arguments_above n l h (map (put_types_in made) ts) (map (put_types_in made) us)

names_fine : (h n l : ℕ) → h ≤ l → (ts us : List Term) (ps : List TypePair) (b : Bool) → AllFine h (at_names n l ts us ps b)
names_fine h n l q ts us ps true = map_fine h (with_types l ts us) (solve_types n ps [] 0) (with_types_fine h l q ts us)
names_fine h n l q ts us ps false = tt

dear_fine : (l u : ℕ) (o : Option Ruled) → AllFine l o → AllFine l (option_map (dear u) o)
dear_fine l u None h = tt
dear_fine l u (Some r) h = h

compared_fine : (l : ℕ) (o : Option Ruled) (c : Compared) (b : Bool) → AllFine l o → AllFine l (elim b as (λ x. Option Ruled) [ true ↦ Some (record { verdict = gives [] []; units = c.units }) | false ↦ option_map (dear c.units) o ])
compared_fine l o c true h = tt
compared_fine l o c false h = dear_fine l c.units o h

variables_fine : (l : ℕ) (c : Option Compared) (o q : Option Ruled) (b : Bool) → AllFine l o → AllFine l q → AllFine l (at_variables c o q b)
variables_fine l None o q true h g = tt
variables_fine l (Some c) o q true h g = compared_fine l o c c.same h
variables_fine l c o q false h g = g

looks_fine : (l n next : ℕ) (p : Pair) → l ≤ p.level → (v w : Look) → AllFine l (by_looks n next p v w)
looks_fine l n next p h (an_abs b) w = (up_one l p.level h, tt)
looks_fine l n next p h (rigid g ts) (an_abs c) = (up_one l p.level h, tt)
looks_fine l n next p h (flexible x j ts) (an_abs c) = (up_one l p.level h, tt)
looks_fine l n next p h (rigid f ts) (rigid g us) = names_fine l n p.level h ts us (type_pairs f g) (same_name f g && nat_eq (length ts) (length us))
looks_fine l n next p h (rigid f ts) (flexible y j us) = rule_5_fine l n next p (rigid f ts) (flexible y j us)
looks_fine l n next p h (flexible x j ts) (rigid g us) = rule_5_fine l n next p (flexible x j ts) (rigid g us)
looks_fine l n next p h (flexible x j ts) (flexible y k us) =
    variables_fine l (compare_all n p.level ts us) (by_rule_4 n next p x j ts us) (by_rule_5 n next p (flexible x j ts) (flexible y k us)) (nat_eq x y && nat_eq j k && nat_eq (length ts) (length us)) (rule_4_fine l n next p x j ts us) (rule_5_fine l n next p (flexible x j ts) (flexible y k us))

rule_fine : (l n next : ℕ) (p : Pair) → l ≤ p.level → AllFine l (rule n next p)
rule_fine l n next p h = bind_fine l (λ v. option_and_then (λ w. by_looks n next p v w) (look n p.right)) (look n p.left) (λ v. bind_fine l (λ w. by_looks n next p v w) (look n p.right) (looks_fine l n next p h v))

-- lists of pairs
put_pair_moved : (m : Moving) (b : Binding) (p : Pair) → put_pair (moved_binding m b) (moved_pair m p) ≡ moved_pair m (put_pair b p)
put_pair_moved m b p = λ i. record { left = put_moved m b p.left i; right = put_moved m b p.right i; level = m.level p.level }

map_over : {A B C D : Type 0} (f : A → B) (g : B → D) (h : A → C) (k : C → D) → ((a : A) → g (f a) ≡ k (h a)) → (xs : List A) → map g (map f xs) ≡ map k (map h xs)
map_over f g h k e [] = refl
map_over f g h k e (x ∷ xs) = λ i. e x i ∷ map_over f g h k e xs i

pub put_pairs_moved : (m : Moving) (bs : List Binding) (ps : List Pair) → put_pairs (map (moved_binding m) bs) (map (moved_pair m) ps) ≡ map (moved_pair m) (put_pairs bs ps)
put_pairs_moved m [] ps = refl
put_pairs_moved m (b ∷ bs) ps = ap (put_pairs (map (moved_binding m) bs)) (map_over (moved_pair m) (put_pair (moved_binding m b)) (put_pair b) (moved_pair m) (put_pair_moved m b) ps) ∙ put_pairs_moved m bs (map (put_pair b) ps)

pub type_pairs_moved : (m : Moving) (bs : List TypeBinding) (ps : List Pair) → type_pairs_in bs (map (moved_pair m) ps) ≡ map (moved_pair m) (type_pairs_in bs ps)
type_pairs_moved m [] ps = refl
type_pairs_moved m (b ∷ bs) ps = ap (type_pairs_in bs) (map_over (moved_pair m) (type_pair b) (type_pair b) (moved_pair m) (type_pair_moved m b) ps) ∙ type_pairs_moved m bs (map (type_pair b) ps)

put_above : (n : ℕ) (bs : List Binding) (ps : List Pair) → AreAbove n ps → AreAbove n (put_pairs bs ps)
put_above n [] ps h = h
put_above n (b ∷ bs) ps h = put_above n bs (map (put_pair b) ps) (each_map (λ p. n ≤ p.level) (λ p. n ≤ p.level) (put_pair b) (λ p l. l) ps h)

typed_above : (n : ℕ) (bs : List TypeBinding) (ps : List Pair) → AreAbove n ps → AreAbove n (type_pairs_in bs ps)
typed_above n [] ps h = h
typed_above n (b ∷ bs) ps h = typed_above n bs (map (type_pair b) ps) (each_map (λ p. n ≤ p.level) (λ p. n ≤ p.level) (type_pair b) (λ p l. l) ps h)

-- turns
abbrev pub moved_state : Moving → State → State
moved_state m s = record { pairs = map (moved_pair m) s.pairs; delayed = map (moved_pair m) s.delayed; bindings = map (moved_binding m) s.bindings; types = s.types; changed = s.changed; next = s.next; units = s.units }

abbrev moved_turn : Moving → Turn → Turn
moved_turn m (Goes s) = Goes (moved_state m s)
moved_turn m (Fails u) = Fails u
moved_turn m (Solved s) = Solved (moved_state m s)

abbrev pub moved_unified : Moving → Unified → Unified
moved_unified m Fail = Fail
moved_unified m (Solution s) = Solution (moved_state m s)
moved_unified m Spent = Spent

pub record IsAbove (n : ℕ) (s : State) : Type 0 where
  pub pairs : AreAbove n s.pairs
  pub delayed : AreAbove n s.delayed

abbrev IsAboveTurn : ℕ → Turn → Type 0
IsAboveTurn n (Goes s) = IsAbove n s
IsAboveTurn n (Fails u) = Unit {0}
IsAboveTurn n (Solved s) = IsAbove n s

abbrev pub IsAboveUnified : ℕ → Unified → Type 0
IsAboveUnified n Fail = Unit {0}
IsAboveUnified n (Solution s) = IsAbove n s
IsAboveUnified n Spent = Unit {0}

judged_moved : (m : Moving) (s : State) (p : Pair) (rest : List Pair) (u : ℕ) (v : Verdict) → judged (moved_state m s) (moved_pair m p) (map (moved_pair m) rest) u (moved_verdict m v) ≡ moved_turn m (judged s p rest u v)
judged_moved m s p rest u fails = refl
judged_moved m s p rest u (gives ts ps) =
    λ i. Goes (record {
      pairs = (ap (λ z. map (moved_pair m) ps ++ z) (type_pairs_moved m ts rest) ∙ sym (map-append (moved_pair m) ps (type_pairs_in ts rest))) i;
      delayed = type_pairs_moved m ts s.delayed i;
      bindings = map (moved_binding m) s.bindings;
      types = s.types ++ ts;
      changed = s.changed || is_some_bound ts;
      next = s.next;
      units = u;
    })
judged_moved m s p rest u (binds bs next) =
    λ i. Goes (record {
      pairs = put_pairs_moved m bs rest i;
      delayed = put_pairs_moved m bs s.delayed i;
      bindings = sym (map-append (moved_binding m) s.bindings bs) i;
      types = s.types;
      changed = true;
      next = next;
      units = u;
    })
judged_moved m s p rest u delays = λ i. Goes (record {
  pairs = map (moved_pair m) rest;
  delayed = sym (map-append (moved_pair m) s.delayed (p ∷ [])) i;
  bindings = map (moved_binding m) s.bindings;
  types = s.types;
  changed = s.changed;
  next = s.next;
  units = u;
})

judged_above : (n : ℕ) (s : State) (p : Pair) (rest : List Pair) (u : ℕ) (v : Verdict) → n ≤ p.level → AreAbove n rest → AreAbove n s.delayed → IsFine n v → IsAboveTurn n (judged s p rest u v)
judged_above n s p rest u fails h a d f = tt
judged_above n s p rest u (gives ts ps) h a d f = record { pairs = each_append (λ q. n ≤ q.level) ps (type_pairs_in ts rest) f (typed_above n ts rest a); delayed = typed_above n ts s.delayed d }
judged_above n s p rest u (binds bs next) h a d f = record { pairs = put_above n bs rest a; delayed = put_above n bs s.delayed d }
judged_above n s p rest u delays h a d f = record { pairs = a; delayed = each_append (λ q. n ≤ q.level) s.delayed (p ∷ []) d (h, tt) }

abbrev at_end : State → Bool → Option Turn
at_end s b = elim b [
  | true ↦ Some (Goes (record s { pairs = s.delayed; delayed = []; changed = false }))
  | false ↦ Some (Solved s)
]

end_moved : (m : Moving) (s : State) (b : Bool) → at_end (moved_state m s) b ≡ option_map (moved_turn m) (at_end s b)
end_moved m s true = refl
end_moved m s false = refl

turn_on_moved : (m : Moving) (n : ℕ) (s : State) (ps : List Pair) → AreAbove m.from ps → turn_on n (moved_state m s) (map (moved_pair m) ps) ≡ option_map (moved_turn m) (turn_on n s ps)
turn_on_moved m n s [] h = end_moved m s s.changed
turn_on_moved m n s (p ∷ rest) h =
    map_map (moved_ruled m) (λ r. judged (moved_state m s) (moved_pair m p) (map (moved_pair m) rest) (suc s.units + r.units) r.verdict) (λ r. judged s p rest (suc s.units + r.units) r.verdict) (moved_turn m) (rule n s.next p) (rule n s.next (moved_pair m p)) (rule_moved m n s.next p h.0)
    (λ r. judged_moved m s p rest (suc s.units + r.units) r.verdict)

abbrev AllAbove : {A : Type 0} → (A → Type 0) → Option A → Type 0
AllAbove P None = Unit {0}
AllAbove P (Some a) = P a

turn_on_above : (l n : ℕ) (s : State) (ps : List Pair) → AreAbove l ps → IsAbove l s → AllAbove (IsAboveTurn l) (turn_on n s ps)
turn_on_above l n s [] h a = go s.changed
  where
    go : (b : Bool) → AllAbove (IsAboveTurn l) (at_end s b)
    go true = record { pairs = a.delayed; delayed = tt }
    go false = a
turn_on_above l n s (p ∷ rest) h a = go (rule n s.next p) (rule_fine l n s.next p h.0)
  where
    go : (o : Option Ruled) → AllFine l o → AllAbove (IsAboveTurn l) (option_map (λ r. judged s p rest (suc s.units + r.units) r.verdict) o)
    go None f = tt
    go (Some r) f = judged_above l s p rest (suc s.units + r.units) r.verdict h.0 h.1 a.delayed f

-- whole unifications
bind_above : {A B C D : Type 0} (P : A → Type 0) (f : A → B) (g : B → Option D) (h : A → Option C) (k : C → D) (o : Option A) (o' : Option B) → o' ≡ option_map f o → AllAbove P o → ((a : A) → P a → g (f a) ≡ option_map k (h a)) → option_and_then g o' ≡ option_map k (option_and_then h o)
bind_above P f g h k None o' e w q = ap (option_and_then g) e
bind_above P f g h k (Some a) o' e w q = ap (option_and_then g) e ∙ q a w

limited_moved : (m : Moving) (b : Bool) → (elim b as (λ x. Unified) [ true ↦ Spent | false ↦ Fail ]) ≡ moved_unified m (elim b as (λ x. Unified) [ true ↦ Spent | false ↦ Fail ])
limited_moved m true = refl
limited_moved m false = refl

abbrev behind_turn : (k n limit : ℕ) → Turn → Option Unified
behind_turn k n limit t = elim t [
  | Goes s ↦ elim (nat_lt limit s.units) [ true ↦ Some Spent | false ↦ unify k n limit s ]
  | Fails u ↦ Some (limited limit u Fail)
  | Solved s ↦ Some (Solution s)
]

abbrev unless_spent : Bool → Option Unified → Option Unified
unless_spent b o = elim b [ true ↦ Some Spent | false ↦ o ]

unless_moved : (m : Moving) (b : Bool) (o : Option Unified) → unless_spent b (option_map (moved_unified m) o) ≡ option_map (moved_unified m) (unless_spent b o)
unless_moved m true o = refl
unless_moved m false o = refl

unify_moved : (m : Moving) (k n limit : ℕ) (s : State) → IsAbove m.from s → unify k n limit (moved_state m s) ≡ option_map (moved_unified m) (unify k n limit s)
unify_moved m zero n limit s a = refl
unify_moved m (suc k) n limit s a =
    bind_above (IsAboveTurn m.from) (moved_turn m) (behind_turn k n limit) (behind_turn k n limit) (moved_unified m) (turn n s) (turn n (moved_state m s)) (turn_on_moved m n s s.pairs a.pairs) (turn_on_above m.from n s s.pairs a.pairs a)
    (go (λ s b. unify_moved m k n limit s b))
  where
    go : ((s : State) → IsAbove m.from s → unify k n limit (moved_state m s) ≡ option_map (moved_unified m) (unify k n limit s)) → (t : Turn) → IsAboveTurn m.from t → behind_turn k n limit (moved_turn m t) ≡ option_map (moved_unified m) (behind_turn k n limit t)
    go ih (Goes s) b = ap (unless_spent (nat_lt limit s.units)) (ih s b) ∙ unless_moved m (nat_lt limit s.units) (unify k n limit s)
    go ih (Fails u) b = ap (λ z. Some z) (limited_moved m (nat_lt limit u))
    go ih (Solved s) b = refl

unify_above : (l k n limit : ℕ) (s : State) → IsAbove l s → AllAbove (IsAboveUnified l) (unify k n limit s)
unify_above l zero n limit s a = tt
unify_above l (suc k) n limit s a = over (turn n s) (turn_on_above l n s s.pairs a.pairs a) (λ s b. unify_above l k n limit s b)
  where
    spent : (b : Bool) (o : Option Unified) → AllAbove (IsAboveUnified l) o → AllAbove (IsAboveUnified l) (unless_spent b o)
    spent true o h = tt
    spent false o h = h

    failed : (b : Bool) → IsAboveUnified l (elim b as (λ x. Unified) [ true ↦ Spent | false ↦ Fail ])
    failed true = tt
    failed false = tt

    over : (o : Option Turn) → AllAbove (IsAboveTurn l) o → ((s : State) → IsAbove l s → AllAbove (IsAboveUnified l) (unify k n limit s)) → AllAbove (IsAboveUnified l) (option_and_then (behind_turn k n limit) o)
    over None h ih = tt
    over (Some (Goes s)) h ih = spent (nat_lt limit s.units) (unify k n limit s) (ih s h)
    over (Some (Fails u)) h ih = failed (nat_lt limit u)
    over (Some (Solved s)) h ih = h

begun_above : (n : ℕ) (ps ds : List Pair) (next : ℕ) (ts : List TypeBinding) (u : ℕ) → AreAbove n ps → AreAbove n ds → IsAbove n (begun ps ds next (solved ts u))
begun_above n ps ds next ts u h g = record { pairs = typed_above n ts ps h; delayed = typed_above n ts ds g }

go_on_moved : (m : Moving) (n limit : ℕ) (ps ds : List Pair) (next : ℕ) → AreAbove m.from ps → AreAbove m.from ds → (o : TypeOutcome) → go_on n limit (map (moved_pair m) ps) (map (moved_pair m) ds) next o ≡ option_map (moved_unified m) (go_on n limit ps ds next o)
go_on_moved m n limit ps ds next h g (none u) = ap (λ z. Some z) (limited_moved m (nat_lt limit u))
go_on_moved m n limit ps ds next h g (solved ts u) =
    ap (unless_spent (nat_lt limit u)) ((λ i. unify n n limit (record {
      pairs = type_pairs_moved m ts ps i;
      delayed = type_pairs_moved m ts ds i;
      bindings = [];
      types = ts;
      changed = is_some_bound ts;
      next = next;
      units = u;
    })) ∙ unify_moved m n n limit (begun ps ds next (solved ts u))
    (begun_above m.from ps ds next ts u h g)) ∙
    unless_moved m (nat_lt limit u) (unify n n limit (begun ps ds next (solved ts u)))

over_types : (m : Moving) (n limit : ℕ) (ps ds : List Pair) (next : ℕ) → AreAbove m.from ps → AreAbove m.from ds → (o : Option TypeOutcome) →
    option_and_then (go_on n limit (map (moved_pair m) ps) (map (moved_pair m) ds) next) o ≡ option_map (moved_unified m)
    (option_and_then (go_on n limit ps ds next) o)
over_types m n limit ps ds next h g None = refl
over_types m n limit ps ds next h g (Some o) = go_on_moved m n limit ps ds next h g o

pub solve_moved : (m : Moving) (n limit : ℕ) (types : List TypePair) (ps ds : List Pair) (next : ℕ) → AreAbove m.from ps → AreAbove m.from ds → solve n limit types (map (moved_pair m) ps) (map (moved_pair m) ds) next ≡ option_map (moved_unified m) (solve n limit types ps ds next)
solve_moved m n limit types ps ds next h g = over_types m n limit ps ds next h g (solve_types n types [] 0)

abbrev pub IsAboveSolved : ℕ → Option Unified → Type 0
IsAboveSolved l None = Unit {0}
IsAboveSolved l (Some r) = IsAboveUnified l r

pub solve_above : (l n limit : ℕ) (types : List TypePair) (ps ds : List Pair) (next : ℕ) → AreAbove l ps → AreAbove l ds → IsAboveSolved l (solve n limit types ps ds next)
solve_above l n limit types ps ds next h g = over (solve_types n types [] 0)
  where
    failed : (b : Bool) → IsAboveUnified l (elim b as (λ x. Unified) [ true ↦ Spent | false ↦ Fail ])
    failed true = tt
    failed false = tt

    spent : (b : Bool) (o : Option Unified) → AllAbove (IsAboveUnified l) o → IsAboveSolved l (unless_spent b o)
    spent true o h = tt
    spent false None h = tt
    spent false (Some r) h = h

    over : (o : Option TypeOutcome) → IsAboveSolved l (option_and_then (go_on n limit ps ds next) o)
    over None = tt
    over (Some (none u)) = failed (nat_lt limit u)
    over (Some (solved ts u)) = spent (nat_lt limit u) (unify n n limit (begun ps ds next (solved ts u))) (unify_above l n n limit (begun ps ds next (solved ts u)) (begun_above l ps ds next ts u h g))
